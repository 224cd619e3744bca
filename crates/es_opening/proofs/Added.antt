-- What is gathered is what the codes that assign or define add.
use Rattle.std.proofs.Common.{◌≡◌, refl, sym, ap, ap₂, ◌∙◌, List, [], ◌∷◌, ◌++◌, append_assoc, append-nil}
use Rattle.es_steps.specs.Code.{Code, Codes, Target, Callee, rest, sequence, member, private_member, super_member, private_in, assign, compound, logical, logical_assign, update, call, tag, construct, super_call, template, operation, piece, chain, short, tested, pattern, takes, steps, gives_to, export_default, function, new_function, class_code, field, private_field, method, private_method, constructor, static_block, generated_element, from_call, from_member, key_of, define, private_initialize, bound, setter, call_arrow, call_closure, give_function, give_class, new_return, to_member, to_private, to_super, to_setter, to_pattern, to_default, plain, on_member, on_private, on_super, with_receiver, checked, on_chain, behind_test, done, and}
use Rattle.es_steps.specs.Opening.{gather, gather_target, gather_callee, gather_all}
use Rattle.es_opening.specs.Gathered.{single, gathered, target_gathered, callee_gathered, all_gathered, added_by}

module _ {A : Type 0} (own : Code → List A) where
  added-append : (cs ds : List Code) → added_by own (cs ++ ds) ≡ added_by own cs ++ added_by own ds
  added-append [] ds = refl
  added-append (c ∷ cs) ds = ap (λ (xs : List A). own c ++ xs) (added-append cs ds) ∙ sym (append_assoc (own c) (added_by own cs) (added_by own ds))

  joined : {xs ys : List A} (cs ds : List Code) → xs ≡ added_by own cs → ys ≡ added_by own ds → xs ++ ys ≡ added_by own (cs ++ ds)
  joined {xs} {ys} cs ds p q = ap₂ (λ (x y : List A). x ++ y) p q ∙ sym (added-append cs ds)

  alone : (c : Code) → own c ≡ added_by own (single c)
  alone c = sym (append-nil (own c))

  mutual
    pub gather_added : (c : Code) → gather own c ≡ added_by own (gathered c)
    gather_added (rest to) = gather_target_added to
    gather_added (member m o k) = joined (gathered o) (gathered k) (gather_added o) (gather_added k)
    gather_added (private_member m r o) = gather_added o
    gather_added (super_member m home k this) = gather_added k
    gather_added (private_in m test o) = gather_added o
    gather_added (assign to e) = joined (single (assign to e) ++ target_gathered to) (gathered e) (joined (single (assign to e)) (target_gathered to) (alone (assign to e)) (gather_target_added to)) (gather_added e)
    gather_added (compound m op to e) = joined (single (compound m op to e) ++ target_gathered to) (gathered e) (joined (single (compound m op to e)) (target_gathered to) (alone (compound m op to e)) (gather_target_added to)) (gather_added e)
    gather_added (logical m op l r) = joined (gathered l) (gathered r) (gather_added l) (gather_added r)
    gather_added (logical_assign m op to e) = joined (single (logical_assign m op to e) ++ target_gathered to) (gathered e) (joined (single (logical_assign m op to e)) (target_gathered to) (alone (logical_assign m op to e)) (gather_target_added to)) (gather_added e)
    gather_added (update m op prefix to) = joined (single (update m op prefix to)) (target_gathered to) (alone (update m op prefix to)) (gather_target_added to)
    gather_added (call m f es) = joined (callee_gathered f) (all_gathered es) (gather_callee_added f) (gather_all_added es)
    gather_added (tag m f ts es) = joined (callee_gathered f) (all_gathered es) (gather_callee_added f) (gather_all_added es)
    gather_added (construct m f es) = joined (gathered f) (all_gathered es) (gather_added f) (gather_all_added es)
    gather_added (super_call m n o es) = gather_all_added es
    gather_added (sequence es) = gather_all_added es
    gather_added (template m ts es) = gather_all_added es
    gather_added (operation m op es parts) = joined (all_gathered es) (all_gathered parts) (gather_all_added es) (gather_all_added parts)
    gather_added (piece ds es) = gather_all_added es
    gather_added (chain m e) = gather_added e
    gather_added (short e) = gather_added e
    gather_added (tested o again e) = joined (gathered o ++ all_gathered again) (gathered e) (joined (gathered o) (all_gathered again) (gather_added o) (gather_all_added again)) (gather_added e)
    gather_added (pattern m to) = gather_target_added to
    gather_added (takes m ds k to) = joined (all_gathered k) (target_gathered to) (gather_all_added k) (gather_target_added to)
    gather_added (steps es) = gather_all_added es
    gather_added (gives_to m to) = gather_target_added to
    gather_added (export_default e) = gather_added e
    gather_added (function f form own_name ps body) = joined (all_gathered ps) (gathered body) (gather_all_added ps) (gather_added body)
    gather_added (new_function f form ps body) = joined (all_gathered ps) (gathered body) (gather_all_added ps) (gather_added body)
    gather_added (new_return es) = gather_all_added es
    gather_added (class_code n declared h es) = joined (single (class_code n declared h es) ++ all_gathered h) (all_gathered es) (joined (single (class_code n declared h es)) (all_gathered h) (alone (class_code n declared h es)) (gather_all_added h)) (gather_all_added es)
    gather_added (field is_static form k e) = joined (gathered k) (gathered e) (gather_added k) (gather_added e)
    gather_added (private_field is_static d e) = gather_added e
    gather_added (method is_static kind k f) = joined (gathered k) (gathered f) (gather_added k) (gather_added f)
    gather_added (private_method is_static d f) = joined (single (private_method is_static d f)) (gathered f) (alone (private_method is_static d f)) (gather_added f)
    gather_added (constructor f) = gather_added f
    gather_added (static_block es) = gather_all_added es
    gather_added (generated_element s e) = joined (single (generated_element s e)) (gathered e) (alone (generated_element s e)) (gather_added e)
    gather_added (from_call e) = gather_added e
    gather_added (from_member e) = gather_added e
    gather_added (key_of e) = gather_added e
    gather_added (define m o k e) = joined (gathered k) (gathered e) (gather_added k) (gather_added e)
    gather_added (private_initialize m d o e) = gather_added e
    gather_added (bound f o) = joined (gathered f) (gathered o) (gather_added f) (gather_added o)
    gather_added (setter m d o) = gather_added o
    gather_added (call_arrow ss body es) = joined (single (call_arrow ss body es) ++ gathered body) (all_gathered es) (joined (single (call_arrow ss body es)) (gathered body) (alone (call_arrow ss body es)) (gather_added body)) (gather_all_added es)
    gather_added (call_closure s es) = gather_all_added es
    gather_added (give_function m s g f) = joined (single (give_function m s g f)) (gathered f) (alone (give_function m s g f)) (gather_added f)
    gather_added (give_class n e) = gather_added e
    gather_added c = refl

    pub gather_target_added : (c : Target) → gather_target own c ≡ added_by own (target_gathered c)
    gather_target_added (to_member m o k) = joined (gathered o) (gathered k) (gather_added o) (gather_added k)
    gather_target_added (to_private m r o) = gather_added o
    gather_target_added (to_super m home k this) = gather_added k
    gather_target_added (to_setter m d o) = gather_added o
    gather_target_added (to_pattern m kind cs) = gather_all_added cs
    gather_target_added (to_default m to e) = joined (target_gathered to) (gathered e) (gather_target_added to) (gather_added e)
    gather_target_added to = refl

    pub gather_callee_added : (c : Callee) → gather_callee own c ≡ added_by own (callee_gathered c)
    gather_callee_added (plain e) = gather_added e
    gather_callee_added (on_member m o k) = joined (gathered o) (gathered k) (gather_added o) (gather_added k)
    gather_callee_added (on_private m r o) = gather_added o
    gather_callee_added (on_super m home k this) = gather_added k
    gather_callee_added (with_receiver f o) = joined (gathered f) (gathered o) (gather_added f) (gather_added o)
    gather_callee_added (checked f) = gather_callee_added f
    gather_callee_added (on_chain m f) = gather_callee_added f
    gather_callee_added (behind_test o again f) = joined (gathered o ++ all_gathered again) (callee_gathered f) (joined (gathered o) (all_gathered again) (gather_added o) (gather_all_added again)) (gather_callee_added f)

    pub gather_all_added : (c : Codes) → gather_all own c ≡ added_by own (all_gathered c)
    gather_all_added done = refl
    gather_all_added (and c cs) = joined (gathered c) (all_gathered cs) (gather_added c) (gather_all_added cs)
