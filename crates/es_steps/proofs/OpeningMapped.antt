-- What is evaluated elsewhere than where it stands follows a change of numbers.
use Rattle.std.specs.Prelude.{◌≡◌, ℕ, zero, suc, List, [], ◌∷◌, map, Bool, true, false, nat_eq, length, Option, Some, None, cond}
use Rattle.std.proofs.Common.{refl, ap, ◌∙◌}
use Rattle.std.proofs.lemmas.List.{length-map}
use Rattle.es_base.specs.declared.ledger.GeneratedKind.{GeneratedKind}
use Rattle.es_steps.specs.Code.{Code, Codes, Target, Callee, Opened, InitializersOf, BodyOf, CalledBodyOf, FunctionForm, nothing, no_rule, rest, member, private_member, super_member, private_in, assign, compound, logical, logical_assign, update, call, tag, construct, super_call, super_call_with_all, sequence, template, operation, piece, chain, short, tested, pattern, takes, steps, gives_to, export_default, function, new_function, new_return, class_code, field, private_field, method, private_method, constructor, static_block, generated_element, from_call, from_member, key_of, define, private_initialize, bound, setter, call_arrow, call_closure, initializers, give_function, give_class, to_name, to_member, to_private, to_super, to_setter, to_pattern, to_default, no_target, plain, on_member, on_private, on_super, with_receiver, checked, on_chain, behind_test, done, and}
use Rattle.es_steps.specs.Context.{Generated}
use Rattle.es_steps.specs.Evaluation.{Evaluation}
use Rattle.es_steps.specs.GeneratedForms.{opened_body, is_plain, is_plain_arrow}
use Rattle.es_steps.specs.Opening.{gather, gather_target, gather_callee, gather_all, target_name, assigned_by, assigned_in, assigned_in_all, Definition, of_class, of_name, of_called, behind_super, all_arguments, super_definition, closure_body, function_definition, defined_by, definitions, defines, definition_of, without_definition, ev_definition, opening_in, opening}
use Rattle.es_steps.specs.Values.{String}
use Rattle.es_steps.proofs.EvaluationMapped.{Follows, no_meaning-follows, ev-follows, ev_initializers-follows}
use Rattle.es_steps.proofs.FormsMapped.{cond-code, opened_body-mapped}
use Rattle.es_steps.proofs.Mapped.{Renames, mapped_option, mapped_generated, mapped_opened, mapped_code, mapped_codes, mapped_target, mapped_callee, mapped_definition}
use Rattle.es_steps.proofs.PartsMapped.{cond-mapped, append-mapped}

-- what is gathered: where each code adds what it added, mapped
module _ (f : ℕ → ℕ) {A B : Type 0} (g : A → B) (own : Code → List A) (there : Code → List B) (same : (c : Code) → there (mapped_code f c) ≡ map g (own c)) where
  mutual
    pub gather-mapped : (c : Code) → gather there (mapped_code f c) ≡ map g (gather own c)
    gather-mapped (rest to) = gather_target-mapped to
    gather-mapped (member m o k) = append-mapped g _ _ (gather-mapped o) (gather-mapped k)
    gather-mapped (private_member m x o) = gather-mapped o
    gather-mapped (super_member m home k this) = gather-mapped k
    gather-mapped (private_in m test o) = gather-mapped o
    gather-mapped (assign to e) = append-mapped g _ _ (append-mapped g _ _ (same (assign to e)) (gather_target-mapped to)) (gather-mapped e)
    gather-mapped (compound m op to e) = append-mapped g _ _ (append-mapped g _ _ (same (compound m op to e)) (gather_target-mapped to)) (gather-mapped e)
    gather-mapped (logical m op l q) = append-mapped g _ _ (gather-mapped l) (gather-mapped q)
    gather-mapped (logical_assign m op to e) = append-mapped g _ _ (append-mapped g _ _ (same (logical_assign m op to e)) (gather_target-mapped to)) (gather-mapped e)
    gather-mapped (update m op prefix to) = append-mapped g _ _ (same (update m op prefix to)) (gather_target-mapped to)
    gather-mapped (call m q es) = append-mapped g _ _ (gather_callee-mapped q) (gather_all-mapped es)
    gather-mapped (tag m q ts es) = append-mapped g _ _ (gather_callee-mapped q) (gather_all-mapped es)
    gather-mapped (construct m q es) = append-mapped g _ _ (gather-mapped q) (gather_all-mapped es)
    gather-mapped (super_call m n o es) = gather_all-mapped es
    gather-mapped (sequence es) = gather_all-mapped es
    gather-mapped (template m ts es) = gather_all-mapped es
    gather-mapped (operation m op es parts) = append-mapped g _ _ (gather_all-mapped es) (gather_all-mapped parts)
    gather-mapped (piece ds es) = gather_all-mapped es
    gather-mapped (chain m e) = gather-mapped e
    gather-mapped (short e) = gather-mapped e
    gather-mapped (tested o again e) = append-mapped g _ _ (append-mapped g _ _ (gather-mapped o) (gather_all-mapped again)) (gather-mapped e)
    gather-mapped (pattern m to) = gather_target-mapped to
    gather-mapped (takes m ds k to) = append-mapped g _ _ (gather_all-mapped k) (gather_target-mapped to)
    gather-mapped (steps es) = gather_all-mapped es
    gather-mapped (gives_to m to) = gather_target-mapped to
    gather-mapped (export_default e) = gather-mapped e
    gather-mapped (function q form own_name ps body) = append-mapped g _ _ (gather_all-mapped ps) (gather-mapped body)
    gather-mapped (new_function q form ps body) = append-mapped g _ _ (gather_all-mapped ps) (gather-mapped body)
    gather-mapped (new_return es) = gather_all-mapped es
    gather-mapped (class_code n declared h es) = append-mapped g _ _ (append-mapped g _ _ (same (class_code n declared h es)) (gather_all-mapped h)) (gather_all-mapped es)
    gather-mapped (field is_static form k e) = append-mapped g _ _ (gather-mapped k) (gather-mapped e)
    gather-mapped (private_field is_static d e) = gather-mapped e
    gather-mapped (method is_static kind k q) = append-mapped g _ _ (gather-mapped k) (gather-mapped q)
    gather-mapped (private_method is_static d q) = append-mapped g _ _ (same (private_method is_static d q)) (gather-mapped q)
    gather-mapped (constructor q) = gather-mapped q
    gather-mapped (static_block es) = gather_all-mapped es
    gather-mapped (generated_element s e) = append-mapped g _ _ (same (generated_element s e)) (gather-mapped e)
    gather-mapped (from_call e) = gather-mapped e
    gather-mapped (from_member e) = gather-mapped e
    gather-mapped (key_of e) = gather-mapped e
    gather-mapped (define m o k e) = append-mapped g _ _ (gather-mapped k) (gather-mapped e)
    gather-mapped (private_initialize m d o e) = gather-mapped e
    gather-mapped (bound q o) = append-mapped g _ _ (gather-mapped q) (gather-mapped o)
    gather-mapped (setter m d o) = gather-mapped o
    gather-mapped (call_arrow ss body es) = append-mapped g _ _ (append-mapped g _ _ (same (call_arrow ss body es)) (gather-mapped body)) (gather_all-mapped es)
    gather-mapped (call_closure s es) = gather_all-mapped es
    gather-mapped (give_function m s q e) = append-mapped g _ _ (same (give_function m s q e)) (gather-mapped e)
    gather-mapped (give_class n e) = gather-mapped e
    gather-mapped nothing = refl
    gather-mapped c = refl

    pub gather_target-mapped : (to : Target) → gather_target there (mapped_target f to) ≡ map g (gather_target own to)
    gather_target-mapped (to_member m o k) = append-mapped g _ _ (gather-mapped o) (gather-mapped k)
    gather_target-mapped (to_private m x o) = gather-mapped o
    gather_target-mapped (to_super m home k this) = gather-mapped k
    gather_target-mapped (to_setter m d o) = gather-mapped o
    gather_target-mapped (to_pattern m kind cs) = gather_all-mapped cs
    gather_target-mapped (to_default m to e) = append-mapped g _ _ (gather_target-mapped to) (gather-mapped e)
    gather_target-mapped no_target = refl
    gather_target-mapped to = refl

    pub gather_callee-mapped : (callee : Callee) → gather_callee there (mapped_callee f callee) ≡ map g (gather_callee own callee)
    gather_callee-mapped (plain e) = gather-mapped e
    gather_callee-mapped (on_member m o k) = append-mapped g _ _ (gather-mapped o) (gather-mapped k)
    gather_callee-mapped (on_private m x o) = gather-mapped o
    gather_callee-mapped (on_super m home k this) = gather-mapped k
    gather_callee-mapped (with_receiver q o) = append-mapped g _ _ (gather-mapped q) (gather-mapped o)
    gather_callee-mapped (checked q) = gather_callee-mapped q
    gather_callee-mapped (on_chain m q) = gather_callee-mapped q
    gather_callee-mapped (behind_test o again q) = append-mapped g _ _ (append-mapped g _ _ (gather-mapped o) (gather_all-mapped again)) (gather_callee-mapped q)

    pub gather_all-mapped : (cs : Codes) → gather_all there (mapped_codes f cs) ≡ map g (gather_all own cs)
    gather_all-mapped done = refl
    gather_all-mapped (and c cs) = append-mapped g _ _ (gather-mapped c) (gather_all-mapped cs)

module _ (f : ℕ → ℕ) where
  -- ---- generated names that are assigned

  abbrev itself : String → String
  itself s = s

  map-itself : (ss : List String) → map itself ss ≡ ss
  map-itself [] = refl
  map-itself (s ∷ ss) = ap (λ rest. s ∷ rest) (map-itself ss)

  target_name-mapped : (to : Target) → target_name (mapped_target f to) ≡ map itself (target_name to)
  target_name-mapped (to_name m s (Generated g)) = refl
  target_name-mapped to = refl

  assigned_by-mapped : (c : Code) → assigned_by (mapped_code f c) ≡ map itself (assigned_by c)
  assigned_by-mapped (assign to e) = target_name-mapped to
  assigned_by-mapped (compound m op to e) = target_name-mapped to
  assigned_by-mapped (logical_assign m op to e) = target_name-mapped to
  assigned_by-mapped (update m op prefix to) = target_name-mapped to
  assigned_by-mapped (call_arrow ss body es) = names ss
    where
      names : (ss : List String) → ss ≡ map itself ss
      names [] = refl
      names (s ∷ ss) = ap (λ rest. s ∷ rest) (names ss)
  assigned_by-mapped (generated_element s e) = refl
  assigned_by-mapped c = refl

  pub assigned_in-mapped : (c : Code) → assigned_in (mapped_code f c) ≡ assigned_in c
  assigned_in-mapped c = gather-mapped f itself assigned_by assigned_by assigned_by-mapped c ∙ map-itself (assigned_in c)

  pub assigned_in_all-mapped : (cs : Codes) → assigned_in_all (mapped_codes f cs) ≡ assigned_in_all cs
  assigned_in_all-mapped cs = gather_all-mapped f itself assigned_by assigned_by assigned_by-mapped cs ∙ map-itself (assigned_in_all cs)

-- ---- definitions

module _ {first : ℕ} {f : ℕ → ℕ} (r : Renames first f) where
  behind_super-mapped : (n : ℕ) (c : Code) → behind_super (f n) (mapped_code f c) ≡ mapped_code f (behind_super n c)
  behind_super-mapped n (sequence (and (super_call_with_all k) cs)) = rw (r.apart n k) (cond-code f (nat_eq n k) (sequence (and (initializers n) cs)) no_rule)
  behind_super-mapped n c = refl

  pub all_arguments-mapped : (ps : Codes) → all_arguments (mapped_codes f ps) ≡ all_arguments ps
  all_arguments-mapped (and (rest (to_name m s (Generated GeneratedKind.Args))) done) = refl
  all_arguments-mapped ps = refl

  definitions-cond : (b : Bool) (ds : List Definition) → cond b (map (mapped_definition f) ds) [] ≡ map (mapped_definition f) (cond b ds [])
  definitions-cond true ds = refl
  definitions-cond false ds = refl

  super_definition-mapped : (s : String) (n : ℕ) (is_arrow : Bool) (ps : Codes) (body : Code) → super_definition s (f n) is_arrow (mapped_codes f ps) (mapped_code f body) ≡ map (mapped_definition f) (super_definition s n is_arrow ps body)
  super_definition-mapped s n true ps body =
      rw (all_arguments-mapped ps, opened_body-mapped f body, behind_super-mapped n (opened_body body))
      (definitions-cond (all_arguments ps) (of_name s (behind_super n (opened_body body)) ∷ []))
  super_definition-mapped s n false done body = rw (opened_body-mapped f body) refl
  super_definition-mapped s n false (and c cs) body = refl

  closure_body-mapped : (form : FunctionForm) (ps : Codes) (body : Code) → closure_body form (mapped_codes f ps) (mapped_code f body) ≡ mapped_code f (closure_body form ps body)
  closure_body-mapped form done body = rw (opened_body-mapped f body) (cond-code f (is_plain_arrow form) (opened_body body) no_rule)
  closure_body-mapped form (and c cs) body = refl

  function_definition-mapped : (s : String) (g : GeneratedKind) (form : FunctionForm) (ps : Codes) (body : Code) → function_definition s (mapped_generated f g) form (mapped_codes f ps) (mapped_code f body) ≡ map (mapped_definition f) (function_definition s g form ps body)
  function_definition-mapped s (GeneratedKind.SuperFn n) form ps body = rw (super_definition-mapped s n.0 form.is_arrow ps body) (definitions-cond (is_plain form) (super_definition s n.0 form.is_arrow ps body))
  function_definition-mapped s GeneratedKind.Closure form ps body = ap (λ c. of_name s c ∷ []) (closure_body-mapped form ps body)
  function_definition-mapped s g form ps body = refl

  defined_by-mapped : (c : Code) → defined_by (mapped_code f c) ≡ map (mapped_definition f) (defined_by c)
  defined_by-mapped (class_code n declared h es) = refl
  defined_by-mapped (give_function m s g (new_function k form ps body)) = function_definition-mapped s g form ps body
  defined_by-mapped c = refl

  pub definitions-mapped : (c : Code) → definitions (mapped_code f c) ≡ map (mapped_definition f) (definitions c)
  definitions-mapped c = gather-mapped f (mapped_definition f) defined_by defined_by defined_by-mapped c

  -- ---- opening

  defines-mapped : (o : Opened) (d : Definition) → defines (mapped_opened f o) (mapped_definition f d) ≡ defines o d
  defines-mapped (InitializersOf n) (of_class k es) = r.apart n k
  defines-mapped (BodyOf s) (of_name t c) = refl
  defines-mapped (CalledBodyOf s) (of_called t c) = refl
  defines-mapped o d = refl

  definition_of-mapped : (o : Opened) (ds : List Definition) → definition_of (mapped_opened f o) (map (mapped_definition f) ds) ≡ mapped_option (mapped_definition f) (definition_of o ds)
  definition_of-mapped o [] = refl
  definition_of-mapped o (d ∷ ds) = rw (defines-mapped o d) (cond-mapped (mapped_option (mapped_definition f)) (defines o d) (Some d) _ refl (definition_of-mapped o ds))

  without_definition-mapped : (o : Opened) (ds : List Definition) → without_definition (mapped_opened f o) (map (mapped_definition f) ds) ≡ map (mapped_definition f) (without_definition o ds)
  without_definition-mapped o [] = refl
  without_definition-mapped o (d ∷ ds) = rw (defines-mapped o d) (cond-mapped (map (mapped_definition f)) (defines o d) (without_definition o ds) _ (without_definition-mapped o ds) (ap (λ rest. mapped_definition f d ∷ rest) (without_definition-mapped o ds)))

  ev_definition-follows : (opens there : Opened → Evaluation) → ((o : Opened) → Follows f (opens o) (there (mapped_opened f o))) → (d : Option Definition) → Follows f (ev_definition opens d) (ev_definition there (mapped_option (mapped_definition f) d))
  ev_definition-follows opens there follow None = no_meaning-follows f
  ev_definition-follows opens there follow (Some (of_class n es)) = ev_initializers-follows r opens there follow n es
  ev_definition-follows opens there follow (Some (of_name s c)) = ev-follows r opens there follow c
  ev_definition-follows opens there follow (Some (of_called s c)) = ev-follows r opens there follow c

  opening_in-follows : (k : ℕ) (ds : List Definition) (o : Opened) → Follows f (opening_in k ds o) (opening_in k (map (mapped_definition f) ds) (mapped_opened f o))
  opening_in-follows zero ds o = no_meaning-follows f
  opening_in-follows (suc k) ds o =
      rw (without_definition-mapped o ds, definition_of-mapped o ds)
      (ev_definition-follows (opening_in k (without_definition o ds)) (opening_in k (map (mapped_definition f) (without_definition o ds))) (opening_in-follows k (without_definition o ds)) (definition_of o ds))

  pub opening-follows : (ds : List Definition) (o : Opened) → Follows f (opening ds o) (opening (map (mapped_definition f) ds) (mapped_opened f o))
  opening-follows ds o = rw (length-map ds (mapped_definition f)) (opening_in-follows (length ds) ds o)
