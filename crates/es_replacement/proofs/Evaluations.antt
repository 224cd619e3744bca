-- The evaluation of a code with one expression in its holes, and of the same with another.
use Rattle.std.specs.Prelude.{◌≡◌, refl, ℕ, suc, List, [], ◌∷◌, Bool, true, false, not, Option, Some, None}
use Rattle.std.proofs.Common.{◌∙◌, ap, sym}
use Rattle.es_steps.specs.Code.{Code, Codes, Target, Callee, Opened, InitializersOf, BodyOf, CalledBodyOf, nothing, no_rule, value, spelled, private_name, binding, rest, name, super, member, private_member, super_member, private_in, assign, compound, logical, logical_assign, update, call, tag, construct, super_call, super_call_with_all, sequence, template_string, template, operation, piece, chain, short, tested, pattern, takes, steps, gives_to, export_default, function, new_function, new_return, class_code, field, private_field, method, private_method, constructor, static_block, generated_element, from_call, from_member, key_of, helper, helper_call, throw, define, private_initialize, add_brand, bound, setter, private_value, call_arrow, call_closure, initializers, give_function, give_class, to_name, to_member, to_private, to_super, to_setter, to_pattern, to_default, no_target, plain, on_member, on_private, on_super, with_receiver, checked, on_chain, behind_test, done, and}
use Rattle.es_steps.specs.Entries.{without}
use Rattle.es_steps.specs.Evaluation.{Environment, Run, Evaluation, gives, event, go_on, bind, held, new_or_former, nullable_gives, has_receiver, receiver_in, has_instance_methods, declared_first, default_key, private_key, Ready, ready_member, ready_private, ready_setter, ready_pattern, read_ready, write_ready, ev_behind, ev, ev_target, ev_taken, ev_take, ev_callee, ev_again, ev_all, ev_converted, ev_held, ev_keys, ev_key, ev_statics, ev_static, ev_fields, ev_field, ev_initializers}
use Rattle.es_steps.specs.Events.{OfKind, Take, Index, RightOf, Default, Part, Operate, Short, SuperCall, SuperCallWithAll, AddBrand}
use Rattle.es_steps.specs.Values.{String, Value, Undefined, ClassOf, ThisOf, ResultOf, KeyOf, as_key}
use Rattle.es_replacement.proofs.Environments.{left, right, untrue}
use Rattle.es_replacement.proofs.Steps.{no_meaning-replaced, gives-replaced, event-replaced, bind-replaced, settle-replaced, held-replaced, quiet-replaced, stays-replaced, gives_class-replaced, gives_this-replaced, outside-replaced, read_given-replaced, read_name-replaced, stands_for-replaced, element_holds-replaced, write_name-replaced, read_private-replaced, write_private-replaced, initialized-replaced, nullable_gives-replaced, template-replaced, bind_parameters-replaced, tested-replaced, brand_first-replaced, declared_first-replaced}
use Rattle.es_replacement.specs.Holes.{filled, filled_target, filled_callee, filled_all, is_hole, none_is_hole, admits, admits_target, admits_callee, admits_all}
use Rattle.es_replacement.specs.Replacing.{run_without, Replaces, AllReplaced}

-- ---- what is asked of a form

pub has_receiver-filled : (e : ℕ → Code) (f : Callee) → has_receiver (filled_callee e f) ≡ has_receiver f
has_receiver-filled e (checked f) = has_receiver-filled e f
has_receiver-filled e (on_chain m f) = has_receiver-filled e f
has_receiver-filled e (behind_test o again f) = has_receiver-filled e f
has_receiver-filled e (plain c) = refl
has_receiver-filled e f = refl

pub has_methods-filled : (e : ℕ → Code) (cs : Codes) → none_is_hole cs ≡ true → has_instance_methods (filled_all e cs) ≡ has_instance_methods cs
has_methods-filled e done h = refl
has_methods-filled e (and (private_method false d f) cs) h = refl
has_methods-filled e (and (initializers n) cs) h = absurd (cc)
has_methods-filled e (and c cs) h = has_methods-filled e cs (right (not (is_hole c)) (none_is_hole cs) h)

receiver-same : (names : List String) (b : Bool) (r : Option Run) → receiver_in b (run_without names r) ≡ receiver_in b r
receiver-same names true None = refl
receiver-same names true (Some r) = refl
receiver-same names false r = refl

-- a target is ready where another is: what is read and written replaces what was
pub record ReadyReplaced (names : List String) (t u : Ready) : Type 0 where
  pub reads : Replaces names (read_ready t) (read_ready u)
  pub writes : (v : Value) → Replaces names (write_ready t v) (write_ready u v)

module _ (names : List String) where
  new_or_former-replaced : (prefix : Bool) (m : ℕ) → Replaces names (gives (new_or_former prefix m)) (gives (new_or_former prefix m))
  new_or_former-replaced prefix m = gives-replaced names _

  write_and_give-replaced : (t u : Ready) → ReadyReplaced names t u → (v : Value) → Replaces names (bind (write_ready t v) (λ w. gives v)) (bind (write_ready u v) (λ w. gives v))
  write_and_give-replaced t u x v = bind-replaced names _ _ (x.writes v) (λ w. gives-replaced names v)

  module _ (opens there : Opened → Evaluation) (follow : AllReplaced names opens there) where
    ev_behind-replaced : (n : ℕ) (o : Option Opened) → Replaces names (ev_behind opens n o) (ev_behind there n o)
    ev_behind-replaced n None = gives-replaced names _
    ev_behind-replaced n (Some (InitializersOf k)) = bind-replaced names _ _ (follow (InitializersOf k)) (λ w. gives-replaced names (ThisOf n))
    ev_behind-replaced n (Some (BodyOf s)) = gives_this-replaced names n (follow (BodyOf s))
    ev_behind-replaced n (Some (CalledBodyOf s)) = gives_this-replaced names n (follow (CalledBodyOf s))

    module _ (plain_ones : Bool) (a b : ℕ → Code) (at_hole : (n : ℕ) → Replaces names (ev opens (a n)) (ev there (b n))) where
      -- a chain that is called: its list, and its receiver, which is read by itself
      chain-replaced : (m : ℕ) (f : Callee) (g h : Value → Option Value → Evaluation) → ((v : Value) (receiver : Option Value) → Replaces names (g v receiver) (h v receiver))
          → Replaces names (ev_callee opens (filled_callee a f) (λ v receiver. gives v)) (ev_callee there (filled_callee b f) (λ v receiver. gives v))
          → Replaces names (ev_callee opens (filled_callee a f) (λ v receiver. nullable_gives receiver)) (ev_callee there (filled_callee b f) (λ v receiver. nullable_gives receiver))
          → Replaces names (ev_callee opens (filled_callee a (on_chain m f)) g) (ev_callee there (filled_callee b (on_chain m f)) h)
      chain-replaced m f g h next list received = record {
        same = λ s.
            ap (λ x. go_on (held m (Part 0) None (ev_callee opens (filled_callee a f) (λ v receiver. gives v)) (without names s)) (λ v. g v x)) (receiver s)
            ∙ (behind (receiver_in (has_receiver (filled_callee b f)) (ev_callee there (filled_callee b f) (λ v receiver. nullable_gives receiver) s))).same s;
        adds = λ s. (behind (receiver_in (has_receiver (filled_callee b f)) (ev_callee there (filled_callee b f) (λ v receiver. nullable_gives receiver) s))).adds s;
      }
        where
          receiver : (s : Environment) → receiver_in (has_receiver (filled_callee a f)) (ev_callee opens (filled_callee a f) (λ v receiver. nullable_gives receiver) (without names s)) ≡ receiver_in (has_receiver (filled_callee b f)) (ev_callee there (filled_callee b f) (λ v receiver. nullable_gives receiver) s)
          receiver s =
              ap (λ x. receiver_in x (ev_callee opens (filled_callee a f) (λ v receiver. nullable_gives receiver) (without names s))) (has_receiver-filled a f ∙ sym (has_receiver-filled b f))
              ∙ ap (receiver_in (has_receiver (filled_callee b f))) (received.same s)
              ∙ receiver-same names (has_receiver (filled_callee b f)) (ev_callee there (filled_callee b f) (λ v receiver. nullable_gives receiver) s)

          behind : (x : Option Value) → Replaces names (bind (held m (Part 0) None (ev_callee opens (filled_callee a f) (λ v receiver. gives v))) (λ v. g v x)) (bind (held m (Part 0) None (ev_callee there (filled_callee b f) (λ v receiver. gives v))) (λ v. h v x))
          behind x = bind-replaced names (λ v. g v x) (λ v. h v x) (held-replaced names m (Part 0) None list) (λ v. next v x)

      mutual
        pub ev-replaced : (c : Code) → admits names plain_ones c ≡ true → Replaces names (ev opens (filled a c)) (ev there (filled b c))
        ev-replaced nothing p = gives-replaced names _
        ev-replaced no_rule p = no_meaning-replaced names
        ev-replaced (value v) p = gives-replaced names v
        ev-replaced (spelled s) p = no_meaning-replaced names
        ev-replaced (private_name d s x) p = no_meaning-replaced names
        ev-replaced (binding k s kind) p = gives-replaced names _
        ev-replaced (rest to) p = no_meaning-replaced names
        ev-replaced (name m s kind) p = read_name-replaced names m s kind (untrue _ p)
        ev-replaced super p = no_meaning-replaced names
        ev-replaced (member m o k) p = settle-replaced names (bind-replaced names _ _ (ev-replaced o (left _ _ p)) (λ v. bind-replaced names _ _ (ev-replaced k (right _ _ p)) (λ w. event-replaced names _ _)))
        ev-replaced (private_member m x o) p = settle-replaced names (bind-replaced names _ _ (ev-replaced o p) (λ v. read_private-replaced names m x.reads v))
        ev-replaced (super_member m home k this) p = settle-replaced names (bind-replaced names _ _ (ev-replaced k p) (λ w. event-replaced names _ _))
        ev-replaced (private_in m test o) p = settle-replaced names (bind-replaced names _ _ (ev-replaced o p) (λ v. event-replaced names _ _))
        ev-replaced (assign to e) p = settle-replaced names (ev_target-replaced to (left _ _ p) _ _ (λ t u x. bind-replaced names _ _ (ev-replaced e (right _ _ p)) (write_and_give-replaced t u x)))
        ev-replaced (compound m op to e) p = settle-replaced names (ev_target-replaced to (left _ _ p) _ _ (λ t u x. bind-replaced names _ _ (settle-replaced names (bind-replaced names _ _ x.reads (λ v. bind-replaced names _ _ (ev-replaced e (right _ _ p)) (λ w. event-replaced names _ _)))) (write_and_give-replaced t u x)))
        ev-replaced (logical m op l q) p = settle-replaced names (bind-replaced names _ _ (ev-replaced l (left _ _ p)) (λ v. held-replaced names m (RightOf op) (Some v) (ev-replaced q (right _ _ p))))
        ev-replaced (logical_assign m op to e) p = settle-replaced names (ev_target-replaced to (left _ _ p) _ _ (λ t u x. bind-replaced names _ _ x.reads (λ v. held-replaced names m (RightOf op) (Some v) (bind-replaced names _ _ (ev-replaced e (right _ _ p)) (λ w. x.writes w)))))
        ev-replaced (update m op prefix to) p = settle-replaced names (ev_target-replaced to p _ _ (λ t u x. bind-replaced names _ _ (settle-replaced names (bind-replaced names _ _ x.reads (λ v. event-replaced names _ _))) (λ v. bind-replaced names _ _ (x.writes v) (λ w. new_or_former-replaced prefix m))))
        ev-replaced (call m f es) p = settle-replaced names (ev_callee-replaced f (left _ _ p) _ _ (λ callee receiver. ev_all-replaced es (right _ _ p) _ _ (λ vs. event-replaced names _ _)))
        ev-replaced (tag m f ts es) p = settle-replaced names (ev_callee-replaced f (left _ _ p) _ _ (λ callee receiver. ev_all-replaced es (right _ _ p) _ _ (λ vs. event-replaced names _ _)))
        ev-replaced (construct m f es) p = settle-replaced names (bind-replaced names _ _ (ev-replaced f (left _ _ p)) (λ callee. ev_all-replaced es (right _ _ p) _ _ (λ vs. event-replaced names _ _)))
        ev-replaced (super_call m n o es) p = settle-replaced names (ev_all-replaced es p _ _ (λ vs. bind-replaced names (λ v. ev_behind opens n o) (λ v. ev_behind there n o) (event-replaced names (SuperCall m n vs) (ThisOf n)) (λ v. ev_behind-replaced n o)))
        ev-replaced (super_call_with_all n) p = settle-replaced names (bind-replaced names (λ v. bind (opens (InitializersOf n)) (λ w. gives (ThisOf n))) (λ v. bind (there (InitializersOf n)) (λ w. gives (ThisOf n))) (event-replaced names (SuperCallWithAll n) (ThisOf n)) (λ v. bind-replaced names _ _ (follow (InitializersOf n)) (λ w. gives-replaced names (ThisOf n))))
        ev-replaced (sequence es) p = settle-replaced names (ev_all-replaced es p _ _ (λ vs. gives-replaced names _))
        ev-replaced (template_string t) p = no_meaning-replaced names
        ev-replaced (template m ts es) p = settle-replaced names (ev_converted-replaced m 0 es p _ _ (template-replaced names m ts))
        ev-replaced (operation m op es parts) p = settle-replaced names (ev_all-replaced es (left _ _ p) _ _ (λ vs. ev_held-replaced m 0 parts (right _ _ p) (event-replaced names _ _)))
        ev-replaced (piece ds es) p = no_meaning-replaced names
        ev-replaced (chain m e) p = held-replaced names m (Part 0) None (ev-replaced e p)
        ev-replaced (short e) p = settle-replaced names (bind-replaced names _ _ (ev-replaced e p) (λ v. event-replaced names (Short v) v))
        ev-replaced (tested o again e) p = settle-replaced names (tested-replaced names _ _ (ev-replaced o (left _ _ p)) (λ v. ev_again-replaced v again (left _ _ (right _ _ p))) (ev-replaced e (right _ _ (right _ _ p))))
        ev-replaced (pattern m to) p = no_meaning-replaced names
        ev-replaced (takes m ds k to) p = no_meaning-replaced names
        ev-replaced (steps es) p = settle-replaced names (ev_all-replaced es p _ _ (λ vs. gives-replaced names Undefined))
        ev-replaced (gives_to m to) p = settle-replaced names (ev_target-replaced to p _ _ (λ t u x. bind-replaced names _ _ (x.writes (ResultOf m)) (λ w. gives-replaced names Undefined)))
        ev-replaced (export_default e) p = settle-replaced names (bind-replaced names _ _ (ev-replaced e (right _ _ p)) (λ v. stands_for-replaced names default_key v (untrue _ (left _ _ p))))
        ev-replaced (function f form own_name ps body) p = gives-replaced names _
        ev-replaced (new_function f form ps body) p = no_meaning-replaced names
        ev-replaced (new_return es) p = no_meaning-replaced names
        ev-replaced (class_code n declared h es) p = outside-replaced names (settle-replaced names (ev_all-replaced h (left _ _ (right _ _ p)) _ _ (λ vs. ev_keys-replaced es (left _ _ p) (right _ _ (right _ _ p)) (λ ks. bind (declared_first declared n) (λ u. bind (ev_statics opens n ks (filled_all a es)) (λ w. gives (ClassOf n)))) (λ ks. bind (declared_first declared n) (λ u. bind (ev_statics there n ks (filled_all b es)) (λ w. gives (ClassOf n)))) (λ ks. bind-replaced names (λ u. bind (ev_statics opens n ks (filled_all a es)) (λ w. gives (ClassOf n))) (λ u. bind (ev_statics there n ks (filled_all b es)) (λ w. gives (ClassOf n))) (declared_first-replaced names declared n) (λ u. bind-replaced names _ _ (ev_statics-replaced n ks es (left _ _ p) (right _ _ (right _ _ p))) (λ w. gives-replaced names (ClassOf n)))))))
        ev-replaced (field is_static form k e) p = no_meaning-replaced names
        ev-replaced (private_field is_static d e) p = no_meaning-replaced names
        ev-replaced (method is_static kind k f) p = no_meaning-replaced names
        ev-replaced (private_method is_static d f) p = no_meaning-replaced names
        ev-replaced (constructor f) p = no_meaning-replaced names
        ev-replaced (static_block es) p = no_meaning-replaced names
        ev-replaced (generated_element s e) p = no_meaning-replaced names
        ev-replaced (from_call e) p = ev-replaced e p
        ev-replaced (from_member e) p = ev-replaced e p
        ev-replaced (key_of e) p = settle-replaced names (bind-replaced names _ _ (ev-replaced e p) (λ v. gives-replaced names (KeyOf (as_key v))))
        ev-replaced (helper h) p = no_meaning-replaced names
        ev-replaced (helper_call m h es) p = no_meaning-replaced names
        ev-replaced throw p = event-replaced names _ _
        ev-replaced (define m o k e) p = settle-replaced names (bind-replaced names _ _ (ev-replaced k (left _ _ p)) (λ v. bind-replaced names _ _ (ev-replaced e (right _ _ p)) (λ w. event-replaced names _ _)))
        ev-replaced (private_initialize m d o e) p = settle-replaced names (bind-replaced names _ _ (ev-replaced e p) (λ v. event-replaced names _ _))
        ev-replaced (add_brand m n o) p = event-replaced names (AddBrand n o) (ResultOf m)
        ev-replaced (bound f o) p = no_meaning-replaced names
        ev-replaced (setter m d o) p = no_meaning-replaced names
        ev-replaced (private_value s) p = read_given-replaced names (private_key s) (untrue _ p)
        ev-replaced (call_arrow ss body es) p = settle-replaced names (ev_all-replaced es (right _ _ (right _ _ p)) _ _ (λ vs. bind-replaced names _ _ (bind_parameters-replaced names ss vs (left _ _ p)) (λ u. ev-replaced body (left _ _ (right _ _ p)))))
        ev-replaced (call_closure s es) p = settle-replaced names (ev_all-replaced es p _ _ (λ vs. follow (BodyOf s)))
        ev-replaced (initializers n) p = at_hole n
        ev-replaced (give_function m s g e) p = gives-replaced names (ResultOf m)
        ev-replaced (give_class n e) p = gives_class-replaced names n (ev-replaced e p)

        pub ev_target-replaced : (to : Target) → admits_target names plain_ones to ≡ true → (g h : Ready → Evaluation) → ((t u : Ready) → ReadyReplaced names t u → Replaces names (g t) (h u)) → Replaces names (ev_target opens (filled_target a to) g) (ev_target there (filled_target b to) h)
        ev_target-replaced (to_name m s kind) p g h next = next _ _ (record { reads = read_name-replaced names m s kind (untrue _ p); writes = λ v. write_name-replaced names m s kind v (untrue _ p) })
        ev_target-replaced (to_member m o k) p g h next = bind-replaced names _ _ (ev-replaced o (left _ _ p)) (λ v. bind-replaced names _ _ (ev-replaced k (right _ _ p)) (λ w. next (ready_member m v w) (ready_member m v w) (record { reads = event-replaced names _ _; writes = λ x. event-replaced names _ _ })))
        ev_target-replaced (to_private m x o) p g h next = bind-replaced names _ _ (ev-replaced o p) (λ v. next (ready_private m x.reads x.writes v) (ready_private m x.reads x.writes v) (record { reads = read_private-replaced names m x.reads v; writes = write_private-replaced names x.writes v }))
        ev_target-replaced (to_super m home k this) p g h next = bind-replaced names _ _ (ev-replaced k p) (λ w. next _ _ (record { reads = event-replaced names _ _; writes = λ v. event-replaced names _ _ }))
        ev_target-replaced (to_setter m d o) p g h next = bind-replaced names _ _ (ev-replaced o p) (λ v. next (ready_setter d v) (ready_setter d v) (record { reads = no_meaning-replaced names; writes = λ w. event-replaced names _ _ }))
        ev_target-replaced (to_pattern m kind cs) p g h next =
            next (ready_pattern (λ v. bind (event (Operate m (OfKind kind []) (v ∷ [])) v) (λ u. ev_taken opens v (filled_all a cs)))) (ready_pattern (λ v. bind (event (Operate m (OfKind kind []) (v ∷ [])) v) (λ u. ev_taken there v (filled_all b cs))))
            (record { reads = no_meaning-replaced names; writes = λ v. bind-replaced names (λ u. ev_taken opens v (filled_all a cs)) (λ u. ev_taken there v (filled_all b cs)) (event-replaced names (Operate m (OfKind kind []) (v ∷ [])) v) (λ u. ev_taken-replaced v cs (left _ _ p) (right _ _ p)) })
        ev_target-replaced (to_default m to e) p g h next =
            ev_target-replaced to (left _ _ p) _ _ (λ t u x. next (ready_pattern (λ v. bind (held m Default (Some v) (ev opens (filled a e))) (λ w. write_ready t w))) (ready_pattern (λ v. bind (held m Default (Some v) (ev there (filled b e))) (λ w. write_ready u w)))
            (record { reads = no_meaning-replaced names; writes = λ v. bind-replaced names (λ w. write_ready t w) (λ w. write_ready u w) (held-replaced names m Default (Some v) (ev-replaced e (right _ _ p))) (λ w. x.writes w) }))
        ev_target-replaced no_target p g h next = no_meaning-replaced names

        ev_taken-replaced : (v : Value) (cs : Codes) → none_is_hole cs ≡ true → admits_all names plain_ones cs ≡ true → Replaces names (ev_taken opens v (filled_all a cs)) (ev_taken there v (filled_all b cs))
        ev_taken-replaced v done q p = gives-replaced names _
        ev_taken-replaced v (and c cs) q p = bind-replaced names _ _ (ev_take-replaced v c (left _ _ q) (left _ _ p)) (λ u. ev_taken-replaced v cs (right _ _ q) (right _ _ p))

        pub ev_take-replaced : (v : Value) (c : Code) → not (is_hole c) ≡ true → admits names plain_ones c ≡ true → Replaces names (ev_take opens v (filled a c)) (ev_take there v (filled b c))
        ev_take-replaced v (takes m ds k to) q p = ev_all-replaced k (left _ _ p) _ _ (λ ks. ev_target-replaced to (right _ _ p) _ _ (λ t u x. bind-replaced names (λ w. write_ready t w) (λ w. write_ready u w) (event-replaced names (Operate m (Take ds) (v ∷ ks)) (ResultOf m)) (λ w. x.writes w)))
        ev_take-replaced v (operation m op done done) q p = event-replaced names (Operate m op (v ∷ [])) Undefined
        ev_take-replaced v (operation m op (and c cs) ds) q p = no_meaning-replaced names
        ev_take-replaced v (operation m op done (and d ds)) q p = no_meaning-replaced names
        ev_take-replaced v (initializers n) q p = absurd (cc)
        ev_take-replaced v nothing q p = no_meaning-replaced names
        ev_take-replaced v c q p = no_meaning-replaced names

        pub ev_callee-replaced : (f : Callee) → admits_callee names plain_ones f ≡ true → (g h : Value → Option Value → Evaluation) → ((v : Value) (receiver : Option Value) → Replaces names (g v receiver) (h v receiver)) → Replaces names (ev_callee opens (filled_callee a f) g) (ev_callee there (filled_callee b f) h)
        ev_callee-replaced (plain e) p g h next = bind-replaced names _ _ (ev-replaced e p) (λ v. next v None)
        ev_callee-replaced (on_member m o k) p g h next = bind-replaced names _ _ (ev-replaced o (left _ _ p)) (λ u. bind-replaced names _ _ (ev-replaced k (right _ _ p)) (λ w. bind-replaced names (λ v. g v (Some u)) (λ v. h v (Some u)) (event-replaced names _ _) (λ v. next v (Some u))))
        ev_callee-replaced (on_private m x o) p g h next = bind-replaced names _ _ (ev-replaced o p) (λ u. bind-replaced names (λ v. g v (Some u)) (λ v. h v (Some u)) (read_private-replaced names m x.reads u) (λ v. next v (Some u)))
        ev_callee-replaced (on_super m home k this) p g h next = bind-replaced names _ _ (ev-replaced k p) (λ w. bind-replaced names (λ v. g v (Some this)) (λ v. h v (Some this)) (event-replaced names _ _) (λ v. next v (Some this)))
        ev_callee-replaced (with_receiver e o) p g h next = bind-replaced names _ _ (ev-replaced e (left _ _ p)) (λ v. bind-replaced names (λ u. g v (Some u)) (λ u. h v (Some u)) (ev-replaced o (right _ _ p)) (λ u. next v (Some u)))
        ev_callee-replaced (checked f) p g h next = ev_callee-replaced f p _ _ (λ v receiver. bind-replaced names (λ w. g v receiver) (λ w. h v receiver) (event-replaced names (Short v) v) (λ w. next v receiver))
        ev_callee-replaced (on_chain m f) p g h next = chain-replaced m f g h next (ev_callee-replaced f p (λ v receiver. gives v) (λ v receiver. gives v) (λ v receiver. gives-replaced names v)) (ev_callee-replaced f p (λ v receiver. nullable_gives receiver) (λ v receiver. nullable_gives receiver) (λ v receiver. nullable_gives-replaced names receiver))
        ev_callee-replaced (behind_test o again f) p g h next = tested-replaced names _ _ (ev-replaced o (left _ _ p)) (λ v. ev_again-replaced v again (left _ _ (right _ _ p))) (ev_callee-replaced f (right _ _ (right _ _ p)) g h next)

        ev_again-replaced : (v : Value) (cs : Codes) → admits_all names plain_ones cs ≡ true → Replaces names (ev_again opens v (filled_all a cs)) (ev_again there v (filled_all b cs))
        ev_again-replaced v done p = gives-replaced names _
        ev_again-replaced v (and c cs) p = stays-replaced names v (ev-replaced c (left _ _ p))

        pub ev_all-replaced : (es : Codes) → admits_all names plain_ones es ≡ true → (g h : List Value → Evaluation) → ((vs : List Value) → Replaces names (g vs) (h vs)) → Replaces names (ev_all opens (filled_all a es) g) (ev_all there (filled_all b es) h)
        ev_all-replaced done p g h next = next []
        ev_all-replaced (and e es) p g h next = bind-replaced names _ _ (ev-replaced e (left _ _ p)) (λ v. ev_all-replaced es (right _ _ p) (λ vs. g (v ∷ vs)) (λ vs. h (v ∷ vs)) (λ vs. next (v ∷ vs)))

        ev_converted-replaced : (m i : ℕ) (es : Codes) → admits_all names plain_ones es ≡ true → (g h : List Value → Evaluation) → ((vs : List Value) → Replaces names (g vs) (h vs)) → Replaces names (ev_converted opens m i (filled_all a es) g) (ev_converted there m i (filled_all b es) h)
        ev_converted-replaced m i done p g h next = next []
        ev_converted-replaced m i (and e es) p g h next =
            bind-replaced names _ _ (ev-replaced e (left _ _ p))
            (λ v. bind-replaced names (λ w. ev_converted opens m (suc i) (filled_all a es) (λ vs. g (v ∷ vs))) (λ w. ev_converted there m (suc i) (filled_all b es) (λ vs. h (v ∷ vs)))
            (event-replaced names (Operate m (Take (Index i ∷ [])) (v ∷ [])) v) (λ w. ev_converted-replaced m (suc i) es (right _ _ p) (λ vs. g (v ∷ vs)) (λ vs. h (v ∷ vs)) (λ vs. next (v ∷ vs))))

        ev_held-replaced : {x y : Evaluation} (m i : ℕ) (es : Codes) → admits_all names plain_ones es ≡ true → Replaces names x y → Replaces names (ev_held opens m i (filled_all a es) x) (ev_held there m i (filled_all b es) y)
        ev_held-replaced m i done p all = all
        ev_held-replaced {x = x} {y = y} m i (and e es) p all = bind-replaced names (λ v. ev_held opens m (suc i) (filled_all a es) x) (λ v. ev_held there m (suc i) (filled_all b es) y) (held-replaced names m (Part i) None (ev-replaced e (left _ _ p))) (λ v. ev_held-replaced m (suc i) es (right _ _ p) all)

        pub ev_keys-replaced : (es : Codes) → none_is_hole es ≡ true → admits_all names plain_ones es ≡ true → (g h : List Value → Evaluation) → ((vs : List Value) → Replaces names (g vs) (h vs)) → Replaces names (ev_keys opens (filled_all a es) g) (ev_keys there (filled_all b es) h)
        ev_keys-replaced done q p g h next = next []
        ev_keys-replaced (and e es) q p g h next = bind-replaced names _ _ (ev_key-replaced e (left _ _ q) (left _ _ p)) (λ v. ev_keys-replaced es (right _ _ q) (right _ _ p) (λ vs. g (v ∷ vs)) (λ vs. h (v ∷ vs)) (λ vs. next (v ∷ vs)))

        pub ev_key-replaced : (e : Code) → not (is_hole e) ≡ true → admits names plain_ones e ≡ true → Replaces names (ev_key opens (filled a e)) (ev_key there (filled b e))
        ev_key-replaced (field is_static form k e) q p = ev-replaced k (left _ _ p)
        ev_key-replaced (method is_static kind k f) q p = ev-replaced k (left _ _ (right _ _ p))
        ev_key-replaced (private_field is_static d e) q p = gives-replaced names _
        ev_key-replaced (private_method is_static d f) q p = gives-replaced names _
        ev_key-replaced (constructor f) q p = gives-replaced names _
        ev_key-replaced (static_block es) q p = gives-replaced names _
        ev_key-replaced (generated_element s e) q p = gives-replaced names _
        ev_key-replaced (initializers n) q p = absurd (cc)
        ev_key-replaced e q p = no_meaning-replaced names

        pub ev_statics-replaced : (n : ℕ) (ks : List Value) (es : Codes) → none_is_hole es ≡ true → admits_all names plain_ones es ≡ true → Replaces names (ev_statics opens n ks (filled_all a es)) (ev_statics there n ks (filled_all b es))
        ev_statics-replaced n [] es q p = gives-replaced names _
        ev_statics-replaced n (k ∷ ks) done q p = gives-replaced names _
        ev_statics-replaced n (k ∷ ks) (and e es) q p = bind-replaced names _ _ (ev_static-replaced n k e (left _ _ q) (left _ _ p)) (λ v. ev_statics-replaced n ks es (right _ _ q) (right _ _ p))

        pub ev_static-replaced : (n : ℕ) (k : Value) (e : Code) → not (is_hole e) ≡ true → admits names plain_ones e ≡ true → Replaces names (ev_static opens n k (filled a e)) (ev_static there n k (filled b e))
        ev_static-replaced n k (field true form key e) q p = bind-replaced names _ _ (ev-replaced e (right _ _ p)) (λ v. initialized-replaced names form (ClassOf n) k v)
        ev_static-replaced n k (private_field true d e) q p = bind-replaced names _ _ (ev-replaced e p) (λ v. event-replaced names _ _)
        ev_static-replaced n k (static_block es) q p = ev_all-replaced es p _ _ (λ vs. gives-replaced names Undefined)
        ev_static-replaced n k (generated_element s e) q p = bind-replaced names _ _ (ev-replaced e (right _ _ p)) (λ v. element_holds-replaced names (private_key s) v (untrue _ (left _ _ p)))
        ev_static-replaced n k (initializers m) q p = absurd (cc)
        ev_static-replaced n k e q p = gives-replaced names _

        pub ev_fields-replaced : (n : ℕ) (es : Codes) → none_is_hole es ≡ true → admits_all names plain_ones es ≡ true → Replaces names (ev_fields opens n (filled_all a es)) (ev_fields there n (filled_all b es))
        ev_fields-replaced n done q p = gives-replaced names _
        ev_fields-replaced n (and e es) q p = bind-replaced names _ _ (ev_field-replaced n e (left _ _ q) (left _ _ p)) (λ v. ev_fields-replaced n es (right _ _ q) (right _ _ p))

        pub ev_field-replaced : (n : ℕ) (e : Code) → not (is_hole e) ≡ true → admits names plain_ones e ≡ true → Replaces names (ev_field opens n (filled a e)) (ev_field there n (filled b e))
        ev_field-replaced n (field false form k e) q p = bind-replaced names _ _ (quiet-replaced names (ev-replaced k (left _ _ p))) (λ u. bind-replaced names _ _ (ev-replaced e (right _ _ p)) (λ v. initialized-replaced names form (ThisOf n) u v))
        ev_field-replaced n (private_field false d e) q p = bind-replaced names _ _ (ev-replaced e p) (λ v. event-replaced names _ _)
        ev_field-replaced n (initializers m) q p = absurd (cc)
        ev_field-replaced n e q p = gives-replaced names _

      pub ev_initializers-replaced : (n : ℕ) (es : Codes) → none_is_hole es ≡ true → admits_all names plain_ones es ≡ true → Replaces names (ev_initializers opens n (filled_all a es)) (ev_initializers there n (filled_all b es))
      ev_initializers-replaced n es q p = rw (has_methods-filled a es q, has_methods-filled b es q) (bind-replaced names (λ v. ev_fields opens n (filled_all a es)) (λ v. ev_fields there n (filled_all b es)) (brand_first-replaced names (has_instance_methods es) n) (λ v. ev_fields-replaced n es q p))
