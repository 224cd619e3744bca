-- Targets, callees, lists and elements of classes over a state, as the definitions evaluate them, from what is known of codes
-- (`Same` of `es_evaluation` shows the same inside its induction over codes).
use Rattle.std.proofs.Common.{◌≡◌, refl, sym, ◌∙◌, subst, ℕ, List, [], ◌∷◌, ◌++◌, append_assoc, Bool, true, false, cond, Option, Some, None}
use Rattle.std.proofs.lemmas.List.{append-nil}
use Rattle.es_base.specs.declared.ledger.GeneratedKind.{GeneratedKind}
use Rattle.es_steps.specs.Code.{Code, Codes, Target, Callee, FieldForm, defines, sets, leaves_out, operation, takes, field, private_field, method, private_method, constructor, static_block, generated_element, to_name, to_member, to_private, to_super, to_setter, to_pattern, to_default, no_target, plain, on_member, on_private, on_super, with_receiver, checked, on_chain, behind_test, Opened, done, and}
use Rattle.es_steps.specs.Context.{NameKind, Fixed, Changing, MeansClass, Generated, StaticMethod}
use Rattle.es_steps.specs.Evaluation.{Evaluation, bind, ev, ev_target, ev_callee, ev_all, ev_keys, ev_key, ev_static, ev_fields, ev_field, ev_taken, ev_take, ev_again, ev_initializers, Ready, ready_name, ready_member, ready_private, ready_super, ready_setter, ready_pattern, write_ready, tested_then, has_instance_methods, private_key}
use Rattle.es_steps.specs.Evaluation as of
use Rattle.es_steps.specs.Events.{OfKind, Take, Default, Part, Event, is_throw, SetName, Get, Set, Define, Operate, PrivateGet, PrivateSet, PrivateInitialize, AddBrand, SuperGet, SuperSet, Throw, Short}
use Rattle.es_steps.specs.Values.{String, Value, Undefined, ClassOf, ThisOf, ResultOf, KeyOf, Bound, as_key}
use Rattle.es_evaluation.specs.Flat.{single}
use Rattle.es_evaluation.specs.Direct.{State, Step, next, and_then, emit, settled, close, close_callee, opened, Operands, no_operand, one_operand, two_operands, form, operands, write, taken, take, callee, test_with, once_more, all, keys, key, static_element, fields, instance_field, construction}
use Rattle.es_evaluation.specs.Direct as direct
use Rattle.es_evaluation.specs.Agreement.{Follows}
use Rattle.es_evaluation.proofs.Follows.{follows_by, follows_bind, follows_none, follows_gives, follows_event, follows_throw, follows_held, follows_quiet, follows_stays, follows_stands}
use Rattle.es_evaluation.proofs.Same.{ready_of}

-- ---- steps in steps

next-next : {A B C : Type 0} (o : Option (A × State)) (f : A → Step B) (g : B → Step C) → next (next o f) g ≡ next o (λ x. and_then (f x) g)
next-next None f g = refl
next-next (Some p) f g = refl

flat : {A B : Type 0} (a : Evaluation) (d : Step A) (f : A → Step B) (k : B → Step Value) → Follows a (and_then d (λ x. and_then (f x) k)) → Follows a (and_then (and_then d f) k)
flat a d f k h = follows_by a (and_then d (λ x. and_then (f x) k)) (and_then (and_then d f) k) (λ s. next-next (d s) f k) h

-- one behind another, in front of what is behind both
two_follow : {B : Type 0} (a : Evaluation) (d : Step Value) (f : Value → Evaluation) (g : Value → Step B) (k : B → Step Value) → Follows a d → ((v : Value) → Follows (f v) (and_then (g v) k)) → Follows (bind a f) (and_then (and_then d g) k)
two_follow a d f g k h i = flat (bind a f) d g k (follows_bind a d f (λ v. and_then (g v) k) h i)

-- ---- writes, private members, fields

kept_by : (b : Bool) (x : String) (v : Value) → Follows (cond b of.no_meaning (of.stands_for x v)) (cond b direct.no_meaning (direct.stands_for x v))
kept_by true x v = follows_none
kept_by false x v = follows_stands x v

held_by : (b : Bool) (x : String) (v : Value) → Follows (cond b (of.gives v) (of.stands_for x v)) (cond b (direct.gives v) (direct.stands_for x v))
held_by true x v = follows_gives v
held_by false x v = follows_stands x v

element_follows : (x : String) (v : Value) → Follows (of.element_holds x v) (direct.element_holds x v)
element_follows x v = held_by (of.is_binding_value v) x v

given_follows : (m : ℕ) (x : String) (v : Value) → Follows (of.given_as m x v) (direct.given_as m x v)
given_follows m x (KeyOf v) = follows_stands x (cond (of.is_binding_value v) (ResultOf m) (KeyOf v))
given_follows m x v = kept_by (of.is_binding_value v) x v

write_generated_follows : (m : ℕ) (g : GeneratedKind) (x : String) (v : Value) → Follows (of.write_generated m g x v) (direct.write_generated m g x v)
write_generated_follows m GeneratedKind.Temp x v = given_follows m x v
write_generated_follows m g x v = follows_none

write_name_follows : (m : ℕ) (x : String) (kind : NameKind) (v : Value) → Follows (of.write_name m x kind v) (direct.write_name m x kind v)
write_name_follows m x (Fixed b) v = follows_event (SetName (Bound b) v) v (single (SetName (Bound b) v)) refl refl
write_name_follows m x (Changing r) v = follows_event (SetName r v) v (single (SetName r v)) refl refl
write_name_follows m x (MeansClass n b) v = follows_throw
write_name_follows m x (Generated g) v = write_generated_follows m g x v
write_name_follows m x (StaticMethod d n) v = follows_none

read_private_follows : (m : ℕ) (reads : Option ℕ) (o : Value) → Follows (of.read_private m reads o) (direct.read_private m reads o)
read_private_follows m None o = follows_throw
read_private_follows m (Some d) o = follows_event (PrivateGet m d o) (ResultOf m) (single (PrivateGet m d o)) refl refl

write_private_follows : (writes : Option ℕ) (o v : Value) → Follows (of.write_private writes o v) (direct.write_private writes o v)
write_private_follows None o v = follows_throw
write_private_follows (Some d) o v = follows_event (PrivateSet d o v) v (single (PrivateSet d o v)) refl refl

initialized_follows : (shape : FieldForm) (o k v : Value) → Follows (of.initialized shape o k v) (direct.initialized shape o k v)
initialized_follows defines o k v = follows_event (Define o (as_key k) v) Undefined (single (Define o (as_key k) v)) refl refl
initialized_follows sets o k v = follows_event (Set o (as_key k) v) Undefined (single (Set o (as_key k) v)) refl refl
initialized_follows leaves_out o k v = follows_gives Undefined

private_initialize_follows : (d : ℕ) (o v : Value) → Follows (of.event (PrivateInitialize d o v) Undefined) (emit (single (PrivateInitialize d o v)) Undefined)
private_initialize_follows d o v = follows_event (PrivateInitialize d o v) Undefined (single (PrivateInitialize d o v)) refl refl

-- parameters that stand for arguments
pub bound_follow : (xs : List String) (vs : List Value) → Follows (of.bind_parameters xs vs) (direct.bind_parameters xs vs)
bound_follow [] [] = follows_gives Undefined
bound_follow [] (v ∷ vs) = follows_none
bound_follow (x ∷ xs) [] = follows_none
bound_follow (x ∷ xs) (v ∷ vs) = follows_bind (of.stands_for x v) (direct.stands_for x v) (λ w. of.bind_parameters xs vs) (λ w. direct.bind_parameters xs vs) (follows_stands x v) (λ w. bound_follow xs vs)

brand_follows : (b : Bool) (n : ℕ) → Follows (of.brand_first b n) (direct.brand_first b n)
brand_follows true n = follows_event (AddBrand n (ThisOf n)) Undefined (single (AddBrand n (ThisOf n))) refl refl
brand_follows false n = follows_gives Undefined

-- ---- tests in chains

test_follows : (o : Evaluation) (d : Step Value) (again : Value → Evaluation) (step : Value → Step Value) (a : Evaluation) (e : Step Value) → Follows o d → ((v : Value) → Follows (again v) (step v)) → Follows a e → Follows (tested_then o again a) (and_then (test_with d step) (λ w. e))
test_follows o d again step a e first second h =
    two_follow o d (λ v. bind (again v) (λ u. bind (of.event (Short v) v) (λ w. a))) (λ v. and_then (step v) (λ u. emit (single (Short v)) v)) (λ w. e) first
    (λ v. two_follow (again v) (step v) (λ u. bind (of.event (Short v) v) (λ w. a)) (λ u. emit (single (Short v)) v) (λ w. e) (second v)
    (λ u. follows_bind (of.event (Short v) v) (emit (single (Short v)) v) (λ w. a) (λ w. e) (follows_event (Short v) v (single (Short v)) refl refl) (λ w. h)))

-- the value alone of a callee at the end of a chain
chain_alone : (m : ℕ) (s : State) (o : Option ((Value × Option Value) × State)) (k : Value → Step Value) → next (close_callee m s o) (λ c. k c.0) ≡ next (close m (Part 0) None s (next o (λ c. direct.gives c.0))) k
chain_alone m s None k = refl
chain_alone m s (Some p) k = refl

abbrev Called : Type 0
Called = Value × Option Value

module _ (opens : Opened → Evaluation) (opens_d : Opened → Step Value) (follows : (c : Code) → Follows (ev opens c) (settled (form opens_d c))) where
  -- a code, and what is behind it
  code_then : {B : Type 0} (c : Code) (f : Value → Evaluation) (g : Value → Step B) (k : B → Step Value) → ((v : Value) → Follows (f v) (and_then (g v) k)) → Follows (bind (ev opens c) f) (and_then (and_then (settled (form opens_d c)) g) k)
  code_then c f g k h = two_follow (ev opens c) (settled (form opens_d c)) f g k (follows c) h

  code_behind : (c : Code) (f : Value → Evaluation) (g : Value → Step Value) → ((v : Value) → Follows (f v) (g v)) → Follows (bind (ev opens c) f) (and_then (settled (form opens_d c)) g)
  code_behind c f g h = follows_bind (ev opens c) (settled (form opens_d c)) f g (follows c) h

  -- ---- lists

  pub all_follow : (vs : List Value) (es : Codes) (f : List Value → Evaluation) (g : List Value → Step Value) → ((ws : List Value) → Follows (f ws) (g (vs ++ ws))) → Follows (ev_all opens es f) (and_then (all opens_d vs es) g)
  all_follow vs done f g h = subst (λ (ws : List Value). Follows (f []) (g ws)) (append-nil vs) (h [])
  all_follow vs (and e es) f g h =
      code_then e (λ v. ev_all opens es (λ ws. f (v ∷ ws))) (λ v. all opens_d (vs ++ v ∷ []) es) g
      (λ v. all_follow (vs ++ v ∷ []) es (λ ws. f (v ∷ ws)) g (λ ws. subst (λ (us : List Value). Follows (f (v ∷ ws)) (g us)) (sym (append_assoc vs (v ∷ []) ws)) (h (v ∷ ws))))

  -- ---- targets

  pub target_follows : (to : Target) (f : Ready → Evaluation) (g : Operands → Step Value) → ((t : Operands) → Follows (f (ready_of opens to t)) (g t)) → Follows (ev_target opens to f) (and_then (operands opens_d to) g)
  target_follows (to_name m x kind) f g h = h no_operand
  target_follows (to_member m o k) f g h = code_then o (λ a. bind (ev opens k) (λ b. f (ready_member m a b))) (λ a. and_then (settled (form opens_d k)) (λ b. direct.gives (two_operands a b))) g (λ a. code_then k (λ b. f (ready_member m a b)) (λ b. direct.gives (two_operands a b)) g (λ b. h (two_operands a b)))
  target_follows (to_private m r o) f g h = code_then o (λ a. f (ready_private m r.reads r.writes a)) (λ a. direct.gives (one_operand a)) g (λ a. h (one_operand a))
  target_follows (to_super m home k this) f g h = code_then k (λ b. f (ready_super m home b this)) (λ b. direct.gives (one_operand b)) g (λ b. h (one_operand b))
  target_follows (to_setter m d o) f g h = code_then o (λ a. f (ready_setter d a)) (λ a. direct.gives (one_operand a)) g (λ a. h (one_operand a))
  target_follows (to_pattern m kind cs) f g h = h no_operand
  target_follows (to_default m to e) f g h = target_follows to (λ r. f (ready_pattern (λ v. bind (of.held m Default (Some v) (ev opens e)) (λ w. write_ready r w)))) g h
  target_follows no_target f g h = follows_none

  mutual
    pub write_follows : (to : Target) (t : Operands) (v : Value) → Follows (write_ready (ready_of opens to t) v) (write opens_d to t v)
    write_follows (to_name m x kind) t v = write_name_follows m x kind v
    write_follows (to_member m o k) (two_operands a b) v = follows_event (Set a b v) v (single (Set a b v)) refl refl
    write_follows (to_private m r o) (one_operand a) v = write_private_follows r.writes a v
    write_follows (to_super m home k this) (one_operand b) v = follows_event (SuperSet home b v this) v (single (SuperSet home b v this)) refl refl
    write_follows (to_setter m d o) (one_operand a) v = follows_event (PrivateSet d a v) v (single (PrivateSet d a v)) refl refl
    write_follows (to_pattern m kind cs) t v = follows_bind (of.event (Operate m (OfKind kind []) (v ∷ [])) v) (emit (single (Operate m (OfKind kind []) (v ∷ []))) v) (λ u. ev_taken opens v cs) (λ u. taken opens_d v cs) (follows_event (Operate m (OfKind kind []) (v ∷ [])) v (single (Operate m (OfKind kind []) (v ∷ []))) refl refl) (λ u. taken_follow v cs)
    write_follows (to_default m to e) t v = follows_bind (of.held m Default (Some v) (ev opens e)) (direct.held m Default (Some v) (settled (form opens_d e))) (λ w. write_ready (ready_of opens to t) w) (λ w. write opens_d to t w) (follows_held m Default (Some v) (ev opens e) (settled (form opens_d e)) (follows e)) (λ w. write_follows to t w)
    write_follows to t v = follows_none

    taken_follow : (v : Value) (cs : Codes) → Follows (ev_taken opens v cs) (taken opens_d v cs)
    taken_follow v done = follows_gives Undefined
    taken_follow v (and c cs) = follows_bind (ev_take opens v c) (take opens_d v c) (λ u. ev_taken opens v cs) (λ u. taken opens_d v cs) (take_follows v c) (λ u. taken_follow v cs)

    pub take_follows : (v : Value) (c : Code) → Follows (ev_take opens v c) (take opens_d v c)
    take_follows v (takes m ds k to) =
        all_follow [] k (λ ks. ev_target opens to (λ r. bind (of.event (Operate m (Take ds) (v ∷ ks)) (ResultOf m)) (λ w. write_ready r w))) (λ ks. and_then (operands opens_d to) (λ t. and_then (emit (single (Operate m (Take ds) (v ∷ ks))) (ResultOf m)) (λ w. write opens_d to t w)))
        (λ ks. target_follows to (λ r. bind (of.event (Operate m (Take ds) (v ∷ ks)) (ResultOf m)) (λ w. write_ready r w)) (λ t. and_then (emit (single (Operate m (Take ds) (v ∷ ks))) (ResultOf m)) (λ w. write opens_d to t w))
        (λ t. follows_bind (of.event (Operate m (Take ds) (v ∷ ks)) (ResultOf m)) (emit (single (Operate m (Take ds) (v ∷ ks))) (ResultOf m)) (λ w. write_ready (ready_of opens to t) w) (λ w. write opens_d to t w) (follows_event (Operate m (Take ds) (v ∷ ks)) (ResultOf m) (single (Operate m (Take ds) (v ∷ ks))) refl refl) (λ w. write_follows to t w)))
    take_follows v (operation m op done done) = follows_event (Operate m op (v ∷ [])) Undefined (single (Operate m op (v ∷ []))) refl refl
    take_follows v c = follows_none

  -- ---- callees: their values alone

  again_follows : (v : Value) (again : Codes) → Follows (ev_again opens v again) (once_more opens_d v again)
  again_follows v done = follows_gives Undefined
  again_follows v (and c cs) = follows_stays v (ev opens c) (settled (form opens_d c)) (follows c)

  pub callee_follows : (g : Callee) (f : Value → Evaluation) (k : Value → Step Value) → ((v : Value) → Follows (f v) (k v)) → Follows (ev_callee opens g (λ v receiver. f v)) (and_then (callee opens_d g) (λ c. k c.0))
  callee_follows (plain e) f k h = code_then {B = Called} e f (λ v. direct.gives (v, None)) (λ c. k c.0) h
  callee_follows (on_member m o e) f k h =
      code_then {B = Called} o (λ a. bind (ev opens e) (λ b. bind (of.event (Get m a b) (ResultOf m)) f)) (λ a. and_then (settled (form opens_d e)) (λ b. and_then (emit (single (Get m a b)) (ResultOf m)) (λ v. direct.gives (v, Some a)))) (λ c. k c.0)
      (λ a. code_then {B = Called} e (λ b. bind (of.event (Get m a b) (ResultOf m)) f) (λ b. and_then (emit (single (Get m a b)) (ResultOf m)) (λ v. direct.gives (v, Some a))) (λ c. k c.0)
      (λ b. two_follow {B = Called} (of.event (Get m a b) (ResultOf m)) (emit (single (Get m a b)) (ResultOf m)) f (λ v. direct.gives (v, Some a)) (λ c. k c.0) (follows_event (Get m a b) (ResultOf m) (single (Get m a b)) refl refl) h))
  callee_follows (on_private m r o) f k h =
      code_then {B = Called} o (λ a. bind (of.read_private m r.reads a) f) (λ a. and_then (direct.read_private m r.reads a) (λ v. direct.gives (v, Some a))) (λ c. k c.0)
      (λ a. two_follow {B = Called} (of.read_private m r.reads a) (direct.read_private m r.reads a) f (λ v. direct.gives (v, Some a)) (λ c. k c.0) (read_private_follows m r.reads a) h)
  callee_follows (on_super m home e this) f k h =
      code_then {B = Called} e (λ b. bind (of.event (SuperGet m home b this) (ResultOf m)) f) (λ b. and_then (emit (single (SuperGet m home b this)) (ResultOf m)) (λ v. direct.gives (v, Some this))) (λ c. k c.0)
      (λ b. two_follow {B = Called} (of.event (SuperGet m home b this) (ResultOf m)) (emit (single (SuperGet m home b this)) (ResultOf m)) f (λ v. direct.gives (v, Some this)) (λ c. k c.0) (follows_event (SuperGet m home b this) (ResultOf m) (single (SuperGet m home b this)) refl refl) h)
  callee_follows (with_receiver e o) f k h =
      code_then {B = Called} e (λ v. bind (ev opens o) (λ a. f v)) (λ v. and_then (settled (form opens_d o)) (λ a. direct.gives (v, Some a))) (λ c. k c.0)
      (λ v. code_then {B = Called} o (λ a. f v) (λ a. direct.gives (v, Some a)) (λ c. k c.0) (λ a. h v))
  callee_follows (checked g) f k h =
      flat (ev_callee opens (checked g) (λ v receiver. f v)) (callee opens_d g) (λ c. and_then (emit (single (Short c.0)) c.0) (λ w. direct.gives c)) (λ c. k c.0)
      (callee_follows g (λ v. bind (of.event (Short v) v) (λ w. f v)) (λ v. and_then (emit (single (Short v)) v) (λ w. k v))
      (λ v. follows_bind (of.event (Short v) v) (emit (single (Short v)) v) (λ w. f v) (λ w. k v) (follows_event (Short v) v (single (Short v)) refl refl) (λ w. h v)))
  callee_follows (on_chain m g) f k h =
      let alone : Step Value = and_then (callee opens_d g) (λ c. direct.gives c.0) in
      follows_by (ev_callee opens (on_chain m g) (λ v receiver. f v)) (and_then (direct.held m (Part 0) None alone) k) (and_then (callee opens_d (on_chain m g)) (λ c. k c.0)) (λ s. chain_alone m s (callee opens_d g (opened s)) k)
      (follows_bind (of.held m (Part 0) None (ev_callee opens g (λ v receiver. of.gives v))) (direct.held m (Part 0) None alone) f k (follows_held m (Part 0) None (ev_callee opens g (λ v receiver. of.gives v)) alone (callee_follows g (λ v. of.gives v) (λ v. direct.gives v) (λ v. follows_gives v))) h)
  callee_follows (behind_test o again g) f k h =
      flat (ev_callee opens (behind_test o again g) (λ v receiver. f v)) (test_with (settled (form opens_d o)) (λ v. once_more opens_d v again)) (λ w. callee opens_d g) (λ c. k c.0)
      (test_follows (ev opens o) (settled (form opens_d o)) (λ v. ev_again opens v again) (λ v. once_more opens_d v again) (ev_callee opens g (λ v receiver. f v)) (and_then (callee opens_d g) (λ c. k c.0)) (follows o) (λ v. again_follows v again) (callee_follows g f k h))

  -- ---- elements of classes

  pub key_follows : (e : Code) → Follows (ev_key opens e) (key opens_d e)
  key_follows (field is_static shape k e) = follows k
  key_follows (method is_static kind k f) = follows k
  key_follows (private_field is_static d e) = follows_gives Undefined
  key_follows (private_method is_static d f) = follows_gives Undefined
  key_follows (constructor f) = follows_gives Undefined
  key_follows (static_block es) = follows_gives Undefined
  key_follows (generated_element x e) = follows_gives Undefined
  key_follows e = follows_none

  pub keys_follow : (vs : List Value) (es : Codes) (f : List Value → Evaluation) (g : List Value → Step Value) → ((ws : List Value) → Follows (f ws) (g (vs ++ ws))) → Follows (ev_keys opens es f) (and_then (keys opens_d vs es) g)
  keys_follow vs done f g h = subst (λ (ws : List Value). Follows (f []) (g ws)) (append-nil vs) (h [])
  keys_follow vs (and e es) f g h =
      two_follow (ev_key opens e) (key opens_d e) (λ v. ev_keys opens es (λ ws. f (v ∷ ws))) (λ v. keys opens_d (vs ++ v ∷ []) es) g (key_follows e)
      (λ v. keys_follow (vs ++ v ∷ []) es (λ ws. f (v ∷ ws)) g (λ ws. subst (λ (us : List Value). Follows (f (v ∷ ws)) (g us)) (sym (append_assoc vs (v ∷ []) ws)) (h (v ∷ ws))))

  pub static_follows : (n : ℕ) (a : Value) (e : Code) → Follows (ev_static opens n a e) (static_element opens_d n a e)
  static_follows n a (field true shape k e) = code_behind e (λ v. of.initialized shape (ClassOf n) a v) (λ v. direct.initialized shape (ClassOf n) a v) (λ v. initialized_follows shape (ClassOf n) a v)
  static_follows n a (private_field true d e) = code_behind e (λ v. of.event (PrivateInitialize d (ClassOf n) v) Undefined) (λ v. emit (single (PrivateInitialize d (ClassOf n) v)) Undefined) (λ v. private_initialize_follows d (ClassOf n) v)
  static_follows n a (static_block es) = all_follow [] es (λ vs. of.gives Undefined) (λ vs. direct.gives Undefined) (λ vs. follows_gives Undefined)
  static_follows n a (generated_element x e) = code_behind e (λ v. of.element_holds (private_key x) v) (λ v. direct.element_holds (private_key x) v) (λ v. element_follows (private_key x) v)
  static_follows n a e = follows_gives Undefined

  pub field_follows : (n : ℕ) (e : Code) → Follows (ev_field opens n e) (instance_field opens_d n e)
  field_follows n (field false shape k e) =
      follows_bind (of.quiet (ev opens k)) (direct.quiet (settled (form opens_d k))) (λ a. bind (ev opens e) (λ v. of.initialized shape (ThisOf n) a v)) (λ a. and_then (settled (form opens_d e)) (λ v. direct.initialized shape (ThisOf n) a v)) (follows_quiet (ev opens k) (settled (form opens_d k)) (follows k))
      (λ a. code_behind e (λ v. of.initialized shape (ThisOf n) a v) (λ v. direct.initialized shape (ThisOf n) a v) (λ v. initialized_follows shape (ThisOf n) a v))
  field_follows n (private_field false d e) = code_behind e (λ v. of.event (PrivateInitialize d (ThisOf n) v) Undefined) (λ v. emit (single (PrivateInitialize d (ThisOf n) v)) Undefined) (λ v. private_initialize_follows d (ThisOf n) v)
  field_follows n e = follows_gives Undefined

  fields_follow : (n : ℕ) (es : Codes) → Follows (ev_fields opens n es) (fields opens_d n es)
  fields_follow n done = follows_gives Undefined
  fields_follow n (and e es) = follows_bind (ev_field opens n e) (instance_field opens_d n e) (λ v. ev_fields opens n es) (λ v. fields opens_d n es) (field_follows n e) (λ v. fields_follow n es)

  pub initializers_follow : (n : ℕ) (es : Codes) → Follows (ev_initializers opens n es) (construction opens_d n es)
  initializers_follow n es = follows_bind (of.brand_first (has_instance_methods es) n) (direct.brand_first (has_instance_methods es) n) (λ v. ev_fields opens n es) (λ v. fields opens_d n es) (brand_follows (has_instance_methods es) n) (λ v. fields_follow n es)
