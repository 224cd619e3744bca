-- Evaluation over a state is the evaluation of the definitions.
use Rattle.std.proofs.Common.{◌≡◌, refl, sym, ap, ap₂, ◌∙◌, subst, ℕ, suc, List, [], ◌∷◌, ◌++◌, append_assoc, Bool, true, false, ◌||◌, cond, Option, Some, None, option_map}
use Rattle.std.proofs.lemmas.List.{append-nil}
use Rattle.es_base.specs.declared.kind.Kind.{Kind}
use Rattle.es_base.specs.declared.ledger.GeneratedKind.{GeneratedKind}
use Rattle.es_steps.specs.Code.{Code, Codes, Target, Callee, FieldForm, defines, sets, leaves_out, TemplateString, Opened, InitializersOf, BodyOf, CalledBodyOf, nothing, no_rule, value, spelled, private_name, binding, rest, name, super, member, private_member, super_member, private_in, assign, compound, logical, logical_assign, update, call, tag, construct, super_call, super_call_with_all, sequence, template_string, template, operation, piece, chain, short, tested, pattern, takes, steps, gives_to, export_default, function, new_function, new_return, class_code, field, private_field, method, private_method, constructor, static_block, generated_element, from_call, from_member, key_of, helper, helper_call, throw, define, private_initialize, add_brand, bound, setter, private_value, call_arrow, call_closure, initializers, give_function, give_class, to_name, to_member, to_private, to_super, to_setter, to_pattern, to_default, no_target, plain, on_member, on_private, on_super, with_receiver, checked, on_chain, behind_test, done, and}
use Rattle.es_steps.specs.Context.{NameKind, Fixed, Changing, MeansClass, Generated, StaticMethod}
use Rattle.es_steps.specs.Evaluation.{Environment, Run, Evaluation, bind, settle, settle_run, ev, ev_target, ev_callee, ev_all, ev_converted, ev_held, ev_keys, ev_key, ev_statics, ev_static, ev_fields, ev_field, ev_taken, ev_take, ev_again, ev_behind, ev_initializers, Ready, ready_name, ready_member, ready_private, ready_super, ready_setter, ready_pattern, read_ready, write_ready, tested_then, has_receiver, nullable_gives, receiver_in, go_on, new_or_former, binary, last_of, tag_values, template_details, template_constant, has_instance_methods, private_key, default_key}
use Rattle.es_steps.specs.Evaluation as of
use Rattle.es_steps.specs.Events.{Detail, Operation, OfKind, Take, Index, Place, RightOf, Default, Part, Event, Events, none, then, value_behind, ReadName, SetName, Get, Set, Define, Call, Construct, Operate, Update, PrivateGet, PrivateSet, PrivateInitialize, PrivateIn, AddBrand, SuperGet, SuperSet, SuperCall, SuperCallWithAll, InitializeClass, Throw, Short, Held}
use Rattle.es_steps.specs.Events as of_events
use Rattle.es_steps.specs.Values.{String, Value, ConstantOf, Undefined, BindingOf, FunctionOf, ClassOf, ThisOf, ArgumentsOf, NewTargetOf, ResultOf, FormerOf, KeyOf, TagString, Bound, as_key, is_class_value}
use Rattle.es_evaluation.specs.Flat.{single, ends}
use Rattle.es_evaluation.specs.Direct.{State, Step, next, and_then, emit, settled, settle_with, unless_thrown, entered, left, Operands, no_operand, one_operand, two_operands, form, operands, read, write, taken, take, callee, test_with, once_more, all, converted, parts, keys, key, statics, static_element, fields, instance_field, construction, close_callee, opened, closed}
use Rattle.es_evaluation.specs.Direct as direct
use Rattle.es_evaluation.specs.Agreement.{Follows, IsFine, onto, behind_state}
use Rattle.es_evaluation.proofs.Follows.{held_state, bind_at, fine_held, fine_on, follows_as, follows_by, follows_bind, follows_none, follows_gives, follows_event, follows_throw, follows_settle, follows_outside, outside_settled, follows_held, follows_quiet, follows_stays, follows_class, follows_this, follows_given, follows_stands}

-- ---- steps in steps

next-next : {A B C : Type 0} (o : Option (A × State)) (f : A → Step B) (g : B → Step C) → next (next o f) g ≡ next o (λ x. and_then (f x) g)
next-next None f g = refl
next-next (Some p) f g = refl

-- ---- names, private members, writes

generated_follows : (g : GeneratedKind) (x : String) → Follows (of.read_generated g x) (direct.read_generated g x)
generated_follows GeneratedKind.Temp x = follows_given x
generated_follows GeneratedKind.Param x = follows_given x
generated_follows (GeneratedKind.ClassTemp n) x = follows_gives (ClassOf n.0)
generated_follows (GeneratedKind.WeakMap n) x = follows_none
generated_follows (GeneratedKind.StaticField n) x = follows_none
generated_follows (GeneratedKind.Brand n) x = follows_none
generated_follows (GeneratedKind.Method n) x = follows_none
generated_follows (GeneratedKind.LooseKey n) x = follows_none
generated_follows (GeneratedKind.SuperFn n) x = follows_none
generated_follows GeneratedKind.Args x = follows_none
generated_follows GeneratedKind.Closure x = follows_none
generated_follows (GeneratedKind.Private n) x = follows_none

name_follows : (m : ℕ) (x : String) (kind : NameKind) → Follows (of.read_name m x kind) (direct.read_name m x kind)
name_follows m x (Fixed b) = follows_gives (BindingOf b)
name_follows m x (Changing r) = follows_event (ReadName m r) (ResultOf m) (single (ReadName m r)) refl refl
name_follows m x (MeansClass n b) = follows_gives (ClassOf n)
name_follows m x (Generated g) = generated_follows g x
name_follows m x (StaticMethod d n) = follows_event (PrivateGet m d (ClassOf n)) (ResultOf m) (single (PrivateGet m d (ClassOf n))) refl refl

kept_by : (b : Bool) (x : String) (v : Value) → Follows (cond b of.no_meaning (of.stands_for x v)) (cond b direct.no_meaning (direct.stands_for x v))
kept_by true x v = follows_none
kept_by false x v = follows_stands x v

kept_follows : (x : String) (v : Value) → Follows (of.kept_as x v) (direct.kept_as x v)
kept_follows x v = kept_by (of.is_binding_value v) x v

held_by : (b : Bool) (x : String) (v : Value) → Follows (cond b (of.gives v) (of.stands_for x v)) (cond b (direct.gives v) (direct.stands_for x v))
held_by true x v = follows_gives v
held_by false x v = follows_stands x v

element_follows : (x : String) (v : Value) → Follows (of.element_holds x v) (direct.element_holds x v)
element_follows x v = held_by (of.is_binding_value v) x v

given_follows : (m : ℕ) (x : String) (v : Value) → Follows (of.given_as m x v) (direct.given_as m x v)
given_follows m x (KeyOf v) = follows_stands x (cond (of.is_binding_value v) (ResultOf m) (KeyOf v))
given_follows m x (ConstantOf c) = kept_follows x (ConstantOf c)
given_follows m x Undefined = kept_follows x Undefined
given_follows m x (BindingOf b) = kept_follows x (BindingOf b)
given_follows m x (FunctionOf f) = kept_follows x (FunctionOf f)
given_follows m x (ClassOf n) = kept_follows x (ClassOf n)
given_follows m x (ThisOf k) = kept_follows x (ThisOf k)
given_follows m x (ArgumentsOf k) = kept_follows x (ArgumentsOf k)
given_follows m x (NewTargetOf k) = kept_follows x (NewTargetOf k)
given_follows m x (ResultOf k) = kept_follows x (ResultOf k)
given_follows m x (FormerOf k) = kept_follows x (FormerOf k)

write_generated_follows : (m : ℕ) (g : GeneratedKind) (x : String) (v : Value) → Follows (of.write_generated m g x v) (direct.write_generated m g x v)
write_generated_follows m GeneratedKind.Temp x v = given_follows m x v
write_generated_follows m (GeneratedKind.ClassTemp n) x v = follows_none
write_generated_follows m (GeneratedKind.WeakMap n) x v = follows_none
write_generated_follows m (GeneratedKind.StaticField n) x v = follows_none
write_generated_follows m (GeneratedKind.Brand n) x v = follows_none
write_generated_follows m (GeneratedKind.Method n) x v = follows_none
write_generated_follows m (GeneratedKind.LooseKey n) x v = follows_none
write_generated_follows m (GeneratedKind.SuperFn n) x v = follows_none
write_generated_follows m GeneratedKind.Args x v = follows_none
write_generated_follows m GeneratedKind.Closure x v = follows_none
write_generated_follows m (GeneratedKind.Private n) x v = follows_none
write_generated_follows m GeneratedKind.Param x v = follows_none

write_name_follows : (m : ℕ) (x : String) (kind : NameKind) (v : Value) → Follows (of.write_name m x kind v) (direct.write_name m x kind v)
write_name_follows m x (Fixed b) v = follows_event (SetName (Bound b) v) v (single (SetName (Bound b) v)) refl refl
write_name_follows m x (Changing r) v = follows_event (SetName r v) v (single (SetName r v)) refl refl
write_name_follows m x (MeansClass n b) v = follows_throw
write_name_follows m x (Generated g) v = write_generated_follows m g x v
write_name_follows m x (StaticMethod d n) v = follows_none

read_private_follows : (m : ℕ) (reads : Option ℕ) (o : Value) → Follows (of.read_private m reads o) (direct.read_private m reads o)
read_private_follows m None o = follows_throw
read_private_follows m (Some d) o = follows_event (PrivateGet m d o) (ResultOf m) (single (PrivateGet m d o)) refl refl

write_private_follows : (writes : Option ℕ) (o v : Value) → Follows (of.write_private writes o v) (direct.write_private writes o v)
write_private_follows None o v = follows_throw
write_private_follows (Some d) o v = follows_event (PrivateSet d o v) v (single (PrivateSet d o v)) refl refl

initialized_follows : (shape : FieldForm) (o k v : Value) → Follows (of.initialized shape o k v) (direct.initialized shape o k v)
initialized_follows defines o k v = follows_event (Define o (as_key k) v) Undefined (single (Define o (as_key k) v)) refl refl
initialized_follows sets o k v = follows_event (Set o (as_key k) v) Undefined (single (Set o (as_key k) v)) refl refl
initialized_follows leaves_out o k v = follows_gives Undefined

template_event : (m : ℕ) (ts : List TemplateString) (vs : List Value) → Follows (of.event (Operate m (OfKind Kind.TemplateLiteral (template_details ts)) vs) (ResultOf m)) (emit (single (Operate m (OfKind Kind.TemplateLiteral (template_details ts)) vs)) (ResultOf m))
template_event m ts vs = follows_event (Operate m (OfKind Kind.TemplateLiteral (template_details ts)) vs) (ResultOf m) (single (Operate m (OfKind Kind.TemplateLiteral (template_details ts)) vs)) refl refl

template_follows : (m : ℕ) (ts : List TemplateString) (vs : List Value) → Follows (of.ev_template m ts vs) (direct.ev_template m ts vs)
template_follows m [] vs = template_event m [] vs
template_follows m (t ∷ []) [] = follows_gives (ConstantOf (cond t.is_tail (template_constant t.raw t.cooked) (TagString t.raw t.cooked)))
template_follows m (t ∷ []) (v ∷ vs) = template_event m (t ∷ []) (v ∷ vs)
template_follows m (t ∷ u ∷ ts) vs = template_event m (t ∷ u ∷ ts) vs

parameters_follow : (xs : List String) (vs : List Value) → Follows (of.bind_parameters xs vs) (direct.bind_parameters xs vs)
parameters_follow [] [] = follows_gives Undefined
parameters_follow [] (v ∷ vs) = follows_none
parameters_follow (x ∷ xs) [] = follows_none
parameters_follow (x ∷ xs) (v ∷ vs) = follows_bind (of.stands_for x v) (direct.stands_for x v) (λ w. of.bind_parameters xs vs) (λ w. direct.bind_parameters xs vs) (follows_stands x v) (λ w. parameters_follow xs vs)

brand_follows : (b : Bool) (n : ℕ) → Follows (of.brand_first b n) (direct.brand_first b n)
brand_follows true n = follows_event (AddBrand n (ThisOf n)) Undefined (single (AddBrand n (ThisOf n))) refl refl
brand_follows false n = follows_gives Undefined

declared_follows : (declared : Option ℕ) (n : ℕ) → Follows (of.declared_first declared n) (direct.declared_first declared n)
declared_follows None n = follows_gives Undefined
declared_follows (Some b) n = follows_event (InitializeClass n) Undefined (single (InitializeClass n)) refl refl

-- ---- what has its value settled already

settle-given : (o : Option Value) (env : Environment) → of.give_found o env ≡ settle_run (of.give_found o env)
settle-given None env = refl
settle-given (Some v) env = refl

settle-generated : (g : GeneratedKind) (x : String) (env : Environment) → of.read_generated g x env ≡ settle (of.read_generated g x) env
settle-generated GeneratedKind.Temp x env = settle-given (of.found x env) env
settle-generated GeneratedKind.Param x env = settle-given (of.found x env) env
settle-generated (GeneratedKind.ClassTemp n) x env = refl
settle-generated (GeneratedKind.WeakMap n) x env = refl
settle-generated (GeneratedKind.StaticField n) x env = refl
settle-generated (GeneratedKind.Brand n) x env = refl
settle-generated (GeneratedKind.Method n) x env = refl
settle-generated (GeneratedKind.LooseKey n) x env = refl
settle-generated (GeneratedKind.SuperFn n) x env = refl
settle-generated GeneratedKind.Args x env = refl
settle-generated GeneratedKind.Closure x env = refl
settle-generated (GeneratedKind.Private n) x env = refl

settle-name : (m : ℕ) (x : String) (kind : NameKind) (env : Environment) → of.read_name m x kind env ≡ settle (of.read_name m x kind) env
settle-name m x (Fixed b) env = refl
settle-name m x (Changing r) env = refl
settle-name m x (MeansClass n b) env = refl
settle-name m x (Generated g) env = settle-generated g x env
settle-name m x (StaticMethod d n) env = refl

settle-held : (m : ℕ) (p : Place) (asked : Option Value) (env : Environment) (o : Option Run) → of.held_run m p asked env o ≡ settle_run (of.held_run m p asked env o)
settle-held m p asked env None = refl
settle-held m p asked env (Some r) = refl

cond-twice : (b : Bool) (v : Value) → cond b Undefined (cond b Undefined v) ≡ cond b Undefined v
cond-twice true v = refl
cond-twice false v = refl

settled_again : (outer : Bool) (o : Option (Value × State)) → settle_with outer (settle_with false o) ≡ settle_with outer o
settled_again outer None = refl
settled_again outer (Some p) = ap (λ (v : Value). Some (v, left outer p.1)) (cond-twice p.1.has_thrown p.0)

by_class : (outer is : Bool) (v : Value) (t : State) → t.has_thrown ≡ false → settle_with outer (cond (t.has_thrown || is) (Some (v, left false t)) None) ≡ cond (t.has_thrown || is) (Some (v, left outer t)) None
by_class outer true v t h = rw h refl
by_class outer false v t h = rw h refl

class_settled_by : (n : ℕ) (outer thrown : Bool) (v : Value) (t : State) → t.has_thrown ≡ thrown →
    settle_with outer (direct.class_with n false (Some (cond thrown Undefined v, t))) ≡ direct.class_with n outer (Some (cond thrown Undefined v, t))
class_settled_by n outer true v t h = rw h refl
class_settled_by n outer false v t h = by_class outer (is_class_value n v) v t h

class_settled : (n : ℕ) (outer : Bool) (o : Option (Value × State)) → settle_with outer (direct.class_with n false (settle_with false o)) ≡ direct.class_with n outer (settle_with false o)
class_settled n outer None = refl
class_settled n outer (Some p) = class_settled_by n outer p.1.has_thrown p.0 (left false p.1) refl

-- ---- associativity

follows_flat : {A B : Type 0} (a : Evaluation) (d : Step A) (f : A → Step B) (k : B → Step Value) → Follows a (and_then d (λ x. and_then (f x) k)) → Follows a (and_then (and_then d f) k)
follows_flat a d f k h = follows_by a (and_then d (λ x. and_then (f x) k)) (and_then (and_then d f) k) (λ s. next-next (d s) f k) h

test_follows : (o : Evaluation) (d : Step Value) (again : Value → Evaluation) (step : Value → Step Value) (a : Evaluation) (e : Step Value) → Follows o d → ((v : Value) → Follows (again v) (step v)) → Follows a e → Follows (tested_then o again a) (and_then (test_with d step) (λ w. e))
test_follows o d again step a e first second h =
    follows_flat (tested_then o again a) d (λ v. and_then (step v) (λ u. emit (single (Short v)) v)) (λ w. e)
    (follows_bind o d (λ v. bind (again v) (λ u. bind (of.event (Short v) v) (λ w. a))) (λ v. and_then (and_then (step v) (λ u. emit (single (Short v)) v)) (λ w. e)) first
    (λ v. follows_flat (bind (again v) (λ u. bind (of.event (Short v) v) (λ w. a))) (step v) (λ u. emit (single (Short v)) v) (λ w. e)
    (follows_bind (again v) (step v) (λ u. bind (of.event (Short v) v) (λ w. a)) (λ u. and_then (emit (single (Short v)) v) (λ w. e)) (second v)
    (λ u. follows_bind (of.event (Short v) v) (emit (single (Short v)) v) (λ w. a) (λ w. e) (follows_event (Short v) v (single (Short v)) refl refl) (λ w. h)))))

abbrev nullable_step : Option Value → Step Value
nullable_step None = direct.gives Undefined
nullable_step (Some v) = direct.gives v

nullable_follows : (q : Option Value) → Follows (nullable_gives q) (nullable_step q)
nullable_follows None = follows_gives Undefined
nullable_follows (Some v) = follows_gives v

-- ---- targets: a target with the values of its operands is what is ready

module _ (opens : Opened → Evaluation) where
  abbrev pub ready_of : Target → Operands → Ready
  ready_of (to_name m x kind) t = ready_name m x kind
  ready_of (to_member m o k) (two_operands a b) = ready_member m a b
  ready_of (to_private m r o) (one_operand a) = ready_private m r.reads r.writes a
  ready_of (to_super m home k this) (one_operand b) = ready_super m home b this
  ready_of (to_setter m d o) (one_operand a) = ready_setter d a
  ready_of (to_pattern m kind cs) t = ready_pattern (λ v. bind (of.event (Operate m (OfKind kind []) (v ∷ [])) v) (λ u. ev_taken opens v cs))
  ready_of (to_default m to e) t = ready_pattern (λ v. bind (of.held m Default (Some v) (ev opens e)) (λ w. write_ready (ready_of to t) w))
  ready_of to t = ready_pattern (λ v. of.no_meaning)

-- ---- receivers

abbrev is_there : Option Value → Bool
is_there None = false
is_there (Some v) = true

abbrev Marked : Bool → Option ((Value × Option Value) × State) → Type 0
Marked b None = Unit {0}
Marked b (Some p) = is_there p.0.1 ≡ b

marked_next : {A : Type 0} (b : Bool) (o : Option (A × State)) (f : A → Step (Value × Option Value)) → ((x : A) (s : State) → Marked b (f x s)) → Marked b (next o f)
marked_next b None f h = tt
marked_next b (Some p) f h = h p.0 p.1

marked_checked : (b : Bool) (o : Option ((Value × Option Value) × State)) → Marked b o → Marked b (next o (λ c. and_then (emit (single (Short c.0)) c.0) (λ w. direct.gives c)))
marked_checked b None h = tt
marked_checked b (Some p) h = h

there_mapped : (f : Value → Value) (o : Option Value) → is_there (option_map f o) ≡ is_there o
there_mapped f None = refl
there_mapped f (Some v) = refl

marked_closed : (b : Bool) (m : ℕ) (s : State) (o : Option ((Value × Option Value) × State)) → Marked b o → Marked b (close_callee m s o)
marked_closed b m s None h = tt
marked_closed b m s (Some p) h = there_mapped (unless_thrown p.1) p.0.1 ∙ h

marked : (opens_d : Opened → Step Value) (g : Callee) (s : State) → Marked (has_receiver g) (callee opens_d g s)
marked opens_d (plain e) s = marked_next false (settled (form opens_d e) s) (λ v. direct.gives (v, None)) (λ v t. refl)
marked opens_d (on_member m o k) s = marked_next true (settled (form opens_d o) s) (λ a. and_then (settled (form opens_d k)) (λ b. and_then (emit (single (Get m a b)) (ResultOf m)) (λ v. direct.gives (v, Some a)))) (λ a t. marked_next true (settled (form opens_d k) t) (λ b. and_then (emit (single (Get m a b)) (ResultOf m)) (λ v. direct.gives (v, Some a))) (λ b u. refl))
marked opens_d (on_private m r o) s = marked_next true (settled (form opens_d o) s) (λ a. and_then (direct.read_private m r.reads a) (λ v. direct.gives (v, Some a))) (λ a t. marked_next true (direct.read_private m r.reads a t) (λ v. direct.gives (v, Some a)) (λ v u. refl))
marked opens_d (on_super m home k this) s = marked_next true (settled (form opens_d k) s) (λ b. and_then (emit (single (SuperGet m home b this)) (ResultOf m)) (λ v. direct.gives (v, Some this))) (λ b t. refl)
marked opens_d (with_receiver e o) s = marked_next true (settled (form opens_d e) s) (λ v. and_then (settled (form opens_d o)) (λ a. direct.gives (v, Some a))) (λ v t. marked_next true (settled (form opens_d o) t) (λ a. direct.gives (v, Some a)) (λ a u. refl))
marked opens_d (checked g) s = marked_checked (has_receiver g) (callee opens_d g s) (marked opens_d g s)
marked opens_d (on_chain m g) s = marked_closed (has_receiver g) m s (callee opens_d g (opened s)) (marked opens_d g (opened s))
marked opens_d (behind_test o again g) s = marked_next (has_receiver g) (test_with (settled (form opens_d o)) (λ v. once_more opens_d v again) s) (λ w. callee opens_d g) (λ w t. marked opens_d g t)

-- ---- a callee at the end of a chain: by what it gives, and by its receiver

abbrev or_value : Option (Value × State) → Value
or_value None = Undefined
or_value (Some p) = p.0

abbrev or_state : State → Option (Value × State) → State
or_state s None = s
or_state s (Some p) = p.1

receiver_same : (q : Option Value) (t : State) (b : Bool) (s : State) (y : Option Run) → is_there q ≡ b → nullable_step q t ≡ onto (opened s) y → option_map (unless_thrown t) q ≡ receiver_in b y
receiver_same None t b s y h e = ap (λ (x : Bool). receiver_in x y) h
receiver_same (Some a) t b s None h e = absurd (cc)
receiver_same (Some a) t b s (Some z) h e =
    let given : a ≡ z.value = ap or_value e in
    let thrown : t.has_thrown ≡ of_events.throws z.events = ap (λ (o : Option (Value × State)). (or_state s o).has_thrown) e in
    ap₂ (λ (x : Bool) (v : Value). Some (cond x Undefined v)) thrown given ∙ ap (λ (x : Bool). receiver_in x (Some z)) h

ends_chain : (m : ℕ) (s : State) (b : Bool) (f : Value → Option Value → Evaluation) (k : Value × Option Value → Step Value) (o : Option ((Value × Option Value) × State)) (x y : Option Run) →
    Marked b o → ((v : Value) (q : Option Value) → Follows (f v q) (k (v, q))) → IsFine s.names x →
    next o (λ c. direct.gives c.0) ≡ onto (opened s) x → next o (λ c. nullable_step c.1) ≡ onto (opened s) y →
    next (close_callee m s o) k ≡ onto s (go_on (of.held_run m (Part 0) None s.names x) (λ v. f v (receiver_in b y)))
ends_chain m s b f k None None y marks h fine first second = refl
ends_chain m s b f k None (Some r) y marks h fine first second = absurd (cc)
ends_chain m s b f k (Some p) None y marks h fine first second = absurd (cc)
ends_chain m s b f k (Some p) (Some r) y marks h fine first second =
    let state : p.1 ≡ behind_state (opened s) r = ap (or_state s) first in
    let given : p.0.0 ≡ r.value = ap or_value first in
    let receiver : option_map (unless_thrown p.1) p.0.1 ≡ receiver_in b y = receiver_same p.0.1 p.1 b s y marks second in
    let run : Run = record { events = then (Held m (Part 0) None r.events (value_behind r.events r.value)) none; value = ResultOf m; after = s.names } in
    let end : closed s p.1 (ends m (Part 0) None (unless_thrown p.1 p.0.0)) ≡ behind_state s run = ap₂ (λ (t : State) (v : Value). closed s t (ends m (Part 0) None (unless_thrown t v))) state given ∙ held_state m (Part 0) None s r fine in
    ap₂ (λ (q : Option Value) (t : State). k (ResultOf m, q) t) receiver end ∙ bind_at s (Some run) (λ v. f v (receiver_in b y)) (λ v. k (v, receiver_in b y)) (λ v. h v (receiver_in b y))

chain_fine : (m : ℕ) (env : Environment) (b : Bool) (f : Value → Option Value → Evaluation) (k : Value × Option Value → Step Value) (x y : Option Run) → ((v : Value) (q : Option Value) → Follows (f v q) (k (v, q))) → IsFine env x → IsFine env (go_on (of.held_run m (Part 0) None env x) (λ v. f v (receiver_in b y)))
chain_fine m env b f k x y h fine = fine_on env (of.held_run m (Part 0) None env x) (λ v. f v (receiver_in b y)) (fine_held m (Part 0) None env x fine) (λ v e. (h v (receiver_in b y)).fine e)

-- ---- codes

module _ (opens : Opened → Evaluation) (opens_d : Opened → Step Value) (opened_follows : (o : Opened) → Follows (opens o) (opens_d o)) (opened_settled : (n : ℕ) (env : Environment) → settle (opens (InitializersOf n)) env ≡ opens (InitializersOf n) env) where
  behind_follows : (n : ℕ) (o : Option Opened) → Follows (ev_behind opens n o) (direct.ev_behind opens_d n o)
  behind_follows n None = follows_gives (ThisOf n)
  behind_follows n (Some (InitializersOf k)) = follows_bind (opens (InitializersOf k)) (opens_d (InitializersOf k)) (λ w. of.gives (ThisOf n)) (λ w. direct.gives (ThisOf n)) (opened_follows (InitializersOf k)) (λ w. follows_gives (ThisOf n))
  behind_follows n (Some (BodyOf x)) = follows_this n (opens (BodyOf x)) (opens_d (BodyOf x)) (opened_follows (BodyOf x))
  behind_follows n (Some (CalledBodyOf x)) = follows_this n (opens (CalledBodyOf x)) (opens_d (CalledBodyOf x)) (opened_follows (CalledBodyOf x))

  mutual
    pub follows : (c : Code) → Follows (ev opens c) (settled (form opens_d c))
    follows no_rule = follows_as (settle (of.no_meaning)) (of.no_meaning) (settled (direct.no_meaning)) (λ env. refl) (follows_settle (of.no_meaning) (direct.no_meaning) (follows_none))
    follows (spelled x) = follows_as (settle (of.no_meaning)) (of.no_meaning) (settled (direct.no_meaning)) (λ env. refl) (follows_settle (of.no_meaning) (direct.no_meaning) (follows_none))
    follows (private_name d x r) = follows_as (settle (of.no_meaning)) (of.no_meaning) (settled (direct.no_meaning)) (λ env. refl) (follows_settle (of.no_meaning) (direct.no_meaning) (follows_none))
    follows (rest to) = follows_as (settle (of.no_meaning)) (of.no_meaning) (settled (direct.no_meaning)) (λ env. refl) (follows_settle (of.no_meaning) (direct.no_meaning) (follows_none))
    follows super = follows_as (settle (of.no_meaning)) (of.no_meaning) (settled (direct.no_meaning)) (λ env. refl) (follows_settle (of.no_meaning) (direct.no_meaning) (follows_none))
    follows (template_string t) = follows_as (settle (of.no_meaning)) (of.no_meaning) (settled (direct.no_meaning)) (λ env. refl) (follows_settle (of.no_meaning) (direct.no_meaning) (follows_none))
    follows (piece ds es) = follows_as (settle (of.no_meaning)) (of.no_meaning) (settled (direct.no_meaning)) (λ env. refl) (follows_settle (of.no_meaning) (direct.no_meaning) (follows_none))
    follows (takes m ds k to) = follows_as (settle (of.no_meaning)) (of.no_meaning) (settled (direct.no_meaning)) (λ env. refl) (follows_settle (of.no_meaning) (direct.no_meaning) (follows_none))
    follows (new_function f shape ps body) = follows_as (settle (of.no_meaning)) (of.no_meaning) (settled (direct.no_meaning)) (λ env. refl) (follows_settle (of.no_meaning) (direct.no_meaning) (follows_none))
    follows (new_return es) = follows_as (settle (of.no_meaning)) (of.no_meaning) (settled (direct.no_meaning)) (λ env. refl) (follows_settle (of.no_meaning) (direct.no_meaning) (follows_none))
    follows (field is_static shape k e) = follows_as (settle (of.no_meaning)) (of.no_meaning) (settled (direct.no_meaning)) (λ env. refl) (follows_settle (of.no_meaning) (direct.no_meaning) (follows_none))
    follows (private_field is_static d e) = follows_as (settle (of.no_meaning)) (of.no_meaning) (settled (direct.no_meaning)) (λ env. refl) (follows_settle (of.no_meaning) (direct.no_meaning) (follows_none))
    follows (method is_static kind k f) = follows_as (settle (of.no_meaning)) (of.no_meaning) (settled (direct.no_meaning)) (λ env. refl) (follows_settle (of.no_meaning) (direct.no_meaning) (follows_none))
    follows (private_method is_static d f) = follows_as (settle (of.no_meaning)) (of.no_meaning) (settled (direct.no_meaning)) (λ env. refl) (follows_settle (of.no_meaning) (direct.no_meaning) (follows_none))
    follows (constructor f) = follows_as (settle (of.no_meaning)) (of.no_meaning) (settled (direct.no_meaning)) (λ env. refl) (follows_settle (of.no_meaning) (direct.no_meaning) (follows_none))
    follows (static_block es) = follows_as (settle (of.no_meaning)) (of.no_meaning) (settled (direct.no_meaning)) (λ env. refl) (follows_settle (of.no_meaning) (direct.no_meaning) (follows_none))
    follows (generated_element x e) = follows_as (settle (of.no_meaning)) (of.no_meaning) (settled (direct.no_meaning)) (λ env. refl) (follows_settle (of.no_meaning) (direct.no_meaning) (follows_none))
    follows (helper h) = follows_as (settle (of.no_meaning)) (of.no_meaning) (settled (direct.no_meaning)) (λ env. refl) (follows_settle (of.no_meaning) (direct.no_meaning) (follows_none))
    follows (helper_call m h es) = follows_as (settle (of.no_meaning)) (of.no_meaning) (settled (direct.no_meaning)) (λ env. refl) (follows_settle (of.no_meaning) (direct.no_meaning) (follows_none))
    follows (bound f o) = follows_as (settle (of.no_meaning)) (of.no_meaning) (settled (direct.no_meaning)) (λ env. refl) (follows_settle (of.no_meaning) (direct.no_meaning) (follows_none))
    follows (setter m d o) = follows_as (settle (of.no_meaning)) (of.no_meaning) (settled (direct.no_meaning)) (λ env. refl) (follows_settle (of.no_meaning) (direct.no_meaning) (follows_none))
    follows nothing = follows_as (settle (of.gives (Undefined))) (of.gives (Undefined)) (settled (direct.gives (Undefined))) (λ env. refl) (follows_settle (of.gives (Undefined)) (direct.gives (Undefined)) (follows_gives (Undefined)))
    follows (value v) = follows_as (settle (of.gives (v))) (of.gives (v)) (settled (direct.gives (v))) (λ env. refl) (follows_settle (of.gives (v)) (direct.gives (v)) (follows_gives (v)))
    follows (binding b x kind) = follows_as (settle (of.gives (Undefined))) (of.gives (Undefined)) (settled (direct.gives (Undefined))) (λ env. refl) (follows_settle (of.gives (Undefined)) (direct.gives (Undefined)) (follows_gives (Undefined)))
    follows (name m x kind) = follows_as (settle (of.read_name m x kind)) (of.read_name m x kind) (settled (direct.read_name m x kind)) (λ env. settle-name m x kind env) (follows_settle (of.read_name m x kind) (direct.read_name m x kind) (name_follows m x kind))
    follows (member m o k) = follows_settle (bind (ev opens o) (λ a. bind (ev opens k) (λ b. of.event (Get m a b) (ResultOf m)))) (and_then (settled (form opens_d o)) (λ a. and_then (settled (form opens_d k)) (λ b. emit (single (Get m a b)) (ResultOf m)))) (follows_bind (ev opens o) (settled (form opens_d o)) (λ a. bind (ev opens k) (λ b. of.event (Get m a b) (ResultOf m))) (λ a. and_then (settled (form opens_d k)) (λ b. emit (single (Get m a b)) (ResultOf m))) (follows o) (λ a. follows_bind (ev opens k) (settled (form opens_d k)) (λ b. of.event (Get m a b) (ResultOf m)) (λ b. emit (single (Get m a b)) (ResultOf m)) (follows k) (λ b. follows_event (Get m a b) (ResultOf m) (single (Get m a b)) refl refl)))
    follows (private_member m r o) = follows_settle (bind (ev opens o) (λ a. of.read_private m r.reads a)) (and_then (settled (form opens_d o)) (λ a. direct.read_private m r.reads a)) (follows_bind (ev opens o) (settled (form opens_d o)) (λ a. of.read_private m r.reads a) (λ a. direct.read_private m r.reads a) (follows o) (λ a. read_private_follows m r.reads a))
    follows (super_member m home k this) = follows_settle (bind (ev opens k) (λ b. of.event (SuperGet m home b this) (ResultOf m))) (and_then (settled (form opens_d k)) (λ b. emit (single (SuperGet m home b this)) (ResultOf m))) (follows_bind (ev opens k) (settled (form opens_d k)) (λ b. of.event (SuperGet m home b this) (ResultOf m)) (λ b. emit (single (SuperGet m home b this)) (ResultOf m)) (follows k) (λ b. follows_event (SuperGet m home b this) (ResultOf m) (single (SuperGet m home b this)) refl refl))
    follows (private_in m asks o) = follows_settle (bind (ev opens o) (λ a. of.event (PrivateIn m asks a) (ResultOf m))) (and_then (settled (form opens_d o)) (λ a. emit (single (PrivateIn m asks a)) (ResultOf m))) (follows_bind (ev opens o) (settled (form opens_d o)) (λ a. of.event (PrivateIn m asks a) (ResultOf m)) (λ a. emit (single (PrivateIn m asks a)) (ResultOf m)) (follows o) (λ a. follows_event (PrivateIn m asks a) (ResultOf m) (single (PrivateIn m asks a)) refl refl))
    follows (assign to e) = follows_settle (ev_target opens to (λ r. bind (ev opens e) (λ v. bind (write_ready r (v)) (λ w. of.gives (v))))) (and_then (operands opens_d to) (λ t. and_then (settled (form opens_d e)) (λ v. and_then (write opens_d to t (v)) (λ w. direct.gives (v))))) (target_follows to (λ r. bind (ev opens e) (λ v. bind (write_ready r (v)) (λ w. of.gives (v)))) (λ t. and_then (settled (form opens_d e)) (λ v. and_then (write opens_d to t (v)) (λ w. direct.gives (v)))) (λ t. follows_bind (ev opens e) (settled (form opens_d e)) (λ v. bind (write_ready (ready_of opens to t) (v)) (λ w. of.gives (v))) (λ v. and_then (write opens_d to t (v)) (λ w. direct.gives (v))) (follows e) (λ v. follows_bind (write_ready (ready_of opens to t) (v)) (write opens_d to t (v)) (λ w. of.gives (v)) (λ w. direct.gives (v)) (write_follows to t (v)) (λ w. follows_gives (v)))))
    follows (compound m op to e) = follows_settle (ev_target opens to (λ r. bind (settle (bind (read_ready r) (λ a. bind (ev opens e) (λ b. of.event (Operate m (binary op) (a ∷ b ∷ [])) (ResultOf m))))) (λ v. bind (write_ready r v) (λ w. of.gives v)))) (and_then (operands opens_d to) (λ t. and_then (settled (and_then (read opens_d to t) (λ a. and_then (settled (form opens_d e)) (λ b. emit (single (Operate m (binary op) (a ∷ b ∷ []))) (ResultOf m))))) (λ v. and_then (write opens_d to t v) (λ w. direct.gives v)))) (target_follows to (λ r. bind (settle (bind (read_ready r) (λ a. bind (ev opens e) (λ b. of.event (Operate m (binary op) (a ∷ b ∷ [])) (ResultOf m))))) (λ v. bind (write_ready r v) (λ w. of.gives v))) (λ t. and_then (settled (and_then (read opens_d to t) (λ a. and_then (settled (form opens_d e)) (λ b. emit (single (Operate m (binary op) (a ∷ b ∷ []))) (ResultOf m))))) (λ v. and_then (write opens_d to t v) (λ w. direct.gives v))) (λ t. follows_bind (settle (bind (read_ready (ready_of opens to t)) (λ a. bind (ev opens e) (λ b. of.event (Operate m (binary op) (a ∷ b ∷ [])) (ResultOf m))))) (settled (and_then (read opens_d to t) (λ a. and_then (settled (form opens_d e)) (λ b. emit (single (Operate m (binary op) (a ∷ b ∷ []))) (ResultOf m))))) (λ v. bind (write_ready (ready_of opens to t) v) (λ w. of.gives v)) (λ v. and_then (write opens_d to t v) (λ w. direct.gives v)) (follows_settle (bind (read_ready (ready_of opens to t)) (λ a. bind (ev opens e) (λ b. of.event (Operate m (binary op) (a ∷ b ∷ [])) (ResultOf m)))) (and_then (read opens_d to t) (λ a. and_then (settled (form opens_d e)) (λ b. emit (single (Operate m (binary op) (a ∷ b ∷ []))) (ResultOf m)))) (follows_bind (read_ready (ready_of opens to t)) (read opens_d to t) (λ a. bind (ev opens e) (λ b. of.event (Operate m (binary op) (a ∷ b ∷ [])) (ResultOf m))) (λ a. and_then (settled (form opens_d e)) (λ b. emit (single (Operate m (binary op) (a ∷ b ∷ []))) (ResultOf m))) (read_follows to t) (λ a. follows_bind (ev opens e) (settled (form opens_d e)) (λ b. of.event (Operate m (binary op) (a ∷ b ∷ [])) (ResultOf m)) (λ b. emit (single (Operate m (binary op) (a ∷ b ∷ []))) (ResultOf m)) (follows e) (λ b. follows_event (Operate m (binary op) (a ∷ b ∷ [])) (ResultOf m) (single (Operate m (binary op) (a ∷ b ∷ []))) refl refl)))) (λ v. follows_bind (write_ready (ready_of opens to t) v) (write opens_d to t v) (λ w. of.gives v) (λ w. direct.gives v) (write_follows to t v) (λ w. follows_gives v))))
    follows (logical m op l r) = follows_settle (bind (ev opens l) (λ a. of.held m (RightOf op) (Some a) (ev opens r))) (and_then (settled (form opens_d l)) (λ a. direct.held m (RightOf op) (Some a) (settled (form opens_d r)))) (follows_bind (ev opens l) (settled (form opens_d l)) (λ a. of.held m (RightOf op) (Some a) (ev opens r)) (λ a. direct.held m (RightOf op) (Some a) (settled (form opens_d r))) (follows l) (λ a. follows_held m (RightOf op) (Some a) (ev opens r) (settled (form opens_d r)) (follows r)))
    follows (logical_assign m op to e) = follows_settle (ev_target opens to (λ r. bind (read_ready r) (λ a. of.held m (RightOf op) (Some a) (bind (ev opens e) (λ v. write_ready r (v)))))) (and_then (operands opens_d to) (λ t. and_then (read opens_d to t) (λ a. direct.held m (RightOf op) (Some a) (and_then (settled (form opens_d e)) (λ v. write opens_d to t (v)))))) (target_follows to (λ r. bind (read_ready r) (λ a. of.held m (RightOf op) (Some a) (bind (ev opens e) (λ v. write_ready r (v))))) (λ t. and_then (read opens_d to t) (λ a. direct.held m (RightOf op) (Some a) (and_then (settled (form opens_d e)) (λ v. write opens_d to t (v))))) (λ t. follows_bind (read_ready (ready_of opens to t)) (read opens_d to t) (λ a. of.held m (RightOf op) (Some a) (bind (ev opens e) (λ v. write_ready (ready_of opens to t) (v)))) (λ a. direct.held m (RightOf op) (Some a) (and_then (settled (form opens_d e)) (λ v. write opens_d to t (v)))) (read_follows to t) (λ a. follows_held m (RightOf op) (Some a) (bind (ev opens e) (λ v. write_ready (ready_of opens to t) (v))) (and_then (settled (form opens_d e)) (λ v. write opens_d to t (v))) (follows_bind (ev opens e) (settled (form opens_d e)) (λ v. write_ready (ready_of opens to t) (v)) (λ v. write opens_d to t (v)) (follows e) (λ v. write_follows to t (v))))))
    follows (update m op prefix to) = follows_settle (ev_target opens to (λ r. bind (settle (bind (read_ready r) (λ a. of.event (Update m op a) (ResultOf m)))) (λ v. bind (write_ready r v) (λ w. of.gives (new_or_former prefix m))))) (and_then (operands opens_d to) (λ t. and_then (settled (and_then (read opens_d to t) (λ a. emit (single (Update m op a)) (ResultOf m)))) (λ v. and_then (write opens_d to t v) (λ w. direct.gives (new_or_former prefix m))))) (target_follows to (λ r. bind (settle (bind (read_ready r) (λ a. of.event (Update m op a) (ResultOf m)))) (λ v. bind (write_ready r v) (λ w. of.gives (new_or_former prefix m)))) (λ t. and_then (settled (and_then (read opens_d to t) (λ a. emit (single (Update m op a)) (ResultOf m)))) (λ v. and_then (write opens_d to t v) (λ w. direct.gives (new_or_former prefix m)))) (λ t. follows_bind (settle (bind (read_ready (ready_of opens to t)) (λ a. of.event (Update m op a) (ResultOf m)))) (settled (and_then (read opens_d to t) (λ a. emit (single (Update m op a)) (ResultOf m)))) (λ v. bind (write_ready (ready_of opens to t) v) (λ w. of.gives (new_or_former prefix m))) (λ v. and_then (write opens_d to t v) (λ w. direct.gives (new_or_former prefix m))) (follows_settle (bind (read_ready (ready_of opens to t)) (λ a. of.event (Update m op a) (ResultOf m))) (and_then (read opens_d to t) (λ a. emit (single (Update m op a)) (ResultOf m))) (follows_bind (read_ready (ready_of opens to t)) (read opens_d to t) (λ a. of.event (Update m op a) (ResultOf m)) (λ a. emit (single (Update m op a)) (ResultOf m)) (read_follows to t) (λ a. follows_event (Update m op a) (ResultOf m) (single (Update m op a)) refl refl))) (λ v. follows_bind (write_ready (ready_of opens to t) v) (write opens_d to t v) (λ w. of.gives (new_or_former prefix m)) (λ w. direct.gives (new_or_former prefix m)) (write_follows to t v) (λ w. follows_gives (new_or_former prefix m)))))
    follows (call m f es) = follows_settle (ev_callee opens f (λ v q. ev_all opens es (λ vs. of.event (Call m v q vs) (ResultOf m)))) (and_then (callee opens_d f) (λ c. and_then (all opens_d [] es) (λ vs. emit (single (Call m c.0 c.1 vs)) (ResultOf m)))) (callee_follows f (λ v q. ev_all opens es (λ vs. of.event (Call m v q vs) (ResultOf m))) (λ c. and_then (all opens_d [] es) (λ vs. emit (single (Call m c.0 c.1 vs)) (ResultOf m))) (λ v q. all_follows [] es (λ vs. of.event (Call m v q vs) (ResultOf m)) (λ vs. emit (single (Call m v q vs)) (ResultOf m)) (λ vs. follows_event (Call m v q vs) (ResultOf m) (single (Call m v q vs)) refl refl)))
    follows (tag m f ts es) = follows_settle (ev_callee opens f (λ v q. ev_all opens es (λ vs. of.event (Call m v q (tag_values ts vs)) (ResultOf m)))) (and_then (callee opens_d f) (λ c. and_then (all opens_d [] es) (λ vs. emit (single (Call m c.0 c.1 (tag_values ts vs))) (ResultOf m)))) (callee_follows f (λ v q. ev_all opens es (λ vs. of.event (Call m v q (tag_values ts vs)) (ResultOf m))) (λ c. and_then (all opens_d [] es) (λ vs. emit (single (Call m c.0 c.1 (tag_values ts vs))) (ResultOf m))) (λ v q. all_follows [] es (λ vs. of.event (Call m v q (tag_values ts vs)) (ResultOf m)) (λ vs. emit (single (Call m v q (tag_values ts vs))) (ResultOf m)) (λ vs. follows_event (Call m v q (tag_values ts vs)) (ResultOf m) (single (Call m v q (tag_values ts vs))) refl refl)))
    follows (construct m f es) = follows_settle (bind (ev opens f) (λ c. ev_all opens es (λ vs. of.event (Construct m c vs) (ResultOf m)))) (and_then (settled (form opens_d f)) (λ c. and_then (all opens_d [] es) (λ vs. emit (single (Construct m c vs)) (ResultOf m)))) (follows_bind (ev opens f) (settled (form opens_d f)) (λ c. ev_all opens es (λ vs. of.event (Construct m c vs) (ResultOf m))) (λ c. and_then (all opens_d [] es) (λ vs. emit (single (Construct m c vs)) (ResultOf m))) (follows f) (λ c. all_follows [] es (λ vs. of.event (Construct m c vs) (ResultOf m)) (λ vs. emit (single (Construct m c vs)) (ResultOf m)) (λ vs. follows_event (Construct m c vs) (ResultOf m) (single (Construct m c vs)) refl refl)))
    follows (super_call m n o es) = follows_settle (ev_all opens es (λ vs. bind (of.event (SuperCall m n vs) (ThisOf n)) (λ v. ev_behind opens n o))) (and_then (all opens_d [] es) (λ vs. and_then (emit (single (SuperCall m n vs)) (ThisOf n)) (λ v. direct.ev_behind opens_d n o))) (all_follows [] es (λ vs. bind (of.event (SuperCall m n vs) (ThisOf n)) (λ v. ev_behind opens n o)) (λ vs. and_then (emit (single (SuperCall m n vs)) (ThisOf n)) (λ v. direct.ev_behind opens_d n o)) (λ vs. follows_bind (of.event (SuperCall m n vs) (ThisOf n)) (emit (single (SuperCall m n vs)) (ThisOf n)) (λ v. ev_behind opens n o) (λ v. direct.ev_behind opens_d n o) (follows_event (SuperCall m n vs) (ThisOf n) (single (SuperCall m n vs)) refl refl) (λ v. behind_follows n o)))
    follows (super_call_with_all n) = follows_settle (bind (of.event (SuperCallWithAll n) (ThisOf n)) (λ v. bind (opens (InitializersOf n)) (λ w. of.gives (ThisOf n)))) (and_then (emit (single (SuperCallWithAll n)) (ThisOf n)) (λ v. and_then (opens_d (InitializersOf n)) (λ w. direct.gives (ThisOf n)))) (follows_bind (of.event (SuperCallWithAll n) (ThisOf n)) (emit (single (SuperCallWithAll n)) (ThisOf n)) (λ v. bind (opens (InitializersOf n)) (λ w. of.gives (ThisOf n))) (λ v. and_then (opens_d (InitializersOf n)) (λ w. direct.gives (ThisOf n))) (follows_event (SuperCallWithAll n) (ThisOf n) (single (SuperCallWithAll n)) refl refl) (λ v. follows_bind (opens (InitializersOf n)) (opens_d (InitializersOf n)) (λ w. of.gives (ThisOf n)) (λ w. direct.gives (ThisOf n)) (opened_follows (InitializersOf n)) (λ w. follows_gives (ThisOf n))))
    follows (sequence es) = follows_settle (ev_all opens es (λ vs. of.gives (last_of Undefined vs))) (and_then (all opens_d [] es) (λ vs. direct.gives (last_of Undefined vs))) (all_follows [] es (λ vs. of.gives (last_of Undefined vs)) (λ vs. direct.gives (last_of Undefined vs)) (λ vs. follows_gives (last_of Undefined vs)))
    follows (template m ts es) = follows_settle (ev_converted opens m 0 es (λ vs. of.ev_template m ts vs)) (and_then (converted opens_d m 0 [] es) (λ vs. direct.ev_template m ts vs)) (converted_follows m 0 [] es (λ vs. of.ev_template m ts vs) (λ vs. direct.ev_template m ts vs) (λ vs. template_follows m ts vs))
    follows (operation m op es ps) = follows_settle (ev_all opens es (λ vs. ev_held opens m 0 ps (of.event (Operate m op vs) (ResultOf m)))) (and_then (all opens_d [] es) (λ vs. and_then (parts opens_d m 0 ps) (λ u. emit (single (Operate m op vs)) (ResultOf m)))) (all_follows [] es (λ vs. ev_held opens m 0 ps (of.event (Operate m op vs) (ResultOf m))) (λ vs. and_then (parts opens_d m 0 ps) (λ u. emit (single (Operate m op vs)) (ResultOf m))) (λ vs. parts_follow m 0 ps (of.event (Operate m op vs) (ResultOf m)) (emit (single (Operate m op vs)) (ResultOf m)) (follows_event (Operate m op vs) (ResultOf m) (single (Operate m op vs)) refl refl)))
    follows (chain m e) = follows_as (settle (of.held m (Part 0) (None) (ev opens e))) (of.held m (Part 0) (None) (ev opens e)) (settled (direct.held m (Part 0) (None) (settled (form opens_d e)))) (λ env. settle-held m (Part 0) None env (ev opens e env)) (follows_settle (of.held m (Part 0) (None) (ev opens e)) (direct.held m (Part 0) (None) (settled (form opens_d e))) (follows_held m (Part 0) (None) (ev opens e) (settled (form opens_d e)) (follows e)))
    follows (short e) = follows_settle (bind (ev opens e) (λ v. of.event (Short v) (v))) (and_then (settled (form opens_d e)) (λ v. emit (single (Short v)) (v))) (follows_bind (ev opens e) (settled (form opens_d e)) (λ v. of.event (Short v) (v)) (λ v. emit (single (Short v)) (v)) (follows e) (λ v. follows_event (Short v) (v) (single (Short v)) refl refl))
    follows (tested o again e) = follows_settle (tested_then (ev opens o) (λ v. ev_again opens v again) (ev opens e)) (and_then (test_with (settled (form opens_d o)) (λ v. once_more opens_d v again)) (λ w. settled (form opens_d e))) (test_follows (ev opens o) (settled (form opens_d o)) (λ v. ev_again opens v again) (λ v. once_more opens_d v again) (ev opens e) (settled (form opens_d e)) (follows o) (λ v. again_follows v again) (follows e))
    follows (pattern m to) = follows_as (settle (of.no_meaning)) (of.no_meaning) (settled (direct.no_meaning)) (λ env. refl) (follows_settle (of.no_meaning) (direct.no_meaning) (follows_none))
    follows (steps es) = follows_settle (ev_all opens es (λ vs. of.gives (Undefined))) (and_then (all opens_d [] es) (λ vs. direct.gives (Undefined))) (all_follows [] es (λ vs. of.gives (Undefined)) (λ vs. direct.gives (Undefined)) (λ vs. follows_gives (Undefined)))
    follows (gives_to m to) = follows_settle (ev_target opens to (λ r. bind (write_ready r (ResultOf m)) (λ w. of.gives (Undefined)))) (and_then (operands opens_d to) (λ t. and_then (write opens_d to t (ResultOf m)) (λ w. direct.gives (Undefined)))) (target_follows to (λ r. bind (write_ready r (ResultOf m)) (λ w. of.gives (Undefined))) (λ t. and_then (write opens_d to t (ResultOf m)) (λ w. direct.gives (Undefined))) (λ t. follows_bind (write_ready (ready_of opens to t) (ResultOf m)) (write opens_d to t (ResultOf m)) (λ w. of.gives (Undefined)) (λ w. direct.gives (Undefined)) (write_follows to t (ResultOf m)) (λ w. follows_gives (Undefined))))
    follows (export_default e) = follows_settle (bind (ev opens e) (λ v. of.stands_for default_key v)) (and_then (settled (form opens_d e)) (λ v. direct.stands_for default_key v)) (follows_bind (ev opens e) (settled (form opens_d e)) (λ v. of.stands_for default_key v) (λ v. direct.stands_for default_key v) (follows e) (λ v. follows_stands default_key v))
    follows (function f shape own_name ps body) = follows_as (settle (of.gives (FunctionOf f))) (of.gives (FunctionOf f)) (settled (direct.gives (FunctionOf f))) (λ env. refl) (follows_settle (of.gives (FunctionOf f)) (direct.gives (FunctionOf f)) (follows_gives (FunctionOf f)))
    follows (class_code n declared h es) =
        let all_of : Evaluation = ev_all opens h (λ vs. ev_keys opens es (λ ks. bind (of.declared_first declared n) (λ u. bind (ev_statics opens n ks es) (λ w. of.gives (ClassOf n))))) in
        let all_direct : Step Value = and_then (all opens_d [] h) (λ vs. and_then (keys opens_d [] es) (λ ks. and_then (direct.declared_first declared n) (λ u. and_then (statics opens_d n ks es) (λ w. direct.gives (ClassOf n))))) in
        follows_by (of.outside (settle all_of)) (direct.outside (settled all_direct)) (settled (direct.outside all_direct)) (λ s. outside_settled s (all_direct (entered s)))
        (follows_outside (settle all_of) (settled all_direct) (follows_settle all_of all_direct (all_follows [] h (λ vs. ev_keys opens es (λ ks. bind (of.declared_first declared n) (λ u. bind (ev_statics opens n ks es) (λ w. of.gives (ClassOf n))))) (λ vs. and_then (keys opens_d [] es) (λ ks. and_then (direct.declared_first declared n) (λ u. and_then (statics opens_d n ks es) (λ w. direct.gives (ClassOf n))))) (λ vs. keys_follow [] es (λ ks. bind (of.declared_first declared n) (λ u. bind (ev_statics opens n ks es) (λ w. of.gives (ClassOf n)))) (λ ks. and_then (direct.declared_first declared n) (λ u. and_then (statics opens_d n ks es) (λ w. direct.gives (ClassOf n)))) (λ ks. follows_bind (of.declared_first declared n) (direct.declared_first declared n) (λ u. bind (ev_statics opens n ks es) (λ w. of.gives (ClassOf n))) (λ u. and_then (statics opens_d n ks es) (λ w. direct.gives (ClassOf n))) (declared_follows declared n) (λ u. follows_bind (ev_statics opens n ks es) (statics opens_d n ks es) (λ w. of.gives (ClassOf n)) (λ w. direct.gives (ClassOf n)) (statics_follow n ks es) (λ w. follows_gives (ClassOf n))))))))
    follows (from_call e) = follows_by (ev opens e) (settled (form opens_d e)) (settled (settled (form opens_d e))) (λ s. settled_again s.has_thrown (form opens_d e (entered s))) (follows e)
    follows (from_member e) = follows_by (ev opens e) (settled (form opens_d e)) (settled (settled (form opens_d e))) (λ s. settled_again s.has_thrown (form opens_d e (entered s))) (follows e)
    follows (key_of e) = follows_settle (bind (ev opens e) (λ v. of.gives (KeyOf (as_key v)))) (and_then (settled (form opens_d e)) (λ v. direct.gives (KeyOf (as_key v)))) (follows_bind (ev opens e) (settled (form opens_d e)) (λ v. of.gives (KeyOf (as_key v))) (λ v. direct.gives (KeyOf (as_key v))) (follows e) (λ v. follows_gives (KeyOf (as_key v))))
    follows throw = follows_as (settle (of.event Throw Undefined)) (of.event Throw Undefined) (settled (direct.throws)) (λ env. refl) (follows_settle (of.event Throw Undefined) (direct.throws) (follows_throw))
    follows (define m o k e) = follows_settle (bind (ev opens k) (λ a. bind (ev opens e) (λ v. of.event (Define o (as_key a) v) (ResultOf m)))) (and_then (settled (form opens_d k)) (λ a. and_then (settled (form opens_d e)) (λ v. emit (single (Define o (as_key a) v)) (ResultOf m)))) (follows_bind (ev opens k) (settled (form opens_d k)) (λ a. bind (ev opens e) (λ v. of.event (Define o (as_key a) v) (ResultOf m))) (λ a. and_then (settled (form opens_d e)) (λ v. emit (single (Define o (as_key a) v)) (ResultOf m))) (follows k) (λ a. follows_bind (ev opens e) (settled (form opens_d e)) (λ v. of.event (Define o (as_key a) v) (ResultOf m)) (λ v. emit (single (Define o (as_key a) v)) (ResultOf m)) (follows e) (λ v. follows_event (Define o (as_key a) v) (ResultOf m) (single (Define o (as_key a) v)) refl refl)))
    follows (private_initialize m d o e) = follows_settle (bind (ev opens e) (λ v. of.event (PrivateInitialize d o v) (ResultOf m))) (and_then (settled (form opens_d e)) (λ v. emit (single (PrivateInitialize d o v)) (ResultOf m))) (follows_bind (ev opens e) (settled (form opens_d e)) (λ v. of.event (PrivateInitialize d o v) (ResultOf m)) (λ v. emit (single (PrivateInitialize d o v)) (ResultOf m)) (follows e) (λ v. follows_event (PrivateInitialize d o v) (ResultOf m) (single (PrivateInitialize d o v)) refl refl))
    follows (add_brand m n o) = follows_as (settle (of.event (AddBrand n o) (ResultOf m))) (of.event (AddBrand n o) (ResultOf m)) (settled (emit (single (AddBrand n o)) (ResultOf m))) (λ env. refl) (follows_settle (of.event (AddBrand n o) (ResultOf m)) (emit (single (AddBrand n o)) (ResultOf m)) (follows_event (AddBrand n o) (ResultOf m) (single (AddBrand n o)) refl refl))
    follows (private_value x) = follows_as (settle (of.read_given (private_key x))) (of.read_given (private_key x)) (settled (direct.read_given (private_key x))) (λ env. settle-given (of.found (private_key x) env) env) (follows_settle (of.read_given (private_key x)) (direct.read_given (private_key x)) (follows_given (private_key x)))
    follows (call_arrow xs body es) = follows_settle (ev_all opens es (λ vs. bind (of.bind_parameters xs vs) (λ u. ev opens body))) (and_then (all opens_d [] es) (λ vs. and_then (direct.bind_parameters xs vs) (λ u. settled (form opens_d body)))) (all_follows [] es (λ vs. bind (of.bind_parameters xs vs) (λ u. ev opens body)) (λ vs. and_then (direct.bind_parameters xs vs) (λ u. settled (form opens_d body))) (λ vs. follows_bind (of.bind_parameters xs vs) (direct.bind_parameters xs vs) (λ u. ev opens body) (λ u. settled (form opens_d body)) (parameters_follow xs vs) (λ u. follows body)))
    follows (call_closure x es) = follows_settle (ev_all opens es (λ vs. opens (BodyOf x))) (and_then (all opens_d [] es) (λ vs. opens_d (BodyOf x))) (all_follows [] es (λ vs. opens (BodyOf x)) (λ vs. opens_d (BodyOf x)) (λ vs. opened_follows (BodyOf x)))
    follows (initializers n) = follows_as (settle (opens (InitializersOf n))) (opens (InitializersOf n)) (settled (opens_d (InitializersOf n))) (λ env. sym (opened_settled n env)) (follows_settle (opens (InitializersOf n)) (opens_d (InitializersOf n)) (opened_follows (InitializersOf n)))
    follows (give_function m x g f) = follows_as (settle (of.gives (ResultOf m))) (of.gives (ResultOf m)) (settled (direct.gives (ResultOf m))) (λ env. refl) (follows_settle (of.gives (ResultOf m)) (direct.gives (ResultOf m)) (follows_gives (ResultOf m)))
    follows (give_class n e) = follows_by (of.gives_class n (ev opens e)) (direct.gives_class n (settled (form opens_d e))) (settled (direct.gives_class n (settled (form opens_d e)))) (λ s. class_settled n s.has_thrown (form opens_d e (entered s))) (follows_class n (ev opens e) (settled (form opens_d e)) (follows e))

    target_follows : (to : Target) (f : Ready → Evaluation) (g : Operands → Step Value) → ((t : Operands) → Follows (f (ready_of opens to t)) (g t)) → Follows (ev_target opens to f) (and_then (operands opens_d to) g)
    target_follows (to_name m x kind) f g h = h no_operand
    target_follows (to_member m o k) f g h = follows_flat (bind (ev opens o) (λ a. bind (ev opens k) (λ b. f (ready_member m a b)))) (settled (form opens_d o)) (λ a. and_then (settled (form opens_d k)) (λ b. direct.gives (two_operands a b))) g (follows_bind (ev opens o) (settled (form opens_d o)) (λ a. bind (ev opens k) (λ b. f (ready_member m a b))) (λ a. and_then (and_then (settled (form opens_d k)) (λ b. direct.gives (two_operands a b))) g) (follows o) (λ a. follows_flat (bind (ev opens k) (λ b. f (ready_member m a b))) (settled (form opens_d k)) (λ b. direct.gives (two_operands a b)) g (follows_bind (ev opens k) (settled (form opens_d k)) (λ b. f (ready_member m a b)) (λ b. and_then (direct.gives (two_operands a b)) g) (follows k) (λ b. h (two_operands a b)))))
    target_follows (to_private m r o) f g h = follows_flat (bind (ev opens o) (λ a. f (ready_private m r.reads r.writes a))) (settled (form opens_d o)) (λ a. direct.gives (one_operand a)) g (follows_bind (ev opens o) (settled (form opens_d o)) (λ a. f (ready_private m r.reads r.writes a)) (λ a. and_then (direct.gives (one_operand a)) g) (follows o) (λ a. h (one_operand a)))
    target_follows (to_super m home k this) f g h = follows_flat (bind (ev opens k) (λ b. f (ready_super m home b this))) (settled (form opens_d k)) (λ b. direct.gives (one_operand b)) g (follows_bind (ev opens k) (settled (form opens_d k)) (λ b. f (ready_super m home b this)) (λ b. and_then (direct.gives (one_operand b)) g) (follows k) (λ b. h (one_operand b)))
    target_follows (to_setter m d o) f g h = follows_flat (bind (ev opens o) (λ a. f (ready_setter d a))) (settled (form opens_d o)) (λ a. direct.gives (one_operand a)) g (follows_bind (ev opens o) (settled (form opens_d o)) (λ a. f (ready_setter d a)) (λ a. and_then (direct.gives (one_operand a)) g) (follows o) (λ a. h (one_operand a)))
    target_follows (to_pattern m kind cs) f g h = h no_operand
    target_follows (to_default m to e) f g h = target_follows to (λ r. f (ready_pattern (λ v. bind (of.held m Default (Some v) (ev opens e)) (λ w. write_ready r w)))) g h
    target_follows no_target f g h = follows_none

    read_follows : (to : Target) (t : Operands) → Follows (read_ready (ready_of opens to t)) (read opens_d to t)
    read_follows (to_name m x kind) t = name_follows m x kind
    read_follows (to_member m o k) (two_operands a b) = follows_event (Get m a b) (ResultOf m) (single (Get m a b)) refl refl
    read_follows (to_member m o k) no_operand = follows_none
    read_follows (to_member m o k) (one_operand a) = follows_none
    read_follows (to_private m r o) (one_operand a) = read_private_follows m r.reads a
    read_follows (to_private m r o) no_operand = follows_none
    read_follows (to_private m r o) (two_operands a b) = follows_none
    read_follows (to_super m home k this) (one_operand b) = follows_event (SuperGet m home b this) (ResultOf m) (single (SuperGet m home b this)) refl refl
    read_follows (to_super m home k this) no_operand = follows_none
    read_follows (to_super m home k this) (two_operands a b) = follows_none
    read_follows (to_setter m d o) no_operand = follows_none
    read_follows (to_setter m d o) (one_operand a) = follows_none
    read_follows (to_setter m d o) (two_operands a b) = follows_none
    read_follows (to_pattern m kind cs) t = follows_none
    read_follows (to_default m to e) t = follows_none
    read_follows no_target t = follows_none

    write_follows : (to : Target) (t : Operands) (v : Value) → Follows (write_ready (ready_of opens to t) v) (write opens_d to t v)
    write_follows (to_name m x kind) t v = write_name_follows m x kind v
    write_follows (to_member m o k) (two_operands a b) v = follows_event (Set a b v) (v) (single (Set a b v)) refl refl
    write_follows (to_member m o k) no_operand v = follows_none
    write_follows (to_member m o k) (one_operand a) v = follows_none
    write_follows (to_private m r o) (one_operand a) v = write_private_follows r.writes a v
    write_follows (to_private m r o) no_operand v = follows_none
    write_follows (to_private m r o) (two_operands a b) v = follows_none
    write_follows (to_super m home k this) (one_operand b) v = follows_event (SuperSet home b v this) (v) (single (SuperSet home b v this)) refl refl
    write_follows (to_super m home k this) no_operand v = follows_none
    write_follows (to_super m home k this) (two_operands a b) v = follows_none
    write_follows (to_setter m d o) (one_operand a) v = follows_event (PrivateSet d a v) (v) (single (PrivateSet d a v)) refl refl
    write_follows (to_setter m d o) no_operand v = follows_none
    write_follows (to_setter m d o) (two_operands a b) v = follows_none
    write_follows (to_pattern m kind cs) t v = follows_bind (of.event (Operate m (OfKind kind []) (v ∷ [])) (v)) (emit (single (Operate m (OfKind kind []) (v ∷ []))) (v)) (λ u. ev_taken opens v cs) (λ u. taken opens_d v cs) (follows_event (Operate m (OfKind kind []) (v ∷ [])) (v) (single (Operate m (OfKind kind []) (v ∷ []))) refl refl) (λ u. taken_follows v cs)
    write_follows (to_default m to e) t v = follows_bind (of.held m (Default) (Some v) (ev opens e)) (direct.held m (Default) (Some v) (settled (form opens_d e))) (λ w. write_ready (ready_of opens to t) w) (λ w. write opens_d to t w) (follows_held m (Default) (Some v) (ev opens e) (settled (form opens_d e)) (follows e)) (λ w. write_follows to t w)
    write_follows no_target t v = follows_none

    taken_follows : (v : Value) (cs : Codes) → Follows (ev_taken opens v cs) (taken opens_d v cs)
    taken_follows v done = follows_gives Undefined
    taken_follows v (and c cs) = follows_bind (ev_take opens v c) (take opens_d v c) (λ u. ev_taken opens v cs) (λ u. taken opens_d v cs) (take_follows v c) (λ u. taken_follows v cs)

    take_follows : (v : Value) (c : Code) → Follows (ev_take opens v c) (take opens_d v c)
    take_follows v (takes m ds k to) = all_follows [] k (λ ks. ev_target opens to (λ r. bind (of.event (Operate m (Take ds) (v ∷ ks)) (ResultOf m)) (λ w. write_ready r (w)))) (λ ks. and_then (operands opens_d to) (λ t. and_then (emit (single (Operate m (Take ds) (v ∷ ks))) (ResultOf m)) (λ w. write opens_d to t (w)))) (λ ks. target_follows to (λ r. bind (of.event (Operate m (Take ds) (v ∷ ks)) (ResultOf m)) (λ w. write_ready r (w))) (λ t. and_then (emit (single (Operate m (Take ds) (v ∷ ks))) (ResultOf m)) (λ w. write opens_d to t (w))) (λ t. follows_bind (of.event (Operate m (Take ds) (v ∷ ks)) (ResultOf m)) (emit (single (Operate m (Take ds) (v ∷ ks))) (ResultOf m)) (λ w. write_ready (ready_of opens to t) (w)) (λ w. write opens_d to t (w)) (follows_event (Operate m (Take ds) (v ∷ ks)) (ResultOf m) (single (Operate m (Take ds) (v ∷ ks))) refl refl) (λ w. write_follows to t (w))))
    take_follows v (operation m op done done) = follows_event (Operate m op (v ∷ [])) (Undefined) (single (Operate m op (v ∷ []))) refl refl
    take_follows v (operation m op done (and e es)) = follows_none
    take_follows v (operation m op (and e es) ps) = follows_none
    take_follows v nothing = follows_none
    take_follows v no_rule = follows_none
    take_follows v (value x0) = follows_none
    take_follows v (spelled x0) = follows_none
    take_follows v (private_name x0 x1 x2) = follows_none
    take_follows v (binding x0 x1 x2) = follows_none
    take_follows v (rest x0) = follows_none
    take_follows v (name x0 x1 x2) = follows_none
    take_follows v super = follows_none
    take_follows v (member x0 x1 x2) = follows_none
    take_follows v (private_member x0 x1 x2) = follows_none
    take_follows v (super_member x0 x1 x2 x3) = follows_none
    take_follows v (private_in x0 x1 x2) = follows_none
    take_follows v (assign x0 x1) = follows_none
    take_follows v (compound x0 x1 x2 x3) = follows_none
    take_follows v (logical x0 x1 x2 x3) = follows_none
    take_follows v (logical_assign x0 x1 x2 x3) = follows_none
    take_follows v (update x0 x1 x2 x3) = follows_none
    take_follows v (call x0 x1 x2) = follows_none
    take_follows v (tag x0 x1 x2 x3) = follows_none
    take_follows v (construct x0 x1 x2) = follows_none
    take_follows v (super_call x0 x1 x2 x3) = follows_none
    take_follows v (super_call_with_all x0) = follows_none
    take_follows v (sequence x0) = follows_none
    take_follows v (template_string x0) = follows_none
    take_follows v (template x0 x1 x2) = follows_none
    take_follows v (piece x0 x1) = follows_none
    take_follows v (chain x0 x1) = follows_none
    take_follows v (short x0) = follows_none
    take_follows v (tested x0 x1 x2) = follows_none
    take_follows v (pattern x0 x1) = follows_none
    take_follows v (steps x0) = follows_none
    take_follows v (gives_to x0 x1) = follows_none
    take_follows v (export_default x0) = follows_none
    take_follows v (function x0 x1 x2 x3 x4) = follows_none
    take_follows v (new_function x0 x1 x2 x3) = follows_none
    take_follows v (new_return x0) = follows_none
    take_follows v (class_code x0 x1 x2 x3) = follows_none
    take_follows v (field x0 x1 x2 x3) = follows_none
    take_follows v (private_field x0 x1 x2) = follows_none
    take_follows v (method x0 x1 x2 x3) = follows_none
    take_follows v (private_method x0 x1 x2) = follows_none
    take_follows v (constructor x0) = follows_none
    take_follows v (static_block x0) = follows_none
    take_follows v (generated_element x0 x1) = follows_none
    take_follows v (from_call x0) = follows_none
    take_follows v (from_member x0) = follows_none
    take_follows v (key_of x0) = follows_none
    take_follows v (helper x0) = follows_none
    take_follows v (helper_call x0 x1 x2) = follows_none
    take_follows v throw = follows_none
    take_follows v (define x0 x1 x2 x3) = follows_none
    take_follows v (private_initialize x0 x1 x2 x3) = follows_none
    take_follows v (add_brand x0 x1 x2) = follows_none
    take_follows v (bound x0 x1) = follows_none
    take_follows v (setter x0 x1 x2) = follows_none
    take_follows v (private_value x0) = follows_none
    take_follows v (call_arrow x0 x1 x2) = follows_none
    take_follows v (call_closure x0 x1) = follows_none
    take_follows v (initializers x0) = follows_none
    take_follows v (give_function x0 x1 x2 x3) = follows_none
    take_follows v (give_class x0 x1) = follows_none

    callee_follows : (g : Callee) (f : Value → Option Value → Evaluation) (k : Value × Option Value → Step Value) → ((v : Value) (q : Option Value) → Follows (f v q) (k (v, q))) → Follows (ev_callee opens g f) (and_then (callee opens_d g) k)
    callee_follows (plain e) f kk h = follows_flat (bind (ev opens e) (λ v. f v None)) (settled (form opens_d e)) (λ v. direct.gives ((v, None))) kk (follows_bind (ev opens e) (settled (form opens_d e)) (λ v. f v None) (λ v. and_then (direct.gives ((v, None))) kk) (follows e) (λ v. h v None))
    callee_follows (on_member m o k) f kk h = follows_flat (bind (ev opens o) (λ a. bind (ev opens k) (λ b. bind (of.event (Get m a b) (ResultOf m)) (λ v. f v (Some a))))) (settled (form opens_d o)) (λ a. and_then (settled (form opens_d k)) (λ b. and_then (emit (single (Get m a b)) (ResultOf m)) (λ v. direct.gives ((v, Some a))))) kk (follows_bind (ev opens o) (settled (form opens_d o)) (λ a. bind (ev opens k) (λ b. bind (of.event (Get m a b) (ResultOf m)) (λ v. f v (Some a)))) (λ a. and_then (and_then (settled (form opens_d k)) (λ b. and_then (emit (single (Get m a b)) (ResultOf m)) (λ v. direct.gives ((v, Some a))))) kk) (follows o) (λ a. follows_flat (bind (ev opens k) (λ b. bind (of.event (Get m a b) (ResultOf m)) (λ v. f v (Some a)))) (settled (form opens_d k)) (λ b. and_then (emit (single (Get m a b)) (ResultOf m)) (λ v. direct.gives ((v, Some a)))) kk (follows_bind (ev opens k) (settled (form opens_d k)) (λ b. bind (of.event (Get m a b) (ResultOf m)) (λ v. f v (Some a))) (λ b. and_then (and_then (emit (single (Get m a b)) (ResultOf m)) (λ v. direct.gives ((v, Some a)))) kk) (follows k) (λ b. follows_flat (bind (of.event (Get m a b) (ResultOf m)) (λ v. f v (Some a))) (emit (single (Get m a b)) (ResultOf m)) (λ v. direct.gives ((v, Some a))) kk (follows_bind (of.event (Get m a b) (ResultOf m)) (emit (single (Get m a b)) (ResultOf m)) (λ v. f v (Some a)) (λ v. and_then (direct.gives ((v, Some a))) kk) (follows_event (Get m a b) (ResultOf m) (single (Get m a b)) refl refl) (λ v. h v (Some a)))))))
    callee_follows (on_private m r o) f kk h = follows_flat (bind (ev opens o) (λ a. bind (of.read_private m r.reads a) (λ v. f v (Some a)))) (settled (form opens_d o)) (λ a. and_then (direct.read_private m r.reads a) (λ v. direct.gives ((v, Some a)))) kk (follows_bind (ev opens o) (settled (form opens_d o)) (λ a. bind (of.read_private m r.reads a) (λ v. f v (Some a))) (λ a. and_then (and_then (direct.read_private m r.reads a) (λ v. direct.gives ((v, Some a)))) kk) (follows o) (λ a. follows_flat (bind (of.read_private m r.reads a) (λ v. f v (Some a))) (direct.read_private m r.reads a) (λ v. direct.gives ((v, Some a))) kk (follows_bind (of.read_private m r.reads a) (direct.read_private m r.reads a) (λ v. f v (Some a)) (λ v. and_then (direct.gives ((v, Some a))) kk) (read_private_follows m r.reads a) (λ v. h v (Some a)))))
    callee_follows (on_super m home k this) f kk h = follows_flat (bind (ev opens k) (λ b. bind (of.event (SuperGet m home b this) (ResultOf m)) (λ v. f v (Some this)))) (settled (form opens_d k)) (λ b. and_then (emit (single (SuperGet m home b this)) (ResultOf m)) (λ v. direct.gives ((v, Some this)))) kk (follows_bind (ev opens k) (settled (form opens_d k)) (λ b. bind (of.event (SuperGet m home b this) (ResultOf m)) (λ v. f v (Some this))) (λ b. and_then (and_then (emit (single (SuperGet m home b this)) (ResultOf m)) (λ v. direct.gives ((v, Some this)))) kk) (follows k) (λ b. follows_flat (bind (of.event (SuperGet m home b this) (ResultOf m)) (λ v. f v (Some this))) (emit (single (SuperGet m home b this)) (ResultOf m)) (λ v. direct.gives ((v, Some this))) kk (follows_bind (of.event (SuperGet m home b this) (ResultOf m)) (emit (single (SuperGet m home b this)) (ResultOf m)) (λ v. f v (Some this)) (λ v. and_then (direct.gives ((v, Some this))) kk) (follows_event (SuperGet m home b this) (ResultOf m) (single (SuperGet m home b this)) refl refl) (λ v. h v (Some this)))))
    callee_follows (with_receiver e o) f kk h = follows_flat (bind (ev opens e) (λ v. bind (ev opens o) (λ a. f v (Some a)))) (settled (form opens_d e)) (λ v. and_then (settled (form opens_d o)) (λ a. direct.gives ((v, Some a)))) kk (follows_bind (ev opens e) (settled (form opens_d e)) (λ v. bind (ev opens o) (λ a. f v (Some a))) (λ v. and_then (and_then (settled (form opens_d o)) (λ a. direct.gives ((v, Some a)))) kk) (follows e) (λ v. follows_flat (bind (ev opens o) (λ a. f v (Some a))) (settled (form opens_d o)) (λ a. direct.gives ((v, Some a))) kk (follows_bind (ev opens o) (settled (form opens_d o)) (λ a. f v (Some a)) (λ a. and_then (direct.gives ((v, Some a))) kk) (follows o) (λ a. h v (Some a)))))
    callee_follows (checked g) f kk h = follows_flat (ev_callee opens (checked g) f) (callee opens_d g) (λ c. and_then (emit (single (Short c.0)) c.0) (λ w. direct.gives c)) kk
        (callee_follows g (λ v q. bind (of.event (Short v) v) (λ w. f v q)) (λ c. and_then (and_then (emit (single (Short c.0)) c.0) (λ w. direct.gives c)) kk)
        (λ v q. follows_flat (bind (of.event (Short v) v) (λ w. f v q)) (emit (single (Short v)) v) (λ w. direct.gives (v, q)) kk (follows_bind (of.event (Short v) v) (emit (single (Short v)) v) (λ w. f v q) (λ w. kk (v, q)) (follows_event (Short v) v (single (Short v)) refl refl) (λ w. h v q))))
    callee_follows (on_chain m g) f kk h =
        let first = callee_follows g (λ v q. of.gives v) (λ c. direct.gives c.0) (λ v q. follows_gives v) in
        let second = callee_follows g (λ v q. nullable_gives q) (λ c. nullable_step c.1) (λ v q. nullable_follows q) in
        record {
          same = λ s. ends_chain m s (has_receiver g) f kk (callee opens_d g (opened s)) (ev_callee opens g (λ v q. of.gives v) s.names) (ev_callee opens g (λ v q. nullable_gives q) s.names) (marked opens_d g (opened s)) h (first.fine s.names) (first.same (opened s)) (second.same (opened s));
          fine = λ env. chain_fine m env (has_receiver g) f kk (ev_callee opens g (λ v q. of.gives v) env) (ev_callee opens g (λ v q. nullable_gives q) env) h (first.fine env);
        }
    callee_follows (behind_test o again g) f kk h = follows_flat (ev_callee opens (behind_test o again g) f) (test_with (settled (form opens_d o)) (λ v. once_more opens_d v again)) (λ w. callee opens_d g) kk
        (test_follows (ev opens o) (settled (form opens_d o)) (λ v. ev_again opens v again) (λ v. once_more opens_d v again) (ev_callee opens g f) (and_then (callee opens_d g) kk) (follows o) (λ v. again_follows v again) (callee_follows g f kk h))

    again_follows : (v : Value) (again : Codes) → Follows (ev_again opens v again) (once_more opens_d v again)
    again_follows v done = follows_gives Undefined
    again_follows v (and c cs) = follows_stays v (ev opens c) (settled (form opens_d c)) (follows c)

    converted_follows : (m i : ℕ) (vs : List Value) (es : Codes) (f : List Value → Evaluation) (g : List Value → Step Value) → ((ws : List Value) → Follows (f ws) (g (vs ++ ws))) → Follows (ev_converted opens m i es f) (and_then (converted opens_d m i vs es) g)
    converted_follows m i vs done f g h = subst (λ (ws : List Value). Follows (f []) (g ws)) (append-nil vs) (h [])
    converted_follows m i vs (and e es) f g h =
        follows_flat (ev_converted opens m i (and e es) f) (settled (form opens_d e)) (λ v. and_then (emit (single (Operate m (Take (Index i ∷ [])) (v ∷ []))) v) (λ w. converted opens_d m (suc i) (vs ++ v ∷ []) es)) g
        (follows_bind (ev opens e) (settled (form opens_d e)) (λ v. bind (of.event (Operate m (Take (Index i ∷ [])) (v ∷ [])) v) (λ w. ev_converted opens m (suc i) es (λ ws. f (v ∷ ws)))) (λ v. and_then (and_then (emit (single (Operate m (Take (Index i ∷ [])) (v ∷ []))) v) (λ w. converted opens_d m (suc i) (vs ++ v ∷ []) es)) g) (follows e)
        (λ v. follows_flat (bind (of.event (Operate m (Take (Index i ∷ [])) (v ∷ [])) v) (λ w. ev_converted opens m (suc i) es (λ ws. f (v ∷ ws)))) (emit (single (Operate m (Take (Index i ∷ [])) (v ∷ []))) v) (λ w. converted opens_d m (suc i) (vs ++ v ∷ []) es) g
        (follows_bind (of.event (Operate m (Take (Index i ∷ [])) (v ∷ [])) v) (emit (single (Operate m (Take (Index i ∷ [])) (v ∷ []))) v) (λ w. ev_converted opens m (suc i) es (λ ws. f (v ∷ ws))) (λ w. and_then (converted opens_d m (suc i) (vs ++ v ∷ []) es) g) (follows_event (Operate m (Take (Index i ∷ [])) (v ∷ [])) v (single (Operate m (Take (Index i ∷ [])) (v ∷ []))) refl refl)
        (λ w. converted_follows m (suc i) (vs ++ v ∷ []) es (λ ws. f (v ∷ ws)) g (λ ws. subst (λ (us : List Value). Follows (f (v ∷ ws)) (g us)) (sym (append_assoc vs (v ∷ []) ws)) (h (v ∷ ws)))))))

    all_follows : (vs : List Value) (es : Codes) (f : List Value → Evaluation) (g : List Value → Step Value) → ((ws : List Value) → Follows (f ws) (g (vs ++ ws))) → Follows (ev_all opens es f) (and_then (all opens_d vs es) g)
    all_follows vs done f g h = subst (λ (ws : List Value). Follows (f []) (g ws)) (append-nil vs) (h [])
    all_follows vs (and e es) f g h =
        follows_flat (ev_all opens (and e es) f) (settled (form opens_d e)) (λ v. all opens_d (vs ++ v ∷ []) es) g
        (follows_bind (ev opens e) (settled (form opens_d e)) (λ v. ev_all opens es (λ ws. f (v ∷ ws))) (λ v. and_then (all opens_d (vs ++ v ∷ []) es) g) (follows e)
        (λ v. all_follows (vs ++ v ∷ []) es (λ ws. f (v ∷ ws)) g (λ ws. subst (λ (us : List Value). Follows (f (v ∷ ws)) (g us)) (sym (append_assoc vs (v ∷ []) ws)) (h (v ∷ ws)))))

    parts_follow : (m i : ℕ) (es : Codes) (a : Evaluation) (d : Step Value) → Follows a d → Follows (ev_held opens m i es a) (and_then (parts opens_d m i es) (λ u. d))
    parts_follow m i done a d h = h
    parts_follow m i (and e es) a d h =
        follows_flat (ev_held opens m i (and e es) a) (direct.held m (Part i) None (settled (form opens_d e))) (λ v. parts opens_d m (suc i) es) (λ u. d)
        (follows_bind (of.held m (Part i) None (ev opens e)) (direct.held m (Part i) None (settled (form opens_d e))) (λ v. ev_held opens m (suc i) es a) (λ v. and_then (parts opens_d m (suc i) es) (λ u. d)) (follows_held m (Part i) None (ev opens e) (settled (form opens_d e)) (follows e))
        (λ v. parts_follow m (suc i) es a d h))

    keys_follow : (vs : List Value) (es : Codes) (f : List Value → Evaluation) (g : List Value → Step Value) → ((ws : List Value) → Follows (f ws) (g (vs ++ ws))) → Follows (ev_keys opens es f) (and_then (keys opens_d vs es) g)
    keys_follow vs done f g h = subst (λ (ws : List Value). Follows (f []) (g ws)) (append-nil vs) (h [])
    keys_follow vs (and e es) f g h =
        follows_flat (ev_keys opens (and e es) f) (key opens_d e) (λ v. keys opens_d (vs ++ v ∷ []) es) g
        (follows_bind (ev_key opens e) (key opens_d e) (λ v. ev_keys opens es (λ ws. f (v ∷ ws))) (λ v. and_then (keys opens_d (vs ++ v ∷ []) es) g) (key_follows e)
        (λ v. keys_follow (vs ++ v ∷ []) es (λ ws. f (v ∷ ws)) g (λ ws. subst (λ (us : List Value). Follows (f (v ∷ ws)) (g us)) (sym (append_assoc vs (v ∷ []) ws)) (h (v ∷ ws)))))

    key_follows : (e : Code) → Follows (ev_key opens e) (key opens_d e)
    key_follows (field is_static shape k e) = follows k
    key_follows (method is_static kind k f) = follows k
    key_follows nothing = follows_none
    key_follows no_rule = follows_none
    key_follows (value x0) = follows_none
    key_follows (spelled x0) = follows_none
    key_follows (private_name x0 x1 x2) = follows_none
    key_follows (binding x0 x1 x2) = follows_none
    key_follows (rest x0) = follows_none
    key_follows (name x0 x1 x2) = follows_none
    key_follows super = follows_none
    key_follows (member x0 x1 x2) = follows_none
    key_follows (private_member x0 x1 x2) = follows_none
    key_follows (super_member x0 x1 x2 x3) = follows_none
    key_follows (private_in x0 x1 x2) = follows_none
    key_follows (assign x0 x1) = follows_none
    key_follows (compound x0 x1 x2 x3) = follows_none
    key_follows (logical x0 x1 x2 x3) = follows_none
    key_follows (logical_assign x0 x1 x2 x3) = follows_none
    key_follows (update x0 x1 x2 x3) = follows_none
    key_follows (call x0 x1 x2) = follows_none
    key_follows (tag x0 x1 x2 x3) = follows_none
    key_follows (construct x0 x1 x2) = follows_none
    key_follows (super_call x0 x1 x2 x3) = follows_none
    key_follows (super_call_with_all x0) = follows_none
    key_follows (sequence x0) = follows_none
    key_follows (template_string x0) = follows_none
    key_follows (template x0 x1 x2) = follows_none
    key_follows (operation x0 x1 x2 x3) = follows_none
    key_follows (piece x0 x1) = follows_none
    key_follows (chain x0 x1) = follows_none
    key_follows (short x0) = follows_none
    key_follows (tested x0 x1 x2) = follows_none
    key_follows (pattern x0 x1) = follows_none
    key_follows (takes x0 x1 x2 x3) = follows_none
    key_follows (steps x0) = follows_none
    key_follows (gives_to x0 x1) = follows_none
    key_follows (export_default x0) = follows_none
    key_follows (function x0 x1 x2 x3 x4) = follows_none
    key_follows (new_function x0 x1 x2 x3) = follows_none
    key_follows (new_return x0) = follows_none
    key_follows (class_code x0 x1 x2 x3) = follows_none
    key_follows (private_field x0 x1 x2) = follows_gives Undefined
    key_follows (private_method x0 x1 x2) = follows_gives Undefined
    key_follows (constructor x0) = follows_gives Undefined
    key_follows (static_block x0) = follows_gives Undefined
    key_follows (generated_element x0 x1) = follows_gives Undefined
    key_follows (from_call x0) = follows_none
    key_follows (from_member x0) = follows_none
    key_follows (key_of x0) = follows_none
    key_follows (helper x0) = follows_none
    key_follows (helper_call x0 x1 x2) = follows_none
    key_follows throw = follows_none
    key_follows (define x0 x1 x2 x3) = follows_none
    key_follows (private_initialize x0 x1 x2 x3) = follows_none
    key_follows (add_brand x0 x1 x2) = follows_none
    key_follows (bound x0 x1) = follows_none
    key_follows (setter x0 x1 x2) = follows_none
    key_follows (private_value x0) = follows_none
    key_follows (call_arrow x0 x1 x2) = follows_none
    key_follows (call_closure x0 x1) = follows_none
    key_follows (initializers x0) = follows_none
    key_follows (give_function x0 x1 x2 x3) = follows_none
    key_follows (give_class x0 x1) = follows_none

    statics_follow : (n : ℕ) (ks : List Value) (es : Codes) → Follows (ev_statics opens n ks es) (statics opens_d n ks es)
    statics_follow n [] es = follows_gives Undefined
    statics_follow n (k ∷ ks) done = follows_gives Undefined
    statics_follow n (k ∷ ks) (and e es) = follows_bind (ev_static opens n k e) (static_element opens_d n k e) (λ v. ev_statics opens n ks es) (λ v. statics opens_d n ks es) (static_follows n k e) (λ v. statics_follow n ks es)

    static_follows : (n : ℕ) (a : Value) (e : Code) → Follows (ev_static opens n a e) (static_element opens_d n a e)
    static_follows n a (field true shape k e) = follows_bind (ev opens e) (settled (form opens_d e)) (λ v. of.initialized shape (ClassOf n) a v) (λ v. direct.initialized shape (ClassOf n) a v) (follows e) (λ v. initialized_follows shape (ClassOf n) a v)
    static_follows n a (field false shape k e) = follows_gives Undefined
    static_follows n a (private_field true d e) = follows_bind (ev opens e) (settled (form opens_d e)) (λ v. of.event (PrivateInitialize d (ClassOf n) v) (Undefined)) (λ v. emit (single (PrivateInitialize d (ClassOf n) v)) (Undefined)) (follows e) (λ v. follows_event (PrivateInitialize d (ClassOf n) v) (Undefined) (single (PrivateInitialize d (ClassOf n) v)) refl refl)
    static_follows n a (private_field false d e) = follows_gives Undefined
    static_follows n a (static_block es) = all_follows [] es (λ vs. of.gives (Undefined)) (λ vs. direct.gives (Undefined)) (λ vs. follows_gives (Undefined))
    static_follows n a (generated_element x e) = follows_bind (ev opens e) (settled (form opens_d e)) (λ v. of.element_holds (private_key x) v) (λ v. direct.element_holds (private_key x) v) (follows e) (λ v. element_follows (private_key x) v)
    static_follows n a nothing = follows_gives Undefined
    static_follows n a no_rule = follows_gives Undefined
    static_follows n a (value x0) = follows_gives Undefined
    static_follows n a (spelled x0) = follows_gives Undefined
    static_follows n a (private_name x0 x1 x2) = follows_gives Undefined
    static_follows n a (binding x0 x1 x2) = follows_gives Undefined
    static_follows n a (rest x0) = follows_gives Undefined
    static_follows n a (name x0 x1 x2) = follows_gives Undefined
    static_follows n a super = follows_gives Undefined
    static_follows n a (member x0 x1 x2) = follows_gives Undefined
    static_follows n a (private_member x0 x1 x2) = follows_gives Undefined
    static_follows n a (super_member x0 x1 x2 x3) = follows_gives Undefined
    static_follows n a (private_in x0 x1 x2) = follows_gives Undefined
    static_follows n a (assign x0 x1) = follows_gives Undefined
    static_follows n a (compound x0 x1 x2 x3) = follows_gives Undefined
    static_follows n a (logical x0 x1 x2 x3) = follows_gives Undefined
    static_follows n a (logical_assign x0 x1 x2 x3) = follows_gives Undefined
    static_follows n a (update x0 x1 x2 x3) = follows_gives Undefined
    static_follows n a (call x0 x1 x2) = follows_gives Undefined
    static_follows n a (tag x0 x1 x2 x3) = follows_gives Undefined
    static_follows n a (construct x0 x1 x2) = follows_gives Undefined
    static_follows n a (super_call x0 x1 x2 x3) = follows_gives Undefined
    static_follows n a (super_call_with_all x0) = follows_gives Undefined
    static_follows n a (sequence x0) = follows_gives Undefined
    static_follows n a (template_string x0) = follows_gives Undefined
    static_follows n a (template x0 x1 x2) = follows_gives Undefined
    static_follows n a (operation x0 x1 x2 x3) = follows_gives Undefined
    static_follows n a (piece x0 x1) = follows_gives Undefined
    static_follows n a (chain x0 x1) = follows_gives Undefined
    static_follows n a (short x0) = follows_gives Undefined
    static_follows n a (tested x0 x1 x2) = follows_gives Undefined
    static_follows n a (pattern x0 x1) = follows_gives Undefined
    static_follows n a (takes x0 x1 x2 x3) = follows_gives Undefined
    static_follows n a (steps x0) = follows_gives Undefined
    static_follows n a (gives_to x0 x1) = follows_gives Undefined
    static_follows n a (export_default x0) = follows_gives Undefined
    static_follows n a (function x0 x1 x2 x3 x4) = follows_gives Undefined
    static_follows n a (new_function x0 x1 x2 x3) = follows_gives Undefined
    static_follows n a (new_return x0) = follows_gives Undefined
    static_follows n a (class_code x0 x1 x2 x3) = follows_gives Undefined
    static_follows n a (method x0 x1 x2 x3) = follows_gives Undefined
    static_follows n a (private_method x0 x1 x2) = follows_gives Undefined
    static_follows n a (constructor x0) = follows_gives Undefined
    static_follows n a (from_call x0) = follows_gives Undefined
    static_follows n a (from_member x0) = follows_gives Undefined
    static_follows n a (key_of x0) = follows_gives Undefined
    static_follows n a (helper x0) = follows_gives Undefined
    static_follows n a (helper_call x0 x1 x2) = follows_gives Undefined
    static_follows n a throw = follows_gives Undefined
    static_follows n a (define x0 x1 x2 x3) = follows_gives Undefined
    static_follows n a (private_initialize x0 x1 x2 x3) = follows_gives Undefined
    static_follows n a (add_brand x0 x1 x2) = follows_gives Undefined
    static_follows n a (bound x0 x1) = follows_gives Undefined
    static_follows n a (setter x0 x1 x2) = follows_gives Undefined
    static_follows n a (private_value x0) = follows_gives Undefined
    static_follows n a (call_arrow x0 x1 x2) = follows_gives Undefined
    static_follows n a (call_closure x0 x1) = follows_gives Undefined
    static_follows n a (initializers x0) = follows_gives Undefined
    static_follows n a (give_function x0 x1 x2 x3) = follows_gives Undefined
    static_follows n a (give_class x0 x1) = follows_gives Undefined

    fields_follow : (n : ℕ) (es : Codes) → Follows (ev_fields opens n es) (fields opens_d n es)
    fields_follow n done = follows_gives Undefined
    fields_follow n (and e es) = follows_bind (ev_field opens n e) (instance_field opens_d n e) (λ v. ev_fields opens n es) (λ v. fields opens_d n es) (field_follows n e) (λ v. fields_follow n es)

    field_follows : (n : ℕ) (e : Code) → Follows (ev_field opens n e) (instance_field opens_d n e)
    field_follows n (field false shape k e) = follows_bind (of.quiet (ev opens k)) (direct.quiet (settled (form opens_d k))) (λ a. bind (ev opens e) (λ v. of.initialized shape (ThisOf n) a v)) (λ a. and_then (settled (form opens_d e)) (λ v. direct.initialized shape (ThisOf n) a v)) (follows_quiet (ev opens k) (settled (form opens_d k)) (follows k)) (λ a. follows_bind (ev opens e) (settled (form opens_d e)) (λ v. of.initialized shape (ThisOf n) a v) (λ v. direct.initialized shape (ThisOf n) a v) (follows e) (λ v. initialized_follows shape (ThisOf n) a v))
    field_follows n (field true shape k e) = follows_gives Undefined
    field_follows n (private_field false d e) = follows_bind (ev opens e) (settled (form opens_d e)) (λ v. of.event (PrivateInitialize d (ThisOf n) v) (Undefined)) (λ v. emit (single (PrivateInitialize d (ThisOf n) v)) (Undefined)) (follows e) (λ v. follows_event (PrivateInitialize d (ThisOf n) v) (Undefined) (single (PrivateInitialize d (ThisOf n) v)) refl refl)
    field_follows n (private_field true d e) = follows_gives Undefined
    field_follows n nothing = follows_gives Undefined
    field_follows n no_rule = follows_gives Undefined
    field_follows n (value x0) = follows_gives Undefined
    field_follows n (spelled x0) = follows_gives Undefined
    field_follows n (private_name x0 x1 x2) = follows_gives Undefined
    field_follows n (binding x0 x1 x2) = follows_gives Undefined
    field_follows n (rest x0) = follows_gives Undefined
    field_follows n (name x0 x1 x2) = follows_gives Undefined
    field_follows n super = follows_gives Undefined
    field_follows n (member x0 x1 x2) = follows_gives Undefined
    field_follows n (private_member x0 x1 x2) = follows_gives Undefined
    field_follows n (super_member x0 x1 x2 x3) = follows_gives Undefined
    field_follows n (private_in x0 x1 x2) = follows_gives Undefined
    field_follows n (assign x0 x1) = follows_gives Undefined
    field_follows n (compound x0 x1 x2 x3) = follows_gives Undefined
    field_follows n (logical x0 x1 x2 x3) = follows_gives Undefined
    field_follows n (logical_assign x0 x1 x2 x3) = follows_gives Undefined
    field_follows n (update x0 x1 x2 x3) = follows_gives Undefined
    field_follows n (call x0 x1 x2) = follows_gives Undefined
    field_follows n (tag x0 x1 x2 x3) = follows_gives Undefined
    field_follows n (construct x0 x1 x2) = follows_gives Undefined
    field_follows n (super_call x0 x1 x2 x3) = follows_gives Undefined
    field_follows n (super_call_with_all x0) = follows_gives Undefined
    field_follows n (sequence x0) = follows_gives Undefined
    field_follows n (template_string x0) = follows_gives Undefined
    field_follows n (template x0 x1 x2) = follows_gives Undefined
    field_follows n (operation x0 x1 x2 x3) = follows_gives Undefined
    field_follows n (piece x0 x1) = follows_gives Undefined
    field_follows n (chain x0 x1) = follows_gives Undefined
    field_follows n (short x0) = follows_gives Undefined
    field_follows n (tested x0 x1 x2) = follows_gives Undefined
    field_follows n (pattern x0 x1) = follows_gives Undefined
    field_follows n (takes x0 x1 x2 x3) = follows_gives Undefined
    field_follows n (steps x0) = follows_gives Undefined
    field_follows n (gives_to x0 x1) = follows_gives Undefined
    field_follows n (export_default x0) = follows_gives Undefined
    field_follows n (function x0 x1 x2 x3 x4) = follows_gives Undefined
    field_follows n (new_function x0 x1 x2 x3) = follows_gives Undefined
    field_follows n (new_return x0) = follows_gives Undefined
    field_follows n (class_code x0 x1 x2 x3) = follows_gives Undefined
    field_follows n (method x0 x1 x2 x3) = follows_gives Undefined
    field_follows n (private_method x0 x1 x2) = follows_gives Undefined
    field_follows n (constructor x0) = follows_gives Undefined
    field_follows n (static_block x0) = follows_gives Undefined
    field_follows n (generated_element x0 x1) = follows_gives Undefined
    field_follows n (from_call x0) = follows_gives Undefined
    field_follows n (from_member x0) = follows_gives Undefined
    field_follows n (key_of x0) = follows_gives Undefined
    field_follows n (helper x0) = follows_gives Undefined
    field_follows n (helper_call x0 x1 x2) = follows_gives Undefined
    field_follows n throw = follows_gives Undefined
    field_follows n (define x0 x1 x2 x3) = follows_gives Undefined
    field_follows n (private_initialize x0 x1 x2 x3) = follows_gives Undefined
    field_follows n (add_brand x0 x1 x2) = follows_gives Undefined
    field_follows n (bound x0 x1) = follows_gives Undefined
    field_follows n (setter x0 x1 x2) = follows_gives Undefined
    field_follows n (private_value x0) = follows_gives Undefined
    field_follows n (call_arrow x0 x1 x2) = follows_gives Undefined
    field_follows n (call_closure x0 x1) = follows_gives Undefined
    field_follows n (initializers x0) = follows_gives Undefined
    field_follows n (give_function x0 x1 x2 x3) = follows_gives Undefined
    field_follows n (give_class x0 x1) = follows_gives Undefined

  -- what a construction of class n does
  pub construction_follows : (n : ℕ) (es : Codes) → Follows (ev_initializers opens n es) (construction opens_d n es)
  construction_follows n es = follows_bind (of.brand_first (has_instance_methods es) n) (direct.brand_first (has_instance_methods es) n) (λ v. ev_fields opens n es) (λ v. fields opens_d n es) (brand_follows (has_instance_methods es) n) (λ v. fields_follow n es)
