-- Evaluation follows a change of numbers: a code with other numbers does what the code did, with those numbers.
use Rattle.std.specs.Prelude.{◌≡◌, refl, ℕ, zero, suc, length, List, [], ◌∷◌, Bool, true, false, cond, ◌&&◌, bytes_eq, Option, Some, None}
use Rattle.std.proofs.Common.{◌∙◌, ap}
use Rattle.es_base.specs.declared.ledger.GeneratedKind.{GeneratedKind}
use Rattle.es_steps.proofs.Mapped.{Renames, mapped_option, mapped_generated, mapped_name_kind, mapped_value, mapped_values, mapped_nullable, mapped_event, mapped_events, mapped_environment, mapped_run, mapped_runs, mapped_opened, mapped_code, mapped_target, mapped_callee, mapped_codes}
use Rattle.es_steps.proofs.PartsMapped.{cond-mapped}
use Rattle.es_steps.specs.Code.{Code, Codes, Target, Callee, FieldForm, defines, sets, leaves_out, TemplateString, Opened, InitializersOf, BodyOf, CalledBodyOf, nothing, no_rule, value, spelled, private_name, binding, rest, name, super, member, private_member, super_member, private_in, assign, compound, logical, logical_assign, update, call, tag, construct, super_call, super_call_with_all, sequence, template_string, template, operation, piece, chain, short, tested, pattern, takes, steps, gives_to, export_default, function, new_function, new_return, class_code, field, private_field, method, private_method, constructor, static_block, generated_element, from_call, from_member, key_of, helper, helper_call, throw, define, private_initialize, add_brand, bound, setter, private_value, call_arrow, call_closure, initializers, give_function, give_class, to_name, to_member, to_private, to_super, to_setter, to_pattern, to_default, no_target, plain, on_member, on_private, on_super, with_receiver, checked, on_chain, behind_test, done, and}
use Rattle.es_steps.specs.Context.{NameKind, Fixed, Changing, MeansClass, Generated, StaticMethod}
use Rattle.es_steps.specs.Evaluation.{added, is_private_key, without_private, only_private, outside_run, outside, is_binding_value, element_holds, kept_as, given_as, Environment, Run, Evaluation, no_meaning, gives, event, run_behind, go_on, bind, settle_run, settle, held_run, held, quiet_run, quiet, is_none, same_run, stays, class_run, gives_class, this_run, gives_this, found, give_found, read_given, read_generated, read_name, stands_for, write_generated, write_name, private_key, default_key, read_private, write_private, Ready, ready_member, ready_private, ready_setter, ready_pattern, read_ready, write_ready, initialized, last_of, new_or_former, nullable_gives, has_receiver, receiver_in, ev_template, tag_values, bind_parameters, tested_then, has_instance_methods, brand_first, declared_first, ev_behind, ev, ev_target, ev_taken, ev_take, ev_callee, ev_again, ev_all, ev_converted, ev_held, ev_keys, ev_key, ev_statics, ev_static, ev_fields, ev_field, ev_initializers}
use Rattle.es_steps.specs.Events.{OfKind, Take, Index, Place, RightOf, Default, Part, Event, AddBrand, SuperCall, SuperCallWithAll, InitializeClass, Throw, Events, none, then, is_throw, throws, behind, value_behind, Short, Operate}
use Rattle.es_steps.specs.SameValues.{same_value}
use Rattle.es_steps.specs.Values.{String, Value, ConstantOf, Undefined, BindingOf, FunctionOf, ClassOf, ThisOf, ArgumentsOf, NewTargetOf, ResultOf, FormerOf, KeyOf, TagString, as_key, is_class_value}

-- a write whose value is what is written
abbrev pub write_and_give : Ready → Value → Evaluation
write_and_give t v = bind (write_ready t v) (λ w. gives v)

-- b does with mapped numbers what a does
pub record Follows (f : ℕ → ℕ) (a b : Evaluation) : Type 0 where
  pub on : (s : Environment) → b (mapped_environment f s) ≡ mapped_runs f (a s)

module _ (f : ℕ → ℕ) where
  -- ---- lists of events

  pub is_throw-mapped : (e : Event) → is_throw (mapped_event f e) ≡ is_throw e
  is_throw-mapped Throw = refl
  is_throw-mapped e = refl

  pub throws-mapped : (l : Events) → throws (mapped_events f l) ≡ throws l
  throws-mapped none = refl
  throws-mapped (then e es) = rw (is_throw-mapped e, throws-mapped es) refl

  pub behind-mapped : (l k : Events) → behind (mapped_events f l) (mapped_events f k) ≡ mapped_events f (behind l k)
  behind-mapped none k = refl
  behind-mapped (then e es) k = ap (then (mapped_event f e)) (behind-mapped es k)

  undefined_or-mapped : (b : Bool) (v : Value) → cond b Undefined (mapped_value f v) ≡ mapped_value f (cond b Undefined v)
  undefined_or-mapped true v = refl
  undefined_or-mapped false v = refl

  pub value_behind-mapped : (l : Events) (v : Value) → value_behind (mapped_events f l) (mapped_value f v) ≡ mapped_value f (value_behind l v)
  value_behind-mapped l v = rw (throws-mapped l) (undefined_or-mapped (throws l) v)

  -- ---- steps, and one behind another

  run_behind-mapped : (l : Events) (r : Option Run) → run_behind (mapped_events f l) (mapped_runs f r) ≡ mapped_runs f (run_behind l r)
  run_behind-mapped l None = refl
  run_behind-mapped l (Some r) = rw (behind-mapped l r.events) refl

  pub is_none-mapped : (l : Events) → is_none (mapped_events f l) ≡ is_none l
  is_none-mapped none = refl
  is_none-mapped (then e es) = refl

  pub no_meaning-follows : Follows f no_meaning no_meaning
  no_meaning-follows = record { on = λ s. refl }

  pub gives-follows : (v : Value) → Follows f (gives v) (gives (mapped_value f v))
  gives-follows v = record { on = λ s. refl }

  pub event-follows : (e : Event) (v : Value) → Follows f (event e v) (event (mapped_event f e) (mapped_value f v))
  event-follows e v = record { on = λ s. refl }

  go_on-mapped : (r : Option Run) (g h : Value → Evaluation) → ((v : Value) → Follows f (g v) (h (mapped_value f v))) → go_on (mapped_runs f r) h ≡ mapped_runs f (go_on r g)
  go_on-mapped None g h next = refl
  go_on-mapped (Some r) g h next = ap (run_behind (mapped_events f r.events)) ((next r.value).on r.after) ∙ run_behind-mapped r.events (g r.value r.after)

  pub bind-follows : {a b : Evaluation} (g h : Value → Evaluation) → Follows f a b → ((v : Value) → Follows f (g v) (h (mapped_value f v))) → Follows f (bind a g) (bind b h)
  bind-follows {a = a} g h first next = record { on = λ s. ap (λ r. go_on r h) (first.on s) ∙ go_on-mapped (a s) g h next }

  settle_run-mapped : (r : Option Run) → settle_run (mapped_runs f r) ≡ mapped_runs f (settle_run r)
  settle_run-mapped None = refl
  settle_run-mapped (Some r) = rw (value_behind-mapped r.events r.value) refl

  pub settle-follows : {a b : Evaluation} → Follows f a b → Follows f (settle a) (settle b)
  settle-follows {a = a} all = record { on = λ s. ap settle_run (all.on s) ∙ settle_run-mapped (a s) }

  held_run-mapped : (m : ℕ) (place : Place) (test : Option Value) (s : Environment) (r : Option Run) → held_run (f m) place (mapped_nullable f test) (mapped_environment f s) (mapped_runs f r) ≡ mapped_runs f (held_run m place test s r)
  held_run-mapped m place test s None = refl
  held_run-mapped m place test s (Some r) = rw (value_behind-mapped r.events r.value) refl

  pub held-follows : {a b : Evaluation} (m : ℕ) (place : Place) (test : Option Value) → Follows f a b → Follows f (held m place test a) (held (f m) place (mapped_nullable f test) b)
  held-follows {a = a} m place test all = record { on = λ s. ap (held_run (f m) place (mapped_nullable f test) (mapped_environment f s)) (all.on s) ∙ held_run-mapped m place test s (a s) }

  length-mapped : (s : Environment) → length (mapped_environment f s) ≡ length s
  length-mapped [] = refl
  length-mapped (p ∷ s) = ap suc (length-mapped s)

  added-mapped : (a s : Environment) → added (mapped_environment f a) (mapped_environment f s) ≡ added a s
  added-mapped [] s = refl
  added-mapped (p ∷ a) [] = ap suc (length-mapped a)
  added-mapped (p ∷ a) (q ∷ s) = added-mapped a s

  without_private-mapped : (k : ℕ) (s : Environment) → without_private k (mapped_environment f s) ≡ mapped_environment f (without_private k s)
  without_private-mapped zero s = refl
  without_private-mapped (suc k) [] = refl
  without_private-mapped (suc k) (p ∷ s) = cond-mapped (mapped_environment f) (is_private_key p.0) (without_private k s) (p ∷ without_private k s) (without_private-mapped k s) (ap (λ rest. (p.0, mapped_value f p.1) ∷ rest) (without_private-mapped k s))

  only_private-mapped : (k : ℕ) (s : Environment) → only_private k (mapped_environment f s) ≡ mapped_environment f (only_private k s)
  only_private-mapped zero s = refl
  only_private-mapped (suc k) [] = refl
  only_private-mapped (suc k) (p ∷ s) = cond-mapped (mapped_environment f) (is_private_key p.0) (p ∷ only_private k s) (only_private k s) (ap (λ rest. (p.0, mapped_value f p.1) ∷ rest) (only_private-mapped k s)) (only_private-mapped k s)

  pub added_private-mapped : (a s : Environment) → only_private (added (mapped_environment f a) (mapped_environment f s)) (mapped_environment f a) ≡ mapped_environment f (only_private (added a s) a)
  added_private-mapped a s = rw (added-mapped a s) (only_private-mapped (added a s) a)

  outside_run-mapped : (s : Environment) (r : Option Run) → outside_run (mapped_environment f s) (mapped_runs f r) ≡ mapped_runs f (outside_run s r)
  outside_run-mapped s None = refl
  outside_run-mapped s (Some r) = rw (added-mapped r.after s, without_private-mapped (added r.after s) r.after) refl

  pub outside-follows : {a b : Evaluation} → Follows f a b → Follows f (outside a) (outside b)
  outside-follows {a = a} all = record { on = λ s. ap (outside_run (mapped_environment f s)) (all.on s) ∙ outside_run-mapped s (a s) }

  quiet_run-mapped : (s : Environment) (r : Option Run) → quiet_run (mapped_environment f s) (mapped_runs f r) ≡ mapped_runs f (quiet_run s r)
  quiet_run-mapped s None = refl
  quiet_run-mapped s (Some r) = rw (value_behind-mapped r.events r.value) refl

  pub quiet-follows : {a b : Evaluation} → Follows f a b → Follows f (quiet a) (quiet b)
  quiet-follows {a = a} all = record { on = λ s. ap (quiet_run (mapped_environment f s)) (all.on s) ∙ quiet_run-mapped s (a s) }

  -- ---- names

  found_or-mapped : (b : Bool) (v : Value) (w : Option Value) → cond b (Some (mapped_value f v)) (mapped_nullable f w) ≡ mapped_nullable f (cond b (Some v) w)
  found_or-mapped true v w = refl
  found_or-mapped false v w = refl

  pub found-mapped : (t : String) (s : Environment) → found t (mapped_environment f s) ≡ mapped_nullable f (found t s)
  found-mapped t [] = refl
  found-mapped t (p ∷ ps) = rw (found-mapped t ps) (found_or-mapped (bytes_eq t p.0) p.1 (found t ps))

  give_found-mapped : (v : Option Value) (s : Environment) → give_found (mapped_nullable f v) (mapped_environment f s) ≡ mapped_runs f (give_found v s)
  give_found-mapped None s = refl
  give_found-mapped (Some v) s = refl

  pub read_given-follows : (t : String) → Follows f (read_given t) (read_given t)
  read_given-follows t = record { on = λ s. ap (λ v. give_found v (mapped_environment f s)) (found-mapped t s) ∙ give_found-mapped (found t s) s }

  read_generated-follows : (g : GeneratedKind) (t : String) → Follows f (read_generated g t) (read_generated (mapped_generated f g) t)
  read_generated-follows GeneratedKind.Temp t = read_given-follows t
  read_generated-follows GeneratedKind.Param t = read_given-follows t
  read_generated-follows (GeneratedKind.ClassTemp n) t = gives-follows (ClassOf n.0)
  read_generated-follows g t = no_meaning-follows

  pub read_name-follows : (m : ℕ) (t : String) (kind : NameKind) → Follows f (read_name m t kind) (read_name (f m) t (mapped_name_kind f kind))
  read_name-follows m t (Fixed b) = gives-follows _
  read_name-follows m t (Changing x) = event-follows _ _
  read_name-follows m t (MeansClass n b) = gives-follows _
  read_name-follows m t (Generated g) = read_generated-follows g t
  read_name-follows m t (StaticMethod d n) = event-follows _ _

  is_binding_value-mapped : (v : Value) → is_binding_value (mapped_value f v) ≡ is_binding_value v
  is_binding_value-mapped (BindingOf b) = refl
  is_binding_value-mapped (ClassOf n) = refl
  is_binding_value-mapped (KeyOf v) = is_binding_value-mapped v
  is_binding_value-mapped v = refl

  pub stands_for-follows : (t : String) (v : Value) → Follows f (stands_for t v) (stands_for t (mapped_value f v))
  stands_for-follows t v = record { on = λ s. refl }

  pub kept_as-follows : (t : String) (v : Value) → Follows f (kept_as t v) (kept_as t (mapped_value f v))
  kept_as-follows t v = rw (is_binding_value-mapped v) (kept (is_binding_value v))
    where
      kept : (holds : Bool) → Follows f (cond holds no_meaning (stands_for t v)) (cond holds no_meaning (stands_for t (mapped_value f v)))
      kept true = no_meaning-follows
      kept false = stands_for-follows t v

  element_holds-follows : (t : String) (v : Value) → Follows f (element_holds t v) (element_holds t (mapped_value f v))
  element_holds-follows t v = rw (is_binding_value-mapped v) (either (is_binding_value v))
    where
      either : (holds : Bool) → Follows f (cond holds (gives v) (stands_for t v)) (cond holds (gives (mapped_value f v)) (stands_for t (mapped_value f v)))
      either true = gives-follows v
      either false = stands_for-follows t v

  given_as-follows : (m : ℕ) (t : String) (v : Value) → Follows f (given_as m t v) (given_as (f m) t (mapped_value f v))
  given_as-follows m t (KeyOf v) = rw (is_binding_value-mapped v) (either (is_binding_value v))
    where
      either : (holds : Bool) → Follows f (stands_for t (cond holds (ResultOf m) (KeyOf v))) (stands_for t (cond holds (ResultOf (f m)) (KeyOf (mapped_value f v))))
      either true = stands_for-follows t (ResultOf m)
      either false = stands_for-follows t (KeyOf v)
  given_as-follows m t v = kept_as-follows t v

  write_generated-follows : (m : ℕ) (g : GeneratedKind) (t : String) (v : Value) → Follows f (write_generated m g t v) (write_generated (f m) (mapped_generated f g) t (mapped_value f v))
  write_generated-follows m GeneratedKind.Temp t v = given_as-follows m t v
  write_generated-follows m g t v = no_meaning-follows

  pub write_name-follows : (m : ℕ) (t : String) (kind : NameKind) (v : Value) → Follows f (write_name m t kind v) (write_name (f m) t (mapped_name_kind f kind) (mapped_value f v))
  write_name-follows m t (Fixed b) v = event-follows _ _
  write_name-follows m t (Changing x) v = event-follows _ _
  write_name-follows m t (MeansClass n b) v = event-follows _ _
  write_name-follows m t (Generated g) v = write_generated-follows m g t v
  write_name-follows m t (StaticMethod d n) v = no_meaning-follows

  read_private-follows : (m : ℕ) (d : Option ℕ) (o : Value) → Follows f (read_private m d o) (read_private (f m) (mapped_option f d) (mapped_value f o))
  read_private-follows m None o = event-follows _ _
  read_private-follows m (Some d) o = event-follows _ _

  write_private-follows : (d : Option ℕ) (o v : Value) → Follows f (write_private d o v) (write_private (mapped_option f d) (mapped_value f o) (mapped_value f v))
  write_private-follows None o v = event-follows _ _
  write_private-follows (Some d) o v = event-follows _ _

  -- ---- values

  pub as_key-mapped : (v : Value) → as_key (mapped_value f v) ≡ mapped_value f (as_key v)
  as_key-mapped (KeyOf v) = refl
  as_key-mapped v = refl

  defined-follows : (o k v w : Value) → Follows f (event (Event.Define o (as_key k) v) w) (event (Event.Define (mapped_value f o) (as_key (mapped_value f k)) (mapped_value f v)) (mapped_value f w))
  defined-follows o k v w = rw (as_key-mapped k) (event-follows (Event.Define o (as_key k) v) w)

  pub converted-follows : (v : Value) → Follows f (gives (KeyOf (as_key v))) (gives (KeyOf (as_key (mapped_value f v))))
  converted-follows v = rw (as_key-mapped v) (gives-follows (KeyOf (as_key v)))

  set-follows : (o k v w : Value) → Follows f (event (Event.Set o (as_key k) v) w) (event (Event.Set (mapped_value f o) (as_key (mapped_value f k)) (mapped_value f v)) (mapped_value f w))
  set-follows o k v w = rw (as_key-mapped k) (event-follows (Event.Set o (as_key k) v) w)

  pub initialized-follows : (form : FieldForm) (o k v : Value) → Follows f (initialized form o k v) (initialized form (mapped_value f o) (mapped_value f k) (mapped_value f v))
  initialized-follows defines o k v = defined-follows o k v Undefined
  initialized-follows sets o k v = set-follows o k v Undefined
  initialized-follows leaves_out o k v = gives-follows _

  pub last_of-mapped : (v : Value) (vs : List Value) → last_of (mapped_value f v) (mapped_values f vs) ≡ mapped_value f (last_of v vs)
  last_of-mapped v [] = refl
  last_of-mapped v (w ∷ ws) = last_of-mapped w ws

  last_of-follows : (vs : List Value) → Follows f (gives (last_of Undefined vs)) (gives (last_of Undefined (mapped_values f vs)))
  last_of-follows vs = rw (last_of-mapped Undefined vs) (gives-follows (last_of Undefined vs))

  new_or_former-follows : (prefix : Bool) (m : ℕ) → Follows f (gives (new_or_former prefix m)) (gives (new_or_former prefix (f m)))
  new_or_former-follows true m = gives-follows _
  new_or_former-follows false m = gives-follows _

  nullable_gives-follows : (v : Option Value) → Follows f (nullable_gives v) (nullable_gives (mapped_nullable f v))
  nullable_gives-follows None = gives-follows _
  nullable_gives-follows (Some v) = gives-follows _

  has_receiver-mapped : (g : Callee) → has_receiver (mapped_callee f g) ≡ has_receiver g
  has_receiver-mapped (checked g) = has_receiver-mapped g
  has_receiver-mapped (on_chain m g) = has_receiver-mapped g
  has_receiver-mapped (behind_test o again g) = has_receiver-mapped g
  has_receiver-mapped (plain e) = refl
  has_receiver-mapped g = refl

  receiver_in-mapped : (b : Bool) (x : Option Run) → receiver_in b (mapped_runs f x) ≡ mapped_nullable f (receiver_in b x)
  receiver_in-mapped true (Some x) = rw (value_behind-mapped x.events x.value) refl
  receiver_in-mapped true None = refl
  receiver_in-mapped false x = refl

  template_follows : (m : ℕ) (ts : List TemplateString) (vs : List Value) → Follows f (ev_template m ts vs) (ev_template (f m) ts (mapped_values f vs))
  template_follows m [] vs = event-follows _ _
  template_follows m (t ∷ []) [] = gives-follows _
  template_follows m (t ∷ []) (v ∷ vs) = event-follows _ _
  template_follows m (t ∷ u ∷ ts) vs = event-follows _ _

  tag_values-mapped : (ts : List TemplateString) (vs : List Value) → tag_values ts (mapped_values f vs) ≡ mapped_values f (tag_values ts vs)
  tag_values-mapped [] vs = refl
  tag_values-mapped (t ∷ ts) vs = ap (λ ws. ConstantOf (TagString t.raw t.cooked) ∷ ws) (tag_values-mapped ts vs)

  tag-follows : (m : ℕ) (callee : Value) (receiver : Option Value) (ts : List TemplateString) (vs : List Value) → Follows f (event (Event.Call m callee receiver (tag_values ts vs)) (ResultOf m)) (event (Event.Call (f m) (mapped_value f callee) (mapped_nullable f receiver) (tag_values ts (mapped_values f vs))) (ResultOf (f m)))
  tag-follows m callee receiver ts vs = rw (tag_values-mapped ts vs) (event-follows _ _)

  pub bind_parameters-follows : (ss : List String) (vs : List Value) → Follows f (bind_parameters ss vs) (bind_parameters ss (mapped_values f vs))
  bind_parameters-follows [] [] = gives-follows _
  bind_parameters-follows [] (v ∷ vs) = no_meaning-follows
  bind_parameters-follows (s ∷ ss) [] = no_meaning-follows
  bind_parameters-follows (s ∷ ss) (v ∷ vs) = bind-follows (λ w. bind_parameters ss vs) (λ w. bind_parameters ss (mapped_values f vs)) (stands_for-follows s v) (λ w. bind_parameters-follows ss vs)

  tested-follows : {a b c d : Evaluation} (g h : Value → Evaluation) → Follows f a b → ((v : Value) → Follows f (g v) (h (mapped_value f v))) → Follows f c d → Follows f (tested_then a g c) (tested_then b h d)
  tested-follows {c = c} {d = d} g h first again last = bind-follows (λ v. bind (g v) (λ u. bind (event (Short v) v) (λ w. c))) (λ v. bind (h v) (λ u. bind (event (Short v) v) (λ w. d))) first (λ v. bind-follows (λ u. bind (event (Short v) v) (λ w. c)) (λ u. bind (event (Short (mapped_value f v)) (mapped_value f v)) (λ w. d)) (again v) (λ u. bind-follows (λ w. c) (λ w. d) (event-follows (Short v) v) (λ w. last)))

  has_instance_methods-mapped : (cs : Codes) → has_instance_methods (mapped_codes f cs) ≡ has_instance_methods cs
  has_instance_methods-mapped done = refl
  has_instance_methods-mapped (and (private_method false d g) cs) = refl
  has_instance_methods-mapped (and c cs) = has_instance_methods-mapped cs

  brand_first-follows : (b : Bool) (n : ℕ) → Follows f (brand_first b n) (brand_first b (f n))
  brand_first-follows true n = event-follows _ _
  brand_first-follows false n = gives-follows _

  declared_first-follows : (d : Option ℕ) (n : ℕ) → Follows f (declared_first d n) (declared_first (mapped_option f d) (f n))
  declared_first-follows None n = gives-follows _
  declared_first-follows (Some b) n = event-follows (InitializeClass n) Undefined

-- ---- what looks at numbers

module _ {first : ℕ} {f : ℕ → ℕ} (r : Renames first f) where
  pub same_value-mapped : (v w : Value) → same_value (mapped_value f v) (mapped_value f w) ≡ same_value v w
  same_value-mapped (ConstantOf c) w = of_constant w
    where
      of_constant : (w : Value) → same_value (ConstantOf c) (mapped_value f w) ≡ same_value (ConstantOf c) w
      of_constant (ConstantOf d) = refl
      of_constant w = refl
  same_value-mapped Undefined w = of_undefined w
    where
      of_undefined : (w : Value) → same_value Undefined (mapped_value f w) ≡ same_value Undefined w
      of_undefined Undefined = refl
      of_undefined w = refl
  same_value-mapped (BindingOf n) (BindingOf k) = r.apart n k
  same_value-mapped (FunctionOf n) (FunctionOf k) = r.apart n k
  same_value-mapped (ClassOf n) (ClassOf k) = r.apart n k
  same_value-mapped (ThisOf n) (ThisOf k) = r.apart n k
  same_value-mapped (ArgumentsOf n) (ArgumentsOf k) = r.apart n k
  same_value-mapped (NewTargetOf n) (NewTargetOf k) = r.apart n k
  same_value-mapped (ResultOf n) (ResultOf k) = r.apart n k
  same_value-mapped (FormerOf n) (FormerOf k) = r.apart n k
  same_value-mapped (KeyOf v) (KeyOf w) = same_value-mapped v w
  same_value-mapped v w = refl

  same_run-mapped : (v : Value) (s : Environment) (x : Option Run) → same_run (mapped_value f v) (mapped_environment f s) (mapped_runs f x) ≡ mapped_runs f (same_run v s x)
  same_run-mapped v s None = refl
  same_run-mapped v s (Some x) = rw (is_none-mapped f x.events, same_value-mapped v x.value) (chosen (is_none x.events && same_value v x.value))
    where
      chosen : (b : Bool) → cond b (Some (mapped_run f (record { events = none; value = v; after = s }))) None ≡ mapped_runs f (cond b (Some (record { events = none; value = v; after = s })) None)
      chosen true = refl
      chosen false = refl

  stays-follows : {a b : Evaluation} (v : Value) → Follows f a b → Follows f (stays v a) (stays (mapped_value f v) b)
  stays-follows {a = a} v all = record { on = λ s. ap (same_run (mapped_value f v) (mapped_environment f s)) (all.on s) ∙ same_run-mapped v s (a s) }

  is_class_value-mapped : (n : ℕ) (v : Value) → is_class_value (f n) (mapped_value f v) ≡ is_class_value n v
  is_class_value-mapped n (ClassOf k) = r.apart n k
  is_class_value-mapped n v = refl

  class_run-mapped : (n : ℕ) (x : Option Run) → class_run (f n) (mapped_runs f x) ≡ mapped_runs f (class_run n x)
  class_run-mapped n None = refl
  class_run-mapped n (Some x) = rw (throws-mapped f x.events, is_class_value-mapped n x.value) (chosen (throws x.events) (is_class_value n x.value))
    where
      chosen : (b d : Bool) → cond b (Some (mapped_run f x)) (cond d (Some (mapped_run f x)) None) ≡ mapped_runs f (cond b (Some x) (cond d (Some x) None))
      chosen true d = refl
      chosen false true = refl
      chosen false false = refl

  gives_class-follows : {a b : Evaluation} (n : ℕ) → Follows f a b → Follows f (gives_class n a) (gives_class (f n) b)
  gives_class-follows {a = a} n all = record { on = λ s. ap (class_run (f n)) (all.on s) ∙ class_run-mapped n (a s) }

  this_run-mapped : (n : ℕ) (x : Option Run) → this_run (f n) (mapped_runs f x) ≡ mapped_runs f (this_run n x)
  this_run-mapped n None = refl
  this_run-mapped n (Some x) = rw (throws-mapped f x.events, same_value-mapped (ThisOf n) x.value) (chosen (throws x.events) (same_value (ThisOf n) x.value))
    where
      chosen : (b d : Bool) → cond b (Some (mapped_run f x)) (cond d (Some (mapped_run f x)) None) ≡ mapped_runs f (cond b (Some x) (cond d (Some x) None))
      chosen true d = refl
      chosen false true = refl
      chosen false false = refl

  gives_this-follows : {a b : Evaluation} (n : ℕ) → Follows f a b → Follows f (gives_this n a) (gives_this (f n) b)
  gives_this-follows {a = a} n all = record { on = λ s. ap (this_run (f n)) (all.on s) ∙ this_run-mapped n (a s) }

  -- ---- the list and the value of a code

  module _ (opens there : Opened → Evaluation) (opens_follow : (o : Opened) → Follows f (opens o) (there (mapped_opened f o))) where
    -- a target is ready where it was: what is read and written follows
    pub record ReadyFollows (t u : Ready) : Type 0 where
      pub reads : Follows f (read_ready t) (read_ready u)
      pub writes : (v : Value) → Follows f (write_ready t v) (write_ready u (mapped_value f v))

    write_and_give-follows : (t u : Ready) → ReadyFollows t u → (v : Value) → Follows f (write_and_give t v) (write_and_give u (mapped_value f v))
    write_and_give-follows t u x v = bind-follows f _ _ (x.writes v) (λ w. gives-follows f v)

    ev_behind-follows : (n : ℕ) (o : Option Opened) → Follows f (ev_behind opens n o) (ev_behind there (f n) (mapped_option (mapped_opened f) o))
    ev_behind-follows n None = gives-follows f _
    ev_behind-follows n (Some (InitializersOf k)) = bind-follows f _ _ (opens_follow (InitializersOf k)) (λ w. gives-follows f (ThisOf n))
    ev_behind-follows n (Some (BodyOf s)) = gives_this-follows n (opens_follow (BodyOf s))
    ev_behind-follows n (Some (CalledBodyOf s)) = gives_this-follows n (opens_follow (CalledBodyOf s))

    -- a chain that is called: its list, and its receiver, which is read by itself
    chain-follows : (m : ℕ) (callee : Callee) (g h : Value → Option Value → Evaluation) → ((v : Value) (receiver : Option Value) → Follows f (g v receiver) (h (mapped_value f v) (mapped_nullable f receiver))) → Follows f (ev_callee opens callee (λ v receiver. gives v)) (ev_callee there (mapped_callee f callee) (λ v receiver. gives v)) → Follows f (ev_callee opens callee (λ v receiver. nullable_gives receiver)) (ev_callee there (mapped_callee f callee) (λ v receiver. nullable_gives receiver)) → Follows f (ev_callee opens (on_chain m callee) g) (ev_callee there (mapped_callee f (on_chain m callee)) h)
    chain-follows m callee g h next list received = record {
      on = λ s.
          ap (λ x. go_on (held (f m) (Part 0) None (ev_callee there (mapped_callee f callee) (λ v receiver. gives v)) (mapped_environment f s)) (λ v. h v x)) (receiver-follows s)
          ∙ (bind-follows f (λ v. g v (receiver_in (has_receiver callee) (ev_callee opens callee (λ v receiver. nullable_gives receiver) s))) (λ v. h v (mapped_nullable f (receiver_in (has_receiver callee) (ev_callee opens callee (λ v receiver. nullable_gives receiver) s)))) (held-follows f m (Part 0) None list) (λ v. next v (receiver_in (has_receiver callee) (ev_callee opens callee (λ v receiver. nullable_gives receiver) s)))).on s;
    }
      where
        receiver-follows : (s : Environment) → receiver_in (has_receiver (mapped_callee f callee)) (ev_callee there (mapped_callee f callee) (λ v receiver. nullable_gives receiver) (mapped_environment f s)) ≡ mapped_nullable f (receiver_in (has_receiver callee) (ev_callee opens callee (λ v receiver. nullable_gives receiver) s))
        receiver-follows s = rw (has_receiver-mapped f callee, received.on s) (receiver_in-mapped f (has_receiver callee) (ev_callee opens callee (λ v receiver. nullable_gives receiver) s))

    mutual
      pub ev-follows : (c : Code) → Follows f (ev opens c) (ev there (mapped_code f c))
      ev-follows nothing = gives-follows f _
      ev-follows no_rule = no_meaning-follows f
      ev-follows (value v) = gives-follows f v
      ev-follows (spelled s) = no_meaning-follows f
      ev-follows (private_name d s x) = no_meaning-follows f
      ev-follows (binding b s kind) = gives-follows f _
      ev-follows (rest to) = no_meaning-follows f
      ev-follows (name m s kind) = read_name-follows f m s kind
      ev-follows super = no_meaning-follows f
      ev-follows (member m o k) = settle-follows f (bind-follows f _ _ (ev-follows o) (λ a. bind-follows f _ _ (ev-follows k) (λ b. event-follows f _ _)))
      ev-follows (private_member m x o) = settle-follows f (bind-follows f _ _ (ev-follows o) (λ a. read_private-follows f m x.reads a))
      ev-follows (super_member m home k this) = settle-follows f (bind-follows f _ _ (ev-follows k) (λ b. event-follows f _ _))
      ev-follows (private_in m test o) = settle-follows f (bind-follows f _ _ (ev-follows o) (λ a. event-follows f _ _))
      ev-follows (assign to e) = settle-follows f (ev_target-follows to _ _ (λ t u x. bind-follows f _ _ (ev-follows e) (write_and_give-follows t u x)))
      ev-follows (compound m op to e) = settle-follows f (ev_target-follows to _ _ (λ t u x. bind-follows f (write_and_give t) (write_and_give u) (settle-follows f (bind-follows f _ _ x.reads (λ a. bind-follows f _ _ (ev-follows e) (λ b. event-follows f _ _)))) (write_and_give-follows t u x)))
      ev-follows (logical m op l q) = settle-follows f (bind-follows f _ _ (ev-follows l) (λ a. held-follows f m (RightOf op) (Some a) (ev-follows q)))
      ev-follows (logical_assign m op to e) = settle-follows f (ev_target-follows to _ _ (λ t u x. bind-follows f _ _ x.reads (λ a. held-follows f m (RightOf op) (Some a) (bind-follows f _ _ (ev-follows e) (λ v. x.writes v)))))
      ev-follows (update m op prefix to) = settle-follows f (ev_target-follows to _ _ (λ t u x. bind-follows f (λ v. bind (write_ready t v) (λ w. gives (new_or_former prefix m))) (λ v. bind (write_ready u v) (λ w. gives (new_or_former prefix (f m)))) (settle-follows f (bind-follows f _ _ x.reads (λ a. event-follows f _ _))) (λ v. bind-follows f _ _ (x.writes v) (λ w. new_or_former-follows f prefix m))))
      ev-follows (call m g es) = settle-follows f (ev_callee-follows g _ _ (λ callee receiver. ev_all-follows es _ _ (λ vs. event-follows f _ _)))
      ev-follows (tag m g ts es) = settle-follows f (ev_callee-follows g _ _ (λ callee receiver. ev_all-follows es _ _ (λ vs. tag-follows f m callee receiver ts vs)))
      ev-follows (construct m g es) = settle-follows f (bind-follows f _ _ (ev-follows g) (λ callee. ev_all-follows es _ _ (λ vs. event-follows f _ _)))
      ev-follows (super_call m n o es) = settle-follows f (ev_all-follows es _ _ (λ vs. bind-follows f (λ v. ev_behind opens n o) (λ v. ev_behind there (f n) (mapped_option (mapped_opened f) o)) (event-follows f (SuperCall m n vs) (ThisOf n)) (λ v. ev_behind-follows n o)))
      ev-follows (super_call_with_all n) = settle-follows f (bind-follows f (λ v. bind (opens (InitializersOf n)) (λ w. gives (ThisOf n))) (λ v. bind (there (InitializersOf (f n))) (λ w. gives (ThisOf (f n)))) (event-follows f (SuperCallWithAll n) (ThisOf n)) (λ v. bind-follows f _ _ (opens_follow (InitializersOf n)) (λ w. gives-follows f (ThisOf n))))
      ev-follows (sequence es) = settle-follows f (ev_all-follows es _ _ (last_of-follows f))
      ev-follows (template_string t) = no_meaning-follows f
      ev-follows (template m ts es) = settle-follows f (ev_converted-follows m 0 es _ _ (template_follows f m ts))
      ev-follows (operation m op es parts) = settle-follows f (ev_all-follows es _ _ (λ vs. ev_held-follows m 0 parts (event-follows f _ _)))
      ev-follows (piece ds es) = no_meaning-follows f
      ev-follows (chain m e) = held-follows f m (Part 0) None (ev-follows e)
      ev-follows (short e) = settle-follows f (bind-follows f _ _ (ev-follows e) (λ v. event-follows f (Short v) v))
      ev-follows (tested o again e) = settle-follows f (tested-follows f _ _ (ev-follows o) (λ v. ev_again-follows v again) (ev-follows e))
      ev-follows (pattern m to) = no_meaning-follows f
      ev-follows (takes m ds k to) = no_meaning-follows f
      ev-follows (steps es) = settle-follows f (ev_all-follows es _ _ (λ vs. gives-follows f Undefined))
      ev-follows (gives_to m to) = settle-follows f (ev_target-follows to _ _ (λ t u x. bind-follows f _ _ (x.writes (ResultOf m)) (λ w. gives-follows f Undefined)))
      ev-follows (export_default e) = settle-follows f (bind-follows f _ _ (ev-follows e) (λ v. stands_for-follows f default_key v))
      ev-follows (function g form own ps body) = gives-follows f _
      ev-follows (new_function g form ps body) = no_meaning-follows f
      ev-follows (new_return es) = no_meaning-follows f
      ev-follows (class_code n declared h es) = outside-follows f (settle-follows f (ev_all-follows h _ _ (λ vs. ev_keys-follows es (λ ks. bind (declared_first declared n) (λ u. bind (ev_statics opens n ks es) (λ w. gives (ClassOf n)))) (λ ks. bind (declared_first (mapped_option f declared) (f n)) (λ u. bind (ev_statics there (f n) ks (mapped_codes f es)) (λ w. gives (ClassOf (f n))))) (λ ks. bind-follows f (λ u. bind (ev_statics opens n ks es) (λ w. gives (ClassOf n))) (λ u. bind (ev_statics there (f n) (mapped_values f ks) (mapped_codes f es)) (λ w. gives (ClassOf (f n)))) (declared_first-follows f declared n) (λ u. bind-follows f _ _ (ev_statics-follows n ks es) (λ w. gives-follows f (ClassOf n)))))))
      ev-follows (field is_static form k e) = no_meaning-follows f
      ev-follows (private_field is_static d e) = no_meaning-follows f
      ev-follows (method is_static kind k g) = no_meaning-follows f
      ev-follows (private_method is_static d g) = no_meaning-follows f
      ev-follows (constructor g) = no_meaning-follows f
      ev-follows (static_block es) = no_meaning-follows f
      ev-follows (generated_element s e) = no_meaning-follows f
      ev-follows (from_call e) = ev-follows e
      ev-follows (from_member e) = ev-follows e
      ev-follows (key_of e) = settle-follows f (bind-follows f _ _ (ev-follows e) (converted-follows f))
      ev-follows (helper h) = no_meaning-follows f
      ev-follows (helper_call m h es) = no_meaning-follows f
      ev-follows throw = event-follows f _ _
      ev-follows (define m o k e) = settle-follows f (bind-follows f _ _ (ev-follows k) (λ a. bind-follows f _ _ (ev-follows e) (λ v. defined-follows f o a v (ResultOf m))))
      ev-follows (private_initialize m d o e) = settle-follows f (bind-follows f _ _ (ev-follows e) (λ v. event-follows f _ _))
      ev-follows (add_brand m n o) = event-follows f (AddBrand n o) (ResultOf m)
      ev-follows (bound g o) = no_meaning-follows f
      ev-follows (setter m d o) = no_meaning-follows f
      ev-follows (private_value s) = read_given-follows f (private_key s)
      ev-follows (call_arrow ss body es) = settle-follows f (ev_all-follows es _ _ (λ vs. bind-follows f _ _ (bind_parameters-follows f ss vs) (λ u. ev-follows body)))
      ev-follows (call_closure s es) = settle-follows f (ev_all-follows es _ _ (λ vs. opens_follow (BodyOf s)))
      ev-follows (initializers n) = opens_follow (InitializersOf n)
      ev-follows (give_function m s g e) = gives-follows f (ResultOf m)
      ev-follows (give_class n e) = gives_class-follows n (ev-follows e)

      pub ev_target-follows : (to : Target) (g h : Ready → Evaluation) → ((t u : Ready) → ReadyFollows t u → Follows f (g t) (h u)) → Follows f (ev_target opens to g) (ev_target there (mapped_target f to) h)
      ev_target-follows (to_name m s kind) g h next = next _ _ (record { reads = read_name-follows f m s kind; writes = write_name-follows f m s kind })
      ev_target-follows (to_member m o k) g h next = bind-follows f _ _ (ev-follows o) (λ a. bind-follows f _ _ (ev-follows k) (λ b. next (ready_member m a b) (ready_member (f m) (mapped_value f a) (mapped_value f b)) (record { reads = event-follows f _ _; writes = λ v. event-follows f _ _ })))
      ev_target-follows (to_private m x o) g h next = bind-follows f _ _ (ev-follows o) (λ a. next (ready_private m x.reads x.writes a) (ready_private (f m) (mapped_option f x.reads) (mapped_option f x.writes) (mapped_value f a)) (record { reads = read_private-follows f m x.reads a; writes = write_private-follows f x.writes a }))
      ev_target-follows (to_super m home k this) g h next = bind-follows f _ _ (ev-follows k) (λ b. next _ _ (record { reads = event-follows f _ _; writes = λ v. event-follows f _ _ }))
      ev_target-follows (to_setter m d o) g h next = bind-follows f _ _ (ev-follows o) (λ a. next (ready_setter d a) (ready_setter (f d) (mapped_value f a)) (record { reads = no_meaning-follows f; writes = λ v. event-follows f _ _ }))
      ev_target-follows (to_pattern m kind cs) g h next =
          next (ready_pattern (λ v. bind (event (Operate m (OfKind kind []) (v ∷ [])) v) (λ u. ev_taken opens v cs))) (ready_pattern (λ v. bind (event (Operate (f m) (OfKind kind []) (v ∷ [])) v) (λ u. ev_taken there v (mapped_codes f cs))))
          (record { reads = no_meaning-follows f; writes = λ v. bind-follows f (λ u. ev_taken opens v cs) (λ u. ev_taken there (mapped_value f v) (mapped_codes f cs)) (event-follows f (Operate m (OfKind kind []) (v ∷ [])) v) (λ u. ev_taken-follows v cs) })
      ev_target-follows (to_default m to e) g h next =
          ev_target-follows to _ _ (λ t u x. next (ready_pattern (λ v. bind (held m Default (Some v) (ev opens e)) (λ w. write_ready t w))) (ready_pattern (λ v. bind (held (f m) Default (Some v) (ev there (mapped_code f e))) (λ w. write_ready u w)))
          (record { reads = no_meaning-follows f; writes = λ v. bind-follows f (λ w. write_ready t w) (λ w. write_ready u w) (held-follows f m Default (Some v) (ev-follows e)) (λ w. x.writes w) }))
      ev_target-follows no_target g h next = no_meaning-follows f

      ev_taken-follows : (v : Value) (cs : Codes) → Follows f (ev_taken opens v cs) (ev_taken there (mapped_value f v) (mapped_codes f cs))
      ev_taken-follows v done = gives-follows f _
      ev_taken-follows v (and c cs) = bind-follows f _ _ (ev_take-follows v c) (λ u. ev_taken-follows v cs)

      pub ev_take-follows : (v : Value) (c : Code) → Follows f (ev_take opens v c) (ev_take there (mapped_value f v) (mapped_code f c))
      ev_take-follows v (takes m ds k to) = ev_all-follows k _ _ (λ ks. ev_target-follows to _ _ (λ t u x. bind-follows f (λ w. write_ready t w) (λ w. write_ready u w) (event-follows f (Operate m (Take ds) (v ∷ ks)) (ResultOf m)) (λ w. x.writes w)))
      ev_take-follows v (operation m op done done) = event-follows f (Operate m op (v ∷ [])) Undefined
      ev_take-follows v nothing = no_meaning-follows f
      ev_take-follows v c = no_meaning-follows f

      pub ev_callee-follows : (callee : Callee) (g h : Value → Option Value → Evaluation) → ((v : Value) (receiver : Option Value) → Follows f (g v receiver) (h (mapped_value f v) (mapped_nullable f receiver))) → Follows f (ev_callee opens callee g) (ev_callee there (mapped_callee f callee) h)
      ev_callee-follows (plain e) g h next = bind-follows f _ _ (ev-follows e) (λ v. next v None)
      ev_callee-follows (on_member m o k) g h next = bind-follows f _ _ (ev-follows o) (λ a. bind-follows f _ _ (ev-follows k) (λ b. bind-follows f (λ v. g v (Some a)) (λ v. h v (Some (mapped_value f a))) (event-follows f _ _) (λ v. next v (Some a))))
      ev_callee-follows (on_private m x o) g h next = bind-follows f _ _ (ev-follows o) (λ a. bind-follows f (λ v. g v (Some a)) (λ v. h v (Some (mapped_value f a))) (read_private-follows f m x.reads a) (λ v. next v (Some a)))
      ev_callee-follows (on_super m home k this) g h next = bind-follows f _ _ (ev-follows k) (λ b. bind-follows f (λ v. g v (Some this)) (λ v. h v (Some (mapped_value f this))) (event-follows f _ _) (λ v. next v (Some this)))
      ev_callee-follows (with_receiver e o) g h next = bind-follows f _ _ (ev-follows e) (λ v. bind-follows f (λ a. g v (Some a)) (λ a. h (mapped_value f v) (Some a)) (ev-follows o) (λ a. next v (Some a)))
      ev_callee-follows (checked callee) g h next = ev_callee-follows callee _ _ (λ v receiver. bind-follows f (λ w. g v receiver) (λ w. h (mapped_value f v) (mapped_nullable f receiver)) (event-follows f (Short v) v) (λ w. next v receiver))
      ev_callee-follows (on_chain m callee) g h next = chain-follows m callee g h next (ev_callee-follows callee (λ v receiver. gives v) (λ v receiver. gives v) (λ v receiver. gives-follows f v)) (ev_callee-follows callee (λ v receiver. nullable_gives receiver) (λ v receiver. nullable_gives receiver) (λ v receiver. nullable_gives-follows f receiver))
      ev_callee-follows (behind_test o again callee) g h next = tested-follows f _ _ (ev-follows o) (λ v. ev_again-follows v again) (ev_callee-follows callee g h next)

      ev_again-follows : (v : Value) (cs : Codes) → Follows f (ev_again opens v cs) (ev_again there (mapped_value f v) (mapped_codes f cs))
      ev_again-follows v done = gives-follows f _
      ev_again-follows v (and c cs) = stays-follows v (ev-follows c)

      pub ev_all-follows : (es : Codes) (g h : List Value → Evaluation) → ((vs : List Value) → Follows f (g vs) (h (mapped_values f vs))) → Follows f (ev_all opens es g) (ev_all there (mapped_codes f es) h)
      ev_all-follows done g h next = next []
      ev_all-follows (and e es) g h next = bind-follows f _ _ (ev-follows e) (λ v. ev_all-follows es (λ vs. g (v ∷ vs)) (λ vs. h (mapped_value f v ∷ vs)) (λ vs. next (v ∷ vs)))

      ev_converted-follows : (m i : ℕ) (es : Codes) (g h : List Value → Evaluation) → ((vs : List Value) → Follows f (g vs) (h (mapped_values f vs))) → Follows f (ev_converted opens m i es g) (ev_converted there (f m) i (mapped_codes f es) h)
      ev_converted-follows m i done g h next = next []
      ev_converted-follows m i (and e es) g h next =
          bind-follows f _ _ (ev-follows e)
          (λ v. bind-follows f (λ w. ev_converted opens m (suc i) es (λ vs. g (v ∷ vs))) (λ w. ev_converted there (f m) (suc i) (mapped_codes f es) (λ vs. h (mapped_value f v ∷ vs)))
          (event-follows f (Operate m (Take (Index i ∷ [])) (v ∷ [])) v) (λ w. ev_converted-follows m (suc i) es (λ vs. g (v ∷ vs)) (λ vs. h (mapped_value f v ∷ vs)) (λ vs. next (v ∷ vs))))

      ev_held-follows : {a b : Evaluation} (m i : ℕ) (es : Codes) → Follows f a b → Follows f (ev_held opens m i es a) (ev_held there (f m) i (mapped_codes f es) b)
      ev_held-follows m i done all = all
      ev_held-follows {a = a} {b = b} m i (and e es) all = bind-follows f (λ v. ev_held opens m (suc i) es a) (λ v. ev_held there (f m) (suc i) (mapped_codes f es) b) (held-follows f m (Part i) None (ev-follows e)) (λ v. ev_held-follows m (suc i) es all)

      pub ev_keys-follows : (es : Codes) (g h : List Value → Evaluation) → ((vs : List Value) → Follows f (g vs) (h (mapped_values f vs))) → Follows f (ev_keys opens es g) (ev_keys there (mapped_codes f es) h)
      ev_keys-follows done g h next = next []
      ev_keys-follows (and e es) g h next = bind-follows f _ _ (ev_key-follows e) (λ v. ev_keys-follows es (λ vs. g (v ∷ vs)) (λ vs. h (mapped_value f v ∷ vs)) (λ vs. next (v ∷ vs)))

      pub ev_key-follows : (e : Code) → Follows f (ev_key opens e) (ev_key there (mapped_code f e))
      ev_key-follows (field is_static form k e) = ev-follows k
      ev_key-follows (method is_static kind k g) = ev-follows k
      ev_key-follows (private_field is_static d e) = gives-follows f _
      ev_key-follows (private_method is_static d g) = gives-follows f _
      ev_key-follows (constructor g) = gives-follows f _
      ev_key-follows (static_block es) = gives-follows f _
      ev_key-follows (generated_element s e) = gives-follows f _
      ev_key-follows e = no_meaning-follows f

      pub ev_statics-follows : (n : ℕ) (ks : List Value) (es : Codes) → Follows f (ev_statics opens n ks es) (ev_statics there (f n) (mapped_values f ks) (mapped_codes f es))
      ev_statics-follows n [] es = gives-follows f _
      ev_statics-follows n (k ∷ ks) done = gives-follows f _
      ev_statics-follows n (k ∷ ks) (and e es) = bind-follows f _ _ (ev_static-follows n k e) (λ v. ev_statics-follows n ks es)

      pub ev_static-follows : (n : ℕ) (a : Value) (e : Code) → Follows f (ev_static opens n a e) (ev_static there (f n) (mapped_value f a) (mapped_code f e))
      ev_static-follows n a (field true form k e) = bind-follows f _ _ (ev-follows e) (λ v. initialized-follows f form (ClassOf n) a v)
      ev_static-follows n a (private_field true d e) = bind-follows f _ _ (ev-follows e) (λ v. event-follows f _ _)
      ev_static-follows n a (static_block es) = ev_all-follows es _ _ (λ vs. gives-follows f Undefined)
      ev_static-follows n a (generated_element s e) = bind-follows f _ _ (ev-follows e) (λ v. element_holds-follows f (private_key s) v)
      ev_static-follows n a e = gives-follows f _

      pub ev_fields-follows : (n : ℕ) (es : Codes) → Follows f (ev_fields opens n es) (ev_fields there (f n) (mapped_codes f es))
      ev_fields-follows n done = gives-follows f _
      ev_fields-follows n (and e es) = bind-follows f _ _ (ev_field-follows n e) (λ v. ev_fields-follows n es)

      pub ev_field-follows : (n : ℕ) (e : Code) → Follows f (ev_field opens n e) (ev_field there (f n) (mapped_code f e))
      ev_field-follows n (field false form k e) = bind-follows f _ _ (quiet-follows f (ev-follows k)) (λ a. bind-follows f _ _ (ev-follows e) (λ v. initialized-follows f form (ThisOf n) a v))
      ev_field-follows n (private_field false d e) = bind-follows f _ _ (ev-follows e) (λ v. event-follows f _ _)
      ev_field-follows n e = gives-follows f _

    pub ev_initializers-follows : (n : ℕ) (es : Codes) → Follows f (ev_initializers opens n es) (ev_initializers there (f n) (mapped_codes f es))
    ev_initializers-follows n es = rw (has_instance_methods-mapped f es) (bind-follows f (λ v. ev_fields opens n es) (λ v. ev_fields there (f n) (mapped_codes f es)) (brand_first-follows f (has_instance_methods es) n) (λ v. ev_fields-follows n es))
