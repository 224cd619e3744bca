-- Classes without heritage whose elements are fields with plain values have a meaning.
use Rattle.std.specs.Prelude.{◌≡◌, refl, ℕ, List, [], ◌∷◌, ◌++◌, Bool, true, false, Option, Some, None}
use Rattle.std.specs.Option.{IsSome}
use Rattle.std.proofs.Common.{sym, ◌∙◌, subst}
use Rattle.std.proofs.lemmas.Bool.{true≢false}
use Rattle.es_steps.specs.Code.{Code, Codes, FieldForm, FunctionForm, Opened, defines, sets, leaves_out, value, name, steps, class_code, field, done, and}
use Rattle.es_steps.specs.Context.{NameKind, Fixed, Changing, MeansClass}
use Rattle.es_steps.specs.Entries.{elements_start, Entry, Entries, Listed, Method, Parameter, listed, after_run, methods_in, keys_stay, class_entry, without, constructor_form, constructor_parameters, ev_construction, entries, key_entries, key_entry, static_entries, static_entry, field_entries, field_entry, function_entries, element_function}
use Rattle.es_steps.specs.Evaluation.{added, outside_run, outside, Environment, Run, Evaluation, gives, run_behind, go_on, bind, settle_run, settle, quiet, initialized, read_name, has_instance_methods, declared_first, ev, ev_all, ev_keys, ev_key, ev_statics, ev_static, ev_fields, ev_field, ev_initializers}
use Rattle.es_steps.specs.Events.{Events}
use Rattle.es_steps.specs.Meaning.{with_entry, whole}
use Rattle.es_steps.specs.Opening.{assigned_in, assigned_in_all}
use Rattle.es_steps.proofs.Reflexive.{value-same}
use Rattle.es_steps.specs.Values.{String, Value, Undefined, ClassOf, ThisOf, Referent}

-- ---- evaluations that have a run in each environment, which ends in the same environment

abbrev pub EndsIn : Environment → Option Run → Type 0
EndsIn env None = ⊥
EndsIn env (Some r) = r.after ≡ env

abbrev pub Stays : Evaluation → Type 0
Stays a = (env : Environment) → EndsIn env (a env)

run_behind-ends : (env : Environment) (l : Events) (r : Option Run) → EndsIn env r → EndsIn env (run_behind l r)
run_behind-ends env l None h = h
run_behind-ends env l (Some r) h = h

go_on-ends : (env : Environment) (r : Option Run) (f : Value → Evaluation) → EndsIn env r → ((v : Value) → Stays (f v)) → EndsIn env (go_on r f)
go_on-ends env None f h k = h
go_on-ends env (Some r) f h k = run_behind-ends env r.events (f r.value r.after) (subst (λ s. EndsIn s (f r.value r.after)) h (k r.value r.after))

bind-stays : (a : Evaluation) (f : Value → Evaluation) → Stays a → ((v : Value) → Stays (f v)) → Stays (bind a f)
bind-stays a f h k env = go_on-ends env (a env) f (h env) k

settle_run-ends : (env : Environment) (r : Option Run) → EndsIn env r → EndsIn env (settle_run r)
settle_run-ends env None h = h
settle_run-ends env (Some r) h = h

pub settle-stays : (a : Evaluation) → Stays a → Stays (settle a)
settle-stays a h env = settle_run-ends env (a env) (h env)

added-none : (env : Environment) → added env env ≡ 0
added-none [] = refl
added-none (p ∷ env) = added-none env

outside_run-ends : (env : Environment) (r : Option Run) → EndsIn env r → EndsIn env (outside_run env r)
outside_run-ends env None h = h
outside_run-ends env (Some r) h = rw (h, added-none env) refl

outside-stays : (a : Evaluation) → Stays a → Stays (outside a)
outside-stays a h env = outside_run-ends env (a env) (h env)

initialized-stays : (form : FieldForm) (o k v : Value) → Stays (initialized form o k v)
initialized-stays defines o k v env = refl
initialized-stays sets o k v env = refl
initialized-stays leaves_out o k v env = refl

pub ends-there : (env : Environment) (r : Option Run) → EndsIn env r → IsSome (listed r)
ends-there env None h = absurd h
ends-there env (Some r) h = refl

-- ---- plain values: constants and names that were not generated

pub data IsNotGenerated : NameKind → Type 0 where
  fixed : (b : ℕ) → IsNotGenerated (Fixed b)
  changing : (r : Referent) → IsNotGenerated (Changing r)
  means_class : (n b : ℕ) → IsNotGenerated (MeansClass n b)

pub data IsPlain : Code → Type 0 where
  a_value : (v : Value) → IsPlain (value v)
  a_name : (m : ℕ) (s : String) (kind : NameKind) → IsNotGenerated kind → IsPlain (name m s kind)

pub data IsField : Code → Type 0 where
  plain_field : (form : FieldForm) (k : Value) (r : Code) → IsPlain r → IsField (field false form (value k) r)

abbrev pub AreFields : Codes → Type 0
AreFields done = Unit
AreFields (and c cs) = IsField c × AreFields cs

pub data IsClass : Code → Type 0 where
  plain_class : (n : ℕ) (declared : Option ℕ) (cs : Codes) → AreFields cs → IsClass (class_code n declared done cs)

abbrev pub AreClasses : Codes → Type 0
AreClasses done = Unit
AreClasses (and c cs) = IsClass c × AreClasses cs

plain-assigned : (c : Code) → IsPlain c → assigned_in c ≡ []
plain-assigned c (a_value v) = refl
plain-assigned c (a_name m t kind h) = refl

assigned-field : (c : Code) → IsField c → assigned_in c ≡ []
assigned-field c (plain_field form k r h) = plain-assigned r h

assigned-fields : (cs : Codes) → AreFields cs → assigned_in_all cs ≡ []
assigned-fields done h = refl
assigned-fields (and c cs) h = rw (assigned-field c h.0) (assigned-fields cs h.1)

without-none : (env : Environment) → without [] env ≡ env
without-none [] = refl
without-none (p ∷ ps) = rw (without-none ps) refl

begins : (cs : Codes) (env : Environment) → AreFields cs → without (assigned_in_all cs) env ≡ env
begins cs env h = rw (assigned-fields cs h) (without-none env)

no_methods-field : (c : Code) (cs : Codes) → IsField c → has_instance_methods (and c cs) ≡ has_instance_methods cs
no_methods-field c cs (plain_field form k r h) = refl

no_methods : (cs : Codes) → AreFields cs → has_instance_methods cs ≡ false
no_methods done h = refl
no_methods (and c cs) h = no_methods-field c cs h.0 ∙ no_methods cs h.1

class_entry-there : (stay : Bool) (declared : Option ℕ) (form : FunctionForm) (ps : List Parameter) (ms : Option (List Method)) (l : Option Listed) → stay ≡ true → ms ≡ Some [] → IsSome l → IsSome (class_entry stay declared form ps (Some None) ms l)
class_entry-there stay declared form ps ms None t e h = absurd (true≢false (sym h))
class_entry-there stay declared form ps ms (Some l) t e h = rw (t, e) refl

with_entry-there : (n : ℕ) (e : Option Entry) (es : Option (List (ℕ × Entry))) → IsSome e → IsSome es → IsSome (with_entry n e es)
with_entry-there n None es h k = h
with_entry-there n (Some e) None h k = k
with_entry-there n (Some e) (Some es) h k = refl

with_entry-parts : (n : ℕ) (e : Option Entry) (es : Option (List (ℕ × Entry))) → IsSome (with_entry n e es) → IsSome e × IsSome es
with_entry-parts n None es h = absurd (true≢false (sym h))
with_entry-parts n (Some e) None h = absurd (true≢false (sym h))
with_entry-parts n (Some e) (Some es) h = (refl, refl)

whole-append : (xs ys : Entries) → IsSome (whole xs) → IsSome (whole ys) → IsSome (whole (xs ++ ys))
whole-append [] ys h k = k
whole-append (x ∷ xs) ys h k =
    let parts = with_entry-parts x.0 x.1 (whole xs) h in
    with_entry-there x.0 x.1 (whole (xs ++ ys)) parts.0 (whole-append xs ys parts.1 k)

module _ (opens : Opened → Evaluation) (first : ℕ) (late : List ℕ) where
  read_name-stays : (m : ℕ) (s : String) (kind : NameKind) → IsNotGenerated kind → Stays (read_name m s kind)
  read_name-stays m s kind (fixed b) env = refl
  read_name-stays m s kind (changing r) env = refl
  read_name-stays m s kind (means_class n b) env = refl

  plain-stays : (c : Code) → IsPlain c → Stays (ev opens c)
  plain-stays c (a_value v) env = refl
  plain-stays c (a_name m s kind h) env = read_name-stays m s kind h env

  plain-entries : (s : Environment) (c : Code) → IsPlain c → entries opens first late s c ≡ []
  plain-entries s c (a_value v) = refl
  plain-entries s c (a_name m t kind h) = refl

  -- ---- fields

  ev_key-stays : (c : Code) → IsField c → Stays (ev_key opens c)
  ev_key-stays c (plain_field form k r h) env = refl

  ev_keys-stays : (cs : Codes) (f : List Value → Evaluation) → AreFields cs → ((vs : List Value) → Stays (f vs)) → Stays (ev_keys opens cs f)
  ev_keys-stays done f h k = k []
  ev_keys-stays (and c cs) f h k = bind-stays (ev_key opens c) (λ v. ev_keys opens cs (λ vs. f (v ∷ vs))) (ev_key-stays c h.0) (λ v. ev_keys-stays cs (λ vs. f (v ∷ vs)) h.1 (λ vs. k (v ∷ vs)))

  ev_static-stays : (n : ℕ) (a : Value) (c : Code) → IsField c → Stays (ev_static opens n a c)
  ev_static-stays n a c (plain_field form k r h) env = refl

  ev_statics-stays : (n : ℕ) (ks : List Value) (cs : Codes) → AreFields cs → Stays (ev_statics opens n ks cs)
  ev_statics-stays n [] cs h env = refl
  ev_statics-stays n (k ∷ ks) done h env = refl
  ev_statics-stays n (k ∷ ks) (and c cs) h env = bind-stays (ev_static opens n k c) (λ v. ev_statics opens n ks cs) (ev_static-stays n k c h.0) (λ v. ev_statics-stays n ks cs h.1) env

  ev_field-stays : (n : ℕ) (c : Code) → IsField c → Stays (ev_field opens n c)
  ev_field-stays n c (plain_field form k r h) env =
      bind-stays (quiet (gives k)) (λ a. bind (ev opens r) (λ v. initialized form (ThisOf n) a v)) (λ i. refl)
      (λ a. bind-stays (ev opens r) (λ v. initialized form (ThisOf n) a v) (plain-stays r h) (λ v. initialized-stays form (ThisOf n) a v))
      env

  ev_fields-stays : (n : ℕ) (cs : Codes) → AreFields cs → Stays (ev_fields opens n cs)
  ev_fields-stays n done h env = refl
  ev_fields-stays n (and c cs) h env = bind-stays (ev_field opens n c) (λ v. ev_fields opens n cs) (ev_field-stays n c h.0) (λ v. ev_fields-stays n cs h.1) env

  initializers-stay : (n : ℕ) (cs : Codes) → AreFields cs → Stays (ev_initializers opens n cs)
  initializers-stay n cs h = rw (no_methods cs h) (bind-stays (gives Undefined) (λ v. ev_fields opens n cs) (λ env. refl) (λ v. ev_fields-stays n cs h))

  construction-passes : (n : ℕ) (all : Codes) (c : Code) (cs : Codes) → IsField c → ev_construction opens first late n done all (and c cs) ≡ ev_construction opens first late n done all cs
  construction-passes n all c cs (plain_field form k r h) = refl

  construction-fields : (n : ℕ) (all cs : Codes) → AreFields cs → ev_construction opens first late n done all cs ≡ ev_initializers opens n all
  construction-fields n all done h = refl
  construction-fields n all (and c cs) h = construction-passes n all c cs h.0 ∙ construction-fields n all cs h.1

  construction-stays : (n : ℕ) (cs : Codes) → AreFields cs → Stays (ev_construction opens first late n done cs cs)
  construction-stays n cs h = subst Stays (sym (construction-fields n cs cs h)) (initializers-stay n cs h)

  methods-passes : (env : Environment) (c : Code) (cs : Codes) → IsField c → methods_in opens first late env (and c cs) ≡ methods_in opens first late env cs
  methods-passes env c cs (plain_field form k r h) = refl

  methods-fields : (env : Environment) (cs : Codes) → AreFields cs → methods_in opens first late env cs ≡ Some []
  methods-fields env done h = refl
  methods-fields env (and c cs) h = methods-passes env c cs h.0 ∙ methods-fields env cs h.1

  keys-passes : (s i : Environment) (c : Code) (cs : Codes) → IsField c → keys_stay opens first late s i (and c cs) ≡ keys_stay opens first late s i cs
  keys-passes s i c cs (plain_field form k r h) = rw (value-same k) refl

  keys-fields : (s i : Environment) (cs : Codes) → AreFields cs → keys_stay opens first late s i cs ≡ true
  keys-fields s i done h = refl
  keys-fields s i (and c cs) h = keys-passes s i c cs h.0 ∙ keys-fields s i cs h.1

  -- ---- entries of a class: behind its own it has none

  key-none : (s : Environment) (c : Code) → IsField c → key_entry opens first late s c ≡ []
  key-none s c (plain_field form k r p) = refl

  keys-none : (s : Environment) (cs : Codes) → AreFields cs → key_entries opens first late s cs ≡ []
  keys-none s done h = refl
  keys-none s (and c cs) h = rw (key-none s c h.0) (keys-none (after_run s (ev_key opens c s)) cs h.1)

  static-none : (s : Environment) (c : Code) → IsField c → static_entry opens first late s c ≡ []
  static-none s c (plain_field form k r p) = refl

  statics-none : (n : ℕ) (s : Environment) (cs : Codes) → AreFields cs → static_entries opens first late n s cs ≡ []
  statics-none n s done h = refl
  statics-none n s (and c cs) h = rw (static-none s c h.0) (statics-none n (after_run s (ev_static opens n Undefined c s)) cs h.1)

  field-none : (s : Environment) (c : Code) → IsField c → field_entry opens first late s c ≡ []
  field-none s c (plain_field form k r p) = plain-entries s r p

  fields-none : (n : ℕ) (s : Environment) (cs : Codes) → AreFields cs → field_entries opens first late n s cs ≡ []
  fields-none n s done h = refl
  fields-none n s (and c cs) h = rw (field-none s c h.0) (fields-none n (after_run s (ev_field opens n c s)) cs h.1)

  function-none : (s i : Environment) (c : Code) → IsField c → element_function opens first late s i c ≡ []
  function-none s i c (plain_field form k r p) = refl

  functions-none : (s i : Environment) (cs : Codes) → AreFields cs → function_entries opens first late s i cs ≡ []
  functions-none s i done h = refl
  functions-none s i (and c cs) h = rw (function-none s i c h.0) (functions-none s i cs h.1)

  class-entries : (n : ℕ) (declared : Option ℕ) (s : Environment) (cs : Codes) → AreFields cs → IsSome (whole (entries opens first late s (class_code n declared done cs)))
  class-entries n declared s cs h =
      let start : Environment = elements_start opens first late n s (after_run s (ev_keys opens cs (λ ks. gives Undefined) s)) cs in
      rw (keys-none _ cs h, statics-none n _ cs h, fields-none n _ cs h, functions-none _ _ cs h)
      (with_entry-there n _ (Some []) (class_entry-there _ declared (constructor_form cs) (constructor_parameters cs) _ _ (keys-fields s start cs h) (methods-fields s cs h) (ends-there _ _ (construction-stays n cs h start))) refl)

  -- ---- classes

  declared-stays : (d : Option ℕ) (n : ℕ) → Stays (declared_first d n)
  declared-stays None n env = refl
  declared-stays (Some b) n env = refl

  class-stays : (c : Code) → IsClass c → Stays (ev opens c)
  class-stays c (plain_class n declared cs h) =
      let behind : List Value → Value → Evaluation = λ ks u. bind (ev_statics opens n ks cs) (λ w. gives (ClassOf n)) in
      let statics : List Value → Evaluation = λ ks. bind (declared_first declared n) (behind ks) in
      outside-stays (settle (ev_keys opens cs statics)) (settle-stays (ev_keys opens cs statics) (ev_keys-stays cs statics h (λ ks. bind-stays (declared_first declared n) (behind ks) (declared-stays declared n) (λ u. bind-stays (ev_statics opens n ks cs) (λ w. gives (ClassOf n)) (ev_statics-stays n ks cs h) (λ w env. refl)))))

  ev_all-stays : (cs : Codes) (f : List Value → Evaluation) → AreClasses cs → ((vs : List Value) → Stays (f vs)) → Stays (ev_all opens cs f)
  ev_all-stays done f h k = k []
  ev_all-stays (and c cs) f h k = bind-stays (ev opens c) (λ v. ev_all opens cs (λ vs. f (v ∷ vs))) (class-stays c h.0) (λ v. ev_all-stays cs (λ vs. f (v ∷ vs)) h.1 (λ vs. k (v ∷ vs)))

  one-there : (s : Environment) (c : Code) → IsClass c → IsSome (whole (entries opens first late s c))
  one-there s c (plain_class n declared cs h) = class-entries n declared s cs h

  pub all-there : (s : Environment) (cs : Codes) → AreClasses cs → IsSome (whole (entries opens first late s (steps cs)))
  all-there s done h = refl
  all-there s (and c cs) h =
      let t : Environment = after_run s (ev opens c s) in
      whole-append (entries opens first late s c) (entries opens first late t (steps cs)) (one-there s c h.0) (all-there t cs h.1)

  pub classes-run : (cs : Codes) → AreClasses cs → IsSome (listed (ev opens (steps cs) []))
  classes-run cs h =
      let last : List Value → Evaluation = λ vs. gives Undefined in
      ends-there [] _ (settle-stays (ev_all opens cs last) (ev_all-stays cs last h (λ vs env. refl)) [])
