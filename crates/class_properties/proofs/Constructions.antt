-- A class of plain fields and the class whose constructor defines them evaluate alike and have the same entry, whatever
-- stands for bodies that are opened.
use Rattle.std.specs.Prelude.{◌≡◌, ℕ, List, [], ◌∷◌, ◌++◌, Bool, true, false, cond, Option, Some, None}
use Rattle.std.proofs.Common.{refl, sym, ap, ap₂, ◌∙◌}
use Rattle.es_steps.proofs.PlainClasses.{IsPlain, a_value, a_name, fixed, changing, means_class}
use Rattle.es_steps.proofs.Reflexive.{value-same}
use Rattle.es_steps.specs.Code.{Code, Codes, Opened, defines, value, name, define, steps, new_function, class_code, field, constructor, done, and}
use Rattle.es_steps.specs.Context.{Fixed, Changing, MeansClass}
use Rattle.es_steps.specs.Entries.{behind_leading, elements_start, Entries, ClassEntry, plain_form, constructor_form, constructor_parameters, methods_in, keys_stay, ev_construction, entries, all_entries, key_entries, static_entries, field_entries, function_entries}
use Rattle.es_steps.specs.Evaluation.{Environment, Evaluation, Run, gives, bind, has_instance_methods, declared_first, ev, ev_all, ev_keys, ev_statics, ev_fields, ev_initializers}
use Rattle.es_steps.specs.Events.{Events, none, then, ReadName, Define, InitializeClass, throws, behind, value_behind}
use Rattle.es_steps.specs.Meaning.{private_function_by}
use Rattle.es_steps.specs.Opening.{gather, gather_all}
use Rattle.es_steps.specs.Values.{String, Value, ConstantOf, StringOf, Undefined, BindingOf, ClassOf, ThisOf, ResultOf}

-- fields: the key and the code of the value of each
pub data Fields : Type 0 where
  no_fields : Fields
  with_field : (key : String) (v : Code) (rest : Fields) → Fields

abbrev pub ArePlain : Fields → Type 0
ArePlain no_fields = Unit
ArePlain (with_field s v fs) = IsPlain v × ArePlain fs

-- as elements of a class
abbrev pub field_codes : Fields → Codes
field_codes no_fields = done
field_codes (with_field s v fs) = and (field false defines (value (ConstantOf (StringOf s))) v) (field_codes fs)

-- as statements of the constructor of class n: calls of the helper with numbers of their own
pub data Defines (n : ℕ) : Fields → Codes → Type 0 where
  none_defined : Defines n no_fields done
  defined : {s : String} {v : Code} {fs : Fields} {cs : Codes} (m : ℕ) → Defines n fs cs → Defines n (with_field s v fs) (and (steps (and (define m (ThisOf n) (value (ConstantOf (StringOf s))) v) done)) cs)

-- as elements of the lowered class, whose constructor is the new function k
pub data AreLowered (n : ℕ) : Fields → Codes → Type 0 where
  no_constructor : AreLowered n no_fields done
  one_constructor : {s : String} {v : Code} {fs : Fields} {ds : Codes} (k : ℕ) → Defines n (with_field s v fs) ds → AreLowered n (with_field s v fs) (and (constructor (new_function k plain_form done (steps ds))) done)

-- ---- what the construction does

abbrev value_events : Code → Events
value_events (name m s (Changing r)) = then (ReadName m r) none
value_events c = none

abbrev value_of : Code → Value
value_of (value v) = v
value_of (name m s (Fixed b)) = BindingOf b
value_of (name m s (Changing r)) = ResultOf m
value_of (name m s (MeansClass n b)) = ClassOf n
value_of c = Undefined

abbrev events : ℕ → Fields → Events
events n no_fields = none
events n (with_field s v fs) = behind (value_events v) (then (Define (ThisOf n) (ConstantOf (StringOf s)) (value_of v)) (events n fs))

-- a class that is declared gets its name
abbrev pub class_events : Option ℕ → ℕ → Events
class_events None n = none
class_events (Some b) n = then (InitializeClass n) none

abbrev keys : Fields → List Value
keys no_fields = []
keys (with_field s v fs) = ConstantOf (StringOf s) ∷ keys fs

abbrev pub ran : Events → Value → Environment → Option Run
ran l v env = Some (record { events = l; value = v; after = env })

pub value_behind-undefined : (l : Events) → value_behind l Undefined ≡ Undefined
value_behind-undefined l = either (throws l)
  where
    either : (b : Bool) → cond b Undefined Undefined ≡ Undefined
    either true = refl
    either false = refl

no_methods : (fs : Fields) → has_instance_methods (field_codes fs) ≡ false
no_methods no_fields = refl
no_methods (with_field s v fs) = no_methods fs

form-fields : (fs : Fields) → constructor_form (field_codes fs) ≡ plain_form
form-fields no_fields = refl
form-fields (with_field s v fs) = form-fields fs

parameters-fields : (fs : Fields) → constructor_parameters (field_codes fs) ≡ []
parameters-fields no_fields = refl
parameters-fields (with_field s v fs) = parameters-fields fs

module _ (opens : Opened → Evaluation) where
  fields-run : (n : ℕ) (fs : Fields) (env : Environment) → ArePlain fs → ev_fields opens n (field_codes fs) env ≡ ran (events n fs) Undefined env
  fields-run n no_fields env h = refl
  fields-run n (with_field s v fs) env h = step v h.0 (fields-run n fs env h.1)
    where
      step : (v : Code) → IsPlain v → ev_fields opens n (field_codes fs) env ≡ ran (events n fs) Undefined env → ev_fields opens n (field_codes (with_field s v fs)) env ≡ ran (events n (with_field s v fs)) Undefined env
      step v (a_value w) ih = rw ih refl
      step v (a_name m x kind (fixed b)) ih = rw ih refl
      step v (a_name m x kind (changing r)) ih = rw ih refl
      step v (a_name m x kind (means_class c b)) ih = rw ih refl

  source-runs : (n : ℕ) (fs : Fields) (env : Environment) → ArePlain fs → ev_initializers opens n (field_codes fs) env ≡ ran (events n fs) Undefined env
  source-runs n fs env h = rw (no_methods fs, fields-run n fs env h) refl

  defined-runs : (n : ℕ) (fs : Fields) (cs : Codes) (env : Environment) → Defines n fs cs → ArePlain fs → ev_all opens cs (λ vs. gives Undefined) env ≡ ran (events n fs) Undefined env
  defined-runs n no_fields cs env none_defined h = refl
  defined-runs n (with_field s v fs) cs env (defined {cs = ds} m d) h = step v h.0 (defined-runs n fs ds env d h.1)
    where
      step : (v : Code) → IsPlain v → ev_all opens ds (λ vs. gives Undefined) env ≡ ran (events n fs) Undefined env → ev_all opens (and (steps (and (define m (ThisOf n) (value (ConstantOf (StringOf s))) v) done)) ds) (λ vs. gives Undefined) env ≡ ran (events n (with_field s v fs)) Undefined env
      step v (a_value w) ih = rw ih refl
      step v (a_name i x kind (fixed b)) ih = rw ih refl
      step v (a_name i x kind (changing r)) ih = rw ih refl
      step v (a_name i x kind (means_class c b)) ih = rw ih refl

  keys-run : (fs : Fields) (f : List Value → Evaluation) (l : Events) (v : Value) → f (keys fs) [] ≡ ran l v [] → ev_keys opens (field_codes fs) f [] ≡ ran l v []
  keys-run no_fields f l v h = h
  keys-run (with_field s w fs) f l v h = rw (keys-run fs (λ ks. f (ConstantOf (StringOf s) ∷ ks)) l v h) refl

  statics-run : (n : ℕ) (fs : Fields) (ks : List Value) → ev_statics opens n ks (field_codes fs) [] ≡ ran none Undefined []
  statics-run n no_fields [] = refl
  statics-run n no_fields (k ∷ ks) = refl
  statics-run n (with_field s v fs) [] = refl
  statics-run n (with_field s v fs) (k ∷ ks) = rw (statics-run n fs ks) refl

  class-runs : (n : ℕ) (declared : Option ℕ) (fs : Fields) → ev opens (class_code n declared done (field_codes fs)) [] ≡ ran (class_events declared n) (ClassOf n) []
  class-runs n None fs = rw (keys-run fs (λ ks. bind (declared_first None n) (λ u. bind (ev_statics opens n ks (field_codes fs)) (λ w. gives (ClassOf n)))) none (ClassOf n) (rw (statics-run n fs (keys fs)) refl)) refl
  class-runs n (Some b) fs = rw (keys-run fs (λ ks. bind (declared_first (Some b) n) (λ u. bind (ev_statics opens n ks (field_codes fs)) (λ w. gives (ClassOf n)))) (then (InitializeClass n) none) (ClassOf n) (rw (statics-run n fs (keys fs)) refl)) refl

  lowered_class-runs : (n : ℕ) (declared : Option ℕ) (fs : Fields) (cs : Codes) → AreLowered n fs cs → ev opens (class_code n declared done cs) [] ≡ ran (class_events declared n) (ClassOf n) []
  lowered_class-runs n None fs cs no_constructor = refl
  lowered_class-runs n (Some b) fs cs no_constructor = refl
  lowered_class-runs n None fs cs (one_constructor k d) = refl
  lowered_class-runs n (Some b) fs cs (one_constructor k d) = refl

  module _ (first : ℕ) where
    source_construction : (n : ℕ) (all fs : Fields) → ev_construction opens first [] n done (field_codes all) (field_codes fs) ≡ ev_initializers opens n (field_codes all)
    source_construction n all no_fields = refl
    source_construction n all (with_field s v fs) = source_construction n all fs

    field-methods : (fs : Fields) → methods_in opens first [] [] (field_codes fs) ≡ Some []
    field-methods no_fields = refl
    field-methods (with_field s v fs) = field-methods fs

    stays : (fs : Fields) → keys_stay opens first [] [] [] (field_codes fs) ≡ true
    stays no_fields = refl
    stays (with_field s v fs) = rw (value-same (ConstantOf (StringOf s))) (stays fs)

    -- ---- entries

    plain-entries : (s : Environment) (c : Code) → IsPlain c → entries opens first [] s c ≡ []
    plain-entries s c (a_value v) = refl
    plain-entries s c (a_name m t kind h) = refl

    keys-none : (fs : Fields) (s : Environment) → key_entries opens first [] s (field_codes fs) ≡ []
    keys-none no_fields s = refl
    keys-none (with_field k v fs) s = keys-none fs _

    statics-none : (n : ℕ) (fs : Fields) (s : Environment) → static_entries opens first [] n s (field_codes fs) ≡ []
    statics-none n no_fields s = refl
    statics-none n (with_field k v fs) s = statics-none n fs _

    fields-none : (n : ℕ) (fs : Fields) → ArePlain fs → (s : Environment) → field_entries opens first [] n s (field_codes fs) ≡ []
    fields-none n no_fields h s = refl
    fields-none n (with_field k v fs) h s = rw (plain-entries s v h.0) (fields-none n fs h.1 _)

    functions-none : (s i : Environment) (fs : Fields) → function_entries opens first [] s i (field_codes fs) ≡ []
    functions-none s i no_fields = refl
    functions-none s i (with_field k v fs) = functions-none s i fs

    defined-none : (n : ℕ) (fs : Fields) (cs : Codes) → Defines n fs cs → ArePlain fs → (s : Environment) → all_entries opens first [] s cs ≡ []
    defined-none n no_fields cs none_defined h s = refl
    defined-none n (with_field k v fs) cs (defined {cs = ds} m d) h s = rw (plain-entries s v h.0) (defined-none n fs ds d h.1 _)

    -- the one entry of class n
    abbrev class_entries : ℕ → Option ℕ → Fields → Entries
    class_entries n declared fs = (n, Some (ClassEntry declared None [] plain_form [] (record { events = events n fs; value = Undefined }))) ∷ []

    leading-none : (n : ℕ) (fs : Fields) → behind_leading opens first [] n [] (field_codes fs) ≡ []
    leading-none n no_fields = refl
    leading-none n (with_field s v fs) = leading-none n fs

    start-none : (n : ℕ) (fs : Fields) → elements_start opens first [] n [] [] (field_codes fs) ≡ []
    start-none n fs = rw (leading-none n fs) refl

    source-entries : (n : ℕ) (declared : Option ℕ) (fs : Fields) → ArePlain fs → entries opens first [] [] (class_code n declared done (field_codes fs)) ≡ class_entries n declared fs
    source-entries n declared fs h =
        rw (keys-run fs (λ ks. gives Undefined) none Undefined refl, start-none n fs, source_construction n fs fs, source-runs n fs [] h, field-methods fs, form-fields fs, parameters-fields fs, value_behind-undefined (events n fs), stays fs, keys-none fs [], statics-none n fs [], fields-none n fs h []) (ap (λ es. class_entries n declared fs ++ es) (functions-none _ _ fs))

    lowered-entries : (n : ℕ) (declared : Option ℕ) (fs : Fields) (cs : Codes) → AreLowered n fs cs → ArePlain fs → entries opens first [] [] (class_code n declared done cs) ≡ class_entries n declared fs
    lowered-entries n declared fs cs no_constructor h = refl
    lowered-entries n declared fs cs (one_constructor {ds = ds} k d) h =
        rw (defined-runs n fs ds [] d h, value_behind-undefined (events n fs), value_behind-undefined (events n fs)) (ap (λ es. class_entries n declared fs ++ (es ++ [])) (defined-none n fs ds d h []))

-- ---- classes

pub data IsPair : Code → Code → Type 0 where
  pair_of_classes : (n : ℕ) (declared : Option ℕ) (fs : Fields) (cs : Codes) → ArePlain fs → AreLowered n fs cs → IsPair (class_code n declared done (field_codes fs)) (class_code n declared done cs)

abbrev pub ArePairs : Codes → Codes → Type 0
ArePairs done done = Unit
ArePairs (and c cs) (and d ds) = IsPair c d × ArePairs cs ds
ArePairs cs ds = ⊥

pub record RunAlike (opens opened : Opened → Evaluation) (first : ℕ) (cs ds : Codes) : Type 0 where
  pub listed : Events
  pub source : ev_all opens cs (λ vs. gives Undefined) [] ≡ ran listed Undefined []
  pub lowered : ev_all opened ds (λ vs. gives Undefined) [] ≡ ran listed Undefined []
  pub entries : all_entries opened first [] [] ds ≡ all_entries opens first [] [] cs
  pub functions : gather_all private_function_by cs ≡ []
  pub lowered_functions : gather_all private_function_by ds ≡ []

no_functions : (fs : Fields) → ArePlain fs → gather_all private_function_by (field_codes fs) ≡ []
no_functions no_fields h = refl
no_functions (with_field s v fs) h = rw (plain v h.0) (no_functions fs h.1)
  where
    plain : (v : Code) → IsPlain v → gather private_function_by v ≡ []
    plain v (a_value w) = refl
    plain v (a_name m t kind k) = refl

no_defined_functions : (n : ℕ) (fs : Fields) (cs : Codes) → Defines n fs cs → ArePlain fs → gather_all private_function_by cs ≡ []
no_defined_functions n no_fields cs none_defined h = refl
no_defined_functions n (with_field s v fs) cs (defined {cs = ds} m d) h = step v h.0 (no_defined_functions n fs ds d h.1)
  where
    step : (v : Code) → IsPlain v → gather_all private_function_by ds ≡ [] → gather_all private_function_by (and (steps (and (define m (ThisOf n) (value (ConstantOf (StringOf s))) v) done)) ds) ≡ []
    step v (a_value w) ih = ih
    step v (a_name i x kind k) ih = ih

no_lowered_functions : (n : ℕ) (fs : Fields) (cs : Codes) → ArePlain fs → AreLowered n fs cs → gather_all private_function_by cs ≡ []
no_lowered_functions n fs cs p no_constructor = refl
no_lowered_functions n fs cs p (one_constructor {ds = ds} k d) = rw (no_defined_functions n fs ds d p) refl

module _ (opens opened : Opened → Evaluation) (first : ℕ) where
  pair-runs : (c d : Code) (cs ds : Codes) → IsPair c d → RunAlike opens opened first cs ds → RunAlike opens opened first (and c cs) (and d ds)
  pair-runs c d cs ds (pair_of_classes n declared fs es p l) ih = record {
    listed = behind (class_events declared n) ih.listed;
    source = rw (class-runs opens n declared fs, ih.source) refl;
    lowered = rw (lowered_class-runs opened n declared fs es l, ih.lowered) refl;
    entries = rw (class-runs opens n declared fs, lowered_class-runs opened n declared fs es l) (ap₂ (λ (xs ys : Entries). xs ++ ys) (lowered-entries opened first n declared fs es l p ∙ sym (source-entries opens first n declared fs p)) ih.entries);
    functions = rw (no_functions fs p) ih.functions;
    lowered_functions = rw (no_lowered_functions n fs es p l) ih.lowered_functions;
  }

  pub pairs-run : (cs ds : Codes) → ArePairs cs ds → RunAlike opens opened first cs ds
  pairs-run done done h = record { listed = none; source = refl; lowered = refl; entries = refl; functions = refl; lowered_functions = refl }
  pairs-run done (and d ds) h = absurd h
  pairs-run (and c cs) done h = absurd h
  pairs-run (and c cs) (and d ds) h = pair-runs c d cs ds h.0 (pairs-run cs ds h.1)
