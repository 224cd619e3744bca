-- When one expression may stand in the place of another.
use Rattle.std.specs.Prelude.{◌≡◌, ℕ, List, [], ◌∷◌, ◌++◌, ◌||◌, Option, Some, None}
use Rattle.es_steps.specs.Code.{Code, Codes, Opened}
use Rattle.es_steps.specs.Entries.{is_string_among, without, entries}
use Rattle.es_steps.specs.Evaluation.{Environment, Run, Evaluation, ev, ev_initializers}
use Rattle.es_steps.specs.Meaning.{private_functions}
use Rattle.es_steps.specs.Opening.{Definition, of_class, of_name, of_called, assigned_in, definitions}
use Rattle.es_steps.specs.Values.{String}

-- ---- evaluations

abbrev pub run_without : List String → Option Run → Option Run
run_without names None = None
run_without names (Some r) = Some (record { events = r.events; value = r.value; after = without names r.after })

-- what stands in front of an environment is what was added to it
pub record Extends (s after : Environment) : Type 0 where
  pub more : Environment
  pub whole : after ≡ more ++ s

abbrev pub OnlyAdds : Environment → Option Run → Type 0
OnlyAdds s None = Unit {0}
OnlyAdds s (Some r) = Extends s r.after

-- the second has the events and the value of the first in every environment, and leaves the other names with the values that
-- the first leaves; what these names stand for, the first does not see
pub record Replaces (names : List String) (a b : Evaluation) : Type 0 where
  pub same : (s : Environment) → a (without names s) ≡ run_without names (b s)
  pub adds : (s : Environment) → OnlyAdds s (b s)

abbrev pub AllReplaced : List String → (Opened → Evaluation) → (Opened → Evaluation) → Type 0
AllReplaced names opens there = (o : Opened) → Replaces names (opens o) (there o)

-- ---- definitions

abbrev pub Definitions : Type 0
Definitions = List Definition

pub data DefinesAlike (names : List String) : Definition → Definition → Type 0 where
  class : (n : ℕ) (es fs : Codes) → ((opens there : Opened → Evaluation) → AllReplaced names opens there → Replaces names (ev_initializers opens n es) (ev_initializers there n fs)) → DefinesAlike names (of_class n es) (of_class n fs)
  name : (s : String) (c d : Code) → ((opens there : Opened → Evaluation) → AllReplaced names opens there → Replaces names (ev opens c) (ev there d)) → DefinesAlike names (of_name s c) (of_name s d)
  called : (s : String) (c d : Code) → ((opens there : Opened → Evaluation) → AllReplaced names opens there → Replaces names (ev opens c) (ev there d)) → DefinesAlike names (of_called s c) (of_called s d)

pub data AllDefineAlike (names : List String) : Definitions → Definitions → Type 0 where
  none : AllDefineAlike names [] []
  next : {d e : Definition} {ds es : Definitions} → DefinesAlike names d e → AllDefineAlike names ds es → AllDefineAlike names (d ∷ ds) (e ∷ es)

-- ---- codes

-- the same names are assigned, these aside
abbrev pub AssignsAlike : List String → List String → List String → Type 0
AssignsAlike names ss ts = (s : String) → (is_string_among s names || is_string_among s ss) ≡ (is_string_among s names || is_string_among s ts)

-- b may stand in the place of a: it has the list and the value of a, and below it stand the same functions and classes
pub record MayReplace (names : List String) (a b : Code) : Type 0 where
  pub evaluates : (opens there : Opened → Evaluation) → AllReplaced names opens there → Replaces names (ev opens a) (ev there b)
  pub defines : AllDefineAlike names (definitions a) (definitions b)
  pub assigns : AssignsAlike names (assigned_in a) (assigned_in b)
  pub functions : private_functions a ≡ private_functions b
  pub enters : (opens there : Opened → Evaluation) (first_new : ℕ) (late : List ℕ) (s : Environment) → AllReplaced names opens there → entries opens first_new late (without names s) a ≡ entries there first_new late s b
