-- What a construction of a class does, over a state, as the definitions say it (`es_steps`, `Entries`); `opens` is what
-- stands elsewhere.
use Rattle.std.specs.Prelude.{ℕ, List, Bool, true, false, cond, ◌&&◌, Option, Some, None}
use Rattle.es_base.specs.declared.ledger.GeneratedKind.{GeneratedKind}
use Rattle.es_steps.specs.Code.{Code, Codes, FunctionForm, function, new_function, constructor, done, and}
use Rattle.es_steps.specs.Context.{NameKind, Generated}
use Rattle.es_steps.specs.Entries.{no_constructor}
use Rattle.es_steps.specs.Events.{SuperCallWithAll}
use Rattle.es_steps.specs.GeneratedForms.{is_plain}
use Rattle.es_steps.specs.Opening.{all_arguments}
use Rattle.es_steps.specs.References.{has_number}
use Rattle.es_steps.specs.Values.{Value, ThisOf}
use Rattle.es_codes.specs.CodeView.{code_of}
use Rattle.es_evaluation.specs.Direct.{Step, no_meaning, and_then, emit}
use Rattle.es_evaluation.specs.Flat.{single}
use Rattle.es_evaluator.specs.Steps.{Opens}
use Rattle.es_code_rules.specs.Steps.{value_at}
use Rattle.es_class_rules.specs.Steps.{construction_at}
use Rattle.es_code_bodies.specs.Bodies.{given_at, body_at}
use Rattle.es_code_bodies.specs.declared.constructors.Constructors.{Constructors}

-- ---- the constructors among the elements of a class: the function of one that is alone

pub data Found : Type 0 where
  no_function : Found
  one_function : (f : Code) → Found
  more_functions : Found

abbrev pub constructors_in : Codes → Found
constructors_in done = no_function
constructors_in (and (constructor f) es) = cond (no_constructor es) (one_function f) more_functions
constructors_in (and c es) = constructors_in es

abbrev pub constructor_function : Code → Option Code
constructor_function (constructor f) = Some f
constructor_function c = None

-- those found in code
abbrev pub constructors_of : Constructors → Found
constructors_of Constructors.Nothing = no_function
constructors_of (Constructors.One f) = one_function (code_of f.now)
constructors_of Constructors.Several = more_functions

-- the name of a parameter that takes all arguments
abbrev pub is_args : NameKind → Bool
is_args (Generated GeneratedKind.Args) = true
is_args kind = false

-- ---- with a constructor

abbrev pub in_order : Bool → Step Value → Step Value → Step Value → Step Value
in_order true fields parameters body = and_then parameters (λ v. and_then fields (λ w. body))
in_order false fields parameters body = and_then fields (λ v. and_then parameters (λ w. body))

-- fields, parameters and a body, the parameters first where they are late
unfoldable pub in_order_at : Opens → Bool → ℕ → Codes → Codes → Code → Step Value
in_order_at opens is_late n all ps body = in_order is_late (construction_at opens n all) (given_at opens ps) (value_at opens body)

abbrev pub if_so : Bool → Step Value → Step Value
if_so true d = d
if_so false d = no_meaning

-- a new constructor of a class without a heritage has no parameters
abbrev pub new_step : Opens → FunctionForm → ℕ → Codes → Codes → Code → Step Value
new_step opens form n all done body = if_so (is_plain form) (and_then (construction_at opens n all) (λ v. value_at opens body))
new_step opens form n all (and p ps) body = no_meaning

unfoldable pub new_at : Opens → FunctionForm → ℕ → Codes → Codes → Code → Step Value
new_at opens form n all ps body = new_step opens form n all ps body

-- that of a class with one is given all arguments
unfoldable pub forwarded_at : Opens → FunctionForm → Codes → Code → Step Value
forwarded_at opens form ps body = if_so (is_plain form && all_arguments ps) (value_at opens body)

-- of a class without a heritage
abbrev pub base_step : Opens → List ℕ → ℕ → Codes → Code → Step Value
base_step opens late n all (function f form own_name ps body) = in_order_at opens (has_number n late) n all ps body
base_step opens late n all (new_function f form ps body) = new_at opens form n all ps body
base_step opens late n all f = no_meaning

unfoldable pub base_at : Opens → List ℕ → ℕ → Codes → Code → Step Value
base_at opens late n all f = base_step opens late n all f

-- of a class with one
abbrev pub derived_step : Opens → Code → Step Value
derived_step opens (function f form own_name ps body) = body_at opens ps body
derived_step opens (new_function f form ps body) = forwarded_at opens form ps body
derived_step opens f = no_meaning

unfoldable pub derived_at : Opens → Code → Step Value
derived_at opens f = derived_step opens f

abbrev pub constructor_step : Opens → List ℕ → ℕ → Codes → Codes → Code → Step Value
constructor_step opens late n done all f = base_at opens late n all f
constructor_step opens late n (and h hs) all f = derived_at opens f

unfoldable pub constructor_at : Opens → List ℕ → ℕ → Codes → Codes → Code → Step Value
constructor_at opens late n h all f = constructor_step opens late n h all f

-- ---- without one

abbrev pub default_step : Opens → ℕ → Codes → Codes → Step Value
default_step opens n done all = construction_at opens n all
default_step opens n (and h hs) all = and_then (emit (single (SuperCallWithAll n)) (ThisOf n)) (λ v. construction_at opens n all)

unfoldable pub default_at : Opens → ℕ → Codes → Codes → Step Value
default_at opens n h all = default_step opens n h all

-- ---- all

abbrev pub constructing_step : Opens → List ℕ → ℕ → Codes → Codes → Found → Step Value
constructing_step opens late n h all no_function = default_at opens n h all
constructing_step opens late n h all (one_function f) = constructor_at opens late n h all f
constructing_step opens late n h all more_functions = no_meaning

unfoldable pub constructing_at : Opens → List ℕ → ℕ → Codes → Codes → Step Value
constructing_at opens late n h all = constructing_step opens late n h all (constructors_in all)
