-- What the functions of evaluation give of classes and of what stands elsewhere, shut.
use Rattle.std.specs.Prelude.{ℕ, List, [], Bool, true, false, Option}
use Rattle.es_steps.specs.Code.{Code, Codes, FieldForm, Opened}
use Rattle.es_steps.specs.Evaluation.{private_key}
use Rattle.es_steps.specs.Events.{PrivateInitialize}
use Rattle.es_steps.specs.Opening.{Definition}
use Rattle.es_steps.specs.Values.{String, Value, Undefined, ClassOf, ThisOf}
use Rattle.es_evaluation.specs.Direct as direct
use Rattle.es_evaluation.specs.Direct.{Step, and_then, gives, emit, declared_first, element_holds, initialized}
use Rattle.es_evaluation.specs.Flat.{single}
use Rattle.es_evaluator.specs.Steps.{Opens}
use Rattle.es_code_rules.specs.Steps.{value_at, all_at}

unfoldable pub key_at : Opens → Code → Step Value
key_at opens e = direct.key opens e

unfoldable pub keys_at : Opens → Codes → Step (List Value)
keys_at opens es = direct.keys opens [] es

unfoldable pub static_at : Opens → ℕ → Value → Code → Step Value
static_at opens n a e = direct.static_element opens n a e

unfoldable pub statics_at : Opens → ℕ → List Value → Codes → Step Value
statics_at opens n ks es = direct.statics opens n ks es

unfoldable pub field_at : Opens → ℕ → Code → Step Value
field_at opens n e = direct.instance_field opens n e

unfoldable pub fields_at : Opens → ℕ → Codes → Step Value
fields_at opens n es = direct.fields opens n es

unfoldable pub behind_at : Opens → ℕ → Option Opened → Step Value
behind_at opens n o = direct.ev_behind opens n o

unfoldable pub opened_at : Opens → Opened → Step Value
opened_at opens o = opens o

-- what a definition evaluates, and a construction
unfoldable pub defined_at : Opens → Option Definition → Step Value
defined_at opens d = direct.definition opens d

unfoldable pub construction_at : Opens → ℕ → Codes → Step Value
construction_at opens n es = direct.construction opens n es

-- ---- from the i-th key on, behind those before it

unfoldable pub keys_from : Opens → List Value → Codes → Step (List Value)
keys_from opens vs es = direct.keys opens vs es

-- ---- parts of forms

abbrev pub static_field_step : Opens → ℕ → Value → Bool → FieldForm → Code → Step Value
static_field_step opens n a true shape e = and_then (value_at opens e) (λ v. initialized shape (ClassOf n) a v)
static_field_step opens n a false shape e = gives Undefined

abbrev pub private_field_step : Opens → Value → ℕ → Code → Step Value
private_field_step opens o d e = and_then (value_at opens e) (λ v. emit (single (PrivateInitialize d o v)) Undefined)

abbrev pub static_private_step : Opens → ℕ → Bool → ℕ → Code → Step Value
static_private_step opens n true d e = private_field_step opens (ClassOf n) d e
static_private_step opens n false d e = gives Undefined

abbrev pub generated_element_step : Opens → String → Code → Step Value
generated_element_step opens x e = and_then (value_at opens e) (λ v. element_holds (private_key x) v)

abbrev pub quiet_step : Opens → Code → Step Value
quiet_step opens k = direct.quiet (value_at opens k)

abbrev pub instance_field_step : Opens → ℕ → Bool → FieldForm → Code → Code → Step Value
instance_field_step opens n false shape k e = and_then (quiet_step opens k) (λ a. and_then (value_at opens e) (λ v. initialized shape (ThisOf n) a v))
instance_field_step opens n true shape k e = gives Undefined

abbrev pub instance_private_step : Opens → ℕ → Bool → ℕ → Code → Step Value
instance_private_step opens n false d e = private_field_step opens (ThisOf n) d e
instance_private_step opens n true d e = gives Undefined

-- a class, before what its private elements hold is forgotten
abbrev pub class_step : Opens → ℕ → Option ℕ → Codes → Codes → Step Value
class_step opens n declared h es = and_then (all_at opens h) (λ vs. and_then (keys_at opens es) (λ ks. and_then (declared_first declared n) (λ u. and_then (statics_at opens n ks es) (λ w. gives (ClassOf n)))))

-- a body that has to give `this`
abbrev pub this_step : Opens → ℕ → Opened → Step Value
this_step opens n o = direct.gives_this n (opened_at opens o)
