-- What a call of a function does, over a state, as the definitions say it (`es_steps`, `Entries`): what functions of this
-- crate give, shut; `opens` is what stands elsewhere.
use Rattle.std.specs.Prelude.{ℕ, suc, List, [], ◌∷◌, Bool, true, false}
use Rattle.es_steps.specs.Code.{Code, Codes, Target, binding, rest, pattern, to_name, to_pattern, done, and}
use Rattle.es_steps.specs.Entries.{parameters_of, all_identifiers}
use Rattle.es_steps.specs.Events.{Detail, Operate, Take, Index, Rest, EnterBody}
use Rattle.es_steps.specs.Values.{Value, Undefined, ResultOf}
use Rattle.es_evaluation.specs.Direct.{Step, no_meaning, gives, and_then, emit}
use Rattle.es_evaluation.specs.Flat.{single}
use Rattle.es_evaluator.specs.Steps.{Opens}
use Rattle.es_code_rules.specs.Steps.{value_at}
use Rattle.es_target_rules.specs.Steps.{operands_at, write_at}

-- ---- parameters

-- a pattern takes what these details say from the arguments
unfoldable pub argument_at : Opens → ℕ → List Detail → Target → Step Value
argument_at opens m ds to = and_then (operands_at opens to) (λ t. and_then (emit (single (Operate m (Take ds) [])) (ResultOf m)) (λ v. write_at opens to t v))

abbrev pub rest_step : Opens → ℕ → Target → Step Value
rest_step opens i (to_name b s kind) = gives Undefined
rest_step opens i (to_pattern m kind cs) = argument_at opens m (Index i ∷ Rest ∷ []) (to_pattern m kind cs)
rest_step opens i to = no_meaning

unfoldable pub rest_at : Opens → ℕ → Target → Step Value
rest_at opens i to = rest_step opens i to

abbrev pub parameter : Opens → ℕ → Code → Step Value
parameter opens i (binding b s kind) = gives Undefined
parameter opens i (rest to) = rest_at opens i to
parameter opens i (pattern m to) = argument_at opens m (Index i ∷ []) to
parameter opens i c = no_meaning

unfoldable pub parameter_at : Opens → ℕ → Code → Step Value
parameter_at opens i c = parameter opens i c

abbrev pub parameters : Opens → ℕ → Codes → Step Value
parameters opens i done = gives Undefined
parameters opens i (and c cs) = and_then (parameter opens i c) (λ v. parameters opens (suc i) cs)

-- from the i-th on
unfoldable pub parameters_from : Opens → ℕ → Codes → Step Value
parameters_from opens i cs = parameters opens i cs

unfoldable pub parameters_at : Opens → Codes → Step Value
parameters_at opens cs = parameters opens 0 cs

-- the border between parameters and the body
abbrev pub entered : Bool → Step Value
entered true = gives Undefined
entered false = emit (single EnterBody) Undefined

unfoldable pub entered_at : Bool → Step Value
entered_at b = entered b

unfoldable pub given_at : Opens → Codes → Step Value
given_at opens cs = and_then (parameters_at opens cs) (λ v. entered_at (all_identifiers (parameters_of cs)))

-- ---- what a call does

unfoldable pub body_at : Opens → Codes → Code → Step Value
body_at opens ps body = and_then (given_at opens ps) (λ v. value_at opens body)
