-- Assignments behind the operands of their targets; `opens` is what stands elsewhere.
use Rattle.std.specs.Prelude.{ℕ, [], ◌∷◌, Bool, Some}
use Rattle.es_steps.specs.Code.{Code, Target}
use Rattle.es_steps.specs.Evaluation.{binary, new_or_former}
use Rattle.es_steps.specs.Events.{Operate, RightOf, Update}
use Rattle.es_steps.specs.Values.{String, Value, ResultOf}
use Rattle.es_evaluation.specs.Direct.{Step, Operands, and_then, gives, emit, held, settled}
use Rattle.es_evaluation.specs.Flat.{single}
use Rattle.es_evaluator.specs.Steps.{Opens, read_at}
use Rattle.es_code_rules.specs.Steps.{value_at}
use Rattle.es_target_rules.specs.Steps.{write_at}

abbrev pub kept_step : Opens → Target → Operands → Value → Step Value
kept_step opens to t v = and_then (write_at opens to t v) (λ w. gives v)

abbrev pub assign_step : Opens → Target → Operands → Code → Step Value
assign_step opens to t e = and_then (value_at opens e) (λ v. kept_step opens to t v)

-- what is read, and the operation, in front of the write
abbrev pub operated_step : Opens → ℕ → String → Target → Operands → Code → Step Value
operated_step opens m op to t e = and_then (read_at opens to t) (λ a. and_then (value_at opens e) (λ b. emit (single (Operate m (binary op) (a ∷ b ∷ []))) (ResultOf m)))

abbrev pub compound_step : Opens → ℕ → String → Target → Operands → Code → Step Value
compound_step opens m op to t e = and_then (settled (operated_step opens m op to t e)) (λ v. kept_step opens to t v)

abbrev pub given_step : Opens → Target → Operands → Code → Step Value
given_step opens to t e = and_then (value_at opens e) (λ v. write_at opens to t v)

abbrev pub logical_step : Opens → ℕ → String → Target → Operands → Code → Step Value
logical_step opens m op to t e = and_then (read_at opens to t) (λ a. held m (RightOf op) (Some a) (given_step opens to t e))

abbrev pub updated_step : Opens → ℕ → String → Target → Operands → Step Value
updated_step opens m op to t = and_then (read_at opens to t) (λ a. emit (single (Update m op a)) (ResultOf m))

abbrev pub update_step : Opens → ℕ → String → Bool → Target → Operands → Step Value
update_step opens m op prefix to t = and_then (settled (updated_step opens m op to t)) (λ v. and_then (write_at opens to t v) (λ w. gives (new_or_former prefix m)))
