-- What comes in front of something that is not evaluated, over a state; `opens` is what stands elsewhere.
use Rattle.std.specs.Prelude.{List}
use Rattle.es_steps.specs.Code.{Codes, Target, Callee}
use Rattle.es_steps.specs.Values.{String, Value, Undefined}
use Rattle.es_evaluation.specs.Direct.{Step, and_then, gives, bind_parameters}
use Rattle.es_evaluator.specs.Steps.{Opens}
use Rattle.es_code_rules.specs.Steps.{all_at, callee_at}
use Rattle.es_target_rules.specs.Steps.{operands_at}
use Rattle.es_class_rules.specs.Steps.{keys_at}

unfoldable pub all_alone_at : Opens → Codes → Step Value
all_alone_at opens es = and_then (all_at opens es) (λ vs. gives Undefined)

unfoldable pub target_alone_at : Opens → Target → Step Value
target_alone_at opens to = and_then (operands_at opens to) (λ t. gives Undefined)

-- the value of a callee, without its receiver
unfoldable pub callee_alone_at : Opens → Callee → Step Value
callee_alone_at opens f = and_then (callee_at opens f) (λ c. gives c.0)

unfoldable pub keys_alone_at : Opens → Codes → Step Value
keys_alone_at opens es = and_then (keys_at opens es) (λ ks. gives Undefined)

-- arguments that parameters of these names stand for
unfoldable pub arguments_at : Opens → List String → Codes → Step Value
arguments_at opens xs es = and_then (all_at opens es) (λ vs. bind_parameters xs vs)
