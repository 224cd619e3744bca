-- What the functions of evaluation give of targets, shut; `opens` is what stands elsewhere.
use Rattle.es_steps.specs.Code.{Code, Codes, Target}
use Rattle.es_steps.specs.Values.{Value}
use Rattle.es_evaluation.specs.Direct as direct
use Rattle.es_evaluation.specs.Direct.{Step, Operands, one_operand, two_operands, and_then, gives}
use Rattle.es_evaluator.specs.Steps.{Opens}
use Rattle.es_code_rules.specs.Steps.{value_at}

unfoldable pub operands_at : Opens → Target → Step Operands
operands_at opens to = direct.operands opens to

unfoldable pub write_at : Opens → Target → Operands → Value → Step Value
write_at opens to t v = direct.write opens to t v

unfoldable pub taken_at : Opens → Value → Codes → Step Value
taken_at opens v cs = direct.taken opens v cs

unfoldable pub take_at : Opens → Value → Code → Step Value
take_at opens v c = direct.take opens v c

-- ---- parts of forms

abbrev pub one_operand_step : Opens → Code → Step Operands
one_operand_step opens o = and_then (value_at opens o) (λ a. gives (one_operand a))

abbrev pub two_operands_step : Opens → Code → Code → Step Operands
two_operands_step opens o k = and_then (value_at opens o) (λ a. and_then (value_at opens k) (λ b. gives (two_operands a b)))
