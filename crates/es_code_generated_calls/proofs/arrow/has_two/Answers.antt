use Rattle.std.proofs.Common.{arith}
use Rattle.es_code_generated_calls.proofs.ArrowForms.{two}
use Rattle.es_code_generated_calls.proofs.arrow.has_two.Goals as goal

pub returns-in-len2 : goal.returns-in-len2
returns-in-len2 c = two c.args.codes.now (omega arith) (omega arith)
