use Rattle.std.proofs.Common.{sym, ◌∙◌}
use Rattle.es_code_operators.proofs.ChainForms.{bound_alone, tested_alone}
use Rattle.es_code_operators.proofs.chain.ended_alone.Goals as goal

pub returns-in-Bound : goal.returns-in-Bound
returns-in-Bound c = c.bound.ensures ∙ sym (bound_alone c.args.code c.in-Bound.function c.in-Bound.object c.in-Bound.is)

pub returns-in-Tested : goal.returns-in-Tested
returns-in-Tested c = c.tested.ensures ∙ sym (tested_alone c.args.code c.in-Tested.object c.in-Tested.again c.in-Tested.rest c.in-Tested.is)
