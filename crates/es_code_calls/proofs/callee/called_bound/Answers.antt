use Rattle.std.proofs.Common.{sym, ◌∙◌}
use Rattle.es_code_calls.proofs.Called.{of_bound}
use Rattle.es_code_calls.proofs.callee.called_bound.Goals as goal

pub returns-in-Bound : goal.returns-in-Bound
returns-in-Bound c = c.with_receiver.ensures ∙ sym (of_bound c.args.code c.in-Bound.function c.in-Bound.object c.in-Bound.is)
