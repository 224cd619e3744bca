use Rattle.std.proofs.Common.{◌∙◌}
use Rattle.class_properties.proofs.Steps.{next_name}
use Rattle.class_properties.proofs.not_yet.class_names.Goals as goal

pub loop-statement-preserved : goal.loop-statement-preserved
loop-statement-preserved c = λ s. next_name c.loop-statement.names c.add_class.new.names c.args.statements.now c.loop-statement.statement-index c.statement-item.result c.loop-statement-test.true c.statement-item.is c.in_ok-add_class.ensures s ∙ c.loop-statement.invariant s
