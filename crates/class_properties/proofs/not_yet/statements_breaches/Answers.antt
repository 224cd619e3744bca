use Rattle.std.proofs.Common.{◌∙◌, sym, ap, ◌+◌, drop}
use Rattle.es_base.specs.Tree.{trees}
use Rattle.es_steps.specs.FirstForm.{statements_breaches}
use Rattle.class_properties.specs.Least.{least_with, number_in}
use Rattle.class_properties.proofs.Steps.{next_statement}
use Rattle.class_properties.proofs.not_yet.statements_breaches.Goals as goal

pub loop-statement-preserved : goal.loop-statement-preserved
loop-statement-preserved c =
    let rest = statements_breaches c.add_class.new.names c.args.names.now (trees (drop (c.loop-statement.statement-index + 1) c.args.statements.now)) in
    ap (λ n. least_with n rest) c.statement_breaches-least.ensures
    ∙ sym (next_statement c.loop-statement.earlier c.add_class.new.names c.args.names.now (number_in c.loop-statement.least) c.args.statements.now c.loop-statement.statement-index c.statement-item.result c.loop-statement-test.true c.statement-item.is c.in_ok-add_class.ensures)
    ∙ c.loop-statement.invariant
