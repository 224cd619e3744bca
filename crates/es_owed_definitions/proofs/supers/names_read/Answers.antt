use Rattle.std.proofs.Common.{◌∙◌}
use Rattle.es_owed_definitions.proofs.ReadNames.{next_read, no_reference}
use Rattle.es_owed_definitions.proofs.supers.names_read.Goals as goal

pub loop-reference-preserved : goal.loop-reference-preserved
loop-reference-preserved c = λ s. next_read s c.loop-reference.names c.add_if_read.new.names c.args.references.now c.loop-reference.reference-index no_reference c.loop-reference-test.true (c.in_ok-add_if_read.ensures s) ∙ c.loop-reference.invariant s
