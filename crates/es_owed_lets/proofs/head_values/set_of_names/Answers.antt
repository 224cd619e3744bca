use Rattle.std.proofs.Common.{◌∙◌}
use Rattle.es_owed_lets.proofs.HeadNames.{next_string, no_string}
use Rattle.es_owed_lets.proofs.head_values.set_of_names.Goals as goal

pub loop-string-preserved : goal.loop-string-preserved
loop-string-preserved c = λ s. next_string s c.loop-string.names c.insert.new.self c.args.strings.now c.loop-string.string-index no_string c.loop-string-test.true (c.in_ok-insert.ensures.ok s) ∙ c.loop-string.invariant s
