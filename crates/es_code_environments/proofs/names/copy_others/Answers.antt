use Rattle.std.proofs.Common.{ap, ◌∙◌}
use Rattle.es_evaluator.specs.Running.{names_of}
use Rattle.es_code_environments.proofs.Copies.{none_copied_yet}
use Rattle.es_code_environments.proofs.names.copy_others.Goals as goal

pub loop-i-init : goal.loop-i-init
loop-i-init c = ap names_of c.new-names.ensures.items ∙ none_copied_yet c.args.hidden.now c.args.from.now
