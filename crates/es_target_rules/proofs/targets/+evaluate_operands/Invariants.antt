use Rattle.es_codes.specs.CodeView.{target_of}
use Rattle.es_target_rules.proofs.TargetDepths.{target_depth}
use Rattle.es_target_rules.proofs.targets.+evaluate_operands.Given as goal

abbrev pub decreases-evaluate_operands : goal.decreases-evaluate_operands
decreases-evaluate_operands g l = target_depth (target_of l.to.now)
