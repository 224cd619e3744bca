use Rattle.std.proofs.Common.{◌+◌}
use Rattle.es_codes.specs.CodeView.{callee_of}
use Rattle.es_code_rules.proofs.Depths.{callee_depth}
use Rattle.es_code_rules.proofs.within.Within.+callee.Given as goal

abbrev pub decreases-evaluate_callee : goal.decreases-evaluate_callee
decreases-evaluate_callee g l = callee_depth (callee_of l.callee.now)

abbrev pub decreases-evaluate_checked : goal.decreases-evaluate_checked
decreases-evaluate_checked g l = callee_depth (callee_of l.callee.now) + 1

abbrev pub decreases-evaluate_on_chain : goal.decreases-evaluate_on_chain
decreases-evaluate_on_chain g l = callee_depth (callee_of l.callee.now) + 1

abbrev pub decreases-evaluate_behind_test : goal.decreases-evaluate_behind_test
decreases-evaluate_behind_test g l = callee_depth (callee_of l.callee.now) + 1
