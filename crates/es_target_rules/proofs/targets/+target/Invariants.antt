use Rattle.std.proofs.Common.{◌≡◌, ◌+◌, drop}
use Rattle.es_codes.specs.CodeView.{code_of, codes_of, target_of}
use Rattle.es_evaluator.specs.Running.{state_of}
use Rattle.es_code_rules.specs.Elsewhere.{opens_of}
use Rattle.es_target_rules.specs.Steps.{taken_at}
use Rattle.es_target_rules.proofs.TargetDepths.{target_depth, members_depth, member_depth}
use Rattle.es_target_rules.proofs.targets.+target.Given as goal

abbrev pub decreases-write_target : goal.decreases-write_target
decreases-write_target g l = target_depth (target_of l.to.now)

abbrev pub decreases-write_pattern : goal.decreases-write_pattern
decreases-write_pattern g l = members_depth (codes_of l.members.now) + 3

abbrev pub decreases-write_default : goal.decreases-write_default
decreases-write_default g l = target_depth (target_of l.to.now) + 1

abbrev pub decreases-evaluate_taken : goal.decreases-evaluate_taken
decreases-evaluate_taken g l = members_depth (codes_of l.members.now) + 2

abbrev pub decreases-evaluate_take : goal.decreases-evaluate_take
decreases-evaluate_take g l = member_depth (code_of l.member.now) + 1

abbrev pub decreases-evaluate_takes : goal.decreases-evaluate_takes
decreases-evaluate_takes g l = target_depth (target_of l.to.now) + 1

-- what is left to be taken
abbrev pub invariant-evaluate_taken-loop-i : goal.invariant-evaluate_taken-loop-i
invariant-evaluate_taken-loop-i g l =
    let opens = opens_of l.within.definitions.now l.within.opening.now in
    taken_at opens l.value (codes_of l.members) (state_of l.fn.state) ≡ taken_at opens l.value (codes_of (drop l.i l.members)) (state_of l.state)
