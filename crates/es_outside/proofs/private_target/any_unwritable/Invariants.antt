use Rattle.std.proofs.Common.{◌≡◌, drop}
use Rattle.es_base.specs.Tree.{nullable_trees}
use Rattle.es_steps.specs.Shapes.{any_unwritable}
use Rattle.es_outside.specs.PrivateTargets.{seen_by}
use Rattle.es_outside.proofs.private_target.any_unwritable.Given as goal

abbrev pub invariant-loop-target : goal.invariant-loop-target
invariant-loop-target l = any_unwritable (seen_by l.around) (nullable_trees (drop l.target-index l.targets)) ≡ any_unwritable (seen_by l.around) (nullable_trees l.targets)
