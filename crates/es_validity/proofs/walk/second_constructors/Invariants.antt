use Rattle.std.proofs.Common.{◌≡◌, drop, map, false}
use Rattle.es_base.specs.Tree.{trees}
use Rattle.es_validity.specs.Faults.{first_with, fault_at, second_constructors}
use Rattle.es_validity.specs.Found.{found}
use Rattle.es_validity.specs.declared.fault.Cause.{Cause}
use Rattle.es_validity.specs.declared.fault.TreeRule.{TreeRule}
use Rattle.es_validity.proofs.walk.second_constructors.Given as goal

abbrev pub invariant-loop-element : goal.invariant-loop-element
invariant-loop-element l =
    first_with (found l.first) (map (fault_at (Cause.BadTree TreeRule.TwoConstructors)) (second_constructors l.has_constructor (trees (drop l.element-index l.elements))))
    ≡ first_with (found l.initial.first) (map (fault_at (Cause.BadTree TreeRule.TwoConstructors)) (second_constructors false (trees l.elements)))
