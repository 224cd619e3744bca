use Rattle.std.proofs.Common.{◌≡◌, ◌++◌, ◌-◌, length, take, drop}
use Rattle.es_class_rules.specs.Public.{public}
use Rattle.es_class_rules.proofs.forget.remove_private.Given as goal

-- what is left to go over
abbrev pub invariant-loop-i : goal.invariant-loop-i
invariant-loop-i l = take l.count l.fn.names.items ++ public (drop l.count l.fn.names.items) ≡ take l.i l.names.items ++ public (drop l.i l.names.items)

abbrev pub decreases-loop-i : goal.decreases-loop-i
decreases-loop-i l = length l.names.items - l.i
