use Rattle.std.proofs.Common.{◌≡◌, ◌-◌, ◌≤◌, length, replicate}
use Rattle.es_duplicates.specs.Copies.{copy_of}
use Rattle.es_duplicates.proofs.copy.copies.Given as goal

abbrev pub invariant-loop-alloc : goal.invariant-loop-alloc
invariant-loop-alloc l = (length l.copies ≤ l.count) × (l.copies ≡ replicate (length l.copies) (copy_of l.expression))

abbrev pub decreases-loop-alloc : goal.decreases-loop-alloc
decreases-loop-alloc l = l.count - length l.copies
