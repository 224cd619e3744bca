use Rattle.std.proofs.Common.{◌≡◌, ◌-◌, ◌≤◌, length}
use Rattle.es_base.specs.Carried.{span_of}
use Rattle.es_duplicates.specs.Reads.{names_read, with_reads}
use Rattle.es_duplicates.proofs.read.read_names.Given as goal

abbrev pub invariant-loop-alloc : goal.invariant-loop-alloc
invariant-loop-alloc l = (length l.names ≤ l.count) × (l.names ≡ names_read (span_of l.span) l.name.name (length l.initial.scoping.references) (length l.names)) × (l.scoping ≡ with_reads l.name.symbol_id (length l.names) l.initial.scoping)

abbrev pub decreases-loop-alloc : goal.decreases-loop-alloc
decreases-loop-alloc l = l.count - length l.names
