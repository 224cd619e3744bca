use Rattle.std.proofs.Common.{◌≡◌, ◌++◌, drop}
use Rattle.es_owed_references.specs.Moved.{names_of}
use Rattle.es_owed_references.specs.Reaching.{reading_of, reads_of}
use Rattle.es_owed_references.proofs.reaching.add_reading.Given as goal

abbrev pub invariant-loop-read : goal.invariant-loop-read
invariant-loop-read l = l.numbers.items ++ reading_of (names_of l.names) (reads_of (drop l.read-index l.reads)) ≡ l.fn.numbers.items ++ reading_of (names_of l.names) (reads_of l.reads)
