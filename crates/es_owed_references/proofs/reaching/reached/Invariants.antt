use Rattle.std.proofs.Common.{◌≡◌, drop}
use Rattle.es_owed_references.specs.Moved.{functions_of}
use Rattle.es_owed_references.specs.Reaching.{reached_from, reads_of}
use Rattle.es_owed_references.proofs.reaching.reached.Given as goal

abbrev pub invariant-loop-entry : goal.invariant-loop-entry
invariant-loop-entry l = reached_from (drop l._entry-index l._entry-items) (functions_of l.functions) (reads_of l.reads) l.numbers l.reached.items ≡ reached_from l.ledger (functions_of l.functions) (reads_of l.reads) l.numbers l.numbers
