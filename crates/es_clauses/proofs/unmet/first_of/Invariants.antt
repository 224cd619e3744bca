use Rattle.std.proofs.Common.{◌≡◌, drop}
use Rattle.es_clauses.specs.Clauses.{first_unmet}
use Rattle.es_clauses.proofs.unmet.first_of.Given as goal

abbrev pub invariant-loop-clause : goal.invariant-loop-clause
invariant-loop-clause l =
    first_unmet l.clauses l.pair.first l.pair.options.now l.pair.ledger.now l.pair.source.program.now l.pair.lowered.program.now
    ≡ first_unmet (drop l.clause-index l.clauses) l.pair.first l.pair.options.now l.pair.ledger.now l.pair.source.program.now l.pair.lowered.program.now
