use Rattle.std.proofs.Common.{◌≡◌, drop}
use Rattle.es_base.specs.Tree.{trees}
use Rattle.es_lowered.specs.Definitions.{are_constructions}
use Rattle.es_owed_definitions.proofs.supers.are_constructions.Given as goal

abbrev pub invariant-loop-expression : goal.invariant-loop-expression
invariant-loop-expression l = are_constructions l.terms.first l.terms.options.now l.terms.ledger.now (trees (drop l.expression-index l.expressions)) ≡ are_constructions l.terms.first l.terms.options.now l.terms.ledger.now (trees l.expressions)
