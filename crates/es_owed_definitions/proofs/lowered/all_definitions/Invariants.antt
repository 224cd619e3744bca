use Rattle.std.proofs.Common.{◌≡◌, ◌++◌, drop}
use Rattle.es_binding_faults.specs.Seen.{seen}
use Rattle.es_lowered.specs.Definitions.{all_definitions}
use Rattle.es_owed_definitions.specs.Views.{definition_views}
use Rattle.es_owed_definitions.proofs.lowered.all_definitions.Given as goal

abbrev pub invariant-loop-node : goal.invariant-loop-node
invariant-loop-node l = definition_views l.definitions.items ++ all_definitions l.terms.first l.terms.options.now l.terms.ledger.now (seen (drop l.node-index l.nodes)) ≡ all_definitions l.terms.first l.terms.options.now l.terms.ledger.now (seen l.nodes)
