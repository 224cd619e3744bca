use Rattle.std.proofs.Common.{◌≡◌, ◌++◌, drop}
use Rattle.es_binding_faults.specs.Seen.{seen}
use Rattle.es_lowered.specs.Definitions.{constructor_definitions}
use Rattle.es_owed_definitions.specs.Views.{definition_views}
use Rattle.es_owed_definitions.proofs.found.add_constructor_definitions.Given as goal

abbrev pub invariant-loop-node : goal.invariant-loop-node
invariant-loop-node l = definition_views l.found.items ++ constructor_definitions l.terms.first l.terms.options.now l.terms.ledger.now l.class (seen (drop l.node-index l.nodes)) ≡ definition_views l.fn.found.items ++ constructor_definitions l.terms.first l.terms.options.now l.terms.ledger.now l.class (seen l.nodes)
