use Rattle.es_node.specs.View.{kind_of, parts_in}
use Rattle.es_steps.specs.References.{numbers_of}
use Rattle.es_validity.specs.Facts.{lexical_identifiers, declared_by}
use Rattle.es_binding_faults.proofs.Appending.{appended}
use Rattle.es_binding_faults.proofs.WholeNames.{lexical_one}
use Rattle.es_binding_faults.specs.Named.{named}
use Rattle.es_binding_faults.specs.Seen.{seen}
use Rattle.es_binding_faults.proofs.facts.lexical_identifiers.Goals as goal

pub loop-node-preserved : goal.loop-node-preserved
loop-node-preserved c = appended (λ i xs. lexical_identifiers (seen xs)) (λ i n. declared_by (kind_of n.now) (parts_in n.now)) (λ i n ns. lexical_one n.now (seen ns)) (numbers_of (named c.loop-node.names.items)) (numbers_of (named c.add_lexical.new.names.items)) _ c.args.nodes.now c.loop-node.node-index c.node-item.result c.loop-node-test.true c.node-item.is c.in_ok-add_lexical.ensures c.loop-node.invariant
