use Rattle.es_validity.specs.Facts.{repeats_of_all}
use Rattle.es_binding_faults.proofs.Appending.{appended}
use Rattle.es_binding_faults.proofs.WholeNames.{repeats_one}
use Rattle.es_binding_faults.specs.Repeats.{numbers, repeats_in}
use Rattle.es_binding_faults.specs.Seen.{seen}
use Rattle.es_binding_faults.proofs.facts.repeats.Goals as goal

pub loop-node-preserved : goal.loop-node-preserved
loop-node-preserved c = appended (λ i xs. repeats_of_all c.args.lexical.now c.args.branches.now (seen xs)) (λ i n. repeats_in c.args.lexical.now c.args.branches.now n.now) (λ i n ns. repeats_one c.args.lexical.now c.args.branches.now n.now (seen ns)) (numbers c.loop-node.found.items) (numbers c.add_repeats_in.new.found.items) _ c.args.nodes.now c.loop-node.node-index c.node-item.result c.loop-node-test.true c.node-item.is c.in_ok-add_repeats_in.ensures c.loop-node.invariant
