use Rattle.es_steps.specs.References.{numbers_of}
use Rattle.es_validity.specs.Facts.{branch_names}
use Rattle.es_binding_faults.proofs.Appending.{appended}
use Rattle.es_binding_faults.proofs.WholeNames.{branches_one}
use Rattle.es_binding_faults.specs.WholeProgram.{branches_at}
use Rattle.es_binding_faults.specs.Named.{named}
use Rattle.es_binding_faults.specs.Seen.{seen}
use Rattle.es_binding_faults.proofs.facts.branch_names.Goals as goal

pub loop-node-preserved : goal.loop-node-preserved
loop-node-preserved c = appended (λ i xs. branch_names (seen xs)) (λ i n. branches_at n.now) (λ i n ns. branches_one n.now (seen ns)) (numbers_of (named c.loop-node.names.items)) (numbers_of (named c.add_branches.new.names.items)) _ c.args.nodes.now c.loop-node.node-index c.node-item.result c.loop-node-test.true c.node-item.is c.in_ok-add_branches.ensures c.loop-node.invariant
