use Rattle.std.proofs.Common.{◌≡◌, ◌+◌, ◌*◌, drop}
use Rattle.es_base.specs.Preorder.{nodes, nodes_of, nodes_of_part}
use Rattle.es_base.specs.Tree.{trees, nullable, nullable_trees}
use Rattle.es_node.specs.View.{kind_of, part_of, parts_in, parts_of}
use Rattle.es_steps.specs.References.{resolve, varying}
use Rattle.es_steps.specs.Shapes.{moved_in, is_private_function, reads_twice_in, reads_twice_of}
use Rattle.es_shapes.proofs.Twice.{from}
use Rattle.es_shapes.proofs.twice_read.+twice.Given as goal

abbrev pub decreases-reads_twice : goal.decreases-reads_twice
decreases-reads_twice g l = 5 * nodes l.node.now

abbrev pub decreases-reads_twice_in : goal.decreases-reads_twice_in
decreases-reads_twice_in g l = 5 * nodes_of (parts_in l.node.now) + 4

abbrev pub decreases-reads_twice_at : goal.decreases-reads_twice_at
decreases-reads_twice_at g l = 5 * nodes_of_part (part_of l.part.now) + 3

abbrev pub decreases-reads_twice_of_list : goal.decreases-reads_twice_of_list
decreases-reads_twice_of_list g l = 5 * nodes_of (trees l.nodes.now) + 2

abbrev pub decreases-reads_twice_of_list_with_holes : goal.decreases-reads_twice_of_list_with_holes
decreases-reads_twice_of_list_with_holes g l = 5 * nodes_of (nullable_trees l.nodes.now) + 2

abbrev pub decreases-reads_twice_of_hole : goal.decreases-reads_twice_of_hole
decreases-reads_twice_of_hole g l = 5 * nodes_of_part (nullable l.node.now) + 1

abbrev pub invariant-reads_twice_of_list-loop-node : goal.invariant-reads_twice_of_list-loop-node
invariant-reads_twice_of_list-loop-node g l = reads_twice_of l.options (varying (g.F.NameFacts.program l.facts)) (resolve (g.F.NameFacts.program l.facts)) l.moved (trees (drop l.node-index l.nodes)) ≡ reads_twice_of l.options (varying (g.F.NameFacts.program l.facts)) (resolve (g.F.NameFacts.program l.facts)) l.moved (trees l.nodes)

abbrev pub invariant-reads_twice_of_list_with_holes-loop-node : goal.invariant-reads_twice_of_list_with_holes-loop-node
invariant-reads_twice_of_list_with_holes-loop-node g l = reads_twice_of l.options (varying (g.F.NameFacts.program l.facts)) (resolve (g.F.NameFacts.program l.facts)) l.moved (nullable_trees (drop l.node-index l.nodes)) ≡ reads_twice_of l.options (varying (g.F.NameFacts.program l.facts)) (resolve (g.F.NameFacts.program l.facts)) l.moved (nullable_trees l.nodes)

abbrev pub invariant-reads_twice_in-loop-i : goal.invariant-reads_twice_in-loop-i
invariant-reads_twice_in-loop-i g l =
    let written = varying (g.F.NameFacts.program l.facts) in
    let references = resolve (g.F.NameFacts.program l.facts) in
    let moved = moved_in l.options l.moves.moved l.moves.of_method (kind_of l.node) (parts_in l.node) in
    let of_method = is_private_function (kind_of l.node) (parts_in l.node) in
    from l.options written references moved of_method l.i (parts_of (drop l.i l.parts)) ≡ reads_twice_in l.options written references moved of_method (parts_in l.node)
