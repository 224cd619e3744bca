use Rattle.std.proofs.Common.{◌≡◌, ◌+◌, ◌*◌, ◌∷◌, [], drop}
use Rattle.es_base.specs.Preorder.{nodes, nodes_of, nodes_of_part}
use Rattle.es_base.specs.Tree.{trees, nullable, nullable_trees}
use Rattle.es_node.specs.View.{part_of, parts_of}
use Rattle.es_steps.specs.References.{resolve}
use Rattle.es_steps.specs.Shapes.{names_stand_in}
use Rattle.es_shapes.proofs.own_name.+named.Given as goal

abbrev pub decreases-is_named : goal.decreases-is_named
decreases-is_named g l = 5 * nodes l.node.now

abbrev pub decreases-is_named_in : goal.decreases-is_named_in
decreases-is_named_in g l = 5 * nodes_of (parts_of l.parts.now) + 4

abbrev pub decreases-is_named_at : goal.decreases-is_named_at
decreases-is_named_at g l = 5 * nodes_of_part (part_of l.part.now) + 3

abbrev pub decreases-is_named_in_list : goal.decreases-is_named_in_list
decreases-is_named_in_list g l = 5 * nodes_of (trees l.nodes.now) + 2

abbrev pub decreases-is_named_in_list_with_holes : goal.decreases-is_named_in_list_with_holes
decreases-is_named_in_list_with_holes g l = 5 * nodes_of (nullable_trees l.nodes.now) + 2

abbrev pub decreases-is_named_in_hole : goal.decreases-is_named_in_hole
decreases-is_named_in_hole g l = 5 * nodes_of_part (nullable l.node.now) + 1

abbrev pub invariant-is_named_in-loop-part : goal.invariant-is_named_in-loop-part
invariant-is_named_in-loop-part g l = names_stand_in (l.name.0 ∷ []) (resolve (g.F.NameFacts.program l.facts)) (parts_of (drop l.part-index l.parts)) ≡ names_stand_in (l.name.0 ∷ []) (resolve (g.F.NameFacts.program l.facts)) (parts_of l.parts)

abbrev pub invariant-is_named_in_list-loop-node : goal.invariant-is_named_in_list-loop-node
invariant-is_named_in_list-loop-node g l = names_stand_in (l.name.0 ∷ []) (resolve (g.F.NameFacts.program l.facts)) (trees (drop l.node-index l.nodes)) ≡ names_stand_in (l.name.0 ∷ []) (resolve (g.F.NameFacts.program l.facts)) (trees l.nodes)

abbrev pub invariant-is_named_in_list_with_holes-loop-node : goal.invariant-is_named_in_list_with_holes-loop-node
invariant-is_named_in_list_with_holes-loop-node g l = names_stand_in (l.name.0 ∷ []) (resolve (g.F.NameFacts.program l.facts)) (nullable_trees (drop l.node-index l.nodes)) ≡ names_stand_in (l.name.0 ∷ []) (resolve (g.F.NameFacts.program l.facts)) (nullable_trees l.nodes)
