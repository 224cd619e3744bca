use Rattle.std.proofs.Common.{◌≡◌, ◌+◌, map, drop, length}
use Rattle.serde_json.specs.View.{view, members_view}
use Rattle.es_base.specs.Table.{field_of}
use Rattle.es_base.specs.Tree.{nullable, trees, nullable_trees}
use Rattle.es_node.specs.View.{part_of, parts_of}
use Rattle.es_writing.specs.Writing.{put_all, write_fields, write_items}
use Rattle.es_writing.proofs.Preorder.{before}
use Rattle.es_writing.proofs.Sizes.{tree_size, part_size, parts_size}
use Rattle.es_writing.proofs.node.+write.Given as goal

abbrev pub decreases-write_node : goal.decreases-write_node
decreases-write_node l = tree_size l.node.now

abbrev pub decreases-put_row : goal.decreases-put_row
decreases-put_row l = parts_size (parts_of l.parts.now) + 3

abbrev pub decreases-put_fields : goal.decreases-put_fields
decreases-put_fields l = parts_size (parts_of l.parts.now) + 2

abbrev pub decreases-put_part : goal.decreases-put_part
decreases-put_part l = part_size (part_of l.part.now) + 1

abbrev pub decreases-write_nodes : goal.decreases-write_nodes
decreases-write_nodes l = parts_size (trees l.nodes.now) + 2

abbrev pub decreases-write_nullable_nodes : goal.decreases-write_nullable_nodes
decreases-write_nullable_nodes l = parts_size (nullable_trees l.nodes.now) + 2

abbrev pub decreases-write_nullable_node : goal.decreases-write_nullable_node
decreases-write_nullable_node l = part_size (nullable l.node.now) + 1

abbrev pub invariant-put_fields-loop-member : goal.invariant-put_fields-loop-member
invariant-put_fields-loop-member l =
    (goal.iterator-put_fields-loop-member).can_next l.member-iterator ×
    (goal.iterator-put_fields-loop-member).is_finite l.member-iterator ×
    (put_all (members_view l.object.entries) (write_fields (map field_of (drop (length l.yielded) l.members)) (parts_of (drop (length l.yielded) l.parts))) ≡ put_all (members_view l.fn.object.entries) (write_fields (map field_of l.members) (parts_of l.parts)))

abbrev pub invariant-write_nodes-loop-node : goal.invariant-write_nodes-loop-node
invariant-write_nodes-loop-node l = before (map view l.items.items) (write_items (trees (drop l.node-index l.nodes))) ≡ write_items (trees l.nodes)

abbrev pub invariant-write_nullable_nodes-loop-node : goal.invariant-write_nullable_nodes-loop-node
invariant-write_nullable_nodes-loop-node l = before (map view l.items.items) (write_items (nullable_trees (drop l.node-index l.nodes))) ≡ write_items (nullable_trees l.nodes)
