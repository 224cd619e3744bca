use Rattle.std.proofs.Common.{◌≡◌, ◌+◌, ◌++◌, drop}
use Rattle.es_base.specs.Tree.{nullable, trees, nullable_trees}
use Rattle.es_node.specs.View.{kind_of, part_of, parts_in}
use Rattle.es_writing.specs.Slots.{slot_data, slots_tokens}
use Rattle.es_writing.proofs.Sizes.{tree_size, part_size, parts_size}
use Rattle.es_writing.proofs.Tokens.{nodes_tokens}
use Rattle.es_writing.proofs.text.+text.Given as goal

abbrev pub decreases-write_node : goal.decreases-write_node
decreases-write_node l = tree_size l.node.now

abbrev pub decreases-write_slot : goal.decreases-write_slot
decreases-write_slot l = parts_size (parts_in l.node.now) + 3

abbrev pub decreases-write_at : goal.decreases-write_at
decreases-write_at l = parts_size (parts_in l.node.now) + 2

abbrev pub decreases-write_part : goal.decreases-write_part
decreases-write_part l = part_size (part_of l.part.now) + 1

abbrev pub decreases-write_nodes : goal.decreases-write_nodes
decreases-write_nodes l = parts_size (trees l.nodes.now) + 2

abbrev pub decreases-write_nullable_nodes : goal.decreases-write_nullable_nodes
decreases-write_nullable_nodes l = parts_size (nullable_trees l.nodes.now) + 2

abbrev pub decreases-write_nullable_node : goal.decreases-write_nullable_node
decreases-write_nullable_node l = part_size (nullable l.node.now) + 1

abbrev pub invariant-write_node-loop-slot : goal.invariant-write_node-loop-slot
invariant-write_node-loop-slot l = record {
  tokens : l.out.tokens ++ slots_tokens (kind_of l.node) (slot_data l.node) (drop l.slot-index l.slot-items) ≡ l.initial.out.tokens ++ slots_tokens (kind_of l.node) (slot_data l.node) l.slot-items;
  before : l.out.before ≡ l.initial.out.before;
}

abbrev pub invariant-write_nodes-loop-node : goal.invariant-write_nodes-loop-node
invariant-write_nodes-loop-node l = record {
  tokens : l.out.tokens ++ nodes_tokens (trees (drop l.node-index l.nodes)) ≡ l.initial.out.tokens ++ nodes_tokens (trees l.nodes);
  before : l.out.before ≡ l.initial.out.before;
}

abbrev pub invariant-write_nullable_nodes-loop-node : goal.invariant-write_nullable_nodes-loop-node
invariant-write_nullable_nodes-loop-node l = record {
  tokens : l.out.tokens ++ nodes_tokens (nullable_trees (drop l.node-index l.nodes)) ≡ l.initial.out.tokens ++ nodes_tokens (nullable_trees l.nodes);
  before : l.out.before ≡ l.initial.out.before;
}
