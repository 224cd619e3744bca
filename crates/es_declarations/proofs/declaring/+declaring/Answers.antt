use Rattle.std.proofs.Common.{ap, arith, sym, ◌∙◌, ◌++◌}
use Rattle.es_base.specs.Preorder.{nodes, nodes_of_part}
use Rattle.es_base.specs.Tree.{nullable}
use Rattle.es_binding_faults.proofs.Appending.{OnOk-map}
use Rattle.es_node.specs.View.{part_of}
use Rattle.es_declarations.proofs.Declarings.{declaring_inside}
use Rattle.es_declarations.specs.Declaring.{declares_within, declaring_from}
use Rattle.es_declarations.specs.Kinds.{bindings_in, kind_in}
use Rattle.es_node.proofs.Below.{part_below, tree_below, hole_below}
use Rattle.es_declarations.proofs.declaring.+declaring.Goals as goal

pub add_declaring_in-add_declaring_at-requires : goal.add_declaring_in-add_declaring_at-requires
add_declaring_in-add_declaring_at-requires t c = (omega (arith, part_below c.args.parts.now c.loop-i.i c.index-parts-i.result c.loop-i-test.true, ap (λ p. nodes_of_part (part_of p)) c.index-parts-i.is, c.decreases), tt)

pub add_declaring_of_list-add_declaring-requires : goal.add_declaring_of_list-add_declaring-requires
add_declaring_of_list-add_declaring-requires t c = (omega (arith, tree_below c.args.nodes.now c.loop-node.node-index c.node-item.result c.loop-node-test.true, ap nodes c.node-item.is, c.decreases), tt)

pub add_declaring_of_list_with_holes-add_declaring_of_hole-requires : goal.add_declaring_of_list_with_holes-add_declaring_of_hole-requires
add_declaring_of_list_with_holes-add_declaring_of_hole-requires t c = (omega (arith, hole_below c.args.nodes.now c.loop-node.node-index c.node-item.result c.loop-node-test.true, ap (λ n. nodes_of_part (nullable n)) c.node-item.is, c.decreases), tt)

pub add_declaring-returns-else-is_binding_identifier : goal.add_declaring-returns-else-is_binding_identifier
add_declaring-returns-else-is_binding_identifier t c =
    let d = kind_in c.args.kind in
    let n = c.args.node.now in
    OnOk-map c.add_declaring_in.result _ _ (λ e.
    e
    ∙ ap (λ ps. bindings_in c.args.found.now.items ++ declaring_from c.args.first (declares_within c.args.first n d) 0 ps) (sym c.parts-else-is_binding_identifier.ensures.list)
    ∙ ap (λ xs. bindings_in c.args.found.now.items ++ xs) (sym (declaring_inside c.args.first d n c.is_binding_identifier.result c.is_binding_identifier.ensures c.if-is_binding_identifier.false))) c.add_declaring_in.ensures
