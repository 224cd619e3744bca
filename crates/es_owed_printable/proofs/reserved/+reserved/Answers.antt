use Rattle.std.proofs.Common.{◌≡◌, sym, ap, ◌∙◌, ◌+◌, drop, Bool, false, ◌||◌, arith}
use Rattle.es_base.specs.Preorder.{nodes, nodes_of_part}
use Rattle.es_base.specs.Tree.{nullable}
use Rattle.es_node.specs.View.{kind_of, part_of, parts_in, parts_of}
use Rattle.es_node.proofs.Below.{part_below, tree_below, hole_below}
use Rattle.es_steps.specs.Reserved.{Words, is_reserved, reserved_at, strict_if}
use Rattle.es_steps.specs.Strict.{makes_strict}
use Rattle.es_owed_printable.specs.Words.{reserved_from, words_of, words_within}
use Rattle.es_owed_printable.proofs.Walks.{next_part, reserved_node, within_node}
use Rattle.es_owed_printable.proofs.reserved.+reserved.Goals as goal

pub reserved_in-reserved_at-requires : goal.reserved_in-reserved_at-requires
reserved_in-reserved_at-requires t c = (omega (arith, part_below c.args.parts.now c.loop-i.i c.index-parts-i.result c.loop-i-test.true, ap (λ p. nodes_of_part (part_of p)) c.index-parts-i.is, c.decreases), tt)

pub reserved_of_list-has_reserved-requires : goal.reserved_of_list-has_reserved-requires
reserved_of_list-has_reserved-requires t c = (omega (arith, tree_below c.args.nodes.now c.loop-node.node-index c.node-item.result c.loop-node-test.true, ap nodes c.node-item.is, c.decreases), tt)

pub reserved_of_list_with_holes-reserved_of_hole-requires : goal.reserved_of_list_with_holes-reserved_of_hole-requires
reserved_of_list_with_holes-reserved_of_hole-requires t c = (omega (arith, hole_below c.args.nodes.now c.loop-node.node-index c.node-item.result c.loop-node-test.true, ap (λ n. nodes_of_part (nullable n)) c.node-item.is, c.decreases), tt)

pub has_reserved-returns-else-is_reserved : goal.has_reserved-returns-else-is_reserved
has_reserved-returns-else-is_reserved t c =
    let w = words_of c.args.words in
    let u = c.args.node.now in
    let strict : c.makes_strict.result ≡ makes_strict (kind_of u) (parts_in u) = c.makes_strict.ensures ∙ ap (λ k. makes_strict k (parts_of c.parts.result.now)) c.kind.ensures ∙ ap (makes_strict (kind_of u)) (sym c.parts.ensures.list) in
    let none : is_reserved w (kind_of u) (parts_in u) ≡ false = sym c.is_reserved.ensures ∙ c.if-is_reserved.false in
    let within = words_within (strict_if (makes_strict (kind_of u) (parts_in u)) w) u in
    c.reserved_in.ensures
    ∙ ap (λ (x : Words). reserved_from (words_within x u) 0 (parts_of c.parts-else-is_reserved.result.now)) (c.strict_if.ensures ∙ ap (λ b. strict_if b w) strict)
    ∙ ap (λ ps. reserved_from within 0 ps) (sym c.parts-else-is_reserved.ensures.list)
    ∙ ap (λ (b : Bool). b || reserved_from within 0 (parts_in u)) (sym none)
    ∙ sym (reserved_node w u)

pub reserved_in-returns-then-reserved_at : goal.reserved_in-returns-then-reserved_at
reserved_in-returns-then-reserved_at t c =
    let w = words_of c.args.words in
    let u = c.args.node.now in
    let i = c.loop-i.i in
    let part = c.index-parts-i.result in
    let rest = reserved_from (words_within w u) (i + 1) (parts_of (drop (i + 1) c.args.parts.now)) in
    let here : c.reserved_at.result ≡ reserved_at (words_within w u i) (part_of part) = c.reserved_at.ensures ∙ ap (λ (x : Words). reserved_at x (part_of part)) (c.words_inside.ensures ∙ sym (within_node w u i)) in
    ap (λ (b : Bool). b || rest) (sym c.if-reserved_at.true ∙ here)
    ∙ sym (next_part (words_within w u) c.args.parts.now i part c.loop-i-test.true c.index-parts-i.is)
    ∙ c.loop-i.invariant

pub reserved_in-loop-i-preserved : goal.reserved_in-loop-i-preserved
reserved_in-loop-i-preserved t c =
    let w = words_of c.args.words in
    let u = c.args.node.now in
    let i = c.loop-i.i in
    let part = c.index-parts-i.result in
    let rest = reserved_from (words_within w u) (i + 1) (parts_of (drop (i + 1) c.args.parts.now)) in
    let here : c.reserved_at.result ≡ reserved_at (words_within w u i) (part_of part) = c.reserved_at.ensures ∙ ap (λ (x : Words). reserved_at x (part_of part)) (c.words_inside.ensures ∙ sym (within_node w u i)) in
    ap (λ (b : Bool). b || rest) (sym c.if-reserved_at.false ∙ here)
    ∙ sym (next_part (words_within w u) c.args.parts.now i part c.loop-i-test.true c.index-parts-i.is)
    ∙ c.loop-i.invariant
