use Rattle.std.proofs.Common.{rules, ◌∙◌, ◌≤◌, arith, length}
use Rattle.std.proofs.lemmas.Fn.{always_returns_same}
use Rattle.std.proofs.lemmas.List.{take_all}
use Rattle.std.proofs.lemmas.List.Sorted.{ranks_by}
use Rattle.es_writing.specs.Lowered.{entry_cmp}
use Rattle.es_writing.proofs.Arranging.{below, entry_cmp_total, item, items_arranged}
use Rattle.es_writing.proofs.order.arranged.Goals as goal

pub returns : goal.returns
returns c =
    let ended : length c.args.entries.now ≤ c.loop-entry.entry-index = omega (arith, c.loop-entry-test.false) in
    items_arranged entry_cmp c.args.entries.now c.loop-entry.names.items c.sort_by.new.self.items
    (c.loop-entry.invariant ∙ take_all c.loop-entry.entry-index c.args.entries.now ended)
    c.sort_by.ensures.permutation
    (c.in_ok-sort_by.ensures.sorted (below entry_cmp) (ranks_by entry_cmp_total item) (always_returns_same _ _ _ (λ a r f k. search rules)))
    (c.sort_by.ensures.stable (below entry_cmp) (ranks_by entry_cmp_total item) (always_returns_same _ _ _ (λ a r f k. search rules)))
