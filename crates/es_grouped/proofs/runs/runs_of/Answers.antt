use Rattle.std.proofs.Common.{◌≡◌, ◌≤◌, ◌∙◌, sym, subst, length, take}
use Rattle.std.proofs.lemmas.List.{take_all}
use Rattle.es_by_number.specs.Numbered.{pairs}
use Rattle.es_grouped.specs.Runs.{AreRuns, IsNext}
use Rattle.es_grouped.proofs.SideBySide.{length-first, pairs_more, runs_more}
use Rattle.es_grouped.proofs.runs.runs_of.Goals as goal

pub loop-i-preserved : goal.loop-i-preserved
loop-i-preserved g c =
    let i = c.loop-i.i in
    let items = c.args.items.now in
    let item = c.index-items-i.result in
    let count : length (pairs (take i items)) ≡ i = length-first items i c.loop-i-test.true in
    let next = subst (λ o. IsNext o (length (pairs (take i items))) c.in-Some.run') (c.copied.ensures ∙ c.get.ensures) (subst (λ n. IsNext c.copied.result n c.in-Some.run') (sym count) c.in-Some.ensures) in
    subst (AreRuns c.insert.new.self) (sym (pairs_more items i item c.index-items-i.is c.loop-i-test.true)) (runs_more c.loop-i.runs c.insert.new.self (pairs (take i items)) item.number item.value c.in-Some.run' c.loop-i.invariant next c.in_ok-insert-in-Some.ensures)

pub returns : goal.returns
returns g c =
    let over : length c.args.items.now ≤ c.loop-i.i = c.loop-i-test.false in
    subst (λ xs. AreRuns c.loop-i.runs (pairs xs)) (take_all c.loop-i.i c.args.items.now over) c.loop-i.invariant
