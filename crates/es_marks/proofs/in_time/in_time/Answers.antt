use Rattle.std.proofs.Common.{◌≡◌, sym, ap, ◌∙◌}
use Rattle.es_grouped.specs.Groups.{group, having}
use Rattle.es_generated.specs.Spellings.{spelling_number}
use Rattle.es_marks.specs.Located.{located, located_of}
use Rattle.es_marks.specs.Marks.{mark_of, marks_of}
use Rattle.es_marks.specs.Named.{with_numbers}
use Rattle.es_marks.proofs.InTime.{next_in_time, not_in_time}
use Rattle.es_marks.proofs.Named.{stands_by_place}
use Rattle.es_marks.proofs.in_time.in_time.Goals as goal

pub loop-i-preserved : goal.loop-i-preserved
loop-i-preserved c =
    let ledger = c.args.ledger.now in
    let xs = c.args.marks.now in
    let i = c.loop-i.i in
    let mark = mark_of c.index-marks-i.result in
    let ns = c.in_ok-spellings.spellings in
    let number = spelling_number ns mark.name in
    let others : located_of c.get-others.result.now ≡ having number (with_numbers ns (located 0 (marks_of xs))) =
    ap located_of c.get-others.ensures
    ∙ ap (λ n. located_of (group n c.in_ok-named.named)) c.spelling_number.ensures
    ∙ c.in_ok-named.ensures number in
    let stands = sym (stands_by_place ledger ns xs i mark (located_of c.get-others.result.now) others) ∙ sym c.stands_among.ensures ∙ c.if-not-stands_among.false in
    next_in_time ledger xs i c.index-marks-i.result c.loop-i-test.true c.index-marks-i.is stands ∙ c.loop-i.invariant

pub returns-then-not-stands_among : goal.returns-then-not-stands_among
returns-then-not-stands_among c =
    let ledger = c.args.ledger.now in
    let xs = c.args.marks.now in
    let i = c.loop-i.i in
    let mark = mark_of c.index-marks-i.result in
    let ns = c.in_ok-spellings.spellings in
    let number = spelling_number ns mark.name in
    let others : located_of c.get-others.result.now ≡ having number (with_numbers ns (located 0 (marks_of xs))) =
    ap located_of c.get-others.ensures
    ∙ ap (λ n. located_of (group n c.in_ok-named.named)) c.spelling_number.ensures
    ∙ c.in_ok-named.ensures number in
    let fails = sym (stands_by_place ledger ns xs i mark (located_of c.get-others.result.now) others) ∙ sym c.stands_among.ensures ∙ c.if-not-stands_among.true in
    sym (sym c.loop-i.invariant ∙ not_in_time ledger xs i c.index-marks-i.result c.loop-i-test.true c.index-marks-i.is fails)
