use Rattle.std.proofs.Common.{refl}
use Rattle.es_binding_faults.proofs.Appending.{appended, appended_all}
use Rattle.es_by_number.specs.Numbered.{numbered}
use Rattle.es_marks.specs.Located.{located, located_mark}
use Rattle.es_marks.specs.Marks.{mark_of, marks_of}
use Rattle.es_marks.specs.Named.{with_number, with_numbers}
use Rattle.es_marks.proofs.in_time.with_numbers.Goals as goal

pub loop-place-preserved : goal.loop-place-preserved
loop-place-preserved c =
    let ns = c.args.spellings.now in
    appended (λ i xs. with_numbers ns (located i (marks_of xs))) (λ i x. with_number ns (i, mark_of x)) (λ i x xs. refl) (numbered located_mark c.loop-place.items.items) _ (with_numbers ns (located 0 (marks_of c.args.marks.now))) c.args.marks.now c.loop-place.place c.index-marks-place.result c.loop-place-test.true c.index-marks-place.is c.in_ok-add_with_number.ensures c.loop-place.invariant

pub returns : goal.returns
returns c =
    let ns = c.args.spellings.now in
    appended_all (λ i xs. with_numbers ns (located i (marks_of xs))) (numbered located_mark c.loop-place.items.items) (with_numbers ns (located 0 (marks_of c.args.marks.now))) c.args.marks.now c.loop-place.place (λ k. refl) c.loop-place-test.false c.loop-place.invariant
