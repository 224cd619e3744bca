use Rattle.std.proofs.Common.{◌≡◌, ℕ, drop, not, ◌&&◌}
use Rattle.std.specs.List.{list_any}
use Rattle.es_lowered.specs.ClassNames.{is_class_mark}
use Rattle.es_lowered.specs.Timely.{Mark}
use Rattle.es_marks.specs.Located.{located_of}
use Rattle.es_owed_class_names.specs.LocatedMarks.{is_front}
use Rattle.es_owed_class_names.proofs.located.any_late.Given as goal

abbrev pub invariant-loop-mark : goal.invariant-loop-mark
invariant-loop-mark l =
    let of = list_any (λ (x : ℕ × Mark). not (is_class_mark x.1.form) && list_any (is_front x) (located_of l.fronts)) in
    of (located_of (drop l.mark-index l.marks)) ≡ of (located_of l.marks)
