use Rattle.std.proofs.Common.{◌≡◌, ◌++◌, drop}
use Rattle.es_by_number.specs.Numbered.{numbered}
use Rattle.es_marks.specs.Marks.{marks_of}
use Rattle.es_marks.specs.Needing.{needing_name, with_numbers}
use Rattle.es_marks.proofs.needing.with_numbers.Given as goal

abbrev pub invariant-loop-mark : goal.invariant-loop-mark
invariant-loop-mark l = numbered needing_name l.items.items ++ with_numbers l.spellings (marks_of (drop l.mark-index l.marks)) ≡ with_numbers l.spellings (marks_of l.marks)
