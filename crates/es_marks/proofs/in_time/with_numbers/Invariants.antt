use Rattle.std.proofs.Common.{◌≡◌, ◌++◌, drop}
use Rattle.es_by_number.specs.Numbered.{numbered}
use Rattle.es_marks.specs.Located.{located, located_mark}
use Rattle.es_marks.specs.Marks.{marks_of}
use Rattle.es_marks.specs.Named.{with_numbers}
use Rattle.es_marks.proofs.in_time.with_numbers.Given as goal

abbrev pub invariant-loop-place : goal.invariant-loop-place
invariant-loop-place l = numbered located_mark l.items.items ++ with_numbers l.spellings (located l.place (marks_of (drop l.place l.marks))) ≡ with_numbers l.spellings (located 0 (marks_of l.marks))
