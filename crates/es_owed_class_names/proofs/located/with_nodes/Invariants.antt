use Rattle.std.proofs.Common.{◌≡◌, ◌++◌, drop}
use Rattle.es_by_number.specs.Numbered.{numbered}
use Rattle.es_marks.specs.Located.{located, located_mark}
use Rattle.es_marks.specs.Marks.{marks_of}
use Rattle.es_owed_class_names.specs.LocatedMarks.{with_nodes}
use Rattle.es_owed_class_names.proofs.located.with_nodes.Given as goal

abbrev pub invariant-loop-place : goal.invariant-loop-place
invariant-loop-place l = numbered located_mark l.items.items ++ with_nodes (located l.place (marks_of (drop l.place l.marks))) ≡ with_nodes (located 0 (marks_of l.marks))
