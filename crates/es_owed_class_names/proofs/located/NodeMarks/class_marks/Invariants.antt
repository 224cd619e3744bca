use Rattle.std.proofs.Common.{◌≡◌, ◌++◌, drop}
use Rattle.es_marks.specs.Located.{located, located_of}
use Rattle.es_marks.specs.Marks.{marks_of}
use Rattle.es_owed_class_names.specs.LocatedMarks.{class_marks, of_nodes}
use Rattle.es_owed_class_names.proofs.located.NodeMarks.class_marks.Given as goal

abbrev pub invariant-loop-number : goal.invariant-loop-number
invariant-loop-number l =
    let all = located 0 (marks_of l.self.marks.now) in
    located_of l.found.items ++ class_marks (of_nodes (drop l.number-index l.asked) all) ≡ class_marks (of_nodes l.asked all)
