use Rattle.std.proofs.Common.{◌≡◌, drop}
use Rattle.std.specs.List.{list_any}
use Rattle.es_marks.specs.Located.{located, located_of}
use Rattle.es_marks.specs.Marks.{marks_of}
use Rattle.es_owed_class_names.specs.LocatedMarks.{is_early, of_nodes}
use Rattle.es_owed_class_names.proofs.located.NodeMarks.any_early.Given as goal

abbrev pub invariant-loop-number : goal.invariant-loop-number
invariant-loop-number l =
    let all = located 0 (marks_of l.self.marks.now) in
    list_any (is_early (located_of l.fronts)) (of_nodes (drop l.number-index l.asked) all) ≡ list_any (is_early (located_of l.fronts)) (of_nodes l.asked all)
