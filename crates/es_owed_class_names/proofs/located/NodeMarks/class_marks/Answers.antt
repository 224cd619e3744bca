use Rattle.std.proofs.Common.{ap, ◌∙◌, ◌++◌}
use Rattle.es_binding_faults.proofs.Appending.{appended_or}
use Rattle.es_marks.specs.Located.{located, located_of}
use Rattle.es_marks.specs.Marks.{marks_of}
use Rattle.es_owed_class_names.proofs.NodeMarks.{class_more}
use Rattle.es_owed_class_names.specs.LocatedMarks.{class_marks, of_node, of_nodes}
use Rattle.es_owed_class_names.proofs.located.NodeMarks.class_marks.Goals as goal

pub loop-number-preserved : goal.loop-number-preserved
loop-number-preserved c =
    let asked = c.args.asked.now in
    let all = located 0 (marks_of c.args.self.now.marks.now) in
    let old = located_of c.loop-number.found.items in
    appended_or (λ i xs. class_marks (of_nodes xs all)) (λ i x. class_marks (of_node x all)) (λ i x xs. class_more x xs all) old _ (class_marks (of_nodes asked all)) asked c.loop-number.number-index 0 c.loop-number-test.true
    (c.in_ok-add_class_marks.ensures ∙ ap (λ ys. old ++ class_marks ys) c.of_node.ensures)
    c.loop-number.invariant
