use Rattle.std.proofs.Common.{◌≡◌, ◌∙◌, ap, ℕ}
use Rattle.es_binding_faults.proofs.Appending.{IfOk-map}
use Rattle.es_by_number.specs.Numbered.{pairs}
use Rattle.es_generated.proofs.NumberedNames.{having_seen}
use Rattle.es_grouped.specs.Groups.{group, having}
use Rattle.es_marks.specs.Located.{located, located_mark, located_of}
use Rattle.es_marks.specs.Marks.{marks_of}
use Rattle.es_owed_class_names.proofs.NodeMarks.{having_node}
use Rattle.es_owed_class_names.specs.LocatedMarks.{of_node}
use Rattle.es_owed_class_names.proofs.located.by_node.Goals as goal

pub returns : goal.returns
returns c =
    let items = c.in_ok-items.items.items in
    let marks = c.args.marks.now in
    IfOk-map c.of.result
    (λ g. (k : ℕ) → group k g ≡ having k (pairs items))
    (λ g. (k : ℕ) → located_of (group k g) ≡ of_node k (located 0 (marks_of marks)))
    (λ g h k. ap located_of (h k) ∙ having_seen located_mark k items ∙ ap (having k) c.in_ok-items.ensures ∙ having_node k 0 marks)
    c.of.ensures
