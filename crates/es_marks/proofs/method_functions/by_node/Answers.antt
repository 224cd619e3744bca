use Rattle.std.proofs.Common.{◌≡◌, ◌∙◌, ap, ℕ}
use Rattle.es_binding_faults.proofs.Appending.{IfOk-map}
use Rattle.es_by_number.specs.Numbered.{pairs}
use Rattle.es_grouped.specs.Groups.{group, having}
use Rattle.es_generated.proofs.NumberedNames.{having_seen}
use Rattle.es_marks.specs.Marks.{marks_of}
use Rattle.es_marks.specs.MethodFunctions.{held_list, held_lists, helds, method_functions}
use Rattle.es_marks.proofs.method_functions.by_node.Goals as goal

pub returns : goal.returns
returns c =
    let items = c.in_ok-items.items.items in
    IfOk-map c.of.result
    (λ g. (k : ℕ) → group k g ≡ having k (pairs items))
    (λ g. (k : ℕ) → held_lists (group k g) ≡ having k (helds (marks_of c.args.needing.now.marks.now) (method_functions c.args.functions.now)))
    (λ g h k. ap held_lists (h k) ∙ having_seen held_list k items ∙ ap (having k) c.in_ok-items.ensures)
    c.of.ensures
