use Rattle.std.proofs.Common.{◌≡◌, ◌∙◌, ap, ℕ}
use Rattle.es_binding_faults.proofs.Appending.{IfOk-map}
use Rattle.es_by_number.specs.Numbered.{pairs}
use Rattle.es_grouped.specs.Groups.{group, having}
use Rattle.es_generated.proofs.NumberedNames.{having_seen}
use Rattle.es_marks.specs.Marks.{marks_of}
use Rattle.es_marks.specs.Needing.{needing_name, needing_names, with_numbers}
use Rattle.es_marks.proofs.needing.by_number.Goals as goal

pub returns : goal.returns
returns c =
    let items = c.in_ok-items.items.items in
    IfOk-map c.of.result
    (λ g. (n : ℕ) → group n g ≡ having n (pairs items))
    (λ g. (n : ℕ) → needing_names (group n g) ≡ having n (with_numbers c.args.spellings.now (marks_of c.args.marks.now)))
    (λ g h n. ap needing_names (h n) ∙ having_seen needing_name n items ∙ ap (having n) c.in_ok-items.ensures)
    c.of.ensures
