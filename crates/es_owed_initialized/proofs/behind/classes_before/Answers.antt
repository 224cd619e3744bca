use Rattle.std.proofs.Common.{◌≡◌, ◌∙◌, ap, ℕ}
use Rattle.es_binding_faults.proofs.Appending.{IfOk-map}
use Rattle.es_binding_faults.specs.Seen.{seen}
use Rattle.es_by_number.specs.Numbered.{pairs}
use Rattle.es_grouped.specs.Groups.{group, having}
use Rattle.es_lowered.specs.Lowered as spec
use Rattle.es_owed_initialized.proofs.behind.classes_before.Goals as goal

pub returns : goal.returns
returns c = IfOk-map c.of.result
    (λ g. (m : ℕ) → group m g ≡ having m (pairs c.in_ok-found.found.items))
    (λ g. (m : ℕ) → group m g ≡ having m (spec.all_behind (seen c.args.nodes.now)))
    (λ g h m. h m ∙ ap (having m) c.in_ok-found.ensures)
    c.of.ensures
