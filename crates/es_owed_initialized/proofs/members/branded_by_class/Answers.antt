use Rattle.std.proofs.Common.{◌≡◌, ◌∙◌, ap, ℕ}
use Rattle.es_binding_faults.proofs.Appending.{IfOk-map}
use Rattle.es_by_number.specs.Numbered.{pairs}
use Rattle.es_grouped.specs.Groups.{group, having}
use Rattle.es_owed_initialized.specs.Members.{numbered_branded}
use Rattle.es_owed_initialized.proofs.members.branded_by_class.Goals as goal

pub returns : goal.returns
returns c = IfOk-map c.of.result
    (λ g. (m : ℕ) → group m g ≡ having m (pairs c.in_ok-items.items.items))
    (λ g. (m : ℕ) → group m g ≡ having m (numbered_branded c.args.members.now))
    (λ g h m. h m ∙ ap (having m) c.in_ok-items.ensures)
    c.of.ensures
