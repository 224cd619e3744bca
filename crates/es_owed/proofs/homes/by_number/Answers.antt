use Rattle.std.proofs.Common.{◌≡◌, ◌∙◌, ap, ℕ}
use Rattle.es_binding_faults.proofs.Appending.{IfOk-map}
use Rattle.es_by_number.specs.Numbered.{pairs}
use Rattle.es_grouped.specs.Groups.{group, having}
use Rattle.es_owed.specs.Homes.{homed_all, homed_numbered}
use Rattle.es_owed.proofs.HomesKept.{by_homes}
use Rattle.es_owed.proofs.homes.by_number.Goals as goal

pub returns : goal.returns
returns c = IfOk-map c.of.result
    (λ g. (m : ℕ) → group m g ≡ having m (pairs c.in_ok-items.items.items))
    (λ g. (m : ℕ) → homed_all (group m g) ≡ homed_numbered m (homed_all c.args.homes.now))
    (λ g h m. ap homed_all (h m ∙ ap (having m) c.in_ok-items.ensures) ∙ by_homes m c.args.homes.now)
    c.of.ensures
