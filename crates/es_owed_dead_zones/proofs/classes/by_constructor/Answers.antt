use Rattle.std.proofs.Common.{◌≡◌, ◌∙◌, ap, ℕ}
use Rattle.es_binding_faults.proofs.Appending.{IfOk-map}
use Rattle.es_binding_faults.specs.Seen.{seen}
use Rattle.es_by_number.specs.Numbered.{pairs}
use Rattle.es_grouped.specs.Groups.{group, having}
use Rattle.es_lowered.specs.DeadZones.{constructs}
use Rattle.es_owed_dead_zones.proofs.LookedUpByNumber.{constructs_by_number}
use Rattle.es_owed_dead_zones.proofs.classes.by_constructor.Goals as goal

pub returns : goal.returns
returns c = IfOk-map c.of.result
    (λ g. (m : ℕ) → group m g ≡ having m (pairs c.in_ok-items.items.items))
    (λ g. (m : ℕ) → constructs m (seen (group m g)) ≡ constructs m (seen c.args.nodes.now))
    (λ g h m. ap (λ ns. constructs m (seen ns)) (h m ∙ ap (having m) c.in_ok-items.ensures) ∙ constructs_by_number m c.args.nodes.now)
    c.of.ensures
