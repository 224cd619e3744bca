use Rattle.std.proofs.Common.{◌≡◌, ◌∙◌, ap, ℕ}
use Rattle.es_binding_faults.proofs.Appending.{IfOk-map}
use Rattle.es_binding_faults.specs.Seen.{seen}
use Rattle.es_by_number.specs.Numbered.{pairs}
use Rattle.es_grouped.specs.Groups.{group, having}
use Rattle.es_owed.specs.Listed.{numbered}
use Rattle.es_owed.proofs.NumberedNodes.{by_numbers}
use Rattle.es_owed.proofs.listed.by_number.Goals as goal

pub returns : goal.returns
returns c = IfOk-map c.of.result
    (λ g. (m : ℕ) → group m g ≡ having m (pairs c.in_ok-items.items.items))
    (λ g. (m : ℕ) → seen (group m g) ≡ numbered m (seen c.args.nodes.now))
    (λ g h m. ap seen (h m ∙ ap (having m) c.in_ok-items.ensures) ∙ by_numbers m c.args.nodes.now)
    c.of.ensures
