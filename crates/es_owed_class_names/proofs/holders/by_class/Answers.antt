use Rattle.std.proofs.Common.{◌≡◌, ◌∙◌, ap, ℕ, true}
use Rattle.es_binding_faults.proofs.Appending.{IfOk-map}
use Rattle.es_binding_faults.specs.Seen.{seen}
use Rattle.es_by_number.specs.Numbered.{pairs}
use Rattle.es_grouped.specs.Groups.{group, having}
use Rattle.es_lowered.specs.ClassNames.{holds_class}
use Rattle.es_owed_class_names.proofs.HoldingNodes.{holders_by_class}
use Rattle.es_owed_class_names.proofs.holders.by_class.Goals as goal
use Rattle.es_steps.specs.References.{has_number}

pub returns : goal.returns
returns c =
    let functions = c.args.functions.now in
    let classes = c.args.classes.now in
    let nodes = c.args.nodes.now in
    IfOk-map c.of.result
    (λ g. (m : ℕ) → group m g ≡ having m (pairs c.in_ok-items.items.items))
    (λ g. (k n : ℕ) → has_number k functions ≡ true → has_number n classes ≡ true → has_number k (group n g) ≡ holds_class k n (seen nodes))
    (λ g h k n function class. ap (has_number k) (h n ∙ ap (having n) c.in_ok-items.ensures) ∙ holders_by_class functions classes k n function class (seen nodes))
    c.of.ensures
