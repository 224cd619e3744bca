use Rattle.std.proofs.Common.{◌≡◌, ◌∙◌}
use Rattle.es_binding_faults.proofs.Appending.{IfOk-map}
use Rattle.es_binding_faults.specs.Seen.{seen}
use Rattle.es_lowered.specs.DeadZones as spec
use Rattle.es_touches.proofs.DerivedFunctions.{same_arrows}
use Rattle.es_touches.proofs.derived.derived_arrows.Goals as goal

pub returns : goal.returns
returns c =
    let set = c.in_ok-set.set in
    let constructors = c.args.constructors.now in
    let nodes = seen c.args.nodes.now in
    IfOk-map c.arrows_of.result
    (λ r. r.items ≡ spec.derived_arrows set nodes)
    (λ r. r.items ≡ spec.derived_arrows constructors nodes)
    (λ r e. e ∙ same_arrows set constructors nodes c.in_ok-set.ensures)
    c.arrows_of.ensures
