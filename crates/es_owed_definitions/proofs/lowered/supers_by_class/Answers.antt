use Rattle.std.proofs.Common.{◌≡◌, ◌∙◌, ap, ℕ}
use Rattle.es_base.specs.Preorder.{preorder}
use Rattle.es_binding_faults.proofs.Appending.{IfOk-map}
use Rattle.es_binding_faults.specs.Seen.{seen}
use Rattle.es_grouped.specs.Groups.{group}
use Rattle.es_owed_definitions.specs.SuperNames.{supers_of}
use Rattle.es_owed_definitions.proofs.lowered.supers_by_class.Goals as goal

pub returns : goal.returns
returns c =
    let ledger = c.args.ledger.now in
    let q = c.args.listed.now.program.now in
    IfOk-map c.nodes_by_class.result
    (λ g. (n : ℕ) → seen (group n g) ≡ supers_of ledger n (seen c.as_slice.result.now))
    (λ g. (n : ℕ) → seen (group n g) ≡ supers_of ledger n (preorder q))
    (λ g h n. h n ∙ ap (supers_of ledger n) (ap seen c.as_slice.ensures.value ∙ c.args.listed.now.in_preorder))
    c.nodes_by_class.ensures
