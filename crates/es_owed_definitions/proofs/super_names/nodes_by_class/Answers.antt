use Rattle.std.proofs.Common.{◌≡◌, ◌∙◌, ap, ℕ}
use Rattle.es_binding_faults.proofs.Appending.{IfOk-map}
use Rattle.es_binding_faults.specs.Seen.{seen}
use Rattle.es_by_number.specs.Numbered.{pairs}
use Rattle.es_grouped.specs.Groups.{group, having}
use Rattle.es_owed_definitions.proofs.SuperNodes.{by_classes}
use Rattle.es_owed_definitions.specs.SuperNames.{supers_of}
use Rattle.es_owed_definitions.proofs.super_names.nodes_by_class.Goals as goal

pub returns : goal.returns
returns c = IfOk-map c.of.result
    (λ g. (n : ℕ) → group n g ≡ having n (pairs c.in_ok-items.items.items))
    (λ g. (n : ℕ) → seen (group n g) ≡ supers_of c.args.ledger.now n (seen c.args.nodes.now))
    (λ g h n. ap seen (h n ∙ ap (having n) c.in_ok-items.ensures) ∙ by_classes c.args.ledger.now n c.args.nodes.now)
    c.of.ensures
