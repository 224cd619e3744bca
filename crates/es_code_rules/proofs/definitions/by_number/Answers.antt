use Rattle.std.proofs.Common.{◌≡◌, ◌∙◌, ap, ℕ, map}
use Rattle.es_binding_faults.proofs.Appending.{IfOk-map}
use Rattle.es_by_number.specs.Numbered.{pairs}
use Rattle.es_generated.proofs.NumberedNames.{having_seen}
use Rattle.es_grouped.specs.Groups.{group, having}
use Rattle.es_code_rules.specs.Elsewhere.{definition_behind, definition_of, definitions_behind}
use Rattle.es_code_rules.specs.Indexed.{numbered_definitions}
use Rattle.es_code_rules.proofs.definitions.by_number.Goals as goal

pub returns : goal.returns
returns c = IfOk-map c.of.result
    (λ g. (m : ℕ) → group m g ≡ having m (pairs c.in_ok-items.items.items))
    (λ g. (m : ℕ) → definitions_behind (group m g) ≡ having m (numbered_definitions c.args.spellings.now (map definition_of c.args.definitions.now)))
    (λ g h m. ap definitions_behind (h m) ∙ having_seen definition_behind m c.in_ok-items.items.items ∙ ap (having m) c.in_ok-items.ensures)
    c.of.ensures
