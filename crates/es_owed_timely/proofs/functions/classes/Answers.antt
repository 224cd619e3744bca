use Rattle.std.proofs.Common.{◌≡◌, ◌∙◌, ap, ℕ}
use Rattle.es_binding_faults.proofs.Appending.{IfOk-map}
use Rattle.es_by_number.specs.Numbered.{pairs}
use Rattle.es_grouped.specs.Groups.{group, having}
use Rattle.es_owed_timely.specs.Functions.{super_functions_of}
use Rattle.es_owed_timely.proofs.functions.classes.Goals as goal

pub returns : goal.returns
returns c = IfOk-map c.of.result
    (λ g. (m : ℕ) → group m g ≡ having m (pairs c.in_ok-items.items.items))
    (λ g. (m : ℕ) → group m g ≡ having m (super_functions_of c.args.functions.now))
    (λ g h m. h m ∙ ap (having m) c.in_ok-items.ensures)
    c.of.ensures
