use Rattle.std.proofs.Common.{◌≡◌, ◌∙◌, ap, ℕ}
use Rattle.es_binding_faults.proofs.Appending.{IfOk-map}
use Rattle.es_by_number.specs.Numbered.{pairs}
use Rattle.es_grouped.specs.Groups.{group, having}
use Rattle.es_owed_class_names.specs.NamedClasses.{declared}
use Rattle.es_owed_class_names.proofs.naming.classes_by_identifier.Goals as goal

pub returns : goal.returns
returns c = IfOk-map c.of.result
    (λ g. (b : ℕ) → group b g ≡ having b (pairs c.in_ok-items.items.items))
    (λ g. (b : ℕ) → group b g ≡ having b (declared (λ n. group n c.args.identifiers.now) c.args.classes.now))
    (λ g h b. h b ∙ ap (having b) c.in_ok-items.ensures)
    c.of.ensures
