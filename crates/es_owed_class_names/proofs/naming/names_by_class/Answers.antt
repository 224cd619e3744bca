use Rattle.std.proofs.Common.{◌≡◌, ◌∙◌, ap, ℕ, true, ◌&&◌}
use Rattle.es_binding_faults.proofs.Appending.{IfOk-map}
use Rattle.es_binding_faults.specs.Seen.{seen}
use Rattle.es_by_number.specs.Numbered.{pairs}
use Rattle.es_grouped.specs.Groups.{group, having}
use Rattle.es_lowered.specs.ClassNames.{naming}
use Rattle.es_lowered.specs.Definitions.{class_identifiers}
use Rattle.es_references.specs.References.{references_of}
use Rattle.es_steps.specs.References.{has_number}
use Rattle.es_owed_class_names.proofs.NamedClasses.{declares, of_class}
use Rattle.es_owed_class_names.proofs.naming.names_by_class.Goals as goal

pub returns : goal.returns
returns c =
    let first = c.args.first in
    let ledger = c.args.ledger.now in
    let classes = c.args.classes.now in
    let rs = references_of c.args.references.now.list.items in
    let ts = seen c.args.nodes.now in
    let identifiers = c.in_ok-identifiers.identifiers in
    let declared = c.in_ok-declared.declared in
    IfOk-map c.of.result
    (λ g. (n : ℕ) → group n g ≡ having n (pairs c.in_ok-named.named.items))
    (λ g. (n : ℕ) → has_number n classes ≡ true → group n g ≡ naming n ledger rs (class_identifiers first n ts) ts)
    (λ g h n among.
    h n
    ∙ ap (having n) c.in_ok-named.ensures
    ∙ of_class n ledger rs (λ b. group b declared) (class_identifiers first n ts) ts (λ b.
    ap (has_number n) (c.in_ok-declared.ensures b)
    ∙ declares n b (λ k. group k identifiers) classes
    ∙ ap (λ x. x && has_number b (group n identifiers)) among
    ∙ ap (has_number b) (c.in_ok-identifiers.ensures n)))
    c.of.ensures
