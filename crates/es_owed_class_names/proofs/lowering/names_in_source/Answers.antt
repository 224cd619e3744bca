use Rattle.std.proofs.Common.{◌≡◌, ap, ◌∙◌, ℕ, true, []}
use Rattle.es_base.specs.Preorder.{preorder}
use Rattle.es_binding_faults.proofs.Appending.{IfOk-map}
use Rattle.es_binding_faults.specs.Seen.{seen}
use Rattle.es_grouped.specs.Groups.{group}
use Rattle.es_lowered.specs.ClassNames.{naming, naming_in_source}
use Rattle.es_lowered.specs.Definitions.{class_identifiers}
use Rattle.es_references.specs.References.{references_of}
use Rattle.es_steps.specs.References.{has_number, resolve}
use Rattle.es_owed_class_names.proofs.lowering.names_in_source.Goals as goal

pub returns : goal.returns
returns c =
    let first = c.args.first in
    let classes = c.args.classes.now in
    let program = c.args.source.now.program.now in
    let rs = references_of c.args.source.now.references.list.items in
    let ts = seen c.as_slice-nodes.result.now in
    let nodes : ts ≡ preorder program = ap seen c.as_slice-nodes.ensures.value ∙ c.args.source.now.in_preorder in
    IfOk-map c.names_by_class.result
    (λ g. (n : ℕ) → has_number n classes ≡ true → group n g ≡ naming n c.new-ledger.result rs (class_identifiers first n ts) ts)
    (λ g. (n : ℕ) → has_number n classes ≡ true → group n g ≡ naming_in_source first n program)
    (λ g named n among.
    named n among
    ∙ ap (λ es. naming n es rs (class_identifiers first n ts) ts) c.new-ledger.ensures
    ∙ ap (λ xs. naming n [] xs (class_identifiers first n ts) ts) c.args.source.now.are_resolved
    ∙ ap (λ us. naming n [] (resolve program) (class_identifiers first n us) us) nodes)
    c.names_by_class.ensures
