use Rattle.std.proofs.Common.{◌≡◌, ap, ◌∙◌, ℕ, List}
use Rattle.es_base.specs.declared.ledger.LedgerEntry.{LedgerEntry}
use Rattle.es_binding_faults.proofs.Appending.{IfOk-map}
use Rattle.es_lowered.specs.Lowered.{initializations_stand}
use Rattle.es_owed.specs.declared.listed.Listed.{Listed}
use Rattle.es_owed_initialized.proofs.initialized.initializations_stand.Goals as goal

pub returns : goal.returns
returns c =
    let first = c.args.first in
    let ledger = c.args.ledger.now in
    let p = c.args.source.now.program.now in
    let q = c.args.lowered.now.program.now in
    let names = c.in_ok-names.names in
    let are = c.in_ok-names.ensures in
    let entries = c.entries.result.now in
    IfOk-map c.all_stand.result
    (λ holds. holds ≡ initializations_stand names.first names.ledger.now p names.lowered.now.program.now entries)
    (λ holds. holds ≡ initializations_stand first ledger p q ledger)
    (λ holds is.
    is
    ∙ ap (λ (n : ℕ). initializations_stand n names.ledger.now p names.lowered.now.program.now entries) are.0
    ∙ ap (λ (es : List LedgerEntry). initializations_stand first es p names.lowered.now.program.now entries) are.1
    ∙ ap (λ (l : Listed). initializations_stand first ledger p l.program.now entries) are.2
    ∙ ap (λ (es : List LedgerEntry). initializations_stand first ledger p q es) c.entries.ensures)
    c.all_stand.ensures
