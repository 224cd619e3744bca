use Rattle.std.proofs.Common.{◌≡◌, sym, ap, ◌∙◌, List, true, false, ◌&&◌}
use Rattle.es_base.specs.declared.ledger.LedgerEntry.{LedgerEntry}
use Rattle.es_binding_faults.proofs.Appending.{IfOk-map}
use Rattle.es_lowered.specs.Lowered as spec
use Rattle.es_owed_names.specs.Single.{all_declared, are_single}
use Rattle.es_owed_names.proofs.SingleNames.{declared_once}
use Rattle.es_owed_names.proofs.declared.names_declared.Goals as goal

pub returns-then-branch : goal.returns-then-branch
returns-then-branch c =
    let first = c.args.first in
    let es = c.entries-entries.result.now in
    let q = c.args.lowered.now.program.now in
    let declared : all_declared first q es ≡ true = sym c.in_ok-all_declared.ensures ∙ c.if-branch.true in
    IfOk-map c.are_single.result
    (λ holds. holds ≡ are_single es es es)
    (λ holds. holds ≡ spec.names_declared first c.args.ledger.now q)
    (λ holds h. h ∙ sym (ap (λ b. b && are_single es es es) declared) ∙ declared_once first es q ∙ ap (λ (ns : List LedgerEntry). spec.names_declared first ns q) c.entries-entries.ensures)
    c.are_single.ensures

pub returns : goal.returns
returns c =
    let first = c.args.first in
    let es = c.entries-entries.result.now in
    let q = c.args.lowered.now.program.now in
    let failed : all_declared first q es ≡ false = sym c.in_ok-all_declared.ensures ∙ c.if-branch.false in
    sym (ap (λ b. b && are_single es es es) failed) ∙ declared_once first es q ∙ ap (λ (ns : List LedgerEntry). spec.names_declared first ns q) c.entries-entries.ensures
