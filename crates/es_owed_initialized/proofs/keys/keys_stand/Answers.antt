use Rattle.std.proofs.Common.{◌≡◌, sym, ap, ◌∙◌, ℕ, List, true, ◌&&◌, ◌||◌}
use Rattle.std.specs.Prelude.{not}
use Rattle.es_base.specs.declared.ledger.LedgerEntry.{LedgerEntry}
use Rattle.es_binding_faults.proofs.Appending.{IfOk-map}
use Rattle.es_lowered.specs.Definitions.{all_different}
use Rattle.es_lowered.specs.Lowered.{keys_before, keys_stand}
use Rattle.es_owed.specs.declared.listed.Listed.{Listed}
use Rattle.es_owed_initialized.specs.Keys.{keys_of}
use Rattle.es_owed_initialized.proofs.keys.keys_stand.Goals as goal
use Rattle.es_steps.specs.Options.{lowers_fields}
use Rattle.es_steps.specs.PrivateNames.{PrivateMember}

pub returns : goal.returns
returns c =
    let first = c.args.first in
    let ledger = c.args.ledger.now in
    let q = c.args.lowered.now.program.now in
    let keys = keys_of c.args.keys.now in
    let names = c.in_ok-names.names in
    let are = c.in_ok-names.ensures in
    let lowers : lowers_fields c.args.options.now ≡ true = sym c.lowers_fields.ensures ∙ c.if-not-lowers_fields.false in
    let different : all_different keys ≡ true = sym c.in_ok-all_different.ensures ∙ c.if-not-branch.false in
    let before : keys_before names.first names.ledger.now names.lowered.now.program.now keys ≡ keys_before first ledger q keys =
    ap (λ (n : ℕ). keys_before n names.ledger.now names.lowered.now.program.now keys) are.0
    ∙ ap (λ (es : List LedgerEntry). keys_before first es names.lowered.now.program.now keys) are.1
    ∙ ap (λ (l : Listed). keys_before first ledger l.program.now keys) are.2 in
    IfOk-map c.keys_before.result
    (λ holds. holds ≡ keys_before names.first names.ledger.now names.lowered.now.program.now keys)
    (λ holds. (members : List PrivateMember) → holds ≡ keys_stand first c.args.options.now ledger members q keys)
    (λ holds is members.
    is
    ∙ before
    ∙ sym (ap (λ b. not b || (all_different keys && keys_before first ledger q keys)) lowers ∙ ap (λ b. b && keys_before first ledger q keys) different))
    c.keys_before.ensures
