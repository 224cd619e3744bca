use Rattle.std.proofs.Common.{◌∙◌, ap}
use Rattle.es_binding_faults.specs.Seen.{seen}
use Rattle.es_lowered.specs.HelperCalls.{computed_keys}
use Rattle.es_lowered.specs.KeptKeys.{keys_that_stay, which_stay}
use Rattle.es_base.specs.Preorder.{preorder}
use Rattle.es_steps.specs.References.{resolve}
use Rattle.es_owed_calls.proofs.KeyNames.{keys_stay}
use Rattle.es_owed_calls.proofs.Results.{IfOk-same}
use Rattle.es_owed_calls.proofs.kept_keys.keys_that_stay.Goals as goal

pub returns : goal.returns
returns c =
    let p = c.args.source.now.program.now in
    let q = c.args.lowered.now.program.now in
    let first = c.args.first in
    let ledger = c.args.ledger.now in
    let x = c.in_ok-lowering.lowering in
    let r = x.source.now.program.now in
    let s = x.lowered.now.program.now in
    let keys = c.as_slice-2.ensures.value ∙ c.in_ok-keys.ensures ∙ ap (λ ns. computed_keys (seen ns)) c.as_slice.ensures.value ∙ ap computed_keys c.args.source.now.in_preorder in
    IfOk-same c.which_stay.result (λ v. v.items)
    (which_stay x.first x.ledger.now r s (resolve r) (resolve s) c.as_slice-2.result.now)
    (keys_that_stay first ledger p q)
    (keys_stay first x.first ledger x.ledger.now p q r s c.as_slice-2.result.now (computed_keys (preorder p)) c.in_ok-lowering.ensures.first c.in_ok-lowering.ensures.ledger c.in_ok-lowering.ensures.source c.in_ok-lowering.ensures.lowered keys)
    c.which_stay.ensures
