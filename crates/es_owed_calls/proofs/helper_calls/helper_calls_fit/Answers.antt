use Rattle.std.proofs.Common.{◌≡◌, ◌∙◌, ap, []}
use Rattle.es_base.specs.Preorder.{preorder}
use Rattle.es_binding_faults.specs.Seen.{seen}
use Rattle.es_lowered.specs.HelperCalls.{calls_fit, conversions, helper_calls_fit}
use Rattle.es_lowered.specs.KeptKeys.{keys_that_stay}
use Rattle.es_owed_calls.specs.Conversions.{conversions_view}
use Rattle.es_owed_calls.proofs.CallNodes.{fit_by}
use Rattle.es_owed_calls.proofs.Results.{IfOk-same}
use Rattle.es_owed_calls.proofs.helper_calls.helper_calls_fit.Goals as goal

pub returns : goal.returns
returns c =
    let first = c.args.first in
    let ledger = c.args.ledger.now in
    let p = c.args.source.now.program.now in
    let q = c.args.lowered.now.program.now in
    let keys : c.in_ok-keys.keys ≡ keys_that_stay first ledger p q = c.in_ok-keys.ensures ∙ c.in_ok-staying.ensures in
    let known : conversions_view c.in_ok-conversions.conversions ≡ conversions first ledger (preorder q) = c.in_ok-conversions.ensures ∙ ap (λ ns. conversions first ledger (seen ns)) c.as_slice.ensures.value ∙ ap (conversions first ledger) c.args.lowered.now.in_preorder in
    IfOk-same c.calls_fit.result (λ holds. holds)
    (calls_fit first ledger c.in_ok-keys.keys (conversions_view c.in_ok-conversions.conversions) [] q)
    (helper_calls_fit first ledger (keys_that_stay first ledger p q) q)
    (fit_by first ledger c.in_ok-keys.keys (keys_that_stay first ledger p q) (conversions_view c.in_ok-conversions.conversions) q keys known)
    c.calls_fit.ensures
