use Rattle.std.proofs.Common.{◌≡◌, sym, ap, ◌∙◌}
use Rattle.es_codes.specs.CodeView.{code_of}
use Rattle.es_steps.specs.Code as of
use Rattle.es_steps.specs.Expressions as spec
use Rattle.es_code_operators.proofs.DeleteForms.{chain_deleted}
use Rattle.es_code_operators.proofs.deleted.deleted_chain.Goals as goal

pub returns-in_ok-new-in-Chain : goal.returns-in_ok-new-in-Chain
returns-in_ok-new-in-Chain c =
    let boxed : code_of c.in_ok-new-in-Chain.field-0 ≡ code_of c.in_ok-inner-in-Chain.inner = ap code_of c.in_ok-new-in-Chain.ensures in
    let inner : code_of c.in_ok-inner-in-Chain.inner ≡ spec.deleted c.args.node (code_of c.in-Chain.expression) = c.in_ok-inner-in-Chain.ensures ∙ ap (λ e. spec.deleted c.args.node (code_of e)) c.into_inner.ensures in
    c.chain.ensures ∙ ap (of.chain c.args.node) (boxed ∙ inner) ∙ sym (chain_deleted c.args.node c.args.code c.in-Chain.node c.in-Chain.expression c.in-Chain.is)
