use Rattle.std.proofs.Common.{◌∙◌, ap, sym}
use Rattle.es_node.specs.View.{kind_of, number_in, parts_in, parts_of}
use Rattle.es_steps.specs.Scopes.{seen, scope_of}
use Rattle.es_binding_faults.proofs.Appending.{IfOk-map}
use Rattle.es_binding_faults.proofs.EvalNames.{eval_seen}
use Rattle.es_binding_faults.specs.Evals.{declares_eval, declared_in}
use Rattle.es_binding_faults.proofs.evals.declared_in.Goals as goal

pub returns : goal.returns
returns c =
    let t = c.args.node.now in
    IfOk-map c.scope_declares_eval.result _ _ (λ r is.
    is ∙ ap (λ f. declares_eval (seen f 0 (parts_of c.parts.result.now) c.args.i)) (c.scope_in.ensures ∙ ap (λ k. scope_of k c.args.is_body) c.kind.ensures)
    ∙ ap (λ ps. declares_eval (seen (scope_of (kind_of t) c.args.is_body) 0 ps c.args.i)) (sym c.parts.ensures.list)
    ∙ eval_seen c.args.is_body (kind_of t) (number_in t) (parts_in t) c.args.i
    ∙ ap (λ b. declared_in b c.args.is_body (kind_of t) (number_in t) (parts_in t) c.args.i) (sym c.if-declared.false)) c.scope_declares_eval.ensures
