use Rattle.std.proofs.Common.{◌∙◌, ap, ◌++◌}
use Rattle.es_node.specs.View.{parts_of}
use Rattle.es_steps.specs.Scopes.{seen}
use Rattle.es_binding_faults.proofs.EvalNames.{declares_eval-plain}
use Rattle.es_binding_faults.specs.Evals.{declares_eval}
use Rattle.es_binding_faults.specs.Named.{named, plain}
use Rattle.es_binding_faults.specs.ScopeForms.{scope_of}
use Rattle.es_binding_faults.proofs.evals.scope_declares_eval.Goals as goal

pub returns : goal.returns
returns c =
    let ds = seen (scope_of c.args.form) 0 (parts_of c.args.parts.now) c.args.i in
    c.declares_eval.ensures
    ∙ ap (λ ns. declares_eval (named ns)) c.as_slice.ensures.value
    ∙ ap declares_eval c.in_ok-add_seen.ensures
    ∙ ap (λ ns. declares_eval (named ns ++ plain ds)) c.new-names.ensures.items
    ∙ declares_eval-plain ds
