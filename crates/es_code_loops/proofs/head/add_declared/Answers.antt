use Rattle.std.proofs.Common.{◌≡◌, sym, ap, ◌∙◌}
use Rattle.std.proofs.lemmas.Result.{on_ok_weaker}
use Rattle.es_codes.specs.CodeView.{codes_of}
use Rattle.es_steps.specs.Code.{joined}
use Rattle.es_steps.specs.Statements as spec
use Rattle.es_code_loops.proofs.HeadForms.{steps_given, steps_initialized}
use Rattle.es_code_loops.proofs.head.add_declared.Goals as goal

pub returns-in-Steps : goal.returns-in-Steps
returns-in-Steps c =
    let same : c.as_mut_slice.result.now ≡ c.in-Steps.all = cc (c.as_mut_slice.ensures.value, c.in-Steps.all-is) in
    record {
      initializers = on_ok_weaker c.add_declarators.result (λ e. e ∙ ap (joined (codes_of c.args.initializers.now)) (ap (λ cs. spec.initialized_first (codes_of cs)) same ∙ sym (steps_initialized c.args.head.now c.in-Steps.all c.in-Steps.is))) c.add_declarators.ensures.initializers;
      targets = on_ok_weaker c.add_declarators.result (λ e. e ∙ ap (joined (codes_of c.args.targets.now)) (ap (λ cs. spec.given_targets c.args.node (codes_of cs)) same ∙ sym (steps_given c.args.node c.args.head.now c.in-Steps.all c.in-Steps.is))) c.add_declarators.ensures.targets;
    }
