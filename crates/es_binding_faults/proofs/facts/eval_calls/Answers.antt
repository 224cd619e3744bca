use Rattle.std.proofs.Common.{◌≡◌, ap, sym, ◌∙◌, [], false}
use Rattle.es_base.specs.Preorder.{preorder}
use Rattle.es_steps.specs.References.{has_number, resolve}
use Rattle.es_validity.specs.Facts.{free_evals}
use Rattle.es_binding_faults.proofs.Appending.{IfOk-map}
use Rattle.es_binding_faults.proofs.EvalNames.{unspelled}
use Rattle.es_binding_faults.proofs.FreeEvals.{free_evals-resolve}
use Rattle.es_binding_faults.proofs.WholeNames.{calls-same, none_called}
use Rattle.es_binding_faults.specs.Evals.{spells_eval}
use Rattle.es_binding_faults.specs.Repeats.{numbers}
use Rattle.es_binding_faults.specs.Seen.{seen}
use Rattle.es_binding_faults.proofs.facts.eval_calls.Goals as goal

pub returns-then-not-spells_eval : goal.returns-then-not-spells_eval
returns-then-not-spells_eval c =
    let none : spells_eval (preorder c.args.program.now) ≡ false = ap spells_eval (sym c.requires) ∙ sym c.if-not-spells_eval.ensures in
    ap numbers c.new.ensures.items ∙ sym (none_called (free_evals (resolve c.args.program.now)) (seen c.args.nodes.now) (free_evals-resolve c.args.program.now ∙ unspelled false false c.args.program.now none))

pub returns : goal.returns
returns c =
    IfOk-map c.calls_of.result _ _ (λ r is. is ∙ calls-same _ (free_evals (resolve c.args.program.now))
    (λ n. c.in_ok-evals-2.ensures n ∙ ap (λ ns. has_number n (numbers ns)) c.as_slice.ensures.value ∙ ap (has_number n) c.in_ok-evals.ensures) (seen c.args.nodes.now)) c.calls_of.ensures
