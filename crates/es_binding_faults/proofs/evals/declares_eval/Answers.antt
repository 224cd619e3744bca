use Rattle.std.proofs.Common.{◌+◌, ◌∙◌, sym, ap, ◌||◌, drop}
use Rattle.es_binding_faults.proofs.EvalNames.{next_eval}
use Rattle.es_binding_faults.specs.Evals.{declares_eval}
use Rattle.es_binding_faults.specs.Named.{named}
use Rattle.es_binding_faults.proofs.evals.declares_eval.Goals as goal

pub returns-then-is_eval_string : goal.returns-then-is_eval_string
returns-then-is_eval_string c = ap (λ b. b || declares_eval (named (drop (c.loop-declared.declared-index + 1) c.args.names.now))) c.if-is_eval_string.ensures ∙ sym (next_eval c.args.names.now c.loop-declared.declared-index c.loop-declared-test.true) ∙ c.loop-declared.invariant

pub loop-declared-preserved : goal.loop-declared-preserved
loop-declared-preserved c = ap (λ b. b || declares_eval (named (drop (c.loop-declared.declared-index + 1) c.args.names.now))) c.if-is_eval_string.ensures ∙ sym (next_eval c.args.names.now c.loop-declared.declared-index c.loop-declared-test.true) ∙ c.loop-declared.invariant
