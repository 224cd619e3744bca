use Rattle.std.proofs.Common.{◌∙◌, ap, sym, false, ◌++◌}
use Rattle.es_binding_faults.proofs.FreeEvals.{free_evals-resolve}
use Rattle.es_binding_faults.specs.Evals.{free_evals_in}
use Rattle.es_binding_faults.specs.Repeats.{numbers}
use Rattle.es_binding_faults.proofs.evals.free_evals.Goals as goal

pub returns : goal.returns
returns c = c.in_ok-add_evals.ensures ∙ ap (λ ns. numbers ns ++ free_evals_in false false c.args.program.now) c.new-evals.ensures.items ∙ sym (free_evals-resolve c.args.program.now)
