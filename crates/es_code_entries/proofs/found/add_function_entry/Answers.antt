use Rattle.std.proofs.Common.{[], ◌∷◌}
use Rattle.es_code_environments.specs.FlatEntries.{entry_in}
use Rattle.es_code_environments.specs.Standing.{opens_in}
use Rattle.es_codes.specs.CodeView.{code_of, codes_of, form_of}
use Rattle.es_steps.specs.Entries as spec
use Rattle.es_steps.specs.Evaluation.{Environment}
use Rattle.es_code_entries.proofs.Reached.{entry_refused, from_error, moved}
use Rattle.es_code_entries.proofs.found.add_function_entry.Goals as goal

pub returns-in_err-entry-clause-found : goal.returns-in_err-entry-clause-found
returns-in_err-entry-clause-found c =
    from_error c.from_residual-in_err-entry.result _ _ _ _ (moved _ _ _ (λ (z : Environment). (c.args.node, spec.function_entry (form_of c.args.form) c.args.own_name (spec.parameters_of (codes_of c.args.parameters.now)) (spec.listed (spec.ev_body (opens_in c.args.terms.now) 0 c.args.terms.now.late.now (codes_of c.args.parameters.now) (code_of c.args.body.now) z))) ∷ []) _ _ c.in_ok-start.ensures (entry_refused entry_in _ _ _ _ (spec.function_entry (form_of c.args.form) c.args.own_name (spec.parameters_of (codes_of c.args.parameters.now)) (spec.listed (spec.ev_body (opens_in c.args.terms.now) 0 c.args.terms.now.late.now (codes_of c.args.parameters.now) (code_of c.args.body.now) c.in_ok-start.start))) c.in_err-entry.ensures.entry)) c.from_residual-in_err-entry.ensures
