use Rattle.std.proofs.Common.{[], ◌∷◌}
use Rattle.es_code_environments.specs.Classes.{class_at}
use Rattle.es_code_environments.specs.FlatEntries.{entry_in}
use Rattle.es_codes.specs.CodeView.{codes_of}
use Rattle.es_steps.specs.Evaluation.{Environment}
use Rattle.es_code_entries.proofs.Reached.{entry_refused, from_error, moved}
use Rattle.es_code_entries.proofs.found.add_class_entry.Goals as goal

pub returns-in_err-entry-clause-found : goal.returns-in_err-entry-clause-found
returns-in_err-entry-clause-found c =
    from_error c.from_residual-in_err-entry.result _ _ _ _ (moved _ _ _ (λ (z : Environment). (c.args.node, class_at c.args.terms.now c.args.here.now z c.args.node c.args.declared (codes_of c.args.heritage.now) (codes_of c.args.elements.now)) ∷ []) _ _ c.in_ok-start.ensures.start (moved _ _ _ (λ (z : Environment). (c.args.node, class_at c.args.terms.now z c.in_ok-start.start c.args.node c.args.declared (codes_of c.args.heritage.now) (codes_of c.args.elements.now)) ∷ []) _ _ c.in_ok-start.ensures.here (entry_refused entry_in _ _ _ _ (class_at c.args.terms.now c.class_start.new.here c.in_ok-start.start c.args.node c.args.declared (codes_of c.args.heritage.now) (codes_of c.args.elements.now)) c.in_err-entry.ensures.entry))) c.from_residual-in_err-entry.ensures
