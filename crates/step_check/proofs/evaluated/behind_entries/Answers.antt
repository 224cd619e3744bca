use Rattle.std.proofs.Common.{◌≡◌, ap, sym, subst, ◌∙◌, Some, List, Vec, Global}
use Rattle.std.specs.declared.result.Result.TheVariants.{Err}
use Rattle.es_code_contexts.specs.Terms.{program_of, terms_of}
use Rattle.es_exports.specs.Exports.{exports_of}
use Rattle.es_exports.specs.declared.export.Export.{Export}
use Rattle.es_meanings.specs.Finding.{Finds, Found}
use Rattle.es_steps.specs.Evaluation.{Environment}
use Rattle.es_steps.specs.Meaning.{all_exports, body_of, in_body, start}
use Rattle.es_steps.specs.Modules.{Exported, exports_in}
use Rattle.es_steps.specs.Values.{String}
use Rattle.step_check.proofs.Assembled.{all_parts, no_exports, passed_on}
use Rattle.step_check.specs.Evaluated.{IsEvaluated, exported_behind, found_in}
use Rattle.step_check.proofs.evaluated.behind_entries.Goals as goal

pub returns-in-Ok : goal.returns-in-Ok
returns-in-Ok c = λ opens e r es runs is there are.
    let o = terms_of c.args.terms.now in
    let t = program_of c.args.terms.now in
    let f = c.in-Ok.ensures in
    let has : exported_behind o t (Some r) ≡ Some f.value = ap (λ (env : Environment). all_exports (exports_in (in_body (start o t) t) env (body_of t))) (sym is.names) ∙ f.has in
    subst (λ x. Found x (found_in opens o t e) IsEvaluated) (sym c.evaluated_of.ensures)
    (record { value = record { run = r; entries = es; exports = f.value }; has = all_parts opens o t e r es f.value runs there has; is = record { program = is.listed; entries = are; exports = f.is } })

pub returns-in-Err : goal.returns-in-Err
returns-in-Err c = λ opens e r es runs is there are.
    let o = terms_of c.args.terms.now in
    let t = program_of c.args.terms.now in
    passed_on c.in-Err.fault (exported_behind o t (Some r)) (found_in opens o t e) (λ (xs : Vec Export Global) (ys : List (String × Exported)). all_exports (exports_of xs.items) ≡ Some ys) IsEvaluated (no_exports opens o t e r es runs there)
    (subst (λ (env : Environment). Finds (Err c.in-Err.fault) (all_exports (exports_in (in_body (start o t) t) env (body_of t))) (λ (xs : Vec Export Global) (ys : List (String × Exported)). all_exports (exports_of xs.items) ≡ Some ys)) is.names c.in-Err.ensures)
