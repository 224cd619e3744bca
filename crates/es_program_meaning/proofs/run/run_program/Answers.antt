use Rattle.std.proofs.Common.{◌≡◌, ◌∙◌, ap, subst, map, [], Some}
use Rattle.std.specs.declared.result.Result.TheVariants.{Err}
use Rattle.es_codes.specs.CodeView.{code_of}
use Rattle.es_codes.specs.View.{tokens_of}
use Rattle.es_code_rules.specs.Elsewhere.{definition_of}
use Rattle.es_evaluation.specs.Agreement.{onto}
use Rattle.es_evaluation.specs.Direct.{State}
use Rattle.es_evaluator.specs.Running.{Returns, state_of}
use Rattle.es_steps.specs.Evaluation.{ev}
use Rattle.es_steps.specs.Opening.{opening}
use Rattle.es_steps.specs.Values.{Value}
use Rattle.es_program_meaning.proofs.Running.{came, fault_run}
use Rattle.es_program_meaning.proofs.run.run_program.Goals as goal

pub returns-in-Err : goal.returns-in-Err
returns-in-Err c =
    let run = ev (opening (map definition_of c.args.definitions.now)) (code_of c.args.code.now) in
    fault_run c.in-Err.fault c.evaluate_among.new.state (run [])
    (subst (λ (s : State). Returns (λ (v : Value). v) (Err c.in-Err.fault) c.evaluate_among.new.state (onto s (run s.names))) c.empty_state-state.ensures c.in-Err.ensures)

pub returns : goal.returns
unfolding state_of
returns c =
    let run = ev (opening (map definition_of c.args.definitions.now)) (code_of c.args.code.now) in
    let behind = state_of c.evaluate_among.new.state in
    let h = came (run []) c.in-Ok.value behind (subst (λ (s : State). onto s (run s.names) ≡ Some (c.in-Ok.value, behind)) c.empty_state-state.ensures c.in-Ok.ensures) in
    record {
      value = h.run;
      has = h.has;
      is = record {
        listed = record {
          events = ap tokens_of c.from_vec.ensures ∙ ap (λ ts. tokens_of ts.items) c.replace-tokens.ensures.value ∙ h.events;
          value = c.settled-value.ensures ∙ h.value;
        };
        names = h.names;
      };
    }
