-- The run of a program, from the state behind it.
use Rattle.std.proofs.Common.{◌≡◌, refl, sym, ap, ◌∙◌, [], false, Option, Some, None}
use Rattle.es_codes.specs.View.{tokens_of}
use Rattle.es_evaluation.specs.Agreement.{behind_state, onto}
use Rattle.es_evaluation.specs.Direct.{State, unless_thrown}
use Rattle.es_evaluation.specs.Flat.{tokens}
use Rattle.es_base.specs.Tree.{Tree, Node}
use Rattle.es_node.specs.View.{kind_of, number_in, parts_in}
use Rattle.es_steps.specs.Context.{Context, inside}
use Rattle.es_steps.specs.Evaluation.{Run}
use Rattle.es_steps.specs.Meaning.{in_body}
use Rattle.es_steps.specs.Events.{value_behind}
use Rattle.es_steps.specs.Values.{Value}
use Rattle.es_program_meaning.specs.Runs.{IsRun, empty}
use Rattle.es_meanings.specs.Finding.{Finds}
use Rattle.es_evaluator.specs.Running.{Returns}
use Rattle.es_evaluator.specs.declared.fault.Fault.{Fault}
use Rattle.es_evaluator.specs.declared.state.State as code
use Rattle.es_program_meaning.specs.declared.run.Run as code_run
use Rattle.std.specs.declared.result.Result.TheVariants.{Err}

-- a value and a state that a run came to
pub record CameTo (o : Option Run) (v : Value) (s : State) : Type 0 where
  pub run : Run
  pub has : o ≡ Some run
  pub names : s.names ≡ run.after
  pub events : s.tokens ≡ tokens run.events
  pub value : unless_thrown s v ≡ value_behind run.events run.value

abbrev given : Option (Value × State) → Value × State → Value × State
given None p = p
given (Some p) q = p

pub came : (o : Option Run) (v : Value) (s : State) → onto empty o ≡ Some (v, s) → CameTo o v s
came None v s e = cc
came (Some r) v s e =
    let both : (r.value, behind_state empty r) ≡ (v, s) = ap (λ (o : Option (Value × State)). given o (v, s)) e in
    let value : r.value ≡ v = ap (λ (p : Value × State). p.0) both in
    let state : behind_state empty r ≡ s = ap (λ (p : Value × State). p.1) both in
    record {
      run = r;
      has = refl;
      names = ap (λ (x : State). x.names) (sym state);
      events = ap (λ (x : State). x.tokens) (sym state);
      value = ap (unless_thrown s) (sym value) ∙ ap (λ (x : State). unless_thrown x r.value) (sym state);
    }

pub none_came : (o : Option Run) → onto empty o ≡ None → o ≡ None
none_came None e = refl
none_came (Some r) e = cc

pub in_body_is : (c : Context) (t : Tree) → in_body c t ≡ inside c (kind_of t) (number_in t) (parts_in t) 1
in_body_is c (Node kind m span semantic_id ps) = refl

pub fault_run : (e : Fault) (s : code.State) (o : Option Run) → Returns (λ (v : Value). v) (Err e) s (onto empty o) → Finds {B = code_run.Run} (Err e) o IsRun
fault_run Fault.NoMeaning s o h = none_came o h
fault_run Fault.TooDeep s o h = tt
fault_run Fault.NoMemory s o h = tt
