-- When an evaluation over a state is one of the definitions.
use Rattle.std.specs.Prelude.{◌≡◌, ◌++◌, ◌||◌, Option, Some, None}
use Rattle.es_steps.specs.Evaluation.{Environment, Run, Evaluation}
use Rattle.es_steps.specs.Events as of_events
use Rattle.es_steps.specs.Values.{Value}
use Rattle.es_evaluation.specs.Flat.{tokens}
use Rattle.es_evaluation.specs.Direct.{State, Step}

-- what a run adds to a state
abbrev pub behind_state : State → Run → State
behind_state s r = record { names = r.after; tokens = s.tokens ++ tokens r.events; has_thrown = s.has_thrown || of_events.throws r.events }

abbrev pub onto : State → Option Run → Option (Value × State)
onto s None = None
onto s (Some r) = Some (r.value, behind_state s r)

-- what every evaluation of a code gives: names are only added
pub record Fine (env : Environment) (r : Run) : Type 0 where
  pub more : Environment
  pub grows : r.after ≡ more ++ env

abbrev pub IsFine : Environment → Option Run → Type 0
IsFine env None = Unit {0}
IsFine env (Some r) = Fine env r

-- the second leads each state to the one that the run of the first adds up to
pub record Follows (a : Evaluation) (d : Step Value) : Type 0 where
  pub same : (s : State) → d s ≡ onto s (a s.names)
  pub fine : (env : Environment) → IsFine env (a env)
