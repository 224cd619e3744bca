-- What a program does itself, in code, and which run of the definitions it is.
use Rattle.std.specs.Prelude.{◌≡◌, [], false}
use Rattle.es_entries.specs.Lists.{IsListed}
use Rattle.es_evaluation.specs.Direct.{State}
use Rattle.es_evaluator.specs.Running.{state_of}
use Rattle.es_program_meaning.specs.declared.run.Run as code
use Rattle.es_steps.specs.Entries.{Listed}
use Rattle.es_steps.specs.Evaluation.{Run}
use Rattle.es_steps.specs.Events.{value_behind}

-- what a program begins with
abbrev pub empty : State
empty = record { names = []; tokens = []; has_thrown = false }

abbrev pub listed_run : Run → Listed
listed_run r = record { events = r.events; value = value_behind r.events r.value }

pub record IsRun (x : code.Run) (r : Run) : Type 0 where
  pub listed : IsListed x.listed (listed_run r)
  pub names : (state_of x.state).names ≡ r.after
