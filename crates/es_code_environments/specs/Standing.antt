-- Where evaluations stand: an environment.
use Rattle.std.specs.Prelude.{◌≡◌, ℕ, List, [], false, map, Option, Some, None}
use Rattle.es_steps.specs.Code.{Opened}
use Rattle.es_steps.specs.Evaluation.{Environment, Evaluation}
use Rattle.es_steps.specs.Opening.{opening}
use Rattle.es_evaluation.specs.Direct as direct
use Rattle.es_evaluation.specs.Direct.{kept}
use Rattle.es_evaluator.specs.Running.{names_of, state_of}
use Rattle.es_evaluator.specs.declared.state.Named.{Named}
use Rattle.es_evaluator.specs.declared.state.State.{State}
use Rattle.es_code_rules.specs.Elsewhere.{definition_of}
use Rattle.es_code_environments.specs.declared.terms.Terms.{Terms}

-- what stands elsewhere
abbrev pub opens_in : Terms → Opened → Evaluation
opens_in t = opening (map definition_of t.among.definitions)

-- what an evaluation begins with in an environment
abbrev pub standing : Environment → direct.State
standing env = record { names = env; tokens = []; has_thrown = false }

-- a state whose names are cut back to those that were given first
abbrev pub cut_back : ℕ → direct.State → direct.State
cut_back k s = record { names = kept k s.names; tokens = s.tokens; has_thrown = s.has_thrown }

abbrev pub IsStanding : List Named → Option State → Type 0
IsStanding ns None = Unit {0}
IsStanding ns (Some s) = state_of s ≡ standing (names_of ns)
