-- Where an evaluation leads that began without events: what it came to is what its run has.
use Rattle.std.proofs.Common.{◌≡◌, refl, sym, ap, ◌∙◌, List, [], length, Bool, false, Option, Some, None, option_map}
use Rattle.es_evaluation.proofs.Follows.{kept_all}
use Rattle.es_evaluation.specs.Agreement.{IsFine, behind_state, onto}
use Rattle.es_evaluation.specs.Direct as direct
use Rattle.es_evaluation.specs.Direct.{State, kept, unless_thrown}
use Rattle.es_evaluation.specs.Flat.{Token, flat, flat_event, tokens}
use Rattle.es_steps.specs.Entries.{after_run, is_quiet_run, listed, value_in}
use Rattle.es_steps.specs.Evaluation as of
use Rattle.es_steps.specs.Evaluation.{Environment, Run}
use Rattle.es_steps.specs.Events.{Event, Events, Held, none, then}
use Rattle.es_steps.specs.Values.{Value}
use Rattle.es_code_environments.specs.FlatEntries.{Flat, flat_at, flat_list}
use Rattle.es_code_environments.specs.Standing.{standing}

abbrev names_in : Environment → Option (Value × State) → Environment
names_in env None = env
names_in env (Some p) = p.1.names

pub led_to : (env : Environment) (run : Option Run) (v : Value) (t : State) → onto (standing env) run ≡ Some (v, t) → t.names ≡ after_run env run
led_to env None v t h = absurd (cc)
led_to env (Some r) v t h = sym (ap (names_in env) h)

pub led_nowhere : (env : Environment) (run : Option Run) → onto (standing env) run ≡ None → after_run env run ≡ env
led_nowhere env None h = refl
led_nowhere env (Some r) h = absurd (cc)

fine_over : (env : Environment) (run : Option Run) → IsFine env run → kept (length env) (after_run env run) ≡ env
fine_over env None f = kept_all [] env
fine_over env (Some r) f = ap (kept (length env)) f.grows ∙ kept_all f.more env

pub led_over : (env : Environment) (run : Option Run) (v : Value) (t : State) → IsFine env run → onto (standing env) run ≡ Some (v, t) → kept (length env) t.names ≡ env
led_over env run v t f h = ap (kept (length env)) (led_to env run v t h) ∙ fine_over env run f

-- ---- values and lists

abbrev value_at : Option (Value × State) → Option Value
value_at o = option_map (λ p. unless_thrown p.1 p.0) o

pub led_value : (env : Environment) (run : Option Run) (v : Value) (t : State) → onto (standing env) run ≡ Some (v, t) → value_in run ≡ Some (unless_thrown t v)
led_value env None v t h = absurd (cc)
led_value env (Some r) v t h = ap value_at h

pub led_no_value : (env : Environment) (run : Option Run) → onto (standing env) run ≡ None → value_in run ≡ None
led_no_value env None h = refl
led_no_value env (Some r) h = absurd (cc)

abbrev list_at : Option (Value × State) → Option Flat
list_at o = option_map (λ p. flat_at p.1 p.0) o

pub led_list : (env : Environment) (run : Option Run) (v : Value) (t : State) → onto (standing env) run ≡ Some (v, t) → option_map flat_list (listed run) ≡ Some (flat_at t v)
led_list env None v t h = absurd (cc)
led_list env (Some r) v t h = ap list_at h

pub led_no_list : (env : Environment) (run : Option Run) → onto (standing env) run ≡ None → option_map flat_list (listed run) ≡ None
led_no_list env None h = refl
led_no_list env (Some r) h = absurd (cc)

some_event : (e : Event) (ts : List Token) → direct.is_none (flat_event e ts) ≡ false
some_event (Held m place test l v) ts = refl
some_event e ts = refl

none_of : (l : Events) → direct.is_none (tokens l) ≡ of.is_none l
none_of none = refl
none_of (then e es) = some_event e (flat es [])

abbrev is_quiet_at : Option (Value × State) → Bool
is_quiet_at None = false
is_quiet_at (Some p) = direct.is_none p.1.tokens

pub led_quiet : (env : Environment) (run : Option Run) (v : Value) (t : State) → onto (standing env) run ≡ Some (v, t) → is_quiet_run run ≡ direct.is_none t.tokens
led_quiet env None v t h = absurd (cc)
led_quiet env (Some r) v t h = sym (none_of r.events) ∙ ap is_quiet_at h

pub led_no_quiet : (env : Environment) (run : Option Run) → onto (standing env) run ≡ None → is_quiet_run run ≡ false
led_no_quiet env None h = refl
led_no_quiet env (Some r) h = absurd (cc)
