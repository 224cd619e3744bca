-- What a part has that was evaluated in an environment.
use Rattle.std.proofs.Common.{◌≡◌, ap, ◌∙◌, subst, ℕ, List, length, Bool, false, Option, Some, None, option_map}
use Rattle.es_evaluation.specs.Agreement.{onto}
use Rattle.es_evaluation.specs.Direct as direct
use Rattle.es_evaluation.specs.Direct.{State, kept, unless_thrown}
use Rattle.es_steps.specs.Code.{Code, Codes}
use Rattle.es_steps.specs.Entries.{after_run, ev_body, is_quiet_run, listed, value_in}
use Rattle.es_steps.specs.Evaluation.{Environment, Evaluation}
use Rattle.es_steps.specs.Values.{Value}
use Rattle.es_code_environments.proofs.Fine.{part_is_fine}
use Rattle.es_code_environments.proofs.Led.{led_list, led_no_list, led_no_quiet, led_no_value, led_nowhere, led_over, led_quiet, led_to, led_value}
use Rattle.es_code_environments.specs.FlatEntries.{flat_at, flat_list}
use Rattle.es_code_environments.specs.Parts.{run_of}
use Rattle.es_code_environments.specs.Standing.{opens_in, standing}
use Rattle.es_code_environments.specs.declared.part.Part.{Part}
use Rattle.es_code_environments.specs.declared.terms.Terms.{Terms}

abbrev run : Terms → Part → Evaluation
run t part env = run_of (opens_in t) t.late.now part env

-- the run of a part from a state that stands in an environment
here : (t : Terms) (part : Part) (env : Environment) (s : State) (o : Option (Value × State)) → s ≡ standing env → onto s (run t part s.names) ≡ o → onto (standing env) (run t part env) ≡ o
here t part env s o e h = subst (λ (z : State). onto z (run t part z.names) ≡ o) e h

pub leads_to : (t : Terms) (part : Part) (env : Environment) (s : State) (v : Value) (d : State) → s ≡ standing env → onto s (run_of (opens_in t) t.late.now part s.names) ≡ Some (v, d) → d.names ≡ after_run env (run_of (opens_in t) t.late.now part env)
leads_to t part env s v d e h = led_to env (run t part env) v d (here t part env s (Some (v, d)) e h)

pub leads_nowhere : (t : Terms) (part : Part) (env : Environment) (s : State) → s ≡ standing env → onto s (run_of (opens_in t) t.late.now part s.names) ≡ None → after_run env (run_of (opens_in t) t.late.now part env) ≡ env
leads_nowhere t part env s e h = led_nowhere env (run t part env) (here t part env s None e h)

pub leads_over : (t : Terms) (part : Part) (env : Environment) (s : State) (v : Value) (d : State) → s ≡ standing env → onto s (run_of (opens_in t) t.late.now part s.names) ≡ Some (v, d) → kept (length env) d.names ≡ env
leads_over t part env s v d e h = led_over env (run t part env) v d (part_is_fine t.among.definitions t.late.now part env) (here t part env s (Some (v, d)) e h)

pub has_value : (t : Terms) (part : Part) (env : Environment) (s : State) (v : Value) (d : State) → s ≡ standing env → onto s (run_of (opens_in t) t.late.now part s.names) ≡ Some (v, d) → value_in (run_of (opens_in t) t.late.now part env) ≡ Some (unless_thrown d v)
has_value t part env s v d e h = led_value env (run t part env) v d (here t part env s (Some (v, d)) e h)

pub has_no_value : (t : Terms) (part : Part) (env : Environment) (s : State) → s ≡ standing env → onto s (run_of (opens_in t) t.late.now part s.names) ≡ None → value_in (run_of (opens_in t) t.late.now part env) ≡ None
has_no_value t part env s e h = led_no_value env (run t part env) (here t part env s None e h)

pub has_list : (run : Evaluation) (env : Environment) (s : State) (v : Value) (d : State) → s ≡ standing env → onto s (run s.names) ≡ Some (v, d) → option_map flat_list (listed (run env)) ≡ Some (flat_at d v)
has_list run env s v d e h = led_list env (run env) v d (subst (λ (z : State). onto z (run z.names) ≡ Some (v, d)) e h)

pub has_no_list : (run : Evaluation) (env : Environment) (s : State) → s ≡ standing env → onto s (run s.names) ≡ None → option_map flat_list (listed (run env)) ≡ None
has_no_list run env s e h = led_no_list env (run env) (subst (λ (z : State). onto z (run z.names) ≡ None) e h)

pub body_has_list : (t : Terms) (ps : Codes) (body : Code) (env : Environment) (s : State) (v : Value) (d : State) → s ≡ standing env → onto s (ev_body (opens_in t) 0 t.late.now ps body s.names) ≡ Some (v, d) → option_map flat_list (listed (ev_body (opens_in t) 0 t.late.now ps body env)) ≡ Some (flat_at d v)
body_has_list t ps body env s v d e h = has_list (ev_body (opens_in t) 0 t.late.now ps body) env s v d e h

pub body_has_no_list : (t : Terms) (ps : Codes) (body : Code) (env : Environment) (s : State) → s ≡ standing env → onto s (ev_body (opens_in t) 0 t.late.now ps body s.names) ≡ None → option_map flat_list (listed (ev_body (opens_in t) 0 t.late.now ps body env)) ≡ None
body_has_no_list t ps body env s e h = has_no_list (ev_body (opens_in t) 0 t.late.now ps body) env s e h

pub is_quiet : (t : Terms) (part : Part) (env : Environment) (s : State) (v : Value) (d : State) → s ≡ standing env → onto s (run_of (opens_in t) t.late.now part s.names) ≡ Some (v, d) → is_quiet_run (run_of (opens_in t) t.late.now part env) ≡ direct.is_none d.tokens
is_quiet t part env s v d e h = led_quiet env (run t part env) v d (here t part env s (Some (v, d)) e h)

pub is_nowhere_quiet : (t : Terms) (part : Part) (env : Environment) (s : State) → s ≡ standing env → onto s (run_of (opens_in t) t.late.now part s.names) ≡ None → is_quiet_run (run_of (opens_in t) t.late.now part env) ≡ false
is_nowhere_quiet t part env s e h = led_no_quiet env (run t part env) (here t part env s None e h)
