-- Where no definition is shut, what is evaluated among definitions is what these say.
use Rattle.std.proofs.Common.{◌≡◌, ap, ◌∙◌, subst, ℕ, List, map, length, Option}
use Rattle.std.proofs.lemmas.List.{nil_from_length}
use Rattle.std.specs.declared.result.Result.{Result}
use Rattle.es_steps.specs.Code.{Code, Codes, Target, Callee, Opened}
use Rattle.es_steps.specs.Entries.{ev_given, ev_body, ev_construction}
use Rattle.es_steps.specs.Evaluation.{Evaluation, gives, bind_parameters, ev, ev_all, ev_target, ev_callee, ev_key, ev_keys, ev_static, ev_field, ev_take, ev_initializers}
use Rattle.es_steps.specs.Opening as of
use Rattle.es_steps.specs.Values.{String, Value, Undefined}
use Rattle.es_evaluation.specs.Agreement.{Follows, onto}
use Rattle.es_evaluation.specs.Direct as direct
use Rattle.es_evaluation.specs.Direct.{State, settled, form}
use Rattle.es_evaluation.proofs.Opened.{evaluated_follows}
use Rattle.es_evaluator.specs.Running.{Returns}
use Rattle.es_evaluator.specs.Steps.{Opens}
use Rattle.es_evaluator.specs.declared.fault.Fault.{Fault}
use Rattle.es_evaluator.specs.declared.state.State as held
use Rattle.es_code_rules.specs.Elsewhere.{definition_of, opens_of}
use Rattle.es_code_rules.specs.Steps.{value_at}
use Rattle.es_code_rules.specs.declared.definition.Definition.{Definition}
use Rattle.es_code_rules.specs.declared.definition.Opening.{Opening}
use Rattle.es_target_rules.specs.Steps.{take_at}
use Rattle.es_class_rules.specs.Steps.{key_at, static_at, field_at, construction_at}
use Rattle.es_evaluate.proofs.Whole.{none_shut}
use Rattle.es_code_bodies.specs.Alone.{all_alone_at, target_alone_at, callee_alone_at, keys_alone_at, arguments_at}
use Rattle.es_code_bodies.specs.Bodies.{given_at, body_at}
use Rattle.es_code_bodies.specs.Constructing.{constructing_at}
use Rattle.es_code_bodies.proofs.Follow as follow

-- what stands elsewhere
abbrev opened : List Definition → Opened → Evaluation
opened ds = of.opening (map definition_of ds)

known : (ds : List Definition) (c : Code) → Follows (ev (opened ds) c) (settled (form (direct.opening (map definition_of ds)) c))
known ds c = evaluated_follows (map definition_of ds) c

-- an opening of all of them
all_open : (ds : List Definition) (o : Opening) → o.depth ≡ length ds → length o.shut.items ≡ 0 → opens_of ds o ≡ direct.opening (map definition_of ds)
all_open ds o deep shut = none_shut ds o deep (nil_from_length o.shut.items shut)

-- what a rule gives among definitions
returned : (ds : List Definition) (o : Opening) (d : Opens → Option (Value × State)) (e : Option (Value × State)) (r : Result Value Fault) (t : held.State) → o.depth ≡ length ds → length o.shut.items ≡ 0 → d (direct.opening (map definition_of ds)) ≡ e → Returns (λ v. v) r t (d (opens_of ds o)) → Returns (λ v. v) r t e
returned ds o d e r t deep shut is h =
    subst (λ (x : Option (Value × State)). Returns (λ v. v) r t x)
    (ap d (all_open ds o deep shut) ∙ is)
    h

pub code_among : (ds : List Definition) (o : Opening) (c : Code) (s : State) → o.depth ≡ length ds → length o.shut.items ≡ 0 → value_at (opens_of ds o) c s ≡ onto s (ev (opened ds) c s.names)
code_among ds o c s deep shut =
    ap (λ (p : Opens). value_at p c s) (all_open ds o deep shut)
    ∙ (follow.code_follows (opened ds) (direct.opening (map definition_of ds)) (known ds) c).same s

pub all_alone_among : (ds : List Definition) (o : Opening) (es : Codes) (s : State) (r : Result Value Fault) (t : held.State) → o.depth ≡ length ds → length o.shut.items ≡ 0 → Returns (λ v. v) r t (all_alone_at (opens_of ds o) es s) → Returns (λ v. v) r t (onto s (ev_all (opened ds) es (λ vs. gives Undefined) s.names))
all_alone_among ds o es s r t deep shut h =
    returned ds o (λ (p : Opens). all_alone_at p es s) (onto s (ev_all (opened ds) es (λ vs. gives Undefined) s.names)) r t deep shut ((follow.all_alone_follows (opened ds) (direct.opening (map definition_of ds)) (known ds) es).same s) h

pub target_alone_among : (ds : List Definition) (o : Opening) (to : Target) (s : State) (r : Result Value Fault) (t : held.State) → o.depth ≡ length ds → length o.shut.items ≡ 0 → Returns (λ v. v) r t (target_alone_at (opens_of ds o) to s) → Returns (λ v. v) r t (onto s (ev_target (opened ds) to (λ t. gives Undefined) s.names))
target_alone_among ds o to s r t deep shut h =
    returned ds o (λ (p : Opens). target_alone_at p to s) (onto s (ev_target (opened ds) to (λ t. gives Undefined) s.names)) r t deep shut ((follow.target_alone_follows (opened ds) (direct.opening (map definition_of ds)) (known ds) to).same s) h

pub callee_alone_among : (ds : List Definition) (o : Opening) (f : Callee) (s : State) (r : Result Value Fault) (t : held.State) → o.depth ≡ length ds → length o.shut.items ≡ 0 → Returns (λ v. v) r t (callee_alone_at (opens_of ds o) f s) → Returns (λ v. v) r t (onto s (ev_callee (opened ds) f (λ v receiver. gives v) s.names))
callee_alone_among ds o f s r t deep shut h =
    returned ds o (λ (p : Opens). callee_alone_at p f s) (onto s (ev_callee (opened ds) f (λ v receiver. gives v) s.names)) r t deep shut ((follow.callee_alone_follows (opened ds) (direct.opening (map definition_of ds)) (known ds) f).same s) h

pub arguments_among : (ds : List Definition) (o : Opening) (xs : List String) (es : Codes) (s : State) (r : Result Value Fault) (t : held.State) → o.depth ≡ length ds → length o.shut.items ≡ 0 → Returns (λ v. v) r t (arguments_at (opens_of ds o) xs es s) → Returns (λ v. v) r t (onto s (ev_all (opened ds) es (λ vs. bind_parameters xs vs) s.names))
arguments_among ds o xs es s r t deep shut h =
    returned ds o (λ (p : Opens). arguments_at p xs es s) (onto s (ev_all (opened ds) es (λ vs. bind_parameters xs vs) s.names)) r t deep shut ((follow.arguments_follow (opened ds) (direct.opening (map definition_of ds)) (known ds) xs es).same s) h

pub take_among : (ds : List Definition) (o : Opening) (v : Value) (c : Code) (s : State) (r : Result Value Fault) (t : held.State) → o.depth ≡ length ds → length o.shut.items ≡ 0 → Returns (λ v. v) r t (take_at (opens_of ds o) v c s) → Returns (λ v. v) r t (onto s (ev_take (opened ds) v c s.names))
take_among ds o v c s r t deep shut h =
    returned ds o (λ (p : Opens). take_at p v c s) (onto s (ev_take (opened ds) v c s.names)) r t deep shut ((follow.taken_follows (opened ds) (direct.opening (map definition_of ds)) (known ds) v c).same s) h

pub key_among : (ds : List Definition) (o : Opening) (e : Code) (s : State) (r : Result Value Fault) (t : held.State) → o.depth ≡ length ds → length o.shut.items ≡ 0 → Returns (λ v. v) r t (key_at (opens_of ds o) e s) → Returns (λ v. v) r t (onto s (ev_key (opened ds) e s.names))
key_among ds o e s r t deep shut h =
    returned ds o (λ (p : Opens). key_at p e s) (onto s (ev_key (opened ds) e s.names)) r t deep shut ((follow.one_key_follows (opened ds) (direct.opening (map definition_of ds)) (known ds) e).same s) h

pub keys_alone_among : (ds : List Definition) (o : Opening) (es : Codes) (s : State) (r : Result Value Fault) (t : held.State) → o.depth ≡ length ds → length o.shut.items ≡ 0 → Returns (λ v. v) r t (keys_alone_at (opens_of ds o) es s) → Returns (λ v. v) r t (onto s (ev_keys (opened ds) es (λ ks. gives Undefined) s.names))
keys_alone_among ds o es s r t deep shut h =
    returned ds o (λ (p : Opens). keys_alone_at p es s) (onto s (ev_keys (opened ds) es (λ ks. gives Undefined) s.names)) r t deep shut ((follow.keys_alone_follows (opened ds) (direct.opening (map definition_of ds)) (known ds) es).same s) h

pub static_among : (ds : List Definition) (o : Opening) (n : ℕ) (a : Value) (e : Code) (s : State) (r : Result Value Fault) (t : held.State) → o.depth ≡ length ds → length o.shut.items ≡ 0 → Returns (λ v. v) r t (static_at (opens_of ds o) n a e s) → Returns (λ v. v) r t (onto s (ev_static (opened ds) n a e s.names))
static_among ds o n a e s r t deep shut h =
    returned ds o (λ (p : Opens). static_at p n a e s) (onto s (ev_static (opened ds) n a e s.names)) r t deep shut ((follow.static_element_follows (opened ds) (direct.opening (map definition_of ds)) (known ds) n a e).same s) h

pub field_among : (ds : List Definition) (o : Opening) (n : ℕ) (e : Code) (s : State) (r : Result Value Fault) (t : held.State) → o.depth ≡ length ds → length o.shut.items ≡ 0 → Returns (λ v. v) r t (field_at (opens_of ds o) n e s) → Returns (λ v. v) r t (onto s (ev_field (opened ds) n e s.names))
field_among ds o n e s r t deep shut h =
    returned ds o (λ (p : Opens). field_at p n e s) (onto s (ev_field (opened ds) n e s.names)) r t deep shut ((follow.field_element_follows (opened ds) (direct.opening (map definition_of ds)) (known ds) n e).same s) h

pub initializers_among : (ds : List Definition) (o : Opening) (n : ℕ) (es : Codes) (s : State) → o.depth ≡ length ds → length o.shut.items ≡ 0 → construction_at (opens_of ds o) n es s ≡ onto s (ev_initializers (opened ds) n es s.names)
initializers_among ds o n es s deep shut =
    ap (λ (p : Opens). construction_at p n es s) (all_open ds o deep shut)
    ∙ (follow.fields_follow (opened ds) (direct.opening (map definition_of ds)) (known ds) n es).same s

pub given_among : (ds : List Definition) (o : Opening) (first_new : ℕ) (late : List ℕ) (ps : Codes) (s : State) → o.depth ≡ length ds → length o.shut.items ≡ 0 → given_at (opens_of ds o) ps s ≡ onto s (ev_given (opened ds) first_new late ps s.names)
given_among ds o first_new late ps s deep shut =
    ap (λ (p : Opens). given_at p ps s) (all_open ds o deep shut)
    ∙ (follow.given_follows (opened ds) (direct.opening (map definition_of ds)) (known ds) first_new late ps).same s

pub body_among : (ds : List Definition) (o : Opening) (first_new : ℕ) (late : List ℕ) (ps : Codes) (body : Code) (s : State) → o.depth ≡ length ds → length o.shut.items ≡ 0 → body_at (opens_of ds o) ps body s ≡ onto s (ev_body (opened ds) first_new late ps body s.names)
body_among ds o first_new late ps body s deep shut =
    ap (λ (p : Opens). body_at p ps body s) (all_open ds o deep shut)
    ∙ (follow.body_follows (opened ds) (direct.opening (map definition_of ds)) (known ds) first_new late ps body).same s

pub construction_among : (ds : List Definition) (o : Opening) (first_new : ℕ) (late : List ℕ) (n : ℕ) (h : Codes) (es : Codes) (s : State) → o.depth ≡ length ds → length o.shut.items ≡ 0 → constructing_at (opens_of ds o) late n h es s ≡ onto s (ev_construction (opened ds) first_new late n h es es s.names)
construction_among ds o first_new late n h es s deep shut =
    ap (λ (p : Opens). constructing_at p late n h es s) (all_open ds o deep shut)
    ∙ (follow.constructing_follows (opened ds) (direct.opening (map definition_of ds)) (known ds) first_new late n h es).same s
