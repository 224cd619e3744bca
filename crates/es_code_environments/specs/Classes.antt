-- Classes: where their constructions start, and what their entries are made of, element by element.
use Rattle.std.specs.Prelude.{◌≡◌, ℕ, List, [], ◌∷◌, ◌++◌, Bool, true, false, not, cond, Option, Some, None}
use Rattle.es_steps.specs.Code.{Code, Codes, FunctionForm, function, field, private_field, method, private_method, constructor, generated_element}
use Rattle.es_steps.specs.Entries as spec
use Rattle.es_steps.specs.Entries.{Method, after_run, is_quiet_run, same_nullable, value_in}
use Rattle.es_steps.specs.Evaluation.{Environment, ev, ev_key, ev_keys, ev_static, gives}
use Rattle.es_steps.specs.Values.{String, Value, Undefined, as_key}
use Rattle.es_code_environments.specs.Standing.{opens_in}
use Rattle.es_code_environments.specs.declared.terms.Terms.{Terms}

-- ---- where a construction starts

abbrev pub behind_heritage : Terms → Environment → Codes → Environment
behind_heritage t s h = spec.behind_all (opens_in t) 0 t.late.now s h

abbrev pub behind_keys : Terms → Environment → Codes → Environment
behind_keys t a es = after_run a (ev_keys (opens_in t) es (λ ks. gives Undefined) a)

abbrev pub start_of : Terms → ℕ → Environment → Codes → Codes → Environment
start_of t n s h es = spec.elements_start (opens_in t) 0 t.late.now n s (behind_keys t (behind_heritage t s h) es) es

abbrev pub behind_leading : Terms → ℕ → Environment → Codes → Environment
behind_leading t n s es = spec.behind_leading (opens_in t) 0 t.late.now n s es

abbrev pub behind_fields : Terms → Environment → ℕ → Codes → Codes → Environment
behind_fields t s n h es = spec.behind_fields (opens_in t) 0 t.late.now s n h es

-- whether the elements that run in front of all others go on behind this one
abbrev pub is_leading : Terms → ℕ → Environment → Code → Bool
is_leading t n s (generated_element x r) = is_quiet_run (ev_static (opens_in t) n Undefined (generated_element x r) s)
is_leading t n s (field b form k r) = not b
is_leading t n s (private_field b d r) = not b
is_leading t n s (method b kind k f) = true
is_leading t n s (private_method b d f) = true
is_leading t n s (constructor f) = true
is_leading t n s c = false

abbrev pub behind_element : Terms → ℕ → Environment → Code → Environment
behind_element t n s (generated_element x r) = cond (is_quiet_run (ev_static (opens_in t) n Undefined (generated_element x r) s)) (after_run s (ev_static (opens_in t) n Undefined (generated_element x r) s)) s
behind_element t n s c = s

-- ---- what an entry is made of

abbrev pub heritage_in : Terms → Environment → Codes → Option (Option Value)
heritage_in t s h = spec.heritage_in (opens_in t) 0 t.late.now s h

abbrev pub behind_key : Terms → Environment → Code → Environment
behind_key t s c = spec.behind_key (opens_in t) 0 t.late.now s c

abbrev pub methods_in : Terms → Environment → Codes → Option (List Method)
methods_in t s es = spec.methods_in (opens_in t) 0 t.late.now s es

abbrev pub function_in : Code → Option ℕ
function_in (function f form own_name ps body) = Some f
function_in c = None

abbrev pub made : Bool → String → Option Value → Option ℕ → Option (List Method)
made is_static kind (Some k) (Some f) = Some (record { is_static = is_static; kind = kind; key = as_key k; function = f } ∷ [])
made is_static kind k f = None

-- the method that an element is, if it is one
abbrev pub method_at : Terms → Environment → Code → Option (List Method)
method_at t s (method is_static kind k f) = made is_static kind (value_in (ev (opens_in t) k s)) (function_in f)
method_at t s c = Some []

-- in front of those behind it
abbrev pub joined : Option (List Method) → Option (List Method) → Option (List Method)
joined (Some ms) (Some ns) = Some (ms ++ ns)
joined ms ns = None

abbrev pub keys_stay : Terms → Environment → Environment → Codes → Bool
keys_stay t s i es = spec.keys_stay (opens_in t) 0 t.late.now s i es

abbrev pub key_stays : Terms → Environment → Environment → Code → Bool
key_stays t s i (field false form k e) = same_nullable (value_in (ev (opens_in t) k s)) (value_in (ev (opens_in t) k i))
key_stays t s i c = true

abbrev pub is_instance_field : Code → Bool
is_instance_field (field false form k e) = true
is_instance_field c = false

-- the entry of a class in front of which s is, and whose construction starts at start
abbrev pub class_at : Terms → Environment → Environment → ℕ → Option ℕ → Codes → Codes → Option spec.Entry
class_at t s start n declared h es =
    spec.class_entry (keys_stay t (behind_heritage t s h) start es) declared (spec.constructor_form es) (spec.constructor_parameters es) (heritage_in t s h) (methods_in t (behind_heritage t s h) es) (spec.listed (spec.ev_construction (opens_in t) 0 t.late.now n h es es start))
