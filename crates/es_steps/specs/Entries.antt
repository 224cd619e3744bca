-- What a program's functions and classes do when they are called and constructed: an entry for each, read where it
-- stands. (ECMA-262, 10.2 and 15.7: calls, field initialization, class definition evaluation. Entries are our own.)
use Rattle.std.specs.Prelude.{ℕ, suc, List, [], ◌∷◌, ◌++◌, Bool, true, false, cond, ◌&&◌, ◌||◌, bytes_eq, Option, Some, None}
use Rattle.es_steps.specs.Code.{Code, Codes, Target, Callee, FunctionForm, Opened, binding, rest, member, private_member, super_member, private_in, assign, compound, logical, logical_assign, update, call, tag, construct, super_call, sequence, template, operation, chain, short, tested, pattern, takes, steps, gives_to, export_default, function, new_function, class_code, field, private_field, method, private_method, constructor, static_block, generated_element, from_call, from_member, key_of, define, private_initialize, call_arrow, call_closure, give_function, give_class, to_name, to_member, to_private, to_super, to_setter, to_pattern, to_default, plain, on_member, on_private, on_super, with_receiver, checked, on_chain, behind_test, done, and}
use Rattle.es_steps.specs.Evaluation.{added, is_none, only_private, Environment, Run, Evaluation, no_meaning, gives, event, bind, bind_parameters, write_ready, ev, ev_all, ev_target, ev_take, ev_callee, ev_key, ev_keys, ev_static, ev_field, ev_initializers}
use Rattle.es_steps.specs.Events.{Events, Take, Index, Rest, Operate, SuperCallWithAll, EnterBody, value_behind}
use Rattle.es_steps.specs.GeneratedForms.{is_plain}
use Rattle.es_steps.specs.Opening.{assigned_in, assigned_in_all, all_arguments}
use Rattle.es_steps.specs.References.{has_number}
use Rattle.es_steps.specs.SameValues.{same_value}
use Rattle.es_steps.specs.Values.{String, Value, Undefined, ThisOf, ResultOf, as_key}

-- a parameter: an identifier, alone or as a rest, or a pattern, which the list takes apart
pub data Parameter : Type 0 where
  Identifier : (b : ℕ) → Parameter
  RestIdentifier : (b : ℕ) → Parameter
  Pattern : Parameter

pub record Method : Type 0 where
  pub is_static : Bool
  pub kind : String
  pub key : Value
  pub function : ℕ

-- a list and its value
pub record Listed : Type 0 where
  pub events : Events
  pub value : Value

-- a function's own name is known by its identifier; a class has the form and the parameters of its constructor
pub data Entry : Type 0 where
  FunctionEntry : (form : FunctionForm) (own_name : Option ℕ) (parameters : List Parameter) (body : Listed) → Entry
  ClassEntry : (declared : Option ℕ) (heritage : Option Value) (methods : List Method) (form : FunctionForm) (parameters : List Parameter) (construction : Listed) → Entry

abbrev pub is_string_among : String → List String → Bool
is_string_among s [] = false
is_string_among s (x ∷ xs) = bytes_eq s x || is_string_among s xs

-- an environment without these names
abbrev pub without : List String → Environment → Environment
without names [] = []
without names (p ∷ ps) = cond (is_string_among p.0 names) (without names ps) (p ∷ without names ps)

-- ---- parameters

abbrev pub parameter_of : Code → List Parameter
parameter_of (binding b s kind) = Identifier b ∷ []
parameter_of (rest (to_name b s kind)) = RestIdentifier b ∷ []
parameter_of c = Pattern ∷ []

abbrev pub parameters_of : Codes → List Parameter
parameters_of done = []
parameters_of (and c cs) = parameter_of c ++ parameters_of cs

abbrev pub plain_form : FunctionForm
plain_form = record { is_arrow = false; is_async = false; is_generator = false }

abbrev pub constructor_form : Codes → FunctionForm
constructor_form done = plain_form
constructor_form (and (constructor (function f form own_name ps body)) cs) = form
constructor_form (and c cs) = constructor_form cs

-- a new constructor has the parameters of none
abbrev pub constructor_parameters : Codes → List Parameter
constructor_parameters done = []
constructor_parameters (and (constructor (function f form own_name ps body)) cs) = parameters_of ps
constructor_parameters (and c cs) = constructor_parameters cs

-- whether all are identifiers, alone or as a rest: else the body has an environment of its own (ECMA-262, 10.2.11)
abbrev pub is_identifier : Parameter → Bool
is_identifier Pattern = false
is_identifier p = true

abbrev pub all_identifiers : List Parameter → Bool
all_identifiers [] = true
all_identifiers (p ∷ ps) = is_identifier p && all_identifiers ps

abbrev pub entered : Bool → Evaluation
entered true = gives Undefined
entered false = event EnterBody Undefined

-- ---- bodies and constructions; `late` are the classes whose parameters come before their fields

abbrev pub no_constructor : Codes → Bool
no_constructor done = true
no_constructor (and (constructor f) cs) = false
no_constructor (and c cs) = no_constructor cs

abbrev pub if_one : Bool → Evaluation → Evaluation
if_one true a = a
if_one false a = no_meaning

abbrev pub in_order : Bool → Evaluation → Evaluation → Evaluation → Evaluation
in_order true fields parameters body = bind parameters (λ v. bind fields (λ w. body))
in_order false fields parameters body = bind fields (λ v. bind parameters (λ w. body))

module _ (opens : Opened → Evaluation) (first_new : ℕ) (late : List ℕ) where
  -- parameters from the i-th on: an identifier has no event
  abbrev pub ev_parameter : ℕ → Code → Evaluation
  ev_parameter i (binding b s kind) = gives Undefined
  ev_parameter i (rest (to_name b s kind)) = gives Undefined
  ev_parameter i (pattern m to) = ev_target opens to (λ t. bind (event (Operate m (Take (Index i ∷ [])) []) (ResultOf m)) (λ v. write_ready t v))
  ev_parameter i (rest (to_pattern m kind cs)) = ev_target opens (to_pattern m kind cs) (λ t. bind (event (Operate m (Take (Index i ∷ Rest ∷ [])) []) (ResultOf m)) (λ v. write_ready t v))
  ev_parameter i c = no_meaning

  abbrev pub ev_parameters : ℕ → Codes → Evaluation
  ev_parameters i done = gives Undefined
  ev_parameters i (and c cs) = bind (ev_parameter i c) (λ v. ev_parameters (suc i) cs)

  -- all parameters, and the border between them and the body
  abbrev pub ev_given : Codes → Evaluation
  ev_given cs = bind (ev_parameters 0 cs) (λ v. entered (all_identifiers (parameters_of cs)))

  -- what a call of a function does
  abbrev pub ev_body : Codes → Code → Evaluation
  ev_body parameters body = bind (ev_given parameters) (λ v. ev opens body)

  -- the construction of a base class initializes its fields before the parameters and the body of its constructor; that of
  -- another constructs its parent with all arguments where it has no constructor
  abbrev pub ev_construction : ℕ → Codes → Codes → Codes → Evaluation
  ev_construction n done all (and (constructor (function f form own_name ps body)) es) = if_one (no_constructor es) (in_order (has_number n late) (ev_initializers opens n all) (ev_given ps) (ev opens body))
  ev_construction n done all (and (constructor (new_function f form done body)) es) = if_one (no_constructor es && is_plain form) (bind (ev_initializers opens n all) (λ v. ev opens body))
  ev_construction n (and h hs) all (and (constructor (function f form own_name ps body)) es) = if_one (no_constructor es) (ev_body ps body)
  ev_construction n (and h hs) all (and (constructor (new_function f form ps body)) es) = if_one (no_constructor es && (is_plain form && all_arguments ps)) (ev opens body)
  ev_construction n heritage all (and (constructor e) es) = no_meaning
  ev_construction n heritage all (and e es) = ev_construction n heritage all es
  ev_construction n done all done = ev_initializers opens n all
  ev_construction n (and h hs) all done = bind (event (SuperCallWithAll n) (ThisOf n)) (λ v. ev_initializers opens n all)

-- ---- entries

abbrev pub listed : Option Run → Option Listed
listed None = None
listed (Some r) = Some (record { events = r.events; value = value_behind r.events r.value })

abbrev pub value_in : Option Run → Option Value
value_in None = None
value_in (Some r) = Some (value_behind r.events r.value)

abbrev pub after_run : Environment → Option Run → Environment
after_run env None = env
after_run env (Some r) = r.after

abbrev pub is_quiet_run : Option Run → Bool
is_quiet_run None = false
is_quiet_run (Some r) = is_none r.events

abbrev pub function_entry : FunctionForm → Option ℕ → List Parameter → Option Listed → Option Entry
function_entry form own_name ps None = None
function_entry form own_name ps (Some l) = Some (FunctionEntry form own_name ps l)

abbrev pub class_entry : Bool → Option ℕ → FunctionForm → List Parameter → Option (Option Value) → Option (List Method) → Option Listed → Option Entry
class_entry true declared form ps (Some h) (Some ms) (Some l) = Some (ClassEntry declared h ms form ps l)
class_entry keys_stay declared form ps h ms l = None

abbrev pub some_value : Option Value → Option (Option Value)
some_value None = None
some_value (Some v) = Some (Some v)

abbrev pub method_with : Bool → String → Option Value → Code → Option (List Method) → Option (List Method)
method_with is_static kind (Some k) (function f form own_name ps body) (Some ms) = Some (record { is_static = is_static; kind = kind; key = as_key k; function = f } ∷ ms)
method_with is_static kind k f ms = None

abbrev pub same_nullable : Option Value → Option Value → Bool
same_nullable (Some v) (Some w) = same_value v w
same_nullable v w = false

abbrev pub Entries : Type 0
Entries = List (ℕ × Option Entry)

-- the functions and classes in a code: s is the environment in front of it, with which a function or a construction is
-- read, without the temporaries that it assigns itself. Functions that are new have no entry.
module _ (opens : Opened → Evaluation) (first_new : ℕ) (late : List ℕ) where
  abbrev pub heritage_in : Environment → Codes → Option (Option Value)
  heritage_in env done = Some None
  heritage_in env (and h hs) = some_value (value_in (ev opens h env))

  abbrev pub behind_key : Environment → Code → Environment
  behind_key s c = after_run s (ev_key opens c s)

  -- the methods in order, with the values of their keys; s is the environment in front of the key
  abbrev pub methods_in : Environment → Codes → Option (List Method)
  methods_in s done = Some []
  methods_in s (and (method is_static kind k f) es) = method_with is_static kind (value_in (ev opens k s)) f (methods_in (after_run s (ev opens k s)) es)
  methods_in s (and e es) = methods_in (behind_key s e) es

  -- the key of an instance field has the same value where it stands and where a construction, in i, defines it
  abbrev pub keys_stay : Environment → Environment → Codes → Bool
  keys_stay s i done = true
  keys_stay s i (and (field false form k e) es) = same_nullable (value_in (ev opens k s)) (value_in (ev opens k i)) && keys_stay (after_run s (ev opens k s)) i es
  keys_stay s i (and e es) = keys_stay (behind_key s e) i es

  -- where evaluations lead
  abbrev pub behind_code : Environment → Code → Environment
  behind_code s c = after_run s (ev opens c s)

  abbrev pub behind_all : Environment → Codes → Environment
  behind_all s cs = after_run s (ev_all opens cs (λ vs. gives Undefined) s)

  abbrev pub behind_target : Environment → Target → Environment
  behind_target s to = after_run s (ev_target opens to (λ t. gives Undefined) s)

  abbrev pub behind_callee : Environment → Callee → Environment
  behind_callee s f = after_run s (ev_callee opens f (λ v receiver. gives v) s)

  abbrev pub behind_arguments : Environment → List String → Codes → Environment
  behind_arguments s ss es = after_run s (ev_all opens es (λ vs. bind_parameters ss vs) s)

  abbrev pub behind_parameters : Environment → Codes → Environment
  behind_parameters s ps = after_run s (ev_given opens first_new late ps s)

  -- in front of a constructor's parameters
  abbrev pub behind_fields : Environment → ℕ → Codes → Codes → Environment
  behind_fields s n done es = after_run s (ev_initializers opens n es s)
  behind_fields s n (and h hs) es = s

  -- what the private elements hold that are generated in front of all other elements which run with the class, and whose values have
  -- no event: what runs there may construct the class, where the element is not there yet
  abbrev pub behind_leading : ℕ → Environment → Codes → Environment
  behind_leading n s (and (generated_element x r) cs) = cond (is_quiet_run (ev_static opens n Undefined (generated_element x r) s)) (behind_leading n (after_run s (ev_static opens n Undefined (generated_element x r) s)) cs) s
  behind_leading n s (and (field false form k r) cs) = behind_leading n s cs
  behind_leading n s (and (private_field false d r) cs) = behind_leading n s cs
  behind_leading n s (and (method is_static kind k f) cs) = behind_leading n s cs
  behind_leading n s (and (private_method is_static d f) cs) = behind_leading n s cs
  behind_leading n s (and (constructor f) cs) = behind_leading n s cs
  behind_leading n s cs = s

  abbrev pub leading : ℕ → Environment → Codes → Environment
  leading n s cs = let a : Environment = behind_leading n s cs in only_private (added a s) a

  -- in front of the elements of a construction: s is in front of the class, b behind its keys
  abbrev pub elements_start : ℕ → Environment → Environment → Codes → Environment
  elements_start n s b es = leading n b es ++ without (assigned_in_all es) s

  abbrev pub own_function : ℕ → FunctionForm → Option ℕ → Codes → Option Listed → Entries
  own_function f form own_name ps l = (f, function_entry form own_name (parameters_of ps) l) ∷ []

  abbrev mutual
    pub entries : Environment → Code → Entries
    entries s (member m o k) = entries s o ++ entries (behind_code s o) k
    entries s (private_member m r o) = entries s o
    entries s (super_member m home k this) = entries s k
    entries s (private_in m test o) = entries s o
    entries s (assign to r) = let a : Environment = behind_target s to in target_entries s to ++ entries a r ++ pattern_entries (behind_code a r) to
    entries s (compound m op to r) = target_entries s to ++ entries (behind_target s to) r
    entries s (logical m op l r) = let a : Environment = behind_code s l in entries s l ++ entries a r
    entries s (logical_assign m op to r) = let a : Environment = behind_target s to in target_entries s to ++ entries a r
    entries s (update m op prefix to) = target_entries s to
    entries s (call m f es) = callee_entries s f ++ all_entries (behind_callee s f) es
    entries s (tag m f ts es) = callee_entries s f ++ all_entries (behind_callee s f) es
    entries s (construct m f es) = entries s f ++ all_entries (behind_code s f) es
    entries s (super_call m n o es) = all_entries s es
    entries s (sequence es) = all_entries s es
    entries s (template m ts es) = all_entries s es
    entries s (operation m op es parts) = all_entries s es ++ held_entries (behind_all s es) parts
    entries s (chain m c) = entries s c
    entries s (short c) = entries s c
    entries s (tested o again c) = let a : Environment = behind_code s o in entries s o ++ all_entries a again ++ entries a c
    entries s (steps es) = all_entries s es
    entries s (gives_to m to) = target_entries s to ++ pattern_entries s to
    entries s (export_default c) = entries s c
    entries s (function f form own_name ps body) =
        let start : Environment = without (assigned_in_all ps ++ assigned_in body) s in
        own_function f form own_name ps (listed (ev_body opens first_new late ps body start)) ++ parameter_entries start ps ++ entries (behind_parameters start ps) body
    entries s (class_code n declared h es) =
        let a : Environment = behind_all s h in
        let b : Environment = after_run a (ev_keys opens es (λ ks. gives Undefined) a) in
        let start : Environment = elements_start n s b es in
        ((n, class_entry (keys_stay a start es) declared (constructor_form es) (constructor_parameters es) (heritage_in s h) (methods_in a es) (listed (ev_construction opens first_new late n h es es start))) ∷ all_entries s h)
        ++ key_entries a es ++ static_entries n b es ++ field_entries n start es ++ function_entries s (behind_fields start n h es) es
    entries s (from_call c) = entries s c
    entries s (from_member c) = entries s c
    entries s (key_of c) = entries s c
    entries s (define m o k r) = entries s k ++ entries (behind_code s k) r
    entries s (private_initialize m d o r) = entries s r
    entries s (call_arrow ss body es) = all_entries s es ++ entries (behind_arguments s ss es) body
    entries s (call_closure f es) = all_entries s es
    entries s (give_function m f g (new_function k form ps body)) = entries (without (assigned_in body) s) body
    entries s (give_function m f g c) = entries s c
    entries s (give_class n c) = entries s c
    entries s c = []

    pub target_entries : Environment → Target → Entries
    target_entries s (to_member m o k) = entries s o ++ entries (behind_code s o) k
    target_entries s (to_private m r o) = entries s o
    target_entries s (to_super m home k this) = entries s k
    target_entries s (to_setter m d o) = entries s o
    target_entries s (to_default m to d) = target_entries s to
    target_entries s to = []

    -- what a pattern does when its value is there: a default value is a held part
    pub pattern_entries : Environment → Target → Entries
    pattern_entries s (to_pattern m kind cs) = taken_entries s cs
    pattern_entries s (to_default m to d) = entries s d ++ pattern_entries s to
    pattern_entries s to = []

    pub taken_entries : Environment → Codes → Entries
    taken_entries s done = []
    taken_entries s (and c cs) = take_entries s c ++ taken_entries (after_run s (ev_take opens Undefined c s)) cs

    pub take_entries : Environment → Code → Entries
    take_entries s (takes m ds k to) = let a : Environment = behind_all s k in all_entries s k ++ target_entries a to ++ pattern_entries (behind_target a to) to
    take_entries s c = []

    pub callee_entries : Environment → Callee → Entries
    callee_entries s (plain c) = entries s c
    callee_entries s (on_member m o k) = entries s o ++ entries (behind_code s o) k
    callee_entries s (on_private m r o) = entries s o
    callee_entries s (on_super m home k this) = entries s k
    callee_entries s (with_receiver f o) = entries s f ++ entries (behind_code s f) o
    callee_entries s (checked f) = callee_entries s f
    callee_entries s (on_chain m f) = callee_entries s f
    callee_entries s (behind_test o again f) = let a : Environment = behind_code s o in entries s o ++ all_entries a again ++ callee_entries a f

    pub all_entries : Environment → Codes → Entries
    all_entries s done = []
    all_entries s (and c cs) = entries s c ++ all_entries (behind_code s c) cs

    -- parts with lists of their own
    pub held_entries : Environment → Codes → Entries
    held_entries s done = []
    held_entries s (and c cs) = entries s c ++ held_entries s cs

    -- parameters, all in the environment in front of the first
    pub parameter_entries : Environment → Codes → Entries
    parameter_entries s done = []
    parameter_entries s (and (pattern m to) cs) = target_entries s to ++ pattern_entries s to ++ parameter_entries s cs
    parameter_entries s (and (rest to) cs) = target_entries s to ++ pattern_entries s to ++ parameter_entries s cs
    parameter_entries s (and c cs) = parameter_entries s cs

    -- of the elements of a class: their keys, then the static ones
    pub key_entries : Environment → Codes → Entries
    key_entries s done = []
    key_entries s (and c cs) = key_entry s c ++ key_entries (behind_key s c) cs

    pub key_entry : Environment → Code → Entries
    key_entry s (field is_static form k r) = entries s k
    key_entry s (method is_static kind k f) = entries s k
    key_entry s c = []

    pub static_entries : ℕ → Environment → Codes → Entries
    static_entries n s done = []
    static_entries n s (and c cs) = static_entry s c ++ static_entries n (after_run s (ev_static opens n Undefined c s)) cs

    pub static_entry : Environment → Code → Entries
    static_entry s (field true form k r) = entries s r
    static_entry s (private_field true d r) = entries s r
    static_entry s (static_block cs) = all_entries s cs
    static_entry s (generated_element x r) = entries s r
    static_entry s c = []

    -- instance fields: s is the environment in front of the construction
    pub field_entries : ℕ → Environment → Codes → Entries
    field_entries n s done = []
    field_entries n s (and c cs) = field_entry s c ++ field_entries n (after_run s (ev_field opens n c s)) cs

    pub field_entry : Environment → Code → Entries
    field_entry s (field false form k r) = entries s r
    field_entry s (private_field false d r) = entries s r
    field_entry s c = []

    -- methods, and what stands in the constructor: s is the environment in front of the class, i that behind the fields
    pub function_entries : Environment → Environment → Codes → Entries
    function_entries s i done = []
    function_entries s i (and c cs) = element_function s i c ++ function_entries s i cs

    pub element_function : Environment → Environment → Code → Entries
    element_function s i (method is_static kind k f) = entries s f
    element_function s i (private_method is_static d f) = entries s f
    element_function s i (constructor (function f form own_name ps body)) = parameter_entries i ps ++ entries (behind_parameters i ps) body
    element_function s i (constructor (new_function f form ps body)) = parameter_entries i ps ++ entries (behind_parameters i ps) body
    element_function s i c = []
