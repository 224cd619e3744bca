-- What a call of a function and a construction of a class do over a state is what the definitions say.
use Rattle.std.proofs.Common.{◌≡◌, refl, ℕ, suc, List, [], ◌∷◌, Bool, true, false, ◌&&◌, cond}
use Rattle.es_steps.specs.Code.{Code, Codes, Target, Callee, Opened, binding, rest, pattern, to_name, to_pattern, function, new_function, constructor, done, and}
use Rattle.es_steps.specs.Entries as spec
use Rattle.es_steps.specs.Entries.{all_identifiers, parameters_of, no_constructor}
use Rattle.es_steps.specs.Evaluation.{Evaluation, bind, ev, ev_target, ev_all, ev_callee, ev_take, ev_key, ev_keys, ev_static, ev_field, ev_initializers, write_ready}
use Rattle.es_steps.specs.Evaluation as of
use Rattle.es_steps.specs.Events.{Detail, Operate, Take, Index, Rest, EnterBody, SuperCallWithAll}
use Rattle.es_steps.specs.GeneratedForms.{is_plain}
use Rattle.es_steps.specs.Opening.{all_arguments}
use Rattle.es_steps.specs.References.{has_number}
use Rattle.es_steps.specs.Values.{String, Value, Undefined, ThisOf, ResultOf}
use Rattle.es_evaluation.specs.Flat.{single}
use Rattle.es_evaluation.specs.Direct.{Step, and_then, emit, settled, form, write}
use Rattle.es_evaluation.specs.Direct as direct
use Rattle.es_evaluation.specs.Agreement.{Follows}
use Rattle.es_evaluation.proofs.Follows.{follows_bind, follows_none, follows_gives, follows_event}
use Rattle.es_evaluation.proofs.Same.{ready_of}
use Rattle.es_evaluator.specs.Steps.{Opens}
use Rattle.es_code_rules.specs.Steps.{value_at, all_at, callee_at}
use Rattle.es_target_rules.specs.Steps.{operands_at, write_at, take_at}
use Rattle.es_class_rules.specs.Steps.{construction_at, key_at, keys_at, static_at, field_at}
use Rattle.es_code_bodies.specs.Alone.{all_alone_at, target_alone_at, callee_alone_at, keys_alone_at, arguments_at}
use Rattle.es_code_bodies.specs.Bodies.{argument_at, rest_at, parameter, parameters, parameters_at, entered, entered_at, given_at, body_at}
use Rattle.es_code_bodies.specs.Constructing.{one_function, more_functions, constructors_in, in_order, if_so, in_order_at, new_at, forwarded_at, base_at, derived_at, constructor_at, default_at, constructing_step, constructing_at}
use Rattle.es_code_bodies.proofs.Parts.{all_follow, target_follows, write_follows, take_follows, callee_follows, key_follows, keys_follow, static_follows, field_follows, initializers_follow, bound_follow}

entered_follows : (b : Bool) → Follows (spec.entered b) (entered b)
entered_follows true = follows_gives Undefined
entered_follows false = follows_event EnterBody Undefined (single EnterBody) refl refl

-- fields and parameters in their order, and the body
in_order_follows : (b : Bool) (a c e : Evaluation) (d f g : Step Value) → Follows a d → Follows c f → Follows e g → Follows (spec.in_order b a c e) (in_order b d f g)
in_order_follows true a c e d f g h i j = follows_bind c f (λ v. bind a (λ w. e)) (λ v. and_then d (λ w. g)) i (λ v. follows_bind a d (λ w. e) (λ w. g) h (λ w. j))
in_order_follows false a c e d f g h i j = follows_bind a d (λ v. bind c (λ w. e)) (λ v. and_then f (λ w. g)) h (λ v. follows_bind c f (λ w. e) (λ w. g) i (λ w. j))

if_so_follows : (b : Bool) (a : Evaluation) (d : Step Value) → Follows a d → Follows (spec.if_one b a) (if_so b d)
if_so_follows true a d h = h
if_so_follows false a d h = follows_none

module _ (opens : Opened → Evaluation) (opens_d : Opens) (follows : (c : Code) → Follows (ev opens c) (settled (form opens_d c))) where
  -- ---- what comes in front of something

  pub all_alone_follows : (es : Codes) → Follows (ev_all opens es (λ vs. of.gives Undefined)) (all_alone_at opens_d es)
  unfolding all_at all_alone_at
  all_alone_follows es = all_follow opens opens_d follows [] es (λ vs. of.gives Undefined) (λ vs. direct.gives Undefined) (λ vs. follows_gives Undefined)

  pub target_alone_follows : (to : Target) → Follows (ev_target opens to (λ t. of.gives Undefined)) (target_alone_at opens_d to)
  unfolding operands_at target_alone_at
  target_alone_follows to = target_follows opens opens_d follows to (λ t. of.gives Undefined) (λ t. direct.gives Undefined) (λ t. follows_gives Undefined)

  pub callee_alone_follows : (f : Callee) → Follows (ev_callee opens f (λ v receiver. of.gives v)) (callee_alone_at opens_d f)
  unfolding callee_at callee_alone_at
  callee_alone_follows f = callee_follows opens opens_d follows f (λ v. of.gives v) (λ v. direct.gives v) (λ v. follows_gives v)

  pub keys_alone_follows : (es : Codes) → Follows (ev_keys opens es (λ ks. of.gives Undefined)) (keys_alone_at opens_d es)
  unfolding keys_at keys_alone_at
  keys_alone_follows es = keys_follow opens opens_d follows [] es (λ ks. of.gives Undefined) (λ ks. direct.gives Undefined) (λ ks. follows_gives Undefined)

  pub arguments_follow : (xs : List String) (es : Codes) → Follows (ev_all opens es (λ vs. of.bind_parameters xs vs)) (arguments_at opens_d xs es)
  unfolding all_at arguments_at
  arguments_follow xs es = all_follow opens opens_d follows [] es (λ vs. of.bind_parameters xs vs) (λ vs. direct.bind_parameters xs vs) (λ vs. bound_follow xs vs)

  -- what a construction does with the elements of its class
  pub fields_follow : (n : ℕ) (es : Codes) → Follows (ev_initializers opens n es) (construction_at opens_d n es)
  unfolding construction_at
  fields_follow n es = initializers_follow opens opens_d follows n es

  pub taken_follows : (v : Value) (c : Code) → Follows (ev_take opens v c) (take_at opens_d v c)
  unfolding take_at
  taken_follows v c = take_follows opens opens_d follows v c

  pub one_key_follows : (e : Code) → Follows (ev_key opens e) (key_at opens_d e)
  unfolding key_at
  one_key_follows e = key_follows opens opens_d follows e

  pub static_element_follows : (n : ℕ) (a : Value) (e : Code) → Follows (ev_static opens n a e) (static_at opens_d n a e)
  unfolding static_at
  static_element_follows n a e = static_follows opens opens_d follows n a e

  pub field_element_follows : (n : ℕ) (e : Code) → Follows (ev_field opens n e) (field_at opens_d n e)
  unfolding field_at
  field_element_follows n e = field_follows opens opens_d follows n e

  pub code_follows : (c : Code) → Follows (ev opens c) (value_at opens_d c)
  unfolding value_at
  code_follows c = follows c

  -- ---- parameters

  argument_follows : (m : ℕ) (ds : List Detail) (to : Target) → Follows (ev_target opens to (λ t. bind (of.event (Operate m (Take ds) []) (ResultOf m)) (λ v. write_ready t v))) (argument_at opens_d m ds to)
  unfolding argument_at operands_at write_at
  argument_follows m ds to =
      target_follows opens opens_d follows to (λ t. bind (of.event (Operate m (Take ds) []) (ResultOf m)) (λ v. write_ready t v)) (λ t. and_then (emit (single (Operate m (Take ds) [])) (ResultOf m)) (λ v. write opens_d to t v))
      (λ t. follows_bind (of.event (Operate m (Take ds) []) (ResultOf m)) (emit (single (Operate m (Take ds) [])) (ResultOf m)) (λ v. write_ready (ready_of opens to t) v) (λ v. write opens_d to t v) (follows_event (Operate m (Take ds) []) (ResultOf m) (single (Operate m (Take ds) [])) refl refl)
      (λ v. write_follows opens opens_d follows to t v))

  module _ (first_new : ℕ) (late : List ℕ) where
    parameter_follows : (i : ℕ) (c : Code) → Follows (spec.ev_parameter opens first_new late i c) (parameter opens_d i c)
    unfolding rest_at
    parameter_follows i (binding b s kind) = follows_gives Undefined
    parameter_follows i (rest (to_name b s kind)) = follows_gives Undefined
    parameter_follows i (pattern m to) = argument_follows m (Index i ∷ []) to
    parameter_follows i (rest (to_pattern m kind cs)) = argument_follows m (Index i ∷ Rest ∷ []) (to_pattern m kind cs)
    parameter_follows i c = follows_none

    parameters_follow : (i : ℕ) (cs : Codes) → Follows (spec.ev_parameters opens first_new late i cs) (parameters opens_d i cs)
    parameters_follow i done = follows_gives Undefined
    parameters_follow i (and c cs) = follows_bind (spec.ev_parameter opens first_new late i c) (parameter opens_d i c) (λ v. spec.ev_parameters opens first_new late (suc i) cs) (λ v. parameters opens_d (suc i) cs) (parameter_follows i c) (λ v. parameters_follow (suc i) cs)

    pub given_follows : (cs : Codes) → Follows (spec.ev_given opens first_new late cs) (given_at opens_d cs)
    unfolding given_at parameters_at entered_at
    given_follows cs =
        let is_simple : Bool = all_identifiers (parameters_of cs) in
        follows_bind (spec.ev_parameters opens first_new late 0 cs) (parameters opens_d 0 cs) (λ v. spec.entered is_simple) (λ v. entered is_simple) (parameters_follow 0 cs) (λ v. entered_follows is_simple)

    pub body_follows : (ps : Codes) (body : Code) → Follows (spec.ev_body opens first_new late ps body) (body_at opens_d ps body)
    unfolding body_at
    body_follows ps body = follows_bind (spec.ev_given opens first_new late ps) (given_at opens_d ps) (λ v. ev opens body) (λ v. value_at opens_d body) (given_follows ps) (λ v. code_follows body)

    -- ---- constructions

    -- the function of a constructor, unless there is another
    alone_follows : (b c : Bool) (n : ℕ) (h all : Codes) (f : Code) (a : Evaluation) → Follows (spec.if_one c a) (constructor_at opens_d late n h all f) → Follows (spec.if_one (b && c) a) (constructing_step opens_d late n h all (cond b (one_function f) more_functions))
    alone_follows true c n h all f a i = i
    alone_follows false c n h all f a i = follows_none

    first_follows : (b : Bool) (n : ℕ) (h all : Codes) (f : Code) (a : Evaluation) → Follows a (constructor_at opens_d late n h all f) → Follows (spec.if_one b a) (constructing_step opens_d late n h all (cond b (one_function f) more_functions))
    first_follows true n h all f a i = i
    first_follows false n h all f a i = follows_none

    neither_follows : (b : Bool) (n : ℕ) (h all : Codes) (f : Code) → Follows of.no_meaning (constructor_at opens_d late n h all f) → Follows of.no_meaning (constructing_step opens_d late n h all (cond b (one_function f) more_functions))
    neither_follows true n h all f i = i
    neither_follows false n h all f i = follows_none

    found_follow : (n : ℕ) (h all es : Codes) → Follows (spec.ev_construction opens first_new late n h all es) (constructing_step opens_d late n h all (constructors_in es))
    unfolding base_at derived_at constructor_at default_at in_order_at new_at forwarded_at
    found_follow n done all (and (constructor (function f form own_name ps body)) es) =
        first_follows (no_constructor es) n done all (function f form own_name ps body) (spec.in_order (has_number n late) (ev_initializers opens n all) (spec.ev_given opens first_new late ps) (ev opens body))
        (in_order_follows (has_number n late) (ev_initializers opens n all) (spec.ev_given opens first_new late ps) (ev opens body) (construction_at opens_d n all) (given_at opens_d ps) (value_at opens_d body) (fields_follow n all) (given_follows ps) (code_follows body))
    found_follow n done all (and (constructor (new_function f form done body)) es) =
        let a : Evaluation = bind (ev_initializers opens n all) (λ v. ev opens body) in
        alone_follows (no_constructor es) (is_plain form) n done all (new_function f form done body) a
        (if_so_follows (is_plain form) a (and_then (construction_at opens_d n all) (λ v. value_at opens_d body)) (follows_bind (ev_initializers opens n all) (construction_at opens_d n all) (λ v. ev opens body) (λ v. value_at opens_d body) (fields_follow n all) (λ v. code_follows body)))
    found_follow n (and h hs) all (and (constructor (function f form own_name ps body)) es) =
        first_follows (no_constructor es) n (and h hs) all (function f form own_name ps body) (spec.ev_body opens first_new late ps body) (body_follows ps body)
    found_follow n (and h hs) all (and (constructor (new_function f form ps body)) es) =
        alone_follows (no_constructor es) (is_plain form && all_arguments ps) n (and h hs) all (new_function f form ps body) (ev opens body)
        (if_so_follows (is_plain form && all_arguments ps) (ev opens body) (value_at opens_d body) (code_follows body))
    found_follow n done all (and (constructor e) es) = neither_follows (no_constructor es) n done all e follows_none
    found_follow n (and h hs) all (and (constructor e) es) = neither_follows (no_constructor es) n (and h hs) all e follows_none
    found_follow n done all (and e es) = found_follow n done all es
    found_follow n (and h hs) all (and e es) = found_follow n (and h hs) all es
    found_follow n done all done = fields_follow n all
    found_follow n (and h hs) all done =
        follows_bind (of.event (SuperCallWithAll n) (ThisOf n)) (emit (single (SuperCallWithAll n)) (ThisOf n)) (λ v. ev_initializers opens n all) (λ v. construction_at opens_d n all) (follows_event (SuperCallWithAll n) (ThisOf n) (single (SuperCallWithAll n)) refl refl) (λ v. fields_follow n all)

    pub constructing_follows : (n : ℕ) (h es : Codes) → Follows (spec.ev_construction opens first_new late n h es es) (constructing_at opens_d late n h es)
    unfolding constructing_at
    constructing_follows n h es = found_follow n h es es
