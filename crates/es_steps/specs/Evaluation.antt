-- Evaluation: the list of events of a code and its value, in an environment. (ECMA-262, 13 to 15: the order in which
-- operands, operations and writes come.)
use Rattle.std.specs.Prelude.{ℕ, zero, suc, List, [], ◌∷◌, Bool, true, false, cond, ◌&&◌, nat_eq, bytes_eq, length, Option, Some, None}
use Rattle.es_base.specs.declared.kind.Kind.{Kind}
use Rattle.es_base.specs.declared.ledger.GeneratedKind.{GeneratedKind}
use Rattle.es_steps.specs.Code.{Code, Codes, Target, Callee, FieldForm, defines, sets, leaves_out, TemplateString, Opened, InitializersOf, BodyOf, nothing, no_rule, value, spelled, private_name, binding, rest, name, super, member, private_member, super_member, private_in, assign, compound, logical, logical_assign, update, call, tag, construct, super_call, super_call_with_all, sequence, template_string, template, operation, piece, chain, short, tested, pattern, takes, steps, gives_to, export_default, function, new_function, new_return, class_code, field, private_field, method, private_method, constructor, static_block, generated_element, from_call, from_member, key_of, helper, helper_call, throw, define, private_initialize, add_brand, bound, setter, private_value, call_arrow, call_closure, initializers, give_function, give_class, to_name, to_member, to_private, to_super, to_setter, to_pattern, to_default, no_target, plain, on_member, on_private, on_super, with_receiver, checked, on_chain, behind_test, done, and}
use Rattle.es_steps.specs.Context.{NameKind, Fixed, Changing, MeansClass, Generated, StaticMethod}
use Rattle.es_steps.specs.Events.{Detail, Operation, OfKind, Take, Operand, Empty, Spelled, Flag, Index, Place, RightOf, Default, Part, Event, ReadName, SetName, Get, Set, Define, Call, Construct, Operate, Update, PrivateGet, PrivateSet, PrivateInitialize, PrivateIn, AddBrand, SuperGet, SuperSet, SuperCall, SuperCallWithAll, InitializeClass, Throw, Short, Held, Events, none, then, throws, behind, value_behind}
use Rattle.es_steps.specs.SameValues.{same_value}
use Rattle.es_steps.specs.Values.{String, Constant, StringOf, RawTemplate, TagString, Value, ConstantOf, Undefined, BindingOf, FunctionOf, ClassOf, ThisOf, ResultOf, FormerOf, KeyOf, Bound, Home, as_key, is_class_value}

-- the values of temporaries, the last given first
abbrev pub Environment : Type 0
Environment = List (String × Value)

-- what an evaluation is: its events, its value, the environment behind it
pub record Run : Type 0 where
  pub events : Events
  pub value : Value
  pub after : Environment

abbrev pub Evaluation : Type 0
Evaluation = Environment → Option Run

-- ---- steps, and one behind another

abbrev pub no_meaning : Evaluation
no_meaning env = None

abbrev pub gives : Value → Evaluation
gives v env = Some (record { events = none; value = v; after = env })

abbrev pub event : Event → Value → Evaluation
event e v env = Some (record { events = then e none; value = v; after = env })

abbrev pub run_behind : Events → Option Run → Option Run
run_behind l None = None
run_behind l (Some r) = Some (record { events = behind l r.events; value = r.value; after = r.after })

abbrev pub go_on : Option Run → (Value → Evaluation) → Option Run
go_on None f = None
go_on (Some r) f = run_behind r.events (f r.value r.after)

abbrev pub bind : Evaluation → (Value → Evaluation) → Evaluation
bind a f env = go_on (a env) f

-- a list that throws has no value
abbrev pub settle_run : Option Run → Option Run
settle_run None = None
settle_run (Some r) = Some (record { events = r.events; value = value_behind r.events r.value; after = r.after })

abbrev pub settle : Evaluation → Evaluation
settle a env = settle_run (a env)

-- a part that may run or not, or again: what it adds to the environment ends with it
abbrev pub held_run : ℕ → Place → Option Value → Environment → Option Run → Option Run
held_run m place test env None = None
held_run m place test env (Some r) = Some (record { events = then (Held m place test r.events (value_behind r.events r.value)) none; value = ResultOf m; after = env })

abbrev pub held : ℕ → Place → Option Value → Evaluation → Evaluation
held m place test a env = held_run m place test env (a env)

-- the value alone
abbrev pub quiet_run : Environment → Option Run → Option Run
quiet_run env None = None
quiet_run env (Some r) = Some (record { events = none; value = value_behind r.events r.value; after = env })

abbrev pub quiet : Evaluation → Evaluation
quiet a env = quiet_run env (a env)

-- what has no event and this value
abbrev pub is_none : Events → Bool
is_none none = true
is_none (then e es) = false

abbrev pub same_run : Value → Environment → Option Run → Option Run
same_run v env None = None
same_run v env (Some r) = cond (is_none r.events && same_value v r.value) (Some (record { events = none; value = v; after = env })) None

abbrev pub stays : Value → Evaluation → Evaluation
stays v a env = same_run v env (a env)

-- what gives class n, or throws
abbrev pub class_run : ℕ → Option Run → Option Run
class_run n None = None
class_run n (Some r) = cond (throws r.events) (Some r) (cond (is_class_value n r.value) (Some r) None)

abbrev pub gives_class : ℕ → Evaluation → Evaluation
gives_class n a env = class_run n (a env)

-- what gives `this` of class n, or throws
abbrev pub this_run : ℕ → Option Run → Option Run
this_run n None = None
this_run n (Some r) = cond (throws r.events) (Some r) (cond (same_value (ThisOf n) r.value) (Some r) None)

abbrev pub gives_this : ℕ → Evaluation → Evaluation
gives_this n a env = this_run n (a env)

-- ---- names

abbrev pub found : String → Environment → Option Value
found s [] = None
found s (p ∷ ps) = cond (bytes_eq s p.0) (Some p.1) (found s ps)

abbrev pub give_found : Option Value → Evaluation
give_found None = no_meaning
give_found (Some v) = gives v

abbrev pub read_given : String → Evaluation
read_given s env = give_found (found s env) env

abbrev pub read_generated : GeneratedKind → String → Evaluation
read_generated GeneratedKind.Temp s = read_given s
read_generated GeneratedKind.Param s = read_given s
read_generated (GeneratedKind.ClassTemp n) s = gives (ClassOf n.0)
read_generated g s = no_meaning

abbrev pub read_name : ℕ → String → NameKind → Evaluation
read_name m s (Fixed b) = gives (BindingOf b)
read_name m s (Changing r) = event (ReadName m r) (ResultOf m)
read_name m s (MeansClass n b) = gives (ClassOf n)
read_name m s (Generated g) = read_generated g s
read_name m s (StaticMethod d n) = event (PrivateGet m d (ClassOf n)) (ResultOf m)

abbrev pub stands_for : String → Value → Evaluation
stands_for s v env = Some (record { events = none; value = v; after = (s, v) ∷ env })

-- what a binding holds is no value of a temporary, which may be read where the binding holds another one, nor is a class
abbrev pub is_binding_value : Value → Bool
is_binding_value (BindingOf b) = true
is_binding_value (ClassOf n) = true
is_binding_value (KeyOf v) = is_binding_value v
is_binding_value v = false

abbrev pub kept_as : String → Value → Evaluation
kept_as s v = cond (is_binding_value v) no_meaning (stands_for s v)

-- a generated element of a class is evaluated whatever its value is, and holds one that a temporary may hold
abbrev pub element_holds : String → Value → Evaluation
element_holds s v = cond (is_binding_value v) (gives v) (stands_for s v)

-- nor is its key, of which a temporary of number m only tells that it is one: it stands for a value that nothing of the
-- source has, and may still name a function or a class, which asks for no value
abbrev pub given_as : ℕ → String → Value → Evaluation
given_as m s (KeyOf v) = stands_for s (cond (is_binding_value v) (ResultOf m) (KeyOf v))
given_as m s v = kept_as s v

abbrev pub write_generated : ℕ → GeneratedKind → String → Value → Evaluation
write_generated m GeneratedKind.Temp s v = given_as m s v
write_generated m g s v = no_meaning

abbrev pub write_name : ℕ → String → NameKind → Value → Evaluation
write_name m s (Fixed b) v = event (SetName (Bound b) v) v
write_name m s (Changing r) v = event (SetName r v) v
-- the own name of a class is constant (15.7.14)
write_name m s (MeansClass n b) v = event Throw Undefined
write_name m s (Generated g) v = write_generated m g s v
write_name m s (StaticMethod d n) v = no_meaning

-- what a generated private element and a default export hold stands under names that no identifier has
abbrev pub private_key : String → String
private_key s = 35 ∷ s

abbrev pub default_key : String
default_key = 42 ∷ []

-- what was added to an environment, and of that what private elements hold, which are seen in their class alone
abbrev pub added : Environment → Environment → ℕ
added (p ∷ after) (q ∷ env) = added after env
added after env = length after

abbrev pub is_private_key : String → Bool
is_private_key [] = false
is_private_key (c ∷ cs) = nat_eq c 35

abbrev pub without_private : ℕ → Environment → Environment
without_private zero env = env
without_private (suc k) [] = []
without_private (suc k) (p ∷ env) = cond (is_private_key p.0) (without_private k env) (p ∷ without_private k env)

abbrev pub only_private : ℕ → Environment → Environment
only_private zero env = []
only_private (suc k) [] = []
only_private (suc k) (p ∷ env) = cond (is_private_key p.0) (p ∷ only_private k env) (only_private k env)

abbrev pub outside_run : Environment → Option Run → Option Run
outside_run env None = None
outside_run env (Some r) = Some (record { events = r.events; value = r.value; after = without_private (added r.after env) r.after })

abbrev pub outside : Evaluation → Evaluation
outside a env = outside_run env (a env)

-- ---- private members

abbrev pub read_private : ℕ → Option ℕ → Value → Evaluation
read_private m None o = event Throw Undefined
read_private m (Some d) o = event (PrivateGet m d o) (ResultOf m)

abbrev pub write_private : Option ℕ → Value → Value → Evaluation
write_private None o v = event Throw Undefined
write_private (Some d) o v = event (PrivateSet d o v) v

-- ---- targets whose operands have their values

pub data Ready : Type 0 where
  ready_name : (m : ℕ) (s : String) (kind : NameKind) → Ready
  ready_member : (m : ℕ) (o k : Value) → Ready
  ready_private : (m : ℕ) (reads writes : Option ℕ) (o : Value) → Ready
  ready_super : (m : ℕ) (home : Home) (k this : Value) → Ready
  -- what is written alone
  ready_setter : (d : ℕ) (o : Value) → Ready
  ready_pattern : (write : Value → Evaluation) → Ready

abbrev pub read_ready : Ready → Evaluation
read_ready (ready_name m s kind) = read_name m s kind
read_ready (ready_member m o k) = event (Get m o k) (ResultOf m)
read_ready (ready_private m reads writes o) = read_private m reads o
read_ready (ready_super m home k this) = event (SuperGet m home k this) (ResultOf m)
read_ready (ready_setter d o) = no_meaning
read_ready (ready_pattern write) = no_meaning

abbrev pub write_ready : Ready → Value → Evaluation
write_ready (ready_name m s kind) v = write_name m s kind v
write_ready (ready_member m o k) v = event (Set o k v) v
write_ready (ready_private m reads writes o) v = write_private writes o v
write_ready (ready_super m home k this) v = event (SuperSet home k v this) v
write_ready (ready_setter d o) v = event (PrivateSet d o v) v
write_ready (ready_pattern write) v = write v

-- ---- what a field does when its value is there

abbrev pub initialized : FieldForm → Value → Value → Value → Evaluation
initialized defines o k v = event (Define o (as_key k) v) Undefined
initialized sets o k v = event (Set o (as_key k) v) Undefined
initialized leaves_out o k v = gives Undefined

abbrev pub last_of : Value → List Value → Value
last_of v [] = v
last_of v (w ∷ ws) = last_of w ws

-- the operation of a compound assignment is that of the binary expression
abbrev pub binary : String → Operation
binary operator = OfKind Kind.BinaryExpression (Spelled operator ∷ Operand ∷ Operand ∷ [])

abbrev pub operator_step : ℕ → String → Value → Value → Evaluation
operator_step m operator a b = event (Operate m (binary operator) (a ∷ b ∷ [])) (ResultOf m)

abbrev pub new_or_former : Bool → ℕ → Value
new_or_former true m = ResultOf m
new_or_former false m = FormerOf m

-- the receiver of a callee, as a value; that at the end of a chain is read by itself
abbrev pub nullable_gives : Option Value → Evaluation
nullable_gives None = gives Undefined
nullable_gives (Some v) = gives v

abbrev pub has_receiver : Callee → Bool
has_receiver (plain e) = false
has_receiver (checked f) = has_receiver f
has_receiver (on_chain m f) = has_receiver f
has_receiver (behind_test o again f) = has_receiver f
has_receiver f = true

abbrev pub receiver_in : Bool → Option Run → Option Value
receiver_in true (Some r) = Some (value_behind r.events r.value)
receiver_in has r = None

-- ---- templates

abbrev pub cooked_details : Option String → List Detail → List Detail
cooked_details None ds = Empty ∷ ds
cooked_details (Some s) ds = Spelled s ∷ ds

abbrev pub template_details : List TemplateString → List Detail
template_details [] = []
template_details (t ∷ ts) = Spelled t.raw ∷ cooked_details t.cooked (Flag t.is_tail ∷ template_details ts)

abbrev pub template_constant : String → Option String → Constant
template_constant raw None = RawTemplate raw
template_constant raw (Some s) = StringOf s

-- a template without expressions is a constant, one whose string is not said to be the last of a kind of its own
abbrev pub ev_template : ℕ → List TemplateString → List Value → Evaluation
ev_template m (t ∷ []) [] = gives (ConstantOf (cond t.is_tail (template_constant t.raw t.cooked) (TagString t.raw t.cooked)))
ev_template m ts vs = event (Operate m (OfKind Kind.TemplateLiteral (template_details ts)) vs) (ResultOf m)

-- what a tag is called with
abbrev pub tag_values : List TemplateString → List Value → List Value
tag_values [] vs = vs
tag_values (t ∷ ts) vs = ConstantOf (TagString t.raw t.cooked) ∷ tag_values ts vs

-- the parameters of a function that is called where it stands stand for the arguments
abbrev pub bind_parameters : List String → List Value → Evaluation
bind_parameters [] [] = gives Undefined
bind_parameters (s ∷ ss) (v ∷ vs) = bind (stands_for s v) (λ w. bind_parameters ss vs)
bind_parameters ss vs = no_meaning

-- what stands before the test, what stands for it again, and the rest of the chain
abbrev pub tested_then : Evaluation → (Value → Evaluation) → Evaluation → Evaluation
tested_then a again b = bind a (λ v. bind (again v) (λ u. bind (event (Short v) v) (λ w. b)))

-- ---- the private methods of instances

abbrev pub has_instance_methods : Codes → Bool
has_instance_methods done = false
has_instance_methods (and (private_method false d f) cs) = true
has_instance_methods (and c cs) = has_instance_methods cs

abbrev pub brand_first : Bool → ℕ → Evaluation
brand_first true n = event (AddBrand n (ThisOf n)) Undefined
brand_first false n = gives Undefined

-- a class that is declared, or whose heritage or keys read its name, gets it before its static elements (15.7.14)
abbrev pub declared_first : Option ℕ → ℕ → Evaluation
declared_first None n = gives Undefined
declared_first (Some b) n = event (InitializeClass n) Undefined

-- ---- the list and the value of a code; `opens` is the evaluation of what stands elsewhere

module _ (opens : Opened → Evaluation) where
  -- behind a `super(..)` of class n; a body that stands for it gives `this`
  abbrev pub ev_behind : ℕ → Option Opened → Evaluation
  ev_behind n None = gives (ThisOf n)
  ev_behind n (Some (InitializersOf k)) = bind (opens (InitializersOf k)) (λ w. gives (ThisOf n))
  ev_behind n (Some o) = gives_this n (opens o)

  abbrev mutual
    pub ev : Code → Evaluation
    ev nothing = gives Undefined
    ev no_rule = no_meaning
    ev (value v) = gives v
    ev (spelled s) = no_meaning
    ev (private_name d s r) = no_meaning
    ev (binding b s kind) = gives Undefined
    ev (rest to) = no_meaning
    ev (name m s kind) = read_name m s kind
    ev super = no_meaning
    ev (member m o k) = settle (bind (ev o) (λ a. bind (ev k) (λ b. event (Get m a b) (ResultOf m))))
    ev (private_member m r o) = settle (bind (ev o) (λ a. read_private m r.reads a))
    ev (super_member m home k this) = settle (bind (ev k) (λ b. event (SuperGet m home b this) (ResultOf m)))
    ev (private_in m test o) = settle (bind (ev o) (λ a. event (PrivateIn m test a) (ResultOf m)))
    ev (assign to e) = settle (ev_target to (λ t. bind (ev e) (λ v. bind (write_ready t v) (λ w. gives v))))
    ev (compound m op to e) = settle (ev_target to (λ t. bind (settle (bind (read_ready t) (λ a. bind (ev e) (λ b. operator_step m op a b)))) (λ v. bind (write_ready t v) (λ w. gives v))))
    ev (logical m op l r) = settle (bind (ev l) (λ a. held m (RightOf op) (Some a) (ev r)))
    ev (logical_assign m op to e) = settle (ev_target to (λ t. bind (read_ready t) (λ a. held m (RightOf op) (Some a) (bind (ev e) (λ v. write_ready t v)))))
    ev (update m op prefix to) = settle (ev_target to (λ t. bind (settle (bind (read_ready t) (λ a. event (Update m op a) (ResultOf m)))) (λ v. bind (write_ready t v) (λ w. gives (new_or_former prefix m)))))
    ev (call m f es) = settle (ev_callee f (λ callee receiver. ev_all es (λ vs. event (Call m callee receiver vs) (ResultOf m))))
    ev (tag m f ts es) = settle (ev_callee f (λ callee receiver. ev_all es (λ vs. event (Call m callee receiver (tag_values ts vs)) (ResultOf m))))
    ev (construct m f es) = settle (bind (ev f) (λ callee. ev_all es (λ vs. event (Construct m callee vs) (ResultOf m))))
    ev (super_call m n o es) = settle (ev_all es (λ vs. bind (event (SuperCall m n vs) (ThisOf n)) (λ v. ev_behind n o)))
    ev (super_call_with_all n) = settle (bind (event (SuperCallWithAll n) (ThisOf n)) (λ v. bind (opens (InitializersOf n)) (λ w. gives (ThisOf n))))
    ev (sequence es) = settle (ev_all es (λ vs. gives (last_of Undefined vs)))
    ev (template_string t) = no_meaning
    ev (template m ts es) = settle (ev_converted m 0 es (λ vs. ev_template m ts vs))
    ev (operation m op es parts) = settle (ev_all es (λ vs. ev_held m 0 parts (event (Operate m op vs) (ResultOf m))))
    ev (piece ds es) = no_meaning
    ev (chain m e) = held m (Part 0) None (ev e)
    ev (short e) = settle (bind (ev e) (λ v. event (Short v) v))
    ev (tested o again e) = settle (tested_then (ev o) (λ v. ev_again v again) (ev e))
    -- a declarator that is a pattern has an initializer (14.3.1, 14.3.2)
    ev (pattern m to) = no_meaning
    ev (takes m ds k to) = no_meaning
    ev (steps es) = settle (ev_all es (λ vs. gives Undefined))
    ev (gives_to m to) = settle (ev_target to (λ t. bind (write_ready t (ResultOf m)) (λ w. gives Undefined)))
    ev (export_default e) = settle (bind (ev e) (λ v. stands_for default_key v))
    ev (function f form own_name ps body) = gives (FunctionOf f)
    ev (new_function f form ps body) = no_meaning
    ev (new_return es) = no_meaning
    ev (class_code n declared h es) = outside (settle (ev_all h (λ vs. ev_keys es (λ ks. bind (declared_first declared n) (λ u. bind (ev_statics n ks es) (λ w. gives (ClassOf n)))))))
    ev (field is_static form k e) = no_meaning
    ev (private_field is_static d e) = no_meaning
    ev (method is_static kind k f) = no_meaning
    ev (private_method is_static d f) = no_meaning
    ev (constructor f) = no_meaning
    ev (static_block es) = no_meaning
    ev (generated_element s e) = no_meaning
    ev (from_call e) = ev e
    ev (from_member e) = ev e
    ev (key_of e) = settle (bind (ev e) (λ v. gives (KeyOf (as_key v))))
    ev (helper h) = no_meaning
    ev (helper_call m h es) = no_meaning
    ev throw = event Throw Undefined
    ev (define m o k e) = settle (bind (ev k) (λ a. bind (ev e) (λ v. event (Define o (as_key a) v) (ResultOf m))))
    ev (private_initialize m d o e) = settle (bind (ev e) (λ v. event (PrivateInitialize d o v) (ResultOf m)))
    ev (add_brand m n o) = event (AddBrand n o) (ResultOf m)
    ev (bound f o) = no_meaning
    ev (setter m d o) = no_meaning
    ev (private_value s) = read_given (private_key s)
    ev (call_arrow ss body es) = settle (ev_all es (λ vs. bind (bind_parameters ss vs) (λ u. ev body)))
    ev (call_closure s es) = settle (ev_all es (λ vs. opens (BodyOf s)))
    ev (initializers n) = opens (InitializersOf n)
    ev (give_function m s g f) = gives (ResultOf m)
    ev (give_class n e) = gives_class n (ev e)

    pub ev_target : Target → (Ready → Evaluation) → Evaluation
    ev_target (to_name m s kind) f = f (ready_name m s kind)
    ev_target (to_member m o k) f = bind (ev o) (λ a. bind (ev k) (λ b. f (ready_member m a b)))
    ev_target (to_private m r o) f = bind (ev o) (λ a. f (ready_private m r.reads r.writes a))
    ev_target (to_super m home k this) f = bind (ev k) (λ b. f (ready_super m home b this))
    ev_target (to_setter m d o) f = bind (ev o) (λ a. f (ready_setter d a))
    ev_target (to_pattern m kind cs) f = f (ready_pattern (λ v. bind (event (Operate m (OfKind kind []) (v ∷ [])) v) (λ u. ev_taken v cs)))
    ev_target (to_default m to e) f = ev_target to (λ t. f (ready_pattern (λ v. bind (held m Default (Some v) (ev e)) (λ w. write_ready t w))))
    ev_target no_target f = no_meaning

    -- the members of a pattern, which take from v
    pub ev_taken : Value → Codes → Evaluation
    ev_taken v done = gives Undefined
    ev_taken v (and c cs) = bind (ev_take v c) (λ u. ev_taken v cs)

    pub ev_take : Value → Code → Evaluation
    ev_take v (takes m ds k to) = ev_all k (λ ks. ev_target to (λ t. bind (event (Operate m (Take ds) (v ∷ ks)) (ResultOf m)) (λ w. write_ready t w)))
    ev_take v (operation m op done done) = event (Operate m op (v ∷ [])) Undefined
    ev_take v c = no_meaning

    pub ev_callee : Callee → (Value → Option Value → Evaluation) → Evaluation
    ev_callee (plain e) f = bind (ev e) (λ v. f v None)
    ev_callee (on_member m o k) f = bind (ev o) (λ a. bind (ev k) (λ b. bind (event (Get m a b) (ResultOf m)) (λ v. f v (Some a))))
    ev_callee (on_private m r o) f = bind (ev o) (λ a. bind (read_private m r.reads a) (λ v. f v (Some a)))
    ev_callee (on_super m home k this) f = bind (ev k) (λ b. bind (event (SuperGet m home b this) (ResultOf m)) (λ v. f v (Some this)))
    ev_callee (with_receiver e o) f = bind (ev e) (λ v. bind (ev o) (λ a. f v (Some a)))
    ev_callee (checked g) f = ev_callee g (λ v receiver. bind (event (Short v) v) (λ w. f v receiver))
    ev_callee (on_chain m g) f = λ env. go_on (held m (Part 0) None (ev_callee g (λ v receiver. gives v)) env) (λ v. f v (receiver_in (has_receiver g) (ev_callee g (λ w receiver. nullable_gives receiver) env)))
    ev_callee (behind_test o again g) f = tested_then (ev o) (λ v. ev_again v again) (ev_callee g f)

    -- what stands for a tested object again
    pub ev_again : Value → Codes → Evaluation
    ev_again v done = gives Undefined
    ev_again v (and c cs) = stays v (ev c)

    pub ev_all : Codes → (List Value → Evaluation) → Evaluation
    ev_all done f = f []
    ev_all (and e es) f = bind (ev e) (λ v. ev_all es (λ vs. f (v ∷ vs)))

    -- the expressions of template m from the i-th on, each made a string before the next one is evaluated (13.2.8.5)
    pub ev_converted : ℕ → ℕ → Codes → (List Value → Evaluation) → Evaluation
    ev_converted m i done f = f []
    ev_converted m i (and e es) f = bind (ev e) (λ v. bind (event (Operate m (Take (Index i ∷ [])) (v ∷ [])) v) (λ w. ev_converted m (suc i) es (λ vs. f (v ∷ vs))))

    -- parts from the i-th on, each with a list of its own
    pub ev_held : ℕ → ℕ → Codes → Evaluation → Evaluation
    ev_held m i done a = a
    ev_held m i (and e es) a = bind (held m (Part i) None (ev e)) (λ v. ev_held m (suc i) es a)

    -- the keys of the elements in order: those that are not computed are constants and have no event
    pub ev_keys : Codes → (List Value → Evaluation) → Evaluation
    ev_keys done f = f []
    ev_keys (and e es) f = bind (ev_key e) (λ v. ev_keys es (λ vs. f (v ∷ vs)))

    pub ev_key : Code → Evaluation
    ev_key (field is_static form k e) = ev k
    ev_key (method is_static kind k f) = ev k
    ev_key (private_field is_static d e) = gives Undefined
    ev_key (private_method is_static d f) = gives Undefined
    ev_key (constructor f) = gives Undefined
    ev_key (static_block es) = gives Undefined
    ev_key (generated_element s e) = gives Undefined
    ev_key e = no_meaning

    -- static fields and static blocks in order, with the values of the keys
    pub ev_statics : ℕ → List Value → Codes → Evaluation
    ev_statics n (k ∷ ks) (and e es) = bind (ev_static n k e) (λ v. ev_statics n ks es)
    ev_statics n ks es = gives Undefined

    pub ev_static : ℕ → Value → Code → Evaluation
    ev_static n a (field true form k e) = bind (ev e) (λ v. initialized form (ClassOf n) a v)
    ev_static n a (private_field true d e) = bind (ev e) (λ v. event (PrivateInitialize d (ClassOf n) v) Undefined)
    ev_static n a (static_block es) = ev_all es (λ vs. gives Undefined)
    ev_static n a (generated_element s e) = bind (ev e) (λ v. element_holds (private_key s) v)
    ev_static n a e = gives Undefined

    -- instance fields in order, each its value and then its definition
    pub ev_fields : ℕ → Codes → Evaluation
    ev_fields n done = gives Undefined
    ev_fields n (and e es) = bind (ev_field n e) (λ v. ev_fields n es)

    pub ev_field : ℕ → Code → Evaluation
    ev_field n (field false form k e) = bind (quiet (ev k)) (λ a. bind (ev e) (λ v. initialized form (ThisOf n) a v))
    ev_field n (private_field false d e) = bind (ev e) (λ v. event (PrivateInitialize d (ThisOf n) v) Undefined)
    ev_field n e = gives Undefined

  -- what a construction of class n does with these elements
  abbrev pub ev_initializers : ℕ → Codes → Evaluation
  ev_initializers n es = bind (brand_first (has_instance_methods es) n) (λ v. ev_fields n es)
