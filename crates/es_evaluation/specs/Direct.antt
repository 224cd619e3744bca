-- Evaluation over a state, in direct style: what the code of this crate computes. It is the evaluation of the
-- definitions (`es_steps`, `Evaluation`), which `Same` in proofs shows. (ECMA-262, 13 to 15.)
use Rattle.std.specs.Prelude.{ℕ, zero, suc, List, [], ◌∷◌, ◌++◌, ◌-◌, Bool, true, false, cond, ◌||◌, ◌&&◌, length, drop, Option, Some, None, option_map}
use Rattle.es_base.specs.declared.kind.Kind.{Kind}
use Rattle.es_base.specs.declared.ledger.GeneratedKind.{GeneratedKind}
use Rattle.es_steps.specs.Code.{Code, Codes, Target, Callee, FieldForm, defines, sets, leaves_out, TemplateString, Opened, InitializersOf, BodyOf, nothing, no_rule, value, spelled, private_name, binding, rest, name, super, member, private_member, super_member, private_in, assign, compound, logical, logical_assign, update, call, tag, construct, super_call, super_call_with_all, sequence, template_string, template, operation, piece, chain, short, tested, pattern, takes, steps, gives_to, export_default, function, new_function, new_return, class_code, field, private_field, method, private_method, constructor, static_block, generated_element, from_call, from_member, key_of, helper, helper_call, throw, define, private_initialize, add_brand, bound, setter, private_value, call_arrow, call_closure, initializers, give_function, give_class, to_name, to_member, to_private, to_super, to_setter, to_pattern, to_default, no_target, plain, on_member, on_private, on_super, with_receiver, checked, on_chain, behind_test, done, and}
use Rattle.es_steps.specs.Context.{NameKind, Fixed, Changing, MeansClass, Generated, StaticMethod}
use Rattle.es_steps.specs.Evaluation.{Environment, added, without_private, found, private_key, default_key, last_of, binary, new_or_former, is_binding_value, template_details, template_constant, tag_values, has_instance_methods}
use Rattle.es_steps.specs.Events.{OfKind, Take, Index, Place, RightOf, Default, Part, ReadName, SetName, Get, Set, Define, Call, Construct, Operate, Update, PrivateGet, PrivateSet, PrivateInitialize, PrivateIn, AddBrand, SuperGet, SuperSet, SuperCall, SuperCallWithAll, InitializeClass, Throw, Short}
use Rattle.es_steps.specs.Opening.{Definition, of_class, of_name, of_called, definition_of, without_definition}
use Rattle.es_steps.specs.SameValues.{same_value}
use Rattle.es_steps.specs.Values.{String, Value, ConstantOf, Undefined, BindingOf, FunctionOf, ClassOf, ThisOf, ResultOf, KeyOf, TagString, Bound, as_key, is_class_value}
use Rattle.es_evaluation.specs.Flat.{Token, single, begin, ends}

-- the temporaries, the last given first; the tokens so far; whether a throw stands in this form
pub record State : Type 0 where
  pub names : Environment
  pub tokens : List Token
  pub has_thrown : Bool

-- what is evaluated from a state gives a value and a state, or has no meaning
abbrev pub Step : Type 0 → Type 0
Step A = State → Option (A × State)

-- ---- steps, and one behind another

abbrev pub no_meaning : {A : Type 0} → Step A
no_meaning s = None

abbrev pub gives : {A : Type 0} → A → Step A
gives x s = Some (x, s)

abbrev pub next : {A B : Type 0} → Option (A × State) → (A → Step B) → Option (B × State)
next None f = None
next (Some p) f = f p.0 p.1

abbrev pub and_then : {A B : Type 0} → Step A → (A → Step B) → Step B
and_then a f s = next (a s) f

abbrev pub pushed : List Token → Token → List Token
pushed ts t = ts ++ t ∷ []

abbrev pub with_token : Token → State → State
with_token t s = record { names = s.names; tokens = pushed s.tokens t; has_thrown = s.has_thrown }

-- an event that does not throw, with its value
abbrev pub emit : Token → Value → Step Value
emit t v s = Some (v, with_token t s)

-- an access that always throws
abbrev pub thrown : State → State
thrown s = record { names = s.names; tokens = pushed s.tokens (single Throw); has_thrown = true }

abbrev pub throws : Step Value
throws s = Some (Undefined, thrown s)

-- a list that throws has no value
abbrev pub unless_thrown : State → Value → Value
unless_thrown s v = cond s.has_thrown Undefined v

abbrev pub entered : State → State
entered s = record { names = s.names; tokens = s.tokens; has_thrown = false }

abbrev pub left : Bool → State → State
left outer s = record { names = s.names; tokens = s.tokens; has_thrown = outer || s.has_thrown }

abbrev pub settle_with : Bool → Option (Value × State) → Option (Value × State)
settle_with outer None = None
settle_with outer (Some p) = Some (unless_thrown p.1 p.0, left outer p.1)

abbrev pub settled : Step Value → Step Value
settled a s = settle_with s.has_thrown (a (entered s))

-- behind a class the private names that it added are forgotten
abbrev pub without_own : Environment → State → State
without_own names s = record { names = without_private (added s.names names) s.names; tokens = s.tokens; has_thrown = s.has_thrown }

abbrev pub outside_with : Environment → Option (Value × State) → Option (Value × State)
outside_with names None = None
outside_with names (Some p) = Some (p.0, without_own names p.1)

abbrev pub outside : Step Value → Step Value
outside a s = outside_with s.names (a s)

-- ---- parts that may run or not, or again: what they add to the names ends with them

-- the n names that were given first
abbrev pub kept : ℕ → Environment → Environment
kept n names = drop (length names - n) names

abbrev pub opened : State → State
opened s = record { names = s.names; tokens = pushed s.tokens begin; has_thrown = false }

-- behind the part, which began in s and came to t
abbrev pub closed : State → State → Token → State
closed s t token = record { names = kept (length s.names) t.names; tokens = pushed t.tokens token; has_thrown = s.has_thrown }

abbrev pub close : ℕ → Place → Option Value → State → Option (Value × State) → Option (Value × State)
close m place test s None = None
close m place test s (Some p) = Some (ResultOf m, closed s p.1 (ends m place test (unless_thrown p.1 p.0)))

abbrev pub held : ℕ → Place → Option Value → Step Value → Step Value
held m place test a s = close m place test s (a (opened s))

-- a callee at the end of a chain, and its receiver
abbrev pub close_callee : ℕ → State → Option ((Value × Option Value) × State) → Option ((Value × Option Value) × State)
close_callee m s None = None
close_callee m s (Some p) = Some ((ResultOf m, option_map (unless_thrown p.1) p.0.1), closed s p.1 (ends m (Part 0) None (unless_thrown p.1 p.0.0)))

abbrev pub held_callee : ℕ → Step (Value × Option Value) → Step (Value × Option Value)
held_callee m a s = close_callee m s (a (opened s))

-- ---- the value alone

abbrev pub apart : State → State
apart s = record { names = s.names; tokens = []; has_thrown = false }

abbrev pub quiet_with : State → Option (Value × State) → Option (Value × State)
quiet_with s None = None
quiet_with s (Some p) = Some (unless_thrown p.1 p.0, s)

abbrev pub quiet : Step Value → Step Value
quiet a s = quiet_with s (a (apart s))

abbrev pub is_none : List Token → Bool
is_none [] = true
is_none (t ∷ ts) = false

-- what has no event and this value
abbrev pub stays_with : Value → State → Option (Value × State) → Option (Value × State)
stays_with v s None = None
stays_with v s (Some p) = cond (is_none p.1.tokens && same_value v p.0) (Some (v, s)) None

abbrev pub stays : Value → Step Value → Step Value
stays v a s = stays_with v s (a (apart s))

-- what gives class n, or throws
abbrev pub class_with : ℕ → Bool → Option (Value × State) → Option (Value × State)
class_with n outer None = None
class_with n outer (Some p) = cond (p.1.has_thrown || is_class_value n p.0) (Some (p.0, left outer p.1)) None

abbrev pub gives_class : ℕ → Step Value → Step Value
gives_class n a s = class_with n s.has_thrown (a (entered s))

-- what gives `this` of class n, or throws
abbrev pub this_with : ℕ → Bool → Option (Value × State) → Option (Value × State)
this_with n outer None = None
this_with n outer (Some p) = cond (p.1.has_thrown || same_value (ThisOf n) p.0) (Some (p.0, left outer p.1)) None

abbrev pub gives_this : ℕ → Step Value → Step Value
gives_this n a s = this_with n s.has_thrown (a (entered s))

-- ---- names

abbrev pub give_found : Option Value → Step Value
give_found None = no_meaning
give_found (Some v) = gives v

abbrev pub read_given : String → Step Value
read_given x s = give_found (found x s.names) s

abbrev pub read_generated : GeneratedKind → String → Step Value
read_generated GeneratedKind.Temp x = read_given x
read_generated GeneratedKind.Param x = read_given x
read_generated (GeneratedKind.ClassTemp n) x = gives (ClassOf n.0)
read_generated g x = no_meaning

abbrev pub read_name : ℕ → String → NameKind → Step Value
read_name m x (Fixed b) = gives (BindingOf b)
read_name m x (Changing r) = emit (single (ReadName m r)) (ResultOf m)
read_name m x (MeansClass n b) = gives (ClassOf n)
read_name m x (Generated g) = read_generated g x
read_name m x (StaticMethod d n) = emit (single (PrivateGet m d (ClassOf n))) (ResultOf m)

abbrev pub with_name : String → Value → State → State
with_name x v s = record { names = (x, v) ∷ s.names; tokens = s.tokens; has_thrown = s.has_thrown }

abbrev pub stands_for : String → Value → Step Value
stands_for x v s = Some (v, with_name x v s)

-- what a binding holds is no value of a temporary
abbrev pub kept_as : String → Value → Step Value
kept_as x v = cond (is_binding_value v) no_meaning (stands_for x v)

-- a generated element is evaluated whatever its value is
abbrev pub element_holds : String → Value → Step Value
element_holds x v = cond (is_binding_value v) (gives v) (stands_for x v)

-- nor is its key
abbrev pub given_as : ℕ → String → Value → Step Value
given_as m x (KeyOf v) = stands_for x (cond (is_binding_value v) (ResultOf m) (KeyOf v))
given_as m x v = kept_as x v

abbrev pub write_generated : ℕ → GeneratedKind → String → Value → Step Value
write_generated m GeneratedKind.Temp x v = given_as m x v
write_generated m g x v = no_meaning

abbrev pub write_name : ℕ → String → NameKind → Value → Step Value
write_name m x (Fixed b) v = emit (single (SetName (Bound b) v)) v
write_name m x (Changing r) v = emit (single (SetName r v)) v
write_name m x (MeansClass n b) v = throws
write_name m x (Generated g) v = write_generated m g x v
write_name m x (StaticMethod d n) v = no_meaning

-- ---- private members

abbrev pub read_private : ℕ → Option ℕ → Value → Step Value
read_private m None o = throws
read_private m (Some d) o = emit (single (PrivateGet m d o)) (ResultOf m)

abbrev pub write_private : Option ℕ → Value → Value → Step Value
write_private None o v = throws
write_private (Some d) o v = emit (single (PrivateSet d o v)) v

-- ---- what a field does when its value is there

abbrev pub initialized : FieldForm → Value → Value → Value → Step Value
initialized defines o k v = emit (single (Define o (as_key k) v)) Undefined
initialized sets o k v = emit (single (Set o (as_key k) v)) Undefined
initialized leaves_out o k v = gives Undefined

-- ---- the values of the operands of a target

pub data Operands : Type 0 where
  no_operand : Operands
  one_operand : (a : Value) → Operands
  two_operands : (a b : Value) → Operands

abbrev pub ev_template : ℕ → List TemplateString → List Value → Step Value
ev_template m (t ∷ []) [] = gives (ConstantOf (cond t.is_tail (template_constant t.raw t.cooked) (TagString t.raw t.cooked)))
ev_template m ts vs = emit (single (Operate m (OfKind Kind.TemplateLiteral (template_details ts)) vs)) (ResultOf m)

abbrev pub bind_parameters : List String → List Value → Step Value
bind_parameters [] [] = gives Undefined
bind_parameters (x ∷ xs) (v ∷ vs) = and_then (stands_for x v) (λ w. bind_parameters xs vs)
bind_parameters xs vs = no_meaning

abbrev pub brand_first : Bool → ℕ → Step Value
brand_first true n = emit (single (AddBrand n (ThisOf n))) Undefined
brand_first false n = gives Undefined

abbrev pub declared_first : Option ℕ → ℕ → Step Value
declared_first None n = gives Undefined
declared_first (Some b) n = emit (single (InitializeClass n)) Undefined

-- in a chain, a test of an object, and what stands for it again
abbrev pub test_with : Step Value → (Value → Step Value) → Step Value
test_with a again = and_then a (λ v. and_then (again v) (λ u. emit (single (Short v)) v))

-- ---- the value of a code; `opens` is what stands elsewhere

module _ (opens : Opened → Step Value) where
  abbrev pub ev_behind : ℕ → Option Opened → Step Value
  ev_behind n None = gives (ThisOf n)
  ev_behind n (Some (InitializersOf k)) = and_then (opens (InitializersOf k)) (λ w. gives (ThisOf n))
  ev_behind n (Some o) = gives_this n (opens o)

  abbrev mutual
    -- the value of a code is `settled` of its form
    pub form : Code → Step Value
    form nothing = gives Undefined
    form no_rule = no_meaning
    form (value v) = gives v
    form (spelled x) = no_meaning
    form (private_name d x r) = no_meaning
    form (binding b x kind) = gives Undefined
    form (rest to) = no_meaning
    form (name m x kind) = read_name m x kind
    form super = no_meaning
    form (member m o k) = and_then (settled (form o)) (λ a. and_then (settled (form k)) (λ b. emit (single (Get m a b)) (ResultOf m)))
    form (private_member m r o) = and_then (settled (form o)) (λ a. read_private m r.reads a)
    form (super_member m home k this) = and_then (settled (form k)) (λ b. emit (single (SuperGet m home b this)) (ResultOf m))
    form (private_in m asks o) = and_then (settled (form o)) (λ a. emit (single (PrivateIn m asks a)) (ResultOf m))
    form (assign to e) = and_then (operands to) (λ t. and_then (settled (form e)) (λ v. and_then (write to t v) (λ w. gives v)))
    form (compound m op to e) = and_then (operands to) (λ t. and_then (settled (and_then (read to t) (λ a. and_then (settled (form e)) (λ b. emit (single (Operate m (binary op) (a ∷ b ∷ []))) (ResultOf m))))) (λ v. and_then (write to t v) (λ w. gives v)))
    form (logical m op l r) = and_then (settled (form l)) (λ a. held m (RightOf op) (Some a) (settled (form r)))
    form (logical_assign m op to e) = and_then (operands to) (λ t. and_then (read to t) (λ a. held m (RightOf op) (Some a) (and_then (settled (form e)) (λ v. write to t v))))
    form (update m op prefix to) = and_then (operands to) (λ t. and_then (settled (and_then (read to t) (λ a. emit (single (Update m op a)) (ResultOf m)))) (λ v. and_then (write to t v) (λ w. gives (new_or_former prefix m))))
    form (call m f es) = and_then (callee f) (λ c. and_then (all [] es) (λ vs. emit (single (Call m c.0 c.1 vs)) (ResultOf m)))
    form (tag m f ts es) = and_then (callee f) (λ c. and_then (all [] es) (λ vs. emit (single (Call m c.0 c.1 (tag_values ts vs))) (ResultOf m)))
    form (construct m f es) = and_then (settled (form f)) (λ c. and_then (all [] es) (λ vs. emit (single (Construct m c vs)) (ResultOf m)))
    form (super_call m n o es) = and_then (all [] es) (λ vs. and_then (emit (single (SuperCall m n vs)) (ThisOf n)) (λ v. ev_behind n o))
    form (super_call_with_all n) = and_then (emit (single (SuperCallWithAll n)) (ThisOf n)) (λ v. and_then (opens (InitializersOf n)) (λ w. gives (ThisOf n)))
    form (sequence es) = and_then (all [] es) (λ vs. gives (last_of Undefined vs))
    form (template_string t) = no_meaning
    form (template m ts es) = and_then (converted m 0 [] es) (λ vs. ev_template m ts vs)
    form (operation m op es ps) = and_then (all [] es) (λ vs. and_then (parts m 0 ps) (λ u. emit (single (Operate m op vs)) (ResultOf m)))
    form (piece ds es) = no_meaning
    form (chain m e) = held m (Part 0) None (settled (form e))
    form (short e) = and_then (settled (form e)) (λ v. emit (single (Short v)) v)
    form (tested o again e) = and_then (test_with (settled (form o)) (λ v. once_more v again)) (λ w. settled (form e))
    form (pattern m to) = no_meaning
    form (takes m ds k to) = no_meaning
    form (steps es) = and_then (all [] es) (λ vs. gives Undefined)
    form (gives_to m to) = and_then (operands to) (λ t. and_then (write to t (ResultOf m)) (λ w. gives Undefined))
    form (export_default e) = and_then (settled (form e)) (λ v. stands_for default_key v)
    form (function f shape own_name ps body) = gives (FunctionOf f)
    form (new_function f shape ps body) = no_meaning
    form (new_return es) = no_meaning
    form (class_code n declared h es) = outside (and_then (all [] h) (λ vs. and_then (keys [] es) (λ ks. and_then (declared_first declared n) (λ u. and_then (statics n ks es) (λ w. gives (ClassOf n))))))
    form (field is_static shape k e) = no_meaning
    form (private_field is_static d e) = no_meaning
    form (method is_static kind k f) = no_meaning
    form (private_method is_static d f) = no_meaning
    form (constructor f) = no_meaning
    form (static_block es) = no_meaning
    form (generated_element x e) = no_meaning
    form (from_call e) = settled (form e)
    form (from_member e) = settled (form e)
    form (key_of e) = and_then (settled (form e)) (λ v. gives (KeyOf (as_key v)))
    form (helper h) = no_meaning
    form (helper_call m h es) = no_meaning
    form throw = throws
    form (define m o k e) = and_then (settled (form k)) (λ a. and_then (settled (form e)) (λ v. emit (single (Define o (as_key a) v)) (ResultOf m)))
    form (private_initialize m d o e) = and_then (settled (form e)) (λ v. emit (single (PrivateInitialize d o v)) (ResultOf m))
    form (add_brand m n o) = emit (single (AddBrand n o)) (ResultOf m)
    form (bound f o) = no_meaning
    form (setter m d o) = no_meaning
    form (private_value x) = read_given (private_key x)
    form (call_arrow xs body es) = and_then (all [] es) (λ vs. and_then (bind_parameters xs vs) (λ u. settled (form body)))
    form (call_closure x es) = and_then (all [] es) (λ vs. opens (BodyOf x))
    form (initializers n) = opens (InitializersOf n)
    form (give_function m x g f) = gives (ResultOf m)
    form (give_class n e) = gives_class n (settled (form e))

    pub operands : Target → Step Operands
    operands (to_name m x kind) = gives no_operand
    operands (to_member m o k) = and_then (settled (form o)) (λ a. and_then (settled (form k)) (λ b. gives (two_operands a b)))
    operands (to_private m r o) = and_then (settled (form o)) (λ a. gives (one_operand a))
    operands (to_super m home k this) = and_then (settled (form k)) (λ b. gives (one_operand b))
    operands (to_setter m d o) = and_then (settled (form o)) (λ a. gives (one_operand a))
    operands (to_pattern m kind cs) = gives no_operand
    operands (to_default m to e) = operands to
    operands no_target = no_meaning

    pub read : Target → Operands → Step Value
    read (to_name m x kind) t = read_name m x kind
    read (to_member m o k) (two_operands a b) = emit (single (Get m a b)) (ResultOf m)
    read (to_private m r o) (one_operand a) = read_private m r.reads a
    read (to_super m home k this) (one_operand b) = emit (single (SuperGet m home b this)) (ResultOf m)
    read to t = no_meaning

    pub write : Target → Operands → Value → Step Value
    write (to_name m x kind) t v = write_name m x kind v
    write (to_member m o k) (two_operands a b) v = emit (single (Set a b v)) v
    write (to_private m r o) (one_operand a) v = write_private r.writes a v
    write (to_super m home k this) (one_operand b) v = emit (single (SuperSet home b v this)) v
    write (to_setter m d o) (one_operand a) v = emit (single (PrivateSet d a v)) v
    write (to_pattern m kind cs) t v = and_then (emit (single (Operate m (OfKind kind []) (v ∷ []))) v) (λ u. taken v cs)
    write (to_default m to e) t v = and_then (held m Default (Some v) (settled (form e))) (λ w. write to t w)
    write to t v = no_meaning

    -- the members of a pattern, which take from v
    pub taken : Value → Codes → Step Value
    taken v done = gives Undefined
    taken v (and c cs) = and_then (take v c) (λ u. taken v cs)

    pub take : Value → Code → Step Value
    take v (takes m ds k to) = and_then (all [] k) (λ ks. and_then (operands to) (λ t. and_then (emit (single (Operate m (Take ds) (v ∷ ks))) (ResultOf m)) (λ w. write to t w)))
    take v (operation m op done done) = emit (single (Operate m op (v ∷ []))) Undefined
    take v c = no_meaning

    pub callee : Callee → Step (Value × Option Value)
    callee (plain e) = and_then (settled (form e)) (λ v. gives (v, None))
    callee (on_member m o k) = and_then (settled (form o)) (λ a. and_then (settled (form k)) (λ b. and_then (emit (single (Get m a b)) (ResultOf m)) (λ v. gives (v, Some a))))
    callee (on_private m r o) = and_then (settled (form o)) (λ a. and_then (read_private m r.reads a) (λ v. gives (v, Some a)))
    callee (on_super m home k this) = and_then (settled (form k)) (λ b. and_then (emit (single (SuperGet m home b this)) (ResultOf m)) (λ v. gives (v, Some this)))
    callee (with_receiver e o) = and_then (settled (form e)) (λ v. and_then (settled (form o)) (λ a. gives (v, Some a)))
    callee (checked g) = and_then (callee g) (λ c. and_then (emit (single (Short c.0)) c.0) (λ w. gives c))
    callee (on_chain m g) = held_callee m (callee g)
    callee (behind_test o again g) = and_then (test_with (settled (form o)) (λ v. once_more v again)) (λ w. callee g)

    -- in a chain, what stands for a tested object again
    pub once_more : Value → Codes → Step Value
    once_more v done = gives Undefined
    once_more v (and c cs) = stays v (settled (form c))

    -- the values of codes in order, behind these
    pub all : List Value → Codes → Step (List Value)
    all vs done = gives vs
    all vs (and e es) = and_then (settled (form e)) (λ v. all (vs ++ v ∷ []) es)

    -- those of the expressions of template m from the i-th on, each made a string
    pub converted : ℕ → ℕ → List Value → Codes → Step (List Value)
    converted m i vs done = gives vs
    converted m i vs (and e es) = and_then (settled (form e)) (λ v. and_then (emit (single (Operate m (Take (Index i ∷ [])) (v ∷ []))) v) (λ w. converted m (suc i) (vs ++ v ∷ []) es))

    -- parts from the i-th on, each with a list of its own
    pub parts : ℕ → ℕ → Codes → Step Value
    parts m i done = gives Undefined
    parts m i (and e es) = and_then (held m (Part i) None (settled (form e))) (λ v. parts m (suc i) es)

    -- the keys of the elements in order, behind these
    pub keys : List Value → Codes → Step (List Value)
    keys vs done = gives vs
    keys vs (and e es) = and_then (key e) (λ v. keys (vs ++ v ∷ []) es)

    pub key : Code → Step Value
    key (field is_static shape k e) = settled (form k)
    key (method is_static kind k f) = settled (form k)
    key (private_field is_static d e) = gives Undefined
    key (private_method is_static d f) = gives Undefined
    key (constructor f) = gives Undefined
    key (static_block es) = gives Undefined
    key (generated_element x e) = gives Undefined
    key e = no_meaning

    -- static fields and static blocks in order, with the values of the keys
    pub statics : ℕ → List Value → Codes → Step Value
    statics n (k ∷ ks) (and e es) = and_then (static_element n k e) (λ v. statics n ks es)
    statics n ks es = gives Undefined

    pub static_element : ℕ → Value → Code → Step Value
    static_element n a (field true shape k e) = and_then (settled (form e)) (λ v. initialized shape (ClassOf n) a v)
    static_element n a (private_field true d e) = and_then (settled (form e)) (λ v. emit (single (PrivateInitialize d (ClassOf n) v)) Undefined)
    static_element n a (static_block es) = and_then (all [] es) (λ vs. gives Undefined)
    static_element n a (generated_element x e) = and_then (settled (form e)) (λ v. element_holds (private_key x) v)
    static_element n a e = gives Undefined

    -- instance fields in order, each its value and then its definition
    pub fields : ℕ → Codes → Step Value
    fields n done = gives Undefined
    fields n (and e es) = and_then (instance_field n e) (λ v. fields n es)

    pub instance_field : ℕ → Code → Step Value
    instance_field n (field false shape k e) = and_then (quiet (settled (form k))) (λ a. and_then (settled (form e)) (λ v. initialized shape (ThisOf n) a v))
    instance_field n (private_field false d e) = and_then (settled (form e)) (λ v. emit (single (PrivateInitialize d (ThisOf n) v)) Undefined)
    instance_field n e = gives Undefined

  -- what a construction of class n does with these elements
  abbrev pub construction : ℕ → Codes → Step Value
  construction n es = and_then (brand_first (has_instance_methods es) n) (λ v. fields n es)

-- ---- what is opened: a body is evaluated with all others but itself (`es_steps`, `Opening`)

abbrev pub definition : (Opened → Step Value) → Option Definition → Step Value
definition opens None = no_meaning
definition opens (Some (of_class n es)) = construction opens n es
definition opens (Some (of_name x c)) = settled (form opens c)
definition opens (Some (of_called x c)) = settled (form opens c)

-- k is the number of the definitions
abbrev pub opening_in : ℕ → List Definition → Opened → Step Value
opening_in zero ds o = no_meaning
opening_in (suc k) ds o = definition (opening_in k (without_definition o ds)) (definition_of o ds)

abbrev pub opening : List Definition → Opened → Step Value
opening ds = opening_in (length ds) ds

-- the value of a code among definitions
abbrev pub evaluated : List Definition → Code → Step Value
evaluated ds c = settled (form (opening ds) c)
