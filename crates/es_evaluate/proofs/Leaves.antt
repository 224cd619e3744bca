-- Forms that have no codes to evaluate, or one alone, and those without a meaning of their own.
use Rattle.std.proofs.Common.{◌≡◌, refl, sym, subst, ℕ, List, Bool, Option, Some, None}
use Rattle.std.specs.declared.result.Result.{Result}
use Rattle.es_base.specs.declared.ledger.GeneratedKind.{GeneratedKind}
use Rattle.es_steps.specs.Code as of
use Rattle.es_steps.specs.Code.{Code, Codes, Target, TemplateString, FunctionForm, FieldForm}
use Rattle.es_steps.specs.Context.{NameKind}
use Rattle.es_steps.specs.Evaluation.{private_key}
use Rattle.es_steps.specs.Events.{Detail}
use Rattle.es_steps.specs.Helpers.{Helper}
use Rattle.es_steps.specs.PrivateNames.{PrivateReference}
use Rattle.es_steps.specs.Values.{String, Value, Undefined, FunctionOf, ResultOf}
use Rattle.es_evaluation.specs.Direct.{State, read_name, read_given, settled, throws}
use Rattle.es_evaluator.specs.Running.{Returns}
use Rattle.es_evaluator.specs.Steps.{Opens}
use Rattle.es_evaluator.specs.declared.fault.Fault.{Fault}
use Rattle.es_evaluator.specs.declared.state.State.{State as Kept}
use Rattle.es_code_rules.specs.Steps.{form_at, value_at}

-- a value is that of its form, settled
pub value_of_form : (opens : Opens) (c : Code) (s : State) → value_at opens c s ≡ settled (form_at opens c) s
unfolding form_at value_at
value_of_form opens c s = refl

pub nothing_form : (opens : Opens) (s : State) → form_at opens of.nothing s ≡ Some (Undefined, s)
unfolding form_at
nothing_form opens s = refl

pub no_rule_form : (opens : Opens) (s : State) → form_at opens of.no_rule s ≡ None
unfolding form_at
no_rule_form opens s = refl

pub value_form : (opens : Opens) (v : Value) (s : State) → form_at opens (of.value v) s ≡ Some (v, s)
unfolding form_at
value_form opens v s = refl

pub spelled_form : (opens : Opens) (x : String) (s : State) → form_at opens (of.spelled x) s ≡ None
unfolding form_at
spelled_form opens x s = refl

pub private_name_form : (opens : Opens) (d : ℕ) (x : String) (r : Option PrivateReference) (s : State) → form_at opens (of.private_name d x r) s ≡ None
unfolding form_at
private_name_form opens d x r s = refl

pub binding_form : (opens : Opens) (b : ℕ) (x : String) (kind : NameKind) (s : State) → form_at opens (of.binding b x kind) s ≡ Some (Undefined, s)
unfolding form_at
binding_form opens b x kind s = refl

pub rest_form : (opens : Opens) (to : Target) (s : State) → form_at opens (of.rest to) s ≡ None
unfolding form_at
rest_form opens to s = refl

pub name_form : (opens : Opens) (m : ℕ) (x : String) (kind : NameKind) (s : State) → form_at opens (of.name m x kind) s ≡ read_name m x kind s
unfolding form_at
name_form opens m x kind s = refl

pub super_form : (opens : Opens) (s : State) → form_at opens of.super s ≡ None
unfolding form_at
super_form opens s = refl

pub template_string_form : (opens : Opens) (t : TemplateString) (s : State) → form_at opens (of.template_string t) s ≡ None
unfolding form_at
template_string_form opens t s = refl

pub piece_form : (opens : Opens) (ds : List Detail) (es : Codes) (s : State) → form_at opens (of.piece ds es) s ≡ None
unfolding form_at
piece_form opens ds es s = refl

pub pattern_form : (opens : Opens) (m : ℕ) (to : Target) (s : State) → form_at opens (of.pattern m to) s ≡ None
unfolding form_at
pattern_form opens m to s = refl

pub takes_form : (opens : Opens) (m : ℕ) (ds : List Detail) (k : Codes) (to : Target) (s : State) → form_at opens (of.takes m ds k to) s ≡ None
unfolding form_at
takes_form opens m ds k to s = refl

pub function_form : (opens : Opens) (f : ℕ) (shape : FunctionForm) (own_name : Option ℕ) (ps : Codes) (body : Code) (s : State) → form_at opens (of.function f shape own_name ps body) s ≡ Some (FunctionOf f, s)
unfolding form_at
function_form opens f shape own_name ps body s = refl

pub new_function_form : (opens : Opens) (f : ℕ) (shape : FunctionForm) (ps : Codes) (body : Code) (s : State) → form_at opens (of.new_function f shape ps body) s ≡ None
unfolding form_at
new_function_form opens f shape ps body s = refl

pub new_return_form : (opens : Opens) (es : Codes) (s : State) → form_at opens (of.new_return es) s ≡ None
unfolding form_at
new_return_form opens es s = refl

pub field_form : (opens : Opens) (is_static : Bool) (shape : FieldForm) (k : Code) (e : Code) (s : State) → form_at opens (of.field is_static shape k e) s ≡ None
unfolding form_at
field_form opens is_static shape k e s = refl

pub private_field_form : (opens : Opens) (is_static : Bool) (d : ℕ) (e : Code) (s : State) → form_at opens (of.private_field is_static d e) s ≡ None
unfolding form_at
private_field_form opens is_static d e s = refl

pub method_form : (opens : Opens) (is_static : Bool) (kind : String) (k : Code) (f : Code) (s : State) → form_at opens (of.method is_static kind k f) s ≡ None
unfolding form_at
method_form opens is_static kind k f s = refl

pub private_method_form : (opens : Opens) (is_static : Bool) (d : ℕ) (f : Code) (s : State) → form_at opens (of.private_method is_static d f) s ≡ None
unfolding form_at
private_method_form opens is_static d f s = refl

pub constructor_form : (opens : Opens) (f : Code) (s : State) → form_at opens (of.constructor f) s ≡ None
unfolding form_at
constructor_form opens f s = refl

pub static_block_form : (opens : Opens) (es : Codes) (s : State) → form_at opens (of.static_block es) s ≡ None
unfolding form_at
static_block_form opens es s = refl

pub generated_element_form : (opens : Opens) (x : String) (e : Code) (s : State) → form_at opens (of.generated_element x e) s ≡ None
unfolding form_at
generated_element_form opens x e s = refl

pub from_call_form : (opens : Opens) (e : Code) (s : State) → form_at opens (of.from_call e) s ≡ value_at opens e s
unfolding form_at value_at
from_call_form opens e s = refl

pub from_member_form : (opens : Opens) (e : Code) (s : State) → form_at opens (of.from_member e) s ≡ value_at opens e s
unfolding form_at value_at
from_member_form opens e s = refl

pub helper_form : (opens : Opens) (h : Helper) (s : State) → form_at opens (of.helper h) s ≡ None
unfolding form_at
helper_form opens h s = refl

pub helper_call_form : (opens : Opens) (m : ℕ) (h : Helper) (es : Codes) (s : State) → form_at opens (of.helper_call m h es) s ≡ None
unfolding form_at
helper_call_form opens m h es s = refl

pub throw_form : (opens : Opens) (s : State) → form_at opens of.throw s ≡ throws s
unfolding form_at
throw_form opens s = refl

pub bound_form : (opens : Opens) (f : Code) (o : Code) (s : State) → form_at opens (of.bound f o) s ≡ None
unfolding form_at
bound_form opens f o s = refl

pub setter_form : (opens : Opens) (m : ℕ) (d : ℕ) (o : Code) (s : State) → form_at opens (of.setter m d o) s ≡ None
unfolding form_at
setter_form opens m d o s = refl

pub private_value_form : (opens : Opens) (x : String) (s : State) → form_at opens (of.private_value x) s ≡ read_given (private_key x) s
unfolding form_at
private_value_form opens x s = refl

pub give_function_form : (opens : Opens) (m : ℕ) (x : String) (g : GeneratedKind) (f : Code) (s : State) → form_at opens (of.give_function m x g f) s ≡ Some (ResultOf m, s)
unfolding form_at
give_function_form opens m x g f s = refl

-- what a code gives is what its form gives
pub as_its_form : (r : Result Value Fault) (t : Kept) (opens : Opens) (s : State) {c e : Code} → Returns (λ v. v) r t (form_at opens e s) → c ≡ e → Returns (λ v. v) r t (form_at opens c s)
as_its_form r t opens s {c} {e} given is = subst (λ (z : Code). Returns (λ v. v) r t (form_at opens z s)) (sym is) given
