-- Elements of classes in code, form by form.
use Rattle.std.proofs.Common.{◌≡◌, refl, ap, ℕ, List, Bool, true, false, Option, Some}
use Rattle.es_steps.specs.Code as of
use Rattle.es_steps.specs.Code.{Codes}
use Rattle.es_steps.specs.Values.{Value, Undefined}
use Rattle.es_codes.specs.CodeView.{code_of, codes_of, field_form_of}
use Rattle.es_codes.specs.declared.code.Code.{Code}
use Rattle.es_codes.specs.declared.code.Code.TheVariants as codes
use Rattle.es_codes.specs.declared.code.FieldForm.{FieldForm}
use Rattle.es_codes.proofs.Forms as forms
use Rattle.es_evaluation.specs.Direct as direct
use Rattle.es_evaluation.specs.Direct.{State}
use Rattle.es_evaluator.specs.Steps.{Opens}
use Rattle.es_code_rules.specs.Steps.{form_at, value_at, all_at}
use Rattle.es_class_rules.specs.Steps.{key_at, static_at, field_at, keys_at, statics_at, static_field_step, static_private_step, generated_element_step, instance_field_step, instance_private_step, class_step}

key_of : (opens : Opens) (s : State) {c : of.Code} {d : of.Code} → c ≡ d → key_at opens c s ≡ key_at opens d s
key_of opens s e = ap (λ (c : of.Code). key_at opens c s) e

static_of : (opens : Opens) (n : ℕ) (a : Value) (s : State) {c : of.Code} {d : of.Code} → c ≡ d → static_at opens n a c s ≡ static_at opens n a d s
static_of opens n a s e = ap (λ (c : of.Code). static_at opens n a c s) e

field_of : (opens : Opens) (n : ℕ) (s : State) {c : of.Code} {d : of.Code} → c ≡ d → field_at opens n c s ≡ field_at opens n d s
field_of opens n s e = ap (λ (c : of.Code). field_at opens n c s) e

pub field_key : (opens : Opens) (b : Bool) (form : FieldForm) (k : Code) (e : Code) (s : State) → key_at opens (code_of (codes.Field b form k e)) s ≡ value_at opens (code_of k) s
unfolding value_at key_at
field_key opens b form k e s = key_of opens s (forms.field_is b form k e)

pub method_key : (opens : Opens) (b : Bool) (x : List ℕ) (k : Code) (f : Code) (s : State) → key_at opens (code_of (codes.Method b x k f)) s ≡ value_at opens (code_of k) s
unfolding value_at key_at
method_key opens b x k f s = key_of opens s (forms.method_is b x k f)

pub private_field_key : (opens : Opens) (b : Bool) (d : ℕ) (e : Code) (s : State) → key_at opens (code_of (codes.PrivateField b d e)) s ≡ Some (Undefined, s)
unfolding value_at key_at
private_field_key opens b d e s = key_of opens s (forms.private_field_is b d e)

pub private_method_key : (opens : Opens) (b : Bool) (d : ℕ) (f : Code) (s : State) → key_at opens (code_of (codes.PrivateMethod b d f)) s ≡ Some (Undefined, s)
unfolding value_at key_at
private_method_key opens b d f s = key_of opens s (forms.private_method_is b d f)

pub constructor_key : (opens : Opens) (f : Code) (s : State) → key_at opens (code_of (codes.Constructor f)) s ≡ Some (Undefined, s)
unfolding value_at key_at
constructor_key opens f s = key_of opens s (forms.constructor_is f)

pub static_block_key : (opens : Opens) (es : List Code) (s : State) → key_at opens (code_of (codes.StaticBlock es)) s ≡ Some (Undefined, s)
unfolding value_at key_at
static_block_key opens es s = key_of opens s (forms.static_block_is es)

pub generated_element_key : (opens : Opens) (x : List ℕ) (e : Code) (s : State) → key_at opens (code_of (codes.GeneratedElement x e)) s ≡ Some (Undefined, s)
unfolding value_at key_at
generated_element_key opens x e s = key_of opens s (forms.generated_element_is x e)

pub field_static : (opens : Opens) (n : ℕ) (a : Value) (b : Bool) (form : FieldForm) (k : Code) (e : Code) (s : State) → static_at opens n a (code_of (codes.Field b form k e)) s ≡ static_field_step opens n a b (field_form_of form) (code_of e) s
unfolding form_at value_at static_at
field_static opens n a true form k e s = static_of opens n a s (forms.field_is true form k e)
field_static opens n a false form k e s = static_of opens n a s (forms.field_is false form k e)

pub private_field_static : (opens : Opens) (n : ℕ) (a : Value) (b : Bool) (d : ℕ) (e : Code) (s : State) → static_at opens n a (code_of (codes.PrivateField b d e)) s ≡ static_private_step opens n b d (code_of e) s
unfolding form_at value_at static_at
private_field_static opens n a true d e s = static_of opens n a s (forms.private_field_is true d e)
private_field_static opens n a false d e s = static_of opens n a s (forms.private_field_is false d e)

pub static_block_static : (opens : Opens) (n : ℕ) (a : Value) (es : List Code) (s : State) → static_at opens n a (code_of (codes.StaticBlock es)) s ≡ form_at opens (of.steps (codes_of es)) s
unfolding form_at value_at static_at
static_block_static opens n a es s = static_of opens n a s (forms.static_block_is es)

pub generated_element_static : (opens : Opens) (n : ℕ) (a : Value) (x : List ℕ) (e : Code) (s : State) → static_at opens n a (code_of (codes.GeneratedElement x e)) s ≡ generated_element_step opens x (code_of e) s
unfolding form_at value_at static_at
generated_element_static opens n a x e s = static_of opens n a s (forms.generated_element_is x e)

pub field_field : (opens : Opens) (n : ℕ) (b : Bool) (form : FieldForm) (k : Code) (e : Code) (s : State) → field_at opens n (code_of (codes.Field b form k e)) s ≡ instance_field_step opens n b (field_form_of form) (code_of k) (code_of e) s
unfolding value_at field_at
field_field opens n true form k e s = field_of opens n s (forms.field_is true form k e)
field_field opens n false form k e s = field_of opens n s (forms.field_is false form k e)

pub private_field_field : (opens : Opens) (n : ℕ) (b : Bool) (d : ℕ) (e : Code) (s : State) → field_at opens n (code_of (codes.PrivateField b d e)) s ≡ instance_private_step opens n b d (code_of e) s
unfolding value_at field_at
private_field_field opens n true d e s = field_of opens n s (forms.private_field_is true d e)
private_field_field opens n false d e s = field_of opens n s (forms.private_field_is false d e)

pub class_form : (opens : Opens) (n : ℕ) (declared : Option ℕ) (h : Codes) (es : Codes) (s : State) → form_at opens (of.class_code n declared h es) s ≡ direct.outside_with s.names (class_step opens n declared h es s)
unfolding form_at all_at keys_at statics_at
class_form opens n declared h es s = refl
