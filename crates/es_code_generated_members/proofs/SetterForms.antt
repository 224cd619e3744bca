-- Setters, by the forms of codes.
use Rattle.std.proofs.Common.{◌≡◌, refl, sym, ap, ◌∙◌, ℕ, List, [], ◌∷◌, Bool, true, false, cond, Some, length}
use Rattle.std.specs.Prelude.{◌&&◌}
use Rattle.es_steps.specs.Context.{Context}
use Rattle.es_steps.specs.GeneratedForms.{array_elements, is_setter_kind, private_function, setter_of, setter_of_pair, setter_on}
use Rattle.es_steps.specs.Helpers as helpers
use Rattle.es_steps.specs.PrivateNames.{PrivateMember}
use Rattle.es_code_generated_members.specs.Setters.{branded_setter, is_field_set, sets_field, setter_behind, setter_of_class}
use Rattle.es_steps.specs.Code as of
use Rattle.es_codes.proofs.Forms.{code_out, bound_is, helper_is, helper_call_is}
use Rattle.es_codes.specs.CodeView.{code_of, target_of, callee_of, codes_of, helper_of, code_step}
use Rattle.es_codes.specs.declared.code.Code.{Code}
use Rattle.es_codes.specs.declared.code.Target.{Target}
use Rattle.es_codes.specs.declared.code.Callee.{Callee}
use Rattle.es_codes.specs.declared.code.Helper.{Helper}
use Rattle.es_codes.specs.declared.code.Code.TheVariants as variants
use Rattle.es_codes.specs.declared.code.Callee.TheOpen.{Code-F}
use Rattle.es_codes.specs.declared.code.Callee.TheViews.{roll-Code, out-Code, roll-out-Code}
use Rattle.es_codes.specs.declared.code.Callee.TheFolds.{map-Code}

-- no class is named by such an object
unnamed : (a b : Bool) (e : of.Code) → of.no_rule ≡ cond (a && (b && false)) e of.no_rule
unnamed true true e = refl
unnamed true false e = refl
unnamed false b e = refl

pub no_branded : (m : ℕ) (x : PrivateMember) (es : List Code) → (length es ≡ 2 → ⊥) → of.no_rule ≡ branded_setter m x (codes_of es)
no_branded m x [] h = refl
no_branded m x (e ∷ []) h = refl
no_branded m x (e ∷ d ∷ []) h = absurd (h refl)
no_branded m x (e ∷ d ∷ c ∷ es) h = refl

pub other_helper : (m : ℕ) (x : PrivateMember) (h : Helper) (es : of.Codes) → (h ≡ Helper.AssertClassBrand → ⊥) → of.no_rule ≡ setter_behind m x (helper_of h) es
other_helper m x Helper.AssertClassBrand es other = absurd (other refl)
other_helper m x h es other = refl

behind : (m : ℕ) (x : PrivateMember) (k : ℕ) (h : helpers.Helper) (es : of.Codes) → setter_on m (Some x) (of.helper_call k h es) ≡ setter_behind m x h es
behind m x k helpers.AssertClassBrand (of.and q (of.and o of.done)) = refl
behind m x k h es = sym (unnamed (is_setter_kind x.kind) x.is_static (of.setter m x.number (of.helper_call k h es)))

pub on_helper_call : (m : ℕ) (x : PrivateMember) (e : Code) (node : ℕ) (helper : Helper) (arguments : List Code) → e ≡ variants.HelperCall node helper arguments → setter_on m (Some x) (code_of e) ≡ setter_behind m x (helper_of helper) (codes_of arguments)
on_helper_call m x e node helper arguments is = ap (λ y. setter_on m (Some x) (code_of y)) is ∙ ap (λ y. setter_on m (Some x) y) (helper_call_is node helper arguments) ∙ behind m x node (helper_of helper) (codes_of arguments)

pub on_other : (m : ℕ) (x : PrivateMember) (e : Code) → ((node : ℕ) (helper : Helper) (arguments : List Code) → e ≡ variants.HelperCall node helper arguments → ⊥) → setter_on m (Some x) (code_of e) ≡ setter_of_class m x (code_of e)
on_other m x e not_helper_call = ap (λ y. setter_on m (Some x) y) (code_out e) ∙ by (out-Code e) (roll-out-Code e) ∙ ap (λ y. setter_of_class m x y) (sym (code_out e))
  where
    by : (y : Code-F Callee Code Target) → roll-Code y ≡ e → setter_on m (Some x) (code_step (map-Code Callee Code Target of.Callee of.Code of.Target callee_of code_of target_of y)) ≡ setter_of_class m x (code_step (map-Code Callee Code Target of.Callee of.Code of.Target callee_of code_of target_of y))
    by (Code-F.HelperCall node helper arguments) is = absurd (not_helper_call node helper arguments (sym is ∙ variants.rolls-HelperCall node helper arguments))
    by y is = refl

pub a_bound : (c : Context) (m : ℕ) (e callee_function object : Code) → e ≡ variants.Bound callee_function object → setter_of c m (of.and (code_of e) of.done) ≡ setter_on m (private_function c (code_of callee_function)) (code_of object)
a_bound c m e callee_function object is = ap (λ x. setter_of c m (of.and (code_of x) of.done)) is ∙ ap (λ x. setter_of c m (of.and x of.done)) (bound_is callee_function object)

helper-alone : (c : Context) (m : ℕ) (h : helpers.Helper) → setter_of c m (of.and (of.helper h) of.done) ≡ of.no_rule
helper-alone c m helpers.ClassPrivateFieldSet2 = refl
helper-alone c m h = refl

pub no_bound : (c : Context) (m : ℕ) (e : Code) → ((callee_function object : Code) → e ≡ variants.Bound callee_function object → ⊥) → setter_of c m (of.and (code_of e) of.done) ≡ of.no_rule
no_bound c m e not_bound = ap (λ x. setter_of c m (of.and x of.done)) (code_out e) ∙ by (out-Code e) (roll-out-Code e)
  where
    by : (y : Code-F Callee Code Target) → roll-Code y ≡ e → setter_of c m (of.and (code_step (map-Code Callee Code Target of.Callee of.Code of.Target callee_of code_of target_of y)) of.done) ≡ of.no_rule
    by (Code-F.Bound callee_function object) is = absurd (not_bound callee_function object (sym is ∙ variants.rolls-Bound callee_function object))
    by (Code-F.Helper helper) is = helper-alone c m (helper_of helper)
    by y is = refl

pub no_pair : (c : Context) (m : ℕ) (es : List Code) → (length es ≡ 2 → ⊥) → of.no_rule ≡ setter_of_pair c m (Some (codes_of es))
no_pair c m [] h = refl
no_pair c m (e ∷ []) h = refl
no_pair c m (e ∷ d ∷ []) h = absurd (h refl)
no_pair c m (e ∷ d ∷ b ∷ es) h = refl

pub a_helper : (e : Code) (helper : Helper) → e ≡ variants.Helper helper → is_field_set (code_of e) ≡ sets_field (helper_of helper)
a_helper e helper is = ap (λ x. is_field_set (code_of x)) is ∙ ap (λ x. is_field_set x) (helper_is helper)

pub no_helper : (e : Code) → ((helper : Helper) → e ≡ variants.Helper helper → ⊥) → is_field_set (code_of e) ≡ false
no_helper e not_helper = ap (λ x. is_field_set x) (code_out e) ∙ by (out-Code e) (roll-out-Code e)
  where
    by : (y : Code-F Callee Code Target) → roll-Code y ≡ e → is_field_set (code_step (map-Code Callee Code Target of.Callee of.Code of.Target callee_of code_of target_of y)) ≡ false
    by (Code-F.Helper helper) is = absurd (not_helper helper (sym is ∙ variants.rolls-Helper helper))
    by y is = refl

pub of_two : (c : Context) (m : ℕ) (h pair : of.Code) → is_field_set h ≡ true → setter_of_pair c m (array_elements c pair) ≡ setter_of c m (of.and h (of.and pair of.done))
of_two c m (of.helper helpers.ClassPrivateFieldSet2) pair is = refl
of_two c m h pair is = cc

pub of_no_pair : (c : Context) (m : ℕ) (h pair : of.Code) → is_field_set h ≡ false → of.no_rule ≡ setter_of c m (of.and h (of.and pair of.done))
of_no_pair c m (of.helper helpers.ClassPrivateFieldSet2) pair is = cc
of_no_pair c m (of.bound f o) pair is = refl
of_no_pair c m h pair is = refl

three : (c : Context) (m : ℕ) (e d b : of.Code) (es : of.Codes) → of.no_rule ≡ setter_of c m (of.and e (of.and d (of.and b es)))
three c m (of.helper helpers.ClassPrivateFieldSet2) d b es = refl
three c m (of.bound f o) d b es = refl
three c m e d b es = refl

pub of_none : (c : Context) (m : ℕ) (es : List Code) → (length es ≡ 1 → ⊥) → (length es ≡ 2 → ⊥) → of.no_rule ≡ setter_of c m (codes_of es)
of_none c m [] h g = refl
of_none c m (e ∷ []) h g = absurd (h refl)
of_none c m (e ∷ d ∷ []) h g = absurd (g refl)
of_none c m (e ∷ d ∷ b ∷ es) h g = three c m (code_of e) (code_of d) (code_of b) (codes_of es)
