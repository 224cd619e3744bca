-- What private members are assigned, by the forms of codes.
use Rattle.std.proofs.Common.{◌≡◌, refl, sym, ap, ◌∙◌, ℕ, ◌<◌, ◌≤◌, List, [], ◌∷◌, length, get_or, Bool, true, false, cond, arith}
use Rattle.std.specs.Prelude.{◌&&◌}
use Rattle.std.proofs.Math.Bool.{and-false}
use Rattle.std.proofs.lemmas.Cmp.{nat_eq_equiv}
use Rattle.es_steps.specs.GeneratedForms as spec
use Rattle.es_steps.specs.Helpers as helpers
use Rattle.es_steps.specs.PrivateNames.{PrivateReference}
use Rattle.es_steps.specs.Values as values
use Rattle.es_code_assignments.specs.Privates.{arguments_of, asserts_brand, branded_by, branded_form, by_form, is_class, private_form, written_by}
use Rattle.es_code_assignments.specs.declared.private.PrivateForm.{PrivateForm}
use Rattle.es_steps.specs.Code as of
use Rattle.es_codes.proofs.Forms.{code_out, helper_call_is, value_is}
use Rattle.es_codes.specs.CodeView.{code_of, target_of, callee_of, codes_of, helper_of, code_step}
use Rattle.es_codes.specs.declared.code.Code.{Code}
use Rattle.es_codes.specs.declared.code.Target.{Target}
use Rattle.es_codes.specs.declared.code.Callee.{Callee}
use Rattle.es_codes.specs.declared.code.Helper.{Helper}
use Rattle.es_codes.specs.declared.code.Code.TheVariants as variants
use Rattle.es_codes.specs.declared.code.Callee.TheOpen.{Code-F}
use Rattle.es_codes.specs.declared.code.Callee.TheViews.{roll-Code, out-Code, roll-out-Code}
use Rattle.es_codes.specs.declared.code.Callee.TheFolds.{map-Code}

-- ---- the class itself

pub a_class : (n : ℕ) (e : Code) (value : values.Value) → e ≡ variants.Value value → is_class n (code_of e) ≡ values.is_class_value n value
a_class n e value is = ap (λ x. is_class n (code_of x)) is ∙ ap (λ x. is_class n x) (value_is value)

pub no_class : (n : ℕ) (e : Code) → ((value : values.Value) → e ≡ variants.Value value → ⊥) → is_class n (code_of e) ≡ false
no_class n e not_Value = ap (λ x. is_class n x) (code_out e) ∙ by (out-Code e) (roll-out-Code e)
  where
    by : (y : Code-F Callee Code Target) → roll-Code y ≡ e → is_class n (code_step (map-Code Callee Code Target of.Callee of.Code of.Target callee_of code_of target_of y)) ≡ false
    by (Code-F.Value value) is = absurd (not_Value value (sym is ∙ variants.rolls-Value value))
    by y is = refl

own-class : (r : PrivateReference) (e : of.Code) → spec.is_own_class r e ≡ (r.is_static && is_class r.class e)
own-class r (of.value (values.ClassOf n)) = ap (λ b. r.is_static && b) (nat_eq_equiv.symm n r.class)
own-class r (of.value v) = sym (and-false r.is_static)
own-class r e = sym (and-false r.is_static)

pub its_class : (r : PrivateReference) (e : of.Code) → r.is_static ≡ true → is_class r.class e ≡ spec.is_own_class r e
its_class r e is = sym (own-class r e ∙ ap (λ b. b && is_class r.class e) is)

pub no_static : (r : PrivateReference) (e : of.Code) → r.is_static ≡ false → false ≡ spec.is_own_class r e
no_static r e is = sym (own-class r e ∙ ap (λ b. b && is_class r.class e) is)

-- ---- the arguments

pub three_arguments : (r : PrivateReference) (own : of.Code) (cs : List Code) (z : Code) → 3 ≤ length cs → length cs < 4 → z ≡ get_or cs 0 z → branded_by (spec.is_own_class r own && spec.is_class_named r.class (code_of z)) ≡ branded_form r own (codes_of cs)
three_arguments r own (x ∷ y ∷ v ∷ []) z least below is = ap (λ a. branded_by (spec.is_own_class r own && spec.is_class_named r.class (code_of a))) is
three_arguments r own [] z least below is = absurd (omega (arith, least))
three_arguments r own (x ∷ []) z least below is = absurd (omega (arith, least))
three_arguments r own (x ∷ y ∷ []) z least below is = absurd (omega (arith, least))
three_arguments r own (x ∷ y ∷ v ∷ w ∷ cs) z least below is = absurd (omega (arith, below))

pub fewer_arguments : (r : PrivateReference) (own : of.Code) (cs : List Code) → length cs < 3 → PrivateForm.Plain ≡ branded_form r own (codes_of cs)
fewer_arguments r own [] h = refl
fewer_arguments r own (x ∷ []) h = refl
fewer_arguments r own (x ∷ y ∷ []) h = refl
fewer_arguments r own (x ∷ y ∷ v ∷ cs) h = absurd (omega (arith, h))

pub more_arguments : (r : PrivateReference) (own : of.Code) (cs : List Code) → 4 ≤ length cs → PrivateForm.Plain ≡ branded_form r own (codes_of cs)
more_arguments r own (x ∷ y ∷ v ∷ w ∷ cs) h = refl
more_arguments r own [] h = absurd (omega (arith, h))
more_arguments r own (x ∷ []) h = absurd (omega (arith, h))
more_arguments r own (x ∷ y ∷ []) h = absurd (omega (arith, h))
more_arguments r own (x ∷ y ∷ v ∷ []) h = absurd (omega (arith, h))

pub written_three : (new : Bool) (m k : ℕ) (r : PrivateReference) (cs : List Code) (o v : Code) → 3 ≤ length cs → length cs < 4 → o ≡ get_or cs 1 o → v ≡ get_or cs 2 v → of.assign (of.to_private k r (code_of o)) (spec.value_of_private r.writes new m (code_of v)) ≡ written_by new m k r (codes_of cs)
written_three new m k r (x ∷ y ∷ z ∷ []) o v least below first second =
    ap (λ a. of.assign (of.to_private k r (code_of a)) (spec.value_of_private r.writes new m (code_of v))) first
    ∙ ap (λ a. of.assign (of.to_private k r (code_of y)) (spec.value_of_private r.writes new m (code_of a))) second
written_three new m k r [] o v least below first second = absurd (omega (arith, least))
written_three new m k r (x ∷ []) o v least below first second = absurd (omega (arith, least))
written_three new m k r (x ∷ y ∷ []) o v least below first second = absurd (omega (arith, least))
written_three new m k r (x ∷ y ∷ z ∷ w ∷ cs) o v least below first second = absurd (omega (arith, below))

pub written_fewer : (new : Bool) (m k : ℕ) (r : PrivateReference) (cs : List Code) → length cs < 3 → of.no_rule ≡ written_by new m k r (codes_of cs)
written_fewer new m k r [] h = refl
written_fewer new m k r (x ∷ []) h = refl
written_fewer new m k r (x ∷ y ∷ []) h = refl
written_fewer new m k r (x ∷ y ∷ z ∷ cs) h = absurd (omega (arith, h))

pub written_more : (new : Bool) (m k : ℕ) (r : PrivateReference) (cs : List Code) → 4 ≤ length cs → of.no_rule ≡ written_by new m k r (codes_of cs)
written_more new m k r (x ∷ y ∷ z ∷ w ∷ cs) h = refl
written_more new m k r [] h = absurd (omega (arith, h))
written_more new m k r (x ∷ []) h = absurd (omega (arith, h))
written_more new m k r (x ∷ y ∷ []) h = absurd (omega (arith, h))
written_more new m k r (x ∷ y ∷ z ∷ []) h = absurd (omega (arith, h))

-- ---- the form

pub a_call : (r : PrivateReference) (own : of.Code) (e : Code) (node : ℕ) (helper : Helper) (arguments : List Code) → e ≡ variants.HelperCall node helper arguments → private_form r own (code_of e) ≡ cond (asserts_brand (helper_of helper)) (branded_form r own (codes_of arguments)) PrivateForm.Plain
a_call r own e node helper arguments is = ap (λ x. private_form r own (code_of x)) is ∙ ap (λ x. private_form r own x) (helper_call_is node helper arguments)

pub no_call : (r : PrivateReference) (own : of.Code) (e : Code) → ((node : ℕ) (helper : Helper) (arguments : List Code) → e ≡ variants.HelperCall node helper arguments → ⊥) → private_form r own (code_of e) ≡ PrivateForm.Plain
no_call r own e not_HelperCall = ap (λ x. private_form r own x) (code_out e) ∙ by (out-Code e) (roll-out-Code e)
  where
    by : (y : Code-F Callee Code Target) → roll-Code y ≡ e → private_form r own (code_step (map-Code Callee Code Target of.Callee of.Code of.Target callee_of code_of target_of y)) ≡ PrivateForm.Plain
    by (Code-F.HelperCall node helper arguments) is = absurd (not_HelperCall node helper arguments (sym is ∙ variants.rolls-HelperCall node helper arguments))
    by y is = refl

pub arguments_taken : (e : Code) (node : ℕ) (helper : Helper) (arguments : List Code) → e ≡ variants.HelperCall node helper arguments → arguments_of (code_of e) ≡ codes_of arguments
arguments_taken e node helper arguments is = ap (λ x. arguments_of (code_of x)) is ∙ ap (λ x. arguments_of x) (helper_call_is node helper arguments)

pub no_arguments : (e : Code) → ((node : ℕ) (helper : Helper) (arguments : List Code) → e ≡ variants.HelperCall node helper arguments → ⊥) → arguments_of (code_of e) ≡ of.done
no_arguments e not_HelperCall = ap (λ x. arguments_of x) (code_out e) ∙ by (out-Code e) (roll-out-Code e)
  where
    by : (y : Code-F Callee Code Target) → roll-Code y ≡ e → arguments_of (code_step (map-Code Callee Code Target of.Callee of.Code of.Target callee_of code_of target_of y)) ≡ of.done
    by (Code-F.HelperCall node helper arguments) is = absurd (not_HelperCall node helper arguments (sym is ∙ variants.rolls-HelperCall node helper arguments))
    by y is = refl

branded-by : (new : Bool) (m k : ℕ) (r : PrivateReference) (own : of.Code) (is : Bool) (j : ℕ) (h : helpers.Helper) (z o v : of.Code) → cond is (of.assign (of.to_private k r o) (spec.value_of_private r.writes new m v)) of.no_rule ≡ by_form (branded_by is) new m k r own (of.helper_call j h (of.and z (of.and o (of.and v of.done))))
branded-by new m k r own true j h z o v = refl
branded-by new m k r own false j h z o v = refl

private-by : (new : Bool) (m k : ℕ) (r : PrivateReference) (own e : of.Code) → spec.private_assignment new m k r own e ≡ by_form (private_form r own e) new m k r own e
private-by new m k r own (of.helper_call j helpers.AssertClassBrand (of.and z (of.and o (of.and v of.done)))) = branded-by new m k r own (spec.is_own_class r own && spec.is_class_named r.class z) j helpers.AssertClassBrand z o v
private-by new m k r own (of.helper_call j helpers.AssertClassBrand (of.and z (of.and o (of.and v (of.and w es))))) = refl
private-by new m k r own (of.helper_call j helpers.AssertClassBrand (of.and z (of.and o of.done))) = refl
private-by new m k r own (of.helper_call j helpers.AssertClassBrand (of.and z of.done)) = refl
private-by new m k r own (of.helper_call j helpers.AssertClassBrand of.done) = refl
private-by new m k r own (of.helper_call j h es) = refl
private-by new m k r own e = refl

by-form : (new : Bool) (m k : ℕ) (r : PrivateReference) (own e : of.Code) (form : PrivateForm) → form ≡ private_form r own e → by_form form new m k r own e ≡ spec.private_assignment new m k r own e
by-form new m k r own e form is = ap (λ f. by_form f new m k r own e) is ∙ sym (private-by new m k r own e)

pub by_branded : (new : Bool) (m k : ℕ) (r : PrivateReference) (own e : of.Code) → PrivateForm.Branded ≡ private_form r own e → written_by new m k r (arguments_of e) ≡ spec.private_assignment new m k r own e
by_branded new m k r own e is = by-form new m k r own e PrivateForm.Branded is

pub by_no_rule : (new : Bool) (m k : ℕ) (r : PrivateReference) (own e : of.Code) → PrivateForm.NoRule ≡ private_form r own e → of.no_rule ≡ spec.private_assignment new m k r own e
by_no_rule new m k r own e is = by-form new m k r own e PrivateForm.NoRule is

pub by_plain : (new : Bool) (m k : ℕ) (r : PrivateReference) (own e : of.Code) → PrivateForm.Plain ≡ private_form r own e → of.assign (of.to_private k r own) (spec.value_of_private r.writes new m e) ≡ spec.private_assignment new m k r own e
by_plain new m k r own e is = by-form new m k r own e PrivateForm.Plain is
