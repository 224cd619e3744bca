-- Binary operators with a generated left operand, by the forms of codes.
use Rattle.std.proofs.Common.{◌≡◌, refl, sym, ap, ◌∙◌, ℕ, List, [], ◌∷◌, length, Bool, true, false, cond, Option, Some, None, arith}
use Rattle.std.specs.Prelude.{◌&&◌, nat_eq, bytes_eq, codes}
use Rattle.std.proofs.lemmas.Bool.{ne_eqb}
use Rattle.es_base.specs.declared.ledger.GeneratedKind.{GeneratedKind}
use Rattle.es_steps.specs.Context as names
use Rattle.es_steps.specs.Context.{Context}
use Rattle.es_steps.specs.GeneratedForms as spec
use Rattle.es_steps.specs.Helpers as helpers
use Rattle.es_steps.specs.Values as values
use Rattle.es_code_conditionals.specs.Ends.{first_of}
use Rattle.es_code_members.proofs.Chaining.{joined-done, joined-assoc}
use Rattle.es_code_assignments.specs.Binaries.{binary_form, by_form, checked_form, checked_object, class_test_form, is_check, is_one, left_form, named_form}
use Rattle.es_code_assignments.specs.declared.binary.BinaryForm.{BinaryForm}
use Rattle.es_code_assignments.specs.declared.binary.LeftForm.{LeftForm}
use Rattle.es_steps.specs.Code as of
use Rattle.es_codes.proofs.Forms.{code_out, helper_call_is, name_is}
use Rattle.es_codes.specs.CodeView.{code_of, target_of, callee_of, codes_of, helper_of, code_step}
use Rattle.es_codes.specs.View.{kind_of}
use Rattle.es_codes.specs.declared.code.Code.{Code}
use Rattle.es_codes.specs.declared.code.Target.{Target}
use Rattle.es_codes.specs.declared.code.Callee.{Callee}
use Rattle.es_codes.specs.declared.code.Helper.{Helper}
use Rattle.es_codes.specs.declared.name.NameKind.{NameKind}
use Rattle.es_codes.specs.declared.code.Code.TheVariants as variants
use Rattle.es_codes.specs.declared.code.Callee.TheOpen.{Code-F}
use Rattle.es_codes.specs.declared.code.Callee.TheViews.{roll-Code, out-Code, roll-out-Code}
use Rattle.es_codes.specs.declared.code.Callee.TheFolds.{map-Code}

pub one_code : (n : ℕ) (cs : List Code) → n ≡ length cs → nat_eq n 1 ≡ is_one (codes_of cs)
one_code n [] is = ap (λ k. nat_eq k 1) is
one_code n (c ∷ []) is = ap (λ k. nat_eq k 1) is
one_code n (c ∷ d ∷ cs) is = ne_eqb n 1 (λ one. omega (arith, is, one))

pub a_call : (e : Code) (node : ℕ) (helper : Helper) (arguments : List Code) → e ≡ variants.HelperCall node helper arguments → left_form (code_of e) ≡ checked_form (is_check (helper_of helper) && is_one (codes_of arguments))
a_call e node helper arguments is = ap (λ x. left_form (code_of x)) is ∙ ap (λ x. left_form x) (helper_call_is node helper arguments)

pub a_name : (e : Code) (node : ℕ) (spelling : List ℕ) (kind : NameKind) → e ≡ variants.Name node spelling kind → left_form (code_of e) ≡ named_form (kind_of kind)
a_name e node spelling kind is = ap (λ x. left_form (code_of x)) is ∙ ap (λ x. left_form x) (name_is node spelling kind)

pub another : (e : Code) → ((node : ℕ) (helper : Helper) (arguments : List Code) → e ≡ variants.HelperCall node helper arguments → ⊥) → ((node : ℕ) (spelling : List ℕ) (kind : NameKind) → e ≡ variants.Name node spelling kind → ⊥) → left_form (code_of e) ≡ LeftForm.Other
another e not_HelperCall not_Name = ap (λ x. left_form x) (code_out e) ∙ by (out-Code e) (roll-out-Code e)
  where
    by : (y : Code-F Callee Code Target) → roll-Code y ≡ e → left_form (code_step (map-Code Callee Code Target of.Callee of.Code of.Target callee_of code_of target_of y)) ≡ LeftForm.Other
    by (Code-F.HelperCall node helper arguments) is = absurd (not_HelperCall node helper arguments (sym is ∙ variants.rolls-HelperCall node helper arguments))
    by (Code-F.Name node spelling kind) is = absurd (not_Name node spelling kind (sym is ∙ variants.rolls-Name node spelling kind))
    by y is = refl

pub object_checked : (e : Code) (node : ℕ) (helper : Helper) (arguments : List Code) → e ≡ variants.HelperCall node helper arguments → checked_object (code_of e) ≡ first_of (codes_of arguments)
object_checked e node helper arguments is = ap (λ x. checked_object (code_of x)) is ∙ ap (λ x. checked_object x) (helper_call_is node helper arguments)

pub no_object : (e : Code) → ((node : ℕ) (helper : Helper) (arguments : List Code) → e ≡ variants.HelperCall node helper arguments → ⊥) → checked_object (code_of e) ≡ of.no_rule
no_object e not_HelperCall = ap (λ x. checked_object x) (code_out e) ∙ by (out-Code e) (roll-out-Code e)
  where
    by : (y : Code-F Callee Code Target) → roll-Code y ≡ e → checked_object (code_step (map-Code Callee Code Target of.Callee of.Code of.Target callee_of code_of target_of y)) ≡ of.no_rule
    by (Code-F.HelperCall node helper arguments) is = absurd (not_HelperCall node helper arguments (sym is ∙ variants.rolls-HelperCall node helper arguments))
    by y is = refl

pub three_operands : (operator left right one two three : of.Codes) → one ≡ operator → two ≡ of.joined one left → three ≡ of.joined two right → three ≡ of.joined operator (of.joined left (of.joined right of.done))
three_operands operator left right one two three first second third =
    third
    ∙ ap (λ cs. of.joined cs right) (second ∙ ap (λ cs. of.joined cs left) first)
    ∙ joined-assoc operator left right
    ∙ ap (λ cs. of.joined operator (of.joined left cs)) (sym (joined-done right))

-- ---- by the form

class-tested : (m : ℕ) (is : Bool) (n : Option ℕ) (k : ℕ) (h : helpers.Helper) (o whole : of.Code) → cond is (spec.is_class_test m n o) of.no_rule ≡ by_form (cond is (class_test_form n) BinaryForm.NoRule) m (of.helper_call k h (of.and o of.done)) whole
class-tested m true (Some n) k h o whole = refl
class-tested m true None k h o whole = refl
class-tested m false n k h o whole = refl

key-tested : (m : ℕ) (is : Bool) (l whole : of.Code) → cond is (of.value (values.ResultOf m)) whole ≡ by_form (cond is BinaryForm.KeyTest BinaryForm.Whole) m l whole
key-tested m true l whole = refl
key-tested m false l whole = refl

call-by : (c : Context) (m : ℕ) (s : List ℕ) (k : ℕ) (h : helpers.Helper) (es : of.Codes) (r whole : of.Code) → spec.generated_binary c m s (of.helper_call k h es) r whole ≡ by_form (binary_form c m s (left_form (of.helper_call k h es)) r) m (of.helper_call k h es) whole
call-by c m s k helpers.CheckInRHS (of.and o of.done) r whole = class-tested m (bytes_eq s (codes "===")) (spec.class_named r) k helpers.CheckInRHS o whole
call-by c m s k helpers.CheckInRHS of.done r whole = refl
call-by c m s k helpers.CheckInRHS (of.and o (of.and p es)) r whole = refl
call-by c m s k h es r whole = refl

name-by : (c : Context) (m : ℕ) (s : List ℕ) (k : ℕ) (t : List ℕ) (kind : names.NameKind) (r whole : of.Code) → spec.generated_binary c m s (of.name k t kind) r whole ≡ by_form (binary_form c m s (named_form kind) r) m (of.name k t kind) whole
name-by c m s k t (names.Generated GeneratedKind.Temp) r whole = key-tested m (names.new_here c m && (bytes_eq s (codes "!==") && spec.is_string (codes "name") r)) (of.name k t (names.Generated GeneratedKind.Temp)) whole
name-by c m s k t (names.Generated g) r whole = refl
name-by c m s k t kind r whole = refl

binary-by : (c : Context) (m : ℕ) (s : List ℕ) (l r whole : of.Code) → spec.generated_binary c m s l r whole ≡ by_form (binary_form c m s (left_form l) r) m l whole
binary-by c m s (of.helper_call k h es) r whole = call-by c m s k h es r whole
binary-by c m s (of.name k t kind) r whole = name-by c m s k t kind r whole
binary-by c m s l r whole = refl

by-form : (c : Context) (m : ℕ) (s : List ℕ) (l r whole : of.Code) (form : BinaryForm) → form ≡ binary_form c m s (left_form l) r → by_form form m l whole ≡ spec.generated_binary c m s l r whole
by-form c m s l r whole form is = ap (λ f. by_form f m l whole) is ∙ sym (binary-by c m s l r whole)

pub by_class_test : (c : Context) (m : ℕ) (s : List ℕ) (l r whole : of.Code) (n : ℕ) → BinaryForm.ClassTest n ≡ binary_form c m s (left_form l) r → of.private_in m (values.IsClass n) (checked_object l) ≡ spec.generated_binary c m s l r whole
by_class_test c m s l r whole n is = by-form c m s l r whole (BinaryForm.ClassTest n) is

pub by_key_test : (c : Context) (m : ℕ) (s : List ℕ) (l r whole : of.Code) → BinaryForm.KeyTest ≡ binary_form c m s (left_form l) r → of.value (values.ResultOf m) ≡ spec.generated_binary c m s l r whole
by_key_test c m s l r whole is = by-form c m s l r whole BinaryForm.KeyTest is

pub by_no_rule : (c : Context) (m : ℕ) (s : List ℕ) (l r whole : of.Code) → BinaryForm.NoRule ≡ binary_form c m s (left_form l) r → of.no_rule ≡ spec.generated_binary c m s l r whole
by_no_rule c m s l r whole is = by-form c m s l r whole BinaryForm.NoRule is

pub by_whole : (c : Context) (m : ℕ) (s : List ℕ) (l r whole : of.Code) → BinaryForm.Whole ≡ binary_form c m s (left_form l) r → whole ≡ spec.generated_binary c m s l r whole
by_whole c m s l r whole is = by-form c m s l r whole BinaryForm.Whole is
