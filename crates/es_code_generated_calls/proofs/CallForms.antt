-- Calls, by the forms of what is called.
use Rattle.std.proofs.Common.{◌≡◌, refl, sym, ap, ◌∙◌, ℕ, List, Bool, true, false, cond, Some}
use Rattle.es_base.specs.declared.ledger.GeneratedKind.{GeneratedKind}
use Rattle.es_steps.specs.Context as names
use Rattle.es_steps.specs.Context.{Context}
use Rattle.es_steps.specs.Expressions as spec
use Rattle.es_steps.specs.GeneratedForms as generated
use Rattle.es_steps.specs.Members as members
use Rattle.es_code_generated_calls.specs.Calls.{function_called, name_call, name_called}
use Rattle.es_code_generated_calls.specs.declared.call.NameCall.{NameCall}
use Rattle.es_steps.specs.Code as of
use Rattle.es_codes.proofs.Forms.{code_out, helper_call_is, helper_is, member_is, name_is, new_function_is, super_is, with_receiver_is}
use Rattle.es_codes.specs.CodeView.{code_of, target_of, callee_of, codes_of, code_step, callee_step, target_step, form_of, helper_of}
use Rattle.es_codes.specs.declared.code.Code.{Code}
use Rattle.es_codes.specs.declared.code.Target.{Target}
use Rattle.es_codes.specs.declared.code.Callee.{Callee}
use Rattle.es_codes.specs.declared.code.Code.TheVariants as variants
use Rattle.es_codes.specs.declared.code.Callee.TheOpen.{Code-F}
use Rattle.es_codes.specs.declared.code.Callee.TheViews.{roll-Code, out-Code, roll-out-Code}
use Rattle.es_codes.specs.declared.code.Callee.TheFolds.{map-Code}
use Rattle.es_codes.specs.View.{kind_of}
use Rattle.es_codes.specs.declared.code.FunctionForm.{FunctionForm}
use Rattle.es_codes.specs.declared.code.Helper.{Helper}
use Rattle.es_codes.specs.declared.name.NameKind.{NameKind}
use Rattle.es_codes.specs.declared.code.Callee.TheVariants as callees
use Rattle.es_codes.specs.declared.code.Callee.TheOpen.{Callee-F}
use Rattle.es_codes.specs.declared.code.Callee.TheViews.{roll-Callee, out-Callee, roll-out-Callee}
use Rattle.es_codes.specs.declared.code.Callee.TheFolds.{map-Callee, fold-roll-Callee}

-- ---- calls that no lowering made

callee-roll : (y : Callee-F Callee Code Target) → callee_of (roll-Callee y) ≡ callee_step (map-Callee Callee Code Target of.Callee of.Code of.Target callee_of code_of target_of y)
unfolding code_of target_of callee_of
callee-roll y = fold-roll-Callee of.Callee of.Code of.Target callee_step code_step target_step y

callee-out : (f : Callee) → callee_of f ≡ callee_step (map-Callee Callee Code Target of.Callee of.Code of.Target callee_of code_of target_of (out-Callee f))
callee-out f = ap callee_of (sym (roll-out-Callee f)) ∙ callee-roll (out-Callee f)

pub a_receiver : (f : Callee) (callee_function object : Code) → f ≡ callees.WithReceiver callee_function object → spec.checked_callee true (callee_of f) ≡ of.plain of.no_rule
a_receiver f callee_function object is = ap (λ z. spec.checked_callee true (callee_of z)) is ∙ ap (λ z. spec.checked_callee true z) (with_receiver_is callee_function object)

pub no_receiver : (f : Callee) → ((callee_function object : Code) → f ≡ callees.WithReceiver callee_function object → ⊥) → spec.checked_callee true (callee_of f) ≡ of.checked (callee_of f)
no_receiver f not_with_receiver = ap (λ z. spec.checked_callee true z) (callee-out f) ∙ by (out-Callee f) (roll-out-Callee f) ∙ ap (λ z. of.checked z) (sym (callee-out f))
  where
    by : (y : Callee-F Callee Code Target) → roll-Callee y ≡ f → spec.checked_callee true (callee_step (map-Callee Callee Code Target of.Callee of.Code of.Target callee_of code_of target_of y)) ≡ of.checked (callee_step (map-Callee Callee Code Target of.Callee of.Code of.Target callee_of code_of target_of y))
    by (Callee-F.WithReceiver callee_function object) is = absurd (not_with_receiver callee_function object (sym is ∙ callees.rolls-WithReceiver callee_function object))
    by y is = refl

-- ---- calls that a lowering may have made

pub of_member : (c : Context) (m : ℕ) (es : of.Codes) (e : Code) (node : ℕ) (object : Code) (key : Code) → e ≡ variants.Member node object key → function_called c m (code_of e) es ≡ generated.new_member_call c m node (code_of object) (code_of key) es (of.call m (of.on_member node (code_of object) (code_of key)) es)
of_member c m es e node object key is = ap (λ z. function_called c m (code_of z) es) is ∙ ap (λ z. function_called c m z es) (member_is node object key)

pub of_function : (c : Context) (m : ℕ) (es : of.Codes) (e : Code) (node : ℕ) (form : FunctionForm) (parameters : List Code) (body : Code) → e ≡ variants.NewFunction node form parameters body → function_called c m (code_of e) es ≡ generated.new_function_call c (form_of form) (codes_of parameters) (code_of body) es
of_function c m es e node form parameters body is = ap (λ z. function_called c m (code_of z) es) is ∙ ap (λ z. function_called c m z es) (new_function_is node form parameters body)

pub of_name : (c : Context) (m : ℕ) (es : of.Codes) (e : Code) (node : ℕ) (spelling : List ℕ) (kind : NameKind) → e ≡ variants.Name node spelling kind → function_called c m (code_of e) es ≡ name_called m node spelling (kind_of kind) es
of_name c m es e node spelling kind is = ap (λ z. function_called c m (code_of z) es) is ∙ ap (λ z. function_called c m z es) (name_is node spelling kind)

pub of_other : (c : Context) (m : ℕ) (es : of.Codes) (e : Code) → ((node : ℕ) (object : Code) (key : Code) → e ≡ variants.Member node object key → ⊥) → ((node : ℕ) (form : FunctionForm) (parameters : List Code) (body : Code) → e ≡ variants.NewFunction node form parameters body → ⊥) → ((node : ℕ) (spelling : List ℕ) (kind : NameKind) → e ≡ variants.Name node spelling kind → ⊥) → function_called c m (code_of e) es ≡ of.call m (spec.callee_of (code_of e)) es
of_other c m es e not_member not_new_function not_name = ap (λ z. function_called c m z es) (code_out e) ∙ by (out-Code e) (roll-out-Code e) ∙ ap (λ z. of.call m (spec.callee_of z) es) (sym (code_out e))
  where
    by : (y : Code-F Callee Code Target) → roll-Code y ≡ e → function_called c m (code_step (map-Code Callee Code Target of.Callee of.Code of.Target callee_of code_of target_of y)) es ≡ of.call m (spec.callee_of (code_step (map-Code Callee Code Target of.Callee of.Code of.Target callee_of code_of target_of y))) es
    by (Code-F.Member node object key) is = absurd (not_member node object key (sym is ∙ variants.rolls-Member node object key))
    by (Code-F.NewFunction node form parameters body) is = absurd (not_new_function node form parameters body (sym is ∙ variants.rolls-NewFunction node form parameters body))
    by (Code-F.Name node spelling kind) is = absurd (not_name node spelling kind (sym is ∙ variants.rolls-Name node spelling kind))
    by y is = refl

abbrev by-call : NameCall → ℕ → ℕ → List ℕ → names.NameKind → of.Codes → of.Code
by-call NameCall.Closure m k s kind es = of.call_closure s es
by-call (NameCall.SuperFunction n) m k s kind es = of.super_call m n (Some (of.BodyOf s)) es
by-call NameCall.Other m k s kind es = of.call m (of.plain (of.name k s kind)) es

called-by : (m k : ℕ) (s : List ℕ) (kind : names.NameKind) (es : of.Codes) → by-call (name_call kind) m k s kind es ≡ name_called m k s kind es
called-by m k s (names.Generated GeneratedKind.Closure) es = refl
called-by m k s (names.Generated (GeneratedKind.SuperFn n)) es = refl
called-by m k s (names.Generated g) es = refl
called-by m k s kind es = refl

pub a_closure : (m k : ℕ) (s : List ℕ) (kind : names.NameKind) (es : of.Codes) → NameCall.Closure ≡ name_call kind → of.call_closure s es ≡ name_called m k s kind es
a_closure m k s kind es is = ap (λ f. by-call f m k s kind es) is ∙ called-by m k s kind es

pub a_super_function : (m k n : ℕ) (s : List ℕ) (kind : names.NameKind) (es : of.Codes) → NameCall.SuperFunction n ≡ name_call kind → of.super_call m n (Some (of.BodyOf s)) es ≡ name_called m k s kind es
a_super_function m k n s kind es is = ap (λ f. by-call f m k s kind es) is ∙ called-by m k s kind es

pub another_name : (m k : ℕ) (s : List ℕ) (kind : names.NameKind) (es : of.Codes) → NameCall.Other ≡ name_call kind → of.call m (of.plain (of.name k s kind)) es ≡ name_called m k s kind es
another_name m k s kind es is = ap (λ f. by-call f m k s kind es) is ∙ called-by m k s kind es

name-by : (c : Context) (m k : ℕ) (s : List ℕ) (kind : names.NameKind) (es : of.Codes) → generated.generated_call c m (of.name k s kind) es (of.call m (of.plain (of.name k s kind)) es) ≡ name_called m k s kind es
name-by c m k s (names.Generated GeneratedKind.Closure) es = refl
name-by c m k s (names.Generated (GeneratedKind.SuperFn n)) es = refl
name-by c m k s (names.Generated g) es = refl
name-by c m k s kind es = refl

pub of_helper : (c : Context) (m : ℕ) (es : of.Codes) (whole : of.Code) (e : Code) (helper : Helper) → e ≡ variants.Helper helper → generated.generated_call c m (code_of e) es whole ≡ generated.helper_code c m (helper_of helper) es
of_helper c m es whole e helper is = ap (λ z. generated.generated_call c m (code_of z) es whole) is ∙ ap (λ z. generated.generated_call c m z es whole) (helper_is helper)

pub of_helper_call : (c : Context) (m : ℕ) (es : of.Codes) (whole : of.Code) (e : Code) (node : ℕ) (helper : Helper) (arguments : List Code) → e ≡ variants.HelperCall node helper arguments → generated.generated_call c m (code_of e) es whole ≡ generated.helper_call_call c m node (helper_of helper) (codes_of arguments) es
of_helper_call c m es whole e node helper arguments is = ap (λ z. generated.generated_call c m (code_of z) es whole) is ∙ ap (λ z. generated.generated_call c m z es whole) (helper_call_is node helper arguments)

pub of_super : (c : Context) (m : ℕ) (es : of.Codes) (whole : of.Code) (e : Code) → e ≡ variants.Super → generated.generated_call c m (code_of e) es whole ≡ generated.super_call_in c m c.constructs es
of_super c m es whole e is = ap (λ z. generated.generated_call c m (code_of z) es whole) is ∙ ap (λ z. generated.generated_call c m z es whole) super_is

pub of_no_helper : (c : Context) (m : ℕ) (es : of.Codes) (e : Code) → ((helper : Helper) → e ≡ variants.Helper helper → ⊥) → ((node : ℕ) (helper : Helper) (arguments : List Code) → e ≡ variants.HelperCall node helper arguments → ⊥) → (e ≡ variants.Super → ⊥) → generated.generated_call c m (code_of e) es (of.call m (spec.callee_of (code_of e)) es) ≡ function_called c m (code_of e) es
of_no_helper c m es e not_helper not_helper_call not_super = ap (λ z. generated.generated_call c m z es (of.call m (spec.callee_of z) es)) (code_out e) ∙ by (out-Code e) (roll-out-Code e) ∙ ap (λ z. function_called c m z es) (sym (code_out e))
  where
    by : (y : Code-F Callee Code Target) → roll-Code y ≡ e → generated.generated_call c m (code_step (map-Code Callee Code Target of.Callee of.Code of.Target callee_of code_of target_of y)) es (of.call m (spec.callee_of (code_step (map-Code Callee Code Target of.Callee of.Code of.Target callee_of code_of target_of y))) es) ≡ function_called c m (code_step (map-Code Callee Code Target of.Callee of.Code of.Target callee_of code_of target_of y)) es
    by (Code-F.Helper helper) is = absurd (not_helper helper (sym is ∙ variants.rolls-Helper helper))
    by (Code-F.HelperCall node helper arguments) is = absurd (not_helper_call node helper arguments (sym is ∙ variants.rolls-HelperCall node helper arguments))
    by Code-F.Super is = absurd (not_super (sym is ∙ variants.rolls-Super))
    by (Code-F.Name node spelling kind) is = name-by c m node spelling (kind_of kind) es
    by y is = refl

-- ---- the rule

abbrev by-flag : Bool → Context → ℕ → of.Code → of.Codes → of.Code
by-flag b c m f es = cond b (of.call m (spec.checked_callee b (spec.callee_of f)) es) (generated.generated_call c m f es (of.call m (spec.checked_callee b (spec.callee_of f)) es))

parts-by : (b : Bool) (c : Context) (m : ℕ) (p q r : members.Member) (f : of.Code) (es : of.Codes) → members.flag_of r ≡ b → f ≡ spec.the_code p → es ≡ members.codes_of q → by-flag b c m f es ≡ spec.call_code c m (members.more p (members.more q (members.more r members.end)))
parts-by b c m p q r f es flag callee arguments =
    ap (λ g. by-flag b c m g es) callee
    ∙ ap (λ ds. by-flag b c m (spec.the_code p) ds) arguments
    ∙ ap (λ d. by-flag d c m (spec.the_code p) (members.codes_of q)) (sym flag)

pub optionally : (c : Context) (m : ℕ) (p q r : members.Member) (f : of.Code) (es : of.Codes) → members.flag_of r ≡ true → f ≡ spec.the_code p → es ≡ members.codes_of q → of.call m (spec.checked_callee true (spec.callee_of f)) es ≡ spec.call_code c m (members.more p (members.more q (members.more r members.end)))
optionally c m p q r f es flag callee arguments = parts-by true c m p q r f es flag callee arguments

pub unconditionally : (c : Context) (m : ℕ) (p q r : members.Member) (f : of.Code) (es : of.Codes) → members.flag_of r ≡ false → f ≡ spec.the_code p → es ≡ members.codes_of q → generated.generated_call c m f es (of.call m (spec.callee_of f) es) ≡ spec.call_code c m (members.more p (members.more q (members.more r members.end)))
unconditionally c m p q r f es flag callee arguments = parts-by false c m p q r f es flag callee arguments
