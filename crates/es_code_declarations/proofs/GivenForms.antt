-- What generated names are given, by the forms of codes.
use Rattle.std.proofs.Common.{◌≡◌, refl, sym, ap, ◌∙◌, ℕ, ◌<◌, ◌≤◌, List, [], ◌∷◌, length, get_or, Bool, true, false, Option, arith}
use Rattle.std.specs.Prelude.{IsTrue, ◌↔◌, ◌&&◌, bytes_eq}
use Rattle.es_base.specs.declared.ledger.GeneratedKind.{GeneratedKind}
use Rattle.es_steps.specs.Context as contexts
use Rattle.es_steps.specs.Context.{Context, new_here}
use Rattle.es_steps.specs.GeneratedForms as spec
use Rattle.es_steps.specs.Helpers as helpers
use Rattle.es_steps.specs.Values as values
use Rattle.es_code_declarations.specs.Given.{is_free_named, is_function, is_loose_key, is_none, is_one_constant, makes_collection}
use Rattle.es_steps.specs.Code as of
use Rattle.es_codes.proofs.Forms.{code_out, construct_is, function_is, helper_call_is, name_is, new_function_is}
use Rattle.es_codes.specs.CodeView.{code_of, target_of, callee_of, codes_of, code_step, form_of, helper_of}
use Rattle.es_codes.specs.View.{kind_of}
use Rattle.es_codes.specs.declared.code.Code.{Code}
use Rattle.es_codes.specs.declared.code.Target.{Target}
use Rattle.es_codes.specs.declared.code.Callee.{Callee}
use Rattle.es_codes.specs.declared.code.FunctionForm.{FunctionForm}
use Rattle.es_codes.specs.declared.code.Helper.{Helper}
use Rattle.es_codes.specs.declared.name.NameKind.{NameKind}
use Rattle.es_codes.specs.declared.code.Code.TheVariants as variants
use Rattle.es_codes.specs.declared.code.Callee.TheOpen.{Code-F}
use Rattle.es_codes.specs.declared.code.Callee.TheViews.{roll-Code, out-Code, roll-out-Code}
use Rattle.es_codes.specs.declared.code.Callee.TheFolds.{map-Code}

-- ---- functions

pub a_function : (e : Code) (node : ℕ) (form : FunctionForm) (own_name : Option ℕ) (parameters : List Code) (body : Code) → e ≡ variants.Function node form own_name parameters body → is_function (code_of e) ≡ true
a_function e node form own_name parameters body is = ap (λ x. is_function (code_of x)) is ∙ ap (λ x. is_function x) (function_is node form own_name parameters body)

pub a_new_function : (e : Code) (node : ℕ) (form : FunctionForm) (parameters : List Code) (body : Code) → e ≡ variants.NewFunction node form parameters body → is_function (code_of e) ≡ true
a_new_function e node form parameters body is = ap (λ x. is_function (code_of x)) is ∙ ap (λ x. is_function x) (new_function_is node form parameters body)

pub no_function : (e : Code) → ((node : ℕ) (form : FunctionForm) (own_name : Option ℕ) (parameters : List Code) (body : Code) → e ≡ variants.Function node form own_name parameters body → ⊥) → ((node : ℕ) (form : FunctionForm) (parameters : List Code) (body : Code) → e ≡ variants.NewFunction node form parameters body → ⊥) → is_function (code_of e) ≡ false
no_function e not_function not_new_function = ap (λ x. is_function x) (code_out e) ∙ by (out-Code e) (roll-out-Code e)
  where
    by : (y : Code-F Callee Code Target) → roll-Code y ≡ e → is_function (code_step (map-Code Callee Code Target of.Callee of.Code of.Target callee_of code_of target_of y)) ≡ false
    by (Code-F.Function node form own_name parameters body) is = absurd (not_function node form own_name parameters body (sym is ∙ variants.rolls-Function node form own_name parameters body))
    by (Code-F.NewFunction node form parameters body) is = absurd (not_new_function node form parameters body (sym is ∙ variants.rolls-NewFunction node form parameters body))
    by y is = refl

pub function_given : (m : ℕ) (s : List ℕ) (g : GeneratedKind) (e : of.Code) → is_function e ≡ true → of.give_function m s g e ≡ spec.given_function m s g e
function_given m s g (of.function f form own_name ps body) h = refl
function_given m s g (of.new_function f form ps body) h = refl
function_given m s g e h = cc

pub other_given : (m : ℕ) (s : List ℕ) (g : GeneratedKind) (e : of.Code) → is_function e ≡ false → of.no_rule ≡ spec.given_function m s g e
other_given m s g (of.function f form own_name ps body) h = cc
other_given m s g (of.new_function f form ps body) h = cc
other_given m s g e h = refl

-- ---- new collections

pub a_name : (s : List ℕ) (e : Code) (node : ℕ) (spelling : List ℕ) (kind : NameKind) → e ≡ variants.Name node spelling kind → is_free_named s (code_of e) ≡ is_free_named s (of.name 0 spelling (kind_of kind))
a_name s e node spelling kind is = ap (λ x. is_free_named s (code_of x)) is ∙ ap (λ x. is_free_named s x) (name_is node spelling kind)

pub no_name : (s : List ℕ) (e : Code) → ((node : ℕ) (spelling : List ℕ) (kind : NameKind) → e ≡ variants.Name node spelling kind → ⊥) → is_free_named s (code_of e) ≡ false
no_name s e not_name = ap (λ x. is_free_named s x) (code_out e) ∙ by (out-Code e) (roll-out-Code e)
  where
    by : (y : Code-F Callee Code Target) → roll-Code y ≡ e → is_free_named s (code_step (map-Code Callee Code Target of.Callee of.Code of.Target callee_of code_of target_of y)) ≡ false
    by (Code-F.Name node spelling kind) is = absurd (not_name node spelling kind (sym is ∙ variants.rolls-Name node spelling kind))
    by y is = refl

swapped : (a b : Bool) → (a && b) ≡ (b && a)
swapped true true = refl
swapped true false = refl
swapped false true = refl
swapped false false = refl

collection-by : (c : Context) (s : List ℕ) (m : ℕ) (f : of.Code) (es : of.Codes) → spec.is_new_collection c s (of.construct m f es) ≡ makes_collection c s m f es
collection-by c s m (of.name k t (contexts.Changing (values.Free x))) of.done = swapped (new_here c m) (bytes_eq s t)
collection-by c s m f of.done = refl
collection-by c s m (of.name k t (contexts.Changing (values.Free x))) (of.and e es) = refl
collection-by c s m f (of.and e es) = refl

pub a_construction : (c : Context) (s : List ℕ) (e : Code) (node : ℕ) (callee : Code) (arguments : List Code) → e ≡ variants.Construct node callee arguments → spec.is_new_collection c s (code_of e) ≡ makes_collection c s node (code_of callee) (codes_of arguments)
a_construction c s e node callee arguments is = ap (λ x. spec.is_new_collection c s (code_of x)) is ∙ ap (λ x. spec.is_new_collection c s x) (construct_is node callee arguments) ∙ collection-by c s node (code_of callee) (codes_of arguments)

pub no_construction : (c : Context) (s : List ℕ) (e : Code) → ((node : ℕ) (callee : Code) (arguments : List Code) → e ≡ variants.Construct node callee arguments → ⊥) → spec.is_new_collection c s (code_of e) ≡ false
no_construction c s e not_construct = ap (λ x. spec.is_new_collection c s x) (code_out e) ∙ by (out-Code e) (roll-out-Code e)
  where
    by : (y : Code-F Callee Code Target) → roll-Code y ≡ e → spec.is_new_collection c s (code_step (map-Code Callee Code Target of.Callee of.Code of.Target callee_of code_of target_of y)) ≡ false
    by (Code-F.Construct node callee arguments) is = absurd (not_construct node callee arguments (sym is ∙ variants.rolls-Construct node callee arguments))
    by y is = refl

-- ---- loose keys

pub no_constant : (cs : List Code) → length cs < 1 → false ≡ is_one_constant (codes_of cs)
no_constant [] h = refl
no_constant (c ∷ cs) h = absurd (omega (arith, h))

pub more_constants : (cs : List Code) → 2 ≤ length cs → false ≡ is_one_constant (codes_of cs)
more_constants (c ∷ d ∷ cs) h = refl
more_constants cs h = absurd (omega (arith, h))

pub this_constant : (cs : List Code) (c : Code) → 1 ≤ length cs → length cs < 2 → c ≡ get_or cs 0 c → spec.is_constant (code_of c) ≡ is_one_constant (codes_of cs)
this_constant (x ∷ []) c least below first = ap (λ z. spec.is_constant (code_of z)) first
this_constant [] c least below first = absurd (omega (arith, least))
this_constant (x ∷ y ∷ xs) c least below first = absurd (omega (arith, below))

loose-by : (k : ℕ) (h : helpers.Helper) (es : of.Codes) → spec.is_loose_key_call (of.helper_call k h es) ≡ (is_loose_key h && is_one_constant es)
loose-by k helpers.ClassPrivateFieldLooseKey (of.and e of.done) = refl
loose-by k h es = refl

pub a_helper_call : (e : Code) (node : ℕ) (helper : Helper) (arguments : List Code) → e ≡ variants.HelperCall node helper arguments → spec.is_loose_key_call (code_of e) ≡ (is_loose_key (helper_of helper) && is_one_constant (codes_of arguments))
a_helper_call e node helper arguments is = ap (λ x. spec.is_loose_key_call (code_of x)) is ∙ ap (λ x. spec.is_loose_key_call x) (helper_call_is node helper arguments) ∙ loose-by node (helper_of helper) (codes_of arguments)

pub no_helper_call : (e : Code) → ((node : ℕ) (helper : Helper) (arguments : List Code) → e ≡ variants.HelperCall node helper arguments → ⊥) → spec.is_loose_key_call (code_of e) ≡ false
no_helper_call e not_helper_call = ap (λ x. spec.is_loose_key_call x) (code_out e) ∙ by (out-Code e) (roll-out-Code e)
  where
    by : (y : Code-F Callee Code Target) → roll-Code y ≡ e → spec.is_loose_key_call (code_step (map-Code Callee Code Target of.Callee of.Code of.Target callee_of code_of target_of y)) ≡ false
    by (Code-F.HelperCall node helper arguments) is = absurd (not_helper_call node helper arguments (sym is ∙ variants.rolls-HelperCall node helper arguments))
    by y is = refl

pub none_held : (b : Bool) (cs : List Code) → IsTrue b ↔ (cs ≡ []) → b ≡ is_none (codes_of cs)
none_held true [] h = refl
none_held false [] h = h.1 refl
none_held b (c ∷ cs) h = elim b as (λ d. (IsTrue d → c ∷ cs ≡ []) → d ≡ false) [ true ↦ λ k. absurd (cc (k refl)) | false ↦ λ k. refl ] h.0
