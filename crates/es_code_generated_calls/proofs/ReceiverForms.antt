-- Calls of a new member `call` or `bind`, by the forms of codes.
use Rattle.std.proofs.Common.{◌≡◌, refl, sym, ap, ◌∙◌, ℕ, List, [], ◌∷◌, ◌<◌, length, Bool, true, false, cond, Option, Some, None, option_map, arith}
use Rattle.std.specs.Prelude.{◌&&◌, ◌↔◌, IsTrue, remove, slice_get}
use Rattle.es_base.specs.declared.ledger.GeneratedKind.{GeneratedKind}
use Rattle.es_steps.specs.Context as names
use Rattle.es_steps.specs.Context.{Context}
use Rattle.es_steps.specs.GeneratedForms as spec
use Rattle.es_steps.specs.Helpers as helpers
use Rattle.es_steps.specs.PrivateNames as privates
use Rattle.es_code_generated_calls.specs.Receivers.{asserted_getter, branded_getter, called_name, static_getter, super_function_class, super_received}
use Rattle.es_steps.specs.Code as of
use Rattle.es_codes.proofs.Forms.{code_out, helper_call_is, name_is, super_call_is}
use Rattle.es_codes.specs.CodeView.{code_of, target_of, callee_of, codes_of, code_step, helper_of, opened_of}
use Rattle.es_codes.specs.declared.code.Code.{Code}
use Rattle.es_codes.specs.declared.code.Target.{Target}
use Rattle.es_codes.specs.declared.code.Callee.{Callee}
use Rattle.es_codes.specs.declared.code.Code.TheVariants as variants
use Rattle.es_codes.specs.declared.code.Callee.TheOpen.{Code-F}
use Rattle.es_codes.specs.declared.code.Callee.TheViews.{roll-Code, out-Code, roll-out-Code}
use Rattle.es_codes.specs.declared.code.Callee.TheFolds.{map-Code}
use Rattle.es_codes.specs.View.{kind_of}
use Rattle.es_codes.specs.declared.code.Helper.{Helper}
use Rattle.es_codes.specs.declared.code.Opened.{Opened}
use Rattle.es_codes.specs.declared.name.NameKind.{NameKind}

-- ---- getters

pub not_two_asserted : (m : ℕ) (x : privates.PrivateMember) (es : List Code) → (length es ≡ 2 → ⊥) → asserted_getter m x (codes_of es) ≡ of.no_rule
not_two_asserted m x [] other = refl
not_two_asserted m x (a ∷ []) other = refl
not_two_asserted m x (a ∷ b ∷ []) other = absurd (other refl)
not_two_asserted m x (a ∷ b ∷ d ∷ es) other = refl

cond-false : (b : Bool) (e : of.Code) → cond (b && false) e of.no_rule ≡ of.no_rule
cond-false true e = refl
cond-false false e = refl

asserted-by : (m : ℕ) (x : privates.PrivateMember) (k : ℕ) (es : of.Codes) → spec.getter_call m x (of.and (of.helper_call k helpers.AssertClassBrand es) of.done) ≡ asserted_getter m x es
asserted-by m x k of.done = cond-false x.is_static _
asserted-by m x k (of.and q of.done) = cond-false x.is_static _
asserted-by m x k (of.and q (of.and o of.done)) = refl
asserted-by m x k (of.and q (of.and o (of.and e es))) = cond-false x.is_static _

branded-by : (m : ℕ) (x : privates.PrivateMember) (k : ℕ) (h : helpers.Helper) (es : of.Codes) → spec.getter_call m x (of.and (of.helper_call k h es) of.done) ≡ branded_getter m x h es
branded-by m x k helpers.AssertClassBrand es = asserted-by m x k es
branded-by m x k h es = cond-false x.is_static _

pub on_branded : (m : ℕ) (x : privates.PrivateMember) (e : Code) (node : ℕ) (helper : Helper) (arguments : List Code) → e ≡ variants.HelperCall node helper arguments → spec.getter_call m x (of.and (code_of e) of.done) ≡ branded_getter m x (helper_of helper) (codes_of arguments)
on_branded m x e node helper arguments is = ap (λ z. spec.getter_call m x (of.and (code_of z) of.done)) is ∙ ap (λ z. spec.getter_call m x (of.and z of.done)) (helper_call_is node helper arguments) ∙ branded-by m x node (helper_of helper) (codes_of arguments)

pub on_class : (m : ℕ) (x : privates.PrivateMember) (e : Code) → ((node : ℕ) (helper : Helper) (arguments : List Code) → e ≡ variants.HelperCall node helper arguments → ⊥) → spec.getter_call m x (of.and (code_of e) of.done) ≡ static_getter m x (code_of e)
on_class m x e not_helper_call = ap (λ z. spec.getter_call m x (of.and z of.done)) (code_out e) ∙ by (out-Code e) (roll-out-Code e) ∙ ap (λ z. static_getter m x z) (sym (code_out e))
  where
    by : (y : Code-F Callee Code Target) → roll-Code y ≡ e → spec.getter_call m x (of.and (code_step (map-Code Callee Code Target of.Callee of.Code of.Target callee_of code_of target_of y)) of.done) ≡ static_getter m x (code_step (map-Code Callee Code Target of.Callee of.Code of.Target callee_of code_of target_of y))
    by (Code-F.HelperCall node helper arguments) is = absurd (not_helper_call node helper arguments (sym is ∙ variants.rolls-HelperCall node helper arguments))
    by y is = refl

many-read : (m : ℕ) (x : privates.PrivateMember) (o e : of.Code) (es : of.Codes) → spec.getter_call m x (of.and o (of.and e es)) ≡ of.no_rule
many-read m x (of.helper_call k helpers.AssertClassBrand of.done) e es = refl
many-read m x (of.helper_call k helpers.AssertClassBrand (of.and q of.done)) e es = refl
many-read m x (of.helper_call k helpers.AssertClassBrand (of.and q (of.and o of.done))) e es = refl
many-read m x (of.helper_call k helpers.AssertClassBrand (of.and q (of.and o (of.and d ds)))) e es = refl
many-read m x (of.helper_call k h ds) e es = refl
many-read m x o e es = refl

pub not_one_read : (m : ℕ) (x : privates.PrivateMember) (es : List Code) → (length es ≡ 1 → ⊥) → spec.getter_call m x (codes_of es) ≡ of.no_rule
not_one_read m x [] other = refl
not_one_read m x (a ∷ []) other = absurd (other refl)
not_one_read m x (a ∷ b ∷ es) other = many-read m x (code_of a) (code_of b) (codes_of es)

-- ---- functions that are given a receiver

pub none_given : (b : Bool) (m : ℕ) (f : of.Code) (es : List Code) → IsTrue b ↔ (es ≡ []) → b ≡ true → of.no_rule ≡ spec.received_call m f (codes_of es)
none_given b m f es empty is = ap (λ (zs : List Code). spec.received_call m f (codes_of zs)) (sym (empty.0 is))

pub some_given : (b : Bool) (es : List Code) → IsTrue b ↔ (es ≡ []) → b ≡ false → 0 < length es
some_given b [] empty other = absurd (cc (empty.1 refl))
some_given b (a ∷ es) empty other = omega arith

first-taken : (es rest : List Code) (o : Code) → slice_get es 0 ≡ Some o → rest ≡ remove es 0 → o ∷ rest ≡ es
first-taken [] rest o item left = cc
first-taken (a ∷ es) rest o item left = cc

pub first_given : (m : ℕ) (f : of.Code) (es rest : List Code) (o : Code) → slice_get es 0 ≡ Some o → rest ≡ remove es 0 → of.call m (of.with_receiver f (code_of o)) (codes_of rest) ≡ spec.received_call m f (codes_of es)
first_given m f es rest o item left = ap (λ (zs : List Code). spec.received_call m f (codes_of zs)) (first-taken es rest o item left)

-- ---- functions that stand for what a constructor does behind `super(..)`

pub on_super_call : (m : ℕ) (n : ℕ) (s : List ℕ) (e : Code) (node : ℕ) (class_number : ℕ) (behind : Option Opened) (arguments : List Code) → e ≡ variants.SuperCall node class_number behind arguments → spec.super_function_call m n s (of.and (code_of e) of.done) ≡ super_received m n s class_number (option_map opened_of behind) (codes_of arguments)
on_super_call m n s e node class_number behind arguments is = ap (λ z. spec.super_function_call m n s (of.and (code_of z) of.done)) is ∙ ap (λ z. spec.super_function_call m n s (of.and z of.done)) (super_call_is node class_number behind arguments)

pub on_no_super_call : (m : ℕ) (n : ℕ) (s : List ℕ) (e : Code) → ((node : ℕ) (class_number : ℕ) (behind : Option Opened) (arguments : List Code) → e ≡ variants.SuperCall node class_number behind arguments → ⊥) → spec.super_function_call m n s (of.and (code_of e) of.done) ≡ of.no_rule
on_no_super_call m n s e not_super_call = ap (λ z. spec.super_function_call m n s (of.and z of.done)) (code_out e) ∙ by (out-Code e) (roll-out-Code e)
  where
    by : (y : Code-F Callee Code Target) → roll-Code y ≡ e → spec.super_function_call m n s (of.and (code_step (map-Code Callee Code Target of.Callee of.Code of.Target callee_of code_of target_of y)) of.done) ≡ of.no_rule
    by (Code-F.SuperCall node class_number behind arguments) is = absurd (not_super_call node class_number behind arguments (sym is ∙ variants.rolls-SuperCall node class_number behind arguments))
    by y is = refl

many-constructed : (m n : ℕ) (s : List ℕ) (o e : of.Code) (es : of.Codes) → spec.super_function_call m n s (of.and o (of.and e es)) ≡ of.no_rule
many-constructed m n s (of.super_call k n2 behind ds) e es = refl
many-constructed m n s o e es = refl

pub not_one_constructed : (m n : ℕ) (s : List ℕ) (es : List Code) → (length es ≡ 1 → ⊥) → spec.super_function_call m n s (codes_of es) ≡ of.no_rule
not_one_constructed m n s [] other = refl
not_one_constructed m n s (a ∷ []) other = absurd (other refl)
not_one_constructed m n s (a ∷ b ∷ es) other = many-constructed m n s (code_of a) (code_of b) (codes_of es)

-- ---- `call` and `bind`

name-by : (c : Context) (m k : ℕ) (s : List ℕ) (kind : names.NameKind) (es : of.Codes) → spec.called_with c m (of.name k s kind) es ≡ called_name c m k s kind es
name-by c m k s (names.Generated (GeneratedKind.SuperFn n)) es = refl
name-by c m k s (names.Generated g) es = refl
name-by c m k s kind es = refl

abbrev by-class : Option ℕ → Context → ℕ → ℕ → List ℕ → names.NameKind → of.Codes → of.Code
by-class (Some n) c m k s kind es = spec.super_function_call m n s es
by-class None c m k s kind es = spec.getter_or_received m (spec.private_function c (of.name k s kind)) (of.name k s kind) es

class-by : (c : Context) (m k : ℕ) (s : List ℕ) (kind : names.NameKind) (es : of.Codes) → by-class (super_function_class kind) c m k s kind es ≡ called_name c m k s kind es
class-by c m k s (names.Generated (GeneratedKind.SuperFn n)) es = refl
class-by c m k s (names.Generated g) es = refl
class-by c m k s kind es = refl

pub super_function : (c : Context) (m n k : ℕ) (s : List ℕ) (kind : names.NameKind) (es : of.Codes) → Some n ≡ super_function_class kind → spec.super_function_call m n s es ≡ called_name c m k s kind es
super_function c m n k s kind es is = ap (λ o. by-class o c m k s kind es) is ∙ class-by c m k s kind es

pub no_super_function : (c : Context) (m k : ℕ) (s : List ℕ) (kind : names.NameKind) (es : of.Codes) (f : of.Code) → None ≡ super_function_class kind → f ≡ of.name k s kind → spec.getter_or_received m (spec.private_function c f) f es ≡ called_name c m k s kind es
no_super_function c m k s kind es f none is = ap (λ g. spec.getter_or_received m (spec.private_function c g) g es) is ∙ ap (λ o. by-class o c m k s kind es) none ∙ class-by c m k s kind es

pub on_name : (c : Context) (m : ℕ) (es : of.Codes) (e : Code) (node : ℕ) (spelling : List ℕ) (kind : NameKind) → e ≡ variants.Name node spelling kind → spec.called_with c m (code_of e) es ≡ called_name c m node spelling (kind_of kind) es
on_name c m es e node spelling kind is = ap (λ z. spec.called_with c m (code_of z) es) is ∙ ap (λ z. spec.called_with c m z es) (name_is node spelling kind) ∙ name-by c m node spelling (kind_of kind) es

pub on_no_name : (c : Context) (m : ℕ) (es : of.Codes) (e : Code) → ((node : ℕ) (spelling : List ℕ) (kind : NameKind) → e ≡ variants.Name node spelling kind → ⊥) → spec.called_with c m (code_of e) es ≡ spec.getter_or_received m (spec.private_function c (code_of e)) (code_of e) es
on_no_name c m es e not_name = ap (λ z. spec.called_with c m z es) (code_out e) ∙ by (out-Code e) (roll-out-Code e) ∙ ap (λ z. spec.getter_or_received m (spec.private_function c z) z es) (sym (code_out e))
  where
    by : (y : Code-F Callee Code Target) → roll-Code y ≡ e → spec.called_with c m (code_step (map-Code Callee Code Target of.Callee of.Code of.Target callee_of code_of target_of y)) es ≡ spec.getter_or_received m (spec.private_function c (code_step (map-Code Callee Code Target of.Callee of.Code of.Target callee_of code_of target_of y))) (code_step (map-Code Callee Code Target of.Callee of.Code of.Target callee_of code_of target_of y)) es
    by (Code-F.Name node spelling kind) is = absurd (not_name node spelling kind (sym is ∙ variants.rolls-Name node spelling kind))
    by y is = refl

pub not_one_bound : (f : of.Code) (es : List Code) → (length es ≡ 1 → ⊥) → spec.bound_to f (codes_of es) ≡ of.no_rule
not_one_bound f [] other = refl
not_one_bound f (a ∷ []) other = absurd (other refl)
not_one_bound f (a ∷ b ∷ es) other = refl
