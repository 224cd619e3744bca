-- The member `_`, by the forms of codes.
use Rattle.std.proofs.Common.{◌≡◌, refl, sym, ap, ◌∙◌, ℕ, List, [], ◌∷◌, true, false, length}
use Rattle.es_base.specs.declared.ledger.GeneratedKind.{GeneratedKind}
use Rattle.es_steps.specs.Context as names
use Rattle.es_steps.specs.Context.{Context}
use Rattle.es_steps.specs.GeneratedForms.{own_field, static_field, underscore_of}
use Rattle.es_steps.specs.Helpers as helpers
use Rattle.es_code_generated_members.specs.Fields.{is_static_field_kind, names_static_field}
use Rattle.es_steps.specs.Code as of
use Rattle.es_codes.proofs.Forms.{code_out, helper_call_is, name_is}
use Rattle.es_codes.specs.CodeView.{code_of, target_of, callee_of, codes_of, helper_of, code_step}
use Rattle.es_codes.specs.View.{kind_of}
use Rattle.es_codes.specs.declared.code.Code.{Code}
use Rattle.es_codes.specs.declared.code.Target.{Target}
use Rattle.es_codes.specs.declared.code.Callee.{Callee}
use Rattle.es_codes.specs.declared.code.Helper.{Helper}
use Rattle.es_codes.specs.declared.name.NameKind.{NameKind}
use Rattle.es_codes.specs.declared.code.Code.TheVariants as variants
use Rattle.es_codes.specs.declared.code.Callee.TheOpen.{Code-F}
use Rattle.es_codes.specs.declared.code.Callee.TheViews.{roll-Code, out-Code, roll-out-Code}
use Rattle.es_codes.specs.declared.code.Callee.TheFolds.{map-Code}

pub a_name : (e : Code) (node : ℕ) (spelling : List ℕ) (kind : NameKind) → e ≡ variants.Name node spelling kind → names_static_field (code_of e) ≡ is_static_field_kind (kind_of kind)
a_name e node spelling kind is = ap (λ x. names_static_field (code_of x)) is ∙ ap (λ x. names_static_field x) (name_is node spelling kind)

pub no_name : (e : Code) → ((node : ℕ) (spelling : List ℕ) (kind : NameKind) → e ≡ variants.Name node spelling kind → ⊥) → names_static_field (code_of e) ≡ false
no_name e not_name = ap (λ x. names_static_field x) (code_out e) ∙ by (out-Code e) (roll-out-Code e)
  where
    by : (y : Code-F Callee Code Target) → roll-Code y ≡ e → names_static_field (code_step (map-Code Callee Code Target of.Callee of.Code of.Target callee_of code_of target_of y)) ≡ false
    by (Code-F.Name node spelling kind) is = absurd (not_name node spelling kind (sym is ∙ variants.rolls-Name node spelling kind))
    by y is = refl

pub not_branded : (c : Context) (m k : ℕ) (es : List Code) (whole : of.Code) → (length es ≡ 3 → ⊥) → whole ≡ underscore_of c m (of.helper_call k helpers.AssertClassBrand (codes_of es)) whole
not_branded c m k [] whole h = refl
not_branded c m k (e ∷ []) whole h = refl
not_branded c m k (e ∷ d ∷ []) whole h = refl
not_branded c m k (e ∷ d ∷ b ∷ []) whole h = absurd (h refl)
not_branded c m k (e ∷ d ∷ b ∷ a ∷ es) whole h = refl

pub other_helper : (c : Context) (m k : ℕ) (h : Helper) (es : of.Codes) (whole : of.Code) → (h ≡ Helper.AssertClassBrand → ⊥) → (h ≡ Helper.ToSetter → ⊥) → whole ≡ underscore_of c m (of.helper_call k (helper_of h) es) whole
other_helper c m k Helper.AssertClassBrand es whole brand setter = absurd (brand refl)
other_helper c m k Helper.ToSetter es whole brand setter = absurd (setter refl)
other_helper c m k h es whole brand setter = refl

pub a_helper_call : (e : Code) (node : ℕ) (helper : Helper) (arguments : List Code) → e ≡ variants.HelperCall node helper arguments → code_of e ≡ of.helper_call node (helper_of helper) (codes_of arguments)
a_helper_call e node helper arguments is = ap code_of is ∙ helper_call_is node helper arguments

unnamed : (c : Context) (m k : ℕ) (s : List ℕ) (kind : names.NameKind) (whole : of.Code) → is_static_field_kind kind ≡ false → underscore_of c m (of.name k s kind) whole ≡ whole
unnamed c m k s (names.Generated (GeneratedKind.StaticField d)) whole h = cc
unnamed c m k s (names.Generated g) whole h = refl
unnamed c m k s kind whole h = refl

pub of_other : (c : Context) (m : ℕ) (e : Code) (whole : of.Code) → ((node : ℕ) (helper : Helper) (arguments : List Code) → e ≡ variants.HelperCall node helper arguments → ⊥) → names_static_field (code_of e) ≡ false → underscore_of c m (code_of e) whole ≡ whole
of_other c m e whole not_helper_call not_named = ap (λ x. underscore_of c m x whole) (code_out e) ∙ by (out-Code e) (roll-out-Code e) (ap (λ x. names_static_field x) (sym (code_out e)) ∙ not_named)
  where
    by : (y : Code-F Callee Code Target) → roll-Code y ≡ e → names_static_field (code_step (map-Code Callee Code Target of.Callee of.Code of.Target callee_of code_of target_of y)) ≡ false → underscore_of c m (code_step (map-Code Callee Code Target of.Callee of.Code of.Target callee_of code_of target_of y)) whole ≡ whole
    by (Code-F.HelperCall node helper arguments) is h = absurd (not_helper_call node helper arguments (sym is ∙ variants.rolls-HelperCall node helper arguments))
    by (Code-F.Name node spelling kind) is h = unnamed c m node spelling (kind_of kind) whole h
    by y is h = refl

pub of_static_field : (c : Context) (m : ℕ) (o whole : of.Code) → names_static_field o ≡ true → own_field m (static_field c o) ≡ underscore_of c m o whole
of_static_field c m (of.name k s (names.Generated (GeneratedKind.StaticField d))) whole h = refl
of_static_field c m o whole h = cc
