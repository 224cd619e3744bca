-- The member of a helper, by the forms of its object and its key.
use Rattle.std.proofs.Common.{◌≡◌, refl, sym, ap, ◌∙◌, ℕ, List, Bool, true, false}
use Rattle.std.specs.Prelude.{not, ◌&&◌}
use Rattle.es_steps.specs.Context as names
use Rattle.es_steps.specs.Context.{Context}
use Rattle.es_steps.specs.GeneratedForms as spec
use Rattle.es_steps.specs.Helpers.{helper_named}
use Rattle.es_steps.specs.Values as values
use Rattle.es_code_helpers.specs.HelperNames.{names_helpers}
use Rattle.es_steps.specs.Code as of
use Rattle.es_codes.proofs.Forms.{code_out, name_is, spelled_is}
use Rattle.es_codes.specs.CodeView.{code_of, target_of, callee_of, code_step}
use Rattle.es_codes.specs.View.{kind_of}
use Rattle.es_codes.specs.declared.code.Code.{Code}
use Rattle.es_codes.specs.declared.code.Target.{Target}
use Rattle.es_codes.specs.declared.code.Callee.{Callee}
use Rattle.es_codes.specs.declared.name.NameKind.{NameKind}
use Rattle.es_codes.specs.declared.code.Code.TheVariants as variants
use Rattle.es_codes.specs.declared.code.Callee.TheOpen.{Code-F}
use Rattle.es_codes.specs.declared.code.Callee.TheViews.{roll-Code, out-Code, roll-out-Code}
use Rattle.es_codes.specs.declared.code.Callee.TheFolds.{map-Code}

helpers-named : (c : Context) (m : ℕ) (s : List ℕ) (kind : names.NameKind) → spec.is_helper_object c (of.name m s kind) ≡ names_helpers c m s kind
helpers-named c m s (names.Changing (values.Free t)) = refl
helpers-named c m s (names.Changing r) = refl
helpers-named c m s kind = refl

pub a_name : (c : Context) (e : Code) (node : ℕ) (spelling : List ℕ) (kind : NameKind) → e ≡ variants.Name node spelling kind → spec.is_helper_object c (code_of e) ≡ names_helpers c node spelling (kind_of kind)
a_name c e node spelling kind is = ap (λ x. spec.is_helper_object c (code_of x)) is ∙ ap (λ x. spec.is_helper_object c x) (name_is node spelling kind) ∙ helpers-named c node spelling (kind_of kind)

pub no_name : (c : Context) (e : Code) → ((node : ℕ) (spelling : List ℕ) (kind : NameKind) → e ≡ variants.Name node spelling kind → ⊥) → spec.is_helper_object c (code_of e) ≡ false
no_name c e not_name = ap (λ x. spec.is_helper_object c x) (code_out e) ∙ by (out-Code e) (roll-out-Code e)
  where
    by : (y : Code-F Callee Code Target) → roll-Code y ≡ e → spec.is_helper_object c (code_step (map-Code Callee Code Target of.Callee of.Code of.Target callee_of code_of target_of y)) ≡ false
    by (Code-F.Name node spelling kind) is = absurd (not_name node spelling kind (sym is ∙ variants.rolls-Name node spelling kind))
    by y is = refl

pub a_spelling : (e : Code) (spelling : List ℕ) → e ≡ variants.Spelled spelling → (whole : of.Code) → spec.helper_or true (code_of e) whole ≡ spec.helper_or_none (helper_named spelling)
a_spelling e spelling is whole = ap (λ x. spec.helper_or true (code_of x) whole) is ∙ ap (λ x. spec.helper_or true x whole) (spelled_is spelling)

pub no_spelling : (e : Code) → ((spelling : List ℕ) → e ≡ variants.Spelled spelling → ⊥) → (whole : of.Code) → spec.helper_or true (code_of e) whole ≡ whole
no_spelling e not_spelled whole = ap (λ x. spec.helper_or true x whole) (code_out e) ∙ by (out-Code e) (roll-out-Code e)
  where
    by : (y : Code-F Callee Code Target) → roll-Code y ≡ e → spec.helper_or true (code_step (map-Code Callee Code Target of.Callee of.Code of.Target callee_of code_of target_of y)) whole ≡ whole
    by (Code-F.Spelled spelling) is = absurd (not_spelled spelling (sym is ∙ variants.rolls-Spelled spelling))
    by y is = refl

pub of_helpers : (c : Context) (computed : Bool) (o k whole : of.Code) → (spec.is_helper_object c o && not computed) ≡ true → spec.helper_or true k whole ≡ spec.helper_member c computed o k whole
of_helpers c computed o k whole is = ap (λ b. spec.helper_or b k whole) (sym is)

pub of_others : (c : Context) (computed : Bool) (o k whole : of.Code) → (spec.is_helper_object c o && not computed) ≡ false → whole ≡ spec.helper_member c computed o k whole
of_others c computed o k whole is = ap (λ b. spec.helper_or b k whole) (sym is)
