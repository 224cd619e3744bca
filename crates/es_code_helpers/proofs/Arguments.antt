-- Helpers that stand for themselves: those without a rule, and the others with another number of arguments.
use Rattle.std.proofs.Common.{◌≡◌, refl, sym, ap, ◌∙◌, ℕ, List, [], ◌∷◌, length, ◌⊎◌, inl, inr}
use Rattle.es_codes.specs.CodeView.{codes_of, helper_of}
use Rattle.es_codes.specs.declared.code.Code.{Code}
use Rattle.es_codes.specs.declared.code.Helper.{Helper}
use Rattle.es_steps.specs.Code.{Codes, helper_call}
use Rattle.es_steps.specs.Context.{Context}
use Rattle.es_steps.specs.GeneratedForms.{helper_code}
use Rattle.es_steps.specs.Helpers.{ClassPrivateFieldGet2, ClassPrivateFieldSet2, ReadOnlyError, WriteOnlyError, ClassPrivateFieldInitSpec, ClassPrivateMethodInitSpec, DefineProperty, SuperPropGet, SuperPropSet, ToPropertyKey, SetFunctionName}

by-name : (c : Context) (m : ℕ) (h k : Helper) (es : Codes) → h ≡ k → helper_call m (helper_of k) es ≡ helper_code c m (helper_of k) es → helper_call m (helper_of h) es ≡ helper_code c m (helper_of h) es
by-name c m h k es is itself = ap (λ x. helper_call m (helper_of x) es) is ∙ itself ∙ sym (ap (λ x. helper_code c m (helper_of x) es) is)

pub no_rule_of_its_own : (c : Context) (m : ℕ) (h : Helper) (es : Codes) → (h ≡ Helper.ToSetter) ⊎ ((h ≡ Helper.CheckInRHS) ⊎ ((h ≡ Helper.ClassPrivateFieldLooseKey) ⊎ (h ≡ Helper.ClassPrivateFieldLooseBase))) → helper_call m (helper_of h) es ≡ helper_code c m (helper_of h) es
no_rule_of_its_own c m h es (inl is) = by-name c m h Helper.ToSetter es is refl
no_rule_of_its_own c m h es (inr (inl is)) = by-name c m h Helper.CheckInRHS es is refl
no_rule_of_its_own c m h es (inr (inr (inl is))) = by-name c m h Helper.ClassPrivateFieldLooseKey es is refl
no_rule_of_its_own c m h es (inr (inr (inr is))) = by-name c m h Helper.ClassPrivateFieldLooseBase es is refl

-- ---- with another number of arguments

pub no_get : (c : Context) (m : ℕ) (es : List Code) → (length es ≡ 2 → ⊥) → helper_call m ClassPrivateFieldGet2 (codes_of es) ≡ helper_code c m ClassPrivateFieldGet2 (codes_of es)
no_get c m [] other = refl
no_get c m (a ∷ []) other = refl
no_get c m (a ∷ b ∷ []) other = absurd (other refl)
no_get c m (a ∷ b ∷ z ∷ es) other = refl

pub no_set : (c : Context) (m : ℕ) (es : List Code) → (length es ≡ 3 → ⊥) → helper_call m ClassPrivateFieldSet2 (codes_of es) ≡ helper_code c m ClassPrivateFieldSet2 (codes_of es)
no_set c m [] other = refl
no_set c m (a ∷ []) other = refl
no_set c m (a ∷ b ∷ []) other = refl
no_set c m (a ∷ b ∷ d ∷ []) other = absurd (other refl)
no_set c m (a ∷ b ∷ d ∷ z ∷ es) other = refl

pub no_read_only : (c : Context) (m : ℕ) (es : List Code) → (length es ≡ 1 → ⊥) → helper_call m ReadOnlyError (codes_of es) ≡ helper_code c m ReadOnlyError (codes_of es)
no_read_only c m [] other = refl
no_read_only c m (a ∷ []) other = absurd (other refl)
no_read_only c m (a ∷ z ∷ es) other = refl

pub no_write_only : (c : Context) (m : ℕ) (es : List Code) → (length es ≡ 1 → ⊥) → helper_call m WriteOnlyError (codes_of es) ≡ helper_code c m WriteOnlyError (codes_of es)
no_write_only c m [] other = refl
no_write_only c m (a ∷ []) other = absurd (other refl)
no_write_only c m (a ∷ z ∷ es) other = refl

pub no_field : (c : Context) (m : ℕ) (es : List Code) → (length es ≡ 3 → ⊥) → helper_call m ClassPrivateFieldInitSpec (codes_of es) ≡ helper_code c m ClassPrivateFieldInitSpec (codes_of es)
no_field c m [] other = refl
no_field c m (a ∷ []) other = refl
no_field c m (a ∷ b ∷ []) other = refl
no_field c m (a ∷ b ∷ d ∷ []) other = absurd (other refl)
no_field c m (a ∷ b ∷ d ∷ z ∷ es) other = refl

pub no_brand : (c : Context) (m : ℕ) (es : List Code) → (length es ≡ 2 → ⊥) → helper_call m ClassPrivateMethodInitSpec (codes_of es) ≡ helper_code c m ClassPrivateMethodInitSpec (codes_of es)
no_brand c m [] other = refl
no_brand c m (a ∷ []) other = refl
no_brand c m (a ∷ b ∷ []) other = absurd (other refl)
no_brand c m (a ∷ b ∷ z ∷ es) other = refl

pub no_define : (c : Context) (m : ℕ) (es : List Code) → (length es ≡ 3 → ⊥) → helper_call m DefineProperty (codes_of es) ≡ helper_code c m DefineProperty (codes_of es)
no_define c m [] other = refl
no_define c m (a ∷ []) other = refl
no_define c m (a ∷ b ∷ []) other = refl
no_define c m (a ∷ b ∷ d ∷ []) other = absurd (other refl)
no_define c m (a ∷ b ∷ d ∷ z ∷ es) other = refl

pub no_super_get : (c : Context) (m : ℕ) (es : List Code) → (length es ≡ 3 → ⊥) → helper_call m SuperPropGet (codes_of es) ≡ helper_code c m SuperPropGet (codes_of es)
no_super_get c m [] other = refl
no_super_get c m (a ∷ []) other = refl
no_super_get c m (a ∷ b ∷ []) other = refl
no_super_get c m (a ∷ b ∷ d ∷ []) other = absurd (other refl)
no_super_get c m (a ∷ b ∷ d ∷ z ∷ es) other = refl

pub no_super_set : (c : Context) (m : ℕ) (es : List Code) → (length es ≡ 5 → ⊥) → helper_call m SuperPropSet (codes_of es) ≡ helper_code c m SuperPropSet (codes_of es)
no_super_set c m [] other = refl
no_super_set c m (a ∷ []) other = refl
no_super_set c m (a ∷ b ∷ []) other = refl
no_super_set c m (a ∷ b ∷ d ∷ []) other = refl
no_super_set c m (a ∷ b ∷ d ∷ e ∷ []) other = refl
no_super_set c m (a ∷ b ∷ d ∷ e ∷ f ∷ []) other = absurd (other refl)
no_super_set c m (a ∷ b ∷ d ∷ e ∷ f ∷ z ∷ es) other = refl

pub no_key : (c : Context) (m : ℕ) (es : List Code) → (length es ≡ 1 → ⊥) → helper_call m ToPropertyKey (codes_of es) ≡ helper_code c m ToPropertyKey (codes_of es)
no_key c m [] other = refl
no_key c m (a ∷ []) other = absurd (other refl)
no_key c m (a ∷ z ∷ es) other = refl

pub no_name : (c : Context) (m : ℕ) (es : List Code) → (length es ≡ 2 → ⊥) → helper_call m SetFunctionName (codes_of es) ≡ helper_code c m SetFunctionName (codes_of es)
no_name c m [] other = refl
no_name c m (a ∷ []) other = refl
no_name c m (a ∷ b ∷ []) other = absurd (other refl)
no_name c m (a ∷ b ∷ z ∷ es) other = refl
