-- A brand that is asserted, by the member whose function is asked for.
use Rattle.std.proofs.Common.{◌≡◌, refl, sym, ap, ◌∙◌, ℕ, ◌<◌, ◌≤◌, List, [], ◌∷◌, length, get_or, cond, arith, Option, Some, None}
use Rattle.std.specs.Prelude.{◌&&◌}
use Rattle.es_codes.specs.CodeView.{code_of, codes_of}
use Rattle.es_codes.specs.declared.code.Code as arguments
use Rattle.es_steps.specs.Code.{Code, Codes, helper_call, done, and, from_call, private_member, no_rule}
use Rattle.es_steps.specs.Context.{Context}
use Rattle.es_steps.specs.GeneratedForms.{helper_code, asserted, private_function, is_method_kind, is_brand}
use Rattle.es_steps.specs.Helpers.{AssertClassBrand}
use Rattle.es_steps.specs.PrivateNames.{PrivateMember, reference_of}
use Rattle.es_code_helpers.specs.Asserting.{asserted_member, asserted_method}

abbrev by : ℕ → Codes → Option PrivateMember → Code
by m es (Some x) = asserted_method m x es
by m es None = helper_call m AssertClassBrand es

three : (m : ℕ) (x : Option PrivateMember) (q o f : Code) → asserted m x q o (helper_call m AssertClassBrand (and q (and o (and f done)))) ≡ by m (and q (and o (and f done))) x
three m (Some x) q o f = refl
three m None q o f = refl

by-member : (c : Context) (m : ℕ) (es : Codes) → helper_code c m AssertClassBrand es ≡ by m es (asserted_member c es)
by-member c m (and q (and o (and f done))) = three m (private_function c f) q o f
by-member c m es = refl

pub of_member : (c : Context) (m : ℕ) (es : Codes) (x : PrivateMember) → Some x ≡ asserted_member c es → asserted_method m x es ≡ helper_code c m AssertClassBrand es
of_member c m es x is = ap (by m es) is ∙ sym (by-member c m es)

pub of_none : (c : Context) (m : ℕ) (es : Codes) → None ≡ asserted_member c es → helper_call m AssertClassBrand es ≡ helper_code c m AssertClassBrand es
of_none c m es is = ap (by m es) is ∙ sym (by-member c m es)

-- what this member reads, by the brand and the object
abbrev read : ℕ → PrivateMember → Code → Code → Code
read m x q o = cond (is_method_kind x.kind && is_brand x q) (from_call (private_member m (reference_of x) o)) no_rule

pub method_of : (m : ℕ) (x : PrivateMember) (es : List arguments.Code) (q o : arguments.Code) → 3 ≤ length es → length es < 4 → q ≡ get_or es 0 q → o ≡ get_or es 1 o → asserted_method m x (codes_of es) ≡ read m x (code_of q) (code_of o)
method_of m x [] q o least below first second = absurd (omega (arith, least))
method_of m x (a ∷ []) q o least below first second = absurd (omega (arith, least))
method_of m x (a ∷ b ∷ []) q o least below first second = absurd (omega (arith, least))
method_of m x (a ∷ b ∷ d ∷ []) q o least below first second = ap (λ k. read m x (code_of k) (code_of b)) (sym first) ∙ ap (λ k. read m x (code_of q) (code_of k)) (sym second)
method_of m x (a ∷ b ∷ d ∷ z ∷ es) q o least below first second = absurd (omega (arith, below))

-- with another number of arguments

pub none_asserted : (c : Context) (es : List arguments.Code) → (length es ≡ 3 → ⊥) → None ≡ asserted_member c (codes_of es)
none_asserted c [] other = refl
none_asserted c (a ∷ []) other = refl
none_asserted c (a ∷ b ∷ []) other = refl
none_asserted c (a ∷ b ∷ d ∷ []) other = absurd (other refl)
none_asserted c (a ∷ b ∷ d ∷ z ∷ es) other = refl

pub none_read : (m : ℕ) (x : PrivateMember) (es : List arguments.Code) → (length es ≡ 3 → ⊥) → no_rule ≡ asserted_method m x (codes_of es)
none_read m x [] other = refl
none_read m x (a ∷ []) other = refl
none_read m x (a ∷ b ∷ []) other = refl
none_read m x (a ∷ b ∷ d ∷ []) other = absurd (other refl)
none_read m x (a ∷ b ∷ d ∷ z ∷ es) other = refl
