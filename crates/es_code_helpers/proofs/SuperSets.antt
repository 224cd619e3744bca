-- Members of `super` that are written, by the five arguments of their helper.
use Rattle.std.proofs.Common.{◌≡◌, sym, ap, ◌∙◌, ℕ, List, [], ◌∷◌, length, get_or, true, false, cond, arith}
use Rattle.std.specs.Prelude.{codes}
use Rattle.es_codes.specs.CodeView.{code_of, codes_of}
use Rattle.es_codes.specs.declared.code.Code.{Code}
use Rattle.es_steps.specs.Code as of
use Rattle.es_steps.specs.Context.{Context, new_here}
use Rattle.es_steps.specs.GeneratedForms.{helper_code, home_of, is_number_literal, known_object, super_set}
use Rattle.es_steps.specs.Helpers.{SuperPropSet}

-- by the home, the key, the value and the receiver
abbrev pub written : Context → ℕ → Code → Code → Code → Code → of.Code
written c m h k v r = super_set (new_here c m) m (home_of (code_of h)) (code_of k) (code_of v) (known_object (code_of r))

same : (c : Context) (m : ℕ) (h k v r h2 k2 v2 r2 : Code) → h ≡ h2 → k ≡ k2 → v ≡ v2 → r ≡ r2 → written c m h k v r ≡ written c m h2 k2 v2 r2
same c m h k v r h2 k2 v2 r2 first second third fourth = ap (λ x. written c m x k v r) first ∙ ap (λ x. written c m h2 x v r) second ∙ ap (λ x. written c m h2 k2 x r) third ∙ ap (λ x. written c m h2 k2 v2 x) fourth

pub strict : (c : Context) (m : ℕ) (es : List Code) (h k v r o : Code) → length es ≡ 5 → h ≡ get_or es 0 h → k ≡ get_or es 1 k → v ≡ get_or es 2 v → r ≡ get_or es 3 r → o ≡ get_or es 4 o → is_number_literal (codes "1") (code_of o) ≡ true → written c m h k v r ≡ helper_code c m SuperPropSet (codes_of es)
strict c m (a ∷ b ∷ d ∷ e ∷ f ∷ []) h k v r o five first second third fourth fifth is = same c m h k v r a b d e first second third fourth ∙ sym (ap (λ t. cond t (written c m a b d e) of.no_rule) (ap (λ x. is_number_literal (codes "1") (code_of x)) (sym fifth) ∙ is))
strict c m [] h k v r o five first second third fourth fifth is = absurd (omega (arith, five))
strict c m (a ∷ []) h k v r o five first second third fourth fifth is = absurd (omega (arith, five))
strict c m (a ∷ b ∷ []) h k v r o five first second third fourth fifth is = absurd (omega (arith, five))
strict c m (a ∷ b ∷ d ∷ []) h k v r o five first second third fourth fifth is = absurd (omega (arith, five))
strict c m (a ∷ b ∷ d ∷ e ∷ []) h k v r o five first second third fourth fifth is = absurd (omega (arith, five))
strict c m (a ∷ b ∷ d ∷ e ∷ f ∷ z ∷ es) h k v r o five first second third fourth fifth is = absurd (omega (arith, five))

pub sloppy : (c : Context) (m : ℕ) (es : List Code) (o : Code) → length es ≡ 5 → o ≡ get_or es 4 o → is_number_literal (codes "1") (code_of o) ≡ false → of.no_rule ≡ helper_code c m SuperPropSet (codes_of es)
sloppy c m (a ∷ b ∷ d ∷ e ∷ f ∷ []) o five fifth is = sym (ap (λ t. cond t (written c m a b d e) of.no_rule) (ap (λ x. is_number_literal (codes "1") (code_of x)) (sym fifth) ∙ is))
sloppy c m [] o five fifth is = absurd (omega (arith, five))
sloppy c m (a ∷ []) o five fifth is = absurd (omega (arith, five))
sloppy c m (a ∷ b ∷ []) o five fifth is = absurd (omega (arith, five))
sloppy c m (a ∷ b ∷ d ∷ []) o five fifth is = absurd (omega (arith, five))
sloppy c m (a ∷ b ∷ d ∷ e ∷ []) o five fifth is = absurd (omega (arith, five))
sloppy c m (a ∷ b ∷ d ∷ e ∷ f ∷ z ∷ es) o five fifth is = absurd (omega (arith, five))
