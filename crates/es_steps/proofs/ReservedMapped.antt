-- Whether names are reserved words does not depend on numbers.
use Rattle.std.specs.Prelude.{◌≡◌, ℕ, zero, suc, ◌||◌}
use Rattle.std.proofs.Common.{refl, ap, ap₂, ◌∙◌}
use Rattle.es_base.specs.Tree.{Tree, Part, Parts, Node, end, more, child, list}
use Rattle.es_base.specs.declared.kind.Kind.{Kind}
use Rattle.es_steps.specs.Reserved.{Words, is_reserved, function_words, declaration_words, arrow_words, words_inside, strict_if, has_reserved, reserved_in, reserved_at}
use Rattle.es_steps.specs.Strict.{makes_strict}
use Rattle.es_steps.proofs.Mapped.{mapped, mapped_part, mapped_parts}
use Rattle.es_steps.proofs.PartsMapped.{string_at-mapped, is_true_at-mapped}
use Rattle.es_steps.proofs.StrictMapped.{makes_strict-mapped}

module _ (f : ℕ → ℕ) where
  is_reserved-mapped : (w : Words) (kind : Kind) (ps : Parts) → is_reserved w kind (mapped_parts f ps) ≡ is_reserved w kind ps
  is_reserved-mapped w Kind.IdentifierReference ps = rw (string_at-mapped f 0 ps) refl
  is_reserved-mapped w Kind.BindingIdentifier ps = rw (string_at-mapped f 0 ps) refl
  is_reserved-mapped w kind ps = refl

  function_words-mapped : (w : Words) (ps : Parts) → function_words w (mapped_parts f ps) ≡ function_words w ps
  function_words-mapped w ps = rw (is_true_at-mapped f 3 ps, is_true_at-mapped f 4 ps) refl

  declaration_words-mapped : (w : Words) (ps : Parts) (i : ℕ) → declaration_words w (mapped_parts f ps) i ≡ declaration_words w ps i
  declaration_words-mapped w ps zero = refl
  declaration_words-mapped w ps (suc i) = function_words-mapped w ps

  arrow_words-mapped : (w : Words) (ps : Parts) (i : ℕ) → arrow_words w (mapped_parts f ps) i ≡ arrow_words w ps i
  arrow_words-mapped w ps zero = rw (is_true_at-mapped f 2 ps) refl
  arrow_words-mapped w ps (suc i) = rw (is_true_at-mapped f 2 ps) refl

  words_inside-mapped : (w : Words) (kind : Kind) (ps : Parts) (i : ℕ) → words_inside w kind (mapped_parts f ps) i ≡ words_inside w kind ps i
  words_inside-mapped w Kind.Program ps i = rw (string_at-mapped f 0 ps) refl
  words_inside-mapped w Kind.FunctionDeclaration ps i = declaration_words-mapped w ps i
  words_inside-mapped w Kind.FunctionExpression ps i = function_words-mapped w ps
  words_inside-mapped w Kind.ArrowFunctionExpression ps i = arrow_words-mapped w ps i
  words_inside-mapped w kind ps i = refl

  mutual
    pub has_reserved-mapped : (w : Words) (t : Tree) → has_reserved w (mapped f t) ≡ has_reserved w t
    has_reserved-mapped w (Node kind m span semantic_id ps) =
        ap₂ (λ a b. a || b) (is_reserved-mapped w kind ps)
        (ap (λ b. reserved_in (words_inside (strict_if b w) kind (mapped_parts f ps)) (mapped_parts f ps)) (makes_strict-mapped f kind ps)
        ∙ reserved_in-mapped (words_inside (strict_if (makes_strict kind ps) w) kind (mapped_parts f ps)) (words_inside (strict_if (makes_strict kind ps) w) kind ps) (words_inside-mapped (strict_if (makes_strict kind ps) w) kind ps) ps)

    reserved_in-mapped : (there here : ℕ → Words) → ((i : ℕ) → there i ≡ here i) → (ps : Parts) → reserved_in there (mapped_parts f ps) ≡ reserved_in here ps
    reserved_in-mapped there here same end = refl
    reserved_in-mapped there here same (more p ps) =
        ap₂ (λ a b. a || b) (ap (λ w. reserved_at w (mapped_part f p)) (same 0) ∙ reserved_at-mapped (here 0) p)
        (reserved_in-mapped (λ i. there (suc i)) (λ i. here (suc i)) (λ i. same (suc i)) ps)

    reserved_at-mapped : (w : Words) (p : Part) → reserved_at w (mapped_part f p) ≡ reserved_at w p
    reserved_at-mapped w (child t) = has_reserved-mapped w t
    reserved_at-mapped w (list ps) = reserved_in-mapped (λ i. w) (λ i. w) (λ i. refl) ps
    reserved_at-mapped w p = refl
