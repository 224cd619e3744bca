-- Strict code, and that none becomes strict, under a change of numbers.
use Rattle.std.specs.Prelude.{◌≡◌, ℕ, map, Bool, true, false, ◌||◌, bytes_eq, codes}
use Rattle.std.proofs.Common.{refl, ap, ap₂, ◌∙◌}
use Rattle.es_base.specs.Tree.{Tree, Part, Parts, Node, end, more, child, list}
use Rattle.es_base.specs.declared.kind.Kind.{Kind}
use Rattle.es_steps.specs.Parts.{at, items}
use Rattle.es_steps.specs.Strict.{is_use_strict, has_use_strict, directives, makes_strict, if_strict, strict_numbers, strict_in, strict_at, none_becomes_strict}
use Rattle.es_steps.proofs.Mapped.{Renames, mapped, mapped_part, mapped_parts}
use Rattle.es_steps.proofs.PartsMapped.{append-mapped, at-mapped, items_at-mapped, string_at-mapped}
use Rattle.es_steps.proofs.KeptNodesMapped.{are_new_or_among-mapped}

module _ (f : ℕ → ℕ) where
  is_use_strict-mapped : (p : Part) → is_use_strict (mapped_part f p) ≡ is_use_strict p
  is_use_strict-mapped (child (Node Kind.ExpressionStatement m span semantic_id ps)) = ap (λ s. bytes_eq s (codes "use strict")) (string_at-mapped f 1 ps)
  is_use_strict-mapped p = refl

  has_use_strict-mapped : (ps : Parts) → has_use_strict (mapped_parts f ps) ≡ has_use_strict ps
  has_use_strict-mapped end = refl
  has_use_strict-mapped (more p ps) = ap₂ (λ a b. a || b) (is_use_strict-mapped p) (has_use_strict-mapped ps)

  pub directives-mapped : (p : Part) → directives (mapped_part f p) ≡ mapped_parts f (directives p)
  directives-mapped (child (Node Kind.BlockStatement m span semantic_id ps)) = items_at-mapped f 0 ps
  directives-mapped p = refl

  pub directives_at-mapped : (i : ℕ) (ps : Parts) → directives (at i (mapped_parts f ps)) ≡ mapped_parts f (directives (at i ps))
  directives_at-mapped i ps = ap directives (at-mapped f i ps) ∙ directives-mapped (at i ps)

  pub body_strict-mapped : (i : ℕ) (ps : Parts) → has_use_strict (directives (at i (mapped_parts f ps))) ≡ has_use_strict (directives (at i ps))
  body_strict-mapped i ps = ap has_use_strict (directives_at-mapped i ps) ∙ has_use_strict-mapped (directives (at i ps))

  pub makes_strict-mapped : (kind : Kind) (ps : Parts) → makes_strict kind (mapped_parts f ps) ≡ makes_strict kind ps
  makes_strict-mapped Kind.Program ps =
      ap₂ (λ s b. bytes_eq s (codes "module") || b) (string_at-mapped f 0 ps) (ap has_use_strict (items_at-mapped f 1 ps) ∙ has_use_strict-mapped (items (at 1 ps)))
  makes_strict-mapped Kind.ClassDeclaration ps = refl
  makes_strict-mapped Kind.ClassExpression ps = refl
  makes_strict-mapped Kind.FunctionDeclaration ps = body_strict-mapped 2 ps
  makes_strict-mapped Kind.FunctionExpression ps = body_strict-mapped 2 ps
  makes_strict-mapped Kind.ArrowFunctionExpression ps = body_strict-mapped 1 ps
  makes_strict-mapped kind ps = refl

  if_strict-mapped : (strict : Bool) (m : ℕ) → if_strict strict (f m) ≡ map f (if_strict strict m)
  if_strict-mapped true m = refl
  if_strict-mapped false m = refl

  mutual
    pub strict_numbers-mapped : (strict : Bool) (t : Tree) → strict_numbers strict (mapped f t) ≡ map f (strict_numbers strict t)
    strict_numbers-mapped strict (Node kind m span semantic_id ps) =
        let here : Bool = strict || makes_strict kind ps in
        rw (makes_strict-mapped kind ps) (append-mapped f (if_strict here m) (strict_in here ps) (if_strict-mapped here m) (strict_in-mapped here ps))

    strict_in-mapped : (strict : Bool) (ps : Parts) → strict_in strict (mapped_parts f ps) ≡ map f (strict_in strict ps)
    strict_in-mapped strict end = refl
    strict_in-mapped strict (more p ps) = append-mapped f _ _ (strict_at-mapped strict p) (strict_in-mapped strict ps)

    strict_at-mapped : (strict : Bool) (p : Part) → strict_at strict (mapped_part f p) ≡ map f (strict_at strict p)
    strict_at-mapped strict (child t) = strict_numbers-mapped strict t
    strict_at-mapped strict (list ps) = strict_in-mapped strict ps
    strict_at-mapped strict p = refl

pub none_becomes_strict-mapped : {first : ℕ} {f : ℕ → ℕ} → Renames first f → (p q : Tree) → none_becomes_strict first (mapped f p) (mapped f q) ≡ none_becomes_strict first p q
none_becomes_strict-mapped {f = f} r p q = rw (strict_numbers-mapped f false p, strict_numbers-mapped f false q) (are_new_or_among-mapped r (strict_numbers false p) (strict_numbers false q))
