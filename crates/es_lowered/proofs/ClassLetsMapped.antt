-- That the `let`s which class declarations become hold nothing else does not depend on numbers.
use Rattle.std.specs.Prelude.{◌≡◌, ℕ, List, [], ◌∷◌, map, not, ◌&&◌, ◌||◌, Option, Some, None}
use Rattle.std.proofs.Common.{refl, ap, ap₂, ◌∙◌}
use Rattle.es_base.specs.Preorder.{number_of, preorder_of, preorder_of_part}
use Rattle.es_base.specs.Tree.{Tree, Part, Parts, Node, end, more, child, list}
use Rattle.es_base.specs.declared.kind.Kind.{Kind}
use Rattle.es_lowered.specs.ClassLets.{is_identifier, names_expression, is_class_of, nodes_of_declared, initializer_fits, let_fits, declarator_fits, class_lets_fit, class_lets_fit_in, class_lets_fit_at}
use Rattle.es_lowered.specs.ClassNames.{numbers_of, is_none}
use Rattle.es_steps.specs.Parts.{at, is_present}
use Rattle.es_steps.specs.Scopes.{class_in}
use Rattle.es_lowered.proofs.ClassNamesMapped.{numbers_of-mapped, numbers_of_part-mapped, numbers_of_parts-mapped}
use Rattle.es_steps.proofs.KeptNodesMapped.{are_new_or_among-mapped}
use Rattle.es_steps.proofs.Mapped.{Renames, mapped, mapped_part, mapped_parts, mapped_option}
use Rattle.es_steps.proofs.PartsMapped.{cond-mapped, append-mapped, at-mapped, is_present_at-mapped, number_of-mapped}
use Rattle.es_steps.proofs.ReferencesMapped.{has_number-mapped}
use Rattle.es_steps.proofs.ScopesMapped.{class_in-mapped}

pub none-mapped : (f : ℕ → ℕ) (ns : List ℕ) → is_none (map f ns) ≡ is_none ns
none-mapped f [] = refl
none-mapped f (n ∷ ns) = refl

module _ {first : ℕ} {f : ℕ → ℕ} (r : Renames first f) where
  is_identifier-mapped : (b : ℕ) (p : Part) → is_identifier (f b) (mapped_part f p) ≡ is_identifier b p
  is_identifier-mapped b (child t) = rw (number_of-mapped f t) (r.apart b (number_of t))
  is_identifier-mapped b p = refl

  identifier_at-mapped : (b : ℕ) (ps : Parts) → is_identifier (f b) (at 0 (mapped_parts f ps)) ≡ is_identifier b (at 0 ps)
  identifier_at-mapped b ps = ap (is_identifier (f b)) (at-mapped f 0 ps) ∙ is_identifier-mapped b (at 0 ps)

  names_expression-mapped : (b : ℕ) (ts : List Tree) → names_expression (f b) (map (mapped f) ts) ≡ names_expression b ts
  names_expression-mapped b [] = refl
  names_expression-mapped b (Node Kind.ClassExpression n span semantic_id ps ∷ ts) = ap₂ (λ x y. x || y) (identifier_at-mapped b ps) (names_expression-mapped b ts)
  names_expression-mapped b (t ∷ ts) = names_expression-mapped b ts

  is_class_of-mapped : (n : ℕ) (given : Option ℕ) → is_class_of (f n) (mapped_option f given) ≡ is_class_of n given
  is_class_of-mapped n None = refl
  is_class_of-mapped n (Some k) = r.apart n k

  nodes_of_declared-mapped : (b : ℕ) (given : Option ℕ) (ts : List Tree) → nodes_of_declared (f b) (mapped_option f given) (map (mapped f) ts) ≡ map f (nodes_of_declared b given ts)
  nodes_of_declared-mapped b given [] = refl
  nodes_of_declared-mapped b given (Node Kind.ClassDeclaration n span semantic_id ps ∷ ts) =
      append-mapped f _ _
      (rw (identifier_at-mapped b ps, is_present_at-mapped f 0 ps, is_class_of-mapped n given, numbers_of_parts-mapped f ps)
      (cond-mapped (map f) (is_identifier b (at 0 ps) || (not (is_present (at 0 ps)) && is_class_of n given)) (n ∷ numbers_of (preorder_of ps)) [] refl refl))
      (nodes_of_declared-mapped b given ts)
  nodes_of_declared-mapped b given (t ∷ ts) = nodes_of_declared-mapped b given ts

  -- ps are the nodes of the source
  module _ (ps : List Tree) where
    initializer_fits-mapped : (declared ns : List ℕ) → initializer_fits first (map (mapped f) ps) (map f declared) (map f ns) ≡ initializer_fits first ps declared ns
    initializer_fits-mapped declared ns = ap₂ (λ x y. x || y) (none-mapped f declared) (are_new_or_among-mapped r declared ns)

    let_fits-mapped : (m b : ℕ) (e : Part) → let_fits first (map (mapped f) ps) (f m) (f b) (mapped_part f e) ≡ let_fits first ps m b e
    let_fits-mapped m b e =
        rw (numbers_of-mapped f ps, has_number-mapped r m (numbers_of ps), names_expression-mapped b ps, class_in-mapped f e, nodes_of_declared-mapped b (class_in e) ps, numbers_of_part-mapped f e, initializer_fits-mapped (nodes_of_declared b (class_in e) ps) (numbers_of (preorder_of_part e))) refl

    declarator_fits-mapped : (kind : Kind) (m : ℕ) (qs : Parts) → declarator_fits first (map (mapped f) ps) kind (f m) (mapped_parts f qs) ≡ declarator_fits first ps kind m qs
    declarator_fits-mapped Kind.VariableDeclarator m (more (child t) (more e end)) = rw (number_of-mapped f t) (let_fits-mapped m (number_of t) e)
    declarator_fits-mapped kind m qs = refl

    mutual
      pub class_lets_fit-mapped : (t : Tree) → class_lets_fit first (map (mapped f) ps) (mapped f t) ≡ class_lets_fit first ps t
      class_lets_fit-mapped (Node kind m span semantic_id qs) = ap₂ (λ x y. x && y) (declarator_fits-mapped kind m qs) (class_lets_fit_in-mapped qs)

      class_lets_fit_in-mapped : (qs : Parts) → class_lets_fit_in first (map (mapped f) ps) (mapped_parts f qs) ≡ class_lets_fit_in first ps qs
      class_lets_fit_in-mapped end = refl
      class_lets_fit_in-mapped (more p qs) = ap₂ (λ x y. x && y) (class_lets_fit_at-mapped p) (class_lets_fit_in-mapped qs)

      class_lets_fit_at-mapped : (p : Part) → class_lets_fit_at first (map (mapped f) ps) (mapped_part f p) ≡ class_lets_fit_at first ps p
      class_lets_fit_at-mapped (child t) = class_lets_fit-mapped t
      class_lets_fit_at-mapped (list qs) = class_lets_fit_in-mapped qs
      class_lets_fit_at-mapped p = refl
