-- What stays in which node does not depend on numbers.
use Rattle.std.specs.Prelude.{◌≡◌, ℕ, suc, List, [], ◌∷◌, map, false, cond, nat_eq, ◌&&◌, ◌||◌}
use Rattle.std.proofs.Common.{refl, ap, ap₂, ◌∙◌}
use Rattle.es_base.specs.Numbered.{is_new}
use Rattle.es_base.specs.Preorder.{number_of}
use Rattle.es_base.specs.Tree.{Tree, Part, Parts, Node, end, more, child, list}
use Rattle.es_base.specs.declared.kind.Kind.{Kind}
use Rattle.es_lowered.specs.Bound.{BoundPlace, is_bound, is_nested_item, depends_on_function, body_around, has_body, place_inside, bound_to, bound_node, bound_block, bound_nodes, bound_in, bound_at, bound_of, all_bound, bound_stay}
use Rattle.es_steps.specs.KeptNodes.{pair_stands, all_pairs_stand}
use Rattle.es_steps.proofs.KeptNodesMapped.{function_around-mapped}
use Rattle.es_steps.proofs.Mapped.{Renames, mapped, mapped_part, mapped_parts, mapped_pair}
use Rattle.es_steps.specs.Parts.{at}
use Rattle.es_steps.proofs.PrintableMapped.{name_of_part-mapped}
use Rattle.es_steps.proofs.PartsMapped.{at-mapped, cond-mapped, append-mapped, number_of-mapped, is_true_at-mapped}

abbrev mapped_place : (ℕ → ℕ) → BoundPlace → BoundPlace
mapped_place f x = record { kind = x.kind; number = f x.number; of_function = f x.of_function; in_parameters = x.in_parameters }

module _ {first : ℕ} {f : ℕ → ℕ} (r : Renames first f) where
  body_around-mapped : (home : ℕ) (kind : Kind) (m i : ℕ) → body_around (f home) kind (f m) i ≡ f (body_around home kind m i)
  body_around-mapped home Kind.PropertyDefinition m i = cond-mapped f (nat_eq i 1) m home refl refl
  body_around-mapped home kind m i = function_around-mapped f home kind m i

  place_inside-mapped : (x : BoundPlace) (kind : Kind) (m i : ℕ) → place_inside (mapped_place f x) kind (f m) i ≡ mapped_place f (place_inside x kind m i)
  place_inside-mapped x kind m i = rw (body_around-mapped x.of_function kind m i) refl

  bound_to-mapped : (m n : ℕ) → bound_to first (f m) (f n) ≡ map (mapped_pair f) (bound_to first m n)
  bound_to-mapped m n = rw (r.new m) (cond-mapped (map (mapped_pair f)) (is_new first m) [] ((m, n) ∷ []) refl refl)

  depends_on_function-mapped : (kind : Kind) (ps : Parts) → depends_on_function kind (mapped_parts f ps) ≡ depends_on_function kind ps
  depends_on_function-mapped Kind.LabeledStatement ps = rw (at-mapped f 0 ps, name_of_part-mapped f (at 0 ps)) refl
  depends_on_function-mapped Kind.ForOfStatement ps = is_true_at-mapped f 3 ps
  depends_on_function-mapped kind ps = refl

  bound_node-mapped : (x : BoundPlace) (kind : Kind) (m : ℕ) (ps : Parts) → bound_node first (mapped_place f x) kind (f m) (mapped_parts f ps) ≡ map (mapped_pair f) (bound_node first x kind m ps)
  bound_node-mapped x kind m ps =
      rw (depends_on_function-mapped kind ps)
      (cond-mapped (map (mapped_pair f)) (is_nested_item x.kind kind) ((m, m) ∷ []) (cond (is_bound x.kind kind) (bound_to first m x.number) (cond (depends_on_function kind ps) (bound_to first m (cond x.in_parameters m x.of_function)) [])) refl
      (cond-mapped (map (mapped_pair f)) (is_bound x.kind kind) (bound_to first m x.number) (cond (depends_on_function kind ps) (bound_to first m (cond x.in_parameters m x.of_function)) []) (bound_to-mapped m x.number)
      (cond-mapped (map (mapped_pair f)) (depends_on_function kind ps) (bound_to first m (cond x.in_parameters m x.of_function)) []
      (ap (bound_to first (f m)) (cond-mapped f x.in_parameters m x.of_function refl refl) ∙ bound_to-mapped m (cond x.in_parameters m x.of_function)) refl)))

  bound_block-mapped : (x : BoundPlace) (kind : Kind) (m : ℕ) → bound_block first (mapped_place f x) kind (f m) ≡ map (mapped_pair f) (bound_block first x kind m)
  bound_block-mapped x Kind.BlockStatement m =
      ap (bound_to first (f m)) (cond-mapped f (has_body x.kind) x.number m refl refl) ∙ bound_to-mapped m (cond (has_body x.kind) x.number m)
  bound_block-mapped x kind m = refl

  mutual
    bound_nodes-mapped : (x : BoundPlace) (t : Tree) → bound_nodes first (mapped_place f x) (mapped f t) ≡ map (mapped_pair f) (bound_nodes first x t)
    bound_nodes-mapped x (Node kind m span semantic_id ps) =
        append-mapped (mapped_pair f) _ _ (bound_node-mapped x kind m ps)
        (append-mapped (mapped_pair f) _ _ (bound_block-mapped x kind m) (bound_in-mapped _ (place_inside x kind m) (place_inside-mapped x kind m) ps))

    bound_in-mapped : (y x : ℕ → BoundPlace) → ((i : ℕ) → y i ≡ mapped_place f (x i)) → (ps : Parts) → bound_in first y (mapped_parts f ps) ≡ map (mapped_pair f) (bound_in first x ps)
    bound_in-mapped y x same end = refl
    bound_in-mapped y x same (more p ps) =
        append-mapped (mapped_pair f) _ _ (ap (λ h. bound_at first h (mapped_part f p)) (same 0) ∙ bound_at-mapped (x 0) p)
        (bound_in-mapped (λ i. y (suc i)) (λ i. x (suc i)) (λ i. same (suc i)) ps)

    bound_at-mapped : (x : BoundPlace) (p : Part) → bound_at first (mapped_place f x) (mapped_part f p) ≡ map (mapped_pair f) (bound_at first x p)
    bound_at-mapped x (child t) = bound_nodes-mapped x t
    bound_at-mapped x (list ps) = bound_of-mapped x ps
    bound_at-mapped x p = refl

    bound_of-mapped : (x : BoundPlace) (ps : Parts) → bound_of first (mapped_place f x) (mapped_parts f ps) ≡ map (mapped_pair f) (bound_of first x ps)
    bound_of-mapped x end = refl
    bound_of-mapped x (more p ps) = append-mapped (mapped_pair f) _ _ (bound_at-mapped x p) (bound_of-mapped x ps)

  all_bound-mapped : (t : Tree) → all_bound first (mapped f t) ≡ map (mapped_pair f) (all_bound first t)
  all_bound-mapped t =
      ap (λ n. bound_nodes first (record { kind = Kind.Program; number = n; of_function = n; in_parameters = false }) (mapped f t)) (number_of-mapped f t)
      ∙ bound_nodes-mapped (record { kind = Kind.Program; number = number_of t; of_function = number_of t; in_parameters = false }) t

  pair_stands-mapped : (p : ℕ × ℕ) (ps : List (ℕ × ℕ)) → pair_stands (mapped_pair f p) (map (mapped_pair f) ps) ≡ pair_stands p ps
  pair_stands-mapped p [] = refl
  pair_stands-mapped p (q ∷ ps) = ap₂ (λ a b. a || b) (ap₂ (λ a b. a && b) (r.apart p.0 q.0) (r.apart p.1 q.1)) (pair_stands-mapped p ps)

  all_pairs_stand-mapped : (ps qs : List (ℕ × ℕ)) → all_pairs_stand (map (mapped_pair f) ps) (map (mapped_pair f) qs) ≡ all_pairs_stand ps qs
  all_pairs_stand-mapped [] qs = refl
  all_pairs_stand-mapped (p ∷ ps) qs = ap₂ (λ a b. a && b) (pair_stands-mapped p qs) (all_pairs_stand-mapped ps qs)

  pub bound_stay-mapped : (p q : Tree) → bound_stay first (mapped f p) (mapped f q) ≡ bound_stay first p q
  bound_stay-mapped p q = ap₂ all_pairs_stand (all_bound-mapped q) (all_bound-mapped p) ∙ all_pairs_stand-mapped (all_bound first q) (all_bound first p)
