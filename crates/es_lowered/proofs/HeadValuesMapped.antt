-- That the values of heads keep to themselves does not depend on numbers.
use Rattle.std.specs.Prelude.{◌≡◌, ℕ, List, [], ◌∷◌, map, ◌&&◌}
use Rattle.std.proofs.Common.{refl, ap, ap₂, ◌∙◌}
use Rattle.es_base.specs.Preorder.{preorder_of_part}
use Rattle.es_base.specs.Tree.{Tree, Parts, Node, more, child}
use Rattle.es_base.specs.declared.kind.Kind.{Kind}
use Rattle.es_base.specs.declared.ledger.LedgerEntry.{LedgerEntry}
use Rattle.es_lowered.specs.ClassNames.{numbers_of}
use Rattle.es_lowered.specs.HeadValues.{first_value, head_value, stands_inside, given_inside, head_values_stay}
use Rattle.es_steps.specs.Parts.{at, items}
use Rattle.es_steps.specs.References.{Reference}
use Rattle.es_steps.specs.Values.{String}
use Rattle.es_lowered.proofs.ClassNamesMapped.{numbers_of_part-mapped}
use Rattle.es_steps.proofs.ContextMapped.{is_generated-mapped}
use Rattle.es_steps.proofs.Mapped.{Renames, mapped, mapped_part, mapped_parts, mapped_reference, mapped_ledger}
use Rattle.es_steps.proofs.PartsMapped.{at-mapped, items_at-mapped}
use Rattle.es_steps.proofs.ReferencesMapped.{has_number-mapped}

module _ (f : ℕ → ℕ) where
  first_value-mapped : (ps : Parts) → first_value (mapped_parts f ps) ≡ mapped_part f (first_value ps)
  first_value-mapped (more (child (Node Kind.VariableDeclarator m span semantic_id ps)) rest) = at-mapped f 1 ps
  first_value-mapped ps = refl

  head_value-mapped : (kind : Kind) (ps : Parts) → head_value kind (mapped_parts f ps) ≡ mapped_part f (head_value kind ps)
  head_value-mapped Kind.ForInStatement (more (child (Node Kind.VariableDeclaration m span semantic_id ps)) rest) = ap first_value (items_at-mapped f 1 ps) ∙ first_value-mapped (items (at 1 ps))
  head_value-mapped kind ps = refl

module _ {first : ℕ} {f : ℕ → ℕ} (r : Renames first f) (ledger : List LedgerEntry) where
  stands_inside-mapped : (inside : List ℕ) (all : List Reference) (s : String) (rs : List Reference) → stands_inside (mapped_ledger f ledger) (map f inside) (map (mapped_reference f) all) s (map (mapped_reference f) rs) ≡ stands_inside ledger inside all s rs
  stands_inside-mapped inside all s [] = refl
  stands_inside-mapped inside all s (x ∷ rs) = rw (has_number-mapped r x.number inside, stands_inside-mapped inside all s rs) refl

  given_inside-mapped : (inside : List ℕ) (all rs : List Reference) → given_inside (mapped_ledger f ledger) (map f inside) (map (mapped_reference f) all) (map (mapped_reference f) rs) ≡ given_inside ledger inside all rs
  given_inside-mapped inside all [] = refl
  given_inside-mapped inside all (x ∷ rs) = rw (is_generated-mapped f x.spelling ledger, has_number-mapped r x.number inside, stands_inside-mapped inside all x.spelling all, given_inside-mapped inside all rs) refl

  value_numbers-mapped : (kind : Kind) (ps : Parts) → numbers_of (preorder_of_part (head_value kind (mapped_parts f ps))) ≡ map f (numbers_of (preorder_of_part (head_value kind ps)))
  value_numbers-mapped kind ps = ap (λ p. numbers_of (preorder_of_part p)) (head_value-mapped f kind ps) ∙ numbers_of_part-mapped f (head_value kind ps)

  pub head_values_stay-mapped : (all : List Reference) (ts : List Tree) → head_values_stay (mapped_ledger f ledger) (map (mapped_reference f) all) (map (mapped f) ts) ≡ head_values_stay ledger all ts
  head_values_stay-mapped all [] = refl
  head_values_stay-mapped all (Node kind m span semantic_id ps ∷ ts) =
      ap₂ (λ x y. x && y)
      (ap (λ ns. given_inside (mapped_ledger f ledger) ns (map (mapped_reference f) all) (map (mapped_reference f) all)) (value_numbers-mapped kind ps) ∙ given_inside-mapped (numbers_of (preorder_of_part (head_value kind ps))) all all)
      (head_values_stay-mapped all ts)
