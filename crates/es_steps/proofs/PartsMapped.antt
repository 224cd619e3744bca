-- Members, items and strings of parts stand where they stood under other numbers; what is chosen or put together is mapped part by part.
use Rattle.std.specs.Prelude.{◌≡◌, ℕ, zero, suc, List, ◌∷◌, ◌++◌, map, Bool, true, false, cond, not, ◌||◌, Option, Some, None, is_some}
use Rattle.std.proofs.Common.{refl, sym, ap, ap₂, ◌∙◌}
use Rattle.std.proofs.lemmas.List.{map-append}
use Rattle.es_base.specs.Preorder.{number_of, preorder, preorder_of_part, preorder_of}
use Rattle.es_base.specs.Tree.{Tree, Part, Parts, Node, end, more, child, absent, list, string, boolean}
use Rattle.es_base.specs.declared.kind.Kind.{Kind}
use Rattle.es_steps.specs.Parts.{at, items, block_items, string_of, is_true, is_present, is_simple_parameter, has_pattern}
use Rattle.es_steps.proofs.Mapped.{mapped, mapped_part, mapped_parts, mapped_option}

-- ---- choices and lists

pub cond-mapped : {A B : Type 0} (g : A → B) (b : Bool) (x y : A) {v w : B} → v ≡ g x → w ≡ g y → cond b v w ≡ g (cond b x y)
cond-mapped g true x y p q = p
cond-mapped g false x y p q = q

pub append-mapped : {A B : Type 0} (g : A → B) (xs ys : List A) {vs ws : List B} → vs ≡ map g xs → ws ≡ map g ys → vs ++ ws ≡ map g (xs ++ ys)
append-mapped g xs ys p q = rw (p, q) (sym (map-append g xs ys))

pub is_some-mapped : {A B : Type 0} (g : A → B) (x : Option A) → is_some (mapped_option g x) ≡ is_some x
is_some-mapped g None = refl
is_some-mapped g (Some a) = refl

-- ---- parts

module _ (f : ℕ → ℕ) where
  pub at-mapped : (i : ℕ) (ps : Parts) → at i (mapped_parts f ps) ≡ mapped_part f (at i ps)
  at-mapped i end = refl
  at-mapped zero (more p ps) = refl
  at-mapped (suc i) (more p ps) = at-mapped i ps

  pub items-mapped : (p : Part) → items (mapped_part f p) ≡ mapped_parts f (items p)
  items-mapped (list ps) = refl
  items-mapped p = refl

  pub block_items-mapped : (p : Part) → block_items (mapped_part f p) ≡ mapped_parts f (block_items p)
  block_items-mapped (child (Node kind m span semantic_id (more p ps))) = items-mapped p
  block_items-mapped p = refl

  pub string_of-mapped : (p : Part) → string_of (mapped_part f p) ≡ string_of p
  string_of-mapped (string s) = refl
  string_of-mapped p = refl

  pub is_true-mapped : (p : Part) → is_true (mapped_part f p) ≡ is_true p
  is_true-mapped (boolean b) = refl
  is_true-mapped p = refl

  pub is_present-mapped : (p : Part) → is_present (mapped_part f p) ≡ is_present p
  is_present-mapped absent = refl
  is_present-mapped p = refl

  -- the same at the i-th member
  pub items_at-mapped : (i : ℕ) (ps : Parts) → items (at i (mapped_parts f ps)) ≡ mapped_parts f (items (at i ps))
  items_at-mapped i ps = ap items (at-mapped i ps) ∙ items-mapped (at i ps)

  pub block_items_at-mapped : (i : ℕ) (ps : Parts) → block_items (at i (mapped_parts f ps)) ≡ mapped_parts f (block_items (at i ps))
  block_items_at-mapped i ps = ap block_items (at-mapped i ps) ∙ block_items-mapped (at i ps)

  pub string_at-mapped : (i : ℕ) (ps : Parts) → string_of (at i (mapped_parts f ps)) ≡ string_of (at i ps)
  string_at-mapped i ps = ap string_of (at-mapped i ps) ∙ string_of-mapped (at i ps)

  pub is_true_at-mapped : (i : ℕ) (ps : Parts) → is_true (at i (mapped_parts f ps)) ≡ is_true (at i ps)
  is_true_at-mapped i ps = ap is_true (at-mapped i ps) ∙ is_true-mapped (at i ps)

  pub is_present_at-mapped : (i : ℕ) (ps : Parts) → is_present (at i (mapped_parts f ps)) ≡ is_present (at i ps)
  is_present_at-mapped i ps = ap is_present (at-mapped i ps) ∙ is_present-mapped (at i ps)

  is_simple_parameter-mapped : (p : Part) → is_simple_parameter (mapped_part f p) ≡ is_simple_parameter p
  is_simple_parameter-mapped (child (Node Kind.BindingIdentifier m span semantic_id ps)) = refl
  is_simple_parameter-mapped (child (Node Kind.RestElement m span semantic_id (more (child (Node Kind.BindingIdentifier b bspan b_semantic_id bs)) rest))) = refl
  is_simple_parameter-mapped p = refl

  pub has_pattern-mapped : (ps : Parts) → has_pattern (mapped_parts f ps) ≡ has_pattern ps
  has_pattern-mapped end = refl
  has_pattern-mapped (more p ps) = ap₂ (λ a b. not a || b) (is_simple_parameter-mapped p) (has_pattern-mapped ps)

  -- ---- preorder

  pub number_of-mapped : (t : Tree) → number_of (mapped f t) ≡ f (number_of t)
  number_of-mapped (Node kind m span semantic_id ps) = refl

  mutual
    pub preorder-mapped : (t : Tree) → preorder (mapped f t) ≡ map (mapped f) (preorder t)
    preorder-mapped (Node kind m span semantic_id ps) = ap (λ ts. Node kind (f m) None None (mapped_parts f ps) ∷ ts) (preorder_of-mapped ps)

    pub preorder_of_part-mapped : (p : Part) → preorder_of_part (mapped_part f p) ≡ map (mapped f) (preorder_of_part p)
    preorder_of_part-mapped (child t) = preorder-mapped t
    preorder_of_part-mapped (list ps) = preorder_of-mapped ps
    preorder_of_part-mapped p = refl

    pub preorder_of-mapped : (ps : Parts) → preorder_of (mapped_parts f ps) ≡ map (mapped f) (preorder_of ps)
    preorder_of-mapped end = refl
    preorder_of-mapped (more p ps) = append-mapped (mapped f) _ _ (preorder_of_part-mapped p) (preorder_of-mapped ps)
