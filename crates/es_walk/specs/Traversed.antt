-- What a walk does whose hooks may replace nodes.
use Rattle.std.specs.Prelude.{◌≡◌, ℕ, ◌+◌, Bool, true, false, Option}
use Rattle.es_base.specs.declared.kind.Kind.{Kind}
use Rattle.es_ctx.specs.Ancestors.{parent_of}
use Rattle.es_visit.specs.Bare.{is_bare, is_child}
use Rattle.es_ctx.specs.declared.ancestor.Parent.{Parent}
use Rattle.es_base.specs.Tree.{Tree, Part, Parts, Node, end, more, child, list}

-- what the hooks at a node do as it is entered and left, and what is done before and after each of its
-- parts, told by the record of the node and the place
module _ {S : Type 0} (enters : Bool → S → Tree → S → Tree → Type 0) (leaves : S → Tree → S → Tree → Type 0)
    (opens : S → Parent → ℕ → Part → S → Type 0) (closes : S → Parent → ℕ → Part → S → Part → Type 0) where
  mutual
    -- from s the walk of a tree leads to e, and makes it u
    pub data Traversed : S → Tree → S → Tree → Type 0 where
      through : {s m n e : S} {t u : Tree} {k : Kind} {i : ℕ} {sp : Option (ℕ × ℕ)} {si : Option ℕ} {ps qs : Parts} → enters true s t m (Node k i sp si ps) → TraversedParts (parent_of (Node k i sp si ps)) 0 m ps n qs → leaves n (Node k i sp si qs) e u → Traversed s t e u
      passed_by : {s e : S} {t u : Tree} → enters false s t e u → Traversed s t e u

    -- the parts of a node, from a place on
    pub data TraversedParts : Parent → ℕ → S → Parts → S → Parts → Type 0 where
      none : {k : Parent} {at : ℕ} {s : S} → TraversedParts k at s end s end
      next : {k : Parent} {at : ℕ} {s m e : S} {p q : Part} {ps qs : Parts} → TraversedMember k at s p m q → TraversedParts k (at + 1) m ps e qs → TraversedParts k at s (more p ps) e (more q qs)

    pub data TraversedMember : Parent → ℕ → S → Part → S → Part → Type 0 where
      between : {k : Parent} {at : ℕ} {s m n e : S} {p q r : Part} → opens s k at p m → TraversedPart m p n q → closes n k at q e r → TraversedMember k at s p e r

    pub data TraversedPart : S → Part → S → Part → Type 0 where
      of_child : {s e : S} {t u : Tree} → Traversed s t e u → TraversedPart s (child t) e (child u)
      of_list : {s e : S} {ps qs : Parts} → TraversedItems s ps e qs → TraversedPart s (list ps) e (list qs)
      bare : {s : S} {p : Part} → is_bare p ≡ true → TraversedPart s p s p

    pub data TraversedItems : S → Parts → S → Parts → Type 0 where
      no_item : {s : S} → TraversedItems s end s end
      next_item : {s m e : S} {p q : Part} {ps qs : Parts} → TraversedItem s p m q → TraversedItems m ps e qs → TraversedItems s (more p ps) e (more q qs)

    -- an item of a list; what is no node is passed by
    pub data TraversedItem : S → Part → S → Part → Type 0 where
      item : {s e : S} {t u : Tree} → Traversed s t e u → TraversedItem s (child t) e (child u)
      other : {s : S} {p : Part} → is_child p ≡ false → TraversedItem s p s p
