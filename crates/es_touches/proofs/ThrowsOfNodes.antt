-- What always throws, node by node.
use Rattle.std.proofs.Common.{◌≡◌, refl, ap, ℕ, List, [], ◌∷◌, ◌++◌, false, cond, ◌&&◌, ◌||◌}
use Rattle.std.specs.Prelude.{not}
use Rattle.es_base.specs.Numbered.{is_new}
use Rattle.es_base.specs.Preorder.{preorder_of}
use Rattle.es_base.specs.Tree.{Tree, Parts, Node}
use Rattle.es_base.specs.declared.kind.Kind.{Kind}
use Rattle.es_lowered.specs.ClassNames.{any_among, numbers_of}
use Rattle.es_lowered.specs.DeadZones.{ends_in_throw, new_throws, right_of, right_operands, throws_at}
use Rattle.es_lowered.specs.HelperCalls.{part_number}
use Rattle.es_node.specs.View.{kind_of, number_in, parts_in}
use Rattle.es_steps.specs.Parts.{at, items}
use Rattle.es_steps.specs.References.{has_number}

pub rights_more : (updates : List ℕ) (t : Tree) (ts : List Tree) → right_operands updates (t ∷ ts) ≡ right_of updates (kind_of t) (number_in t) (parts_in t) ++ right_operands updates ts
rights_more updates (Node kind m span semantic_id ps) ts = refl

pub right_logical : (updates : List ℕ) (kind : Kind) (m : ℕ) (ps : Parts) → kind ≡ Kind.LogicalExpression → right_of updates kind m ps ≡ cond (has_number m updates) (part_number (at 2 ps)) []
right_logical updates kind m ps is = ap (λ k. right_of updates k m ps) is

pub right_none : (updates : List ℕ) (kind : Kind) (m : ℕ) (ps : Parts) → (kind ≡ Kind.LogicalExpression → ⊥) → right_of updates kind m ps ≡ []
right_none updates Kind.LogicalExpression m ps other = absurd (other refl)
right_none updates kind m ps other = refl

pub throws_more : (first : ℕ) (updates rights : List ℕ) (t : Tree) (ts : List Tree) → new_throws first updates rights (t ∷ ts) ≡ cond (throws_at (kind_of t) (parts_in t) && (is_new first (number_in t) && not (has_number (number_in t) rights || any_among updates (numbers_of (preorder_of (parts_in t)))))) (number_in t ∷ []) [] ++ new_throws first updates rights ts
throws_more first updates rights (Node kind m span semantic_id ps) ts = refl

pub throws_sequence : (kind : Kind) (ps : Parts) → kind ≡ Kind.SequenceExpression → throws_at kind ps ≡ ends_in_throw (items (at 0 ps))
throws_sequence kind ps is = ap (λ k. throws_at k ps) is

pub throws_none : (kind : Kind) (ps : Parts) → (kind ≡ Kind.SequenceExpression → ⊥) → throws_at kind ps ≡ false
throws_none Kind.SequenceExpression ps other = absurd (other refl)
throws_none kind ps other = refl
