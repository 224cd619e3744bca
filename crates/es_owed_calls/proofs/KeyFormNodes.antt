-- Computed keys of the source, node by node.
use Rattle.std.proofs.Common.{◌≡◌, refl, sym, ap, ◌∙◌, ℕ, zero, suc, ◌+◌, ◌<◌, ◌≤◌, get_or, List, [], ◌∷◌, length, Bool, true, false, ◌&&◌, ◌||◌, codes, Option, None, arith}
use Rattle.std.specs.List.{list_any}
use Rattle.es_base.specs.Tree.{Tree, Parts, Node, end, more, child, list, absent, trees}
use Rattle.es_base.specs.declared.kind.Kind.{Kind}
use Rattle.es_base.specs.declared.ledger.LedgerEntry.{LedgerEntry}
use Rattle.es_lowered.specs.HelperCalls.{ends_with_key, first_has_key, form_has_key, gives_key, has_key, is_helper_callee, is_key, is_key_part, is_write, last_has_key, last_part, part_has_key, third_has_key}
use Rattle.es_node.specs.View.{kind_of, number_in, parts_in}
use Rattle.es_owed_calls.specs.KeyForms.{gives_key_at}
use Rattle.es_steps.specs.Parts.{at}
use Rattle.es_steps.specs.Values.{String}

module _ (first : ℕ) (ledger : List LedgerEntry) (keys : List ℕ) where
  pub key_node : (t : Tree) → is_key_part first ledger keys (child t) ≡ is_key first ledger keys (kind_of t) (number_in t) (parts_in t)
  key_node (Node kind m span semantic_id ps) = refl

  -- ---- names that are given a key

  gives_more : (s : String) (t : Tree) (ts : List Tree) → gives_key first ledger keys s (t ∷ ts) ≡ (gives_key_at first ledger keys s t || gives_key first ledger keys s ts)
  gives_more s (Node Kind.AssignmentExpression m span semantic_id ps) ts = refl
  gives_more s (Node kind m span semantic_id ps) ts = refl

  pub any_gives : (s : String) (ts : List Tree) → list_any (gives_key_at first ledger keys s) ts ≡ gives_key first ledger keys s ts
  any_gives s [] = refl
  any_gives s (t ∷ ts) = ap (λ b. gives_key_at first ledger keys s t || b) (any_gives s ts) ∙ sym (gives_more s t ts)

  pub gives_none : (s : String) (t : Tree) → (kind_of t ≡ Kind.AssignmentExpression → ⊥) → gives_key_at first ledger keys s t ≡ false
  gives_none s (Node Kind.AssignmentExpression m span semantic_id ps) other = absurd (other refl)
  gives_none s (Node kind m span semantic_id ps) other = refl

  -- ---- forms

  pub has_node : (t : Tree) → has_key first ledger keys t ≡ (is_key first ledger keys (kind_of t) (number_in t) (parts_in t) || form_has_key first ledger keys (kind_of t) (parts_in t))
  has_node (Node kind m span semantic_id ps) = refl

  pub no_form : (kind : Kind) (ps : Parts) → (kind ≡ Kind.SequenceExpression → ⊥) → (kind ≡ Kind.AssignmentExpression → ⊥) → (kind ≡ Kind.CallExpression → ⊥) → form_has_key first ledger keys kind ps ≡ false
  no_form Kind.SequenceExpression ps a b c = absurd (a refl)
  no_form Kind.AssignmentExpression ps a b c = absurd (b refl)
  no_form Kind.CallExpression ps a b c = absurd (c refl)
  no_form kind ps a b c = refl

  pub last_has : (ps : Parts) → last_has_key first ledger keys ps ≡ part_has_key first ledger keys (last_part ps)
  last_has end = refl
  last_has (more p end) = refl
  last_has (more p (more q rest)) = last_has (more q rest)

  pub first_has : (ps : Parts) → first_has_key first ledger keys ps ≡ part_has_key first ledger keys (at 0 ps)
  first_has end = refl
  first_has (more p rest) = refl

  pub third_has : (ps : Parts) → third_has_key first ledger keys ps ≡ part_has_key first ledger keys (at 2 ps)
  third_has end = refl
  third_has (more p end) = refl
  third_has (more p (more q end)) = refl
  third_has (more p (more q (more r rest))) = refl

  -- ---- forms of nodes in code

  pub sequence_has : (t : Tree) (m : ℕ) (span : Option (ℕ × ℕ)) (es : Parts) (has : Bool) → t ≡ Node Kind.SequenceExpression m span None (more (list es) end) → ends_with_key first ledger keys es ≡ false → has ≡ part_has_key first ledger keys (last_part es) → has ≡ form_has_key first ledger keys (kind_of t) (parts_in t)
  sequence_has t m span es has is ends last =
      last ∙ sym (last_has es)
      ∙ sym (ap (λ b. b || last_has_key first ledger keys es) ends)
      ∙ sym (ap (λ u. form_has_key first ledger keys (kind_of u) (parts_in u)) is)

  module _ (t f : Tree) (m : ℕ) (span : Option (ℕ × ℕ)) (es rest : Parts) (is : t ≡ Node Kind.CallExpression m span None (more (child f) (more (list es) rest))) where
    pub call_converts : (has : Bool) → has ≡ (is_helper_callee first (codes "toPropertyKey") (child f) && first_has_key first ledger keys es) → has ≡ true → has ≡ form_has_key first ledger keys (kind_of t) (parts_in t)
    call_converts has of_conversion true_of =
        true_of
        ∙ sym (ap (λ b. b || (is_write first ledger keys (child f) && third_has_key first ledger keys es)) (sym of_conversion ∙ true_of))
        ∙ sym (ap (λ u. form_has_key first ledger keys (kind_of u) (parts_in u)) is)

    pub call_writes : (none has : Bool) → none ≡ (is_helper_callee first (codes "toPropertyKey") (child f) && first_has_key first ledger keys es) → none ≡ false → has ≡ (is_write first ledger keys (child f) && third_has_key first ledger keys es) → has ≡ form_has_key first ledger keys (kind_of t) (parts_in t)
    call_writes none has of_conversion false_of of_write =
        of_write
        ∙ sym (ap (λ b. b || (is_write first ledger keys (child f) && third_has_key first ledger keys es)) (sym of_conversion ∙ false_of))
        ∙ sym (ap (λ u. form_has_key first ledger keys (kind_of u) (parts_in u)) is)

-- ---- nodes of lists

pub last_at : (ts : List Tree) (n : ℕ) (d : Tree) → length ts ≡ n + 1 → last_part (trees ts) ≡ child (get_or ts n d)
last_at [] n d count = absurd (omega arith)
last_at (t ∷ []) zero d count = refl
last_at (t ∷ []) (suc n) d count = absurd (omega arith)
last_at (t ∷ (u ∷ ts)) zero d count = absurd (omega arith)
last_at (t ∷ (u ∷ ts)) (suc n) d count = last_at (u ∷ ts) n d (omega arith)

pub part_at : (ts : List Tree) (i : ℕ) (d : Tree) → i < length ts → at i (trees ts) ≡ child (get_or ts i d)
part_at [] i d within = absurd (omega arith)
part_at (t ∷ ts) zero d within = refl
part_at (t ∷ ts) (suc i) d within = part_at ts i d (omega arith)

pub no_part_at : (ts : List Tree) (i : ℕ) → length ts ≤ i → at i (trees ts) ≡ absent
no_part_at [] i beyond = none i
  where
    none : (i : ℕ) → at i end ≡ absent
    none i = refl
no_part_at (t ∷ ts) zero beyond = absurd (omega arith)
no_part_at (t ∷ ts) (suc i) beyond = no_part_at ts i (omega arith)
