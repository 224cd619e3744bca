-- Calls of helpers and kept keys, node by node.
use Rattle.std.proofs.Common.{◌≡◌, refl, ap, ◌∙◌, ℕ, List, [], true, ◌&&◌, Option}
use Rattle.es_base.specs.Preorder.{preorder, preorder_of}
use Rattle.es_base.specs.Tree.{Tree, Parts, Node, end, more, child, literal}
use Rattle.es_base.specs.declared.kind.Kind.{Kind}
use Rattle.es_base.specs.declared.ledger.LedgerEntry.{LedgerEntry}
use Rattle.es_base.specs.declared.literal.LiteralValue.{LiteralValue}
use Rattle.es_base.specs.declared.literal.LiteralValue.TheVariants as literal_value
use Rattle.es_lowered.specs.HelperCalls.{Conversions, calls_fit, calls_in, conversions, generated_spelling, helper_calls_fit, is_kept_key, is_nameless, is_one_among, last_spelling, may_be_named, names_inside, node_fits, private_keys}
use Rattle.es_node.specs.View.{kind_of, number_in, parts_in}
use Rattle.es_owed_calls.specs.Conversions.{is_string_value}
use Rattle.es_steps.specs.References.{has_number}
use Rattle.es_steps.specs.Values.{String}

module _ (first : ℕ) (ledger : List LedgerEntry) (keys : List ℕ) (x : Conversions) where
  -- ---- what is named

  pub this_named : (m : ℕ) (t : Tree) → kind_of t ≡ Kind.ThisExpression → may_be_named first ledger keys x m (child t) ≡ has_number m x.naming
  this_named m (Node kind k span semantic_id ps) is = ap (λ k'. may_be_named first ledger keys x m (child (Node k' k span semantic_id ps))) is

  pub other_named : (m : ℕ) (t : Tree) → (kind_of t ≡ Kind.ThisExpression → ⊥) → may_be_named first ledger keys x m (child t) ≡ is_nameless first ledger (child t)
  other_named m (Node Kind.ThisExpression k span semantic_id ps) other = absurd (other refl)
  other_named m (Node kind k span semantic_id ps) other = refl

  -- ---- keys

  pub literal_kept : (m : ℕ) (span : Option (ℕ × ℕ)) (semantic_id : Option ℕ) (v : LiteralValue) → is_kept_key first ledger keys x (child (Node Kind.Literal m span semantic_id (more (literal v) end))) ≡ is_string_value v
  literal_kept m span semantic_id (literal_value.String s raw) = refl
  literal_kept m span semantic_id v = refl

  pub other_kept : (t : Tree) → (kind_of t ≡ Kind.PrivateField → ⊥) → (kind_of t ≡ Kind.Literal → ⊥) → is_kept_key first ledger keys x (child t) ≡ is_one_among (generated_spelling first ledger (child t)) x.converted
  other_kept (Node Kind.PrivateField m span semantic_id ps) a b = absurd (a refl)
  other_kept (Node Kind.Literal m span semantic_id ps) a b = absurd (b refl)
  other_kept (Node kind m span semantic_id ps) a b = refl

  pub other_last : (t : Tree) → (kind_of t ≡ Kind.SequenceExpression → ⊥) → last_spelling first ledger keys x (child t) ≡ generated_spelling first ledger (child t)
  other_last (Node Kind.SequenceExpression m span semantic_id ps) other = absurd (other refl)
  other_last (Node kind m span semantic_id ps) other = refl

  -- ---- nodes

  pub other_fits : (names : List String) (kind : Kind) (m : ℕ) (ps : Parts) → (kind ≡ Kind.CallExpression → ⊥) → (kind ≡ Kind.Property → ⊥) → (kind ≡ Kind.PropertyDefinition → ⊥) → node_fits first ledger keys x names kind m ps ≡ true
  other_fits names Kind.CallExpression m ps a b c = absurd (a refl)
  other_fits names Kind.Property m ps a b c = absurd (b refl)
  other_fits names Kind.PropertyDefinition m ps a b c = absurd (c refl)
  other_fits names kind m ps a b c = refl

  pub fits_node : (names : List String) (t : Tree) → calls_fit first ledger keys x names t ≡ (node_fits first ledger keys x names (kind_of t) (number_in t) (parts_in t) && calls_in first ledger keys x (names_inside first ledger keys x names (kind_of t) (parts_in t)) (parts_in t))
  fits_node names (Node kind m span semantic_id ps) = refl

  pub fits_body : (names : List String) (t : Tree) → kind_of t ≡ Kind.ClassBody → calls_fit first ledger keys x names t ≡ (node_fits first ledger keys x names (kind_of t) (number_in t) (parts_in t) && calls_in first ledger keys x (private_keys first ledger (preorder_of (parts_in t))) (parts_in t))
  fits_body names (Node kind m span semantic_id ps) is = ap (λ k. node_fits first ledger keys x names kind m ps && calls_in first ledger keys x (names_inside first ledger keys x names k ps) ps) is

  no_body : (names : List String) (kind : Kind) (ps : Parts) → (kind ≡ Kind.ClassBody → ⊥) → names_inside first ledger keys x names kind ps ≡ names
  no_body names Kind.ClassBody ps other = absurd (other refl)
  no_body names kind ps other = refl

  pub fits_other : (names : List String) (t : Tree) → (kind_of t ≡ Kind.ClassBody → ⊥) → calls_fit first ledger keys x names t ≡ (node_fits first ledger keys x names (kind_of t) (number_in t) (parts_in t) && calls_in first ledger keys x names (parts_in t))
  fits_other names (Node kind m span semantic_id ps) other = ap (λ ns. node_fits first ledger keys x names kind m ps && calls_in first ledger keys x ns ps) (no_body names kind ps other)

-- ---- of a lowered program

pub fit_by : (first : ℕ) (ledger : List LedgerEntry) (ks keys : List ℕ) (x : Conversions) (q : Tree) → ks ≡ keys → x ≡ conversions first ledger (preorder q) → calls_fit first ledger ks x [] q ≡ helper_calls_fit first ledger keys q
fit_by first ledger ks keys x q of_keys of_conversions = ap (λ ns. calls_fit first ledger ns x [] q) of_keys ∙ ap (λ y. calls_fit first ledger keys y [] q) of_conversions
