-- What is known of a lowered program, node by node.
use Rattle.std.proofs.Common.{◌≡◌, refl, ap, ℕ, List, [], ◌∷◌, ◌++◌, false}
use Rattle.es_base.specs.Numbered.{is_new}
use Rattle.es_base.specs.Preorder.{preorder, preorder_of}
use Rattle.es_base.specs.Tree.{Tree, Node, child}
use Rattle.es_base.specs.declared.kind.Kind.{Kind}
use Rattle.es_base.specs.declared.ledger.LedgerEntry.{LedgerEntry}
use Rattle.es_lowered.specs.HelperCalls.{converted_key, is_new_private, new_private_names, private_keys, private_spelling}
use Rattle.es_node.specs.View.{kind_of, number_in, parts_in}
use Rattle.es_owed_calls.specs.Conversions.{new_private_name, private_key}

module _ (first : ℕ) (ledger : List LedgerEntry) where
  pub none_converted : (t : Tree) → (kind_of t ≡ Kind.AssignmentExpression → ⊥) → converted_key first ledger t ≡ []
  none_converted (Node Kind.AssignmentExpression m span semantic_id ps) other = absurd (other refl)
  none_converted (Node kind m span semantic_id ps) other = refl

  -- ---- fields

  pub names_more : (t : Tree) (ts : List Tree) → new_private_names first ledger (t ∷ ts) ≡ new_private_name first ledger t ++ new_private_names first ledger ts
  names_more (Node Kind.PropertyDefinition m span semantic_id ps) ts = refl
  names_more (Node kind m span semantic_id ps) ts = refl

  pub no_field : (t : Tree) → (kind_of t ≡ Kind.PropertyDefinition → ⊥) → new_private_name first ledger t ≡ []
  no_field (Node Kind.PropertyDefinition m span semantic_id ps) other = absurd (other refl)
  no_field (Node kind m span semantic_id ps) other = refl

  pub private_node : (t : Tree) → kind_of t ≡ Kind.PrivateIdentifier → is_new_private first ledger (child t) ≡ is_new first (number_in t)
  private_node (Node kind m span semantic_id ps) is = ap (λ k. is_new_private first ledger (child (Node k m span semantic_id ps))) is

  pub no_private : (t : Tree) → (kind_of t ≡ Kind.PrivateIdentifier → ⊥) → is_new_private first ledger (child t) ≡ false
  no_private (Node Kind.PrivateIdentifier m span semantic_id ps) other = absurd (other refl)
  no_private (Node kind m span semantic_id ps) other = refl

  -- ---- properties

  pub keys_more : (t : Tree) (ts : List Tree) → private_keys first ledger (t ∷ ts) ≡ private_key first ledger t ++ private_keys first ledger ts
  keys_more (Node Kind.Property m span semantic_id ps) ts = refl
  keys_more (Node kind m span semantic_id ps) ts = refl

  pub keys_below : (t : Tree) → kind_of t ≡ Kind.ClassBody → private_keys first ledger (preorder t) ≡ private_keys first ledger (preorder_of (parts_in t))
  keys_below (Node kind m span semantic_id ps) is = ap (λ k. private_keys first ledger (Node k m span semantic_id ps ∷ preorder_of ps)) is

  pub no_property : (t : Tree) → (kind_of t ≡ Kind.Property → ⊥) → private_key first ledger t ≡ []
  no_property (Node Kind.Property m span semantic_id ps) other = absurd (other refl)
  no_property (Node kind m span semantic_id ps) other = refl

  pub no_private_field : (t : Tree) → (kind_of t ≡ Kind.PrivateField → ⊥) → private_spelling first ledger (child t) ≡ []
  no_private_field (Node Kind.PrivateField m span semantic_id ps) other = absurd (other refl)
  no_private_field (Node kind m span semantic_id ps) other = refl
