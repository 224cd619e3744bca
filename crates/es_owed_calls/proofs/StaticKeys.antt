-- Keys of static elements, node by node.
use Rattle.std.proofs.Common.{◌≡◌, refl, ap, ℕ, List, [], ◌∷◌, Option, None}
use Rattle.es_base.specs.Tree.{Tree, Node, end, more, child, literal}
use Rattle.es_base.specs.declared.kind.Kind.{Kind}
use Rattle.es_base.specs.declared.ledger.LedgerEntry.{LedgerEntry}
use Rattle.es_base.specs.declared.literal.LiteralValue.{LiteralValue}
use Rattle.es_base.specs.declared.literal.LiteralValue.TheVariants as literal_value
use Rattle.es_lowered.specs.HelperCalls.{computed_static_key, field_key, is_name, method_key}
use Rattle.es_node.specs.View.{kind_of}

module _ (first : ℕ) (ledger : List LedgerEntry) where
  pub literal_key : (m : ℕ) (span : Option (ℕ × ℕ)) (semantic_id : Option ℕ) (v : LiteralValue) → computed_static_key first ledger (child (Node Kind.Literal m span semantic_id (more (literal v) end))) ≡ computed_static_key first ledger (child (Node Kind.Literal 0 None None (more (literal v) end)))
  literal_key m span semantic_id (literal_value.String s raw) = refl
  literal_key m span semantic_id v = refl

  pub other_key : (t : Tree) → (kind_of t ≡ Kind.Literal → ⊥) → (kind_of t ≡ Kind.AssignmentExpression → ⊥) → computed_static_key first ledger (child t) ≡ is_name ∷ []
  other_key (Node Kind.Literal m span semantic_id ps) a b = absurd (a refl)
  other_key (Node Kind.AssignmentExpression m span semantic_id ps) a b = absurd (b refl)
  other_key (Node kind m span semantic_id ps) a b = refl

  pub no_method : (t : Tree) → (kind_of t ≡ Kind.MethodDefinition → ⊥) → method_key first ledger (child t) ≡ []
  no_method (Node Kind.MethodDefinition m span semantic_id ps) other = absurd (other refl)
  no_method (Node kind m span semantic_id ps) other = refl

  pub block_key : (t : Tree) → kind_of t ≡ Kind.StaticBlock → field_key first ledger (child t) ≡ is_name ∷ []
  block_key (Node kind m span semantic_id ps) is = ap (λ k. field_key first ledger (child (Node k m span semantic_id ps))) is

  pub no_field : (t : Tree) → (kind_of t ≡ Kind.PropertyDefinition → ⊥) → (kind_of t ≡ Kind.StaticBlock → ⊥) → field_key first ledger (child t) ≡ []
  no_field (Node Kind.PropertyDefinition m span semantic_id ps) a b = absurd (a refl)
  no_field (Node Kind.StaticBlock m span semantic_id ps) a b = absurd (b refl)
  no_field (Node kind m span semantic_id ps) a b = refl
