-- What names functions and classes, node by node.
use Rattle.std.proofs.Common.{◌≡◌, refl, sym, ap, ◌∙◌, ℕ, List, [], ◌∷◌, ◌++◌, true, false, Option, None}
use Rattle.es_base.specs.Tree.{Tree, Parts, Node, end, more, child, list}
use Rattle.es_base.specs.declared.kind.Kind.{Kind}
use Rattle.es_base.specs.declared.ledger.LedgerEntry.{LedgerEntry}
use Rattle.es_lowered.specs.HelperCalls.{StaticKey, body_keys, element_naming, is_nameless, naming_at, naming_calls, naming_in}
use Rattle.es_node.specs.View.{kind_of}
use Rattle.es_owed_calls.specs.Namings.{naming_of_node}
use Rattle.es_steps.specs.Parts.{at}

module _ (first : ℕ) (ledger : List LedgerEntry) where
  pub naming_more : (t : Tree) (ts : List Tree) → naming_calls first ledger (t ∷ ts) ≡ naming_of_node first ledger t ++ naming_calls first ledger ts
  naming_more (Node Kind.ClassBody m span semantic_id ps) ts = refl
  naming_more (Node kind m span semantic_id ps) ts = refl

  pub no_body : (t : Tree) → (kind_of t ≡ Kind.ClassBody → ⊥) → naming_of_node first ledger t ≡ []
  no_body (Node Kind.ClassBody m span semantic_id ps) other = absurd (other refl)
  no_body (Node kind m span semantic_id ps) other = refl

  pub no_field : (ks : List StaticKey) (t : Tree) → (kind_of t ≡ Kind.PropertyDefinition → ⊥) → element_naming first ledger ks (child t) ≡ []
  no_field ks (Node Kind.PropertyDefinition m span semantic_id ps) other = absurd (other refl)
  no_field ks (Node kind m span semantic_id ps) other = refl

  pub first_named : (ks : List StaticKey) (m : ℕ) (span : Option (ℕ × ℕ)) (semantic_id : Option ℕ) (ps : Parts) → naming_in first ledger ks (Node Kind.SequenceExpression m span semantic_id (more (list ps) end)) ≡ naming_at first ledger ks (at 0 ps)
  first_named ks m span semantic_id end = refl
  first_named ks m span semantic_id (more p ps) = refl

  pub sequence_named : (ks : List StaticKey) (t : Tree) (m : ℕ) (span : Option (ℕ × ℕ)) (ps : Parts) → t ≡ Node Kind.SequenceExpression m span None (more (list ps) end) → naming_at first ledger ks (at 0 ps) ≡ naming_in first ledger ks t
  sequence_named ks t m span ps is = sym (ap (naming_in first ledger ks) is ∙ first_named ks m span None ps)

  pub names_nothing : (ks : List StaticKey) (t : Tree) → (kind_of t ≡ Kind.CallExpression → ⊥) → (kind_of t ≡ Kind.SequenceExpression → ⊥) → (kind_of t ≡ Kind.LogicalExpression → ⊥) → naming_in first ledger ks t ≡ []
  names_nothing ks (Node Kind.CallExpression m span semantic_id ps) a b c = absurd (a refl)
  names_nothing ks (Node Kind.SequenceExpression m span semantic_id ps) a b c = absurd (b refl)
  names_nothing ks (Node Kind.LogicalExpression m span semantic_id ps) a b c = absurd (c refl)
  names_nothing ks (Node kind m span semantic_id ps) a b c = refl

  -- ---- what has no `name` of its own

  pub function_named : (t : Tree) → kind_of t ≡ Kind.FunctionExpression → is_nameless first ledger (child t) ≡ true
  function_named (Node kind m span semantic_id ps) is = ap (λ k. is_nameless first ledger (child (Node k m span semantic_id ps))) is

  pub arrow_named : (t : Tree) → kind_of t ≡ Kind.ArrowFunctionExpression → is_nameless first ledger (child t) ≡ true
  arrow_named (Node kind m span semantic_id ps) is = ap (λ k. is_nameless first ledger (child (Node k m span semantic_id ps))) is

  pub none_named : (t : Tree) → (kind_of t ≡ Kind.FunctionExpression → ⊥) → (kind_of t ≡ Kind.ArrowFunctionExpression → ⊥) → (kind_of t ≡ Kind.ClassExpression → ⊥) → is_nameless first ledger (child t) ≡ false
  none_named (Node Kind.FunctionExpression m span semantic_id ps) a b c = absurd (a refl)
  none_named (Node Kind.ArrowFunctionExpression m span semantic_id ps) a b c = absurd (b refl)
  none_named (Node Kind.ClassExpression m span semantic_id ps) a b c = absurd (c refl)
  none_named (Node kind m span semantic_id ps) a b c = refl

  pub no_body_keys : (t : Tree) → (kind_of t ≡ Kind.ClassBody → ⊥) → body_keys first ledger (child t) ≡ []
  no_body_keys (Node Kind.ClassBody m span semantic_id ps) other = absurd (other refl)
  no_body_keys (Node kind m span semantic_id ps) other = refl
