-- Whether numbers tell values, by the kind of a node.
use Rattle.std.proofs.Common.{◌≡◌, refl, ap, ℕ, ◌<◌, List, [], ◌∷◌, length, true, false, ◌&&◌, arith}
use Rattle.std.specs.Prelude.{not}
use Rattle.es_base.specs.Numbered.{is_new}
use Rattle.es_base.specs.Tree.{Tree, Parts, Node, child, trees}
use Rattle.es_base.specs.declared.kind.Kind.{Kind}
use Rattle.es_base.specs.declared.ledger.GeneratedKind.{GeneratedKind}
use Rattle.es_base.specs.declared.ledger.LedgerEntry.{LedgerEntry}
use Rattle.es_lowered.specs.HelperCalls.{is_loose_definition, is_new_object, is_private_kind, is_renamed, is_silent_callee, tells}
use Rattle.es_node.specs.View.{kind_of, number_in, parts_in}
use Rattle.es_steps.specs.Context.{generated_as, is_generated, is_private_entry}
use Rattle.es_steps.specs.NameScopes.{is_any_function}
use Rattle.es_steps.specs.Parts.{at, string_of}

pub private_entry : (g : GeneratedKind) → is_private_entry g ≡ is_private_kind g
private_entry (GeneratedKind.Private n) = refl
private_entry g = refl

module _ (first : ℕ) (ledger : List LedgerEntry) where
  pub silent_this : (kind : Kind) (ps : Parts) → kind ≡ Kind.ThisExpression → tells first ledger kind ps ≡ false
  silent_this kind ps is = ap (λ k. tells first ledger k ps) is

  pub silent_meta : (kind : Kind) (ps : Parts) → kind ≡ Kind.MetaProperty → tells first ledger kind ps ≡ false
  silent_meta kind ps is = ap (λ k. tells first ledger k ps) is

  pub silent_sequence : (kind : Kind) (ps : Parts) → kind ≡ Kind.SequenceExpression → tells first ledger kind ps ≡ false
  silent_sequence kind ps is = ap (λ k. tells first ledger k ps) is

  pub telling_name : (kind : Kind) (ps : Parts) → kind ≡ Kind.IdentifierReference → tells first ledger kind ps ≡ not (is_renamed (generated_as (string_of (at 0 ps)) ledger))
  telling_name kind ps is = ap (λ k. tells first ledger k ps) is

  pub telling_other : (kind : Kind) (ps : Parts) → (kind ≡ Kind.ThisExpression → ⊥) → (kind ≡ Kind.MetaProperty → ⊥) → (kind ≡ Kind.SequenceExpression → ⊥) → (kind ≡ Kind.AssignmentExpression → ⊥) → (kind ≡ Kind.PrivateField → ⊥) → (kind ≡ Kind.CallExpression → ⊥) → (kind ≡ Kind.MemberExpression → ⊥) → (kind ≡ Kind.IdentifierReference → ⊥) → tells first ledger kind ps ≡ true
  telling_other Kind.ThisExpression ps a b c d e f g h = absurd (a refl)
  telling_other Kind.MetaProperty ps a b c d e f g h = absurd (b refl)
  telling_other Kind.SequenceExpression ps a b c d e f g h = absurd (c refl)
  telling_other Kind.AssignmentExpression ps a b c d e f g h = absurd (d refl)
  telling_other Kind.PrivateField ps a b c d e f g h = absurd (e refl)
  telling_other Kind.CallExpression ps a b c d e f g h = absurd (f refl)
  telling_other Kind.MemberExpression ps a b c d e f g h = absurd (g refl)
  telling_other Kind.IdentifierReference ps a b c d e f g h = absurd (h refl)
  telling_other kind ps a b c d e f g h = refl

  pub new_object : (t : Tree) → kind_of t ≡ Kind.ObjectExpression → is_new_object first ledger (child t) ≡ is_new first (number_in t)
  new_object (Node kind m span semantic_id ps) is = ap (λ k. is_new_object first ledger (child (Node k m span semantic_id ps))) is

  pub no_object : (t : Tree) → (kind_of t ≡ Kind.ObjectExpression → ⊥) → is_new_object first ledger (child t) ≡ false
  no_object (Node Kind.ObjectExpression m span semantic_id ps) other = absurd (other refl)
  no_object (Node kind m span semantic_id ps) other = refl

  pub no_definition : (ts : List Tree) → length ts < 2 → is_loose_definition first ledger (trees ts) ≡ false
  no_definition [] below = refl
  no_definition (t ∷ []) below = refl
  no_definition (t ∷ (u ∷ ts)) below = absurd (omega arith)

  -- ---- callees

  pub silent_super : (t : Tree) → kind_of t ≡ Kind.Super → is_silent_callee first ledger (child t) ≡ true
  silent_super (Node kind m span semantic_id ps) is = ap (λ k. is_silent_callee first ledger (child (Node k m span semantic_id ps))) is

  pub silent_name : (t : Tree) → kind_of t ≡ Kind.IdentifierReference → is_silent_callee first ledger (child t) ≡ is_generated (string_of (at 0 (parts_in t))) ledger
  silent_name (Node kind m span semantic_id ps) is = ap (λ k. is_silent_callee first ledger (child (Node k m span semantic_id ps))) is

  pub silent_other : (t : Tree) → (kind_of t ≡ Kind.Super → ⊥) → (kind_of t ≡ Kind.IdentifierReference → ⊥) → is_silent_callee first ledger (child t) ≡ (is_new first (number_in t) && is_any_function (kind_of t))
  silent_other (Node Kind.Super m span semantic_id ps) a b = absurd (a refl)
  silent_other (Node Kind.IdentifierReference m span semantic_id ps) a b = absurd (b refl)
  silent_other (Node kind m span semantic_id ps) a b = refl
