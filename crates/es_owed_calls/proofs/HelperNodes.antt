-- Calls of helpers, node by node.
use Rattle.std.proofs.Common.{◌≡◌, refl, ℕ, List, false, Option}
use Rattle.es_base.specs.Tree.{Tree, Parts, Node, end, more, child, string}
use Rattle.es_base.specs.declared.kind.Kind.{Kind}
use Rattle.es_base.specs.declared.ledger.LedgerEntry.{LedgerEntry}
use Rattle.es_lowered.specs.HelperCalls.{is_any_helper, is_key_conversion}
use Rattle.es_node.specs.View.{kind_of}
use Rattle.es_owed_initialized.specs.Forms.{is_babel_helpers}

pub any_helper : (first m : ℕ) (span : Option (ℕ × ℕ)) (semantic_id : Option ℕ) (o : Tree) (rest : Parts) → is_any_helper first (child (Node Kind.MemberExpression m span semantic_id (more (child o) rest))) ≡ is_babel_helpers first o
any_helper first m span semantic_id (Node Kind.IdentifierReference b bspan b_semantic_id (more (string s) end)) rest = refl
any_helper first m span semantic_id o rest = refl

pub no_member : (first : ℕ) (t : Tree) → (kind_of t ≡ Kind.MemberExpression → ⊥) → is_any_helper first (child t) ≡ false
no_member first (Node Kind.MemberExpression m span semantic_id ps) other = absurd (other refl)
no_member first (Node kind m span semantic_id ps) other = refl

pub no_conversion : (first : ℕ) (ledger : List LedgerEntry) (t : Tree) → (kind_of t ≡ Kind.CallExpression → ⊥) → is_key_conversion first ledger (child t) ≡ false
no_conversion first ledger (Node Kind.CallExpression m span semantic_id ps) other = absurd (other refl)
no_conversion first ledger (Node kind m span semantic_id ps) other = refl
