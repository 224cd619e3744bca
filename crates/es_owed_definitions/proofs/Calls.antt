-- Calls by their callees.
use Rattle.std.proofs.Common.{◌≡◌, refl, ℕ, List, Option, None}
use Rattle.es_base.specs.Tree.{Tree, Part, Parts, Node, end, more, child, string}
use Rattle.es_base.specs.declared.kind.Kind.{Kind}
use Rattle.es_base.specs.declared.ledger.LedgerEntry.{LedgerEntry}
use Rattle.es_lowered.specs.Definitions.{call_definition}
use Rattle.es_node.specs.View.{kind_of}
use Rattle.es_owed_definitions.specs.Callees.{callee_by, callee_of, callee_on, called}
use Rattle.es_steps.specs.Values.{String}

pub no_member : (t : Tree) → (kind_of t ≡ Kind.MemberExpression → ⊥) → callee_of (child t) ≡ None
no_member (Node Kind.MemberExpression m span semantic_id ps) other = absurd (other refl)
no_member (Node kind m span semantic_id ps) other = refl

pub member_node : (m : ℕ) (span : Option (ℕ × ℕ)) (semantic_id : Option ℕ) (o p : Tree) (rest : Parts) → callee_of (child (Node Kind.MemberExpression m span semantic_id (more (child o) (more (child p) rest)))) ≡ callee_by o p
member_node m span semantic_id (Node Kind.IdentifierReference b bspan b_semantic_id (more (string s) end)) (Node Kind.IdentifierName k kspan k_semantic_id (more (string t) end)) rest = refl
member_node m span semantic_id o p rest = refl

pub no_object : (o p : Tree) → (kind_of o ≡ Kind.IdentifierReference → ⊥) → callee_by o p ≡ None
no_object (Node Kind.IdentifierReference m span semantic_id ps) p other = absurd (other refl)
no_object (Node kind m span semantic_id ps) p other = refl

pub no_property : (b : ℕ) (s : String) (p : Tree) → (kind_of p ≡ Kind.IdentifierName → ⊥) → callee_on b s p ≡ None
no_property b s (Node Kind.IdentifierName m span semantic_id ps) other = absurd (other refl)
no_property b s (Node kind m span semantic_id ps) other = refl

pub call_by : (first : ℕ) (ledger : List LedgerEntry) (f : Part) (es : Parts) → call_definition first ledger f es ≡ called first ledger (callee_of f) es
call_by first ledger (child (Node Kind.MemberExpression m span semantic_id (more (child (Node Kind.IdentifierReference b bspan b_semantic_id (more (string s) end))) (more (child (Node Kind.IdentifierName k kspan k_semantic_id (more (string h) end))) rest)))) es = refl
call_by first ledger f es = refl
