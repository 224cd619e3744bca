-- Function declarations, node by node.
use Rattle.std.proofs.Common.{◌≡◌, refl, ℕ, List, [], Option}
use Rattle.es_base.specs.Tree.{Tree, Parts, Node, end, more, child, absent, string}
use Rattle.es_base.specs.declared.kind.Kind.{Kind}
use Rattle.es_base.specs.declared.ledger.LedgerEntry.{LedgerEntry}
use Rattle.es_node.specs.View.{kind_of}
use Rattle.es_steps.specs.Meaning.{declared_function}
use Rattle.es_declarations.specs.Functions.{default_function, named_function}

pub named : (ledger : List LedgerEntry) (t : Tree) (f : ℕ) (span : Option (ℕ × ℕ)) (semantic_id : Option ℕ) (ps : Parts) → declared_function ledger (Node Kind.FunctionDeclaration f span semantic_id (more (child t) ps)) ≡ named_function ledger t f
named ledger (Node Kind.BindingIdentifier b bspan b_semantic_id (more (string x) end)) f span semantic_id ps = refl
named ledger (Node kind b bspan b_semantic_id bs) f span semantic_id ps = refl

pub unnamed : (ledger : List LedgerEntry) (f : ℕ) (span : Option (ℕ × ℕ)) (semantic_id : Option ℕ) (ps : Parts) → declared_function ledger (Node Kind.FunctionDeclaration f span semantic_id (more absent ps)) ≡ []
unnamed ledger f span semantic_id ps = refl

pub by_default : (ledger : List LedgerEntry) (t : Tree) (m : ℕ) (span : Option (ℕ × ℕ)) (semantic_id : Option ℕ) (ps : Parts) → declared_function ledger (Node Kind.ExportDefaultDeclaration m span semantic_id (more (child t) ps)) ≡ default_function m t
by_default ledger (Node Kind.FunctionDeclaration f fspan f_semantic_id (more absent fs)) m span semantic_id ps = refl
by_default ledger (Node kind f fspan f_semantic_id fs) m span semantic_id ps = refl

pub none : (ledger : List LedgerEntry) (t : Tree) → (kind_of t ≡ Kind.FunctionDeclaration → ⊥) → (kind_of t ≡ Kind.ExportDefaultDeclaration → ⊥) → declared_function ledger t ≡ []
none ledger (Node Kind.FunctionDeclaration m span semantic_id ps) a b = absurd (a refl)
none ledger (Node Kind.ExportDefaultDeclaration m span semantic_id ps) a b = absurd (b refl)
none ledger (Node kind m span semantic_id ps) a b = refl

pub no_identifier : (ledger : List LedgerEntry) (t : Tree) (f : ℕ) → (kind_of t ≡ Kind.BindingIdentifier → ⊥) → named_function ledger t f ≡ []
no_identifier ledger (Node Kind.BindingIdentifier m span semantic_id ps) f other = absurd (other refl)
no_identifier ledger (Node kind m span semantic_id ps) f other = refl

pub no_function : (m : ℕ) (t : Tree) → (kind_of t ≡ Kind.FunctionDeclaration → ⊥) → default_function m t ≡ []
no_function m (Node Kind.FunctionDeclaration f span semantic_id ps) other = absurd (other refl)
no_function m (Node kind f span semantic_id ps) other = refl
