-- Closures, node by node.
use Rattle.std.proofs.Common.{◌≡◌, refl, ap, List, [], ◌∷◌, ◌++◌, cond}
use Rattle.es_base.specs.Tree.{Tree, Parts, Node, child}
use Rattle.es_base.specs.declared.kind.Kind.{Kind}
use Rattle.es_base.specs.declared.ledger.LedgerEntry.{LedgerEntry}
use Rattle.es_lowered.specs.DeadZones.{closure, closures, closures_by, is_closure}
use Rattle.es_lowered.specs.Definitions.{spelling}
use Rattle.es_node.specs.View.{kind_of, number_in, parts_in}
use Rattle.es_steps.specs.Context.{generated_as}
use Rattle.es_steps.specs.Parts.{at}
use Rattle.es_steps.specs.Values.{String}

pub closures_more : (ledger : List LedgerEntry) (t : Tree) (ts : List Tree) → closures ledger (t ∷ ts) ≡ closures_by ledger (kind_of t) (parts_in t) ++ closures ledger ts
closures_more ledger (Node kind m span semantic_id ps) ts = refl

pub by_assignment : (ledger : List LedgerEntry) (kind : Kind) (ps : Parts) → kind ≡ Kind.AssignmentExpression → closures_by ledger kind ps ≡ closure ledger (spelling (at 1 ps)) (at 2 ps)
by_assignment ledger kind ps is = ap (λ k. closures_by ledger k ps) is

pub by_declarator : (ledger : List LedgerEntry) (kind : Kind) (ps : Parts) → kind ≡ Kind.VariableDeclarator → closures_by ledger kind ps ≡ closure ledger (spelling (at 0 ps)) (at 1 ps)
by_declarator ledger kind ps is = ap (λ k. closures_by ledger k ps) is

pub by_none : (ledger : List LedgerEntry) (kind : Kind) (ps : Parts) → (kind ≡ Kind.AssignmentExpression → ⊥) → (kind ≡ Kind.VariableDeclarator → ⊥) → closures_by ledger kind ps ≡ []
by_none ledger Kind.AssignmentExpression ps a b = absurd (a refl)
by_none ledger Kind.VariableDeclarator ps a b = absurd (b refl)
by_none ledger kind ps a b = refl

pub closure_of_arrow : (ledger : List LedgerEntry) (s : String) (t : Tree) → kind_of t ≡ Kind.ArrowFunctionExpression → closure ledger s (child t) ≡ cond (is_closure (generated_as s ledger)) ((s, number_in t) ∷ []) []
closure_of_arrow ledger s (Node kind m span semantic_id ps) is = ap (λ k. closure ledger s (child (Node k m span semantic_id ps))) is

pub no_arrow : (ledger : List LedgerEntry) (s : String) (t : Tree) → (kind_of t ≡ Kind.ArrowFunctionExpression → ⊥) → closure ledger s (child t) ≡ []
no_arrow ledger s (Node Kind.ArrowFunctionExpression m span semantic_id ps) other = absurd (other refl)
no_arrow ledger s (Node kind m span semantic_id ps) other = refl
