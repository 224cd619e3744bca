-- Functions that their class alone calls, node by node.
use Rattle.std.proofs.Common.{◌≡◌, refl, ap, List, [], ◌∷◌, ◌++◌, Some}
use Rattle.es_base.specs.Tree.{Tree, Part, Node, child}
use Rattle.es_base.specs.declared.ids.NodeId.{NodeId}
use Rattle.es_base.specs.declared.kind.Kind.{Kind}
use Rattle.es_base.specs.declared.ledger.GeneratedKind.{GeneratedKind}
use Rattle.es_base.specs.declared.ledger.LedgerEntry.{LedgerEntry}
use Rattle.es_lowered.specs.Definitions.{spelling}
use Rattle.es_lowered.specs.Timely.{declared_methods, super_function, super_functions}
use Rattle.es_node.specs.View.{kind_of, number_in, parts_in}
use Rattle.es_steps.specs.Parts.{at}
use Rattle.es_owed_timely.specs.Functions.{method_in, method_of, super_at, super_in, super_of}

pub methods_more : (ledger : List LedgerEntry) (t : Tree) (ts : List Tree) → declared_methods ledger (t ∷ ts) ≡ method_of ledger t ++ declared_methods ledger ts
methods_more ledger (Node Kind.FunctionDeclaration m span semantic_id ps) ts = refl
methods_more ledger (Node kind m span semantic_id ps) ts = refl

pub method_of_function : (ledger : List LedgerEntry) (t : Tree) → kind_of t ≡ Kind.FunctionDeclaration → method_of ledger t ≡ method_in ledger (number_in t) (spelling (at 0 (parts_in t)))
method_of_function ledger (Node kind m span semantic_id ps) is = ap (λ k. method_of ledger (Node k m span semantic_id ps)) is

pub no_method : (ledger : List LedgerEntry) (t : Tree) → (kind_of t ≡ Kind.FunctionDeclaration → ⊥) → method_of ledger t ≡ []
no_method ledger (Node Kind.FunctionDeclaration m span semantic_id ps) other = absurd (other refl)
no_method ledger (Node kind m span semantic_id ps) other = refl

pub supers_more : (ledger : List LedgerEntry) (t : Tree) (ts : List Tree) → super_functions ledger (t ∷ ts) ≡ super_of ledger t ++ super_functions ledger ts
supers_more ledger (Node Kind.VariableDeclarator m span semantic_id ps) ts = refl
supers_more ledger (Node Kind.AssignmentExpression m span semantic_id ps) ts = refl
supers_more ledger (Node kind m span semantic_id ps) ts = refl

pub super_of_declarator : (ledger : List LedgerEntry) (t : Tree) → kind_of t ≡ Kind.VariableDeclarator → super_of ledger t ≡ super_in ledger (at 0 (parts_in t)) (at 1 (parts_in t))
super_of_declarator ledger (Node kind m span semantic_id ps) is = ap (λ k. super_of ledger (Node k m span semantic_id ps)) is

pub super_of_assignment : (ledger : List LedgerEntry) (t : Tree) → kind_of t ≡ Kind.AssignmentExpression → super_of ledger t ≡ super_in ledger (at 1 (parts_in t)) (at 2 (parts_in t))
super_of_assignment ledger (Node kind m span semantic_id ps) is = ap (λ k. super_of ledger (Node k m span semantic_id ps)) is

pub no_super : (ledger : List LedgerEntry) (t : Tree) → (kind_of t ≡ Kind.VariableDeclarator → ⊥) → (kind_of t ≡ Kind.AssignmentExpression → ⊥) → super_of ledger t ≡ []
no_super ledger (Node Kind.VariableDeclarator m span semantic_id ps) a b = absurd (a refl)
no_super ledger (Node Kind.AssignmentExpression m span semantic_id ps) a b = absurd (b refl)
no_super ledger (Node kind m span semantic_id ps) a b = refl

pub super_named : (n : NodeId) (p : Part) → super_function (Some (GeneratedKind.SuperFn n)) p ≡ super_at n.0 p
super_named n (child t) = refl
super_named n p = refl
