-- Functions of generated names, by the kind of a node.
use Rattle.std.proofs.Common.{◌≡◌, refl, List, [], cond}
use Rattle.es_base.specs.Preorder.{preorder}
use Rattle.es_base.specs.Tree.{Tree, Node, child}
use Rattle.es_base.specs.declared.kind.Kind.{Kind}
use Rattle.es_base.specs.declared.ledger.LedgerEntry.{LedgerEntry}
use Rattle.es_lowered.specs.ClassNames.{function_numbers, moved_at, moved_function, numbers_of}
use Rattle.es_lowered.specs.Definitions.{spelling}
use Rattle.es_node.specs.View.{kind_of, parts_in}
use Rattle.es_steps.specs.NameScopes.{is_any_function}
use Rattle.es_steps.specs.Parts.{at}

pub moved_declaration : (ledger : List LedgerEntry) (t : Tree) → kind_of t ≡ Kind.FunctionDeclaration → moved_at ledger t ≡ moved_function ledger (spelling (at 0 (parts_in t))) (child t)
moved_declaration ledger (Node Kind.FunctionDeclaration m span semantic_id ps) is = refl
moved_declaration ledger (Node kind m span semantic_id ps) is = absurd (cc)

pub moved_assignment : (ledger : List LedgerEntry) (t : Tree) → kind_of t ≡ Kind.AssignmentExpression → moved_at ledger t ≡ moved_function ledger (spelling (at 1 (parts_in t))) (at 2 (parts_in t))
moved_assignment ledger (Node Kind.AssignmentExpression m span semantic_id ps) is = refl
moved_assignment ledger (Node kind m span semantic_id ps) is = absurd (cc)

pub moved_declarator : (ledger : List LedgerEntry) (t : Tree) → kind_of t ≡ Kind.VariableDeclarator → moved_at ledger t ≡ moved_function ledger (spelling (at 0 (parts_in t))) (at 1 (parts_in t))
moved_declarator ledger (Node Kind.VariableDeclarator m span semantic_id ps) is = refl
moved_declarator ledger (Node kind m span semantic_id ps) is = absurd (cc)

pub none_moved : (ledger : List LedgerEntry) (t : Tree) → (kind_of t ≡ Kind.FunctionDeclaration → ⊥) → (kind_of t ≡ Kind.AssignmentExpression → ⊥) → (kind_of t ≡ Kind.VariableDeclarator → ⊥) → moved_at ledger t ≡ []
none_moved ledger (Node Kind.FunctionDeclaration m span semantic_id ps) a b c = absurd (a refl)
none_moved ledger (Node Kind.AssignmentExpression m span semantic_id ps) a b c = absurd (b refl)
none_moved ledger (Node Kind.VariableDeclarator m span semantic_id ps) a b c = absurd (c refl)
none_moved ledger (Node kind m span semantic_id ps) a b c = refl

pub function_node : (t : Tree) → function_numbers (child t) ≡ cond (is_any_function (kind_of t)) (numbers_of (preorder t)) []
function_node (Node kind m span semantic_id ps) = refl
