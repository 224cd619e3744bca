-- The names that a node declares which change by themselves, by its kind.
use Rattle.std.specs.Prelude.{◌≡◌, ℕ, List, [], ◌++◌}
use Rattle.std.proofs.Common.{refl}
use Rattle.es_base.specs.Tree.{Tree, Node}
use Rattle.es_base.specs.declared.kind.Kind.{Kind}
use Rattle.es_node.specs.View.{kind_of, parts_in}
use Rattle.es_steps.specs.Parts.{at}
use Rattle.es_steps.specs.References.{changing_by, named_arguments, numbers_of}
use Rattle.es_steps.specs.Scopes.{bound_part, no_class}

abbrev first_arguments : Tree → List ℕ
first_arguments t = named_arguments (bound_part no_class (at 0 (parts_in t)))

abbrev function_arguments : Tree → List ℕ
function_arguments t = named_arguments (bound_part no_class (at 0 (parts_in t)) ++ bound_part no_class (at 1 (parts_in t)))

pub by_import : (t : Tree) → kind_of t ≡ Kind.ImportDeclaration → changing_by t ≡ numbers_of (bound_part no_class (at 0 (parts_in t)))
by_import (Node Kind.ImportDeclaration m span semantic_id ps) is = refl
by_import (Node kind m span semantic_id ps) is = absurd (cc)

pub by_declarator : (t : Tree) → kind_of t ≡ Kind.VariableDeclarator → changing_by t ≡ first_arguments t
by_declarator (Node Kind.VariableDeclarator m span semantic_id ps) is = refl
by_declarator (Node kind m span semantic_id ps) is = absurd (cc)

pub by_function : (t : Tree) → kind_of t ≡ Kind.FunctionDeclaration → changing_by t ≡ function_arguments t
by_function (Node Kind.FunctionDeclaration m span semantic_id ps) is = refl
by_function (Node kind m span semantic_id ps) is = absurd (cc)

pub by_function_expression : (t : Tree) → kind_of t ≡ Kind.FunctionExpression → changing_by t ≡ function_arguments t
by_function_expression (Node Kind.FunctionExpression m span semantic_id ps) is = refl
by_function_expression (Node kind m span semantic_id ps) is = absurd (cc)

pub by_arrow : (t : Tree) → kind_of t ≡ Kind.ArrowFunctionExpression → changing_by t ≡ first_arguments t
by_arrow (Node Kind.ArrowFunctionExpression m span semantic_id ps) is = refl
by_arrow (Node kind m span semantic_id ps) is = absurd (cc)

pub by_catch : (t : Tree) → kind_of t ≡ Kind.CatchClause → changing_by t ≡ first_arguments t
by_catch (Node Kind.CatchClause m span semantic_id ps) is = refl
by_catch (Node kind m span semantic_id ps) is = absurd (cc)

pub by_none : (t : Tree) → (kind_of t ≡ Kind.ImportDeclaration → ⊥) → (kind_of t ≡ Kind.VariableDeclarator → ⊥) → (kind_of t ≡ Kind.FunctionDeclaration → ⊥) → (kind_of t ≡ Kind.FunctionExpression → ⊥) → (kind_of t ≡ Kind.ArrowFunctionExpression → ⊥) → (kind_of t ≡ Kind.CatchClause → ⊥) → changing_by t ≡ []
by_none (Node Kind.ImportDeclaration m span semantic_id ps) i d f e a c = absurd (i refl)
by_none (Node Kind.VariableDeclarator m span semantic_id ps) i d f e a c = absurd (d refl)
by_none (Node Kind.FunctionDeclaration m span semantic_id ps) i d f e a c = absurd (f refl)
by_none (Node Kind.FunctionExpression m span semantic_id ps) i d f e a c = absurd (e refl)
by_none (Node Kind.ArrowFunctionExpression m span semantic_id ps) i d f e a c = absurd (a refl)
by_none (Node Kind.CatchClause m span semantic_id ps) i d f e a c = absurd (c refl)
by_none (Node kind m span semantic_id ps) i d f e a c = refl
