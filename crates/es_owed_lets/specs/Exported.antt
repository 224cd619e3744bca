-- What stands up to the default export of a program, statement by statement.
use Rattle.std.specs.Option.{option_to_list}
use Rattle.std.specs.Prelude.{◌≡◌, List, [], ◌∷◌, ◌++◌, Bool, true, false, cond, Option}
use Rattle.es_base.specs.Preorder.{preorder}
use Rattle.es_base.specs.Tree.{Tree, Parts, Node, child, trees}
use Rattle.es_base.specs.declared.kind.Kind.{Kind}
use Rattle.es_lowered.specs.DefaultExport.{declares_default, holds, is_default, running_up_to, up_to}

-- whether these are the statements of a list, as far as its default export is asked for
pub record AreStatements (ts : List Tree) (ps : Parts) : Type 0 where
  pub has_default : holds is_default (trees ts) ≡ holds is_default ps
  pub declares : holds declares_default (trees ts) ≡ holds declares_default ps
  pub stood : up_to (trees ts) ≡ up_to ps
  pub running : running_up_to (trees ts) ≡ running_up_to ps

-- those that stand
abbrev pub present : List (Option Tree) → List Tree
present [] = []
present (o ∷ os) = option_to_list o ++ present os

-- whether a node of this kind declares a class or a function
abbrev pub is_declaration : Kind → Bool
is_declaration Kind.ClassDeclaration = true
is_declaration Kind.FunctionDeclaration = true
is_declaration kind = false

-- the nodes of the statements up to the default export, with it
abbrev pub nodes_up_to : List Tree → List Tree
nodes_up_to [] = []
nodes_up_to (t ∷ ts) = preorder t ++ cond (is_default (child t)) [] (nodes_up_to ts)

-- .. of those that run where they stand
abbrev pub running_nodes : Tree → List Tree
running_nodes (Node Kind.FunctionDeclaration m span semantic_id ps) = []
running_nodes t = preorder t

abbrev pub running_nodes_up_to : List Tree → List Tree
running_nodes_up_to [] = []
running_nodes_up_to (t ∷ ts) = running_nodes t ++ cond (is_default (child t)) [] (running_nodes_up_to ts)
