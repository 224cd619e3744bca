-- Lists of statements, node by node.
use Rattle.std.specs.Prelude.{ℕ, List, [], ◌∷◌, Bool, true, cond, ◌&&◌}
use Rattle.es_base.specs.Tree.{Tree, Node}
use Rattle.es_base.specs.declared.kind.Kind.{Kind}
use Rattle.es_steps.specs.KeptNodes.{class_or_none, free_numbers, given_classes, is_static_block, is_within, list_of, statement_list}
use Rattle.es_steps.specs.Parts.{at, items}
use Rattle.es_steps.specs.Scopes.{class_in}
use Rattle.es_steps.specs.declared.options.Options.{Options}

-- whether what is to stay of a node's list stands in the list of that node among these
abbrev pub list_stays : Options → List Tree → Tree → Bool
list_stays o qs (Node kind m span semantic_id ps) = cond (is_static_block kind) true (is_within (free_numbers o (statement_list kind ps)) (list_of m qs))

abbrev pub lists_stay : Options → List Tree → List Tree → Bool
lists_stay o qs [] = true
lists_stay o qs (t ∷ ts) = list_stays o qs t && lists_stay o qs ts

-- the class that a node declares by itself
abbrev pub own_class : Tree → List ℕ
own_class (Node Kind.ClassDeclaration n span semantic_id ps) = n ∷ []
own_class t = []

-- .. and those that give its variables their values
abbrev pub exported_classes : Tree → List ℕ
exported_classes (Node Kind.VariableDeclaration m span semantic_id ps) = given_classes (items (at 1 ps))
exported_classes t = own_class t

abbrev pub given_class : Tree → List ℕ
given_class (Node Kind.VariableDeclarator m span semantic_id ps) = class_or_none (class_in (at 1 ps))
given_class t = []
