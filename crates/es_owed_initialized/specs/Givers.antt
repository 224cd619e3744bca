-- The nodes that give names values, with the numbers by which they are looked up.
use Rattle.std.proofs.Common.{Bor}
use Rattle.std.specs.Prelude.{ℕ, List, [], ◌∷◌, ◌++◌, Bool, true, false, cond}
use Rattle.es_base.specs.Tree.{Tree, Parts}
use Rattle.es_base.specs.declared.kind.Kind.{Kind}
use Rattle.es_binding_faults.specs.Leasts.{Numbers}
use Rattle.es_lowered.specs.Definitions.{spelling}
use Rattle.es_node.specs.View.{kind_of, parts_in}
use Rattle.es_generated.specs.Spellings.{spelling_number}
use Rattle.es_steps.specs.Parts.{at}
use Rattle.es_steps.specs.Values.{String}

-- whether a node of this kind may give a name a value
abbrev pub may_give : Kind → Bool
may_give Kind.AssignmentExpression = true
may_give Kind.VariableDeclarator = true
may_give Kind.FunctionDeclaration = true
may_give Kind.ClassDeclaration = true
may_give Kind.ClassExpression = true
may_give Kind.FunctionExpression = true
may_give kind = false

-- the name to which it gives one
abbrev pub name_given : Kind → Parts → String
name_given Kind.AssignmentExpression ps = spelling (at 1 ps)
name_given kind ps = spelling (at 0 ps)

abbrev pub numbered_givers : Numbers → List (Bor Tree) → List (ℕ × Bor Tree)
numbered_givers ns [] = []
numbered_givers ns (t ∷ ts) = cond (may_give (kind_of t.now)) ((spelling_number ns (name_given (kind_of t.now) (parts_in t.now)), t) ∷ []) [] ++ numbered_givers ns ts
