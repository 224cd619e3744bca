-- Functions that are branches of an `if`, with the names of their spelling around, in the function around, the nearest first. Such a
-- function is bound in the branch alone (ECMA-262, B.3.3). Here it stands for its name in the whole list around, and what it is given
-- to passes caught names (B.3.4): so what the name means in that list is told by these pairs. (Our own.)
use Rattle.std.specs.Prelude.{ℕ, suc, List, [], ◌∷◌, ◌++◌, false, cond, bytes_eq}
use Rattle.es_base.specs.Tree.{Tree, Part, Parts, Node, end, more, child, list, string}
use Rattle.es_base.specs.declared.kind.Kind.{Kind}
use Rattle.es_steps.specs.Parts.{at}
use Rattle.es_steps.specs.References.{takes_vars}
use Rattle.es_steps.specs.Scopes.{Declaration, names_at}
use Rattle.es_steps.specs.Values.{String}

-- the declaring identifier b with each name of this spelling
abbrev pub spelled_as : ℕ → String → List Declaration → List (ℕ × ℕ)
spelled_as b s [] = []
spelled_as b s (d ∷ ds) = cond (bytes_eq s d.spelling) ((b, d.number) ∷ spelled_as b s ds) (spelled_as b s ds)

abbrev pub around_branch : List Declaration → Part → List (ℕ × ℕ)
around_branch names (child (Node Kind.FunctionDeclaration f span semantic_id (more (child (Node Kind.BindingIdentifier b bspan b_semantic_id (more (string s) end))) ps))) = spelled_as b s names
around_branch names p = []

abbrev pub around_branches_here : List Declaration → Kind → Parts → List (ℕ × ℕ)
around_branches_here names Kind.IfStatement ps = around_branch names (at 1 ps) ++ around_branch names (at 2 ps)
around_branches_here names kind ps = []

-- the names that are seen in the i-th part and declared in the function
abbrev pub names_inside : List Declaration → Kind → ℕ → Parts → ℕ → List Declaration
names_inside names kind m ps i = names_at false kind m ps i ++ cond (takes_vars kind) [] names

abbrev mutual
  pub around_branches : List Declaration → Tree → List (ℕ × ℕ)
  around_branches names (Node kind m span semantic_id ps) = around_branches_here names kind ps ++ around_branches_in (names_inside names kind m ps) ps

  pub around_branches_in : (ℕ → List Declaration) → Parts → List (ℕ × ℕ)
  around_branches_in names end = []
  around_branches_in names (more p ps) = around_branches_at (names 0) p ++ around_branches_in (λ i. names (suc i)) ps

  pub around_branches_of : List Declaration → Parts → List (ℕ × ℕ)
  around_branches_of names end = []
  around_branches_of names (more p ps) = around_branches_at names p ++ around_branches_of names ps

  pub around_branches_at : List Declaration → Part → List (ℕ × ℕ)
  around_branches_at names (child t) = around_branches names t
  around_branches_at names (list ps) = around_branches_of names ps
  around_branches_at names p = []
