-- Functions that are branches of an `if`, where names are told without the classes that they may name.
use Rattle.std.specs.Prelude.{ℕ, ◌+◌, List, [], ◌∷◌, ◌++◌, Bool, false, cond, bytes_eq}
use Rattle.es_base.specs.Tree.{Tree, Part, Parts, Node, end, more, child, list, string}
use Rattle.es_base.specs.declared.kind.Kind.{Kind}
use Rattle.es_references.specs.References.{names_inside}
use Rattle.es_steps.specs.Branches.{around_branches_here, spelled_as}
use Rattle.es_steps.specs.References.{takes_vars}
use Rattle.es_steps.specs.Scopes.{Declaration}
use Rattle.es_steps.specs.Values.{String}

-- the names that are seen in the i-th part and declared in the function
abbrev pub names_within : List Declaration → Bool → Kind → Parts → ℕ → List Declaration
names_within names is_body kind ps i = names_inside (cond (takes_vars kind) [] names) is_body kind ps i

abbrev mutual
  pub branches_in : List Declaration → Tree → List (ℕ × ℕ)
  branches_in names (Node kind m span semantic_id ps) = around_branches_here names kind ps ++ branches_from (names_within names false kind ps) 0 ps

  -- of the parts from the i-th on
  pub branches_from : (ℕ → List Declaration) → ℕ → Parts → List (ℕ × ℕ)
  branches_from names i end = []
  branches_from names i (more p ps) = branches_at (names i) p ++ branches_from names (i + 1) ps

  pub branches_of : List Declaration → Parts → List (ℕ × ℕ)
  branches_of names end = []
  branches_of names (more p ps) = branches_at names p ++ branches_of names ps

  pub branches_at : List Declaration → Part → List (ℕ × ℕ)
  branches_at names (child t) = branches_in names t
  branches_at names (list ps) = branches_of names ps
  branches_at names p = []

-- a branch that is a function with this identifier
abbrev pub named_branch : List Declaration → Tree → List (ℕ × ℕ)
named_branch names (Node Kind.BindingIdentifier b span semantic_id (more (string s) end)) = spelled_as b s names
named_branch names t = []

-- the declaring identifier b with each name of this spelling, one after the other
abbrev pub spelled_one : ℕ → String → Declaration → List (ℕ × ℕ)
spelled_one b s d = cond (bytes_eq s d.spelling) ((b, d.number) ∷ []) []

abbrev pub spelled_among : ℕ → String → List Declaration → List (ℕ × ℕ)
spelled_among b s [] = []
spelled_among b s (d ∷ ds) = spelled_one b s d ++ spelled_among b s ds
