-- What functions in blocks give a value to, by numbers.
use Rattle.std.specs.Prelude.{ℕ, ◌+◌, List, [], ◌++◌, Bool, false, cond}
use Rattle.es_base.specs.Tree.{Tree, Part, Parts, Node, end, more, child, list}
use Rattle.es_base.specs.declared.kind.Kind.{Kind}
use Rattle.es_binding_faults.specs.Named.{plain}
use Rattle.es_references.specs.References.{names_inside}
use Rattle.es_steps.specs.References.{meant, inner_functions, names_around, takes_vars}
use Rattle.es_steps.specs.Scopes.{Declaration, is_body_part}

-- what the i-th part of a node sees past caught names
abbrev pub names_passed : List Declaration → Bool → Kind → Parts → ℕ → List Declaration
names_passed names is_body kind ps i = plain (names_around is_body kind 0 ps i) ++ names

-- the bindings that functions in the blocks of a tree give a value to, where these names are seen, and these of them are not caught in
-- the function around: whether it is the body of a function
abbrev mutual
  pub given_by : List Declaration → List Declaration → Bool → Tree → List ℕ
  given_by names uncaught is_body (Node kind m span semantic_id ps) = meant uncaught (inner_functions is_body kind ps) ++ given_from (names_inside names is_body kind ps) (names_passed (cond (takes_vars kind) names uncaught) is_body kind ps) (is_body_part kind) 0 ps

  -- of the parts from the i-th on
  pub given_from : (ℕ → List Declaration) → (ℕ → List Declaration) → (ℕ → Bool) → ℕ → Parts → List ℕ
  given_from names uncaught bodies i end = []
  given_from names uncaught bodies i (more p ps) = given_by_part (names i) (uncaught i) (bodies i) p ++ given_from names uncaught bodies (i + 1) ps

  pub given_by_part : List Declaration → List Declaration → Bool → Part → List ℕ
  given_by_part names uncaught is_body (child t) = given_by names uncaught is_body t
  given_by_part names uncaught is_body (list ps) = given_by_items names uncaught ps
  given_by_part names uncaught is_body p = []

  pub given_by_items : List Declaration → List Declaration → Parts → List ℕ
  given_by_items names uncaught end = []
  given_by_items names uncaught (more p ps) = given_by_part names uncaught false p ++ given_by_items names uncaught ps
