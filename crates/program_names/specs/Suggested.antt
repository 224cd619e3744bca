-- The name that an expression suggests for a generated name (oxc_traverse, `get_var_name_from_node`).
use Rattle.std.specs.Prelude.{ℕ, List, [], ◌∷◌, ◌++◌, Bool, true, false, cond, codes, fold, take}
use Rattle.es_base.specs.Tree.{Tree, Part, Parts, Node, end, more, child}
use Rattle.es_base.specs.declared.kind.Kind.{Kind}
use Rattle.es_names.specs.Taken.{Strings}
use Rattle.es_steps.specs.Parts.{at, string_of}

-- ---- the parts of the name: those of `a.b[c].#d(e)` are `a`, `b`, `c` and `d`

-- what the node itself is
abbrev pub own_part : Kind → Parts → Strings
own_part Kind.IdentifierReference ps = string_of (at 0 ps) ∷ []
own_part Kind.IdentifierName ps = string_of (at 0 ps) ∷ []
own_part Kind.PrivateIdentifier ps = string_of (at 0 ps) ∷ []
own_part Kind.ThisExpression ps = codes "this" ∷ []
own_part Kind.Super ps = codes "super" ∷ []
own_part kind ps = []

-- whether its first member has parts: the object, the callee, the expression of a chain
abbrev pub names_first : Kind → Bool
names_first Kind.MemberExpression = true
names_first Kind.PrivateField = true
names_first Kind.CallExpression = true
names_first Kind.NewExpression = true
names_first Kind.ChainExpression = true
names_first kind = false

-- and its second: the property, the target of an assignment
abbrev pub names_second : Kind → Bool
names_second Kind.MemberExpression = true
names_second Kind.PrivateField = true
names_second Kind.AssignmentExpression = true
names_second kind = false

abbrev mutual
  pub name_parts : Tree → Strings
  name_parts (Node kind m span semantic_id ps) = own_part kind ps ++ (cond (names_first kind) (first_parts ps) [] ++ cond (names_second kind) (second_parts ps) [])

  pub first_parts : Parts → Strings
  first_parts end = []
  first_parts (more p ps) = part_parts p

  pub second_parts : Parts → Strings
  second_parts end = []
  second_parts (more p ps) = first_parts ps

  pub part_parts : Part → Strings
  part_parts (child t) = name_parts t
  part_parts p = []

-- ---- the name

-- one more part behind those that are there, with `$` between
abbrev pub with_part : List ℕ → List ℕ → List ℕ
with_part [] part = part
with_part (c ∷ cs) part = c ∷ cs ++ 36 ∷ part

-- nothing gives `ref`
abbrev pub or_ref : List ℕ → List ℕ
or_ref [] = codes "ref"
or_ref (c ∷ cs) = c ∷ cs

-- cut to 20 characters
abbrev pub suggested : Tree → List ℕ
suggested e = or_ref (take 20 (fold with_part [] (name_parts e)))
