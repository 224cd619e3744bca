-- What a walk that reads a tree enters, in order.
use Rattle.std.specs.Prelude.{ℕ, ◌+◌, List, [], ◌∷◌, Bool, true, false}
use Rattle.es_base.specs.Table.{members_of, is_expression}
use Rattle.es_base.specs.Tree.{Tree, Part, Parts, Node, end, more, child, absent, list, string, no_string, boolean, literal}
use Rattle.es_base.specs.declared.kind.Kind.{Kind}
use Rattle.es_visit.specs.Roles.{role_at, is_computed}
use Rattle.es_visit.specs.declared.roles.Role.{Role}

-- the hooks of `Visit`
pub data Hook : Type 0 where
  Expression : Hook
  Class : Hook
  Function : Hook
  Arrow : Hook
  IdentifierReference : Hook
  Await : Hook
  Yield : Hook

-- a hook, and the node that it is called at
pub data Entry : Type 0 where
  entry : (hook : Hook) (tree : Tree) → Entry

-- the hooks of a kind
abbrev pub hooks_of_kind : Kind → List Hook
hooks_of_kind Kind.ClassDeclaration = Class ∷ []
hooks_of_kind Kind.ClassExpression = Class ∷ []
hooks_of_kind Kind.FunctionDeclaration = Function ∷ []
hooks_of_kind Kind.FunctionExpression = Function ∷ []
hooks_of_kind Kind.ArrowFunctionExpression = Arrow ∷ []
hooks_of_kind Kind.IdentifierReference = IdentifierReference ∷ []
hooks_of_kind Kind.AwaitExpression = Await ∷ []
hooks_of_kind Kind.YieldExpression = Yield ∷ []
hooks_of_kind kind = []

abbrev pub with_expression : Bool → List Hook → List Hook
with_expression true hooks = Expression ∷ hooks
with_expression false hooks = hooks

-- whether a node of this kind stands as an expression
abbrev pub stands_as_expression : Role → Kind → Bool
stands_as_expression Role.Expression kind = is_expression kind
stands_as_expression role kind = false

-- the hooks of a node, in the order in which they are called: that of its place, and that of its kind
abbrev pub hooks_of : Role → Kind → List Hook
hooks_of role kind = with_expression (stands_as_expression role kind) (hooks_of_kind kind)

abbrev pub chosen : Bool → List Entry → List Entry → List Entry
chosen true below rest = below
chosen false below rest = rest

-- the entries of these hooks at a node, and then what lies below it, unless one of them says no
abbrev pub entered : (Hook → Tree → Bool) → List Hook → Tree → List Entry → List Entry → List Entry
entered goes [] t below rest = below
entered goes (h ∷ hs) t below rest = entry h t ∷ chosen (goes h t) (entered goes hs t below rest) rest

-- the entries of a tree that stands in this role, and then others
abbrev mutual
  pub reading : (Hook → Tree → Bool) → Role → Tree → List Entry → List Entry
  reading goes role (Node kind id span semantic_id parts) rest = entered goes (hooks_of role kind) (Node kind id span semantic_id parts) (reading_below goes kind (is_computed kind parts) 0 parts rest) rest

  -- the same of the parts of a node, from a member on
  pub reading_below : (Hook → Tree → Bool) → Kind → Bool → ℕ → Parts → List Entry → List Entry
  reading_below goes kind computed at end rest = rest
  reading_below goes kind computed at (more p ps) rest = reading_part goes (role_at computed (members_of kind) at) p (reading_below goes kind computed (at + 1) ps rest)

  pub reading_part : (Hook → Tree → Bool) → Role → Part → List Entry → List Entry
  reading_part goes role (child t) rest = reading goes role t rest
  reading_part goes role absent rest = rest
  reading_part goes role (list all) rest = reading_items goes role all rest
  reading_part goes role (string chars) rest = rest
  reading_part goes role no_string rest = rest
  reading_part goes role (boolean value) rest = rest
  reading_part goes role (literal value) rest = rest

  pub reading_items : (Hook → Tree → Bool) → Role → Parts → List Entry → List Entry
  reading_items goes role end rest = rest
  reading_items goes role (more p ps) rest = reading_part goes role p (reading_items goes role ps rest)

-- a visitor that goes into every node
abbrev pub everywhere : Hook → Tree → Bool
everywhere hook t = true
