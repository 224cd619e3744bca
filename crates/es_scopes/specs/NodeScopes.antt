-- The scopes of a tree: which nodes have one, in which scope each stands, and its flags.
-- (ECMA-262, 8.2 and 9.1: environment records, where a function's parameters and body have one scope; 11.2.2: strict code.)
use Rattle.std.specs.Prelude.{ℕ, suc, List, [], ◌∷◌, ◌++◌, Bool, true, false, cond, ◌||◌, ◌&&◌, not, codes, bytes_eq, nat_eq, bit_or, Option, Some, None}
use Rattle.es_base.specs.Tree.{Tree, Part, Parts, Node, end, more, child, absent, list, string, no_string, boolean, literal}
use Rattle.es_base.specs.declared.kind.Kind.{Kind}
use Rattle.es_scopes.specs.declared.flags.ScopeFlags.{ScopeFlags}
use Rattle.es_scopes.specs.declared.flags.TheConstants.ScopeFlags as flag
use Rattle.es_steps.specs.Parts.{at, items, string_of}
use Rattle.es_steps.specs.Strict.{makes_strict}

-- ---- which nodes have a scope

-- the nodes of these kinds, but for the block that is a function's body
abbrev pub has_scope : Kind → Bool
has_scope Kind.Program = true
has_scope Kind.FunctionDeclaration = true
has_scope Kind.FunctionExpression = true
has_scope Kind.ArrowFunctionExpression = true
has_scope Kind.ClassDeclaration = true
has_scope Kind.ClassExpression = true
has_scope Kind.StaticBlock = true
has_scope Kind.BlockStatement = true
has_scope Kind.ForStatement = true
has_scope Kind.ForInStatement = true
has_scope Kind.ForOfStatement = true
has_scope Kind.SwitchStatement = true
has_scope Kind.CatchClause = true
has_scope kind = false

-- `var` is hoisted to the nearest of these
abbrev pub is_hoist_scope : Kind → Bool
is_hoist_scope Kind.Program = true
is_hoist_scope Kind.FunctionDeclaration = true
is_hoist_scope Kind.FunctionExpression = true
is_hoist_scope Kind.ArrowFunctionExpression = true
is_hoist_scope Kind.StaticBlock = true
is_hoist_scope kind = false

-- the i-th part is a function's body: a block there has no scope of its own
abbrev pub is_body_place : Kind → ℕ → Bool
is_body_place Kind.FunctionDeclaration i = nat_eq i 2
is_body_place Kind.FunctionExpression i = nat_eq i 2
is_body_place Kind.ArrowFunctionExpression i = nat_eq i 1
is_body_place kind i = false

-- the discriminant of a switch stands outside the scope of its cases
abbrev pub is_outside : Kind → ℕ → Bool
is_outside Kind.SwitchStatement i = nat_eq i 0
is_outside kind i = false

-- ---- flags

-- those of the node itself
abbrev pub own_flags : Kind → ℕ
own_flags Kind.Program = flag.TOP.0
own_flags Kind.FunctionDeclaration = flag.FUNCTION.0
own_flags Kind.FunctionExpression = flag.FUNCTION.0
own_flags Kind.ArrowFunctionExpression = bit_or flag.FUNCTION.0 flag.ARROW.0
own_flags Kind.StaticBlock = flag.STATIC_BLOCK.0
own_flags kind = 0

-- those that a method or an accessor gives to the function that is its value
abbrev pub flags_of_word : List ℕ → ℕ
flags_of_word word = cond (bytes_eq word (codes "constructor")) flag.CONSTRUCTOR.0 (cond (bytes_eq word (codes "get")) flag.GET.0 (cond (bytes_eq word (codes "set")) flag.SET.0 0))

abbrev pub value_flags : Kind → Parts → ℕ → ℕ
value_flags Kind.MethodDefinition ps i = cond (nat_eq i 1) (flags_of_word (string_of (at 2 ps))) 0
value_flags Kind.Property ps i = cond (nat_eq i 1) (flags_of_word (string_of (at 2 ps))) 0
value_flags kind ps i = 0

abbrev pub scope_flags : Kind → ℕ → Bool → ScopeFlags
scope_flags kind given strict = record { 0 = bit_or (bit_or (own_flags kind) given) (cond strict flag.STRICT.0 0) }

-- ---- the scopes of a tree

-- a node with a scope, the node whose scope is around, and its flags
pub record NodeScope : Type 0 where
  pub node : ℕ
  pub around : Option ℕ
  pub flags : ScopeFlags

-- where a node stands: in which node's scope, in strict code or not, as a function's body or not, and what its parent gives
pub record Place : Type 0 where
  pub around : Option ℕ
  pub strict : Bool
  pub is_body : Bool
  pub given : ℕ

-- a node has a scope, where it stands
abbrev pub opens : Kind → Place → Bool
opens Kind.BlockStatement place = not place.is_body
opens kind place = has_scope kind

abbrev pub is_strict : Kind → Parts → Place → Bool
is_strict kind ps place = place.strict || makes_strict kind ps

-- where the i-th part stands
abbrev pub inside : Kind → ℕ → Parts → Place → ℕ → Place
inside kind m ps place i = record {
  around = cond (opens kind place && not (is_outside kind i)) (Some m) place.around;
  strict = is_strict kind ps place;
  is_body = is_body_place kind i;
  given = value_flags kind ps i;
}

abbrev pub own_scope : Kind → ℕ → Parts → Place → List NodeScope
own_scope kind m ps place = cond (opens kind place) (record { node = m; around = place.around; flags = scope_flags kind place.given (is_strict kind ps place) } ∷ []) []

-- in preorder, the order in which scopes are numbered
abbrev mutual
  pub node_scopes : Place → Tree → List NodeScope
  node_scopes place (Node kind m span id ps) = own_scope kind m ps place ++ scopes_of_parts (inside kind m ps place) ps

  pub scopes_of_parts : (ℕ → Place) → Parts → List NodeScope
  scopes_of_parts places end = []
  scopes_of_parts places (more p ps) = scopes_of_part (places 0) p ++ scopes_of_parts (λ i. places (suc i)) ps

  pub scopes_of_part : Place → Part → List NodeScope
  scopes_of_part place (child t) = node_scopes place t
  scopes_of_part place absent = []
  scopes_of_part place (list all) = scopes_of_items place all
  scopes_of_part place (string s) = []
  scopes_of_part place no_string = []
  scopes_of_part place (boolean b) = []
  scopes_of_part place (literal v) = []

  pub scopes_of_items : Place → Parts → List NodeScope
  scopes_of_items place end = []
  scopes_of_items place (more p ps) = scopes_of_part place p ++ scopes_of_items place ps

-- a program stands in no scope
abbrev pub outermost : Place
outermost = record { around = None; strict = false; is_body = false; given = 0 }

abbrev pub scopes_of : Tree → List NodeScope
scopes_of program = node_scopes outermost program
