-- Scopes: which names a node declares, and in which of its parts they are seen. (ECMA-262, 8.2: BoundNames,
-- LexicallyDeclaredNames, VarDeclaredNames; functions in blocks are bound in their block.)
use Rattle.std.specs.Prelude.{ℕ, List, [], ◌∷◌, ◌++◌, Bool, true, false, cond, codes, bytes_eq, nat_eq, Option, Some, None}
use Rattle.es_base.specs.Preorder.{preorder}
use Rattle.es_base.specs.Tree.{Tree, Part, Parts, Node, end, more, child, list}
use Rattle.es_base.specs.Table.{Field, members_of}
use Rattle.es_base.specs.declared.kind.Kind.{Kind}
use Rattle.es_base.specs.declared.table.Place.{Place}
use Rattle.es_base.specs.declared.table.Sort.{Sort}
use Rattle.es_steps.specs.Parts.{at, items, block_items, string_of}
use Rattle.es_steps.specs.Values.{String}

-- The class that a name is the name of: a declaration's, seen around it; the own name of an expression; or the class
-- that a `let`, number m, is initialized with, which counts where that `let` is new.
pub data ClassName : Type 0 where
  no_class : ClassName
  declares : (n : ℕ) → ClassName
  own_name : (n : ℕ) → ClassName
  let_names : (m n : ℕ) → ClassName

pub record Declaration : Type 0 where
  pub spelling : String
  -- of the declaring identifier
  pub number : ℕ
  pub class_name : ClassName

-- ---- the names that a pattern or a declaration binds

abbrev pub is_binding_place : Place → Bool
is_binding_place Place.Pattern = true
is_binding_place Place.PatternOrRest = true
is_binding_place Place.PatternMember = true
is_binding_place Place.BindingIdentifier = true
is_binding_place Place.VariableDeclarator = true
is_binding_place Place.ImportMember = true
is_binding_place place = false

abbrev pub binds : Sort → Bool
binds (Sort.Child place) = is_binding_place place
binds (Sort.Nullable place) = is_binding_place place
binds (Sort.List place) = is_binding_place place
binds (Sort.NonEmptyList place) = is_binding_place place
binds (Sort.ListWithHoles place) = is_binding_place place
binds sort = false

abbrev pub is_binding_identifier : Kind → Bool
is_binding_identifier Kind.BindingIdentifier = true
is_binding_identifier kind = false

-- whether a part is an identifier that declares
abbrev pub is_declaring : Part → Bool
is_declaring (child (Node kind b span semantic_id ps)) = is_binding_identifier kind
is_declaring p = false

abbrev pub declaration : ClassName → ℕ → Parts → List Declaration
declaration name b ps = record { spelling = string_of (at 0 ps); number = b; class_name = name } ∷ []

abbrev mutual
  pub bound_names : ClassName → Tree → List Declaration
  bound_names name (Node kind b span semantic_id ps) = cond (is_binding_identifier kind) (declaration name b ps) (bound_members name (members_of kind) ps)

  pub bound_members : ClassName → List Field → Parts → List Declaration
  bound_members name fs end = []
  bound_members name [] (more p ps) = []
  bound_members name (f ∷ fs) (more p ps) = cond (binds f.sort) (bound_part name p) [] ++ bound_members name fs ps

  pub bound_part : ClassName → Part → List Declaration
  bound_part name (child t) = bound_names name t
  bound_part name (list ps) = bound_items name ps
  bound_part name p = []

  pub bound_items : ClassName → Parts → List Declaration
  bound_items name end = []
  bound_items name (more p ps) = bound_part name p ++ bound_items name ps

-- ---- the class in an initializer: the first class expression in preorder

abbrev pub is_class_expression : Kind → Bool
is_class_expression Kind.ClassExpression = true
is_class_expression kind = false

abbrev pub first_class : List Tree → Option ℕ
first_class [] = None
first_class (Node kind n span semantic_id ps ∷ ts) = cond (is_class_expression kind) (Some n) (first_class ts)

abbrev pub class_in : Part → Option ℕ
class_in (child t) = first_class (preorder t)
class_in p = None

abbrev pub let_name : ℕ → Option ℕ → ClassName
let_name m None = no_class
let_name m (Some n) = let_names m n

-- the names of declarators: a `let` of one identifier may name a class
abbrev pub declarator_names : ℕ → Bool → Part → List Declaration
declarator_names m is_let (child (Node kind k span semantic_id (more (child (Node Kind.BindingIdentifier b bspan b_semantic_id bs)) (more init end)))) = declaration (cond is_let (let_name m (class_in init)) no_class) b bs
declarator_names m is_let p = bound_part no_class p

abbrev pub declarators_names : ℕ → Bool → Parts → List Declaration
declarators_names m is_let end = []
declarators_names m is_let (more p ps) = declarator_names m is_let p ++ declarators_names m is_let ps

-- ---- the names that a statement declares

pub data StatementForm : Type 0 where
  -- `var`, `let`, `const`
  variables : StatementForm
  function_declaration : StatementForm
  class_declaration : StatementForm
  imports : StatementForm
  -- what declares for the list around it what its parts declare: labels, exports, cases, and the function that an
  -- `if` may have for a block
  passes_on : StatementForm
  -- a statement of other statements, from which `var` alone is hoisted
  nests : StatementForm
  other_statement : StatementForm

abbrev pub statement_form : Kind → StatementForm
statement_form Kind.VariableDeclaration = variables
statement_form Kind.FunctionDeclaration = function_declaration
statement_form Kind.ClassDeclaration = class_declaration
statement_form Kind.ImportDeclaration = imports
statement_form Kind.LabeledStatement = passes_on
statement_form Kind.ExportNamedDeclaration = passes_on
statement_form Kind.ExportDefaultDeclaration = passes_on
statement_form Kind.SwitchCase = passes_on
statement_form Kind.BlockStatement = nests
statement_form Kind.WithStatement = nests
statement_form Kind.IfStatement = passes_on
statement_form Kind.SwitchStatement = nests
statement_form Kind.TryStatement = nests
statement_form Kind.CatchClause = nests
statement_form Kind.WhileStatement = nests
statement_form Kind.DoWhileStatement = nests
statement_form Kind.ForStatement = nests
statement_form Kind.ForInStatement = nests
statement_form Kind.ForOfStatement = nests
statement_form kind = other_statement

abbrev pub is_var : Parts → Bool
is_var ps = bytes_eq (string_of (at 0 ps)) (codes "var")

abbrev pub is_let : Parts → Bool
is_let ps = bytes_eq (string_of (at 0 ps)) (codes "let")

-- lexical names, those of functions among them, by the form of the statement; `inner` are those of its parts
abbrev pub lexical_by : StatementForm → ℕ → Parts → List Declaration → List Declaration
lexical_by variables m ps inner = cond (is_var ps) [] (declarators_names m (is_let ps) (items (at 1 ps)))
lexical_by function_declaration m ps inner = bound_part no_class (at 0 ps)
lexical_by class_declaration m ps inner = bound_part (declares m) (at 0 ps)
lexical_by imports m ps inner = bound_part no_class (at 0 ps)
lexical_by passes_on m ps inner = inner
lexical_by form m ps inner = []

abbrev mutual
  pub lexical_names : Tree → List Declaration
  lexical_names (Node kind m span semantic_id ps) = lexical_by (statement_form kind) m ps (lexical_items ps)

  pub lexical_part : Part → List Declaration
  lexical_part (child t) = lexical_names t
  lexical_part (list ps) = lexical_items ps
  lexical_part p = []

  pub lexical_items : Parts → List Declaration
  lexical_items end = []
  lexical_items (more p ps) = lexical_part p ++ lexical_items ps

-- the names of `var`, out of nested statements too
abbrev pub var_by : StatementForm → Parts → List Declaration → List Declaration
var_by variables ps inner = cond (is_var ps) (bound_part no_class (at 1 ps)) []
var_by passes_on ps inner = inner
var_by nests ps inner = inner
var_by form ps inner = []

abbrev mutual
  pub var_names : Tree → List Declaration
  var_names (Node kind m span semantic_id ps) = var_by (statement_form kind) ps (var_items ps)

  pub var_part : Part → List Declaration
  var_part (child t) = var_names t
  var_part (list ps) = var_items ps
  var_part p = []

  pub var_items : Parts → List Declaration
  var_items end = []
  var_items (more p ps) = var_part p ++ var_items ps

-- all names of a body, in preorder
abbrev pub body_names : Parts → List Declaration
body_names end = []
body_names (more p ps) = (lexical_part p ++ var_part p) ++ body_names ps

-- ---- the scope of a node

pub data ScopeForm : Type 0 where
  program_scope : ScopeForm
  function_scope : ScopeForm
  -- of a function expression, whose own name stands behind all others
  own_function_scope : ScopeForm
  arrow_scope : ScopeForm
  own_class_scope : ScopeForm
  block_scope : ScopeForm
  static_block_scope : ScopeForm
  loop_scope : ScopeForm
  switch_scope : ScopeForm
  catch_scope : ScopeForm
  no_scope : ScopeForm

abbrev pub scope_form : Kind → ScopeForm
scope_form Kind.Program = program_scope
scope_form Kind.FunctionDeclaration = function_scope
scope_form Kind.FunctionExpression = own_function_scope
scope_form Kind.ArrowFunctionExpression = arrow_scope
scope_form Kind.ClassExpression = own_class_scope
scope_form Kind.BlockStatement = block_scope
scope_form Kind.StaticBlock = static_block_scope
scope_form Kind.ForStatement = loop_scope
scope_form Kind.ForInStatement = loop_scope
scope_form Kind.ForOfStatement = loop_scope
scope_form Kind.SwitchStatement = switch_scope
scope_form Kind.CatchClause = catch_scope
scope_form kind = no_scope

-- a block that is the body of a function has no scope of its own
abbrev pub scope_of : Kind → Bool → ScopeForm
scope_of Kind.BlockStatement true = no_scope
scope_of kind is_body = scope_form kind

abbrev pub is_body_part : Kind → ℕ → Bool
is_body_part Kind.FunctionDeclaration i = nat_eq i 2
is_body_part Kind.FunctionExpression i = nat_eq i 2
is_body_part Kind.ArrowFunctionExpression i = nat_eq i 1
is_body_part kind i = false

-- the names that the scope of node m holds, in preorder, a function expression's own name aside
abbrev pub scope_names : ScopeForm → ℕ → Parts → List Declaration
scope_names program_scope m ps = body_names (items (at 1 ps))
scope_names function_scope m ps = bound_part no_class (at 1 ps) ++ body_names (block_items (at 2 ps))
scope_names own_function_scope m ps = bound_part no_class (at 1 ps) ++ body_names (block_items (at 2 ps))
scope_names arrow_scope m ps = bound_part no_class (at 0 ps) ++ body_names (block_items (at 1 ps))
scope_names own_class_scope m ps = bound_part (own_name m) (at 0 ps)
scope_names block_scope m ps = lexical_items (items (at 0 ps))
scope_names static_block_scope m ps = body_names (items (at 0 ps))
scope_names loop_scope m ps = lexical_part (at 0 ps)
scope_names switch_scope m ps = lexical_part (at 1 ps)
scope_names catch_scope m ps = bound_part no_class (at 0 ps)
scope_names no_scope m ps = []

-- what of it is seen in the i-th part: a name that a body alone declares is not seen from the parameters, and the
-- discriminant of a switch stands outside the scope of its cases
abbrev pub seen : ScopeForm → ℕ → Parts → ℕ → List Declaration
seen function_scope m ps i = cond (nat_eq i 1) (bound_part no_class (at 1 ps)) (scope_names function_scope m ps)
seen own_function_scope m ps i = cond (nat_eq i 1) (bound_part no_class (at 1 ps)) (scope_names own_function_scope m ps) ++ bound_part no_class (at 0 ps)
seen arrow_scope m ps i = cond (nat_eq i 0) (bound_part no_class (at 0 ps)) (scope_names arrow_scope m ps)
seen switch_scope m ps i = cond (nat_eq i 0) [] (scope_names switch_scope m ps)
seen form m ps i = scope_names form m ps

-- what the scope of a node of this kind, which is the body of a function or not, adds to the names that its i-th part
-- sees
abbrev pub names_at : Bool → Kind → ℕ → Parts → ℕ → List Declaration
names_at is_body kind m ps = seen (scope_of kind is_body) m ps
