-- What is known at a place of a tree from what stands around: in which scope it is, which scopes hold what is declared
-- there, and how names are declared and used there. (ECMA-262, 8.2 and 9.1; `Scopes` of `es_steps` has the same by
-- collecting the names of each scope.)
use Rattle.std.specs.Prelude.{ℕ, Bool, true, false, cond, ◌&&◌, not, nat_eq, Option, Some, None}
use Rattle.es_base.specs.Carried.{scope_number}
use Rattle.es_base.specs.Tree.{Parts}
use Rattle.es_base.specs.declared.ids.ScopeId.{ScopeId}
use Rattle.es_base.specs.declared.kind.Kind.{Kind}
use Rattle.es_scopes.specs.NodeScopes as scopes
use Rattle.es_scopes.specs.NodeBindings.{flags_in, in_head}
use Rattle.es_scopes.specs.NodeReferences.{use_in}
use Rattle.es_scopes.specs.declared.flags.TheConstants.ReferenceFlags as reference_flag
use Rattle.es_steps.specs.Scopes.{is_var}
use Rattle.es_scopes.specs.declared.surroundings.Declarer.TheVariants as declarer
use Rattle.es_scopes.specs.declared.surroundings.Declares.{Declares}
use Rattle.es_scopes.specs.declared.surroundings.Declares.TheVariants as declares
use Rattle.es_scopes.specs.declared.surroundings.Surroundings.{Surroundings}

-- ---- which scopes hold what is declared

abbrev pub lexical_scope : Declares → Option ScopeId
lexical_scope (declares.Statement lexical var) = lexical
lexical_scope d = None

abbrev pub var_scope : Declares → Option ScopeId
var_scope (declares.Statement lexical var) = var
var_scope d = None

-- a name or a pattern that declares in this scope
abbrev pub in_scope : Option ScopeId → Declares
in_scope s = declares.Pattern s declarer.Other

-- the parts of a pattern that declare too: of a declarator, a property and a default the name, of a specifier the local
-- one
abbrev pub is_pattern_part : Kind → ℕ → Bool
is_pattern_part Kind.VariableDeclarator i = nat_eq i 0
is_pattern_part Kind.ObjectPattern i = nat_eq i 0
is_pattern_part Kind.BindingProperty i = nat_eq i 1
is_pattern_part Kind.ArrayPattern i = nat_eq i 0
is_pattern_part Kind.AssignmentPattern i = nat_eq i 0
is_pattern_part Kind.RestElement i = nat_eq i 0
is_pattern_part Kind.ImportSpecifier i = nat_eq i 1
is_pattern_part Kind.ImportDefaultSpecifier i = nat_eq i 0
is_pattern_part Kind.ImportNamespaceSpecifier i = nat_eq i 0
is_pattern_part kind i = false

-- as the node, in its parts that declare
abbrev pub passed_on : Kind → Declares → ℕ → Declares
passed_on kind (declares.Pattern holder who) i = cond (is_pattern_part kind i) (declares.Pattern holder who) declares.Nothing
passed_on kind d i = declares.Nothing

-- statements from which `var` alone is hoisted; the i-th part of one with a scope holds its lexical names
abbrev pub nested : Bool → ScopeId → Declares → Declares
nested holds own d = declares.Statement (cond holds (Some own) None) (var_scope d)

-- the list of a block, which may be the body of a function
abbrev pub in_block : ScopeId → Declares → Declares
in_block own (declares.Body s) = declares.Statement (Some s) (Some s)
in_block own d = nested true own d

-- the name, the parameters and the body of a function
abbrev pub in_function : Declares → ScopeId → ℕ → Declares
in_function name own i = cond (nat_eq i 0) name (cond (nat_eq i 1) (declares.Pattern (Some own) declarer.Parameter) (declares.Body own))

-- the parameters and the body of an arrow
abbrev pub in_arrow : ScopeId → ℕ → Declares
in_arrow own i = cond (nat_eq i 0) (declares.Pattern (Some own) declarer.Parameter) (declares.Body own)

-- the first part declares so, and the others do not
abbrev pub in_first : Declares → ℕ → Declares
in_first d i = cond (nat_eq i 0) d declares.Nothing

-- what the i-th part of a node declares, which may have this scope
abbrev pub declares_in : Kind → ScopeId → Parts → Declares → ℕ → Declares
declares_in Kind.Program own ps d i = declares.Statement (Some own) (Some own)
declares_in Kind.StaticBlock own ps d i = declares.Statement (Some own) (Some own)
declares_in Kind.FunctionDeclaration own ps d i = in_function (in_scope (lexical_scope d)) own i
declares_in Kind.FunctionExpression own ps d i = in_function (declares.Pattern (Some own) declarer.OwnName) own i
declares_in Kind.ArrowFunctionExpression own ps d i = in_arrow own i
declares_in Kind.ClassDeclaration own ps d i = in_first (in_scope (lexical_scope d)) i
declares_in Kind.ClassExpression own ps d i = in_first (in_scope (Some own)) i
declares_in Kind.ImportDeclaration own ps d i = in_first (in_scope (lexical_scope d)) i
declares_in Kind.VariableDeclaration own ps d i = in_scope (cond (is_var ps) (var_scope d) (lexical_scope d))
declares_in Kind.LabeledStatement own ps d i = declares.Statement (lexical_scope d) (var_scope d)
declares_in Kind.IfStatement own ps d i = declares.Statement (lexical_scope d) (var_scope d)
declares_in Kind.SwitchCase own ps d i = declares.Statement (lexical_scope d) (var_scope d)
declares_in Kind.ExportNamedDeclaration own ps d i = declares.Statement (lexical_scope d) (var_scope d)
declares_in Kind.ExportDefaultDeclaration own ps d i = declares.Statement (lexical_scope d) (var_scope d)
declares_in Kind.BlockStatement own ps d i = in_block own d
declares_in Kind.WithStatement own ps d i = nested false own d
declares_in Kind.TryStatement own ps d i = nested false own d
declares_in Kind.WhileStatement own ps d i = nested false own d
declares_in Kind.DoWhileStatement own ps d i = nested false own d
declares_in Kind.ForStatement own ps d i = nested (nat_eq i 0) own d
declares_in Kind.ForInStatement own ps d i = nested (nat_eq i 0) own d
declares_in Kind.ForOfStatement own ps d i = nested (nat_eq i 0) own d
declares_in Kind.SwitchStatement own ps d i = nested (nat_eq i 1) own d
declares_in Kind.CatchClause own ps d i = cond (nat_eq i 0) (in_scope (Some own)) (nested false own d)
declares_in kind own ps d i = passed_on kind d i

-- ---- what is known in the parts of a node

-- the place as `NodeScopes` has it, by the numbers of scopes in place of those of nodes
abbrev pub scope_place : Surroundings → scopes.Place
scope_place s = record { around = scope_number s.scope; strict = s.strict; is_body = s.is_body; given = s.given.0 }

-- the parameters of a function
abbrev pub is_parameter_place : Kind → ℕ → Bool
is_parameter_place Kind.FunctionDeclaration i = nat_eq i 1
is_parameter_place Kind.FunctionExpression i = nat_eq i 1
is_parameter_place Kind.ArrowFunctionExpression i = nat_eq i 0
is_parameter_place kind i = false

-- the i-th part of a node stands in the scope of the node
abbrev pub is_in_own : Kind → Surroundings → ℕ → Bool
is_in_own kind s i = scopes.opens kind (scope_place s) && not (scopes.is_outside kind i)

-- what is known in the i-th part of a node, which gets this scope if it has one
abbrev pub inside : Kind → ScopeId → Parts → Surroundings → ℕ → Surroundings
inside kind own ps s i = record {
  scope = cond (is_in_own kind s i) (Some own) s.scope;
  in_parameters = cond (is_in_own kind s i) (is_parameter_place kind i) s.in_parameters;
  declares = declares_in kind own ps s.declares i;
  strict = scopes.is_strict kind ps (scope_place s);
  is_body = scopes.is_body_place kind i;
  given = record { 0 = scopes.value_flags kind ps i };
  symbol_flags = record { 0 = flags_in kind ps s.symbol_flags.0 i };
  head_var = in_head kind ps s.head_var i;
  usage = record { 0 = use_in kind ps s.usage.0 i };
}

-- around a program there is nothing
abbrev pub nowhere : Surroundings
nowhere = record {
  scope = None;
  in_parameters = false;
  declares = declares.Nothing;
  strict = false;
  is_body = false;
  given = record { 0 = 0 };
  symbol_flags = record { 0 = 0 };
  head_var = false;
  usage = reference_flag.READ;
}
