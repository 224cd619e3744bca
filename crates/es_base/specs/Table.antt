-- Printed by tools/tree.py from tools/kinds.py.
-- The table of kinds: names, members in preorder, places (ESTree's kinds up to ES2022; the order of members is our own).
use Rattle.std.specs.Prelude.{ℕ, List, [], ◌∷◌, map, Bool, true, false, codes}
use Rattle.es_base.specs.declared.kind.Kind.{Kind}
use Rattle.es_base.specs.declared.table.Place.{Place}
use Rattle.es_base.specs.declared.table.Words.{Words}
use Rattle.es_base.specs.declared.table.Sort.{Sort}
use Rattle.es_base.specs.declared.table.Member.{Member}
use Rattle.es_base.specs.Words.{word_string, all_of_set}

-- a member: its name and what it holds
pub record Field : Type 0 where
  pub name : List ℕ
  pub sort : Sort

abbrev pub field_of : Member → Field
field_of m = record { name = m.name.now; sort = m.sort }

abbrev field : List ℕ → Sort → Field
field s t = record { name = s; sort = t }

-- the string of `type`; a foreign node has its own
abbrev pub name_of : Kind → List ℕ
name_of Kind.Program = codes "Program"
name_of Kind.ExpressionStatement = codes "ExpressionStatement"
name_of Kind.BlockStatement = codes "BlockStatement"
name_of Kind.EmptyStatement = codes "EmptyStatement"
name_of Kind.DebuggerStatement = codes "DebuggerStatement"
name_of Kind.WithStatement = codes "WithStatement"
name_of Kind.ReturnStatement = codes "ReturnStatement"
name_of Kind.ThrowStatement = codes "ThrowStatement"
name_of Kind.LabeledStatement = codes "LabeledStatement"
name_of Kind.BreakStatement = codes "BreakStatement"
name_of Kind.ContinueStatement = codes "ContinueStatement"
name_of Kind.IfStatement = codes "IfStatement"
name_of Kind.SwitchStatement = codes "SwitchStatement"
name_of Kind.SwitchCase = codes "SwitchCase"
name_of Kind.TryStatement = codes "TryStatement"
name_of Kind.CatchClause = codes "CatchClause"
name_of Kind.WhileStatement = codes "WhileStatement"
name_of Kind.DoWhileStatement = codes "DoWhileStatement"
name_of Kind.ForStatement = codes "ForStatement"
name_of Kind.ForInStatement = codes "ForInStatement"
name_of Kind.ForOfStatement = codes "ForOfStatement"
name_of Kind.FunctionDeclaration = codes "FunctionDeclaration"
name_of Kind.FunctionExpression = codes "FunctionExpression"
name_of Kind.ArrowFunctionExpression = codes "ArrowFunctionExpression"
name_of Kind.VariableDeclaration = codes "VariableDeclaration"
name_of Kind.VariableDeclarator = codes "VariableDeclarator"
name_of Kind.ClassDeclaration = codes "ClassDeclaration"
name_of Kind.ClassExpression = codes "ClassExpression"
name_of Kind.ClassBody = codes "ClassBody"
name_of Kind.MethodDefinition = codes "MethodDefinition"
name_of Kind.PropertyDefinition = codes "PropertyDefinition"
name_of Kind.StaticBlock = codes "StaticBlock"
name_of Kind.PrivateIdentifier = codes "PrivateIdentifier"
name_of Kind.IdentifierReference = codes "Identifier"
name_of Kind.BindingIdentifier = codes "Identifier"
name_of Kind.IdentifierName = codes "Identifier"
name_of Kind.Literal = codes "Literal"
name_of Kind.ThisExpression = codes "ThisExpression"
name_of Kind.Super = codes "Super"
name_of Kind.ArrayExpression = codes "ArrayExpression"
name_of Kind.ObjectExpression = codes "ObjectExpression"
name_of Kind.Property = codes "Property"
name_of Kind.SpreadElement = codes "SpreadElement"
name_of Kind.TemplateLiteral = codes "TemplateLiteral"
name_of Kind.TemplateElement = codes "TemplateElement"
name_of Kind.TaggedTemplateExpression = codes "TaggedTemplateExpression"
name_of Kind.MemberExpression = codes "MemberExpression"
name_of Kind.PrivateField = codes "MemberExpression"
name_of Kind.UnaryExpression = codes "UnaryExpression"
name_of Kind.UpdateExpression = codes "UpdateExpression"
name_of Kind.BinaryExpression = codes "BinaryExpression"
name_of Kind.PrivateIn = codes "BinaryExpression"
name_of Kind.LogicalExpression = codes "LogicalExpression"
name_of Kind.AssignmentExpression = codes "AssignmentExpression"
name_of Kind.ConditionalExpression = codes "ConditionalExpression"
name_of Kind.CallExpression = codes "CallExpression"
name_of Kind.NewExpression = codes "NewExpression"
name_of Kind.SequenceExpression = codes "SequenceExpression"
name_of Kind.YieldExpression = codes "YieldExpression"
name_of Kind.AwaitExpression = codes "AwaitExpression"
name_of Kind.ImportExpression = codes "ImportExpression"
name_of Kind.MetaProperty = codes "MetaProperty"
name_of Kind.ChainExpression = codes "ChainExpression"
name_of Kind.ObjectPattern = codes "ObjectPattern"
name_of Kind.BindingProperty = codes "Property"
name_of Kind.ArrayPattern = codes "ArrayPattern"
name_of Kind.AssignmentPattern = codes "AssignmentPattern"
name_of Kind.RestElement = codes "RestElement"
name_of Kind.ObjectAssignmentTarget = codes "ObjectPattern"
name_of Kind.AssignmentTargetProperty = codes "Property"
name_of Kind.ArrayAssignmentTarget = codes "ArrayPattern"
name_of Kind.AssignmentTargetWithDefault = codes "AssignmentPattern"
name_of Kind.AssignmentTargetRest = codes "RestElement"
name_of Kind.ImportDeclaration = codes "ImportDeclaration"
name_of Kind.ImportSpecifier = codes "ImportSpecifier"
name_of Kind.ImportDefaultSpecifier = codes "ImportDefaultSpecifier"
name_of Kind.ImportNamespaceSpecifier = codes "ImportNamespaceSpecifier"
name_of Kind.ExportNamedDeclaration = codes "ExportNamedDeclaration"
name_of Kind.ExportSpecifier = codes "ExportSpecifier"
name_of Kind.ExportDefaultDeclaration = codes "ExportDefaultDeclaration"
name_of Kind.ExportAllDeclaration = codes "ExportAllDeclaration"
name_of Kind.Foreign = []

-- the members in preorder
abbrev pub members_of : Kind → List Field
members_of Kind.Program = field (codes "sourceType") (Sort.Word Words.SourceType) ∷ field (codes "body") (Sort.List Place.Statement) ∷ []
members_of Kind.ExpressionStatement = field (codes "expression") (Sort.Child Place.Expression) ∷ field (codes "directive") Sort.NullableString ∷ []
members_of Kind.BlockStatement = field (codes "body") (Sort.List Place.Statement) ∷ []
members_of Kind.EmptyStatement = []
members_of Kind.DebuggerStatement = []
members_of Kind.WithStatement = field (codes "object") (Sort.Child Place.Expression) ∷ field (codes "body") (Sort.Child Place.Statement) ∷ []
members_of Kind.ReturnStatement = field (codes "argument") (Sort.Nullable Place.Expression) ∷ []
members_of Kind.ThrowStatement = field (codes "argument") (Sort.Child Place.Expression) ∷ []
members_of Kind.LabeledStatement = field (codes "label") (Sort.Child Place.IdentifierName) ∷ field (codes "body") (Sort.Child Place.Statement) ∷ []
members_of Kind.BreakStatement = field (codes "label") (Sort.Nullable Place.IdentifierName) ∷ []
members_of Kind.ContinueStatement = field (codes "label") (Sort.Nullable Place.IdentifierName) ∷ []
members_of Kind.IfStatement = field (codes "test") (Sort.Child Place.Expression) ∷ field (codes "consequent") (Sort.Child Place.Statement) ∷ field (codes "alternate") (Sort.Nullable Place.Statement) ∷ []
members_of Kind.SwitchStatement = field (codes "discriminant") (Sort.Child Place.Expression) ∷ field (codes "cases") (Sort.List Place.SwitchCase) ∷ []
members_of Kind.SwitchCase = field (codes "test") (Sort.Nullable Place.Expression) ∷ field (codes "consequent") (Sort.List Place.Statement) ∷ []
members_of Kind.TryStatement = field (codes "block") (Sort.Child Place.Block) ∷ field (codes "handler") (Sort.Nullable Place.CatchClause) ∷ field (codes "finalizer") (Sort.Nullable Place.Block) ∷ []
members_of Kind.CatchClause = field (codes "param") (Sort.Nullable Place.Pattern) ∷ field (codes "body") (Sort.Child Place.Block) ∷ []
members_of Kind.WhileStatement = field (codes "test") (Sort.Child Place.Expression) ∷ field (codes "body") (Sort.Child Place.Statement) ∷ []
members_of Kind.DoWhileStatement = field (codes "body") (Sort.Child Place.Statement) ∷ field (codes "test") (Sort.Child Place.Expression) ∷ []
members_of Kind.ForStatement = field (codes "init") (Sort.Nullable Place.ForInit) ∷ field (codes "test") (Sort.Nullable Place.Expression) ∷ field (codes "update") (Sort.Nullable Place.Expression) ∷ field (codes "body") (Sort.Child Place.Statement) ∷ []
members_of Kind.ForInStatement = field (codes "left") (Sort.Child Place.ForLeft) ∷ field (codes "right") (Sort.Child Place.Expression) ∷ field (codes "body") (Sort.Child Place.Statement) ∷ []
members_of Kind.ForOfStatement = field (codes "left") (Sort.Child Place.ForLeft) ∷ field (codes "right") (Sort.Child Place.Expression) ∷ field (codes "body") (Sort.Child Place.Statement) ∷ field (codes "await") Sort.Boolean ∷ []
members_of Kind.FunctionDeclaration = field (codes "id") (Sort.Nullable Place.BindingIdentifier) ∷ field (codes "params") (Sort.List Place.PatternOrRest) ∷ field (codes "body") (Sort.Child Place.Block) ∷ field (codes "async") Sort.Boolean ∷ field (codes "generator") Sort.Boolean ∷ []
members_of Kind.FunctionExpression = field (codes "id") (Sort.Nullable Place.BindingIdentifier) ∷ field (codes "params") (Sort.List Place.PatternOrRest) ∷ field (codes "body") (Sort.Child Place.Block) ∷ field (codes "async") Sort.Boolean ∷ field (codes "generator") Sort.Boolean ∷ []
members_of Kind.ArrowFunctionExpression = field (codes "params") (Sort.List Place.PatternOrRest) ∷ field (codes "body") (Sort.Child Place.ArrowBody) ∷ field (codes "async") Sort.Boolean ∷ []
members_of Kind.VariableDeclaration = field (codes "kind") (Sort.Word Words.VariableDeclarationKind) ∷ field (codes "declarations") (Sort.List Place.VariableDeclarator) ∷ []
members_of Kind.VariableDeclarator = field (codes "id") (Sort.Child Place.Pattern) ∷ field (codes "init") (Sort.Nullable Place.Expression) ∷ []
members_of Kind.ClassDeclaration = field (codes "id") (Sort.Nullable Place.BindingIdentifier) ∷ field (codes "superClass") (Sort.Nullable Place.Expression) ∷ field (codes "body") (Sort.Child Place.ClassBody) ∷ []
members_of Kind.ClassExpression = field (codes "id") (Sort.Nullable Place.BindingIdentifier) ∷ field (codes "superClass") (Sort.Nullable Place.Expression) ∷ field (codes "body") (Sort.Child Place.ClassBody) ∷ []
members_of Kind.ClassBody = field (codes "body") (Sort.List Place.ClassElement) ∷ []
members_of Kind.MethodDefinition = field (codes "key") (Sort.Key Place.ClassKey) ∷ field (codes "value") (Sort.Child Place.FunctionValue) ∷ field (codes "kind") (Sort.Word Words.MethodDefinitionKind) ∷ field (codes "computed") Sort.Boolean ∷ field (codes "static") Sort.Boolean ∷ []
members_of Kind.PropertyDefinition = field (codes "key") (Sort.Key Place.ClassKey) ∷ field (codes "value") (Sort.Nullable Place.Expression) ∷ field (codes "computed") Sort.Boolean ∷ field (codes "static") Sort.Boolean ∷ []
members_of Kind.StaticBlock = field (codes "body") (Sort.List Place.Statement) ∷ []
members_of Kind.PrivateIdentifier = field (codes "name") Sort.Name ∷ []
members_of Kind.IdentifierReference = field (codes "name") Sort.Name ∷ []
members_of Kind.BindingIdentifier = field (codes "name") Sort.Name ∷ []
members_of Kind.IdentifierName = field (codes "name") Sort.Name ∷ []
members_of Kind.Literal = field (codes "value") Sort.Literal ∷ []
members_of Kind.ThisExpression = []
members_of Kind.Super = []
members_of Kind.ArrayExpression = field (codes "elements") (Sort.ListWithHoles Place.ExpressionOrSpread) ∷ []
members_of Kind.ObjectExpression = field (codes "properties") (Sort.List Place.ObjectMember) ∷ []
members_of Kind.Property = field (codes "key") (Sort.Key Place.PropertyKey) ∷ field (codes "value") (Sort.Child Place.Expression) ∷ field (codes "kind") (Sort.Word Words.PropertyKind) ∷ field (codes "method") Sort.Boolean ∷ field (codes "shorthand") Sort.Boolean ∷ field (codes "computed") Sort.Boolean ∷ []
members_of Kind.SpreadElement = field (codes "argument") (Sort.Child Place.Expression) ∷ []
members_of Kind.TemplateLiteral = field (codes "quasis") (Sort.List Place.TemplateElement) ∷ field (codes "expressions") (Sort.List Place.Expression) ∷ []
members_of Kind.TemplateElement = field (codes "raw") Sort.Raw ∷ field (codes "cooked") Sort.Cooked ∷ field (codes "tail") Sort.Boolean ∷ []
members_of Kind.TaggedTemplateExpression = field (codes "tag") (Sort.Child Place.Expression) ∷ field (codes "quasi") (Sort.Child Place.TemplateLiteral) ∷ []
members_of Kind.MemberExpression = field (codes "object") (Sort.Child Place.ExpressionOrSuper) ∷ field (codes "property") (Sort.Key Place.MemberProperty) ∷ field (codes "computed") Sort.Boolean ∷ field (codes "optional") Sort.Boolean ∷ []
members_of Kind.PrivateField = field (codes "object") (Sort.Child Place.ExpressionOrSuper) ∷ field (codes "property") (Sort.Child Place.PrivateIdentifier) ∷ field (codes "computed") Sort.False ∷ field (codes "optional") Sort.Boolean ∷ []
members_of Kind.UnaryExpression = field (codes "operator") (Sort.Word Words.UnaryOperator) ∷ field (codes "argument") (Sort.Child Place.Expression) ∷ []
members_of Kind.UpdateExpression = field (codes "operator") (Sort.Word Words.UpdateOperator) ∷ field (codes "argument") (Sort.Child Place.SimpleAssignmentTarget) ∷ field (codes "prefix") Sort.Boolean ∷ []
members_of Kind.BinaryExpression = field (codes "operator") (Sort.Word Words.BinaryOperator) ∷ field (codes "left") (Sort.Child Place.Expression) ∷ field (codes "right") (Sort.Child Place.Expression) ∷ []
members_of Kind.PrivateIn = field (codes "operator") (Sort.Word Words.In) ∷ field (codes "left") (Sort.Child Place.PrivateIdentifier) ∷ field (codes "right") (Sort.Child Place.Expression) ∷ []
members_of Kind.LogicalExpression = field (codes "operator") (Sort.Word Words.LogicalOperator) ∷ field (codes "left") (Sort.Child Place.Expression) ∷ field (codes "right") (Sort.Child Place.Expression) ∷ []
members_of Kind.AssignmentExpression = field (codes "operator") (Sort.Word Words.AssignmentOperator) ∷ field (codes "left") (Sort.Child Place.AssignmentTarget) ∷ field (codes "right") (Sort.Child Place.Expression) ∷ []
members_of Kind.ConditionalExpression = field (codes "test") (Sort.Child Place.Expression) ∷ field (codes "consequent") (Sort.Child Place.Expression) ∷ field (codes "alternate") (Sort.Child Place.Expression) ∷ []
members_of Kind.CallExpression = field (codes "callee") (Sort.Child Place.ExpressionOrSuper) ∷ field (codes "arguments") (Sort.List Place.ExpressionOrSpread) ∷ field (codes "optional") Sort.Boolean ∷ []
members_of Kind.NewExpression = field (codes "callee") (Sort.Child Place.Expression) ∷ field (codes "arguments") (Sort.List Place.ExpressionOrSpread) ∷ []
members_of Kind.SequenceExpression = field (codes "expressions") (Sort.NonEmptyList Place.Expression) ∷ []
members_of Kind.YieldExpression = field (codes "argument") (Sort.Nullable Place.Expression) ∷ field (codes "delegate") Sort.Boolean ∷ []
members_of Kind.AwaitExpression = field (codes "argument") (Sort.Child Place.Expression) ∷ []
members_of Kind.ImportExpression = field (codes "source") (Sort.Child Place.Expression) ∷ []
members_of Kind.MetaProperty = field (codes "meta") (Sort.Child Place.IdentifierName) ∷ field (codes "property") (Sort.Child Place.IdentifierName) ∷ []
members_of Kind.ChainExpression = field (codes "expression") (Sort.Child Place.ChainElement) ∷ []
members_of Kind.ObjectPattern = field (codes "properties") (Sort.List Place.PatternMember) ∷ []
members_of Kind.BindingProperty = field (codes "key") (Sort.Key Place.PropertyKey) ∷ field (codes "value") (Sort.Child Place.Pattern) ∷ field (codes "kind") (Sort.Word Words.Init) ∷ field (codes "method") Sort.False ∷ field (codes "shorthand") Sort.Boolean ∷ field (codes "computed") Sort.Boolean ∷ []
members_of Kind.ArrayPattern = field (codes "elements") (Sort.ListWithHoles Place.PatternOrRest) ∷ []
members_of Kind.AssignmentPattern = field (codes "left") (Sort.Child Place.Pattern) ∷ field (codes "right") (Sort.Child Place.Expression) ∷ []
members_of Kind.RestElement = field (codes "argument") (Sort.Child Place.Pattern) ∷ []
members_of Kind.ObjectAssignmentTarget = field (codes "properties") (Sort.List Place.TargetMember) ∷ []
members_of Kind.AssignmentTargetProperty = field (codes "key") (Sort.Key Place.PropertyKey) ∷ field (codes "value") (Sort.Child Place.AssignmentTargetMaybeDefault) ∷ field (codes "kind") (Sort.Word Words.Init) ∷ field (codes "method") Sort.False ∷ field (codes "shorthand") Sort.Boolean ∷ field (codes "computed") Sort.Boolean ∷ []
members_of Kind.ArrayAssignmentTarget = field (codes "elements") (Sort.ListWithHoles Place.TargetOrRest) ∷ []
members_of Kind.AssignmentTargetWithDefault = field (codes "left") (Sort.Child Place.AssignmentTargetMaybeDefault) ∷ field (codes "right") (Sort.Child Place.Expression) ∷ []
members_of Kind.AssignmentTargetRest = field (codes "argument") (Sort.Child Place.AssignmentTargetMaybeDefault) ∷ []
members_of Kind.ImportDeclaration = field (codes "specifiers") (Sort.List Place.ImportMember) ∷ field (codes "source") (Sort.Child Place.Literal) ∷ []
members_of Kind.ImportSpecifier = field (codes "imported") (Sort.Child Place.ModuleName) ∷ field (codes "local") (Sort.Child Place.BindingIdentifier) ∷ []
members_of Kind.ImportDefaultSpecifier = field (codes "local") (Sort.Child Place.BindingIdentifier) ∷ []
members_of Kind.ImportNamespaceSpecifier = field (codes "local") (Sort.Child Place.BindingIdentifier) ∷ []
members_of Kind.ExportNamedDeclaration = field (codes "declaration") (Sort.Nullable Place.Statement) ∷ field (codes "specifiers") (Sort.List Place.ExportSpecifier) ∷ field (codes "source") (Sort.Nullable Place.Literal) ∷ []
members_of Kind.ExportSpecifier = field (codes "local") (Sort.Child Place.ExportLocal) ∷ field (codes "exported") (Sort.Child Place.ModuleName) ∷ []
members_of Kind.ExportDefaultDeclaration = field (codes "declaration") (Sort.Child Place.ExportDefault) ∷ []
members_of Kind.ExportAllDeclaration = field (codes "exported") (Sort.Nullable Place.ModuleName) ∷ field (codes "source") (Sort.Child Place.Literal) ∷ []
members_of Kind.Foreign = field (codes "type") Sort.Type ∷ []

-- the strings of the words of a set
abbrev pub words_of : Words → List (List ℕ)
words_of set = map word_string (all_of_set set)

abbrev pub is_statement : Kind → Bool
is_statement Kind.ExpressionStatement = true
is_statement Kind.BlockStatement = true
is_statement Kind.EmptyStatement = true
is_statement Kind.DebuggerStatement = true
is_statement Kind.WithStatement = true
is_statement Kind.ReturnStatement = true
is_statement Kind.ThrowStatement = true
is_statement Kind.LabeledStatement = true
is_statement Kind.BreakStatement = true
is_statement Kind.ContinueStatement = true
is_statement Kind.IfStatement = true
is_statement Kind.SwitchStatement = true
is_statement Kind.TryStatement = true
is_statement Kind.WhileStatement = true
is_statement Kind.DoWhileStatement = true
is_statement Kind.ForStatement = true
is_statement Kind.ForInStatement = true
is_statement Kind.ForOfStatement = true
is_statement Kind.FunctionDeclaration = true
is_statement Kind.VariableDeclaration = true
is_statement Kind.ClassDeclaration = true
is_statement Kind.ImportDeclaration = true
is_statement Kind.ExportNamedDeclaration = true
is_statement Kind.ExportDefaultDeclaration = true
is_statement Kind.ExportAllDeclaration = true
is_statement Kind.Foreign = true
is_statement _ = false

abbrev pub is_expression : Kind → Bool
is_expression Kind.ThisExpression = true
is_expression Kind.IdentifierReference = true
is_expression Kind.Literal = true
is_expression Kind.ArrayExpression = true
is_expression Kind.ObjectExpression = true
is_expression Kind.FunctionExpression = true
is_expression Kind.ArrowFunctionExpression = true
is_expression Kind.ClassExpression = true
is_expression Kind.TemplateLiteral = true
is_expression Kind.TaggedTemplateExpression = true
is_expression Kind.MemberExpression = true
is_expression Kind.PrivateField = true
is_expression Kind.UnaryExpression = true
is_expression Kind.UpdateExpression = true
is_expression Kind.BinaryExpression = true
is_expression Kind.PrivateIn = true
is_expression Kind.LogicalExpression = true
is_expression Kind.AssignmentExpression = true
is_expression Kind.ConditionalExpression = true
is_expression Kind.CallExpression = true
is_expression Kind.NewExpression = true
is_expression Kind.SequenceExpression = true
is_expression Kind.YieldExpression = true
is_expression Kind.AwaitExpression = true
is_expression Kind.ImportExpression = true
is_expression Kind.MetaProperty = true
is_expression Kind.ChainExpression = true
is_expression Kind.Foreign = true
is_expression _ = false

abbrev pub is_pattern : Kind → Bool
is_pattern Kind.BindingIdentifier = true
is_pattern Kind.ObjectPattern = true
is_pattern Kind.ArrayPattern = true
is_pattern Kind.AssignmentPattern = true
is_pattern Kind.Foreign = true
is_pattern _ = false

abbrev pub is_target : Kind → Bool
is_target Kind.IdentifierReference = true
is_target Kind.MemberExpression = true
is_target Kind.PrivateField = true
is_target Kind.ObjectAssignmentTarget = true
is_target Kind.ArrayAssignmentTarget = true
is_target _ = false

-- which kinds stand in a place
abbrev pub stands_in : Place → Kind → Bool
stands_in Place.Program Kind.Program = true
stands_in Place.Program k = false
stands_in Place.Statement k = is_statement k
stands_in Place.Expression k = is_expression k
stands_in Place.Pattern k = is_pattern k
stands_in Place.SimpleAssignmentTarget Kind.IdentifierReference = true
stands_in Place.SimpleAssignmentTarget Kind.MemberExpression = true
stands_in Place.SimpleAssignmentTarget Kind.PrivateField = true
stands_in Place.SimpleAssignmentTarget k = false
stands_in Place.AssignmentTarget k = is_target k
stands_in Place.AssignmentTargetMaybeDefault Kind.AssignmentTargetWithDefault = true
stands_in Place.AssignmentTargetMaybeDefault k = is_target k
stands_in Place.TargetOrRest Kind.AssignmentTargetRest = true
stands_in Place.TargetOrRest Kind.AssignmentTargetWithDefault = true
stands_in Place.TargetOrRest k = is_target k
stands_in Place.TargetMember Kind.AssignmentTargetProperty = true
stands_in Place.TargetMember Kind.AssignmentTargetRest = true
stands_in Place.TargetMember k = false
stands_in Place.PatternOrRest Kind.RestElement = true
stands_in Place.PatternOrRest k = is_pattern k
stands_in Place.PatternMember Kind.BindingProperty = true
stands_in Place.PatternMember Kind.RestElement = true
stands_in Place.PatternMember k = false
stands_in Place.ExpressionOrSuper Kind.Super = true
stands_in Place.ExpressionOrSuper k = is_expression k
stands_in Place.ExpressionOrSpread Kind.SpreadElement = true
stands_in Place.ExpressionOrSpread k = is_expression k
stands_in Place.ObjectMember Kind.Property = true
stands_in Place.ObjectMember Kind.SpreadElement = true
stands_in Place.ObjectMember k = false
stands_in Place.ChainElement Kind.MemberExpression = true
stands_in Place.ChainElement Kind.PrivateField = true
stands_in Place.ChainElement Kind.CallExpression = true
stands_in Place.ChainElement k = false
stands_in Place.ArrowBody Kind.BlockStatement = true
stands_in Place.ArrowBody k = is_expression k
stands_in Place.ForInit Kind.VariableDeclaration = true
stands_in Place.ForInit k = is_expression k
stands_in Place.ForLeft Kind.VariableDeclaration = true
stands_in Place.ForLeft k = is_target k
stands_in Place.Block Kind.BlockStatement = true
stands_in Place.Block k = false
stands_in Place.SwitchCase Kind.SwitchCase = true
stands_in Place.SwitchCase k = false
stands_in Place.CatchClause Kind.CatchClause = true
stands_in Place.CatchClause k = false
stands_in Place.VariableDeclarator Kind.VariableDeclarator = true
stands_in Place.VariableDeclarator k = false
stands_in Place.ClassBody Kind.ClassBody = true
stands_in Place.ClassBody k = false
stands_in Place.ClassElement Kind.MethodDefinition = true
stands_in Place.ClassElement Kind.PropertyDefinition = true
stands_in Place.ClassElement Kind.StaticBlock = true
stands_in Place.ClassElement Kind.Foreign = true
stands_in Place.ClassElement k = false
stands_in Place.FunctionValue Kind.FunctionExpression = true
stands_in Place.FunctionValue k = false
stands_in Place.PropertyKey Kind.IdentifierName = true
stands_in Place.PropertyKey Kind.Literal = true
stands_in Place.PropertyKey k = false
stands_in Place.ClassKey Kind.PrivateIdentifier = true
stands_in Place.ClassKey Kind.IdentifierName = true
stands_in Place.ClassKey Kind.Literal = true
stands_in Place.ClassKey k = false
stands_in Place.MemberProperty Kind.IdentifierName = true
stands_in Place.MemberProperty k = false
stands_in Place.IdentifierName Kind.IdentifierName = true
stands_in Place.IdentifierName k = false
stands_in Place.BindingIdentifier Kind.BindingIdentifier = true
stands_in Place.BindingIdentifier k = false
stands_in Place.PrivateIdentifier Kind.PrivateIdentifier = true
stands_in Place.PrivateIdentifier k = false
stands_in Place.Literal Kind.Literal = true
stands_in Place.Literal k = false
stands_in Place.TemplateLiteral Kind.TemplateLiteral = true
stands_in Place.TemplateLiteral k = false
stands_in Place.TemplateElement Kind.TemplateElement = true
stands_in Place.TemplateElement k = false
stands_in Place.ImportMember Kind.ImportSpecifier = true
stands_in Place.ImportMember Kind.ImportDefaultSpecifier = true
stands_in Place.ImportMember Kind.ImportNamespaceSpecifier = true
stands_in Place.ImportMember k = false
stands_in Place.ModuleName Kind.IdentifierName = true
stands_in Place.ModuleName Kind.Literal = true
stands_in Place.ModuleName k = false
stands_in Place.ExportSpecifier Kind.ExportSpecifier = true
stands_in Place.ExportSpecifier k = false
stands_in Place.ExportLocal Kind.IdentifierReference = true
stands_in Place.ExportLocal Kind.IdentifierName = true
stands_in Place.ExportLocal Kind.Literal = true
stands_in Place.ExportLocal k = false
stands_in Place.ExportDefault Kind.FunctionDeclaration = true
stands_in Place.ExportDefault Kind.ClassDeclaration = true
stands_in Place.ExportDefault k = is_expression k

-- every kind, once
abbrev pub kinds : List Kind
kinds = Kind.Program ∷ Kind.ExpressionStatement ∷ Kind.BlockStatement ∷ Kind.EmptyStatement ∷ Kind.DebuggerStatement ∷ Kind.WithStatement ∷ Kind.ReturnStatement ∷ Kind.ThrowStatement ∷ Kind.LabeledStatement ∷ Kind.BreakStatement ∷ Kind.ContinueStatement ∷ Kind.IfStatement ∷ Kind.SwitchStatement ∷ Kind.SwitchCase ∷ Kind.TryStatement ∷ Kind.CatchClause ∷ Kind.WhileStatement ∷ Kind.DoWhileStatement ∷ Kind.ForStatement ∷ Kind.ForInStatement ∷ Kind.ForOfStatement ∷ Kind.FunctionDeclaration ∷ Kind.FunctionExpression ∷ Kind.ArrowFunctionExpression ∷ Kind.VariableDeclaration ∷ Kind.VariableDeclarator ∷ Kind.ClassDeclaration ∷ Kind.ClassExpression ∷ Kind.ClassBody ∷ Kind.MethodDefinition ∷ Kind.PropertyDefinition ∷ Kind.StaticBlock ∷ Kind.PrivateIdentifier ∷ Kind.IdentifierReference ∷ Kind.BindingIdentifier ∷ Kind.IdentifierName ∷ Kind.Literal ∷ Kind.ThisExpression ∷ Kind.Super ∷ Kind.ArrayExpression ∷ Kind.ObjectExpression ∷ Kind.Property ∷ Kind.SpreadElement ∷ Kind.TemplateLiteral ∷ Kind.TemplateElement ∷ Kind.TaggedTemplateExpression ∷ Kind.MemberExpression ∷ Kind.PrivateField ∷ Kind.UnaryExpression ∷ Kind.UpdateExpression ∷ Kind.BinaryExpression ∷ Kind.PrivateIn ∷ Kind.LogicalExpression ∷ Kind.AssignmentExpression ∷ Kind.ConditionalExpression ∷ Kind.CallExpression ∷ Kind.NewExpression ∷ Kind.SequenceExpression ∷ Kind.YieldExpression ∷ Kind.AwaitExpression ∷ Kind.ImportExpression ∷ Kind.MetaProperty ∷ Kind.ChainExpression ∷ Kind.ObjectPattern ∷ Kind.BindingProperty ∷ Kind.ArrayPattern ∷ Kind.AssignmentPattern ∷ Kind.RestElement ∷ Kind.ObjectAssignmentTarget ∷ Kind.AssignmentTargetProperty ∷ Kind.ArrayAssignmentTarget ∷ Kind.AssignmentTargetWithDefault ∷ Kind.AssignmentTargetRest ∷ Kind.ImportDeclaration ∷ Kind.ImportSpecifier ∷ Kind.ImportDefaultSpecifier ∷ Kind.ImportNamespaceSpecifier ∷ Kind.ExportNamedDeclaration ∷ Kind.ExportSpecifier ∷ Kind.ExportDefaultDeclaration ∷ Kind.ExportAllDeclaration ∷ Kind.Foreign ∷ []
