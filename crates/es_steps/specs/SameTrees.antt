-- Whether two trees are one, spans and semantic ids aside.
use Rattle.std.specs.Prelude.{ℕ, Bool, true, false, ◌&&◌, nat_eq, bytes_eq}
use Rattle.es_base.specs.Tree.{Tree, Part, Parts, Node, end, more, child, absent, list, string, no_string, boolean, literal}
use Rattle.es_base.specs.declared.kind.Kind.{Kind}
use Rattle.es_base.specs.declared.literal.LiteralValue.{LiteralValue}
use Rattle.es_base.specs.declared.literal.LiteralValue.TheVariants as literal_value
use Rattle.es_steps.specs.SameValues.{same_boolean, same_nullable_string}

abbrev pub kind_number : Kind → ℕ
kind_number Kind.Program = 0
kind_number Kind.ExpressionStatement = 1
kind_number Kind.BlockStatement = 2
kind_number Kind.EmptyStatement = 3
kind_number Kind.DebuggerStatement = 4
kind_number Kind.WithStatement = 5
kind_number Kind.ReturnStatement = 6
kind_number Kind.ThrowStatement = 7
kind_number Kind.LabeledStatement = 8
kind_number Kind.BreakStatement = 9
kind_number Kind.ContinueStatement = 10
kind_number Kind.IfStatement = 11
kind_number Kind.SwitchStatement = 12
kind_number Kind.SwitchCase = 13
kind_number Kind.TryStatement = 14
kind_number Kind.CatchClause = 15
kind_number Kind.WhileStatement = 16
kind_number Kind.DoWhileStatement = 17
kind_number Kind.ForStatement = 18
kind_number Kind.ForInStatement = 19
kind_number Kind.ForOfStatement = 20
kind_number Kind.FunctionDeclaration = 21
kind_number Kind.FunctionExpression = 22
kind_number Kind.ArrowFunctionExpression = 23
kind_number Kind.VariableDeclaration = 24
kind_number Kind.VariableDeclarator = 25
kind_number Kind.ClassDeclaration = 26
kind_number Kind.ClassExpression = 27
kind_number Kind.ClassBody = 28
kind_number Kind.MethodDefinition = 29
kind_number Kind.PropertyDefinition = 30
kind_number Kind.StaticBlock = 31
kind_number Kind.PrivateIdentifier = 32
kind_number Kind.IdentifierReference = 33
kind_number Kind.BindingIdentifier = 34
kind_number Kind.IdentifierName = 35
kind_number Kind.Literal = 36
kind_number Kind.ThisExpression = 37
kind_number Kind.Super = 38
kind_number Kind.ArrayExpression = 39
kind_number Kind.ObjectExpression = 40
kind_number Kind.Property = 41
kind_number Kind.SpreadElement = 42
kind_number Kind.TemplateLiteral = 43
kind_number Kind.TemplateElement = 44
kind_number Kind.TaggedTemplateExpression = 45
kind_number Kind.MemberExpression = 46
kind_number Kind.PrivateField = 47
kind_number Kind.UnaryExpression = 48
kind_number Kind.UpdateExpression = 49
kind_number Kind.BinaryExpression = 50
kind_number Kind.PrivateIn = 51
kind_number Kind.LogicalExpression = 52
kind_number Kind.AssignmentExpression = 53
kind_number Kind.ConditionalExpression = 54
kind_number Kind.CallExpression = 55
kind_number Kind.NewExpression = 56
kind_number Kind.SequenceExpression = 57
kind_number Kind.YieldExpression = 58
kind_number Kind.AwaitExpression = 59
kind_number Kind.ImportExpression = 60
kind_number Kind.MetaProperty = 61
kind_number Kind.ChainExpression = 62
kind_number Kind.ObjectPattern = 63
kind_number Kind.BindingProperty = 64
kind_number Kind.ArrayPattern = 65
kind_number Kind.AssignmentPattern = 66
kind_number Kind.RestElement = 67
kind_number Kind.ObjectAssignmentTarget = 68
kind_number Kind.AssignmentTargetProperty = 69
kind_number Kind.ArrayAssignmentTarget = 70
kind_number Kind.AssignmentTargetWithDefault = 71
kind_number Kind.AssignmentTargetRest = 72
kind_number Kind.ImportDeclaration = 73
kind_number Kind.ImportSpecifier = 74
kind_number Kind.ImportDefaultSpecifier = 75
kind_number Kind.ImportNamespaceSpecifier = 76
kind_number Kind.ExportNamedDeclaration = 77
kind_number Kind.ExportSpecifier = 78
kind_number Kind.ExportDefaultDeclaration = 79
kind_number Kind.ExportAllDeclaration = 80
kind_number Kind.Foreign = 81

abbrev pub same_kind : Kind → Kind → Bool
same_kind k l = nat_eq (kind_number k) (kind_number l)

abbrev pub same_literal : LiteralValue → LiteralValue → Bool
same_literal (literal_value.String s raw) (literal_value.String t source) = bytes_eq s t && same_nullable_string raw source
same_literal (literal_value.Number s) (literal_value.Number t) = bytes_eq s t
same_literal (literal_value.BigInt s) (literal_value.BigInt t) = bytes_eq s t
same_literal (literal_value.RegExp p f) (literal_value.RegExp q g) = bytes_eq p q && bytes_eq f g
same_literal (literal_value.Boolean b) (literal_value.Boolean c) = same_boolean b c
same_literal literal_value.Null literal_value.Null = true
same_literal v w = false

abbrev mutual
  pub same_tree : Tree → Tree → Bool
  same_tree (Node kind m span semantic_id ps) (Node kind2 m2 span2 semantic_id2 qs) = same_kind kind kind2 && (nat_eq m m2 && same_parts ps qs)

  pub same_part : Part → Part → Bool
  same_part (child t) (child u) = same_tree t u
  same_part absent absent = true
  same_part (list ps) (list qs) = same_parts ps qs
  same_part (string s) (string t) = bytes_eq s t
  same_part no_string no_string = true
  same_part (boolean b) (boolean c) = same_boolean b c
  same_part (literal v) (literal w) = same_literal v w
  same_part p q = false

  pub same_parts : Parts → Parts → Bool
  same_parts end end = true
  same_parts (more p ps) (more q qs) = same_part p q && same_parts ps qs
  same_parts ps qs = false
