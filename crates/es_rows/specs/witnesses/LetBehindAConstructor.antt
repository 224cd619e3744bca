-- Printed by tools/rows/witnesses.js.
use Rattle.std.specs.Prelude.{ℕ, List, [], ◌∷◌, false, codes, Some}
use Rattle.es_base.specs.Tree.{Tree, end, more, child, absent, list, string, no_string, boolean, literal, trees}
use Rattle.es_base.specs.declared.kind.Kind.{Kind}
use Rattle.es_base.specs.declared.ledger.GeneratedKind.{GeneratedKind}
use Rattle.es_base.specs.declared.ledger.LedgerEntry.{LedgerEntry}
use Rattle.es_base.specs.declared.literal.LiteralValue.TheVariants as literal_value
use Rattle.es_steps.specs.Generated.{node}
use Rattle.es_steps.specs.Options.{options_of}
use Rattle.es_steps.specs.declared.options.Options.{Options}

-- `class A { #x = 1; constructor() { f(this.#x++); } } new A();`
abbrev pub source_let_behind_a_constructor : Tree
source_let_behind_a_constructor = node Kind.Program 0 (more (string (codes "script")) (more (list (trees (node Kind.ClassDeclaration 1 (more (child (node Kind.BindingIdentifier 2 (more (string (codes "A")) end))) (more absent (more (child (node Kind.ClassBody 3 (more (list (trees (node Kind.PropertyDefinition 4 (more (child (node Kind.PrivateIdentifier 5 (more (string (codes "x")) end))) (more (child (node Kind.Literal 6 (more (literal (literal_value.Number (codes "1"))) end))) (more (boolean false) (more (boolean false) end)))) ∷ node Kind.MethodDefinition 7 (more (child (node Kind.IdentifierName 8 (more (string (codes "constructor")) end))) (more (child (node Kind.FunctionExpression 9 (more absent (more (list end) (more (child (node Kind.BlockStatement 10 (more (list (trees (node Kind.ExpressionStatement 11 (more (child (node Kind.CallExpression 12 (more (child (node Kind.IdentifierReference 13 (more (string (codes "f")) end))) (more (list (trees (node Kind.UpdateExpression 14 (more (string (codes "++")) (more (child (node Kind.PrivateField 15 (more (child (node Kind.ThisExpression 16 end)) (more (child (node Kind.PrivateIdentifier 17 (more (string (codes "x")) end))) (more (boolean false) (more (boolean false) end)))))) (more (boolean false) end))) ∷ []))) (more (boolean false) end))))) (more no_string end)) ∷ []))) end))) (more (boolean false) (more (boolean false) end))))))) (more (string (codes "constructor")) (more (boolean false) (more (boolean false) end))))) ∷ []))) end))) end))) ∷ node Kind.ExpressionStatement 18 (more (child (node Kind.NewExpression 19 (more (child (node Kind.IdentifierReference 20 (more (string (codes "A")) end))) (more (list end) end)))) (more no_string end)) ∷ []))) end))

-- a `let` of a temporary of a constructor, behind a call of it, where `var _x = new WeakMap(); var _t, _u; class A { constructor() { B.classPrivateFieldInitSpec(this, _x, 1); f((B.classPrivateFieldSet2(_x, this, (_t = B.classPrivateFieldGet2(_x, this), _u = _t++, _t)), _u)); } } new A();` is right
abbrev pub output_let_behind_a_constructor : Tree
output_let_behind_a_constructor = node Kind.Program 0 (more (string (codes "script")) (more (list (trees (node Kind.VariableDeclaration 21 (more (string (codes "var")) (more (list (trees (node Kind.VariableDeclarator 22 (more (child (node Kind.BindingIdentifier 23 (more (string (codes "_x")) end))) (more (child (node Kind.NewExpression 24 (more (child (node Kind.IdentifierReference 25 (more (string (codes "WeakMap")) end))) (more (list end) end)))) end)) ∷ []))) end)) ∷ node Kind.ClassDeclaration 1 (more (child (node Kind.BindingIdentifier 2 (more (string (codes "A")) end))) (more absent (more (child (node Kind.ClassBody 3 (more (list (trees (node Kind.MethodDefinition 7 (more (child (node Kind.IdentifierName 8 (more (string (codes "constructor")) end))) (more (child (node Kind.FunctionExpression 9 (more absent (more (list end) (more (child (node Kind.BlockStatement 10 (more (list (trees (node Kind.ExpressionStatement 26 (more (child (node Kind.CallExpression 27 (more (child (node Kind.MemberExpression 28 (more (child (node Kind.IdentifierReference 29 (more (string (codes "babelHelpers")) end))) (more (child (node Kind.IdentifierName 30 (more (string (codes "classPrivateFieldInitSpec")) end))) (more (boolean false) (more (boolean false) end)))))) (more (list (trees (node Kind.ThisExpression 31 end ∷ node Kind.IdentifierReference 32 (more (string (codes "_x")) end) ∷ node Kind.Literal 6 (more (literal (literal_value.Number (codes "1"))) end) ∷ []))) (more (boolean false) end))))) (more no_string end)) ∷ node Kind.ExpressionStatement 11 (more (child (node Kind.CallExpression 12 (more (child (node Kind.IdentifierReference 13 (more (string (codes "f")) end))) (more (list (trees (node Kind.SequenceExpression 33 (more (list (trees (node Kind.CallExpression 34 (more (child (node Kind.MemberExpression 35 (more (child (node Kind.IdentifierReference 36 (more (string (codes "babelHelpers")) end))) (more (child (node Kind.IdentifierName 37 (more (string (codes "classPrivateFieldSet2")) end))) (more (boolean false) (more (boolean false) end)))))) (more (list (trees (node Kind.IdentifierReference 38 (more (string (codes "_x")) end) ∷ node Kind.ThisExpression 16 end ∷ node Kind.SequenceExpression 39 (more (list (trees (node Kind.AssignmentExpression 40 (more (string (codes "=")) (more (child (node Kind.IdentifierReference 41 (more (string (codes "_t")) end))) (more (child (node Kind.CallExpression 15 (more (child (node Kind.MemberExpression 42 (more (child (node Kind.IdentifierReference 43 (more (string (codes "babelHelpers")) end))) (more (child (node Kind.IdentifierName 44 (more (string (codes "classPrivateFieldGet2")) end))) (more (boolean false) (more (boolean false) end)))))) (more (list (trees (node Kind.IdentifierReference 45 (more (string (codes "_x")) end) ∷ node Kind.ThisExpression 46 end ∷ []))) (more (boolean false) end))))) end))) ∷ node Kind.AssignmentExpression 47 (more (string (codes "=")) (more (child (node Kind.IdentifierReference 48 (more (string (codes "_u")) end))) (more (child (node Kind.UpdateExpression 14 (more (string (codes "++")) (more (child (node Kind.IdentifierReference 49 (more (string (codes "_t")) end))) (more (boolean false) end))))) end))) ∷ node Kind.IdentifierReference 50 (more (string (codes "_t")) end) ∷ []))) end) ∷ []))) (more (boolean false) end))) ∷ node Kind.IdentifierReference 51 (more (string (codes "_u")) end) ∷ []))) end) ∷ []))) (more (boolean false) end))))) (more no_string end)) ∷ []))) end))) (more (boolean false) (more (boolean false) end))))))) (more (string (codes "constructor")) (more (boolean false) (more (boolean false) end))))) ∷ []))) end))) end))) ∷ node Kind.ExpressionStatement 18 (more (child (node Kind.NewExpression 19 (more (child (node Kind.IdentifierReference 20 (more (string (codes "A")) end))) (more (list end) end)))) (more no_string end)) ∷ node Kind.VariableDeclaration 52 (more (string (codes "let")) (more (list (trees (node Kind.VariableDeclarator 53 (more (child (node Kind.BindingIdentifier 54 (more (string (codes "_t")) end))) (more absent end)) ∷ node Kind.VariableDeclarator 55 (more (child (node Kind.BindingIdentifier 56 (more (string (codes "_u")) end))) (more absent end)) ∷ []))) end)) ∷ []))) end))

abbrev pub generated_let_behind_a_constructor : List LedgerEntry
generated_let_behind_a_constructor = record { name = codes "_t"; kind = GeneratedKind.Temp } ∷ record { name = codes "_u"; kind = GeneratedKind.Temp } ∷ record { name = codes "_x"; kind = GeneratedKind.WeakMap (record { 0 = 5 }) } ∷ []

abbrev pub options_let_behind_a_constructor : Options
options_let_behind_a_constructor = options_of false (Some (record { loose = false })) false
