-- Printed by tools/rows/witnesses.js.
use Rattle.std.specs.Prelude.{ℕ, List, [], ◌∷◌, false, codes, Some, None}
use Rattle.es_base.specs.Tree.{Tree, end, more, child, absent, list, string, no_string, boolean, literal, trees}
use Rattle.es_base.specs.declared.kind.Kind.{Kind}
use Rattle.es_base.specs.declared.ledger.GeneratedKind.{GeneratedKind}
use Rattle.es_base.specs.declared.ledger.LedgerEntry.{LedgerEntry}
use Rattle.es_base.specs.declared.literal.LiteralValue.TheVariants as literal_value
use Rattle.es_steps.specs.Generated.{node}
use Rattle.es_steps.specs.Options.{options_of}
use Rattle.es_steps.specs.declared.options.Options.{Options}

-- `class A { #x = 1; y = this.#x++; } new A();`
abbrev pub source_let_behind_a_field : Tree
source_let_behind_a_field = node Kind.Program 0 (more (string (codes "script")) (more (list (trees (node Kind.ClassDeclaration 1 (more (child (node Kind.BindingIdentifier 2 (more (string (codes "A")) end))) (more absent (more (child (node Kind.ClassBody 3 (more (list (trees (node Kind.PropertyDefinition 4 (more (child (node Kind.PrivateIdentifier 5 (more (string (codes "x")) end))) (more (child (node Kind.Literal 6 (more (literal (literal_value.Number (codes "1"))) end))) (more (boolean false) (more (boolean false) end)))) ∷ node Kind.PropertyDefinition 7 (more (child (node Kind.IdentifierName 8 (more (string (codes "y")) end))) (more (child (node Kind.UpdateExpression 9 (more (string (codes "++")) (more (child (node Kind.PrivateField 10 (more (child (node Kind.ThisExpression 11 end)) (more (child (node Kind.PrivateIdentifier 12 (more (string (codes "x")) end))) (more (boolean false) (more (boolean false) end)))))) (more (boolean false) end))))) (more (boolean false) (more (boolean false) end)))) ∷ []))) end))) end))) ∷ node Kind.ExpressionStatement 13 (more (child (node Kind.NewExpression 14 (more (child (node Kind.IdentifierReference 15 (more (string (codes "A")) end))) (more (list end) end)))) (more no_string end)) ∷ []))) end))

-- a `let` of a temporary of a field, behind a call of its constructor, where `var _x = new WeakMap(); var _t, _u; class A { constructor() { B.classPrivateFieldInitSpec(this, _x, 1); B.defineProperty(this, "y", (B.classPrivateFieldSet2(_x, this, (_t = B.classPrivateFieldGet2(_x, this), _u = _t++, _t)), _u)); } } new A();` is right
abbrev pub output_let_behind_a_field : Tree
output_let_behind_a_field = node Kind.Program 0 (more (string (codes "script")) (more (list (trees (node Kind.VariableDeclaration 16 (more (string (codes "var")) (more (list (trees (node Kind.VariableDeclarator 17 (more (child (node Kind.BindingIdentifier 18 (more (string (codes "_x")) end))) (more (child (node Kind.NewExpression 19 (more (child (node Kind.IdentifierReference 20 (more (string (codes "WeakMap")) end))) (more (list end) end)))) end)) ∷ []))) end)) ∷ node Kind.ClassDeclaration 1 (more (child (node Kind.BindingIdentifier 2 (more (string (codes "A")) end))) (more absent (more (child (node Kind.ClassBody 3 (more (list (trees (node Kind.MethodDefinition 21 (more (child (node Kind.IdentifierName 22 (more (string (codes "constructor")) end))) (more (child (node Kind.FunctionExpression 23 (more absent (more (list end) (more (child (node Kind.BlockStatement 24 (more (list (trees (node Kind.ExpressionStatement 25 (more (child (node Kind.CallExpression 26 (more (child (node Kind.MemberExpression 27 (more (child (node Kind.IdentifierReference 28 (more (string (codes "babelHelpers")) end))) (more (child (node Kind.IdentifierName 29 (more (string (codes "classPrivateFieldInitSpec")) end))) (more (boolean false) (more (boolean false) end)))))) (more (list (trees (node Kind.ThisExpression 30 end ∷ node Kind.IdentifierReference 31 (more (string (codes "_x")) end) ∷ node Kind.Literal 6 (more (literal (literal_value.Number (codes "1"))) end) ∷ []))) (more (boolean false) end))))) (more no_string end)) ∷ node Kind.ExpressionStatement 32 (more (child (node Kind.CallExpression 33 (more (child (node Kind.MemberExpression 34 (more (child (node Kind.IdentifierReference 35 (more (string (codes "babelHelpers")) end))) (more (child (node Kind.IdentifierName 36 (more (string (codes "defineProperty")) end))) (more (boolean false) (more (boolean false) end)))))) (more (list (trees (node Kind.ThisExpression 37 end ∷ node Kind.Literal 38 (more (literal (literal_value.String (codes "y") None)) end) ∷ node Kind.SequenceExpression 39 (more (list (trees (node Kind.CallExpression 40 (more (child (node Kind.MemberExpression 41 (more (child (node Kind.IdentifierReference 42 (more (string (codes "babelHelpers")) end))) (more (child (node Kind.IdentifierName 43 (more (string (codes "classPrivateFieldSet2")) end))) (more (boolean false) (more (boolean false) end)))))) (more (list (trees (node Kind.IdentifierReference 44 (more (string (codes "_x")) end) ∷ node Kind.ThisExpression 11 end ∷ node Kind.SequenceExpression 45 (more (list (trees (node Kind.AssignmentExpression 46 (more (string (codes "=")) (more (child (node Kind.IdentifierReference 47 (more (string (codes "_t")) end))) (more (child (node Kind.CallExpression 10 (more (child (node Kind.MemberExpression 48 (more (child (node Kind.IdentifierReference 49 (more (string (codes "babelHelpers")) end))) (more (child (node Kind.IdentifierName 50 (more (string (codes "classPrivateFieldGet2")) end))) (more (boolean false) (more (boolean false) end)))))) (more (list (trees (node Kind.IdentifierReference 51 (more (string (codes "_x")) end) ∷ node Kind.ThisExpression 52 end ∷ []))) (more (boolean false) end))))) end))) ∷ node Kind.AssignmentExpression 53 (more (string (codes "=")) (more (child (node Kind.IdentifierReference 54 (more (string (codes "_u")) end))) (more (child (node Kind.UpdateExpression 9 (more (string (codes "++")) (more (child (node Kind.IdentifierReference 55 (more (string (codes "_t")) end))) (more (boolean false) end))))) end))) ∷ node Kind.IdentifierReference 56 (more (string (codes "_t")) end) ∷ []))) end) ∷ []))) (more (boolean false) end))) ∷ node Kind.IdentifierReference 57 (more (string (codes "_u")) end) ∷ []))) end) ∷ []))) (more (boolean false) end))))) (more no_string end)) ∷ []))) end))) (more (boolean false) (more (boolean false) end))))))) (more (string (codes "constructor")) (more (boolean false) (more (boolean false) end))))) ∷ []))) end))) end))) ∷ node Kind.ExpressionStatement 13 (more (child (node Kind.NewExpression 14 (more (child (node Kind.IdentifierReference 15 (more (string (codes "A")) end))) (more (list end) end)))) (more no_string end)) ∷ node Kind.VariableDeclaration 58 (more (string (codes "let")) (more (list (trees (node Kind.VariableDeclarator 59 (more (child (node Kind.BindingIdentifier 60 (more (string (codes "_t")) end))) (more absent end)) ∷ node Kind.VariableDeclarator 61 (more (child (node Kind.BindingIdentifier 62 (more (string (codes "_u")) end))) (more absent end)) ∷ []))) end)) ∷ []))) end))

abbrev pub generated_let_behind_a_field : List LedgerEntry
generated_let_behind_a_field = record { name = codes "_t"; kind = GeneratedKind.Temp } ∷ record { name = codes "_u"; kind = GeneratedKind.Temp } ∷ record { name = codes "_x"; kind = GeneratedKind.WeakMap (record { 0 = 5 }) } ∷ []

abbrev pub options_let_behind_a_field : Options
options_let_behind_a_field = options_of false (Some (record { loose = false })) false
