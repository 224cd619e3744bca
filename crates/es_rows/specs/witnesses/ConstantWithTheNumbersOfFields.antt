-- Printed by tools/rows/witnesses.js.
use Rattle.std.specs.Prelude.{ℕ, List, [], ◌∷◌, false, codes, Some, None}
use Rattle.es_base.specs.Tree.{Tree, end, more, child, absent, list, string, no_string, boolean, literal, trees}
use Rattle.es_base.specs.declared.kind.Kind.{Kind}
use Rattle.es_base.specs.declared.ledger.GeneratedKind.{GeneratedKind}
use Rattle.es_base.specs.declared.ledger.LedgerEntry.{LedgerEntry}
use Rattle.es_base.specs.declared.literal.LiteralValue.TheVariants as literal_value
use Rattle.es_steps.specs.Generated.{node}
use Rattle.es_steps.specs.Options.{options_of}
use Rattle.es_steps.specs.declared.options.Options.{Options}

-- `class A { #x = 1; y = 2; m() { return this.#x++; } } g(new A().m());`
abbrev pub source_constant_with_the_numbers_of_fields : Tree
source_constant_with_the_numbers_of_fields = node Kind.Program 0 (more (string (codes "script")) (more (list (trees (node Kind.ClassDeclaration 1 (more (child (node Kind.BindingIdentifier 2 (more (string (codes "A")) end))) (more absent (more (child (node Kind.ClassBody 3 (more (list (trees (node Kind.PropertyDefinition 4 (more (child (node Kind.PrivateIdentifier 5 (more (string (codes "x")) end))) (more (child (node Kind.Literal 6 (more (literal (literal_value.Number (codes "1"))) end))) (more (boolean false) (more (boolean false) end)))) ∷ node Kind.PropertyDefinition 7 (more (child (node Kind.IdentifierName 8 (more (string (codes "y")) end))) (more (child (node Kind.Literal 9 (more (literal (literal_value.Number (codes "2"))) end))) (more (boolean false) (more (boolean false) end)))) ∷ node Kind.MethodDefinition 10 (more (child (node Kind.IdentifierName 11 (more (string (codes "m")) end))) (more (child (node Kind.FunctionExpression 12 (more absent (more (list end) (more (child (node Kind.BlockStatement 13 (more (list (trees (node Kind.ReturnStatement 14 (more (child (node Kind.UpdateExpression 15 (more (string (codes "++")) (more (child (node Kind.PrivateField 16 (more (child (node Kind.ThisExpression 17 end)) (more (child (node Kind.PrivateIdentifier 18 (more (string (codes "x")) end))) (more (boolean false) (more (boolean false) end)))))) (more (boolean false) end))))) end) ∷ []))) end))) (more (boolean false) (more (boolean false) end))))))) (more (string (codes "method")) (more (boolean false) (more (boolean false) end))))) ∷ []))) end))) end))) ∷ node Kind.ExpressionStatement 19 (more (child (node Kind.CallExpression 20 (more (child (node Kind.IdentifierReference 21 (more (string (codes "g")) end))) (more (list (trees (node Kind.CallExpression 22 (more (child (node Kind.MemberExpression 23 (more (child (node Kind.NewExpression 24 (more (child (node Kind.IdentifierReference 25 (more (string (codes "A")) end))) (more (list end) end)))) (more (child (node Kind.IdentifierName 26 (more (string (codes "m")) end))) (more (boolean false) (more (boolean false) end)))))) (more (list end) (more (boolean false) end))) ∷ []))) (more (boolean false) end))))) (more no_string end)) ∷ []))) end))

-- an update of a generated name in a `const` that has the numbers of fields: `var _x = new WeakMap(); class A { constructor() { B.classPrivateFieldInitSpec(this, _x, 1); B.defineProperty(this, "y", 2); } m() { var _u; const _t = B.classPrivateFieldGet2(_x, this); return B.classPrivateFieldSet2(_x, this, (_u = _t++, _t)), _u; } } g(new A().m());`
abbrev pub output_constant_with_the_numbers_of_fields : Tree
output_constant_with_the_numbers_of_fields = node Kind.Program 0 (more (string (codes "script")) (more (list (trees (node Kind.VariableDeclaration 27 (more (string (codes "var")) (more (list (trees (node Kind.VariableDeclarator 28 (more (child (node Kind.BindingIdentifier 29 (more (string (codes "_x")) end))) (more (child (node Kind.NewExpression 30 (more (child (node Kind.IdentifierReference 31 (more (string (codes "WeakMap")) end))) (more (list end) end)))) end)) ∷ []))) end)) ∷ node Kind.ClassDeclaration 1 (more (child (node Kind.BindingIdentifier 2 (more (string (codes "A")) end))) (more absent (more (child (node Kind.ClassBody 3 (more (list (trees (node Kind.MethodDefinition 32 (more (child (node Kind.IdentifierName 33 (more (string (codes "constructor")) end))) (more (child (node Kind.FunctionExpression 34 (more absent (more (list end) (more (child (node Kind.BlockStatement 35 (more (list (trees (node Kind.ExpressionStatement 36 (more (child (node Kind.CallExpression 37 (more (child (node Kind.MemberExpression 38 (more (child (node Kind.IdentifierReference 39 (more (string (codes "babelHelpers")) end))) (more (child (node Kind.IdentifierName 40 (more (string (codes "classPrivateFieldInitSpec")) end))) (more (boolean false) (more (boolean false) end)))))) (more (list (trees (node Kind.ThisExpression 41 end ∷ node Kind.IdentifierReference 42 (more (string (codes "_x")) end) ∷ node Kind.Literal 6 (more (literal (literal_value.Number (codes "1"))) end) ∷ []))) (more (boolean false) end))))) (more no_string end)) ∷ node Kind.ExpressionStatement 43 (more (child (node Kind.CallExpression 44 (more (child (node Kind.MemberExpression 45 (more (child (node Kind.IdentifierReference 46 (more (string (codes "babelHelpers")) end))) (more (child (node Kind.IdentifierName 47 (more (string (codes "defineProperty")) end))) (more (boolean false) (more (boolean false) end)))))) (more (list (trees (node Kind.ThisExpression 48 end ∷ node Kind.Literal 49 (more (literal (literal_value.String (codes "y") None)) end) ∷ node Kind.Literal 9 (more (literal (literal_value.Number (codes "2"))) end) ∷ []))) (more (boolean false) end))))) (more no_string end)) ∷ []))) end))) (more (boolean false) (more (boolean false) end))))))) (more (string (codes "constructor")) (more (boolean false) (more (boolean false) end))))) ∷ node Kind.MethodDefinition 10 (more (child (node Kind.IdentifierName 11 (more (string (codes "m")) end))) (more (child (node Kind.FunctionExpression 12 (more absent (more (list end) (more (child (node Kind.BlockStatement 13 (more (list (trees (node Kind.VariableDeclaration 50 (more (string (codes "var")) (more (list (trees (node Kind.VariableDeclarator 51 (more (child (node Kind.BindingIdentifier 52 (more (string (codes "_u")) end))) (more absent end)) ∷ []))) end)) ∷ node Kind.VariableDeclaration 4 (more (string (codes "const")) (more (list (trees (node Kind.VariableDeclarator 7 (more (child (node Kind.BindingIdentifier 53 (more (string (codes "_t")) end))) (more (child (node Kind.CallExpression 16 (more (child (node Kind.MemberExpression 54 (more (child (node Kind.IdentifierReference 55 (more (string (codes "babelHelpers")) end))) (more (child (node Kind.IdentifierName 56 (more (string (codes "classPrivateFieldGet2")) end))) (more (boolean false) (more (boolean false) end)))))) (more (list (trees (node Kind.IdentifierReference 57 (more (string (codes "_x")) end) ∷ node Kind.ThisExpression 58 end ∷ []))) (more (boolean false) end))))) end)) ∷ []))) end)) ∷ node Kind.ReturnStatement 14 (more (child (node Kind.SequenceExpression 59 (more (list (trees (node Kind.CallExpression 60 (more (child (node Kind.MemberExpression 61 (more (child (node Kind.IdentifierReference 62 (more (string (codes "babelHelpers")) end))) (more (child (node Kind.IdentifierName 63 (more (string (codes "classPrivateFieldSet2")) end))) (more (boolean false) (more (boolean false) end)))))) (more (list (trees (node Kind.IdentifierReference 64 (more (string (codes "_x")) end) ∷ node Kind.ThisExpression 65 end ∷ node Kind.SequenceExpression 66 (more (list (trees (node Kind.AssignmentExpression 67 (more (string (codes "=")) (more (child (node Kind.IdentifierReference 68 (more (string (codes "_u")) end))) (more (child (node Kind.UpdateExpression 15 (more (string (codes "++")) (more (child (node Kind.IdentifierReference 69 (more (string (codes "_t")) end))) (more (boolean false) end))))) end))) ∷ node Kind.IdentifierReference 70 (more (string (codes "_t")) end) ∷ []))) end) ∷ []))) (more (boolean false) end))) ∷ node Kind.IdentifierReference 71 (more (string (codes "_u")) end) ∷ []))) end))) end) ∷ []))) end))) (more (boolean false) (more (boolean false) end))))))) (more (string (codes "method")) (more (boolean false) (more (boolean false) end))))) ∷ []))) end))) end))) ∷ node Kind.ExpressionStatement 19 (more (child (node Kind.CallExpression 20 (more (child (node Kind.IdentifierReference 21 (more (string (codes "g")) end))) (more (list (trees (node Kind.CallExpression 22 (more (child (node Kind.MemberExpression 23 (more (child (node Kind.NewExpression 24 (more (child (node Kind.IdentifierReference 25 (more (string (codes "A")) end))) (more (list end) end)))) (more (child (node Kind.IdentifierName 26 (more (string (codes "m")) end))) (more (boolean false) (more (boolean false) end)))))) (more (list end) (more (boolean false) end))) ∷ []))) (more (boolean false) end))))) (more no_string end)) ∷ []))) end))

abbrev pub generated_constant_with_the_numbers_of_fields : List LedgerEntry
generated_constant_with_the_numbers_of_fields = record { name = codes "_x"; kind = GeneratedKind.WeakMap (record { 0 = 5 }) } ∷ record { name = codes "_t"; kind = GeneratedKind.Temp } ∷ record { name = codes "_u"; kind = GeneratedKind.Temp } ∷ []

abbrev pub options_constant_with_the_numbers_of_fields : Options
options_constant_with_the_numbers_of_fields = options_of false (Some (record { loose = false })) false
