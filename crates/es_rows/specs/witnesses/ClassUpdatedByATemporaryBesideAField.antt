-- Printed by tools/rows/witnesses.js.
use Rattle.std.specs.Prelude.{ℕ, List, [], ◌∷◌, false, codes, Some, None}
use Rattle.es_base.specs.Tree.{Tree, end, more, child, absent, list, string, no_string, boolean, literal, trees}
use Rattle.es_base.specs.declared.kind.Kind.{Kind}
use Rattle.es_base.specs.declared.ledger.GeneratedKind.{GeneratedKind}
use Rattle.es_base.specs.declared.ledger.LedgerEntry.{LedgerEntry}
use Rattle.es_base.specs.declared.literal.LiteralValue.TheVariants as literal_value
use Rattle.es_steps.specs.Generated.{node}
use Rattle.es_steps.specs.Options.{options_of}
use Rattle.es_steps.specs.declared.options.Options.{Options}

-- `class C { #p = f(1); m() { k(class A { n() { try { A++; } catch { } g(A); } }); } }`
abbrev pub source_class_updated_by_a_temporary_beside_a_field : Tree
source_class_updated_by_a_temporary_beside_a_field = node Kind.Program 0 (more (string (codes "script")) (more (list (trees (node Kind.ClassDeclaration 1 (more (child (node Kind.BindingIdentifier 2 (more (string (codes "C")) end))) (more absent (more (child (node Kind.ClassBody 3 (more (list (trees (node Kind.PropertyDefinition 4 (more (child (node Kind.PrivateIdentifier 5 (more (string (codes "p")) end))) (more (child (node Kind.CallExpression 6 (more (child (node Kind.IdentifierReference 7 (more (string (codes "f")) end))) (more (list (trees (node Kind.Literal 8 (more (literal (literal_value.Number (codes "1"))) end) ∷ []))) (more (boolean false) end))))) (more (boolean false) (more (boolean false) end)))) ∷ node Kind.MethodDefinition 9 (more (child (node Kind.IdentifierName 10 (more (string (codes "m")) end))) (more (child (node Kind.FunctionExpression 11 (more absent (more (list end) (more (child (node Kind.BlockStatement 12 (more (list (trees (node Kind.ExpressionStatement 13 (more (child (node Kind.CallExpression 14 (more (child (node Kind.IdentifierReference 15 (more (string (codes "k")) end))) (more (list (trees (node Kind.ClassExpression 16 (more (child (node Kind.BindingIdentifier 17 (more (string (codes "A")) end))) (more absent (more (child (node Kind.ClassBody 18 (more (list (trees (node Kind.MethodDefinition 19 (more (child (node Kind.IdentifierName 20 (more (string (codes "n")) end))) (more (child (node Kind.FunctionExpression 21 (more absent (more (list end) (more (child (node Kind.BlockStatement 22 (more (list (trees (node Kind.TryStatement 23 (more (child (node Kind.BlockStatement 24 (more (list (trees (node Kind.ExpressionStatement 25 (more (child (node Kind.UpdateExpression 26 (more (string (codes "++")) (more (child (node Kind.IdentifierReference 27 (more (string (codes "A")) end))) (more (boolean false) end))))) (more no_string end)) ∷ []))) end))) (more (child (node Kind.CatchClause 28 (more absent (more (child (node Kind.BlockStatement 29 (more (list end) end))) end)))) (more absent end))) ∷ node Kind.ExpressionStatement 30 (more (child (node Kind.CallExpression 31 (more (child (node Kind.IdentifierReference 32 (more (string (codes "g")) end))) (more (list (trees (node Kind.IdentifierReference 33 (more (string (codes "A")) end) ∷ []))) (more (boolean false) end))))) (more no_string end)) ∷ []))) end))) (more (boolean false) (more (boolean false) end))))))) (more (string (codes "method")) (more (boolean false) (more (boolean false) end))))) ∷ []))) end))) end))) ∷ []))) (more (boolean false) end))))) (more no_string end)) ∷ []))) end))) (more (boolean false) (more (boolean false) end))))))) (more (string (codes "method")) (more (boolean false) (more (boolean false) end))))) ∷ []))) end))) end))) ∷ []))) end))

-- an update of the name of a class as one of a temporary, which is read behind the `try` around it: `var _p = new WeakMap(); class C { constructor() { B.classPrivateFieldInitSpec(this, _p, f(1)); } m() { k(class A { n() { var _t; _t = A; try { _t++, B.readOnlyError("A"); } catch { } g(_t); } }); } }`
abbrev pub output_class_updated_by_a_temporary_beside_a_field : Tree
output_class_updated_by_a_temporary_beside_a_field = node Kind.Program 0 (more (string (codes "script")) (more (list (trees (node Kind.VariableDeclaration 34 (more (string (codes "var")) (more (list (trees (node Kind.VariableDeclarator 35 (more (child (node Kind.BindingIdentifier 36 (more (string (codes "_p")) end))) (more (child (node Kind.NewExpression 37 (more (child (node Kind.IdentifierReference 38 (more (string (codes "WeakMap")) end))) (more (list end) end)))) end)) ∷ []))) end)) ∷ node Kind.ClassDeclaration 1 (more (child (node Kind.BindingIdentifier 2 (more (string (codes "C")) end))) (more absent (more (child (node Kind.ClassBody 3 (more (list (trees (node Kind.MethodDefinition 39 (more (child (node Kind.IdentifierName 40 (more (string (codes "constructor")) end))) (more (child (node Kind.FunctionExpression 41 (more absent (more (list end) (more (child (node Kind.BlockStatement 42 (more (list (trees (node Kind.ExpressionStatement 43 (more (child (node Kind.CallExpression 44 (more (child (node Kind.MemberExpression 45 (more (child (node Kind.IdentifierReference 46 (more (string (codes "babelHelpers")) end))) (more (child (node Kind.IdentifierName 47 (more (string (codes "classPrivateFieldInitSpec")) end))) (more (boolean false) (more (boolean false) end)))))) (more (list (trees (node Kind.ThisExpression 48 end ∷ node Kind.IdentifierReference 49 (more (string (codes "_p")) end) ∷ node Kind.CallExpression 6 (more (child (node Kind.IdentifierReference 7 (more (string (codes "f")) end))) (more (list (trees (node Kind.Literal 8 (more (literal (literal_value.Number (codes "1"))) end) ∷ []))) (more (boolean false) end))) ∷ []))) (more (boolean false) end))))) (more no_string end)) ∷ []))) end))) (more (boolean false) (more (boolean false) end))))))) (more (string (codes "constructor")) (more (boolean false) (more (boolean false) end))))) ∷ node Kind.MethodDefinition 9 (more (child (node Kind.IdentifierName 10 (more (string (codes "m")) end))) (more (child (node Kind.FunctionExpression 11 (more absent (more (list end) (more (child (node Kind.BlockStatement 12 (more (list (trees (node Kind.ExpressionStatement 13 (more (child (node Kind.CallExpression 14 (more (child (node Kind.IdentifierReference 15 (more (string (codes "k")) end))) (more (list (trees (node Kind.ClassExpression 16 (more (child (node Kind.BindingIdentifier 17 (more (string (codes "A")) end))) (more absent (more (child (node Kind.ClassBody 18 (more (list (trees (node Kind.MethodDefinition 19 (more (child (node Kind.IdentifierName 20 (more (string (codes "n")) end))) (more (child (node Kind.FunctionExpression 21 (more absent (more (list end) (more (child (node Kind.BlockStatement 22 (more (list (trees (node Kind.VariableDeclaration 50 (more (string (codes "var")) (more (list (trees (node Kind.VariableDeclarator 51 (more (child (node Kind.BindingIdentifier 52 (more (string (codes "_t")) end))) (more absent end)) ∷ []))) end)) ∷ node Kind.ExpressionStatement 53 (more (child (node Kind.AssignmentExpression 54 (more (string (codes "=")) (more (child (node Kind.IdentifierReference 55 (more (string (codes "_t")) end))) (more (child (node Kind.IdentifierReference 56 (more (string (codes "A")) end))) end))))) (more no_string end)) ∷ node Kind.TryStatement 23 (more (child (node Kind.BlockStatement 24 (more (list (trees (node Kind.ExpressionStatement 25 (more (child (node Kind.SequenceExpression 57 (more (list (trees (node Kind.UpdateExpression 26 (more (string (codes "++")) (more (child (node Kind.IdentifierReference 27 (more (string (codes "_t")) end))) (more (boolean false) end))) ∷ node Kind.CallExpression 58 (more (child (node Kind.MemberExpression 59 (more (child (node Kind.IdentifierReference 60 (more (string (codes "babelHelpers")) end))) (more (child (node Kind.IdentifierName 61 (more (string (codes "readOnlyError")) end))) (more (boolean false) (more (boolean false) end)))))) (more (list (trees (node Kind.Literal 62 (more (literal (literal_value.String (codes "A") None)) end) ∷ []))) (more (boolean false) end))) ∷ []))) end))) (more no_string end)) ∷ []))) end))) (more (child (node Kind.CatchClause 28 (more absent (more (child (node Kind.BlockStatement 29 (more (list end) end))) end)))) (more absent end))) ∷ node Kind.ExpressionStatement 30 (more (child (node Kind.CallExpression 31 (more (child (node Kind.IdentifierReference 32 (more (string (codes "g")) end))) (more (list (trees (node Kind.IdentifierReference 63 (more (string (codes "_t")) end) ∷ []))) (more (boolean false) end))))) (more no_string end)) ∷ []))) end))) (more (boolean false) (more (boolean false) end))))))) (more (string (codes "method")) (more (boolean false) (more (boolean false) end))))) ∷ []))) end))) end))) ∷ []))) (more (boolean false) end))))) (more no_string end)) ∷ []))) end))) (more (boolean false) (more (boolean false) end))))))) (more (string (codes "method")) (more (boolean false) (more (boolean false) end))))) ∷ []))) end))) end))) ∷ []))) end))

abbrev pub generated_class_updated_by_a_temporary_beside_a_field : List LedgerEntry
generated_class_updated_by_a_temporary_beside_a_field = record { name = codes "_p"; kind = GeneratedKind.WeakMap (record { 0 = 5 }) } ∷ record { name = codes "_t"; kind = GeneratedKind.Temp } ∷ []

abbrev pub options_class_updated_by_a_temporary_beside_a_field : Options
options_class_updated_by_a_temporary_beside_a_field = options_of false (Some (record { loose = false })) false
