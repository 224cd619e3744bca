-- Printed by tools/rows/witnesses.js.
use Rattle.std.specs.Prelude.{ℕ, List, [], ◌∷◌, true, false, codes, Some, None}
use Rattle.es_base.specs.Tree.{Tree, end, more, child, absent, list, string, no_string, boolean, literal, trees}
use Rattle.es_base.specs.declared.kind.Kind.{Kind}
use Rattle.es_base.specs.declared.ledger.GeneratedKind.{GeneratedKind}
use Rattle.es_base.specs.declared.ledger.LedgerEntry.{LedgerEntry}
use Rattle.es_base.specs.declared.literal.LiteralValue.TheVariants as literal_value
use Rattle.es_steps.specs.Generated.{node}
use Rattle.es_steps.specs.Options.{options_of}
use Rattle.es_steps.specs.declared.options.Options.{Options}

-- `for (const a of [{ b: { c: 1 } }, undefined]) g(a?.b?.c, class { x = 1; });`
abbrev pub source_temporary_of_the_round_before : Tree
source_temporary_of_the_round_before = node Kind.Program 0 (more (string (codes "script")) (more (list (trees (node Kind.ForOfStatement 1 (more (child (node Kind.VariableDeclaration 2 (more (string (codes "const")) (more (list (trees (node Kind.VariableDeclarator 3 (more (child (node Kind.BindingIdentifier 4 (more (string (codes "a")) end))) (more absent end)) ∷ []))) end)))) (more (child (node Kind.ArrayExpression 5 (more (list (trees (node Kind.ObjectExpression 6 (more (list (trees (node Kind.Property 7 (more (child (node Kind.IdentifierName 8 (more (string (codes "b")) end))) (more (child (node Kind.ObjectExpression 9 (more (list (trees (node Kind.Property 10 (more (child (node Kind.IdentifierName 11 (more (string (codes "c")) end))) (more (child (node Kind.Literal 12 (more (literal (literal_value.Number (codes "1"))) end))) (more (string (codes "init")) (more (boolean false) (more (boolean false) (more (boolean false) end)))))) ∷ []))) end))) (more (string (codes "init")) (more (boolean false) (more (boolean false) (more (boolean false) end)))))) ∷ []))) end) ∷ node Kind.IdentifierReference 13 (more (string (codes "undefined")) end) ∷ []))) end))) (more (child (node Kind.ExpressionStatement 14 (more (child (node Kind.CallExpression 15 (more (child (node Kind.IdentifierReference 16 (more (string (codes "g")) end))) (more (list (trees (node Kind.ChainExpression 17 (more (child (node Kind.MemberExpression 18 (more (child (node Kind.MemberExpression 19 (more (child (node Kind.IdentifierReference 20 (more (string (codes "a")) end))) (more (child (node Kind.IdentifierName 21 (more (string (codes "b")) end))) (more (boolean false) (more (boolean true) end)))))) (more (child (node Kind.IdentifierName 22 (more (string (codes "c")) end))) (more (boolean false) (more (boolean true) end)))))) end) ∷ node Kind.ClassExpression 23 (more absent (more absent (more (child (node Kind.ClassBody 24 (more (list (trees (node Kind.PropertyDefinition 25 (more (child (node Kind.IdentifierName 26 (more (string (codes "x")) end))) (more (child (node Kind.Literal 27 (more (literal (literal_value.Number (codes "1"))) end))) (more (boolean false) (more (boolean false) end)))) ∷ []))) end))) end))) ∷ []))) (more (boolean false) end))))) (more no_string end)))) (more (boolean false) end)))) ∷ []))) end))

-- a chain that goes on with the temporary of the round before, where the one in front of it has ended: `var _t; for (const a of [{ b: { c: 1 } }, undefined]) g((a === null || a === void 0 ? void 0 : (_t = a.b)) === null || _t === void 0 ? void 0 : _t.c, class { constructor() { B.defineProperty(this, "x", 1); } });`
abbrev pub output_temporary_of_the_round_before : Tree
output_temporary_of_the_round_before = node Kind.Program 0 (more (string (codes "script")) (more (list (trees (node Kind.VariableDeclaration 28 (more (string (codes "var")) (more (list (trees (node Kind.VariableDeclarator 29 (more (child (node Kind.BindingIdentifier 30 (more (string (codes "_t")) end))) (more absent end)) ∷ []))) end)) ∷ node Kind.ForOfStatement 1 (more (child (node Kind.VariableDeclaration 2 (more (string (codes "const")) (more (list (trees (node Kind.VariableDeclarator 3 (more (child (node Kind.BindingIdentifier 4 (more (string (codes "a")) end))) (more absent end)) ∷ []))) end)))) (more (child (node Kind.ArrayExpression 5 (more (list (trees (node Kind.ObjectExpression 6 (more (list (trees (node Kind.Property 7 (more (child (node Kind.IdentifierName 8 (more (string (codes "b")) end))) (more (child (node Kind.ObjectExpression 9 (more (list (trees (node Kind.Property 10 (more (child (node Kind.IdentifierName 11 (more (string (codes "c")) end))) (more (child (node Kind.Literal 12 (more (literal (literal_value.Number (codes "1"))) end))) (more (string (codes "init")) (more (boolean false) (more (boolean false) (more (boolean false) end)))))) ∷ []))) end))) (more (string (codes "init")) (more (boolean false) (more (boolean false) (more (boolean false) end)))))) ∷ []))) end) ∷ node Kind.IdentifierReference 13 (more (string (codes "undefined")) end) ∷ []))) end))) (more (child (node Kind.ExpressionStatement 14 (more (child (node Kind.CallExpression 15 (more (child (node Kind.IdentifierReference 16 (more (string (codes "g")) end))) (more (list (trees (node Kind.ConditionalExpression 17 (more (child (node Kind.LogicalExpression 31 (more (string (codes "||")) (more (child (node Kind.BinaryExpression 32 (more (string (codes "===")) (more (child (node Kind.ConditionalExpression 33 (more (child (node Kind.LogicalExpression 34 (more (string (codes "||")) (more (child (node Kind.BinaryExpression 35 (more (string (codes "===")) (more (child (node Kind.IdentifierReference 20 (more (string (codes "a")) end))) (more (child (node Kind.Literal 36 (more (literal (literal_value.Null)) end))) end))))) (more (child (node Kind.BinaryExpression 37 (more (string (codes "===")) (more (child (node Kind.IdentifierReference 38 (more (string (codes "a")) end))) (more (child (node Kind.UnaryExpression 39 (more (string (codes "void")) (more (child (node Kind.Literal 40 (more (literal (literal_value.Number (codes "0"))) end))) end)))) end))))) end))))) (more (child (node Kind.UnaryExpression 41 (more (string (codes "void")) (more (child (node Kind.Literal 42 (more (literal (literal_value.Number (codes "0"))) end))) end)))) (more (child (node Kind.AssignmentExpression 43 (more (string (codes "=")) (more (child (node Kind.IdentifierReference 44 (more (string (codes "_t")) end))) (more (child (node Kind.MemberExpression 19 (more (child (node Kind.IdentifierReference 45 (more (string (codes "a")) end))) (more (child (node Kind.IdentifierName 21 (more (string (codes "b")) end))) (more (boolean false) (more (boolean false) end)))))) end))))) end))))) (more (child (node Kind.Literal 46 (more (literal (literal_value.Null)) end))) end))))) (more (child (node Kind.BinaryExpression 47 (more (string (codes "===")) (more (child (node Kind.IdentifierReference 48 (more (string (codes "_t")) end))) (more (child (node Kind.UnaryExpression 49 (more (string (codes "void")) (more (child (node Kind.Literal 50 (more (literal (literal_value.Number (codes "0"))) end))) end)))) end))))) end))))) (more (child (node Kind.UnaryExpression 51 (more (string (codes "void")) (more (child (node Kind.Literal 52 (more (literal (literal_value.Number (codes "0"))) end))) end)))) (more (child (node Kind.MemberExpression 18 (more (child (node Kind.IdentifierReference 53 (more (string (codes "_t")) end))) (more (child (node Kind.IdentifierName 22 (more (string (codes "c")) end))) (more (boolean false) (more (boolean false) end)))))) end))) ∷ node Kind.ClassExpression 23 (more absent (more absent (more (child (node Kind.ClassBody 24 (more (list (trees (node Kind.MethodDefinition 54 (more (child (node Kind.IdentifierName 55 (more (string (codes "constructor")) end))) (more (child (node Kind.FunctionExpression 56 (more absent (more (list end) (more (child (node Kind.BlockStatement 57 (more (list (trees (node Kind.ExpressionStatement 58 (more (child (node Kind.CallExpression 59 (more (child (node Kind.MemberExpression 60 (more (child (node Kind.IdentifierReference 61 (more (string (codes "babelHelpers")) end))) (more (child (node Kind.IdentifierName 62 (more (string (codes "defineProperty")) end))) (more (boolean false) (more (boolean false) end)))))) (more (list (trees (node Kind.ThisExpression 63 end ∷ node Kind.Literal 64 (more (literal (literal_value.String (codes "x") None)) end) ∷ node Kind.Literal 27 (more (literal (literal_value.Number (codes "1"))) end) ∷ []))) (more (boolean false) end))))) (more no_string end)) ∷ []))) end))) (more (boolean false) (more (boolean false) end))))))) (more (string (codes "constructor")) (more (boolean false) (more (boolean false) end))))) ∷ []))) end))) end))) ∷ []))) (more (boolean false) end))))) (more no_string end)))) (more (boolean false) end)))) ∷ []))) end))

abbrev pub generated_temporary_of_the_round_before : List LedgerEntry
generated_temporary_of_the_round_before = record { name = codes "_t"; kind = GeneratedKind.Temp } ∷ []

abbrev pub options_temporary_of_the_round_before : Options
options_temporary_of_the_round_before = options_of false (Some (record { loose = false })) false
