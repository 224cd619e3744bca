-- Printed by tools/rows/witnesses.js.
use Rattle.std.specs.Prelude.{ℕ, List, [], ◌∷◌, true, false, codes, Some, None}
use Rattle.es_base.specs.Tree.{Tree, end, more, child, absent, list, string, no_string, boolean, literal, trees}
use Rattle.es_base.specs.declared.kind.Kind.{Kind}
use Rattle.es_base.specs.declared.ledger.GeneratedKind.{GeneratedKind}
use Rattle.es_base.specs.declared.ledger.LedgerEntry.{LedgerEntry}
use Rattle.es_base.specs.declared.literal.LiteralValue.TheVariants as literal_value
use Rattle.es_steps.specs.Generated.{node}
use Rattle.es_steps.specs.Options.{options_of}
use Rattle.es_steps.specs.declared.options.Options.{Options}

-- `class A { static t() { return A.#s?.y; } static z = g(A.t()); static #s = 1; }`
abbrev pub source_question_on_a_static_field : Tree
source_question_on_a_static_field = node Kind.Program 0 (more (string (codes "script")) (more (list (trees (node Kind.ClassDeclaration 1 (more (child (node Kind.BindingIdentifier 2 (more (string (codes "A")) end))) (more absent (more (child (node Kind.ClassBody 3 (more (list (trees (node Kind.MethodDefinition 4 (more (child (node Kind.IdentifierName 5 (more (string (codes "t")) end))) (more (child (node Kind.FunctionExpression 6 (more absent (more (list end) (more (child (node Kind.BlockStatement 7 (more (list (trees (node Kind.ReturnStatement 8 (more (child (node Kind.ChainExpression 9 (more (child (node Kind.MemberExpression 10 (more (child (node Kind.PrivateField 11 (more (child (node Kind.IdentifierReference 12 (more (string (codes "A")) end))) (more (child (node Kind.PrivateIdentifier 13 (more (string (codes "s")) end))) (more (boolean false) (more (boolean false) end)))))) (more (child (node Kind.IdentifierName 14 (more (string (codes "y")) end))) (more (boolean false) (more (boolean true) end)))))) end))) end) ∷ []))) end))) (more (boolean false) (more (boolean false) end))))))) (more (string (codes "method")) (more (boolean false) (more (boolean true) end))))) ∷ node Kind.PropertyDefinition 15 (more (child (node Kind.IdentifierName 16 (more (string (codes "z")) end))) (more (child (node Kind.CallExpression 17 (more (child (node Kind.IdentifierReference 18 (more (string (codes "g")) end))) (more (list (trees (node Kind.CallExpression 19 (more (child (node Kind.MemberExpression 20 (more (child (node Kind.IdentifierReference 21 (more (string (codes "A")) end))) (more (child (node Kind.IdentifierName 22 (more (string (codes "t")) end))) (more (boolean false) (more (boolean false) end)))))) (more (list end) (more (boolean false) end))) ∷ []))) (more (boolean false) end))))) (more (boolean false) (more (boolean true) end)))) ∷ node Kind.PropertyDefinition 23 (more (child (node Kind.PrivateIdentifier 24 (more (string (codes "s")) end))) (more (child (node Kind.Literal 25 (more (literal (literal_value.Number (codes "1"))) end))) (more (boolean false) (more (boolean true) end)))) ∷ []))) end))) end))) ∷ []))) end))

-- a `?.` on the object that holds a private static field, which may not be there yet, where `class A { static t() { return _s._?.y; } } B.defineProperty(A, "z", g(A.t())); var _s = { _: 1 };` is right
abbrev pub output_question_on_a_static_field : Tree
output_question_on_a_static_field = node Kind.Program 0 (more (string (codes "script")) (more (list (trees (node Kind.ClassDeclaration 1 (more (child (node Kind.BindingIdentifier 2 (more (string (codes "A")) end))) (more absent (more (child (node Kind.ClassBody 3 (more (list (trees (node Kind.MethodDefinition 4 (more (child (node Kind.IdentifierName 5 (more (string (codes "t")) end))) (more (child (node Kind.FunctionExpression 6 (more absent (more (list end) (more (child (node Kind.BlockStatement 7 (more (list (trees (node Kind.ReturnStatement 8 (more (child (node Kind.ChainExpression 9 (more (child (node Kind.MemberExpression 10 (more (child (node Kind.MemberExpression 11 (more (child (node Kind.IdentifierReference 26 (more (string (codes "_s")) end))) (more (child (node Kind.IdentifierName 27 (more (string (codes "_")) end))) (more (boolean false) (more (boolean true) end)))))) (more (child (node Kind.IdentifierName 14 (more (string (codes "y")) end))) (more (boolean false) (more (boolean true) end)))))) end))) end) ∷ []))) end))) (more (boolean false) (more (boolean false) end))))))) (more (string (codes "method")) (more (boolean false) (more (boolean true) end))))) ∷ []))) end))) end))) ∷ node Kind.ExpressionStatement 28 (more (child (node Kind.CallExpression 29 (more (child (node Kind.MemberExpression 30 (more (child (node Kind.IdentifierReference 31 (more (string (codes "babelHelpers")) end))) (more (child (node Kind.IdentifierName 32 (more (string (codes "defineProperty")) end))) (more (boolean false) (more (boolean false) end)))))) (more (list (trees (node Kind.IdentifierReference 33 (more (string (codes "A")) end) ∷ node Kind.Literal 34 (more (literal (literal_value.String (codes "z") None)) end) ∷ node Kind.CallExpression 17 (more (child (node Kind.IdentifierReference 18 (more (string (codes "g")) end))) (more (list (trees (node Kind.CallExpression 19 (more (child (node Kind.MemberExpression 20 (more (child (node Kind.IdentifierReference 21 (more (string (codes "A")) end))) (more (child (node Kind.IdentifierName 22 (more (string (codes "t")) end))) (more (boolean false) (more (boolean false) end)))))) (more (list end) (more (boolean false) end))) ∷ []))) (more (boolean false) end))) ∷ []))) (more (boolean false) end))))) (more no_string end)) ∷ node Kind.VariableDeclaration 35 (more (string (codes "var")) (more (list (trees (node Kind.VariableDeclarator 36 (more (child (node Kind.BindingIdentifier 37 (more (string (codes "_s")) end))) (more (child (node Kind.ObjectExpression 38 (more (list (trees (node Kind.Property 39 (more (child (node Kind.IdentifierName 40 (more (string (codes "_")) end))) (more (child (node Kind.Literal 25 (more (literal (literal_value.Number (codes "1"))) end))) (more (string (codes "init")) (more (boolean false) (more (boolean false) (more (boolean false) end)))))) ∷ []))) end))) end)) ∷ []))) end)) ∷ []))) end))

abbrev pub generated_question_on_a_static_field : List LedgerEntry
generated_question_on_a_static_field = record { name = codes "_s"; kind = GeneratedKind.StaticField (record { 0 = 24 }) } ∷ []

abbrev pub options_question_on_a_static_field : Options
options_question_on_a_static_field = options_of false (Some (record { loose = false })) false
