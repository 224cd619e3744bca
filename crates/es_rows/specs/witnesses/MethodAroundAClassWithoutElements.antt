-- Printed by tools/rows/witnesses.js.
use Rattle.std.specs.Prelude.{ℕ, List, [], ◌∷◌, true, false, codes, Some, None}
use Rattle.es_base.specs.Tree.{Tree, end, more, child, absent, list, string, no_string, boolean, literal, trees}
use Rattle.es_base.specs.declared.kind.Kind.{Kind}
use Rattle.es_base.specs.declared.ledger.GeneratedKind.{GeneratedKind}
use Rattle.es_base.specs.declared.ledger.LedgerEntry.{LedgerEntry}
use Rattle.es_base.specs.declared.literal.LiteralValue.TheVariants as literal_value
use Rattle.es_steps.specs.Generated.{node}
use Rattle.es_steps.specs.Options.{options_of}
use Rattle.es_steps.specs.declared.options.Options.{Options}

-- `class O { static #m() { class Q { static w = 1; } } static n() { O.#m(); } }`
abbrev pub source_method_around_a_class_without_elements : Tree
source_method_around_a_class_without_elements = node Kind.Program 0 (more (string (codes "script")) (more (list (trees (node Kind.ClassDeclaration 1 (more (child (node Kind.BindingIdentifier 2 (more (string (codes "O")) end))) (more absent (more (child (node Kind.ClassBody 3 (more (list (trees (node Kind.MethodDefinition 4 (more (child (node Kind.PrivateIdentifier 5 (more (string (codes "m")) end))) (more (child (node Kind.FunctionExpression 6 (more absent (more (list end) (more (child (node Kind.BlockStatement 7 (more (list (trees (node Kind.ClassDeclaration 8 (more (child (node Kind.BindingIdentifier 9 (more (string (codes "Q")) end))) (more absent (more (child (node Kind.ClassBody 10 (more (list (trees (node Kind.PropertyDefinition 11 (more (child (node Kind.IdentifierName 12 (more (string (codes "w")) end))) (more (child (node Kind.Literal 13 (more (literal (literal_value.Number (codes "1"))) end))) (more (boolean false) (more (boolean true) end)))) ∷ []))) end))) end))) ∷ []))) end))) (more (boolean false) (more (boolean false) end))))))) (more (string (codes "method")) (more (boolean false) (more (boolean true) end))))) ∷ node Kind.MethodDefinition 14 (more (child (node Kind.IdentifierName 15 (more (string (codes "n")) end))) (more (child (node Kind.FunctionExpression 16 (more absent (more (list end) (more (child (node Kind.BlockStatement 17 (more (list (trees (node Kind.ExpressionStatement 18 (more (child (node Kind.CallExpression 19 (more (child (node Kind.PrivateField 20 (more (child (node Kind.IdentifierReference 21 (more (string (codes "O")) end))) (more (child (node Kind.PrivateIdentifier 22 (more (string (codes "m")) end))) (more (boolean false) (more (boolean false) end)))))) (more (list end) (more (boolean false) end))))) (more no_string end)) ∷ []))) end))) (more (boolean false) (more (boolean false) end))))))) (more (string (codes "method")) (more (boolean false) (more (boolean true) end))))) ∷ []))) end))) end))) ∷ []))) end))

-- a private method that holds a class of which no element is left, as `class O { static n() { _m.call(O); } } function _m() { class Q {} B.defineProperty(Q, "w", 1); }` means
abbrev pub output_method_around_a_class_without_elements : Tree
output_method_around_a_class_without_elements = node Kind.Program 0 (more (string (codes "script")) (more (list (trees (node Kind.ClassDeclaration 1 (more (child (node Kind.BindingIdentifier 2 (more (string (codes "O")) end))) (more absent (more (child (node Kind.ClassBody 3 (more (list (trees (node Kind.MethodDefinition 14 (more (child (node Kind.IdentifierName 15 (more (string (codes "n")) end))) (more (child (node Kind.FunctionExpression 16 (more absent (more (list end) (more (child (node Kind.BlockStatement 17 (more (list (trees (node Kind.ExpressionStatement 18 (more (child (node Kind.CallExpression 19 (more (child (node Kind.MemberExpression 23 (more (child (node Kind.IdentifierReference 20 (more (string (codes "_m")) end))) (more (child (node Kind.IdentifierName 24 (more (string (codes "call")) end))) (more (boolean false) (more (boolean false) end)))))) (more (list (trees (node Kind.IdentifierReference 21 (more (string (codes "O")) end) ∷ []))) (more (boolean false) end))))) (more no_string end)) ∷ []))) end))) (more (boolean false) (more (boolean false) end))))))) (more (string (codes "method")) (more (boolean false) (more (boolean true) end))))) ∷ []))) end))) end))) ∷ node Kind.FunctionDeclaration 6 (more (child (node Kind.BindingIdentifier 25 (more (string (codes "_m")) end))) (more (list end) (more (child (node Kind.BlockStatement 7 (more (list (trees (node Kind.ClassDeclaration 8 (more (child (node Kind.BindingIdentifier 9 (more (string (codes "Q")) end))) (more absent (more (child (node Kind.ClassBody 10 (more (list end) end))) end))) ∷ node Kind.ExpressionStatement 26 (more (child (node Kind.CallExpression 27 (more (child (node Kind.MemberExpression 28 (more (child (node Kind.IdentifierReference 29 (more (string (codes "babelHelpers")) end))) (more (child (node Kind.IdentifierName 30 (more (string (codes "defineProperty")) end))) (more (boolean false) (more (boolean false) end)))))) (more (list (trees (node Kind.IdentifierReference 31 (more (string (codes "Q")) end) ∷ node Kind.Literal 32 (more (literal (literal_value.String (codes "w") None)) end) ∷ node Kind.Literal 13 (more (literal (literal_value.Number (codes "1"))) end) ∷ []))) (more (boolean false) end))))) (more no_string end)) ∷ []))) end))) (more (boolean false) (more (boolean false) end))))) ∷ []))) end))

abbrev pub generated_method_around_a_class_without_elements : List LedgerEntry
generated_method_around_a_class_without_elements = record { name = codes "_m"; kind = GeneratedKind.Method (record { 0 = 5 }) } ∷ []

abbrev pub options_method_around_a_class_without_elements : Options
options_method_around_a_class_without_elements = options_of false (Some (record { loose = false })) false
