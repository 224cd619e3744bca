-- Printed by tools/rows/witnesses.js.
use Rattle.std.specs.Prelude.{ℕ, List, [], ◌∷◌, true, false, codes, Some, None}
use Rattle.es_base.specs.Tree.{Tree, end, more, child, absent, list, string, no_string, boolean, literal, trees}
use Rattle.es_base.specs.declared.kind.Kind.{Kind}
use Rattle.es_base.specs.declared.ledger.LedgerEntry.{LedgerEntry}
use Rattle.es_base.specs.declared.literal.LiteralValue.TheVariants as literal_value
use Rattle.es_steps.specs.Generated.{node}
use Rattle.es_steps.specs.Options.{options_of}
use Rattle.es_steps.specs.declared.options.Options.{Options}

-- `class C { x = 1; m(a) { return (a?.b)(5); } }`
abbrev pub source_receiver_of_a_conditional : Tree
source_receiver_of_a_conditional = node Kind.Program 0 (more (string (codes "script")) (more (list (trees (node Kind.ClassDeclaration 1 (more (child (node Kind.BindingIdentifier 2 (more (string (codes "C")) end))) (more absent (more (child (node Kind.ClassBody 3 (more (list (trees (node Kind.PropertyDefinition 4 (more (child (node Kind.IdentifierName 5 (more (string (codes "x")) end))) (more (child (node Kind.Literal 6 (more (literal (literal_value.Number (codes "1"))) end))) (more (boolean false) (more (boolean false) end)))) ∷ node Kind.MethodDefinition 7 (more (child (node Kind.IdentifierName 8 (more (string (codes "m")) end))) (more (child (node Kind.FunctionExpression 9 (more absent (more (list (trees (node Kind.BindingIdentifier 10 (more (string (codes "a")) end) ∷ []))) (more (child (node Kind.BlockStatement 11 (more (list (trees (node Kind.ReturnStatement 12 (more (child (node Kind.CallExpression 13 (more (child (node Kind.ChainExpression 14 (more (child (node Kind.MemberExpression 15 (more (child (node Kind.IdentifierReference 16 (more (string (codes "a")) end))) (more (child (node Kind.IdentifierName 17 (more (string (codes "b")) end))) (more (boolean false) (more (boolean true) end)))))) end))) (more (list (trees (node Kind.Literal 18 (more (literal (literal_value.Number (codes "5"))) end) ∷ []))) (more (boolean false) end))))) end) ∷ []))) end))) (more (boolean false) (more (boolean false) end))))))) (more (string (codes "method")) (more (boolean false) (more (boolean false) end))))) ∷ []))) end))) end))) ∷ []))) end))

-- the receiver of a chain that became a conditional, where `class C { constructor() { B.defineProperty(this, "x", 1); } m(a) { return (a?.b)(5); } }` is right
abbrev pub output_receiver_of_a_conditional : Tree
output_receiver_of_a_conditional = node Kind.Program 0 (more (string (codes "script")) (more (list (trees (node Kind.ClassDeclaration 1 (more (child (node Kind.BindingIdentifier 2 (more (string (codes "C")) end))) (more absent (more (child (node Kind.ClassBody 3 (more (list (trees (node Kind.MethodDefinition 19 (more (child (node Kind.IdentifierName 20 (more (string (codes "constructor")) end))) (more (child (node Kind.FunctionExpression 21 (more absent (more (list end) (more (child (node Kind.BlockStatement 22 (more (list (trees (node Kind.ExpressionStatement 23 (more (child (node Kind.CallExpression 24 (more (child (node Kind.MemberExpression 25 (more (child (node Kind.IdentifierReference 26 (more (string (codes "babelHelpers")) end))) (more (child (node Kind.IdentifierName 27 (more (string (codes "defineProperty")) end))) (more (boolean false) (more (boolean false) end)))))) (more (list (trees (node Kind.ThisExpression 28 end ∷ node Kind.Literal 29 (more (literal (literal_value.String (codes "x") None)) end) ∷ node Kind.Literal 6 (more (literal (literal_value.Number (codes "1"))) end) ∷ []))) (more (boolean false) end))))) (more no_string end)) ∷ []))) end))) (more (boolean false) (more (boolean false) end))))))) (more (string (codes "constructor")) (more (boolean false) (more (boolean false) end))))) ∷ node Kind.MethodDefinition 7 (more (child (node Kind.IdentifierName 8 (more (string (codes "m")) end))) (more (child (node Kind.FunctionExpression 9 (more absent (more (list (trees (node Kind.BindingIdentifier 10 (more (string (codes "a")) end) ∷ []))) (more (child (node Kind.BlockStatement 11 (more (list (trees (node Kind.ReturnStatement 12 (more (child (node Kind.CallExpression 13 (more (child (node Kind.ConditionalExpression 14 (more (child (node Kind.LogicalExpression 30 (more (string (codes "||")) (more (child (node Kind.BinaryExpression 31 (more (string (codes "===")) (more (child (node Kind.IdentifierReference 32 (more (string (codes "a")) end))) (more (child (node Kind.Literal 33 (more (literal (literal_value.Null)) end))) end))))) (more (child (node Kind.BinaryExpression 34 (more (string (codes "===")) (more (child (node Kind.IdentifierReference 35 (more (string (codes "a")) end))) (more (child (node Kind.UnaryExpression 36 (more (string (codes "void")) (more (child (node Kind.Literal 37 (more (literal (literal_value.Number (codes "0"))) end))) end)))) end))))) end))))) (more (child (node Kind.UnaryExpression 38 (more (string (codes "void")) (more (child (node Kind.Literal 39 (more (literal (literal_value.Number (codes "0"))) end))) end)))) (more (child (node Kind.MemberExpression 15 (more (child (node Kind.IdentifierReference 40 (more (string (codes "a")) end))) (more (child (node Kind.IdentifierName 41 (more (string (codes "b")) end))) (more (boolean false) (more (boolean false) end)))))) end))))) (more (list (trees (node Kind.Literal 18 (more (literal (literal_value.Number (codes "5"))) end) ∷ []))) (more (boolean false) end))))) end) ∷ []))) end))) (more (boolean false) (more (boolean false) end))))))) (more (string (codes "method")) (more (boolean false) (more (boolean false) end))))) ∷ []))) end))) end))) ∷ []))) end))

abbrev pub generated_receiver_of_a_conditional : List LedgerEntry
generated_receiver_of_a_conditional = []

abbrev pub options_receiver_of_a_conditional : Options
options_receiver_of_a_conditional = options_of false (Some (record { loose = false })) false
