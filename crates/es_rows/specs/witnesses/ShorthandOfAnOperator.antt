-- Printed by tools/rows/witnesses.js.
use Rattle.std.specs.Prelude.{ℕ, List, [], ◌∷◌, true, false, codes, Some, None}
use Rattle.es_base.specs.Tree.{Tree, end, more, child, absent, list, string, no_string, boolean, literal, trees}
use Rattle.es_base.specs.declared.kind.Kind.{Kind}
use Rattle.es_base.specs.declared.ledger.LedgerEntry.{LedgerEntry}
use Rattle.es_base.specs.declared.literal.LiteralValue.TheVariants as literal_value
use Rattle.es_steps.specs.Generated.{node}
use Rattle.es_steps.specs.Options.{options_of}
use Rattle.es_steps.specs.declared.options.Options.{Options}

-- `class A { x = 1; m(v) { g({ typeof: typeof v }); } }`
abbrev pub source_shorthand_of_an_operator : Tree
source_shorthand_of_an_operator = node Kind.Program 0 (more (string (codes "script")) (more (list (trees (node Kind.ClassDeclaration 1 (more (child (node Kind.BindingIdentifier 2 (more (string (codes "A")) end))) (more absent (more (child (node Kind.ClassBody 3 (more (list (trees (node Kind.PropertyDefinition 4 (more (child (node Kind.IdentifierName 5 (more (string (codes "x")) end))) (more (child (node Kind.Literal 6 (more (literal (literal_value.Number (codes "1"))) end))) (more (boolean false) (more (boolean false) end)))) ∷ node Kind.MethodDefinition 7 (more (child (node Kind.IdentifierName 8 (more (string (codes "m")) end))) (more (child (node Kind.FunctionExpression 9 (more absent (more (list (trees (node Kind.BindingIdentifier 10 (more (string (codes "v")) end) ∷ []))) (more (child (node Kind.BlockStatement 11 (more (list (trees (node Kind.ExpressionStatement 12 (more (child (node Kind.CallExpression 13 (more (child (node Kind.IdentifierReference 14 (more (string (codes "g")) end))) (more (list (trees (node Kind.ObjectExpression 15 (more (list (trees (node Kind.Property 16 (more (child (node Kind.IdentifierName 17 (more (string (codes "typeof")) end))) (more (child (node Kind.UnaryExpression 18 (more (string (codes "typeof")) (more (child (node Kind.IdentifierReference 19 (more (string (codes "v")) end))) end)))) (more (string (codes "init")) (more (boolean false) (more (boolean false) (more (boolean false) end)))))) ∷ []))) end) ∷ []))) (more (boolean false) end))))) (more no_string end)) ∷ []))) end))) (more (boolean false) (more (boolean false) end))))))) (more (string (codes "method")) (more (boolean false) (more (boolean false) end))))) ∷ []))) end))) end))) ∷ []))) end))

-- a property that is said to be a shorthand, and whose value is no identifier, where `class A { constructor() { B.defineProperty(this, "x", 1); } m(v) { g({ typeof: typeof v }); } }` is right
abbrev pub output_shorthand_of_an_operator : Tree
output_shorthand_of_an_operator = node Kind.Program 0 (more (string (codes "script")) (more (list (trees (node Kind.ClassDeclaration 1 (more (child (node Kind.BindingIdentifier 2 (more (string (codes "A")) end))) (more absent (more (child (node Kind.ClassBody 3 (more (list (trees (node Kind.MethodDefinition 20 (more (child (node Kind.IdentifierName 21 (more (string (codes "constructor")) end))) (more (child (node Kind.FunctionExpression 22 (more absent (more (list end) (more (child (node Kind.BlockStatement 23 (more (list (trees (node Kind.ExpressionStatement 24 (more (child (node Kind.CallExpression 25 (more (child (node Kind.MemberExpression 26 (more (child (node Kind.IdentifierReference 27 (more (string (codes "babelHelpers")) end))) (more (child (node Kind.IdentifierName 28 (more (string (codes "defineProperty")) end))) (more (boolean false) (more (boolean false) end)))))) (more (list (trees (node Kind.ThisExpression 29 end ∷ node Kind.Literal 30 (more (literal (literal_value.String (codes "x") None)) end) ∷ node Kind.Literal 6 (more (literal (literal_value.Number (codes "1"))) end) ∷ []))) (more (boolean false) end))))) (more no_string end)) ∷ []))) end))) (more (boolean false) (more (boolean false) end))))))) (more (string (codes "constructor")) (more (boolean false) (more (boolean false) end))))) ∷ node Kind.MethodDefinition 7 (more (child (node Kind.IdentifierName 8 (more (string (codes "m")) end))) (more (child (node Kind.FunctionExpression 9 (more absent (more (list (trees (node Kind.BindingIdentifier 10 (more (string (codes "v")) end) ∷ []))) (more (child (node Kind.BlockStatement 11 (more (list (trees (node Kind.ExpressionStatement 12 (more (child (node Kind.CallExpression 13 (more (child (node Kind.IdentifierReference 14 (more (string (codes "g")) end))) (more (list (trees (node Kind.ObjectExpression 15 (more (list (trees (node Kind.Property 16 (more (child (node Kind.IdentifierName 17 (more (string (codes "typeof")) end))) (more (child (node Kind.UnaryExpression 18 (more (string (codes "typeof")) (more (child (node Kind.IdentifierReference 19 (more (string (codes "v")) end))) end)))) (more (string (codes "init")) (more (boolean false) (more (boolean true) (more (boolean false) end)))))) ∷ []))) end) ∷ []))) (more (boolean false) end))))) (more no_string end)) ∷ []))) end))) (more (boolean false) (more (boolean false) end))))))) (more (string (codes "method")) (more (boolean false) (more (boolean false) end))))) ∷ []))) end))) end))) ∷ []))) end))

abbrev pub generated_shorthand_of_an_operator : List LedgerEntry
generated_shorthand_of_an_operator = []

abbrev pub options_shorthand_of_an_operator : Options
options_shorthand_of_an_operator = options_of false (Some (record { loose = false })) false
