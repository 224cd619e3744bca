-- Printed by tools/rows/witnesses.js.
use Rattle.std.specs.Prelude.{ℕ, List, [], ◌∷◌, false, codes, Some, None}
use Rattle.es_base.specs.Tree.{Tree, end, more, child, absent, list, string, no_string, boolean, literal, trees}
use Rattle.es_base.specs.declared.kind.Kind.{Kind}
use Rattle.es_base.specs.declared.ledger.LedgerEntry.{LedgerEntry}
use Rattle.es_base.specs.declared.literal.LiteralValue.TheVariants as literal_value
use Rattle.es_steps.specs.Generated.{node}
use Rattle.es_steps.specs.Options.{options_of}
use Rattle.es_steps.specs.declared.options.Options.{Options}

-- `var v = 7; class C { x = 1 }`
abbrev pub source_script_in_an_arrow : Tree
source_script_in_an_arrow = node Kind.Program 0 (more (string (codes "script")) (more (list (trees (node Kind.VariableDeclaration 1 (more (string (codes "var")) (more (list (trees (node Kind.VariableDeclarator 2 (more (child (node Kind.BindingIdentifier 3 (more (string (codes "v")) end))) (more (child (node Kind.Literal 4 (more (literal (literal_value.Number (codes "7"))) end))) end)) ∷ []))) end)) ∷ node Kind.ClassDeclaration 5 (more (child (node Kind.BindingIdentifier 6 (more (string (codes "C")) end))) (more absent (more (child (node Kind.ClassBody 7 (more (list (trees (node Kind.PropertyDefinition 8 (more (child (node Kind.IdentifierName 9 (more (string (codes "x")) end))) (more (child (node Kind.Literal 10 (more (literal (literal_value.Number (codes "1"))) end))) (more (boolean false) (more (boolean false) end)))) ∷ []))) end))) end))) ∷ []))) end))

-- the declarations of a script in an arrow, where `var v = 7; class C { constructor() { B.defineProperty(this, "x", 1); } }` is right
abbrev pub output_script_in_an_arrow : Tree
output_script_in_an_arrow = node Kind.Program 0 (more (string (codes "script")) (more (list (trees (node Kind.ExpressionStatement 11 (more (child (node Kind.CallExpression 12 (more (child (node Kind.ArrowFunctionExpression 13 (more (list end) (more (child (node Kind.BlockStatement 14 (more (list (trees (node Kind.VariableDeclaration 1 (more (string (codes "var")) (more (list (trees (node Kind.VariableDeclarator 2 (more (child (node Kind.BindingIdentifier 3 (more (string (codes "v")) end))) (more (child (node Kind.Literal 4 (more (literal (literal_value.Number (codes "7"))) end))) end)) ∷ []))) end)) ∷ node Kind.ClassDeclaration 5 (more (child (node Kind.BindingIdentifier 6 (more (string (codes "C")) end))) (more absent (more (child (node Kind.ClassBody 7 (more (list (trees (node Kind.MethodDefinition 15 (more (child (node Kind.IdentifierName 16 (more (string (codes "constructor")) end))) (more (child (node Kind.FunctionExpression 17 (more absent (more (list end) (more (child (node Kind.BlockStatement 18 (more (list (trees (node Kind.ExpressionStatement 19 (more (child (node Kind.CallExpression 20 (more (child (node Kind.MemberExpression 21 (more (child (node Kind.IdentifierReference 22 (more (string (codes "babelHelpers")) end))) (more (child (node Kind.IdentifierName 23 (more (string (codes "defineProperty")) end))) (more (boolean false) (more (boolean false) end)))))) (more (list (trees (node Kind.ThisExpression 24 end ∷ node Kind.Literal 25 (more (literal (literal_value.String (codes "x") None)) end) ∷ node Kind.Literal 10 (more (literal (literal_value.Number (codes "1"))) end) ∷ []))) (more (boolean false) end))))) (more no_string end)) ∷ []))) end))) (more (boolean false) (more (boolean false) end))))))) (more (string (codes "constructor")) (more (boolean false) (more (boolean false) end))))) ∷ []))) end))) end))) ∷ []))) end))) (more (boolean false) end))))) (more (list end) (more (boolean false) end))))) (more no_string end)) ∷ []))) end))

abbrev pub generated_script_in_an_arrow : List LedgerEntry
generated_script_in_an_arrow = []

abbrev pub options_script_in_an_arrow : Options
options_script_in_an_arrow = options_of false (Some (record { loose = false })) false
