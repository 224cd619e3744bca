-- Printed by tools/rows/witnesses.js.
use Rattle.std.specs.Prelude.{ℕ, List, [], ◌∷◌, false, codes, Some, None}
use Rattle.es_base.specs.Tree.{Tree, end, more, child, absent, list, string, no_string, boolean, literal, trees}
use Rattle.es_base.specs.declared.kind.Kind.{Kind}
use Rattle.es_base.specs.declared.ledger.LedgerEntry.{LedgerEntry}
use Rattle.es_base.specs.declared.literal.LiteralValue.TheVariants as literal_value
use Rattle.es_steps.specs.Generated.{node}
use Rattle.es_steps.specs.Options.{options_of}
use Rattle.es_steps.specs.declared.options.Options.{Options}

-- `function f() { { function g() { (class { x = 1; }); } } }`
abbrev pub source_function_out_of_its_block : Tree
source_function_out_of_its_block = node Kind.Program 0 (more (string (codes "script")) (more (list (trees (node Kind.FunctionDeclaration 1 (more (child (node Kind.BindingIdentifier 2 (more (string (codes "f")) end))) (more (list end) (more (child (node Kind.BlockStatement 3 (more (list (trees (node Kind.BlockStatement 4 (more (list (trees (node Kind.FunctionDeclaration 5 (more (child (node Kind.BindingIdentifier 6 (more (string (codes "g")) end))) (more (list end) (more (child (node Kind.BlockStatement 7 (more (list (trees (node Kind.ExpressionStatement 8 (more (child (node Kind.ClassExpression 9 (more absent (more absent (more (child (node Kind.ClassBody 10 (more (list (trees (node Kind.PropertyDefinition 11 (more (child (node Kind.IdentifierName 12 (more (string (codes "x")) end))) (more (child (node Kind.Literal 13 (more (literal (literal_value.Number (codes "1"))) end))) (more (boolean false) (more (boolean false) end)))) ∷ []))) end))) end))))) (more no_string end)) ∷ []))) end))) (more (boolean false) (more (boolean false) end))))) ∷ []))) end) ∷ []))) end))) (more (boolean false) (more (boolean false) end))))) ∷ []))) end))

-- a function declaration moved out of its block, where `function f() { { function g() { (class { constructor() { B.defineProperty(this, "x", 1); } }); } } }` is right
abbrev pub output_function_out_of_its_block : Tree
output_function_out_of_its_block = node Kind.Program 0 (more (string (codes "script")) (more (list (trees (node Kind.FunctionDeclaration 1 (more (child (node Kind.BindingIdentifier 2 (more (string (codes "f")) end))) (more (list end) (more (child (node Kind.BlockStatement 3 (more (list (trees (node Kind.BlockStatement 4 (more (list end) end) ∷ node Kind.FunctionDeclaration 5 (more (child (node Kind.BindingIdentifier 6 (more (string (codes "g")) end))) (more (list end) (more (child (node Kind.BlockStatement 7 (more (list (trees (node Kind.ExpressionStatement 8 (more (child (node Kind.ClassExpression 9 (more absent (more absent (more (child (node Kind.ClassBody 10 (more (list (trees (node Kind.MethodDefinition 14 (more (child (node Kind.IdentifierName 15 (more (string (codes "constructor")) end))) (more (child (node Kind.FunctionExpression 16 (more absent (more (list end) (more (child (node Kind.BlockStatement 17 (more (list (trees (node Kind.ExpressionStatement 18 (more (child (node Kind.CallExpression 19 (more (child (node Kind.MemberExpression 20 (more (child (node Kind.IdentifierReference 21 (more (string (codes "babelHelpers")) end))) (more (child (node Kind.IdentifierName 22 (more (string (codes "defineProperty")) end))) (more (boolean false) (more (boolean false) end)))))) (more (list (trees (node Kind.ThisExpression 23 end ∷ node Kind.Literal 24 (more (literal (literal_value.String (codes "x") None)) end) ∷ node Kind.Literal 13 (more (literal (literal_value.Number (codes "1"))) end) ∷ []))) (more (boolean false) end))))) (more no_string end)) ∷ []))) end))) (more (boolean false) (more (boolean false) end))))))) (more (string (codes "constructor")) (more (boolean false) (more (boolean false) end))))) ∷ []))) end))) end))))) (more no_string end)) ∷ []))) end))) (more (boolean false) (more (boolean false) end))))) ∷ []))) end))) (more (boolean false) (more (boolean false) end))))) ∷ []))) end))

abbrev pub generated_function_out_of_its_block : List LedgerEntry
generated_function_out_of_its_block = []

abbrev pub options_function_out_of_its_block : Options
options_function_out_of_its_block = options_of false (Some (record { loose = false })) false
