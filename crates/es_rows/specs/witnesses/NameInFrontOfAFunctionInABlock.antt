-- Printed by tools/rows/witnesses.js.
use Rattle.std.specs.Prelude.{ℕ, List, [], ◌∷◌, false, codes, Some, None}
use Rattle.es_base.specs.Tree.{Tree, end, more, child, absent, list, string, no_string, boolean, literal, trees}
use Rattle.es_base.specs.declared.kind.Kind.{Kind}
use Rattle.es_base.specs.declared.ledger.LedgerEntry.{LedgerEntry}
use Rattle.es_base.specs.declared.literal.LiteralValue.TheVariants as literal_value
use Rattle.es_steps.specs.Generated.{node}
use Rattle.es_steps.specs.Options.{options_of}
use Rattle.es_steps.specs.declared.options.Options.{Options}

-- `try { { function z() { } g; k(class { x = 1; }); } } catch (e) { } k(z); let g = f();`
abbrev pub source_name_in_front_of_a_function_in_a_block : Tree
source_name_in_front_of_a_function_in_a_block = node Kind.Program 0 (more (string (codes "script")) (more (list (trees (node Kind.TryStatement 1 (more (child (node Kind.BlockStatement 2 (more (list (trees (node Kind.BlockStatement 3 (more (list (trees (node Kind.FunctionDeclaration 4 (more (child (node Kind.BindingIdentifier 5 (more (string (codes "z")) end))) (more (list end) (more (child (node Kind.BlockStatement 6 (more (list end) end))) (more (boolean false) (more (boolean false) end))))) ∷ node Kind.ExpressionStatement 7 (more (child (node Kind.IdentifierReference 8 (more (string (codes "g")) end))) (more no_string end)) ∷ node Kind.ExpressionStatement 9 (more (child (node Kind.CallExpression 10 (more (child (node Kind.IdentifierReference 11 (more (string (codes "k")) end))) (more (list (trees (node Kind.ClassExpression 12 (more absent (more absent (more (child (node Kind.ClassBody 13 (more (list (trees (node Kind.PropertyDefinition 14 (more (child (node Kind.IdentifierName 15 (more (string (codes "x")) end))) (more (child (node Kind.Literal 16 (more (literal (literal_value.Number (codes "1"))) end))) (more (boolean false) (more (boolean false) end)))) ∷ []))) end))) end))) ∷ []))) (more (boolean false) end))))) (more no_string end)) ∷ []))) end) ∷ []))) end))) (more (child (node Kind.CatchClause 17 (more (child (node Kind.BindingIdentifier 18 (more (string (codes "e")) end))) (more (child (node Kind.BlockStatement 19 (more (list end) end))) end)))) (more absent end))) ∷ node Kind.ExpressionStatement 20 (more (child (node Kind.CallExpression 21 (more (child (node Kind.IdentifierReference 22 (more (string (codes "k")) end))) (more (list (trees (node Kind.IdentifierReference 23 (more (string (codes "z")) end) ∷ []))) (more (boolean false) end))))) (more no_string end)) ∷ node Kind.VariableDeclaration 24 (more (string (codes "let")) (more (list (trees (node Kind.VariableDeclarator 25 (more (child (node Kind.BindingIdentifier 26 (more (string (codes "g")) end))) (more (child (node Kind.CallExpression 27 (more (child (node Kind.IdentifierReference 28 (more (string (codes "f")) end))) (more (list end) (more (boolean false) end))))) end)) ∷ []))) end)) ∷ []))) end))

-- a name in its dead zone is read in front of a function in a block, which is given to the name around it: `try { { g; function z() { } k(class { constructor() { B.defineProperty(this, "x", 1); } }); } } catch (e) { } k(z); let g = f();`
abbrev pub output_name_in_front_of_a_function_in_a_block : Tree
output_name_in_front_of_a_function_in_a_block = node Kind.Program 0 (more (string (codes "script")) (more (list (trees (node Kind.TryStatement 1 (more (child (node Kind.BlockStatement 2 (more (list (trees (node Kind.BlockStatement 3 (more (list (trees (node Kind.ExpressionStatement 7 (more (child (node Kind.IdentifierReference 8 (more (string (codes "g")) end))) (more no_string end)) ∷ node Kind.FunctionDeclaration 4 (more (child (node Kind.BindingIdentifier 5 (more (string (codes "z")) end))) (more (list end) (more (child (node Kind.BlockStatement 6 (more (list end) end))) (more (boolean false) (more (boolean false) end))))) ∷ node Kind.ExpressionStatement 9 (more (child (node Kind.CallExpression 10 (more (child (node Kind.IdentifierReference 11 (more (string (codes "k")) end))) (more (list (trees (node Kind.ClassExpression 12 (more absent (more absent (more (child (node Kind.ClassBody 13 (more (list (trees (node Kind.MethodDefinition 29 (more (child (node Kind.IdentifierName 30 (more (string (codes "constructor")) end))) (more (child (node Kind.FunctionExpression 31 (more absent (more (list end) (more (child (node Kind.BlockStatement 32 (more (list (trees (node Kind.ExpressionStatement 33 (more (child (node Kind.CallExpression 34 (more (child (node Kind.MemberExpression 35 (more (child (node Kind.IdentifierReference 36 (more (string (codes "babelHelpers")) end))) (more (child (node Kind.IdentifierName 37 (more (string (codes "defineProperty")) end))) (more (boolean false) (more (boolean false) end)))))) (more (list (trees (node Kind.ThisExpression 38 end ∷ node Kind.Literal 39 (more (literal (literal_value.String (codes "x") None)) end) ∷ node Kind.Literal 16 (more (literal (literal_value.Number (codes "1"))) end) ∷ []))) (more (boolean false) end))))) (more no_string end)) ∷ []))) end))) (more (boolean false) (more (boolean false) end))))))) (more (string (codes "constructor")) (more (boolean false) (more (boolean false) end))))) ∷ []))) end))) end))) ∷ []))) (more (boolean false) end))))) (more no_string end)) ∷ []))) end) ∷ []))) end))) (more (child (node Kind.CatchClause 17 (more (child (node Kind.BindingIdentifier 18 (more (string (codes "e")) end))) (more (child (node Kind.BlockStatement 19 (more (list end) end))) end)))) (more absent end))) ∷ node Kind.ExpressionStatement 20 (more (child (node Kind.CallExpression 21 (more (child (node Kind.IdentifierReference 22 (more (string (codes "k")) end))) (more (list (trees (node Kind.IdentifierReference 23 (more (string (codes "z")) end) ∷ []))) (more (boolean false) end))))) (more no_string end)) ∷ node Kind.VariableDeclaration 24 (more (string (codes "let")) (more (list (trees (node Kind.VariableDeclarator 25 (more (child (node Kind.BindingIdentifier 26 (more (string (codes "g")) end))) (more (child (node Kind.CallExpression 27 (more (child (node Kind.IdentifierReference 28 (more (string (codes "f")) end))) (more (list end) (more (boolean false) end))))) end)) ∷ []))) end)) ∷ []))) end))

abbrev pub generated_name_in_front_of_a_function_in_a_block : List LedgerEntry
generated_name_in_front_of_a_function_in_a_block = []

abbrev pub options_name_in_front_of_a_function_in_a_block : Options
options_name_in_front_of_a_function_in_a_block = options_of false (Some (record { loose = false })) false
