-- Printed by tools/rows/witnesses.js.
use Rattle.std.specs.Prelude.{ℕ, List, [], ◌∷◌, false, codes, Some, None}
use Rattle.es_base.specs.Tree.{Tree, end, more, child, absent, list, string, no_string, boolean, literal, trees}
use Rattle.es_base.specs.declared.kind.Kind.{Kind}
use Rattle.es_base.specs.declared.ledger.LedgerEntry.{LedgerEntry}
use Rattle.es_base.specs.declared.literal.LiteralValue.TheVariants as literal_value
use Rattle.es_steps.specs.Generated.{node}
use Rattle.es_steps.specs.Options.{options_of}
use Rattle.es_steps.specs.declared.options.Options.{Options}

-- `{ { let C = class { y = 1; }; f(C); } { var C; } }`
abbrev pub source_let_out_of_its_block : Tree
source_let_out_of_its_block = node Kind.Program 0 (more (string (codes "script")) (more (list (trees (node Kind.BlockStatement 1 (more (list (trees (node Kind.BlockStatement 2 (more (list (trees (node Kind.VariableDeclaration 3 (more (string (codes "let")) (more (list (trees (node Kind.VariableDeclarator 4 (more (child (node Kind.BindingIdentifier 5 (more (string (codes "C")) end))) (more (child (node Kind.ClassExpression 6 (more absent (more absent (more (child (node Kind.ClassBody 7 (more (list (trees (node Kind.PropertyDefinition 8 (more (child (node Kind.IdentifierName 9 (more (string (codes "y")) end))) (more (child (node Kind.Literal 10 (more (literal (literal_value.Number (codes "1"))) end))) (more (boolean false) (more (boolean false) end)))) ∷ []))) end))) end))))) end)) ∷ []))) end)) ∷ node Kind.ExpressionStatement 11 (more (child (node Kind.CallExpression 12 (more (child (node Kind.IdentifierReference 13 (more (string (codes "f")) end))) (more (list (trees (node Kind.IdentifierReference 14 (more (string (codes "C")) end) ∷ []))) (more (boolean false) end))))) (more no_string end)) ∷ []))) end) ∷ node Kind.BlockStatement 15 (more (list (trees (node Kind.VariableDeclaration 16 (more (string (codes "var")) (more (list (trees (node Kind.VariableDeclarator 17 (more (child (node Kind.BindingIdentifier 18 (more (string (codes "C")) end))) (more absent end)) ∷ []))) end)) ∷ []))) end) ∷ []))) end) ∷ []))) end))

-- a `let` of a lowered class out of its block, through which a `var` is hoisted, where `{ { let C = class { constructor() { B.defineProperty(this, "y", 1); } }; f(C); } { var C; } }` is right
abbrev pub output_let_out_of_its_block : Tree
output_let_out_of_its_block = node Kind.Program 0 (more (string (codes "script")) (more (list (trees (node Kind.BlockStatement 1 (more (list (trees (node Kind.VariableDeclaration 3 (more (string (codes "let")) (more (list (trees (node Kind.VariableDeclarator 4 (more (child (node Kind.BindingIdentifier 5 (more (string (codes "C")) end))) (more (child (node Kind.ClassExpression 6 (more absent (more absent (more (child (node Kind.ClassBody 7 (more (list (trees (node Kind.MethodDefinition 19 (more (child (node Kind.IdentifierName 20 (more (string (codes "constructor")) end))) (more (child (node Kind.FunctionExpression 21 (more absent (more (list end) (more (child (node Kind.BlockStatement 22 (more (list (trees (node Kind.ExpressionStatement 23 (more (child (node Kind.CallExpression 24 (more (child (node Kind.MemberExpression 25 (more (child (node Kind.IdentifierReference 26 (more (string (codes "babelHelpers")) end))) (more (child (node Kind.IdentifierName 27 (more (string (codes "defineProperty")) end))) (more (boolean false) (more (boolean false) end)))))) (more (list (trees (node Kind.ThisExpression 28 end ∷ node Kind.Literal 29 (more (literal (literal_value.String (codes "y") None)) end) ∷ node Kind.Literal 10 (more (literal (literal_value.Number (codes "1"))) end) ∷ []))) (more (boolean false) end))))) (more no_string end)) ∷ []))) end))) (more (boolean false) (more (boolean false) end))))))) (more (string (codes "constructor")) (more (boolean false) (more (boolean false) end))))) ∷ []))) end))) end))))) end)) ∷ []))) end)) ∷ node Kind.BlockStatement 2 (more (list (trees (node Kind.ExpressionStatement 11 (more (child (node Kind.CallExpression 12 (more (child (node Kind.IdentifierReference 13 (more (string (codes "f")) end))) (more (list (trees (node Kind.IdentifierReference 14 (more (string (codes "C")) end) ∷ []))) (more (boolean false) end))))) (more no_string end)) ∷ []))) end) ∷ node Kind.BlockStatement 15 (more (list (trees (node Kind.VariableDeclaration 16 (more (string (codes "var")) (more (list (trees (node Kind.VariableDeclarator 17 (more (child (node Kind.BindingIdentifier 18 (more (string (codes "C")) end))) (more absent end)) ∷ []))) end)) ∷ []))) end) ∷ []))) end) ∷ []))) end))

abbrev pub generated_let_out_of_its_block : List LedgerEntry
generated_let_out_of_its_block = []

abbrev pub options_let_out_of_its_block : Options
options_let_out_of_its_block = options_of false (Some (record { loose = false })) false
