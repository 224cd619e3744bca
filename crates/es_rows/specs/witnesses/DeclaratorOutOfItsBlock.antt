-- Printed by tools/rows/witnesses.js.
use Rattle.std.specs.Prelude.{ℕ, List, [], ◌∷◌, false, codes, Some, None}
use Rattle.es_base.specs.Tree.{Tree, end, more, child, absent, list, string, no_string, boolean, literal, trees}
use Rattle.es_base.specs.declared.kind.Kind.{Kind}
use Rattle.es_base.specs.declared.ledger.LedgerEntry.{LedgerEntry}
use Rattle.es_base.specs.declared.literal.LiteralValue.TheVariants as literal_value
use Rattle.es_steps.specs.Generated.{node}
use Rattle.es_steps.specs.Options.{options_of}
use Rattle.es_steps.specs.declared.options.Options.{Options}

-- `{ { let a = 1, C = class { y = 1; }; f(C, a); } { var a; } }`
abbrev pub source_declarator_out_of_its_block : Tree
source_declarator_out_of_its_block = node Kind.Program 0 (more (string (codes "script")) (more (list (trees (node Kind.BlockStatement 1 (more (list (trees (node Kind.BlockStatement 2 (more (list (trees (node Kind.VariableDeclaration 3 (more (string (codes "let")) (more (list (trees (node Kind.VariableDeclarator 4 (more (child (node Kind.BindingIdentifier 5 (more (string (codes "a")) end))) (more (child (node Kind.Literal 6 (more (literal (literal_value.Number (codes "1"))) end))) end)) ∷ node Kind.VariableDeclarator 7 (more (child (node Kind.BindingIdentifier 8 (more (string (codes "C")) end))) (more (child (node Kind.ClassExpression 9 (more absent (more absent (more (child (node Kind.ClassBody 10 (more (list (trees (node Kind.PropertyDefinition 11 (more (child (node Kind.IdentifierName 12 (more (string (codes "y")) end))) (more (child (node Kind.Literal 13 (more (literal (literal_value.Number (codes "1"))) end))) (more (boolean false) (more (boolean false) end)))) ∷ []))) end))) end))))) end)) ∷ []))) end)) ∷ node Kind.ExpressionStatement 14 (more (child (node Kind.CallExpression 15 (more (child (node Kind.IdentifierReference 16 (more (string (codes "f")) end))) (more (list (trees (node Kind.IdentifierReference 17 (more (string (codes "C")) end) ∷ node Kind.IdentifierReference 18 (more (string (codes "a")) end) ∷ []))) (more (boolean false) end))))) (more no_string end)) ∷ []))) end) ∷ node Kind.BlockStatement 19 (more (list (trees (node Kind.VariableDeclaration 20 (more (string (codes "var")) (more (list (trees (node Kind.VariableDeclarator 21 (more (child (node Kind.BindingIdentifier 22 (more (string (codes "a")) end))) (more absent end)) ∷ []))) end)) ∷ []))) end) ∷ []))) end) ∷ []))) end))

-- a declarator out of its block, through which a `var` is hoisted, where `{ { let a = 1, C = class { constructor() { B.defineProperty(this, "y", 1); } }; f(C, a); } { var a; } }` is right
abbrev pub output_declarator_out_of_its_block : Tree
output_declarator_out_of_its_block = node Kind.Program 0 (more (string (codes "script")) (more (list (trees (node Kind.BlockStatement 1 (more (list (trees (node Kind.VariableDeclaration 23 (more (string (codes "let")) (more (list (trees (node Kind.VariableDeclarator 4 (more (child (node Kind.BindingIdentifier 5 (more (string (codes "a")) end))) (more (child (node Kind.Literal 6 (more (literal (literal_value.Number (codes "1"))) end))) end)) ∷ []))) end)) ∷ node Kind.BlockStatement 2 (more (list (trees (node Kind.VariableDeclaration 3 (more (string (codes "let")) (more (list (trees (node Kind.VariableDeclarator 7 (more (child (node Kind.BindingIdentifier 8 (more (string (codes "C")) end))) (more (child (node Kind.ClassExpression 9 (more absent (more absent (more (child (node Kind.ClassBody 10 (more (list (trees (node Kind.MethodDefinition 24 (more (child (node Kind.IdentifierName 25 (more (string (codes "constructor")) end))) (more (child (node Kind.FunctionExpression 26 (more absent (more (list end) (more (child (node Kind.BlockStatement 27 (more (list (trees (node Kind.ExpressionStatement 28 (more (child (node Kind.CallExpression 29 (more (child (node Kind.MemberExpression 30 (more (child (node Kind.IdentifierReference 31 (more (string (codes "babelHelpers")) end))) (more (child (node Kind.IdentifierName 32 (more (string (codes "defineProperty")) end))) (more (boolean false) (more (boolean false) end)))))) (more (list (trees (node Kind.ThisExpression 33 end ∷ node Kind.Literal 34 (more (literal (literal_value.String (codes "y") None)) end) ∷ node Kind.Literal 13 (more (literal (literal_value.Number (codes "1"))) end) ∷ []))) (more (boolean false) end))))) (more no_string end)) ∷ []))) end))) (more (boolean false) (more (boolean false) end))))))) (more (string (codes "constructor")) (more (boolean false) (more (boolean false) end))))) ∷ []))) end))) end))))) end)) ∷ []))) end)) ∷ node Kind.ExpressionStatement 14 (more (child (node Kind.CallExpression 15 (more (child (node Kind.IdentifierReference 16 (more (string (codes "f")) end))) (more (list (trees (node Kind.IdentifierReference 17 (more (string (codes "C")) end) ∷ node Kind.IdentifierReference 18 (more (string (codes "a")) end) ∷ []))) (more (boolean false) end))))) (more no_string end)) ∷ []))) end) ∷ node Kind.BlockStatement 19 (more (list (trees (node Kind.VariableDeclaration 20 (more (string (codes "var")) (more (list (trees (node Kind.VariableDeclarator 21 (more (child (node Kind.BindingIdentifier 22 (more (string (codes "a")) end))) (more absent end)) ∷ []))) end)) ∷ []))) end) ∷ []))) end) ∷ []))) end))

abbrev pub generated_declarator_out_of_its_block : List LedgerEntry
generated_declarator_out_of_its_block = []

abbrev pub options_declarator_out_of_its_block : Options
options_declarator_out_of_its_block = options_of false (Some (record { loose = false })) false
