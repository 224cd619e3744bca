-- Printed by tools/rows/witnesses.js.
use Rattle.std.specs.Prelude.{ℕ, List, [], ◌∷◌, false, codes, None}
use Rattle.es_base.specs.Tree.{Tree, end, more, child, absent, list, string, no_string, boolean, literal, trees}
use Rattle.es_base.specs.declared.kind.Kind.{Kind}
use Rattle.es_base.specs.declared.ledger.LedgerEntry.{LedgerEntry}
use Rattle.es_base.specs.declared.literal.LiteralValue.TheVariants as literal_value
use Rattle.es_steps.specs.Generated.{node}
use Rattle.es_steps.specs.Options.{options_of}
use Rattle.es_steps.specs.declared.options.Options.{Options}

-- a `var` of a static block in a loop, and one of a block: `for (var i = 0; i < 2; i++) { class A { static { var x = i; fs.push(() => x); } } }`
abbrev pub first_var_of_a_static_block : Tree
first_var_of_a_static_block = node Kind.Program 0 (more (string (codes "script")) (more (list (trees (node Kind.ForStatement 1 (more (child (node Kind.VariableDeclaration 2 (more (string (codes "var")) (more (list (trees (node Kind.VariableDeclarator 3 (more (child (node Kind.BindingIdentifier 4 (more (string (codes "i")) end))) (more (child (node Kind.Literal 5 (more (literal (literal_value.Number (codes "0"))) end))) end)) ∷ []))) end)))) (more (child (node Kind.BinaryExpression 6 (more (string (codes "<")) (more (child (node Kind.IdentifierReference 7 (more (string (codes "i")) end))) (more (child (node Kind.Literal 8 (more (literal (literal_value.Number (codes "2"))) end))) end))))) (more (child (node Kind.UpdateExpression 9 (more (string (codes "++")) (more (child (node Kind.IdentifierReference 10 (more (string (codes "i")) end))) (more (boolean false) end))))) (more (child (node Kind.BlockStatement 11 (more (list (trees (node Kind.ClassDeclaration 12 (more (child (node Kind.BindingIdentifier 13 (more (string (codes "A")) end))) (more absent (more (child (node Kind.ClassBody 14 (more (list (trees (node Kind.StaticBlock 15 (more (list (trees (node Kind.VariableDeclaration 16 (more (string (codes "var")) (more (list (trees (node Kind.VariableDeclarator 17 (more (child (node Kind.BindingIdentifier 18 (more (string (codes "x")) end))) (more (child (node Kind.IdentifierReference 19 (more (string (codes "i")) end))) end)) ∷ []))) end)) ∷ node Kind.ExpressionStatement 20 (more (child (node Kind.CallExpression 21 (more (child (node Kind.MemberExpression 22 (more (child (node Kind.IdentifierReference 23 (more (string (codes "fs")) end))) (more (child (node Kind.IdentifierName 24 (more (string (codes "push")) end))) (more (boolean false) (more (boolean false) end)))))) (more (list (trees (node Kind.ArrowFunctionExpression 25 (more (list end) (more (child (node Kind.IdentifierReference 26 (more (string (codes "x")) end))) (more (boolean false) end))) ∷ []))) (more (boolean false) end))))) (more no_string end)) ∷ []))) end) ∷ []))) end))) end))) ∷ []))) end))) end)))) ∷ []))) end))

-- `for (var i = 0; i < 2; i++) { class A {} { var x = i; fs.push(() => x); } }`, with numbers of the first
abbrev pub second_var_of_a_static_block : Tree
second_var_of_a_static_block = node Kind.Program 0 (more (string (codes "script")) (more (list (trees (node Kind.ForStatement 1 (more (child (node Kind.VariableDeclaration 2 (more (string (codes "var")) (more (list (trees (node Kind.VariableDeclarator 3 (more (child (node Kind.BindingIdentifier 4 (more (string (codes "i")) end))) (more (child (node Kind.Literal 5 (more (literal (literal_value.Number (codes "0"))) end))) end)) ∷ []))) end)))) (more (child (node Kind.BinaryExpression 6 (more (string (codes "<")) (more (child (node Kind.IdentifierReference 7 (more (string (codes "i")) end))) (more (child (node Kind.Literal 8 (more (literal (literal_value.Number (codes "2"))) end))) end))))) (more (child (node Kind.UpdateExpression 9 (more (string (codes "++")) (more (child (node Kind.IdentifierReference 10 (more (string (codes "i")) end))) (more (boolean false) end))))) (more (child (node Kind.BlockStatement 11 (more (list (trees (node Kind.ClassDeclaration 12 (more (child (node Kind.BindingIdentifier 13 (more (string (codes "A")) end))) (more absent (more (child (node Kind.ClassBody 14 (more (list end) end))) end))) ∷ node Kind.BlockStatement 15 (more (list (trees (node Kind.VariableDeclaration 16 (more (string (codes "var")) (more (list (trees (node Kind.VariableDeclarator 17 (more (child (node Kind.BindingIdentifier 18 (more (string (codes "x")) end))) (more (child (node Kind.IdentifierReference 19 (more (string (codes "i")) end))) end)) ∷ []))) end)) ∷ node Kind.ExpressionStatement 20 (more (child (node Kind.CallExpression 21 (more (child (node Kind.MemberExpression 22 (more (child (node Kind.IdentifierReference 23 (more (string (codes "fs")) end))) (more (child (node Kind.IdentifierName 24 (more (string (codes "push")) end))) (more (boolean false) (more (boolean false) end)))))) (more (list (trees (node Kind.ArrowFunctionExpression 25 (more (list end) (more (child (node Kind.IdentifierReference 26 (more (string (codes "x")) end))) (more (boolean false) end))) ∷ []))) (more (boolean false) end))))) (more no_string end)) ∷ []))) end) ∷ []))) end))) end)))) ∷ []))) end))

abbrev pub options_var_of_a_static_block : Options
options_var_of_a_static_block = options_of false None false
