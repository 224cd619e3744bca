-- Printed by tools/rows/witnesses.js.
use Rattle.std.specs.Prelude.{ℕ, List, [], ◌∷◌, true, false, codes, Some}
use Rattle.es_base.specs.Tree.{Tree, end, more, child, absent, list, string, boolean, literal, trees}
use Rattle.es_base.specs.declared.kind.Kind.{Kind}
use Rattle.es_base.specs.declared.ledger.LedgerEntry.{LedgerEntry}
use Rattle.es_base.specs.declared.literal.LiteralValue.TheVariants as literal_value
use Rattle.es_steps.specs.Generated.{node}
use Rattle.es_steps.specs.Options.{options_of}
use Rattle.es_steps.specs.declared.options.Options.{Options}

-- the key of a method, which a function in a block gives a value, in front of a regular expression that is made in front of the class: `var k = "a"; class D { [k]() {} [/a/] = 1; } { function k() {} }`
abbrev pub first_changing_key_before_a_regular_expression : Tree
first_changing_key_before_a_regular_expression = node Kind.Program 0 (more (string (codes "script")) (more (list (trees (node Kind.VariableDeclaration 1 (more (string (codes "var")) (more (list (trees (node Kind.VariableDeclarator 2 (more (child (node Kind.BindingIdentifier 3 (more (string (codes "k")) end))) (more (child (node Kind.Literal 4 (more (literal (literal_value.String (codes "a") (Some (codes "\"a\"")))) end))) end)) ∷ []))) end)) ∷ node Kind.ClassDeclaration 5 (more (child (node Kind.BindingIdentifier 6 (more (string (codes "D")) end))) (more absent (more (child (node Kind.ClassBody 7 (more (list (trees (node Kind.MethodDefinition 8 (more (child (node Kind.IdentifierReference 9 (more (string (codes "k")) end))) (more (child (node Kind.FunctionExpression 10 (more absent (more (list end) (more (child (node Kind.BlockStatement 11 (more (list end) end))) (more (boolean false) (more (boolean false) end))))))) (more (string (codes "method")) (more (boolean true) (more (boolean false) end))))) ∷ node Kind.PropertyDefinition 12 (more (child (node Kind.Literal 13 (more (literal (literal_value.RegExp (codes "a") (codes ""))) end))) (more (child (node Kind.Literal 14 (more (literal (literal_value.Number (codes "1"))) end))) (more (boolean true) (more (boolean false) end)))) ∷ []))) end))) end))) ∷ node Kind.BlockStatement 15 (more (list (trees (node Kind.FunctionDeclaration 16 (more (child (node Kind.BindingIdentifier 17 (more (string (codes "k")) end))) (more (list end) (more (child (node Kind.BlockStatement 18 (more (list end) end))) (more (boolean false) (more (boolean false) end))))) ∷ []))) end) ∷ []))) end))

-- `var k = "a"; class D { [k]() {} [/a/] = 1; } { function j() {} }`, with numbers of the first
abbrev pub second_changing_key_before_a_regular_expression : Tree
second_changing_key_before_a_regular_expression = node Kind.Program 0 (more (string (codes "script")) (more (list (trees (node Kind.VariableDeclaration 1 (more (string (codes "var")) (more (list (trees (node Kind.VariableDeclarator 2 (more (child (node Kind.BindingIdentifier 3 (more (string (codes "k")) end))) (more (child (node Kind.Literal 4 (more (literal (literal_value.String (codes "a") (Some (codes "\"a\"")))) end))) end)) ∷ []))) end)) ∷ node Kind.ClassDeclaration 5 (more (child (node Kind.BindingIdentifier 6 (more (string (codes "D")) end))) (more absent (more (child (node Kind.ClassBody 7 (more (list (trees (node Kind.MethodDefinition 8 (more (child (node Kind.IdentifierReference 9 (more (string (codes "k")) end))) (more (child (node Kind.FunctionExpression 10 (more absent (more (list end) (more (child (node Kind.BlockStatement 11 (more (list end) end))) (more (boolean false) (more (boolean false) end))))))) (more (string (codes "method")) (more (boolean true) (more (boolean false) end))))) ∷ node Kind.PropertyDefinition 12 (more (child (node Kind.Literal 13 (more (literal (literal_value.RegExp (codes "a") (codes ""))) end))) (more (child (node Kind.Literal 14 (more (literal (literal_value.Number (codes "1"))) end))) (more (boolean true) (more (boolean false) end)))) ∷ []))) end))) end))) ∷ node Kind.BlockStatement 15 (more (list (trees (node Kind.FunctionDeclaration 16 (more (child (node Kind.BindingIdentifier 17 (more (string (codes "j")) end))) (more (list end) (more (child (node Kind.BlockStatement 18 (more (list end) end))) (more (boolean false) (more (boolean false) end))))) ∷ []))) end) ∷ []))) end))

abbrev pub options_changing_key_before_a_regular_expression : Options
options_changing_key_before_a_regular_expression = options_of false (Some (record { loose = false })) false
