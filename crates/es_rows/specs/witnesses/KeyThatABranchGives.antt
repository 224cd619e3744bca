-- Printed by tools/rows/witnesses.js.
use Rattle.std.specs.Prelude.{ℕ, List, [], ◌∷◌, true, false, codes, Some}
use Rattle.es_base.specs.Tree.{Tree, end, more, child, absent, list, string, boolean, literal, trees}
use Rattle.es_base.specs.declared.kind.Kind.{Kind}
use Rattle.es_base.specs.declared.ledger.LedgerEntry.{LedgerEntry}
use Rattle.es_base.specs.declared.literal.LiteralValue.TheVariants as literal_value
use Rattle.es_steps.specs.Generated.{node}
use Rattle.es_steps.specs.Options.{options_of}
use Rattle.es_steps.specs.declared.options.Options.{Options}

-- a key that a function in a branch in a block gives a value: `var g = "a"; class A { [g] = 1; } { if (t) function g() {} }`
abbrev pub first_key_that_a_branch_gives : Tree
first_key_that_a_branch_gives = node Kind.Program 0 (more (string (codes "script")) (more (list (trees (node Kind.VariableDeclaration 1 (more (string (codes "var")) (more (list (trees (node Kind.VariableDeclarator 2 (more (child (node Kind.BindingIdentifier 3 (more (string (codes "g")) end))) (more (child (node Kind.Literal 4 (more (literal (literal_value.String (codes "a") (Some (codes "\"a\"")))) end))) end)) ∷ []))) end)) ∷ node Kind.ClassDeclaration 5 (more (child (node Kind.BindingIdentifier 6 (more (string (codes "A")) end))) (more absent (more (child (node Kind.ClassBody 7 (more (list (trees (node Kind.PropertyDefinition 8 (more (child (node Kind.IdentifierReference 9 (more (string (codes "g")) end))) (more (child (node Kind.Literal 10 (more (literal (literal_value.Number (codes "1"))) end))) (more (boolean true) (more (boolean false) end)))) ∷ []))) end))) end))) ∷ node Kind.BlockStatement 11 (more (list (trees (node Kind.IfStatement 12 (more (child (node Kind.IdentifierReference 13 (more (string (codes "t")) end))) (more (child (node Kind.FunctionDeclaration 14 (more (child (node Kind.BindingIdentifier 15 (more (string (codes "g")) end))) (more (list end) (more (child (node Kind.BlockStatement 16 (more (list end) end))) (more (boolean false) (more (boolean false) end))))))) (more absent end))) ∷ []))) end) ∷ []))) end))

-- `var g = "a"; class A { [g] = 1; } { if (t) function h() {} }`, with numbers of the first
abbrev pub second_key_that_a_branch_gives : Tree
second_key_that_a_branch_gives = node Kind.Program 0 (more (string (codes "script")) (more (list (trees (node Kind.VariableDeclaration 1 (more (string (codes "var")) (more (list (trees (node Kind.VariableDeclarator 2 (more (child (node Kind.BindingIdentifier 3 (more (string (codes "g")) end))) (more (child (node Kind.Literal 4 (more (literal (literal_value.String (codes "a") (Some (codes "\"a\"")))) end))) end)) ∷ []))) end)) ∷ node Kind.ClassDeclaration 5 (more (child (node Kind.BindingIdentifier 6 (more (string (codes "A")) end))) (more absent (more (child (node Kind.ClassBody 7 (more (list (trees (node Kind.PropertyDefinition 8 (more (child (node Kind.IdentifierReference 9 (more (string (codes "g")) end))) (more (child (node Kind.Literal 10 (more (literal (literal_value.Number (codes "1"))) end))) (more (boolean true) (more (boolean false) end)))) ∷ []))) end))) end))) ∷ node Kind.BlockStatement 11 (more (list (trees (node Kind.IfStatement 12 (more (child (node Kind.IdentifierReference 13 (more (string (codes "t")) end))) (more (child (node Kind.FunctionDeclaration 14 (more (child (node Kind.BindingIdentifier 15 (more (string (codes "h")) end))) (more (list end) (more (child (node Kind.BlockStatement 16 (more (list end) end))) (more (boolean false) (more (boolean false) end))))))) (more absent end))) ∷ []))) end) ∷ []))) end))

abbrev pub options_key_that_a_branch_gives : Options
options_key_that_a_branch_gives = options_of false (Some (record { loose = false })) false
