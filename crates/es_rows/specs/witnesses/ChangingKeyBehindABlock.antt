-- Printed by tools/rows/witnesses.js.
use Rattle.std.specs.Prelude.{ℕ, List, [], ◌∷◌, true, false, codes, Some}
use Rattle.es_base.specs.Tree.{Tree, end, more, child, absent, list, string, no_string, boolean, literal, trees}
use Rattle.es_base.specs.declared.kind.Kind.{Kind}
use Rattle.es_base.specs.declared.ledger.LedgerEntry.{LedgerEntry}
use Rattle.es_base.specs.declared.literal.LiteralValue.TheVariants as literal_value
use Rattle.es_steps.specs.Generated.{node}
use Rattle.es_steps.specs.Options.{options_of}
use Rattle.es_steps.specs.declared.options.Options.{Options}

-- the key of a method, which a function in a block gives a value, behind a static block: `var k = "a"; let D = class { static { a(); } [k]() {} }; { function k() {} }`
abbrev pub first_changing_key_behind_a_block : Tree
first_changing_key_behind_a_block = node Kind.Program 0 (more (string (codes "script")) (more (list (trees (node Kind.VariableDeclaration 1 (more (string (codes "var")) (more (list (trees (node Kind.VariableDeclarator 2 (more (child (node Kind.BindingIdentifier 3 (more (string (codes "k")) end))) (more (child (node Kind.Literal 4 (more (literal (literal_value.String (codes "a") (Some (codes "\"a\"")))) end))) end)) ∷ []))) end)) ∷ node Kind.VariableDeclaration 5 (more (string (codes "let")) (more (list (trees (node Kind.VariableDeclarator 6 (more (child (node Kind.BindingIdentifier 7 (more (string (codes "D")) end))) (more (child (node Kind.ClassExpression 8 (more absent (more absent (more (child (node Kind.ClassBody 9 (more (list (trees (node Kind.StaticBlock 10 (more (list (trees (node Kind.ExpressionStatement 11 (more (child (node Kind.CallExpression 12 (more (child (node Kind.IdentifierReference 13 (more (string (codes "a")) end))) (more (list end) (more (boolean false) end))))) (more no_string end)) ∷ []))) end) ∷ node Kind.MethodDefinition 14 (more (child (node Kind.IdentifierReference 15 (more (string (codes "k")) end))) (more (child (node Kind.FunctionExpression 16 (more absent (more (list end) (more (child (node Kind.BlockStatement 17 (more (list end) end))) (more (boolean false) (more (boolean false) end))))))) (more (string (codes "method")) (more (boolean true) (more (boolean false) end))))) ∷ []))) end))) end))))) end)) ∷ []))) end)) ∷ node Kind.BlockStatement 18 (more (list (trees (node Kind.FunctionDeclaration 19 (more (child (node Kind.BindingIdentifier 20 (more (string (codes "k")) end))) (more (list end) (more (child (node Kind.BlockStatement 21 (more (list end) end))) (more (boolean false) (more (boolean false) end))))) ∷ []))) end) ∷ []))) end))

-- `var k = "a"; let D = class { static { a(); } [k]() {} }; { function j() {} }`, with numbers of the first
abbrev pub second_changing_key_behind_a_block : Tree
second_changing_key_behind_a_block = node Kind.Program 0 (more (string (codes "script")) (more (list (trees (node Kind.VariableDeclaration 1 (more (string (codes "var")) (more (list (trees (node Kind.VariableDeclarator 2 (more (child (node Kind.BindingIdentifier 3 (more (string (codes "k")) end))) (more (child (node Kind.Literal 4 (more (literal (literal_value.String (codes "a") (Some (codes "\"a\"")))) end))) end)) ∷ []))) end)) ∷ node Kind.VariableDeclaration 5 (more (string (codes "let")) (more (list (trees (node Kind.VariableDeclarator 6 (more (child (node Kind.BindingIdentifier 7 (more (string (codes "D")) end))) (more (child (node Kind.ClassExpression 8 (more absent (more absent (more (child (node Kind.ClassBody 9 (more (list (trees (node Kind.StaticBlock 10 (more (list (trees (node Kind.ExpressionStatement 11 (more (child (node Kind.CallExpression 12 (more (child (node Kind.IdentifierReference 13 (more (string (codes "a")) end))) (more (list end) (more (boolean false) end))))) (more no_string end)) ∷ []))) end) ∷ node Kind.MethodDefinition 14 (more (child (node Kind.IdentifierReference 15 (more (string (codes "k")) end))) (more (child (node Kind.FunctionExpression 16 (more absent (more (list end) (more (child (node Kind.BlockStatement 17 (more (list end) end))) (more (boolean false) (more (boolean false) end))))))) (more (string (codes "method")) (more (boolean true) (more (boolean false) end))))) ∷ []))) end))) end))))) end)) ∷ []))) end)) ∷ node Kind.BlockStatement 18 (more (list (trees (node Kind.FunctionDeclaration 19 (more (child (node Kind.BindingIdentifier 20 (more (string (codes "j")) end))) (more (list end) (more (child (node Kind.BlockStatement 21 (more (list end) end))) (more (boolean false) (more (boolean false) end))))) ∷ []))) end) ∷ []))) end))

abbrev pub options_changing_key_behind_a_block : Options
options_changing_key_behind_a_block = options_of true (Some (record { loose = false })) false
