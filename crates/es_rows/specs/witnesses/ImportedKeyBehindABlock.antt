-- Printed by tools/rows/witnesses.js.
use Rattle.std.specs.Prelude.{ℕ, List, [], ◌∷◌, true, false, codes, Some}
use Rattle.es_base.specs.Tree.{Tree, end, more, child, absent, list, string, no_string, boolean, literal, trees}
use Rattle.es_base.specs.declared.kind.Kind.{Kind}
use Rattle.es_base.specs.declared.ledger.LedgerEntry.{LedgerEntry}
use Rattle.es_base.specs.declared.literal.LiteralValue.TheVariants as literal_value
use Rattle.es_steps.specs.Generated.{node}
use Rattle.es_steps.specs.Options.{options_of}
use Rattle.es_steps.specs.declared.options.Options.{Options}

-- an imported name as the key of a method, behind a static block that runs in front of the class or stays: `import { k } from "m"; let D = class { static { a(); } [k]() {} };`
abbrev pub first_imported_key_behind_a_block : Tree
first_imported_key_behind_a_block = node Kind.Program 0 (more (string (codes "module")) (more (list (trees (node Kind.ImportDeclaration 1 (more (list (trees (node Kind.ImportSpecifier 2 (more (child (node Kind.IdentifierName 3 (more (string (codes "k")) end))) (more (child (node Kind.BindingIdentifier 4 (more (string (codes "k")) end))) end)) ∷ []))) (more (child (node Kind.Literal 5 (more (literal (literal_value.String (codes "m") (Some (codes "\"m\"")))) end))) end)) ∷ node Kind.VariableDeclaration 6 (more (string (codes "let")) (more (list (trees (node Kind.VariableDeclarator 7 (more (child (node Kind.BindingIdentifier 8 (more (string (codes "D")) end))) (more (child (node Kind.ClassExpression 9 (more absent (more absent (more (child (node Kind.ClassBody 10 (more (list (trees (node Kind.StaticBlock 11 (more (list (trees (node Kind.ExpressionStatement 12 (more (child (node Kind.CallExpression 13 (more (child (node Kind.IdentifierReference 14 (more (string (codes "a")) end))) (more (list end) (more (boolean false) end))))) (more no_string end)) ∷ []))) end) ∷ node Kind.MethodDefinition 15 (more (child (node Kind.IdentifierReference 16 (more (string (codes "k")) end))) (more (child (node Kind.FunctionExpression 17 (more absent (more (list end) (more (child (node Kind.BlockStatement 18 (more (list end) end))) (more (boolean false) (more (boolean false) end))))))) (more (string (codes "method")) (more (boolean true) (more (boolean false) end))))) ∷ []))) end))) end))))) end)) ∷ []))) end)) ∷ []))) end))

-- `import { k } from "m"; let D = class { static { a(); } ["k"]() {} };`, with numbers of the first
abbrev pub second_imported_key_behind_a_block : Tree
second_imported_key_behind_a_block = node Kind.Program 0 (more (string (codes "module")) (more (list (trees (node Kind.ImportDeclaration 1 (more (list (trees (node Kind.ImportSpecifier 2 (more (child (node Kind.IdentifierName 3 (more (string (codes "k")) end))) (more (child (node Kind.BindingIdentifier 4 (more (string (codes "k")) end))) end)) ∷ []))) (more (child (node Kind.Literal 5 (more (literal (literal_value.String (codes "m") (Some (codes "\"m\"")))) end))) end)) ∷ node Kind.VariableDeclaration 6 (more (string (codes "let")) (more (list (trees (node Kind.VariableDeclarator 7 (more (child (node Kind.BindingIdentifier 8 (more (string (codes "D")) end))) (more (child (node Kind.ClassExpression 9 (more absent (more absent (more (child (node Kind.ClassBody 10 (more (list (trees (node Kind.StaticBlock 11 (more (list (trees (node Kind.ExpressionStatement 12 (more (child (node Kind.CallExpression 13 (more (child (node Kind.IdentifierReference 14 (more (string (codes "a")) end))) (more (list end) (more (boolean false) end))))) (more no_string end)) ∷ []))) end) ∷ node Kind.MethodDefinition 15 (more (child (node Kind.Literal 16 (more (literal (literal_value.String (codes "k") (Some (codes "\"k\"")))) end))) (more (child (node Kind.FunctionExpression 17 (more absent (more (list end) (more (child (node Kind.BlockStatement 18 (more (list end) end))) (more (boolean false) (more (boolean false) end))))))) (more (string (codes "method")) (more (boolean true) (more (boolean false) end))))) ∷ []))) end))) end))))) end)) ∷ []))) end)) ∷ []))) end))

abbrev pub options_imported_key_behind_a_block : Options
options_imported_key_behind_a_block = options_of true (Some (record { loose = false })) false
