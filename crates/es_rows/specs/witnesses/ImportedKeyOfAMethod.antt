-- Printed by tools/rows/witnesses.js.
use Rattle.std.specs.Prelude.{ℕ, List, [], ◌∷◌, true, false, codes, Some}
use Rattle.es_base.specs.Tree.{Tree, end, more, child, absent, list, string, boolean, literal, trees}
use Rattle.es_base.specs.declared.kind.Kind.{Kind}
use Rattle.es_base.specs.declared.ledger.LedgerEntry.{LedgerEntry}
use Rattle.es_base.specs.declared.literal.LiteralValue.TheVariants as literal_value
use Rattle.es_steps.specs.Generated.{node}
use Rattle.es_steps.specs.Options.{options_of}
use Rattle.es_steps.specs.declared.options.Options.{Options}

-- an imported name as the key of a method, in front of a key that is hoisted or not: `import { k } from "m"; class C { [k]() {} [f()] = 1; }`
abbrev pub first_imported_key_of_a_method : Tree
first_imported_key_of_a_method = node Kind.Program 0 (more (string (codes "module")) (more (list (trees (node Kind.ImportDeclaration 1 (more (list (trees (node Kind.ImportSpecifier 2 (more (child (node Kind.IdentifierName 3 (more (string (codes "k")) end))) (more (child (node Kind.BindingIdentifier 4 (more (string (codes "k")) end))) end)) ∷ []))) (more (child (node Kind.Literal 5 (more (literal (literal_value.String (codes "m") (Some (codes "\"m\"")))) end))) end)) ∷ node Kind.ClassDeclaration 6 (more (child (node Kind.BindingIdentifier 7 (more (string (codes "C")) end))) (more absent (more (child (node Kind.ClassBody 8 (more (list (trees (node Kind.MethodDefinition 9 (more (child (node Kind.IdentifierReference 10 (more (string (codes "k")) end))) (more (child (node Kind.FunctionExpression 11 (more absent (more (list end) (more (child (node Kind.BlockStatement 12 (more (list end) end))) (more (boolean false) (more (boolean false) end))))))) (more (string (codes "method")) (more (boolean true) (more (boolean false) end))))) ∷ node Kind.PropertyDefinition 13 (more (child (node Kind.CallExpression 14 (more (child (node Kind.IdentifierReference 15 (more (string (codes "f")) end))) (more (list end) (more (boolean false) end))))) (more (child (node Kind.Literal 16 (more (literal (literal_value.Number (codes "1"))) end))) (more (boolean true) (more (boolean false) end)))) ∷ []))) end))) end))) ∷ []))) end))

-- `import { k } from "m"; class C { [k]() {} ["f"] = 1; }`, with numbers of the first
abbrev pub second_imported_key_of_a_method : Tree
second_imported_key_of_a_method = node Kind.Program 0 (more (string (codes "module")) (more (list (trees (node Kind.ImportDeclaration 1 (more (list (trees (node Kind.ImportSpecifier 2 (more (child (node Kind.IdentifierName 3 (more (string (codes "k")) end))) (more (child (node Kind.BindingIdentifier 4 (more (string (codes "k")) end))) end)) ∷ []))) (more (child (node Kind.Literal 5 (more (literal (literal_value.String (codes "m") (Some (codes "\"m\"")))) end))) end)) ∷ node Kind.ClassDeclaration 6 (more (child (node Kind.BindingIdentifier 7 (more (string (codes "C")) end))) (more absent (more (child (node Kind.ClassBody 8 (more (list (trees (node Kind.MethodDefinition 9 (more (child (node Kind.IdentifierReference 10 (more (string (codes "k")) end))) (more (child (node Kind.FunctionExpression 11 (more absent (more (list end) (more (child (node Kind.BlockStatement 12 (more (list end) end))) (more (boolean false) (more (boolean false) end))))))) (more (string (codes "method")) (more (boolean true) (more (boolean false) end))))) ∷ node Kind.PropertyDefinition 13 (more (child (node Kind.Literal 14 (more (literal (literal_value.String (codes "f") (Some (codes "\"f\"")))) end))) (more (child (node Kind.Literal 15 (more (literal (literal_value.Number (codes "1"))) end))) (more (boolean true) (more (boolean false) end)))) ∷ []))) end))) end))) ∷ []))) end))

abbrev pub options_imported_key_of_a_method : Options
options_imported_key_of_a_method = options_of false (Some (record { loose = false })) false
