-- Printed by tools/rows/witnesses.js.
use Rattle.std.specs.Prelude.{ℕ, List, [], ◌∷◌, false, codes, Some}
use Rattle.es_base.specs.Tree.{Tree, end, more, child, absent, list, string, no_string, boolean, literal, trees}
use Rattle.es_base.specs.declared.kind.Kind.{Kind}
use Rattle.es_base.specs.declared.ledger.LedgerEntry.{LedgerEntry}
use Rattle.es_base.specs.declared.literal.LiteralValue.TheVariants as literal_value
use Rattle.es_steps.specs.Generated.{node}
use Rattle.es_steps.specs.Options.{options_of}
use Rattle.es_steps.specs.declared.options.Options.{Options}

-- an imported name as the object of a private member, which is read twice: `import { o } from "m"; class A { #x = 1; m() { o.#x += 1; } }`
abbrev pub first_imported_object : Tree
first_imported_object = node Kind.Program 0 (more (string (codes "module")) (more (list (trees (node Kind.ImportDeclaration 1 (more (list (trees (node Kind.ImportSpecifier 2 (more (child (node Kind.IdentifierName 3 (more (string (codes "o")) end))) (more (child (node Kind.BindingIdentifier 4 (more (string (codes "o")) end))) end)) ∷ []))) (more (child (node Kind.Literal 5 (more (literal (literal_value.String (codes "m") (Some (codes "\"m\"")))) end))) end)) ∷ node Kind.ClassDeclaration 6 (more (child (node Kind.BindingIdentifier 7 (more (string (codes "A")) end))) (more absent (more (child (node Kind.ClassBody 8 (more (list (trees (node Kind.PropertyDefinition 9 (more (child (node Kind.PrivateIdentifier 10 (more (string (codes "x")) end))) (more (child (node Kind.Literal 11 (more (literal (literal_value.Number (codes "1"))) end))) (more (boolean false) (more (boolean false) end)))) ∷ node Kind.MethodDefinition 12 (more (child (node Kind.IdentifierName 13 (more (string (codes "m")) end))) (more (child (node Kind.FunctionExpression 14 (more absent (more (list end) (more (child (node Kind.BlockStatement 15 (more (list (trees (node Kind.ExpressionStatement 16 (more (child (node Kind.AssignmentExpression 17 (more (string (codes "+=")) (more (child (node Kind.PrivateField 18 (more (child (node Kind.IdentifierReference 19 (more (string (codes "o")) end))) (more (child (node Kind.PrivateIdentifier 20 (more (string (codes "x")) end))) (more (boolean false) (more (boolean false) end)))))) (more (child (node Kind.Literal 21 (more (literal (literal_value.Number (codes "1"))) end))) end))))) (more no_string end)) ∷ []))) end))) (more (boolean false) (more (boolean false) end))))))) (more (string (codes "method")) (more (boolean false) (more (boolean false) end))))) ∷ []))) end))) end))) ∷ []))) end))

-- `let o = f(); class A { #x = 1; m() { o.#x += 1; } }`, with numbers of the first
abbrev pub second_imported_object : Tree
second_imported_object = node Kind.Program 0 (more (string (codes "module")) (more (list (trees (node Kind.VariableDeclaration 1 (more (string (codes "let")) (more (list (trees (node Kind.VariableDeclarator 2 (more (child (node Kind.BindingIdentifier 3 (more (string (codes "o")) end))) (more (child (node Kind.CallExpression 4 (more (child (node Kind.IdentifierReference 5 (more (string (codes "f")) end))) (more (list end) (more (boolean false) end))))) end)) ∷ []))) end)) ∷ node Kind.ClassDeclaration 6 (more (child (node Kind.BindingIdentifier 7 (more (string (codes "A")) end))) (more absent (more (child (node Kind.ClassBody 8 (more (list (trees (node Kind.PropertyDefinition 9 (more (child (node Kind.PrivateIdentifier 10 (more (string (codes "x")) end))) (more (child (node Kind.Literal 11 (more (literal (literal_value.Number (codes "1"))) end))) (more (boolean false) (more (boolean false) end)))) ∷ node Kind.MethodDefinition 12 (more (child (node Kind.IdentifierName 13 (more (string (codes "m")) end))) (more (child (node Kind.FunctionExpression 14 (more absent (more (list end) (more (child (node Kind.BlockStatement 15 (more (list (trees (node Kind.ExpressionStatement 16 (more (child (node Kind.AssignmentExpression 17 (more (string (codes "+=")) (more (child (node Kind.PrivateField 18 (more (child (node Kind.IdentifierReference 19 (more (string (codes "o")) end))) (more (child (node Kind.PrivateIdentifier 20 (more (string (codes "x")) end))) (more (boolean false) (more (boolean false) end)))))) (more (child (node Kind.Literal 21 (more (literal (literal_value.Number (codes "1"))) end))) end))))) (more no_string end)) ∷ []))) end))) (more (boolean false) (more (boolean false) end))))))) (more (string (codes "method")) (more (boolean false) (more (boolean false) end))))) ∷ []))) end))) end))) ∷ []))) end))

abbrev pub options_imported_object : Options
options_imported_object = options_of false (Some (record { loose = false })) false
