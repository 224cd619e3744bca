-- Printed by tools/rows/witnesses.js.
use Rattle.std.specs.Prelude.{ℕ, List, [], ◌∷◌, false, codes, Some, None}
use Rattle.es_base.specs.Tree.{Tree, end, more, child, list, string, no_string, boolean, literal, trees}
use Rattle.es_base.specs.declared.kind.Kind.{Kind}
use Rattle.es_base.specs.declared.ledger.LedgerEntry.{LedgerEntry}
use Rattle.es_base.specs.declared.literal.LiteralValue.TheVariants as literal_value
use Rattle.es_steps.specs.Generated.{node}
use Rattle.es_steps.specs.Options.{options_of}
use Rattle.es_steps.specs.declared.options.Options.{Options}

-- what a module imports: `import { x as a, y as b } from "m"; f(a, b);`
abbrev pub first_imports_exchanged : Tree
first_imports_exchanged = node Kind.Program 0 (more (string (codes "module")) (more (list (trees (node Kind.ImportDeclaration 1 (more (list (trees (node Kind.ImportSpecifier 2 (more (child (node Kind.IdentifierName 3 (more (string (codes "x")) end))) (more (child (node Kind.BindingIdentifier 4 (more (string (codes "a")) end))) end)) ∷ node Kind.ImportSpecifier 5 (more (child (node Kind.IdentifierName 6 (more (string (codes "y")) end))) (more (child (node Kind.BindingIdentifier 7 (more (string (codes "b")) end))) end)) ∷ []))) (more (child (node Kind.Literal 8 (more (literal (literal_value.String (codes "m") (Some (codes "\"m\"")))) end))) end)) ∷ node Kind.ExpressionStatement 9 (more (child (node Kind.CallExpression 10 (more (child (node Kind.IdentifierReference 11 (more (string (codes "f")) end))) (more (list (trees (node Kind.IdentifierReference 12 (more (string (codes "a")) end) ∷ node Kind.IdentifierReference 13 (more (string (codes "b")) end) ∷ []))) (more (boolean false) end))))) (more no_string end)) ∷ []))) end))

-- `import { y as a, x as b } from "m"; f(a, b);`, with numbers of the first
abbrev pub second_imports_exchanged : Tree
second_imports_exchanged = node Kind.Program 0 (more (string (codes "module")) (more (list (trees (node Kind.ImportDeclaration 1 (more (list (trees (node Kind.ImportSpecifier 2 (more (child (node Kind.IdentifierName 3 (more (string (codes "y")) end))) (more (child (node Kind.BindingIdentifier 4 (more (string (codes "a")) end))) end)) ∷ node Kind.ImportSpecifier 5 (more (child (node Kind.IdentifierName 6 (more (string (codes "x")) end))) (more (child (node Kind.BindingIdentifier 7 (more (string (codes "b")) end))) end)) ∷ []))) (more (child (node Kind.Literal 8 (more (literal (literal_value.String (codes "m") (Some (codes "\"m\"")))) end))) end)) ∷ node Kind.ExpressionStatement 9 (more (child (node Kind.CallExpression 10 (more (child (node Kind.IdentifierReference 11 (more (string (codes "f")) end))) (more (list (trees (node Kind.IdentifierReference 12 (more (string (codes "a")) end) ∷ node Kind.IdentifierReference 13 (more (string (codes "b")) end) ∷ []))) (more (boolean false) end))))) (more no_string end)) ∷ []))) end))

abbrev pub options_imports_exchanged : Options
options_imports_exchanged = options_of false None false
