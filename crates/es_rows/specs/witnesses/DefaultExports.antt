-- Printed by tools/rows/witnesses.js.
use Rattle.std.specs.Prelude.{ℕ, List, [], ◌∷◌, false, codes, None}
use Rattle.es_base.specs.Tree.{Tree, end, more, child, absent, list, string, literal, trees}
use Rattle.es_base.specs.declared.kind.Kind.{Kind}
use Rattle.es_base.specs.declared.ledger.LedgerEntry.{LedgerEntry}
use Rattle.es_base.specs.declared.literal.LiteralValue.TheVariants as literal_value
use Rattle.es_steps.specs.Generated.{node}
use Rattle.es_steps.specs.Options.{options_of}
use Rattle.es_steps.specs.declared.options.Options.{Options}

-- what a module exports: `export { a as x, b as y }; let a = 1, b = 2;`
abbrev pub first_default_exports : Tree
first_default_exports = node Kind.Program 0 (more (string (codes "module")) (more (list (trees (node Kind.ExportNamedDeclaration 1 (more absent (more (list (trees (node Kind.ExportSpecifier 2 (more (child (node Kind.IdentifierReference 3 (more (string (codes "a")) end))) (more (child (node Kind.IdentifierName 4 (more (string (codes "x")) end))) end)) ∷ node Kind.ExportSpecifier 5 (more (child (node Kind.IdentifierReference 6 (more (string (codes "b")) end))) (more (child (node Kind.IdentifierName 7 (more (string (codes "y")) end))) end)) ∷ []))) (more absent end))) ∷ node Kind.VariableDeclaration 8 (more (string (codes "let")) (more (list (trees (node Kind.VariableDeclarator 9 (more (child (node Kind.BindingIdentifier 10 (more (string (codes "a")) end))) (more (child (node Kind.Literal 11 (more (literal (literal_value.Number (codes "1"))) end))) end)) ∷ node Kind.VariableDeclarator 12 (more (child (node Kind.BindingIdentifier 13 (more (string (codes "b")) end))) (more (child (node Kind.Literal 14 (more (literal (literal_value.Number (codes "2"))) end))) end)) ∷ []))) end)) ∷ []))) end))

-- `export { a as y, b as x }; let a = 1, b = 2;`, with numbers of the first
abbrev pub second_default_exports : Tree
second_default_exports = node Kind.Program 0 (more (string (codes "module")) (more (list (trees (node Kind.ExportNamedDeclaration 1 (more absent (more (list (trees (node Kind.ExportSpecifier 2 (more (child (node Kind.IdentifierReference 3 (more (string (codes "a")) end))) (more (child (node Kind.IdentifierName 4 (more (string (codes "y")) end))) end)) ∷ node Kind.ExportSpecifier 5 (more (child (node Kind.IdentifierReference 6 (more (string (codes "b")) end))) (more (child (node Kind.IdentifierName 7 (more (string (codes "x")) end))) end)) ∷ []))) (more absent end))) ∷ node Kind.VariableDeclaration 8 (more (string (codes "let")) (more (list (trees (node Kind.VariableDeclarator 9 (more (child (node Kind.BindingIdentifier 10 (more (string (codes "a")) end))) (more (child (node Kind.Literal 11 (more (literal (literal_value.Number (codes "1"))) end))) end)) ∷ node Kind.VariableDeclarator 12 (more (child (node Kind.BindingIdentifier 13 (more (string (codes "b")) end))) (more (child (node Kind.Literal 14 (more (literal (literal_value.Number (codes "2"))) end))) end)) ∷ []))) end)) ∷ []))) end))

abbrev pub options_default_exports : Options
options_default_exports = options_of false None false
