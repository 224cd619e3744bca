-- Printed by tools/rows/witnesses.js.
use Rattle.std.specs.Prelude.{ℕ, List, [], ◌∷◌, true, false, codes, Some}
use Rattle.es_base.specs.Tree.{Tree, end, more, child, absent, list, string, no_string, boolean, literal, trees}
use Rattle.es_base.specs.declared.kind.Kind.{Kind}
use Rattle.es_base.specs.declared.ledger.GeneratedKind.{GeneratedKind}
use Rattle.es_base.specs.declared.ledger.LedgerEntry.{LedgerEntry}
use Rattle.es_base.specs.declared.literal.LiteralValue.TheVariants as literal_value
use Rattle.es_steps.specs.Generated.{node}
use Rattle.es_steps.specs.Options.{options_of}
use Rattle.es_steps.specs.declared.options.Options.{Options}

-- `class C { static [k()] = 1; }`
abbrev pub source_temporary_given_late : Tree
source_temporary_given_late = node Kind.Program 0 (more (string (codes "script")) (more (list (trees (node Kind.ClassDeclaration 1 (more (child (node Kind.BindingIdentifier 2 (more (string (codes "C")) end))) (more absent (more (child (node Kind.ClassBody 3 (more (list (trees (node Kind.PropertyDefinition 4 (more (child (node Kind.CallExpression 5 (more (child (node Kind.IdentifierReference 6 (more (string (codes "k")) end))) (more (list end) (more (boolean false) end))))) (more (child (node Kind.Literal 7 (more (literal (literal_value.Number (codes "1"))) end))) (more (boolean true) (more (boolean true) end)))) ∷ []))) end))) end))) ∷ []))) end))

-- a key whose temporary is given behind its class, where `let _k; _k = k(); class C {} B.defineProperty(C, _k, 1);` is right
abbrev pub output_temporary_given_late : Tree
output_temporary_given_late = node Kind.Program 0 (more (string (codes "script")) (more (list (trees (node Kind.VariableDeclaration 8 (more (string (codes "let")) (more (list (trees (node Kind.VariableDeclarator 9 (more (child (node Kind.BindingIdentifier 10 (more (string (codes "_k")) end))) (more absent end)) ∷ []))) end)) ∷ node Kind.ClassDeclaration 1 (more (child (node Kind.BindingIdentifier 2 (more (string (codes "C")) end))) (more absent (more (child (node Kind.ClassBody 3 (more (list end) end))) end))) ∷ node Kind.ExpressionStatement 11 (more (child (node Kind.CallExpression 12 (more (child (node Kind.MemberExpression 13 (more (child (node Kind.IdentifierReference 14 (more (string (codes "babelHelpers")) end))) (more (child (node Kind.IdentifierName 15 (more (string (codes "defineProperty")) end))) (more (boolean false) (more (boolean false) end)))))) (more (list (trees (node Kind.IdentifierReference 16 (more (string (codes "C")) end) ∷ node Kind.IdentifierReference 17 (more (string (codes "_k")) end) ∷ node Kind.Literal 7 (more (literal (literal_value.Number (codes "1"))) end) ∷ []))) (more (boolean false) end))))) (more no_string end)) ∷ node Kind.ExpressionStatement 18 (more (child (node Kind.AssignmentExpression 19 (more (string (codes "=")) (more (child (node Kind.IdentifierReference 20 (more (string (codes "_k")) end))) (more (child (node Kind.CallExpression 5 (more (child (node Kind.IdentifierReference 6 (more (string (codes "k")) end))) (more (list end) (more (boolean false) end))))) end))))) (more no_string end)) ∷ []))) end))

abbrev pub generated_temporary_given_late : List LedgerEntry
generated_temporary_given_late = record { name = codes "_k"; kind = GeneratedKind.Temp } ∷ []

abbrev pub options_temporary_given_late : Options
options_temporary_given_late = options_of false (Some (record { loose = false })) false
