-- Printed by tools/rows/witnesses.js.
use Rattle.std.specs.Prelude.{ℕ, List, [], ◌∷◌, true, false, codes, Some}
use Rattle.es_base.specs.Tree.{Tree, end, more, child, absent, list, string, no_string, boolean, literal, trees}
use Rattle.es_base.specs.declared.kind.Kind.{Kind}
use Rattle.es_base.specs.declared.ledger.GeneratedKind.{GeneratedKind}
use Rattle.es_base.specs.declared.ledger.LedgerEntry.{LedgerEntry}
use Rattle.es_base.specs.declared.literal.LiteralValue.TheVariants as literal_value
use Rattle.es_steps.specs.Generated.{node}
use Rattle.es_steps.specs.Options.{options_of}
use Rattle.es_steps.specs.declared.options.Options.{Options}

-- `class C { static [foo()] = 1; static { bar(); } }`
abbrev pub source_key_given_behind_the_fields : Tree
source_key_given_behind_the_fields = node Kind.Program 0 (more (string (codes "script")) (more (list (trees (node Kind.ClassDeclaration 1 (more (child (node Kind.BindingIdentifier 2 (more (string (codes "C")) end))) (more absent (more (child (node Kind.ClassBody 3 (more (list (trees (node Kind.PropertyDefinition 4 (more (child (node Kind.CallExpression 5 (more (child (node Kind.IdentifierReference 6 (more (string (codes "foo")) end))) (more (list end) (more (boolean false) end))))) (more (child (node Kind.Literal 7 (more (literal (literal_value.Number (codes "1"))) end))) (more (boolean true) (more (boolean true) end)))) ∷ node Kind.StaticBlock 8 (more (list (trees (node Kind.ExpressionStatement 9 (more (child (node Kind.CallExpression 10 (more (child (node Kind.IdentifierReference 11 (more (string (codes "bar")) end))) (more (list end) (more (boolean false) end))))) (more no_string end)) ∷ []))) end) ∷ []))) end))) end))) ∷ []))) end))

-- a key whose temporary is given behind the static field, where `let _foo; _foo = foo(); class C {} B.defineProperty(C, _foo, 1); bar();` is right
abbrev pub output_key_given_behind_the_fields : Tree
output_key_given_behind_the_fields = node Kind.Program 0 (more (string (codes "script")) (more (list (trees (node Kind.VariableDeclaration 12 (more (string (codes "let")) (more (list (trees (node Kind.VariableDeclarator 13 (more (child (node Kind.BindingIdentifier 14 (more (string (codes "_foo")) end))) (more absent end)) ∷ []))) end)) ∷ node Kind.ClassDeclaration 1 (more (child (node Kind.BindingIdentifier 2 (more (string (codes "C")) end))) (more absent (more (child (node Kind.ClassBody 3 (more (list end) end))) end))) ∷ node Kind.ExpressionStatement 15 (more (child (node Kind.CallExpression 16 (more (child (node Kind.MemberExpression 17 (more (child (node Kind.IdentifierReference 18 (more (string (codes "babelHelpers")) end))) (more (child (node Kind.IdentifierName 19 (more (string (codes "defineProperty")) end))) (more (boolean false) (more (boolean false) end)))))) (more (list (trees (node Kind.IdentifierReference 20 (more (string (codes "C")) end) ∷ node Kind.IdentifierReference 21 (more (string (codes "_foo")) end) ∷ node Kind.Literal 7 (more (literal (literal_value.Number (codes "1"))) end) ∷ []))) (more (boolean false) end))))) (more no_string end)) ∷ node Kind.ExpressionStatement 22 (more (child (node Kind.AssignmentExpression 23 (more (string (codes "=")) (more (child (node Kind.IdentifierReference 24 (more (string (codes "_foo")) end))) (more (child (node Kind.CallExpression 5 (more (child (node Kind.IdentifierReference 6 (more (string (codes "foo")) end))) (more (list end) (more (boolean false) end))))) end))))) (more no_string end)) ∷ node Kind.ExpressionStatement 9 (more (child (node Kind.CallExpression 10 (more (child (node Kind.IdentifierReference 11 (more (string (codes "bar")) end))) (more (list end) (more (boolean false) end))))) (more no_string end)) ∷ []))) end))

abbrev pub generated_key_given_behind_the_fields : List LedgerEntry
generated_key_given_behind_the_fields = record { name = codes "_foo"; kind = GeneratedKind.Temp } ∷ []

abbrev pub options_key_given_behind_the_fields : Options
options_key_given_behind_the_fields = options_of true (Some (record { loose = false })) false
