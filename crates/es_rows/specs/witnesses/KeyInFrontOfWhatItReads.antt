-- Printed by tools/rows/witnesses.js.
use Rattle.std.specs.Prelude.{ℕ, List, [], ◌∷◌, true, false, codes, Some}
use Rattle.es_base.specs.Tree.{Tree, end, more, child, absent, list, string, no_string, boolean, literal, trees}
use Rattle.es_base.specs.declared.kind.Kind.{Kind}
use Rattle.es_base.specs.declared.ledger.GeneratedKind.{GeneratedKind}
use Rattle.es_base.specs.declared.ledger.LedgerEntry.{LedgerEntry}
use Rattle.es_base.specs.declared.literal.LiteralValue.TheVariants as literal_value
use Rattle.es_steps.specs.Generated.{node}
use Rattle.es_steps.specs.Options.{options_of}
use Rattle.es_steps.specs.declared.options.Options.{Options}

-- `let g = f(); class A { static [g] = () => 1; }`
abbrev pub source_key_in_front_of_what_it_reads : Tree
source_key_in_front_of_what_it_reads = node Kind.Program 0 (more (string (codes "script")) (more (list (trees (node Kind.VariableDeclaration 1 (more (string (codes "let")) (more (list (trees (node Kind.VariableDeclarator 2 (more (child (node Kind.BindingIdentifier 3 (more (string (codes "g")) end))) (more (child (node Kind.CallExpression 4 (more (child (node Kind.IdentifierReference 5 (more (string (codes "f")) end))) (more (list end) (more (boolean false) end))))) end)) ∷ []))) end)) ∷ node Kind.ClassDeclaration 6 (more (child (node Kind.BindingIdentifier 7 (more (string (codes "A")) end))) (more absent (more (child (node Kind.ClassBody 8 (more (list (trees (node Kind.PropertyDefinition 9 (more (child (node Kind.IdentifierReference 10 (more (string (codes "g")) end))) (more (child (node Kind.ArrowFunctionExpression 11 (more (list end) (more (child (node Kind.Literal 12 (more (literal (literal_value.Number (codes "1"))) end))) (more (boolean false) end))))) (more (boolean true) (more (boolean true) end)))) ∷ []))) end))) end))) ∷ []))) end))

-- the name of a function is made of a key in front of the let that it reads: `var _k; _k = B.toPropertyKey(g); let g = f(); class A { } B.defineProperty(A, g, B.setFunctionName(() => 1, _k));`
abbrev pub output_key_in_front_of_what_it_reads : Tree
output_key_in_front_of_what_it_reads = node Kind.Program 0 (more (string (codes "script")) (more (list (trees (node Kind.VariableDeclaration 13 (more (string (codes "var")) (more (list (trees (node Kind.VariableDeclarator 14 (more (child (node Kind.BindingIdentifier 15 (more (string (codes "_k")) end))) (more absent end)) ∷ []))) end)) ∷ node Kind.ExpressionStatement 16 (more (child (node Kind.AssignmentExpression 17 (more (string (codes "=")) (more (child (node Kind.IdentifierReference 18 (more (string (codes "_k")) end))) (more (child (node Kind.CallExpression 19 (more (child (node Kind.MemberExpression 20 (more (child (node Kind.IdentifierReference 21 (more (string (codes "babelHelpers")) end))) (more (child (node Kind.IdentifierName 22 (more (string (codes "toPropertyKey")) end))) (more (boolean false) (more (boolean false) end)))))) (more (list (trees (node Kind.IdentifierReference 10 (more (string (codes "g")) end) ∷ []))) (more (boolean false) end))))) end))))) (more no_string end)) ∷ node Kind.VariableDeclaration 1 (more (string (codes "let")) (more (list (trees (node Kind.VariableDeclarator 2 (more (child (node Kind.BindingIdentifier 3 (more (string (codes "g")) end))) (more (child (node Kind.CallExpression 4 (more (child (node Kind.IdentifierReference 5 (more (string (codes "f")) end))) (more (list end) (more (boolean false) end))))) end)) ∷ []))) end)) ∷ node Kind.ClassDeclaration 6 (more (child (node Kind.BindingIdentifier 7 (more (string (codes "A")) end))) (more absent (more (child (node Kind.ClassBody 8 (more (list end) end))) end))) ∷ node Kind.ExpressionStatement 23 (more (child (node Kind.CallExpression 24 (more (child (node Kind.MemberExpression 25 (more (child (node Kind.IdentifierReference 26 (more (string (codes "babelHelpers")) end))) (more (child (node Kind.IdentifierName 27 (more (string (codes "defineProperty")) end))) (more (boolean false) (more (boolean false) end)))))) (more (list (trees (node Kind.IdentifierReference 28 (more (string (codes "A")) end) ∷ node Kind.IdentifierReference 29 (more (string (codes "g")) end) ∷ node Kind.CallExpression 30 (more (child (node Kind.MemberExpression 31 (more (child (node Kind.IdentifierReference 32 (more (string (codes "babelHelpers")) end))) (more (child (node Kind.IdentifierName 33 (more (string (codes "setFunctionName")) end))) (more (boolean false) (more (boolean false) end)))))) (more (list (trees (node Kind.ArrowFunctionExpression 11 (more (list end) (more (child (node Kind.Literal 12 (more (literal (literal_value.Number (codes "1"))) end))) (more (boolean false) end))) ∷ node Kind.IdentifierReference 34 (more (string (codes "_k")) end) ∷ []))) (more (boolean false) end))) ∷ []))) (more (boolean false) end))))) (more no_string end)) ∷ []))) end))

abbrev pub generated_key_in_front_of_what_it_reads : List LedgerEntry
generated_key_in_front_of_what_it_reads = record { name = codes "_k"; kind = GeneratedKind.Temp } ∷ []

abbrev pub options_key_in_front_of_what_it_reads : Options
options_key_in_front_of_what_it_reads = options_of false (Some (record { loose = false })) false
