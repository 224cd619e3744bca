-- Printed by tools/rows/witnesses.js.
use Rattle.std.specs.Prelude.{ℕ, List, [], ◌∷◌, true, false, codes, Some}
use Rattle.es_base.specs.Tree.{Tree, end, more, child, absent, list, string, no_string, boolean, literal, trees}
use Rattle.es_base.specs.declared.kind.Kind.{Kind}
use Rattle.es_base.specs.declared.ledger.GeneratedKind.{GeneratedKind}
use Rattle.es_base.specs.declared.ledger.LedgerEntry.{LedgerEntry}
use Rattle.es_base.specs.declared.literal.LiteralValue.TheVariants as literal_value
use Rattle.es_steps.specs.Generated.{node}
use Rattle.es_steps.specs.Options.{options_of}
use Rattle.es_steps.specs.declared.options.Options.{Options}

-- `class A { [/a/] = 1; }`
abbrev pub source_regular_expression_as_a_key : Tree
source_regular_expression_as_a_key = node Kind.Program 0 (more (string (codes "script")) (more (list (trees (node Kind.ClassDeclaration 1 (more (child (node Kind.BindingIdentifier 2 (more (string (codes "A")) end))) (more absent (more (child (node Kind.ClassBody 3 (more (list (trees (node Kind.PropertyDefinition 4 (more (child (node Kind.Literal 5 (more (literal (literal_value.RegExp (codes "a") (codes ""))) end))) (more (child (node Kind.Literal 6 (more (literal (literal_value.Number (codes "1"))) end))) (more (boolean true) (more (boolean false) end)))) ∷ []))) end))) end))) ∷ []))) end))

-- a regular expression as the key of a field, made once, as `var _k; _k = B.toPropertyKey(/a/); class A { constructor() { B.defineProperty(this, _k, 1); } }` means
abbrev pub output_regular_expression_as_a_key : Tree
output_regular_expression_as_a_key = node Kind.Program 0 (more (string (codes "script")) (more (list (trees (node Kind.VariableDeclaration 7 (more (string (codes "var")) (more (list (trees (node Kind.VariableDeclarator 8 (more (child (node Kind.BindingIdentifier 9 (more (string (codes "_k")) end))) (more absent end)) ∷ []))) end)) ∷ node Kind.ExpressionStatement 10 (more (child (node Kind.AssignmentExpression 11 (more (string (codes "=")) (more (child (node Kind.IdentifierReference 12 (more (string (codes "_k")) end))) (more (child (node Kind.CallExpression 13 (more (child (node Kind.MemberExpression 14 (more (child (node Kind.IdentifierReference 15 (more (string (codes "babelHelpers")) end))) (more (child (node Kind.IdentifierName 16 (more (string (codes "toPropertyKey")) end))) (more (boolean false) (more (boolean false) end)))))) (more (list (trees (node Kind.Literal 5 (more (literal (literal_value.RegExp (codes "a") (codes ""))) end) ∷ []))) (more (boolean false) end))))) end))))) (more no_string end)) ∷ node Kind.ClassDeclaration 1 (more (child (node Kind.BindingIdentifier 2 (more (string (codes "A")) end))) (more absent (more (child (node Kind.ClassBody 3 (more (list (trees (node Kind.MethodDefinition 17 (more (child (node Kind.IdentifierName 18 (more (string (codes "constructor")) end))) (more (child (node Kind.FunctionExpression 19 (more absent (more (list end) (more (child (node Kind.BlockStatement 20 (more (list (trees (node Kind.ExpressionStatement 21 (more (child (node Kind.CallExpression 22 (more (child (node Kind.MemberExpression 23 (more (child (node Kind.IdentifierReference 24 (more (string (codes "babelHelpers")) end))) (more (child (node Kind.IdentifierName 25 (more (string (codes "defineProperty")) end))) (more (boolean false) (more (boolean false) end)))))) (more (list (trees (node Kind.ThisExpression 26 end ∷ node Kind.IdentifierReference 27 (more (string (codes "_k")) end) ∷ node Kind.Literal 6 (more (literal (literal_value.Number (codes "1"))) end) ∷ []))) (more (boolean false) end))))) (more no_string end)) ∷ []))) end))) (more (boolean false) (more (boolean false) end))))))) (more (string (codes "constructor")) (more (boolean false) (more (boolean false) end))))) ∷ []))) end))) end))) ∷ []))) end))

abbrev pub generated_regular_expression_as_a_key : List LedgerEntry
generated_regular_expression_as_a_key = record { name = codes "_k"; kind = GeneratedKind.Temp } ∷ []

abbrev pub options_regular_expression_as_a_key : Options
options_regular_expression_as_a_key = options_of false (Some (record { loose = false })) false
