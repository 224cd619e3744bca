-- Printed by tools/rows/number-rows.js from `key_in_a_loop` of tools/rows/forms.json: a worked row with its numbers.
use Rattle.std.specs.Prelude.{ℕ, List, [], ◌∷◌, true, false, codes, Some}
use Rattle.es_base.specs.Tree.{Tree, end, more, child, absent, list, string, no_string, boolean, literal, trees}
use Rattle.es_base.specs.declared.kind.Kind.{Kind}
use Rattle.es_base.specs.declared.ledger.GeneratedKind.{GeneratedKind}
use Rattle.es_base.specs.declared.ledger.LedgerEntry.{LedgerEntry}
use Rattle.es_base.specs.declared.literal.LiteralValue.TheVariants as literal_value
use Rattle.es_steps.specs.Generated.{node}
use Rattle.es_steps.specs.Options.{options_of}
use Rattle.es_steps.specs.declared.options.Options.{Options}

-- `for (; c();) { class C { [k()] = 1; } p(C); }`
abbrev pub source_key_in_a_loop : Tree
source_key_in_a_loop = node Kind.Program 0 (more (string (codes "script")) (more (list (trees (node Kind.ForStatement 1 (more absent (more (child (node Kind.CallExpression 2 (more (child (node Kind.IdentifierReference 3 (more (string (codes "c")) end))) (more (list end) (more (boolean false) end))))) (more absent (more (child (node Kind.BlockStatement 4 (more (list (trees (node Kind.ClassDeclaration 5 (more (child (node Kind.BindingIdentifier 6 (more (string (codes "C")) end))) (more absent (more (child (node Kind.ClassBody 7 (more (list (trees (node Kind.PropertyDefinition 8 (more (child (node Kind.CallExpression 9 (more (child (node Kind.IdentifierReference 10 (more (string (codes "k")) end))) (more (list end) (more (boolean false) end))))) (more (child (node Kind.Literal 11 (more (literal (literal_value.Number (codes "1"))) end))) (more (boolean true) (more (boolean false) end)))) ∷ []))) end))) end))) ∷ node Kind.ExpressionStatement 12 (more (child (node Kind.CallExpression 13 (more (child (node Kind.IdentifierReference 14 (more (string (codes "p")) end))) (more (list (trees (node Kind.IdentifierReference 15 (more (string (codes "C")) end) ∷ []))) (more (boolean false) end))))) (more no_string end)) ∷ []))) end))) end)))) ∷ []))) end))

-- the number of its nodes
abbrev pub nodes_key_in_a_loop : ℕ
nodes_key_in_a_loop = 16

-- `for (; c();) { let _k; _k = k(); class C { constructor() { B.defineProperty(this, _k, 1); } } p(C); }`
abbrev pub output_key_in_a_loop : Tree
output_key_in_a_loop = node Kind.Program 0 (more (string (codes "script")) (more (list (trees (node Kind.ForStatement 1 (more absent (more (child (node Kind.CallExpression 2 (more (child (node Kind.IdentifierReference 3 (more (string (codes "c")) end))) (more (list end) (more (boolean false) end))))) (more absent (more (child (node Kind.BlockStatement 4 (more (list (trees (node Kind.VariableDeclaration 16 (more (string (codes "let")) (more (list (trees (node Kind.VariableDeclarator 17 (more (child (node Kind.BindingIdentifier 18 (more (string (codes "_k")) end))) (more absent end)) ∷ []))) end)) ∷ node Kind.ExpressionStatement 19 (more (child (node Kind.AssignmentExpression 20 (more (string (codes "=")) (more (child (node Kind.IdentifierReference 21 (more (string (codes "_k")) end))) (more (child (node Kind.CallExpression 9 (more (child (node Kind.IdentifierReference 10 (more (string (codes "k")) end))) (more (list end) (more (boolean false) end))))) end))))) (more no_string end)) ∷ node Kind.ClassDeclaration 5 (more (child (node Kind.BindingIdentifier 6 (more (string (codes "C")) end))) (more absent (more (child (node Kind.ClassBody 7 (more (list (trees (node Kind.MethodDefinition 22 (more (child (node Kind.IdentifierName 23 (more (string (codes "constructor")) end))) (more (child (node Kind.FunctionExpression 24 (more absent (more (list end) (more (child (node Kind.BlockStatement 25 (more (list (trees (node Kind.ExpressionStatement 26 (more (child (node Kind.CallExpression 27 (more (child (node Kind.MemberExpression 28 (more (child (node Kind.IdentifierReference 29 (more (string (codes "babelHelpers")) end))) (more (child (node Kind.IdentifierName 30 (more (string (codes "defineProperty")) end))) (more (boolean false) (more (boolean false) end)))))) (more (list (trees (node Kind.ThisExpression 31 end ∷ node Kind.IdentifierReference 32 (more (string (codes "_k")) end) ∷ node Kind.Literal 11 (more (literal (literal_value.Number (codes "1"))) end) ∷ []))) (more (boolean false) end))))) (more no_string end)) ∷ []))) end))) (more (boolean false) (more (boolean false) end))))))) (more (string (codes "constructor")) (more (boolean false) (more (boolean false) end))))) ∷ []))) end))) end))) ∷ node Kind.ExpressionStatement 12 (more (child (node Kind.CallExpression 13 (more (child (node Kind.IdentifierReference 14 (more (string (codes "p")) end))) (more (list (trees (node Kind.IdentifierReference 15 (more (string (codes "C")) end) ∷ []))) (more (boolean false) end))))) (more no_string end)) ∷ []))) end))) end)))) ∷ []))) end))

abbrev pub generated_key_in_a_loop : List LedgerEntry
generated_key_in_a_loop = record { name = codes "_k"; kind = GeneratedKind.Temp } ∷ []

-- the numbers of its shapes
abbrev pub outside_key_in_a_loop : List ℕ
outside_key_in_a_loop = []

abbrev pub options_key_in_a_loop : Options
options_key_in_a_loop = options_of false (Some (record { loose = false })) false
