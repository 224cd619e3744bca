-- Printed by tools/rows/witnesses.js.
use Rattle.std.specs.Prelude.{ℕ, List, [], ◌∷◌, true, false, codes, Some}
use Rattle.es_base.specs.Tree.{Tree, end, more, child, absent, list, string, no_string, boolean, literal, trees}
use Rattle.es_base.specs.declared.kind.Kind.{Kind}
use Rattle.es_base.specs.declared.ledger.GeneratedKind.{GeneratedKind}
use Rattle.es_base.specs.declared.ledger.LedgerEntry.{LedgerEntry}
use Rattle.es_base.specs.declared.literal.LiteralValue.TheVariants as literal_value
use Rattle.es_steps.specs.Generated.{node}
use Rattle.es_steps.specs.Options.{options_of}
use Rattle.es_steps.specs.declared.options.Options.{Options}

-- `const a = 1, C = class { [k()] = 1 };`
abbrev pub source_declarator_in_a_const : Tree
source_declarator_in_a_const = node Kind.Program 0 (more (string (codes "script")) (more (list (trees (node Kind.VariableDeclaration 1 (more (string (codes "const")) (more (list (trees (node Kind.VariableDeclarator 2 (more (child (node Kind.BindingIdentifier 3 (more (string (codes "a")) end))) (more (child (node Kind.Literal 4 (more (literal (literal_value.Number (codes "1"))) end))) end)) ∷ node Kind.VariableDeclarator 5 (more (child (node Kind.BindingIdentifier 6 (more (string (codes "C")) end))) (more (child (node Kind.ClassExpression 7 (more absent (more absent (more (child (node Kind.ClassBody 8 (more (list (trees (node Kind.PropertyDefinition 9 (more (child (node Kind.CallExpression 10 (more (child (node Kind.IdentifierReference 11 (more (string (codes "k")) end))) (more (list end) (more (boolean false) end))))) (more (child (node Kind.Literal 12 (more (literal (literal_value.Number (codes "1"))) end))) (more (boolean true) (more (boolean false) end)))) ∷ []))) end))) end))))) end)) ∷ []))) end)) ∷ []))) end))

-- a new declarator in a `const` of the source, where `var _k; const a = 1, C = (_k = B.toPropertyKey(k()), class { constructor() { B.defineProperty(this, _k, 1); } });` is right
abbrev pub output_declarator_in_a_const : Tree
output_declarator_in_a_const = node Kind.Program 0 (more (string (codes "script")) (more (list (trees (node Kind.VariableDeclaration 1 (more (string (codes "const")) (more (list (trees (node Kind.VariableDeclarator 2 (more (child (node Kind.BindingIdentifier 3 (more (string (codes "a")) end))) (more (child (node Kind.Literal 4 (more (literal (literal_value.Number (codes "1"))) end))) end)) ∷ node Kind.VariableDeclarator 13 (more (child (node Kind.BindingIdentifier 14 (more (string (codes "_k")) end))) (more absent end)) ∷ node Kind.VariableDeclarator 5 (more (child (node Kind.BindingIdentifier 6 (more (string (codes "C")) end))) (more (child (node Kind.SequenceExpression 15 (more (list (trees (node Kind.AssignmentExpression 16 (more (string (codes "=")) (more (child (node Kind.IdentifierReference 17 (more (string (codes "_k")) end))) (more (child (node Kind.CallExpression 18 (more (child (node Kind.MemberExpression 19 (more (child (node Kind.IdentifierReference 20 (more (string (codes "babelHelpers")) end))) (more (child (node Kind.IdentifierName 21 (more (string (codes "toPropertyKey")) end))) (more (boolean false) (more (boolean false) end)))))) (more (list (trees (node Kind.CallExpression 10 (more (child (node Kind.IdentifierReference 11 (more (string (codes "k")) end))) (more (list end) (more (boolean false) end))) ∷ []))) (more (boolean false) end))))) end))) ∷ node Kind.ClassExpression 7 (more absent (more absent (more (child (node Kind.ClassBody 8 (more (list (trees (node Kind.MethodDefinition 22 (more (child (node Kind.IdentifierName 23 (more (string (codes "constructor")) end))) (more (child (node Kind.FunctionExpression 24 (more absent (more (list end) (more (child (node Kind.BlockStatement 25 (more (list (trees (node Kind.ExpressionStatement 26 (more (child (node Kind.CallExpression 27 (more (child (node Kind.MemberExpression 28 (more (child (node Kind.IdentifierReference 29 (more (string (codes "babelHelpers")) end))) (more (child (node Kind.IdentifierName 30 (more (string (codes "defineProperty")) end))) (more (boolean false) (more (boolean false) end)))))) (more (list (trees (node Kind.ThisExpression 31 end ∷ node Kind.IdentifierReference 32 (more (string (codes "_k")) end) ∷ node Kind.Literal 12 (more (literal (literal_value.Number (codes "1"))) end) ∷ []))) (more (boolean false) end))))) (more no_string end)) ∷ []))) end))) (more (boolean false) (more (boolean false) end))))))) (more (string (codes "constructor")) (more (boolean false) (more (boolean false) end))))) ∷ []))) end))) end))) ∷ []))) end))) end)) ∷ []))) end)) ∷ []))) end))

abbrev pub generated_declarator_in_a_const : List LedgerEntry
generated_declarator_in_a_const = record { name = codes "_k"; kind = GeneratedKind.Temp } ∷ []

abbrev pub options_declarator_in_a_const : Options
options_declarator_in_a_const = options_of false (Some (record { loose = false })) false
