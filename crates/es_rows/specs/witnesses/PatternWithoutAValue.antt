-- Printed by tools/rows/witnesses.js.
use Rattle.std.specs.Prelude.{ℕ, List, [], ◌∷◌, true, false, codes, Some, None}
use Rattle.es_base.specs.Tree.{Tree, end, more, child, absent, list, string, no_string, boolean, literal, trees}
use Rattle.es_base.specs.declared.kind.Kind.{Kind}
use Rattle.es_base.specs.declared.ledger.LedgerEntry.{LedgerEntry}
use Rattle.es_base.specs.declared.literal.LiteralValue.TheVariants as literal_value
use Rattle.es_steps.specs.Generated.{node}
use Rattle.es_steps.specs.Options.{options_of}
use Rattle.es_steps.specs.declared.options.Options.{Options}

-- `f(class { x = 1; });`
abbrev pub source_pattern_without_a_value : Tree
source_pattern_without_a_value = node Kind.Program 0 (more (string (codes "script")) (more (list (trees (node Kind.ExpressionStatement 1 (more (child (node Kind.CallExpression 2 (more (child (node Kind.IdentifierReference 3 (more (string (codes "f")) end))) (more (list (trees (node Kind.ClassExpression 4 (more absent (more absent (more (child (node Kind.ClassBody 5 (more (list (trees (node Kind.PropertyDefinition 6 (more (child (node Kind.IdentifierName 7 (more (string (codes "x")) end))) (more (child (node Kind.Literal 8 (more (literal (literal_value.Number (codes "1"))) end))) (more (boolean false) (more (boolean false) end)))) ∷ []))) end))) end))) ∷ []))) (more (boolean false) end))))) (more no_string end)) ∷ []))) end))

-- a new `let` of a pattern without a value, where `f(class { constructor() { B.defineProperty(this, "x", 1); } });` is right
abbrev pub output_pattern_without_a_value : Tree
output_pattern_without_a_value = node Kind.Program 0 (more (string (codes "script")) (more (list (trees (node Kind.VariableDeclaration 9 (more (string (codes "let")) (more (list (trees (node Kind.VariableDeclarator 10 (more (child (node Kind.ObjectPattern 11 (more (list (trees (node Kind.BindingProperty 12 (more (child (node Kind.IdentifierName 13 (more (string (codes "a")) end))) (more (child (node Kind.BindingIdentifier 14 (more (string (codes "a")) end))) (more (string (codes "init")) (more (boolean false) (more (boolean true) (more (boolean false) end)))))) ∷ []))) end))) (more absent end)) ∷ []))) end)) ∷ node Kind.ExpressionStatement 1 (more (child (node Kind.CallExpression 2 (more (child (node Kind.IdentifierReference 3 (more (string (codes "f")) end))) (more (list (trees (node Kind.ClassExpression 4 (more absent (more absent (more (child (node Kind.ClassBody 5 (more (list (trees (node Kind.MethodDefinition 15 (more (child (node Kind.IdentifierName 16 (more (string (codes "constructor")) end))) (more (child (node Kind.FunctionExpression 17 (more absent (more (list end) (more (child (node Kind.BlockStatement 18 (more (list (trees (node Kind.ExpressionStatement 19 (more (child (node Kind.CallExpression 20 (more (child (node Kind.MemberExpression 21 (more (child (node Kind.IdentifierReference 22 (more (string (codes "babelHelpers")) end))) (more (child (node Kind.IdentifierName 23 (more (string (codes "defineProperty")) end))) (more (boolean false) (more (boolean false) end)))))) (more (list (trees (node Kind.ThisExpression 24 end ∷ node Kind.Literal 25 (more (literal (literal_value.String (codes "x") None)) end) ∷ node Kind.Literal 8 (more (literal (literal_value.Number (codes "1"))) end) ∷ []))) (more (boolean false) end))))) (more no_string end)) ∷ []))) end))) (more (boolean false) (more (boolean false) end))))))) (more (string (codes "constructor")) (more (boolean false) (more (boolean false) end))))) ∷ []))) end))) end))) ∷ []))) (more (boolean false) end))))) (more no_string end)) ∷ []))) end))

abbrev pub generated_pattern_without_a_value : List LedgerEntry
generated_pattern_without_a_value = []

abbrev pub options_pattern_without_a_value : Options
options_pattern_without_a_value = options_of false (Some (record { loose = false })) false
