-- Printed by tools/rows/witnesses.js.
use Rattle.std.specs.Prelude.{ℕ, List, [], ◌∷◌, true, false, codes, Some, None}
use Rattle.es_base.specs.Tree.{Tree, end, more, child, absent, list, string, no_string, boolean, literal, trees}
use Rattle.es_base.specs.declared.kind.Kind.{Kind}
use Rattle.es_base.specs.declared.ledger.LedgerEntry.{LedgerEntry}
use Rattle.es_base.specs.declared.literal.LiteralValue.TheVariants as literal_value
use Rattle.es_steps.specs.Generated.{node}
use Rattle.es_steps.specs.Options.{options_of}
use Rattle.es_steps.specs.declared.options.Options.{Options}

-- `k(class extends h() { [(g, 1)]() { } }, class { x = 1; }); let g = f();`
abbrev pub source_key_of_a_class_in_front_of_its_heritage : Tree
source_key_of_a_class_in_front_of_its_heritage = node Kind.Program 0 (more (string (codes "script")) (more (list (trees (node Kind.ExpressionStatement 1 (more (child (node Kind.CallExpression 2 (more (child (node Kind.IdentifierReference 3 (more (string (codes "k")) end))) (more (list (trees (node Kind.ClassExpression 4 (more absent (more (child (node Kind.CallExpression 5 (more (child (node Kind.IdentifierReference 6 (more (string (codes "h")) end))) (more (list end) (more (boolean false) end))))) (more (child (node Kind.ClassBody 7 (more (list (trees (node Kind.MethodDefinition 8 (more (child (node Kind.SequenceExpression 9 (more (list (trees (node Kind.IdentifierReference 10 (more (string (codes "g")) end) ∷ node Kind.Literal 11 (more (literal (literal_value.Number (codes "1"))) end) ∷ []))) end))) (more (child (node Kind.FunctionExpression 12 (more absent (more (list end) (more (child (node Kind.BlockStatement 13 (more (list end) end))) (more (boolean false) (more (boolean false) end))))))) (more (string (codes "method")) (more (boolean true) (more (boolean false) end))))) ∷ []))) end))) end))) ∷ node Kind.ClassExpression 14 (more absent (more absent (more (child (node Kind.ClassBody 15 (more (list (trees (node Kind.PropertyDefinition 16 (more (child (node Kind.IdentifierName 17 (more (string (codes "x")) end))) (more (child (node Kind.Literal 18 (more (literal (literal_value.Number (codes "1"))) end))) (more (boolean false) (more (boolean false) end)))) ∷ []))) end))) end))) ∷ []))) (more (boolean false) end))))) (more no_string end)) ∷ node Kind.VariableDeclaration 19 (more (string (codes "let")) (more (list (trees (node Kind.VariableDeclarator 20 (more (child (node Kind.BindingIdentifier 21 (more (string (codes "g")) end))) (more (child (node Kind.CallExpression 22 (more (child (node Kind.IdentifierReference 23 (more (string (codes "f")) end))) (more (list end) (more (boolean false) end))))) end)) ∷ []))) end)) ∷ []))) end))

-- what stands in a key of a class that is not lowered gets in front of its heritage: `k((g, class extends h() { [1]() { } }), class { constructor() { B.defineProperty(this, "x", 1); } }); let g = f();`
abbrev pub output_key_of_a_class_in_front_of_its_heritage : Tree
output_key_of_a_class_in_front_of_its_heritage = node Kind.Program 0 (more (string (codes "script")) (more (list (trees (node Kind.ExpressionStatement 1 (more (child (node Kind.CallExpression 2 (more (child (node Kind.IdentifierReference 3 (more (string (codes "k")) end))) (more (list (trees (node Kind.SequenceExpression 9 (more (list (trees (node Kind.IdentifierReference 10 (more (string (codes "g")) end) ∷ node Kind.ClassExpression 4 (more absent (more (child (node Kind.CallExpression 5 (more (child (node Kind.IdentifierReference 6 (more (string (codes "h")) end))) (more (list end) (more (boolean false) end))))) (more (child (node Kind.ClassBody 7 (more (list (trees (node Kind.MethodDefinition 8 (more (child (node Kind.Literal 11 (more (literal (literal_value.Number (codes "1"))) end))) (more (child (node Kind.FunctionExpression 12 (more absent (more (list end) (more (child (node Kind.BlockStatement 13 (more (list end) end))) (more (boolean false) (more (boolean false) end))))))) (more (string (codes "method")) (more (boolean true) (more (boolean false) end))))) ∷ []))) end))) end))) ∷ []))) end) ∷ node Kind.ClassExpression 14 (more absent (more absent (more (child (node Kind.ClassBody 15 (more (list (trees (node Kind.MethodDefinition 24 (more (child (node Kind.IdentifierName 25 (more (string (codes "constructor")) end))) (more (child (node Kind.FunctionExpression 26 (more absent (more (list end) (more (child (node Kind.BlockStatement 27 (more (list (trees (node Kind.ExpressionStatement 28 (more (child (node Kind.CallExpression 29 (more (child (node Kind.MemberExpression 30 (more (child (node Kind.IdentifierReference 31 (more (string (codes "babelHelpers")) end))) (more (child (node Kind.IdentifierName 32 (more (string (codes "defineProperty")) end))) (more (boolean false) (more (boolean false) end)))))) (more (list (trees (node Kind.ThisExpression 33 end ∷ node Kind.Literal 34 (more (literal (literal_value.String (codes "x") None)) end) ∷ node Kind.Literal 18 (more (literal (literal_value.Number (codes "1"))) end) ∷ []))) (more (boolean false) end))))) (more no_string end)) ∷ []))) end))) (more (boolean false) (more (boolean false) end))))))) (more (string (codes "constructor")) (more (boolean false) (more (boolean false) end))))) ∷ []))) end))) end))) ∷ []))) (more (boolean false) end))))) (more no_string end)) ∷ node Kind.VariableDeclaration 19 (more (string (codes "let")) (more (list (trees (node Kind.VariableDeclarator 20 (more (child (node Kind.BindingIdentifier 21 (more (string (codes "g")) end))) (more (child (node Kind.CallExpression 22 (more (child (node Kind.IdentifierReference 23 (more (string (codes "f")) end))) (more (list end) (more (boolean false) end))))) end)) ∷ []))) end)) ∷ []))) end))

abbrev pub generated_key_of_a_class_in_front_of_its_heritage : List LedgerEntry
generated_key_of_a_class_in_front_of_its_heritage = []

abbrev pub options_key_of_a_class_in_front_of_its_heritage : Options
options_key_of_a_class_in_front_of_its_heritage = options_of false (Some (record { loose = false })) false
