-- Printed by tools/rows/witnesses.js.
use Rattle.std.specs.Prelude.{ℕ, List, [], ◌∷◌, true, false, codes, Some, None}
use Rattle.es_base.specs.Tree.{Tree, end, more, child, absent, list, string, no_string, boolean, literal, trees}
use Rattle.es_base.specs.declared.kind.Kind.{Kind}
use Rattle.es_base.specs.declared.ledger.GeneratedKind.{GeneratedKind}
use Rattle.es_base.specs.declared.ledger.LedgerEntry.{LedgerEntry}
use Rattle.es_base.specs.declared.literal.LiteralValue.TheVariants as literal_value
use Rattle.es_steps.specs.Generated.{node}
use Rattle.es_steps.specs.Options.{options_of}
use Rattle.es_steps.specs.declared.options.Options.{Options}

-- `f(o(), class { x = 1; [k()] = 2; });`
abbrev pub source_conversion_in_front_of_a_key : Tree
source_conversion_in_front_of_a_key = node Kind.Program 0 (more (string (codes "script")) (more (list (trees (node Kind.ExpressionStatement 1 (more (child (node Kind.CallExpression 2 (more (child (node Kind.IdentifierReference 3 (more (string (codes "f")) end))) (more (list (trees (node Kind.CallExpression 4 (more (child (node Kind.IdentifierReference 5 (more (string (codes "o")) end))) (more (list end) (more (boolean false) end))) ∷ node Kind.ClassExpression 6 (more absent (more absent (more (child (node Kind.ClassBody 7 (more (list (trees (node Kind.PropertyDefinition 8 (more (child (node Kind.IdentifierName 9 (more (string (codes "x")) end))) (more (child (node Kind.Literal 10 (more (literal (literal_value.Number (codes "1"))) end))) (more (boolean false) (more (boolean false) end)))) ∷ node Kind.PropertyDefinition 11 (more (child (node Kind.CallExpression 12 (more (child (node Kind.IdentifierReference 13 (more (string (codes "k")) end))) (more (list end) (more (boolean false) end))))) (more (child (node Kind.Literal 14 (more (literal (literal_value.Number (codes "2"))) end))) (more (boolean true) (more (boolean false) end)))) ∷ []))) end))) end))) ∷ []))) (more (boolean false) end))))) (more no_string end)) ∷ []))) end))

-- a conversion of another value in front of a class whose key is given beside it: `var _t, _k; f(_t = o(), (B.toPropertyKey((_k = k(), _t)), class { constructor() { B.defineProperty(this, "x", 1); B.defineProperty(this, _k, 2); } }));`
abbrev pub output_conversion_in_front_of_a_key : Tree
output_conversion_in_front_of_a_key = node Kind.Program 0 (more (string (codes "script")) (more (list (trees (node Kind.VariableDeclaration 15 (more (string (codes "var")) (more (list (trees (node Kind.VariableDeclarator 16 (more (child (node Kind.BindingIdentifier 17 (more (string (codes "_t")) end))) (more absent end)) ∷ node Kind.VariableDeclarator 18 (more (child (node Kind.BindingIdentifier 19 (more (string (codes "_k")) end))) (more absent end)) ∷ []))) end)) ∷ node Kind.ExpressionStatement 1 (more (child (node Kind.CallExpression 2 (more (child (node Kind.IdentifierReference 3 (more (string (codes "f")) end))) (more (list (trees (node Kind.AssignmentExpression 20 (more (string (codes "=")) (more (child (node Kind.IdentifierReference 21 (more (string (codes "_t")) end))) (more (child (node Kind.CallExpression 4 (more (child (node Kind.IdentifierReference 5 (more (string (codes "o")) end))) (more (list end) (more (boolean false) end))))) end))) ∷ node Kind.SequenceExpression 22 (more (list (trees (node Kind.CallExpression 23 (more (child (node Kind.MemberExpression 24 (more (child (node Kind.IdentifierReference 25 (more (string (codes "babelHelpers")) end))) (more (child (node Kind.IdentifierName 26 (more (string (codes "toPropertyKey")) end))) (more (boolean false) (more (boolean false) end)))))) (more (list (trees (node Kind.SequenceExpression 27 (more (list (trees (node Kind.AssignmentExpression 28 (more (string (codes "=")) (more (child (node Kind.IdentifierReference 29 (more (string (codes "_k")) end))) (more (child (node Kind.CallExpression 12 (more (child (node Kind.IdentifierReference 13 (more (string (codes "k")) end))) (more (list end) (more (boolean false) end))))) end))) ∷ node Kind.IdentifierReference 30 (more (string (codes "_t")) end) ∷ []))) end) ∷ []))) (more (boolean false) end))) ∷ node Kind.ClassExpression 6 (more absent (more absent (more (child (node Kind.ClassBody 7 (more (list (trees (node Kind.MethodDefinition 31 (more (child (node Kind.IdentifierName 32 (more (string (codes "constructor")) end))) (more (child (node Kind.FunctionExpression 33 (more absent (more (list end) (more (child (node Kind.BlockStatement 34 (more (list (trees (node Kind.ExpressionStatement 35 (more (child (node Kind.CallExpression 36 (more (child (node Kind.MemberExpression 37 (more (child (node Kind.IdentifierReference 38 (more (string (codes "babelHelpers")) end))) (more (child (node Kind.IdentifierName 39 (more (string (codes "defineProperty")) end))) (more (boolean false) (more (boolean false) end)))))) (more (list (trees (node Kind.ThisExpression 40 end ∷ node Kind.Literal 41 (more (literal (literal_value.String (codes "x") None)) end) ∷ node Kind.Literal 10 (more (literal (literal_value.Number (codes "1"))) end) ∷ []))) (more (boolean false) end))))) (more no_string end)) ∷ node Kind.ExpressionStatement 42 (more (child (node Kind.CallExpression 43 (more (child (node Kind.MemberExpression 44 (more (child (node Kind.IdentifierReference 45 (more (string (codes "babelHelpers")) end))) (more (child (node Kind.IdentifierName 46 (more (string (codes "defineProperty")) end))) (more (boolean false) (more (boolean false) end)))))) (more (list (trees (node Kind.ThisExpression 47 end ∷ node Kind.IdentifierReference 48 (more (string (codes "_k")) end) ∷ node Kind.Literal 14 (more (literal (literal_value.Number (codes "2"))) end) ∷ []))) (more (boolean false) end))))) (more no_string end)) ∷ []))) end))) (more (boolean false) (more (boolean false) end))))))) (more (string (codes "constructor")) (more (boolean false) (more (boolean false) end))))) ∷ []))) end))) end))) ∷ []))) end) ∷ []))) (more (boolean false) end))))) (more no_string end)) ∷ []))) end))

abbrev pub generated_conversion_in_front_of_a_key : List LedgerEntry
generated_conversion_in_front_of_a_key = record { name = codes "_t"; kind = GeneratedKind.Temp } ∷ record { name = codes "_k"; kind = GeneratedKind.Temp } ∷ []

abbrev pub options_conversion_in_front_of_a_key : Options
options_conversion_in_front_of_a_key = options_of false (Some (record { loose = false })) false
