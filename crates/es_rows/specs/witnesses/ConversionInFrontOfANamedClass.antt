-- Printed by tools/rows/witnesses.js.
use Rattle.std.specs.Prelude.{ℕ, List, [], ◌∷◌, true, false, codes, Some}
use Rattle.es_base.specs.Tree.{Tree, end, more, child, absent, list, string, no_string, boolean, literal, trees}
use Rattle.es_base.specs.declared.kind.Kind.{Kind}
use Rattle.es_base.specs.declared.ledger.GeneratedKind.{GeneratedKind}
use Rattle.es_base.specs.declared.ledger.LedgerEntry.{LedgerEntry}
use Rattle.es_base.specs.declared.literal.LiteralValue.TheVariants as literal_value
use Rattle.es_steps.specs.Generated.{node}
use Rattle.es_steps.specs.Options.{options_of}
use Rattle.es_steps.specs.declared.options.Options.{Options}

-- `f(o(), class A { [k()] = 1; });`
abbrev pub source_conversion_in_front_of_a_named_class : Tree
source_conversion_in_front_of_a_named_class = node Kind.Program 0 (more (string (codes "script")) (more (list (trees (node Kind.ExpressionStatement 1 (more (child (node Kind.CallExpression 2 (more (child (node Kind.IdentifierReference 3 (more (string (codes "f")) end))) (more (list (trees (node Kind.CallExpression 4 (more (child (node Kind.IdentifierReference 5 (more (string (codes "o")) end))) (more (list end) (more (boolean false) end))) ∷ node Kind.ClassExpression 6 (more (child (node Kind.BindingIdentifier 7 (more (string (codes "A")) end))) (more absent (more (child (node Kind.ClassBody 8 (more (list (trees (node Kind.PropertyDefinition 9 (more (child (node Kind.CallExpression 10 (more (child (node Kind.IdentifierReference 11 (more (string (codes "k")) end))) (more (list end) (more (boolean false) end))))) (more (child (node Kind.Literal 12 (more (literal (literal_value.Number (codes "1"))) end))) (more (boolean true) (more (boolean false) end)))) ∷ []))) end))) end))) ∷ []))) (more (boolean false) end))))) (more no_string end)) ∷ []))) end))

-- a conversion of another value in front of a class whose one key is given beside it: `var _t, _k; f(_t = o(), (B.toPropertyKey((_k = k(), _t)), class A { constructor() { B.defineProperty(this, _k, 1); } }));`
abbrev pub output_conversion_in_front_of_a_named_class : Tree
output_conversion_in_front_of_a_named_class = node Kind.Program 0 (more (string (codes "script")) (more (list (trees (node Kind.VariableDeclaration 13 (more (string (codes "var")) (more (list (trees (node Kind.VariableDeclarator 14 (more (child (node Kind.BindingIdentifier 15 (more (string (codes "_t")) end))) (more absent end)) ∷ node Kind.VariableDeclarator 16 (more (child (node Kind.BindingIdentifier 17 (more (string (codes "_k")) end))) (more absent end)) ∷ []))) end)) ∷ node Kind.ExpressionStatement 1 (more (child (node Kind.CallExpression 2 (more (child (node Kind.IdentifierReference 3 (more (string (codes "f")) end))) (more (list (trees (node Kind.AssignmentExpression 18 (more (string (codes "=")) (more (child (node Kind.IdentifierReference 19 (more (string (codes "_t")) end))) (more (child (node Kind.CallExpression 4 (more (child (node Kind.IdentifierReference 5 (more (string (codes "o")) end))) (more (list end) (more (boolean false) end))))) end))) ∷ node Kind.SequenceExpression 20 (more (list (trees (node Kind.CallExpression 21 (more (child (node Kind.MemberExpression 22 (more (child (node Kind.IdentifierReference 23 (more (string (codes "babelHelpers")) end))) (more (child (node Kind.IdentifierName 24 (more (string (codes "toPropertyKey")) end))) (more (boolean false) (more (boolean false) end)))))) (more (list (trees (node Kind.SequenceExpression 25 (more (list (trees (node Kind.AssignmentExpression 26 (more (string (codes "=")) (more (child (node Kind.IdentifierReference 27 (more (string (codes "_k")) end))) (more (child (node Kind.CallExpression 10 (more (child (node Kind.IdentifierReference 11 (more (string (codes "k")) end))) (more (list end) (more (boolean false) end))))) end))) ∷ node Kind.IdentifierReference 28 (more (string (codes "_t")) end) ∷ []))) end) ∷ []))) (more (boolean false) end))) ∷ node Kind.ClassExpression 6 (more (child (node Kind.BindingIdentifier 7 (more (string (codes "A")) end))) (more absent (more (child (node Kind.ClassBody 8 (more (list (trees (node Kind.MethodDefinition 29 (more (child (node Kind.IdentifierName 30 (more (string (codes "constructor")) end))) (more (child (node Kind.FunctionExpression 31 (more absent (more (list end) (more (child (node Kind.BlockStatement 32 (more (list (trees (node Kind.ExpressionStatement 33 (more (child (node Kind.CallExpression 34 (more (child (node Kind.MemberExpression 35 (more (child (node Kind.IdentifierReference 36 (more (string (codes "babelHelpers")) end))) (more (child (node Kind.IdentifierName 37 (more (string (codes "defineProperty")) end))) (more (boolean false) (more (boolean false) end)))))) (more (list (trees (node Kind.ThisExpression 38 end ∷ node Kind.IdentifierReference 39 (more (string (codes "_k")) end) ∷ node Kind.Literal 12 (more (literal (literal_value.Number (codes "1"))) end) ∷ []))) (more (boolean false) end))))) (more no_string end)) ∷ []))) end))) (more (boolean false) (more (boolean false) end))))))) (more (string (codes "constructor")) (more (boolean false) (more (boolean false) end))))) ∷ []))) end))) end))) ∷ []))) end) ∷ []))) (more (boolean false) end))))) (more no_string end)) ∷ []))) end))

abbrev pub generated_conversion_in_front_of_a_named_class : List LedgerEntry
generated_conversion_in_front_of_a_named_class = record { name = codes "_t"; kind = GeneratedKind.Temp } ∷ record { name = codes "_k"; kind = GeneratedKind.Temp } ∷ []

abbrev pub options_conversion_in_front_of_a_named_class : Options
options_conversion_in_front_of_a_named_class = options_of false (Some (record { loose = false })) false
