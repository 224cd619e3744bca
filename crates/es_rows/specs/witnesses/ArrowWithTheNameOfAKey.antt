-- Printed by tools/rows/witnesses.js.
use Rattle.std.specs.Prelude.{ℕ, List, [], ◌∷◌, true, false, codes, Some, None}
use Rattle.es_base.specs.Tree.{Tree, end, more, child, absent, list, string, no_string, boolean, literal, trees}
use Rattle.es_base.specs.declared.kind.Kind.{Kind}
use Rattle.es_base.specs.declared.ledger.GeneratedKind.{GeneratedKind}
use Rattle.es_base.specs.declared.ledger.LedgerEntry.{LedgerEntry}
use Rattle.es_base.specs.declared.literal.LiteralValue.TheVariants as literal_value
use Rattle.es_steps.specs.Generated.{node}
use Rattle.es_steps.specs.Options.{options_of}
use Rattle.es_steps.specs.declared.options.Options.{Options}

-- `h(class C { [k(() => (C, C))]() {} static s = [g(() => C)]; });`
abbrev pub source_arrow_with_the_name_of_a_key : Tree
source_arrow_with_the_name_of_a_key = node Kind.Program 0 (more (string (codes "script")) (more (list (trees (node Kind.ExpressionStatement 1 (more (child (node Kind.CallExpression 2 (more (child (node Kind.IdentifierReference 3 (more (string (codes "h")) end))) (more (list (trees (node Kind.ClassExpression 4 (more (child (node Kind.BindingIdentifier 5 (more (string (codes "C")) end))) (more absent (more (child (node Kind.ClassBody 6 (more (list (trees (node Kind.MethodDefinition 7 (more (child (node Kind.CallExpression 8 (more (child (node Kind.IdentifierReference 9 (more (string (codes "k")) end))) (more (list (trees (node Kind.ArrowFunctionExpression 10 (more (list end) (more (child (node Kind.SequenceExpression 11 (more (list (trees (node Kind.IdentifierReference 12 (more (string (codes "C")) end) ∷ node Kind.IdentifierReference 13 (more (string (codes "C")) end) ∷ []))) end))) (more (boolean false) end))) ∷ []))) (more (boolean false) end))))) (more (child (node Kind.FunctionExpression 14 (more absent (more (list end) (more (child (node Kind.BlockStatement 15 (more (list end) end))) (more (boolean false) (more (boolean false) end))))))) (more (string (codes "method")) (more (boolean true) (more (boolean false) end))))) ∷ node Kind.PropertyDefinition 16 (more (child (node Kind.IdentifierName 17 (more (string (codes "s")) end))) (more (child (node Kind.ArrayExpression 18 (more (list (trees (node Kind.CallExpression 19 (more (child (node Kind.IdentifierReference 20 (more (string (codes "g")) end))) (more (list (trees (node Kind.ArrowFunctionExpression 21 (more (list end) (more (child (node Kind.IdentifierReference 22 (more (string (codes "C")) end))) (more (boolean false) end))) ∷ []))) (more (boolean false) end))) ∷ []))) end))) (more (boolean false) (more (boolean true) end)))) ∷ []))) end))) end))) ∷ []))) (more (boolean false) end))))) (more no_string end)) ∷ []))) end))

-- an arrow of a static field in front of the class that it names, by a name that stood in a key: `var _C, _k, _t; h((_k = k(() => _C), _t = g(() => _C), _C = class C { [_k]() {} }, B.defineProperty(_C, "s", [_t]), _C));`
abbrev pub output_arrow_with_the_name_of_a_key : Tree
output_arrow_with_the_name_of_a_key = node Kind.Program 0 (more (string (codes "script")) (more (list (trees (node Kind.VariableDeclaration 23 (more (string (codes "var")) (more (list (trees (node Kind.VariableDeclarator 24 (more (child (node Kind.BindingIdentifier 25 (more (string (codes "_C")) end))) (more absent end)) ∷ node Kind.VariableDeclarator 26 (more (child (node Kind.BindingIdentifier 27 (more (string (codes "_k")) end))) (more absent end)) ∷ node Kind.VariableDeclarator 28 (more (child (node Kind.BindingIdentifier 29 (more (string (codes "_t")) end))) (more absent end)) ∷ []))) end)) ∷ node Kind.ExpressionStatement 1 (more (child (node Kind.CallExpression 2 (more (child (node Kind.IdentifierReference 3 (more (string (codes "h")) end))) (more (list (trees (node Kind.SequenceExpression 11 (more (list (trees (node Kind.AssignmentExpression 30 (more (string (codes "=")) (more (child (node Kind.IdentifierReference 31 (more (string (codes "_k")) end))) (more (child (node Kind.CallExpression 8 (more (child (node Kind.IdentifierReference 9 (more (string (codes "k")) end))) (more (list (trees (node Kind.ArrowFunctionExpression 10 (more (list end) (more (child (node Kind.IdentifierReference 12 (more (string (codes "_C")) end))) (more (boolean false) end))) ∷ []))) (more (boolean false) end))))) end))) ∷ node Kind.AssignmentExpression 32 (more (string (codes "=")) (more (child (node Kind.IdentifierReference 33 (more (string (codes "_t")) end))) (more (child (node Kind.CallExpression 19 (more (child (node Kind.IdentifierReference 20 (more (string (codes "g")) end))) (more (list (trees (node Kind.ArrowFunctionExpression 21 (more (list end) (more (child (node Kind.IdentifierReference 13 (more (string (codes "_C")) end))) (more (boolean false) end))) ∷ []))) (more (boolean false) end))))) end))) ∷ node Kind.AssignmentExpression 34 (more (string (codes "=")) (more (child (node Kind.IdentifierReference 35 (more (string (codes "_C")) end))) (more (child (node Kind.ClassExpression 4 (more (child (node Kind.BindingIdentifier 5 (more (string (codes "C")) end))) (more absent (more (child (node Kind.ClassBody 6 (more (list (trees (node Kind.MethodDefinition 7 (more (child (node Kind.IdentifierReference 36 (more (string (codes "_k")) end))) (more (child (node Kind.FunctionExpression 14 (more absent (more (list end) (more (child (node Kind.BlockStatement 15 (more (list end) end))) (more (boolean false) (more (boolean false) end))))))) (more (string (codes "method")) (more (boolean true) (more (boolean false) end))))) ∷ []))) end))) end))))) end))) ∷ node Kind.CallExpression 37 (more (child (node Kind.MemberExpression 38 (more (child (node Kind.IdentifierReference 39 (more (string (codes "babelHelpers")) end))) (more (child (node Kind.IdentifierName 40 (more (string (codes "defineProperty")) end))) (more (boolean false) (more (boolean false) end)))))) (more (list (trees (node Kind.IdentifierReference 41 (more (string (codes "_C")) end) ∷ node Kind.Literal 42 (more (literal (literal_value.String (codes "s") None)) end) ∷ node Kind.ArrayExpression 18 (more (list (trees (node Kind.IdentifierReference 43 (more (string (codes "_t")) end) ∷ []))) end) ∷ []))) (more (boolean false) end))) ∷ node Kind.IdentifierReference 44 (more (string (codes "_C")) end) ∷ []))) end) ∷ []))) (more (boolean false) end))))) (more no_string end)) ∷ []))) end))

abbrev pub generated_arrow_with_the_name_of_a_key : List LedgerEntry
generated_arrow_with_the_name_of_a_key = record { name = codes "_C"; kind = GeneratedKind.ClassTemp (record { 0 = 4 }) } ∷ record { name = codes "_t"; kind = GeneratedKind.Temp } ∷ record { name = codes "_k"; kind = GeneratedKind.Temp } ∷ []

abbrev pub options_arrow_with_the_name_of_a_key : Options
options_arrow_with_the_name_of_a_key = options_of false (Some (record { loose = false })) false
