-- Printed by tools/rows/witnesses.js.
use Rattle.std.specs.Prelude.{ℕ, List, [], ◌∷◌, true, false, codes, Some, None}
use Rattle.es_base.specs.Tree.{Tree, end, more, child, absent, list, string, no_string, boolean, literal, trees}
use Rattle.es_base.specs.declared.kind.Kind.{Kind}
use Rattle.es_base.specs.declared.ledger.GeneratedKind.{GeneratedKind}
use Rattle.es_base.specs.declared.ledger.LedgerEntry.{LedgerEntry}
use Rattle.es_base.specs.declared.literal.LiteralValue.TheVariants as literal_value
use Rattle.es_steps.specs.Generated.{node}
use Rattle.es_steps.specs.Options.{options_of}
use Rattle.es_steps.specs.declared.options.Options.{Options}

-- `class C { x = (g(), () => 1); }`
abbrev pub source_key_given_in_its_value : Tree
source_key_given_in_its_value = node Kind.Program 0 (more (string (codes "script")) (more (list (trees (node Kind.ClassDeclaration 1 (more (child (node Kind.BindingIdentifier 2 (more (string (codes "C")) end))) (more absent (more (child (node Kind.ClassBody 3 (more (list (trees (node Kind.PropertyDefinition 4 (more (child (node Kind.IdentifierName 5 (more (string (codes "x")) end))) (more (child (node Kind.SequenceExpression 6 (more (list (trees (node Kind.CallExpression 7 (more (child (node Kind.IdentifierReference 8 (more (string (codes "g")) end))) (more (list end) (more (boolean false) end))) ∷ node Kind.ArrowFunctionExpression 9 (more (list end) (more (child (node Kind.Literal 10 (more (literal (literal_value.Number (codes "1"))) end))) (more (boolean false) end))) ∷ []))) end))) (more (boolean false) (more (boolean false) end)))) ∷ []))) end))) end))) ∷ []))) end))

-- an object whose key is read before it is given, where `class C { constructor() { B.defineProperty(this, "x", (g(), () => 1)); } }` is right
abbrev pub output_key_given_in_its_value : Tree
output_key_given_in_its_value = node Kind.Program 0 (more (string (codes "script")) (more (list (trees (node Kind.VariableDeclaration 11 (more (string (codes "let")) (more (list (trees (node Kind.VariableDeclarator 12 (more (child (node Kind.BindingIdentifier 13 (more (string (codes "_t")) end))) (more absent end)) ∷ []))) end)) ∷ node Kind.ClassDeclaration 1 (more (child (node Kind.BindingIdentifier 2 (more (string (codes "C")) end))) (more absent (more (child (node Kind.ClassBody 3 (more (list (trees (node Kind.MethodDefinition 14 (more (child (node Kind.IdentifierName 15 (more (string (codes "constructor")) end))) (more (child (node Kind.FunctionExpression 16 (more absent (more (list end) (more (child (node Kind.BlockStatement 17 (more (list (trees (node Kind.ExpressionStatement 18 (more (child (node Kind.CallExpression 19 (more (child (node Kind.MemberExpression 20 (more (child (node Kind.IdentifierReference 21 (more (string (codes "babelHelpers")) end))) (more (child (node Kind.IdentifierName 22 (more (string (codes "defineProperty")) end))) (more (boolean false) (more (boolean false) end)))))) (more (list (trees (node Kind.ThisExpression 23 end ∷ node Kind.Literal 24 (more (literal (literal_value.String (codes "x") None)) end) ∷ node Kind.MemberExpression 25 (more (child (node Kind.ObjectExpression 26 (more (list (trees (node Kind.Property 27 (more (child (node Kind.IdentifierReference 28 (more (string (codes "_t")) end))) (more (child (node Kind.SequenceExpression 6 (more (list (trees (node Kind.AssignmentExpression 29 (more (string (codes "=")) (more (child (node Kind.IdentifierReference 30 (more (string (codes "_t")) end))) (more (child (node Kind.CallExpression 7 (more (child (node Kind.IdentifierReference 8 (more (string (codes "g")) end))) (more (list end) (more (boolean false) end))))) end))) ∷ node Kind.ArrowFunctionExpression 9 (more (list end) (more (child (node Kind.Literal 10 (more (literal (literal_value.Number (codes "1"))) end))) (more (boolean false) end))) ∷ []))) end))) (more (string (codes "init")) (more (boolean false) (more (boolean false) (more (boolean true) end)))))) ∷ []))) end))) (more (child (node Kind.IdentifierReference 31 (more (string (codes "_t")) end))) (more (boolean true) (more (boolean false) end)))) ∷ []))) (more (boolean false) end))))) (more no_string end)) ∷ []))) end))) (more (boolean false) (more (boolean false) end))))))) (more (string (codes "constructor")) (more (boolean false) (more (boolean false) end))))) ∷ []))) end))) end))) ∷ []))) end))

abbrev pub generated_key_given_in_its_value : List LedgerEntry
generated_key_given_in_its_value = record { name = codes "_t"; kind = GeneratedKind.Temp } ∷ []

abbrev pub options_key_given_in_its_value : Options
options_key_given_in_its_value = options_of false (Some (record { loose = false })) false
