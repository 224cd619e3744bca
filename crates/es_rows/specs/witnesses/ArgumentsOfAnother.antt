-- Printed by tools/rows/witnesses.js.
use Rattle.std.specs.Prelude.{ℕ, List, [], ◌∷◌, false, codes, Some, None}
use Rattle.es_base.specs.Tree.{Tree, end, more, child, absent, list, string, no_string, boolean, literal, trees}
use Rattle.es_base.specs.declared.kind.Kind.{Kind}
use Rattle.es_base.specs.declared.ledger.GeneratedKind.{GeneratedKind}
use Rattle.es_base.specs.declared.ledger.LedgerEntry.{LedgerEntry}
use Rattle.es_base.specs.declared.literal.LiteralValue.TheVariants as literal_value
use Rattle.es_steps.specs.Generated.{node}
use Rattle.es_steps.specs.Options.{options_of}
use Rattle.es_steps.specs.declared.options.Options.{Options}

-- `class A extends D { x = 1; }`
abbrev pub source_arguments_of_another : Tree
source_arguments_of_another = node Kind.Program 0 (more (string (codes "script")) (more (list (trees (node Kind.ClassDeclaration 1 (more (child (node Kind.BindingIdentifier 2 (more (string (codes "A")) end))) (more (child (node Kind.IdentifierReference 3 (more (string (codes "D")) end))) (more (child (node Kind.ClassBody 4 (more (list (trees (node Kind.PropertyDefinition 5 (more (child (node Kind.IdentifierName 6 (more (string (codes "x")) end))) (more (child (node Kind.Literal 7 (more (literal (literal_value.Number (codes "1"))) end))) (more (boolean false) (more (boolean false) end)))) ∷ []))) end))) end))) ∷ []))) end))

-- the arguments of another constructor, where `class A extends D { constructor(..._args) { super(..._args); B.defineProperty(this, "x", 1); } }` is right
abbrev pub output_arguments_of_another : Tree
output_arguments_of_another = node Kind.Program 0 (more (string (codes "script")) (more (list (trees (node Kind.ClassDeclaration 1 (more (child (node Kind.BindingIdentifier 2 (more (string (codes "A")) end))) (more (child (node Kind.IdentifierReference 3 (more (string (codes "D")) end))) (more (child (node Kind.ClassBody 4 (more (list (trees (node Kind.MethodDefinition 8 (more (child (node Kind.IdentifierName 9 (more (string (codes "constructor")) end))) (more (child (node Kind.FunctionExpression 10 (more absent (more (list (trees (node Kind.RestElement 11 (more (child (node Kind.BindingIdentifier 12 (more (string (codes "_args")) end))) end) ∷ []))) (more (child (node Kind.BlockStatement 13 (more (list (trees (node Kind.VariableDeclaration 14 (more (string (codes "var")) (more (list (trees (node Kind.VariableDeclarator 15 (more (child (node Kind.BindingIdentifier 16 (more (string (codes "_args2")) end))) (more absent end)) ∷ []))) end)) ∷ node Kind.ExpressionStatement 17 (more (child (node Kind.CallExpression 18 (more (child (node Kind.Super 19 end)) (more (list (trees (node Kind.SpreadElement 20 (more (child (node Kind.IdentifierReference 21 (more (string (codes "_args2")) end))) end) ∷ []))) (more (boolean false) end))))) (more no_string end)) ∷ node Kind.ExpressionStatement 22 (more (child (node Kind.CallExpression 23 (more (child (node Kind.MemberExpression 24 (more (child (node Kind.IdentifierReference 25 (more (string (codes "babelHelpers")) end))) (more (child (node Kind.IdentifierName 26 (more (string (codes "defineProperty")) end))) (more (boolean false) (more (boolean false) end)))))) (more (list (trees (node Kind.ThisExpression 27 end ∷ node Kind.Literal 28 (more (literal (literal_value.String (codes "x") None)) end) ∷ node Kind.Literal 7 (more (literal (literal_value.Number (codes "1"))) end) ∷ []))) (more (boolean false) end))))) (more no_string end)) ∷ []))) end))) (more (boolean false) (more (boolean false) end))))))) (more (string (codes "constructor")) (more (boolean false) (more (boolean false) end))))) ∷ []))) end))) end))) ∷ []))) end))

abbrev pub generated_arguments_of_another : List LedgerEntry
generated_arguments_of_another = record { name = codes "_args"; kind = GeneratedKind.Args } ∷ record { name = codes "_args2"; kind = GeneratedKind.Args } ∷ []

abbrev pub options_arguments_of_another : Options
options_arguments_of_another = options_of false (Some (record { loose = false })) false
