-- Printed by tools/rows/witnesses.js.
use Rattle.std.specs.Prelude.{ℕ, List, [], ◌∷◌, false, codes, Some, None}
use Rattle.es_base.specs.Tree.{Tree, end, more, child, absent, list, string, no_string, boolean, literal, trees}
use Rattle.es_base.specs.declared.kind.Kind.{Kind}
use Rattle.es_base.specs.declared.ledger.GeneratedKind.{GeneratedKind}
use Rattle.es_base.specs.declared.ledger.LedgerEntry.{LedgerEntry}
use Rattle.es_base.specs.declared.literal.LiteralValue.TheVariants as literal_value
use Rattle.es_steps.specs.Generated.{node}
use Rattle.es_steps.specs.Options.{options_of}
use Rattle.es_steps.specs.declared.options.Options.{Options}

-- `class C { x = 1 }`
abbrev pub source_name_twice : Tree
source_name_twice = node Kind.Program 0 (more (string (codes "script")) (more (list (trees (node Kind.ClassDeclaration 1 (more (child (node Kind.BindingIdentifier 2 (more (string (codes "C")) end))) (more absent (more (child (node Kind.ClassBody 3 (more (list (trees (node Kind.PropertyDefinition 4 (more (child (node Kind.IdentifierName 5 (more (string (codes "x")) end))) (more (child (node Kind.Literal 6 (more (literal (literal_value.Number (codes "1"))) end))) (more (boolean false) (more (boolean false) end)))) ∷ []))) end))) end))) ∷ []))) end))

-- a name that the ledger has twice, where `class C { constructor() { B.defineProperty(this, "x", 1); } }` is right
abbrev pub output_name_twice : Tree
output_name_twice = node Kind.Program 0 (more (string (codes "script")) (more (list (trees (node Kind.VariableDeclaration 7 (more (string (codes "var")) (more (list (trees (node Kind.VariableDeclarator 8 (more (child (node Kind.BindingIdentifier 9 (more (string (codes "_t")) end))) (more absent end)) ∷ []))) end)) ∷ node Kind.ClassDeclaration 1 (more (child (node Kind.BindingIdentifier 2 (more (string (codes "C")) end))) (more absent (more (child (node Kind.ClassBody 3 (more (list (trees (node Kind.MethodDefinition 10 (more (child (node Kind.IdentifierName 11 (more (string (codes "constructor")) end))) (more (child (node Kind.FunctionExpression 12 (more absent (more (list end) (more (child (node Kind.BlockStatement 13 (more (list (trees (node Kind.ExpressionStatement 14 (more (child (node Kind.CallExpression 15 (more (child (node Kind.MemberExpression 16 (more (child (node Kind.IdentifierReference 17 (more (string (codes "babelHelpers")) end))) (more (child (node Kind.IdentifierName 18 (more (string (codes "defineProperty")) end))) (more (boolean false) (more (boolean false) end)))))) (more (list (trees (node Kind.ThisExpression 19 end ∷ node Kind.Literal 20 (more (literal (literal_value.String (codes "x") None)) end) ∷ node Kind.Literal 6 (more (literal (literal_value.Number (codes "1"))) end) ∷ []))) (more (boolean false) end))))) (more no_string end)) ∷ []))) end))) (more (boolean false) (more (boolean false) end))))))) (more (string (codes "constructor")) (more (boolean false) (more (boolean false) end))))) ∷ []))) end))) end))) ∷ []))) end))

abbrev pub generated_name_twice : List LedgerEntry
generated_name_twice = record { name = codes "_t"; kind = GeneratedKind.Temp } ∷ record { name = codes "_t"; kind = GeneratedKind.Param } ∷ []

abbrev pub options_name_twice : Options
options_name_twice = options_of false (Some (record { loose = false })) false
