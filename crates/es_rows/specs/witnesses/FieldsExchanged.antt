-- Printed by tools/rows/witnesses.js.
use Rattle.std.specs.Prelude.{ℕ, List, [], ◌∷◌, false, codes, Some, None}
use Rattle.es_base.specs.Tree.{Tree, end, more, child, absent, list, string, no_string, boolean, literal, trees}
use Rattle.es_base.specs.declared.kind.Kind.{Kind}
use Rattle.es_base.specs.declared.ledger.LedgerEntry.{LedgerEntry}
use Rattle.es_base.specs.declared.literal.LiteralValue.TheVariants as literal_value
use Rattle.es_steps.specs.Generated.{node}
use Rattle.es_steps.specs.Options.{options_of}
use Rattle.es_steps.specs.declared.options.Options.{Options}

-- `class C { x; y = z }`
abbrev pub source_fields_exchanged : Tree
source_fields_exchanged = node Kind.Program 0 (more (string (codes "script")) (more (list (trees (node Kind.ClassDeclaration 1 (more (child (node Kind.BindingIdentifier 2 (more (string (codes "C")) end))) (more absent (more (child (node Kind.ClassBody 3 (more (list (trees (node Kind.PropertyDefinition 4 (more (child (node Kind.IdentifierName 5 (more (string (codes "x")) end))) (more absent (more (boolean false) (more (boolean false) end)))) ∷ node Kind.PropertyDefinition 6 (more (child (node Kind.IdentifierName 7 (more (string (codes "y")) end))) (more (child (node Kind.IdentifierReference 8 (more (string (codes "z")) end))) (more (boolean false) (more (boolean false) end)))) ∷ []))) end))) end))) ∷ []))) end))

-- fields in the other order, where `class C { constructor() { B.defineProperty(this, "x", void 0); B.defineProperty(this, "y", z); } }` is right
abbrev pub output_fields_exchanged : Tree
output_fields_exchanged = node Kind.Program 0 (more (string (codes "script")) (more (list (trees (node Kind.ClassDeclaration 1 (more (child (node Kind.BindingIdentifier 2 (more (string (codes "C")) end))) (more absent (more (child (node Kind.ClassBody 3 (more (list (trees (node Kind.MethodDefinition 9 (more (child (node Kind.IdentifierName 10 (more (string (codes "constructor")) end))) (more (child (node Kind.FunctionExpression 11 (more absent (more (list end) (more (child (node Kind.BlockStatement 12 (more (list (trees (node Kind.ExpressionStatement 13 (more (child (node Kind.CallExpression 14 (more (child (node Kind.MemberExpression 15 (more (child (node Kind.IdentifierReference 16 (more (string (codes "babelHelpers")) end))) (more (child (node Kind.IdentifierName 17 (more (string (codes "defineProperty")) end))) (more (boolean false) (more (boolean false) end)))))) (more (list (trees (node Kind.ThisExpression 18 end ∷ node Kind.Literal 19 (more (literal (literal_value.String (codes "y") None)) end) ∷ node Kind.IdentifierReference 8 (more (string (codes "z")) end) ∷ []))) (more (boolean false) end))))) (more no_string end)) ∷ node Kind.ExpressionStatement 20 (more (child (node Kind.CallExpression 21 (more (child (node Kind.MemberExpression 22 (more (child (node Kind.IdentifierReference 23 (more (string (codes "babelHelpers")) end))) (more (child (node Kind.IdentifierName 24 (more (string (codes "defineProperty")) end))) (more (boolean false) (more (boolean false) end)))))) (more (list (trees (node Kind.ThisExpression 25 end ∷ node Kind.Literal 26 (more (literal (literal_value.String (codes "x") None)) end) ∷ node Kind.UnaryExpression 27 (more (string (codes "void")) (more (child (node Kind.Literal 28 (more (literal (literal_value.Number (codes "0"))) end))) end)) ∷ []))) (more (boolean false) end))))) (more no_string end)) ∷ []))) end))) (more (boolean false) (more (boolean false) end))))))) (more (string (codes "constructor")) (more (boolean false) (more (boolean false) end))))) ∷ []))) end))) end))) ∷ []))) end))

abbrev pub generated_fields_exchanged : List LedgerEntry
generated_fields_exchanged = []

abbrev pub options_fields_exchanged : Options
options_fields_exchanged = options_of false (Some (record { loose = false })) false
