-- Printed by tools/rows/witnesses.js.
use Rattle.std.specs.Prelude.{ℕ, List, [], ◌∷◌, true, false, codes, Some, None}
use Rattle.es_base.specs.Tree.{Tree, end, more, child, absent, list, string, no_string, boolean, literal, trees}
use Rattle.es_base.specs.declared.kind.Kind.{Kind}
use Rattle.es_base.specs.declared.ledger.LedgerEntry.{LedgerEntry}
use Rattle.es_base.specs.declared.literal.LiteralValue.TheVariants as literal_value
use Rattle.es_steps.specs.Generated.{node}
use Rattle.es_steps.specs.Options.{options_of}
use Rattle.es_steps.specs.declared.options.Options.{Options}

-- `class C { static name = 1 }`
abbrev pub source_static_field_before_its_class : Tree
source_static_field_before_its_class = node Kind.Program 0 (more (string (codes "script")) (more (list (trees (node Kind.ClassDeclaration 1 (more (child (node Kind.BindingIdentifier 2 (more (string (codes "C")) end))) (more absent (more (child (node Kind.ClassBody 3 (more (list (trees (node Kind.PropertyDefinition 4 (more (child (node Kind.IdentifierName 5 (more (string (codes "name")) end))) (more (child (node Kind.Literal 6 (more (literal (literal_value.Number (codes "1"))) end))) (more (boolean false) (more (boolean true) end)))) ∷ []))) end))) end))) ∷ []))) end))

-- a static field defined in front of the class declaration, where `class C {} B.defineProperty(C, "name", 1);` is right
abbrev pub output_static_field_before_its_class : Tree
output_static_field_before_its_class = node Kind.Program 0 (more (string (codes "script")) (more (list (trees (node Kind.ExpressionStatement 7 (more (child (node Kind.CallExpression 8 (more (child (node Kind.MemberExpression 9 (more (child (node Kind.IdentifierReference 10 (more (string (codes "babelHelpers")) end))) (more (child (node Kind.IdentifierName 11 (more (string (codes "defineProperty")) end))) (more (boolean false) (more (boolean false) end)))))) (more (list (trees (node Kind.IdentifierReference 12 (more (string (codes "C")) end) ∷ node Kind.Literal 13 (more (literal (literal_value.String (codes "name") None)) end) ∷ node Kind.Literal 6 (more (literal (literal_value.Number (codes "1"))) end) ∷ []))) (more (boolean false) end))))) (more no_string end)) ∷ node Kind.ClassDeclaration 1 (more (child (node Kind.BindingIdentifier 2 (more (string (codes "C")) end))) (more absent (more (child (node Kind.ClassBody 3 (more (list end) end))) end))) ∷ []))) end))

abbrev pub generated_static_field_before_its_class : List LedgerEntry
generated_static_field_before_its_class = []

abbrev pub options_static_field_before_its_class : Options
options_static_field_before_its_class = options_of false (Some (record { loose = false })) false
