-- Printed by tools/rows/witnesses.js.
use Rattle.std.specs.Prelude.{ℕ, List, [], ◌∷◌, false, codes, Some}
use Rattle.es_base.specs.Tree.{Tree, end, more, child, absent, list, string, no_string, boolean, literal, trees}
use Rattle.es_base.specs.declared.kind.Kind.{Kind}
use Rattle.es_base.specs.declared.ledger.LedgerEntry.{LedgerEntry}
use Rattle.es_base.specs.declared.literal.LiteralValue.TheVariants as literal_value
use Rattle.es_steps.specs.Generated.{node}
use Rattle.es_steps.specs.Options.{options_of}
use Rattle.es_steps.specs.declared.options.Options.{Options}

-- `class C { x = 1; y = 2; } C = 0;`
abbrev pub source_elements_of_a_written_class_dropped : Tree
source_elements_of_a_written_class_dropped = node Kind.Program 0 (more (string (codes "script")) (more (list (trees (node Kind.ClassDeclaration 1 (more (child (node Kind.BindingIdentifier 2 (more (string (codes "C")) end))) (more absent (more (child (node Kind.ClassBody 3 (more (list (trees (node Kind.PropertyDefinition 4 (more (child (node Kind.IdentifierName 5 (more (string (codes "x")) end))) (more (child (node Kind.Literal 6 (more (literal (literal_value.Number (codes "1"))) end))) (more (boolean false) (more (boolean false) end)))) ∷ node Kind.PropertyDefinition 7 (more (child (node Kind.IdentifierName 8 (more (string (codes "y")) end))) (more (child (node Kind.Literal 9 (more (literal (literal_value.Number (codes "2"))) end))) (more (boolean false) (more (boolean false) end)))) ∷ []))) end))) end))) ∷ node Kind.ExpressionStatement 10 (more (child (node Kind.AssignmentExpression 11 (more (string (codes "=")) (more (child (node Kind.IdentifierReference 12 (more (string (codes "C")) end))) (more (child (node Kind.Literal 13 (more (literal (literal_value.Number (codes "0"))) end))) end))))) (more no_string end)) ∷ []))) end))

-- a class without its elements, whose name is written, where `class C { constructor() { B.defineProperty(this, "x", 1); B.defineProperty(this, "y", 2); } } C = 0;` is right
abbrev pub output_elements_of_a_written_class_dropped : Tree
output_elements_of_a_written_class_dropped = node Kind.Program 0 (more (string (codes "script")) (more (list (trees (node Kind.ClassDeclaration 1 (more (child (node Kind.BindingIdentifier 2 (more (string (codes "C")) end))) (more absent (more (child (node Kind.ClassBody 3 (more (list end) end))) end))) ∷ node Kind.ExpressionStatement 10 (more (child (node Kind.AssignmentExpression 11 (more (string (codes "=")) (more (child (node Kind.IdentifierReference 12 (more (string (codes "C")) end))) (more (child (node Kind.Literal 13 (more (literal (literal_value.Number (codes "0"))) end))) end))))) (more no_string end)) ∷ []))) end))

abbrev pub generated_elements_of_a_written_class_dropped : List LedgerEntry
generated_elements_of_a_written_class_dropped = []

abbrev pub options_elements_of_a_written_class_dropped : Options
options_elements_of_a_written_class_dropped = options_of false (Some (record { loose = false })) false
