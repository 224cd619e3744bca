-- Printed by tools/rows/witnesses.js.
use Rattle.std.specs.Prelude.{ℕ, List, [], ◌∷◌, true, false, codes, None}
use Rattle.es_base.specs.Tree.{Tree, end, more, child, absent, list, string, no_string, boolean, literal, trees}
use Rattle.es_base.specs.declared.kind.Kind.{Kind}
use Rattle.es_base.specs.declared.ledger.LedgerEntry.{LedgerEntry}
use Rattle.es_base.specs.declared.literal.LiteralValue.TheVariants as literal_value
use Rattle.es_steps.specs.Generated.{node}
use Rattle.es_steps.specs.Options.{options_of}
use Rattle.es_steps.specs.declared.options.Options.{Options}

-- `class A { static { a; } static b = 1; }`
abbrev pub source_arguments_of_a_static_field : Tree
source_arguments_of_a_static_field = node Kind.Program 0 (more (string (codes "script")) (more (list (trees (node Kind.ClassDeclaration 1 (more (child (node Kind.BindingIdentifier 2 (more (string (codes "A")) end))) (more absent (more (child (node Kind.ClassBody 3 (more (list (trees (node Kind.StaticBlock 4 (more (list (trees (node Kind.ExpressionStatement 5 (more (child (node Kind.IdentifierReference 6 (more (string (codes "a")) end))) (more no_string end)) ∷ []))) end) ∷ node Kind.PropertyDefinition 7 (more (child (node Kind.IdentifierName 8 (more (string (codes "b")) end))) (more (child (node Kind.Literal 9 (more (literal (literal_value.Number (codes "1"))) end))) (more (boolean false) (more (boolean true) end)))) ∷ []))) end))) end))) ∷ []))) end))

-- `arguments` in the value of a static field, where `class A { static b = (a, 1); }` is right
abbrev pub output_arguments_of_a_static_field : Tree
output_arguments_of_a_static_field = node Kind.Program 0 (more (string (codes "script")) (more (list (trees (node Kind.ClassDeclaration 1 (more (child (node Kind.BindingIdentifier 2 (more (string (codes "A")) end))) (more absent (more (child (node Kind.ClassBody 3 (more (list (trees (node Kind.PropertyDefinition 7 (more (child (node Kind.IdentifierName 8 (more (string (codes "b")) end))) (more (child (node Kind.SequenceExpression 10 (more (list (trees (node Kind.IdentifierReference 6 (more (string (codes "a")) end) ∷ node Kind.IdentifierReference 11 (more (string (codes "arguments")) end) ∷ node Kind.Literal 9 (more (literal (literal_value.Number (codes "1"))) end) ∷ []))) end))) (more (boolean false) (more (boolean true) end)))) ∷ []))) end))) end))) ∷ []))) end))

abbrev pub generated_arguments_of_a_static_field : List LedgerEntry
generated_arguments_of_a_static_field = []

abbrev pub options_arguments_of_a_static_field : Options
options_arguments_of_a_static_field = options_of true None false
