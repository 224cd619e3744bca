-- Printed by tools/rows/witnesses.js.
use Rattle.std.specs.Prelude.{ℕ, List, [], ◌∷◌, true, false, codes, None}
use Rattle.es_base.specs.Tree.{Tree, end, more, child, absent, list, string, no_string, boolean, literal, trees}
use Rattle.es_base.specs.declared.kind.Kind.{Kind}
use Rattle.es_base.specs.declared.ledger.GeneratedKind.{GeneratedKind}
use Rattle.es_base.specs.declared.ledger.LedgerEntry.{LedgerEntry}
use Rattle.es_base.specs.declared.literal.LiteralValue.TheVariants as literal_value
use Rattle.es_steps.specs.Generated.{node}
use Rattle.es_steps.specs.Options.{options_of}
use Rattle.es_steps.specs.declared.options.Options.{Options}

-- `class A { static #x = 1; static { f(#x in A); } }`
abbrev pub source_question_for_a_generated_element : Tree
source_question_for_a_generated_element = node Kind.Program 0 (more (string (codes "script")) (more (list (trees (node Kind.ClassDeclaration 1 (more (child (node Kind.BindingIdentifier 2 (more (string (codes "A")) end))) (more absent (more (child (node Kind.ClassBody 3 (more (list (trees (node Kind.PropertyDefinition 4 (more (child (node Kind.PrivateIdentifier 5 (more (string (codes "x")) end))) (more (child (node Kind.Literal 6 (more (literal (literal_value.Number (codes "1"))) end))) (more (boolean false) (more (boolean true) end)))) ∷ node Kind.StaticBlock 7 (more (list (trees (node Kind.ExpressionStatement 8 (more (child (node Kind.CallExpression 9 (more (child (node Kind.IdentifierReference 10 (more (string (codes "f")) end))) (more (list (trees (node Kind.PrivateIn 11 (more (string (codes "in")) (more (child (node Kind.PrivateIdentifier 12 (more (string (codes "x")) end))) (more (child (node Kind.IdentifierReference 13 (more (string (codes "A")) end))) end))) ∷ []))) (more (boolean false) end))))) (more no_string end)) ∷ []))) end) ∷ []))) end))) end))) ∷ []))) end))

-- a generated private element that is asked for in place of a static private field: `class A { static #x = 1; static #_ = f(#_ in A); }`
abbrev pub output_question_for_a_generated_element : Tree
output_question_for_a_generated_element = node Kind.Program 0 (more (string (codes "script")) (more (list (trees (node Kind.ClassDeclaration 1 (more (child (node Kind.BindingIdentifier 2 (more (string (codes "A")) end))) (more absent (more (child (node Kind.ClassBody 3 (more (list (trees (node Kind.PropertyDefinition 4 (more (child (node Kind.PrivateIdentifier 5 (more (string (codes "x")) end))) (more (child (node Kind.Literal 6 (more (literal (literal_value.Number (codes "1"))) end))) (more (boolean false) (more (boolean true) end)))) ∷ node Kind.PropertyDefinition 14 (more (child (node Kind.PrivateIdentifier 15 (more (string (codes "_")) end))) (more (child (node Kind.CallExpression 9 (more (child (node Kind.IdentifierReference 10 (more (string (codes "f")) end))) (more (list (trees (node Kind.PrivateIn 11 (more (string (codes "in")) (more (child (node Kind.PrivateIdentifier 16 (more (string (codes "_")) end))) (more (child (node Kind.IdentifierReference 13 (more (string (codes "A")) end))) end))) ∷ []))) (more (boolean false) end))))) (more (boolean false) (more (boolean true) end)))) ∷ []))) end))) end))) ∷ []))) end))

abbrev pub generated_question_for_a_generated_element : List LedgerEntry
generated_question_for_a_generated_element = record { name = codes "_"; kind = GeneratedKind.Private (record { 0 = 1 }) } ∷ []

abbrev pub options_question_for_a_generated_element : Options
options_question_for_a_generated_element = options_of true None false
