-- Printed by tools/rows/witnesses.js.
use Rattle.std.specs.Prelude.{ℕ, List, [], ◌∷◌, true, false, codes, None}
use Rattle.es_base.specs.Tree.{Tree, end, more, child, absent, list, string, no_string, boolean, literal, trees}
use Rattle.es_base.specs.declared.kind.Kind.{Kind}
use Rattle.es_base.specs.declared.ledger.GeneratedKind.{GeneratedKind}
use Rattle.es_base.specs.declared.ledger.LedgerEntry.{LedgerEntry}
use Rattle.es_base.specs.declared.literal.LiteralValue.TheVariants as literal_value
use Rattle.es_steps.specs.Generated.{node}
use Rattle.es_steps.specs.Options.{options_of}
use Rattle.es_steps.specs.declared.options.Options.{Options}

-- `class A { static { f(A); } static { h(1); } x = g(); }`
abbrev pub source_second_private_element_read_by_a_field : Tree
source_second_private_element_read_by_a_field = node Kind.Program 0 (more (string (codes "script")) (more (list (trees (node Kind.ClassDeclaration 1 (more (child (node Kind.BindingIdentifier 2 (more (string (codes "A")) end))) (more absent (more (child (node Kind.ClassBody 3 (more (list (trees (node Kind.StaticBlock 4 (more (list (trees (node Kind.ExpressionStatement 5 (more (child (node Kind.CallExpression 6 (more (child (node Kind.IdentifierReference 7 (more (string (codes "f")) end))) (more (list (trees (node Kind.IdentifierReference 8 (more (string (codes "A")) end) ∷ []))) (more (boolean false) end))))) (more no_string end)) ∷ []))) end) ∷ node Kind.StaticBlock 9 (more (list (trees (node Kind.ExpressionStatement 10 (more (child (node Kind.CallExpression 11 (more (child (node Kind.IdentifierReference 12 (more (string (codes "h")) end))) (more (list (trees (node Kind.Literal 13 (more (literal (literal_value.Number (codes "1"))) end) ∷ []))) (more (boolean false) end))))) (more no_string end)) ∷ []))) end) ∷ node Kind.PropertyDefinition 14 (more (child (node Kind.IdentifierName 15 (more (string (codes "x")) end))) (more (child (node Kind.CallExpression 16 (more (child (node Kind.IdentifierReference 17 (more (string (codes "g")) end))) (more (list end) (more (boolean false) end))))) (more (boolean false) (more (boolean false) end)))) ∷ []))) end))) end))) ∷ []))) end))

-- the second of two generated private elements, which a field of instances reads, behind one whose value may construct the class: `class A { static #_ = f(A); static #_2 = h(1); x = (A.#_2, g()); }`
abbrev pub output_second_private_element_read_by_a_field : Tree
output_second_private_element_read_by_a_field = node Kind.Program 0 (more (string (codes "script")) (more (list (trees (node Kind.ClassDeclaration 1 (more (child (node Kind.BindingIdentifier 2 (more (string (codes "A")) end))) (more absent (more (child (node Kind.ClassBody 3 (more (list (trees (node Kind.PropertyDefinition 18 (more (child (node Kind.PrivateIdentifier 19 (more (string (codes "_")) end))) (more (child (node Kind.CallExpression 6 (more (child (node Kind.IdentifierReference 7 (more (string (codes "f")) end))) (more (list (trees (node Kind.IdentifierReference 8 (more (string (codes "A")) end) ∷ []))) (more (boolean false) end))))) (more (boolean false) (more (boolean true) end)))) ∷ node Kind.PropertyDefinition 20 (more (child (node Kind.PrivateIdentifier 21 (more (string (codes "_2")) end))) (more (child (node Kind.CallExpression 11 (more (child (node Kind.IdentifierReference 12 (more (string (codes "h")) end))) (more (list (trees (node Kind.Literal 13 (more (literal (literal_value.Number (codes "1"))) end) ∷ []))) (more (boolean false) end))))) (more (boolean false) (more (boolean true) end)))) ∷ node Kind.PropertyDefinition 14 (more (child (node Kind.IdentifierName 15 (more (string (codes "x")) end))) (more (child (node Kind.SequenceExpression 22 (more (list (trees (node Kind.PrivateField 23 (more (child (node Kind.IdentifierReference 24 (more (string (codes "A")) end))) (more (child (node Kind.PrivateIdentifier 25 (more (string (codes "_2")) end))) (more (boolean false) (more (boolean false) end)))) ∷ node Kind.CallExpression 16 (more (child (node Kind.IdentifierReference 17 (more (string (codes "g")) end))) (more (list end) (more (boolean false) end))) ∷ []))) end))) (more (boolean false) (more (boolean false) end)))) ∷ []))) end))) end))) ∷ []))) end))

abbrev pub generated_second_private_element_read_by_a_field : List LedgerEntry
generated_second_private_element_read_by_a_field = record { name = codes "_"; kind = GeneratedKind.Private (record { 0 = 1 }) } ∷ record { name = codes "_2"; kind = GeneratedKind.Private (record { 0 = 1 }) } ∷ []

abbrev pub options_second_private_element_read_by_a_field : Options
options_second_private_element_read_by_a_field = options_of true None false
