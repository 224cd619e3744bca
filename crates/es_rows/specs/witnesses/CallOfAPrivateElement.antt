-- Printed by tools/rows/witnesses.js.
use Rattle.std.specs.Prelude.{ℕ, List, [], ◌∷◌, true, false, codes, None}
use Rattle.es_base.specs.Tree.{Tree, end, more, child, absent, list, string, no_string, boolean, literal, trees}
use Rattle.es_base.specs.declared.kind.Kind.{Kind}
use Rattle.es_base.specs.declared.ledger.GeneratedKind.{GeneratedKind}
use Rattle.es_base.specs.declared.ledger.LedgerEntry.{LedgerEntry}
use Rattle.es_base.specs.declared.literal.LiteralValue.TheVariants as literal_value
use Rattle.es_steps.specs.Generated.{node}
use Rattle.es_steps.specs.Options.{options_of}
use Rattle.es_steps.specs.declared.options.Options.{Options}

-- `class A { static { f()(1); } }`
abbrev pub source_call_of_a_private_element : Tree
source_call_of_a_private_element = node Kind.Program 0 (more (string (codes "script")) (more (list (trees (node Kind.ClassDeclaration 1 (more (child (node Kind.BindingIdentifier 2 (more (string (codes "A")) end))) (more absent (more (child (node Kind.ClassBody 3 (more (list (trees (node Kind.StaticBlock 4 (more (list (trees (node Kind.ExpressionStatement 5 (more (child (node Kind.CallExpression 6 (more (child (node Kind.CallExpression 7 (more (child (node Kind.IdentifierReference 8 (more (string (codes "f")) end))) (more (list end) (more (boolean false) end))))) (more (list (trees (node Kind.Literal 9 (more (literal (literal_value.Number (codes "1"))) end) ∷ []))) (more (boolean false) end))))) (more no_string end)) ∷ []))) end) ∷ []))) end))) end))) ∷ []))) end))

-- a call of what a generated private element holds, which is handed the class: `class A { static #_p = f(); static #_ = A.#_p(1); }`
abbrev pub output_call_of_a_private_element : Tree
output_call_of_a_private_element = node Kind.Program 0 (more (string (codes "script")) (more (list (trees (node Kind.ClassDeclaration 1 (more (child (node Kind.BindingIdentifier 2 (more (string (codes "A")) end))) (more absent (more (child (node Kind.ClassBody 3 (more (list (trees (node Kind.PropertyDefinition 10 (more (child (node Kind.PrivateIdentifier 11 (more (string (codes "_p")) end))) (more (child (node Kind.CallExpression 7 (more (child (node Kind.IdentifierReference 8 (more (string (codes "f")) end))) (more (list end) (more (boolean false) end))))) (more (boolean false) (more (boolean true) end)))) ∷ node Kind.PropertyDefinition 12 (more (child (node Kind.PrivateIdentifier 13 (more (string (codes "_")) end))) (more (child (node Kind.CallExpression 6 (more (child (node Kind.PrivateField 14 (more (child (node Kind.IdentifierReference 15 (more (string (codes "A")) end))) (more (child (node Kind.PrivateIdentifier 16 (more (string (codes "_p")) end))) (more (boolean false) (more (boolean false) end)))))) (more (list (trees (node Kind.Literal 9 (more (literal (literal_value.Number (codes "1"))) end) ∷ []))) (more (boolean false) end))))) (more (boolean false) (more (boolean true) end)))) ∷ []))) end))) end))) ∷ []))) end))

abbrev pub generated_call_of_a_private_element : List LedgerEntry
generated_call_of_a_private_element = record { name = codes "_p"; kind = GeneratedKind.Private (record { 0 = 1 }) } ∷ record { name = codes "_"; kind = GeneratedKind.Private (record { 0 = 1 }) } ∷ []

abbrev pub options_call_of_a_private_element : Options
options_call_of_a_private_element = options_of true None false
