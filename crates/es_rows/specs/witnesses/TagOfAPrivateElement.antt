-- Printed by tools/rows/witnesses.js.
use Rattle.std.specs.Prelude.{ℕ, List, [], ◌∷◌, true, false, codes, None}
use Rattle.es_base.specs.Tree.{Tree, end, more, child, absent, list, string, no_string, boolean, trees}
use Rattle.es_base.specs.declared.kind.Kind.{Kind}
use Rattle.es_base.specs.declared.ledger.GeneratedKind.{GeneratedKind}
use Rattle.es_base.specs.declared.ledger.LedgerEntry.{LedgerEntry}
use Rattle.es_steps.specs.Generated.{node}
use Rattle.es_steps.specs.Options.{options_of}
use Rattle.es_steps.specs.declared.options.Options.{Options}

-- `class A { static { f()`a`; } }`
abbrev pub source_tag_of_a_private_element : Tree
source_tag_of_a_private_element = node Kind.Program 0 (more (string (codes "script")) (more (list (trees (node Kind.ClassDeclaration 1 (more (child (node Kind.BindingIdentifier 2 (more (string (codes "A")) end))) (more absent (more (child (node Kind.ClassBody 3 (more (list (trees (node Kind.StaticBlock 4 (more (list (trees (node Kind.ExpressionStatement 5 (more (child (node Kind.TaggedTemplateExpression 6 (more (child (node Kind.CallExpression 7 (more (child (node Kind.IdentifierReference 8 (more (string (codes "f")) end))) (more (list end) (more (boolean false) end))))) (more (child (node Kind.TemplateLiteral 9 (more (list (trees (node Kind.TemplateElement 10 (more (string (codes "a")) (more (string (codes "a")) (more (boolean true) end))) ∷ []))) (more (list end) end)))) end)))) (more no_string end)) ∷ []))) end) ∷ []))) end))) end))) ∷ []))) end))

-- a tag that a generated private element holds, which is handed the class: `class A { static #_p = f(); static #_ = A.#_p`a`; }`
abbrev pub output_tag_of_a_private_element : Tree
output_tag_of_a_private_element = node Kind.Program 0 (more (string (codes "script")) (more (list (trees (node Kind.ClassDeclaration 1 (more (child (node Kind.BindingIdentifier 2 (more (string (codes "A")) end))) (more absent (more (child (node Kind.ClassBody 3 (more (list (trees (node Kind.PropertyDefinition 11 (more (child (node Kind.PrivateIdentifier 12 (more (string (codes "_p")) end))) (more (child (node Kind.CallExpression 7 (more (child (node Kind.IdentifierReference 8 (more (string (codes "f")) end))) (more (list end) (more (boolean false) end))))) (more (boolean false) (more (boolean true) end)))) ∷ node Kind.PropertyDefinition 13 (more (child (node Kind.PrivateIdentifier 14 (more (string (codes "_")) end))) (more (child (node Kind.TaggedTemplateExpression 6 (more (child (node Kind.PrivateField 15 (more (child (node Kind.IdentifierReference 16 (more (string (codes "A")) end))) (more (child (node Kind.PrivateIdentifier 17 (more (string (codes "_p")) end))) (more (boolean false) (more (boolean false) end)))))) (more (child (node Kind.TemplateLiteral 9 (more (list (trees (node Kind.TemplateElement 10 (more (string (codes "a")) (more (string (codes "a")) (more (boolean true) end))) ∷ []))) (more (list end) end)))) end)))) (more (boolean false) (more (boolean true) end)))) ∷ []))) end))) end))) ∷ []))) end))

abbrev pub generated_tag_of_a_private_element : List LedgerEntry
generated_tag_of_a_private_element = record { name = codes "_p"; kind = GeneratedKind.Private (record { 0 = 1 }) } ∷ record { name = codes "_"; kind = GeneratedKind.Private (record { 0 = 1 }) } ∷ []

abbrev pub options_tag_of_a_private_element : Options
options_tag_of_a_private_element = options_of true None false
