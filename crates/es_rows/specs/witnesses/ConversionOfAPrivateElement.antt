-- Printed by tools/rows/witnesses.js.
use Rattle.std.specs.Prelude.{ℕ, List, [], ◌∷◌, true, false, codes, None}
use Rattle.es_base.specs.Tree.{Tree, end, more, child, absent, list, string, no_string, boolean, literal, trees}
use Rattle.es_base.specs.declared.kind.Kind.{Kind}
use Rattle.es_base.specs.declared.ledger.GeneratedKind.{GeneratedKind}
use Rattle.es_base.specs.declared.ledger.LedgerEntry.{LedgerEntry}
use Rattle.es_base.specs.declared.literal.LiteralValue.TheVariants as literal_value
use Rattle.es_steps.specs.Generated.{node}
use Rattle.es_steps.specs.Options.{options_of}
use Rattle.es_steps.specs.declared.options.Options.{Options}

-- `class A { set #s(v) {} static { f(1); } static { g(2); } m() { h({ [this.#s]: 1 }); } }`
abbrev pub source_conversion_of_a_private_element : Tree
source_conversion_of_a_private_element = node Kind.Program 0 (more (string (codes "script")) (more (list (trees (node Kind.ClassDeclaration 1 (more (child (node Kind.BindingIdentifier 2 (more (string (codes "A")) end))) (more absent (more (child (node Kind.ClassBody 3 (more (list (trees (node Kind.MethodDefinition 4 (more (child (node Kind.PrivateIdentifier 5 (more (string (codes "s")) end))) (more (child (node Kind.FunctionExpression 6 (more absent (more (list (trees (node Kind.BindingIdentifier 7 (more (string (codes "v")) end) ∷ []))) (more (child (node Kind.BlockStatement 8 (more (list end) end))) (more (boolean false) (more (boolean false) end))))))) (more (string (codes "set")) (more (boolean false) (more (boolean false) end))))) ∷ node Kind.StaticBlock 9 (more (list (trees (node Kind.ExpressionStatement 10 (more (child (node Kind.CallExpression 11 (more (child (node Kind.IdentifierReference 12 (more (string (codes "f")) end))) (more (list (trees (node Kind.Literal 13 (more (literal (literal_value.Number (codes "1"))) end) ∷ []))) (more (boolean false) end))))) (more no_string end)) ∷ []))) end) ∷ node Kind.StaticBlock 14 (more (list (trees (node Kind.ExpressionStatement 15 (more (child (node Kind.CallExpression 16 (more (child (node Kind.IdentifierReference 17 (more (string (codes "g")) end))) (more (list (trees (node Kind.Literal 18 (more (literal (literal_value.Number (codes "2"))) end) ∷ []))) (more (boolean false) end))))) (more no_string end)) ∷ []))) end) ∷ node Kind.MethodDefinition 19 (more (child (node Kind.IdentifierName 20 (more (string (codes "m")) end))) (more (child (node Kind.FunctionExpression 21 (more absent (more (list end) (more (child (node Kind.BlockStatement 22 (more (list (trees (node Kind.ExpressionStatement 23 (more (child (node Kind.CallExpression 24 (more (child (node Kind.IdentifierReference 25 (more (string (codes "h")) end))) (more (list (trees (node Kind.ObjectExpression 26 (more (list (trees (node Kind.Property 27 (more (child (node Kind.PrivateField 28 (more (child (node Kind.ThisExpression 29 end)) (more (child (node Kind.PrivateIdentifier 30 (more (string (codes "s")) end))) (more (boolean false) (more (boolean false) end)))))) (more (child (node Kind.Literal 31 (more (literal (literal_value.Number (codes "1"))) end))) (more (string (codes "init")) (more (boolean false) (more (boolean false) (more (boolean true) end)))))) ∷ []))) end) ∷ []))) (more (boolean false) end))))) (more no_string end)) ∷ []))) end))) (more (boolean false) (more (boolean false) end))))))) (more (string (codes "method")) (more (boolean false) (more (boolean false) end))))) ∷ []))) end))) end))) ∷ []))) end))

-- a conversion of what a generated private element holds, with the number of a key that always throws: `class A { set #s(v) {} static #_ = f(1); static #_2 = (B.toPropertyKey(A.#_), g(2)); m() { h({ [this.#s]: 1 }); } }`
abbrev pub output_conversion_of_a_private_element : Tree
output_conversion_of_a_private_element = node Kind.Program 0 (more (string (codes "script")) (more (list (trees (node Kind.ClassDeclaration 1 (more (child (node Kind.BindingIdentifier 2 (more (string (codes "A")) end))) (more absent (more (child (node Kind.ClassBody 3 (more (list (trees (node Kind.MethodDefinition 4 (more (child (node Kind.PrivateIdentifier 5 (more (string (codes "s")) end))) (more (child (node Kind.FunctionExpression 6 (more absent (more (list (trees (node Kind.BindingIdentifier 7 (more (string (codes "v")) end) ∷ []))) (more (child (node Kind.BlockStatement 8 (more (list end) end))) (more (boolean false) (more (boolean false) end))))))) (more (string (codes "set")) (more (boolean false) (more (boolean false) end))))) ∷ node Kind.PropertyDefinition 32 (more (child (node Kind.PrivateIdentifier 33 (more (string (codes "_")) end))) (more (child (node Kind.CallExpression 11 (more (child (node Kind.IdentifierReference 12 (more (string (codes "f")) end))) (more (list (trees (node Kind.Literal 13 (more (literal (literal_value.Number (codes "1"))) end) ∷ []))) (more (boolean false) end))))) (more (boolean false) (more (boolean true) end)))) ∷ node Kind.PropertyDefinition 34 (more (child (node Kind.PrivateIdentifier 35 (more (string (codes "_2")) end))) (more (child (node Kind.SequenceExpression 36 (more (list (trees (node Kind.CallExpression 37 (more (child (node Kind.MemberExpression 38 (more (child (node Kind.IdentifierReference 39 (more (string (codes "babelHelpers")) end))) (more (child (node Kind.IdentifierName 40 (more (string (codes "toPropertyKey")) end))) (more (boolean false) (more (boolean false) end)))))) (more (list (trees (node Kind.PrivateField 28 (more (child (node Kind.IdentifierReference 41 (more (string (codes "A")) end))) (more (child (node Kind.PrivateIdentifier 42 (more (string (codes "_")) end))) (more (boolean false) (more (boolean false) end)))) ∷ []))) (more (boolean false) end))) ∷ node Kind.CallExpression 16 (more (child (node Kind.IdentifierReference 17 (more (string (codes "g")) end))) (more (list (trees (node Kind.Literal 18 (more (literal (literal_value.Number (codes "2"))) end) ∷ []))) (more (boolean false) end))) ∷ []))) end))) (more (boolean false) (more (boolean true) end)))) ∷ node Kind.MethodDefinition 19 (more (child (node Kind.IdentifierName 20 (more (string (codes "m")) end))) (more (child (node Kind.FunctionExpression 21 (more absent (more (list end) (more (child (node Kind.BlockStatement 22 (more (list (trees (node Kind.ExpressionStatement 23 (more (child (node Kind.CallExpression 24 (more (child (node Kind.IdentifierReference 25 (more (string (codes "h")) end))) (more (list (trees (node Kind.ObjectExpression 26 (more (list (trees (node Kind.Property 27 (more (child (node Kind.PrivateField 43 (more (child (node Kind.ThisExpression 29 end)) (more (child (node Kind.PrivateIdentifier 44 (more (string (codes "s")) end))) (more (boolean false) (more (boolean false) end)))))) (more (child (node Kind.Literal 31 (more (literal (literal_value.Number (codes "1"))) end))) (more (string (codes "init")) (more (boolean false) (more (boolean false) (more (boolean true) end)))))) ∷ []))) end) ∷ []))) (more (boolean false) end))))) (more no_string end)) ∷ []))) end))) (more (boolean false) (more (boolean false) end))))))) (more (string (codes "method")) (more (boolean false) (more (boolean false) end))))) ∷ []))) end))) end))) ∷ []))) end))

abbrev pub generated_conversion_of_a_private_element : List LedgerEntry
generated_conversion_of_a_private_element = record { name = codes "_"; kind = GeneratedKind.Private (record { 0 = 1 }) } ∷ record { name = codes "_2"; kind = GeneratedKind.Private (record { 0 = 1 }) } ∷ []

abbrev pub options_conversion_of_a_private_element : Options
options_conversion_of_a_private_element = options_of true None false
