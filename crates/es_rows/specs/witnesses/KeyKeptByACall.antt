-- Printed by tools/rows/witnesses.js.
use Rattle.std.specs.Prelude.{ℕ, List, [], ◌∷◌, true, false, codes, None}
use Rattle.es_base.specs.Tree.{Tree, end, more, child, absent, list, string, no_string, boolean, literal, trees}
use Rattle.es_base.specs.declared.kind.Kind.{Kind}
use Rattle.es_base.specs.declared.ledger.GeneratedKind.{GeneratedKind}
use Rattle.es_base.specs.declared.ledger.LedgerEntry.{LedgerEntry}
use Rattle.es_base.specs.declared.literal.LiteralValue.TheVariants as literal_value
use Rattle.es_steps.specs.Generated.{node}
use Rattle.es_steps.specs.Options.{options_of}
use Rattle.es_steps.specs.declared.options.Options.{Options}

-- `class A { static x = { [k()]: class { static { g(); } } }; } f(Object.values(A.x)[0]);`
abbrev pub source_key_kept_by_a_call : Tree
source_key_kept_by_a_call = node Kind.Program 0 (more (string (codes "script")) (more (list (trees (node Kind.ClassDeclaration 1 (more (child (node Kind.BindingIdentifier 2 (more (string (codes "A")) end))) (more absent (more (child (node Kind.ClassBody 3 (more (list (trees (node Kind.PropertyDefinition 4 (more (child (node Kind.IdentifierName 5 (more (string (codes "x")) end))) (more (child (node Kind.ObjectExpression 6 (more (list (trees (node Kind.Property 7 (more (child (node Kind.CallExpression 8 (more (child (node Kind.IdentifierReference 9 (more (string (codes "k")) end))) (more (list end) (more (boolean false) end))))) (more (child (node Kind.ClassExpression 10 (more absent (more absent (more (child (node Kind.ClassBody 11 (more (list (trees (node Kind.StaticBlock 12 (more (list (trees (node Kind.ExpressionStatement 13 (more (child (node Kind.CallExpression 14 (more (child (node Kind.IdentifierReference 15 (more (string (codes "g")) end))) (more (list end) (more (boolean false) end))))) (more no_string end)) ∷ []))) end) ∷ []))) end))) end))))) (more (string (codes "init")) (more (boolean false) (more (boolean false) (more (boolean true) end)))))) ∷ []))) end))) (more (boolean false) (more (boolean true) end)))) ∷ []))) end))) end))) ∷ node Kind.ExpressionStatement 16 (more (child (node Kind.CallExpression 17 (more (child (node Kind.IdentifierReference 18 (more (string (codes "f")) end))) (more (list (trees (node Kind.MemberExpression 19 (more (child (node Kind.CallExpression 20 (more (child (node Kind.MemberExpression 21 (more (child (node Kind.IdentifierReference 22 (more (string (codes "Object")) end))) (more (child (node Kind.IdentifierName 23 (more (string (codes "values")) end))) (more (boolean false) (more (boolean false) end)))))) (more (list (trees (node Kind.MemberExpression 24 (more (child (node Kind.IdentifierReference 25 (more (string (codes "A")) end))) (more (child (node Kind.IdentifierName 26 (more (string (codes "x")) end))) (more (boolean false) (more (boolean false) end)))) ∷ []))) (more (boolean false) end))))) (more (child (node Kind.Literal 27 (more (literal (literal_value.Number (codes "0"))) end))) (more (boolean true) (more (boolean false) end)))) ∷ []))) (more (boolean false) end))))) (more no_string end)) ∷ []))) end))

-- a key that is kept by a private element, which holds what a call gave: `class A { static #_p = k(); static x = { [A.#_p]: ({ [A.#_p]: class { static #_ = g(); } })[A.#_p] }; } f(Object.values(A.x)[0]);`
abbrev pub output_key_kept_by_a_call : Tree
output_key_kept_by_a_call = node Kind.Program 0 (more (string (codes "script")) (more (list (trees (node Kind.ClassDeclaration 1 (more (child (node Kind.BindingIdentifier 2 (more (string (codes "A")) end))) (more absent (more (child (node Kind.ClassBody 3 (more (list (trees (node Kind.PropertyDefinition 28 (more (child (node Kind.PrivateIdentifier 29 (more (string (codes "_p")) end))) (more (child (node Kind.CallExpression 8 (more (child (node Kind.IdentifierReference 9 (more (string (codes "k")) end))) (more (list end) (more (boolean false) end))))) (more (boolean false) (more (boolean true) end)))) ∷ node Kind.PropertyDefinition 4 (more (child (node Kind.IdentifierName 5 (more (string (codes "x")) end))) (more (child (node Kind.ObjectExpression 6 (more (list (trees (node Kind.Property 30 (more (child (node Kind.PrivateField 31 (more (child (node Kind.IdentifierReference 32 (more (string (codes "A")) end))) (more (child (node Kind.PrivateIdentifier 33 (more (string (codes "_p")) end))) (more (boolean false) (more (boolean false) end)))))) (more (child (node Kind.MemberExpression 34 (more (child (node Kind.ObjectExpression 35 (more (list (trees (node Kind.Property 36 (more (child (node Kind.PrivateField 37 (more (child (node Kind.IdentifierReference 38 (more (string (codes "A")) end))) (more (child (node Kind.PrivateIdentifier 39 (more (string (codes "_p")) end))) (more (boolean false) (more (boolean false) end)))))) (more (child (node Kind.ClassExpression 10 (more absent (more absent (more (child (node Kind.ClassBody 40 (more (list (trees (node Kind.PropertyDefinition 41 (more (child (node Kind.PrivateIdentifier 42 (more (string (codes "_")) end))) (more (child (node Kind.CallExpression 14 (more (child (node Kind.IdentifierReference 15 (more (string (codes "g")) end))) (more (list end) (more (boolean false) end))))) (more (boolean false) (more (boolean true) end)))) ∷ []))) end))) end))))) (more (string (codes "init")) (more (boolean false) (more (boolean false) (more (boolean true) end)))))) ∷ []))) end))) (more (child (node Kind.PrivateField 43 (more (child (node Kind.IdentifierReference 44 (more (string (codes "A")) end))) (more (child (node Kind.PrivateIdentifier 45 (more (string (codes "_p")) end))) (more (boolean false) (more (boolean false) end)))))) (more (boolean true) (more (boolean false) end)))))) (more (string (codes "init")) (more (boolean false) (more (boolean false) (more (boolean true) end)))))) ∷ []))) end))) (more (boolean false) (more (boolean true) end)))) ∷ []))) end))) end))) ∷ node Kind.ExpressionStatement 16 (more (child (node Kind.CallExpression 17 (more (child (node Kind.IdentifierReference 18 (more (string (codes "f")) end))) (more (list (trees (node Kind.MemberExpression 19 (more (child (node Kind.CallExpression 20 (more (child (node Kind.MemberExpression 21 (more (child (node Kind.IdentifierReference 22 (more (string (codes "Object")) end))) (more (child (node Kind.IdentifierName 23 (more (string (codes "values")) end))) (more (boolean false) (more (boolean false) end)))))) (more (list (trees (node Kind.MemberExpression 24 (more (child (node Kind.IdentifierReference 25 (more (string (codes "A")) end))) (more (child (node Kind.IdentifierName 26 (more (string (codes "x")) end))) (more (boolean false) (more (boolean false) end)))) ∷ []))) (more (boolean false) end))))) (more (child (node Kind.Literal 27 (more (literal (literal_value.Number (codes "0"))) end))) (more (boolean true) (more (boolean false) end)))) ∷ []))) (more (boolean false) end))))) (more no_string end)) ∷ []))) end))

abbrev pub generated_key_kept_by_a_call : List LedgerEntry
generated_key_kept_by_a_call = record { name = codes "_p"; kind = GeneratedKind.Private (record { 0 = 1 }) } ∷ record { name = codes "_"; kind = GeneratedKind.Private (record { 0 = 10 }) } ∷ []

abbrev pub options_key_kept_by_a_call : Options
options_key_kept_by_a_call = options_of true None false
