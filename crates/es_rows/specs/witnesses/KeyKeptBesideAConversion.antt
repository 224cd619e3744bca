-- Printed by tools/rows/witnesses.js.
use Rattle.std.specs.Prelude.{ℕ, List, [], ◌∷◌, true, false, codes, None}
use Rattle.es_base.specs.Tree.{Tree, end, more, child, absent, list, string, no_string, boolean, literal, trees}
use Rattle.es_base.specs.declared.kind.Kind.{Kind}
use Rattle.es_base.specs.declared.ledger.GeneratedKind.{GeneratedKind}
use Rattle.es_base.specs.declared.ledger.LedgerEntry.{LedgerEntry}
use Rattle.es_base.specs.declared.literal.LiteralValue.TheVariants as literal_value
use Rattle.es_steps.specs.Generated.{node}
use Rattle.es_steps.specs.Options.{options_of}
use Rattle.es_steps.specs.declared.options.Options.{Options}

-- `o.p = babelHelpers.toPropertyKey(1); class A { static { f(1); } static x = g(() => 1); }`
abbrev pub source_key_kept_beside_a_conversion : Tree
source_key_kept_beside_a_conversion = node Kind.Program 0 (more (string (codes "script")) (more (list (trees (node Kind.ExpressionStatement 1 (more (child (node Kind.AssignmentExpression 2 (more (string (codes "=")) (more (child (node Kind.MemberExpression 3 (more (child (node Kind.IdentifierReference 4 (more (string (codes "o")) end))) (more (child (node Kind.IdentifierName 5 (more (string (codes "p")) end))) (more (boolean false) (more (boolean false) end)))))) (more (child (node Kind.CallExpression 6 (more (child (node Kind.MemberExpression 7 (more (child (node Kind.IdentifierReference 8 (more (string (codes "babelHelpers")) end))) (more (child (node Kind.IdentifierName 9 (more (string (codes "toPropertyKey")) end))) (more (boolean false) (more (boolean false) end)))))) (more (list (trees (node Kind.Literal 10 (more (literal (literal_value.Number (codes "1"))) end) ∷ []))) (more (boolean false) end))))) end))))) (more no_string end)) ∷ node Kind.ClassDeclaration 11 (more (child (node Kind.BindingIdentifier 12 (more (string (codes "A")) end))) (more absent (more (child (node Kind.ClassBody 13 (more (list (trees (node Kind.StaticBlock 14 (more (list (trees (node Kind.ExpressionStatement 15 (more (child (node Kind.CallExpression 16 (more (child (node Kind.IdentifierReference 17 (more (string (codes "f")) end))) (more (list (trees (node Kind.Literal 18 (more (literal (literal_value.Number (codes "1"))) end) ∷ []))) (more (boolean false) end))))) (more no_string end)) ∷ []))) end) ∷ node Kind.PropertyDefinition 19 (more (child (node Kind.IdentifierName 20 (more (string (codes "x")) end))) (more (child (node Kind.CallExpression 21 (more (child (node Kind.IdentifierReference 22 (more (string (codes "g")) end))) (more (list (trees (node Kind.ArrowFunctionExpression 23 (more (list end) (more (child (node Kind.Literal 24 (more (literal (literal_value.Number (codes "1"))) end))) (more (boolean false) end))) ∷ []))) (more (boolean false) end))))) (more (boolean false) (more (boolean true) end)))) ∷ []))) end))) end))) ∷ []))) end))

-- a private element that holds no key, beside a conversion of the source: `o.p = babelHelpers.toPropertyKey(1); class A { static #_ = f(1); static x = g(({ [A.#_]: () => 1 })[A.#_]); }`
abbrev pub output_key_kept_beside_a_conversion : Tree
output_key_kept_beside_a_conversion = node Kind.Program 0 (more (string (codes "script")) (more (list (trees (node Kind.ExpressionStatement 1 (more (child (node Kind.AssignmentExpression 2 (more (string (codes "=")) (more (child (node Kind.MemberExpression 3 (more (child (node Kind.IdentifierReference 4 (more (string (codes "o")) end))) (more (child (node Kind.IdentifierName 5 (more (string (codes "p")) end))) (more (boolean false) (more (boolean false) end)))))) (more (child (node Kind.CallExpression 6 (more (child (node Kind.MemberExpression 7 (more (child (node Kind.IdentifierReference 8 (more (string (codes "babelHelpers")) end))) (more (child (node Kind.IdentifierName 9 (more (string (codes "toPropertyKey")) end))) (more (boolean false) (more (boolean false) end)))))) (more (list (trees (node Kind.Literal 10 (more (literal (literal_value.Number (codes "1"))) end) ∷ []))) (more (boolean false) end))))) end))))) (more no_string end)) ∷ node Kind.ClassDeclaration 11 (more (child (node Kind.BindingIdentifier 12 (more (string (codes "A")) end))) (more absent (more (child (node Kind.ClassBody 13 (more (list (trees (node Kind.PropertyDefinition 25 (more (child (node Kind.PrivateIdentifier 26 (more (string (codes "_")) end))) (more (child (node Kind.CallExpression 16 (more (child (node Kind.IdentifierReference 17 (more (string (codes "f")) end))) (more (list (trees (node Kind.Literal 18 (more (literal (literal_value.Number (codes "1"))) end) ∷ []))) (more (boolean false) end))))) (more (boolean false) (more (boolean true) end)))) ∷ node Kind.PropertyDefinition 19 (more (child (node Kind.IdentifierName 20 (more (string (codes "x")) end))) (more (child (node Kind.CallExpression 21 (more (child (node Kind.IdentifierReference 22 (more (string (codes "g")) end))) (more (list (trees (node Kind.MemberExpression 27 (more (child (node Kind.ObjectExpression 28 (more (list (trees (node Kind.Property 29 (more (child (node Kind.PrivateField 30 (more (child (node Kind.IdentifierReference 31 (more (string (codes "A")) end))) (more (child (node Kind.PrivateIdentifier 32 (more (string (codes "_")) end))) (more (boolean false) (more (boolean false) end)))))) (more (child (node Kind.ArrowFunctionExpression 23 (more (list end) (more (child (node Kind.Literal 24 (more (literal (literal_value.Number (codes "1"))) end))) (more (boolean false) end))))) (more (string (codes "init")) (more (boolean false) (more (boolean false) (more (boolean true) end)))))) ∷ []))) end))) (more (child (node Kind.PrivateField 33 (more (child (node Kind.IdentifierReference 34 (more (string (codes "A")) end))) (more (child (node Kind.PrivateIdentifier 35 (more (string (codes "_")) end))) (more (boolean false) (more (boolean false) end)))))) (more (boolean true) (more (boolean false) end)))) ∷ []))) (more (boolean false) end))))) (more (boolean false) (more (boolean true) end)))) ∷ []))) end))) end))) ∷ []))) end))

abbrev pub generated_key_kept_beside_a_conversion : List LedgerEntry
generated_key_kept_beside_a_conversion = record { name = codes "_"; kind = GeneratedKind.Private (record { 0 = 11 }) } ∷ []

abbrev pub options_key_kept_beside_a_conversion : Options
options_key_kept_beside_a_conversion = options_of true None false
