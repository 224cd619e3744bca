-- Printed by tools/rows/witnesses.js.
use Rattle.std.specs.Prelude.{ℕ, List, [], ◌∷◌, true, false, codes, None}
use Rattle.es_base.specs.Tree.{Tree, end, more, child, absent, list, string, no_string, boolean, literal, trees}
use Rattle.es_base.specs.declared.kind.Kind.{Kind}
use Rattle.es_base.specs.declared.ledger.GeneratedKind.{GeneratedKind}
use Rattle.es_base.specs.declared.ledger.LedgerEntry.{LedgerEntry}
use Rattle.es_base.specs.declared.literal.LiteralValue.TheVariants as literal_value
use Rattle.es_steps.specs.Generated.{node}
use Rattle.es_steps.specs.Options.{options_of}
use Rattle.es_steps.specs.declared.options.Options.{Options}

-- `class A { set #s(v) {} static { f(1); } m() { g({ [this.#s]: 1 }); } n() { h(); } }`
abbrev pub source_conversion_of_a_call_for_a_read_that_throws : Tree
source_conversion_of_a_call_for_a_read_that_throws = node Kind.Program 0 (more (string (codes "script")) (more (list (trees (node Kind.ClassDeclaration 1 (more (child (node Kind.BindingIdentifier 2 (more (string (codes "A")) end))) (more absent (more (child (node Kind.ClassBody 3 (more (list (trees (node Kind.MethodDefinition 4 (more (child (node Kind.PrivateIdentifier 5 (more (string (codes "s")) end))) (more (child (node Kind.FunctionExpression 6 (more absent (more (list (trees (node Kind.BindingIdentifier 7 (more (string (codes "v")) end) ∷ []))) (more (child (node Kind.BlockStatement 8 (more (list end) end))) (more (boolean false) (more (boolean false) end))))))) (more (string (codes "set")) (more (boolean false) (more (boolean false) end))))) ∷ node Kind.StaticBlock 9 (more (list (trees (node Kind.ExpressionStatement 10 (more (child (node Kind.CallExpression 11 (more (child (node Kind.IdentifierReference 12 (more (string (codes "f")) end))) (more (list (trees (node Kind.Literal 13 (more (literal (literal_value.Number (codes "1"))) end) ∷ []))) (more (boolean false) end))))) (more no_string end)) ∷ []))) end) ∷ node Kind.MethodDefinition 14 (more (child (node Kind.IdentifierName 15 (more (string (codes "m")) end))) (more (child (node Kind.FunctionExpression 16 (more absent (more (list end) (more (child (node Kind.BlockStatement 17 (more (list (trees (node Kind.ExpressionStatement 18 (more (child (node Kind.CallExpression 19 (more (child (node Kind.IdentifierReference 20 (more (string (codes "g")) end))) (more (list (trees (node Kind.ObjectExpression 21 (more (list (trees (node Kind.Property 22 (more (child (node Kind.PrivateField 23 (more (child (node Kind.ThisExpression 24 end)) (more (child (node Kind.PrivateIdentifier 25 (more (string (codes "s")) end))) (more (boolean false) (more (boolean false) end)))))) (more (child (node Kind.Literal 26 (more (literal (literal_value.Number (codes "1"))) end))) (more (string (codes "init")) (more (boolean false) (more (boolean false) (more (boolean true) end)))))) ∷ []))) end) ∷ []))) (more (boolean false) end))))) (more no_string end)) ∷ []))) end))) (more (boolean false) (more (boolean false) end))))))) (more (string (codes "method")) (more (boolean false) (more (boolean false) end))))) ∷ node Kind.MethodDefinition 27 (more (child (node Kind.IdentifierName 28 (more (string (codes "n")) end))) (more (child (node Kind.FunctionExpression 29 (more absent (more (list end) (more (child (node Kind.BlockStatement 30 (more (list (trees (node Kind.ExpressionStatement 31 (more (child (node Kind.CallExpression 32 (more (child (node Kind.IdentifierReference 33 (more (string (codes "h")) end))) (more (list end) (more (boolean false) end))))) (more no_string end)) ∷ []))) end))) (more (boolean false) (more (boolean false) end))))))) (more (string (codes "method")) (more (boolean false) (more (boolean false) end))))) ∷ []))) end))) end))) ∷ []))) end))

-- a conversion of what a new arrow gives, with the number of a key that always throws: `class A { set #s(v) {} static #_ = f(1); m() { g({ [this.#s]: 1 }); } n() { B.toPropertyKey((() => h())()); } }`
abbrev pub output_conversion_of_a_call_for_a_read_that_throws : Tree
output_conversion_of_a_call_for_a_read_that_throws = node Kind.Program 0 (more (string (codes "script")) (more (list (trees (node Kind.ClassDeclaration 1 (more (child (node Kind.BindingIdentifier 2 (more (string (codes "A")) end))) (more absent (more (child (node Kind.ClassBody 3 (more (list (trees (node Kind.MethodDefinition 4 (more (child (node Kind.PrivateIdentifier 5 (more (string (codes "s")) end))) (more (child (node Kind.FunctionExpression 6 (more absent (more (list (trees (node Kind.BindingIdentifier 7 (more (string (codes "v")) end) ∷ []))) (more (child (node Kind.BlockStatement 8 (more (list end) end))) (more (boolean false) (more (boolean false) end))))))) (more (string (codes "set")) (more (boolean false) (more (boolean false) end))))) ∷ node Kind.PropertyDefinition 34 (more (child (node Kind.PrivateIdentifier 35 (more (string (codes "_")) end))) (more (child (node Kind.CallExpression 11 (more (child (node Kind.IdentifierReference 12 (more (string (codes "f")) end))) (more (list (trees (node Kind.Literal 13 (more (literal (literal_value.Number (codes "1"))) end) ∷ []))) (more (boolean false) end))))) (more (boolean false) (more (boolean true) end)))) ∷ node Kind.MethodDefinition 14 (more (child (node Kind.IdentifierName 15 (more (string (codes "m")) end))) (more (child (node Kind.FunctionExpression 16 (more absent (more (list end) (more (child (node Kind.BlockStatement 17 (more (list (trees (node Kind.ExpressionStatement 18 (more (child (node Kind.CallExpression 19 (more (child (node Kind.IdentifierReference 20 (more (string (codes "g")) end))) (more (list (trees (node Kind.ObjectExpression 21 (more (list (trees (node Kind.Property 22 (more (child (node Kind.PrivateField 36 (more (child (node Kind.ThisExpression 24 end)) (more (child (node Kind.PrivateIdentifier 25 (more (string (codes "s")) end))) (more (boolean false) (more (boolean false) end)))))) (more (child (node Kind.Literal 26 (more (literal (literal_value.Number (codes "1"))) end))) (more (string (codes "init")) (more (boolean false) (more (boolean false) (more (boolean true) end)))))) ∷ []))) end) ∷ []))) (more (boolean false) end))))) (more no_string end)) ∷ []))) end))) (more (boolean false) (more (boolean false) end))))))) (more (string (codes "method")) (more (boolean false) (more (boolean false) end))))) ∷ node Kind.MethodDefinition 27 (more (child (node Kind.IdentifierName 28 (more (string (codes "n")) end))) (more (child (node Kind.FunctionExpression 29 (more absent (more (list end) (more (child (node Kind.BlockStatement 30 (more (list (trees (node Kind.ExpressionStatement 31 (more (child (node Kind.CallExpression 37 (more (child (node Kind.MemberExpression 38 (more (child (node Kind.IdentifierReference 39 (more (string (codes "babelHelpers")) end))) (more (child (node Kind.IdentifierName 40 (more (string (codes "toPropertyKey")) end))) (more (boolean false) (more (boolean false) end)))))) (more (list (trees (node Kind.CallExpression 23 (more (child (node Kind.ArrowFunctionExpression 41 (more (list end) (more (child (node Kind.CallExpression 32 (more (child (node Kind.IdentifierReference 33 (more (string (codes "h")) end))) (more (list end) (more (boolean false) end))))) (more (boolean false) end))))) (more (list end) (more (boolean false) end))) ∷ []))) (more (boolean false) end))))) (more no_string end)) ∷ []))) end))) (more (boolean false) (more (boolean false) end))))))) (more (string (codes "method")) (more (boolean false) (more (boolean false) end))))) ∷ []))) end))) end))) ∷ []))) end))

abbrev pub generated_conversion_of_a_call_for_a_read_that_throws : List LedgerEntry
generated_conversion_of_a_call_for_a_read_that_throws = record { name = codes "_"; kind = GeneratedKind.Private (record { 0 = 1 }) } ∷ []

abbrev pub options_conversion_of_a_call_for_a_read_that_throws : Options
options_conversion_of_a_call_for_a_read_that_throws = options_of true None false
