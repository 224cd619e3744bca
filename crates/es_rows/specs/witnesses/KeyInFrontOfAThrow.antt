-- Printed by tools/rows/witnesses.js.
use Rattle.std.specs.Prelude.{ℕ, List, [], ◌∷◌, true, false, codes, Some, None}
use Rattle.es_base.specs.Tree.{Tree, end, more, child, absent, list, string, no_string, boolean, literal, trees}
use Rattle.es_base.specs.declared.kind.Kind.{Kind}
use Rattle.es_base.specs.declared.ledger.GeneratedKind.{GeneratedKind}
use Rattle.es_base.specs.declared.ledger.LedgerEntry.{LedgerEntry}
use Rattle.es_base.specs.declared.literal.LiteralValue.TheVariants as literal_value
use Rattle.es_steps.specs.Generated.{node}
use Rattle.es_steps.specs.Options.{options_of}
use Rattle.es_steps.specs.declared.options.Options.{Options}

-- `class A { #m() {} static { f(1); } m() { this.#m = 1; g({ [class { static toString() { h(); return "a"; } }]: 1 }); } }`
abbrev pub source_key_in_front_of_a_throw : Tree
source_key_in_front_of_a_throw = node Kind.Program 0 (more (string (codes "script")) (more (list (trees (node Kind.ClassDeclaration 1 (more (child (node Kind.BindingIdentifier 2 (more (string (codes "A")) end))) (more absent (more (child (node Kind.ClassBody 3 (more (list (trees (node Kind.MethodDefinition 4 (more (child (node Kind.PrivateIdentifier 5 (more (string (codes "m")) end))) (more (child (node Kind.FunctionExpression 6 (more absent (more (list end) (more (child (node Kind.BlockStatement 7 (more (list end) end))) (more (boolean false) (more (boolean false) end))))))) (more (string (codes "method")) (more (boolean false) (more (boolean false) end))))) ∷ node Kind.StaticBlock 8 (more (list (trees (node Kind.ExpressionStatement 9 (more (child (node Kind.CallExpression 10 (more (child (node Kind.IdentifierReference 11 (more (string (codes "f")) end))) (more (list (trees (node Kind.Literal 12 (more (literal (literal_value.Number (codes "1"))) end) ∷ []))) (more (boolean false) end))))) (more no_string end)) ∷ []))) end) ∷ node Kind.MethodDefinition 13 (more (child (node Kind.IdentifierName 14 (more (string (codes "m")) end))) (more (child (node Kind.FunctionExpression 15 (more absent (more (list end) (more (child (node Kind.BlockStatement 16 (more (list (trees (node Kind.ExpressionStatement 17 (more (child (node Kind.AssignmentExpression 18 (more (string (codes "=")) (more (child (node Kind.PrivateField 19 (more (child (node Kind.ThisExpression 20 end)) (more (child (node Kind.PrivateIdentifier 21 (more (string (codes "m")) end))) (more (boolean false) (more (boolean false) end)))))) (more (child (node Kind.Literal 22 (more (literal (literal_value.Number (codes "1"))) end))) end))))) (more no_string end)) ∷ node Kind.ExpressionStatement 23 (more (child (node Kind.CallExpression 24 (more (child (node Kind.IdentifierReference 25 (more (string (codes "g")) end))) (more (list (trees (node Kind.ObjectExpression 26 (more (list (trees (node Kind.Property 27 (more (child (node Kind.ClassExpression 28 (more absent (more absent (more (child (node Kind.ClassBody 29 (more (list (trees (node Kind.MethodDefinition 30 (more (child (node Kind.IdentifierName 31 (more (string (codes "toString")) end))) (more (child (node Kind.FunctionExpression 32 (more absent (more (list end) (more (child (node Kind.BlockStatement 33 (more (list (trees (node Kind.ExpressionStatement 34 (more (child (node Kind.CallExpression 35 (more (child (node Kind.IdentifierReference 36 (more (string (codes "h")) end))) (more (list end) (more (boolean false) end))))) (more no_string end)) ∷ node Kind.ReturnStatement 37 (more (child (node Kind.Literal 38 (more (literal (literal_value.String (codes "a") (Some (codes "\"a\"")))) end))) end) ∷ []))) end))) (more (boolean false) (more (boolean false) end))))))) (more (string (codes "method")) (more (boolean false) (more (boolean true) end))))) ∷ []))) end))) end))))) (more (child (node Kind.Literal 39 (more (literal (literal_value.Number (codes "1"))) end))) (more (string (codes "init")) (more (boolean false) (more (boolean false) (more (boolean true) end)))))) ∷ []))) end) ∷ []))) (more (boolean false) end))))) (more no_string end)) ∷ []))) end))) (more (boolean false) (more (boolean false) end))))))) (more (string (codes "method")) (more (boolean false) (more (boolean false) end))))) ∷ []))) end))) end))) ∷ []))) end))

-- a key behind an access that always throws, which is made and converted in front of it: `class A { #m() {} static #_ = f(1); m() { B.toPropertyKey(class { static toString() { h(); return "a"; } }), this.#m = 1; g({ [0]: 1 }); } }`
abbrev pub output_key_in_front_of_a_throw : Tree
output_key_in_front_of_a_throw = node Kind.Program 0 (more (string (codes "script")) (more (list (trees (node Kind.ClassDeclaration 1 (more (child (node Kind.BindingIdentifier 2 (more (string (codes "A")) end))) (more absent (more (child (node Kind.ClassBody 3 (more (list (trees (node Kind.MethodDefinition 4 (more (child (node Kind.PrivateIdentifier 5 (more (string (codes "m")) end))) (more (child (node Kind.FunctionExpression 6 (more absent (more (list end) (more (child (node Kind.BlockStatement 7 (more (list end) end))) (more (boolean false) (more (boolean false) end))))))) (more (string (codes "method")) (more (boolean false) (more (boolean false) end))))) ∷ node Kind.PropertyDefinition 40 (more (child (node Kind.PrivateIdentifier 41 (more (string (codes "_")) end))) (more (child (node Kind.CallExpression 10 (more (child (node Kind.IdentifierReference 11 (more (string (codes "f")) end))) (more (list (trees (node Kind.Literal 12 (more (literal (literal_value.Number (codes "1"))) end) ∷ []))) (more (boolean false) end))))) (more (boolean false) (more (boolean true) end)))) ∷ node Kind.MethodDefinition 13 (more (child (node Kind.IdentifierName 14 (more (string (codes "m")) end))) (more (child (node Kind.FunctionExpression 15 (more absent (more (list end) (more (child (node Kind.BlockStatement 16 (more (list (trees (node Kind.ExpressionStatement 17 (more (child (node Kind.SequenceExpression 42 (more (list (trees (node Kind.CallExpression 43 (more (child (node Kind.MemberExpression 44 (more (child (node Kind.IdentifierReference 45 (more (string (codes "babelHelpers")) end))) (more (child (node Kind.IdentifierName 46 (more (string (codes "toPropertyKey")) end))) (more (boolean false) (more (boolean false) end)))))) (more (list (trees (node Kind.ClassExpression 28 (more absent (more absent (more (child (node Kind.ClassBody 29 (more (list (trees (node Kind.MethodDefinition 30 (more (child (node Kind.IdentifierName 31 (more (string (codes "toString")) end))) (more (child (node Kind.FunctionExpression 32 (more absent (more (list end) (more (child (node Kind.BlockStatement 33 (more (list (trees (node Kind.ExpressionStatement 34 (more (child (node Kind.CallExpression 35 (more (child (node Kind.IdentifierReference 36 (more (string (codes "h")) end))) (more (list end) (more (boolean false) end))))) (more no_string end)) ∷ node Kind.ReturnStatement 37 (more (child (node Kind.Literal 38 (more (literal (literal_value.String (codes "a") (Some (codes "\"a\"")))) end))) end) ∷ []))) end))) (more (boolean false) (more (boolean false) end))))))) (more (string (codes "method")) (more (boolean false) (more (boolean true) end))))) ∷ []))) end))) end))) ∷ []))) (more (boolean false) end))) ∷ node Kind.AssignmentExpression 18 (more (string (codes "=")) (more (child (node Kind.PrivateField 19 (more (child (node Kind.ThisExpression 20 end)) (more (child (node Kind.PrivateIdentifier 21 (more (string (codes "m")) end))) (more (boolean false) (more (boolean false) end)))))) (more (child (node Kind.Literal 22 (more (literal (literal_value.Number (codes "1"))) end))) end))) ∷ []))) end))) (more no_string end)) ∷ node Kind.ExpressionStatement 23 (more (child (node Kind.CallExpression 24 (more (child (node Kind.IdentifierReference 25 (more (string (codes "g")) end))) (more (list (trees (node Kind.ObjectExpression 26 (more (list (trees (node Kind.Property 27 (more (child (node Kind.Literal 47 (more (literal (literal_value.Number (codes "0"))) end))) (more (child (node Kind.Literal 39 (more (literal (literal_value.Number (codes "1"))) end))) (more (string (codes "init")) (more (boolean false) (more (boolean false) (more (boolean true) end)))))) ∷ []))) end) ∷ []))) (more (boolean false) end))))) (more no_string end)) ∷ []))) end))) (more (boolean false) (more (boolean false) end))))))) (more (string (codes "method")) (more (boolean false) (more (boolean false) end))))) ∷ []))) end))) end))) ∷ []))) end))

abbrev pub generated_key_in_front_of_a_throw : List LedgerEntry
generated_key_in_front_of_a_throw = record { name = codes "_"; kind = GeneratedKind.Private (record { 0 = 1 }) } ∷ []

abbrev pub options_key_in_front_of_a_throw : Options
options_key_in_front_of_a_throw = options_of true None false
