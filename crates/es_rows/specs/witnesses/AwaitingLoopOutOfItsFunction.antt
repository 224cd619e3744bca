-- Printed by tools/rows/witnesses.js.
use Rattle.std.specs.Prelude.{ℕ, List, [], ◌∷◌, true, false, codes, None}
use Rattle.es_base.specs.Tree.{Tree, end, more, child, absent, list, string, no_string, boolean, literal, trees}
use Rattle.es_base.specs.declared.kind.Kind.{Kind}
use Rattle.es_base.specs.declared.ledger.GeneratedKind.{GeneratedKind}
use Rattle.es_base.specs.declared.ledger.LedgerEntry.{LedgerEntry}
use Rattle.es_base.specs.declared.literal.LiteralValue.TheVariants as literal_value
use Rattle.es_steps.specs.Generated.{node}
use Rattle.es_steps.specs.Options.{options_of}
use Rattle.es_steps.specs.declared.options.Options.{Options}

-- `class A { static { f(1); } #m() {} async w(v) { this.#m = v; if (v) for await (v of v) ; (function (o) { o.#m = 1; if (v) ; }); } }`
abbrev pub source_awaiting_loop_out_of_its_function : Tree
source_awaiting_loop_out_of_its_function = node Kind.Program 0 (more (string (codes "script")) (more (list (trees (node Kind.ClassDeclaration 1 (more (child (node Kind.BindingIdentifier 2 (more (string (codes "A")) end))) (more absent (more (child (node Kind.ClassBody 3 (more (list (trees (node Kind.StaticBlock 4 (more (list (trees (node Kind.ExpressionStatement 5 (more (child (node Kind.CallExpression 6 (more (child (node Kind.IdentifierReference 7 (more (string (codes "f")) end))) (more (list (trees (node Kind.Literal 8 (more (literal (literal_value.Number (codes "1"))) end) ∷ []))) (more (boolean false) end))))) (more no_string end)) ∷ []))) end) ∷ node Kind.MethodDefinition 9 (more (child (node Kind.PrivateIdentifier 10 (more (string (codes "m")) end))) (more (child (node Kind.FunctionExpression 11 (more absent (more (list end) (more (child (node Kind.BlockStatement 12 (more (list end) end))) (more (boolean false) (more (boolean false) end))))))) (more (string (codes "method")) (more (boolean false) (more (boolean false) end))))) ∷ node Kind.MethodDefinition 13 (more (child (node Kind.IdentifierName 14 (more (string (codes "w")) end))) (more (child (node Kind.FunctionExpression 15 (more absent (more (list (trees (node Kind.BindingIdentifier 16 (more (string (codes "v")) end) ∷ []))) (more (child (node Kind.BlockStatement 17 (more (list (trees (node Kind.ExpressionStatement 18 (more (child (node Kind.AssignmentExpression 19 (more (string (codes "=")) (more (child (node Kind.PrivateField 20 (more (child (node Kind.ThisExpression 21 end)) (more (child (node Kind.PrivateIdentifier 22 (more (string (codes "m")) end))) (more (boolean false) (more (boolean false) end)))))) (more (child (node Kind.IdentifierReference 23 (more (string (codes "v")) end))) end))))) (more no_string end)) ∷ node Kind.IfStatement 24 (more (child (node Kind.IdentifierReference 25 (more (string (codes "v")) end))) (more (child (node Kind.ForOfStatement 26 (more (child (node Kind.IdentifierReference 27 (more (string (codes "v")) end))) (more (child (node Kind.IdentifierReference 28 (more (string (codes "v")) end))) (more (child (node Kind.EmptyStatement 29 end)) (more (boolean true) end)))))) (more absent end))) ∷ node Kind.ExpressionStatement 30 (more (child (node Kind.FunctionExpression 31 (more absent (more (list (trees (node Kind.BindingIdentifier 32 (more (string (codes "o")) end) ∷ []))) (more (child (node Kind.BlockStatement 33 (more (list (trees (node Kind.ExpressionStatement 34 (more (child (node Kind.AssignmentExpression 35 (more (string (codes "=")) (more (child (node Kind.PrivateField 36 (more (child (node Kind.IdentifierReference 37 (more (string (codes "o")) end))) (more (child (node Kind.PrivateIdentifier 38 (more (string (codes "m")) end))) (more (boolean false) (more (boolean false) end)))))) (more (child (node Kind.Literal 39 (more (literal (literal_value.Number (codes "1"))) end))) end))))) (more no_string end)) ∷ node Kind.IfStatement 40 (more (child (node Kind.IdentifierReference 41 (more (string (codes "v")) end))) (more (child (node Kind.EmptyStatement 42 end)) (more absent end))) ∷ []))) end))) (more (boolean false) (more (boolean false) end))))))) (more no_string end)) ∷ []))) end))) (more (boolean true) (more (boolean false) end))))))) (more (string (codes "method")) (more (boolean false) (more (boolean false) end))))) ∷ []))) end))) end))) ∷ []))) end))

-- a `for await` in a function that is not async, behind what always throws, where `class A { static #_ = f(1); #m() {} async w(v) { this.#m = v; if (v) for await (v of v) ; (function (o) { o.#m = 1; if (v) ; }); } }` is right
abbrev pub output_awaiting_loop_out_of_its_function : Tree
output_awaiting_loop_out_of_its_function = node Kind.Program 0 (more (string (codes "script")) (more (list (trees (node Kind.ClassDeclaration 1 (more (child (node Kind.BindingIdentifier 2 (more (string (codes "A")) end))) (more absent (more (child (node Kind.ClassBody 3 (more (list (trees (node Kind.PropertyDefinition 43 (more (child (node Kind.PrivateIdentifier 44 (more (string (codes "_")) end))) (more (child (node Kind.CallExpression 6 (more (child (node Kind.IdentifierReference 7 (more (string (codes "f")) end))) (more (list (trees (node Kind.Literal 8 (more (literal (literal_value.Number (codes "1"))) end) ∷ []))) (more (boolean false) end))))) (more (boolean false) (more (boolean true) end)))) ∷ node Kind.MethodDefinition 9 (more (child (node Kind.PrivateIdentifier 10 (more (string (codes "m")) end))) (more (child (node Kind.FunctionExpression 11 (more absent (more (list end) (more (child (node Kind.BlockStatement 12 (more (list end) end))) (more (boolean false) (more (boolean false) end))))))) (more (string (codes "method")) (more (boolean false) (more (boolean false) end))))) ∷ node Kind.MethodDefinition 13 (more (child (node Kind.IdentifierName 14 (more (string (codes "w")) end))) (more (child (node Kind.FunctionExpression 15 (more absent (more (list (trees (node Kind.BindingIdentifier 16 (more (string (codes "v")) end) ∷ []))) (more (child (node Kind.BlockStatement 17 (more (list (trees (node Kind.ExpressionStatement 18 (more (child (node Kind.AssignmentExpression 19 (more (string (codes "=")) (more (child (node Kind.PrivateField 20 (more (child (node Kind.ThisExpression 21 end)) (more (child (node Kind.PrivateIdentifier 22 (more (string (codes "m")) end))) (more (boolean false) (more (boolean false) end)))))) (more (child (node Kind.IdentifierReference 23 (more (string (codes "v")) end))) end))))) (more no_string end)) ∷ node Kind.IfStatement 24 (more (child (node Kind.IdentifierReference 25 (more (string (codes "v")) end))) (more (child (node Kind.EmptyStatement 42 end)) (more absent end))) ∷ node Kind.ExpressionStatement 30 (more (child (node Kind.FunctionExpression 31 (more absent (more (list (trees (node Kind.BindingIdentifier 32 (more (string (codes "o")) end) ∷ []))) (more (child (node Kind.BlockStatement 33 (more (list (trees (node Kind.ExpressionStatement 34 (more (child (node Kind.AssignmentExpression 35 (more (string (codes "=")) (more (child (node Kind.PrivateField 36 (more (child (node Kind.IdentifierReference 37 (more (string (codes "o")) end))) (more (child (node Kind.PrivateIdentifier 38 (more (string (codes "m")) end))) (more (boolean false) (more (boolean false) end)))))) (more (child (node Kind.Literal 39 (more (literal (literal_value.Number (codes "1"))) end))) end))))) (more no_string end)) ∷ node Kind.IfStatement 40 (more (child (node Kind.IdentifierReference 41 (more (string (codes "v")) end))) (more (child (node Kind.ForOfStatement 26 (more (child (node Kind.IdentifierReference 27 (more (string (codes "v")) end))) (more (child (node Kind.IdentifierReference 28 (more (string (codes "v")) end))) (more (child (node Kind.EmptyStatement 29 end)) (more (boolean true) end)))))) (more absent end))) ∷ []))) end))) (more (boolean false) (more (boolean false) end))))))) (more no_string end)) ∷ []))) end))) (more (boolean true) (more (boolean false) end))))))) (more (string (codes "method")) (more (boolean false) (more (boolean false) end))))) ∷ []))) end))) end))) ∷ []))) end))

abbrev pub generated_awaiting_loop_out_of_its_function : List LedgerEntry
generated_awaiting_loop_out_of_its_function = record { name = codes "_"; kind = GeneratedKind.Private (record { 0 = 1 }) } ∷ []

abbrev pub options_awaiting_loop_out_of_its_function : Options
options_awaiting_loop_out_of_its_function = options_of true None false
