-- Printed by tools/rows/witnesses.js.
use Rattle.std.specs.Prelude.{ℕ, List, [], ◌∷◌, true, false, codes, None}
use Rattle.es_base.specs.Tree.{Tree, end, more, child, absent, list, string, no_string, boolean, literal, trees}
use Rattle.es_base.specs.declared.kind.Kind.{Kind}
use Rattle.es_base.specs.declared.ledger.LedgerEntry.{LedgerEntry}
use Rattle.es_base.specs.declared.literal.LiteralValue.TheVariants as literal_value
use Rattle.es_steps.specs.Generated.{node}
use Rattle.es_steps.specs.Options.{options_of}
use Rattle.es_steps.specs.declared.options.Options.{Options}

-- `class C { get #m() { return 1; } static { f(); } static v = 1; t(o) { return o.#m; } }`
abbrev pub source_getter_made_a_method : Tree
source_getter_made_a_method = node Kind.Program 0 (more (string (codes "script")) (more (list (trees (node Kind.ClassDeclaration 1 (more (child (node Kind.BindingIdentifier 2 (more (string (codes "C")) end))) (more absent (more (child (node Kind.ClassBody 3 (more (list (trees (node Kind.MethodDefinition 4 (more (child (node Kind.PrivateIdentifier 5 (more (string (codes "m")) end))) (more (child (node Kind.FunctionExpression 6 (more absent (more (list end) (more (child (node Kind.BlockStatement 7 (more (list (trees (node Kind.ReturnStatement 8 (more (child (node Kind.Literal 9 (more (literal (literal_value.Number (codes "1"))) end))) end) ∷ []))) end))) (more (boolean false) (more (boolean false) end))))))) (more (string (codes "get")) (more (boolean false) (more (boolean false) end))))) ∷ node Kind.StaticBlock 10 (more (list (trees (node Kind.ExpressionStatement 11 (more (child (node Kind.CallExpression 12 (more (child (node Kind.IdentifierReference 13 (more (string (codes "f")) end))) (more (list end) (more (boolean false) end))))) (more no_string end)) ∷ []))) end) ∷ node Kind.PropertyDefinition 14 (more (child (node Kind.IdentifierName 15 (more (string (codes "v")) end))) (more (child (node Kind.Literal 16 (more (literal (literal_value.Number (codes "1"))) end))) (more (boolean false) (more (boolean true) end)))) ∷ node Kind.MethodDefinition 17 (more (child (node Kind.IdentifierName 18 (more (string (codes "t")) end))) (more (child (node Kind.FunctionExpression 19 (more absent (more (list (trees (node Kind.BindingIdentifier 20 (more (string (codes "o")) end) ∷ []))) (more (child (node Kind.BlockStatement 21 (more (list (trees (node Kind.ReturnStatement 22 (more (child (node Kind.PrivateField 23 (more (child (node Kind.IdentifierReference 24 (more (string (codes "o")) end))) (more (child (node Kind.PrivateIdentifier 25 (more (string (codes "m")) end))) (more (boolean false) (more (boolean false) end)))))) end) ∷ []))) end))) (more (boolean false) (more (boolean false) end))))))) (more (string (codes "method")) (more (boolean false) (more (boolean false) end))))) ∷ []))) end))) end))) ∷ []))) end))

-- a private getter that becomes a method, where `class C { get #m() { return 1; } static v = (f(), 1); t(o) { return o.#m; } }` is right
abbrev pub output_getter_made_a_method : Tree
output_getter_made_a_method = node Kind.Program 0 (more (string (codes "script")) (more (list (trees (node Kind.ClassDeclaration 1 (more (child (node Kind.BindingIdentifier 2 (more (string (codes "C")) end))) (more absent (more (child (node Kind.ClassBody 3 (more (list (trees (node Kind.MethodDefinition 4 (more (child (node Kind.PrivateIdentifier 5 (more (string (codes "m")) end))) (more (child (node Kind.FunctionExpression 6 (more absent (more (list end) (more (child (node Kind.BlockStatement 7 (more (list (trees (node Kind.ReturnStatement 8 (more (child (node Kind.Literal 9 (more (literal (literal_value.Number (codes "1"))) end))) end) ∷ []))) end))) (more (boolean false) (more (boolean false) end))))))) (more (string (codes "method")) (more (boolean false) (more (boolean false) end))))) ∷ node Kind.PropertyDefinition 14 (more (child (node Kind.IdentifierName 15 (more (string (codes "v")) end))) (more (child (node Kind.SequenceExpression 26 (more (list (trees (node Kind.CallExpression 12 (more (child (node Kind.IdentifierReference 13 (more (string (codes "f")) end))) (more (list end) (more (boolean false) end))) ∷ node Kind.Literal 16 (more (literal (literal_value.Number (codes "1"))) end) ∷ []))) end))) (more (boolean false) (more (boolean true) end)))) ∷ node Kind.MethodDefinition 17 (more (child (node Kind.IdentifierName 18 (more (string (codes "t")) end))) (more (child (node Kind.FunctionExpression 19 (more absent (more (list (trees (node Kind.BindingIdentifier 20 (more (string (codes "o")) end) ∷ []))) (more (child (node Kind.BlockStatement 21 (more (list (trees (node Kind.ReturnStatement 22 (more (child (node Kind.PrivateField 23 (more (child (node Kind.IdentifierReference 24 (more (string (codes "o")) end))) (more (child (node Kind.PrivateIdentifier 25 (more (string (codes "m")) end))) (more (boolean false) (more (boolean false) end)))))) end) ∷ []))) end))) (more (boolean false) (more (boolean false) end))))))) (more (string (codes "method")) (more (boolean false) (more (boolean false) end))))) ∷ []))) end))) end))) ∷ []))) end))

abbrev pub generated_getter_made_a_method : List LedgerEntry
generated_getter_made_a_method = []

abbrev pub options_getter_made_a_method : Options
options_getter_made_a_method = options_of true None false
