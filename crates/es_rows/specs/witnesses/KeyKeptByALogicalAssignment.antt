-- Printed by tools/rows/witnesses.js.
use Rattle.std.specs.Prelude.{ℕ, List, [], ◌∷◌, true, false, codes, None}
use Rattle.es_base.specs.Tree.{Tree, end, more, child, absent, list, string, no_string, boolean, literal, trees}
use Rattle.es_base.specs.declared.kind.Kind.{Kind}
use Rattle.es_base.specs.declared.ledger.GeneratedKind.{GeneratedKind}
use Rattle.es_base.specs.declared.ledger.LedgerEntry.{LedgerEntry}
use Rattle.es_base.specs.declared.literal.LiteralValue.TheVariants as literal_value
use Rattle.es_steps.specs.Generated.{node}
use Rattle.es_steps.specs.Options.{options_of}
use Rattle.es_steps.specs.declared.options.Options.{Options}

-- `class A { static { a ||= function () { }; } static x = g(() => 1); }`
abbrev pub source_key_kept_by_a_logical_assignment : Tree
source_key_kept_by_a_logical_assignment = node Kind.Program 0 (more (string (codes "script")) (more (list (trees (node Kind.ClassDeclaration 1 (more (child (node Kind.BindingIdentifier 2 (more (string (codes "A")) end))) (more absent (more (child (node Kind.ClassBody 3 (more (list (trees (node Kind.StaticBlock 4 (more (list (trees (node Kind.ExpressionStatement 5 (more (child (node Kind.AssignmentExpression 6 (more (string (codes "||=")) (more (child (node Kind.IdentifierReference 7 (more (string (codes "a")) end))) (more (child (node Kind.FunctionExpression 8 (more absent (more (list end) (more (child (node Kind.BlockStatement 9 (more (list end) end))) (more (boolean false) (more (boolean false) end))))))) end))))) (more no_string end)) ∷ []))) end) ∷ node Kind.PropertyDefinition 10 (more (child (node Kind.IdentifierName 11 (more (string (codes "x")) end))) (more (child (node Kind.CallExpression 12 (more (child (node Kind.IdentifierReference 13 (more (string (codes "g")) end))) (more (list (trees (node Kind.ArrowFunctionExpression 14 (more (list end) (more (child (node Kind.Literal 15 (more (literal (literal_value.Number (codes "1"))) end))) (more (boolean false) end))) ∷ []))) (more (boolean false) end))))) (more (boolean false) (more (boolean true) end)))) ∷ []))) end))) end))) ∷ []))) end))

-- a private element that holds what `||=` gave, as a key: `class A { static #_ = a ||= function () { }; static x = g(({ [A.#_]: () => 1 })[A.#_]); }`
abbrev pub output_key_kept_by_a_logical_assignment : Tree
output_key_kept_by_a_logical_assignment = node Kind.Program 0 (more (string (codes "script")) (more (list (trees (node Kind.ClassDeclaration 1 (more (child (node Kind.BindingIdentifier 2 (more (string (codes "A")) end))) (more absent (more (child (node Kind.ClassBody 3 (more (list (trees (node Kind.PropertyDefinition 16 (more (child (node Kind.PrivateIdentifier 17 (more (string (codes "_")) end))) (more (child (node Kind.AssignmentExpression 6 (more (string (codes "||=")) (more (child (node Kind.IdentifierReference 7 (more (string (codes "a")) end))) (more (child (node Kind.FunctionExpression 8 (more absent (more (list end) (more (child (node Kind.BlockStatement 9 (more (list end) end))) (more (boolean false) (more (boolean false) end))))))) end))))) (more (boolean false) (more (boolean true) end)))) ∷ node Kind.PropertyDefinition 10 (more (child (node Kind.IdentifierName 11 (more (string (codes "x")) end))) (more (child (node Kind.CallExpression 12 (more (child (node Kind.IdentifierReference 13 (more (string (codes "g")) end))) (more (list (trees (node Kind.MemberExpression 18 (more (child (node Kind.ObjectExpression 19 (more (list (trees (node Kind.Property 20 (more (child (node Kind.PrivateField 21 (more (child (node Kind.IdentifierReference 22 (more (string (codes "A")) end))) (more (child (node Kind.PrivateIdentifier 23 (more (string (codes "_")) end))) (more (boolean false) (more (boolean false) end)))))) (more (child (node Kind.ArrowFunctionExpression 14 (more (list end) (more (child (node Kind.Literal 15 (more (literal (literal_value.Number (codes "1"))) end))) (more (boolean false) end))))) (more (string (codes "init")) (more (boolean false) (more (boolean false) (more (boolean true) end)))))) ∷ []))) end))) (more (child (node Kind.PrivateField 24 (more (child (node Kind.IdentifierReference 25 (more (string (codes "A")) end))) (more (child (node Kind.PrivateIdentifier 26 (more (string (codes "_")) end))) (more (boolean false) (more (boolean false) end)))))) (more (boolean true) (more (boolean false) end)))) ∷ []))) (more (boolean false) end))))) (more (boolean false) (more (boolean true) end)))) ∷ []))) end))) end))) ∷ []))) end))

abbrev pub generated_key_kept_by_a_logical_assignment : List LedgerEntry
generated_key_kept_by_a_logical_assignment = record { name = codes "_"; kind = GeneratedKind.Private (record { 0 = 1 }) } ∷ []

abbrev pub options_key_kept_by_a_logical_assignment : Options
options_key_kept_by_a_logical_assignment = options_of true None false
