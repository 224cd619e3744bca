-- Printed by tools/rows/witnesses.js.
use Rattle.std.specs.Prelude.{ℕ, List, [], ◌∷◌, true, false, codes, None}
use Rattle.es_base.specs.Tree.{Tree, end, more, child, absent, list, string, no_string, boolean, literal, trees}
use Rattle.es_base.specs.declared.kind.Kind.{Kind}
use Rattle.es_base.specs.declared.ledger.GeneratedKind.{GeneratedKind}
use Rattle.es_base.specs.declared.ledger.LedgerEntry.{LedgerEntry}
use Rattle.es_base.specs.declared.literal.LiteralValue.TheVariants as literal_value
use Rattle.es_steps.specs.Generated.{node}
use Rattle.es_steps.specs.Options.{options_of}
use Rattle.es_steps.specs.declared.options.Options.{Options}

-- `class A { static { a = function () { }; } static y = h(a); static x = g(() => 1); }`
abbrev pub source_key_kept_by_an_assigned_function : Tree
source_key_kept_by_an_assigned_function = node Kind.Program 0 (more (string (codes "script")) (more (list (trees (node Kind.ClassDeclaration 1 (more (child (node Kind.BindingIdentifier 2 (more (string (codes "A")) end))) (more absent (more (child (node Kind.ClassBody 3 (more (list (trees (node Kind.StaticBlock 4 (more (list (trees (node Kind.ExpressionStatement 5 (more (child (node Kind.AssignmentExpression 6 (more (string (codes "=")) (more (child (node Kind.IdentifierReference 7 (more (string (codes "a")) end))) (more (child (node Kind.FunctionExpression 8 (more absent (more (list end) (more (child (node Kind.BlockStatement 9 (more (list end) end))) (more (boolean false) (more (boolean false) end))))))) end))))) (more no_string end)) ∷ []))) end) ∷ node Kind.PropertyDefinition 10 (more (child (node Kind.IdentifierName 11 (more (string (codes "y")) end))) (more (child (node Kind.CallExpression 12 (more (child (node Kind.IdentifierReference 13 (more (string (codes "h")) end))) (more (list (trees (node Kind.IdentifierReference 14 (more (string (codes "a")) end) ∷ []))) (more (boolean false) end))))) (more (boolean false) (more (boolean true) end)))) ∷ node Kind.PropertyDefinition 15 (more (child (node Kind.IdentifierName 16 (more (string (codes "x")) end))) (more (child (node Kind.CallExpression 17 (more (child (node Kind.IdentifierReference 18 (more (string (codes "g")) end))) (more (list (trees (node Kind.ArrowFunctionExpression 19 (more (list end) (more (child (node Kind.Literal 20 (more (literal (literal_value.Number (codes "1"))) end))) (more (boolean false) end))) ∷ []))) (more (boolean false) end))))) (more (boolean false) (more (boolean true) end)))) ∷ []))) end))) end))) ∷ []))) end))

-- a private element that holds a function of the source, as a key: `class A { static #_ = a = function () { }; static y = h(a); static x = g(({ [A.#_]: () => 1 })[A.#_]); }`
abbrev pub output_key_kept_by_an_assigned_function : Tree
output_key_kept_by_an_assigned_function = node Kind.Program 0 (more (string (codes "script")) (more (list (trees (node Kind.ClassDeclaration 1 (more (child (node Kind.BindingIdentifier 2 (more (string (codes "A")) end))) (more absent (more (child (node Kind.ClassBody 3 (more (list (trees (node Kind.PropertyDefinition 21 (more (child (node Kind.PrivateIdentifier 22 (more (string (codes "_")) end))) (more (child (node Kind.AssignmentExpression 6 (more (string (codes "=")) (more (child (node Kind.IdentifierReference 7 (more (string (codes "a")) end))) (more (child (node Kind.FunctionExpression 8 (more absent (more (list end) (more (child (node Kind.BlockStatement 9 (more (list end) end))) (more (boolean false) (more (boolean false) end))))))) end))))) (more (boolean false) (more (boolean true) end)))) ∷ node Kind.PropertyDefinition 10 (more (child (node Kind.IdentifierName 11 (more (string (codes "y")) end))) (more (child (node Kind.CallExpression 12 (more (child (node Kind.IdentifierReference 13 (more (string (codes "h")) end))) (more (list (trees (node Kind.IdentifierReference 14 (more (string (codes "a")) end) ∷ []))) (more (boolean false) end))))) (more (boolean false) (more (boolean true) end)))) ∷ node Kind.PropertyDefinition 15 (more (child (node Kind.IdentifierName 16 (more (string (codes "x")) end))) (more (child (node Kind.CallExpression 17 (more (child (node Kind.IdentifierReference 18 (more (string (codes "g")) end))) (more (list (trees (node Kind.MemberExpression 23 (more (child (node Kind.ObjectExpression 24 (more (list (trees (node Kind.Property 25 (more (child (node Kind.PrivateField 26 (more (child (node Kind.IdentifierReference 27 (more (string (codes "A")) end))) (more (child (node Kind.PrivateIdentifier 28 (more (string (codes "_")) end))) (more (boolean false) (more (boolean false) end)))))) (more (child (node Kind.ArrowFunctionExpression 19 (more (list end) (more (child (node Kind.Literal 20 (more (literal (literal_value.Number (codes "1"))) end))) (more (boolean false) end))))) (more (string (codes "init")) (more (boolean false) (more (boolean false) (more (boolean true) end)))))) ∷ []))) end))) (more (child (node Kind.PrivateField 29 (more (child (node Kind.IdentifierReference 30 (more (string (codes "A")) end))) (more (child (node Kind.PrivateIdentifier 31 (more (string (codes "_")) end))) (more (boolean false) (more (boolean false) end)))))) (more (boolean true) (more (boolean false) end)))) ∷ []))) (more (boolean false) end))))) (more (boolean false) (more (boolean true) end)))) ∷ []))) end))) end))) ∷ []))) end))

abbrev pub generated_key_kept_by_an_assigned_function : List LedgerEntry
generated_key_kept_by_an_assigned_function = record { name = codes "_"; kind = GeneratedKind.Private (record { 0 = 1 }) } ∷ []

abbrev pub options_key_kept_by_an_assigned_function : Options
options_key_kept_by_an_assigned_function = options_of true None false
