-- Printed by tools/rows/witnesses.js.
use Rattle.std.specs.Prelude.{ℕ, List, [], ◌∷◌, true, false, codes, Some}
use Rattle.es_base.specs.Tree.{Tree, end, more, child, absent, list, string, boolean, trees}
use Rattle.es_base.specs.declared.kind.Kind.{Kind}
use Rattle.es_base.specs.declared.ledger.GeneratedKind.{GeneratedKind}
use Rattle.es_base.specs.declared.ledger.LedgerEntry.{LedgerEntry}
use Rattle.es_steps.specs.Generated.{node}
use Rattle.es_steps.specs.Options.{options_of}
use Rattle.es_steps.specs.declared.options.Options.{Options}

-- `class A { static #N = class N { }; static m() { return new A.#N(); } }`
abbrev pub source_private_field_of_a_named_class : Tree
source_private_field_of_a_named_class = node Kind.Program 0 (more (string (codes "script")) (more (list (trees (node Kind.ClassDeclaration 1 (more (child (node Kind.BindingIdentifier 2 (more (string (codes "A")) end))) (more absent (more (child (node Kind.ClassBody 3 (more (list (trees (node Kind.PropertyDefinition 4 (more (child (node Kind.PrivateIdentifier 5 (more (string (codes "N")) end))) (more (child (node Kind.ClassExpression 6 (more (child (node Kind.BindingIdentifier 7 (more (string (codes "N")) end))) (more absent (more (child (node Kind.ClassBody 8 (more (list end) end))) end))))) (more (boolean false) (more (boolean true) end)))) ∷ node Kind.MethodDefinition 9 (more (child (node Kind.IdentifierName 10 (more (string (codes "m")) end))) (more (child (node Kind.FunctionExpression 11 (more absent (more (list end) (more (child (node Kind.BlockStatement 12 (more (list (trees (node Kind.ReturnStatement 13 (more (child (node Kind.NewExpression 14 (more (child (node Kind.PrivateField 15 (more (child (node Kind.IdentifierReference 16 (more (string (codes "A")) end))) (more (child (node Kind.PrivateIdentifier 17 (more (string (codes "N")) end))) (more (boolean false) (more (boolean false) end)))))) (more (list end) end)))) end) ∷ []))) end))) (more (boolean false) (more (boolean false) end))))))) (more (string (codes "method")) (more (boolean false) (more (boolean true) end))))) ∷ []))) end))) end))) ∷ []))) end))

-- a static private field whose value is a class with a name, as `class A { static m() { return new _N._(); } } var _N = { _: class N { } };` means
abbrev pub output_private_field_of_a_named_class : Tree
output_private_field_of_a_named_class = node Kind.Program 0 (more (string (codes "script")) (more (list (trees (node Kind.ClassDeclaration 1 (more (child (node Kind.BindingIdentifier 2 (more (string (codes "A")) end))) (more absent (more (child (node Kind.ClassBody 3 (more (list (trees (node Kind.MethodDefinition 9 (more (child (node Kind.IdentifierName 10 (more (string (codes "m")) end))) (more (child (node Kind.FunctionExpression 11 (more absent (more (list end) (more (child (node Kind.BlockStatement 12 (more (list (trees (node Kind.ReturnStatement 13 (more (child (node Kind.NewExpression 14 (more (child (node Kind.MemberExpression 15 (more (child (node Kind.IdentifierReference 18 (more (string (codes "_N")) end))) (more (child (node Kind.IdentifierName 19 (more (string (codes "_")) end))) (more (boolean false) (more (boolean false) end)))))) (more (list end) end)))) end) ∷ []))) end))) (more (boolean false) (more (boolean false) end))))))) (more (string (codes "method")) (more (boolean false) (more (boolean true) end))))) ∷ []))) end))) end))) ∷ node Kind.VariableDeclaration 20 (more (string (codes "var")) (more (list (trees (node Kind.VariableDeclarator 21 (more (child (node Kind.BindingIdentifier 22 (more (string (codes "_N")) end))) (more (child (node Kind.ObjectExpression 23 (more (list (trees (node Kind.Property 24 (more (child (node Kind.IdentifierName 25 (more (string (codes "_")) end))) (more (child (node Kind.ClassExpression 6 (more (child (node Kind.BindingIdentifier 7 (more (string (codes "N")) end))) (more absent (more (child (node Kind.ClassBody 8 (more (list end) end))) end))))) (more (string (codes "init")) (more (boolean false) (more (boolean false) (more (boolean false) end)))))) ∷ []))) end))) end)) ∷ []))) end)) ∷ []))) end))

abbrev pub generated_private_field_of_a_named_class : List LedgerEntry
generated_private_field_of_a_named_class = record { name = codes "_N"; kind = GeneratedKind.StaticField (record { 0 = 5 }) } ∷ []

abbrev pub options_private_field_of_a_named_class : Options
options_private_field_of_a_named_class = options_of false (Some (record { loose = false })) false
