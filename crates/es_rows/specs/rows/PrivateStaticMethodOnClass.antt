-- Printed by tools/rows/number-rows.js from `private_static_method_on_class` of tools/rows/forms.json: a worked row with its numbers.
use Rattle.std.specs.Prelude.{ℕ, List, [], ◌∷◌, true, false, codes, Some}
use Rattle.es_base.specs.Tree.{Tree, end, more, child, absent, list, string, boolean, trees}
use Rattle.es_base.specs.declared.kind.Kind.{Kind}
use Rattle.es_base.specs.declared.ledger.GeneratedKind.{GeneratedKind}
use Rattle.es_base.specs.declared.ledger.LedgerEntry.{LedgerEntry}
use Rattle.es_steps.specs.Generated.{node}
use Rattle.es_steps.specs.Options.{options_of}
use Rattle.es_steps.specs.declared.options.Options.{Options}

-- `class A { static #m() {} static g() { return A.#m(); } }`
abbrev pub source_private_static_method_on_class : Tree
source_private_static_method_on_class = node Kind.Program 0 (more (string (codes "script")) (more (list (trees (node Kind.ClassDeclaration 1 (more (child (node Kind.BindingIdentifier 2 (more (string (codes "A")) end))) (more absent (more (child (node Kind.ClassBody 3 (more (list (trees (node Kind.MethodDefinition 4 (more (child (node Kind.PrivateIdentifier 5 (more (string (codes "m")) end))) (more (child (node Kind.FunctionExpression 6 (more absent (more (list end) (more (child (node Kind.BlockStatement 7 (more (list end) end))) (more (boolean false) (more (boolean false) end))))))) (more (string (codes "method")) (more (boolean false) (more (boolean true) end))))) ∷ node Kind.MethodDefinition 8 (more (child (node Kind.IdentifierName 9 (more (string (codes "g")) end))) (more (child (node Kind.FunctionExpression 10 (more absent (more (list end) (more (child (node Kind.BlockStatement 11 (more (list (trees (node Kind.ReturnStatement 12 (more (child (node Kind.CallExpression 13 (more (child (node Kind.PrivateField 14 (more (child (node Kind.IdentifierReference 15 (more (string (codes "A")) end))) (more (child (node Kind.PrivateIdentifier 16 (more (string (codes "m")) end))) (more (boolean false) (more (boolean false) end)))))) (more (list end) (more (boolean false) end))))) end) ∷ []))) end))) (more (boolean false) (more (boolean false) end))))))) (more (string (codes "method")) (more (boolean false) (more (boolean true) end))))) ∷ []))) end))) end))) ∷ []))) end))

-- the number of its nodes
abbrev pub nodes_private_static_method_on_class : ℕ
nodes_private_static_method_on_class = 17

-- `class A { static g() { return _m.call(A); } } function _m() {}`
abbrev pub output_private_static_method_on_class : Tree
output_private_static_method_on_class = node Kind.Program 0 (more (string (codes "script")) (more (list (trees (node Kind.ClassDeclaration 1 (more (child (node Kind.BindingIdentifier 2 (more (string (codes "A")) end))) (more absent (more (child (node Kind.ClassBody 3 (more (list (trees (node Kind.MethodDefinition 8 (more (child (node Kind.IdentifierName 9 (more (string (codes "g")) end))) (more (child (node Kind.FunctionExpression 10 (more absent (more (list end) (more (child (node Kind.BlockStatement 11 (more (list (trees (node Kind.ReturnStatement 12 (more (child (node Kind.CallExpression 13 (more (child (node Kind.MemberExpression 17 (more (child (node Kind.IdentifierReference 14 (more (string (codes "_m")) end))) (more (child (node Kind.IdentifierName 18 (more (string (codes "call")) end))) (more (boolean false) (more (boolean false) end)))))) (more (list (trees (node Kind.IdentifierReference 15 (more (string (codes "A")) end) ∷ []))) (more (boolean false) end))))) end) ∷ []))) end))) (more (boolean false) (more (boolean false) end))))))) (more (string (codes "method")) (more (boolean false) (more (boolean true) end))))) ∷ []))) end))) end))) ∷ node Kind.FunctionDeclaration 6 (more (child (node Kind.BindingIdentifier 19 (more (string (codes "_m")) end))) (more (list end) (more (child (node Kind.BlockStatement 7 (more (list end) end))) (more (boolean false) (more (boolean false) end))))) ∷ []))) end))

abbrev pub generated_private_static_method_on_class : List LedgerEntry
generated_private_static_method_on_class = record { name = codes "_m"; kind = GeneratedKind.Method (record { 0 = 5 }) } ∷ []

-- the numbers of its shapes
abbrev pub outside_private_static_method_on_class : List ℕ
outside_private_static_method_on_class = []

abbrev pub options_private_static_method_on_class : Options
options_private_static_method_on_class = options_of false (Some (record { loose = false })) false
