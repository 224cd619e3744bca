-- Printed by tools/rows/number-rows.js from `private_method_of_default_export` of tools/rows/rows.json: a worked row with its numbers.
use Rattle.std.specs.Prelude.{ℕ, List, [], ◌∷◌, true, false, codes, Some}
use Rattle.es_base.specs.Tree.{Tree, end, more, child, absent, list, string, boolean, trees}
use Rattle.es_base.specs.declared.kind.Kind.{Kind}
use Rattle.es_base.specs.declared.ledger.GeneratedKind.{GeneratedKind}
use Rattle.es_base.specs.declared.ledger.LedgerEntry.{LedgerEntry}
use Rattle.es_steps.specs.Generated.{node}
use Rattle.es_steps.specs.Options.{options_of}
use Rattle.es_steps.specs.declared.options.Options.{Options}

-- `export default class { static #m() {} static f(o) { return o.#m; } }`
abbrev pub source_private_method_of_default_export : Tree
source_private_method_of_default_export = node Kind.Program 0 (more (string (codes "module")) (more (list (trees (node Kind.ExportDefaultDeclaration 1 (more (child (node Kind.ClassDeclaration 2 (more absent (more absent (more (child (node Kind.ClassBody 3 (more (list (trees (node Kind.MethodDefinition 4 (more (child (node Kind.PrivateIdentifier 5 (more (string (codes "m")) end))) (more (child (node Kind.FunctionExpression 6 (more absent (more (list end) (more (child (node Kind.BlockStatement 7 (more (list end) end))) (more (boolean false) (more (boolean false) end))))))) (more (string (codes "method")) (more (boolean false) (more (boolean true) end))))) ∷ node Kind.MethodDefinition 8 (more (child (node Kind.IdentifierName 9 (more (string (codes "f")) end))) (more (child (node Kind.FunctionExpression 10 (more absent (more (list (trees (node Kind.BindingIdentifier 11 (more (string (codes "o")) end) ∷ []))) (more (child (node Kind.BlockStatement 12 (more (list (trees (node Kind.ReturnStatement 13 (more (child (node Kind.PrivateField 14 (more (child (node Kind.IdentifierReference 15 (more (string (codes "o")) end))) (more (child (node Kind.PrivateIdentifier 16 (more (string (codes "m")) end))) (more (boolean false) (more (boolean false) end)))))) end) ∷ []))) end))) (more (boolean false) (more (boolean false) end))))))) (more (string (codes "method")) (more (boolean false) (more (boolean true) end))))) ∷ []))) end))) end))))) end) ∷ []))) end))

-- the number of its nodes
abbrev pub nodes_private_method_of_default_export : ℕ
nodes_private_method_of_default_export = 17

-- `export default class _Class { static f(o) { return B.assertClassBrand(_Class, o, _m); } } function _m() {}`
abbrev pub output_private_method_of_default_export : Tree
output_private_method_of_default_export = node Kind.Program 0 (more (string (codes "module")) (more (list (trees (node Kind.ExportDefaultDeclaration 1 (more (child (node Kind.ClassDeclaration 2 (more (child (node Kind.BindingIdentifier 17 (more (string (codes "_Class")) end))) (more absent (more (child (node Kind.ClassBody 3 (more (list (trees (node Kind.MethodDefinition 8 (more (child (node Kind.IdentifierName 9 (more (string (codes "f")) end))) (more (child (node Kind.FunctionExpression 10 (more absent (more (list (trees (node Kind.BindingIdentifier 11 (more (string (codes "o")) end) ∷ []))) (more (child (node Kind.BlockStatement 12 (more (list (trees (node Kind.ReturnStatement 13 (more (child (node Kind.CallExpression 14 (more (child (node Kind.MemberExpression 18 (more (child (node Kind.IdentifierReference 19 (more (string (codes "babelHelpers")) end))) (more (child (node Kind.IdentifierName 20 (more (string (codes "assertClassBrand")) end))) (more (boolean false) (more (boolean false) end)))))) (more (list (trees (node Kind.IdentifierReference 21 (more (string (codes "_Class")) end) ∷ node Kind.IdentifierReference 15 (more (string (codes "o")) end) ∷ node Kind.IdentifierReference 22 (more (string (codes "_m")) end) ∷ []))) (more (boolean false) end))))) end) ∷ []))) end))) (more (boolean false) (more (boolean false) end))))))) (more (string (codes "method")) (more (boolean false) (more (boolean true) end))))) ∷ []))) end))) end))))) end) ∷ node Kind.FunctionDeclaration 6 (more (child (node Kind.BindingIdentifier 23 (more (string (codes "_m")) end))) (more (list end) (more (child (node Kind.BlockStatement 7 (more (list end) end))) (more (boolean false) (more (boolean false) end))))) ∷ []))) end))

abbrev pub generated_private_method_of_default_export : List LedgerEntry
generated_private_method_of_default_export = record { name = codes "_Class"; kind = GeneratedKind.ClassTemp (record { 0 = 2 }) } ∷ record { name = codes "_m"; kind = GeneratedKind.Method (record { 0 = 5 }) } ∷ []

-- the numbers of its shapes
abbrev pub outside_private_method_of_default_export : List ℕ
outside_private_method_of_default_export = []

abbrev pub options_private_method_of_default_export : Options
options_private_method_of_default_export = options_of false (Some (record { loose = false })) false
