-- Printed by tools/rows/witnesses.js.
use Rattle.std.specs.Prelude.{ℕ, List, [], ◌∷◌, false, codes, Some}
use Rattle.es_base.specs.Tree.{Tree, end, more, child, absent, list, string, no_string, boolean, trees}
use Rattle.es_base.specs.declared.kind.Kind.{Kind}
use Rattle.es_base.specs.declared.ledger.GeneratedKind.{GeneratedKind}
use Rattle.es_base.specs.declared.ledger.LedgerEntry.{LedgerEntry}
use Rattle.es_steps.specs.Generated.{node}
use Rattle.es_steps.specs.Options.{options_of}
use Rattle.es_steps.specs.declared.options.Options.{Options}

-- `class A { #m() { return this.#m; } }`
abbrev pub source_private_method_that_reads_itself : Tree
source_private_method_that_reads_itself = node Kind.Program 0 (more (string (codes "script")) (more (list (trees (node Kind.ClassDeclaration 1 (more (child (node Kind.BindingIdentifier 2 (more (string (codes "A")) end))) (more absent (more (child (node Kind.ClassBody 3 (more (list (trees (node Kind.MethodDefinition 4 (more (child (node Kind.PrivateIdentifier 5 (more (string (codes "m")) end))) (more (child (node Kind.FunctionExpression 6 (more absent (more (list end) (more (child (node Kind.BlockStatement 7 (more (list (trees (node Kind.ReturnStatement 8 (more (child (node Kind.PrivateField 9 (more (child (node Kind.ThisExpression 10 end)) (more (child (node Kind.PrivateIdentifier 11 (more (string (codes "m")) end))) (more (boolean false) (more (boolean false) end)))))) end) ∷ []))) end))) (more (boolean false) (more (boolean false) end))))))) (more (string (codes "method")) (more (boolean false) (more (boolean false) end))))) ∷ []))) end))) end))) ∷ []))) end))

-- a private method that reads itself, as `var _A_brand = new WeakSet(); class A { constructor() { B.classPrivateMethodInitSpec(this, _A_brand); } } function _m() { return B.assertClassBrand(_A_brand, this, _m); }` means
abbrev pub output_private_method_that_reads_itself : Tree
output_private_method_that_reads_itself = node Kind.Program 0 (more (string (codes "script")) (more (list (trees (node Kind.VariableDeclaration 12 (more (string (codes "var")) (more (list (trees (node Kind.VariableDeclarator 13 (more (child (node Kind.BindingIdentifier 14 (more (string (codes "_A_brand")) end))) (more (child (node Kind.NewExpression 15 (more (child (node Kind.IdentifierReference 16 (more (string (codes "WeakSet")) end))) (more (list end) end)))) end)) ∷ []))) end)) ∷ node Kind.ClassDeclaration 1 (more (child (node Kind.BindingIdentifier 2 (more (string (codes "A")) end))) (more absent (more (child (node Kind.ClassBody 3 (more (list (trees (node Kind.MethodDefinition 17 (more (child (node Kind.IdentifierName 18 (more (string (codes "constructor")) end))) (more (child (node Kind.FunctionExpression 19 (more absent (more (list end) (more (child (node Kind.BlockStatement 20 (more (list (trees (node Kind.ExpressionStatement 21 (more (child (node Kind.CallExpression 22 (more (child (node Kind.MemberExpression 23 (more (child (node Kind.IdentifierReference 24 (more (string (codes "babelHelpers")) end))) (more (child (node Kind.IdentifierName 25 (more (string (codes "classPrivateMethodInitSpec")) end))) (more (boolean false) (more (boolean false) end)))))) (more (list (trees (node Kind.ThisExpression 26 end ∷ node Kind.IdentifierReference 27 (more (string (codes "_A_brand")) end) ∷ []))) (more (boolean false) end))))) (more no_string end)) ∷ []))) end))) (more (boolean false) (more (boolean false) end))))))) (more (string (codes "constructor")) (more (boolean false) (more (boolean false) end))))) ∷ []))) end))) end))) ∷ node Kind.FunctionDeclaration 6 (more (child (node Kind.BindingIdentifier 28 (more (string (codes "_m")) end))) (more (list end) (more (child (node Kind.BlockStatement 7 (more (list (trees (node Kind.ReturnStatement 8 (more (child (node Kind.CallExpression 9 (more (child (node Kind.MemberExpression 29 (more (child (node Kind.IdentifierReference 30 (more (string (codes "babelHelpers")) end))) (more (child (node Kind.IdentifierName 31 (more (string (codes "assertClassBrand")) end))) (more (boolean false) (more (boolean false) end)))))) (more (list (trees (node Kind.IdentifierReference 32 (more (string (codes "_A_brand")) end) ∷ node Kind.ThisExpression 10 end ∷ node Kind.IdentifierReference 33 (more (string (codes "_m")) end) ∷ []))) (more (boolean false) end))))) end) ∷ []))) end))) (more (boolean false) (more (boolean false) end))))) ∷ []))) end))

abbrev pub generated_private_method_that_reads_itself : List LedgerEntry
generated_private_method_that_reads_itself = record { name = codes "_A_brand"; kind = GeneratedKind.Brand (record { 0 = 1 }) } ∷ record { name = codes "_m"; kind = GeneratedKind.Method (record { 0 = 5 }) } ∷ []

abbrev pub options_private_method_that_reads_itself : Options
options_private_method_that_reads_itself = options_of false (Some (record { loose = false })) false
