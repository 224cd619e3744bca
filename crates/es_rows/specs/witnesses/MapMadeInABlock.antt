-- Printed by tools/rows/witnesses.js.
use Rattle.std.specs.Prelude.{ℕ, List, [], ◌∷◌, true, false, codes, Some}
use Rattle.es_base.specs.Tree.{Tree, end, more, child, absent, list, string, no_string, boolean, literal, trees}
use Rattle.es_base.specs.declared.kind.Kind.{Kind}
use Rattle.es_base.specs.declared.ledger.GeneratedKind.{GeneratedKind}
use Rattle.es_base.specs.declared.ledger.LedgerEntry.{LedgerEntry}
use Rattle.es_base.specs.declared.literal.LiteralValue.TheVariants as literal_value
use Rattle.es_steps.specs.Generated.{node}
use Rattle.es_steps.specs.Options.{options_of}
use Rattle.es_steps.specs.declared.options.Options.{Options}

-- `class A { static { A.m(); } static { g(); } static m() { return new (class { #y = 1; z() { return this.#y; } })().z(); } }`
abbrev pub source_map_made_in_a_block : Tree
source_map_made_in_a_block = node Kind.Program 0 (more (string (codes "script")) (more (list (trees (node Kind.ClassDeclaration 1 (more (child (node Kind.BindingIdentifier 2 (more (string (codes "A")) end))) (more absent (more (child (node Kind.ClassBody 3 (more (list (trees (node Kind.StaticBlock 4 (more (list (trees (node Kind.ExpressionStatement 5 (more (child (node Kind.CallExpression 6 (more (child (node Kind.MemberExpression 7 (more (child (node Kind.IdentifierReference 8 (more (string (codes "A")) end))) (more (child (node Kind.IdentifierName 9 (more (string (codes "m")) end))) (more (boolean false) (more (boolean false) end)))))) (more (list end) (more (boolean false) end))))) (more no_string end)) ∷ []))) end) ∷ node Kind.StaticBlock 10 (more (list (trees (node Kind.ExpressionStatement 11 (more (child (node Kind.CallExpression 12 (more (child (node Kind.IdentifierReference 13 (more (string (codes "g")) end))) (more (list end) (more (boolean false) end))))) (more no_string end)) ∷ []))) end) ∷ node Kind.MethodDefinition 14 (more (child (node Kind.IdentifierName 15 (more (string (codes "m")) end))) (more (child (node Kind.FunctionExpression 16 (more absent (more (list end) (more (child (node Kind.BlockStatement 17 (more (list (trees (node Kind.ReturnStatement 18 (more (child (node Kind.CallExpression 19 (more (child (node Kind.MemberExpression 20 (more (child (node Kind.NewExpression 21 (more (child (node Kind.ClassExpression 22 (more absent (more absent (more (child (node Kind.ClassBody 23 (more (list (trees (node Kind.PropertyDefinition 24 (more (child (node Kind.PrivateIdentifier 25 (more (string (codes "y")) end))) (more (child (node Kind.Literal 26 (more (literal (literal_value.Number (codes "1"))) end))) (more (boolean false) (more (boolean false) end)))) ∷ node Kind.MethodDefinition 27 (more (child (node Kind.IdentifierName 28 (more (string (codes "z")) end))) (more (child (node Kind.FunctionExpression 29 (more absent (more (list end) (more (child (node Kind.BlockStatement 30 (more (list (trees (node Kind.ReturnStatement 31 (more (child (node Kind.PrivateField 32 (more (child (node Kind.ThisExpression 33 end)) (more (child (node Kind.PrivateIdentifier 34 (more (string (codes "y")) end))) (more (boolean false) (more (boolean false) end)))))) end) ∷ []))) end))) (more (boolean false) (more (boolean false) end))))))) (more (string (codes "method")) (more (boolean false) (more (boolean false) end))))) ∷ []))) end))) end))))) (more (list end) end)))) (more (child (node Kind.IdentifierName 35 (more (string (codes "z")) end))) (more (boolean false) (more (boolean false) end)))))) (more (list end) (more (boolean false) end))))) end) ∷ []))) end))) (more (boolean false) (more (boolean false) end))))))) (more (string (codes "method")) (more (boolean false) (more (boolean true) end))))) ∷ []))) end))) end))) ∷ []))) end))

-- a map made in a static block, behind one that calls a method which needs it: `var _y; class A { static { A.m(); } static { _y = new WeakMap(); g(); } static m() { return new (class { constructor() { B.classPrivateFieldInitSpec(this, _y, 1); } z() { return B.classPrivateFieldGet2(_y, this); } })().z(); } }`
abbrev pub output_map_made_in_a_block : Tree
output_map_made_in_a_block = node Kind.Program 0 (more (string (codes "script")) (more (list (trees (node Kind.VariableDeclaration 36 (more (string (codes "var")) (more (list (trees (node Kind.VariableDeclarator 37 (more (child (node Kind.BindingIdentifier 38 (more (string (codes "_y")) end))) (more absent end)) ∷ []))) end)) ∷ node Kind.ClassDeclaration 1 (more (child (node Kind.BindingIdentifier 2 (more (string (codes "A")) end))) (more absent (more (child (node Kind.ClassBody 3 (more (list (trees (node Kind.StaticBlock 4 (more (list (trees (node Kind.ExpressionStatement 5 (more (child (node Kind.CallExpression 6 (more (child (node Kind.MemberExpression 7 (more (child (node Kind.IdentifierReference 8 (more (string (codes "A")) end))) (more (child (node Kind.IdentifierName 9 (more (string (codes "m")) end))) (more (boolean false) (more (boolean false) end)))))) (more (list end) (more (boolean false) end))))) (more no_string end)) ∷ []))) end) ∷ node Kind.StaticBlock 10 (more (list (trees (node Kind.ExpressionStatement 39 (more (child (node Kind.AssignmentExpression 40 (more (string (codes "=")) (more (child (node Kind.IdentifierReference 41 (more (string (codes "_y")) end))) (more (child (node Kind.NewExpression 42 (more (child (node Kind.IdentifierReference 43 (more (string (codes "WeakMap")) end))) (more (list end) end)))) end))))) (more no_string end)) ∷ node Kind.ExpressionStatement 11 (more (child (node Kind.CallExpression 12 (more (child (node Kind.IdentifierReference 13 (more (string (codes "g")) end))) (more (list end) (more (boolean false) end))))) (more no_string end)) ∷ []))) end) ∷ node Kind.MethodDefinition 14 (more (child (node Kind.IdentifierName 15 (more (string (codes "m")) end))) (more (child (node Kind.FunctionExpression 16 (more absent (more (list end) (more (child (node Kind.BlockStatement 17 (more (list (trees (node Kind.ReturnStatement 18 (more (child (node Kind.CallExpression 19 (more (child (node Kind.MemberExpression 20 (more (child (node Kind.NewExpression 21 (more (child (node Kind.ClassExpression 22 (more absent (more absent (more (child (node Kind.ClassBody 23 (more (list (trees (node Kind.MethodDefinition 44 (more (child (node Kind.IdentifierName 45 (more (string (codes "constructor")) end))) (more (child (node Kind.FunctionExpression 46 (more absent (more (list end) (more (child (node Kind.BlockStatement 47 (more (list (trees (node Kind.ExpressionStatement 48 (more (child (node Kind.CallExpression 49 (more (child (node Kind.MemberExpression 50 (more (child (node Kind.IdentifierReference 51 (more (string (codes "babelHelpers")) end))) (more (child (node Kind.IdentifierName 52 (more (string (codes "classPrivateFieldInitSpec")) end))) (more (boolean false) (more (boolean false) end)))))) (more (list (trees (node Kind.ThisExpression 53 end ∷ node Kind.IdentifierReference 54 (more (string (codes "_y")) end) ∷ node Kind.Literal 26 (more (literal (literal_value.Number (codes "1"))) end) ∷ []))) (more (boolean false) end))))) (more no_string end)) ∷ []))) end))) (more (boolean false) (more (boolean false) end))))))) (more (string (codes "constructor")) (more (boolean false) (more (boolean false) end))))) ∷ node Kind.MethodDefinition 27 (more (child (node Kind.IdentifierName 28 (more (string (codes "z")) end))) (more (child (node Kind.FunctionExpression 29 (more absent (more (list end) (more (child (node Kind.BlockStatement 30 (more (list (trees (node Kind.ReturnStatement 31 (more (child (node Kind.CallExpression 32 (more (child (node Kind.MemberExpression 55 (more (child (node Kind.IdentifierReference 56 (more (string (codes "babelHelpers")) end))) (more (child (node Kind.IdentifierName 57 (more (string (codes "classPrivateFieldGet2")) end))) (more (boolean false) (more (boolean false) end)))))) (more (list (trees (node Kind.IdentifierReference 58 (more (string (codes "_y")) end) ∷ node Kind.ThisExpression 59 end ∷ []))) (more (boolean false) end))))) end) ∷ []))) end))) (more (boolean false) (more (boolean false) end))))))) (more (string (codes "method")) (more (boolean false) (more (boolean false) end))))) ∷ []))) end))) end))))) (more (list end) end)))) (more (child (node Kind.IdentifierName 35 (more (string (codes "z")) end))) (more (boolean false) (more (boolean false) end)))))) (more (list end) (more (boolean false) end))))) end) ∷ []))) end))) (more (boolean false) (more (boolean false) end))))))) (more (string (codes "method")) (more (boolean false) (more (boolean true) end))))) ∷ []))) end))) end))) ∷ []))) end))

abbrev pub generated_map_made_in_a_block : List LedgerEntry
generated_map_made_in_a_block = record { name = codes "_y"; kind = GeneratedKind.WeakMap (record { 0 = 25 }) } ∷ []

abbrev pub options_map_made_in_a_block : Options
options_map_made_in_a_block = options_of false (Some (record { loose = false })) false
