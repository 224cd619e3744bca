-- Printed by tools/rows/witnesses.js.
use Rattle.std.specs.Prelude.{ℕ, List, [], ◌∷◌, false, codes, Some, None}
use Rattle.es_base.specs.Tree.{Tree, end, more, child, absent, list, string, no_string, boolean, literal, trees}
use Rattle.es_base.specs.declared.kind.Kind.{Kind}
use Rattle.es_base.specs.declared.ledger.GeneratedKind.{GeneratedKind}
use Rattle.es_base.specs.declared.ledger.LedgerEntry.{LedgerEntry}
use Rattle.es_base.specs.declared.literal.LiteralValue.TheVariants as literal_value
use Rattle.es_steps.specs.Generated.{node}
use Rattle.es_steps.specs.Options.{options_of}
use Rattle.es_steps.specs.declared.options.Options.{Options}

-- `class C extends P { x = C; static { g(new C().x === C); } constructor() { super(); } }`
abbrev pub source_class_named_behind_its_block : Tree
source_class_named_behind_its_block = node Kind.Program 0 (more (string (codes "script")) (more (list (trees (node Kind.ClassDeclaration 1 (more (child (node Kind.BindingIdentifier 2 (more (string (codes "C")) end))) (more (child (node Kind.IdentifierReference 3 (more (string (codes "P")) end))) (more (child (node Kind.ClassBody 4 (more (list (trees (node Kind.PropertyDefinition 5 (more (child (node Kind.IdentifierName 6 (more (string (codes "x")) end))) (more (child (node Kind.IdentifierReference 7 (more (string (codes "C")) end))) (more (boolean false) (more (boolean false) end)))) ∷ node Kind.StaticBlock 8 (more (list (trees (node Kind.ExpressionStatement 9 (more (child (node Kind.CallExpression 10 (more (child (node Kind.IdentifierReference 11 (more (string (codes "g")) end))) (more (list (trees (node Kind.BinaryExpression 12 (more (string (codes "===")) (more (child (node Kind.MemberExpression 13 (more (child (node Kind.NewExpression 14 (more (child (node Kind.IdentifierReference 15 (more (string (codes "C")) end))) (more (list end) end)))) (more (child (node Kind.IdentifierName 16 (more (string (codes "x")) end))) (more (boolean false) (more (boolean false) end)))))) (more (child (node Kind.IdentifierReference 17 (more (string (codes "C")) end))) end))) ∷ []))) (more (boolean false) end))))) (more no_string end)) ∷ []))) end) ∷ node Kind.MethodDefinition 18 (more (child (node Kind.IdentifierName 19 (more (string (codes "constructor")) end))) (more (child (node Kind.FunctionExpression 20 (more absent (more (list end) (more (child (node Kind.BlockStatement 21 (more (list (trees (node Kind.ExpressionStatement 22 (more (child (node Kind.CallExpression 23 (more (child (node Kind.Super 24 end)) (more (list end) (more (boolean false) end))))) (more no_string end)) ∷ []))) end))) (more (boolean false) (more (boolean false) end))))))) (more (string (codes "constructor")) (more (boolean false) (more (boolean false) end))))) ∷ []))) end))) end))) ∷ []))) end))

-- the generated name of a class, given behind it, in what stands for `super(..)`, which a static block calls, where `var _C; var _super = function () { "use strict"; B.defineProperty(this, "x", _C); return this; }; class C extends P { static { g(new C().x === C); } constructor() { _super.call(super()); } } _C = C;` is right
abbrev pub output_class_named_behind_its_block : Tree
output_class_named_behind_its_block = node Kind.Program 0 (more (string (codes "script")) (more (list (trees (node Kind.VariableDeclaration 25 (more (string (codes "var")) (more (list (trees (node Kind.VariableDeclarator 26 (more (child (node Kind.BindingIdentifier 27 (more (string (codes "_C")) end))) (more absent end)) ∷ []))) end)) ∷ node Kind.VariableDeclaration 28 (more (string (codes "var")) (more (list (trees (node Kind.VariableDeclarator 29 (more (child (node Kind.BindingIdentifier 30 (more (string (codes "_super")) end))) (more (child (node Kind.FunctionExpression 31 (more absent (more (list end) (more (child (node Kind.BlockStatement 32 (more (list (trees (node Kind.ExpressionStatement 33 (more (child (node Kind.Literal 34 (more (literal (literal_value.String (codes "use strict") None)) end))) (more (string (codes "use strict")) end)) ∷ node Kind.ExpressionStatement 35 (more (child (node Kind.CallExpression 36 (more (child (node Kind.MemberExpression 37 (more (child (node Kind.IdentifierReference 38 (more (string (codes "babelHelpers")) end))) (more (child (node Kind.IdentifierName 39 (more (string (codes "defineProperty")) end))) (more (boolean false) (more (boolean false) end)))))) (more (list (trees (node Kind.ThisExpression 40 end ∷ node Kind.Literal 41 (more (literal (literal_value.String (codes "x") None)) end) ∷ node Kind.IdentifierReference 7 (more (string (codes "_C")) end) ∷ []))) (more (boolean false) end))))) (more no_string end)) ∷ node Kind.ReturnStatement 42 (more (child (node Kind.ThisExpression 43 end)) end) ∷ []))) end))) (more (boolean false) (more (boolean false) end))))))) end)) ∷ []))) end)) ∷ node Kind.ClassDeclaration 1 (more (child (node Kind.BindingIdentifier 2 (more (string (codes "C")) end))) (more (child (node Kind.IdentifierReference 3 (more (string (codes "P")) end))) (more (child (node Kind.ClassBody 4 (more (list (trees (node Kind.StaticBlock 8 (more (list (trees (node Kind.ExpressionStatement 9 (more (child (node Kind.CallExpression 10 (more (child (node Kind.IdentifierReference 11 (more (string (codes "g")) end))) (more (list (trees (node Kind.BinaryExpression 12 (more (string (codes "===")) (more (child (node Kind.MemberExpression 13 (more (child (node Kind.NewExpression 14 (more (child (node Kind.IdentifierReference 15 (more (string (codes "C")) end))) (more (list end) end)))) (more (child (node Kind.IdentifierName 16 (more (string (codes "x")) end))) (more (boolean false) (more (boolean false) end)))))) (more (child (node Kind.IdentifierReference 17 (more (string (codes "C")) end))) end))) ∷ []))) (more (boolean false) end))))) (more no_string end)) ∷ []))) end) ∷ node Kind.MethodDefinition 18 (more (child (node Kind.IdentifierName 19 (more (string (codes "constructor")) end))) (more (child (node Kind.FunctionExpression 20 (more absent (more (list end) (more (child (node Kind.BlockStatement 21 (more (list (trees (node Kind.ExpressionStatement 22 (more (child (node Kind.CallExpression 23 (more (child (node Kind.MemberExpression 44 (more (child (node Kind.IdentifierReference 45 (more (string (codes "_super")) end))) (more (child (node Kind.IdentifierName 46 (more (string (codes "call")) end))) (more (boolean false) (more (boolean false) end)))))) (more (list (trees (node Kind.CallExpression 47 (more (child (node Kind.Super 24 end)) (more (list end) (more (boolean false) end))) ∷ []))) (more (boolean false) end))))) (more no_string end)) ∷ []))) end))) (more (boolean false) (more (boolean false) end))))))) (more (string (codes "constructor")) (more (boolean false) (more (boolean false) end))))) ∷ []))) end))) end))) ∷ node Kind.ExpressionStatement 48 (more (child (node Kind.AssignmentExpression 49 (more (string (codes "=")) (more (child (node Kind.IdentifierReference 50 (more (string (codes "_C")) end))) (more (child (node Kind.IdentifierReference 51 (more (string (codes "C")) end))) end))))) (more no_string end)) ∷ []))) end))

abbrev pub generated_class_named_behind_its_block : List LedgerEntry
generated_class_named_behind_its_block = record { name = codes "_C"; kind = GeneratedKind.ClassTemp (record { 0 = 1 }) } ∷ record { name = codes "_super"; kind = GeneratedKind.SuperFn (record { 0 = 1 }) } ∷ []

abbrev pub options_class_named_behind_its_block : Options
options_class_named_behind_its_block = options_of false (Some (record { loose = false })) false
