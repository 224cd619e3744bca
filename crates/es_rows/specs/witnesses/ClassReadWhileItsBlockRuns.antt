-- Printed by tools/rows/witnesses.js.
use Rattle.std.specs.Prelude.{ℕ, List, [], ◌∷◌, false, codes, Some, None}
use Rattle.es_base.specs.Tree.{Tree, end, more, child, absent, list, string, no_string, boolean, literal, trees}
use Rattle.es_base.specs.declared.kind.Kind.{Kind}
use Rattle.es_base.specs.declared.ledger.GeneratedKind.{GeneratedKind}
use Rattle.es_base.specs.declared.ledger.LedgerEntry.{LedgerEntry}
use Rattle.es_base.specs.declared.literal.LiteralValue.TheVariants as literal_value
use Rattle.es_steps.specs.Generated.{node}
use Rattle.es_steps.specs.Options.{options_of}
use Rattle.es_steps.specs.declared.options.Options.{Options}

-- `class C extends P { x = C; static { g(new C().x === C); } constructor(a = super()) {} }`
abbrev pub source_class_read_while_its_block_runs : Tree
source_class_read_while_its_block_runs = node Kind.Program 0 (more (string (codes "script")) (more (list (trees (node Kind.ClassDeclaration 1 (more (child (node Kind.BindingIdentifier 2 (more (string (codes "C")) end))) (more (child (node Kind.IdentifierReference 3 (more (string (codes "P")) end))) (more (child (node Kind.ClassBody 4 (more (list (trees (node Kind.PropertyDefinition 5 (more (child (node Kind.IdentifierName 6 (more (string (codes "x")) end))) (more (child (node Kind.IdentifierReference 7 (more (string (codes "C")) end))) (more (boolean false) (more (boolean false) end)))) ∷ node Kind.StaticBlock 8 (more (list (trees (node Kind.ExpressionStatement 9 (more (child (node Kind.CallExpression 10 (more (child (node Kind.IdentifierReference 11 (more (string (codes "g")) end))) (more (list (trees (node Kind.BinaryExpression 12 (more (string (codes "===")) (more (child (node Kind.MemberExpression 13 (more (child (node Kind.NewExpression 14 (more (child (node Kind.IdentifierReference 15 (more (string (codes "C")) end))) (more (list end) end)))) (more (child (node Kind.IdentifierName 16 (more (string (codes "x")) end))) (more (boolean false) (more (boolean false) end)))))) (more (child (node Kind.IdentifierReference 17 (more (string (codes "C")) end))) end))) ∷ []))) (more (boolean false) end))))) (more no_string end)) ∷ []))) end) ∷ node Kind.MethodDefinition 18 (more (child (node Kind.IdentifierName 19 (more (string (codes "constructor")) end))) (more (child (node Kind.FunctionExpression 20 (more absent (more (list (trees (node Kind.AssignmentPattern 21 (more (child (node Kind.BindingIdentifier 22 (more (string (codes "a")) end))) (more (child (node Kind.CallExpression 23 (more (child (node Kind.Super 24 end)) (more (list end) (more (boolean false) end))))) end)) ∷ []))) (more (child (node Kind.BlockStatement 25 (more (list end) end))) (more (boolean false) (more (boolean false) end))))))) (more (string (codes "constructor")) (more (boolean false) (more (boolean false) end))))) ∷ []))) end))) end))) ∷ []))) end))

-- a class that what stands for `super(..)` names, while its static block runs, where `var _super = function () { "use strict"; B.defineProperty(this, "x", C); return this; }; class C extends P { static { g(new C().x === C); } constructor(a = _super.call(super())) {} }` is right
abbrev pub output_class_read_while_its_block_runs : Tree
output_class_read_while_its_block_runs = node Kind.Program 0 (more (string (codes "script")) (more (list (trees (node Kind.VariableDeclaration 26 (more (string (codes "var")) (more (list (trees (node Kind.VariableDeclarator 27 (more (child (node Kind.BindingIdentifier 28 (more (string (codes "_super")) end))) (more (child (node Kind.FunctionExpression 29 (more absent (more (list end) (more (child (node Kind.BlockStatement 30 (more (list (trees (node Kind.ExpressionStatement 31 (more (child (node Kind.Literal 32 (more (literal (literal_value.String (codes "use strict") None)) end))) (more (string (codes "use strict")) end)) ∷ node Kind.ExpressionStatement 33 (more (child (node Kind.CallExpression 34 (more (child (node Kind.MemberExpression 35 (more (child (node Kind.IdentifierReference 36 (more (string (codes "babelHelpers")) end))) (more (child (node Kind.IdentifierName 37 (more (string (codes "defineProperty")) end))) (more (boolean false) (more (boolean false) end)))))) (more (list (trees (node Kind.ThisExpression 38 end ∷ node Kind.Literal 39 (more (literal (literal_value.String (codes "x") None)) end) ∷ node Kind.IdentifierReference 7 (more (string (codes "C")) end) ∷ []))) (more (boolean false) end))))) (more no_string end)) ∷ node Kind.ReturnStatement 40 (more (child (node Kind.ThisExpression 41 end)) end) ∷ []))) end))) (more (boolean false) (more (boolean false) end))))))) end)) ∷ []))) end)) ∷ node Kind.ClassDeclaration 1 (more (child (node Kind.BindingIdentifier 2 (more (string (codes "C")) end))) (more (child (node Kind.IdentifierReference 3 (more (string (codes "P")) end))) (more (child (node Kind.ClassBody 4 (more (list (trees (node Kind.StaticBlock 8 (more (list (trees (node Kind.ExpressionStatement 9 (more (child (node Kind.CallExpression 10 (more (child (node Kind.IdentifierReference 11 (more (string (codes "g")) end))) (more (list (trees (node Kind.BinaryExpression 12 (more (string (codes "===")) (more (child (node Kind.MemberExpression 13 (more (child (node Kind.NewExpression 14 (more (child (node Kind.IdentifierReference 15 (more (string (codes "C")) end))) (more (list end) end)))) (more (child (node Kind.IdentifierName 16 (more (string (codes "x")) end))) (more (boolean false) (more (boolean false) end)))))) (more (child (node Kind.IdentifierReference 17 (more (string (codes "C")) end))) end))) ∷ []))) (more (boolean false) end))))) (more no_string end)) ∷ []))) end) ∷ node Kind.MethodDefinition 18 (more (child (node Kind.IdentifierName 19 (more (string (codes "constructor")) end))) (more (child (node Kind.FunctionExpression 20 (more absent (more (list (trees (node Kind.AssignmentPattern 21 (more (child (node Kind.BindingIdentifier 22 (more (string (codes "a")) end))) (more (child (node Kind.CallExpression 23 (more (child (node Kind.MemberExpression 42 (more (child (node Kind.IdentifierReference 43 (more (string (codes "_super")) end))) (more (child (node Kind.IdentifierName 44 (more (string (codes "call")) end))) (more (boolean false) (more (boolean false) end)))))) (more (list (trees (node Kind.CallExpression 45 (more (child (node Kind.Super 24 end)) (more (list end) (more (boolean false) end))) ∷ []))) (more (boolean false) end))))) end)) ∷ []))) (more (child (node Kind.BlockStatement 25 (more (list end) end))) (more (boolean false) (more (boolean false) end))))))) (more (string (codes "constructor")) (more (boolean false) (more (boolean false) end))))) ∷ []))) end))) end))) ∷ []))) end))

abbrev pub generated_class_read_while_its_block_runs : List LedgerEntry
generated_class_read_while_its_block_runs = record { name = codes "_super"; kind = GeneratedKind.SuperFn (record { 0 = 1 }) } ∷ []

abbrev pub options_class_read_while_its_block_runs : Options
options_class_read_while_its_block_runs = options_of false (Some (record { loose = false })) false
