-- Printed by tools/rows/witnesses.js.
use Rattle.std.specs.Prelude.{ℕ, List, [], ◌∷◌, false, codes, Some, None}
use Rattle.es_base.specs.Tree.{Tree, end, more, child, absent, list, string, no_string, boolean, literal, trees}
use Rattle.es_base.specs.declared.kind.Kind.{Kind}
use Rattle.es_base.specs.declared.ledger.GeneratedKind.{GeneratedKind}
use Rattle.es_base.specs.declared.ledger.LedgerEntry.{LedgerEntry}
use Rattle.es_base.specs.declared.literal.LiteralValue.TheVariants as literal_value
use Rattle.es_steps.specs.Generated.{node}
use Rattle.es_steps.specs.Options.{options_of}
use Rattle.es_steps.specs.declared.options.Options.{Options}

-- `class C { x = 1; static { g(class { m() { return C; } }); } }`
abbrev pub source_class_out_of_a_block : Tree
source_class_out_of_a_block = node Kind.Program 0 (more (string (codes "script")) (more (list (trees (node Kind.ClassDeclaration 1 (more (child (node Kind.BindingIdentifier 2 (more (string (codes "C")) end))) (more absent (more (child (node Kind.ClassBody 3 (more (list (trees (node Kind.PropertyDefinition 4 (more (child (node Kind.IdentifierName 5 (more (string (codes "x")) end))) (more (child (node Kind.Literal 6 (more (literal (literal_value.Number (codes "1"))) end))) (more (boolean false) (more (boolean false) end)))) ∷ node Kind.StaticBlock 7 (more (list (trees (node Kind.ExpressionStatement 8 (more (child (node Kind.CallExpression 9 (more (child (node Kind.IdentifierReference 10 (more (string (codes "g")) end))) (more (list (trees (node Kind.ClassExpression 11 (more absent (more absent (more (child (node Kind.ClassBody 12 (more (list (trees (node Kind.MethodDefinition 13 (more (child (node Kind.IdentifierName 14 (more (string (codes "m")) end))) (more (child (node Kind.FunctionExpression 15 (more absent (more (list end) (more (child (node Kind.BlockStatement 16 (more (list (trees (node Kind.ReturnStatement 17 (more (child (node Kind.IdentifierReference 18 (more (string (codes "C")) end))) end) ∷ []))) end))) (more (boolean false) (more (boolean false) end))))))) (more (string (codes "method")) (more (boolean false) (more (boolean false) end))))) ∷ []))) end))) end))) ∷ []))) (more (boolean false) end))))) (more no_string end)) ∷ []))) end) ∷ []))) end))) end))) ∷ []))) end))

-- a class that moves out of a static block, in front of the class that it names: `var _t; _t = class { m() { return C; } }; class C { constructor() { B.defineProperty(this, "x", 1); } static { g(_t); } }`
abbrev pub output_class_out_of_a_block : Tree
output_class_out_of_a_block = node Kind.Program 0 (more (string (codes "script")) (more (list (trees (node Kind.VariableDeclaration 19 (more (string (codes "var")) (more (list (trees (node Kind.VariableDeclarator 20 (more (child (node Kind.BindingIdentifier 21 (more (string (codes "_t")) end))) (more absent end)) ∷ []))) end)) ∷ node Kind.ExpressionStatement 22 (more (child (node Kind.AssignmentExpression 23 (more (string (codes "=")) (more (child (node Kind.IdentifierReference 24 (more (string (codes "_t")) end))) (more (child (node Kind.ClassExpression 11 (more absent (more absent (more (child (node Kind.ClassBody 12 (more (list (trees (node Kind.MethodDefinition 13 (more (child (node Kind.IdentifierName 14 (more (string (codes "m")) end))) (more (child (node Kind.FunctionExpression 15 (more absent (more (list end) (more (child (node Kind.BlockStatement 16 (more (list (trees (node Kind.ReturnStatement 17 (more (child (node Kind.IdentifierReference 18 (more (string (codes "C")) end))) end) ∷ []))) end))) (more (boolean false) (more (boolean false) end))))))) (more (string (codes "method")) (more (boolean false) (more (boolean false) end))))) ∷ []))) end))) end))))) end))))) (more no_string end)) ∷ node Kind.ClassDeclaration 1 (more (child (node Kind.BindingIdentifier 2 (more (string (codes "C")) end))) (more absent (more (child (node Kind.ClassBody 3 (more (list (trees (node Kind.MethodDefinition 25 (more (child (node Kind.IdentifierName 26 (more (string (codes "constructor")) end))) (more (child (node Kind.FunctionExpression 27 (more absent (more (list end) (more (child (node Kind.BlockStatement 28 (more (list (trees (node Kind.ExpressionStatement 29 (more (child (node Kind.CallExpression 30 (more (child (node Kind.MemberExpression 31 (more (child (node Kind.IdentifierReference 32 (more (string (codes "babelHelpers")) end))) (more (child (node Kind.IdentifierName 33 (more (string (codes "defineProperty")) end))) (more (boolean false) (more (boolean false) end)))))) (more (list (trees (node Kind.ThisExpression 34 end ∷ node Kind.Literal 35 (more (literal (literal_value.String (codes "x") None)) end) ∷ node Kind.Literal 6 (more (literal (literal_value.Number (codes "1"))) end) ∷ []))) (more (boolean false) end))))) (more no_string end)) ∷ []))) end))) (more (boolean false) (more (boolean false) end))))))) (more (string (codes "constructor")) (more (boolean false) (more (boolean false) end))))) ∷ node Kind.StaticBlock 7 (more (list (trees (node Kind.ExpressionStatement 8 (more (child (node Kind.CallExpression 9 (more (child (node Kind.IdentifierReference 10 (more (string (codes "g")) end))) (more (list (trees (node Kind.IdentifierReference 36 (more (string (codes "_t")) end) ∷ []))) (more (boolean false) end))))) (more no_string end)) ∷ []))) end) ∷ []))) end))) end))) ∷ []))) end))

abbrev pub generated_class_out_of_a_block : List LedgerEntry
generated_class_out_of_a_block = record { name = codes "_t"; kind = GeneratedKind.Temp } ∷ []

abbrev pub options_class_out_of_a_block : Options
options_class_out_of_a_block = options_of false (Some (record { loose = false })) false
