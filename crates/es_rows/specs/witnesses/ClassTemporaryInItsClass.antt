-- Printed by tools/rows/witnesses.js.
use Rattle.std.specs.Prelude.{ℕ, List, [], ◌∷◌, true, false, codes, Some, None}
use Rattle.es_base.specs.Tree.{Tree, end, more, child, absent, list, string, no_string, boolean, literal, trees}
use Rattle.es_base.specs.declared.kind.Kind.{Kind}
use Rattle.es_base.specs.declared.ledger.GeneratedKind.{GeneratedKind}
use Rattle.es_base.specs.declared.ledger.LedgerEntry.{LedgerEntry}
use Rattle.es_base.specs.declared.literal.LiteralValue.TheVariants as literal_value
use Rattle.es_steps.specs.Generated.{node}
use Rattle.es_steps.specs.Options.{options_of}
use Rattle.es_steps.specs.declared.options.Options.{Options}

-- `class C { x = 1; static m() { return C; } static { f(C.m()); } }`
abbrev pub source_class_temporary_in_its_class : Tree
source_class_temporary_in_its_class = node Kind.Program 0 (more (string (codes "script")) (more (list (trees (node Kind.ClassDeclaration 1 (more (child (node Kind.BindingIdentifier 2 (more (string (codes "C")) end))) (more absent (more (child (node Kind.ClassBody 3 (more (list (trees (node Kind.PropertyDefinition 4 (more (child (node Kind.IdentifierName 5 (more (string (codes "x")) end))) (more (child (node Kind.Literal 6 (more (literal (literal_value.Number (codes "1"))) end))) (more (boolean false) (more (boolean false) end)))) ∷ node Kind.MethodDefinition 7 (more (child (node Kind.IdentifierName 8 (more (string (codes "m")) end))) (more (child (node Kind.FunctionExpression 9 (more absent (more (list end) (more (child (node Kind.BlockStatement 10 (more (list (trees (node Kind.ReturnStatement 11 (more (child (node Kind.IdentifierReference 12 (more (string (codes "C")) end))) end) ∷ []))) end))) (more (boolean false) (more (boolean false) end))))))) (more (string (codes "method")) (more (boolean false) (more (boolean true) end))))) ∷ node Kind.StaticBlock 13 (more (list (trees (node Kind.ExpressionStatement 14 (more (child (node Kind.CallExpression 15 (more (child (node Kind.IdentifierReference 16 (more (string (codes "f")) end))) (more (list (trees (node Kind.CallExpression 17 (more (child (node Kind.MemberExpression 18 (more (child (node Kind.IdentifierReference 19 (more (string (codes "C")) end))) (more (child (node Kind.IdentifierName 20 (more (string (codes "m")) end))) (more (boolean false) (more (boolean false) end)))))) (more (list end) (more (boolean false) end))) ∷ []))) (more (boolean false) end))))) (more no_string end)) ∷ []))) end) ∷ []))) end))) end))) ∷ []))) end))

-- the name of a class read in its body, by an element that runs with it, where `class C { constructor() { B.defineProperty(this, "x", 1); } static m() { return C; } static { f(C.m()); } }` is right
abbrev pub output_class_temporary_in_its_class : Tree
output_class_temporary_in_its_class = node Kind.Program 0 (more (string (codes "script")) (more (list (trees (node Kind.VariableDeclaration 21 (more (string (codes "var")) (more (list (trees (node Kind.VariableDeclarator 22 (more (child (node Kind.BindingIdentifier 23 (more (string (codes "_C")) end))) (more absent end)) ∷ []))) end)) ∷ node Kind.ClassDeclaration 1 (more (child (node Kind.BindingIdentifier 2 (more (string (codes "C")) end))) (more absent (more (child (node Kind.ClassBody 3 (more (list (trees (node Kind.MethodDefinition 24 (more (child (node Kind.IdentifierName 25 (more (string (codes "constructor")) end))) (more (child (node Kind.FunctionExpression 26 (more absent (more (list end) (more (child (node Kind.BlockStatement 27 (more (list (trees (node Kind.ExpressionStatement 28 (more (child (node Kind.CallExpression 29 (more (child (node Kind.MemberExpression 30 (more (child (node Kind.IdentifierReference 31 (more (string (codes "babelHelpers")) end))) (more (child (node Kind.IdentifierName 32 (more (string (codes "defineProperty")) end))) (more (boolean false) (more (boolean false) end)))))) (more (list (trees (node Kind.ThisExpression 33 end ∷ node Kind.Literal 34 (more (literal (literal_value.String (codes "x") None)) end) ∷ node Kind.Literal 6 (more (literal (literal_value.Number (codes "1"))) end) ∷ []))) (more (boolean false) end))))) (more no_string end)) ∷ []))) end))) (more (boolean false) (more (boolean false) end))))))) (more (string (codes "constructor")) (more (boolean false) (more (boolean false) end))))) ∷ node Kind.MethodDefinition 7 (more (child (node Kind.IdentifierName 8 (more (string (codes "m")) end))) (more (child (node Kind.FunctionExpression 9 (more absent (more (list end) (more (child (node Kind.BlockStatement 10 (more (list (trees (node Kind.ReturnStatement 11 (more (child (node Kind.IdentifierReference 12 (more (string (codes "_C")) end))) end) ∷ []))) end))) (more (boolean false) (more (boolean false) end))))))) (more (string (codes "method")) (more (boolean false) (more (boolean true) end))))) ∷ node Kind.StaticBlock 13 (more (list (trees (node Kind.ExpressionStatement 14 (more (child (node Kind.CallExpression 15 (more (child (node Kind.IdentifierReference 16 (more (string (codes "f")) end))) (more (list (trees (node Kind.CallExpression 17 (more (child (node Kind.MemberExpression 18 (more (child (node Kind.IdentifierReference 19 (more (string (codes "C")) end))) (more (child (node Kind.IdentifierName 20 (more (string (codes "m")) end))) (more (boolean false) (more (boolean false) end)))))) (more (list end) (more (boolean false) end))) ∷ []))) (more (boolean false) end))))) (more no_string end)) ∷ []))) end) ∷ []))) end))) end))) ∷ node Kind.ExpressionStatement 35 (more (child (node Kind.AssignmentExpression 36 (more (string (codes "=")) (more (child (node Kind.IdentifierReference 37 (more (string (codes "_C")) end))) (more (child (node Kind.IdentifierReference 38 (more (string (codes "C")) end))) end))))) (more no_string end)) ∷ []))) end))

abbrev pub generated_class_temporary_in_its_class : List LedgerEntry
generated_class_temporary_in_its_class = record { name = codes "_C"; kind = GeneratedKind.ClassTemp (record { 0 = 1 }) } ∷ []

abbrev pub options_class_temporary_in_its_class : Options
options_class_temporary_in_its_class = options_of false (Some (record { loose = false })) false
