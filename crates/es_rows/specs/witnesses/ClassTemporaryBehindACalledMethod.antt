-- Printed by tools/rows/witnesses.js.
use Rattle.std.specs.Prelude.{ℕ, List, [], ◌∷◌, true, false, codes, Some, None}
use Rattle.es_base.specs.Tree.{Tree, end, more, child, absent, list, string, no_string, boolean, literal, trees}
use Rattle.es_base.specs.declared.kind.Kind.{Kind}
use Rattle.es_base.specs.declared.ledger.GeneratedKind.{GeneratedKind}
use Rattle.es_base.specs.declared.ledger.LedgerEntry.{LedgerEntry}
use Rattle.es_base.specs.declared.literal.LiteralValue.TheVariants as literal_value
use Rattle.es_steps.specs.Generated.{node}
use Rattle.es_steps.specs.Options.{options_of}
use Rattle.es_steps.specs.declared.options.Options.{Options}

-- `h(class C { static s = new C().m(); m() { return C; } });`
abbrev pub source_class_temporary_behind_a_called_method : Tree
source_class_temporary_behind_a_called_method = node Kind.Program 0 (more (string (codes "script")) (more (list (trees (node Kind.ExpressionStatement 1 (more (child (node Kind.CallExpression 2 (more (child (node Kind.IdentifierReference 3 (more (string (codes "h")) end))) (more (list (trees (node Kind.ClassExpression 4 (more (child (node Kind.BindingIdentifier 5 (more (string (codes "C")) end))) (more absent (more (child (node Kind.ClassBody 6 (more (list (trees (node Kind.PropertyDefinition 7 (more (child (node Kind.IdentifierName 8 (more (string (codes "s")) end))) (more (child (node Kind.CallExpression 9 (more (child (node Kind.MemberExpression 10 (more (child (node Kind.NewExpression 11 (more (child (node Kind.IdentifierReference 12 (more (string (codes "C")) end))) (more (list end) end)))) (more (child (node Kind.IdentifierName 13 (more (string (codes "m")) end))) (more (boolean false) (more (boolean false) end)))))) (more (list end) (more (boolean false) end))))) (more (boolean false) (more (boolean true) end)))) ∷ node Kind.MethodDefinition 14 (more (child (node Kind.IdentifierName 15 (more (string (codes "m")) end))) (more (child (node Kind.FunctionExpression 16 (more absent (more (list end) (more (child (node Kind.BlockStatement 17 (more (list (trees (node Kind.ReturnStatement 18 (more (child (node Kind.IdentifierReference 19 (more (string (codes "C")) end))) end) ∷ []))) end))) (more (boolean false) (more (boolean false) end))))))) (more (string (codes "method")) (more (boolean false) (more (boolean false) end))))) ∷ []))) end))) end))) ∷ []))) (more (boolean false) end))))) (more no_string end)) ∷ []))) end))

-- the generated name of a class, given behind a call of a method that reads it: `var _C, _D; h(_C = (_D = class C { m() { return _C; } }, B.defineProperty(_D, "s", new _D().m()), _D));`
abbrev pub output_class_temporary_behind_a_called_method : Tree
output_class_temporary_behind_a_called_method = node Kind.Program 0 (more (string (codes "script")) (more (list (trees (node Kind.VariableDeclaration 20 (more (string (codes "var")) (more (list (trees (node Kind.VariableDeclarator 21 (more (child (node Kind.BindingIdentifier 22 (more (string (codes "_C")) end))) (more absent end)) ∷ node Kind.VariableDeclarator 23 (more (child (node Kind.BindingIdentifier 24 (more (string (codes "_D")) end))) (more absent end)) ∷ []))) end)) ∷ node Kind.ExpressionStatement 1 (more (child (node Kind.CallExpression 2 (more (child (node Kind.IdentifierReference 3 (more (string (codes "h")) end))) (more (list (trees (node Kind.AssignmentExpression 25 (more (string (codes "=")) (more (child (node Kind.IdentifierReference 26 (more (string (codes "_C")) end))) (more (child (node Kind.SequenceExpression 27 (more (list (trees (node Kind.AssignmentExpression 28 (more (string (codes "=")) (more (child (node Kind.IdentifierReference 29 (more (string (codes "_D")) end))) (more (child (node Kind.ClassExpression 4 (more (child (node Kind.BindingIdentifier 5 (more (string (codes "C")) end))) (more absent (more (child (node Kind.ClassBody 6 (more (list (trees (node Kind.MethodDefinition 14 (more (child (node Kind.IdentifierName 13 (more (string (codes "m")) end))) (more (child (node Kind.FunctionExpression 16 (more absent (more (list end) (more (child (node Kind.BlockStatement 17 (more (list (trees (node Kind.ReturnStatement 18 (more (child (node Kind.IdentifierReference 30 (more (string (codes "_C")) end))) end) ∷ []))) end))) (more (boolean false) (more (boolean false) end))))))) (more (string (codes "method")) (more (boolean false) (more (boolean false) end))))) ∷ []))) end))) end))))) end))) ∷ node Kind.CallExpression 31 (more (child (node Kind.MemberExpression 32 (more (child (node Kind.IdentifierReference 33 (more (string (codes "babelHelpers")) end))) (more (child (node Kind.IdentifierName 34 (more (string (codes "defineProperty")) end))) (more (boolean false) (more (boolean false) end)))))) (more (list (trees (node Kind.IdentifierReference 35 (more (string (codes "_D")) end) ∷ node Kind.Literal 36 (more (literal (literal_value.String (codes "s") None)) end) ∷ node Kind.CallExpression 9 (more (child (node Kind.MemberExpression 10 (more (child (node Kind.NewExpression 11 (more (child (node Kind.IdentifierReference 37 (more (string (codes "_D")) end))) (more (list end) end)))) (more (child (node Kind.IdentifierName 15 (more (string (codes "m")) end))) (more (boolean false) (more (boolean false) end)))))) (more (list end) (more (boolean false) end))) ∷ []))) (more (boolean false) end))) ∷ node Kind.IdentifierReference 38 (more (string (codes "_D")) end) ∷ []))) end))) end))) ∷ []))) (more (boolean false) end))))) (more no_string end)) ∷ []))) end))

abbrev pub generated_class_temporary_behind_a_called_method : List LedgerEntry
generated_class_temporary_behind_a_called_method = record { name = codes "_C"; kind = GeneratedKind.ClassTemp (record { 0 = 4 }) } ∷ record { name = codes "_D"; kind = GeneratedKind.ClassTemp (record { 0 = 4 }) } ∷ []

abbrev pub options_class_temporary_behind_a_called_method : Options
options_class_temporary_behind_a_called_method = options_of false (Some (record { loose = false })) false
