-- Printed by tools/rows/witnesses.js.
use Rattle.std.specs.Prelude.{ℕ, List, [], ◌∷◌, true, false, codes, Some, None}
use Rattle.es_base.specs.Tree.{Tree, end, more, child, absent, list, string, no_string, boolean, literal, trees}
use Rattle.es_base.specs.declared.kind.Kind.{Kind}
use Rattle.es_base.specs.declared.ledger.GeneratedKind.{GeneratedKind}
use Rattle.es_base.specs.declared.ledger.LedgerEntry.{LedgerEntry}
use Rattle.es_base.specs.declared.literal.LiteralValue.TheVariants as literal_value
use Rattle.es_steps.specs.Generated.{node}
use Rattle.es_steps.specs.Options.{options_of}
use Rattle.es_steps.specs.declared.options.Options.{Options}

-- `class C { static x = this.m(); static m() { return C; } } f(C.x);`
abbrev pub source_declaration_without_its_name_in_a_method : Tree
source_declaration_without_its_name_in_a_method = node Kind.Program 0 (more (string (codes "script")) (more (list (trees (node Kind.ClassDeclaration 1 (more (child (node Kind.BindingIdentifier 2 (more (string (codes "C")) end))) (more absent (more (child (node Kind.ClassBody 3 (more (list (trees (node Kind.PropertyDefinition 4 (more (child (node Kind.IdentifierName 5 (more (string (codes "x")) end))) (more (child (node Kind.CallExpression 6 (more (child (node Kind.MemberExpression 7 (more (child (node Kind.ThisExpression 8 end)) (more (child (node Kind.IdentifierName 9 (more (string (codes "m")) end))) (more (boolean false) (more (boolean false) end)))))) (more (list end) (more (boolean false) end))))) (more (boolean false) (more (boolean true) end)))) ∷ node Kind.MethodDefinition 10 (more (child (node Kind.IdentifierName 11 (more (string (codes "m")) end))) (more (child (node Kind.FunctionExpression 12 (more absent (more (list end) (more (child (node Kind.BlockStatement 13 (more (list (trees (node Kind.ReturnStatement 14 (more (child (node Kind.IdentifierReference 15 (more (string (codes "C")) end))) end) ∷ []))) end))) (more (boolean false) (more (boolean false) end))))))) (more (string (codes "method")) (more (boolean false) (more (boolean true) end))))) ∷ []))) end))) end))) ∷ node Kind.ExpressionStatement 16 (more (child (node Kind.CallExpression 17 (more (child (node Kind.IdentifierReference 18 (more (string (codes "f")) end))) (more (list (trees (node Kind.MemberExpression 19 (more (child (node Kind.IdentifierReference 20 (more (string (codes "C")) end))) (more (child (node Kind.IdentifierName 21 (more (string (codes "x")) end))) (more (boolean false) (more (boolean false) end)))) ∷ []))) (more (boolean false) end))))) (more no_string end)) ∷ []))) end))

-- a class declaration that becomes an expression without its name, which a static method reads for a static field: `var _C; let C = (_C = class { static m() { return C; } }, B.defineProperty(_C, "x", _C.m()), _C); f(C.x);`
abbrev pub output_declaration_without_its_name_in_a_method : Tree
output_declaration_without_its_name_in_a_method = node Kind.Program 0 (more (string (codes "script")) (more (list (trees (node Kind.VariableDeclaration 22 (more (string (codes "var")) (more (list (trees (node Kind.VariableDeclarator 23 (more (child (node Kind.BindingIdentifier 24 (more (string (codes "_C")) end))) (more absent end)) ∷ []))) end)) ∷ node Kind.VariableDeclaration 25 (more (string (codes "let")) (more (list (trees (node Kind.VariableDeclarator 26 (more (child (node Kind.BindingIdentifier 2 (more (string (codes "C")) end))) (more (child (node Kind.SequenceExpression 27 (more (list (trees (node Kind.AssignmentExpression 28 (more (string (codes "=")) (more (child (node Kind.IdentifierReference 29 (more (string (codes "_C")) end))) (more (child (node Kind.ClassExpression 1 (more absent (more absent (more (child (node Kind.ClassBody 3 (more (list (trees (node Kind.MethodDefinition 10 (more (child (node Kind.IdentifierName 11 (more (string (codes "m")) end))) (more (child (node Kind.FunctionExpression 12 (more absent (more (list end) (more (child (node Kind.BlockStatement 13 (more (list (trees (node Kind.ReturnStatement 14 (more (child (node Kind.IdentifierReference 15 (more (string (codes "C")) end))) end) ∷ []))) end))) (more (boolean false) (more (boolean false) end))))))) (more (string (codes "method")) (more (boolean false) (more (boolean true) end))))) ∷ []))) end))) end))))) end))) ∷ node Kind.CallExpression 30 (more (child (node Kind.MemberExpression 31 (more (child (node Kind.IdentifierReference 32 (more (string (codes "babelHelpers")) end))) (more (child (node Kind.IdentifierName 33 (more (string (codes "defineProperty")) end))) (more (boolean false) (more (boolean false) end)))))) (more (list (trees (node Kind.IdentifierReference 34 (more (string (codes "_C")) end) ∷ node Kind.Literal 35 (more (literal (literal_value.String (codes "x") None)) end) ∷ node Kind.CallExpression 6 (more (child (node Kind.MemberExpression 7 (more (child (node Kind.IdentifierReference 36 (more (string (codes "_C")) end))) (more (child (node Kind.IdentifierName 9 (more (string (codes "m")) end))) (more (boolean false) (more (boolean false) end)))))) (more (list end) (more (boolean false) end))) ∷ []))) (more (boolean false) end))) ∷ node Kind.IdentifierReference 37 (more (string (codes "_C")) end) ∷ []))) end))) end)) ∷ []))) end)) ∷ node Kind.ExpressionStatement 16 (more (child (node Kind.CallExpression 17 (more (child (node Kind.IdentifierReference 18 (more (string (codes "f")) end))) (more (list (trees (node Kind.MemberExpression 19 (more (child (node Kind.IdentifierReference 20 (more (string (codes "C")) end))) (more (child (node Kind.IdentifierName 21 (more (string (codes "x")) end))) (more (boolean false) (more (boolean false) end)))) ∷ []))) (more (boolean false) end))))) (more no_string end)) ∷ []))) end))

abbrev pub generated_declaration_without_its_name_in_a_method : List LedgerEntry
generated_declaration_without_its_name_in_a_method = record { name = codes "_C"; kind = GeneratedKind.ClassTemp (record { 0 = 1 }) } ∷ []

abbrev pub options_declaration_without_its_name_in_a_method : Options
options_declaration_without_its_name_in_a_method = options_of false (Some (record { loose = false })) false
