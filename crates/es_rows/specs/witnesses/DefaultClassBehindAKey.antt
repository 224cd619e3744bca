-- Printed by tools/rows/witnesses.js.
use Rattle.std.specs.Prelude.{ℕ, List, [], ◌∷◌, true, false, codes, Some, None}
use Rattle.es_base.specs.Tree.{Tree, end, more, child, absent, list, string, no_string, boolean, literal, trees}
use Rattle.es_base.specs.declared.kind.Kind.{Kind}
use Rattle.es_base.specs.declared.ledger.GeneratedKind.{GeneratedKind}
use Rattle.es_base.specs.declared.ledger.LedgerEntry.{LedgerEntry}
use Rattle.es_base.specs.declared.literal.LiteralValue.TheVariants as literal_value
use Rattle.es_steps.specs.Generated.{node}
use Rattle.es_steps.specs.Options.{options_of}
use Rattle.es_steps.specs.declared.options.Options.{Options}

-- `export default class { x = 1; } class A { [f()] = 1; }`
abbrev pub source_default_class_behind_a_key : Tree
source_default_class_behind_a_key = node Kind.Program 0 (more (string (codes "module")) (more (list (trees (node Kind.ExportDefaultDeclaration 1 (more (child (node Kind.ClassDeclaration 2 (more absent (more absent (more (child (node Kind.ClassBody 3 (more (list (trees (node Kind.PropertyDefinition 4 (more (child (node Kind.IdentifierName 5 (more (string (codes "x")) end))) (more (child (node Kind.Literal 6 (more (literal (literal_value.Number (codes "1"))) end))) (more (boolean false) (more (boolean false) end)))) ∷ []))) end))) end))))) end) ∷ node Kind.ClassDeclaration 7 (more (child (node Kind.BindingIdentifier 8 (more (string (codes "A")) end))) (more absent (more (child (node Kind.ClassBody 9 (more (list (trees (node Kind.PropertyDefinition 10 (more (child (node Kind.CallExpression 11 (more (child (node Kind.IdentifierReference 12 (more (string (codes "f")) end))) (more (list end) (more (boolean false) end))))) (more (child (node Kind.Literal 13 (more (literal (literal_value.Number (codes "1"))) end))) (more (boolean true) (more (boolean false) end)))) ∷ []))) end))) end))) ∷ []))) end))

-- a class that is exported as default stands behind a key that a module may evaluate first: `var _f; _f = B.toPropertyKey(f()); class _C { constructor() { B.defineProperty(this, "x", 1); } } export { _C as default }; class A { constructor() { B.defineProperty(this, _f, 1); } }`
abbrev pub output_default_class_behind_a_key : Tree
output_default_class_behind_a_key = node Kind.Program 0 (more (string (codes "module")) (more (list (trees (node Kind.VariableDeclaration 14 (more (string (codes "var")) (more (list (trees (node Kind.VariableDeclarator 15 (more (child (node Kind.BindingIdentifier 16 (more (string (codes "_f")) end))) (more absent end)) ∷ []))) end)) ∷ node Kind.ExpressionStatement 17 (more (child (node Kind.AssignmentExpression 18 (more (string (codes "=")) (more (child (node Kind.IdentifierReference 19 (more (string (codes "_f")) end))) (more (child (node Kind.CallExpression 20 (more (child (node Kind.MemberExpression 21 (more (child (node Kind.IdentifierReference 22 (more (string (codes "babelHelpers")) end))) (more (child (node Kind.IdentifierName 23 (more (string (codes "toPropertyKey")) end))) (more (boolean false) (more (boolean false) end)))))) (more (list (trees (node Kind.CallExpression 11 (more (child (node Kind.IdentifierReference 12 (more (string (codes "f")) end))) (more (list end) (more (boolean false) end))) ∷ []))) (more (boolean false) end))))) end))))) (more no_string end)) ∷ node Kind.ClassDeclaration 2 (more (child (node Kind.BindingIdentifier 24 (more (string (codes "_C")) end))) (more absent (more (child (node Kind.ClassBody 3 (more (list (trees (node Kind.MethodDefinition 25 (more (child (node Kind.IdentifierName 26 (more (string (codes "constructor")) end))) (more (child (node Kind.FunctionExpression 27 (more absent (more (list end) (more (child (node Kind.BlockStatement 28 (more (list (trees (node Kind.ExpressionStatement 29 (more (child (node Kind.CallExpression 30 (more (child (node Kind.MemberExpression 31 (more (child (node Kind.IdentifierReference 32 (more (string (codes "babelHelpers")) end))) (more (child (node Kind.IdentifierName 33 (more (string (codes "defineProperty")) end))) (more (boolean false) (more (boolean false) end)))))) (more (list (trees (node Kind.ThisExpression 34 end ∷ node Kind.Literal 35 (more (literal (literal_value.String (codes "x") None)) end) ∷ node Kind.Literal 6 (more (literal (literal_value.Number (codes "1"))) end) ∷ []))) (more (boolean false) end))))) (more no_string end)) ∷ []))) end))) (more (boolean false) (more (boolean false) end))))))) (more (string (codes "constructor")) (more (boolean false) (more (boolean false) end))))) ∷ []))) end))) end))) ∷ node Kind.ExportNamedDeclaration 36 (more absent (more (list (trees (node Kind.ExportSpecifier 37 (more (child (node Kind.IdentifierReference 38 (more (string (codes "_C")) end))) (more (child (node Kind.IdentifierName 39 (more (string (codes "default")) end))) end)) ∷ []))) (more absent end))) ∷ node Kind.ClassDeclaration 7 (more (child (node Kind.BindingIdentifier 8 (more (string (codes "A")) end))) (more absent (more (child (node Kind.ClassBody 9 (more (list (trees (node Kind.MethodDefinition 40 (more (child (node Kind.IdentifierName 41 (more (string (codes "constructor")) end))) (more (child (node Kind.FunctionExpression 42 (more absent (more (list end) (more (child (node Kind.BlockStatement 43 (more (list (trees (node Kind.ExpressionStatement 44 (more (child (node Kind.CallExpression 45 (more (child (node Kind.MemberExpression 46 (more (child (node Kind.IdentifierReference 47 (more (string (codes "babelHelpers")) end))) (more (child (node Kind.IdentifierName 48 (more (string (codes "defineProperty")) end))) (more (boolean false) (more (boolean false) end)))))) (more (list (trees (node Kind.ThisExpression 49 end ∷ node Kind.IdentifierReference 50 (more (string (codes "_f")) end) ∷ node Kind.Literal 13 (more (literal (literal_value.Number (codes "1"))) end) ∷ []))) (more (boolean false) end))))) (more no_string end)) ∷ []))) end))) (more (boolean false) (more (boolean false) end))))))) (more (string (codes "constructor")) (more (boolean false) (more (boolean false) end))))) ∷ []))) end))) end))) ∷ []))) end))

abbrev pub generated_default_class_behind_a_key : List LedgerEntry
generated_default_class_behind_a_key = record { name = codes "_f"; kind = GeneratedKind.Temp } ∷ record { name = codes "_C"; kind = GeneratedKind.ClassTemp (record { 0 = 2 }) } ∷ []

abbrev pub options_default_class_behind_a_key : Options
options_default_class_behind_a_key = options_of false (Some (record { loose = false })) false
