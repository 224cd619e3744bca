-- Printed by tools/rows/witnesses.js.
use Rattle.std.specs.Prelude.{ℕ, List, [], ◌∷◌, true, false, codes, Some, None}
use Rattle.es_base.specs.Tree.{Tree, end, more, child, absent, list, string, no_string, boolean, literal, trees}
use Rattle.es_base.specs.declared.kind.Kind.{Kind}
use Rattle.es_base.specs.declared.ledger.GeneratedKind.{GeneratedKind}
use Rattle.es_base.specs.declared.ledger.LedgerEntry.{LedgerEntry}
use Rattle.es_base.specs.declared.literal.LiteralValue.TheVariants as literal_value
use Rattle.es_steps.specs.Generated.{node}
use Rattle.es_steps.specs.Options.{options_of}
use Rattle.es_steps.specs.declared.options.Options.{Options}

-- `h(class C { static s = (() => C)(); });`
abbrev pub source_class_temporary_behind_a_called_arrow : Tree
source_class_temporary_behind_a_called_arrow = node Kind.Program 0 (more (string (codes "script")) (more (list (trees (node Kind.ExpressionStatement 1 (more (child (node Kind.CallExpression 2 (more (child (node Kind.IdentifierReference 3 (more (string (codes "h")) end))) (more (list (trees (node Kind.ClassExpression 4 (more (child (node Kind.BindingIdentifier 5 (more (string (codes "C")) end))) (more absent (more (child (node Kind.ClassBody 6 (more (list (trees (node Kind.PropertyDefinition 7 (more (child (node Kind.IdentifierName 8 (more (string (codes "s")) end))) (more (child (node Kind.CallExpression 9 (more (child (node Kind.ArrowFunctionExpression 10 (more (list end) (more (child (node Kind.IdentifierReference 11 (more (string (codes "C")) end))) (more (boolean false) end))))) (more (list end) (more (boolean false) end))))) (more (boolean false) (more (boolean true) end)))) ∷ []))) end))) end))) ∷ []))) (more (boolean false) end))))) (more no_string end)) ∷ []))) end))

-- the generated name of a class, given behind an arrow of a static field that reads it when it is called: `var _C, _D; h(_C = (_D = class C {}, B.defineProperty(_D, "s", (() => _C)()), _D));`
abbrev pub output_class_temporary_behind_a_called_arrow : Tree
output_class_temporary_behind_a_called_arrow = node Kind.Program 0 (more (string (codes "script")) (more (list (trees (node Kind.VariableDeclaration 12 (more (string (codes "var")) (more (list (trees (node Kind.VariableDeclarator 13 (more (child (node Kind.BindingIdentifier 14 (more (string (codes "_C")) end))) (more absent end)) ∷ node Kind.VariableDeclarator 15 (more (child (node Kind.BindingIdentifier 16 (more (string (codes "_D")) end))) (more absent end)) ∷ []))) end)) ∷ node Kind.ExpressionStatement 1 (more (child (node Kind.CallExpression 2 (more (child (node Kind.IdentifierReference 3 (more (string (codes "h")) end))) (more (list (trees (node Kind.AssignmentExpression 17 (more (string (codes "=")) (more (child (node Kind.IdentifierReference 18 (more (string (codes "_C")) end))) (more (child (node Kind.SequenceExpression 19 (more (list (trees (node Kind.AssignmentExpression 20 (more (string (codes "=")) (more (child (node Kind.IdentifierReference 21 (more (string (codes "_D")) end))) (more (child (node Kind.ClassExpression 4 (more (child (node Kind.BindingIdentifier 5 (more (string (codes "C")) end))) (more absent (more (child (node Kind.ClassBody 6 (more (list end) end))) end))))) end))) ∷ node Kind.CallExpression 22 (more (child (node Kind.MemberExpression 23 (more (child (node Kind.IdentifierReference 24 (more (string (codes "babelHelpers")) end))) (more (child (node Kind.IdentifierName 25 (more (string (codes "defineProperty")) end))) (more (boolean false) (more (boolean false) end)))))) (more (list (trees (node Kind.IdentifierReference 26 (more (string (codes "_D")) end) ∷ node Kind.Literal 27 (more (literal (literal_value.String (codes "s") None)) end) ∷ node Kind.CallExpression 9 (more (child (node Kind.ArrowFunctionExpression 10 (more (list end) (more (child (node Kind.IdentifierReference 28 (more (string (codes "_C")) end))) (more (boolean false) end))))) (more (list end) (more (boolean false) end))) ∷ []))) (more (boolean false) end))) ∷ node Kind.IdentifierReference 29 (more (string (codes "_D")) end) ∷ []))) end))) end))) ∷ []))) (more (boolean false) end))))) (more no_string end)) ∷ []))) end))

abbrev pub generated_class_temporary_behind_a_called_arrow : List LedgerEntry
generated_class_temporary_behind_a_called_arrow = record { name = codes "_C"; kind = GeneratedKind.ClassTemp (record { 0 = 4 }) } ∷ record { name = codes "_D"; kind = GeneratedKind.ClassTemp (record { 0 = 4 }) } ∷ []

abbrev pub options_class_temporary_behind_a_called_arrow : Options
options_class_temporary_behind_a_called_arrow = options_of false (Some (record { loose = false })) false
