-- Printed by tools/rows/witnesses.js.
use Rattle.std.specs.Prelude.{ℕ, List, [], ◌∷◌, true, false, codes, Some, None}
use Rattle.es_base.specs.Tree.{Tree, end, more, child, absent, list, string, boolean, literal, trees}
use Rattle.es_base.specs.declared.kind.Kind.{Kind}
use Rattle.es_base.specs.declared.ledger.GeneratedKind.{GeneratedKind}
use Rattle.es_base.specs.declared.ledger.LedgerEntry.{LedgerEntry}
use Rattle.es_base.specs.declared.literal.LiteralValue.TheVariants as literal_value
use Rattle.es_steps.specs.Generated.{node}
use Rattle.es_steps.specs.Options.{options_of}
use Rattle.es_steps.specs.declared.options.Options.{Options}

-- `let D = class { static x = 1; };`
abbrev pub source_class_temporary_before_its_class : Tree
source_class_temporary_before_its_class = node Kind.Program 0 (more (string (codes "script")) (more (list (trees (node Kind.VariableDeclaration 1 (more (string (codes "let")) (more (list (trees (node Kind.VariableDeclarator 2 (more (child (node Kind.BindingIdentifier 3 (more (string (codes "D")) end))) (more (child (node Kind.ClassExpression 4 (more absent (more absent (more (child (node Kind.ClassBody 5 (more (list (trees (node Kind.PropertyDefinition 6 (more (child (node Kind.IdentifierName 7 (more (string (codes "x")) end))) (more (child (node Kind.Literal 8 (more (literal (literal_value.Number (codes "1"))) end))) (more (boolean false) (more (boolean true) end)))) ∷ []))) end))) end))))) end)) ∷ []))) end)) ∷ []))) end))

-- a static field defined in front of its class, where `var _Class; let D = (_Class = class {}, B.defineProperty(_Class, "x", 1), _Class);` is right
abbrev pub output_class_temporary_before_its_class : Tree
output_class_temporary_before_its_class = node Kind.Program 0 (more (string (codes "script")) (more (list (trees (node Kind.VariableDeclaration 9 (more (string (codes "var")) (more (list (trees (node Kind.VariableDeclarator 10 (more (child (node Kind.BindingIdentifier 11 (more (string (codes "_Class")) end))) (more absent end)) ∷ []))) end)) ∷ node Kind.VariableDeclaration 1 (more (string (codes "let")) (more (list (trees (node Kind.VariableDeclarator 2 (more (child (node Kind.BindingIdentifier 3 (more (string (codes "D")) end))) (more (child (node Kind.SequenceExpression 12 (more (list (trees (node Kind.CallExpression 13 (more (child (node Kind.MemberExpression 14 (more (child (node Kind.IdentifierReference 15 (more (string (codes "babelHelpers")) end))) (more (child (node Kind.IdentifierName 16 (more (string (codes "defineProperty")) end))) (more (boolean false) (more (boolean false) end)))))) (more (list (trees (node Kind.IdentifierReference 17 (more (string (codes "_Class")) end) ∷ node Kind.Literal 18 (more (literal (literal_value.String (codes "x") None)) end) ∷ node Kind.Literal 8 (more (literal (literal_value.Number (codes "1"))) end) ∷ []))) (more (boolean false) end))) ∷ node Kind.AssignmentExpression 19 (more (string (codes "=")) (more (child (node Kind.IdentifierReference 20 (more (string (codes "_Class")) end))) (more (child (node Kind.ClassExpression 4 (more absent (more absent (more (child (node Kind.ClassBody 5 (more (list end) end))) end))))) end))) ∷ node Kind.IdentifierReference 21 (more (string (codes "_Class")) end) ∷ []))) end))) end)) ∷ []))) end)) ∷ []))) end))

abbrev pub generated_class_temporary_before_its_class : List LedgerEntry
generated_class_temporary_before_its_class = record { name = codes "_Class"; kind = GeneratedKind.ClassTemp (record { 0 = 4 }) } ∷ []

abbrev pub options_class_temporary_before_its_class : Options
options_class_temporary_before_its_class = options_of false (Some (record { loose = false })) false
