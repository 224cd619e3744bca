-- Printed by tools/rows/witnesses.js.
use Rattle.std.specs.Prelude.{ℕ, List, [], ◌∷◌, true, false, codes, Some, None}
use Rattle.es_base.specs.Tree.{Tree, end, more, child, absent, list, string, boolean, literal, trees}
use Rattle.es_base.specs.declared.kind.Kind.{Kind}
use Rattle.es_base.specs.declared.ledger.GeneratedKind.{GeneratedKind}
use Rattle.es_base.specs.declared.ledger.LedgerEntry.{LedgerEntry}
use Rattle.es_base.specs.declared.literal.LiteralValue.TheVariants as literal_value
use Rattle.es_steps.specs.Generated.{node}
use Rattle.es_steps.specs.Options.{options_of}
use Rattle.es_steps.specs.declared.options.Options.{Options}

-- `const f = () => class { static x = 1; };`
abbrev pub source_arrow_that_gives_another : Tree
source_arrow_that_gives_another = node Kind.Program 0 (more (string (codes "script")) (more (list (trees (node Kind.VariableDeclaration 1 (more (string (codes "const")) (more (list (trees (node Kind.VariableDeclarator 2 (more (child (node Kind.BindingIdentifier 3 (more (string (codes "f")) end))) (more (child (node Kind.ArrowFunctionExpression 4 (more (list end) (more (child (node Kind.ClassExpression 5 (more absent (more absent (more (child (node Kind.ClassBody 6 (more (list (trees (node Kind.PropertyDefinition 7 (more (child (node Kind.IdentifierName 8 (more (string (codes "x")) end))) (more (child (node Kind.Literal 9 (more (literal (literal_value.Number (codes "1"))) end))) (more (boolean false) (more (boolean true) end)))) ∷ []))) end))) end))))) (more (boolean false) end))))) end)) ∷ []))) end)) ∷ []))) end))

-- an arrow that gives another class, where `const f = () => { var _Class; return (_Class = class {}, B.defineProperty(_Class, "x", 1), _Class); };` is right
abbrev pub output_arrow_that_gives_another : Tree
output_arrow_that_gives_another = node Kind.Program 0 (more (string (codes "script")) (more (list (trees (node Kind.VariableDeclaration 1 (more (string (codes "const")) (more (list (trees (node Kind.VariableDeclarator 2 (more (child (node Kind.BindingIdentifier 3 (more (string (codes "f")) end))) (more (child (node Kind.ArrowFunctionExpression 4 (more (list end) (more (child (node Kind.BlockStatement 10 (more (list (trees (node Kind.VariableDeclaration 11 (more (string (codes "var")) (more (list (trees (node Kind.VariableDeclarator 12 (more (child (node Kind.BindingIdentifier 13 (more (string (codes "_Class")) end))) (more absent end)) ∷ []))) end)) ∷ node Kind.ReturnStatement 14 (more (child (node Kind.SequenceExpression 15 (more (list (trees (node Kind.AssignmentExpression 16 (more (string (codes "=")) (more (child (node Kind.IdentifierReference 17 (more (string (codes "_Class")) end))) (more (child (node Kind.ClassExpression 5 (more absent (more absent (more (child (node Kind.ClassBody 6 (more (list end) end))) end))))) end))) ∷ node Kind.CallExpression 18 (more (child (node Kind.MemberExpression 19 (more (child (node Kind.IdentifierReference 20 (more (string (codes "babelHelpers")) end))) (more (child (node Kind.IdentifierName 21 (more (string (codes "defineProperty")) end))) (more (boolean false) (more (boolean false) end)))))) (more (list (trees (node Kind.IdentifierReference 22 (more (string (codes "_Class")) end) ∷ node Kind.Literal 23 (more (literal (literal_value.String (codes "x") None)) end) ∷ node Kind.Literal 9 (more (literal (literal_value.Number (codes "1"))) end) ∷ []))) (more (boolean false) end))) ∷ []))) end))) end) ∷ []))) end))) (more (boolean false) end))))) end)) ∷ []))) end)) ∷ []))) end))

abbrev pub generated_arrow_that_gives_another : List LedgerEntry
generated_arrow_that_gives_another = record { name = codes "_Class"; kind = GeneratedKind.ClassTemp (record { 0 = 5 }) } ∷ []

abbrev pub options_arrow_that_gives_another : Options
options_arrow_that_gives_another = options_of false (Some (record { loose = false })) false
