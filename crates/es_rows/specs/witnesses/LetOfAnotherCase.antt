-- Printed by tools/rows/witnesses.js.
use Rattle.std.specs.Prelude.{ℕ, List, [], ◌∷◌, true, false, codes, Some}
use Rattle.es_base.specs.Tree.{Tree, end, more, child, absent, list, string, no_string, boolean, literal, trees}
use Rattle.es_base.specs.declared.kind.Kind.{Kind}
use Rattle.es_base.specs.declared.ledger.GeneratedKind.{GeneratedKind}
use Rattle.es_base.specs.declared.ledger.LedgerEntry.{LedgerEntry}
use Rattle.es_base.specs.declared.literal.LiteralValue.TheVariants as literal_value
use Rattle.es_steps.specs.Generated.{node}
use Rattle.es_steps.specs.Options.{options_of}
use Rattle.es_steps.specs.declared.options.Options.{Options}

-- `switch (n) { case 0: f(); case 1: class A { [g()] = 1; } }`
abbrev pub source_let_of_another_case : Tree
source_let_of_another_case = node Kind.Program 0 (more (string (codes "script")) (more (list (trees (node Kind.SwitchStatement 1 (more (child (node Kind.IdentifierReference 2 (more (string (codes "n")) end))) (more (list (trees (node Kind.SwitchCase 3 (more (child (node Kind.Literal 4 (more (literal (literal_value.Number (codes "0"))) end))) (more (list (trees (node Kind.ExpressionStatement 5 (more (child (node Kind.CallExpression 6 (more (child (node Kind.IdentifierReference 7 (more (string (codes "f")) end))) (more (list end) (more (boolean false) end))))) (more no_string end)) ∷ []))) end)) ∷ node Kind.SwitchCase 8 (more (child (node Kind.Literal 9 (more (literal (literal_value.Number (codes "1"))) end))) (more (list (trees (node Kind.ClassDeclaration 10 (more (child (node Kind.BindingIdentifier 11 (more (string (codes "A")) end))) (more absent (more (child (node Kind.ClassBody 12 (more (list (trees (node Kind.PropertyDefinition 13 (more (child (node Kind.CallExpression 14 (more (child (node Kind.IdentifierReference 15 (more (string (codes "g")) end))) (more (list end) (more (boolean false) end))))) (more (child (node Kind.Literal 16 (more (literal (literal_value.Number (codes "1"))) end))) (more (boolean true) (more (boolean false) end)))) ∷ []))) end))) end))) ∷ []))) end)) ∷ []))) end)) ∷ []))) end))

-- a generated `let` in a case in front, where `switch (n) { case 0: f(); case 1: let _g; _g = g(); class A { constructor() { B.defineProperty(this, _g, 1); } } }` is right
abbrev pub output_let_of_another_case : Tree
output_let_of_another_case = node Kind.Program 0 (more (string (codes "script")) (more (list (trees (node Kind.SwitchStatement 1 (more (child (node Kind.IdentifierReference 2 (more (string (codes "n")) end))) (more (list (trees (node Kind.SwitchCase 3 (more (child (node Kind.Literal 4 (more (literal (literal_value.Number (codes "0"))) end))) (more (list (trees (node Kind.VariableDeclaration 17 (more (string (codes "let")) (more (list (trees (node Kind.VariableDeclarator 18 (more (child (node Kind.BindingIdentifier 19 (more (string (codes "_g")) end))) (more absent end)) ∷ []))) end)) ∷ node Kind.ExpressionStatement 5 (more (child (node Kind.CallExpression 6 (more (child (node Kind.IdentifierReference 7 (more (string (codes "f")) end))) (more (list end) (more (boolean false) end))))) (more no_string end)) ∷ []))) end)) ∷ node Kind.SwitchCase 8 (more (child (node Kind.Literal 9 (more (literal (literal_value.Number (codes "1"))) end))) (more (list (trees (node Kind.ExpressionStatement 20 (more (child (node Kind.AssignmentExpression 21 (more (string (codes "=")) (more (child (node Kind.IdentifierReference 22 (more (string (codes "_g")) end))) (more (child (node Kind.CallExpression 14 (more (child (node Kind.IdentifierReference 15 (more (string (codes "g")) end))) (more (list end) (more (boolean false) end))))) end))))) (more no_string end)) ∷ node Kind.ClassDeclaration 10 (more (child (node Kind.BindingIdentifier 11 (more (string (codes "A")) end))) (more absent (more (child (node Kind.ClassBody 12 (more (list (trees (node Kind.MethodDefinition 23 (more (child (node Kind.IdentifierName 24 (more (string (codes "constructor")) end))) (more (child (node Kind.FunctionExpression 25 (more absent (more (list end) (more (child (node Kind.BlockStatement 26 (more (list (trees (node Kind.ExpressionStatement 27 (more (child (node Kind.CallExpression 28 (more (child (node Kind.MemberExpression 29 (more (child (node Kind.IdentifierReference 30 (more (string (codes "babelHelpers")) end))) (more (child (node Kind.IdentifierName 31 (more (string (codes "defineProperty")) end))) (more (boolean false) (more (boolean false) end)))))) (more (list (trees (node Kind.ThisExpression 32 end ∷ node Kind.IdentifierReference 33 (more (string (codes "_g")) end) ∷ node Kind.Literal 16 (more (literal (literal_value.Number (codes "1"))) end) ∷ []))) (more (boolean false) end))))) (more no_string end)) ∷ []))) end))) (more (boolean false) (more (boolean false) end))))))) (more (string (codes "constructor")) (more (boolean false) (more (boolean false) end))))) ∷ []))) end))) end))) ∷ []))) end)) ∷ []))) end)) ∷ []))) end))

abbrev pub generated_let_of_another_case : List LedgerEntry
generated_let_of_another_case = record { name = codes "_g"; kind = GeneratedKind.Temp } ∷ []

abbrev pub options_let_of_another_case : Options
options_let_of_another_case = options_of false (Some (record { loose = false })) false
