-- Printed by tools/rows/witnesses.js.
use Rattle.std.specs.Prelude.{ℕ, List, [], ◌∷◌, true, false, codes, Some, None}
use Rattle.es_base.specs.Tree.{Tree, end, more, child, absent, list, string, no_string, boolean, literal, trees}
use Rattle.es_base.specs.declared.kind.Kind.{Kind}
use Rattle.es_base.specs.declared.ledger.GeneratedKind.{GeneratedKind}
use Rattle.es_base.specs.declared.ledger.LedgerEntry.{LedgerEntry}
use Rattle.es_base.specs.declared.literal.LiteralValue.TheVariants as literal_value
use Rattle.es_steps.specs.Generated.{node}
use Rattle.es_steps.specs.Options.{options_of}
use Rattle.es_steps.specs.declared.options.Options.{Options}

-- `h(class C { static s = [g(() => C)]; });`
abbrev pub source_arrow_that_an_assignment_hands_on : Tree
source_arrow_that_an_assignment_hands_on = node Kind.Program 0 (more (string (codes "script")) (more (list (trees (node Kind.ExpressionStatement 1 (more (child (node Kind.CallExpression 2 (more (child (node Kind.IdentifierReference 3 (more (string (codes "h")) end))) (more (list (trees (node Kind.ClassExpression 4 (more (child (node Kind.BindingIdentifier 5 (more (string (codes "C")) end))) (more absent (more (child (node Kind.ClassBody 6 (more (list (trees (node Kind.PropertyDefinition 7 (more (child (node Kind.IdentifierName 8 (more (string (codes "s")) end))) (more (child (node Kind.ArrayExpression 9 (more (list (trees (node Kind.CallExpression 10 (more (child (node Kind.IdentifierReference 11 (more (string (codes "g")) end))) (more (list (trees (node Kind.ArrowFunctionExpression 12 (more (list end) (more (child (node Kind.IdentifierReference 13 (more (string (codes "C")) end))) (more (boolean false) end))) ∷ []))) (more (boolean false) end))) ∷ []))) end))) (more (boolean false) (more (boolean true) end)))) ∷ []))) end))) end))) ∷ []))) (more (boolean false) end))))) (more no_string end)) ∷ []))) end))

-- an arrow in front of the class that it names, as the value of an assignment of a temporary: `var _C, _t, _u; h((_t = g(_u = () => _C), _C = class C {}, B.defineProperty(_C, "s", [_t]), _C));`
abbrev pub output_arrow_that_an_assignment_hands_on : Tree
output_arrow_that_an_assignment_hands_on = node Kind.Program 0 (more (string (codes "script")) (more (list (trees (node Kind.VariableDeclaration 14 (more (string (codes "var")) (more (list (trees (node Kind.VariableDeclarator 15 (more (child (node Kind.BindingIdentifier 16 (more (string (codes "_C")) end))) (more absent end)) ∷ node Kind.VariableDeclarator 17 (more (child (node Kind.BindingIdentifier 18 (more (string (codes "_t")) end))) (more absent end)) ∷ node Kind.VariableDeclarator 19 (more (child (node Kind.BindingIdentifier 20 (more (string (codes "_u")) end))) (more absent end)) ∷ []))) end)) ∷ node Kind.ExpressionStatement 1 (more (child (node Kind.CallExpression 2 (more (child (node Kind.IdentifierReference 3 (more (string (codes "h")) end))) (more (list (trees (node Kind.SequenceExpression 21 (more (list (trees (node Kind.AssignmentExpression 22 (more (string (codes "=")) (more (child (node Kind.IdentifierReference 23 (more (string (codes "_t")) end))) (more (child (node Kind.CallExpression 10 (more (child (node Kind.IdentifierReference 11 (more (string (codes "g")) end))) (more (list (trees (node Kind.AssignmentExpression 24 (more (string (codes "=")) (more (child (node Kind.IdentifierReference 25 (more (string (codes "_u")) end))) (more (child (node Kind.ArrowFunctionExpression 12 (more (list end) (more (child (node Kind.IdentifierReference 26 (more (string (codes "_C")) end))) (more (boolean false) end))))) end))) ∷ []))) (more (boolean false) end))))) end))) ∷ node Kind.AssignmentExpression 27 (more (string (codes "=")) (more (child (node Kind.IdentifierReference 28 (more (string (codes "_C")) end))) (more (child (node Kind.ClassExpression 4 (more (child (node Kind.BindingIdentifier 5 (more (string (codes "C")) end))) (more absent (more (child (node Kind.ClassBody 6 (more (list end) end))) end))))) end))) ∷ node Kind.CallExpression 29 (more (child (node Kind.MemberExpression 30 (more (child (node Kind.IdentifierReference 31 (more (string (codes "babelHelpers")) end))) (more (child (node Kind.IdentifierName 32 (more (string (codes "defineProperty")) end))) (more (boolean false) (more (boolean false) end)))))) (more (list (trees (node Kind.IdentifierReference 33 (more (string (codes "_C")) end) ∷ node Kind.Literal 34 (more (literal (literal_value.String (codes "s") None)) end) ∷ node Kind.ArrayExpression 9 (more (list (trees (node Kind.IdentifierReference 35 (more (string (codes "_t")) end) ∷ []))) end) ∷ []))) (more (boolean false) end))) ∷ node Kind.IdentifierReference 36 (more (string (codes "_C")) end) ∷ []))) end) ∷ []))) (more (boolean false) end))))) (more no_string end)) ∷ []))) end))

abbrev pub generated_arrow_that_an_assignment_hands_on : List LedgerEntry
generated_arrow_that_an_assignment_hands_on = record { name = codes "_C"; kind = GeneratedKind.ClassTemp (record { 0 = 4 }) } ∷ record { name = codes "_t"; kind = GeneratedKind.Temp } ∷ record { name = codes "_u"; kind = GeneratedKind.Temp } ∷ []

abbrev pub options_arrow_that_an_assignment_hands_on : Options
options_arrow_that_an_assignment_hands_on = options_of false (Some (record { loose = false })) false
