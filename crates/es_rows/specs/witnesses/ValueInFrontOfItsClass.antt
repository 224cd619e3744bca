-- Printed by tools/rows/witnesses.js.
use Rattle.std.specs.Prelude.{ℕ, List, [], ◌∷◌, true, false, codes, Some, None}
use Rattle.es_base.specs.Tree.{Tree, end, more, child, absent, list, string, no_string, boolean, literal, trees}
use Rattle.es_base.specs.declared.kind.Kind.{Kind}
use Rattle.es_base.specs.declared.ledger.GeneratedKind.{GeneratedKind}
use Rattle.es_base.specs.declared.ledger.LedgerEntry.{LedgerEntry}
use Rattle.es_base.specs.declared.literal.LiteralValue.TheVariants as literal_value
use Rattle.es_steps.specs.Generated.{node}
use Rattle.es_steps.specs.Options.{options_of}
use Rattle.es_steps.specs.declared.options.Options.{Options}

-- `f((class C { static x = [(() => C)()]; }).x[0] === undefined);`
abbrev pub source_value_in_front_of_its_class : Tree
source_value_in_front_of_its_class = node Kind.Program 0 (more (string (codes "script")) (more (list (trees (node Kind.ExpressionStatement 1 (more (child (node Kind.CallExpression 2 (more (child (node Kind.IdentifierReference 3 (more (string (codes "f")) end))) (more (list (trees (node Kind.BinaryExpression 4 (more (string (codes "===")) (more (child (node Kind.MemberExpression 5 (more (child (node Kind.MemberExpression 6 (more (child (node Kind.ClassExpression 7 (more (child (node Kind.BindingIdentifier 8 (more (string (codes "C")) end))) (more absent (more (child (node Kind.ClassBody 9 (more (list (trees (node Kind.PropertyDefinition 10 (more (child (node Kind.IdentifierName 11 (more (string (codes "x")) end))) (more (child (node Kind.ArrayExpression 12 (more (list (trees (node Kind.CallExpression 13 (more (child (node Kind.ArrowFunctionExpression 14 (more (list end) (more (child (node Kind.IdentifierReference 15 (more (string (codes "C")) end))) (more (boolean false) end))))) (more (list end) (more (boolean false) end))) ∷ []))) end))) (more (boolean false) (more (boolean true) end)))) ∷ []))) end))) end))))) (more (child (node Kind.IdentifierName 16 (more (string (codes "x")) end))) (more (boolean false) (more (boolean false) end)))))) (more (child (node Kind.Literal 17 (more (literal (literal_value.Number (codes "0"))) end))) (more (boolean true) (more (boolean false) end)))))) (more (child (node Kind.IdentifierReference 18 (more (string (codes "undefined")) end))) end))) ∷ []))) (more (boolean false) end))))) (more no_string end)) ∷ []))) end))

-- a part of the value of a static field in front of the class, whose generated name an arrow in it reads: `var _C, _t; f((_t = (() => _C)(), _C = class C {}, B.defineProperty(_C, "x", [_t]), _C).x[0] === undefined);`
abbrev pub output_value_in_front_of_its_class : Tree
output_value_in_front_of_its_class = node Kind.Program 0 (more (string (codes "script")) (more (list (trees (node Kind.VariableDeclaration 19 (more (string (codes "var")) (more (list (trees (node Kind.VariableDeclarator 20 (more (child (node Kind.BindingIdentifier 21 (more (string (codes "_C")) end))) (more absent end)) ∷ node Kind.VariableDeclarator 22 (more (child (node Kind.BindingIdentifier 23 (more (string (codes "_t")) end))) (more absent end)) ∷ []))) end)) ∷ node Kind.ExpressionStatement 1 (more (child (node Kind.CallExpression 2 (more (child (node Kind.IdentifierReference 3 (more (string (codes "f")) end))) (more (list (trees (node Kind.BinaryExpression 4 (more (string (codes "===")) (more (child (node Kind.MemberExpression 5 (more (child (node Kind.MemberExpression 6 (more (child (node Kind.SequenceExpression 24 (more (list (trees (node Kind.AssignmentExpression 25 (more (string (codes "=")) (more (child (node Kind.IdentifierReference 26 (more (string (codes "_t")) end))) (more (child (node Kind.CallExpression 13 (more (child (node Kind.ArrowFunctionExpression 14 (more (list end) (more (child (node Kind.IdentifierReference 27 (more (string (codes "_C")) end))) (more (boolean false) end))))) (more (list end) (more (boolean false) end))))) end))) ∷ node Kind.AssignmentExpression 28 (more (string (codes "=")) (more (child (node Kind.IdentifierReference 29 (more (string (codes "_C")) end))) (more (child (node Kind.ClassExpression 7 (more (child (node Kind.BindingIdentifier 8 (more (string (codes "C")) end))) (more absent (more (child (node Kind.ClassBody 9 (more (list end) end))) end))))) end))) ∷ node Kind.CallExpression 30 (more (child (node Kind.MemberExpression 31 (more (child (node Kind.IdentifierReference 32 (more (string (codes "babelHelpers")) end))) (more (child (node Kind.IdentifierName 33 (more (string (codes "defineProperty")) end))) (more (boolean false) (more (boolean false) end)))))) (more (list (trees (node Kind.IdentifierReference 34 (more (string (codes "_C")) end) ∷ node Kind.Literal 35 (more (literal (literal_value.String (codes "x") None)) end) ∷ node Kind.ArrayExpression 12 (more (list (trees (node Kind.IdentifierReference 36 (more (string (codes "_t")) end) ∷ []))) end) ∷ []))) (more (boolean false) end))) ∷ node Kind.IdentifierReference 37 (more (string (codes "_C")) end) ∷ []))) end))) (more (child (node Kind.IdentifierName 11 (more (string (codes "x")) end))) (more (boolean false) (more (boolean false) end)))))) (more (child (node Kind.Literal 17 (more (literal (literal_value.Number (codes "0"))) end))) (more (boolean true) (more (boolean false) end)))))) (more (child (node Kind.IdentifierReference 18 (more (string (codes "undefined")) end))) end))) ∷ []))) (more (boolean false) end))))) (more no_string end)) ∷ []))) end))

abbrev pub generated_value_in_front_of_its_class : List LedgerEntry
generated_value_in_front_of_its_class = record { name = codes "_C"; kind = GeneratedKind.ClassTemp (record { 0 = 7 }) } ∷ record { name = codes "_t"; kind = GeneratedKind.Temp } ∷ []

abbrev pub options_value_in_front_of_its_class : Options
options_value_in_front_of_its_class = options_of false (Some (record { loose = false })) false
