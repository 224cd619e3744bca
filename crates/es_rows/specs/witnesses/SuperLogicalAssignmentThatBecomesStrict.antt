-- Printed by tools/rows/witnesses.js.
use Rattle.std.specs.Prelude.{ℕ, List, [], ◌∷◌, true, false, codes, Some}
use Rattle.es_base.specs.Tree.{Tree, end, more, child, absent, list, string, no_string, boolean, literal, trees}
use Rattle.es_base.specs.declared.kind.Kind.{Kind}
use Rattle.es_base.specs.declared.ledger.GeneratedKind.{GeneratedKind}
use Rattle.es_base.specs.declared.ledger.LedgerEntry.{LedgerEntry}
use Rattle.es_base.specs.declared.literal.LiteralValue.TheVariants as literal_value
use Rattle.es_steps.specs.Generated.{node}
use Rattle.es_steps.specs.Options.{options_of}
use Rattle.es_steps.specs.declared.options.Options.{Options}

-- `g({ m() { return (super.x ||= (class { #p; [k()]() {} }, 5)); } });`
abbrev pub source_super_logical_assignment_that_becomes_strict : Tree
source_super_logical_assignment_that_becomes_strict = node Kind.Program 0 (more (string (codes "script")) (more (list (trees (node Kind.ExpressionStatement 1 (more (child (node Kind.CallExpression 2 (more (child (node Kind.IdentifierReference 3 (more (string (codes "g")) end))) (more (list (trees (node Kind.ObjectExpression 4 (more (list (trees (node Kind.Property 5 (more (child (node Kind.IdentifierName 6 (more (string (codes "m")) end))) (more (child (node Kind.FunctionExpression 7 (more absent (more (list end) (more (child (node Kind.BlockStatement 8 (more (list (trees (node Kind.ReturnStatement 9 (more (child (node Kind.AssignmentExpression 10 (more (string (codes "||=")) (more (child (node Kind.MemberExpression 11 (more (child (node Kind.Super 12 end)) (more (child (node Kind.IdentifierName 13 (more (string (codes "x")) end))) (more (boolean false) (more (boolean false) end)))))) (more (child (node Kind.SequenceExpression 14 (more (list (trees (node Kind.ClassExpression 15 (more absent (more absent (more (child (node Kind.ClassBody 16 (more (list (trees (node Kind.PropertyDefinition 17 (more (child (node Kind.PrivateIdentifier 18 (more (string (codes "p")) end))) (more absent (more (boolean false) (more (boolean false) end)))) ∷ node Kind.MethodDefinition 19 (more (child (node Kind.CallExpression 20 (more (child (node Kind.IdentifierReference 21 (more (string (codes "k")) end))) (more (list end) (more (boolean false) end))))) (more (child (node Kind.FunctionExpression 22 (more absent (more (list end) (more (child (node Kind.BlockStatement 23 (more (list end) end))) (more (boolean false) (more (boolean false) end))))))) (more (string (codes "method")) (more (boolean true) (more (boolean false) end))))) ∷ []))) end))) end))) ∷ node Kind.Literal 24 (more (literal (literal_value.Number (codes "5"))) end) ∷ []))) end))) end))))) end) ∷ []))) end))) (more (boolean false) (more (boolean false) end))))))) (more (string (codes "init")) (more (boolean true) (more (boolean false) (more (boolean false) end)))))) ∷ []))) end) ∷ []))) (more (boolean false) end))))) (more no_string end)) ∷ []))) end))

-- the write of `super.x ||= v` as a new assignment in a key, where code is strict: `g({ m() { var _p, _t; return (super.x || (_p = new WeakMap(), class { constructor() { B.classPrivateFieldInitSpec(this, _p, void 0); } [(_t = k(), super.x = 5, _t)]() {} }, 5)); } });`
abbrev pub output_super_logical_assignment_that_becomes_strict : Tree
output_super_logical_assignment_that_becomes_strict = node Kind.Program 0 (more (string (codes "script")) (more (list (trees (node Kind.ExpressionStatement 1 (more (child (node Kind.CallExpression 2 (more (child (node Kind.IdentifierReference 3 (more (string (codes "g")) end))) (more (list (trees (node Kind.ObjectExpression 4 (more (list (trees (node Kind.Property 5 (more (child (node Kind.IdentifierName 6 (more (string (codes "m")) end))) (more (child (node Kind.FunctionExpression 7 (more absent (more (list end) (more (child (node Kind.BlockStatement 8 (more (list (trees (node Kind.VariableDeclaration 25 (more (string (codes "var")) (more (list (trees (node Kind.VariableDeclarator 26 (more (child (node Kind.BindingIdentifier 27 (more (string (codes "_p")) end))) (more absent end)) ∷ node Kind.VariableDeclarator 28 (more (child (node Kind.BindingIdentifier 29 (more (string (codes "_t")) end))) (more absent end)) ∷ []))) end)) ∷ node Kind.ReturnStatement 9 (more (child (node Kind.LogicalExpression 10 (more (string (codes "||")) (more (child (node Kind.MemberExpression 11 (more (child (node Kind.Super 12 end)) (more (child (node Kind.IdentifierName 13 (more (string (codes "x")) end))) (more (boolean false) (more (boolean false) end)))))) (more (child (node Kind.SequenceExpression 14 (more (list (trees (node Kind.AssignmentExpression 30 (more (string (codes "=")) (more (child (node Kind.IdentifierReference 31 (more (string (codes "_p")) end))) (more (child (node Kind.NewExpression 32 (more (child (node Kind.IdentifierReference 33 (more (string (codes "WeakMap")) end))) (more (list end) end)))) end))) ∷ node Kind.ClassExpression 15 (more absent (more absent (more (child (node Kind.ClassBody 16 (more (list (trees (node Kind.MethodDefinition 34 (more (child (node Kind.IdentifierName 35 (more (string (codes "constructor")) end))) (more (child (node Kind.FunctionExpression 36 (more absent (more (list end) (more (child (node Kind.BlockStatement 37 (more (list (trees (node Kind.ExpressionStatement 38 (more (child (node Kind.CallExpression 39 (more (child (node Kind.MemberExpression 40 (more (child (node Kind.IdentifierReference 41 (more (string (codes "babelHelpers")) end))) (more (child (node Kind.IdentifierName 42 (more (string (codes "classPrivateFieldInitSpec")) end))) (more (boolean false) (more (boolean false) end)))))) (more (list (trees (node Kind.ThisExpression 43 end ∷ node Kind.IdentifierReference 44 (more (string (codes "_p")) end) ∷ node Kind.UnaryExpression 45 (more (string (codes "void")) (more (child (node Kind.Literal 46 (more (literal (literal_value.Number (codes "0"))) end))) end)) ∷ []))) (more (boolean false) end))))) (more no_string end)) ∷ []))) end))) (more (boolean false) (more (boolean false) end))))))) (more (string (codes "constructor")) (more (boolean false) (more (boolean false) end))))) ∷ node Kind.MethodDefinition 19 (more (child (node Kind.SequenceExpression 47 (more (list (trees (node Kind.AssignmentExpression 48 (more (string (codes "=")) (more (child (node Kind.IdentifierReference 49 (more (string (codes "_t")) end))) (more (child (node Kind.CallExpression 20 (more (child (node Kind.IdentifierReference 21 (more (string (codes "k")) end))) (more (list end) (more (boolean false) end))))) end))) ∷ node Kind.AssignmentExpression 50 (more (string (codes "=")) (more (child (node Kind.MemberExpression 51 (more (child (node Kind.Super 52 end)) (more (child (node Kind.IdentifierName 53 (more (string (codes "x")) end))) (more (boolean false) (more (boolean false) end)))))) (more (child (node Kind.Literal 54 (more (literal (literal_value.Number (codes "5"))) end))) end))) ∷ node Kind.IdentifierReference 55 (more (string (codes "_t")) end) ∷ []))) end))) (more (child (node Kind.FunctionExpression 22 (more absent (more (list end) (more (child (node Kind.BlockStatement 23 (more (list end) end))) (more (boolean false) (more (boolean false) end))))))) (more (string (codes "method")) (more (boolean true) (more (boolean false) end))))) ∷ []))) end))) end))) ∷ node Kind.Literal 24 (more (literal (literal_value.Number (codes "5"))) end) ∷ []))) end))) end))))) end) ∷ []))) end))) (more (boolean false) (more (boolean false) end))))))) (more (string (codes "init")) (more (boolean true) (more (boolean false) (more (boolean false) end)))))) ∷ []))) end) ∷ []))) (more (boolean false) end))))) (more no_string end)) ∷ []))) end))

abbrev pub generated_super_logical_assignment_that_becomes_strict : List LedgerEntry
generated_super_logical_assignment_that_becomes_strict = record { name = codes "_p"; kind = GeneratedKind.WeakMap (record { 0 = 18 }) } ∷ record { name = codes "_t"; kind = GeneratedKind.Temp } ∷ []

abbrev pub options_super_logical_assignment_that_becomes_strict : Options
options_super_logical_assignment_that_becomes_strict = options_of false (Some (record { loose = false })) false
