-- Printed by tools/rows/witnesses.js.
use Rattle.std.specs.Prelude.{ℕ, List, [], ◌∷◌, true, false, codes, Some}
use Rattle.es_base.specs.Tree.{Tree, end, more, child, absent, list, string, no_string, boolean, literal, trees}
use Rattle.es_base.specs.declared.kind.Kind.{Kind}
use Rattle.es_base.specs.declared.ledger.GeneratedKind.{GeneratedKind}
use Rattle.es_base.specs.declared.ledger.LedgerEntry.{LedgerEntry}
use Rattle.es_base.specs.declared.literal.LiteralValue.TheVariants as literal_value
use Rattle.es_steps.specs.Generated.{node}
use Rattle.es_steps.specs.Options.{options_of}
use Rattle.es_steps.specs.declared.options.Options.{Options}

-- `g({ m() { return (super.x += 1, class { #p; [k()]() {} }); } });`
abbrev pub source_super_addition_that_becomes_strict : Tree
source_super_addition_that_becomes_strict = node Kind.Program 0 (more (string (codes "script")) (more (list (trees (node Kind.ExpressionStatement 1 (more (child (node Kind.CallExpression 2 (more (child (node Kind.IdentifierReference 3 (more (string (codes "g")) end))) (more (list (trees (node Kind.ObjectExpression 4 (more (list (trees (node Kind.Property 5 (more (child (node Kind.IdentifierName 6 (more (string (codes "m")) end))) (more (child (node Kind.FunctionExpression 7 (more absent (more (list end) (more (child (node Kind.BlockStatement 8 (more (list (trees (node Kind.ReturnStatement 9 (more (child (node Kind.SequenceExpression 10 (more (list (trees (node Kind.AssignmentExpression 11 (more (string (codes "+=")) (more (child (node Kind.MemberExpression 12 (more (child (node Kind.Super 13 end)) (more (child (node Kind.IdentifierName 14 (more (string (codes "x")) end))) (more (boolean false) (more (boolean false) end)))))) (more (child (node Kind.Literal 15 (more (literal (literal_value.Number (codes "1"))) end))) end))) ∷ node Kind.ClassExpression 16 (more absent (more absent (more (child (node Kind.ClassBody 17 (more (list (trees (node Kind.PropertyDefinition 18 (more (child (node Kind.PrivateIdentifier 19 (more (string (codes "p")) end))) (more absent (more (boolean false) (more (boolean false) end)))) ∷ node Kind.MethodDefinition 20 (more (child (node Kind.CallExpression 21 (more (child (node Kind.IdentifierReference 22 (more (string (codes "k")) end))) (more (list end) (more (boolean false) end))))) (more (child (node Kind.FunctionExpression 23 (more absent (more (list end) (more (child (node Kind.BlockStatement 24 (more (list end) end))) (more (boolean false) (more (boolean false) end))))))) (more (string (codes "method")) (more (boolean true) (more (boolean false) end))))) ∷ []))) end))) end))) ∷ []))) end))) end) ∷ []))) end))) (more (boolean false) (more (boolean false) end))))))) (more (string (codes "init")) (more (boolean true) (more (boolean false) (more (boolean false) end)))))) ∷ []))) end) ∷ []))) (more (boolean false) end))))) (more no_string end)) ∷ []))) end))

-- the write of `super.x += 1` as a new assignment in a key, where code is strict: `g({ m() { var _p, _t; return (_t = super.x + 1, _p = new WeakMap(), class { constructor() { B.classPrivateFieldInitSpec(this, _p, void 0); } [(super.x = _t, k())]() {} }); } });`
abbrev pub output_super_addition_that_becomes_strict : Tree
output_super_addition_that_becomes_strict = node Kind.Program 0 (more (string (codes "script")) (more (list (trees (node Kind.ExpressionStatement 1 (more (child (node Kind.CallExpression 2 (more (child (node Kind.IdentifierReference 3 (more (string (codes "g")) end))) (more (list (trees (node Kind.ObjectExpression 4 (more (list (trees (node Kind.Property 5 (more (child (node Kind.IdentifierName 6 (more (string (codes "m")) end))) (more (child (node Kind.FunctionExpression 7 (more absent (more (list end) (more (child (node Kind.BlockStatement 8 (more (list (trees (node Kind.VariableDeclaration 25 (more (string (codes "var")) (more (list (trees (node Kind.VariableDeclarator 26 (more (child (node Kind.BindingIdentifier 27 (more (string (codes "_p")) end))) (more absent end)) ∷ node Kind.VariableDeclarator 28 (more (child (node Kind.BindingIdentifier 29 (more (string (codes "_t")) end))) (more absent end)) ∷ []))) end)) ∷ node Kind.ReturnStatement 9 (more (child (node Kind.SequenceExpression 10 (more (list (trees (node Kind.AssignmentExpression 30 (more (string (codes "=")) (more (child (node Kind.IdentifierReference 31 (more (string (codes "_t")) end))) (more (child (node Kind.BinaryExpression 11 (more (string (codes "+")) (more (child (node Kind.MemberExpression 12 (more (child (node Kind.Super 13 end)) (more (child (node Kind.IdentifierName 14 (more (string (codes "x")) end))) (more (boolean false) (more (boolean false) end)))))) (more (child (node Kind.Literal 15 (more (literal (literal_value.Number (codes "1"))) end))) end))))) end))) ∷ node Kind.AssignmentExpression 32 (more (string (codes "=")) (more (child (node Kind.IdentifierReference 33 (more (string (codes "_p")) end))) (more (child (node Kind.NewExpression 34 (more (child (node Kind.IdentifierReference 35 (more (string (codes "WeakMap")) end))) (more (list end) end)))) end))) ∷ node Kind.ClassExpression 16 (more absent (more absent (more (child (node Kind.ClassBody 17 (more (list (trees (node Kind.MethodDefinition 36 (more (child (node Kind.IdentifierName 37 (more (string (codes "constructor")) end))) (more (child (node Kind.FunctionExpression 38 (more absent (more (list end) (more (child (node Kind.BlockStatement 39 (more (list (trees (node Kind.ExpressionStatement 40 (more (child (node Kind.CallExpression 41 (more (child (node Kind.MemberExpression 42 (more (child (node Kind.IdentifierReference 43 (more (string (codes "babelHelpers")) end))) (more (child (node Kind.IdentifierName 44 (more (string (codes "classPrivateFieldInitSpec")) end))) (more (boolean false) (more (boolean false) end)))))) (more (list (trees (node Kind.ThisExpression 45 end ∷ node Kind.IdentifierReference 46 (more (string (codes "_p")) end) ∷ node Kind.UnaryExpression 47 (more (string (codes "void")) (more (child (node Kind.Literal 48 (more (literal (literal_value.Number (codes "0"))) end))) end)) ∷ []))) (more (boolean false) end))))) (more no_string end)) ∷ []))) end))) (more (boolean false) (more (boolean false) end))))))) (more (string (codes "constructor")) (more (boolean false) (more (boolean false) end))))) ∷ node Kind.MethodDefinition 20 (more (child (node Kind.SequenceExpression 49 (more (list (trees (node Kind.AssignmentExpression 50 (more (string (codes "=")) (more (child (node Kind.MemberExpression 51 (more (child (node Kind.Super 52 end)) (more (child (node Kind.IdentifierName 53 (more (string (codes "x")) end))) (more (boolean false) (more (boolean false) end)))))) (more (child (node Kind.IdentifierReference 54 (more (string (codes "_t")) end))) end))) ∷ node Kind.CallExpression 21 (more (child (node Kind.IdentifierReference 22 (more (string (codes "k")) end))) (more (list end) (more (boolean false) end))) ∷ []))) end))) (more (child (node Kind.FunctionExpression 23 (more absent (more (list end) (more (child (node Kind.BlockStatement 24 (more (list end) end))) (more (boolean false) (more (boolean false) end))))))) (more (string (codes "method")) (more (boolean true) (more (boolean false) end))))) ∷ []))) end))) end))) ∷ []))) end))) end) ∷ []))) end))) (more (boolean false) (more (boolean false) end))))))) (more (string (codes "init")) (more (boolean true) (more (boolean false) (more (boolean false) end)))))) ∷ []))) end) ∷ []))) (more (boolean false) end))))) (more no_string end)) ∷ []))) end))

abbrev pub generated_super_addition_that_becomes_strict : List LedgerEntry
generated_super_addition_that_becomes_strict = record { name = codes "_p"; kind = GeneratedKind.WeakMap (record { 0 = 19 }) } ∷ record { name = codes "_t"; kind = GeneratedKind.Temp } ∷ []

abbrev pub options_super_addition_that_becomes_strict : Options
options_super_addition_that_becomes_strict = options_of false (Some (record { loose = false })) false
