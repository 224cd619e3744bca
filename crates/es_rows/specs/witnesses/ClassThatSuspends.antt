-- Printed by tools/rows/witnesses.js.
use Rattle.std.specs.Prelude.{ℕ, List, [], ◌∷◌, true, false, codes, None}
use Rattle.es_base.specs.Tree.{Tree, end, more, child, absent, list, string, no_string, boolean, literal, trees}
use Rattle.es_base.specs.declared.kind.Kind.{Kind}
use Rattle.es_base.specs.declared.ledger.GeneratedKind.{GeneratedKind}
use Rattle.es_base.specs.declared.ledger.LedgerEntry.{LedgerEntry}
use Rattle.es_base.specs.declared.literal.LiteralValue.TheVariants as literal_value
use Rattle.es_steps.specs.Generated.{node}
use Rattle.es_steps.specs.Options.{options_of}
use Rattle.es_steps.specs.declared.options.Options.{Options}

-- `function* g() { class A { [yield 1] = class { static { a; } }; } }`
abbrev pub source_class_that_suspends : Tree
source_class_that_suspends = node Kind.Program 0 (more (string (codes "script")) (more (list (trees (node Kind.FunctionDeclaration 1 (more (child (node Kind.BindingIdentifier 2 (more (string (codes "g")) end))) (more (list end) (more (child (node Kind.BlockStatement 3 (more (list (trees (node Kind.ClassDeclaration 4 (more (child (node Kind.BindingIdentifier 5 (more (string (codes "A")) end))) (more absent (more (child (node Kind.ClassBody 6 (more (list (trees (node Kind.PropertyDefinition 7 (more (child (node Kind.YieldExpression 8 (more (child (node Kind.Literal 9 (more (literal (literal_value.Number (codes "1"))) end))) (more (boolean false) end)))) (more (child (node Kind.ClassExpression 10 (more absent (more absent (more (child (node Kind.ClassBody 11 (more (list (trees (node Kind.StaticBlock 12 (more (list (trees (node Kind.ExpressionStatement 13 (more (child (node Kind.IdentifierReference 14 (more (string (codes "a")) end))) (more no_string end)) ∷ []))) end) ∷ []))) end))) end))))) (more (boolean true) (more (boolean false) end)))) ∷ []))) end))) end))) ∷ []))) end))) (more (boolean false) (more (boolean true) end))))) ∷ []))) end))

-- a class that suspends in the key of a field, whose value is a class with a static block, which has a private name of that spelling, as `function* g() { let _key; let A = class A { static #_ = _key; [_key = B.toPropertyKey(yield 1)] = (() => { var _staticBlock; return (({ [A.#_]: class { static #_ = _staticBlock = () => (a, this); } })[A.#_], _staticBlock()); })(); }; }` means
abbrev pub output_class_that_suspends : Tree
output_class_that_suspends = node Kind.Program 0 (more (string (codes "script")) (more (list (trees (node Kind.FunctionDeclaration 1 (more (child (node Kind.BindingIdentifier 2 (more (string (codes "g")) end))) (more (list end) (more (child (node Kind.BlockStatement 3 (more (list (trees (node Kind.VariableDeclaration 15 (more (string (codes "let")) (more (list (trees (node Kind.VariableDeclarator 16 (more (child (node Kind.BindingIdentifier 17 (more (string (codes "_key")) end))) (more absent end)) ∷ []))) end)) ∷ node Kind.VariableDeclaration 18 (more (string (codes "let")) (more (list (trees (node Kind.VariableDeclarator 19 (more (child (node Kind.BindingIdentifier 5 (more (string (codes "A")) end))) (more (child (node Kind.ClassExpression 4 (more (child (node Kind.BindingIdentifier 20 (more (string (codes "A")) end))) (more absent (more (child (node Kind.ClassBody 6 (more (list (trees (node Kind.PropertyDefinition 21 (more (child (node Kind.PrivateIdentifier 22 (more (string (codes "_")) end))) (more (child (node Kind.IdentifierReference 23 (more (string (codes "_key")) end))) (more (boolean false) (more (boolean true) end)))) ∷ node Kind.PropertyDefinition 7 (more (child (node Kind.AssignmentExpression 24 (more (string (codes "=")) (more (child (node Kind.IdentifierReference 25 (more (string (codes "_key")) end))) (more (child (node Kind.CallExpression 26 (more (child (node Kind.MemberExpression 27 (more (child (node Kind.IdentifierReference 28 (more (string (codes "babelHelpers")) end))) (more (child (node Kind.IdentifierName 29 (more (string (codes "toPropertyKey")) end))) (more (boolean false) (more (boolean false) end)))))) (more (list (trees (node Kind.YieldExpression 8 (more (child (node Kind.Literal 9 (more (literal (literal_value.Number (codes "1"))) end))) (more (boolean false) end)) ∷ []))) (more (boolean false) end))))) end))))) (more (child (node Kind.CallExpression 30 (more (child (node Kind.ArrowFunctionExpression 31 (more (list end) (more (child (node Kind.BlockStatement 32 (more (list (trees (node Kind.VariableDeclaration 33 (more (string (codes "var")) (more (list (trees (node Kind.VariableDeclarator 34 (more (child (node Kind.BindingIdentifier 35 (more (string (codes "_staticBlock")) end))) (more absent end)) ∷ []))) end)) ∷ node Kind.ReturnStatement 36 (more (child (node Kind.SequenceExpression 37 (more (list (trees (node Kind.MemberExpression 38 (more (child (node Kind.ObjectExpression 39 (more (list (trees (node Kind.Property 40 (more (child (node Kind.PrivateField 41 (more (child (node Kind.IdentifierReference 42 (more (string (codes "A")) end))) (more (child (node Kind.PrivateIdentifier 43 (more (string (codes "_")) end))) (more (boolean false) (more (boolean false) end)))))) (more (child (node Kind.ClassExpression 10 (more absent (more absent (more (child (node Kind.ClassBody 11 (more (list (trees (node Kind.PropertyDefinition 44 (more (child (node Kind.PrivateIdentifier 45 (more (string (codes "_")) end))) (more (child (node Kind.AssignmentExpression 46 (more (string (codes "=")) (more (child (node Kind.IdentifierReference 47 (more (string (codes "_staticBlock")) end))) (more (child (node Kind.ArrowFunctionExpression 48 (more (list end) (more (child (node Kind.SequenceExpression 49 (more (list (trees (node Kind.IdentifierReference 14 (more (string (codes "a")) end) ∷ node Kind.ThisExpression 50 end ∷ []))) end))) (more (boolean false) end))))) end))))) (more (boolean false) (more (boolean true) end)))) ∷ []))) end))) end))))) (more (string (codes "init")) (more (boolean false) (more (boolean false) (more (boolean true) end)))))) ∷ []))) end))) (more (child (node Kind.PrivateField 51 (more (child (node Kind.IdentifierReference 52 (more (string (codes "A")) end))) (more (child (node Kind.PrivateIdentifier 53 (more (string (codes "_")) end))) (more (boolean false) (more (boolean false) end)))))) (more (boolean true) (more (boolean false) end)))) ∷ node Kind.CallExpression 54 (more (child (node Kind.IdentifierReference 55 (more (string (codes "_staticBlock")) end))) (more (list end) (more (boolean false) end))) ∷ []))) end))) end) ∷ []))) end))) (more (boolean false) end))))) (more (list end) (more (boolean false) end))))) (more (boolean true) (more (boolean false) end)))) ∷ []))) end))) end))))) end)) ∷ []))) end)) ∷ []))) end))) (more (boolean false) (more (boolean true) end))))) ∷ []))) end))

abbrev pub generated_class_that_suspends : List LedgerEntry
generated_class_that_suspends = record { name = codes "_key"; kind = GeneratedKind.Temp } ∷ record { name = codes "_staticBlock"; kind = GeneratedKind.Closure } ∷ record { name = codes "_"; kind = GeneratedKind.Private (record { 0 = 4 }) } ∷ record { name = codes "_"; kind = GeneratedKind.Private (record { 0 = 10 }) } ∷ []

abbrev pub options_class_that_suspends : Options
options_class_that_suspends = options_of true None false
