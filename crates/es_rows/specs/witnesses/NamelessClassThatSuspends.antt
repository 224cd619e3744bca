-- Printed by tools/rows/witnesses.js.
use Rattle.std.specs.Prelude.{ℕ, List, [], ◌∷◌, true, false, codes, None}
use Rattle.es_base.specs.Tree.{Tree, end, more, child, absent, list, string, no_string, boolean, literal, trees}
use Rattle.es_base.specs.declared.kind.Kind.{Kind}
use Rattle.es_base.specs.declared.ledger.GeneratedKind.{GeneratedKind}
use Rattle.es_base.specs.declared.ledger.LedgerEntry.{LedgerEntry}
use Rattle.es_base.specs.declared.literal.LiteralValue.TheVariants as literal_value
use Rattle.es_steps.specs.Generated.{node}
use Rattle.es_steps.specs.Options.{options_of}
use Rattle.es_steps.specs.declared.options.Options.{Options}

-- `function* g() { return class { [yield 1] = class { static { a; } }; }; }`
abbrev pub source_nameless_class_that_suspends : Tree
source_nameless_class_that_suspends = node Kind.Program 0 (more (string (codes "script")) (more (list (trees (node Kind.FunctionDeclaration 1 (more (child (node Kind.BindingIdentifier 2 (more (string (codes "g")) end))) (more (list end) (more (child (node Kind.BlockStatement 3 (more (list (trees (node Kind.ReturnStatement 4 (more (child (node Kind.ClassExpression 5 (more absent (more absent (more (child (node Kind.ClassBody 6 (more (list (trees (node Kind.PropertyDefinition 7 (more (child (node Kind.YieldExpression 8 (more (child (node Kind.Literal 9 (more (literal (literal_value.Number (codes "1"))) end))) (more (boolean false) end)))) (more (child (node Kind.ClassExpression 10 (more absent (more absent (more (child (node Kind.ClassBody 11 (more (list (trees (node Kind.StaticBlock 12 (more (list (trees (node Kind.ExpressionStatement 13 (more (child (node Kind.IdentifierReference 14 (more (string (codes "a")) end))) (more no_string end)) ∷ []))) end) ∷ []))) end))) end))))) (more (boolean true) (more (boolean false) end)))) ∷ []))) end))) end))))) end) ∷ []))) end))) (more (boolean false) (more (boolean true) end))))) ∷ []))) end))

-- a class that suspends and has a generated own name, which a static element names it by, as `function* g() { let _key; return class _Class { static #_ = (B.setFunctionName(this, ""), _key); [_key = B.toPropertyKey(yield 1)] = (() => { var _staticBlock; return (({ [_Class.#_]: class { static #_ = _staticBlock = () => (a, this); } })[_Class.#_], _staticBlock()); })(); }; }` means
abbrev pub output_nameless_class_that_suspends : Tree
output_nameless_class_that_suspends = node Kind.Program 0 (more (string (codes "script")) (more (list (trees (node Kind.FunctionDeclaration 1 (more (child (node Kind.BindingIdentifier 2 (more (string (codes "g")) end))) (more (list end) (more (child (node Kind.BlockStatement 3 (more (list (trees (node Kind.VariableDeclaration 15 (more (string (codes "let")) (more (list (trees (node Kind.VariableDeclarator 16 (more (child (node Kind.BindingIdentifier 17 (more (string (codes "_key")) end))) (more absent end)) ∷ []))) end)) ∷ node Kind.ReturnStatement 4 (more (child (node Kind.ClassExpression 5 (more (child (node Kind.BindingIdentifier 18 (more (string (codes "_Class")) end))) (more absent (more (child (node Kind.ClassBody 6 (more (list (trees (node Kind.PropertyDefinition 19 (more (child (node Kind.PrivateIdentifier 20 (more (string (codes "_")) end))) (more (child (node Kind.SequenceExpression 21 (more (list (trees (node Kind.CallExpression 22 (more (child (node Kind.MemberExpression 23 (more (child (node Kind.IdentifierReference 24 (more (string (codes "babelHelpers")) end))) (more (child (node Kind.IdentifierName 25 (more (string (codes "setFunctionName")) end))) (more (boolean false) (more (boolean false) end)))))) (more (list (trees (node Kind.ThisExpression 26 end ∷ node Kind.Literal 27 (more (literal (literal_value.String (codes "") None)) end) ∷ []))) (more (boolean false) end))) ∷ node Kind.IdentifierReference 28 (more (string (codes "_key")) end) ∷ []))) end))) (more (boolean false) (more (boolean true) end)))) ∷ node Kind.PropertyDefinition 7 (more (child (node Kind.AssignmentExpression 29 (more (string (codes "=")) (more (child (node Kind.IdentifierReference 30 (more (string (codes "_key")) end))) (more (child (node Kind.CallExpression 31 (more (child (node Kind.MemberExpression 32 (more (child (node Kind.IdentifierReference 33 (more (string (codes "babelHelpers")) end))) (more (child (node Kind.IdentifierName 34 (more (string (codes "toPropertyKey")) end))) (more (boolean false) (more (boolean false) end)))))) (more (list (trees (node Kind.YieldExpression 8 (more (child (node Kind.Literal 9 (more (literal (literal_value.Number (codes "1"))) end))) (more (boolean false) end)) ∷ []))) (more (boolean false) end))))) end))))) (more (child (node Kind.CallExpression 35 (more (child (node Kind.ArrowFunctionExpression 36 (more (list end) (more (child (node Kind.BlockStatement 37 (more (list (trees (node Kind.VariableDeclaration 38 (more (string (codes "var")) (more (list (trees (node Kind.VariableDeclarator 39 (more (child (node Kind.BindingIdentifier 40 (more (string (codes "_staticBlock")) end))) (more absent end)) ∷ []))) end)) ∷ node Kind.ReturnStatement 41 (more (child (node Kind.SequenceExpression 42 (more (list (trees (node Kind.MemberExpression 43 (more (child (node Kind.ObjectExpression 44 (more (list (trees (node Kind.Property 45 (more (child (node Kind.PrivateField 46 (more (child (node Kind.IdentifierReference 47 (more (string (codes "_Class")) end))) (more (child (node Kind.PrivateIdentifier 48 (more (string (codes "_")) end))) (more (boolean false) (more (boolean false) end)))))) (more (child (node Kind.ClassExpression 10 (more absent (more absent (more (child (node Kind.ClassBody 11 (more (list (trees (node Kind.PropertyDefinition 49 (more (child (node Kind.PrivateIdentifier 50 (more (string (codes "_")) end))) (more (child (node Kind.AssignmentExpression 51 (more (string (codes "=")) (more (child (node Kind.IdentifierReference 52 (more (string (codes "_staticBlock")) end))) (more (child (node Kind.ArrowFunctionExpression 53 (more (list end) (more (child (node Kind.SequenceExpression 54 (more (list (trees (node Kind.IdentifierReference 14 (more (string (codes "a")) end) ∷ node Kind.ThisExpression 55 end ∷ []))) end))) (more (boolean false) end))))) end))))) (more (boolean false) (more (boolean true) end)))) ∷ []))) end))) end))))) (more (string (codes "init")) (more (boolean false) (more (boolean false) (more (boolean true) end)))))) ∷ []))) end))) (more (child (node Kind.PrivateField 56 (more (child (node Kind.IdentifierReference 57 (more (string (codes "_Class")) end))) (more (child (node Kind.PrivateIdentifier 58 (more (string (codes "_")) end))) (more (boolean false) (more (boolean false) end)))))) (more (boolean true) (more (boolean false) end)))) ∷ node Kind.CallExpression 59 (more (child (node Kind.IdentifierReference 60 (more (string (codes "_staticBlock")) end))) (more (list end) (more (boolean false) end))) ∷ []))) end))) end) ∷ []))) end))) (more (boolean false) end))))) (more (list end) (more (boolean false) end))))) (more (boolean true) (more (boolean false) end)))) ∷ []))) end))) end))))) end) ∷ []))) end))) (more (boolean false) (more (boolean true) end))))) ∷ []))) end))

abbrev pub generated_nameless_class_that_suspends : List LedgerEntry
generated_nameless_class_that_suspends = record { name = codes "_key"; kind = GeneratedKind.Temp } ∷ record { name = codes "_staticBlock"; kind = GeneratedKind.Closure } ∷ record { name = codes "_Class"; kind = GeneratedKind.ClassTemp (record { 0 = 5 }) } ∷ record { name = codes "_"; kind = GeneratedKind.Private (record { 0 = 5 }) } ∷ record { name = codes "_"; kind = GeneratedKind.Private (record { 0 = 10 }) } ∷ []

abbrev pub options_nameless_class_that_suspends : Options
options_nameless_class_that_suspends = options_of true None false
