-- Printed by tools/rows/witnesses.js.
use Rattle.std.specs.Prelude.{ℕ, List, [], ◌∷◌, false, codes, Some}
use Rattle.es_base.specs.Tree.{Tree, end, more, child, absent, list, string, no_string, boolean, literal, trees}
use Rattle.es_base.specs.declared.kind.Kind.{Kind}
use Rattle.es_base.specs.declared.ledger.GeneratedKind.{GeneratedKind}
use Rattle.es_base.specs.declared.ledger.LedgerEntry.{LedgerEntry}
use Rattle.es_base.specs.declared.literal.LiteralValue.TheVariants as literal_value
use Rattle.es_steps.specs.Generated.{node}
use Rattle.es_steps.specs.Options.{options_of}
use Rattle.es_steps.specs.declared.options.Options.{Options}

-- `class A { #x = 1; m() { const g = () => this.#x++; g(); } }`
abbrev pub source_let_behind_an_arrow : Tree
source_let_behind_an_arrow = node Kind.Program 0 (more (string (codes "script")) (more (list (trees (node Kind.ClassDeclaration 1 (more (child (node Kind.BindingIdentifier 2 (more (string (codes "A")) end))) (more absent (more (child (node Kind.ClassBody 3 (more (list (trees (node Kind.PropertyDefinition 4 (more (child (node Kind.PrivateIdentifier 5 (more (string (codes "x")) end))) (more (child (node Kind.Literal 6 (more (literal (literal_value.Number (codes "1"))) end))) (more (boolean false) (more (boolean false) end)))) ∷ node Kind.MethodDefinition 7 (more (child (node Kind.IdentifierName 8 (more (string (codes "m")) end))) (more (child (node Kind.FunctionExpression 9 (more absent (more (list end) (more (child (node Kind.BlockStatement 10 (more (list (trees (node Kind.VariableDeclaration 11 (more (string (codes "const")) (more (list (trees (node Kind.VariableDeclarator 12 (more (child (node Kind.BindingIdentifier 13 (more (string (codes "g")) end))) (more (child (node Kind.ArrowFunctionExpression 14 (more (list end) (more (child (node Kind.UpdateExpression 15 (more (string (codes "++")) (more (child (node Kind.PrivateField 16 (more (child (node Kind.ThisExpression 17 end)) (more (child (node Kind.PrivateIdentifier 18 (more (string (codes "x")) end))) (more (boolean false) (more (boolean false) end)))))) (more (boolean false) end))))) (more (boolean false) end))))) end)) ∷ []))) end)) ∷ node Kind.ExpressionStatement 19 (more (child (node Kind.CallExpression 20 (more (child (node Kind.IdentifierReference 21 (more (string (codes "g")) end))) (more (list end) (more (boolean false) end))))) (more no_string end)) ∷ []))) end))) (more (boolean false) (more (boolean false) end))))))) (more (string (codes "method")) (more (boolean false) (more (boolean false) end))))) ∷ []))) end))) end))) ∷ []))) end))

-- a `let` of a temporary of an arrow, behind a call of it, where `var _x = new WeakMap(); class A { constructor() { B.classPrivateFieldInitSpec(this, _x, 1); } m() { var _t, _u; const g = () => (B.classPrivateFieldSet2(_x, this, (_t = B.classPrivateFieldGet2(_x, this), _u = _t++, _t)), _u); g(); } }` is right
abbrev pub output_let_behind_an_arrow : Tree
output_let_behind_an_arrow = node Kind.Program 0 (more (string (codes "script")) (more (list (trees (node Kind.VariableDeclaration 22 (more (string (codes "var")) (more (list (trees (node Kind.VariableDeclarator 23 (more (child (node Kind.BindingIdentifier 24 (more (string (codes "_x")) end))) (more (child (node Kind.NewExpression 25 (more (child (node Kind.IdentifierReference 26 (more (string (codes "WeakMap")) end))) (more (list end) end)))) end)) ∷ []))) end)) ∷ node Kind.ClassDeclaration 1 (more (child (node Kind.BindingIdentifier 2 (more (string (codes "A")) end))) (more absent (more (child (node Kind.ClassBody 3 (more (list (trees (node Kind.MethodDefinition 27 (more (child (node Kind.IdentifierName 28 (more (string (codes "constructor")) end))) (more (child (node Kind.FunctionExpression 29 (more absent (more (list end) (more (child (node Kind.BlockStatement 30 (more (list (trees (node Kind.ExpressionStatement 31 (more (child (node Kind.CallExpression 32 (more (child (node Kind.MemberExpression 33 (more (child (node Kind.IdentifierReference 34 (more (string (codes "babelHelpers")) end))) (more (child (node Kind.IdentifierName 35 (more (string (codes "classPrivateFieldInitSpec")) end))) (more (boolean false) (more (boolean false) end)))))) (more (list (trees (node Kind.ThisExpression 36 end ∷ node Kind.IdentifierReference 37 (more (string (codes "_x")) end) ∷ node Kind.Literal 6 (more (literal (literal_value.Number (codes "1"))) end) ∷ []))) (more (boolean false) end))))) (more no_string end)) ∷ []))) end))) (more (boolean false) (more (boolean false) end))))))) (more (string (codes "constructor")) (more (boolean false) (more (boolean false) end))))) ∷ node Kind.MethodDefinition 7 (more (child (node Kind.IdentifierName 8 (more (string (codes "m")) end))) (more (child (node Kind.FunctionExpression 9 (more absent (more (list end) (more (child (node Kind.BlockStatement 10 (more (list (trees (node Kind.VariableDeclaration 11 (more (string (codes "const")) (more (list (trees (node Kind.VariableDeclarator 12 (more (child (node Kind.BindingIdentifier 13 (more (string (codes "g")) end))) (more (child (node Kind.ArrowFunctionExpression 14 (more (list end) (more (child (node Kind.SequenceExpression 38 (more (list (trees (node Kind.CallExpression 39 (more (child (node Kind.MemberExpression 40 (more (child (node Kind.IdentifierReference 41 (more (string (codes "babelHelpers")) end))) (more (child (node Kind.IdentifierName 42 (more (string (codes "classPrivateFieldSet2")) end))) (more (boolean false) (more (boolean false) end)))))) (more (list (trees (node Kind.IdentifierReference 43 (more (string (codes "_x")) end) ∷ node Kind.ThisExpression 17 end ∷ node Kind.SequenceExpression 44 (more (list (trees (node Kind.AssignmentExpression 45 (more (string (codes "=")) (more (child (node Kind.IdentifierReference 46 (more (string (codes "_t")) end))) (more (child (node Kind.CallExpression 16 (more (child (node Kind.MemberExpression 47 (more (child (node Kind.IdentifierReference 48 (more (string (codes "babelHelpers")) end))) (more (child (node Kind.IdentifierName 49 (more (string (codes "classPrivateFieldGet2")) end))) (more (boolean false) (more (boolean false) end)))))) (more (list (trees (node Kind.IdentifierReference 50 (more (string (codes "_x")) end) ∷ node Kind.ThisExpression 51 end ∷ []))) (more (boolean false) end))))) end))) ∷ node Kind.AssignmentExpression 52 (more (string (codes "=")) (more (child (node Kind.IdentifierReference 53 (more (string (codes "_u")) end))) (more (child (node Kind.UpdateExpression 15 (more (string (codes "++")) (more (child (node Kind.IdentifierReference 54 (more (string (codes "_t")) end))) (more (boolean false) end))))) end))) ∷ node Kind.IdentifierReference 55 (more (string (codes "_t")) end) ∷ []))) end) ∷ []))) (more (boolean false) end))) ∷ node Kind.IdentifierReference 56 (more (string (codes "_u")) end) ∷ []))) end))) (more (boolean false) end))))) end)) ∷ []))) end)) ∷ node Kind.ExpressionStatement 19 (more (child (node Kind.CallExpression 20 (more (child (node Kind.IdentifierReference 21 (more (string (codes "g")) end))) (more (list end) (more (boolean false) end))))) (more no_string end)) ∷ node Kind.VariableDeclaration 57 (more (string (codes "let")) (more (list (trees (node Kind.VariableDeclarator 58 (more (child (node Kind.BindingIdentifier 59 (more (string (codes "_t")) end))) (more absent end)) ∷ node Kind.VariableDeclarator 60 (more (child (node Kind.BindingIdentifier 61 (more (string (codes "_u")) end))) (more absent end)) ∷ []))) end)) ∷ []))) end))) (more (boolean false) (more (boolean false) end))))))) (more (string (codes "method")) (more (boolean false) (more (boolean false) end))))) ∷ []))) end))) end))) ∷ []))) end))

abbrev pub generated_let_behind_an_arrow : List LedgerEntry
generated_let_behind_an_arrow = record { name = codes "_t"; kind = GeneratedKind.Temp } ∷ record { name = codes "_u"; kind = GeneratedKind.Temp } ∷ record { name = codes "_x"; kind = GeneratedKind.WeakMap (record { 0 = 5 }) } ∷ []

abbrev pub options_let_behind_an_arrow : Options
options_let_behind_an_arrow = options_of false (Some (record { loose = false })) false
