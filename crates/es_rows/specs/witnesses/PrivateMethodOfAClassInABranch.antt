-- Printed by tools/rows/witnesses.js.
use Rattle.std.specs.Prelude.{ℕ, List, [], ◌∷◌, false, codes, Some}
use Rattle.es_base.specs.Tree.{Tree, end, more, child, absent, list, string, no_string, boolean, literal, trees}
use Rattle.es_base.specs.declared.kind.Kind.{Kind}
use Rattle.es_base.specs.declared.ledger.GeneratedKind.{GeneratedKind}
use Rattle.es_base.specs.declared.ledger.LedgerEntry.{LedgerEntry}
use Rattle.es_base.specs.declared.literal.LiteralValue.TheVariants as literal_value
use Rattle.es_steps.specs.Generated.{node}
use Rattle.es_steps.specs.Options.{options_of}
use Rattle.es_steps.specs.declared.options.Options.{Options}

-- `let C = x || class { #s = 1; #m() { return this.#s; } n() { return this.#m(); } };`
abbrev pub source_private_method_of_a_class_in_a_branch : Tree
source_private_method_of_a_class_in_a_branch = node Kind.Program 0 (more (string (codes "script")) (more (list (trees (node Kind.VariableDeclaration 1 (more (string (codes "let")) (more (list (trees (node Kind.VariableDeclarator 2 (more (child (node Kind.BindingIdentifier 3 (more (string (codes "C")) end))) (more (child (node Kind.LogicalExpression 4 (more (string (codes "||")) (more (child (node Kind.IdentifierReference 5 (more (string (codes "x")) end))) (more (child (node Kind.ClassExpression 6 (more absent (more absent (more (child (node Kind.ClassBody 7 (more (list (trees (node Kind.PropertyDefinition 8 (more (child (node Kind.PrivateIdentifier 9 (more (string (codes "s")) end))) (more (child (node Kind.Literal 10 (more (literal (literal_value.Number (codes "1"))) end))) (more (boolean false) (more (boolean false) end)))) ∷ node Kind.MethodDefinition 11 (more (child (node Kind.PrivateIdentifier 12 (more (string (codes "m")) end))) (more (child (node Kind.FunctionExpression 13 (more absent (more (list end) (more (child (node Kind.BlockStatement 14 (more (list (trees (node Kind.ReturnStatement 15 (more (child (node Kind.PrivateField 16 (more (child (node Kind.ThisExpression 17 end)) (more (child (node Kind.PrivateIdentifier 18 (more (string (codes "s")) end))) (more (boolean false) (more (boolean false) end)))))) end) ∷ []))) end))) (more (boolean false) (more (boolean false) end))))))) (more (string (codes "method")) (more (boolean false) (more (boolean false) end))))) ∷ node Kind.MethodDefinition 19 (more (child (node Kind.IdentifierName 20 (more (string (codes "n")) end))) (more (child (node Kind.FunctionExpression 21 (more absent (more (list end) (more (child (node Kind.BlockStatement 22 (more (list (trees (node Kind.ReturnStatement 23 (more (child (node Kind.CallExpression 24 (more (child (node Kind.PrivateField 25 (more (child (node Kind.ThisExpression 26 end)) (more (child (node Kind.PrivateIdentifier 27 (more (string (codes "m")) end))) (more (boolean false) (more (boolean false) end)))))) (more (list end) (more (boolean false) end))))) end) ∷ []))) end))) (more (boolean false) (more (boolean false) end))))))) (more (string (codes "method")) (more (boolean false) (more (boolean false) end))))) ∷ []))) end))) end))))) end))))) end)) ∷ []))) end)) ∷ []))) end))

-- the function of a private method behind a statement in which its class may be made or not, as `var _s, _Class_brand; let C = x || (_s = new WeakMap(), _Class_brand = new WeakSet(), class { constructor() { B.classPrivateMethodInitSpec(this, _Class_brand); B.classPrivateFieldInitSpec(this, _s, 1); } n() { return B.assertClassBrand(_Class_brand, this, _m).call(this); } }); function _m() { return B.classPrivateFieldGet2(_s, this); }` means
abbrev pub output_private_method_of_a_class_in_a_branch : Tree
output_private_method_of_a_class_in_a_branch = node Kind.Program 0 (more (string (codes "script")) (more (list (trees (node Kind.VariableDeclaration 28 (more (string (codes "var")) (more (list (trees (node Kind.VariableDeclarator 29 (more (child (node Kind.BindingIdentifier 30 (more (string (codes "_s")) end))) (more absent end)) ∷ node Kind.VariableDeclarator 31 (more (child (node Kind.BindingIdentifier 32 (more (string (codes "_Class_brand")) end))) (more absent end)) ∷ []))) end)) ∷ node Kind.VariableDeclaration 1 (more (string (codes "let")) (more (list (trees (node Kind.VariableDeclarator 2 (more (child (node Kind.BindingIdentifier 3 (more (string (codes "C")) end))) (more (child (node Kind.LogicalExpression 4 (more (string (codes "||")) (more (child (node Kind.IdentifierReference 5 (more (string (codes "x")) end))) (more (child (node Kind.SequenceExpression 33 (more (list (trees (node Kind.AssignmentExpression 34 (more (string (codes "=")) (more (child (node Kind.IdentifierReference 35 (more (string (codes "_s")) end))) (more (child (node Kind.NewExpression 36 (more (child (node Kind.IdentifierReference 37 (more (string (codes "WeakMap")) end))) (more (list end) end)))) end))) ∷ node Kind.AssignmentExpression 38 (more (string (codes "=")) (more (child (node Kind.IdentifierReference 39 (more (string (codes "_Class_brand")) end))) (more (child (node Kind.NewExpression 40 (more (child (node Kind.IdentifierReference 41 (more (string (codes "WeakSet")) end))) (more (list end) end)))) end))) ∷ node Kind.ClassExpression 6 (more absent (more absent (more (child (node Kind.ClassBody 7 (more (list (trees (node Kind.MethodDefinition 42 (more (child (node Kind.IdentifierName 43 (more (string (codes "constructor")) end))) (more (child (node Kind.FunctionExpression 44 (more absent (more (list end) (more (child (node Kind.BlockStatement 45 (more (list (trees (node Kind.ExpressionStatement 46 (more (child (node Kind.CallExpression 47 (more (child (node Kind.MemberExpression 48 (more (child (node Kind.IdentifierReference 49 (more (string (codes "babelHelpers")) end))) (more (child (node Kind.IdentifierName 50 (more (string (codes "classPrivateMethodInitSpec")) end))) (more (boolean false) (more (boolean false) end)))))) (more (list (trees (node Kind.ThisExpression 51 end ∷ node Kind.IdentifierReference 52 (more (string (codes "_Class_brand")) end) ∷ []))) (more (boolean false) end))))) (more no_string end)) ∷ node Kind.ExpressionStatement 53 (more (child (node Kind.CallExpression 54 (more (child (node Kind.MemberExpression 55 (more (child (node Kind.IdentifierReference 56 (more (string (codes "babelHelpers")) end))) (more (child (node Kind.IdentifierName 57 (more (string (codes "classPrivateFieldInitSpec")) end))) (more (boolean false) (more (boolean false) end)))))) (more (list (trees (node Kind.ThisExpression 58 end ∷ node Kind.IdentifierReference 59 (more (string (codes "_s")) end) ∷ node Kind.Literal 10 (more (literal (literal_value.Number (codes "1"))) end) ∷ []))) (more (boolean false) end))))) (more no_string end)) ∷ []))) end))) (more (boolean false) (more (boolean false) end))))))) (more (string (codes "constructor")) (more (boolean false) (more (boolean false) end))))) ∷ node Kind.MethodDefinition 19 (more (child (node Kind.IdentifierName 20 (more (string (codes "n")) end))) (more (child (node Kind.FunctionExpression 21 (more absent (more (list end) (more (child (node Kind.BlockStatement 22 (more (list (trees (node Kind.ReturnStatement 23 (more (child (node Kind.CallExpression 24 (more (child (node Kind.MemberExpression 60 (more (child (node Kind.CallExpression 25 (more (child (node Kind.MemberExpression 61 (more (child (node Kind.IdentifierReference 62 (more (string (codes "babelHelpers")) end))) (more (child (node Kind.IdentifierName 63 (more (string (codes "assertClassBrand")) end))) (more (boolean false) (more (boolean false) end)))))) (more (list (trees (node Kind.IdentifierReference 64 (more (string (codes "_Class_brand")) end) ∷ node Kind.ThisExpression 26 end ∷ node Kind.IdentifierReference 65 (more (string (codes "_m")) end) ∷ []))) (more (boolean false) end))))) (more (child (node Kind.IdentifierName 66 (more (string (codes "call")) end))) (more (boolean false) (more (boolean false) end)))))) (more (list (trees (node Kind.ThisExpression 67 end ∷ []))) (more (boolean false) end))))) end) ∷ []))) end))) (more (boolean false) (more (boolean false) end))))))) (more (string (codes "method")) (more (boolean false) (more (boolean false) end))))) ∷ []))) end))) end))) ∷ []))) end))) end))))) end)) ∷ []))) end)) ∷ node Kind.FunctionDeclaration 13 (more (child (node Kind.BindingIdentifier 68 (more (string (codes "_m")) end))) (more (list end) (more (child (node Kind.BlockStatement 14 (more (list (trees (node Kind.ReturnStatement 15 (more (child (node Kind.CallExpression 16 (more (child (node Kind.MemberExpression 69 (more (child (node Kind.IdentifierReference 70 (more (string (codes "babelHelpers")) end))) (more (child (node Kind.IdentifierName 71 (more (string (codes "classPrivateFieldGet2")) end))) (more (boolean false) (more (boolean false) end)))))) (more (list (trees (node Kind.IdentifierReference 72 (more (string (codes "_s")) end) ∷ node Kind.ThisExpression 17 end ∷ []))) (more (boolean false) end))))) end) ∷ []))) end))) (more (boolean false) (more (boolean false) end))))) ∷ []))) end))

abbrev pub generated_private_method_of_a_class_in_a_branch : List LedgerEntry
generated_private_method_of_a_class_in_a_branch = record { name = codes "_Class_brand"; kind = GeneratedKind.Brand (record { 0 = 6 }) } ∷ record { name = codes "_m"; kind = GeneratedKind.Method (record { 0 = 12 }) } ∷ record { name = codes "_s"; kind = GeneratedKind.WeakMap (record { 0 = 9 }) } ∷ []

abbrev pub options_private_method_of_a_class_in_a_branch : Options
options_private_method_of_a_class_in_a_branch = options_of false (Some (record { loose = false })) false
