-- Printed by tools/rows/witnesses.js.
use Rattle.std.specs.Prelude.{ℕ, List, [], ◌∷◌, true, false, codes, None}
use Rattle.es_base.specs.Tree.{Tree, end, more, child, absent, list, string, no_string, boolean, literal, trees}
use Rattle.es_base.specs.declared.kind.Kind.{Kind}
use Rattle.es_base.specs.declared.ledger.GeneratedKind.{GeneratedKind}
use Rattle.es_base.specs.declared.ledger.LedgerEntry.{LedgerEntry}
use Rattle.es_base.specs.declared.literal.LiteralValue.TheVariants as literal_value
use Rattle.es_steps.specs.Generated.{node}
use Rattle.es_steps.specs.Options.{options_of}
use Rattle.es_steps.specs.declared.options.Options.{Options}

-- `function z(v) { class A { #m() {} static { this.#m = 1; } } for (var x = class { static { f(2); } } in v) ; var y, u = class { static { f(3); } }; }`
abbrev pub source_names_of_an_initialized_head : Tree
source_names_of_an_initialized_head = node Kind.Program 0 (more (string (codes "script")) (more (list (trees (node Kind.FunctionDeclaration 1 (more (child (node Kind.BindingIdentifier 2 (more (string (codes "z")) end))) (more (list (trees (node Kind.BindingIdentifier 3 (more (string (codes "v")) end) ∷ []))) (more (child (node Kind.BlockStatement 4 (more (list (trees (node Kind.ClassDeclaration 5 (more (child (node Kind.BindingIdentifier 6 (more (string (codes "A")) end))) (more absent (more (child (node Kind.ClassBody 7 (more (list (trees (node Kind.MethodDefinition 8 (more (child (node Kind.PrivateIdentifier 9 (more (string (codes "m")) end))) (more (child (node Kind.FunctionExpression 10 (more absent (more (list end) (more (child (node Kind.BlockStatement 11 (more (list end) end))) (more (boolean false) (more (boolean false) end))))))) (more (string (codes "method")) (more (boolean false) (more (boolean false) end))))) ∷ node Kind.StaticBlock 12 (more (list (trees (node Kind.ExpressionStatement 13 (more (child (node Kind.AssignmentExpression 14 (more (string (codes "=")) (more (child (node Kind.PrivateField 15 (more (child (node Kind.ThisExpression 16 end)) (more (child (node Kind.PrivateIdentifier 17 (more (string (codes "m")) end))) (more (boolean false) (more (boolean false) end)))))) (more (child (node Kind.Literal 18 (more (literal (literal_value.Number (codes "1"))) end))) end))))) (more no_string end)) ∷ []))) end) ∷ []))) end))) end))) ∷ node Kind.ForInStatement 19 (more (child (node Kind.VariableDeclaration 20 (more (string (codes "var")) (more (list (trees (node Kind.VariableDeclarator 21 (more (child (node Kind.BindingIdentifier 22 (more (string (codes "x")) end))) (more (child (node Kind.ClassExpression 23 (more absent (more absent (more (child (node Kind.ClassBody 24 (more (list (trees (node Kind.StaticBlock 25 (more (list (trees (node Kind.ExpressionStatement 26 (more (child (node Kind.CallExpression 27 (more (child (node Kind.IdentifierReference 28 (more (string (codes "f")) end))) (more (list (trees (node Kind.Literal 29 (more (literal (literal_value.Number (codes "2"))) end) ∷ []))) (more (boolean false) end))))) (more no_string end)) ∷ []))) end) ∷ []))) end))) end))))) end)) ∷ []))) end)))) (more (child (node Kind.IdentifierReference 30 (more (string (codes "v")) end))) (more (child (node Kind.EmptyStatement 31 end)) end))) ∷ node Kind.VariableDeclaration 32 (more (string (codes "var")) (more (list (trees (node Kind.VariableDeclarator 33 (more (child (node Kind.BindingIdentifier 34 (more (string (codes "y")) end))) (more absent end)) ∷ node Kind.VariableDeclarator 35 (more (child (node Kind.BindingIdentifier 36 (more (string (codes "u")) end))) (more (child (node Kind.ClassExpression 37 (more absent (more absent (more (child (node Kind.ClassBody 38 (more (list (trees (node Kind.StaticBlock 39 (more (list (trees (node Kind.ExpressionStatement 40 (more (child (node Kind.CallExpression 41 (more (child (node Kind.IdentifierReference 42 (more (string (codes "f")) end))) (more (list (trees (node Kind.Literal 43 (more (literal (literal_value.Number (codes "3"))) end) ∷ []))) (more (boolean false) end))))) (more no_string end)) ∷ []))) end) ∷ []))) end))) end))))) end)) ∷ []))) end)) ∷ []))) end))) (more (boolean false) (more (boolean false) end))))) ∷ []))) end))

-- a second name in the head of a for-in that has a value, behind what always throws, where `function z(v) { class A { #m() {} static #_ = this.#m = 1; } for (var x = class { static #_a = f(2); } in v) ; var y, u = class { static #_b = f(3); }; }` is right
abbrev pub output_names_of_an_initialized_head : Tree
output_names_of_an_initialized_head = node Kind.Program 0 (more (string (codes "script")) (more (list (trees (node Kind.FunctionDeclaration 1 (more (child (node Kind.BindingIdentifier 2 (more (string (codes "z")) end))) (more (list (trees (node Kind.BindingIdentifier 3 (more (string (codes "v")) end) ∷ []))) (more (child (node Kind.BlockStatement 4 (more (list (trees (node Kind.ClassDeclaration 5 (more (child (node Kind.BindingIdentifier 6 (more (string (codes "A")) end))) (more absent (more (child (node Kind.ClassBody 7 (more (list (trees (node Kind.MethodDefinition 8 (more (child (node Kind.PrivateIdentifier 9 (more (string (codes "m")) end))) (more (child (node Kind.FunctionExpression 10 (more absent (more (list end) (more (child (node Kind.BlockStatement 11 (more (list end) end))) (more (boolean false) (more (boolean false) end))))))) (more (string (codes "method")) (more (boolean false) (more (boolean false) end))))) ∷ node Kind.PropertyDefinition 44 (more (child (node Kind.PrivateIdentifier 45 (more (string (codes "_")) end))) (more (child (node Kind.AssignmentExpression 14 (more (string (codes "=")) (more (child (node Kind.PrivateField 15 (more (child (node Kind.ThisExpression 16 end)) (more (child (node Kind.PrivateIdentifier 17 (more (string (codes "m")) end))) (more (boolean false) (more (boolean false) end)))))) (more (child (node Kind.Literal 18 (more (literal (literal_value.Number (codes "1"))) end))) end))))) (more (boolean false) (more (boolean true) end)))) ∷ []))) end))) end))) ∷ node Kind.ForInStatement 19 (more (child (node Kind.VariableDeclaration 20 (more (string (codes "var")) (more (list (trees (node Kind.VariableDeclarator 21 (more (child (node Kind.BindingIdentifier 22 (more (string (codes "x")) end))) (more (child (node Kind.ClassExpression 23 (more absent (more absent (more (child (node Kind.ClassBody 24 (more (list (trees (node Kind.PropertyDefinition 46 (more (child (node Kind.PrivateIdentifier 47 (more (string (codes "_a")) end))) (more (child (node Kind.CallExpression 27 (more (child (node Kind.IdentifierReference 28 (more (string (codes "f")) end))) (more (list (trees (node Kind.Literal 29 (more (literal (literal_value.Number (codes "2"))) end) ∷ []))) (more (boolean false) end))))) (more (boolean false) (more (boolean true) end)))) ∷ []))) end))) end))))) end)) ∷ node Kind.VariableDeclarator 33 (more (child (node Kind.BindingIdentifier 34 (more (string (codes "y")) end))) (more absent end)) ∷ []))) end)))) (more (child (node Kind.IdentifierReference 30 (more (string (codes "v")) end))) (more (child (node Kind.EmptyStatement 31 end)) end))) ∷ node Kind.VariableDeclaration 32 (more (string (codes "var")) (more (list (trees (node Kind.VariableDeclarator 35 (more (child (node Kind.BindingIdentifier 36 (more (string (codes "u")) end))) (more (child (node Kind.ClassExpression 37 (more absent (more absent (more (child (node Kind.ClassBody 38 (more (list (trees (node Kind.PropertyDefinition 48 (more (child (node Kind.PrivateIdentifier 49 (more (string (codes "_b")) end))) (more (child (node Kind.CallExpression 41 (more (child (node Kind.IdentifierReference 42 (more (string (codes "f")) end))) (more (list (trees (node Kind.Literal 43 (more (literal (literal_value.Number (codes "3"))) end) ∷ []))) (more (boolean false) end))))) (more (boolean false) (more (boolean true) end)))) ∷ []))) end))) end))))) end)) ∷ []))) end)) ∷ []))) end))) (more (boolean false) (more (boolean false) end))))) ∷ []))) end))

abbrev pub generated_names_of_an_initialized_head : List LedgerEntry
generated_names_of_an_initialized_head = record { name = codes "_"; kind = GeneratedKind.Private (record { 0 = 5 }) } ∷ record { name = codes "_a"; kind = GeneratedKind.Private (record { 0 = 23 }) } ∷ record { name = codes "_b"; kind = GeneratedKind.Private (record { 0 = 37 }) } ∷ []

abbrev pub options_names_of_an_initialized_head : Options
options_names_of_an_initialized_head = options_of true None false
