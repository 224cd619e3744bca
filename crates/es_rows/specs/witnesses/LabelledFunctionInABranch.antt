-- Printed by tools/rows/witnesses.js.
use Rattle.std.specs.Prelude.{ℕ, List, [], ◌∷◌, true, false, codes, None}
use Rattle.es_base.specs.Tree.{Tree, end, more, child, absent, list, string, no_string, boolean, literal, trees}
use Rattle.es_base.specs.declared.kind.Kind.{Kind}
use Rattle.es_base.specs.declared.ledger.GeneratedKind.{GeneratedKind}
use Rattle.es_base.specs.declared.ledger.LedgerEntry.{LedgerEntry}
use Rattle.es_base.specs.declared.literal.LiteralValue.TheVariants as literal_value
use Rattle.es_steps.specs.Generated.{node}
use Rattle.es_steps.specs.Options.{options_of}
use Rattle.es_steps.specs.declared.options.Options.{Options}

-- `function z(v) { class A { #m() {} static { this.#m = 1; } } l: if (v) function h() { class C { static { f(2); } } } }`
abbrev pub source_labelled_function_in_a_branch : Tree
source_labelled_function_in_a_branch = node Kind.Program 0 (more (string (codes "script")) (more (list (trees (node Kind.FunctionDeclaration 1 (more (child (node Kind.BindingIdentifier 2 (more (string (codes "z")) end))) (more (list (trees (node Kind.BindingIdentifier 3 (more (string (codes "v")) end) ∷ []))) (more (child (node Kind.BlockStatement 4 (more (list (trees (node Kind.ClassDeclaration 5 (more (child (node Kind.BindingIdentifier 6 (more (string (codes "A")) end))) (more absent (more (child (node Kind.ClassBody 7 (more (list (trees (node Kind.MethodDefinition 8 (more (child (node Kind.PrivateIdentifier 9 (more (string (codes "m")) end))) (more (child (node Kind.FunctionExpression 10 (more absent (more (list end) (more (child (node Kind.BlockStatement 11 (more (list end) end))) (more (boolean false) (more (boolean false) end))))))) (more (string (codes "method")) (more (boolean false) (more (boolean false) end))))) ∷ node Kind.StaticBlock 12 (more (list (trees (node Kind.ExpressionStatement 13 (more (child (node Kind.AssignmentExpression 14 (more (string (codes "=")) (more (child (node Kind.PrivateField 15 (more (child (node Kind.ThisExpression 16 end)) (more (child (node Kind.PrivateIdentifier 17 (more (string (codes "m")) end))) (more (boolean false) (more (boolean false) end)))))) (more (child (node Kind.Literal 18 (more (literal (literal_value.Number (codes "1"))) end))) end))))) (more no_string end)) ∷ []))) end) ∷ []))) end))) end))) ∷ node Kind.LabeledStatement 19 (more (child (node Kind.IdentifierName 20 (more (string (codes "l")) end))) (more (child (node Kind.IfStatement 21 (more (child (node Kind.IdentifierReference 22 (more (string (codes "v")) end))) (more (child (node Kind.FunctionDeclaration 23 (more (child (node Kind.BindingIdentifier 24 (more (string (codes "h")) end))) (more (list end) (more (child (node Kind.BlockStatement 25 (more (list (trees (node Kind.ClassDeclaration 26 (more (child (node Kind.BindingIdentifier 27 (more (string (codes "C")) end))) (more absent (more (child (node Kind.ClassBody 28 (more (list (trees (node Kind.StaticBlock 29 (more (list (trees (node Kind.ExpressionStatement 30 (more (child (node Kind.CallExpression 31 (more (child (node Kind.IdentifierReference 32 (more (string (codes "f")) end))) (more (list (trees (node Kind.Literal 33 (more (literal (literal_value.Number (codes "2"))) end) ∷ []))) (more (boolean false) end))))) (more no_string end)) ∷ []))) end) ∷ []))) end))) end))) ∷ []))) end))) (more (boolean false) (more (boolean false) end))))))) (more absent end))))) end)) ∷ []))) end))) (more (boolean false) (more (boolean false) end))))) ∷ []))) end))

-- a function with a label as a branch, behind what always throws, where `function z(v) { class A { #m() {} static #_ = this.#m = 1; } l: if (v) function h() { class C { static #_c = f(2); } } }` is right
abbrev pub output_labelled_function_in_a_branch : Tree
output_labelled_function_in_a_branch = node Kind.Program 0 (more (string (codes "script")) (more (list (trees (node Kind.FunctionDeclaration 1 (more (child (node Kind.BindingIdentifier 2 (more (string (codes "z")) end))) (more (list (trees (node Kind.BindingIdentifier 3 (more (string (codes "v")) end) ∷ []))) (more (child (node Kind.BlockStatement 4 (more (list (trees (node Kind.ClassDeclaration 5 (more (child (node Kind.BindingIdentifier 6 (more (string (codes "A")) end))) (more absent (more (child (node Kind.ClassBody 7 (more (list (trees (node Kind.MethodDefinition 8 (more (child (node Kind.PrivateIdentifier 9 (more (string (codes "m")) end))) (more (child (node Kind.FunctionExpression 10 (more absent (more (list end) (more (child (node Kind.BlockStatement 34 (more (list end) end))) (more (boolean false) (more (boolean false) end))))))) (more (string (codes "method")) (more (boolean false) (more (boolean false) end))))) ∷ node Kind.PropertyDefinition 35 (more (child (node Kind.PrivateIdentifier 11 (more (string (codes "_")) end))) (more (child (node Kind.AssignmentExpression 12 (more (string (codes "=")) (more (child (node Kind.PrivateField 13 (more (child (node Kind.ThisExpression 14 end)) (more (child (node Kind.PrivateIdentifier 15 (more (string (codes "m")) end))) (more (boolean false) (more (boolean false) end)))))) (more (child (node Kind.Literal 17 (more (literal (literal_value.Number (codes "1"))) end))) end))))) (more (boolean false) (more (boolean true) end)))) ∷ []))) end))) end))) ∷ node Kind.IfStatement 20 (more (child (node Kind.IdentifierReference 21 (more (string (codes "v")) end))) (more (child (node Kind.LabeledStatement 18 (more (child (node Kind.IdentifierName 19 (more (string (codes "l")) end))) (more (child (node Kind.FunctionDeclaration 22 (more (child (node Kind.BindingIdentifier 23 (more (string (codes "h")) end))) (more (list end) (more (child (node Kind.BlockStatement 24 (more (list (trees (node Kind.ClassDeclaration 25 (more (child (node Kind.BindingIdentifier 26 (more (string (codes "C")) end))) (more absent (more (child (node Kind.ClassBody 36 (more (list (trees (node Kind.PropertyDefinition 37 (more (child (node Kind.PrivateIdentifier 29 (more (string (codes "_c")) end))) (more (child (node Kind.CallExpression 30 (more (child (node Kind.IdentifierReference 31 (more (string (codes "f")) end))) (more (list (trees (node Kind.Literal 33 (more (literal (literal_value.Number (codes "2"))) end) ∷ []))) (more (boolean false) end))))) (more (boolean false) (more (boolean true) end)))) ∷ []))) end))) end))) ∷ []))) end))) (more (boolean false) (more (boolean false) end))))))) end)))) (more absent end))) ∷ []))) end))) (more (boolean false) (more (boolean false) end))))) ∷ []))) end))

abbrev pub generated_labelled_function_in_a_branch : List LedgerEntry
generated_labelled_function_in_a_branch = record { name = codes "_"; kind = GeneratedKind.Private (record { 0 = 5 }) } ∷ record { name = codes "_c"; kind = GeneratedKind.Private (record { 0 = 25 }) } ∷ []

abbrev pub options_labelled_function_in_a_branch : Options
options_labelled_function_in_a_branch = options_of true None false
