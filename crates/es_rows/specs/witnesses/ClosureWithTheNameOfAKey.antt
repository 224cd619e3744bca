-- Printed by tools/rows/witnesses.js.
use Rattle.std.specs.Prelude.{ℕ, List, [], ◌∷◌, true, false, codes, Some, None}
use Rattle.es_base.specs.Tree.{Tree, end, more, child, absent, list, string, no_string, boolean, literal, trees}
use Rattle.es_base.specs.declared.kind.Kind.{Kind}
use Rattle.es_base.specs.declared.ledger.GeneratedKind.{GeneratedKind}
use Rattle.es_base.specs.declared.ledger.LedgerEntry.{LedgerEntry}
use Rattle.es_base.specs.declared.literal.LiteralValue.TheVariants as literal_value
use Rattle.es_steps.specs.Generated.{node}
use Rattle.es_steps.specs.Options.{options_of}
use Rattle.es_steps.specs.declared.options.Options.{Options}

-- `class C { static { g(C); } } f(class { static {} [(C, "k")]() {} });`
abbrev pub source_closure_with_the_name_of_a_key : Tree
source_closure_with_the_name_of_a_key = node Kind.Program 0 (more (string (codes "script")) (more (list (trees (node Kind.ClassDeclaration 1 (more (child (node Kind.BindingIdentifier 2 (more (string (codes "C")) end))) (more absent (more (child (node Kind.ClassBody 3 (more (list (trees (node Kind.StaticBlock 4 (more (list (trees (node Kind.ExpressionStatement 5 (more (child (node Kind.CallExpression 6 (more (child (node Kind.IdentifierReference 7 (more (string (codes "g")) end))) (more (list (trees (node Kind.IdentifierReference 8 (more (string (codes "C")) end) ∷ []))) (more (boolean false) end))))) (more no_string end)) ∷ []))) end) ∷ []))) end))) end))) ∷ node Kind.ExpressionStatement 9 (more (child (node Kind.CallExpression 10 (more (child (node Kind.IdentifierReference 11 (more (string (codes "f")) end))) (more (list (trees (node Kind.ClassExpression 12 (more absent (more absent (more (child (node Kind.ClassBody 13 (more (list (trees (node Kind.StaticBlock 14 (more (list end) end) ∷ node Kind.MethodDefinition 15 (more (child (node Kind.SequenceExpression 16 (more (list (trees (node Kind.IdentifierReference 17 (more (string (codes "C")) end) ∷ node Kind.Literal 18 (more (literal (literal_value.String (codes "k") (Some (codes "\"k\"")))) end) ∷ []))) end))) (more (child (node Kind.FunctionExpression 19 (more absent (more (list end) (more (child (node Kind.BlockStatement 20 (more (list end) end))) (more (boolean false) (more (boolean false) end))))))) (more (string (codes "method")) (more (boolean true) (more (boolean false) end))))) ∷ []))) end))) end))) ∷ []))) (more (boolean false) end))))) (more no_string end)) ∷ []))) end))

-- a closure of a static block in front of the class that it names, by a name that stood in a key of another class: `var _c; _c = () => g(C); class C { static #_ = _c(); } f(class { ["k"]() {} });`
abbrev pub output_closure_with_the_name_of_a_key : Tree
output_closure_with_the_name_of_a_key = node Kind.Program 0 (more (string (codes "script")) (more (list (trees (node Kind.VariableDeclaration 21 (more (string (codes "var")) (more (list (trees (node Kind.VariableDeclarator 22 (more (child (node Kind.BindingIdentifier 23 (more (string (codes "_c")) end))) (more absent end)) ∷ []))) end)) ∷ node Kind.ExpressionStatement 24 (more (child (node Kind.AssignmentExpression 25 (more (string (codes "=")) (more (child (node Kind.IdentifierReference 26 (more (string (codes "_c")) end))) (more (child (node Kind.ArrowFunctionExpression 27 (more (list end) (more (child (node Kind.CallExpression 6 (more (child (node Kind.IdentifierReference 7 (more (string (codes "g")) end))) (more (list (trees (node Kind.IdentifierReference 17 (more (string (codes "C")) end) ∷ []))) (more (boolean false) end))))) (more (boolean false) end))))) end))))) (more no_string end)) ∷ node Kind.ClassDeclaration 1 (more (child (node Kind.BindingIdentifier 2 (more (string (codes "C")) end))) (more absent (more (child (node Kind.ClassBody 3 (more (list (trees (node Kind.PropertyDefinition 28 (more (child (node Kind.PrivateIdentifier 29 (more (string (codes "_")) end))) (more (child (node Kind.CallExpression 30 (more (child (node Kind.IdentifierReference 31 (more (string (codes "_c")) end))) (more (list end) (more (boolean false) end))))) (more (boolean false) (more (boolean true) end)))) ∷ []))) end))) end))) ∷ node Kind.ExpressionStatement 9 (more (child (node Kind.CallExpression 10 (more (child (node Kind.IdentifierReference 11 (more (string (codes "f")) end))) (more (list (trees (node Kind.ClassExpression 12 (more absent (more absent (more (child (node Kind.ClassBody 13 (more (list (trees (node Kind.MethodDefinition 15 (more (child (node Kind.Literal 18 (more (literal (literal_value.String (codes "k") (Some (codes "\"k\"")))) end))) (more (child (node Kind.FunctionExpression 19 (more absent (more (list end) (more (child (node Kind.BlockStatement 20 (more (list end) end))) (more (boolean false) (more (boolean false) end))))))) (more (string (codes "method")) (more (boolean true) (more (boolean false) end))))) ∷ []))) end))) end))) ∷ []))) (more (boolean false) end))))) (more no_string end)) ∷ []))) end))

abbrev pub generated_closure_with_the_name_of_a_key : List LedgerEntry
generated_closure_with_the_name_of_a_key = record { name = codes "_c"; kind = GeneratedKind.Closure } ∷ record { name = codes "_"; kind = GeneratedKind.Private (record { 0 = 1 }) } ∷ []

abbrev pub options_closure_with_the_name_of_a_key : Options
options_closure_with_the_name_of_a_key = options_of true None false
