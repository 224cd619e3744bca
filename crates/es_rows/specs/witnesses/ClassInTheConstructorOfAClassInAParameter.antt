-- Printed by tools/rows/witnesses.js.
use Rattle.std.specs.Prelude.{ℕ, List, [], ◌∷◌, true, false, codes, Some}
use Rattle.es_base.specs.Tree.{Tree, end, more, child, absent, list, string, no_string, boolean, trees}
use Rattle.es_base.specs.declared.kind.Kind.{Kind}
use Rattle.es_base.specs.declared.ledger.GeneratedKind.{GeneratedKind}
use Rattle.es_base.specs.declared.ledger.LedgerEntry.{LedgerEntry}
use Rattle.es_steps.specs.Generated.{node}
use Rattle.es_steps.specs.Options.{options_of}
use Rattle.es_steps.specs.declared.options.Options.{Options}

-- `function f(c = class { constructor() { class N { static { var v = this(); } } } }) {}`
abbrev pub source_class_in_the_constructor_of_a_class_in_a_parameter : Tree
source_class_in_the_constructor_of_a_class_in_a_parameter = node Kind.Program 0 (more (string (codes "script")) (more (list (trees (node Kind.FunctionDeclaration 1 (more (child (node Kind.BindingIdentifier 2 (more (string (codes "f")) end))) (more (list (trees (node Kind.AssignmentPattern 3 (more (child (node Kind.BindingIdentifier 4 (more (string (codes "c")) end))) (more (child (node Kind.ClassExpression 5 (more absent (more absent (more (child (node Kind.ClassBody 6 (more (list (trees (node Kind.MethodDefinition 7 (more (child (node Kind.IdentifierName 8 (more (string (codes "constructor")) end))) (more (child (node Kind.FunctionExpression 9 (more absent (more (list end) (more (child (node Kind.BlockStatement 10 (more (list (trees (node Kind.ClassDeclaration 11 (more (child (node Kind.BindingIdentifier 12 (more (string (codes "N")) end))) (more absent (more (child (node Kind.ClassBody 13 (more (list (trees (node Kind.StaticBlock 14 (more (list (trees (node Kind.VariableDeclaration 15 (more (string (codes "var")) (more (list (trees (node Kind.VariableDeclarator 16 (more (child (node Kind.BindingIdentifier 17 (more (string (codes "v")) end))) (more (child (node Kind.CallExpression 18 (more (child (node Kind.ThisExpression 19 end)) (more (list end) (more (boolean false) end))))) end)) ∷ []))) end)) ∷ []))) end) ∷ []))) end))) end))) ∷ []))) end))) (more (boolean false) (more (boolean false) end))))))) (more (string (codes "constructor")) (more (boolean false) (more (boolean false) end))))) ∷ []))) end))) end))))) end)) ∷ []))) (more (child (node Kind.BlockStatement 20 (more (list end) end))) (more (boolean false) (more (boolean false) end))))) ∷ []))) end))

-- a class whose static block reads this, in the constructor of a class in a parameter, as `function f(c = class { constructor() { var _N; class N { } _N = N; (() => { var v = _N(); })(); } }) {}` means
abbrev pub output_class_in_the_constructor_of_a_class_in_a_parameter : Tree
output_class_in_the_constructor_of_a_class_in_a_parameter = node Kind.Program 0 (more (string (codes "script")) (more (list (trees (node Kind.FunctionDeclaration 1 (more (child (node Kind.BindingIdentifier 2 (more (string (codes "f")) end))) (more (list (trees (node Kind.AssignmentPattern 3 (more (child (node Kind.BindingIdentifier 4 (more (string (codes "c")) end))) (more (child (node Kind.ClassExpression 5 (more absent (more absent (more (child (node Kind.ClassBody 6 (more (list (trees (node Kind.MethodDefinition 7 (more (child (node Kind.IdentifierName 8 (more (string (codes "constructor")) end))) (more (child (node Kind.FunctionExpression 9 (more absent (more (list end) (more (child (node Kind.BlockStatement 10 (more (list (trees (node Kind.VariableDeclaration 21 (more (string (codes "var")) (more (list (trees (node Kind.VariableDeclarator 22 (more (child (node Kind.BindingIdentifier 23 (more (string (codes "_N")) end))) (more absent end)) ∷ []))) end)) ∷ node Kind.ClassDeclaration 11 (more (child (node Kind.BindingIdentifier 12 (more (string (codes "N")) end))) (more absent (more (child (node Kind.ClassBody 13 (more (list end) end))) end))) ∷ node Kind.ExpressionStatement 24 (more (child (node Kind.AssignmentExpression 25 (more (string (codes "=")) (more (child (node Kind.IdentifierReference 26 (more (string (codes "_N")) end))) (more (child (node Kind.IdentifierReference 27 (more (string (codes "N")) end))) end))))) (more no_string end)) ∷ node Kind.ExpressionStatement 28 (more (child (node Kind.CallExpression 29 (more (child (node Kind.ArrowFunctionExpression 30 (more (list end) (more (child (node Kind.BlockStatement 31 (more (list (trees (node Kind.VariableDeclaration 15 (more (string (codes "var")) (more (list (trees (node Kind.VariableDeclarator 16 (more (child (node Kind.BindingIdentifier 17 (more (string (codes "v")) end))) (more (child (node Kind.CallExpression 18 (more (child (node Kind.IdentifierReference 19 (more (string (codes "_N")) end))) (more (list end) (more (boolean false) end))))) end)) ∷ []))) end)) ∷ []))) end))) (more (boolean false) end))))) (more (list end) (more (boolean false) end))))) (more no_string end)) ∷ []))) end))) (more (boolean false) (more (boolean false) end))))))) (more (string (codes "constructor")) (more (boolean false) (more (boolean false) end))))) ∷ []))) end))) end))))) end)) ∷ []))) (more (child (node Kind.BlockStatement 20 (more (list end) end))) (more (boolean false) (more (boolean false) end))))) ∷ []))) end))

abbrev pub generated_class_in_the_constructor_of_a_class_in_a_parameter : List LedgerEntry
generated_class_in_the_constructor_of_a_class_in_a_parameter = record { name = codes "_N"; kind = GeneratedKind.ClassTemp (record { 0 = 11 }) } ∷ []

abbrev pub options_class_in_the_constructor_of_a_class_in_a_parameter : Options
options_class_in_the_constructor_of_a_class_in_a_parameter = options_of true (Some (record { loose = false })) false
