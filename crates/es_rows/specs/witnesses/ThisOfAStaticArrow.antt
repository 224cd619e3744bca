-- Printed by tools/rows/witnesses.js.
use Rattle.std.specs.Prelude.{ℕ, List, [], ◌∷◌, true, false, codes, None}
use Rattle.es_base.specs.Tree.{Tree, end, more, child, absent, list, string, no_string, boolean, trees}
use Rattle.es_base.specs.declared.kind.Kind.{Kind}
use Rattle.es_base.specs.declared.ledger.LedgerEntry.{LedgerEntry}
use Rattle.es_steps.specs.Generated.{node}
use Rattle.es_steps.specs.Options.{options_of}
use Rattle.es_steps.specs.declared.options.Options.{Options}

-- `class A extends P { constructor() { let D = class { static { (() => { this; })(); } }; super(); } }`
abbrev pub source_this_of_a_static_arrow : Tree
source_this_of_a_static_arrow = node Kind.Program 0 (more (string (codes "script")) (more (list (trees (node Kind.ClassDeclaration 1 (more (child (node Kind.BindingIdentifier 2 (more (string (codes "A")) end))) (more (child (node Kind.IdentifierReference 3 (more (string (codes "P")) end))) (more (child (node Kind.ClassBody 4 (more (list (trees (node Kind.MethodDefinition 5 (more (child (node Kind.IdentifierName 6 (more (string (codes "constructor")) end))) (more (child (node Kind.FunctionExpression 7 (more absent (more (list end) (more (child (node Kind.BlockStatement 8 (more (list (trees (node Kind.VariableDeclaration 9 (more (string (codes "let")) (more (list (trees (node Kind.VariableDeclarator 10 (more (child (node Kind.BindingIdentifier 11 (more (string (codes "D")) end))) (more (child (node Kind.ClassExpression 12 (more absent (more absent (more (child (node Kind.ClassBody 13 (more (list (trees (node Kind.StaticBlock 14 (more (list (trees (node Kind.ExpressionStatement 15 (more (child (node Kind.CallExpression 16 (more (child (node Kind.ArrowFunctionExpression 17 (more (list end) (more (child (node Kind.BlockStatement 18 (more (list (trees (node Kind.ExpressionStatement 19 (more (child (node Kind.ThisExpression 20 end)) (more no_string end)) ∷ []))) end))) (more (boolean false) end))))) (more (list end) (more (boolean false) end))))) (more no_string end)) ∷ []))) end) ∷ []))) end))) end))))) end)) ∷ []))) end)) ∷ node Kind.ExpressionStatement 21 (more (child (node Kind.CallExpression 22 (more (child (node Kind.Super 23 end)) (more (list end) (more (boolean false) end))))) (more no_string end)) ∷ []))) end))) (more (boolean false) (more (boolean false) end))))))) (more (string (codes "constructor")) (more (boolean false) (more (boolean false) end))))) ∷ []))) end))) end))) ∷ []))) end))

-- an arrow of static code keeps this, which is that of a constructor with a heritage: `class A extends P { constructor() { let D = ((() => { this; })(), class { }); super(); } }`
abbrev pub output_this_of_a_static_arrow : Tree
output_this_of_a_static_arrow = node Kind.Program 0 (more (string (codes "script")) (more (list (trees (node Kind.ClassDeclaration 1 (more (child (node Kind.BindingIdentifier 2 (more (string (codes "A")) end))) (more (child (node Kind.IdentifierReference 3 (more (string (codes "P")) end))) (more (child (node Kind.ClassBody 4 (more (list (trees (node Kind.MethodDefinition 5 (more (child (node Kind.IdentifierName 6 (more (string (codes "constructor")) end))) (more (child (node Kind.FunctionExpression 7 (more absent (more (list end) (more (child (node Kind.BlockStatement 8 (more (list (trees (node Kind.VariableDeclaration 9 (more (string (codes "let")) (more (list (trees (node Kind.VariableDeclarator 10 (more (child (node Kind.BindingIdentifier 11 (more (string (codes "D")) end))) (more (child (node Kind.SequenceExpression 24 (more (list (trees (node Kind.CallExpression 16 (more (child (node Kind.ArrowFunctionExpression 17 (more (list end) (more (child (node Kind.BlockStatement 18 (more (list (trees (node Kind.ExpressionStatement 19 (more (child (node Kind.ThisExpression 20 end)) (more no_string end)) ∷ []))) end))) (more (boolean false) end))))) (more (list end) (more (boolean false) end))) ∷ node Kind.ClassExpression 12 (more absent (more absent (more (child (node Kind.ClassBody 13 (more (list end) end))) end))) ∷ []))) end))) end)) ∷ []))) end)) ∷ node Kind.ExpressionStatement 21 (more (child (node Kind.CallExpression 22 (more (child (node Kind.Super 23 end)) (more (list end) (more (boolean false) end))))) (more no_string end)) ∷ []))) end))) (more (boolean false) (more (boolean false) end))))))) (more (string (codes "constructor")) (more (boolean false) (more (boolean false) end))))) ∷ []))) end))) end))) ∷ []))) end))

abbrev pub generated_this_of_a_static_arrow : List LedgerEntry
generated_this_of_a_static_arrow = []

abbrev pub options_this_of_a_static_arrow : Options
options_this_of_a_static_arrow = options_of true None false
