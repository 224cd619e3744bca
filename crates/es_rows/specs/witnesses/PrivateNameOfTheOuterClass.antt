-- Printed by tools/rows/witnesses.js.
use Rattle.std.specs.Prelude.{ℕ, List, [], ◌∷◌, true, false, codes, None}
use Rattle.es_base.specs.Tree.{Tree, end, more, child, absent, list, string, no_string, boolean, trees}
use Rattle.es_base.specs.declared.kind.Kind.{Kind}
use Rattle.es_base.specs.declared.ledger.GeneratedKind.{GeneratedKind}
use Rattle.es_base.specs.declared.ledger.LedgerEntry.{LedgerEntry}
use Rattle.es_steps.specs.Generated.{node}
use Rattle.es_steps.specs.Options.{options_of}
use Rattle.es_steps.specs.declared.options.Options.{Options}

-- `class O { #_; m() { return class { static { a; } n(o) { return o.#_; } }; } }`
abbrev pub source_private_name_of_the_outer_class : Tree
source_private_name_of_the_outer_class = node Kind.Program 0 (more (string (codes "script")) (more (list (trees (node Kind.ClassDeclaration 1 (more (child (node Kind.BindingIdentifier 2 (more (string (codes "O")) end))) (more absent (more (child (node Kind.ClassBody 3 (more (list (trees (node Kind.PropertyDefinition 4 (more (child (node Kind.PrivateIdentifier 5 (more (string (codes "_")) end))) (more absent (more (boolean false) (more (boolean false) end)))) ∷ node Kind.MethodDefinition 6 (more (child (node Kind.IdentifierName 7 (more (string (codes "m")) end))) (more (child (node Kind.FunctionExpression 8 (more absent (more (list end) (more (child (node Kind.BlockStatement 9 (more (list (trees (node Kind.ReturnStatement 10 (more (child (node Kind.ClassExpression 11 (more absent (more absent (more (child (node Kind.ClassBody 12 (more (list (trees (node Kind.StaticBlock 13 (more (list (trees (node Kind.ExpressionStatement 14 (more (child (node Kind.IdentifierReference 15 (more (string (codes "a")) end))) (more no_string end)) ∷ []))) end) ∷ node Kind.MethodDefinition 16 (more (child (node Kind.IdentifierName 17 (more (string (codes "n")) end))) (more (child (node Kind.FunctionExpression 18 (more absent (more (list (trees (node Kind.BindingIdentifier 19 (more (string (codes "o")) end) ∷ []))) (more (child (node Kind.BlockStatement 20 (more (list (trees (node Kind.ReturnStatement 21 (more (child (node Kind.PrivateField 22 (more (child (node Kind.IdentifierReference 23 (more (string (codes "o")) end))) (more (child (node Kind.PrivateIdentifier 24 (more (string (codes "_")) end))) (more (boolean false) (more (boolean false) end)))))) end) ∷ []))) end))) (more (boolean false) (more (boolean false) end))))))) (more (string (codes "method")) (more (boolean false) (more (boolean false) end))))) ∷ []))) end))) end))))) end) ∷ []))) end))) (more (boolean false) (more (boolean false) end))))))) (more (string (codes "method")) (more (boolean false) (more (boolean false) end))))) ∷ []))) end))) end))) ∷ []))) end))

-- a generated private name that an outer class declares, where `class O { #_; m() { var _staticBlock; return (class { n(o) { return o.#_; } static #_2 = _staticBlock = () => (a, this); }, _staticBlock()); } }` is right
abbrev pub output_private_name_of_the_outer_class : Tree
output_private_name_of_the_outer_class = node Kind.Program 0 (more (string (codes "script")) (more (list (trees (node Kind.ClassDeclaration 1 (more (child (node Kind.BindingIdentifier 2 (more (string (codes "O")) end))) (more absent (more (child (node Kind.ClassBody 3 (more (list (trees (node Kind.PropertyDefinition 4 (more (child (node Kind.PrivateIdentifier 5 (more (string (codes "_")) end))) (more absent (more (boolean false) (more (boolean false) end)))) ∷ node Kind.MethodDefinition 6 (more (child (node Kind.IdentifierName 7 (more (string (codes "m")) end))) (more (child (node Kind.FunctionExpression 8 (more absent (more (list end) (more (child (node Kind.BlockStatement 9 (more (list (trees (node Kind.VariableDeclaration 25 (more (string (codes "var")) (more (list (trees (node Kind.VariableDeclarator 26 (more (child (node Kind.BindingIdentifier 27 (more (string (codes "_staticBlock")) end))) (more absent end)) ∷ []))) end)) ∷ node Kind.ReturnStatement 10 (more (child (node Kind.SequenceExpression 28 (more (list (trees (node Kind.ClassExpression 11 (more absent (more absent (more (child (node Kind.ClassBody 12 (more (list (trees (node Kind.MethodDefinition 16 (more (child (node Kind.IdentifierName 17 (more (string (codes "n")) end))) (more (child (node Kind.FunctionExpression 18 (more absent (more (list (trees (node Kind.BindingIdentifier 19 (more (string (codes "o")) end) ∷ []))) (more (child (node Kind.BlockStatement 20 (more (list (trees (node Kind.ReturnStatement 21 (more (child (node Kind.PrivateField 22 (more (child (node Kind.IdentifierReference 23 (more (string (codes "o")) end))) (more (child (node Kind.PrivateIdentifier 24 (more (string (codes "_")) end))) (more (boolean false) (more (boolean false) end)))))) end) ∷ []))) end))) (more (boolean false) (more (boolean false) end))))))) (more (string (codes "method")) (more (boolean false) (more (boolean false) end))))) ∷ node Kind.PropertyDefinition 29 (more (child (node Kind.PrivateIdentifier 30 (more (string (codes "_")) end))) (more (child (node Kind.AssignmentExpression 31 (more (string (codes "=")) (more (child (node Kind.IdentifierReference 32 (more (string (codes "_staticBlock")) end))) (more (child (node Kind.ArrowFunctionExpression 33 (more (list end) (more (child (node Kind.SequenceExpression 34 (more (list (trees (node Kind.IdentifierReference 15 (more (string (codes "a")) end) ∷ node Kind.ThisExpression 35 end ∷ []))) end))) (more (boolean false) end))))) end))))) (more (boolean false) (more (boolean true) end)))) ∷ []))) end))) end))) ∷ node Kind.CallExpression 36 (more (child (node Kind.IdentifierReference 37 (more (string (codes "_staticBlock")) end))) (more (list end) (more (boolean false) end))) ∷ []))) end))) end) ∷ []))) end))) (more (boolean false) (more (boolean false) end))))))) (more (string (codes "method")) (more (boolean false) (more (boolean false) end))))) ∷ []))) end))) end))) ∷ []))) end))

abbrev pub generated_private_name_of_the_outer_class : List LedgerEntry
generated_private_name_of_the_outer_class = record { name = codes "_2"; kind = GeneratedKind.Private (record { 0 = 11 }) } ∷ record { name = codes "_staticBlock"; kind = GeneratedKind.Closure } ∷ []

abbrev pub options_private_name_of_the_outer_class : Options
options_private_name_of_the_outer_class = options_of true None false
