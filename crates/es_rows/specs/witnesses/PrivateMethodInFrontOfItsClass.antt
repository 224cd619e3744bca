-- Printed by tools/rows/witnesses.js.
use Rattle.std.specs.Prelude.{ℕ, List, [], ◌∷◌, true, false, codes, Some}
use Rattle.es_base.specs.Tree.{Tree, end, more, child, absent, list, string, no_string, boolean, trees}
use Rattle.es_base.specs.declared.kind.Kind.{Kind}
use Rattle.es_base.specs.declared.ledger.GeneratedKind.{GeneratedKind}
use Rattle.es_base.specs.declared.ledger.LedgerEntry.{LedgerEntry}
use Rattle.es_steps.specs.Generated.{node}
use Rattle.es_steps.specs.Options.{options_of}
use Rattle.es_steps.specs.declared.options.Options.{Options}

-- `h(class C { static #m() { return C; } static { g(C.#m); } });`
abbrev pub source_private_method_in_front_of_its_class : Tree
source_private_method_in_front_of_its_class = node Kind.Program 0 (more (string (codes "script")) (more (list (trees (node Kind.ExpressionStatement 1 (more (child (node Kind.CallExpression 2 (more (child (node Kind.IdentifierReference 3 (more (string (codes "h")) end))) (more (list (trees (node Kind.ClassExpression 4 (more (child (node Kind.BindingIdentifier 5 (more (string (codes "C")) end))) (more absent (more (child (node Kind.ClassBody 6 (more (list (trees (node Kind.MethodDefinition 7 (more (child (node Kind.PrivateIdentifier 8 (more (string (codes "m")) end))) (more (child (node Kind.FunctionExpression 9 (more absent (more (list end) (more (child (node Kind.BlockStatement 10 (more (list (trees (node Kind.ReturnStatement 11 (more (child (node Kind.IdentifierReference 12 (more (string (codes "C")) end))) end) ∷ []))) end))) (more (boolean false) (more (boolean false) end))))))) (more (string (codes "method")) (more (boolean false) (more (boolean true) end))))) ∷ node Kind.StaticBlock 13 (more (list (trees (node Kind.ExpressionStatement 14 (more (child (node Kind.CallExpression 15 (more (child (node Kind.IdentifierReference 16 (more (string (codes "g")) end))) (more (list (trees (node Kind.PrivateField 17 (more (child (node Kind.IdentifierReference 18 (more (string (codes "C")) end))) (more (child (node Kind.PrivateIdentifier 19 (more (string (codes "m")) end))) (more (boolean false) (more (boolean false) end)))) ∷ []))) (more (boolean false) end))))) (more no_string end)) ∷ []))) end) ∷ []))) end))) end))) ∷ []))) (more (boolean false) end))))) (more no_string end)) ∷ []))) end))

-- the function of a private method in front of its class, whose generated name it reads, where `var _C; h((g(_m), _C = class C {})); function _m() { return _C; }` is right
abbrev pub output_private_method_in_front_of_its_class : Tree
output_private_method_in_front_of_its_class = node Kind.Program 0 (more (string (codes "script")) (more (list (trees (node Kind.VariableDeclaration 20 (more (string (codes "var")) (more (list (trees (node Kind.VariableDeclarator 21 (more (child (node Kind.BindingIdentifier 22 (more (string (codes "_C")) end))) (more absent end)) ∷ []))) end)) ∷ node Kind.ExpressionStatement 1 (more (child (node Kind.CallExpression 2 (more (child (node Kind.IdentifierReference 3 (more (string (codes "h")) end))) (more (list (trees (node Kind.SequenceExpression 23 (more (list (trees (node Kind.CallExpression 15 (more (child (node Kind.IdentifierReference 16 (more (string (codes "g")) end))) (more (list (trees (node Kind.IdentifierReference 17 (more (string (codes "_m")) end) ∷ []))) (more (boolean false) end))) ∷ node Kind.AssignmentExpression 24 (more (string (codes "=")) (more (child (node Kind.IdentifierReference 25 (more (string (codes "_C")) end))) (more (child (node Kind.ClassExpression 4 (more (child (node Kind.BindingIdentifier 5 (more (string (codes "C")) end))) (more absent (more (child (node Kind.ClassBody 6 (more (list end) end))) end))))) end))) ∷ []))) end) ∷ []))) (more (boolean false) end))))) (more no_string end)) ∷ node Kind.FunctionDeclaration 9 (more (child (node Kind.BindingIdentifier 26 (more (string (codes "_m")) end))) (more (list end) (more (child (node Kind.BlockStatement 10 (more (list (trees (node Kind.ReturnStatement 11 (more (child (node Kind.IdentifierReference 12 (more (string (codes "_C")) end))) end) ∷ []))) end))) (more (boolean false) (more (boolean false) end))))) ∷ []))) end))

abbrev pub generated_private_method_in_front_of_its_class : List LedgerEntry
generated_private_method_in_front_of_its_class = record { name = codes "_C"; kind = GeneratedKind.ClassTemp (record { 0 = 4 }) } ∷ record { name = codes "_m"; kind = GeneratedKind.Method (record { 0 = 8 }) } ∷ []

abbrev pub options_private_method_in_front_of_its_class : Options
options_private_method_in_front_of_its_class = options_of true (Some (record { loose = false })) false
