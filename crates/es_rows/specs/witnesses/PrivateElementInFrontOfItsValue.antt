-- Printed by tools/rows/witnesses.js.
use Rattle.std.specs.Prelude.{ℕ, List, [], ◌∷◌, true, false, codes, None}
use Rattle.es_base.specs.Tree.{Tree, end, more, child, absent, list, string, no_string, boolean, trees}
use Rattle.es_base.specs.declared.kind.Kind.{Kind}
use Rattle.es_base.specs.declared.ledger.GeneratedKind.{GeneratedKind}
use Rattle.es_base.specs.declared.ledger.LedgerEntry.{LedgerEntry}
use Rattle.es_steps.specs.Generated.{node}
use Rattle.es_steps.specs.Options.{options_of}
use Rattle.es_steps.specs.declared.options.Options.{Options}

-- `class A { static [k()] = function () {}; static { g(); } }`
abbrev pub source_private_element_in_front_of_its_value : Tree
source_private_element_in_front_of_its_value = node Kind.Program 0 (more (string (codes "script")) (more (list (trees (node Kind.ClassDeclaration 1 (more (child (node Kind.BindingIdentifier 2 (more (string (codes "A")) end))) (more absent (more (child (node Kind.ClassBody 3 (more (list (trees (node Kind.PropertyDefinition 4 (more (child (node Kind.CallExpression 5 (more (child (node Kind.IdentifierReference 6 (more (string (codes "k")) end))) (more (list end) (more (boolean false) end))))) (more (child (node Kind.FunctionExpression 7 (more absent (more (list end) (more (child (node Kind.BlockStatement 8 (more (list end) end))) (more (boolean false) (more (boolean false) end))))))) (more (boolean true) (more (boolean true) end)))) ∷ node Kind.StaticBlock 9 (more (list (trees (node Kind.ExpressionStatement 10 (more (child (node Kind.CallExpression 11 (more (child (node Kind.IdentifierReference 12 (more (string (codes "g")) end))) (more (list end) (more (boolean false) end))))) (more no_string end)) ∷ []))) end) ∷ []))) end))) end))) ∷ []))) end))

-- a name by a private element that is given behind it: `var _k; class A { static [_k = B.toPropertyKey(k())] = ((_n, _o) => _o[_n])(A.#_p, { [A.#_p]: function () {} }); static #_p = _k; static #_ = g(); }`
abbrev pub output_private_element_in_front_of_its_value : Tree
output_private_element_in_front_of_its_value = node Kind.Program 0 (more (string (codes "script")) (more (list (trees (node Kind.VariableDeclaration 13 (more (string (codes "var")) (more (list (trees (node Kind.VariableDeclarator 14 (more (child (node Kind.BindingIdentifier 15 (more (string (codes "_k")) end))) (more absent end)) ∷ []))) end)) ∷ node Kind.ClassDeclaration 1 (more (child (node Kind.BindingIdentifier 2 (more (string (codes "A")) end))) (more absent (more (child (node Kind.ClassBody 3 (more (list (trees (node Kind.PropertyDefinition 4 (more (child (node Kind.AssignmentExpression 16 (more (string (codes "=")) (more (child (node Kind.IdentifierReference 17 (more (string (codes "_k")) end))) (more (child (node Kind.CallExpression 18 (more (child (node Kind.MemberExpression 19 (more (child (node Kind.IdentifierReference 20 (more (string (codes "babelHelpers")) end))) (more (child (node Kind.IdentifierName 21 (more (string (codes "toPropertyKey")) end))) (more (boolean false) (more (boolean false) end)))))) (more (list (trees (node Kind.CallExpression 5 (more (child (node Kind.IdentifierReference 6 (more (string (codes "k")) end))) (more (list end) (more (boolean false) end))) ∷ []))) (more (boolean false) end))))) end))))) (more (child (node Kind.CallExpression 22 (more (child (node Kind.ArrowFunctionExpression 23 (more (list (trees (node Kind.BindingIdentifier 24 (more (string (codes "_n")) end) ∷ node Kind.BindingIdentifier 25 (more (string (codes "_o")) end) ∷ []))) (more (child (node Kind.MemberExpression 26 (more (child (node Kind.IdentifierReference 27 (more (string (codes "_o")) end))) (more (child (node Kind.IdentifierReference 28 (more (string (codes "_n")) end))) (more (boolean true) (more (boolean false) end)))))) (more (boolean false) end))))) (more (list (trees (node Kind.PrivateField 29 (more (child (node Kind.IdentifierReference 30 (more (string (codes "A")) end))) (more (child (node Kind.PrivateIdentifier 31 (more (string (codes "_p")) end))) (more (boolean false) (more (boolean false) end)))) ∷ node Kind.ObjectExpression 32 (more (list (trees (node Kind.Property 33 (more (child (node Kind.PrivateField 34 (more (child (node Kind.IdentifierReference 35 (more (string (codes "A")) end))) (more (child (node Kind.PrivateIdentifier 36 (more (string (codes "_p")) end))) (more (boolean false) (more (boolean false) end)))))) (more (child (node Kind.FunctionExpression 7 (more absent (more (list end) (more (child (node Kind.BlockStatement 8 (more (list end) end))) (more (boolean false) (more (boolean false) end))))))) (more (string (codes "init")) (more (boolean false) (more (boolean false) (more (boolean true) end)))))) ∷ []))) end) ∷ []))) (more (boolean false) end))))) (more (boolean true) (more (boolean true) end)))) ∷ node Kind.PropertyDefinition 37 (more (child (node Kind.PrivateIdentifier 38 (more (string (codes "_p")) end))) (more (child (node Kind.IdentifierReference 39 (more (string (codes "_k")) end))) (more (boolean false) (more (boolean true) end)))) ∷ node Kind.PropertyDefinition 40 (more (child (node Kind.PrivateIdentifier 41 (more (string (codes "_")) end))) (more (child (node Kind.CallExpression 11 (more (child (node Kind.IdentifierReference 12 (more (string (codes "g")) end))) (more (list end) (more (boolean false) end))))) (more (boolean false) (more (boolean true) end)))) ∷ []))) end))) end))) ∷ []))) end))

abbrev pub generated_private_element_in_front_of_its_value : List LedgerEntry
generated_private_element_in_front_of_its_value = record { name = codes "_k"; kind = GeneratedKind.Temp } ∷ record { name = codes "_n"; kind = GeneratedKind.Param } ∷ record { name = codes "_o"; kind = GeneratedKind.Param } ∷ record { name = codes "_p"; kind = GeneratedKind.Private (record { 0 = 1 }) } ∷ record { name = codes "_"; kind = GeneratedKind.Private (record { 0 = 1 }) } ∷ []

abbrev pub options_private_element_in_front_of_its_value : Options
options_private_element_in_front_of_its_value = options_of true None false
