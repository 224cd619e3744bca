-- Printed by tools/rows/witnesses.js.
use Rattle.std.specs.Prelude.{ℕ, List, [], ◌∷◌, true, false, codes, None}
use Rattle.es_base.specs.Tree.{Tree, end, more, child, absent, list, string, no_string, boolean, trees}
use Rattle.es_base.specs.declared.kind.Kind.{Kind}
use Rattle.es_base.specs.declared.ledger.GeneratedKind.{GeneratedKind}
use Rattle.es_base.specs.declared.ledger.LedgerEntry.{LedgerEntry}
use Rattle.es_steps.specs.Generated.{node}
use Rattle.es_steps.specs.Options.{options_of}
use Rattle.es_steps.specs.declared.options.Options.{Options}

-- `let k = h(); class C { static { f(); } static [k] = class {}; }`
abbrev pub source_key_of_a_binding_for_a_name : Tree
source_key_of_a_binding_for_a_name = node Kind.Program 0 (more (string (codes "script")) (more (list (trees (node Kind.VariableDeclaration 1 (more (string (codes "let")) (more (list (trees (node Kind.VariableDeclarator 2 (more (child (node Kind.BindingIdentifier 3 (more (string (codes "k")) end))) (more (child (node Kind.CallExpression 4 (more (child (node Kind.IdentifierReference 5 (more (string (codes "h")) end))) (more (list end) (more (boolean false) end))))) end)) ∷ []))) end)) ∷ node Kind.ClassDeclaration 6 (more (child (node Kind.BindingIdentifier 7 (more (string (codes "C")) end))) (more absent (more (child (node Kind.ClassBody 8 (more (list (trees (node Kind.StaticBlock 9 (more (list (trees (node Kind.ExpressionStatement 10 (more (child (node Kind.CallExpression 11 (more (child (node Kind.IdentifierReference 12 (more (string (codes "f")) end))) (more (list end) (more (boolean false) end))))) (more no_string end)) ∷ []))) end) ∷ node Kind.PropertyDefinition 13 (more (child (node Kind.IdentifierReference 14 (more (string (codes "k")) end))) (more (child (node Kind.ClassExpression 15 (more absent (more absent (more (child (node Kind.ClassBody 16 (more (list end) end))) end))))) (more (boolean true) (more (boolean true) end)))) ∷ []))) end))) end))) ∷ []))) end))

-- the key of a binding in a temporary that names a class, as `var _key; let k = h(); class C { static [_key = B.toPropertyKey(k)] = (f(), ((_name, _object) => _object[_name])(_key, { [_key]: class {} })); }` means
abbrev pub output_key_of_a_binding_for_a_name : Tree
output_key_of_a_binding_for_a_name = node Kind.Program 0 (more (string (codes "script")) (more (list (trees (node Kind.VariableDeclaration 17 (more (string (codes "var")) (more (list (trees (node Kind.VariableDeclarator 18 (more (child (node Kind.BindingIdentifier 19 (more (string (codes "_key")) end))) (more absent end)) ∷ []))) end)) ∷ node Kind.VariableDeclaration 1 (more (string (codes "let")) (more (list (trees (node Kind.VariableDeclarator 2 (more (child (node Kind.BindingIdentifier 3 (more (string (codes "k")) end))) (more (child (node Kind.CallExpression 4 (more (child (node Kind.IdentifierReference 5 (more (string (codes "h")) end))) (more (list end) (more (boolean false) end))))) end)) ∷ []))) end)) ∷ node Kind.ClassDeclaration 6 (more (child (node Kind.BindingIdentifier 7 (more (string (codes "C")) end))) (more absent (more (child (node Kind.ClassBody 8 (more (list (trees (node Kind.PropertyDefinition 13 (more (child (node Kind.AssignmentExpression 20 (more (string (codes "=")) (more (child (node Kind.IdentifierReference 21 (more (string (codes "_key")) end))) (more (child (node Kind.CallExpression 22 (more (child (node Kind.MemberExpression 23 (more (child (node Kind.IdentifierReference 24 (more (string (codes "babelHelpers")) end))) (more (child (node Kind.IdentifierName 25 (more (string (codes "toPropertyKey")) end))) (more (boolean false) (more (boolean false) end)))))) (more (list (trees (node Kind.IdentifierReference 14 (more (string (codes "k")) end) ∷ []))) (more (boolean false) end))))) end))))) (more (child (node Kind.SequenceExpression 26 (more (list (trees (node Kind.CallExpression 11 (more (child (node Kind.IdentifierReference 12 (more (string (codes "f")) end))) (more (list end) (more (boolean false) end))) ∷ node Kind.CallExpression 27 (more (child (node Kind.ArrowFunctionExpression 28 (more (list (trees (node Kind.BindingIdentifier 29 (more (string (codes "_name")) end) ∷ node Kind.BindingIdentifier 30 (more (string (codes "_object")) end) ∷ []))) (more (child (node Kind.MemberExpression 31 (more (child (node Kind.IdentifierReference 32 (more (string (codes "_object")) end))) (more (child (node Kind.IdentifierReference 33 (more (string (codes "_name")) end))) (more (boolean true) (more (boolean false) end)))))) (more (boolean false) end))))) (more (list (trees (node Kind.IdentifierReference 34 (more (string (codes "_key")) end) ∷ node Kind.ObjectExpression 35 (more (list (trees (node Kind.Property 36 (more (child (node Kind.IdentifierReference 37 (more (string (codes "_key")) end))) (more (child (node Kind.ClassExpression 15 (more absent (more absent (more (child (node Kind.ClassBody 16 (more (list end) end))) end))))) (more (string (codes "init")) (more (boolean false) (more (boolean false) (more (boolean true) end)))))) ∷ []))) end) ∷ []))) (more (boolean false) end))) ∷ []))) end))) (more (boolean true) (more (boolean true) end)))) ∷ []))) end))) end))) ∷ []))) end))

abbrev pub generated_key_of_a_binding_for_a_name : List LedgerEntry
generated_key_of_a_binding_for_a_name = record { name = codes "_key"; kind = GeneratedKind.Temp } ∷ record { name = codes "_name"; kind = GeneratedKind.Param } ∷ record { name = codes "_object"; kind = GeneratedKind.Param } ∷ []

abbrev pub options_key_of_a_binding_for_a_name : Options
options_key_of_a_binding_for_a_name = options_of true None false
