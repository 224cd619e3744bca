-- Printed by tools/rows/witnesses.js.
use Rattle.std.specs.Prelude.{ℕ, List, [], ◌∷◌, true, false, codes, None}
use Rattle.es_base.specs.Tree.{Tree, end, more, child, absent, list, string, no_string, boolean, literal, trees}
use Rattle.es_base.specs.declared.kind.Kind.{Kind}
use Rattle.es_base.specs.declared.ledger.GeneratedKind.{GeneratedKind}
use Rattle.es_base.specs.declared.ledger.LedgerEntry.{LedgerEntry}
use Rattle.es_base.specs.declared.literal.LiteralValue.TheVariants as literal_value
use Rattle.es_steps.specs.Generated.{node}
use Rattle.es_steps.specs.Options.{options_of}
use Rattle.es_steps.specs.declared.options.Options.{Options}

-- `f(Object.values(new (class { [k()] = class { static { g(); } static a = 1; }; })()));`
abbrev pub source_unconverted_kept_key : Tree
source_unconverted_kept_key = node Kind.Program 0 (more (string (codes "script")) (more (list (trees (node Kind.ExpressionStatement 1 (more (child (node Kind.CallExpression 2 (more (child (node Kind.IdentifierReference 3 (more (string (codes "f")) end))) (more (list (trees (node Kind.CallExpression 4 (more (child (node Kind.MemberExpression 5 (more (child (node Kind.IdentifierReference 6 (more (string (codes "Object")) end))) (more (child (node Kind.IdentifierName 7 (more (string (codes "values")) end))) (more (boolean false) (more (boolean false) end)))))) (more (list (trees (node Kind.NewExpression 8 (more (child (node Kind.ClassExpression 9 (more absent (more absent (more (child (node Kind.ClassBody 10 (more (list (trees (node Kind.PropertyDefinition 11 (more (child (node Kind.CallExpression 12 (more (child (node Kind.IdentifierReference 13 (more (string (codes "k")) end))) (more (list end) (more (boolean false) end))))) (more (child (node Kind.ClassExpression 14 (more absent (more absent (more (child (node Kind.ClassBody 15 (more (list (trees (node Kind.StaticBlock 16 (more (list (trees (node Kind.ExpressionStatement 17 (more (child (node Kind.CallExpression 18 (more (child (node Kind.IdentifierReference 19 (more (string (codes "g")) end))) (more (list end) (more (boolean false) end))))) (more no_string end)) ∷ []))) end) ∷ node Kind.PropertyDefinition 20 (more (child (node Kind.IdentifierName 21 (more (string (codes "a")) end))) (more (child (node Kind.Literal 22 (more (literal (literal_value.Number (codes "1"))) end))) (more (boolean false) (more (boolean true) end)))) ∷ []))) end))) end))))) (more (boolean true) (more (boolean false) end)))) ∷ []))) end))) end))))) (more (list end) end)) ∷ []))) (more (boolean false) end))) ∷ []))) (more (boolean false) end))))) (more no_string end)) ∷ []))) end))

-- a key that is kept, and converted twice, where `var _key; f(Object.values(new (class { [_key = B.toPropertyKey(k())] = ((_name, _object) => _object[_name])(_key, { [_key]: class { static a = (g(), 1); } }); })()));` is right
abbrev pub output_unconverted_kept_key : Tree
output_unconverted_kept_key = node Kind.Program 0 (more (string (codes "script")) (more (list (trees (node Kind.VariableDeclaration 23 (more (string (codes "var")) (more (list (trees (node Kind.VariableDeclarator 24 (more (child (node Kind.BindingIdentifier 25 (more (string (codes "_key")) end))) (more absent end)) ∷ []))) end)) ∷ node Kind.ExpressionStatement 1 (more (child (node Kind.CallExpression 2 (more (child (node Kind.IdentifierReference 3 (more (string (codes "f")) end))) (more (list (trees (node Kind.CallExpression 4 (more (child (node Kind.MemberExpression 5 (more (child (node Kind.IdentifierReference 6 (more (string (codes "Object")) end))) (more (child (node Kind.IdentifierName 7 (more (string (codes "values")) end))) (more (boolean false) (more (boolean false) end)))))) (more (list (trees (node Kind.NewExpression 8 (more (child (node Kind.ClassExpression 9 (more absent (more absent (more (child (node Kind.ClassBody 10 (more (list (trees (node Kind.PropertyDefinition 11 (more (child (node Kind.AssignmentExpression 26 (more (string (codes "=")) (more (child (node Kind.IdentifierReference 27 (more (string (codes "_key")) end))) (more (child (node Kind.CallExpression 12 (more (child (node Kind.IdentifierReference 13 (more (string (codes "k")) end))) (more (list end) (more (boolean false) end))))) end))))) (more (child (node Kind.CallExpression 28 (more (child (node Kind.ArrowFunctionExpression 29 (more (list (trees (node Kind.BindingIdentifier 30 (more (string (codes "_name")) end) ∷ node Kind.BindingIdentifier 31 (more (string (codes "_object")) end) ∷ []))) (more (child (node Kind.MemberExpression 32 (more (child (node Kind.IdentifierReference 33 (more (string (codes "_object")) end))) (more (child (node Kind.IdentifierReference 34 (more (string (codes "_name")) end))) (more (boolean true) (more (boolean false) end)))))) (more (boolean false) end))))) (more (list (trees (node Kind.IdentifierReference 35 (more (string (codes "_key")) end) ∷ node Kind.ObjectExpression 36 (more (list (trees (node Kind.Property 37 (more (child (node Kind.IdentifierReference 38 (more (string (codes "_key")) end))) (more (child (node Kind.ClassExpression 14 (more absent (more absent (more (child (node Kind.ClassBody 15 (more (list (trees (node Kind.PropertyDefinition 20 (more (child (node Kind.IdentifierName 21 (more (string (codes "a")) end))) (more (child (node Kind.SequenceExpression 39 (more (list (trees (node Kind.CallExpression 18 (more (child (node Kind.IdentifierReference 19 (more (string (codes "g")) end))) (more (list end) (more (boolean false) end))) ∷ node Kind.Literal 22 (more (literal (literal_value.Number (codes "1"))) end) ∷ []))) end))) (more (boolean false) (more (boolean true) end)))) ∷ []))) end))) end))))) (more (string (codes "init")) (more (boolean false) (more (boolean false) (more (boolean true) end)))))) ∷ []))) end) ∷ []))) (more (boolean false) end))))) (more (boolean true) (more (boolean false) end)))) ∷ []))) end))) end))))) (more (list end) end)) ∷ []))) (more (boolean false) end))) ∷ []))) (more (boolean false) end))))) (more no_string end)) ∷ []))) end))

abbrev pub generated_unconverted_kept_key : List LedgerEntry
generated_unconverted_kept_key = record { name = codes "_key"; kind = GeneratedKind.Temp } ∷ record { name = codes "_name"; kind = GeneratedKind.Param } ∷ record { name = codes "_object"; kind = GeneratedKind.Param } ∷ []

abbrev pub options_unconverted_kept_key : Options
options_unconverted_kept_key = options_of true None false
