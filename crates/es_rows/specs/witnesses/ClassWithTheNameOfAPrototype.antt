-- Printed by tools/rows/witnesses.js.
use Rattle.std.specs.Prelude.{ℕ, List, [], ◌∷◌, true, false, codes, None}
use Rattle.es_base.specs.Tree.{Tree, end, more, child, absent, list, string, no_string, boolean, literal, trees}
use Rattle.es_base.specs.declared.kind.Kind.{Kind}
use Rattle.es_base.specs.declared.ledger.GeneratedKind.{GeneratedKind}
use Rattle.es_base.specs.declared.ledger.LedgerEntry.{LedgerEntry}
use Rattle.es_base.specs.declared.literal.LiteralValue.TheVariants as literal_value
use Rattle.es_steps.specs.Generated.{node}
use Rattle.es_steps.specs.Options.{options_of}
use Rattle.es_steps.specs.declared.options.Options.{Options}

-- `let __proto__ = class { static { f(1); } };`
abbrev pub source_class_with_the_name_of_a_prototype : Tree
source_class_with_the_name_of_a_prototype = node Kind.Program 0 (more (string (codes "script")) (more (list (trees (node Kind.VariableDeclaration 1 (more (string (codes "let")) (more (list (trees (node Kind.VariableDeclarator 2 (more (child (node Kind.BindingIdentifier 3 (more (string (codes "__proto__")) end))) (more (child (node Kind.ClassExpression 4 (more absent (more absent (more (child (node Kind.ClassBody 5 (more (list (trees (node Kind.StaticBlock 6 (more (list (trees (node Kind.ExpressionStatement 7 (more (child (node Kind.CallExpression 8 (more (child (node Kind.IdentifierReference 9 (more (string (codes "f")) end))) (more (list (trees (node Kind.Literal 10 (more (literal (literal_value.Number (codes "1"))) end) ∷ []))) (more (boolean false) end))))) (more no_string end)) ∷ []))) end) ∷ []))) end))) end))))) end)) ∷ []))) end)) ∷ []))) end))

-- a class that keeps the name `__proto__` by a computed key, as `var _staticBlock; let __proto__ = ({ ["__proto__"]: class { static #_ = _staticBlock = () => (f(1), this); } }["__proto__"], _staticBlock());` means
abbrev pub output_class_with_the_name_of_a_prototype : Tree
output_class_with_the_name_of_a_prototype = node Kind.Program 0 (more (string (codes "script")) (more (list (trees (node Kind.VariableDeclaration 11 (more (string (codes "var")) (more (list (trees (node Kind.VariableDeclarator 12 (more (child (node Kind.BindingIdentifier 13 (more (string (codes "_staticBlock")) end))) (more absent end)) ∷ []))) end)) ∷ node Kind.VariableDeclaration 1 (more (string (codes "let")) (more (list (trees (node Kind.VariableDeclarator 2 (more (child (node Kind.BindingIdentifier 3 (more (string (codes "__proto__")) end))) (more (child (node Kind.SequenceExpression 14 (more (list (trees (node Kind.MemberExpression 15 (more (child (node Kind.ObjectExpression 16 (more (list (trees (node Kind.Property 17 (more (child (node Kind.Literal 18 (more (literal (literal_value.String (codes "__proto__") None)) end))) (more (child (node Kind.ClassExpression 4 (more absent (more absent (more (child (node Kind.ClassBody 5 (more (list (trees (node Kind.PropertyDefinition 19 (more (child (node Kind.PrivateIdentifier 20 (more (string (codes "_")) end))) (more (child (node Kind.AssignmentExpression 21 (more (string (codes "=")) (more (child (node Kind.IdentifierReference 22 (more (string (codes "_staticBlock")) end))) (more (child (node Kind.ArrowFunctionExpression 23 (more (list end) (more (child (node Kind.SequenceExpression 24 (more (list (trees (node Kind.CallExpression 8 (more (child (node Kind.IdentifierReference 9 (more (string (codes "f")) end))) (more (list (trees (node Kind.Literal 10 (more (literal (literal_value.Number (codes "1"))) end) ∷ []))) (more (boolean false) end))) ∷ node Kind.ThisExpression 25 end ∷ []))) end))) (more (boolean false) end))))) end))))) (more (boolean false) (more (boolean true) end)))) ∷ []))) end))) end))))) (more (string (codes "init")) (more (boolean false) (more (boolean false) (more (boolean true) end)))))) ∷ []))) end))) (more (child (node Kind.Literal 26 (more (literal (literal_value.String (codes "__proto__") None)) end))) (more (boolean true) (more (boolean false) end)))) ∷ node Kind.CallExpression 27 (more (child (node Kind.IdentifierReference 28 (more (string (codes "_staticBlock")) end))) (more (list end) (more (boolean false) end))) ∷ []))) end))) end)) ∷ []))) end)) ∷ []))) end))

abbrev pub generated_class_with_the_name_of_a_prototype : List LedgerEntry
generated_class_with_the_name_of_a_prototype = record { name = codes "_"; kind = GeneratedKind.Private (record { 0 = 4 }) } ∷ record { name = codes "_staticBlock"; kind = GeneratedKind.Closure } ∷ []

abbrev pub options_class_with_the_name_of_a_prototype : Options
options_class_with_the_name_of_a_prototype = options_of true None false
