-- Printed by tools/rows/witnesses.js.
use Rattle.std.specs.Prelude.{ℕ, List, [], ◌∷◌, false, codes, Some, None}
use Rattle.es_base.specs.Tree.{Tree, end, more, child, absent, list, string, no_string, boolean, literal, trees}
use Rattle.es_base.specs.declared.kind.Kind.{Kind}
use Rattle.es_base.specs.declared.ledger.LedgerEntry.{LedgerEntry}
use Rattle.es_base.specs.declared.literal.LiteralValue.TheVariants as literal_value
use Rattle.es_steps.specs.Generated.{node}
use Rattle.es_steps.specs.Options.{options_of}
use Rattle.es_steps.specs.declared.options.Options.{Options}

-- `function F() { f((new.target, class { x = 1; })); } new F();`
abbrev pub source_new_target_outside : Tree
source_new_target_outside = node Kind.Program 0 (more (string (codes "script")) (more (list (trees (node Kind.FunctionDeclaration 1 (more (child (node Kind.BindingIdentifier 2 (more (string (codes "F")) end))) (more (list end) (more (child (node Kind.BlockStatement 3 (more (list (trees (node Kind.ExpressionStatement 4 (more (child (node Kind.CallExpression 5 (more (child (node Kind.IdentifierReference 6 (more (string (codes "f")) end))) (more (list (trees (node Kind.SequenceExpression 7 (more (list (trees (node Kind.MetaProperty 8 (more (child (node Kind.IdentifierName 9 (more (string (codes "new")) end))) (more (child (node Kind.IdentifierName 10 (more (string (codes "target")) end))) end)) ∷ node Kind.ClassExpression 11 (more absent (more absent (more (child (node Kind.ClassBody 12 (more (list (trees (node Kind.PropertyDefinition 13 (more (child (node Kind.IdentifierName 14 (more (string (codes "x")) end))) (more (child (node Kind.Literal 15 (more (literal (literal_value.Number (codes "1"))) end))) (more (boolean false) (more (boolean false) end)))) ∷ []))) end))) end))) ∷ []))) end) ∷ []))) (more (boolean false) end))))) (more no_string end)) ∷ []))) end))) (more (boolean false) (more (boolean false) end))))) ∷ node Kind.ExpressionStatement 16 (more (child (node Kind.NewExpression 17 (more (child (node Kind.IdentifierReference 18 (more (string (codes "F")) end))) (more (list end) end)))) (more no_string end)) ∷ []))) end))

-- `new.target` as a new statement of the program, where `function F() { f((new.target, class { constructor() { B.defineProperty(this, "x", 1); } })); } new F();` is right
abbrev pub output_new_target_outside : Tree
output_new_target_outside = node Kind.Program 0 (more (string (codes "script")) (more (list (trees (node Kind.FunctionDeclaration 1 (more (child (node Kind.BindingIdentifier 2 (more (string (codes "F")) end))) (more (list end) (more (child (node Kind.BlockStatement 3 (more (list (trees (node Kind.ExpressionStatement 4 (more (child (node Kind.CallExpression 5 (more (child (node Kind.IdentifierReference 6 (more (string (codes "f")) end))) (more (list (trees (node Kind.ClassExpression 11 (more absent (more absent (more (child (node Kind.ClassBody 12 (more (list (trees (node Kind.MethodDefinition 19 (more (child (node Kind.IdentifierName 20 (more (string (codes "constructor")) end))) (more (child (node Kind.FunctionExpression 21 (more absent (more (list end) (more (child (node Kind.BlockStatement 22 (more (list (trees (node Kind.ExpressionStatement 23 (more (child (node Kind.CallExpression 24 (more (child (node Kind.MemberExpression 25 (more (child (node Kind.IdentifierReference 26 (more (string (codes "babelHelpers")) end))) (more (child (node Kind.IdentifierName 27 (more (string (codes "defineProperty")) end))) (more (boolean false) (more (boolean false) end)))))) (more (list (trees (node Kind.ThisExpression 28 end ∷ node Kind.Literal 29 (more (literal (literal_value.String (codes "x") None)) end) ∷ node Kind.Literal 15 (more (literal (literal_value.Number (codes "1"))) end) ∷ []))) (more (boolean false) end))))) (more no_string end)) ∷ []))) end))) (more (boolean false) (more (boolean false) end))))))) (more (string (codes "constructor")) (more (boolean false) (more (boolean false) end))))) ∷ []))) end))) end))) ∷ []))) (more (boolean false) end))))) (more no_string end)) ∷ []))) end))) (more (boolean false) (more (boolean false) end))))) ∷ node Kind.ExpressionStatement 16 (more (child (node Kind.NewExpression 17 (more (child (node Kind.IdentifierReference 18 (more (string (codes "F")) end))) (more (list end) end)))) (more no_string end)) ∷ node Kind.ExpressionStatement 30 (more (child (node Kind.MetaProperty 8 (more (child (node Kind.IdentifierName 9 (more (string (codes "new")) end))) (more (child (node Kind.IdentifierName 10 (more (string (codes "target")) end))) end)))) (more no_string end)) ∷ []))) end))

abbrev pub generated_new_target_outside : List LedgerEntry
generated_new_target_outside = []

abbrev pub options_new_target_outside : Options
options_new_target_outside = options_of false (Some (record { loose = false })) false
