-- Printed by tools/rows/witnesses.js.
use Rattle.std.specs.Prelude.{ℕ, List, [], ◌∷◌, true, false, codes, None}
use Rattle.es_base.specs.Tree.{Tree, end, more, child, absent, list, string, no_string, boolean, literal, trees}
use Rattle.es_base.specs.declared.kind.Kind.{Kind}
use Rattle.es_base.specs.declared.ledger.GeneratedKind.{GeneratedKind}
use Rattle.es_base.specs.declared.ledger.LedgerEntry.{LedgerEntry}
use Rattle.es_base.specs.declared.literal.LiteralValue.TheVariants as literal_value
use Rattle.es_steps.specs.Generated.{node}
use Rattle.es_steps.specs.Options.{options_of}
use Rattle.es_steps.specs.declared.options.Options.{Options}

-- `x = [class C { [k(() => C)]() {} static {} }, f(1)];`
abbrev pub source_call_in_front_of_a_class_with_a_block : Tree
source_call_in_front_of_a_class_with_a_block = node Kind.Program 0 (more (string (codes "script")) (more (list (trees (node Kind.ExpressionStatement 1 (more (child (node Kind.AssignmentExpression 2 (more (string (codes "=")) (more (child (node Kind.IdentifierReference 3 (more (string (codes "x")) end))) (more (child (node Kind.ArrayExpression 4 (more (list (trees (node Kind.ClassExpression 5 (more (child (node Kind.BindingIdentifier 6 (more (string (codes "C")) end))) (more absent (more (child (node Kind.ClassBody 7 (more (list (trees (node Kind.MethodDefinition 8 (more (child (node Kind.CallExpression 9 (more (child (node Kind.IdentifierReference 10 (more (string (codes "k")) end))) (more (list (trees (node Kind.ArrowFunctionExpression 11 (more (list end) (more (child (node Kind.IdentifierReference 12 (more (string (codes "C")) end))) (more (boolean false) end))) ∷ []))) (more (boolean false) end))))) (more (child (node Kind.FunctionExpression 13 (more absent (more (list end) (more (child (node Kind.BlockStatement 14 (more (list end) end))) (more (boolean false) (more (boolean false) end))))))) (more (string (codes "method")) (more (boolean true) (more (boolean false) end))))) ∷ node Kind.StaticBlock 15 (more (list end) end) ∷ []))) end))) end))) ∷ node Kind.CallExpression 16 (more (child (node Kind.IdentifierReference 17 (more (string (codes "f")) end))) (more (list (trees (node Kind.Literal 18 (more (literal (literal_value.Number (codes "1"))) end) ∷ []))) (more (boolean false) end))) ∷ []))) end))) end))))) (more no_string end)) ∷ []))) end))

-- what stands behind a class expression with a static block, in front of it, where a key has given a function away that reads its name: `var _C, _k, _t; x = (_k = k(() => _C), _t = f(1), [_C = class C { [_k]() {} }, _t]);`
abbrev pub output_call_in_front_of_a_class_with_a_block : Tree
output_call_in_front_of_a_class_with_a_block = node Kind.Program 0 (more (string (codes "script")) (more (list (trees (node Kind.VariableDeclaration 19 (more (string (codes "var")) (more (list (trees (node Kind.VariableDeclarator 20 (more (child (node Kind.BindingIdentifier 21 (more (string (codes "_C")) end))) (more absent end)) ∷ node Kind.VariableDeclarator 22 (more (child (node Kind.BindingIdentifier 23 (more (string (codes "_k")) end))) (more absent end)) ∷ node Kind.VariableDeclarator 24 (more (child (node Kind.BindingIdentifier 25 (more (string (codes "_t")) end))) (more absent end)) ∷ []))) end)) ∷ node Kind.ExpressionStatement 1 (more (child (node Kind.AssignmentExpression 2 (more (string (codes "=")) (more (child (node Kind.IdentifierReference 3 (more (string (codes "x")) end))) (more (child (node Kind.SequenceExpression 26 (more (list (trees (node Kind.AssignmentExpression 27 (more (string (codes "=")) (more (child (node Kind.IdentifierReference 28 (more (string (codes "_k")) end))) (more (child (node Kind.CallExpression 9 (more (child (node Kind.IdentifierReference 10 (more (string (codes "k")) end))) (more (list (trees (node Kind.ArrowFunctionExpression 11 (more (list end) (more (child (node Kind.IdentifierReference 12 (more (string (codes "_C")) end))) (more (boolean false) end))) ∷ []))) (more (boolean false) end))))) end))) ∷ node Kind.AssignmentExpression 29 (more (string (codes "=")) (more (child (node Kind.IdentifierReference 30 (more (string (codes "_t")) end))) (more (child (node Kind.CallExpression 16 (more (child (node Kind.IdentifierReference 17 (more (string (codes "f")) end))) (more (list (trees (node Kind.Literal 18 (more (literal (literal_value.Number (codes "1"))) end) ∷ []))) (more (boolean false) end))))) end))) ∷ node Kind.ArrayExpression 4 (more (list (trees (node Kind.AssignmentExpression 31 (more (string (codes "=")) (more (child (node Kind.IdentifierReference 32 (more (string (codes "_C")) end))) (more (child (node Kind.ClassExpression 5 (more (child (node Kind.BindingIdentifier 6 (more (string (codes "C")) end))) (more absent (more (child (node Kind.ClassBody 7 (more (list (trees (node Kind.MethodDefinition 8 (more (child (node Kind.IdentifierReference 33 (more (string (codes "_k")) end))) (more (child (node Kind.FunctionExpression 13 (more absent (more (list end) (more (child (node Kind.BlockStatement 14 (more (list end) end))) (more (boolean false) (more (boolean false) end))))))) (more (string (codes "method")) (more (boolean true) (more (boolean false) end))))) ∷ []))) end))) end))))) end))) ∷ node Kind.IdentifierReference 34 (more (string (codes "_t")) end) ∷ []))) end) ∷ []))) end))) end))))) (more no_string end)) ∷ []))) end))

abbrev pub generated_call_in_front_of_a_class_with_a_block : List LedgerEntry
generated_call_in_front_of_a_class_with_a_block = record { name = codes "_C"; kind = GeneratedKind.ClassTemp (record { 0 = 5 }) } ∷ record { name = codes "_k"; kind = GeneratedKind.Temp } ∷ record { name = codes "_t"; kind = GeneratedKind.Temp } ∷ []

abbrev pub options_call_in_front_of_a_class_with_a_block : Options
options_call_in_front_of_a_class_with_a_block = options_of true None false
