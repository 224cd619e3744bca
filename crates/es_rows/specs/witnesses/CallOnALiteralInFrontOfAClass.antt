-- Printed by tools/rows/witnesses.js.
use Rattle.std.specs.Prelude.{ℕ, List, [], ◌∷◌, true, false, codes, Some}
use Rattle.es_base.specs.Tree.{Tree, end, more, child, absent, list, string, no_string, boolean, literal, trees}
use Rattle.es_base.specs.declared.kind.Kind.{Kind}
use Rattle.es_base.specs.declared.ledger.GeneratedKind.{GeneratedKind}
use Rattle.es_base.specs.declared.ledger.LedgerEntry.{LedgerEntry}
use Rattle.es_base.specs.declared.literal.LiteralValue.TheVariants as literal_value
use Rattle.es_steps.specs.Generated.{node}
use Rattle.es_steps.specs.Options.{options_of}
use Rattle.es_steps.specs.declared.options.Options.{Options}

-- `x = class C { [k(() => C)]() {} static { "".m(); } };`
abbrev pub source_call_on_a_literal_in_front_of_a_class : Tree
source_call_on_a_literal_in_front_of_a_class = node Kind.Program 0 (more (string (codes "script")) (more (list (trees (node Kind.ExpressionStatement 1 (more (child (node Kind.AssignmentExpression 2 (more (string (codes "=")) (more (child (node Kind.IdentifierReference 3 (more (string (codes "x")) end))) (more (child (node Kind.ClassExpression 4 (more (child (node Kind.BindingIdentifier 5 (more (string (codes "C")) end))) (more absent (more (child (node Kind.ClassBody 6 (more (list (trees (node Kind.MethodDefinition 7 (more (child (node Kind.CallExpression 8 (more (child (node Kind.IdentifierReference 9 (more (string (codes "k")) end))) (more (list (trees (node Kind.ArrowFunctionExpression 10 (more (list end) (more (child (node Kind.IdentifierReference 11 (more (string (codes "C")) end))) (more (boolean false) end))) ∷ []))) (more (boolean false) end))))) (more (child (node Kind.FunctionExpression 12 (more absent (more (list end) (more (child (node Kind.BlockStatement 13 (more (list end) end))) (more (boolean false) (more (boolean false) end))))))) (more (string (codes "method")) (more (boolean true) (more (boolean false) end))))) ∷ node Kind.StaticBlock 14 (more (list (trees (node Kind.ExpressionStatement 15 (more (child (node Kind.CallExpression 16 (more (child (node Kind.MemberExpression 17 (more (child (node Kind.Literal 18 (more (literal (literal_value.String (codes "") (Some (codes "\"\"")))) end))) (more (child (node Kind.IdentifierName 19 (more (string (codes "m")) end))) (more (boolean false) (more (boolean false) end)))))) (more (list end) (more (boolean false) end))))) (more no_string end)) ∷ []))) end) ∷ []))) end))) end))))) end))))) (more no_string end)) ∷ []))) end))

-- a static block without names in front of its class expression, where a key has given a function away that reads its name: `var _C, _k; x = (_k = k(() => _C), "".m(), _C = class C { [_k]() {} }, _C);`
abbrev pub output_call_on_a_literal_in_front_of_a_class : Tree
output_call_on_a_literal_in_front_of_a_class = node Kind.Program 0 (more (string (codes "script")) (more (list (trees (node Kind.VariableDeclaration 20 (more (string (codes "var")) (more (list (trees (node Kind.VariableDeclarator 21 (more (child (node Kind.BindingIdentifier 22 (more (string (codes "_C")) end))) (more absent end)) ∷ node Kind.VariableDeclarator 23 (more (child (node Kind.BindingIdentifier 24 (more (string (codes "_k")) end))) (more absent end)) ∷ []))) end)) ∷ node Kind.ExpressionStatement 1 (more (child (node Kind.AssignmentExpression 2 (more (string (codes "=")) (more (child (node Kind.IdentifierReference 3 (more (string (codes "x")) end))) (more (child (node Kind.SequenceExpression 25 (more (list (trees (node Kind.AssignmentExpression 26 (more (string (codes "=")) (more (child (node Kind.IdentifierReference 27 (more (string (codes "_k")) end))) (more (child (node Kind.CallExpression 8 (more (child (node Kind.IdentifierReference 9 (more (string (codes "k")) end))) (more (list (trees (node Kind.ArrowFunctionExpression 10 (more (list end) (more (child (node Kind.IdentifierReference 11 (more (string (codes "_C")) end))) (more (boolean false) end))) ∷ []))) (more (boolean false) end))))) end))) ∷ node Kind.CallExpression 16 (more (child (node Kind.MemberExpression 17 (more (child (node Kind.Literal 18 (more (literal (literal_value.String (codes "") (Some (codes "\"\"")))) end))) (more (child (node Kind.IdentifierName 19 (more (string (codes "m")) end))) (more (boolean false) (more (boolean false) end)))))) (more (list end) (more (boolean false) end))) ∷ node Kind.AssignmentExpression 28 (more (string (codes "=")) (more (child (node Kind.IdentifierReference 29 (more (string (codes "_C")) end))) (more (child (node Kind.ClassExpression 4 (more (child (node Kind.BindingIdentifier 5 (more (string (codes "C")) end))) (more absent (more (child (node Kind.ClassBody 6 (more (list (trees (node Kind.MethodDefinition 7 (more (child (node Kind.IdentifierReference 30 (more (string (codes "_k")) end))) (more (child (node Kind.FunctionExpression 12 (more absent (more (list end) (more (child (node Kind.BlockStatement 13 (more (list end) end))) (more (boolean false) (more (boolean false) end))))))) (more (string (codes "method")) (more (boolean true) (more (boolean false) end))))) ∷ []))) end))) end))))) end))) ∷ node Kind.IdentifierReference 31 (more (string (codes "_C")) end) ∷ []))) end))) end))))) (more no_string end)) ∷ []))) end))

abbrev pub generated_call_on_a_literal_in_front_of_a_class : List LedgerEntry
generated_call_on_a_literal_in_front_of_a_class = record { name = codes "_C"; kind = GeneratedKind.ClassTemp (record { 0 = 4 }) } ∷ record { name = codes "_k"; kind = GeneratedKind.Temp } ∷ []

abbrev pub options_call_on_a_literal_in_front_of_a_class : Options
options_call_on_a_literal_in_front_of_a_class = options_of true (Some (record { loose = false })) false
