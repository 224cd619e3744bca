-- Printed by tools/rows/witnesses.js.
use Rattle.std.specs.Prelude.{ℕ, List, [], ◌∷◌, false, codes, Some, None}
use Rattle.es_base.specs.Tree.{Tree, end, more, child, absent, list, string, no_string, boolean, literal, trees}
use Rattle.es_base.specs.declared.kind.Kind.{Kind}
use Rattle.es_base.specs.declared.ledger.LedgerEntry.{LedgerEntry}
use Rattle.es_base.specs.declared.literal.LiteralValue.TheVariants as literal_value
use Rattle.es_steps.specs.Generated.{node}
use Rattle.es_steps.specs.Options.{options_of}
use Rattle.es_steps.specs.declared.options.Options.{Options}

-- `class A { x = 1; m() { const y = 5; return (0, eval)("typeof y"); } } f(new A().m());`
abbrev pub source_call_of_eval_by_its_name : Tree
source_call_of_eval_by_its_name = node Kind.Program 0 (more (string (codes "script")) (more (list (trees (node Kind.ClassDeclaration 1 (more (child (node Kind.BindingIdentifier 2 (more (string (codes "A")) end))) (more absent (more (child (node Kind.ClassBody 3 (more (list (trees (node Kind.PropertyDefinition 4 (more (child (node Kind.IdentifierName 5 (more (string (codes "x")) end))) (more (child (node Kind.Literal 6 (more (literal (literal_value.Number (codes "1"))) end))) (more (boolean false) (more (boolean false) end)))) ∷ node Kind.MethodDefinition 7 (more (child (node Kind.IdentifierName 8 (more (string (codes "m")) end))) (more (child (node Kind.FunctionExpression 9 (more absent (more (list end) (more (child (node Kind.BlockStatement 10 (more (list (trees (node Kind.VariableDeclaration 11 (more (string (codes "const")) (more (list (trees (node Kind.VariableDeclarator 12 (more (child (node Kind.BindingIdentifier 13 (more (string (codes "y")) end))) (more (child (node Kind.Literal 14 (more (literal (literal_value.Number (codes "5"))) end))) end)) ∷ []))) end)) ∷ node Kind.ReturnStatement 15 (more (child (node Kind.CallExpression 16 (more (child (node Kind.SequenceExpression 17 (more (list (trees (node Kind.Literal 18 (more (literal (literal_value.Number (codes "0"))) end) ∷ node Kind.IdentifierReference 19 (more (string (codes "eval")) end) ∷ []))) end))) (more (list (trees (node Kind.Literal 20 (more (literal (literal_value.String (codes "typeof y") (Some (codes "\"typeof y\"")))) end) ∷ []))) (more (boolean false) end))))) end) ∷ []))) end))) (more (boolean false) (more (boolean false) end))))))) (more (string (codes "method")) (more (boolean false) (more (boolean false) end))))) ∷ []))) end))) end))) ∷ node Kind.ExpressionStatement 21 (more (child (node Kind.CallExpression 22 (more (child (node Kind.IdentifierReference 23 (more (string (codes "f")) end))) (more (list (trees (node Kind.CallExpression 24 (more (child (node Kind.MemberExpression 25 (more (child (node Kind.NewExpression 26 (more (child (node Kind.IdentifierReference 27 (more (string (codes "A")) end))) (more (list end) end)))) (more (child (node Kind.IdentifierName 28 (more (string (codes "m")) end))) (more (boolean false) (more (boolean false) end)))))) (more (list end) (more (boolean false) end))) ∷ []))) (more (boolean false) end))))) (more no_string end)) ∷ []))) end))

-- a call of `eval` by its name, which sees the names around it: `class A { constructor() { B.defineProperty(this, "x", 1); } m() { const y = 5; return eval("typeof y"); } } f(new A().m());`
abbrev pub output_call_of_eval_by_its_name : Tree
output_call_of_eval_by_its_name = node Kind.Program 0 (more (string (codes "script")) (more (list (trees (node Kind.ClassDeclaration 1 (more (child (node Kind.BindingIdentifier 2 (more (string (codes "A")) end))) (more absent (more (child (node Kind.ClassBody 3 (more (list (trees (node Kind.MethodDefinition 29 (more (child (node Kind.IdentifierName 30 (more (string (codes "constructor")) end))) (more (child (node Kind.FunctionExpression 31 (more absent (more (list end) (more (child (node Kind.BlockStatement 32 (more (list (trees (node Kind.ExpressionStatement 33 (more (child (node Kind.CallExpression 34 (more (child (node Kind.MemberExpression 35 (more (child (node Kind.IdentifierReference 36 (more (string (codes "babelHelpers")) end))) (more (child (node Kind.IdentifierName 37 (more (string (codes "defineProperty")) end))) (more (boolean false) (more (boolean false) end)))))) (more (list (trees (node Kind.ThisExpression 38 end ∷ node Kind.Literal 39 (more (literal (literal_value.String (codes "x") None)) end) ∷ node Kind.Literal 6 (more (literal (literal_value.Number (codes "1"))) end) ∷ []))) (more (boolean false) end))))) (more no_string end)) ∷ []))) end))) (more (boolean false) (more (boolean false) end))))))) (more (string (codes "constructor")) (more (boolean false) (more (boolean false) end))))) ∷ node Kind.MethodDefinition 7 (more (child (node Kind.IdentifierName 8 (more (string (codes "m")) end))) (more (child (node Kind.FunctionExpression 9 (more absent (more (list end) (more (child (node Kind.BlockStatement 10 (more (list (trees (node Kind.VariableDeclaration 11 (more (string (codes "const")) (more (list (trees (node Kind.VariableDeclarator 12 (more (child (node Kind.BindingIdentifier 13 (more (string (codes "y")) end))) (more (child (node Kind.Literal 14 (more (literal (literal_value.Number (codes "5"))) end))) end)) ∷ []))) end)) ∷ node Kind.ReturnStatement 15 (more (child (node Kind.CallExpression 16 (more (child (node Kind.IdentifierReference 19 (more (string (codes "eval")) end))) (more (list (trees (node Kind.Literal 20 (more (literal (literal_value.String (codes "typeof y") (Some (codes "\"typeof y\"")))) end) ∷ []))) (more (boolean false) end))))) end) ∷ []))) end))) (more (boolean false) (more (boolean false) end))))))) (more (string (codes "method")) (more (boolean false) (more (boolean false) end))))) ∷ []))) end))) end))) ∷ node Kind.ExpressionStatement 21 (more (child (node Kind.CallExpression 22 (more (child (node Kind.IdentifierReference 23 (more (string (codes "f")) end))) (more (list (trees (node Kind.CallExpression 24 (more (child (node Kind.MemberExpression 25 (more (child (node Kind.NewExpression 26 (more (child (node Kind.IdentifierReference 27 (more (string (codes "A")) end))) (more (list end) end)))) (more (child (node Kind.IdentifierName 28 (more (string (codes "m")) end))) (more (boolean false) (more (boolean false) end)))))) (more (list end) (more (boolean false) end))) ∷ []))) (more (boolean false) end))))) (more no_string end)) ∷ []))) end))

abbrev pub generated_call_of_eval_by_its_name : List LedgerEntry
generated_call_of_eval_by_its_name = []

abbrev pub options_call_of_eval_by_its_name : Options
options_call_of_eval_by_its_name = options_of false (Some (record { loose = false })) false
