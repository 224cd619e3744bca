-- Printed by tools/rows/witnesses.js.
use Rattle.std.specs.Prelude.{ℕ, List, [], ◌∷◌, false, codes, Some, None}
use Rattle.es_base.specs.Tree.{Tree, end, more, child, absent, list, string, no_string, boolean, literal, trees}
use Rattle.es_base.specs.declared.kind.Kind.{Kind}
use Rattle.es_base.specs.declared.ledger.GeneratedKind.{GeneratedKind}
use Rattle.es_base.specs.declared.ledger.LedgerEntry.{LedgerEntry}
use Rattle.es_base.specs.declared.literal.LiteralValue.TheVariants as literal_value
use Rattle.es_steps.specs.Generated.{node}
use Rattle.es_steps.specs.Options.{options_of}
use Rattle.es_steps.specs.declared.options.Options.{Options}

-- `class A extends B0 { x = 1; constructor() { const i = () => super(); const b = () => { i(); k(this); }; b(); } }`
abbrev pub source_this_in_an_arrow : Tree
source_this_in_an_arrow = node Kind.Program 0 (more (string (codes "script")) (more (list (trees (node Kind.ClassDeclaration 1 (more (child (node Kind.BindingIdentifier 2 (more (string (codes "A")) end))) (more (child (node Kind.IdentifierReference 3 (more (string (codes "B0")) end))) (more (child (node Kind.ClassBody 4 (more (list (trees (node Kind.PropertyDefinition 5 (more (child (node Kind.IdentifierName 6 (more (string (codes "x")) end))) (more (child (node Kind.Literal 7 (more (literal (literal_value.Number (codes "1"))) end))) (more (boolean false) (more (boolean false) end)))) ∷ node Kind.MethodDefinition 8 (more (child (node Kind.IdentifierName 9 (more (string (codes "constructor")) end))) (more (child (node Kind.FunctionExpression 10 (more absent (more (list end) (more (child (node Kind.BlockStatement 11 (more (list (trees (node Kind.VariableDeclaration 12 (more (string (codes "const")) (more (list (trees (node Kind.VariableDeclarator 13 (more (child (node Kind.BindingIdentifier 14 (more (string (codes "i")) end))) (more (child (node Kind.ArrowFunctionExpression 15 (more (list end) (more (child (node Kind.CallExpression 16 (more (child (node Kind.Super 17 end)) (more (list end) (more (boolean false) end))))) (more (boolean false) end))))) end)) ∷ []))) end)) ∷ node Kind.VariableDeclaration 18 (more (string (codes "const")) (more (list (trees (node Kind.VariableDeclarator 19 (more (child (node Kind.BindingIdentifier 20 (more (string (codes "b")) end))) (more (child (node Kind.ArrowFunctionExpression 21 (more (list end) (more (child (node Kind.BlockStatement 22 (more (list (trees (node Kind.ExpressionStatement 23 (more (child (node Kind.CallExpression 24 (more (child (node Kind.IdentifierReference 25 (more (string (codes "i")) end))) (more (list end) (more (boolean false) end))))) (more no_string end)) ∷ node Kind.ExpressionStatement 26 (more (child (node Kind.CallExpression 27 (more (child (node Kind.IdentifierReference 28 (more (string (codes "k")) end))) (more (list (trees (node Kind.ThisExpression 29 end ∷ []))) (more (boolean false) end))))) (more no_string end)) ∷ []))) end))) (more (boolean false) end))))) end)) ∷ []))) end)) ∷ node Kind.ExpressionStatement 30 (more (child (node Kind.CallExpression 31 (more (child (node Kind.IdentifierReference 32 (more (string (codes "b")) end))) (more (list end) (more (boolean false) end))))) (more no_string end)) ∷ []))) end))) (more (boolean false) (more (boolean false) end))))))) (more (string (codes "constructor")) (more (boolean false) (more (boolean false) end))))) ∷ []))) end))) end))) ∷ []))) end))

-- this is read in an arrow, in front of the call that gives it: `class A extends B0 { constructor() { const i = () => (super(), B.defineProperty(this, "x", 1), this); const b = () => { var _u; _u = this; i(); k(_u); }; b(); } }`
abbrev pub output_this_in_an_arrow : Tree
output_this_in_an_arrow = node Kind.Program 0 (more (string (codes "script")) (more (list (trees (node Kind.ClassDeclaration 1 (more (child (node Kind.BindingIdentifier 2 (more (string (codes "A")) end))) (more (child (node Kind.IdentifierReference 3 (more (string (codes "B0")) end))) (more (child (node Kind.ClassBody 4 (more (list (trees (node Kind.MethodDefinition 8 (more (child (node Kind.IdentifierName 9 (more (string (codes "constructor")) end))) (more (child (node Kind.FunctionExpression 10 (more absent (more (list end) (more (child (node Kind.BlockStatement 11 (more (list (trees (node Kind.VariableDeclaration 12 (more (string (codes "const")) (more (list (trees (node Kind.VariableDeclarator 13 (more (child (node Kind.BindingIdentifier 14 (more (string (codes "i")) end))) (more (child (node Kind.ArrowFunctionExpression 15 (more (list end) (more (child (node Kind.SequenceExpression 33 (more (list (trees (node Kind.CallExpression 16 (more (child (node Kind.Super 17 end)) (more (list end) (more (boolean false) end))) ∷ node Kind.CallExpression 34 (more (child (node Kind.MemberExpression 35 (more (child (node Kind.IdentifierReference 36 (more (string (codes "babelHelpers")) end))) (more (child (node Kind.IdentifierName 37 (more (string (codes "defineProperty")) end))) (more (boolean false) (more (boolean false) end)))))) (more (list (trees (node Kind.ThisExpression 38 end ∷ node Kind.Literal 39 (more (literal (literal_value.String (codes "x") None)) end) ∷ node Kind.Literal 7 (more (literal (literal_value.Number (codes "1"))) end) ∷ []))) (more (boolean false) end))) ∷ node Kind.ThisExpression 29 end ∷ []))) end))) (more (boolean false) end))))) end)) ∷ []))) end)) ∷ node Kind.VariableDeclaration 18 (more (string (codes "const")) (more (list (trees (node Kind.VariableDeclarator 19 (more (child (node Kind.BindingIdentifier 20 (more (string (codes "b")) end))) (more (child (node Kind.ArrowFunctionExpression 21 (more (list end) (more (child (node Kind.BlockStatement 22 (more (list (trees (node Kind.VariableDeclaration 40 (more (string (codes "var")) (more (list (trees (node Kind.VariableDeclarator 41 (more (child (node Kind.BindingIdentifier 42 (more (string (codes "_u")) end))) (more absent end)) ∷ []))) end)) ∷ node Kind.ExpressionStatement 43 (more (child (node Kind.AssignmentExpression 44 (more (string (codes "=")) (more (child (node Kind.IdentifierReference 45 (more (string (codes "_u")) end))) (more (child (node Kind.ThisExpression 46 end)) end))))) (more no_string end)) ∷ node Kind.ExpressionStatement 23 (more (child (node Kind.CallExpression 24 (more (child (node Kind.IdentifierReference 25 (more (string (codes "i")) end))) (more (list end) (more (boolean false) end))))) (more no_string end)) ∷ node Kind.ExpressionStatement 26 (more (child (node Kind.CallExpression 27 (more (child (node Kind.IdentifierReference 28 (more (string (codes "k")) end))) (more (list (trees (node Kind.IdentifierReference 47 (more (string (codes "_u")) end) ∷ []))) (more (boolean false) end))))) (more no_string end)) ∷ []))) end))) (more (boolean false) end))))) end)) ∷ []))) end)) ∷ node Kind.ExpressionStatement 30 (more (child (node Kind.CallExpression 31 (more (child (node Kind.IdentifierReference 32 (more (string (codes "b")) end))) (more (list end) (more (boolean false) end))))) (more no_string end)) ∷ []))) end))) (more (boolean false) (more (boolean false) end))))))) (more (string (codes "constructor")) (more (boolean false) (more (boolean false) end))))) ∷ []))) end))) end))) ∷ []))) end))

abbrev pub generated_this_in_an_arrow : List LedgerEntry
generated_this_in_an_arrow = record { name = codes "_u"; kind = GeneratedKind.Temp } ∷ []

abbrev pub options_this_in_an_arrow : Options
options_this_in_an_arrow = options_of false (Some (record { loose = false })) false
