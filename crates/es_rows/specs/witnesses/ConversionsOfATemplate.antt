-- Printed by tools/rows/witnesses.js.
use Rattle.std.specs.Prelude.{ℕ, List, [], ◌∷◌, true, false, codes, Some, None}
use Rattle.es_base.specs.Tree.{Tree, end, more, child, absent, list, string, no_string, boolean, literal, trees}
use Rattle.es_base.specs.declared.kind.Kind.{Kind}
use Rattle.es_base.specs.declared.ledger.GeneratedKind.{GeneratedKind}
use Rattle.es_base.specs.declared.ledger.LedgerEntry.{LedgerEntry}
use Rattle.es_base.specs.declared.literal.LiteralValue.TheVariants as literal_value
use Rattle.es_steps.specs.Generated.{node}
use Rattle.es_steps.specs.Options.{options_of}
use Rattle.es_steps.specs.declared.options.Options.{Options}

-- ` class D { x = 1; m() { return `${a()}${b()}`; } }`
abbrev pub source_conversions_of_a_template : Tree
source_conversions_of_a_template = node Kind.Program 0 (more (string (codes "script")) (more (list (trees (node Kind.ClassDeclaration 1 (more (child (node Kind.BindingIdentifier 2 (more (string (codes "D")) end))) (more absent (more (child (node Kind.ClassBody 3 (more (list (trees (node Kind.PropertyDefinition 4 (more (child (node Kind.IdentifierName 5 (more (string (codes "x")) end))) (more (child (node Kind.Literal 6 (more (literal (literal_value.Number (codes "1"))) end))) (more (boolean false) (more (boolean false) end)))) ∷ node Kind.MethodDefinition 7 (more (child (node Kind.IdentifierName 8 (more (string (codes "m")) end))) (more (child (node Kind.FunctionExpression 9 (more absent (more (list end) (more (child (node Kind.BlockStatement 10 (more (list (trees (node Kind.ReturnStatement 11 (more (child (node Kind.TemplateLiteral 12 (more (list (trees (node Kind.TemplateElement 13 (more (string (codes "")) (more (string (codes "")) (more (boolean false) end))) ∷ node Kind.TemplateElement 14 (more (string (codes "")) (more (string (codes "")) (more (boolean false) end))) ∷ node Kind.TemplateElement 15 (more (string (codes "")) (more (string (codes "")) (more (boolean true) end))) ∷ []))) (more (list (trees (node Kind.CallExpression 16 (more (child (node Kind.IdentifierReference 17 (more (string (codes "a")) end))) (more (list end) (more (boolean false) end))) ∷ node Kind.CallExpression 18 (more (child (node Kind.IdentifierReference 19 (more (string (codes "b")) end))) (more (list end) (more (boolean false) end))) ∷ []))) end)))) end) ∷ []))) end))) (more (boolean false) (more (boolean false) end))))))) (more (string (codes "method")) (more (boolean false) (more (boolean false) end))))) ∷ []))) end))) end))) ∷ []))) end))

-- the expressions of a template evaluated before the first is made a string, where ` class D { constructor() { B.defineProperty(this, "x", 1); } m() { return `${a()}${b()}`; } }` is right
abbrev pub output_conversions_of_a_template : Tree
output_conversions_of_a_template = node Kind.Program 0 (more (string (codes "script")) (more (list (trees (node Kind.ClassDeclaration 1 (more (child (node Kind.BindingIdentifier 2 (more (string (codes "D")) end))) (more absent (more (child (node Kind.ClassBody 3 (more (list (trees (node Kind.MethodDefinition 20 (more (child (node Kind.IdentifierName 21 (more (string (codes "constructor")) end))) (more (child (node Kind.FunctionExpression 22 (more absent (more (list end) (more (child (node Kind.BlockStatement 23 (more (list (trees (node Kind.ExpressionStatement 24 (more (child (node Kind.CallExpression 25 (more (child (node Kind.MemberExpression 26 (more (child (node Kind.IdentifierReference 27 (more (string (codes "babelHelpers")) end))) (more (child (node Kind.IdentifierName 28 (more (string (codes "defineProperty")) end))) (more (boolean false) (more (boolean false) end)))))) (more (list (trees (node Kind.ThisExpression 29 end ∷ node Kind.Literal 30 (more (literal (literal_value.String (codes "x") None)) end) ∷ node Kind.Literal 6 (more (literal (literal_value.Number (codes "1"))) end) ∷ []))) (more (boolean false) end))))) (more no_string end)) ∷ []))) end))) (more (boolean false) (more (boolean false) end))))))) (more (string (codes "constructor")) (more (boolean false) (more (boolean false) end))))) ∷ node Kind.MethodDefinition 7 (more (child (node Kind.IdentifierName 8 (more (string (codes "m")) end))) (more (child (node Kind.FunctionExpression 9 (more absent (more (list end) (more (child (node Kind.BlockStatement 10 (more (list (trees (node Kind.VariableDeclaration 31 (more (string (codes "var")) (more (list (trees (node Kind.VariableDeclarator 32 (more (child (node Kind.BindingIdentifier 33 (more (string (codes "_t")) end))) (more absent end)) ∷ node Kind.VariableDeclarator 34 (more (child (node Kind.BindingIdentifier 35 (more (string (codes "_u")) end))) (more absent end)) ∷ []))) end)) ∷ node Kind.ReturnStatement 11 (more (child (node Kind.TemplateLiteral 12 (more (list (trees (node Kind.TemplateElement 13 (more (string (codes "")) (more (string (codes "")) (more (boolean false) end))) ∷ node Kind.TemplateElement 14 (more (string (codes "")) (more (string (codes "")) (more (boolean false) end))) ∷ node Kind.TemplateElement 15 (more (string (codes "")) (more (string (codes "")) (more (boolean true) end))) ∷ []))) (more (list (trees (node Kind.SequenceExpression 36 (more (list (trees (node Kind.AssignmentExpression 37 (more (string (codes "=")) (more (child (node Kind.IdentifierReference 38 (more (string (codes "_u")) end))) (more (child (node Kind.CallExpression 16 (more (child (node Kind.IdentifierReference 17 (more (string (codes "a")) end))) (more (list end) (more (boolean false) end))))) end))) ∷ node Kind.AssignmentExpression 39 (more (string (codes "=")) (more (child (node Kind.IdentifierReference 40 (more (string (codes "_t")) end))) (more (child (node Kind.CallExpression 18 (more (child (node Kind.IdentifierReference 19 (more (string (codes "b")) end))) (more (list end) (more (boolean false) end))))) end))) ∷ node Kind.IdentifierReference 41 (more (string (codes "_u")) end) ∷ []))) end) ∷ node Kind.IdentifierReference 42 (more (string (codes "_t")) end) ∷ []))) end)))) end) ∷ []))) end))) (more (boolean false) (more (boolean false) end))))))) (more (string (codes "method")) (more (boolean false) (more (boolean false) end))))) ∷ []))) end))) end))) ∷ []))) end))

abbrev pub generated_conversions_of_a_template : List LedgerEntry
generated_conversions_of_a_template = record { name = codes "_t"; kind = GeneratedKind.Temp } ∷ record { name = codes "_u"; kind = GeneratedKind.Temp } ∷ []

abbrev pub options_conversions_of_a_template : Options
options_conversions_of_a_template = options_of false (Some (record { loose = false })) false
