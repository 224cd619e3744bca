-- Printed by tools/rows/witnesses.js.
use Rattle.std.specs.Prelude.{ℕ, List, [], ◌∷◌, true, false, codes, Some, None}
use Rattle.es_base.specs.Tree.{Tree, end, more, child, absent, list, string, no_string, boolean, literal, trees}
use Rattle.es_base.specs.declared.kind.Kind.{Kind}
use Rattle.es_base.specs.declared.ledger.GeneratedKind.{GeneratedKind}
use Rattle.es_base.specs.declared.ledger.LedgerEntry.{LedgerEntry}
use Rattle.es_base.specs.declared.literal.LiteralValue.TheVariants as literal_value
use Rattle.es_steps.specs.Generated.{node}
use Rattle.es_steps.specs.Options.{options_of}
use Rattle.es_steps.specs.declared.options.Options.{Options}

-- `k(`${h()}${(g, class { x = 1; })}`); let g = f();`
abbrev pub source_name_in_front_of_a_conversion_in_a_template : Tree
source_name_in_front_of_a_conversion_in_a_template = node Kind.Program 0 (more (string (codes "script")) (more (list (trees (node Kind.ExpressionStatement 1 (more (child (node Kind.CallExpression 2 (more (child (node Kind.IdentifierReference 3 (more (string (codes "k")) end))) (more (list (trees (node Kind.TemplateLiteral 4 (more (list (trees (node Kind.TemplateElement 5 (more (string (codes "")) (more (string (codes "")) (more (boolean false) end))) ∷ node Kind.TemplateElement 6 (more (string (codes "")) (more (string (codes "")) (more (boolean false) end))) ∷ node Kind.TemplateElement 7 (more (string (codes "")) (more (string (codes "")) (more (boolean true) end))) ∷ []))) (more (list (trees (node Kind.CallExpression 8 (more (child (node Kind.IdentifierReference 9 (more (string (codes "h")) end))) (more (list end) (more (boolean false) end))) ∷ node Kind.SequenceExpression 10 (more (list (trees (node Kind.IdentifierReference 11 (more (string (codes "g")) end) ∷ node Kind.ClassExpression 12 (more absent (more absent (more (child (node Kind.ClassBody 13 (more (list (trees (node Kind.PropertyDefinition 14 (more (child (node Kind.IdentifierName 15 (more (string (codes "x")) end))) (more (child (node Kind.Literal 16 (more (literal (literal_value.Number (codes "1"))) end))) (more (boolean false) (more (boolean false) end)))) ∷ []))) end))) end))) ∷ []))) end) ∷ []))) end)) ∷ []))) (more (boolean false) end))))) (more no_string end)) ∷ node Kind.VariableDeclaration 17 (more (string (codes "let")) (more (list (trees (node Kind.VariableDeclarator 18 (more (child (node Kind.BindingIdentifier 19 (more (string (codes "g")) end))) (more (child (node Kind.CallExpression 20 (more (child (node Kind.IdentifierReference 21 (more (string (codes "f")) end))) (more (list end) (more (boolean false) end))))) end)) ∷ []))) end)) ∷ []))) end))

-- a name is read in front of the conversion of the value that stands before it in a template: `var _t; k(`${(_t = h(), g, _t)}${class { constructor() { B.defineProperty(this, "x", 1); } }}`); let g = f();`
abbrev pub output_name_in_front_of_a_conversion_in_a_template : Tree
output_name_in_front_of_a_conversion_in_a_template = node Kind.Program 0 (more (string (codes "script")) (more (list (trees (node Kind.VariableDeclaration 22 (more (string (codes "var")) (more (list (trees (node Kind.VariableDeclarator 23 (more (child (node Kind.BindingIdentifier 24 (more (string (codes "_t")) end))) (more absent end)) ∷ []))) end)) ∷ node Kind.ExpressionStatement 1 (more (child (node Kind.CallExpression 2 (more (child (node Kind.IdentifierReference 3 (more (string (codes "k")) end))) (more (list (trees (node Kind.TemplateLiteral 4 (more (list (trees (node Kind.TemplateElement 5 (more (string (codes "")) (more (string (codes "")) (more (boolean false) end))) ∷ node Kind.TemplateElement 6 (more (string (codes "")) (more (string (codes "")) (more (boolean false) end))) ∷ node Kind.TemplateElement 7 (more (string (codes "")) (more (string (codes "")) (more (boolean true) end))) ∷ []))) (more (list (trees (node Kind.SequenceExpression 10 (more (list (trees (node Kind.AssignmentExpression 25 (more (string (codes "=")) (more (child (node Kind.IdentifierReference 26 (more (string (codes "_t")) end))) (more (child (node Kind.CallExpression 8 (more (child (node Kind.IdentifierReference 9 (more (string (codes "h")) end))) (more (list end) (more (boolean false) end))))) end))) ∷ node Kind.IdentifierReference 11 (more (string (codes "g")) end) ∷ node Kind.IdentifierReference 27 (more (string (codes "_t")) end) ∷ []))) end) ∷ node Kind.ClassExpression 12 (more absent (more absent (more (child (node Kind.ClassBody 13 (more (list (trees (node Kind.MethodDefinition 28 (more (child (node Kind.IdentifierName 29 (more (string (codes "constructor")) end))) (more (child (node Kind.FunctionExpression 30 (more absent (more (list end) (more (child (node Kind.BlockStatement 31 (more (list (trees (node Kind.ExpressionStatement 32 (more (child (node Kind.CallExpression 33 (more (child (node Kind.MemberExpression 34 (more (child (node Kind.IdentifierReference 35 (more (string (codes "babelHelpers")) end))) (more (child (node Kind.IdentifierName 36 (more (string (codes "defineProperty")) end))) (more (boolean false) (more (boolean false) end)))))) (more (list (trees (node Kind.ThisExpression 37 end ∷ node Kind.Literal 38 (more (literal (literal_value.String (codes "x") None)) end) ∷ node Kind.Literal 16 (more (literal (literal_value.Number (codes "1"))) end) ∷ []))) (more (boolean false) end))))) (more no_string end)) ∷ []))) end))) (more (boolean false) (more (boolean false) end))))))) (more (string (codes "constructor")) (more (boolean false) (more (boolean false) end))))) ∷ []))) end))) end))) ∷ []))) end)) ∷ []))) (more (boolean false) end))))) (more no_string end)) ∷ node Kind.VariableDeclaration 17 (more (string (codes "let")) (more (list (trees (node Kind.VariableDeclarator 18 (more (child (node Kind.BindingIdentifier 19 (more (string (codes "g")) end))) (more (child (node Kind.CallExpression 20 (more (child (node Kind.IdentifierReference 21 (more (string (codes "f")) end))) (more (list end) (more (boolean false) end))))) end)) ∷ []))) end)) ∷ []))) end))

abbrev pub generated_name_in_front_of_a_conversion_in_a_template : List LedgerEntry
generated_name_in_front_of_a_conversion_in_a_template = record { name = codes "_t"; kind = GeneratedKind.Temp } ∷ []

abbrev pub options_name_in_front_of_a_conversion_in_a_template : Options
options_name_in_front_of_a_conversion_in_a_template = options_of false (Some (record { loose = false })) false
