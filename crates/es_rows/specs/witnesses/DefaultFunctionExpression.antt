-- Printed by tools/rows/witnesses.js.
use Rattle.std.specs.Prelude.{ℕ, List, [], ◌∷◌, false, codes, Some, None}
use Rattle.es_base.specs.Tree.{Tree, end, more, child, absent, list, string, no_string, boolean, literal, trees}
use Rattle.es_base.specs.declared.kind.Kind.{Kind}
use Rattle.es_base.specs.declared.ledger.LedgerEntry.{LedgerEntry}
use Rattle.es_base.specs.declared.literal.LiteralValue.TheVariants as literal_value
use Rattle.es_steps.specs.Generated.{node}
use Rattle.es_steps.specs.Options.{options_of}
use Rattle.es_steps.specs.declared.options.Options.{Options}

-- `import "./b.mjs"; export default function () { return class D { x = 1; }; }`
abbrev pub source_default_function_expression : Tree
source_default_function_expression = node Kind.Program 0 (more (string (codes "module")) (more (list (trees (node Kind.ImportDeclaration 1 (more (list end) (more (child (node Kind.Literal 2 (more (literal (literal_value.String (codes "./b.mjs") (Some (codes "\"./b.mjs\"")))) end))) end)) ∷ node Kind.ExportDefaultDeclaration 3 (more (child (node Kind.FunctionDeclaration 4 (more absent (more (list end) (more (child (node Kind.BlockStatement 5 (more (list (trees (node Kind.ReturnStatement 6 (more (child (node Kind.ClassExpression 7 (more (child (node Kind.BindingIdentifier 8 (more (string (codes "D")) end))) (more absent (more (child (node Kind.ClassBody 9 (more (list (trees (node Kind.PropertyDefinition 10 (more (child (node Kind.IdentifierName 11 (more (string (codes "x")) end))) (more (child (node Kind.Literal 12 (more (literal (literal_value.Number (codes "1"))) end))) (more (boolean false) (more (boolean false) end)))) ∷ []))) end))) end))))) end) ∷ []))) end))) (more (boolean false) (more (boolean false) end))))))) end) ∷ []))) end))

-- a function declaration that is exported as default made an expression, where `import "./b.mjs"; export default function () { return class D { constructor() { B.defineProperty(this, "x", 1); } }; }` is right
abbrev pub output_default_function_expression : Tree
output_default_function_expression = node Kind.Program 0 (more (string (codes "module")) (more (list (trees (node Kind.ImportDeclaration 1 (more (list end) (more (child (node Kind.Literal 2 (more (literal (literal_value.String (codes "./b.mjs") (Some (codes "\"./b.mjs\"")))) end))) end)) ∷ node Kind.ExportDefaultDeclaration 3 (more (child (node Kind.FunctionExpression 4 (more absent (more (list end) (more (child (node Kind.BlockStatement 5 (more (list (trees (node Kind.ReturnStatement 6 (more (child (node Kind.ClassExpression 7 (more (child (node Kind.BindingIdentifier 8 (more (string (codes "D")) end))) (more absent (more (child (node Kind.ClassBody 9 (more (list (trees (node Kind.MethodDefinition 13 (more (child (node Kind.IdentifierName 14 (more (string (codes "constructor")) end))) (more (child (node Kind.FunctionExpression 15 (more absent (more (list end) (more (child (node Kind.BlockStatement 16 (more (list (trees (node Kind.ExpressionStatement 17 (more (child (node Kind.CallExpression 18 (more (child (node Kind.MemberExpression 19 (more (child (node Kind.IdentifierReference 20 (more (string (codes "babelHelpers")) end))) (more (child (node Kind.IdentifierName 21 (more (string (codes "defineProperty")) end))) (more (boolean false) (more (boolean false) end)))))) (more (list (trees (node Kind.ThisExpression 22 end ∷ node Kind.Literal 23 (more (literal (literal_value.String (codes "x") None)) end) ∷ node Kind.Literal 12 (more (literal (literal_value.Number (codes "1"))) end) ∷ []))) (more (boolean false) end))))) (more no_string end)) ∷ []))) end))) (more (boolean false) (more (boolean false) end))))))) (more (string (codes "constructor")) (more (boolean false) (more (boolean false) end))))) ∷ []))) end))) end))))) end) ∷ []))) end))) (more (boolean false) (more (boolean false) end))))))) end) ∷ []))) end))

abbrev pub generated_default_function_expression : List LedgerEntry
generated_default_function_expression = []

abbrev pub options_default_function_expression : Options
options_default_function_expression = options_of false (Some (record { loose = false })) false
