-- Printed by tools/rows/witnesses.js.
use Rattle.std.specs.Prelude.{ℕ, List, [], ◌∷◌, false, codes, Some, None}
use Rattle.es_base.specs.Tree.{Tree, end, more, child, absent, list, string, boolean, literal, trees}
use Rattle.es_base.specs.declared.kind.Kind.{Kind}
use Rattle.es_base.specs.declared.ledger.LedgerEntry.{LedgerEntry}
use Rattle.es_base.specs.declared.literal.LiteralValue.TheVariants as literal_value
use Rattle.es_steps.specs.Generated.{node}
use Rattle.es_steps.specs.Options.{options_of}
use Rattle.es_steps.specs.declared.options.Options.{Options}

-- a function that is exported as default, a declaration or an expression: `import "./b.mjs"; export default function () { return 1; }`
abbrev pub first_default_function : Tree
first_default_function = node Kind.Program 0 (more (string (codes "module")) (more (list (trees (node Kind.ImportDeclaration 1 (more (list end) (more (child (node Kind.Literal 2 (more (literal (literal_value.String (codes "./b.mjs") (Some (codes "\"./b.mjs\"")))) end))) end)) ∷ node Kind.ExportDefaultDeclaration 3 (more (child (node Kind.FunctionDeclaration 4 (more absent (more (list end) (more (child (node Kind.BlockStatement 5 (more (list (trees (node Kind.ReturnStatement 6 (more (child (node Kind.Literal 7 (more (literal (literal_value.Number (codes "1"))) end))) end) ∷ []))) end))) (more (boolean false) (more (boolean false) end))))))) end) ∷ []))) end))

-- `import "./b.mjs"; export default (function () { return 1; });`, with numbers of the first
abbrev pub second_default_function : Tree
second_default_function = node Kind.Program 0 (more (string (codes "module")) (more (list (trees (node Kind.ImportDeclaration 1 (more (list end) (more (child (node Kind.Literal 2 (more (literal (literal_value.String (codes "./b.mjs") (Some (codes "\"./b.mjs\"")))) end))) end)) ∷ node Kind.ExportDefaultDeclaration 3 (more (child (node Kind.FunctionExpression 4 (more absent (more (list end) (more (child (node Kind.BlockStatement 5 (more (list (trees (node Kind.ReturnStatement 6 (more (child (node Kind.Literal 7 (more (literal (literal_value.Number (codes "1"))) end))) end) ∷ []))) end))) (more (boolean false) (more (boolean false) end))))))) end) ∷ []))) end))

abbrev pub options_default_function : Options
options_default_function = options_of false None false
