-- Printed by tools/rows/witnesses.js.
use Rattle.std.specs.Prelude.{ℕ, List, [], ◌∷◌, true, false, codes, Some, None}
use Rattle.es_base.specs.Tree.{Tree, end, more, child, list, string, no_string, boolean, literal, trees}
use Rattle.es_base.specs.declared.kind.Kind.{Kind}
use Rattle.es_base.specs.declared.ledger.LedgerEntry.{LedgerEntry}
use Rattle.es_base.specs.declared.literal.LiteralValue.TheVariants as literal_value
use Rattle.es_steps.specs.Generated.{node}
use Rattle.es_steps.specs.Options.{options_of}
use Rattle.es_steps.specs.declared.options.Options.{Options}

-- `void` of a template: `f(void "a");`
abbrev pub first_void_of_a_template : Tree
first_void_of_a_template = node Kind.Program 0 (more (string (codes "script")) (more (list (trees (node Kind.ExpressionStatement 1 (more (child (node Kind.CallExpression 2 (more (child (node Kind.IdentifierReference 3 (more (string (codes "f")) end))) (more (list (trees (node Kind.UnaryExpression 4 (more (string (codes "void")) (more (child (node Kind.Literal 5 (more (literal (literal_value.String (codes "a") (Some (codes "\"a\"")))) end))) end)) ∷ []))) (more (boolean false) end))))) (more no_string end)) ∷ []))) end))

-- `f(void `a`);`, with numbers of the first
abbrev pub second_void_of_a_template : Tree
second_void_of_a_template = node Kind.Program 0 (more (string (codes "script")) (more (list (trees (node Kind.ExpressionStatement 1 (more (child (node Kind.CallExpression 2 (more (child (node Kind.IdentifierReference 3 (more (string (codes "f")) end))) (more (list (trees (node Kind.UnaryExpression 4 (more (string (codes "void")) (more (child (node Kind.TemplateLiteral 5 (more (list (trees (node Kind.TemplateElement 6 (more (string (codes "a")) (more (string (codes "a")) (more (boolean true) end))) ∷ []))) (more (list end) end)))) end)) ∷ []))) (more (boolean false) end))))) (more no_string end)) ∷ []))) end))

abbrev pub options_void_of_a_template : Options
options_void_of_a_template = options_of false None false
