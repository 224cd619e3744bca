-- Printed by tools/rows/witnesses.js.
use Rattle.std.specs.Prelude.{ℕ, List, [], ◌∷◌, true, false, codes, None}
use Rattle.es_base.specs.Tree.{Tree, end, more, child, list, string, no_string, boolean, trees}
use Rattle.es_base.specs.declared.kind.Kind.{Kind}
use Rattle.es_base.specs.declared.ledger.LedgerEntry.{LedgerEntry}
use Rattle.es_steps.specs.Generated.{node}
use Rattle.es_steps.specs.Options.{options_of}
use Rattle.es_steps.specs.declared.options.Options.{Options}

-- which piece of a template is its last: `f(`a${b}c`);`
abbrev pub first_tail_of_a_template : Tree
first_tail_of_a_template = node Kind.Program 0 (more (string (codes "script")) (more (list (trees (node Kind.ExpressionStatement 1 (more (child (node Kind.CallExpression 2 (more (child (node Kind.IdentifierReference 3 (more (string (codes "f")) end))) (more (list (trees (node Kind.TemplateLiteral 4 (more (list (trees (node Kind.TemplateElement 5 (more (string (codes "a")) (more (string (codes "a")) (more (boolean false) end))) ∷ node Kind.TemplateElement 6 (more (string (codes "c")) (more (string (codes "c")) (more (boolean true) end))) ∷ []))) (more (list (trees (node Kind.IdentifierReference 7 (more (string (codes "b")) end) ∷ []))) end)) ∷ []))) (more (boolean false) end))))) (more no_string end)) ∷ []))) end))

-- `f(`a${b}c`);`, with numbers of the first, where the first piece has the flag of the last
abbrev pub second_tail_of_a_template : Tree
second_tail_of_a_template = node Kind.Program 0 (more (string (codes "script")) (more (list (trees (node Kind.ExpressionStatement 1 (more (child (node Kind.CallExpression 2 (more (child (node Kind.IdentifierReference 3 (more (string (codes "f")) end))) (more (list (trees (node Kind.TemplateLiteral 4 (more (list (trees (node Kind.TemplateElement 5 (more (string (codes "a")) (more (string (codes "a")) (more (boolean true) end))) ∷ node Kind.TemplateElement 6 (more (string (codes "c")) (more (string (codes "c")) (more (boolean true) end))) ∷ []))) (more (list (trees (node Kind.IdentifierReference 7 (more (string (codes "b")) end) ∷ []))) end)) ∷ []))) (more (boolean false) end))))) (more no_string end)) ∷ []))) end))

abbrev pub options_tail_of_a_template : Options
options_tail_of_a_template = options_of false None false
