-- Printed by tools/rows/witnesses.js.
use Rattle.std.specs.Prelude.{ℕ, List, [], ◌∷◌, false, codes, None}
use Rattle.es_base.specs.Tree.{Tree, end, more, child, absent, list, string, boolean, literal, trees}
use Rattle.es_base.specs.declared.kind.Kind.{Kind}
use Rattle.es_base.specs.declared.ledger.LedgerEntry.{LedgerEntry}
use Rattle.es_base.specs.declared.literal.LiteralValue.TheVariants as literal_value
use Rattle.es_steps.specs.Generated.{node}
use Rattle.es_steps.specs.Options.{options_of}
use Rattle.es_steps.specs.declared.options.Options.{Options}

-- a private getter and a private method: `class C { get #m() { return 1; } t(o) { return o.#m; } }`
abbrev pub first_getter_or_method : Tree
first_getter_or_method = node Kind.Program 0 (more (string (codes "script")) (more (list (trees (node Kind.ClassDeclaration 1 (more (child (node Kind.BindingIdentifier 2 (more (string (codes "C")) end))) (more absent (more (child (node Kind.ClassBody 3 (more (list (trees (node Kind.MethodDefinition 4 (more (child (node Kind.PrivateIdentifier 5 (more (string (codes "m")) end))) (more (child (node Kind.FunctionExpression 6 (more absent (more (list end) (more (child (node Kind.BlockStatement 7 (more (list (trees (node Kind.ReturnStatement 8 (more (child (node Kind.Literal 9 (more (literal (literal_value.Number (codes "1"))) end))) end) ∷ []))) end))) (more (boolean false) (more (boolean false) end))))))) (more (string (codes "get")) (more (boolean false) (more (boolean false) end))))) ∷ node Kind.MethodDefinition 10 (more (child (node Kind.IdentifierName 11 (more (string (codes "t")) end))) (more (child (node Kind.FunctionExpression 12 (more absent (more (list (trees (node Kind.BindingIdentifier 13 (more (string (codes "o")) end) ∷ []))) (more (child (node Kind.BlockStatement 14 (more (list (trees (node Kind.ReturnStatement 15 (more (child (node Kind.PrivateField 16 (more (child (node Kind.IdentifierReference 17 (more (string (codes "o")) end))) (more (child (node Kind.PrivateIdentifier 18 (more (string (codes "m")) end))) (more (boolean false) (more (boolean false) end)))))) end) ∷ []))) end))) (more (boolean false) (more (boolean false) end))))))) (more (string (codes "method")) (more (boolean false) (more (boolean false) end))))) ∷ []))) end))) end))) ∷ []))) end))

-- `class C { #m() { return 1; } t(o) { return o.#m; } }`, with numbers of the first
abbrev pub second_getter_or_method : Tree
second_getter_or_method = node Kind.Program 0 (more (string (codes "script")) (more (list (trees (node Kind.ClassDeclaration 1 (more (child (node Kind.BindingIdentifier 2 (more (string (codes "C")) end))) (more absent (more (child (node Kind.ClassBody 3 (more (list (trees (node Kind.MethodDefinition 4 (more (child (node Kind.PrivateIdentifier 5 (more (string (codes "m")) end))) (more (child (node Kind.FunctionExpression 6 (more absent (more (list end) (more (child (node Kind.BlockStatement 7 (more (list (trees (node Kind.ReturnStatement 8 (more (child (node Kind.Literal 9 (more (literal (literal_value.Number (codes "1"))) end))) end) ∷ []))) end))) (more (boolean false) (more (boolean false) end))))))) (more (string (codes "method")) (more (boolean false) (more (boolean false) end))))) ∷ node Kind.MethodDefinition 10 (more (child (node Kind.IdentifierName 11 (more (string (codes "t")) end))) (more (child (node Kind.FunctionExpression 12 (more absent (more (list (trees (node Kind.BindingIdentifier 13 (more (string (codes "o")) end) ∷ []))) (more (child (node Kind.BlockStatement 14 (more (list (trees (node Kind.ReturnStatement 15 (more (child (node Kind.PrivateField 16 (more (child (node Kind.IdentifierReference 17 (more (string (codes "o")) end))) (more (child (node Kind.PrivateIdentifier 18 (more (string (codes "m")) end))) (more (boolean false) (more (boolean false) end)))))) end) ∷ []))) end))) (more (boolean false) (more (boolean false) end))))))) (more (string (codes "method")) (more (boolean false) (more (boolean false) end))))) ∷ []))) end))) end))) ∷ []))) end))

abbrev pub options_getter_or_method : Options
options_getter_or_method = options_of false None false
