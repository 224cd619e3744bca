-- Printed by tools/rows/witnesses.js.
use Rattle.std.specs.Prelude.{ℕ, List, [], ◌∷◌, true, false, codes, None}
use Rattle.es_base.specs.Tree.{Tree, end, more, child, absent, list, string, boolean, trees}
use Rattle.es_base.specs.declared.kind.Kind.{Kind}
use Rattle.es_base.specs.declared.ledger.LedgerEntry.{LedgerEntry}
use Rattle.es_steps.specs.Generated.{node}
use Rattle.es_steps.specs.Options.{options_of}
use Rattle.es_steps.specs.declared.options.Options.{Options}

-- private names of nested classes, the last `#z`, which no class declares: `class A { #x; #y; f = class extends o.#y { static get #y() {} g = #x in o; h = o.#y; }; k = o.#x; }`
abbrev pub source_nested_classes : Tree
source_nested_classes = node Kind.Program 0 (more (string (codes "script")) (more (list (trees (node Kind.ClassDeclaration 1 (more (child (node Kind.BindingIdentifier 2 (more (string (codes "A")) end))) (more absent (more (child (node Kind.ClassBody 3 (more (list (trees (node Kind.PropertyDefinition 4 (more (child (node Kind.PrivateIdentifier 5 (more (string (codes "x")) end))) (more absent (more (boolean false) (more (boolean false) end)))) ∷ node Kind.PropertyDefinition 6 (more (child (node Kind.PrivateIdentifier 7 (more (string (codes "y")) end))) (more absent (more (boolean false) (more (boolean false) end)))) ∷ node Kind.PropertyDefinition 8 (more (child (node Kind.IdentifierName 9 (more (string (codes "f")) end))) (more (child (node Kind.ClassExpression 10 (more absent (more (child (node Kind.PrivateField 11 (more (child (node Kind.IdentifierReference 12 (more (string (codes "o")) end))) (more (child (node Kind.PrivateIdentifier 13 (more (string (codes "y")) end))) (more (boolean false) (more (boolean false) end)))))) (more (child (node Kind.ClassBody 14 (more (list (trees (node Kind.MethodDefinition 15 (more (child (node Kind.PrivateIdentifier 16 (more (string (codes "y")) end))) (more (child (node Kind.FunctionExpression 17 (more absent (more (list end) (more (child (node Kind.BlockStatement 18 (more (list end) end))) (more (boolean false) (more (boolean false) end))))))) (more (string (codes "get")) (more (boolean false) (more (boolean true) end))))) ∷ node Kind.PropertyDefinition 19 (more (child (node Kind.IdentifierName 20 (more (string (codes "g")) end))) (more (child (node Kind.PrivateIn 21 (more (string (codes "in")) (more (child (node Kind.PrivateIdentifier 22 (more (string (codes "x")) end))) (more (child (node Kind.IdentifierReference 23 (more (string (codes "o")) end))) end))))) (more (boolean false) (more (boolean false) end)))) ∷ node Kind.PropertyDefinition 24 (more (child (node Kind.IdentifierName 25 (more (string (codes "h")) end))) (more (child (node Kind.PrivateField 26 (more (child (node Kind.IdentifierReference 27 (more (string (codes "o")) end))) (more (child (node Kind.PrivateIdentifier 28 (more (string (codes "y")) end))) (more (boolean false) (more (boolean false) end)))))) (more (boolean false) (more (boolean false) end)))) ∷ []))) end))) end))))) (more (boolean false) (more (boolean false) end)))) ∷ node Kind.PropertyDefinition 29 (more (child (node Kind.IdentifierName 30 (more (string (codes "k")) end))) (more (child (node Kind.PrivateField 31 (more (child (node Kind.IdentifierReference 32 (more (string (codes "o")) end))) (more (child (node Kind.PrivateIdentifier 33 (more (string (codes "z")) end))) (more (boolean false) (more (boolean false) end)))))) (more (boolean false) (more (boolean false) end)))) ∷ []))) end))) end))) ∷ []))) end))

abbrev pub options_nested_classes : Options
options_nested_classes = options_of false None false
