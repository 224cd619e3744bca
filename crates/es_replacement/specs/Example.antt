-- Pairs of trees of which one stands for the other: `a().b ||= c` and `(_t = a()).b || (_t.b = c)`, in a script that declares `_t`.
use Rattle.std.specs.Prelude.{◌≡◌, ℕ, List, [], ◌∷◌, true, false, codes, None, Some}
use Rattle.es_base.specs.Tree.{Tree, end, more, child, absent, list, string, no_string, boolean, trees}
use Rattle.es_base.specs.declared.kind.Kind.{Kind}
use Rattle.es_base.specs.declared.ledger.GeneratedKind.{GeneratedKind}
use Rattle.es_steps.specs.Generated.{node, named}
use Rattle.es_steps.specs.Options.{options_of}
use Rattle.es_steps.specs.PrivateNames.{a_field}
use Rattle.es_steps.specs.Meaning.{Terms, means, has_meaning}
use Rattle.es_steps.specs.Values.{String}
use Rattle.es_steps.specs.declared.options.Options.{Options}
use Rattle.es_replacement.specs.Law.{StandsFor, StandsApart}
use Rattle.es_replacement.specs.TreeHoles.{the_child, an_item, TreeHole, top, within, put}

abbrev pub temporary : List String
temporary = codes "_t" ∷ []

abbrev pub member : ℕ → Tree → ℕ → Tree
member m o k = node Kind.MemberExpression m (more (child o) (more (child (named Kind.IdentifierName k (codes "b"))) (more (boolean false) (more (boolean false) end))))

abbrev pub assignment : ℕ → String → Tree → Tree → Tree
assignment m operator to e = node Kind.AssignmentExpression m (more (string operator) (more (child to) (more (child e) end)))

abbrev pub object : Tree
object = node Kind.CallExpression 4 (more (child (named Kind.IdentifierReference 5 (codes "a"))) (more (list end) (more (boolean false) end)))

abbrev pub right : Tree
right = named Kind.IdentifierReference 7 (codes "c")

-- `a().b ||= c`
abbrev pub assigned : Tree
assigned = assignment 2 (codes "||=") (member 3 object 6) right

-- `(_t = a()).b || (_t.b = c)`
abbrev pub tested : Tree
tested = node Kind.LogicalExpression 2 (more (string (codes "||")) (more (child (member 3 (assignment 11 (codes "=") (named Kind.IdentifierReference 12 (codes "_t")) object) 6)) (more (child (assignment 13 (codes "=") (member 14 (named Kind.IdentifierReference 15 (codes "_t")) 16) right)) end)))

-- `var _t;`
abbrev pub declaration : Tree
declaration = node Kind.VariableDeclaration 8 (more (string (codes "var")) (more (list (more (child (node Kind.VariableDeclarator 9 (more (child (named Kind.BindingIdentifier 10 (codes "_t"))) (more absent end)))) end)) end))

-- the script, with a hole for its last expression
abbrev pub script : TreeHole
script = within Kind.Program 0 None None (more (string (codes "script")) end) (an_item (more (child declaration) end) end) end (within Kind.ExpressionStatement 1 None None end the_child (more no_string end) top)

abbrev pub terms : Options → Terms
terms options = record { first_new = 8; options = options; ledger = record { name = codes "_t"; kind = GeneratedKind.Temp } ∷ []; members = []; named = []; late = [] }

abbrev pub LogicalLaw : Type 0
LogicalLaw = (options : Options) → StandsFor temporary true (terms options) script assigned tested

abbrev pub LogicalHasMeaning : Type 0
LogicalHasMeaning = (options : Options) → has_meaning (means (terms options) (put script assigned)) ≡ true

-- ---- `this.#x` and `babelHelpers.classPrivateFieldGet2(_x, this)`, in `class A { #x; m() { return this.#x; } }`

-- `this.#x`
abbrev pub field_read : Tree
field_read = node Kind.PrivateField 11 (more (child (node Kind.ThisExpression 12 end)) (more (child (named Kind.PrivateIdentifier 13 (codes "x"))) (more (boolean false) (more (boolean false) end))))

-- `babelHelpers.classPrivateFieldGet2(_x, this)`
abbrev pub field_given : Tree
field_given = node Kind.CallExpression 11 (more (child (node Kind.MemberExpression 20 (more (child (named Kind.IdentifierReference 21 (codes "babelHelpers"))) (more (child (named Kind.IdentifierName 22 (codes "classPrivateFieldGet2"))) (more (boolean false) (more (boolean false) end)))))) (more (list (trees (named Kind.IdentifierReference 23 (codes "_x") ∷ node Kind.ThisExpression 12 end ∷ []))) (more (boolean false) end)))

-- `var _x = new WeakMap();`
abbrev pub map_declared : Tree
map_declared = node Kind.VariableDeclaration 14 (more (string (codes "var")) (more (list (more (child (node Kind.VariableDeclarator 15 (more (child (named Kind.BindingIdentifier 16 (codes "_x"))) (more (child (node Kind.NewExpression 17 (more (child (named Kind.IdentifierReference 18 (codes "WeakMap"))) (more (list end) end)))) end)))) end)) end))

-- `#x;`
abbrev pub field_declared : Tree
field_declared = node Kind.PropertyDefinition 4 (more (child (named Kind.PrivateIdentifier 5 (codes "x"))) (more absent (more (boolean false) (more (boolean false) end))))

-- the body of m, with a hole for what it returns
abbrev pub returned : TreeHole
returned = within Kind.FunctionExpression 8 None None (more absent (more (list end) end)) the_child (more (boolean false) (more (boolean false) end)) (within Kind.BlockStatement 9 None None end (an_item end end) end (within Kind.ReturnStatement 10 None None end the_child end top))

abbrev pub in_class : TreeHole
in_class =
    within Kind.Program 0 None None (more (string (codes "script")) end) (an_item (more (child map_declared) end) end) end
    (within Kind.ClassDeclaration 1 None None (more (child (named Kind.BindingIdentifier 2 (codes "A"))) (more absent end)) the_child end
    (within Kind.ClassBody 3 None None end (an_item (more (child field_declared) end) end) end
    (within Kind.MethodDefinition 6 None None (more (child (named Kind.IdentifierName 7 (codes "m"))) end) the_child (more (string (codes "method")) (more (boolean false) (more (boolean false) end))) returned)))

abbrev pub private_terms : Terms
private_terms = record { first_new = 14; options = options_of false (Some (record { loose = false })) false; ledger = record { name = codes "_x"; kind = GeneratedKind.WeakMap (record { 0 = 5 }) } ∷ []; members = record { number = 5; spelling = codes "x"; class = 1; is_static = false; kind = a_field } ∷ []; named = []; late = [] }

abbrev pub PrivateLaw : Type 0
PrivateLaw = StandsApart [] true private_terms in_class field_read field_given

abbrev pub PrivateHasMeaning : Type 0
PrivateHasMeaning = has_meaning (means private_terms (put in_class field_read)) ≡ true
