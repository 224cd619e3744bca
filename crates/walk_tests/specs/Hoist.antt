-- Names in place of `this`, and their declarations: `this` becomes `_this`, and the list around gets
-- `var _this` at its front.
use Rattle.std.specs.Prelude.{◌≡◌, ℕ, List, Bool, true, false, ◌&&◌, codes, None}
use Rattle.es_base.specs.Numbered.{unnumbered}
use Rattle.es_base.specs.Tree.{Tree, Parts, Node, end, more}
use Rattle.es_base.specs.declared.kind.Kind.{Kind}
use Rattle.es_ctx.specs.Stores.{pick, innermost, changed, with_var}
use Rattle.es_ctx.specs.declared.ctx.TraverseCtx.{TraverseCtx}
use Rattle.es_ctx.specs.declared.stores.OpenList.{OpenList}
use Rattle.es_expression.specs.Identifier.{identifier_reference, binding_identifier}
use Rattle.es_statement.specs.Statement.{variable_declarator}

abbrev pub is_this_kind : Kind → Bool
is_this_kind Kind.ThisExpression = true
is_this_kind k = false

abbrev pub is_none : Parts → Bool
is_none end = true
is_none (more p ps) = false

-- `this`, which has no parts
abbrev pub is_this : Tree → Bool
is_this (Node k i sp si ps) = is_this_kind k && is_none ps

abbrev pub IsNoThis : Tree → Type 0
IsNoThis t = is_this t ≡ false

-- `_this` in `var _this`
abbrev pub declarator : Tree
declarator = variable_declarator unnumbered None (binding_identifier unnumbered None None (codes "_this")) None

abbrev pub replaced : Bool → Tree → Tree
replaced true (Node k i sp si ps) = identifier_reference i sp None (codes "_this")
replaced false t = t

abbrev pub hoisted : Bool → List OpenList → List OpenList
hoisted b ls = pick b (changed (innermost ls) (with_var declarator) ls) ls

abbrev pub weight_if : Bool → ℕ
weight_if true = 4
weight_if false = 1

-- a `this` weighs the name, the declarator with its name, and a declaration
abbrev pub weight : Kind → ℕ
weight k = weight_if (is_this_kind k)

abbrev pub Enters : {T : Type 0} → Bool → T × TraverseCtx → Tree → T × TraverseCtx → Tree → Type 0
Enters goes s t e u = (goes ≡ true) × (u ≡ t) × (e ≡ s)

abbrev pub Leaves : {T : Type 0} → T × TraverseCtx → Tree → T × TraverseCtx → Tree → Type 0
Leaves s t e u = (u ≡ replaced (is_this t) t) × (e.1.next ≡ s.1.next) × (e.1.path ≡ s.1.path) × (e.1.lists ≡ hoisted (is_this t) s.1.lists) × (e.1.scoping ≡ s.1.scoping)
