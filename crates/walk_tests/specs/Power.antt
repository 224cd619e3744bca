-- Powers, and the calls that replace them: `x ** y` becomes `Math.pow(x, y)`.
use Rattle.std.specs.Prelude.{◌≡◌, ℕ, ◌+◌, ◌&&◌, Bool, true, false, bytes_eq, codes, None}
use Rattle.es_base.specs.Tree.{Tree, Part, Parts, Node, end, more, child, string, list, boolean}
use Rattle.es_base.specs.declared.kind.Kind.{Kind}
use Rattle.es_ctx.specs.declared.ctx.TraverseCtx.{TraverseCtx}
use Rattle.es_expression.specs.Expression.{member_expression}
use Rattle.es_expression.specs.Identifier.{identifier_reference, identifier_name}

abbrev pub is_binary : Kind → Bool
is_binary Kind.BinaryExpression = true
is_binary k = false

abbrev pub is_power_string : Part → Bool
is_power_string (string s) = bytes_eq (codes "**") s
is_power_string p = false

-- `** x y`, the parts of a power
abbrev pub has_power : Parts → Bool
has_power (more operator (more left (more right end))) = is_power_string operator
has_power ps = false

-- whether a node is a power
abbrev pub is_power : Tree → Bool
is_power (Node k i sp si ps) = is_binary k && has_power ps

abbrev pub IsNoPower : Tree → Type 0
IsNoPower t = is_power t ≡ false

-- `Math.pow`, with the numbers n, n + 1 and n + 2
abbrev pub callee : ℕ → Tree
callee n = member_expression n None (identifier_reference (n + 1) None None (codes "Math")) (identifier_name (n + 2) None (codes "pow")) false false

-- `callee(left, right)`, from the parts of a power
abbrev pub called : ℕ → Parts → Parts
called n (more operator operands) = more (child (callee n)) (more (list operands) (more (boolean false) end))
called n end = end

abbrev pub replaced : Bool → ℕ → Tree → Tree
replaced true n (Node k i sp si ps) = Node Kind.CallExpression i sp None (called n ps)
replaced false n t = t

-- a node, or the call that replaces it where it is a power; the call has its number
abbrev pub lowered : ℕ → Tree → Tree
lowered n t = replaced (is_power t) n t

abbrev pub three_if : Bool → ℕ
three_if true = 3
three_if false = 0

abbrev pub weight_if : Bool → ℕ
weight_if true = 7
weight_if false = 1

-- a power weighs its call, and the three numbers that are given for it
abbrev pub weight : Kind → ℕ
weight k = weight_if (is_binary k)

-- the hooks: nothing is done as a node is entered
abbrev pub Enters : {T : Type 0} → Bool → T × TraverseCtx → Tree → T × TraverseCtx → Tree → Type 0
Enters goes s t e u = (goes ≡ true) × (u ≡ t) × (e ≡ s)

abbrev pub Leaves : {T : Type 0} → T × TraverseCtx → Tree → T × TraverseCtx → Tree → Type 0
Leaves s t e u = (u ≡ lowered s.1.next t) × (e.1.next ≡ s.1.next + three_if (is_power t)) × (e.1.path ≡ s.1.path) × (e.1.lists ≡ s.1.lists) × (e.1.scoping ≡ s.1.scoping)
