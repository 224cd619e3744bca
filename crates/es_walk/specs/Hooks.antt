-- Which named hooks a node meets, and what their laws give for all of them.
use Rattle.std.specs.Prelude.{◌≡◌, ℕ, ◌≤◌, List, Bool, true, false, Option, Some, None}
use Rattle.std.proofs.Common.{ap, arith}
use Rattle.es_base.specs.Preorder.{nodes}
use Rattle.es_base.specs.Table.{is_statement, is_expression, is_target}
use Rattle.es_base.specs.Tree.{Tree, Part}
use Rattle.es_base.specs.declared.kind.Kind.{Kind}
use Rattle.es_ctx.specs.Ancestors.{innermost_or, ancestor_role}
use Rattle.es_ctx.specs.declared.ancestor.Ancestor.{Ancestor}
use Rattle.es_ctx.specs.declared.ancestor.Parent.{Parent}
use Rattle.es_ctx.specs.declared.ctx.TraverseCtx.{TraverseCtx}
use Rattle.es_node.specs.View.{kind_of}
use Rattle.es_visit.specs.declared.roles.Role.{Role}
use Rattle.es_walk.specs.Placing.{place_here, place_on}
use Rattle.es_walk.specs.Steps.{OpensPart, ClosesPart, KeepsPlace, KeepPlaces}
use Rattle.es_walk.specs.Weight.{total, heft, NoMore, KeepsReady, nodes-heft}
use Rattle.es_walk.specs.declared.hooks.Hook.{Hook}

abbrev pub is_entering : Hook → Bool
is_entering Hook.EnterStatement = true
is_entering Hook.EnterExpression = true
is_entering Hook.EnterClassBody = true
is_entering Hook.EnterAssignmentTarget = true
is_entering Hook.EnterPropertyDefinition = true
is_entering Hook.EnterStaticBlock = true
is_entering Hook.EnterAwaitExpression = true
is_entering h = false

-- the hooks of kinds that leave nodes
abbrev pub is_leaving : Hook → Bool
is_leaving Hook.ExitClass = true
is_leaving Hook.ExitPropertyDefinition = true
is_leaving Hook.ExitStaticBlock = true
is_leaving Hook.ExitProgram = true
is_leaving h = false

-- the role of the node at hand: that of the innermost place around
abbrev pub role_here : List Ancestor → Role
role_here around = innermost_or Role.Other ancestor_role around

abbrev pub hook_if : Bool → Hook → Option Hook
hook_if true h = Some h
hook_if false h = None

abbrev pub enter_hook_of_role : Role → Kind → Option Hook
enter_hook_of_role Role.Statement k = hook_if (is_statement k) Hook.EnterStatement
enter_hook_of_role Role.Expression k = hook_if (is_expression k) Hook.EnterExpression
enter_hook_of_role Role.Target k = hook_if (is_target k) Hook.EnterAssignmentTarget
enter_hook_of_role role k = None

abbrev pub enter_hook_of_kind : Kind → Option Hook
enter_hook_of_kind Kind.ClassBody = Some Hook.EnterClassBody
enter_hook_of_kind Kind.PropertyDefinition = Some Hook.EnterPropertyDefinition
enter_hook_of_kind Kind.StaticBlock = Some Hook.EnterStaticBlock
enter_hook_of_kind Kind.AwaitExpression = Some Hook.EnterAwaitExpression
enter_hook_of_kind k = None

abbrev pub exit_hook_of_kind : Kind → Option Hook
exit_hook_of_kind Kind.ClassDeclaration = Some Hook.ExitClass
exit_hook_of_kind Kind.ClassExpression = Some Hook.ExitClass
exit_hook_of_kind Kind.PropertyDefinition = Some Hook.ExitPropertyDefinition
exit_hook_of_kind Kind.StaticBlock = Some Hook.ExitStaticBlock
exit_hook_of_kind Kind.Program = Some Hook.ExitProgram
exit_hook_of_kind k = None

abbrev pub exit_hook_of_role : Role → Kind → Option Hook
exit_hook_of_role Role.Expression k = hook_if (is_expression k) Hook.ExitExpression
exit_hook_of_role role k = None

abbrev pub is_last : Hook → Bool
is_last Hook.ExitExpression = true
is_last h = false

-- a hook of a sort that is called, if there is one
abbrev pub Calls : {S : Type 0} → (Hook → Bool) → (Hook → S → Tree → S → Tree → Type 0) → Option Hook → S → Tree → S → Tree → Type 0
Calls sort does (Some h) s t e u = (sort h ≡ true) × does h s t e u
Calls sort does None s t e u = (u ≡ t) × (e ≡ s)

module _ {T : Type 0} (does : Hook → T × TraverseCtx → Tree → T × TraverseCtx → Tree → Type 0) where
  pub data EntersNode : T × TraverseCtx → Tree → T × TraverseCtx → Tree → Type 0 where
    enters : {s e : T × TraverseCtx} {t u : Tree} (m : T × TraverseCtx) (v : Tree) → Calls is_entering does (enter_hook_of_role (role_here s.1.path) (kind_of t)) s t m v → Calls is_entering does (enter_hook_of_kind (kind_of v)) m v e u → EntersNode s t e u

  -- by what the node was before its first hook
  pub data LeavesNode : T × TraverseCtx → Tree → T × TraverseCtx → Tree → Type 0 where
    leaves : {s e : T × TraverseCtx} {t u : Tree} (m : T × TraverseCtx) (v : Tree) → Calls is_leaving does (exit_hook_of_kind (kind_of t)) s t m v → Calls is_last does (exit_hook_of_role (role_here s.1.path) (kind_of t)) m v e u → LeavesNode s t e u

  -- what holds of the state
  module _ (ready : T × TraverseCtx → Type 0) (law : (h : Hook) → KeepsReady (does h) ready) where
    calls_ready : (sort : Hook → Bool) (o : Option Hook) → KeepsReady (Calls sort does o) ready
    calls_ready sort (Some h) s e t u x r = law h s e t u x.1 r
    calls_ready sort None s e t u x r = rw x.1 r

    pub enters_ready : KeepsReady EntersNode ready
    enters_ready s e t u (enters m v x y) r = calls_ready is_entering (enter_hook_of_kind (kind_of v)) m e v u y (calls_ready is_entering (enter_hook_of_role (role_here s.1.path) (kind_of t)) s m t v x r)

    pub leaves_ready : KeepsReady LeavesNode ready
    leaves_ready s e t u (leaves m v x y) r = calls_ready is_last (exit_hook_of_role (role_here s.1.path) (kind_of t)) m e v u y (calls_ready is_leaving (exit_hook_of_kind (kind_of t)) s m t v x r)

  -- where the walk stands
  module _ (law : (h : Hook) → KeepPlaces (does h)) where
    calls_place : (sort : Hook → Bool) (o : Option Hook) → KeepPlaces (Calls sort does o)
    calls_place sort (Some h) s e t u x = law h s e t u x.1
    calls_place sort None s e t u x = rw x.1 (place_here s)

    pub enters_place : KeepPlaces EntersNode
    enters_place s e t u (enters m v x y) = place_on s m e (calls_place is_entering (enter_hook_of_role (role_here s.1.path) (kind_of t)) s m t v x) (calls_place is_entering (enter_hook_of_kind (kind_of v)) m e v u y)

    pub leaves_place : KeepPlaces LeavesNode
    leaves_place s e t u (leaves m v x y) = place_on s m e (calls_place is_leaving (exit_hook_of_kind (kind_of t)) s m t v x) (calls_place is_last (exit_hook_of_role (role_here s.1.path) (kind_of t)) m e v u y)

  -- numbers: a node that is left keeps its weight until its last hook
  module _ (weight : Kind → ℕ) (load : T × TraverseCtx → ℕ) where
    pub calls_pay : (sort : Hook → Bool) (o : Option Hook) (before : Tree → ℕ) → ((h : Hook) → sort h ≡ true → NoMore (does h) before before load) → NoMore (Calls sort does o) before before load
    calls_pay sort (Some h) before law s e t u x = law h x.0 s e t u x.1
    calls_pay sort None before law s e t u x = omega (arith, ap before x.0, ap load x.1)

    pub enters_pay : ((h : Hook) → is_entering h ≡ true → NoMore (does h) (total weight) (total weight) load) → NoMore EntersNode (total weight) (total weight) load
    enters_pay law s e t u (enters m v x y) = omega (arith, calls_pay is_entering (enter_hook_of_role (role_here s.1.path) (kind_of t)) (total weight) law s m t v x, calls_pay is_entering (enter_hook_of_kind (kind_of v)) (total weight) law m e v u y)

    last_pays : ((k : Kind) → 1 ≤ weight k) → (o : Option Hook) → ((h : Hook) → is_last h ≡ true → NoMore (does h) (heft weight) nodes load) → NoMore (Calls is_last does o) (heft weight) nodes load
    last_pays some (Some h) law s e t u x = law h x.0 s e t u x.1
    last_pays some None law s e t u x = omega (arith, ap nodes x.0, ap load x.1, nodes-heft weight some t)

    pub leaves_pay : ((k : Kind) → 1 ≤ weight k) → ((h : Hook) → is_leaving h ≡ true → NoMore (does h) (heft weight) (heft weight) load) → ((h : Hook) → is_last h ≡ true → NoMore (does h) (heft weight) nodes load) → NoMore LeavesNode (heft weight) nodes load
    leaves_pay some law last s e t u (leaves m v x y) = omega (arith, calls_pay is_leaving (exit_hook_of_kind (kind_of t)) (heft weight) law s m t v x, last_pays some (exit_hook_of_role (role_here s.1.path) (kind_of t)) last m e v u y)

-- what is done beside the hooks, seen from a transform inside another
module _ {T N : Type 0} (inner : N → T) where
  pub inner_opens : (s : N × TraverseCtx) (parent : Parent) (at : ℕ) (p : Part) (e : N × TraverseCtx) → OpensPart s parent at p e → OpensPart (inner s.0, s.1) parent at p (inner e.0, e.1)
  inner_opens s parent at p e h = record { transform = ap inner h.transform; next = h.next; path = h.path; lists = h.lists; outcome = h.outcome }

  pub inner_closes : (s : N × TraverseCtx) (parent : Parent) (at : ℕ) (p : Part) (e : N × TraverseCtx) (q : Part) → ClosesPart s parent at p e q → ClosesPart (inner s.0, s.1) parent at p (inner e.0, e.1) q
  inner_closes s parent at p e q h = record { transform = ap inner h.transform; next = h.next; path = h.path; lists = h.lists; outcome = h.outcome; part = h.part }

  pub inner_place : (s e : N × TraverseCtx) → KeepsPlace (inner s.0, s.1) (inner e.0, e.1) → KeepsPlace s e
  inner_place s e h = record { path = h.path; depth = h.depth; given = h.given }

-- a walk by named hooks goes into every node
pub never : {A : Type 0} → false ≡ true → A
never e = absurd (cc e)
