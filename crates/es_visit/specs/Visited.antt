-- What a walk does whose hooks may change the nodes.
use Rattle.std.specs.Prelude.{◌≡◌, ℕ, ◌+◌, Bool, true, false, Option, Some, None}
use Rattle.es_base.specs.Table.{members_of, is_statement, is_expression}
use Rattle.es_base.specs.Tree.{Tree, Part, Parts, Node, end, more, child, list}
use Rattle.es_base.specs.declared.kind.Kind.{Kind}
use Rattle.es_node.specs.View.{kind_of}
use Rattle.es_visit.specs.Bare.{is_bare}
use Rattle.es_visit.specs.Roles.{role_at, is_computed}
use Rattle.es_visit.specs.declared.roles.Role.{Role}
use Rattle.es_visit.specs.declared.visit_mut.Hook.{Hook}

abbrev pub hook_if : Bool → Hook → Option Hook
hook_if true hook = Some hook
hook_if false hook = None

-- the hook of a place
abbrev pub hook_of_role : Role → Kind → Option Hook
hook_of_role Role.Statement kind = hook_if (is_statement kind) Hook.Statement
hook_of_role Role.Expression kind = hook_if (is_expression kind) Hook.Expression
hook_of_role role kind = None

-- the hook of a kind
abbrev pub hook_of_kind : Kind → Option Hook
hook_of_kind Kind.ClassDeclaration = Some Hook.Class
hook_of_kind Kind.ClassExpression = Some Hook.Class
hook_of_kind Kind.FunctionDeclaration = Some Hook.Function
hook_of_kind Kind.FunctionExpression = Some Hook.Function
hook_of_kind Kind.ArrowFunctionExpression = Some Hook.Arrow
hook_of_kind Kind.CallExpression = Some Hook.Call
hook_of_kind Kind.PropertyDefinition = Some Hook.PropertyDefinition
hook_of_kind Kind.StaticBlock = Some Hook.StaticBlock
hook_of_kind Kind.IdentifierReference = Some Hook.IdentifierReference
hook_of_kind Kind.BindingIdentifier = Some Hook.BindingIdentifier
hook_of_kind kind = None

-- the scope that a node of this kind opens: its semantic id, unless that is a symbol or a reference
abbrev pub scope_of : Kind → Option ℕ → Option ℕ
scope_of Kind.IdentifierReference semantic_id = None
scope_of Kind.BindingIdentifier semantic_id = None
scope_of kind semantic_id = semantic_id

-- what the hooks do, told by the states and the trees before and after. The answer of an entering hook
-- says whether the walk goes into the node.
module _ {S : Type 0} (enters : Hook → S → Tree → Bool → S → Type 0) (leaves : Hook → S → Tree → S → Tree → Type 0)
    (scope_enters : ℕ → S → S → Type 0) (scope_leaves : S → S → Type 0) where
  abbrev pub EntersScope : Option ℕ → S → S → Type 0
  EntersScope (Some scope) s e = scope_enters scope s e
  EntersScope None s e = e ≡ s

  abbrev pub LeavesScope : Option ℕ → S → S → Type 0
  LeavesScope (Some scope) s e = scope_leaves s e
  LeavesScope None s e = e ≡ s

  mutual
    -- from the state s the walk of a tree in this role leads to e, and makes it u: the hook of its place is
    -- outermost, then comes that of its kind
    pub data Visited : Role → S → Tree → S → Tree → Type 0 where
      by_role : {role : Role} {s e : S} {t u : Tree} → VisitedBy (hook_of_role role (kind_of t)) s t e u → Visited role s t e u

    pub data VisitedBy : Option Hook → S → Tree → S → Tree → Type 0 where
      no_hook : {s e : S} {t u : Tree} → VisitedKind (hook_of_kind (kind_of t)) s t e u → VisitedBy None s t e u
      through : {hook : Hook} {s m n e : S} {t v u : Tree} → enters hook s t true m → VisitedKind (hook_of_kind (kind_of t)) m t n v → leaves hook n v e u → VisitedBy (Some hook) s t e u
      passed_by : {hook : Hook} {s e : S} {t : Tree} → enters hook s t false e → VisitedBy (Some hook) s t e t

    pub data VisitedKind : Option Hook → S → Tree → S → Tree → Type 0 where
      no_kind_hook : {s e : S} {t u : Tree} → VisitedInside s t e u → VisitedKind None s t e u
      kind_through : {hook : Hook} {s m n e : S} {t v u : Tree} → enters hook s t true m → VisitedInside m t n v → leaves hook n v e u → VisitedKind (Some hook) s t e u
      kind_passed_by : {hook : Hook} {s e : S} {t : Tree} → enters hook s t false e → VisitedKind (Some hook) s t e t

    -- a node that the walk goes into
    pub data VisitedInside : S → Tree → S → Tree → Type 0 where
      inside : {s m n e : S} {k : Kind} {i : ℕ} {sp : Option (ℕ × ℕ)} {si : Option ℕ} {ps qs : Parts} → EntersScope (scope_of k si) s m → VisitedBelow k (is_computed k ps) 0 m ps n qs → LeavesScope (scope_of k si) n e → VisitedInside s (Node k i sp si ps) e (Node k i sp si qs)

    -- the parts of a node, from a member on
    pub data VisitedBelow : Kind → Bool → ℕ → S → Parts → S → Parts → Type 0 where
      none : {k : Kind} {computed : Bool} {at : ℕ} {s : S} → VisitedBelow k computed at s end s end
      next : {k : Kind} {computed : Bool} {at : ℕ} {s m e : S} {p q : Part} {ps qs : Parts} → VisitedPart (role_at computed (members_of k) at) s p m q → VisitedBelow k computed (at + 1) m ps e qs → VisitedBelow k computed at s (more p ps) e (more q qs)

    -- a part of a node, or an item of a list: what is no node and no list, as a hole, is passed by
    pub data VisitedPart : Role → S → Part → S → Part → Type 0 where
      of_child : {role : Role} {s e : S} {t u : Tree} → Visited role s t e u → VisitedPart role s (child t) e (child u)
      of_list : {role : Role} {s e : S} {ps qs : Parts} → VisitedItems role s ps e qs → VisitedPart role s (list ps) e (list qs)
      bare : {role : Role} {s : S} {p : Part} → is_bare p ≡ true → VisitedPart role s p s p

    pub data VisitedItems : Role → S → Parts → S → Parts → Type 0 where
      no_item : {role : Role} {s : S} → VisitedItems role s end s end
      next_item : {role : Role} {s m e : S} {p q : Part} {ps qs : Parts} → VisitedPart role s p m q → VisitedItems role m ps e qs → VisitedItems role s (more p ps) e (more q qs)
