-- What a walk calls whose hooks may change the nodes, in order. Calls are told by the nodes of the source: an
-- entering hook reads such a node, and a leaving hook gets what the walk has made of it.
use Rattle.std.specs.Prelude.{ℕ, ◌+◌, List, [], ◌∷◌, ◌++◌, Bool, true, false, Option, Some, None}
use Rattle.es_base.specs.Table.{members_of}
use Rattle.es_base.specs.Tree.{Tree, Part, Parts, Node, end, more, child, absent, list, string, no_string, boolean, literal}
use Rattle.es_base.specs.declared.kind.Kind.{Kind}
use Rattle.es_visit.specs.Roles.{role_at, is_computed}
use Rattle.es_visit.specs.Visited.{hook_of_role, hook_of_kind, scope_of, VisitedKind}
use Rattle.es_visit.specs.declared.roles.Role.{Role}
use Rattle.es_visit.specs.declared.visit_mut.Hook.{Hook}

-- a call: a hook as a node is entered, or as it is left; or what is called around the parts of a node with a scope
pub data Event : Type 0 where
  entered : (hook : Hook) (tree : Tree) → Event
  left : (hook : Hook) (tree : Tree) → Event
  scope_entered : (scope : ℕ) → Event
  scope_left : (scope : ℕ) → Event

abbrev pub if_true : Bool → List Event → List Event
if_true true es = es
if_true false es = []

-- the calls of a scope around those of the parts
abbrev pub with_scope : Option ℕ → List Event → List Event
with_scope (Some scope) es = scope_entered scope ∷ es ++ scope_left scope ∷ []
with_scope None es = es

-- goes: whether an entering hook has the walk go into a node
module _ (goes : Hook → Tree → Bool) where
  -- the calls of a hook around those inside the node, where the walk goes into it
  abbrev pub with_hook : Option Hook → Tree → List Event → List Event
  with_hook (Some hook) t es = entered hook t ∷ if_true (goes hook t) (es ++ left hook t ∷ [])
  with_hook None t es = es

  -- the calls of a tree that stands in this role: the hook of its place is outermost, then comes that of its kind
  abbrev mutual
    pub meetings : Role → Tree → List Event
    meetings role (Node k i sp si ps) = with_hook (hook_of_role role k) (Node k i sp si ps) (with_hook (hook_of_kind k) (Node k i sp si ps) (with_scope (scope_of k si) (meetings_below k (is_computed k ps) 0 ps)))

    -- the same of the parts of a node, from a member on
    pub meetings_below : Kind → Bool → ℕ → Parts → List Event
    meetings_below k computed at end = []
    meetings_below k computed at (more p ps) = meetings_part (role_at computed (members_of k) at) p ++ meetings_below k computed (at + 1) ps

    pub meetings_part : Role → Part → List Event
    meetings_part role (child t) = meetings role t
    meetings_part role absent = []
    meetings_part role (list all) = meetings_items role all
    meetings_part role (string s) = []
    meetings_part role no_string = []
    meetings_part role (boolean b) = []
    meetings_part role (literal v) = []

    pub meetings_items : Role → Parts → List Event
    meetings_items role end = []
    meetings_items role (more p ps) = meetings_part role p ++ meetings_items role ps

-- what the hooks do, as for `Visited`
module _ {S : Type 0} (enters : Hook → S → Tree → Bool → S → Type 0) (leaves : Hook → S → Tree → S → Tree → Type 0)
    (scope_enters : ℕ → S → S → Type 0) (scope_leaves : S → S → Type 0) (goes : Hook → Tree → Bool) where
  -- these calls, one after the other, lead from the first state to the second. A leaving hook gets a tree v that
  -- the walk has made of t, with the state that the walk has come to.
  pub data Led : S → List Event → S → Type 0 where
    no_call : {s : S} → Led s [] s
    enters_node : {hook : Hook} {s m e : S} {t : Tree} {es : List Event} → enters hook s t (goes hook t) m → Led m es e → Led s (entered hook t ∷ es) e
    leaves_node : {hook : Hook} {o : Option Hook} {b s m e : S} {t v u : Tree} {es : List Event} → VisitedKind enters leaves scope_enters scope_leaves o b t s v → leaves hook s v m u → Led m es e → Led s (left hook t ∷ es) e
    enters_scope : {scope : ℕ} {s m e : S} {es : List Event} → scope_enters scope s m → Led m es e → Led s (scope_entered scope ∷ es) e
    leaves_scope : {scope : ℕ} {s m e : S} {es : List Event} → scope_leaves s m → Led m es e → Led s (scope_left scope ∷ es) e
