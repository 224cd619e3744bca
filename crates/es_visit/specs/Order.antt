-- The order of the calls of a walk whose hooks may change the nodes.
use Rattle.std.specs.Prelude.{◌≡◌, ℕ, ◌+◌, List, [], ◌∷◌, ◌++◌, Bool, true, false, Option, Some, None, flat_map}
use Rattle.es_base.specs.Table.{members_of}
use Rattle.es_base.specs.Tree.{Tree, Part, Parts, Node, end, more, child, absent, list, string, no_string, boolean, literal}
use Rattle.es_base.specs.declared.kind.Kind.{Kind}
use Rattle.es_node.specs.View.{kind_of, semantic_id_in}
use Rattle.es_visit.specs.Law.{standing}
use Rattle.es_visit.specs.Meetings.{Event, entered, left, scope_entered, scope_left, meetings, Led}
use Rattle.es_visit.specs.Roles.{role_at, is_computed}
use Rattle.es_visit.specs.Visited.{hook_of_role, hook_of_kind, scope_of, Visited}
use Rattle.es_visit.specs.declared.roles.Role.{Role}
use Rattle.es_visit.specs.declared.visit_mut.Hook.{Hook}

-- the entering hooks answer by the hook and the node alone
abbrev pub AnswersBy : {S : Type 0} → (Hook → S → Tree → Bool → S → Type 0) → (Hook → Tree → Bool) → Type 0
AnswersBy {S} enters goes = (hook : Hook) (s e : S) (t : Tree) (answer : Bool) → enters hook s t answer e → answer ≡ goes hook t

-- what a walk does is what its hooks do, called one after the other as `meetings` says
abbrev pub CallsLaw : {S : Type 0} → (Hook → S → Tree → Bool → S → Type 0) → (Hook → S → Tree → S → Tree → Type 0) → (ℕ → S → S → Type 0) → (S → S → Type 0) → Type 0
CallsLaw {S} enters leaves scope_enters scope_leaves =
    (goes : Hook → Tree → Bool) → AnswersBy enters goes → (role : Role) (s e : S) (t u : Tree)
    → Visited enters leaves scope_enters scope_leaves role s t e u → Led enters leaves scope_enters scope_leaves goes s (meetings goes role t) e

-- what is entered is left where the walk goes into it, and not left where it does not; what was entered last is
-- left first
module _ (goes : Hook → Tree → Bool) where
  pub data Nested : List Event → Type 0 where
    nothing : Nested []
    passed_by : {hook : Hook} {t : Tree} {es : List Event} → goes hook t ≡ false → Nested es → Nested (entered hook t ∷ es)
    around_node : {hook : Hook} {t : Tree} {inside es : List Event} → goes hook t ≡ true → Nested inside → Nested es → Nested (entered hook t ∷ inside ++ left hook t ∷ es)
    around_parts : {scope : ℕ} {inside es : List Event} → Nested inside → Nested es → Nested (scope_entered scope ∷ inside ++ scope_left scope ∷ es)

abbrev pub NestedLaw : Type 0
NestedLaw = (goes : Hook → Tree → Bool) (role : Role) (t : Tree) → Nested goes (meetings goes role t)

-- ---- where every entering hook answers true

abbrev pub everywhere : Hook → Tree → Bool
everywhere hook t = true

-- the calls as something is entered
abbrev pub entering : List Event → List Event
entering [] = []
entering (entered hook t ∷ es) = entered hook t ∷ entering es
entering (left hook t ∷ es) = entering es
entering (scope_entered scope ∷ es) = scope_entered scope ∷ entering es
entering (scope_left scope ∷ es) = entering es

-- the calls as something is left
abbrev pub leaving : List Event → List Event
leaving [] = []
leaving (entered hook t ∷ es) = leaving es
leaving (left hook t ∷ es) = left hook t ∷ leaving es
leaving (scope_entered scope ∷ es) = leaving es
leaving (scope_left scope ∷ es) = scope_left scope ∷ leaving es

-- the call of a hook or a scope, if there is one
abbrev pub call_of : {A : Type 0} → (A → Event) → Option A → List Event
call_of call (Some x) = call x ∷ []
call_of call None = []

-- what is called as a node is entered: the hook of its place, that of its kind, and its scope
abbrev pub opened : Role × Tree → List Event
opened x = call_of (λ hook. entered hook x.1) (hook_of_role x.0 (kind_of x.1)) ++ call_of (λ hook. entered hook x.1) (hook_of_kind (kind_of x.1)) ++ call_of scope_entered (scope_of (kind_of x.1) (semantic_id_in x.1))

-- what is called as a node is left, in the other order
abbrev pub closed : Role × Tree → List Event
closed x = call_of scope_left (scope_of (kind_of x.1) (semantic_id_in x.1)) ++ call_of (λ hook. left hook x.1) (hook_of_kind (kind_of x.1)) ++ call_of (λ hook. left hook x.1) (hook_of_role x.0 (kind_of x.1))

-- the nodes of a tree in postorder, each with the role in which it stands
abbrev mutual
  pub standing_last : Role → Tree → List (Role × Tree)
  standing_last role (Node k i sp si ps) = last_below k (is_computed k ps) 0 ps ++ (role, Node k i sp si ps) ∷ []

  pub last_below : Kind → Bool → ℕ → Parts → List (Role × Tree)
  last_below k computed at end = []
  last_below k computed at (more p ps) = last_part (role_at computed (members_of k) at) p ++ last_below k computed (at + 1) ps

  pub last_part : Role → Part → List (Role × Tree)
  last_part role (child t) = standing_last role t
  last_part role absent = []
  last_part role (list all) = last_items role all
  last_part role (string s) = []
  last_part role no_string = []
  last_part role (boolean b) = []
  last_part role (literal v) = []

  pub last_items : Role → Parts → List (Role × Tree)
  last_items role end = []
  last_items role (more p ps) = last_part role p ++ last_items role ps

-- each node is entered once, in preorder
abbrev pub EntersLaw : Type 0
EntersLaw = (role : Role) (t : Tree) → entering (meetings everywhere role t) ≡ flat_map opened (standing role t)

-- each node is left once, in postorder
abbrev pub LeavesLaw : Type 0
LeavesLaw = (role : Role) (t : Tree) → leaving (meetings everywhere role t) ≡ flat_map closed (standing_last role t)
