-- What the walk itself does at a member, beside the hooks.
use Rattle.std.specs.Prelude.{◌≡◌, ℕ, ◌≤◌, List, length}
use Rattle.es_base.specs.Tree.{Tree, Part}
use Rattle.es_ctx.specs.Ancestors.{going_into, has_statements}
use Rattle.es_ctx.specs.Outcome.{KeepsOutcome}
use Rattle.es_ctx.specs.Stores.{front, opened, closed, filled}
use Rattle.es_ctx.specs.declared.ancestor.Ancestor.{Ancestor}
use Rattle.es_ctx.specs.declared.ancestor.Parent.{Parent}
use Rattle.es_ctx.specs.declared.ctx.TraverseCtx.{TraverseCtx}
use Rattle.es_ctx.specs.declared.stores.OpenList.{OpenList}
use Rattle.es_walk.specs.Given.{Ids, ids_given}

-- the nodes around, the outermost first
abbrev pub path_of : {T : Type 0} → T × TraverseCtx → List Ancestor
path_of s = s.1.path

-- the open lists, the outermost first
abbrev pub lists_of : {T : Type 0} → T × TraverseCtx → List OpenList
lists_of s = s.1.lists

-- the member is one more place around, and its list is opened, if it is one of statements
pub record OpensPart {T : Type 0} (s : T × TraverseCtx) (parent : Parent) (at : ℕ) (p : Part) (m : T × TraverseCtx) : Type 0 where
  pub transform : m.0 ≡ s.0
  pub next : m.1.next ≡ s.1.next
  pub path : m.1.path ≡ going_into s.1.path parent at
  pub lists : m.1.lists ≡ opened (has_statements parent.kind at) p s.1.lists
  pub outcome : KeepsOutcome s.1 m.1

-- that place is left; the list is closed, and gets what was kept for it
pub record ClosesPart {T : Type 0} (s : T × TraverseCtx) (parent : Parent) (at : ℕ) (p : Part) (e : T × TraverseCtx) (q : Part) : Type 0 where
  pub transform : e.0 ≡ s.0
  pub next : e.1.next ≡ s.1.next
  pub path : e.1.path ≡ front s.1.path
  pub lists : e.1.lists ≡ closed (has_statements parent.kind at) s.1.lists
  pub outcome : KeepsOutcome s.1 e.1
  pub part : q ≡ filled (has_statements parent.kind at) s.1.lists p

-- where the walk stands, and how many lists are open, is not changed; no number of any sort is given back
pub record KeepsPlace {T : Type 0} (s e : T × TraverseCtx) : Type 0 where
  pub path : e.1.path ≡ s.1.path
  pub depth : length e.1.lists ≡ length s.1.lists
  pub given : (ids : Ids) → ids_given ids s.1 ≤ ids_given ids e.1

-- a relation of hooks that does so
abbrev pub KeepPlaces : {T : Type 0} → (T × TraverseCtx → Tree → T × TraverseCtx → Tree → Type 0) → Type 0
KeepPlaces {T} steps = (s e : T × TraverseCtx) (t u : Tree) → steps s t e u → KeepsPlace s e
