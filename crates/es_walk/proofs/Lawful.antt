-- What the laws of a transform give for the walk of a program.
use Rattle.std.specs.Prelude.{◌≡◌, ℕ, List, [], ◌∷◌, Bool, true, false, length, refl}
use Rattle.std.proofs.Common.{ap, arith}
use Rattle.es_base.specs.Tree.{Tree, Part}
use Rattle.es_ctx.specs.Ancestors.{has_statements}
use Rattle.es_ctx.specs.declared.ancestor.Parent.{Parent}
use Rattle.es_ctx.specs.declared.ctx.TraverseCtx.{TraverseCtx}
use Rattle.es_ctx.specs.declared.stores.OpenList.{OpenList}
use Rattle.es_walk.specs.Holes.{Hole, top, places, pending, pending_below}
use Rattle.es_walk.specs.Laws as laws
use Rattle.es_walk.specs.Laws.{AllSettled, BelowSettled, PartSettled}
use Rattle.es_walk.specs.SettledStores.{ListsSettled, opened-settled, closed-settled, filled-settled}
use Rattle.es_walk.specs.Steps.{OpensPart, ClosesPart, KeepPlaces, path_of, lists_of}
use Rattle.es_walk.specs.Traversed as w
use Rattle.es_walk.specs.Weight.{KeepsReady}
use Rattle.es_walk.specs.Whole as wholes
use Rattle.es_walk.specs.Whole.{whole}

pub none_left : {X : Type 0} (xs ys : List X) → length ys ≡ length xs → xs ≡ [] → ys ≡ []
none_left xs [] same is = refl
none_left xs (y ∷ ys) same is = absurd (omega (arith, same, ap length is))

module _ {T : Type 0} (enters : Bool → T × TraverseCtx → Tree → T × TraverseCtx → Tree → Type 0) (leaves : T × TraverseCtx → Tree → T × TraverseCtx → Tree → Type 0)
    (ready : T × TraverseCtx → Type 0)
    (enter_ready : (goes : Bool) → KeepsReady (enters goes) ready) (leave_ready : KeepsReady leaves ready)
    (open_ready : (s e : T × TraverseCtx) (parent : Parent) (at : ℕ) (p : Part) → OpensPart s parent at p e → ready s → ready e)
    (close_ready : (s e : T × TraverseCtx) (parent : Parent) (at : ℕ) (p q : Part) → ClosesPart s parent at p e q → ready s → ready e) where
  -- every node is settled
  module _ (settled : T → Tree → Type 0)
      (enter_steady : (goes : Bool) (s e : T × TraverseCtx) (t u : Tree) → enters goes s t e u → (v : Tree) → settled s.0 v → settled e.0 v)
      (leave_steady : (s e : T × TraverseCtx) (t u : Tree) → leaves s t e u → (v : Tree) → settled s.0 v → settled e.0 v)
      (enter_settles : (s e : T × TraverseCtx) (t u : Tree) → enters true s t e u → ready s → ListsSettled (settled s.0) (lists_of s) → ListsSettled (settled e.0) (lists_of e))
      (pass_settles : (s e : T × TraverseCtx) (t u : Tree) → enters false s t e u → ready s → ListsSettled (settled s.0) (lists_of s) → ListsSettled (settled e.0) (lists_of e) × AllSettled (settled e.0) u)
      (leave_settles : (s e : T × TraverseCtx) (t u : Tree) → leaves s t e u → ready s → ListsSettled (settled s.0) (lists_of s) → BelowSettled (settled s.0) t → ListsSettled (settled e.0) (lists_of e) × AllSettled (settled e.0) u) where
    abbrev Test : T × TraverseCtx → Tree → Type 0
    Test s = settled s.0

    abbrev Both : T × TraverseCtx → Type 0
    Both s = ready s × ListsSettled (settled s.0) (lists_of s)

    member_steady : (s m n e : T × TraverseCtx) (k : Parent) (at : ℕ) (p q r : Part) → OpensPart s k at p m → ((v : Tree) → Test m v → Test n v) → ClosesPart n k at q e r → (v : Tree) → Test s v → Test e v
    member_steady s m n e k at p q r a h b v x =
        let before : settled m.0 v = rw a.transform x in
        rw b.transform (h v before)

    entered : (s m : T × TraverseCtx) (t u : Tree) → enters true s t m u → Both s → Both m
    entered s m t u a r = (enter_ready true s m t u a r.0, enter_settles s m t u a r.0 r.1)

    passed : (s e : T × TraverseCtx) (t u : Tree) → enters false s t e u → Both s → Both e × AllSettled (settled e.0) u
    passed s e t u a r = let x = pass_settles s e t u a r.0 r.1 in ((enter_ready false s e t u a r.0, x.0), x.1)

    left : (s e : T × TraverseCtx) (t u : Tree) → leaves s t e u → Both s → BelowSettled (settled s.0) t → Both e × AllSettled (settled e.0) u
    left s e t u a r below = let x = leave_settles s e t u a r.0 r.1 below in ((leave_ready s e t u a r.0, x.0), x.1)

    part_opened : (s m : T × TraverseCtx) (k : Parent) (at : ℕ) (p : Part) → OpensPart s k at p m → Both s → Both m
    part_opened s m k at p h r = (open_ready s m k at p h r.0, rw (h.transform, h.lists) (opened-settled (settled s.0) (has_statements k.kind at) p s.1.lists r.1))

    part_closed : (s e : T × TraverseCtx) (k : Parent) (at : ℕ) (p q : Part) → ClosesPart s k at p e q → Both s → PartSettled (settled s.0) p → Both e × PartSettled (settled e.0) q
    part_closed s e k at p q h r below =
        let b = has_statements k.kind at in
        ((close_ready s e k at p q h r.0, rw (h.transform, h.lists) (closed-settled (settled s.0) b s.1.lists r.1)), rw (h.transform, h.part) (filled-settled (settled s.0) b s.1.lists p r.1 below))

    none-kept : (x : T) (ls : List OpenList) → ls ≡ [] → ListsSettled (settled x) ls
    none-kept x ls is = rw is (tt {0})

    pub all_settled : {s e : T × TraverseCtx} {t u : Tree} → w.Traversed enters leaves OpensPart ClosesPart s t e u → ready s → s.1.lists ≡ [] → AllSettled (settled e.0) u
    all_settled {s} h r none = (laws.settles enters leaves OpensPart ClosesPart Test Both enter_steady leave_steady member_steady entered passed left part_opened part_closed h (r, none-kept s.0 s.1.lists none)).1

  -- what the hooks keep of the whole is kept of the program
  module _ (kept : T × TraverseCtx → Tree → List Tree → List Tree → Type 0)
      (enter_place : (goes : Bool) → KeepPlaces (enters goes)) (leave_place : KeepPlaces leaves)
      (enter_keeps : (s e : T × TraverseCtx) (t u : Tree) → enters true s t e u → ready s → (hole : Hole) → path_of s ≡ places hole → (around rest : List Tree) → kept s (whole (lists_of s) hole t) around (pending t rest) → kept e (whole (lists_of e) hole u) (t ∷ around) (pending_below u rest))
      (pass_keeps : (s e : T × TraverseCtx) (t u : Tree) → enters false s t e u → ready s → (hole : Hole) → path_of s ≡ places hole → (around rest : List Tree) → kept s (whole (lists_of s) hole t) around (pending t rest) → kept e (whole (lists_of e) hole u) around rest)
      (leave_keeps : (s e : T × TraverseCtx) (t u : Tree) → leaves s t e u → ready s → (hole : Hole) → path_of s ≡ places hole → (entered : Tree) (around rest : List Tree) → kept s (whole (lists_of s) hole t) (entered ∷ around) rest → kept e (whole (lists_of e) hole u) around rest)
      (open_keeps : (s e : T × TraverseCtx) (parent : Parent) (at : ℕ) (p : Part) → OpensPart s parent at p e → ready s → (t : Tree) (around rest : List Tree) → kept s t around rest → kept e t around rest)
      (close_keeps : (s e : T × TraverseCtx) (parent : Parent) (at : ℕ) (p q : Part) → ClosesPart s parent at p e q → ready s → (t : Tree) (around rest : List Tree) → kept s t around rest → kept e t around rest) where
    abbrev Holds : T × TraverseCtx → Tree → List Tree → List Tree → Type 0
    Holds s t around rest = ready s × kept s t around rest

    entering : (s e : T × TraverseCtx) (t u : Tree) → enters true s t e u → (hole : Hole) → path_of s ≡ places hole → (around rest : List Tree) → Holds s (whole (lists_of s) hole t) around (pending t rest) → Holds e (whole (lists_of e) hole u) (t ∷ around) (pending_below u rest)
    entering s e t u a hole here around rest x = (enter_ready true s e t u a x.0, enter_keeps s e t u a x.0 hole here around rest x.1)

    passing : (s e : T × TraverseCtx) (t u : Tree) → enters false s t e u → (hole : Hole) → path_of s ≡ places hole → (around rest : List Tree) → Holds s (whole (lists_of s) hole t) around (pending t rest) → Holds e (whole (lists_of e) hole u) around rest
    passing s e t u a hole here around rest x = (enter_ready false s e t u a x.0, pass_keeps s e t u a x.0 hole here around rest x.1)

    leaving : (s e : T × TraverseCtx) (t u : Tree) → leaves s t e u → (hole : Hole) → path_of s ≡ places hole → (entered : Tree) (around rest : List Tree) → Holds s (whole (lists_of s) hole t) (entered ∷ around) rest → Holds e (whole (lists_of e) hole u) around rest
    leaving s e t u a hole here entered around rest x = (leave_ready s e t u a x.0, leave_keeps s e t u a x.0 hole here entered around rest x.1)

    opening : (s e : T × TraverseCtx) (parent : Parent) (at : ℕ) (p : Part) → OpensPart s parent at p e → (t : Tree) (around rest : List Tree) → Holds s t around rest → Holds e t around rest
    opening s e parent at p a t around rest x = (open_ready s e parent at p a x.0, open_keeps s e parent at p a x.0 t around rest x.1)

    closing : (s e : T × TraverseCtx) (parent : Parent) (at : ℕ) (p q : Part) → ClosesPart s parent at p e q → (t : Tree) (around rest : List Tree) → Holds s t around rest → Holds e t around rest
    closing s e parent at p q a t around rest x = (close_ready s e parent at p q a x.0, close_keeps s e parent at p q a x.0 t around rest x.1)

    pub kept_whole : {s e : T × TraverseCtx} {t u : Tree} → w.Traversed enters leaves OpensPart ClosesPart s t e u → ready s → s.1.path ≡ [] → kept s t [] (pending t []) → kept e u [] []
    kept_whole h r here x =
        (wholes.keeps_whole enters leaves OpensPart ClosesPart path_of lists_of Holds
        (λ goes s e t u a. (enter_place goes s e t u a).path) (λ s e t u a. (leave_place s e t u a).path)
        (λ s e parent at p a. a.path) (λ s e parent at p q a. a.path)
        entering passing leaving
        (λ s e parent at p a. a.lists) opening
        (λ s e parent at p q a. a.lists) (λ s e parent at p q a. a.part) closing
        h top here [] [] (r, x)).1
