-- What the hooks of a transform promise of whole walks.
use Rattle.std.specs.Prelude.{ℕ, ◌+◌, ◌≤◌, Bool}
use Rattle.es_base.specs.Preorder.{nodes, nodes_of, nodes_of_part}
use Rattle.es_base.specs.Tree.{Tree, Part, Parts}
use Rattle.es_base.specs.declared.kind.Kind.{Kind}
use Rattle.es_ctx.specs.declared.ancestor.Parent.{Parent}
use Rattle.es_ctx.specs.declared.ctx.TraverseCtx.{TraverseCtx}
use Rattle.es_walk.specs.Given.{Ids, load}
use Rattle.es_walk.specs.Laws as laws
use Rattle.es_walk.specs.Placing.{open_pays, close_pays, member_keeps, place_here, place_on}
use Rattle.es_walk.specs.Steps.{OpensPart, ClosesPart, KeepsPlace, KeepPlaces}
use Rattle.es_walk.specs.Traversed as w
use Rattle.es_walk.specs.Weight.{total, total_of, total_of_part, heft, NoMore}

module _ {T : Type 0} (enters : Bool → T × TraverseCtx → Tree → T × TraverseCtx → Tree → Type 0) (leaves : T × TraverseCtx → Tree → T × TraverseCtx → Tree → Type 0)
    (weight : Kind → ℕ) (spare : T → ℕ) (some : (k : Kind) → 1 ≤ weight k)
    (enter_pays : (goes : Bool) (ids : Ids) → NoMore (enters goes) (total weight) (total weight) (load spare ids))
    (leave_pays : (ids : Ids) → NoMore leaves (heft weight) nodes (load spare ids))
    (enter_place : (goes : Bool) → KeepPlaces (enters goes)) (leave_place : KeepPlaces leaves) where
  pub node_pays : (ids : Ids) {s e : T × TraverseCtx} {t u : Tree} → w.Traversed enters leaves OpensPart ClosesPart s t e u → nodes u + load spare ids e ≤ total weight t + load spare ids s
  node_pays ids h = laws.weighs enters leaves OpensPart ClosesPart weight (load spare ids) some (λ goes. enter_pays goes ids) (leave_pays ids) (open_pays spare ids) (close_pays spare ids) h

  pub parts_pay : (ids : Ids) {k : Parent} {at : ℕ} {s e : T × TraverseCtx} {ps qs : Parts} → w.TraversedParts enters leaves OpensPart ClosesPart k at s ps e qs → nodes_of qs + load spare ids e ≤ total_of weight ps + load spare ids s
  parts_pay ids h = laws.weighs_parts enters leaves OpensPart ClosesPart weight (load spare ids) some (λ goes. enter_pays goes ids) (leave_pays ids) (open_pays spare ids) (close_pays spare ids) h

  pub member_pays : (ids : Ids) {k : Parent} {at : ℕ} {s e : T × TraverseCtx} {p q : Part} → w.TraversedMember enters leaves OpensPart ClosesPart k at s p e q → nodes_of_part q + load spare ids e ≤ total_of_part weight p + load spare ids s
  member_pays ids h = laws.weighs_member enters leaves OpensPart ClosesPart weight (load spare ids) some (λ goes. enter_pays goes ids) (leave_pays ids) (open_pays spare ids) (close_pays spare ids) h

  pub item_pays : (ids : Ids) {s e : T × TraverseCtx} {p q : Part} → w.TraversedItem enters leaves OpensPart ClosesPart s p e q → nodes_of_part q + load spare ids e ≤ total_of_part weight p + load spare ids s
  item_pays ids h = laws.weighs_item enters leaves OpensPart ClosesPart weight (load spare ids) some (λ goes. enter_pays goes ids) (leave_pays ids) (open_pays spare ids) (close_pays spare ids) h

  pub node_place : {s e : T × TraverseCtx} {t u : Tree} → w.Traversed enters leaves OpensPart ClosesPart s t e u → KeepsPlace s e
  node_place h = laws.keeps_place enters leaves OpensPart ClosesPart KeepsPlace place_here place_on enter_place leave_place member_keeps h

  pub parts_place : {k : Parent} {at : ℕ} {s e : T × TraverseCtx} {ps qs : Parts} → w.TraversedParts enters leaves OpensPart ClosesPart k at s ps e qs → KeepsPlace s e
  parts_place h = laws.place_parts enters leaves OpensPart ClosesPart KeepsPlace place_here place_on enter_place leave_place member_keeps h

  pub member_place : {k : Parent} {at : ℕ} {s e : T × TraverseCtx} {p q : Part} → w.TraversedMember enters leaves OpensPart ClosesPart k at s p e q → KeepsPlace s e
  member_place h = laws.place_member enters leaves OpensPart ClosesPart KeepsPlace place_here place_on enter_place leave_place member_keeps h

  pub item_place : {s e : T × TraverseCtx} {p q : Part} → w.TraversedItem enters leaves OpensPart ClosesPart s p e q → KeepsPlace s e
  item_place h = laws.place_item enters leaves OpensPart ClosesPart KeepsPlace place_here place_on enter_place leave_place member_keeps h
