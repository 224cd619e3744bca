-- What a hook does that pays for the nodes that it makes with the room that it has.
use Rattle.std.specs.Prelude.{◌≡◌, ℕ, zero, suc, ◌+◌, ◌<◌, ◌≤◌, ◌^◌, List, [], ◌∷◌, Bool, length, refl}
use Rattle.std.proofs.Common.{◌∙◌, ap, arith}
use Rattle.es_base.specs.Preorder.{nodes, nodes_of, nodes_of_part}
use Rattle.es_base.specs.Tree.{Tree, Part, Parts, Node, end, more, child, absent, list, string, no_string, boolean, literal}
use Rattle.es_base.specs.declared.kind.Kind.{Kind}
use Rattle.es_ctx.specs.Outcome.{KeepsOutcome}
use Rattle.es_ctx.specs.Stores.{beside, changed, innermost, kept_beside, place_of, stored, stored_list, with_let, with_slot, with_var}
use Rattle.es_ctx.specs.declared.ctx.TraverseCtx.{TraverseCtx}
use Rattle.es_ctx.specs.declared.stores.OpenList.{OpenList}
use Rattle.es_ctx.specs.declared.stores.Side.{Side}
use Rattle.es_walk.specs.Given.{Ids, of_nodes, ids_given-same, load, Suffice}
use Rattle.es_walk.specs.Inserted.{stored-beside, stored-changed, stored-let, stored-var}
use Rattle.es_walk.specs.Placing.{place_here}
use Rattle.es_walk.specs.Steps.{KeepPlaces, KeepsPlace}
use Rattle.es_walk.specs.Weight.{total, total_of, total_of_part, heft, NoMore}

-- each node weighs one
abbrev pub one : Kind → ℕ
one kind = 1

mutual
  total-nodes : (t : Tree) → total one t ≡ nodes t
  total-nodes (Node kind id span semantic_id parts) = omega (arith, total_of-nodes parts)

  total_of_part-nodes : (p : Part) → total_of_part one p ≡ nodes_of_part p
  total_of_part-nodes (child t) = total-nodes t
  total_of_part-nodes absent = refl
  total_of_part-nodes (list all) = total_of-nodes all
  total_of_part-nodes (string chars) = refl
  total_of_part-nodes no_string = refl
  total_of_part-nodes (boolean value) = refl
  total_of_part-nodes (literal value) = refl

  total_of-nodes : (ps : Parts) → total_of one ps ≡ nodes_of ps
  total_of-nodes end = refl
  total_of-nodes (more p ps) = omega (arith, total_of_part-nodes p, total_of-nodes ps)

pub total_one : (t : Tree) → total one t ≡ nodes t
total_one t = total-nodes t

pub heft_one : (t : Tree) → heft one t ≡ nodes t
heft_one (Node kind id span semantic_id parts) = refl

-- a tree and what the room, the lists and the numbers given weigh do not grow together, and the walk stays where it is
pub record Pays {T : Type 0} (room : T → ℕ) (s : T × TraverseCtx) (t : Tree) (e : T × TraverseCtx) (u : Tree) : Type 0 where
  pub pays : (ids : Ids) → nodes u + load room ids e ≤ nodes t + load room ids s
  pub place : KeepsPlace s e

pub pays_nothing : {T : Type 0} (room : T → ℕ) (s : T × TraverseCtx) (t : Tree) → Pays room s t s t
pays_nothing room s t = record { pays = λ ids. omega arith; place = place_here s }

pub weighs_something : (k : Kind) → 1 ≤ one k
weighs_something k = omega arith

-- no tree has no node
pub some_nodes : (t : Tree) → 1 ≤ nodes t
some_nodes (Node kind id span semantic_id parts) = omega arith

-- what is kept for the lists takes at most a node more than so many
pub record Stores (count : ℕ) (c d : TraverseCtx) : Type 0 where
  pub room : stored d.lists ≤ stored c.lists + (count + 1)
  pub next : d.next ≡ c.next
  pub scoping : d.scoping ≡ c.scoping
  pub path : d.path ≡ c.path
  pub depth : length d.lists ≡ length c.lists

length-changed : (at : ℕ) (f : OpenList → OpenList) (ls : List OpenList) → length (changed at f ls) ≡ length ls
length-changed at f [] = refl
length-changed zero f (l ∷ ls) = refl
length-changed (suc at) f (l ∷ ls) = ap suc (length-changed at f ls)

-- one list keeps more
stores : (at : ℕ) (f : OpenList → OpenList) (count : ℕ) (c d : TraverseCtx) → ((l : OpenList) → stored_list (f l) ≤ stored_list l + (count + 1)) → d.lists ≡ changed at f c.lists → d.next ≡ c.next → d.path ≡ c.path → d.scoping ≡ c.scoping → Stores count c d
stores at f count c d law lists next path scoping = record { room = omega (arith, ap stored lists, stored-changed at f (count + 1) c.lists law); next = next; scoping = scoping; path = path; depth = ap length lists ∙ length-changed at f c.lists }

pub stores_var : (t : Tree) (c d : TraverseCtx) → d.next ≡ c.next → d.path ≡ c.path → KeepsOutcome c d → d.lists ≡ changed (innermost c.lists) (with_var t) c.lists → Stores (nodes t) c d
stores_var t c d next path outcome lists = stores (innermost c.lists) (with_var t) (nodes t) c d (λ l. omega (arith, stored-var t l)) lists next path outcome.scoping

pub stores_let : (t : Tree) (c d : TraverseCtx) → d.next ≡ c.next → d.path ≡ c.path → KeepsOutcome c d → d.lists ≡ changed (innermost c.lists) (with_let t) c.lists → Stores (nodes t) c d
stores_let t c d next path outcome lists = stores (innermost c.lists) (with_let t) (nodes t) c d (λ l. omega (arith, stored-let t l)) lists next path outcome.scoping

pub stores_beside : (side : Side) (t : Tree) (n : ℕ) (c d : TraverseCtx) → d.next ≡ c.next → d.path ≡ c.path → KeepsOutcome c d → d.lists ≡ kept_beside side (t ∷ []) n c.lists → Stores (nodes t) c d
stores_beside side t n c d next path outcome lists = stores (place_of n c.lists) (with_slot (beside side (t ∷ [])) n) (nodes t) c d (λ l. omega (arith, stored-beside side (t ∷ []) n l)) lists next path outcome.scoping

-- what was spent on insertions: no more room than they take in the lists
pub record Spent (room : ℕ) (c : TraverseCtx) (left : ℕ) (d : TraverseCtx) : Type 0 where
  pub within : left + stored d.lists ≤ room + stored c.lists
  pub next : d.next ≡ c.next
  pub scoping : d.scoping ≡ c.scoping
  pub path : d.path ≡ c.path
  pub depth : length d.lists ≡ length c.lists

pub spent_nothing : (room : ℕ) (c : TraverseCtx) → Spent room c room c
spent_nothing room c = record { within = omega arith; next = refl; scoping = refl; path = refl; depth = refl }

pub spent_both : (n m k : ℕ) (c d e : TraverseCtx) → Spent n c m d → Spent m d k e → Spent n c k e
spent_both n m k c d e h i = record { within = omega (arith, h.within, i.within); next = i.next ∙ h.next; scoping = i.scoping ∙ h.scoping; path = i.path ∙ h.path; depth = i.depth ∙ h.depth }

-- one that was paid for
pub spent_on : (room left count : ℕ) (c d : TraverseCtx) → count + 1 + left ≡ room → Stores count c d → Spent room c left d
spent_on room left count c d paid s = record { within = omega (arith, paid, s.room); next = s.next; scoping = s.scoping; path = s.path; depth = s.depth }

-- a class that is paid for, with which the walk stays where it is, and then what goes beside it
pub pays_for : {T : Type 0} (room : T → ℕ) (s e : T × TraverseCtx) (c : TraverseCtx) (t u : Tree) (paid : ℕ) → Spent paid c (room e.0) e.1 → c.next ≡ s.1.next → c.path ≡ s.1.path → c.lists ≡ s.1.lists → c.scoping.scoping ≡ s.1.scoping.scoping → nodes u + paid ≤ nodes t + room s.0 → Pays room s t e u
pays_for room s e c t u paid spent next path lists table h = record {
  pays = λ ids. omega (arith, h, spent.within, ids_given-same ids c e.1 spent.next (ap (λ x. x.scoping) spent.scoping), ids_given-same ids s.1 c next table, ap stored lists);
  place = record { path = spent.path ∙ path; depth = spent.depth ∙ ap length lists; given = λ ids. omega (arith, ids_given-same ids c e.1 spent.next (ap (λ x. x.scoping) spent.scoping), ids_given-same ids s.1 c next table) };
}

pub enter_pays : {T : Type 0} (room : T → ℕ) (goes : Bool) (ids : Ids) → NoMore {S = T × TraverseCtx} (λ s t e u. Pays room s t e u) (total one) (total one) (load room ids)
enter_pays room goes ids s e t u h = omega (arith, h.pays ids, total_one t, total_one u)

pub leave_pays : {T : Type 0} (room : T → ℕ) (ids : Ids) → NoMore {S = T × TraverseCtx} (λ s t e u. Pays room s t e u) (heft one) nodes (load room ids)
leave_pays room ids s e t u h = omega (arith, h.pays ids, heft_one t)

pub keeps_place : {T : Type 0} (room : T → ℕ) → KeepPlaces {T = T} (λ s t e u. Pays room s t e u)
keeps_place room s e t u h = h.place

-- what a node becomes can be counted, as the walk enters it and as it leaves it
module _ {T : Type 0} (room : T → ℕ) (t : Tree) (s : T × TraverseCtx) where
  pub room_entered : Suffice room (total one t) s → nodes t + room s.0 < 2 ^ 32
  room_entered enough = omega (arith, enough of_nodes, total_one t)

  pub room_left : Suffice room (heft one t) s → nodes t + room s.0 < 2 ^ 32
  room_left enough = omega (arith, enough of_nodes, heft_one t)
