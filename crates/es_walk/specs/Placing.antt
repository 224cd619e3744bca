-- Opening and closing lists.
use Rattle.std.specs.Prelude.{◌≡◌, ℕ, ◌+◌, ◌≤◌, nat_eq, List, [], ◌∷◌, ◌++◌, Bool, true, false, length, refl}
use Rattle.std.proofs.Common.{ap, ◌∙◌, arith}
use Rattle.es_base.specs.Preorder.{nodes_of, nodes_of_part}
use Rattle.es_base.specs.Tree.{Tree, Part, Parts, end, more, child, absent, list, string, no_string, boolean, literal, trees}
use Rattle.es_base.specs.declared.operator.VariableDeclarationKind.{VariableDeclarationKind}
use Rattle.es_ctx.specs.Ancestors.{ancestor_of, has_statements}
use Rattle.es_ctx.specs.Lists.{front-push, filled-push}
use Rattle.es_ctx.specs.Stores.{pick, slot_of, without, trees_then, left_over, spread, declared, is_directive, behind_directives, placed, front, opened, closed, filled, open_list, declared_nodes, stored_slots, stored_list, stored, element_number}
use Rattle.es_ctx.specs.declared.ancestor.Parent.{Parent}
use Rattle.es_ctx.specs.declared.ctx.TraverseCtx.{TraverseCtx}
use Rattle.es_ctx.specs.declared.stores.OpenList.{OpenList}
use Rattle.es_ctx.specs.declared.stores.Slot.{Slot}
use Rattle.es_walk.specs.Given.{Ids, ids_given, ids_given-same, load}
use Rattle.es_walk.specs.Steps.{OpensPart, ClosesPart, KeepsPlace}

-- ---- lists

pub length-front : {X : Type 0} (xs : List X) (n : ℕ) → length xs ≡ n + 1 → length (front xs) ≡ n
length-front [] n e = omega arith
length-front (x ∷ []) n e = omega arith
length-front (x ∷ y ∷ xs) n e =
    let shorter : length (y ∷ xs) ≡ length xs + 1 = omega arith in
    let below : length (front (y ∷ xs)) ≡ length xs = length-front (y ∷ xs) (length xs) shorter in
    omega (arith, below)

length-push : {X : Type 0} (xs : List X) (x : X) → length (xs ++ x ∷ []) ≡ length xs + 1
length-push [] x = refl
length-push (y ∷ ys) x = omega (arith, length-push ys x)

pub closed-opened : (b : Bool) (p : Part) (ls : List OpenList) → closed b (opened b p ls) ≡ ls
closed-opened true p ls = front-push ls (open_list p)
closed-opened false p ls = refl

pub spread-none : (ps : Parts) → spread [] ps ≡ ps
spread-none end = refl
spread-none (more p ps) = ap (more p) (spread-none ps)

behind-none-at : (b : Bool) (p : Part) (ps : Parts) → behind_directives [] ps ≡ ps → pick b (more p (behind_directives [] ps)) (more p ps) ≡ more p ps
behind-none-at true p ps e = ap (more p) e
behind-none-at false p ps e = refl

pub behind-none : (ps : Parts) → behind_directives [] ps ≡ ps
behind-none end = refl
behind-none (more p ps) = behind-none-at (is_directive p) p ps (behind-none ps)

-- a list that was just opened gets nothing
placed-open : (p q : Part) → placed (open_list p) q ≡ q
placed-open p (child t) = refl
placed-open p absent = refl
placed-open p (list all) = ap list (behind-none (spread [] all) ∙ spread-none all)
placed-open p (string s) = refl
placed-open p no_string = refl
placed-open p (boolean b) = refl
placed-open p (literal v) = refl

pub filled-opened : (b : Bool) (ls : List OpenList) (p q : Part) → filled b (opened b p ls) q ≡ q
filled-opened true ls p q = filled-push ls (open_list p) q ∙ placed-open p q
filled-opened false ls p q = refl

-- ---- how much is kept

nodes-then : (ts : List Tree) (ps : Parts) → nodes_of (trees_then ts ps) ≡ nodes_of (trees ts) + nodes_of ps
nodes-then [] ps = omega arith
nodes-then (t ∷ ts) ps = omega (arith, nodes-then ts ps)

pub nodes-append : (ts us : List Tree) → nodes_of (trees (ts ++ us)) ≡ nodes_of (trees ts) + nodes_of (trees us)
nodes-append [] us = omega arith
nodes-append (t ∷ ts) us = omega (arith, nodes-append ts us)

nodes-left : (ss : List Slot) → nodes_of (left_over ss) ≡ stored_slots ss
nodes-left [] = refl
nodes-left (s ∷ ss) = omega (arith, nodes-then s.before (trees_then s.after (left_over ss)), nodes-then s.after (left_over ss), nodes-left ss)

abbrev slot_nodes : Slot → ℕ
slot_nodes s = nodes_of (trees s.before) + nodes_of (trees s.after)

nodes-slot-at : (b : Bool) (n : ℕ) (s : Slot) (ss : List Slot) → slot_nodes (slot_of n ss) + stored_slots (without n ss) ≡ stored_slots ss → slot_nodes (pick b s (slot_of n ss)) + stored_slots (pick b ss (s ∷ without n ss)) ≡ stored_slots (s ∷ ss)
nodes-slot-at true n s ss e = omega (arith, e)
nodes-slot-at false n s ss e = omega (arith, e)

nodes-slot : (n : ℕ) (ss : List Slot) → slot_nodes (slot_of n ss) + stored_slots (without n ss) ≡ stored_slots ss
nodes-slot n [] = refl
nodes-slot n (s ∷ ss) = nodes-slot-at (nat_eq s.node n) n s ss (nodes-slot n ss)

nodes-spread : (ss : List Slot) (ps : Parts) → nodes_of (spread ss ps) ≡ stored_slots ss + nodes_of ps
nodes-spread ss end = omega (arith, nodes-left ss)
nodes-spread ss (more p ps) =
    let n = element_number p in
    omega (arith, nodes-then (slot_of n ss).before (more p (trees_then (slot_of n ss).after (spread (without n ss) ps))), nodes-then (slot_of n ss).after (spread (without n ss) ps), nodes-spread (without n ss) ps, nodes-slot n ss)

nodes-behind-at : (b : Bool) (ts : List Tree) (p : Part) (ps : Parts) → nodes_of (behind_directives ts ps) ≡ nodes_of (trees ts) + nodes_of ps → nodes_of (pick b (more p (behind_directives ts ps)) (trees_then ts (more p ps))) ≡ nodes_of (trees ts) + nodes_of (more p ps)
nodes-behind-at true ts p ps e = omega (arith, e)
nodes-behind-at false ts p ps e = nodes-then ts (more p ps)

nodes-behind : (ts : List Tree) (ps : Parts) → nodes_of (behind_directives ts ps) ≡ nodes_of (trees ts) + nodes_of ps
nodes-behind ts end = nodes-then ts end
nodes-behind ts (more p ps) = nodes-behind-at (is_directive p) ts p ps (nodes-behind ts ps)

nodes-declared : (kind : VariableDeclarationKind) (ds : List Tree) → nodes_of (trees (declared kind ds)) ≡ declared_nodes ds
nodes-declared kind [] = refl
nodes-declared kind (d ∷ ds) = omega arith

nodes-placed : (l : OpenList) (p : Part) → nodes_of_part (placed l p) ≤ stored_list l + nodes_of_part p
nodes-placed l (child t) = omega arith
nodes-placed l absent = omega arith
nodes-placed l (list all) =
    let var = declared VariableDeclarationKind.Var l.vars in
    let lets = declared VariableDeclarationKind.Let l.lets in
    omega (arith, nodes-behind (var ++ lets) (spread l.slots all), nodes-append var lets, nodes-declared VariableDeclarationKind.Var l.vars, nodes-declared VariableDeclarationKind.Let l.lets, nodes-spread l.slots all)
nodes-placed l (string s) = omega arith
nodes-placed l no_string = omega arith
nodes-placed l (boolean b) = omega arith
nodes-placed l (literal v) = omega arith

stored-push : (ls : List OpenList) (l : OpenList) → stored (ls ++ l ∷ []) ≡ stored ls + stored_list l
stored-push [] l = omega arith
stored-push (k ∷ ls) l = omega (arith, stored-push ls l)

pub stored-opened : (b : Bool) (p : Part) (ls : List OpenList) → stored (opened b p ls) ≡ stored ls
stored-opened true p ls = omega (arith, stored-push ls (open_list p))
stored-opened false p ls = refl

pub stored-closed : (b : Bool) (ls : List OpenList) (p : Part) → nodes_of_part (filled b ls p) + stored (closed b ls) ≤ nodes_of_part p + stored ls
stored-closed true [] p = omega arith
stored-closed true (l ∷ []) p = omega (arith, nodes-placed l p)
stored-closed true (l ∷ m ∷ ls) p = omega (arith, stored-closed true (m ∷ ls) p)
stored-closed false ls p = omega arith

module _ {T : Type 0} (spare : T → ℕ) (ids : Ids) where
  pub open_pays : (s m : T × TraverseCtx) (k : Parent) (at : ℕ) (p : Part) → OpensPart s k at p m → load spare ids m ≤ load spare ids s
  open_pays s m k at p h = omega (arith, ids_given-same ids s.1 m.1 h.next (ap (λ x. x.scoping) h.outcome.scoping), ap spare h.transform, ap stored h.lists, stored-opened (has_statements k.kind at) p s.1.lists)

  pub close_pays : (s e : T × TraverseCtx) (k : Parent) (at : ℕ) (p q : Part) → ClosesPart s k at p e q → nodes_of_part q + load spare ids e ≤ nodes_of_part p + load spare ids s
  close_pays s e k at p q h = omega (arith, ids_given-same ids s.1 e.1 h.next (ap (λ x. x.scoping) h.outcome.scoping), ap spare h.transform, ap stored h.lists, ap nodes_of_part h.part, stored-closed (has_statements k.kind at) s.1.lists p)

-- ---- where the walk stands

length-opened : (b : Bool) (p : Part) (ls : List OpenList) (ms : List OpenList) → length ms ≡ length (opened b p ls) → length (closed b ms) ≡ length ls
length-opened true p ls ms e = length-front ms (length ls) (e ∙ length-push ls (open_list p))
length-opened false p ls ms e = e

-- a member that is opened, walked so that the place is kept, and closed
pub member_keeps : {T : Type 0} (s m n e : T × TraverseCtx) (k : Parent) (at : ℕ) (p q r : Part) → OpensPart s k at p m → KeepsPlace m n → ClosesPart n k at q e r → KeepsPlace s e
member_keeps s m n e k at p q r a h b = record {
  path = b.path ∙ ap front (h.path ∙ a.path) ∙ front-push s.1.path (ancestor_of s.1.path k at);
  depth = ap length b.lists ∙ length-opened (has_statements k.kind at) p s.1.lists n.1.lists (h.depth ∙ ap length a.lists);
  given = λ ids. omega (arith, ids_given-same ids s.1 m.1 a.next (ap (λ x. x.scoping) a.outcome.scoping), h.given ids, ids_given-same ids n.1 e.1 b.next (ap (λ x. x.scoping) b.outcome.scoping));
}

-- where the context stays as it is
pub place_same : {T : Type 0} (s e : T × TraverseCtx) → e.1 ≡ s.1 → KeepsPlace s e
place_same s e same = record { path = ap (λ (c : TraverseCtx). c.path) same; depth = ap (λ (c : TraverseCtx). length c.lists) same; given = λ ids. omega (arith, ap (ids_given ids) same) }

pub place_here : {T : Type 0} (s : T × TraverseCtx) → KeepsPlace s s
place_here s = place_same s s refl

pub place_on : {T : Type 0} (s m e : T × TraverseCtx) → KeepsPlace s m → KeepsPlace m e → KeepsPlace s e
place_on s m e a b = record { path = b.path ∙ a.path; depth = b.depth ∙ a.depth; given = λ ids. omega (arith, a.given ids, b.given ids) }
