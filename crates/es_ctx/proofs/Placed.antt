-- What code does to put what is kept for a list into it.
use Rattle.std.proofs.Common.{◌≡◌, refl, sym, ap, ◌∙◌, ℕ, zero, suc, ◌+◌, ◌<◌, ◌≤◌, nat_eq, List, [], ◌∷◌, ◌++◌, length, take, drop, get_or, set, Bool, true, false, Some, append-nil, append_assoc, length-append, length-set, arith}
use Rattle.std.specs.List.{slice_get, remove}
use Rattle.std.proofs.lemmas.List.{length-take-le, take_at, drop_at, take-append-drop}
use Rattle.es_base.specs.Tree.{Tree, Parts, Node, more, child, trees}
use Rattle.es_base.specs.declared.kind.Kind.{Kind}
use Rattle.es_base.specs.declared.operator.VariableDeclarationKind.{VariableDeclarationKind}
use Rattle.es_base.specs.Preorder.{number_of}
use Rattle.es_base.specs.Refilled.{refilled}
use Rattle.es_ctx.specs.Stores.{pick, empty_slot, slot_of, without, slots_with, slot_place, slot_changed, trees_then, left_over, left_trees, spread, declared, has_directive, is_directive, placed_items, directive_count, behind_directives, inserted_all, innermost, changed}
use Rattle.es_ctx.specs.declared.stores.OpenList.{OpenList}
use Rattle.es_ctx.specs.declared.stores.Slot.{Slot}
use Rattle.es_node.proofs.Renumbered.{refilled_same}
use Rattle.es_node.specs.View.{kind_of, parts_in}

then-append : (ts us : List Tree) (ps : Parts) → trees_then (ts ++ us) ps ≡ trees_then ts (trees_then us ps)
then-append [] us ps = refl
then-append (t ∷ ts) us ps = ap (more (child t)) (then-append ts us ps)

then-trees : (ts us : List Tree) → trees_then ts (trees us) ≡ trees (ts ++ us)
then-trees [] us = refl
then-trees (t ∷ ts) us = ap (more (child t)) (then-trees ts us)

left-trees : (ss : List Slot) → left_over ss ≡ trees (left_trees ss)
left-trees [] = refl
left-trees (s ∷ ss) = ap (λ ps. trees_then s.before (trees_then s.after ps)) (left-trees ss) ∙ ap (trees_then s.before) (then-trees s.after (left_trees ss)) ∙ then-trees s.before (s.after ++ left_trees ss)

-- one more element between what is kept for it
pub spread_next : (whole : Parts) (joined j1 j2 j3 rest later : List Tree) (slots slots' : List Slot) (slot : Slot) (t : Tree) (n : ℕ)
    → trees_then joined (spread slots (trees rest)) ≡ whole → rest ≡ t ∷ later → n ≡ number_of t → slot ≡ slot_of n slots → slots' ≡ without n slots
    → j1 ≡ joined ++ slot.before → j2 ≡ j1 ++ t ∷ [] → j3 ≡ j2 ++ slot.after → trees_then j3 (spread slots' (trees later)) ≡ whole
spread_next whole joined j1 j2 j3 rest later slots slots' slot t n was is number of others e1 e2 e3 =
    let S = spread slots' (trees later) in
    ap (λ ts. trees_then ts S) e3 ∙ then-append j2 slot.after S
    ∙ ap (λ ts. trees_then ts (trees_then slot.after S)) e2 ∙ then-append j1 (t ∷ []) (trees_then slot.after S)
    ∙ ap (λ ts. trees_then ts (more (child t) (trees_then slot.after S))) e1 ∙ then-append joined slot.before (more (child t) (trees_then slot.after S))
    ∙ ap (λ (s : Slot). trees_then joined (trees_then s.before (more (child t) (trees_then s.after S)))) of
    ∙ ap (λ ss. trees_then joined (trees_then (slot_of n slots).before (more (child t) (trees_then (slot_of n slots).after (spread ss (trees later)))))) others
    ∙ ap (λ k. trees_then joined (trees_then (slot_of k slots).before (more (child t) (trees_then (slot_of k slots).after (spread (without k slots) (trees later)))))) number
    ∙ sym (ap (λ ts. trees_then joined (spread slots (trees ts))) is) ∙ was

pub spread_done : (whole : Parts) (joined joined' rest : List Tree) (slots : List Slot) → trees_then joined (spread slots (trees rest)) ≡ whole → rest ≡ [] → joined' ≡ joined ++ left_trees slots → trees joined' ≡ whole
spread_done whole joined joined' rest slots was is e = ap trees e ∙ sym (then-trees joined (left_trees slots)) ∙ sym (ap (trees_then joined) (left-trees slots)) ∙ sym (ap (λ ts. trees_then joined (spread slots (trees ts))) is) ∙ was

pub append_next : {X : Type 0} (whole joined j1 rest later : List X) (x : X) → joined ++ rest ≡ whole → rest ≡ x ∷ later → j1 ≡ joined ++ x ∷ [] → j1 ++ later ≡ whole
append_next whole joined j1 rest later x was is e = ap (λ xs. xs ++ later) e ∙ append_assoc joined (x ∷ []) later ∙ sym (ap (λ xs. joined ++ xs) is) ∙ was

pub append_done : {X : Type 0} (whole joined rest : List X) → joined ++ rest ≡ whole → rest ≡ [] → joined ≡ whole
append_done whole joined rest was is = sym (append-nil joined) ∙ sym (ap (λ xs. joined ++ xs) is) ∙ was

pub left_next : (whole joined j1 j2 : List Tree) (rest later : List Slot) (s : Slot) → joined ++ left_trees rest ≡ whole → rest ≡ s ∷ later → j1 ≡ joined ++ s.before → j2 ≡ j1 ++ s.after → j2 ++ left_trees later ≡ whole
left_next whole joined j1 j2 rest later s was is e1 e2 =
    ap (λ ts. ts ++ left_trees later) e2 ∙ append_assoc j1 s.after (left_trees later) ∙ ap (λ ts. ts ++ (s.after ++ left_trees later)) e1 ∙ append_assoc joined s.before (s.after ++ left_trees later) ∙ sym (ap (λ ss. joined ++ left_trees ss) is) ∙ was

pub left_done : (whole joined : List Tree) (rest : List Slot) → joined ++ left_trees rest ≡ whole → rest ≡ [] → joined ≡ whole
left_done whole joined rest was is = sym (append-nil joined) ∙ sym (ap (λ ss. joined ++ left_trees ss) is) ∙ was

-- ---- a slot by its place

within-at : (b : Bool) (n k : ℕ) → n ≤ k → pick b 0 (suc n) ≤ suc k
within-at true n k h = omega arith
within-at false n k h = omega arith

pub slot_place_within : (n : ℕ) (ss : List Slot) → slot_place n ss ≤ length ss
slot_place_within n [] = omega arith
slot_place_within n (s ∷ ss) = within-at (nat_eq s.node n) (slot_place n ss) (length ss) (slot_place_within n ss)

found-at : (b : Bool) (n : ℕ) (s : Slot) (ss : List Slot) → pick b 0 (suc (slot_place n ss)) < suc (length ss) → (slot_place n ss < length ss → slice_get ss (slot_place n ss) ≡ Some (slot_of n ss)) → slice_get (s ∷ ss) (pick b 0 (suc (slot_place n ss))) ≡ Some (pick b s (slot_of n ss))
found-at true n s ss within below = refl
found-at false n s ss within below = below (omega arith)

pub slot_found : (n : ℕ) (ss : List Slot) → slot_place n ss < length ss → slice_get ss (slot_place n ss) ≡ Some (slot_of n ss)
slot_found n [] within = absurd (omega arith)
slot_found n (s ∷ ss) within = found-at (nat_eq s.node n) n s ss within (slot_found n ss)

removed-at : (b : Bool) (n : ℕ) (s : Slot) (ss : List Slot) → pick b 0 (suc (slot_place n ss)) < suc (length ss) → (slot_place n ss < length ss → remove ss (slot_place n ss) ≡ without n ss) → remove (s ∷ ss) (pick b 0 (suc (slot_place n ss))) ≡ pick b ss (s ∷ without n ss)
removed-at true n s ss within below = refl
removed-at false n s ss within below = ap (λ xs. s ∷ xs) (below (omega arith))

pub slot_removed : (n : ℕ) (ss : List Slot) → slot_place n ss < length ss → remove ss (slot_place n ss) ≡ without n ss
slot_removed n [] within = absurd (omega arith)
slot_removed n (s ∷ ss) within = removed-at (nat_eq s.node n) n s ss within (slot_removed n ss)

none-at : (b : Bool) (n : ℕ) (s : Slot) (ss : List Slot) → suc (length ss) ≤ pick b 0 (suc (slot_place n ss)) → (length ss ≤ slot_place n ss → (empty_slot n ≡ slot_of n ss) × (ss ≡ without n ss)) → (empty_slot n ≡ pick b s (slot_of n ss)) × (s ∷ ss ≡ pick b ss (s ∷ without n ss))
none-at true n s ss past below = absurd (omega arith)
none-at false n s ss past below = let h = below (omega arith) in (h.0, ap (λ xs. s ∷ xs) h.1)

pub slot_none : (n : ℕ) (ss : List Slot) → length ss ≤ slot_place n ss → (empty_slot n ≡ slot_of n ss) × (ss ≡ without n ss)
slot_none n [] past = (refl, refl)
slot_none n (s ∷ ss) past = none-at (nat_eq s.node n) n s ss past (slot_none n ss)

with-found-at : (b : Bool) (f : Slot → Slot) (n : ℕ) (s : Slot) (ss : List Slot) → pick b 0 (suc (slot_place n ss)) < suc (length ss) → (slot_place n ss < length ss → slot_changed (slot_place n ss) f ss ≡ slots_with f n ss) → slot_changed (pick b 0 (suc (slot_place n ss))) f (s ∷ ss) ≡ pick b (f s ∷ ss) (s ∷ slots_with f n ss)
with-found-at true f n s ss within below = refl
with-found-at false f n s ss within below = ap (λ xs. s ∷ xs) (below (omega arith))

pub with_found : (f : Slot → Slot) (n : ℕ) (ss : List Slot) → slot_place n ss < length ss → slot_changed (slot_place n ss) f ss ≡ slots_with f n ss
with_found f n [] within = absurd (omega arith)
with_found f n (s ∷ ss) within = with-found-at (nat_eq s.node n) f n s ss within (with_found f n ss)

with-none-at : (b : Bool) (f : Slot → Slot) (n : ℕ) (s : Slot) (ss : List Slot) → suc (length ss) ≤ pick b 0 (suc (slot_place n ss)) → (length ss ≤ slot_place n ss → ss ++ f (empty_slot n) ∷ [] ≡ slots_with f n ss) → s ∷ (ss ++ f (empty_slot n) ∷ []) ≡ pick b (f s ∷ ss) (s ∷ slots_with f n ss)
with-none-at true f n s ss past below = absurd (omega arith)
with-none-at false f n s ss past below = ap (λ xs. s ∷ xs) (below (omega arith))

pub with_none : (f : Slot → Slot) (n : ℕ) (ss : List Slot) → length ss ≤ slot_place n ss → ss ++ f (empty_slot n) ∷ [] ≡ slots_with f n ss
with_none f n [] past = refl
with_none f n (s ∷ ss) past = with-none-at (nat_eq s.node n) f n s ss past (with_none f n ss)

pub slot_changed_set : (ss : List Slot) (at : ℕ) (f : Slot → Slot) (d : Slot) → at < length ss → set ss at (f (get_or ss at d)) ≡ slot_changed at f ss
slot_changed_set [] at f d within = absurd (omega arith)
slot_changed_set (s ∷ ss) zero f d within = refl
slot_changed_set (s ∷ ss) (suc at) f d within = let below : at < length ss = omega arith in ap (λ xs. s ∷ xs) (slot_changed_set ss at f d below)

-- a slot that was changed through a slice
pub slot-put : (slots ws : List Slot) (at : ℕ) (f : Slot → Slot) (d y : Slot) → at < length slots → ws ≡ slots → y ≡ f (get_or ws at d) → refilled slots (set ws at y) ≡ slot_changed at f slots
slot-put slots ws at f d y within same is =
    refilled_same slots (set ws at y) (length-set ws at y ∙ ap length same)
    ∙ ap (λ xs. set xs at y) same
    ∙ ap (λ x. set slots at x) (is ∙ ap (λ xs. f (get_or xs at d)) same)
    ∙ slot_changed_set slots at f d within

-- ---- declarations

count-at : (b : Bool) (n k : ℕ) → n ≤ k → pick b (suc n) 0 ≤ suc k
count-at true n k h = omega arith
count-at false n k h = omega arith

pub directives_within : (us : List Tree) → directive_count (trees us) ≤ length us
directives_within [] = omega arith
directives_within (u ∷ us) = count-at (is_directive (child u)) (directive_count (trees us)) (length us) (directives_within us)

behind-at : (b : Bool) (ts : List Tree) (u : Tree) (us : List Tree) → behind_directives ts (trees us) ≡ trees (inserted_all (directive_count (trees us)) ts us) → pick b (more (child u) (behind_directives ts (trees us))) (trees_then ts (more (child u) (trees us))) ≡ trees (inserted_all (pick b (suc (directive_count (trees us))) 0) ts (u ∷ us))
behind-at true ts u us below = ap (more (child u)) below
behind-at false ts u us below = then-trees ts (u ∷ us)

pub behind_inserted : (ts us : List Tree) → behind_directives ts (trees us) ≡ trees (inserted_all (directive_count (trees us)) ts us)
behind_inserted ts [] = then-trees ts []
behind_inserted ts (u ∷ us) = behind-at (is_directive (child u)) ts u us (behind_inserted ts us)

pub inserted_twice : (at : ℕ) (vs ls us : List Tree) → at ≤ length us → inserted_all at vs (inserted_all at ls us) ≡ inserted_all at (vs ++ ls) us
inserted_twice at vs ls us within =
    let same : length (take at us) ≡ at = length-take-le at us within in
    rw (take_at (take at us) (ls ++ drop at us) at same, drop_at (take at us) (ls ++ drop at us) at same, append_assoc vs ls (drop at us)) refl

pub inserted_none : (at : ℕ) (us : List Tree) → inserted_all at [] us ≡ us
inserted_none at us = take-append-drop at us

pub inserted_within : (at : ℕ) (ts us : List Tree) → at ≤ length us → at ≤ length (inserted_all at ts us)
inserted_within at ts us within = omega (arith, length-append (take at us) (ts ++ drop at us), length-take-le at us within)

-- ---- lists by their places

pub changed_set : (ls : List OpenList) (at : ℕ) (f : OpenList → OpenList) (d : OpenList) → at < length ls → set ls at (f (get_or ls at d)) ≡ changed at f ls
changed_set [] at f d within = absurd (omega arith)
changed_set (l ∷ ls) zero f d within = refl
changed_set (l ∷ ls) (suc at) f d within = let below : at < length ls = omega arith in ap (λ xs. l ∷ xs) (changed_set ls at f d below)

pub innermost_last : (ls : List OpenList) → 0 < length ls → innermost ls + 1 ≡ length ls
innermost_last [] some = absurd (omega arith)
innermost_last (l ∷ []) some = refl
innermost_last (l ∷ m ∷ ls) some = omega (arith, innermost_last (m ∷ ls) (omega arith))

-- a list that was changed through a slice
pub list-put : (lists ws : List OpenList) (at place : ℕ) (f : OpenList → OpenList) (d y : OpenList) → at < length lists → at ≡ place → ws ≡ lists → y ≡ f (get_or ws at d) → refilled lists (set ws at y) ≡ changed place f lists
list-put lists ws at place f d y within here same is =
    refilled_same lists (set ws at y) (length-set ws at y ∙ ap length same)
    ∙ ap (λ xs. set xs at y) same
    ∙ ap (λ x. set lists at x) (is ∙ ap (λ xs. f (get_or xs at d)) same)
    ∙ changed_set lists at f d within
    ∙ ap (λ n. changed n f lists) here

-- ---- a whole list

pub placed_is : (l : OpenList) (J J1 J2 : List Tree) (ps : Parts) (at : ℕ) → trees J ≡ spread l.slots ps → at ≡ directive_count (trees J)
    → J1 ≡ inserted_all at (declared VariableDeclarationKind.Let l.lets) J → J2 ≡ inserted_all at (declared VariableDeclarationKind.Var l.vars) J1 → trees J2 ≡ placed_items l ps
placed_is l J J1 J2 ps at is count e1 e2 =
    let vs = declared VariableDeclarationKind.Var l.vars in
    let ls = declared VariableDeclarationKind.Let l.lets in
    let within : at ≤ length J = omega (arith, directives_within J, count) in
    ap trees (e2 ∙ ap (inserted_all at vs) e1 ∙ inserted_twice at vs ls J within)
    ∙ ap (λ n. trees (inserted_all n (vs ++ ls) J)) count
    ∙ sym (behind_inserted (vs ++ ls) J)
    ∙ ap (behind_directives (vs ++ ls)) is

pub directive_is : (t : Tree) (ps : Parts) → kind_of t ≡ Kind.ExpressionStatement → parts_in t ≡ ps → has_directive ps ≡ is_directive (child t)
directive_is (Node k i sp si qs) ps is are = ap has_directive (sym are) ∙ sym (ap (λ l. is_directive (child (Node l i sp si qs))) is)

pub no_directive : (t : Tree) → (kind_of t ≡ Kind.ExpressionStatement → ⊥) → is_directive (child t) ≡ false
no_directive (Node Kind.ExpressionStatement i sp si ps) other = absurd (other refl)
no_directive (Node k i sp si ps) other = refl
