-- The whole: a tree with what the open lists keep put at its place.
use Rattle.std.specs.Prelude.{◌≡◌, ℕ, ◌+◌, List, ◌∷◌, Bool, true, false, refl, Option}
use Rattle.std.proofs.Common.{ap, sym, ◌∙◌}
use Rattle.es_base.specs.Tree.{Tree, Part, Parts, Node, end, more, child, absent, list, string, no_string, boolean, literal}
use Rattle.es_base.specs.declared.kind.Kind.{Kind}
use Rattle.es_ctx.specs.Ancestors.{ancestor_of, going_into, has_statements}
use Rattle.es_ctx.specs.Lists.{front-push}
use Rattle.es_ctx.specs.Stores.{front, opened, closed, filled}
use Rattle.es_ctx.specs.declared.ancestor.Ancestor.{Ancestor}
use Rattle.es_ctx.specs.declared.ancestor.Parent.{Parent}
use Rattle.es_ctx.specs.declared.stores.OpenList.{OpenList}
use Rattle.es_visit.specs.Bare.{is_bare, is_child}
use Rattle.es_walk.specs.Holes.{joined, count, Hole, PartHole, top, of_child, of_item, at_part, places, part_places, pending, pending_of, pending_part, pending_items, pending_item, pending_below}
use Rattle.es_walk.specs.Placing.{closed-opened, filled-opened}
use Rattle.es_walk.specs.Traversed as w

-- the innermost open list is that of the innermost list of statements around the hole
abbrev mutual
  pub whole : List OpenList → Hole → Tree → Tree
  whole lists top t = t
  whole lists (of_child place) t = whole_part lists place (child t)
  whole lists (of_item before after place) t = whole_part lists place (list (joined before (more (child t) after)))

  pub whole_part : List OpenList → PartHole → Part → Tree
  whole_part lists (at_part parent k i sp si before after outer) p = whole (closed (has_statements parent.kind (count before)) lists) outer (Node k i sp si (joined before (more (filled (has_statements parent.kind (count before)) lists p) after)))

pub joined-push : (before : Parts) (p : Part) (ps : Parts) → joined (joined before (more p end)) ps ≡ joined before (more p ps)
joined-push end p ps = refl
joined-push (more b bs) p ps = ap (more b) (joined-push bs p ps)

pub count-push : (before : Parts) (p : Part) → count (joined before (more p end)) ≡ count before + 1
count-push end p = refl
count-push (more b bs) p = ap (λ n. n + 1) (count-push bs p)

pub bare_pending : (p : Part) (rest : List Tree) → is_bare p ≡ true → pending_part p rest ≡ rest
bare_pending (child t) rest e = absurd (cc e)
bare_pending (list ps) rest e = absurd (cc e)
bare_pending absent rest e = refl
bare_pending (string s) rest e = refl
bare_pending no_string rest e = refl
bare_pending (boolean b) rest e = refl
bare_pending (literal v) rest e = refl

pub other_pending : (p : Part) (rest : List Tree) → is_child p ≡ false → pending_item p rest ≡ rest
other_pending (child t) rest e = absurd (cc e)
other_pending (list ps) rest e = refl
other_pending absent rest e = refl
other_pending (string s) rest e = refl
other_pending no_string rest e = refl
other_pending (boolean b) rest e = refl
other_pending (literal v) rest e = refl

module _ (parent : Parent) (k : Kind) (i : ℕ) (sp : Option (ℕ × ℕ)) (si : Option ℕ) (before after : Parts) (outer : Hole) where
  -- a list that was just opened adds nothing
  whole-opened : (b : Bool) (ls ms : List OpenList) (p : Part) → has_statements parent.kind (count before) ≡ b → ms ≡ opened b p ls → whole_part ms (at_part parent k i sp si before after outer) p ≡ whole ls outer (Node k i sp si (joined before (more p after)))
  whole-opened b ls ms p is opens = rw (is, opens, closed-opened b p ls, filled-opened b ls p p) refl

  -- and one that is closed leaves what it added
  whole-closed : (b : Bool) (ls ms : List OpenList) (p q : Part) → has_statements parent.kind (count before) ≡ b → ms ≡ closed b ls → q ≡ filled b ls p → whole_part ls (at_part parent k i sp si before after outer) p ≡ whole ms outer (Node k i sp si (joined before (more q after)))
  whole-closed b ls ms p q is closes fills = rw (is, closes, fills) refl

-- Any relation: what the hooks keep of the whole, of the nodes between whose hooks the walk stands and of those
-- still to be entered, the walk keeps, wherever the node stands. A hook may assume that the places around
-- are those that the context tells of.
module _ {S : Type 0} (enters : Bool → S → Tree → S → Tree → Type 0) (leaves : S → Tree → S → Tree → Type 0) (opens : S → Parent → ℕ → Part → S → Type 0) (closes : S → Parent → ℕ → Part → S → Part → Type 0)
    (path : S → List Ancestor) (lists : S → List OpenList) (kept : S → Tree → List Tree → List Tree → Type 0)
    (enter_path : (goes : Bool) (s e : S) (t u : Tree) → enters goes s t e u → path e ≡ path s)
    (leave_path : (s e : S) (t u : Tree) → leaves s t e u → path e ≡ path s)
    (opens_path : (s e : S) (parent : Parent) (at : ℕ) (p : Part) → opens s parent at p e → path e ≡ going_into (path s) parent at)
    (closes_path : (s e : S) (parent : Parent) (at : ℕ) (p q : Part) → closes s parent at p e q → path e ≡ front (path s))
    (enter_law : (s e : S) (t u : Tree) → enters true s t e u → (hole : Hole) → path s ≡ places hole → (around rest : List Tree) → kept s (whole (lists s) hole t) around (pending t rest) → kept e (whole (lists e) hole u) (t ∷ around) (pending_below u rest))
    (pass_law : (s e : S) (t u : Tree) → enters false s t e u → (hole : Hole) → path s ≡ places hole → (around rest : List Tree) → kept s (whole (lists s) hole t) around (pending t rest) → kept e (whole (lists e) hole u) around rest)
    (leave_law : (s e : S) (t u : Tree) → leaves s t e u → (hole : Hole) → path s ≡ places hole → (entered : Tree) (around rest : List Tree) → kept s (whole (lists s) hole t) (entered ∷ around) rest → kept e (whole (lists e) hole u) around rest)
    (opens_list : (s e : S) (parent : Parent) (at : ℕ) (p : Part) → opens s parent at p e → lists e ≡ opened (has_statements parent.kind at) p (lists s))
    (open_law : (s e : S) (parent : Parent) (at : ℕ) (p : Part) → opens s parent at p e → (t : Tree) (around rest : List Tree) → kept s t around rest → kept e t around rest)
    (closes_list : (s e : S) (parent : Parent) (at : ℕ) (p q : Part) → closes s parent at p e q → lists e ≡ closed (has_statements parent.kind at) (lists s))
    (fills_part : (s e : S) (parent : Parent) (at : ℕ) (p q : Part) → closes s parent at p e q → q ≡ filled (has_statements parent.kind at) (lists s) p)
    (close_law : (s e : S) (parent : Parent) (at : ℕ) (p q : Part) → closes s parent at p e q → (t : Tree) (around rest : List Tree) → kept s t around rest → kept e t around rest) where
  mutual
    path_node : {s e : S} {t u : Tree} → w.Traversed enters leaves opens closes s t e u → path e ≡ path s
    path_node (w.through a h b) = leave_path _ _ _ _ b ∙ path_parts h ∙ enter_path true _ _ _ _ a
    path_node (w.passed_by a) = enter_path false _ _ _ _ a

    path_parts : {parent : Parent} {at : ℕ} {s e : S} {ps qs : Parts} → w.TraversedParts enters leaves opens closes parent at s ps e qs → path e ≡ path s
    path_parts w.none = refl
    path_parts (w.next h hs) = path_parts hs ∙ path_member h

    path_member : {parent : Parent} {at : ℕ} {s e : S} {p q : Part} → w.TraversedMember enters leaves opens closes parent at s p e q → path e ≡ path s
    path_member {parent} {at} {s} (w.between a h b) = closes_path _ _ _ _ _ _ b ∙ ap front (path_part h ∙ opens_path _ _ _ _ _ a) ∙ front-push (path s) (ancestor_of (path s) parent at)

    path_part : {s e : S} {p q : Part} → w.TraversedPart enters leaves opens closes s p e q → path e ≡ path s
    path_part (w.of_child h) = path_node h
    path_part (w.of_list h) = path_items h
    path_part (w.bare is) = refl

    path_items : {s e : S} {ps qs : Parts} → w.TraversedItems enters leaves opens closes s ps e qs → path e ≡ path s
    path_items w.no_item = refl
    path_items (w.next_item h hs) = path_items hs ∙ path_item h

    path_item : {s e : S} {p q : Part} → w.TraversedItem enters leaves opens closes s p e q → path e ≡ path s
    path_item (w.item h) = path_node h
    path_item (w.other is) = refl

  same : (parent : Parent) {n at : ℕ} → n ≡ at → has_statements parent.kind n ≡ has_statements parent.kind at
  same parent c = ap (λ (i : ℕ). has_statements parent.kind i) c

  mutual
    pub keeps_whole : {s e : S} {t u : Tree} → w.Traversed enters leaves opens closes s t e u → (hole : Hole) → path s ≡ places hole → (around rest : List Tree) → kept s (whole (lists s) hole t) around (pending t rest) → kept e (whole (lists e) hole u) around rest
    keeps_whole (w.through {t = t} {k = k} {i = i} {sp = sp} {si = si} {ps = ps} a h b) hole here around rest x =
        let inside = keeps_parts h k i sp si end refl hole (enter_path true _ _ _ _ a ∙ here) (t ∷ around) rest (enter_law _ _ _ _ a hole here around rest x) in
        leave_law _ _ _ _ b hole (path_parts h ∙ enter_path true _ _ _ _ a ∙ here) t around rest inside
    keeps_whole (w.passed_by a) hole here around rest x = pass_law _ _ _ _ a hole here around rest x

    keeps_parts : {parent : Parent} {at : ℕ} {s e : S} {ps qs : Parts} → w.TraversedParts enters leaves opens closes parent at s ps e qs → (k : Kind) (i : ℕ) (sp : Option (ℕ × ℕ)) (si : Option ℕ) (before : Parts) → count before ≡ at → (outer : Hole) → path s ≡ places outer → (around rest : List Tree) → kept s (whole (lists s) outer (Node k i sp si (joined before ps))) around (pending_of ps rest) → kept e (whole (lists e) outer (Node k i sp si (joined before qs))) around rest
    keeps_parts w.none k i sp si before c outer here around rest x = x
    keeps_parts {parent} {at} {s} {e} (w.next {m = m} {p = p} {q = q} {ps = ps} {qs = qs} h hs) k i sp si before c outer here around rest x =
        let first : kept m (whole (lists m) outer (Node k i sp si (joined before (more q ps)))) around (pending_of ps rest) = keeps_member h k i sp si before c ps outer here around (pending_of ps rest) x in
        let moved : kept m (whole (lists m) outer (Node k i sp si (joined (joined before (more q end)) ps))) around (pending_of ps rest) = rw (joined-push before q ps) first in
        rw (joined-push before q qs) at (keeps_parts hs k i sp si (joined before (more q end)) (count-push before q ∙ ap (λ n. n + 1) c) outer (path_member h ∙ here) around rest moved)

    keeps_member : {parent : Parent} {at : ℕ} {s e : S} {p q : Part} → w.TraversedMember enters leaves opens closes parent at s p e q → (k : Kind) (i : ℕ) (sp : Option (ℕ × ℕ)) (si : Option ℕ) (before : Parts) → count before ≡ at → (after : Parts) (outer : Hole) → path s ≡ places outer → (around rest : List Tree) → kept s (whole (lists s) outer (Node k i sp si (joined before (more p after)))) around (pending_part p rest) → kept e (whole (lists e) outer (Node k i sp si (joined before (more q after)))) around rest
    keeps_member {parent} {at} {s} {e} (w.between {m = m} {n = n} {p = p} {q = q} {r = r} a h b) k i sp si before c after outer here around rest x =
        let place = at_part parent k i sp si before after outer in
        let opening = whole-opened parent k i sp si before after outer (has_statements parent.kind at) (lists s) (lists m) p (same parent c) (opens_list _ _ _ _ _ a) in
        let entering : kept m (whole_part (lists m) place p) around (pending_part p rest) = rw opening (open_law _ _ _ _ _ a _ around (pending_part p rest) x) in
        let around_part : path m ≡ going_into (places outer) parent (count before) = opens_path _ _ _ _ _ a ∙ ap (λ ps. going_into ps parent at) here ∙ ap (λ (n : ℕ). going_into (places outer) parent n) (sym c) in
        let inside : kept n (whole_part (lists n) place q) around rest = keeps_part h place around_part around rest entering in
        let closing = whole-closed parent k i sp si before after outer (has_statements parent.kind at) (lists n) (lists e) q r (same parent c) (closes_list _ _ _ _ _ _ b) (fills_part _ _ _ _ _ _ b) in
        close_law _ _ _ _ _ _ b _ around rest (rw closing at inside)

    keeps_part : {s e : S} {p q : Part} → w.TraversedPart enters leaves opens closes s p e q → (place : PartHole) → path s ≡ part_places place → (around rest : List Tree) → kept s (whole_part (lists s) place p) around (pending_part p rest) → kept e (whole_part (lists e) place q) around rest
    keeps_part (w.of_child h) place here around rest x = keeps_whole h (of_child place) here around rest x
    keeps_part (w.of_list h) place here around rest x = keeps_items h end place here around rest x
    keeps_part (w.bare {p = p} is) place here around rest x = rw (bare_pending p rest is) at x

    keeps_items : {s e : S} {ps qs : Parts} → w.TraversedItems enters leaves opens closes s ps e qs → (before : Parts) (place : PartHole) → path s ≡ part_places place → (around rest : List Tree) → kept s (whole_part (lists s) place (list (joined before ps))) around (pending_items ps rest) → kept e (whole_part (lists e) place (list (joined before qs))) around rest
    keeps_items w.no_item before place here around rest x = x
    keeps_items {s} {e} (w.next_item {m = m} {p = p} {q = q} {ps = ps} {qs = qs} h hs) before place here around rest x =
        let first : kept m (whole_part (lists m) place (list (joined before (more q ps)))) around (pending_items ps rest) = keeps_item h before ps place here around (pending_items ps rest) x in
        let moved : kept m (whole_part (lists m) place (list (joined (joined before (more q end)) ps))) around (pending_items ps rest) = rw (joined-push before q ps) first in
        rw (joined-push before q qs) at (keeps_items hs (joined before (more q end)) place (path_item h ∙ here) around rest moved)

    keeps_item : {s e : S} {p q : Part} → w.TraversedItem enters leaves opens closes s p e q → (before after : Parts) (place : PartHole) → path s ≡ part_places place → (around rest : List Tree) → kept s (whole_part (lists s) place (list (joined before (more p after)))) around (pending_item p rest) → kept e (whole_part (lists e) place (list (joined before (more q after)))) around rest
    keeps_item (w.item h) before after place here around rest x = keeps_whole h (of_item before after place) here around rest x
    keeps_item (w.other {p = p} is) before after place here around rest x = rw (other_pending p rest is) at x
