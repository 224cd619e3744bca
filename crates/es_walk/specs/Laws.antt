-- What the laws of the hooks give for a whole walk.
use Rattle.std.specs.Prelude.{◌≡◌, ℕ, ◌+◌, ◌≤◌, Bool, true, false, refl}
use Rattle.std.proofs.Common.{arith}
use Rattle.es_base.specs.declared.kind.Kind.{Kind}
use Rattle.es_base.specs.Preorder.{nodes, nodes_of, nodes_of_part}
use Rattle.es_base.specs.Tree.{Tree, Part, Parts, Node, end, more, child, absent, list, string, no_string, boolean, literal}
use Rattle.es_ctx.specs.declared.ancestor.Parent.{Parent}
use Rattle.es_visit.specs.Bare.{is_bare, is_child}
use Rattle.es_walk.specs.Traversed as w
use Rattle.es_walk.specs.Weight.{total, total_of, total_of_part, heft, NoMore, KeepsReady, nodes-total, nodes_of_part-total}

bare_nodes : (p : Part) → is_bare p ≡ true → nodes_of_part p ≡ 0
bare_nodes (child t) e = absurd (cc e)
bare_nodes (list ps) e = absurd (cc e)
bare_nodes absent e = refl
bare_nodes (string s) e = refl
bare_nodes no_string e = refl
bare_nodes (boolean b) e = refl
bare_nodes (literal v) e = refl

-- numbers: what the tree and the state weigh together does not grow
module _ {S : Type 0} (enters : Bool → S → Tree → S → Tree → Type 0) (leaves : S → Tree → S → Tree → Type 0) (opens : S → Parent → ℕ → Part → S → Type 0) (closes : S → Parent → ℕ → Part → S → Part → Type 0)
    (weight : Kind → ℕ) (load : S → ℕ) (some : (k : Kind) → 1 ≤ weight k)
    (enter_law : (goes : Bool) → NoMore (enters goes) (total weight) (total weight) load) (leave_law : NoMore leaves (heft weight) nodes load)
    (open_law : (s m : S) (k : Parent) (at : ℕ) (p : Part) → opens s k at p m → load m ≤ load s)
    (close_law : (s e : S) (k : Parent) (at : ℕ) (p q : Part) → closes s k at p e q → nodes_of_part q + load e ≤ nodes_of_part p + load s) where
  mutual
    pub weighs : {s e : S} {t u : Tree} → w.Traversed enters leaves opens closes s t e u → nodes u + load e ≤ total weight t + load s
    weighs (w.through a h b) = omega (arith, enter_law true _ _ _ _ a, weighs_parts h, leave_law _ _ _ _ b)
    weighs (w.passed_by {u = u} a) = omega (arith, enter_law false _ _ _ _ a, nodes-total weight some u)

    pub weighs_parts : {k : Parent} {at : ℕ} {s e : S} {ps qs : Parts} → w.TraversedParts enters leaves opens closes k at s ps e qs → nodes_of qs + load e ≤ total_of weight ps + load s
    weighs_parts w.none = omega arith
    weighs_parts (w.next h hs) = omega (arith, weighs_member h, weighs_parts hs)

    pub weighs_member : {k : Parent} {at : ℕ} {s e : S} {p q : Part} → w.TraversedMember enters leaves opens closes k at s p e q → nodes_of_part q + load e ≤ total_of_part weight p + load s
    weighs_member (w.between a h b) = omega (arith, open_law _ _ _ _ _ a, weighs_part h, close_law _ _ _ _ _ _ b)

    pub weighs_part : {s e : S} {p q : Part} → w.TraversedPart enters leaves opens closes s p e q → nodes_of_part q + load e ≤ total_of_part weight p + load s
    weighs_part (w.of_child h) = weighs h
    weighs_part (w.of_list h) = weighs_items h
    weighs_part (w.bare {p = p} is) = omega (arith, bare_nodes p is)

    pub weighs_items : {s e : S} {ps qs : Parts} → w.TraversedItems enters leaves opens closes s ps e qs → nodes_of qs + load e ≤ total_of weight ps + load s
    weighs_items w.no_item = omega arith
    weighs_items (w.next_item h hs) = omega (arith, weighs_item h, weighs_items hs)

    pub weighs_item : {s e : S} {p q : Part} → w.TraversedItem enters leaves opens closes s p e q → nodes_of_part q + load e ≤ total_of_part weight p + load s
    weighs_item (w.item h) = weighs h
    weighs_item (w.other {p = p} is) = omega (arith, nodes_of_part-total weight some p)

-- what holds of the state when a hook is called
module _ {S : Type 0} (enters : Bool → S → Tree → S → Tree → Type 0) (leaves : S → Tree → S → Tree → Type 0)
    (opens : S → Parent → ℕ → Part → S → Type 0) (closes : S → Parent → ℕ → Part → S → Part → Type 0)
    (ready : S → Type 0)
    (enter_law : (goes : Bool) → KeepsReady (enters goes) ready) (leave_law : KeepsReady leaves ready)
    (open_law : (s e : S) (k : Parent) (at : ℕ) (p : Part) → opens s k at p e → ready s → ready e)
    (close_law : (s e : S) (k : Parent) (at : ℕ) (p q : Part) → closes s k at p e q → ready s → ready e) where
  mutual
    pub stays : {s e : S} {t u : Tree} → w.Traversed enters leaves opens closes s t e u → ready s → ready e
    stays (w.through a h b) r = leave_law _ _ _ _ b (stays_parts h (enter_law true _ _ _ _ a r))
    stays (w.passed_by a) r = enter_law false _ _ _ _ a r

    pub stays_parts : {k : Parent} {at : ℕ} {s e : S} {ps qs : Parts} → w.TraversedParts enters leaves opens closes k at s ps e qs → ready s → ready e
    stays_parts w.none r = r
    stays_parts (w.next h hs) r = stays_parts hs (stays_member h r)

    pub stays_member : {k : Parent} {at : ℕ} {s e : S} {p q : Part} → w.TraversedMember enters leaves opens closes k at s p e q → ready s → ready e
    stays_member (w.between a h b) r = close_law _ _ _ _ _ _ b (stays_part h (open_law _ _ _ _ _ a r))

    pub stays_part : {s e : S} {p q : Part} → w.TraversedPart enters leaves opens closes s p e q → ready s → ready e
    stays_part (w.of_child h) r = stays h r
    stays_part (w.of_list h) r = stays_items h r
    stays_part (w.bare is) r = r

    pub stays_items : {s e : S} {ps qs : Parts} → w.TraversedItems enters leaves opens closes s ps e qs → ready s → ready e
    stays_items w.no_item r = r
    stays_items (w.next_item h hs) r = stays_items hs (stays_item h r)

    pub stays_item : {s e : S} {p q : Part} → w.TraversedItem enters leaves opens closes s p e q → ready s → ready e
    stays_item (w.item h) r = stays h r
    stays_item (w.other is) r = r

-- where the walk stands: a relation of states that the hooks keep, and each member that is gone into and left
module _ {S : Type 0} (enters : Bool → S → Tree → S → Tree → Type 0) (leaves : S → Tree → S → Tree → Type 0)
    (opens : S → Parent → ℕ → Part → S → Type 0) (closes : S → Parent → ℕ → Part → S → Part → Type 0)
    (place : S → S → Type 0) (here : (s : S) → place s s) (on : (s m e : S) → place s m → place m e → place s e)
    (enter_law : (goes : Bool) (s e : S) (t u : Tree) → enters goes s t e u → place s e)
    (leave_law : (s e : S) (t u : Tree) → leaves s t e u → place s e)
    (member_law : (s m n e : S) (k : Parent) (at : ℕ) (p q r : Part) → opens s k at p m → place m n → closes n k at q e r → place s e) where
  mutual
    pub keeps_place : {s e : S} {t u : Tree} → w.Traversed enters leaves opens closes s t e u → place s e
    keeps_place (w.through a h b) = on _ _ _ (enter_law true _ _ _ _ a) (on _ _ _ (place_parts h) (leave_law _ _ _ _ b))
    keeps_place (w.passed_by a) = enter_law false _ _ _ _ a

    pub place_parts : {k : Parent} {at : ℕ} {s e : S} {ps qs : Parts} → w.TraversedParts enters leaves opens closes k at s ps e qs → place s e
    place_parts {s = s} w.none = here s
    place_parts (w.next h hs) = on _ _ _ (place_member h) (place_parts hs)

    pub place_member : {k : Parent} {at : ℕ} {s e : S} {p q : Part} → w.TraversedMember enters leaves opens closes k at s p e q → place s e
    place_member (w.between a h b) = member_law _ _ _ _ _ _ _ _ _ a (place_part h) b

    place_part : {s e : S} {p q : Part} → w.TraversedPart enters leaves opens closes s p e q → place s e
    place_part (w.of_child h) = keeps_place h
    place_part (w.of_list h) = place_items h
    place_part {s = s} (w.bare is) = here s

    place_items : {s e : S} {ps qs : Parts} → w.TraversedItems enters leaves opens closes s ps e qs → place s e
    place_items {s = s} w.no_item = here s
    place_items (w.next_item h hs) = on _ _ _ (place_item h) (place_items hs)

    pub place_item : {s e : S} {p q : Part} → w.TraversedItem enters leaves opens closes s p e q → place s e
    place_item (w.item h) = keeps_place h
    place_item {s = s} (w.other is) = here s

-- settled: what holds of each node at the end. Of a list in a list, which no tree of the grammar has, nothing is said
abbrev mutual
  pub AllSettled : (Tree → Type 0) → Tree → Type 0
  AllSettled settled (Node k i sp si ps) = settled (Node k i sp si ps) × PartsSettled settled ps

  pub PartsSettled : (Tree → Type 0) → Parts → Type 0
  PartsSettled settled end = Unit {0}
  PartsSettled settled (more p ps) = PartSettled settled p × PartsSettled settled ps

  pub PartSettled : (Tree → Type 0) → Part → Type 0
  PartSettled settled (child t) = AllSettled settled t
  PartSettled settled absent = Unit {0}
  PartSettled settled (list all) = ItemsSettled settled all
  PartSettled settled (string s) = Unit {0}
  PartSettled settled no_string = Unit {0}
  PartSettled settled (boolean b) = Unit {0}
  PartSettled settled (literal v) = Unit {0}

  pub ItemsSettled : (Tree → Type 0) → Parts → Type 0
  ItemsSettled settled end = Unit {0}
  ItemsSettled settled (more p ps) = ItemSettled settled p × ItemsSettled settled ps

  pub ItemSettled : (Tree → Type 0) → Part → Type 0
  ItemSettled settled (child t) = AllSettled settled t
  ItemSettled settled absent = Unit {0}
  ItemSettled settled (list all) = Unit {0}
  ItemSettled settled (string s) = Unit {0}
  ItemSettled settled no_string = Unit {0}
  ItemSettled settled (boolean b) = Unit {0}
  ItemSettled settled (literal v) = Unit {0}

abbrev pub BelowSettled : (Tree → Type 0) → Tree → Type 0
BelowSettled settled (Node k i sp si ps) = PartsSettled settled ps

module _ (settled : Tree → Type 0) where
  bare_settled : (p : Part) → is_bare p ≡ true → PartSettled settled p
  bare_settled (child t) e = absurd (cc e)
  bare_settled (list ps) e = absurd (cc e)
  bare_settled absent e = tt {0}
  bare_settled (string s) e = tt {0}
  bare_settled no_string e = tt {0}
  bare_settled (boolean b) e = tt {0}
  bare_settled (literal v) e = tt {0}

  other_settled : (p : Part) → is_child p ≡ false → ItemSettled settled p
  other_settled (child t) e = absurd (cc e)
  other_settled (list ps) e = tt {0}
  other_settled absent e = tt {0}
  other_settled (string s) e = tt {0}
  other_settled no_string e = tt {0}
  other_settled (boolean b) e = tt {0}
  other_settled (literal v) e = tt {0}

-- what is settled by one test is settled by a weaker one
module _ (P Q : Tree → Type 0) (weaker : (t : Tree) → P t → Q t) where
  mutual
    pub all_weaker : (t : Tree) → AllSettled P t → AllSettled Q t
    all_weaker (Node k i sp si ps) h = (weaker (Node k i sp si ps) h.0, parts_weaker ps h.1)

    pub parts_weaker : (ps : Parts) → PartsSettled P ps → PartsSettled Q ps
    parts_weaker end h = tt {0}
    parts_weaker (more p ps) h = (part_weaker p h.0, parts_weaker ps h.1)

    pub part_weaker : (p : Part) → PartSettled P p → PartSettled Q p
    part_weaker (child t) h = all_weaker t h
    part_weaker absent h = tt {0}
    part_weaker (list all) h = items_weaker all h
    part_weaker (string s) h = tt {0}
    part_weaker no_string h = tt {0}
    part_weaker (boolean b) h = tt {0}
    part_weaker (literal v) h = tt {0}

    pub items_weaker : (ps : Parts) → ItemsSettled P ps → ItemsSettled Q ps
    items_weaker end h = tt {0}
    items_weaker (more p ps) h = (item_weaker p h.0, items_weaker ps h.1)

    pub item_weaker : (p : Part) → ItemSettled P p → ItemSettled Q p
    item_weaker (child t) h = all_weaker t h
    item_weaker absent h = tt {0}
    item_weaker (list all) h = tt {0}
    item_weaker (string s) h = tt {0}
    item_weaker no_string h = tt {0}
    item_weaker (boolean b) h = tt {0}
    item_weaker (literal v) h = tt {0}

-- The test may read the state, as options in it, where no step makes it stronger. `ready` is what holds of the
-- state, as that the nodes that it keeps are settled.
module _ {S : Type 0} (enters : Bool → S → Tree → S → Tree → Type 0) (leaves : S → Tree → S → Tree → Type 0) (opens : S → Parent → ℕ → Part → S → Type 0) (closes : S → Parent → ℕ → Part → S → Part → Type 0)
    (settled : S → Tree → Type 0) (ready : S → Type 0)
    (enter_steady : (goes : Bool) (s e : S) (t u : Tree) → enters goes s t e u → (v : Tree) → settled s v → settled e v)
    (leave_steady : (s e : S) (t u : Tree) → leaves s t e u → (v : Tree) → settled s v → settled e v)
    (member_steady : (s m n e : S) (k : Parent) (at : ℕ) (p q r : Part) → opens s k at p m → ((v : Tree) → settled m v → settled n v) → closes n k at q e r → (v : Tree) → settled s v → settled e v)
    (enter_law : (s m : S) (t u : Tree) → enters true s t m u → ready s → ready m)
    (pass_law : (s e : S) (t u : Tree) → enters false s t e u → ready s → ready e × AllSettled (settled e) u)
    (leave_law : (s e : S) (t u : Tree) → leaves s t e u → ready s → BelowSettled (settled s) t → ready e × AllSettled (settled e) u)
    (open_law : (s m : S) (k : Parent) (at : ℕ) (p : Part) → opens s k at p m → ready s → ready m)
    (close_law : (s e : S) (k : Parent) (at : ℕ) (p q : Part) → closes s k at p e q → ready s → PartSettled (settled s) p → ready e × PartSettled (settled e) q) where
  abbrev Steady : S → S → Type 0
  Steady s e = (v : Tree) → settled s v → settled e v

  steady_on : (s m e : S) → Steady s m → Steady m e → Steady s e
  steady_on s m e a b v x = b v (a v x)

  steady_parts : {k : Parent} {at : ℕ} {s e : S} {ps qs : Parts} → w.TraversedParts enters leaves opens closes k at s ps e qs → Steady s e
  steady_parts h = place_parts enters leaves opens closes Steady (λ s v x. x) steady_on enter_steady leave_steady member_steady h

  steady_items : {s e : S} {ps qs : Parts} → w.TraversedItems enters leaves opens closes s ps e qs → Steady s e
  steady_items h = place_items enters leaves opens closes Steady (λ s v x. x) steady_on enter_steady leave_steady member_steady h

  mutual
    pub settles : {s e : S} {t u : Tree} → w.Traversed enters leaves opens closes s t e u → ready s → ready e × AllSettled (settled e) u
    settles (w.through a h b) r =
        let below = settles_parts h (enter_law _ _ _ _ a r) in
        leave_law _ _ _ _ b below.0 below.1
    settles (w.passed_by a) r = pass_law _ _ _ _ a r

    pub settles_parts : {k : Parent} {at : ℕ} {s e : S} {ps qs : Parts} → w.TraversedParts enters leaves opens closes k at s ps e qs → ready s → ready e × PartsSettled (settled e) qs
    settles_parts w.none r = (r, tt {0})
    settles_parts (w.next {q = q} h hs) r =
        let first = settles_member h r in
        let rest = settles_parts hs first.0 in
        (rest.0, (part_weaker _ _ (steady_parts hs) q first.1, rest.1))

    pub settles_member : {k : Parent} {at : ℕ} {s e : S} {p q : Part} → w.TraversedMember enters leaves opens closes k at s p e q → ready s → ready e × PartSettled (settled e) q
    settles_member (w.between a h b) r =
        let inside = settles_part h (open_law _ _ _ _ _ a r) in
        close_law _ _ _ _ _ _ b inside.0 inside.1

    pub settles_part : {s e : S} {p q : Part} → w.TraversedPart enters leaves opens closes s p e q → ready s → ready e × PartSettled (settled e) q
    settles_part (w.of_child h) r = settles h r
    settles_part (w.of_list h) r = settles_items h r
    settles_part {s} (w.bare {p = p} is) r = (r, bare_settled (settled s) p is)

    pub settles_items : {s e : S} {ps qs : Parts} → w.TraversedItems enters leaves opens closes s ps e qs → ready s → ready e × ItemsSettled (settled e) qs
    settles_items w.no_item r = (r, tt {0})
    settles_items (w.next_item {q = q} h hs) r =
        let first = settles_item h r in
        let rest = settles_items hs first.0 in
        (rest.0, (item_weaker _ _ (steady_items hs) q first.1, rest.1))

    pub settles_item : {s e : S} {p q : Part} → w.TraversedItem enters leaves opens closes s p e q → ready s → ready e × ItemSettled (settled e) q
    settles_item (w.item h) r = settles h r
    settles_item {s} (w.other {p = p} is) r = (r, other_settled (settled s) p is)
