-- In a tree that conforms each scope gets the names of its node: no other part of the tree declares there.
use Rattle.std.proofs.Common.{◌≡◌, refl, sym, ap, subst, ◌∙◌, ℕ, zero, suc, ◌+◌, ◌<◌, ◌≤◌, ◌⊎◌, inl, inr, List, [], ◌∷◌, ◌++◌, length, Bool, true, false, true≢false, cond, ◌&&◌, not, nat_eq, Option, Some, None, arith}
use Rattle.std.specs.Prelude.{slice_get}
use Rattle.std.proofs.lemmas.Bool.{and_parts}
use Rattle.std.proofs.lemmas.Bool.Decides.{nat_tests}
use Rattle.std.proofs.lemmas.List.{length-append}
use Rattle.es_base.specs.Conforms.{conforms, parts_conform, part_conforms, items_conform, item_conforms, key_place, place_rule, kind_rule}
use Rattle.es_base.specs.Table.{Field, members_of, stands_in}
use Rattle.es_base.specs.Tree.{Tree, Part, Parts, Node, end, more, child, absent, list, string, no_string, boolean, literal}
use Rattle.es_base.specs.declared.ids.ScopeId.{ScopeId}
use Rattle.es_base.specs.declared.kind.Kind.{Kind}
use Rattle.es_base.specs.declared.table.Place.{Place}
use Rattle.es_base.specs.declared.table.Sort.{Sort}
use Rattle.es_scopes.specs.Entries.{Collected, entered, collected, collected_parts, collected_part, collected_items, nothing_yet, entries_of}
use Rattle.es_scopes.specs.Held.{node_weight, scope_gets, held_weight, IsElsewhere, IsNoBody}
use Rattle.es_scopes.specs.NodeScopes.{opens, has_scope, is_body_place}
use Rattle.es_scopes.specs.Opened.{opens_at, opened, opened_parts, opened_part, opened_items}
use Rattle.es_scopes.specs.Surroundings.{scope_place, inside, declares_in, nowhere}
use Rattle.es_scopes.specs.Tables.{AreOrdered, scopes_in}
use Rattle.es_scopes.specs.declared.entry.Entry.{Entry}
use Rattle.es_scopes.specs.declared.entry.Entry.TheVariants as entry
use Rattle.es_scopes.specs.declared.surroundings.Declarer.{Declarer}
use Rattle.es_scopes.specs.declared.surroundings.Declares.{Declares}
use Rattle.es_scopes.specs.declared.surroundings.Declares.TheVariants as declares
use Rattle.es_scopes.specs.declared.surroundings.Surroundings.{Surroundings}
use Rattle.es_scopes.proofs.HeldNames.{fit_place, fit_list, fit_sort, fit_all, fit_key, fit-parts, key-fits, list-fits, held-parts, held-items, own-tree, quiet-gives, gives_items, quiet-parts}
use Rattle.es_scopes.proofs.OrderLemmas.{Within, Counts, Holds, inside-within, within-le, entered-counts, collected-counts, part-counts, more_in_part}

-- ---- a place has a body where it is that of one

abbrev body_sort : Declares → Bool → Sort → Bool
body_sort (declares.Body s) b (Sort.Child place) = b
body_sort (declares.Body s) b (Sort.Nullable place) = b
body_sort d b sort = true

abbrev body_all : (ℕ → Declares) → (ℕ → Bool) → List Field → Bool
body_all ds bs [] = true
body_all ds bs (f ∷ fs) = body_sort (ds 0) (bs 0) f.sort && body_all (λ j. ds (suc j)) (λ j. bs (suc j)) fs

body-parts : (kind : Kind) (own : ScopeId) (ps : Parts) (d : Declares) → body_all (declares_in kind own ps d) (is_body_place kind) (members_of kind) ≡ true
body-parts Kind.Program own ps d = refl
body-parts kind own ps declares.Nothing = refl
body-parts kind own ps (declares.Statement lexical var) = refl
body-parts kind own ps (declares.Body s) = refl
body-parts kind own ps (declares.Pattern holder who) = refl

-- a body declares as one
abbrev KnowsBody : Declares → Bool → Type 0
KnowsBody (declares.Body s) b = b ≡ true
KnowsBody d b = Unit

no-body : (d : Declares) (b : Bool) → KnowsBody d b → b ≡ false → IsNoBody d
no-body declares.Nothing b h e = tt
no-body (declares.Statement lexical var) b h e = tt
no-body (declares.Body s) b h e = true≢false (sym h ∙ e)
no-body (declares.Pattern holder who) b h e = tt

-- ---- scopes to come hold nothing yet

above-other : (m n : ℕ) → m < n → nat_eq m n ≡ false
above-other m n l = grind (arith, nat_tests)

module _ (w : Declarer → ℕ → List ℕ → ℕ) where
  known-gets : (m n : ℕ) (o : Option ScopeId) → ((s : ScopeId) → o ≡ Some s → s.0 < m) → m ≤ n → (x : ℕ) → scope_gets n o x ≡ 0
  known-gets m n None h le x = refl
  known-gets m n (Some s) h le x = let k = h s refl in ap (λ b. cond b x 0) (above-other s.0 n (omega arith))

  holds-elsewhere : (m n : ℕ) (d : Declares) → m ≤ n → Holds m d → IsElsewhere n d
  holds-elsewhere m n declares.Nothing le h = tt
  holds-elsewhere m n (declares.Statement lexical var) le h = (known-gets m n lexical h.0 le, known-gets m n var h.1 le)
  holds-elsewhere m n (declares.Body s) le h = known-gets m n (Some s) (λ q e. let same : s.0 ≡ q.0 = ap (λ (o : Option ScopeId). number o) e in omega arith) le
    where
      number : Option ScopeId → ℕ
      number None = 0
      number (Some q) = q.0
  holds-elsewhere m n (declares.Pattern holder who) le h = known-gets m n holder h le

  none-yet : (m n : ℕ) (es : List Entry) → AreOrdered m es → m + scopes_in es ≤ n → held_weight w n es ≡ 0
  none-yet m n [] h le = refl
  none-yet m n (entry.Scope node parent in_parameters flags ∷ es) h le = none-yet (m + 1) n es h.1 (omega arith)
  none-yet m n (entry.Body node ∷ es) h le = none-yet (m + 0) n es h.1 (omega arith)
  none-yet m n (entry.Binding node holder who name flags head ∷ es) h le = omega (arith, known-gets m n holder h.0 (omega arith) (w who node.0 name), none-yet (m + 0) n es h.1 (omega arith))
  none-yet m n (entry.Reference node scope in_parameters name flags ∷ es) h le = none-yet (m + 0) n es h.1 (omega arith)

  none-counted : (n : ℕ) (c : Collected) → Counts c → c.next ≤ n → held_weight w n c.entries ≡ 0
  none-counted n c h le = none-yet 0 n c.entries h.ordered (omega (arith, h.count))

-- ---- as many scopes are counted as nodes have one

pub opens-same : (kind : Kind) (s : Surroundings) → opens kind (scope_place s) ≡ opens_at kind s.is_body
opens-same Kind.BlockStatement s = refl
opens-same kind s = refl

pub one-node : (b : Bool) (t : Tree) (n : ℕ) → cond b (n + 1) n ≡ n + length (cond b (t ∷ []) [])
one-node true t n = omega arith
one-node false t n = omega arith

-- what is known of the parts from the i-th on
abbrev pub Bodies : (ℕ → Surroundings) → ℕ → (ℕ → Bool) → Type 0
Bodies f i bs = (j : ℕ) → bs j ≡ (f (i + j)).is_body

pub first-body : (f : ℕ → Surroundings) (i : ℕ) (bs : ℕ → Bool) → Bodies f i bs → bs 0 ≡ (f i).is_body
first-body f i bs h = h 0 ∙ (let e : i + 0 ≡ i = omega arith in ap (λ (k : ℕ). (f k).is_body) e)

pub rest-bodies : (f : ℕ → Surroundings) (i : ℕ) (bs : ℕ → Bool) → Bodies f i bs → Bodies f (i + 1) (λ j. bs (suc j))
rest-bodies f i bs h j = h (suc j) ∙ (let e : i + suc j ≡ (i + 1) + j = omega arith in ap (λ (k : ℕ). (f k).is_body) e)

mutual
  pub count-tree : (s : Surroundings) (c : Collected) (t : Tree) → (collected s c t).next ≡ c.next + length (opened s.is_body t)
  count-tree s c (Node kind m span id ps) = omega (
    arith,
    count-parts (inside kind (record { 0 = c.next }) ps s) 0 (entered kind (record { 0 = m }) ps s c) ps (is_body_place kind) (λ j. let e : 0 + j ≡ j = omega arith in ap (is_body_place kind) (sym e)),
    ap (λ b. cond b (c.next + 1) c.next) (opens-same kind s),
    one-node (opens_at kind s.is_body) (Node kind m span id ps) c.next,
    length-append (cond (opens_at kind s.is_body) (Node kind m span id ps ∷ []) []) (opened_parts (is_body_place kind) ps),
  )

  pub count-parts : (f : ℕ → Surroundings) (i : ℕ) (c : Collected) (ps : Parts) (bs : ℕ → Bool) → Bodies f i bs → (collected_parts f i c ps).next ≡ c.next + length (opened_parts bs ps)
  count-parts f i c end bs h = omega arith
  count-parts f i c (more p ps) bs h = omega (
    arith,
    count-parts f (i + 1) (collected_part (f i) c p) ps (λ j. bs (suc j)) (rest-bodies f i bs h),
    count-part (f i) c p,
    ap (λ b. length (opened_part b p)) (first-body f i bs h),
    length-append (opened_part (bs 0) p) (opened_parts (λ j. bs (suc j)) ps),
  )

  pub count-part : (s : Surroundings) (c : Collected) (p : Part) → (collected_part s c p).next ≡ c.next + length (opened_part s.is_body p)
  count-part s c (child t) = count-tree s c t
  count-part s c absent = omega arith
  count-part s c (list ps) = count-items s c ps
  count-part s c (string b) = omega arith
  count-part s c no_string = omega arith
  count-part s c (boolean b) = omega arith
  count-part s c (literal v) = omega arith

  pub count-items : (s : Surroundings) (c : Collected) (ps : Parts) → (collected_items s c ps).next ≡ c.next + length (opened_items s.is_body ps)
  count-items s c end = omega arith
  count-items s c (more p ps) = omega (arith, count-items s (collected_part s c p) ps, count-part s c p, length-append (opened_part s.is_body p) (opened_items s.is_body ps))

-- ---- each scope gets the names of its node

pub get-append : {X : Type 0} (xs ys : List X) (j : ℕ) (x : X) → slice_get (xs ++ ys) j ≡ Some x → ((slice_get xs j ≡ Some x) × (j < length xs)) ⊎ ((k : ℕ) × ((j ≡ length xs + k) × (slice_get ys k ≡ Some x)))
get-append [] ys j x h = inr (j, (omega arith, h))
get-append (y ∷ xs) ys zero x h = inl (h, omega arith)
get-append (y ∷ xs) ys (suc j) x h = elim (get-append xs ys j x h) [
  | inl k ↦ inl (k.0, let l = k.1 in omega arith)
  | inr k ↦ inr (k.0, (let e = k.1.0 in omega arith, k.1.1))
]

from-some : {A : Type 0} (x y : A) → Some x ≡ Some y → x ≡ y
from-some x y e = cc

knows-child : (d : Declares) (b : Bool) (place : Place) → body_sort d b (Sort.Child place) ≡ true → KnowsBody d b
knows-child declares.Nothing b place h = tt
knows-child (declares.Statement lexical var) b place h = tt
knows-child (declares.Body s) b place h = h
knows-child (declares.Pattern holder who) b place h = tt

knows-nullable : (d : Declares) (b : Bool) (place : Place) → body_sort d b (Sort.Nullable place) ≡ true → KnowsBody d b
knows-nullable declares.Nothing b place h = tt
knows-nullable (declares.Statement lexical var) b place h = tt
knows-nullable (declares.Body s) b place h = h
knows-nullable (declares.Pattern holder who) b place h = tt

knows-key : (d : Declares) (b : Bool) → fit_key d ≡ true → KnowsBody d b
knows-key declares.Nothing b h = tt
knows-key (declares.Statement lexical var) b h = tt
knows-key (declares.Body s) b h = absurd (true≢false (sym h))
knows-key (declares.Pattern holder who) b h = tt

knows-list : (d : Declares) (b : Bool) (place : Place) → fit_list d place ≡ true → KnowsBody d b
knows-list declares.Nothing b place h = tt
knows-list (declares.Statement lexical var) b place h = tt
knows-list (declares.Body s) b place h = absurd (true≢false (sym h))
knows-list (declares.Pattern holder who) b place h = tt

block-open : (kind : Kind) (b : Bool) → kind ≡ Kind.BlockStatement → opens_at kind b ≡ true → b ≡ false
block-open kind b is h = of_block b (ap (λ k. opens_at k b) (sym is) ∙ h)
  where
    of_block : (b : Bool) → not b ≡ true → b ≡ false
    of_block true h = sym h
    of_block false h = refl

opens-has : (kind : Kind) (b : Bool) → opens_at kind b ≡ true → has_scope kind ≡ true
opens-has Kind.BlockStatement b h = refl
opens-has kind b h = h

module _ (w : Declarer → ℕ → List ℕ → ℕ) where
  abbrev pub EachGets : ℕ → List Tree → List Entry → Type 0
  EachGets start nodes es = (j : ℕ) (x : Tree) → slice_get nodes j ≡ Some x → held_weight w (start + j) es ≡ node_weight w x

  quiet-items : (n : ℕ) (d : Declares) (ps : Parts) → IsElsewhere n d → gives_items w n d ps ≡ 0
  quiet-items n d end h = refl
  quiet-items n d (more p ps) h = omega (arith, quiet-gives w n d p h, quiet-items n d ps h)

  -- the first of two lists of nodes, and then the second
  joined : (start middle : ℕ) (xs ys : List Tree) (before after : List Entry) → middle ≡ start + length xs → EachGets start xs before → ((n : ℕ) → start ≤ n → n < middle → held_weight w n after ≡ held_weight w n before) → EachGets middle ys after → EachGets start (xs ++ ys) after
  joined start middle xs ys before after is first stays second j x h = elim (get-append xs ys j x h) [
    | inl k ↦ stays (start + j) (omega arith) (let l = k.1 in omega (arith, is)) ∙ first j x k.0
    | inr k ↦ (let same : start + j ≡ middle + k.0 = (let e = k.1.0 in omega (arith, is)) in ap (λ (n : ℕ). held_weight w n after) same) ∙ second k.0 x k.1.1
  ]

  stays : (n : ℕ) {x y z : ℕ} → x ≡ y + z → z ≡ 0 → x ≡ y
  stays n e q = omega (arith, e, q)

  next-open : (b : Bool) (kind : Kind) (s : Surroundings) (c : Collected) → opens_at kind s.is_body ≡ b → cond (opens kind (scope_place s)) (c.next + 1) c.next ≡ cond b (c.next + 1) c.next
  next-open b kind s c is = ap (λ a. cond a (c.next + 1) c.next) (opens-same kind s ∙ is)

  -- a node with a scope, and what is below it
  each-node : (place : Place) (s : Surroundings) (c : Collected) (kind : Kind) (m : ℕ) (span : Option (ℕ × ℕ)) (id : Option ℕ) (ps : Parts) → conforms place (Node kind m span id ps) ≡ true → KnowsBody s.declares s.is_body → Counts c → Within c.next s → (b : Bool) → opens_at kind s.is_body ≡ b
      → EachGets (cond (opens kind (scope_place s)) (c.next + 1) c.next) (opened_parts (is_body_place kind) ps) (collected s c (Node kind m span id ps)).entries → EachGets c.next (cond b (Node kind m span id ps ∷ []) [] ++ opened_parts (is_body_place kind) ps) (collected s c (Node kind m span id ps)).entries
  each-node place s c kind m span id ps h knows counts within false is below j x e = subst (λ (n : ℕ). EachGets n (opened_parts (is_body_place kind) ps) (collected s c (Node kind m span id ps)).entries) (next-open false kind s c is) below j x e
  each-node place s c kind m span id ps h knows counts within true is below zero x e =
      let first : c.next + 0 ≡ c.next = omega arith in
      ap (λ (n : ℕ). held_weight w n (collected s c (Node kind m span id ps)).entries) first
      ∙ own-tree w c.next place s c kind m span id ps h (opens-has kind s.is_body is) (opens-same kind s ∙ is) refl (holds-elsewhere w c.next c.next s.declares (omega arith) within.holders) (λ block. no-body s.declares s.is_body knows (block-open kind s.is_body block is))
      ∙ (let none = none-counted w c.next c counts (omega arith) in ap (λ (n : ℕ). n + node_weight w (Node kind m span id ps)) none)
      ∙ (let z : 0 + node_weight w (Node kind m span id ps) ≡ node_weight w (Node kind m span id ps) = omega arith in z)
      ∙ ap (node_weight w) (from-some _ _ e)
  each-node place s c kind m span id ps h knows counts within true is below (suc j) x e =
      let later : c.next + suc j ≡ (c.next + 1) + j = omega arith in
      ap (λ (n : ℕ). held_weight w n (collected s c (Node kind m span id ps)).entries) later
      ∙ subst (λ (n : ℕ). EachGets n (opened_parts (is_body_place kind) ps) (collected s c (Node kind m span id ps)).entries) (next-open true kind s c is) below j x e

  mutual
    pub each-tree : (place : Place) (s : Surroundings) (c : Collected) (t : Tree) → conforms place t ≡ true → fit_place s.declares place ≡ true → KnowsBody s.declares s.is_body → Counts c → Within c.next s → EachGets c.next (opened s.is_body t) (collected s c t).entries
    each-tree place s c (Node kind m span id ps) h fit knows counts within =
        let own : ScopeId = record { 0 = c.next } in
        let f = inside kind own ps s in
        let rules = and_parts (stands_in place kind) _ h in
        let parts = (and_parts (kind_rule kind ps) _ (and_parts (place_rule place kind ps) _ rules.1).1).1 in
        let below = each-parts f 0 (entered kind (record { 0 = m }) ps s c) _ (members_of kind) ps (declares_in kind own ps s.declares) (is_body_place kind)
        (λ j. let e : 0 + j ≡ j = omega arith in ap (declares_in kind own ps s.declares) (sym e)) (λ j. let e : 0 + j ≡ j = omega arith in ap (is_body_place kind) (sym e))
        parts (fit-parts kind own ps s.declares) (body-parts kind own ps s.declares) (entered-counts kind (record { 0 = m }) ps s c counts within) (λ j. inside-within kind c.next ps s j within) in
        each-node place s c kind m span id ps h knows counts within (opens_at kind s.is_body) refl below

    each-parts : (f : ℕ → Surroundings) (i : ℕ) (c : Collected) (computed : Bool) (fs : List Field) (ps : Parts) (ds : ℕ → Declares) (bs : ℕ → Bool) → ((j : ℕ) → ds j ≡ (f (i + j)).declares) → Bodies f i bs → parts_conform computed fs ps ≡ true → fit_all ds fs ≡ true → body_all ds bs fs ≡ true → Counts c → ((j : ℕ) → Within c.next (f j)) → EachGets c.next (opened_parts bs ps) (collected_parts f i c ps).entries
    each-parts f i c computed fs end ds bs same bodies h fit knows counts within = λ j x e. absurd (cc e)
    each-parts f i c computed [] (more p ps) ds bs same bodies h fit knows counts within = absurd (true≢false (sym h))
    each-parts f i c computed (g ∷ fs) (more p ps) ds bs same bodies h fit knows counts within =
        let both = and_parts (part_conforms computed g.sort p) (parts_conform computed fs ps) h in
        let fits = and_parts (fit_sort (ds 0) g.sort) (fit_all (λ j. ds (suc j)) fs) fit in
        let body = and_parts (body_sort (ds 0) (bs 0) g.sort) (body_all (λ j. ds (suc j)) (λ j. bs (suc j)) fs) knows in
        let zero_th : i + 0 ≡ i = omega arith in
        let here : ds 0 ≡ (f i).declares = same 0 ∙ ap (λ (k : ℕ). (f k).declares) zero_th in
        let is_body : bs 0 ≡ (f i).is_body = first-body f i bs bodies in
        let inner : Collected = collected_part (f i) c p in
        let rest_same : (j : ℕ) → ds (suc j) ≡ (f ((i + 1) + j)).declares = λ j. same (suc j) ∙ (let next : i + suc j ≡ (i + 1) + j = omega arith in ap (λ (k : ℕ). (f k).declares) next) in
        let more_next : c.next ≤ inner.next = more_in_part (f i) c p in
        joined c.next inner.next (opened_part (bs 0) p) (opened_parts (λ j. bs (suc j)) ps) inner.entries (collected_parts f (i + 1) inner ps).entries
        (count-part (f i) c p ∙ ap (λ b. c.next + length (opened_part b p)) (sym is_body))
        (subst (λ (b : Bool). EachGets c.next (opened_part b p) inner.entries) (sym is_body) (each-part (f i) c computed g.sort p both.0 (ap (λ d. fit_sort d g.sort) (sym here) ∙ fits.0) ((λ k. body_sort (sym here k) (sym is_body k) g.sort) ∙ body.0) counts (within i)))
        (λ n le l. stays n (held-parts w n f (i + 1) inner computed fs ps (λ j. ds (suc j)) rest_same both.1 fits.1 l) (quiet-parts w n (λ j. ds (suc j)) ps (λ j. subst (IsElsewhere n) (sym (rest_same j)) (holds-elsewhere w c.next n _ le (within ((i + 1) + j)).holders))))
        (each-parts f (i + 1) inner computed fs ps (λ j. ds (suc j)) (λ j. bs (suc j)) rest_same (rest-bodies f i bs bodies) both.1 fits.1 body.1 (part-counts (f i) c p counts (within i)) (λ j. within-le c.next inner.next (f j) more_next (within j)))

    each-part : (s : Surroundings) (c : Collected) (computed : Bool) (sort : Sort) (p : Part) → part_conforms computed sort p ≡ true → fit_sort s.declares sort ≡ true → body_sort s.declares s.is_body sort ≡ true → Counts c → Within c.next s → EachGets c.next (opened_part s.is_body p) (collected_part s c p).entries
    each-part s c computed (Sort.Child place) (child t) h fit knows counts within = each-tree place s c t h fit (knows-child s.declares s.is_body place knows) counts within
    each-part s c computed (Sort.Nullable place) (child t) h fit knows counts within = each-tree place s c t h fit (knows-nullable s.declares s.is_body place knows) counts within
    each-part s c computed (Sort.Key place) (child t) h fit knows counts within = each-tree (key_place computed place) s c t h (key-fits s.declares (key_place computed place) fit) (knows-key s.declares s.is_body fit) counts within
    each-part s c computed sort (child t) h fit knows counts within = absurd (true≢false (sym h))
    each-part s c computed (Sort.List place) (list ps) h fit knows counts within = each-items s c false place ps h fit counts within
    each-part s c computed (Sort.NonEmptyList place) (list ps) h fit knows counts within = each-items s c false place ps (and_parts _ _ h).1 fit counts within
    each-part s c computed (Sort.ListWithHoles place) (list ps) h fit knows counts within = each-items s c true place ps h fit counts within
    each-part s c computed sort (list ps) h fit knows counts within = absurd (true≢false (sym h))
    each-part s c computed sort absent h fit knows counts within = λ j x e. absurd (cc e)
    each-part s c computed sort (string b) h fit knows counts within = λ j x e. absurd (cc e)
    each-part s c computed sort no_string h fit knows counts within = λ j x e. absurd (cc e)
    each-part s c computed sort (boolean b) h fit knows counts within = λ j x e. absurd (cc e)
    each-part s c computed sort (literal v) h fit knows counts within = λ j x e. absurd (cc e)

    each-items : (s : Surroundings) (c : Collected) (holes : Bool) (place : Place) (ps : Parts) → items_conform holes place ps ≡ true → fit_list s.declares place ≡ true → Counts c → Within c.next s → EachGets c.next (opened_items s.is_body ps) (collected_items s c ps).entries
    each-items s c holes place end h fit counts within = λ j x e. absurd (cc e)
    each-items s c holes place (more p ps) h fit counts within =
        let both = and_parts (item_conforms holes place p) _ h in
        let others = (and_parts _ _ both.1).1 in
        let inner : Collected = collected_part s c p in
        joined c.next inner.next (opened_part s.is_body p) (opened_items s.is_body ps) inner.entries (collected_items s inner ps).entries
        (count-part s c p)
        (each-item s c holes place p both.0 (list-fits s.declares place fit) (knows-list s.declares s.is_body place fit) counts within)
        (λ n le l. stays n (held-items w n s inner holes place ps others fit l) (quiet-items n s.declares ps (holds-elsewhere w c.next n s.declares le within.holders)))
        (each-items s inner holes place ps others fit (part-counts s c p counts within) (within-le c.next inner.next s (more_in_part s c p) within))

    each-item : (s : Surroundings) (c : Collected) (holes : Bool) (place : Place) (p : Part) → item_conforms holes place p ≡ true → fit_place s.declares place ≡ true → KnowsBody s.declares s.is_body → Counts c → Within c.next s → EachGets c.next (opened_part s.is_body p) (collected_part s c p).entries
    each-item s c holes place (child t) h fit knows counts within = each-tree place s c t h fit knows counts within
    each-item s c holes place absent h fit knows counts within = λ j x e. absurd (cc e)
    each-item s c holes place (list ps) h fit knows counts within = absurd (true≢false (sym h))
    each-item s c holes place (string b) h fit knows counts within = λ j x e. absurd (cc e)
    each-item s c holes place no_string h fit knows counts within = λ j x e. absurd (cc e)
    each-item s c holes place (boolean b) h fit knows counts within = λ j x e. absurd (cc e)
    each-item s c holes place (literal v) h fit knows counts within = λ j x e. absurd (cc e)

-- ---- a program

counts-nothing : Counts nothing_yet
counts-nothing = record { ordered = tt; count = refl }

within-nowhere : Within 0 nowhere
within-nowhere = record { scope = λ s e. absurd (cc e); holders = tt; body = λ e. absurd (true≢false (sym e)) }

pub each-program : (w : Declarer → ℕ → List ℕ → ℕ) (t x : Tree) (j : ℕ) → conforms Place.Program t ≡ true → slice_get (opened false t) j ≡ Some x → held_weight w j (entries_of t) ≡ node_weight w x
each-program w t x j h e =
    let plain : j ≡ 0 + j = omega arith in
    ap (λ (n : ℕ). held_weight w n (entries_of t)) plain ∙ each-tree w Place.Program nowhere nothing_yet t h refl tt counts-nothing within-nowhere j x e

pub count-program : (t : Tree) → scopes_in (entries_of t) ≡ length (opened false t)
count-program t = omega (arith, (collected-counts nowhere nothing_yet t counts-nothing within-nowhere).count, count-tree nowhere nothing_yet t)
