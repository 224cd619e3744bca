-- Each reference of a tree has an entry, and means there what `resolve` gives.
use Rattle.std.proofs.Common.{◌≡◌, refl, sym, ap, subst, ◌∙◌, ℕ, suc, ◌+◌, List, [], ◌∷◌, ◌++◌, append_assoc, map, length, Bool, true, false, true≢false, cond, ◌&&◌, not, Option, Some, None, arith}
use Rattle.std.specs.Prelude.{option_to_list, slice_get, codes}
use Rattle.std.specs.Option.{option_and_then}
use Rattle.std.proofs.lemmas.Bool.{and_parts}
use Rattle.std.proofs.lemmas.List.{append-nil, map-append}
use Rattle.es_base.specs.Carried.{symbol_number}
use Rattle.es_base.specs.Conforms.{conforms, parts_conform, part_conforms, items_conform, item_conforms, place_rule, kind_rule, boolean_at, is_target_place, key_place}
use Rattle.es_base.specs.Table.{Field, members_of, stands_in}
use Rattle.es_base.specs.Tree.{Tree, Part, Parts, Node, end, more, child, absent, list, string, no_string, boolean, literal}
use Rattle.es_base.specs.declared.ids.ScopeId.{ScopeId}
use Rattle.es_base.specs.declared.kind.Kind.{Kind}
use Rattle.es_base.specs.declared.table.Place.{Place}
use Rattle.es_base.specs.declared.table.Sort.{Sort}
use Rattle.es_scopes.specs.Agreement.{carried, meant_symbol}
use Rattle.es_scopes.specs.Entries.{Collected, binding, entry_of, entered, collected, collected_parts, collected_part, collected_items, nothing_yet, entries_of}
use Rattle.es_scopes.specs.NodeReferences.{use_in}
use Rattle.es_scopes.specs.NodeScopes.{opens, has_scope, is_strict, scope_flags, is_body_place}
use Rattle.es_scopes.specs.Opened.{opens_at, opened, opened_parts, opened_part, opened_items}
use Rattle.es_scopes.specs.Surroundings.{scope_place, inside, nowhere}
use Rattle.es_scopes.specs.Tables.{declared, none_declared, meant}
use Rattle.es_scopes.specs.declared.declare.Declarations.{Declarations}
use Rattle.es_scopes.specs.declared.entry.Entry.{Entry}
use Rattle.es_scopes.specs.declared.entry.Entry.TheVariants as entry
use Rattle.es_scopes.specs.declared.flags.ScopeFlags.{ScopeFlags}
use Rattle.es_scopes.specs.declared.surroundings.Declares.{Declares}
use Rattle.es_scopes.specs.declared.surroundings.Declares.TheVariants as declares
use Rattle.es_scopes.specs.declared.surroundings.Surroundings.{Surroundings}
use Rattle.es_scopes.proofs.EachScope.{count-part, Bodies, first-body, rest-bodies, opens-same, one-node}
use Rattle.es_scopes.proofs.OrderLemmas.{Within, Counts, inside-within, within-le, entered-counts, part-counts, more_in_part}
use Rattle.es_scopes_law.proofs.Around.{Extends, extends-trans, parts-extends, items-extend, entered-here, get-left, counts-nothing, within-nowhere}
use Rattle.es_scopes_law.proofs.Resolved.{Means, means-part}
use Rattle.es_scopes_law.proofs.Rows.{scopes_among, among-append}
use Rattle.es_scopes_law.proofs.ScopesAgree.{IsBuilt}
use Rattle.es_scopes_law.proofs.Uses.{has_write, is_write_place, write-target, fits_use, fits_uses, use-place, uses-fit, is_list, no_list_bodies, bodies-fit, body-same}
use Rattle.es_steps.specs.Parts.{at, string_of}
use Rattle.es_steps.specs.References as steps
use Rattle.es_steps.specs.References.{Reference, referent, reference, is_reference, is_target, references, references_in, part_references, item_references, resolve}
use Rattle.es_steps.specs.Scopes.{Declaration, names_at, is_body_part}

-- a reference: its number, its spelling, whether it writes, and the number of the symbol that it means
abbrev pub Told : Type 0
Told = ℕ × List ℕ × Bool × Option ℕ

-- by the entries
abbrev pub told : Declarations → List Entry → List Told
told d [] = []
told d (entry.Reference node scope in_parameters name flags ∷ es) = (node.0, name, has_write flags.0, symbol_number (meant d scope in_parameters name)) ∷ told d es
told d (e ∷ es) = told d es

-- by the definitions of `es_steps`
abbrev pub resolved : Tree → List Reference → List Told
resolved t rs = map (λ (r : Reference). (r.number, r.spelling, r.writes, meant_symbol t r.to)) rs

told-append : (d : Declarations) (es fs : List Entry) → told d (es ++ fs) ≡ told d es ++ told d fs
told-append d [] fs = refl
told-append d (entry.Scope node parent in_parameters flags ∷ es) fs = told-append d es fs
told-append d (entry.Body node ∷ es) fs = told-append d es fs
told-append d (entry.Binding node holder who name flags head ∷ es) fs = told-append d es fs
told-append d (entry.Reference node scope in_parameters name flags ∷ es) fs = ap (λ l. (node.0, name, has_write flags.0, symbol_number (meant d scope in_parameters name)) ∷ l) (told-append d es fs)

resolved-append : (t : Tree) (rs qs : List Reference) → resolved t (rs ++ qs) ≡ resolved t rs ++ resolved t qs
resolved-append t rs qs = map-append (λ (r : Reference). (r.number, r.spelling, r.writes, meant_symbol t r.to)) rs qs

meant-referent : (t : Tree) (x : List ℕ) (o : Option Declaration) → meant_symbol t (referent x o) ≡ option_and_then (λ (d : Declaration). carried t d.number) o
meant-referent t x None = refl
meant-referent t x (Some d) = refl

-- ---- nodes with a scope, from the n-th on

get-right : {X : Type 0} (xs ys : List X) (j : ℕ) → slice_get (xs ++ ys) (length xs + j) ≡ slice_get ys j
get-right [] ys j = let same : 0 + j ≡ j = omega arith in ap (slice_get ys) same
get-right (x ∷ xs) ys j = (let same : suc (length xs) + j ≡ suc (length xs + j) = omega arith in ap (slice_get (x ∷ (xs ++ ys))) same) ∙ get-right xs ys j

abbrev Reaches : Tree → ℕ → List Tree → Type 0
Reaches t n xs = (j : ℕ) (x : Tree) → slice_get xs j ≡ Some x → slice_get (opened false t) (n + j) ≡ Some x

reaches-left : (t : Tree) (n : ℕ) (xs ys : List Tree) → Reaches t n (xs ++ ys) → Reaches t n xs
reaches-left t n xs ys h j x e = h j x (get-left xs ys j x e)

reaches-right : (t : Tree) (n k : ℕ) (xs ys : List Tree) → k ≡ n + length xs → Reaches t n (xs ++ ys) → Reaches t k ys
reaches-right t n k xs ys is h j x e = (let same : k + j ≡ n + (length xs + j) = omega (arith, is) in ap (slice_get (opened false t)) same) ∙ h (length xs + j) x (get-right xs ys j ∙ e)

-- ---- a leaf

leaf : (N : ℕ → List Declaration) (bodies : ℕ → Bool) (computed : Bool) (ps : Parts) → parts_conform computed (members_of Kind.IdentifierReference) ps ≡ true → references_in N bodies (members_of Kind.IdentifierReference) ps ≡ []
leaf N bodies computed end h = refl
leaf N bodies computed (more (child t) ps) h = absurd (true≢false (sym h))
leaf N bodies computed (more (list qs) ps) h = absurd (true≢false (sym h))
leaf N bodies computed (more absent end) h = refl
leaf N bodies computed (more (string s) end) h = refl
leaf N bodies computed (more no_string end) h = refl
leaf N bodies computed (more (boolean b) end) h = refl
leaf N bodies computed (more (literal v) end) h = refl
leaf N bodies computed (more p (more q ps)) h = absurd (true≢false (sym (and_parts (part_conforms computed Sort.Name p) false h).1))

at_leaf : (kind : Kind) (ps : Parts) (N : ℕ → List Declaration) (computed : Bool) → parts_conform computed (members_of kind) ps ≡ true → kind ≡ Kind.IdentifierReference → references_in N (is_body_part kind) (members_of kind) ps ≡ []
at_leaf kind ps N computed h is = subst (λ (k : Kind). parts_conform computed (members_of k) ps ≡ true → references_in N (is_body_part k) (members_of k) ps ≡ []) (sym is) (leaf N (is_body_part Kind.IdentifierReference) computed ps) h

or-left : (a b : Bool) → (not a && not b) ≡ true → b ≡ false
or-left true b h = absurd (true≢false (sym h))
or-left false true h = absurd (true≢false (sym h))
or-left false false h = refl

-- the place of a key is none that is assigned to
key-write : (computed : Bool) (place : Place) → is_write_place place ≡ false → is_write_place (key_place computed place) ≡ false
key-write true place h = refl
key-write false place h = h

write-none : (place : Place) → is_write_place place ≡ false → is_target_place place ≡ false
write-none Place.TargetMember h = refl
write-none place h = h

not-true : (b : Bool) → not b ≡ true → b ≡ false
not-true true h = sym h
not-true false h = refl

module _ (t : Tree) (h : IsBuilt t) where
  abbrev D : Declarations
  D = declared none_declared (entries_of t)

  own-told : (kind : Kind) (m : ℕ) (ps : Parts) (s : Surroundings) (names : List Declaration) (place : Place) (others : List Reference) → stands_in place kind ≡ true → has_write s.usage.0 ≡ is_write_place place → Means t h names s.scope s.in_parameters → (kind ≡ Kind.IdentifierReference → others ≡ [])
      → told D (option_to_list (entry_of kind (record { 0 = m }) ps s)) ++ resolved t others ≡ resolved t (cond (is_reference kind) (reference names (is_target_place place) m (string_of (at 0 ps))) others)
  own-told Kind.IdentifierReference m ps s names place others stands used means none =
      ap (λ (l : List Told). (m, string_of (at 0 ps), has_write s.usage.0, symbol_number (meant (declared none_declared (entries_of t)) s.scope s.in_parameters (string_of (at 0 ps)))) ∷ l) (ap (resolved t) (none refl))
      ∙ (λ i. (m, string_of (at 0 ps), (used ∙ write-target place stands) i, (means (string_of (at 0 ps)) ∙ sym (meant-referent t (string_of (at 0 ps)) (steps.declared (string_of (at 0 ps)) names))) i) ∷ [])
  own-told Kind.BindingIdentifier m ps s names place others stands used means none = ap (λ (l : List Told). l ++ resolved t others) (of_binding s.declares)
    where
      of_binding : (d : Declares) → told (declared none_declared (entries_of t)) (binding d (record { 0 = m }) (string_of (at 0 ps)) s ∷ []) ≡ []
      of_binding declares.Nothing = refl
      of_binding (declares.Statement lexical var) = refl
      of_binding (declares.Body q) = refl
      of_binding (declares.Pattern holder who) = refl
  own-told kind m ps s names place others stands used means none = ap (λ (l : List Told). l ++ resolved t others) (of_scope (has_scope kind) (opens kind (scope_place s)) (scope_flags kind s.given.0 (is_strict kind ps (scope_place s))))
    where
      of_scope : (a b : Bool) (f : ScopeFlags) → told (declared none_declared (entries_of t)) (option_to_list (cond a (Some (cond b (entry.Scope (record { 0 = m }) s.scope s.in_parameters f) (entry.Body (record { 0 = m })))) None)) ≡ []
      of_scope true true f = refl
      of_scope true false f = refl
      of_scope false b f = refl

  joined : (c xs ys : List Told) → (c ++ xs) ++ ys ≡ c ++ (xs ++ ys)
  joined c xs ys = append_assoc c xs ys

  -- the scope of a node is its
  node-scope : (kind : Kind) (m : ℕ) (ps : Parts) (s : Surroundings) (c : Collected) → Counts c → Extends (entered kind (record { 0 = m }) ps s c).entries (entries_of t) → opens_at kind s.is_body ≡ true → slice_get (scopes_among (entries_of t)) c.next ≡ Some (record { node = m; parent = s.scope; in_parameters = s.in_parameters })
  node-scope kind m ps s c counts ext is =
      ap (λ (es : List Entry). slice_get (scopes_among es) c.next) ext.is
      ∙ ap (λ l. slice_get l c.next) (among-append (entered kind (record { 0 = m }) ps s c).entries ext.added)
      ∙ get-left (scopes_among (entered kind (record { 0 = m }) ps s c).entries) (scopes_among ext.added) c.next _ (entered-here kind m ps s c counts (opens-same kind s ∙ is))

  node-opens : (kind : Kind) (m : ℕ) (span : Option (ℕ × ℕ)) (id : Option ℕ) (ps : Parts) (b : Bool) (n : ℕ) → Reaches t n (opened b (Node kind m span id ps)) → opens_at kind b ≡ true → slice_get (opened false t) n ≡ Some (Node kind m span id ps)
  node-opens kind m span id ps b n reach is =
      (let same : n ≡ n + 0 = omega arith in ap (slice_get (opened false t)) same)
      ∙ reach 0 (Node kind m span id ps) (ap (λ c. slice_get (cond c (Node kind m span id ps ∷ []) [] ++ opened_parts (is_body_place kind) ps) 0) is)

  next-is : (kind : Kind) (m : ℕ) (span : Option (ℕ × ℕ)) (id : Option ℕ) (ps : Parts) (s : Surroundings) (n : ℕ) → cond (opens kind (scope_place s)) (n + 1) n ≡ n + length (cond (opens_at kind s.is_body) (Node kind m span id ps ∷ []) [])
  next-is kind m span id ps s n = ap (λ b. cond b (n + 1) n) (opens-same kind s) ∙ one-node (opens_at kind s.is_body) (Node kind m span id ps) n

  mutual
    refs-tree : (place : Place) (s : Surroundings) (c : Collected) (names : List Declaration) (u : Tree) → conforms place u ≡ true → Means t h names s.scope s.in_parameters → has_write s.usage.0 ≡ is_write_place place → Counts c → Within c.next s → Extends (collected s c u).entries (entries_of t) → Reaches t c.next (opened s.is_body u)
        → told D (collected s c u).entries ≡ told D c.entries ++ resolved t (references names (is_target_place place) s.is_body u)
    refs-tree place s c names (Node kind m span id ps) conforming means used counts within ext reach =
        let own : ScopeId = record { 0 = c.next } in
        let f = inside kind own ps s in
        let inner = entered kind (record { 0 = m }) ps s c in
        let N = λ (i : ℕ). names_at s.is_body kind m ps i ++ names in
        let others = references_in N (is_body_part kind) (members_of kind) ps in
        let rules = and_parts (stands_in place kind) _ conforming in
        let fits = (and_parts (kind_rule kind ps) _ (and_parts (place_rule place kind ps) _ rules.1).1).1 in
        let computed = boolean_at (codes "computed") (members_of kind) ps in
        let here = node-scope kind m ps s c counts (extends-trans _ _ _ (parts-extends f 0 inner ps) ext) in
        let opens_here = node-opens kind m span id ps s.is_body c.next reach in
        refs-parts f 0 inner computed (members_of kind) ps N (is_body_part kind) (use_in kind ps s.usage.0)
        (λ j. let same : j ≡ 0 + j = omega arith in subst (λ (k : ℕ). Means t h (N j) (f k).scope (f k).in_parameters) same (means-part t h kind m span id ps s c.next j names here opens_here means))
        (λ j. body-same kind j ∙ (let same : j ≡ 0 + j = omega arith in ap (is_body_place kind) same))
        (λ j. let same : j ≡ 0 + j = omega arith in ap (use_in kind ps s.usage.0) same)
        fits (uses-fit kind ps s.usage.0 place rules.0 used)
        (ap (λ (b : ℕ → Bool). no_list_bodies b (members_of kind)) (λ i j. body-same kind j i) ∙ bodies-fit kind)
        (entered-counts kind (record { 0 = m }) ps s c counts within) (λ j. inside-within kind c.next ps s j within) ext
        (subst (λ (b : ℕ → Bool). Reaches t inner.next (opened_parts b ps)) (λ i j. sym (body-same kind j) i) (reaches-right t c.next inner.next (cond (opens_at kind s.is_body) (Node kind m span id ps ∷ []) []) (opened_parts (is_body_place kind) ps) (next-is kind m span id ps s c.next) reach))
        ∙ ap (λ (l : List Told). l ++ resolved t others) (told-append D c.entries (option_to_list (entry_of kind (record { 0 = m }) ps s)))
        ∙ joined (told D c.entries) (told D (option_to_list (entry_of kind (record { 0 = m }) ps s))) (resolved t others)
        ∙ ap (λ (l : List Told). told D c.entries ++ l) (own-told kind m ps s names place others rules.0 used means (λ is. at_leaf kind ps N computed fits is))

    refs-parts : (f : ℕ → Surroundings) (i : ℕ) (c : Collected) (computed : Bool) (fs : List Field) (ps : Parts) (N : ℕ → List Declaration) (bs : ℕ → Bool) (us : ℕ → ℕ) → ((j : ℕ) → Means t h (N j) (f (i + j)).scope (f (i + j)).in_parameters) → Bodies f i bs → ((j : ℕ) → us j ≡ (f (i + j)).usage.0)
        → parts_conform computed fs ps ≡ true → fits_uses us fs ≡ true → no_list_bodies bs fs ≡ true → Counts c → ((j : ℕ) → Within c.next (f j)) → Extends (collected_parts f i c ps).entries (entries_of t) → Reaches t c.next (opened_parts bs ps)
        → told D (collected_parts f i c ps).entries ≡ told D c.entries ++ resolved t (references_in N bs fs ps)
    refs-parts f i c computed fs end N bs us means bodies uses conforming fit lists counts within ext reach = sym (append-nil (told D c.entries))
    refs-parts f i c computed [] (more p ps) N bs us means bodies uses conforming fit lists counts within ext reach = absurd (true≢false (sym conforming))
    refs-parts f i c computed (g ∷ fs) (more p ps) N bs us means bodies uses conforming fit lists counts within ext reach =
        let inner = collected_part (f i) c p in
        let both = and_parts (part_conforms computed g.sort p) (parts_conform computed fs ps) conforming in
        let fits = and_parts (fits_use g.sort (has_write (us 0))) (fits_uses (λ j. us (suc j)) fs) fit in
        let no_lists = and_parts (not (is_list g.sort && bs 0)) (no_list_bodies (λ j. bs (suc j)) fs) lists in
        let zero_th : i + 0 ≡ i = omega arith in
        let is_body : bs 0 ≡ (f i).is_body = first-body f i bs bodies in
        let used : us 0 ≡ (f i).usage.0 = uses 0 ∙ ap (λ (k : ℕ). (f k).usage.0) zero_th in
        let means_here : Means t h (N 0) (f i).scope (f i).in_parameters = subst (λ (k : ℕ). Means t h (N 0) (f k).scope (f k).in_parameters) zero_th (means 0) in
        let next : (j : ℕ) → i + suc j ≡ (i + 1) + j = λ j. omega arith in
        refs-parts f (i + 1) inner computed fs ps (λ j. N (suc j)) (λ j. bs (suc j)) (λ j. us (suc j))
        (λ j. subst (λ (k : ℕ). Means t h (N (suc j)) (f k).scope (f k).in_parameters) (next j) (means (suc j)))
        (rest-bodies f i bs bodies)
        (λ j. uses (suc j) ∙ ap (λ (k : ℕ). (f k).usage.0) (next j))
        both.1 fits.1 no_lists.1 (part-counts (f i) c p counts (within i)) (λ j. within-le c.next inner.next (f j) (more_in_part (f i) c p) (within j)) ext
        (reaches-right t c.next inner.next (opened_part (bs 0) p) (opened_parts (λ j. bs (suc j)) ps) (count-part (f i) c p ∙ ap (λ b. c.next + length (opened_part b p)) (sym is_body)) reach)
        ∙ ap (λ (l : List Told). l ++ resolved t (references_in (λ j. N (suc j)) (λ j. bs (suc j)) fs ps))
        (refs-part (f i) c computed g.sort (N 0) p both.0 means_here (ap (λ (u : ℕ). fits_use g.sort (has_write u)) (sym used) ∙ fits.0) (ap (λ b. not (is_list g.sort && b)) (sym is_body) ∙ no_lists.0) counts (within i) (extends-trans _ _ _ (parts-extends f (i + 1) inner ps) ext)
        (subst (λ (b : Bool). Reaches t c.next (opened_part b p)) is_body (reaches-left t c.next (opened_part (bs 0) p) (opened_parts (λ j. bs (suc j)) ps) reach))
        ∙ ap (λ (b : Bool). told D c.entries ++ resolved t (part_references (N 0) (is_target g.sort) b p)) (sym is_body))
        ∙ joined (told D c.entries) (resolved t (part_references (N 0) (is_target g.sort) (bs 0) p)) (resolved t (references_in (λ j. N (suc j)) (λ j. bs (suc j)) fs ps))
        ∙ ap (λ (l : List Told). told D c.entries ++ l) (sym (resolved-append t (part_references (N 0) (is_target g.sort) (bs 0) p) (references_in (λ j. N (suc j)) (λ j. bs (suc j)) fs ps)))

    refs-part : (s : Surroundings) (c : Collected) (computed : Bool) (sort : Sort) (names : List Declaration) (p : Part) → part_conforms computed sort p ≡ true → Means t h names s.scope s.in_parameters → fits_use sort (has_write s.usage.0) ≡ true → not (is_list sort && s.is_body) ≡ true → Counts c → Within c.next s → Extends (collected_part s c p).entries (entries_of t) → Reaches t c.next (opened_part s.is_body p)
        → told D (collected_part s c p).entries ≡ told D c.entries ++ resolved t (part_references names (is_target sort) s.is_body p)
    refs-part s c computed (Sort.Child place) names (child u) conforming means fit lists counts within ext reach = refs-tree place s c names u conforming means (use-place place (has_write s.usage.0) fit) counts within ext reach
    refs-part s c computed (Sort.Nullable place) names (child u) conforming means fit lists counts within ext reach = refs-tree place s c names u conforming means (use-place place (has_write s.usage.0) fit) counts within ext reach
    refs-part s c computed (Sort.Key place) names (child u) conforming means fit lists counts within ext reach =
        let both = and_parts (not (has_write s.usage.0)) (not (is_write_place place)) fit in
        let none = key-write computed place (not-true (is_write_place place) both.1) in
        refs-tree (key_place computed place) s c names u conforming means (not-true (has_write s.usage.0) both.0 ∙ sym none) counts within ext reach
        ∙ ap (λ (b : Bool). told D c.entries ++ resolved t (references names b s.is_body u)) (write-none (key_place computed place) none)
    refs-part s c computed sort names (child u) conforming means fit lists counts within ext reach = absurd (true≢false (sym conforming))
    refs-part s c computed (Sort.List place) names (list ps) conforming means fit lists counts within ext reach = refs-items s c false place names ps conforming means (use-place place (has_write s.usage.0) fit) (not-true s.is_body lists) counts within ext reach
    refs-part s c computed (Sort.NonEmptyList place) names (list ps) conforming means fit lists counts within ext reach = refs-items s c false place names ps (and_parts _ _ conforming).1 means (use-place place (has_write s.usage.0) fit) (not-true s.is_body lists) counts within ext reach
    refs-part s c computed (Sort.ListWithHoles place) names (list ps) conforming means fit lists counts within ext reach = refs-items s c true place names ps conforming means (use-place place (has_write s.usage.0) fit) (not-true s.is_body lists) counts within ext reach
    refs-part s c computed sort names (list ps) conforming means fit lists counts within ext reach = absurd (true≢false (sym conforming))
    refs-part s c computed sort names absent conforming means fit lists counts within ext reach = sym (append-nil (told D c.entries))
    refs-part s c computed sort names (string b) conforming means fit lists counts within ext reach = sym (append-nil (told D c.entries))
    refs-part s c computed sort names no_string conforming means fit lists counts within ext reach = sym (append-nil (told D c.entries))
    refs-part s c computed sort names (boolean b) conforming means fit lists counts within ext reach = sym (append-nil (told D c.entries))
    refs-part s c computed sort names (literal v) conforming means fit lists counts within ext reach = sym (append-nil (told D c.entries))

    refs-items : (s : Surroundings) (c : Collected) (holes : Bool) (place : Place) (names : List Declaration) (ps : Parts) → items_conform holes place ps ≡ true → Means t h names s.scope s.in_parameters → has_write s.usage.0 ≡ is_write_place place → s.is_body ≡ false → Counts c → Within c.next s → Extends (collected_items s c ps).entries (entries_of t) → Reaches t c.next (opened_items s.is_body ps)
        → told D (collected_items s c ps).entries ≡ told D c.entries ++ resolved t (item_references names (is_target_place place) ps)
    refs-items s c holes place names end conforming means used no_body counts within ext reach = sym (append-nil (told D c.entries))
    refs-items s c holes place names (more p ps) conforming means used no_body counts within ext reach =
        let inner = collected_part s c p in
        let both = and_parts (item_conforms holes place p) _ conforming in
        let others = (and_parts _ _ both.1).1 in
        refs-items s inner holes place names ps others means used no_body (part-counts s c p counts within) (within-le c.next inner.next s (more_in_part s c p) within) ext
        (reaches-right t c.next inner.next (opened_part s.is_body p) (opened_items s.is_body ps) (count-part s c p) reach)
        ∙ ap (λ (l : List Told). l ++ resolved t (item_references names (is_target_place place) ps))
        (refs-item s c holes place names p both.0 means used counts within (extends-trans _ _ _ (items-extend s inner ps) ext) (reaches-left t c.next (opened_part s.is_body p) (opened_items s.is_body ps) reach)
        ∙ ap (λ (b : Bool). told D c.entries ++ resolved t (part_references names (is_target_place place) b p)) no_body)
        ∙ joined (told D c.entries) (resolved t (part_references names (is_target_place place) false p)) (resolved t (item_references names (is_target_place place) ps))
        ∙ ap (λ (l : List Told). told D c.entries ++ l) (sym (resolved-append t (part_references names (is_target_place place) false p) (item_references names (is_target_place place) ps)))

    refs-item : (s : Surroundings) (c : Collected) (holes : Bool) (place : Place) (names : List Declaration) (p : Part) → item_conforms holes place p ≡ true → Means t h names s.scope s.in_parameters → has_write s.usage.0 ≡ is_write_place place → Counts c → Within c.next s → Extends (collected_part s c p).entries (entries_of t) → Reaches t c.next (opened_part s.is_body p)
        → told D (collected_part s c p).entries ≡ told D c.entries ++ resolved t (part_references names (is_target_place place) s.is_body p)
    refs-item s c holes place names (child u) conforming means used counts within ext reach = refs-tree place s c names u conforming means used counts within ext reach
    refs-item s c holes place names absent conforming means used counts within ext reach = sym (append-nil (told D c.entries))
    refs-item s c holes place names (list ps) conforming means used counts within ext reach = absurd (true≢false (sym conforming))
    refs-item s c holes place names (string b) conforming means used counts within ext reach = sym (append-nil (told D c.entries))
    refs-item s c holes place names no_string conforming means used counts within ext reach = sym (append-nil (told D c.entries))
    refs-item s c holes place names (boolean b) conforming means used counts within ext reach = sym (append-nil (told D c.entries))
    refs-item s c holes place names (literal v) conforming means used counts within ext reach = sym (append-nil (told D c.entries))

  -- all references of a program
  pub references-told : told D (entries_of t) ≡ resolved t (resolve t)
  references-told = refs-tree Place.Program nowhere nothing_yet [] t h.conforming (λ x. refl) refl counts-nothing within-nowhere (record { added = []; is = sym (append-nil (entries_of t)) }) (λ j x e. (let same : 0 + j ≡ j = omega arith in ap (slice_get (opened false t)) same) ∙ e)
