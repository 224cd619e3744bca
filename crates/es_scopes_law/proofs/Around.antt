-- The scopes among the entries of a tree are those of `scopes_of`: their nodes, and the nodes around them.
use Rattle.std.proofs.Common.{◌≡◌, refl, sym, ap, subst, ◌∙◌, ℕ, zero, suc, ◌+◌, List, [], ◌∷◌, ◌++◌, append_assoc, map, length, Bool, true, false, true≢false, cond, not, ◌&&◌, Option, Some, None, arith}
use Rattle.std.specs.Prelude.{option_map, option_to_list, slice_get}
use Rattle.std.specs.Option.{option_and_then}
use Rattle.std.proofs.lemmas.Bool.{and_parts}
use Rattle.std.proofs.lemmas.List.{map-append, append-nil}
use Rattle.es_base.specs.Carried.{scope_number}
use Rattle.es_base.specs.Preorder.{number_of}
use Rattle.es_base.specs.Tree.{Tree, Part, Parts, Node, end, more, child, absent, list, string, no_string, boolean, literal}
use Rattle.es_base.specs.declared.ids.ScopeId.{ScopeId}
use Rattle.es_base.specs.declared.kind.Kind.{Kind}
use Rattle.es_scopes.specs.Entries.{Collected, binding, entry_of, entered, collected, collected_parts, collected_part, collected_items, nothing_yet, entries_of}
use Rattle.es_scopes.specs.NodeScopes as scopes
use Rattle.es_scopes.specs.NodeScopes.{NodeScope, own_scope, node_scopes, scopes_of_parts, scopes_of_part, scopes_of_items, scopes_of, outermost, opens, has_scope, is_strict, scope_flags, is_body_place, is_outside}
use Rattle.es_scopes.specs.Opened.{opens_at, opened, opened_parts, opened_part, opened_items}
use Rattle.es_scopes.specs.Surroundings.{scope_place, inside, nowhere}
use Rattle.es_scopes.specs.declared.entry.Entry.{Entry}
use Rattle.es_scopes.specs.declared.entry.Entry.TheVariants as entry
use Rattle.es_scopes.specs.declared.flags.ScopeFlags.{ScopeFlags}
use Rattle.es_scopes.specs.declared.surroundings.Declares.{Declares}
use Rattle.es_scopes.specs.declared.surroundings.Declares.TheVariants as declares
use Rattle.es_scopes.specs.declared.surroundings.Surroundings.{Surroundings}
use Rattle.es_scopes.proofs.OrderLemmas.{Within, Counts, inside-within, within-le, entered-counts, part-counts, more_in_part}
use Rattle.es_scopes_law.proofs.Rows.{ScopeOf, scopes_among, among-append, among-count}
use Rattle.es_steps.specs.Parts.{at, string_of}

-- ---- entries are added behind others

pub record Extends (before after : List Entry) : Type 0 where
  pub added : List Entry
  pub is : after ≡ before ++ added

extends-refl : (es : List Entry) → Extends es es
extends-refl es = record { added = []; is = sym (append-nil es) }

pub extends-trans : (es fs gs : List Entry) → Extends es fs → Extends fs gs → Extends es gs
extends-trans es fs gs a b = record { added = a.added ++ b.added; is = b.is ∙ ap (λ l. l ++ b.added) a.is ∙ append_assoc es a.added b.added }

pub entered-extends : (kind : Kind) (m : ℕ) (ps : Parts) (s : Surroundings) (c : Collected) → Extends c.entries (entered kind (record { 0 = m }) ps s c).entries
entered-extends kind m ps s c = record { added = option_to_list (entry_of kind (record { 0 = m }) ps s); is = refl }

mutual
  pub tree-extends : (s : Surroundings) (c : Collected) (t : Tree) → Extends c.entries (collected s c t).entries
  tree-extends s c (Node kind m span id ps) = extends-trans _ _ _ (entered-extends kind m ps s c) (parts-extends (inside kind (record { 0 = c.next }) ps s) 0 (entered kind (record { 0 = m }) ps s c) ps)

  pub parts-extends : (f : ℕ → Surroundings) (i : ℕ) (c : Collected) (ps : Parts) → Extends c.entries (collected_parts f i c ps).entries
  parts-extends f i c end = extends-refl c.entries
  parts-extends f i c (more p ps) = extends-trans _ _ _ (part-extends (f i) c p) (parts-extends f (i + 1) (collected_part (f i) c p) ps)

  pub part-extends : (s : Surroundings) (c : Collected) (p : Part) → Extends c.entries (collected_part s c p).entries
  part-extends s c (child t) = tree-extends s c t
  part-extends s c absent = extends-refl c.entries
  part-extends s c (list ps) = items-extend s c ps
  part-extends s c (string b) = extends-refl c.entries
  part-extends s c no_string = extends-refl c.entries
  part-extends s c (boolean b) = extends-refl c.entries
  part-extends s c (literal v) = extends-refl c.entries

  pub items-extend : (s : Surroundings) (c : Collected) (ps : Parts) → Extends c.entries (collected_items s c ps).entries
  items-extend s c end = extends-refl c.entries
  items-extend s c (more p ps) = extends-trans _ _ _ (part-extends s c p) (items-extend s (collected_part s c p) ps)

-- ---- scopes are known by their nodes

pub get-left : {X : Type 0} (xs ys : List X) (i : ℕ) (x : X) → slice_get xs i ≡ Some x → slice_get (xs ++ ys) i ≡ Some x
get-left [] ys i x h = absurd (cc h)
get-left (z ∷ xs) ys zero x h = h
get-left (z ∷ xs) ys (suc i) x h = get-left xs ys i x h

pub get-last : {X : Type 0} (xs : List X) (x : X) → slice_get (xs ++ x ∷ []) (length xs) ≡ Some x
get-last [] x = refl
get-last (y ∷ xs) x = get-last xs x

-- what the node of each scope is, as far as these entries tell
abbrev pub Tells : (ℕ → Option ℕ) → List Entry → Type 0
Tells N es = (j : ℕ) (x : ScopeOf) → slice_get (scopes_among es) j ≡ Some x → N j ≡ Some x.node

pub tells-before : (N : ℕ → Option ℕ) (es fs : List Entry) → Extends es fs → Tells N fs → Tells N es
tells-before N es fs e h j x at = h j x (ap (λ l. slice_get l j) (ap scopes_among e.is ∙ among-append es e.added) ∙ get-left (scopes_among es) (scopes_among e.added) j x at)

-- a node that has a scope has the next one
own-entry : (kind : Kind) (m : ℕ) (ps : Parts) (s : Surroundings) → opens kind (scope_place s) ≡ true → scopes_among (option_to_list (entry_of kind (record { 0 = m }) ps s)) ≡ record { node = m; parent = s.scope; in_parameters = s.in_parameters } ∷ []
own-entry Kind.IdentifierReference m ps s is = absurd (true≢false (sym is))
own-entry Kind.BindingIdentifier m ps s is = absurd (true≢false (sym is))
own-entry Kind.BlockStatement m ps s is = ap (λ b. scopes_among (cond b (entry.Scope (record { 0 = m }) s.scope s.in_parameters (scope_flags Kind.BlockStatement s.given.0 (is_strict Kind.BlockStatement ps (scope_place s)))) (entry.Body (record { 0 = m })) ∷ [])) is
own-entry kind m ps s is = ap (λ b. scopes_among (option_to_list (cond b (Some (cond b (entry.Scope (record { 0 = m }) s.scope s.in_parameters (scope_flags kind s.given.0 (is_strict kind ps (scope_place s)))) (entry.Body (record { 0 = m })))) None))) is

pub entered-here : (kind : Kind) (m : ℕ) (ps : Parts) (s : Surroundings) (c : Collected) → Counts c → opens kind (scope_place s) ≡ true → slice_get (scopes_among (entered kind (record { 0 = m }) ps s c).entries) c.next ≡ Some (record { node = m; parent = s.scope; in_parameters = s.in_parameters })
entered-here kind m ps s c counts is =
    let x : ScopeOf = record { node = m; parent = s.scope; in_parameters = s.in_parameters } in
    let here : length (scopes_among c.entries) ≡ c.next = omega (arith, among-count c.entries, counts.count) in
    ap (λ l. slice_get l c.next) (among-append c.entries (option_to_list (entry_of kind (record { 0 = m }) ps s)) ∙ ap (λ l. scopes_among c.entries ++ l) (own-entry kind m ps s is))
    ∙ ap (slice_get (scopes_among c.entries ++ x ∷ [])) (sym here)
    ∙ get-last (scopes_among c.entries) x

-- a node, and the node around
abbrev pub shown : (ℕ → Option ℕ) → List ScopeOf → List (ℕ × Option ℕ)
shown N xs = map (λ (x : ScopeOf). (x.node, option_and_then N (scope_number x.parent))) xs

abbrev pub wanted : List NodeScope → List (ℕ × Option ℕ)
wanted xs = map (λ (x : NodeScope). (x.node, x.around)) xs

module _ (N : ℕ → Option ℕ) where
  pub record Alike (p : scopes.Place) (s : Surroundings) : Type 0 where
    pub is_body : p.is_body ≡ s.is_body
    pub around : p.around ≡ option_and_then N (scope_number s.scope)

  abbrev among : List Entry → List (ℕ × Option ℕ)
  among es = shown N (scopes_among es)

  among-joined : (es fs : List Entry) → among (es ++ fs) ≡ among es ++ among fs
  among-joined es fs = ap (shown N) (among-append es fs) ∙ map-append (λ (x : ScopeOf). (x.node, option_and_then N (scope_number x.parent))) (scopes_among es) (scopes_among fs)

  -- of the entry of a node
  own-where : (m : ℕ) (p : scopes.Place) (s : Surroundings) (f : ScopeFlags) (a b : Bool) → (a ≡ false → b ≡ false) → Alike p s → among (option_to_list (cond a (Some (cond b (entry.Scope (record { 0 = m }) s.scope s.in_parameters f) (entry.Body (record { 0 = m })))) None)) ≡ wanted (cond b (record { node = m; around = p.around; flags = f } ∷ []) [])
  own-where m p s f true true k h = ap (λ o. (m, o) ∷ []) (sym h.around)
  own-where m p s f true false k h = refl
  own-where m p s f false true k h = absurd (cc (k refl))
  own-where m p s f false false k h = refl

  same-flags : (b : Bool) (m : ℕ) (p : scopes.Place) (f g : ScopeFlags) → wanted (cond b (record { node = m; around = p.around; flags = f } ∷ []) []) ≡ wanted (cond b (record { node = m; around = p.around; flags = g } ∷ []) [])
  same-flags true m p f g = refl
  same-flags false m p f g = refl

  own-scope : (kind : Kind) (m : ℕ) (ps : Parts) (p : scopes.Place) (s : Surroundings) → Alike p s → among (option_to_list (entry_of kind (record { 0 = m }) ps s)) ≡ wanted (own_scope kind m ps p)
  own-scope Kind.IdentifierReference m ps p s h = refl
  own-scope Kind.BindingIdentifier m ps p s h = of_binding s.declares
    where
      of_binding : (d : Declares) → shown N (scopes_among (binding d (record { 0 = m }) (string_of (at 0 ps)) s ∷ [])) ≡ []
      of_binding declares.Nothing = refl
      of_binding (declares.Statement lexical var) = refl
      of_binding (declares.Body q) = refl
      of_binding (declares.Pattern holder who) = refl
  own-scope Kind.BlockStatement m ps p s h =
      own-where m p s (scope_flags Kind.BlockStatement s.given.0 (is_strict Kind.BlockStatement ps (scope_place s))) true (not s.is_body) (λ e. cc) h
      ∙ ap (λ b. wanted (cond (not b) (record { node = m; around = p.around; flags = scope_flags Kind.BlockStatement s.given.0 (is_strict Kind.BlockStatement ps (scope_place s)) } ∷ []) [])) (sym h.is_body)
      ∙ same-flags (not p.is_body) m p (scope_flags Kind.BlockStatement s.given.0 (is_strict Kind.BlockStatement ps (scope_place s))) (scope_flags Kind.BlockStatement p.given (is_strict Kind.BlockStatement ps p))
  own-scope kind m ps p s h = own-where m p s (scope_flags kind s.given.0 (is_strict kind ps (scope_place s))) (has_scope kind) (has_scope kind) (λ e. e) h ∙ same-flags (has_scope kind) m p (scope_flags kind s.given.0 (is_strict kind ps (scope_place s))) (scope_flags kind p.given (is_strict kind ps p))

  own-opens : (kind : Kind) (p : scopes.Place) (s : Surroundings) → p.is_body ≡ s.is_body → opens kind p ≡ opens kind (scope_place s)
  own-opens Kind.BlockStatement p s h = ap not h
  own-opens kind p s h = refl

  around-cond : (b : Bool) (m : ℕ) (own : ScopeId) (x : Option ℕ) (y : Option ScopeId) → (b ≡ true → N own.0 ≡ Some m) → x ≡ option_and_then N (scope_number y) → cond b (Some m) x ≡ option_and_then N (scope_number (cond b (Some own) y))
  around-cond true m own x y k h = sym (k refl)
  around-cond false m own x y k h = h

  inside-alike : (kind : Kind) (m n : ℕ) (ps : Parts) (p : scopes.Place) (s : Surroundings) → Alike p s → (opens kind (scope_place s) ≡ true → N n ≡ Some m) → (i : ℕ) → Alike (scopes.inside kind m ps p i) (inside kind (record { 0 = n }) ps s i)
  inside-alike kind m n ps p s h own i = record {
    is_body = refl;
    around =
        ap (λ b. cond (b && not (is_outside kind i)) (Some m) p.around) (own-opens kind p s h.is_body)
        ∙ around-cond (opens kind (scope_place s) && not (is_outside kind i)) m (record { 0 = n }) p.around s.scope (λ e. own (and_parts _ _ e).0) h.around;
  }

  first-alike : (f : ℕ → Surroundings) (i : ℕ) (places : ℕ → scopes.Place) → ((j : ℕ) → Alike (places j) (f (i + j))) → Alike (places 0) (f i)
  first-alike f i places h = let same : i + 0 ≡ i = omega arith in subst (λ (k : ℕ). Alike (places 0) (f k)) same (h 0)

  rest-alike : (f : ℕ → Surroundings) (i : ℕ) (places : ℕ → scopes.Place) → ((j : ℕ) → Alike (places j) (f (i + j))) → (j : ℕ) → Alike (places (suc j)) (f ((i + 1) + j))
  rest-alike f i places h j = let same : i + suc j ≡ (i + 1) + j = omega arith in subst (λ (k : ℕ). Alike (places (suc j)) (f k)) same (h (suc j))

  joined : (c : List (ℕ × Option ℕ)) (xs ys : List NodeScope) → (c ++ wanted xs) ++ wanted ys ≡ c ++ wanted (xs ++ ys)
  joined c xs ys = append_assoc c (wanted xs) (wanted ys) ∙ ap (λ l. c ++ l) (sym (map-append (λ (x : NodeScope). (x.node, x.around)) xs ys))

  entered-tells : (kind : Kind) (m : ℕ) (ps : Parts) (s : Surroundings) (c : Collected) → Counts c → Tells N (entered kind (record { 0 = m }) ps s c).entries → opens kind (scope_place s) ≡ true → N c.next ≡ Some m
  entered-tells kind m ps s c counts tells is = tells c.next (record { node = m; parent = s.scope; in_parameters = s.in_parameters }) (entered-here kind m ps s c counts is)

  mutual
    pub around-tree : (s : Surroundings) (c : Collected) (t : Tree) (p : scopes.Place) → Alike p s → Counts c → Within c.next s → Tells N (collected s c t).entries → among (collected s c t).entries ≡ among c.entries ++ wanted (node_scopes p t)
    around-tree s c (Node kind m span id ps) p h counts within tells =
        let inner = entered kind (record { 0 = m }) ps s c in
        around-parts (inside kind (record { 0 = c.next }) ps s) 0 inner ps (scopes.inside kind m ps p)
        (λ j. let same : 0 + j ≡ j = omega arith in subst (λ (k : ℕ). Alike (scopes.inside kind m ps p j) (inside kind (record { 0 = c.next }) ps s k)) (sym same) (inside-alike kind m c.next ps p s h (entered-tells kind m ps s c counts (tells-before N _ _ (parts-extends (inside kind (record { 0 = c.next }) ps s) 0 inner ps) tells)) j))
        (entered-counts kind (record { 0 = m }) ps s c counts within) (λ j. inside-within kind c.next ps s j within) tells
        ∙ ap (λ l. l ++ wanted (scopes_of_parts (scopes.inside kind m ps p) ps)) (among-joined c.entries (option_to_list (entry_of kind (record { 0 = m }) ps s)) ∙ ap (λ l. among c.entries ++ l) (own-scope kind m ps p s h))
        ∙ joined (among c.entries) (own_scope kind m ps p) (scopes_of_parts (scopes.inside kind m ps p) ps)

    around-parts : (f : ℕ → Surroundings) (i : ℕ) (c : Collected) (ps : Parts) (places : ℕ → scopes.Place) → ((j : ℕ) → Alike (places j) (f (i + j))) → Counts c → ((j : ℕ) → Within c.next (f j)) → Tells N (collected_parts f i c ps).entries → among (collected_parts f i c ps).entries ≡ among c.entries ++ wanted (scopes_of_parts places ps)
    around-parts f i c end places h counts within tells = sym (append-nil (among c.entries))
    around-parts f i c (more p ps) places h counts within tells =
        let inner = collected_part (f i) c p in
        around-parts f (i + 1) inner ps (λ j. places (suc j)) (rest-alike f i places h) (part-counts (f i) c p counts (within i)) (λ j. within-le c.next inner.next (f j) (more_in_part (f i) c p) (within j)) tells
        ∙ ap (λ l. l ++ wanted (scopes_of_parts (λ j. places (suc j)) ps)) (around-part (f i) c p (places 0) (first-alike f i places h) counts (within i) (tells-before N _ _ (parts-extends f (i + 1) inner ps) tells))
        ∙ joined (among c.entries) (scopes_of_part (places 0) p) (scopes_of_parts (λ j. places (suc j)) ps)

    around-part : (s : Surroundings) (c : Collected) (p : Part) (q : scopes.Place) → Alike q s → Counts c → Within c.next s → Tells N (collected_part s c p).entries → among (collected_part s c p).entries ≡ among c.entries ++ wanted (scopes_of_part q p)
    around-part s c (child t) q h counts within tells = around-tree s c t q h counts within tells
    around-part s c absent q h counts within tells = sym (append-nil (among c.entries))
    around-part s c (list ps) q h counts within tells = around-items s c ps q h counts within tells
    around-part s c (string b) q h counts within tells = sym (append-nil (among c.entries))
    around-part s c no_string q h counts within tells = sym (append-nil (among c.entries))
    around-part s c (boolean b) q h counts within tells = sym (append-nil (among c.entries))
    around-part s c (literal v) q h counts within tells = sym (append-nil (among c.entries))

    around-items : (s : Surroundings) (c : Collected) (ps : Parts) (q : scopes.Place) → Alike q s → Counts c → Within c.next s → Tells N (collected_items s c ps).entries → among (collected_items s c ps).entries ≡ among c.entries ++ wanted (scopes_of_items q ps)
    around-items s c end q h counts within tells = sym (append-nil (among c.entries))
    around-items s c (more p ps) q h counts within tells =
        let inner = collected_part s c p in
        around-items s inner ps q h (part-counts s c p counts within) (within-le c.next inner.next s (more_in_part s c p) within) tells
        ∙ ap (λ l. l ++ wanted (scopes_of_items q ps)) (around-part s c p q h counts within (tells-before N _ _ (items-extend s inner ps) tells))
        ∙ joined (among c.entries) (scopes_of_part q p) (scopes_of_items q ps)

-- ---- the nodes with a scope

opens-place : (kind : Kind) (p : scopes.Place) → opens kind p ≡ opens_at kind p.is_body
opens-place Kind.BlockStatement p = refl
opens-place kind p = refl

mutual
  numbers-opened : (t : Tree) (p : scopes.Place) → map number_of (opened p.is_body t) ≡ map (λ (x : NodeScope). x.node) (node_scopes p t)
  numbers-opened (Node kind m span id ps) p =
      map-append number_of (cond (opens_at kind p.is_body) (Node kind m span id ps ∷ []) []) (opened_parts (is_body_place kind) ps)
      ∙ (λ i. of_own (opens_at kind p.is_body) i ++ numbers-parts ps (is_body_place kind) (scopes.inside kind m ps p) (λ j. refl) i)
      ∙ sym (map-append (λ (x : NodeScope). x.node) (own_scope kind m ps p) (scopes_of_parts (scopes.inside kind m ps p) ps) ∙ ap (λ b. map (λ (x : NodeScope). x.node) (cond b (record { node = m; around = p.around; flags = scope_flags kind p.given (is_strict kind ps p) } ∷ []) []) ++ map (λ (x : NodeScope). x.node) (scopes_of_parts (scopes.inside kind m ps p) ps)) (opens-place kind p))
    where
      of_own : (b : Bool) → map number_of (cond b (Node kind m span id ps ∷ []) []) ≡ map (λ (x : NodeScope). x.node) (cond b (record { node = m; around = p.around; flags = scope_flags kind p.given (is_strict kind ps p) } ∷ []) [])
      of_own true = refl
      of_own false = refl

  numbers-parts : (ps : Parts) (bs : ℕ → Bool) (places : ℕ → scopes.Place) → ((j : ℕ) → bs j ≡ (places j).is_body) → map number_of (opened_parts bs ps) ≡ map (λ (x : NodeScope). x.node) (scopes_of_parts places ps)
  numbers-parts end bs places h = refl
  numbers-parts (more p ps) bs places h =
      map-append number_of (opened_part (bs 0) p) (opened_parts (λ j. bs (suc j)) ps)
      ∙ (λ i. map number_of (opened_part (h 0 i) p) ++ numbers-parts ps (λ j. bs (suc j)) (λ j. places (suc j)) (λ j. h (suc j)) i)
      ∙ ap (λ l. l ++ map (λ (x : NodeScope). x.node) (scopes_of_parts (λ j. places (suc j)) ps)) (numbers-part p (places 0))
      ∙ sym (map-append (λ (x : NodeScope). x.node) (scopes_of_part (places 0) p) (scopes_of_parts (λ j. places (suc j)) ps))

  numbers-part : (p : Part) (q : scopes.Place) → map number_of (opened_part q.is_body p) ≡ map (λ (x : NodeScope). x.node) (scopes_of_part q p)
  numbers-part (child t) q = numbers-opened t q
  numbers-part absent q = refl
  numbers-part (list ps) q = numbers-items ps q
  numbers-part (string s) q = refl
  numbers-part no_string q = refl
  numbers-part (boolean b) q = refl
  numbers-part (literal v) q = refl

  numbers-items : (ps : Parts) (q : scopes.Place) → map number_of (opened_items q.is_body ps) ≡ map (λ (x : NodeScope). x.node) (scopes_of_items q ps)
  numbers-items end q = refl
  numbers-items (more p ps) q =
      map-append number_of (opened_part q.is_body p) (opened_items q.is_body ps)
      ∙ (λ i. numbers-part p q i ++ numbers-items ps q i)
      ∙ sym (map-append (λ (x : NodeScope). x.node) (scopes_of_part q p) (scopes_of_items q ps))

pub opened-scopes : (t : Tree) → map number_of (opened false t) ≡ map (λ (x : NodeScope). x.node) (scopes_of t)
opened-scopes t = numbers-opened t outermost

-- ---- a program

pub counts-nothing : Counts nothing_yet
counts-nothing = record { ordered = tt; count = refl }

pub within-nowhere : Within 0 nowhere
within-nowhere = record { scope = λ s e. absurd (cc e); holders = tt; body = λ e. absurd (true≢false (sym e)) }

-- the node of a scope
abbrev pub scope_node : Tree → ℕ → Option ℕ
scope_node t j = option_map (λ (x : ScopeOf). x.node) (slice_get (scopes_among (entries_of t)) j)

pub tells-program : (t : Tree) → Tells (scope_node t) (entries_of t)
tells-program t j x h = ap (option_map (λ (x : ScopeOf). x.node)) h

pub around-program : (t : Tree) → shown (scope_node t) (scopes_among (entries_of t)) ≡ wanted (scopes_of t)
around-program t = around-tree (scope_node t) nowhere nothing_yet t outermost (record { is_body = refl; around = refl }) counts-nothing within-nowhere (tells-program t)
