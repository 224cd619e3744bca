-- What stands where: trees among the nodes of a program, one list within another, and that a tree is itself.
use Rattle.std.specs.Prelude.{◌≡◌, ℕ, List, [], ◌∷◌, ◌++◌, Bool, true, false, cond, not, ◌&&◌, ◌||◌, nat_eq, bytes_eq, Option, Some, None}
use Rattle.std.proofs.Common.{refl, ◌+◌, ◌≤◌, arith}
use Rattle.std.proofs.lemmas.Bool.{and_parts}
use Rattle.es_base.specs.Numbered.{is_new}
use Rattle.es_base.specs.Tree.{Tree, Part, Parts, Node, end, more, child, absent, list, string, no_string, boolean, literal}
use Rattle.es_base.specs.declared.literal.LiteralValue.{LiteralValue}
use Rattle.es_base.specs.declared.literal.LiteralValue.TheVariants as literal_value
use Rattle.es_left.proofs.Booleans.{both}
use Rattle.es_steps.proofs.FirstMeaning.{no_false}
use Rattle.es_steps.proofs.Reflexive.{number-same, string-same}
use Rattle.es_lowered.specs.Definitions.{DefinedKey, BrandKey, PrivateKey, PublicKey, FieldDefinition, key_temporary, key_temporaries, all_temporaries, supers_stand}
use Rattle.es_steps.specs.KeptNodes.{NodeSort, a_class, a_function, a_call, a_construction, another, sort_of, is_kept_sort, same_sort, stands_as, all_stand, stands_equal, all_equal, list_of, is_within, all_within, Homed, is_underscored, home_fits, name_fits, stands_at_home, stands_nowhere, all_at_home}
use Rattle.es_steps.specs.PrivateNames.{PrivateMember, is_class}
use Rattle.es_steps.specs.References.{Reference, has_number}
use Rattle.es_steps.specs.SameTrees.{same_tree, same_part, same_parts, same_literal, kind_number}
use Rattle.es_steps.specs.SameValues.{same_boolean, same_nullable_string}
use Rattle.es_steps.specs.Values.{String}
use Rattle.es_steps.specs.declared.options.Options.{Options}

pub or_left : (a b : Bool) → a ≡ true → a || b ≡ true
or_left a b h = rw h refl

pub or_right : (a b : Bool) → b ≡ true → a || b ≡ true
or_right true b h = refl
or_right false b h = h

pub or_with : (b : Bool) {x y : Bool} → (x ≡ true → y ≡ true) → (b || x) ≡ true → (b || y) ≡ true
or_with true f e = refl
or_with false f e = f e

pub still_new : {first : ℕ} (k j : ℕ) → first ≤ k → first ≤ k + j
still_new k j new = omega (arith, new)

-- ---- trees in lists

pub data In (t : Tree) : List Tree → Type 0 where
  here : {ts : List Tree} → In t (t ∷ ts)
  later : {u : Tree} {ts : List Tree} → In t ts → In t (u ∷ ts)

abbrev pub Among : List Tree → List Tree → Type 0
Among ts us = (t : Tree) → In t ts → In t us

pub in-left : (t : Tree) (ts us : List Tree) → In t ts → In t (ts ++ us)
in-left t [] us h = elim h [ ]
in-left t (u ∷ ts) us here = here
in-left t (u ∷ ts) us (later h) = later (in-left t ts us h)

pub in-right : (t : Tree) (ts us : List Tree) → In t us → In t (ts ++ us)
in-right t [] us h = h
in-right t (u ∷ ts) us h = later (in-right t ts us h)

in-append : (t : Tree) (ts us : List Tree) (P : Type 0) → (In t ts → P) → (In t us → P) → In t (ts ++ us) → P
in-append t [] us P f g h = g h
in-append t (u ∷ ts) us P f g here = f here
in-append t (u ∷ ts) us P f g (later h) = in-append t ts us P (λ i. f (later i)) g h

pub among-append : (ts us vs ws : List Tree) → Among ts vs → Among us ws → Among (ts ++ us) (vs ++ ws)
among-append ts us vs ws a b t h = in-append t ts us (In t (vs ++ ws)) (λ i. in-left t vs ws (a t i)) (λ i. in-right t vs ws (b t i)) h

-- ---- a tree is itself

pub apart-sym : (m n : ℕ) → nat_eq m n ≡ false → nat_eq n m ≡ false
apart-sym m n h = grind arith

boolean-same : (b : Bool) → same_boolean b b ≡ true
boolean-same true = refl
boolean-same false = refl

nullable_string-same : (x : Option String) → same_nullable_string x x ≡ true
nullable_string-same None = refl
nullable_string-same (Some s) = string-same s

literal-same : (v : LiteralValue) → same_literal v v ≡ true
literal-same (literal_value.String s raw) = both (string-same s) (nullable_string-same raw)
literal-same (literal_value.Number s) = string-same s
literal-same (literal_value.BigInt s) = string-same s
literal-same (literal_value.RegExp p f) = both (string-same p) (string-same f)
literal-same (literal_value.Boolean b) = boolean-same b
literal-same literal_value.Null = refl

mutual
  pub tree-same : (t : Tree) → same_tree t t ≡ true
  tree-same (Node kind m span semantic_id ps) = both (number-same (kind_number kind)) (both (number-same m) (parts-same ps))

  part-same : (p : Part) → same_part p p ≡ true
  part-same (child t) = tree-same t
  part-same absent = refl
  part-same (list ps) = parts-same ps
  part-same (string s) = string-same s
  part-same no_string = refl
  part-same (boolean b) = boolean-same b
  part-same (literal v) = literal-same v

  parts-same : (ps : Parts) → same_parts ps ps ≡ true
  parts-same end = refl
  parts-same (more p ps) = both (part-same p) (parts-same ps)

-- ---- nodes that stand

pub stands-equal : (t : Tree) (ts : List Tree) → In t ts → stands_equal t ts ≡ true
stands-equal t [] h = elim h [ ]
stands-equal t (u ∷ ts) here = or_left (same_tree t t) (stands_equal t ts) (tree-same t)
stands-equal t (u ∷ ts) (later h) = or_right (same_tree t u) (stands_equal t ts) (stands-equal t ts h)

pub all-equal : (ts us : List Tree) → Among ts us → all_equal ts us ≡ true
all-equal [] us h = refl
all-equal (t ∷ ts) us h = both (stands-equal t us (h t here)) (all-equal ts us (λ u i. h u (later i)))

sort-same : (sort : NodeSort) → is_kept_sort sort ≡ true → same_sort sort sort ≡ true
sort-same a_class h = refl
sort-same a_function h = refl
sort-same a_call h = refl
sort-same a_construction h = refl
sort-same another h = h

-- a node of this number and sort
abbrev stands_by : ℕ → NodeSort → Tree → Bool
stands_by m sort (Node kind k span semantic_id ps) = nat_eq m k && same_sort sort (sort_of kind)

stands_as-here : (m : ℕ) (sort : NodeSort) (t : Tree) (ts : List Tree) → stands_by m sort t ≡ true → stands_as m sort (t ∷ ts) ≡ true
stands_as-here m sort (Node kind k span semantic_id ps) ts h = or_left (nat_eq m k && same_sort sort (sort_of kind)) (stands_as m sort ts) h

stands_as-later : (m : ℕ) (sort : NodeSort) (t : Tree) (ts : List Tree) → stands_as m sort ts ≡ true → stands_as m sort (t ∷ ts) ≡ true
stands_as-later m sort (Node kind k span semantic_id ps) ts h = or_right (nat_eq m k && same_sort sort (sort_of kind)) (stands_as m sort ts) h

pub stands_as-in : (m : ℕ) (sort : NodeSort) (t : Tree) (ts : List Tree) → stands_by m sort t ≡ true → In t ts → stands_as m sort ts ≡ true
stands_as-in m sort t [] e h = elim h [ ]
stands_as-in m sort t (u ∷ ts) e here = stands_as-here m sort t ts e
stands_as-in m sort t (u ∷ ts) e (later h) = stands_as-later m sort u ts (stands_as-in m sort t ts e h)

kept-or : (sort : NodeSort) (b : Bool) → (is_kept_sort sort ≡ true → b ≡ true) → (not (is_kept_sort sort) || b) ≡ true
kept-or a_class b h = h refl
kept-or a_function b h = h refl
kept-or a_call b h = h refl
kept-or a_construction b h = h refl
kept-or another b h = refl

pub all-stand : (ts us : List Tree) → Among ts us → all_stand ts us ≡ true
all-stand [] us h = refl
all-stand (Node kind m span semantic_id ps ∷ ts) us h =
    both (kept-or (sort_of kind) (stands_as m (sort_of kind) us) (λ k. stands_as-in m (sort_of kind) (Node kind m span semantic_id ps) us (both (number-same m) (sort-same (sort_of kind) k)) (h (Node kind m span semantic_id ps) here)))
    (all-stand ts us (λ u i. h u (later i)))

-- ---- one list within another

record Within (ys : List ℕ) : Type 0 where
  drops : (x : ℕ) (xs : List ℕ) → is_within (x ∷ xs) ys ≡ true → is_within xs ys ≡ true
  grows : (xs : List ℕ) (y : ℕ) → is_within xs ys ≡ true → is_within xs (y ∷ ys) ≡ true

grows-by : (ys : List ℕ) → ((x : ℕ) (xs : List ℕ) → is_within (x ∷ xs) ys ≡ true → is_within xs ys ≡ true) → (xs : List ℕ) (y : ℕ) → is_within xs ys ≡ true → is_within xs (y ∷ ys) ≡ true
grows-by ys drops [] y h = refl
grows-by ys drops (x ∷ xs) y h = either (nat_eq x y)
  where
    either : (b : Bool) → cond b (is_within xs ys) (is_within (x ∷ xs) ys) ≡ true
    either true = drops x xs h
    either false = h

drops-by : (y : ℕ) (ys : List ℕ) → Within ys → (x : ℕ) (xs : List ℕ) → is_within (x ∷ xs) (y ∷ ys) ≡ true → is_within xs (y ∷ ys) ≡ true
drops-by y ys w x xs h = w.grows xs y (either (nat_eq x y) h)
  where
    either : (b : Bool) → cond b (is_within xs ys) (is_within (x ∷ xs) ys) ≡ true → is_within xs ys ≡ true
    either true k = k
    either false k = w.drops x xs k

within : (ys : List ℕ) → Within ys
within [] = record { drops = λ x xs h. no_false h; grows = grows-by [] (λ x xs h. no_false h) }
within (y ∷ ys) = let w : Within ys = within ys in record { drops = drops-by y ys w; grows = grows-by (y ∷ ys) (drops-by y ys w) }

pub within-more : (xs : List ℕ) (y : ℕ) (ys : List ℕ) → is_within xs ys ≡ true → is_within xs (y ∷ ys) ≡ true
within-more xs y ys h = (within ys).grows xs y h

pub within-both : (x : ℕ) (xs ys : List ℕ) → is_within xs ys ≡ true → is_within (x ∷ xs) (x ∷ ys) ≡ true
within-both x xs ys h = rw (number-same x) h

pub within-same : (xs : List ℕ) → is_within xs xs ≡ true
within-same [] = refl
within-same (x ∷ xs) = within-both x xs xs (within-same xs)

within-behind : (xs ys zs : List ℕ) → is_within xs zs ≡ true → is_within xs (ys ++ zs) ≡ true
within-behind xs [] zs h = h
within-behind xs (y ∷ ys) zs h = within-more xs y (ys ++ zs) (within-behind xs ys zs h)

within_either-append : (b : Bool) {c d e f : Bool} → (c ≡ true → e ≡ true) → (d ≡ true → f ≡ true) → cond b c d ≡ true → cond b e f ≡ true
within_either-append true g k h = g h
within_either-append false g k h = k h

pub within-append : (xs ys us vs : List ℕ) → is_within xs ys ≡ true → is_within us vs ≡ true → is_within (xs ++ us) (ys ++ vs) ≡ true
within-append [] ys us vs h i = within-behind us ys vs i
within-append (x ∷ xs) [] us vs h i = no_false h
within-append (x ∷ xs) (y ∷ ys) us vs h i = within_either-append (nat_eq x y) (λ k. within-append xs ys us vs k i) (λ k. within-append (x ∷ xs) ys us vs k i) h

-- identifiers and lists of statements at home: each of the first stands among the second
module _ (first : ℕ) (blocks : List ℕ) where
  abbrev pub all_found : List Homed → List Homed → Bool
  all_found [] ys = true
  all_found (x ∷ xs) ys = stands_at_home first blocks x ys && all_found xs ys

  pub found-more : (y : Homed) (xs ys : List Homed) → all_found xs ys ≡ true → all_found xs (y ∷ ys) ≡ true
  found-more y [] ys h = refl
  found-more y (x ∷ xs) ys h =
      let parts = and_parts (stands_at_home first blocks x ys) (all_found xs ys) h in
      both (or_right (nat_eq x.number y.number && (home_fits first blocks x y && name_fits first blocks x y)) (stands_at_home first blocks x ys) parts.0) (found-more y xs ys parts.1)

  pub found-behind : (zs xs ys : List Homed) → all_found xs ys ≡ true → all_found xs (zs ++ ys) ≡ true
  found-behind [] xs ys h = h
  found-behind (z ∷ zs) xs ys h = found-more z xs (zs ++ ys) (found-behind zs xs ys h)

  same-home : (x : Homed) → home_fits first blocks x x ≡ true
  same-home x = or_right x.is_own_name (nat_eq x.home x.home || (has_number x.home blocks && is_new first x.home)) (or_left (nat_eq x.home x.home) (has_number x.home blocks && is_new first x.home) (number-same x.home))

  same-name : (x : Homed) → name_fits first blocks x x ≡ true
  same-name x = or_left (bytes_eq x.spelling x.spelling) (x.in_constructor && is_underscored x.spelling) (string-same x.spelling)

  pub found-both : (x : Homed) (xs ys : List Homed) → all_found xs ys ≡ true → all_found (x ∷ xs) (x ∷ ys) ≡ true
  found-both x xs ys h =
      both (or_left (nat_eq x.number x.number && (home_fits first blocks x x && name_fits first blocks x x)) (stands_at_home first blocks x ys) (both (number-same x.number) (both (same-home x) (same-name x)))) (found-more x xs ys h)

  found-same : (xs : List Homed) → all_found xs xs ≡ true
  found-same [] = refl
  found-same (x ∷ xs) = found-both x xs xs (found-same xs)

  pub found-home : (xs ys : List Homed) → all_found xs ys ≡ true → all_at_home first blocks xs ys ≡ true
  found-home [] ys h = refl
  found-home (x ∷ xs) ys h =
      let parts = and_parts (stands_at_home first blocks x ys) (all_found xs ys) h in
      both (or_left (stands_at_home first blocks x ys) (x.is_own_name && stands_nowhere first blocks x ys) parts.0) (found-home xs ys parts.1)

  pub home-same : (xs : List Homed) → all_at_home first blocks xs xs ≡ true
  home-same xs = found-home xs xs (found-same xs)

pub all_within-append : (ls ks : List (ℕ × List ℕ)) (qs : List Tree) → all_within ls qs ≡ true → all_within ks qs ≡ true → all_within (ls ++ ks) qs ≡ true
all_within-append [] ks qs h i = i
all_within-append (l ∷ ls) ks qs h i =
    let parts = and_parts (is_within l.1 (list_of l.0 qs)) (all_within ls qs) h in
    both parts.0 (all_within-append ls ks qs parts.1 i)

-- ---- without generated names no key is a temporary

key-none : (k : DefinedKey) → key_temporary [] k ≡ []
key-none (BrandKey s) = refl
key-none (PrivateKey s) = refl
key-none (PublicKey k is_name) = refl

keys-none : (ds : List FieldDefinition) → key_temporaries [] ds ≡ []
keys-none [] = refl
keys-none (d ∷ ds) = rw (key-none d.key) (keys-none ds)

pub temporaries-none : (first : ℕ) (o : Options) (members : List PrivateMember) (q : Tree) (ts : List Tree) → all_temporaries first o [] members q ts ≡ []
temporaries-none first o members q [] = refl
temporaries-none first o members q (Node kind n span semantic_id ps ∷ ts) = rw (keys-none _) (either (is_class kind) (temporaries-none first o members q ts))
  where
    either : (b : Bool) → all_temporaries first o [] members q ts ≡ [] → (cond b [] [] ++ all_temporaries first o [] members q ts) ≡ []
    either true h = h
    either false h = h

-- without generated names nothing stands for `super(..)`
pub supers-stand : (first : ℕ) (o : Options) (rs : List Reference) (ts : List Tree) → supers_stand first o [] rs ts ≡ true
supers-stand first o rs [] = refl
supers-stand first o rs (Node kind m span semantic_id ps ∷ ts) = supers-stand first o rs ts
