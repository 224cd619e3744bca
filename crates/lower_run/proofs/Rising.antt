-- The numbers of the awaits of a program that is numbered in preorder rise, so its warnings stay as they are when they are
-- put in order.
use Rattle.std.proofs.Common.{inl, inr, ◌≡◌, refl, sym, ap, ap₂, ◌∙◌, subst, ℕ, suc, ◌+◌, ◌<◌, ◌≤◌, List, [], ◌∷◌, ◌++◌, map, Bool, true, false, cond, is_lt, filter, get_or, IsSorted, arith}
use Rattle.std.specs.Prelude.{◌⊎◌, nat_lt}
use Rattle.std.specs.List.Sorted.{IsStable, ties}
use Rattle.std.specs.Cmp.{nat_cmp_is}
use Rattle.std.specs.Ordering.{nat_cmp}
use Rattle.std.specs.declared.cmp.Ordering.{Ordering}
use Rattle.std.proofs.lemmas.Map.Keys.{ge_from_not_lt}
use Rattle.std.proofs.lemmas.Bool.{ltb-true, ltb-false}
use Rattle.es_base.specs.Preorder.{nodes, nodes_of, nodes_of_part, numbered_from, numbered_part, numbered_parts}
use Rattle.es_base.specs.Tree.{Tree, Part, Parts, Node, end, more, child, absent, list, string, no_string, boolean, literal}
use Rattle.es_base.specs.declared.diagnostic.Diagnostic.{Diagnostic}
use Rattle.es_base.specs.declared.kind.Kind.{Kind}
use Rattle.es_steps.specs.Told.{is_hoist_scope, await_here, top_awaits, top_awaits_in, top_awaits_of, warnings_of}
use Rattle.es_steps.specs.declared.options.Options.{Options}
use Rattle.es_writing.specs.Lowered.{IsArranged, warning_cmp}

-- ---- numbers that rise, from lo on and below hi

abbrev Rising : ℕ → ℕ → List ℕ → Type 0
Rising lo hi [] = lo ≤ hi
Rising lo hi (n ∷ ns) = (lo ≤ n) × Rising (n + 1) hi ns

rising-span : (lo hi : ℕ) (ns : List ℕ) → Rising lo hi ns → lo ≤ hi
rising-span lo hi [] h = h
rising-span lo hi (n ∷ ns) h = omega (arith, h.0, rising-span (n + 1) hi ns h.1)

rising-wider : (lo hi lower : ℕ) (ns : List ℕ) → lower ≤ lo → Rising lo hi ns → Rising lower hi ns
rising-wider lo hi lower [] l h = omega (arith, l, h)
rising-wider lo hi lower (n ∷ ns) l h = (omega (arith, l, h.0), h.1)

rising-append : (lo mid hi : ℕ) (ns ks : List ℕ) → Rising lo mid ns → Rising mid hi ks → Rising lo hi (ns ++ ks)
rising-append lo mid hi [] ks h i = rising-wider mid hi lo ks h i
rising-append lo mid hi (n ∷ ns) ks h i = (h.0, rising-append (n + 1) mid hi ns ks h.1 i)

rising-if : (b : Bool) (lo hi : ℕ) (ns : List ℕ) → Rising lo hi ns → Rising lo hi (cond b [] ns)
rising-if true lo hi ns h = rising-span lo hi ns h
rising-if false lo hi ns h = h

here-rises : (kind : Kind) (n : ℕ) → Rising n (n + 1) (await_here kind n)
here-rises Kind.AwaitExpression n = (omega arith, omega arith)
here-rises kind n = omega arith

mutual
  awaits-rise : (n : ℕ) (t : Tree) → Rising n (n + nodes t) (top_awaits (numbered_from n t))
  awaits-rise n (Node kind m span semantic_id ps) =
      let below : Rising (n + 1) (n + 1 + nodes_of ps) (cond (is_hoist_scope kind) [] (top_awaits_in (numbered_parts (n + 1) ps))) = rising-if (is_hoist_scope kind) (n + 1) (n + 1 + nodes_of ps) _ (awaits_in-rise (n + 1) ps) in
      subst (λ hi. Rising n hi (top_awaits (numbered_from n (Node kind m span semantic_id ps)))) (omega arith) (rising-append n (n + 1) (n + 1 + nodes_of ps) (await_here kind n) _ (here-rises kind n) below)

  awaits_in-rise : (n : ℕ) (ps : Parts) → Rising n (n + nodes_of ps) (top_awaits_in (numbered_parts n ps))
  awaits_in-rise n end = omega arith
  awaits_in-rise n (more p ps) =
      subst (λ hi. Rising n hi (top_awaits_in (numbered_parts n (more p ps)))) (omega arith) (rising-append n (n + nodes_of_part p) (n + nodes_of_part p + nodes_of ps) (top_awaits_of (numbered_part n p)) _ (awaits_of-rise n p) (awaits_in-rise (n + nodes_of_part p) ps))

  awaits_of-rise : (n : ℕ) (p : Part) → Rising n (n + nodes_of_part p) (top_awaits_of (numbered_part n p))
  awaits_of-rise n (child t) = awaits-rise n t
  awaits_of-rise n absent = omega arith
  awaits_of-rise n (list ps) = awaits_in-rise n ps
  awaits_of-rise n (string s) = omega arith
  awaits_of-rise n no_string = omega arith
  awaits_of-rise n (boolean b) = omega arith
  awaits_of-rise n (literal v) = omega arith

warnings-rise : (o : Options) (t : Tree) → t ≡ numbered_from 0 t → Rising 0 (nodes t) (warnings_of o t)
warnings-rise o t turn = fewer o.es2022.top_level_await
  where
    all : Rising 0 (nodes t) (top_awaits t)
    all = subst (λ u. Rising 0 (nodes t) (top_awaits u)) (sym turn) (subst (λ hi. Rising 0 hi (top_awaits (numbered_from 0 t))) (omega arith) (awaits-rise 0 t))

    fewer : (b : Bool) → Rising 0 (nodes t) (cond b (top_awaits t) [])
    fewer true = all
    fewer false = omega arith

-- ---- a list whose numbers rise is arranged by them as it is

abbrev number : Diagnostic → ℕ
number d = d.node.0

abbrev ties_with : Diagnostic → Diagnostic → Bool
ties_with = ties (λ x y. is_lt (warning_cmp x y))

-- it does not fall, from lo on
abbrev Climbs : ℕ → List Diagnostic → Type 0
Climbs lo [] = Unit
Climbs lo (d ∷ ds) = (lo ≤ number d) × Climbs (number d) ds

-- what is sorted is so behind its first
sorted-rest : (d : Diagnostic) (ds : List Diagnostic) → IsSorted warning_cmp (d ∷ ds) → IsSorted warning_cmp ds
sorted-rest d ds up k x from to =
    let next : suc k + 1 ≡ suc (k + 1) = omega arith in
    subst (λ n. is_lt (warning_cmp (get_or (d ∷ ds) n x) (get_or (d ∷ ds) (suc k) x)) ≡ false) next (up (suc k) x (omega arith) (omega (arith, to)))

sorted-climbs : (d : Diagnostic) (ds : List Diagnostic) → IsSorted warning_cmp (d ∷ ds) → Climbs (number d) ds
sorted-climbs d [] up = tt
sorted-climbs d (e ∷ ds) up =
    (ge_from_not_lt (number e) (number d) (up 0 d (omega arith) (omega arith)), sorted-climbs e ds (sorted-rest d (e ∷ ds) up))

not_less : (a b : ℕ) → a ≡ b → is_lt (nat_cmp a b) ≡ false
not_less a b same = sym (ap is_lt (nat_cmp_is a b Ordering.Equal same))

less : (a b : ℕ) → a < b → is_lt (nat_cmp a b) ≡ true
less a b below = sym (ap is_lt (nat_cmp_is a b Ordering.Less below))

not_more : (a b : ℕ) → b < a → is_lt (nat_cmp a b) ≡ false
not_more a b above = sym (ap is_lt (nat_cmp_is a b Ordering.Greater above))

same-ties : (d e : Diagnostic) → number d ≡ number e → ties_with d e ≡ true
same-ties d e same = rw (not_less (number d) (number e) same, not_less (number e) (number d) (sym same)) refl

less-ties : (d e : Diagnostic) → number d < number e → ties_with d e ≡ false
less-ties d e below = rw (less (number d) (number e) below) refl

climbs-none : (d : Diagnostic) (lo : ℕ) (es : List Diagnostic) → number d < lo → Climbs lo es → filter (ties_with d) es ≡ []
climbs-none d lo [] below up = refl
climbs-none d lo (e ∷ es) below up = rw (less-ties d e (omega (arith, below, up.0))) (climbs-none d (number e) es (omega (arith, below, up.0)) up.1)

rising-climbs : (lo hi : ℕ) (ds : List Diagnostic) → Rising lo hi (map number ds) → Climbs lo ds
rising-climbs lo hi [] up = tt
rising-climbs lo hi (d ∷ ds) up = (up.0, rising-climbs (number d) hi ds (rising-wider (number d + 1) hi (number d) (map number ds) (omega arith) up.1))

first-ties : (d e : Diagnostic) (es : List Diagnostic) → number d ≡ number e → filter (ties_with d) (e ∷ es) ≡ e ∷ filter (ties_with d) es
first-ties d e es same = rw (same-ties d e same) refl

no_cons : {B : Type 0} (d : Diagnostic) (ds : List Diagnostic) → [] ≡ d ∷ ds → B
no_cons d ds e = cc

cons_first : (d e : Diagnostic) (ds es : List Diagnostic) → d ∷ ds ≡ e ∷ es → d ≡ e
cons_first d e ds es same = cc

cons_rest : (d e : Diagnostic) (ds es : List Diagnostic) → d ∷ ds ≡ e ∷ es → ds ≡ es
cons_rest d e ds es same = cc

which : (a b : ℕ) → (a < b) ⊎ ((b < a) ⊎ (a ≡ b))
which a b = by (nat_lt a b) (nat_lt b a) refl refl
  where
    by : (x y : Bool) → nat_lt a b ≡ x → nat_lt b a ≡ y → (a < b) ⊎ ((b < a) ⊎ (a ≡ b))
    by true y h i = inl (ltb-true a b h)
    by false true h i = inr (inl (ltb-true b a i))
    by false false h i = inr (inr (omega (arith, ltb-false a b h, ltb-false b a i)))

rising-same : (lo hi : ℕ) (ds es : List Diagnostic) → Rising lo hi (map number ds) → IsSorted warning_cmp es → IsStable warning_cmp ds es → es ≡ ds
rising-same lo hi [] [] rising up kept = refl
rising-same lo hi [] (e ∷ es) rising up kept = no_cons e _ (sym (kept e) ∙ first-ties e e es refl)
rising-same lo hi (d ∷ ds) [] rising up kept = no_cons d _ (kept d ∙ first-ties d d ds refl)
rising-same lo hi (d ∷ ds) (e ∷ es) rising up kept = elim (which (number d) (number e)) [
  | inl below ↦ no_cons d _ (sym (climbs-none d (number e) (e ∷ es) below (omega arith, sorted-climbs e es up)) ∙ kept d ∙ first-ties d d ds refl)
  | inr (inl above) ↦ no_cons e _ (sym (climbs-none e (number d) (d ∷ ds) above (omega arith, rising-climbs (number d) hi ds (rising-wider (number d + 1) hi (number d) (map number ds) (omega arith) rising.1))) ∙ sym (kept e) ∙ first-ties e e es refl)
  | inr (inr same) ↦ ap₂ (λ x xs. x ∷ xs) (heads same) (rising-same (number d + 1) hi ds es rising.1 (sorted-rest e es up) (rests (heads same)))
]
  where
    heads : number d ≡ number e → e ≡ d
    heads same = cons_first e d _ _ (sym (first-ties d e es same) ∙ kept d ∙ first-ties d d ds refl)

    dropped : (b : Bool) (xs ys : List Diagnostic) → cond b (d ∷ xs) xs ≡ cond b (d ∷ ys) ys → xs ≡ ys
    dropped true xs ys h = cons_rest d d xs ys h
    dropped false xs ys h = h

    rests : e ≡ d → IsStable warning_cmp ds es
    rests is x = dropped (ties_with x d) (filter (ties_with x) es) (filter (ties_with x) ds) (ap (λ c. cond (ties_with x c) (c ∷ filter (ties_with x) es) (filter (ties_with x) es)) (sym is) ∙ kept x)

-- the warnings of a program that is numbered in preorder are in order
pub warnings-arranged : (o : Options) (t : Tree) (ds es : List Diagnostic) → t ≡ numbered_from 0 t → map number ds ≡ warnings_of o t → IsArranged warning_cmp ds es → es ≡ ds
warnings-arranged o t ds es turn are arranged = rising-same 0 (nodes t) ds es (subst (Rising 0 (nodes t)) (sym are) (warnings-rise o t turn)) arranged.sorted arranged.stable
