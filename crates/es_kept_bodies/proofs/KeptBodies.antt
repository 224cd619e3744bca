-- What a body touches that is kept stands behind what it stood behind.
use Rattle.std.proofs.Common.{◌≡◌, refl, sym, ap, ◌∙◌, ℕ, List, [], ◌∷◌, ◌++◌, Bool, true, false, cond, not, ◌&&◌, ◌||◌, nat_eq, nat_le}
use Rattle.std.proofs.lemmas.Bool.{and_from, and_parts, eq-eqb, eqb-true, le-leb, not_from_false, or_left, or_parts, or_right}
use Rattle.std.proofs.Math.Nat.{le_refl}
use Rattle.es_base.specs.Numbered.{is_new}
use Rattle.es_lowered.specs.DeadZones as spec
use Rattle.es_lowered.specs.DeadZones.{Body, ClassParts, Closures, Touch, TouchForm, reads, names_class, reads_this, makes_class, runs_closure, is_asked, is_arrow_of, is_in_same, is_run_before, is_run_by, is_same_form, is_this, put_off, put_off_behind, stands_in_closure, stands_in_node, were_run}
use Rattle.es_steps.specs.KeptNodes.{all_pairs_stand, pair_stands}
use Rattle.es_steps.specs.References.{has_number}
use Rattle.es_kept_bodies.specs.Kept.{any_same, is_kept_body, is_same_body, same_touch}
use Rattle.es_steps.specs.SameMeanings.{same_list}
use Rattle.es_kept_bodies.proofs.SameTouches.{one_list}
use Rattle.es_touches.specs.Comparison as compared
use Rattle.es_touches.specs.Comparison.{none_in_closure, turned}
use Rattle.es_touches.specs.Touches.{bodies_of, classes_of, closures_of}
use Rattle.es_touches.specs.declared.source.Source.{Source}

not-false : (b : Bool) → not b ≡ true → b ≡ false
not-false true e = absurd (cc)
not-false false e = refl

nat_le-same : (n : ℕ) → nat_le n n ≡ true
nat_le-same n = le-leb n n (le_refl n)

nat_eq-same : (n : ℕ) → nat_eq n n ≡ true
nat_eq-same n = eq-eqb n n refl

-- ---- what stands in no closure

in_all : (cs : Closures) (t u : Touch) → stands_in_closure cs t ≡ false → is_in_same cs t u ≡ true
in_all [] t u out = refl
in_all (c ∷ cs) t u out =
    let parts = or_parts (stands_in_node c.1 t.held) (stands_in_closure cs t) out in
    and_from (not (stands_in_node c.1 t.held) || stands_in_node c.1 u.held) (is_in_same cs t u)
    (or_left (not (stands_in_node c.1 t.held)) (stands_in_node c.1 u.held) (not_from_false (stands_in_node c.1 t.held) parts.0))
    (in_all cs t u parts.1)

runs_before : (cs : Closures) (ran : List ℕ) (t u : Touch) → stands_in_closure cs u ≡ false → is_run_before cs ran t u ≡ true
runs_before [] ran t u out = refl
runs_before (c ∷ cs) ran t u out =
    let parts = or_parts (stands_in_node c.1 u.held) (stands_in_closure cs u) out in
    and_from (not (stands_in_node c.1 u.held) || (stands_in_node c.1 t.held || has_number c.1 ran)) (is_run_before cs ran t u)
    (or_left (not (stands_in_node c.1 u.held)) (stands_in_node c.1 t.held || has_number c.1 ran) (not_from_false (stands_in_node c.1 u.held) parts.0))
    (runs_before cs ran t u parts.1)

none_off : (cs : Closures) (ran : List ℕ) (t : Touch) (us : List Touch) → none_in_closure cs us ≡ true → put_off cs ran t us ≡ []
none_off cs ran t [] out = refl
none_off cs ran t (u ∷ us) out =
    let parts = and_parts (not (stands_in_closure cs u)) (none_in_closure cs us) out in
    ap (λ b. cond (not b) (u ∷ []) [] ++ put_off cs ran t us) (runs_before cs ran t u (not-false (stands_in_closure cs u) parts.0)) ∙ none_off cs ran t us parts.1

not_of : (cs : Closures) (k : ℕ) (u : Touch) → stands_in_closure cs u ≡ false → (is_arrow_of k cs && stands_in_node k u.held) ≡ false
not_of [] k u out = refl
not_of (c ∷ cs) k u out = let parts = or_parts (stands_in_node c.1 u.held) (stands_in_closure cs u) out in here (nat_eq k c.1) refl parts.0 (not_of cs k u parts.1)
  where
    here : (b : Bool) → nat_eq k c.1 ≡ b → stands_in_node c.1 u.held ≡ false → (is_arrow_of k cs && stands_in_node k u.held) ≡ false → ((b || is_arrow_of k cs) && stands_in_node k u.held) ≡ false
    here true e this rest = ap (λ n. stands_in_node n u.held) (eqb-true k c.1 e) ∙ this
    here false e this rest = rest

no_run : (cs : Closures) (u : Touch) (f : TouchForm) → stands_in_closure cs u ≡ false → is_run_by cs u f ≡ false
no_run cs u (runs_closure k) out = not_of cs k u out
no_run cs u f out = refl

none_turned : (cs : Closures) (front us : List Touch) → none_in_closure cs (turned front us) ≡ true → (none_in_closure cs front ≡ true) × (none_in_closure cs us ≡ true)
none_turned cs [] us out = (refl, out)
none_turned cs (f ∷ front) us out =
    let rest = none_turned cs front (f ∷ us) out in
    let parts = and_parts (not (stands_in_closure cs f)) (none_in_closure cs us) rest.1 in
    (and_from (not (stands_in_closure cs f)) (none_in_closure cs front) parts.0 rest.0, parts.1)

-- ---- a touch and itself

pairs_within : (ps qs : List (ℕ × ℕ)) → ((p : ℕ × ℕ) → pair_stands p ps ≡ true → pair_stands p qs ≡ true) → all_pairs_stand ps qs ≡ true
pairs_within [] qs within = refl
pairs_within (p ∷ ps) qs within =
    and_from (pair_stands p qs) (all_pairs_stand ps qs)
    (within p (or_left (nat_eq p.0 p.0 && nat_eq p.1 p.1) (pair_stands p ps) (and_from (nat_eq p.0 p.0) (nat_eq p.1 p.1) (nat_eq-same p.0) (nat_eq-same p.1))))
    (pairs_within ps qs (λ q e. within q (or_right (nat_eq q.0 p.0 && nat_eq q.1 p.1) (pair_stands q ps) e)))

pairs_stand : (ps : List (ℕ × ℕ)) → all_pairs_stand ps ps ≡ true
pairs_stand ps = pairs_within ps ps (λ p e. e)

asked_same : (derives : Bool) (f : TouchForm) → is_asked derives f ≡ true → is_same_form f f ≡ true
asked_same derives (reads b) e = nat_eq-same b
asked_same derives names_class e = refl
asked_same derives reads_this e = refl
asked_same derives makes_class e = refl
asked_same derives f e = absurd (cc)

-- where `this` is asked it is there behind `super(..)` alone
this_asked : (derives there : Bool) (f : TouchForm) → is_asked derives f ≡ true → (there || not derives) ≡ true → (there || not (is_this f)) ≡ true
this_asked derives there reads_this e more = ap (λ b. there || not b) (sym e) ∙ more
this_asked derives there f e more = or_right there true refl

module _ (first : ℕ) (supers : List ℕ) (classes : List ClassParts) (called : Closures) (sources : List Body) where
  abbrev all_behind : List Touch → Touch → List Touch → List Touch → List Touch → Bool
  all_behind = spec.all_behind first supers classes called sources

  abbrev stands_like : Touch → List Touch → List Touch → List Touch → Bool
  stands_like = spec.stands_like first supers classes called sources

  abbrev stands_in_any : Bool → Body → Touch → List Touch → List Body → Bool
  stands_in_any = spec.stands_in_any first supers classes called sources

  abbrev in_same : Touch → List Touch → List Touch
  in_same = spec.in_same first supers classes called sources

  kept_all : (t : Touch) (us : List Touch) → stands_in_closure called t ≡ false → in_same t us ≡ us
  kept_all t [] out = refl
  kept_all t (u ∷ us) out = ap (λ b. cond b (u ∷ []) [] ++ in_same t us) (in_all called t u out) ∙ ap (λ (xs : List Touch). u ∷ xs) (kept_all t us out)

  behind_itself : (there : List Touch) (u : Touch) (us es : List Touch) → all_behind there u us us es ≡ true
  behind_itself there u us [] = refl
  behind_itself there u us (e ∷ es) =
      and_from _ (all_behind there u us us es)
      (or_right (is_asked true e.form || not (spec.is_touched e.number there)) (nat_le (spec.times e.number us) (spec.times e.number us) || spec.is_excepted u.number e.number classes)
      (or_left (nat_le (spec.times e.number us) (spec.times e.number us)) (spec.is_excepted u.number e.number classes) (nat_le-same (spec.times e.number us))))
      (behind_itself there u us es)

  as_itself : (derives : Bool) (t : Touch) (ts there : List Touch) → is_asked derives t.form ≡ true → stands_like t ts there (t ∷ ts) ≡ true
  as_itself derives t ts there asked =
      let count = spec.definitions_touched called t ts in
      or_left _ (stands_like t ts there ts)
      (and_from _ _
      (and_from (is_new first t.number || nat_eq t.number t.number) (is_same_form t.form t.form) (or_right (is_new first t.number) (nat_eq t.number t.number) (nat_eq-same t.number)) (asked_same derives t.form asked))
      (and_from (all_behind there t ts ts ts) (nat_le count count && all_pairs_stand t.held t.held) (behind_itself there t ts ts)
      (and_from (nat_le count count) (all_pairs_stand t.held t.held) (nat_le-same count) (pairs_stand t.held))))

  -- with others in front
  as_turned : (t : Touch) (ts there front us : List Touch) → stands_like t ts there us ≡ true → stands_like t ts there (turned front us) ≡ true
  as_turned t ts there [] us e = e
  as_turned t ts there (f ∷ front) us e = as_turned t ts there front (f ∷ us) (or_right _ (stands_like t ts there us) e)

  in_one : (ready : Bool) (b c : Body) (t : Touch) (ts front : List Touch) → is_asked b.derives t.form ≡ true → b.touches ≡ turned front (t ∷ ts) → is_same_body b c ≡ true
      → (spec.is_of_body first supers classes called sources ready (stands_in_closure called t) b c && ((c.derives || not (is_this t.form)) && stands_like t ts c.touches c.touches)) ≡ true
  in_one ready b c t ts front asked are same =
      let outer = and_parts (nat_eq b.number c.number) ((c.derives || not b.derives) && same_list same_touch b.touches c.touches) same in
      let inner = and_parts (c.derives || not b.derives) (same_list same_touch b.touches c.touches) outer.1 in
      let there : c.touches ≡ turned front (t ∷ ts) = sym (one_list b.touches c.touches inner.1) ∙ are in
      and_from _ _
      (or_left (nat_eq b.number c.number) _ outer.0)
      (and_from (c.derives || not (is_this t.form)) (stands_like t ts c.touches c.touches)
      (this_asked b.derives c.derives t.form asked inner.0)
      (ap (stands_like t ts c.touches) there ∙ as_turned t ts c.touches front (t ∷ ts) (as_itself b.derives t ts c.touches asked)))

  in_any : (ready : Bool) (b : Body) (t : Touch) (ts front : List Touch) (cs : List Body) → is_asked b.derives t.form ≡ true → b.touches ≡ turned front (t ∷ ts) → any_same b cs ≡ true → stands_in_any ready b t ts cs ≡ true
  in_any ready b t ts front [] asked are same = absurd (cc)
  in_any ready b t ts front (c ∷ cs) asked are same = here (is_same_body b c) refl same (in_any ready b t ts front cs asked are)
    where
      here : (is : Bool) → is_same_body b c ≡ is → (is || any_same b cs) ≡ true → (any_same b cs ≡ true → stands_in_any ready b t ts cs ≡ true) → stands_in_any ready b t ts (c ∷ cs) ≡ true
      here true e more rest = or_left _ (stands_in_any ready b t ts cs) (in_one ready b c t ts front asked are e)
      here false e more rest = or_right _ (stands_in_any ready b t ts cs) (rest more)

  behind_kept : (t : Touch) (ts front : List Touch) → stands_in_closure called t ≡ false → none_in_closure called front ≡ true → put_off_behind called t front ++ in_same t ts ≡ ts
  behind_kept t ts front out outs =
      ap (λ (xs : List Touch). xs ++ in_same t ts) (none_off called (were_run called t [] front) t front outs) ∙ kept_all t ts out

  touch_kept : (b : Body) (t : Touch) (ts front : List Touch) → b.touches ≡ turned front (t ∷ ts) → any_same b sources ≡ true → spec.touch_fits first supers classes called sources b front t ts ≡ true
  touch_kept b t ts front are same = here (is_asked b.derives t.form) refl
    where
      ready : Bool
      ready = not b.derives || spec.is_behind_super first supers classes called sources t front

      here : (is : Bool) → is_asked b.derives t.form ≡ is → spec.touch_fits first supers classes called sources b front t ts ≡ true
      here true e = or_right (not (is_asked b.derives t.form)) _ (or_right _ (stands_in_any ready b t ts sources) (in_any ready b t ts front sources e are same))
      here false e = or_left (not (is_asked b.derives t.form)) _ (not_from_false (is_asked b.derives t.form) e)

  runs_kept : (b : Body) (t : Touch) (ts front before us : List Touch) → none_in_closure called us ≡ true → spec.runs_fit first supers classes called sources b front t ts before us ≡ true
  runs_kept b t ts front before [] out = refl
  runs_kept b t ts front before (u ∷ us) out =
      let parts = and_parts (not (stands_in_closure called u)) (none_in_closure called us) out in
      and_from _ (spec.runs_fit first supers classes called sources b front t ts (u ∷ before) us)
      (or_left (not (is_run_by called u t.form)) _ (not_from_false (is_run_by called u t.form) (no_run called u t.form (not-false (stands_in_closure called u) parts.0))))
      (runs_kept b t ts front (u ∷ before) us parts.1)

  touches_kept : (b : Body) (front ts : List Touch) → b.touches ≡ turned front ts → none_in_closure called b.touches ≡ true → any_same b sources ≡ true → spec.touches_fit first supers classes called sources b front ts ≡ true
  touches_kept b front [] are out same = refl
  touches_kept b front (t ∷ ts) are out same =
      let outs = none_turned called front (t ∷ ts) (ap (none_in_closure called) (sym are) ∙ out) in
      let parts = and_parts (not (stands_in_closure called t)) (none_in_closure called ts) outs.1 in
      and_from _ (spec.touches_fit first supers classes called sources b (t ∷ front) ts)
      (and_from _ (spec.runs_fit first supers classes called sources b (t ∷ front) t ts [] b.touches)
      (ap (spec.touch_fits first supers classes called sources b front t) (behind_kept t ts front (not-false (stands_in_closure called t) parts.0) outs.0) ∙ touch_kept b t ts front are same)
      (runs_kept b t ts (t ∷ front) [] b.touches out))
      (touches_kept b (t ∷ front) ts are out same)

-- a body that is kept fits
pub kept_fits : (s : Source) (b : Body) → is_kept_body (closures_of s.called.now) (bodies_of s.bodies.now) b ≡ true → true ≡ compared.bodies_fit s (b ∷ [])
kept_fits s b kept =
    let parts = and_parts (none_in_closure (closures_of s.called.now) b.touches) (any_same b (bodies_of s.bodies.now)) kept in
    sym (and_from (compared.touches_fit s b [] b.touches) true (touches_kept s.first s.supers.now (classes_of s.classes.now) (closures_of s.called.now) (bodies_of s.bodies.now) b [] b.touches refl parts.0 parts.1) refl)

-- one body and the others
pub one_more : (s : Source) (b : Body) (bs : List Body) → compared.bodies_fit s (b ∷ bs) ≡ (compared.bodies_fit s (b ∷ []) && compared.bodies_fit s bs)
one_more s b bs = here (compared.touches_fit s b [] b.touches)
  where
    here : (fits : Bool) → (fits && compared.bodies_fit s bs) ≡ ((fits && true) && compared.bodies_fit s bs)
    here true = refl
    here false = refl
