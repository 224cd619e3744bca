-- Bodies of which no touch stands in a closure that is run elsewhere: what is behind a touch is what stands behind it.
use Rattle.std.proofs.Common.{◌≡◌, refl, sym, ap, ap₂, ◌∙◌, ℕ, ◌+◌, ◌<◌, List, [], ◌∷◌, ◌++◌, Bool, true, false, cond, not, ◌&&◌, ◌||◌, length, take, drop, get_or, nat_eq}
use Rattle.std.proofs.lemmas.Bool.{and_from, and_parts, eqb-true, not-true, not_from_false, or_left, or_parts}
use Rattle.std.proofs.lemmas.List.{drop_more, map-append, take-append-drop}
use Rattle.std.proofs.Math.Bool.{and-true}
use Rattle.es_lowered.specs.DeadZones as spec
use Rattle.es_lowered.specs.DeadZones.{Body, ClassParts, Closures, Touch, TouchForm, runs_closure, is_arrow_of, is_in_same, is_run_before, is_run_by, put_off, put_off_behind, stands_in_closure, stands_in_node, were_run}
use Rattle.es_steps.specs.References.{has_number}
use Rattle.es_touches.specs.Comparison as compared
use Rattle.es_touches.specs.Comparison.{none_in_closure, one_fits, turned}
use Rattle.es_touches.specs.Touches.{bodies_of, classes_of, closures_of, touch_of, touches_of}
use Rattle.es_touches.specs.declared.source.Source.{Source}
use Rattle.es_touches.specs.declared.touch.Touch as code
use Rattle.es_touches.proofs.Comparing.{next_fits_or, next_front, next_unfit_or, rest_fits}

-- ---- what stands in no closure

pub in_all : (cs : Closures) (t u : Touch) → stands_in_closure cs t ≡ false → is_in_same cs t u ≡ true
in_all [] t u out = refl
in_all (c ∷ cs) t u out =
    let parts = or_parts (stands_in_node c.1 t.held) (stands_in_closure cs t) out in
    and_from (not (stands_in_node c.1 t.held) || stands_in_node c.1 u.held) (is_in_same cs t u)
    (or_left (not (stands_in_node c.1 t.held)) (stands_in_node c.1 u.held) (not_from_false (stands_in_node c.1 t.held) parts.0))
    (in_all cs t u parts.1)

runs_before : (cs : Closures) (ran : List ℕ) (t u : Touch) → stands_in_closure cs u ≡ false → is_run_before cs ran t u ≡ true
runs_before [] ran t u out = refl
runs_before (c ∷ cs) ran t u out =
    let parts = or_parts (stands_in_node c.1 u.held) (stands_in_closure cs u) out in
    and_from (not (stands_in_node c.1 u.held) || (stands_in_node c.1 t.held || has_number c.1 ran)) (is_run_before cs ran t u)
    (or_left (not (stands_in_node c.1 u.held)) (stands_in_node c.1 t.held || has_number c.1 ran) (not_from_false (stands_in_node c.1 u.held) parts.0))
    (runs_before cs ran t u parts.1)

none_off : (cs : Closures) (ran : List ℕ) (t : Touch) (us : List Touch) → none_in_closure cs us ≡ true → put_off cs ran t us ≡ []
none_off cs ran t [] out = refl
none_off cs ran t (u ∷ us) out =
    let parts = and_parts (not (stands_in_closure cs u)) (none_in_closure cs us) out in
    ap (λ b. cond (not b) (u ∷ []) [] ++ put_off cs ran t us) (runs_before cs ran t u (not-true (stands_in_closure cs u) parts.0)) ∙ none_off cs ran t us parts.1

not_of : (cs : Closures) (k : ℕ) (u : Touch) → stands_in_closure cs u ≡ false → (is_arrow_of k cs && stands_in_node k u.held) ≡ false
not_of [] k u out = refl
not_of (c ∷ cs) k u out = let parts = or_parts (stands_in_node c.1 u.held) (stands_in_closure cs u) out in here (nat_eq k c.1) refl parts.0 (not_of cs k u parts.1)
  where
    here : (b : Bool) → nat_eq k c.1 ≡ b → stands_in_node c.1 u.held ≡ false → (is_arrow_of k cs && stands_in_node k u.held) ≡ false → ((b || is_arrow_of k cs) && stands_in_node k u.held) ≡ false
    here true e this rest = ap (λ n. stands_in_node n u.held) (eqb-true k c.1 e) ∙ this
    here false e this rest = rest

no_run : (cs : Closures) (u : Touch) (f : TouchForm) → stands_in_closure cs u ≡ false → is_run_by cs u f ≡ false
no_run cs u (runs_closure k) out = not_of cs k u out
no_run cs u f out = refl

none_turned : (cs : Closures) (front us : List Touch) → none_in_closure cs (turned front us) ≡ true → (none_in_closure cs front ≡ true) × (none_in_closure cs us ≡ true)
none_turned cs [] us out = (refl, out)
none_turned cs (f ∷ front) us out =
    let rest = none_turned cs front (f ∷ us) out in
    let parts = and_parts (not (stands_in_closure cs f)) (none_in_closure cs us) rest.1 in
    (and_from (not (stands_in_closure cs f)) (none_in_closure cs front) parts.0 rest.0, parts.1)

module _ (first : ℕ) (supers : List ℕ) (classes : List ClassParts) (called : Closures) (sources : List Body) where
  abbrev in_same : Touch → List Touch → List Touch
  in_same = spec.in_same first supers classes called sources

  kept_all : (t : Touch) (us : List Touch) → stands_in_closure called t ≡ false → in_same t us ≡ us
  kept_all t [] out = refl
  kept_all t (u ∷ us) out = ap (λ b. cond b (u ∷ []) [] ++ in_same t us) (in_all called t u out) ∙ ap (λ (xs : List Touch). u ∷ xs) (kept_all t us out)

  behind_kept : (t : Touch) (ts front : List Touch) → stands_in_closure called t ≡ false → none_in_closure called front ≡ true → put_off_behind called t front ++ in_same t ts ≡ ts
  behind_kept t ts front out outs =
      ap (λ (xs : List Touch). xs ++ in_same t ts) (none_off called (were_run called t [] front) t front outs) ∙ kept_all t ts out

  runs_kept : (b : Body) (t : Touch) (ts front before us : List Touch) → none_in_closure called us ≡ true → spec.runs_fit first supers classes called sources b front t ts before us ≡ true
  runs_kept b t ts front before [] out = refl
  runs_kept b t ts front before (u ∷ us) out =
      let parts = and_parts (not (stands_in_closure called u)) (none_in_closure called us) out in
      and_from _ (spec.runs_fit first supers classes called sources b front t ts (u ∷ before) us)
      (or_left (not (is_run_by called u t.form)) _ (not_from_false (is_run_by called u t.form) (no_run called u t.form (not-true (stands_in_closure called u) parts.0))))
      (runs_kept b t ts front (u ∷ before) us parts.1)

  -- a touch fits by what stands in front of it and behind it
  pub open_touch : (b : Body) (t : Touch) (ts front : List Touch) → b.touches ≡ turned front (t ∷ ts) → none_in_closure called b.touches ≡ true
      → (spec.touch_fits first supers classes called sources b front t (put_off_behind called t front ++ in_same t ts) && spec.runs_fit first supers classes called sources b (t ∷ front) t ts [] b.touches) ≡ spec.touch_fits first supers classes called sources b front t ts
  open_touch b t ts front are out =
      let outs = none_turned called front (t ∷ ts) (ap (none_in_closure called) (sym are) ∙ out) in
      let parts = and_parts (not (stands_in_closure called t)) (none_in_closure called ts) outs.1 in
      ap₂ (λ x y. x && y)
      (ap (spec.touch_fits first supers classes called sources b front t) (behind_kept t ts front (not-true (stands_in_closure called t) parts.0) outs.0))
      (runs_kept b t ts (t ∷ front) [] b.touches out)
      ∙ and-true (spec.touch_fits first supers classes called sources b front t ts)

-- ---- touches one by one

turned_back : (us front vs : List Touch) → turned (turned us front) vs ≡ turned front (us ++ vs)
turned_back [] front vs = refl
turned_back (u ∷ us) front vs = turned_back us (u ∷ front) vs

around_one : (xs : List code.Touch) (i : ℕ) (d : code.Touch) → i < length xs → touches_of xs ≡ turned (turned (touches_of (take i xs)) []) (touch_of (get_or xs i d) ∷ touches_of (drop (i + 1) xs))
around_one xs i d below =
    ap touches_of (sym (take-append-drop i xs) ∙ ap (λ (ys : List code.Touch). take i xs ++ ys) (drop_more xs i d below))
    ∙ map-append touch_of (take i xs) (get_or xs i d ∷ drop (i + 1) xs)
    ∙ sym (turned_back (touches_of (take i xs)) [] (touch_of (get_or xs i d) ∷ touches_of (drop (i + 1) xs)))

open_one : (s : Source) (b : Body) (xs : List code.Touch) (i : ℕ) (d : code.Touch) → i < length xs → b.touches ≡ touches_of xs → none_in_closure (closures_of s.called.now) b.touches ≡ true
    → one_fits s b (take i xs) (take (i + 1) xs) (get_or xs i d) (drop (i + 1) xs) ≡ compared.touch_fits s b (turned (touches_of (take i xs)) []) (touch_of (get_or xs i d)) (touches_of (drop (i + 1) xs))
open_one s b xs i d below are out =
    let front = turned (touches_of (take i xs)) [] in
    let t = touch_of (get_or xs i d) in
    let ts = touches_of (drop (i + 1) xs) in
    ap (λ (fs : List Touch). compared.touch_fits s b front t (put_off_behind (closures_of s.called.now) t front ++ compared.in_same s t ts) && compared.runs_fit s b fs t ts [] b.touches) (next_front xs i d below)
    ∙ open_touch s.first s.supers.now (classes_of s.classes.now) (closures_of s.called.now) (bodies_of s.bodies.now) b t ts front (are ∙ around_one xs i d below) out

pub next_open : (s : Source) (b : Body) (xs : List code.Touch) (i : ℕ) (d : code.Touch) (zs : List code.Touch) → i < length xs → zs ≡ drop (i + 1) xs → b.touches ≡ touches_of xs → none_in_closure (closures_of s.called.now) b.touches ≡ true
    → compared.touch_fits s b (turned (touches_of (take i xs)) []) (touch_of (get_or xs i d)) (touches_of zs) ≡ true → rest_fits s b xs (i + 1) ≡ rest_fits s b xs i
next_open s b xs i d zs below is are out fits =
    next_fits_or s b xs i d (drop (i + 1) xs) below refl
    (open_one s b xs i d below are out ∙ ap (λ (ys : List code.Touch). compared.touch_fits s b (turned (touches_of (take i xs)) []) (touch_of (get_or xs i d)) (touches_of ys)) (sym is) ∙ fits)

pub next_open_unfit : (s : Source) (b : Body) (xs : List code.Touch) (i : ℕ) (d : code.Touch) (zs : List code.Touch) → i < length xs → zs ≡ drop (i + 1) xs → b.touches ≡ touches_of xs → none_in_closure (closures_of s.called.now) b.touches ≡ true
    → compared.touch_fits s b (turned (touches_of (take i xs)) []) (touch_of (get_or xs i d)) (touches_of zs) ≡ false → rest_fits s b xs i ≡ false
next_open_unfit s b xs i d zs below is are out unfit =
    next_unfit_or s b xs i d (drop (i + 1) xs) below refl
    (open_one s b xs i d below are out ∙ ap (λ (ys : List code.Touch). compared.touch_fits s b (turned (touches_of (take i xs)) []) (touch_of (get_or xs i d)) (touches_of ys)) (sym is) ∙ unfit)
