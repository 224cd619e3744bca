-- Touches in front, in either order, and one by one.
use Rattle.std.proofs.Common.{◌≡◌, refl, sym, ap, ◌∙◌, ℕ, ◌+◌, ◌-◌, ◌<◌, List, [], ◌∷◌, ◌++◌, length, take, take_all, drop, length-drop, get_or, append_assoc, cond, arith, Bool, true, false, ◌&&◌, ◌||◌}
use Rattle.std.proofs.lemmas.List.{at_drop_more, take_more}
use Rattle.std.proofs.Math.Bool.{or-false}
use Rattle.std.specs.Prelude.{not}
use Rattle.es_lowered.specs.DeadZones as spec
use Rattle.es_lowered.specs.DeadZones.{Body, Touch, TouchForm, runs_closure}
use Rattle.es_steps.specs.KeptNodes.{all_pairs_stand}
use Rattle.es_steps.specs.References.{has_number}
use Rattle.es_touches.specs.Comparison.{front_of_run, in_same, is_any_run, is_behind_super, one_fits, run_with, run_without, runs_fit, touch_fits, touches_fit, turned}
use Rattle.es_touches.specs.Touches.{closures_of, touch_of, touches_of}
use Rattle.es_touches.specs.declared.source.Source.{Source}
use Rattle.es_touches.specs.declared.touch.Touch as code

or_turned : (a b c : Bool) → (a || (b || c)) ≡ ((b || a) || c)
or_turned true true c = refl
or_turned true false c = refl
or_turned false true c = refl
or_turned false false c = refl

-- what is left of a list, as a slice of it
pub left_over : {X : Type 0} → (xs : List X) (i : ℕ) → take (length xs - i) (drop i xs) ≡ drop i xs
left_over xs i = take_all (length xs - i) (drop i xs) (omega (arith, length-drop i xs))

-- ---- in either order

super_turned : (s : Source) (t : Touch) (ts front : List Touch) → is_behind_super s t (turned ts front) ≡ (is_behind_super s t ts || is_behind_super s t front)
super_turned s t [] front = refl
super_turned s t (u ∷ ts) front = super_turned s t ts (u ∷ front) ∙ or_turned (is_behind_super s t ts) ((spec.is_call_of_super u.form || (has_number u.number s.supers.now && not (spec.is_between u.form))) && all_pairs_stand u.held t.held) (is_behind_super s t front)

pub super_front : (s : Source) (t : Touch) (ts : List Touch) → is_behind_super s t (turned ts []) ≡ is_behind_super s t ts
super_front s t ts = super_turned s t ts [] ∙ or-false (is_behind_super s t ts)

-- ---- one more in front

last_first : (ts : List Touch) (t : Touch) (front : List Touch) → turned (ts ++ t ∷ []) front ≡ t ∷ turned ts front
last_first [] t front = refl
last_first (u ∷ ts) t front = last_first ts t (u ∷ front)

touches_append : (xs : List code.Touch) (x : code.Touch) → touches_of (xs ++ x ∷ []) ≡ touches_of xs ++ touch_of x ∷ []
touches_append [] x = refl
touches_append (y ∷ xs) x = ap (λ (ts : List Touch). touch_of y ∷ ts) (touches_append xs x)

pub next_front : (xs : List code.Touch) (i : ℕ) (x : code.Touch) → i < length xs → turned (touches_of (take (i + 1) xs)) [] ≡ touch_of (get_or xs i x) ∷ turned (touches_of (take i xs)) []
next_front xs i x below =
    ap (λ (ys : List code.Touch). turned (touches_of ys) []) (take_more xs i x below)
    ∙ ap (λ (ts : List Touch). turned ts []) (touches_append (take i xs) (get_or xs i x))
    ∙ last_first (touches_of (take i xs)) (touch_of (get_or xs i x)) []

-- ---- closures that are run

-- what runs no closure adds none
pub none_added : (b : Bool) (form : TouchForm) → is_any_run form ≡ false → cond b (spec.closure_run form) [] ≡ []
none_added b (runs_closure k) runs_none = absurd (cc)
none_added true form runs_none = refl
none_added false form runs_none = refl

pub run_step : (called : spec.Closures) (t : Touch) (xs : List code.Touch) (i : ℕ) (d : code.Touch) (old new all : List ℕ) → i < length xs → new ≡ old ++ cond (spec.is_run_before called old t (touch_of (get_or xs i d))) (spec.closure_run (touch_of (get_or xs i d)).form) []
    → spec.were_run called t old (turned (touches_of (take (i + 1) xs)) []) ≡ all → spec.were_run called t new (turned (touches_of (take i xs)) []) ≡ all
run_step called t xs i d old new all below more before =
    ap (λ (ks : List ℕ). spec.were_run called t ks (turned (touches_of (take i xs)) [])) more
    ∙ ap (λ (ts : List Touch). spec.were_run called t old ts) (sym (next_front xs i d below))
    ∙ before

not_run : (cs : spec.Closures) (u : Touch) (form : TouchForm) → is_any_run form ≡ false → spec.is_run_by cs u form ≡ false
not_run cs u (runs_closure k) runs_none = absurd (cc)
not_run cs u form runs_none = refl

-- what runs no closure
pub no_runs : (s : Source) (b : Body) (front : List Touch) (t : Touch) (ts before us : List Touch) → is_any_run t.form ≡ false → runs_fit s b front t ts before us ≡ true
no_runs s b front t ts before [] runs_none = refl
no_runs s b front t ts before (u ∷ us) runs_none =
    ap (λ run. (not run || touch_fits s b front (spec.where_run t u) (spec.put_off_behind (closures_of s.called.now) (spec.in_both t u) (front_of_run s front t before) ++ (run_with s t us ++ ts))) && runs_fit s b front t ts (u ∷ before) us) (not_run (closures_of s.called.now) u t.form runs_none)
    ∙ no_runs s b front t ts (u ∷ before) us runs_none

-- ---- what stands in front where a closure is run

turned_more : (us vs front : List Touch) → turned (us ++ vs) front ≡ turned vs (turned us front)
turned_more [] vs front = refl
turned_more (u ∷ us) vs front = turned_more us vs (u ∷ front)

turned_onto : (us front : List Touch) → turned us front ≡ turned us [] ++ front
turned_onto [] front = refl
turned_onto (u ∷ us) front =
    turned_onto us (u ∷ front)
    ∙ sym (append_assoc (turned us []) (u ∷ []) front)
    ∙ ap (λ (ts : List Touch). ts ++ front) (sym (turned_onto us (u ∷ [])))

one_turned : (b : Bool) (u : Touch) (us front : List Touch) → turned (cond b (u ∷ []) [] ++ us) front ≡ turned us (cond b (u ∷ []) [] ++ front)
one_turned true u us front = refl
one_turned false u us front = refl

with_turned : (s : Source) (t : Touch) (us front : List Touch) → turned (run_with s t us) (run_with s t front) ≡ run_with s t (turned us front)
with_turned s t [] front = refl
with_turned s t (u ∷ us) front = one_turned (spec.is_run_by (closures_of s.called.now) u t.form) u (run_with s t us) (run_with s t front) ∙ with_turned s t us (u ∷ front)

without_turned : (s : Source) (t : Touch) (us front : List Touch) → turned (run_without s t us) (run_without s t front) ≡ run_without s t (turned us front)
without_turned s t [] front = refl
without_turned s t (u ∷ us) front = one_turned (not (spec.is_run_by (closures_of s.called.now) u t.form)) u (run_without s t us) (run_without s t front) ∙ without_turned s t us (u ∷ front)

pub front_turned : (s : Source) (t : Touch) (front before : List Touch) → turned (run_without s t front ++ run_with s t before) [] ≡ front_of_run s (turned front []) t (turned before [])
front_turned s t front before =
    turned_more (run_without s t front) (run_with s t before) []
    ∙ turned_onto (run_with s t before) (turned (run_without s t front) [])
    ∙ ap (λ (ts : List Touch). ts ++ turned (run_without s t front) []) (with_turned s t before [])
    ∙ ap (λ (ts : List Touch). run_with s t (turned before []) ++ ts) (without_turned s t front [])

-- the touches that t runs, from the i-th on
abbrev pub rest_runs : Source → Body → List Touch → Touch → List Touch → List code.Touch → ℕ → Bool
rest_runs s b front t ts xs i = runs_fit s b front t ts (turned (touches_of (take i xs)) []) (touches_of (drop i xs))

-- one of them with those before it and the others
abbrev pub one_runs : Source → Body → List Touch → Touch → List Touch → List code.Touch → code.Touch → List code.Touch → Bool
one_runs s b front t ts before x others =
    not (spec.is_run_by (closures_of s.called.now) (touch_of x) t.form)
    || touch_fits s b front (spec.where_run t (touch_of x)) (spec.put_off_behind (closures_of s.called.now) (spec.in_both t (touch_of x)) (front_of_run s front t (turned (touches_of before) [])) ++ (run_with s t (touches_of others) ++ ts))

next_run : (s : Source) (b : Body) (front : List Touch) (t : Touch) (ts : List Touch) (xs : List code.Touch) (i : ℕ) (x : code.Touch) → i < length xs
    → rest_runs s b front t ts xs i ≡ (one_runs s b front t ts (take i xs) (get_or xs i x) (drop (i + 1) xs) && rest_runs s b front t ts xs (i + 1))
next_run s b front t ts xs i x below =
    at_drop_more (λ (ys : List code.Touch). runs_fit s b front t ts (turned (touches_of (take i xs)) []) (touches_of ys)) xs i x below
    ∙ ap (λ (us : List Touch). one_runs s b front t ts (take i xs) (get_or xs i x) (drop (i + 1) xs) && runs_fit s b front t ts us (touches_of (drop (i + 1) xs))) (sym (next_front xs i x below))

pub next_runs : (s : Source) (b : Body) (front : List Touch) (t : Touch) (ts : List Touch) (xs : List code.Touch) (i : ℕ) (d : code.Touch) (zs : List code.Touch) → i < length xs → zs ≡ drop (i + 1) xs → one_runs s b front t ts (take i xs) (get_or xs i d) zs ≡ true → rest_runs s b front t ts xs (i + 1) ≡ rest_runs s b front t ts xs i
next_runs s b front t ts xs i d zs below is fits =
    sym (next_run s b front t ts xs i d below
    ∙ ap (λ (ys : List code.Touch). one_runs s b front t ts (take i xs) (get_or xs i d) ys && rest_runs s b front t ts xs (i + 1)) (sym is)
    ∙ ap (λ holds. holds && rest_runs s b front t ts xs (i + 1)) fits)

pub next_runs_unfit : (s : Source) (b : Body) (front : List Touch) (t : Touch) (ts : List Touch) (xs : List code.Touch) (i : ℕ) (d : code.Touch) (zs : List code.Touch) → i < length xs → zs ≡ drop (i + 1) xs → one_runs s b front t ts (take i xs) (get_or xs i d) zs ≡ false → rest_runs s b front t ts xs i ≡ false
next_runs_unfit s b front t ts xs i d zs below is fits =
    next_run s b front t ts xs i d below
    ∙ ap (λ (ys : List code.Touch). one_runs s b front t ts (take i xs) (get_or xs i d) ys && rest_runs s b front t ts xs (i + 1)) (sym is)
    ∙ ap (λ holds. holds && rest_runs s b front t ts xs (i + 1)) fits

-- ---- touches one by one

-- the touches from the i-th on, with those in front
abbrev pub rest_fits : Source → Body → List code.Touch → ℕ → Bool
rest_fits s b xs i = touches_fit s b (turned (touches_of (take i xs)) []) (touches_of (drop i xs))

pub next_touch : (s : Source) (b : Body) (xs : List code.Touch) (i : ℕ) (x : code.Touch) → i < length xs
    → rest_fits s b xs i ≡ (one_fits s b (take i xs) (take (i + 1) xs) (get_or xs i x) (drop (i + 1) xs) && rest_fits s b xs (i + 1))
next_touch s b xs i x below =
    let front = turned (touches_of (take i xs)) [] in
    let t = touch_of (get_or xs i x) in
    let behind = touches_of (drop (i + 1) xs) in
    at_drop_more (λ (ys : List code.Touch). touches_fit s b front (touches_of ys)) xs i x below
    ∙ ap (λ (fs : List Touch). (touch_fits s b front t (spec.put_off_behind (closures_of s.called.now) t front ++ in_same s t behind) && runs_fit s b fs t behind [] b.touches) && touches_fit s b fs behind) (sym (next_front xs i x below))

-- ---- what is put off, the last first

pub put_off_step : (called : spec.Closures) (ran : List ℕ) (t : Touch) (xs : List code.Touch) (i : ℕ) (d : code.Touch) (is_asked : Bool) (old new all : List Touch) → i < length xs → is_asked ≡ not (spec.is_run_before called ran t (touch_of (get_or xs i d))) → new ≡ old ++ cond is_asked (touch_of (get_or xs i d) ∷ []) []
    → old ++ spec.put_off called ran t (turned (touches_of (take (i + 1) xs)) []) ≡ all → new ++ spec.put_off called ran t (turned (touches_of (take i xs)) []) ≡ all
put_off_step called ran t xs i d is_asked old new all below is more before =
    let u = touch_of (get_or xs i d) in
    let rest = spec.put_off called ran t (turned (touches_of (take i xs)) []) in
    ap (λ (ts : List Touch). ts ++ rest) more
    ∙ append_assoc old (cond is_asked (u ∷ []) []) rest
    ∙ ap (λ b. old ++ (cond b (u ∷ []) [] ++ rest)) is
    ∙ ap (λ (ts : List Touch). old ++ spec.put_off called ran t ts) (sym (next_front xs i d below))
    ∙ before

pub next_fits_or : (s : Source) (b : Body) (xs : List code.Touch) (i : ℕ) (d : code.Touch) (zs : List code.Touch) → i < length xs → zs ≡ drop (i + 1) xs → one_fits s b (take i xs) (take (i + 1) xs) (get_or xs i d) zs ≡ true → rest_fits s b xs (i + 1) ≡ rest_fits s b xs i
next_fits_or s b xs i d zs below is fits =
    sym (next_touch s b xs i d below
    ∙ ap (λ (ys : List code.Touch). one_fits s b (take i xs) (take (i + 1) xs) (get_or xs i d) ys && rest_fits s b xs (i + 1)) (sym is)
    ∙ ap (λ holds. holds && rest_fits s b xs (i + 1)) fits)

pub next_unfit_or : (s : Source) (b : Body) (xs : List code.Touch) (i : ℕ) (d : code.Touch) (zs : List code.Touch) → i < length xs → zs ≡ drop (i + 1) xs → one_fits s b (take i xs) (take (i + 1) xs) (get_or xs i d) zs ≡ false → rest_fits s b xs i ≡ false
next_unfit_or s b xs i d zs below is fits =
    next_touch s b xs i d below
    ∙ ap (λ (ys : List code.Touch). one_fits s b (take i xs) (take (i + 1) xs) (get_or xs i d) ys && rest_fits s b xs (i + 1)) (sym is)
    ∙ ap (λ holds. holds && rest_fits s b xs (i + 1)) fits

pub fit_alike : (first : ℕ) (ns ms : List ℕ) (ks ls : List spec.ClassParts) (cs ds : spec.Closures) (xs ys us vs : List Body) → ns ≡ ms → ks ≡ ls → cs ≡ ds → xs ≡ ys → us ≡ vs → spec.bodies_fit first ns ks cs xs us ≡ spec.bodies_fit first ms ls ds ys vs
fit_alike first ns ms ks ls cs ds xs ys us vs a b c d e = rw (a, b, c, d, e) refl
