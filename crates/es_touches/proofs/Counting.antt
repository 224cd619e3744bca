-- What is counted of the last touches of a body, one touch more in front.
use Rattle.std.proofs.Common.{◌≡◌, refl, sym, ap, ◌∙◌, inl, inr, ℕ, zero, suc, ◌+◌, ◌-◌, ◌<◌, ◌≤◌, List, [], ◌∷◌, ◌++◌, Bool, true, false, cond, not, ◌&&◌, ◌||◌, length, get_or, drop, subst, nat_eq, nat_le, arith}
use Rattle.std.proofs.lemmas.Bool.{and_from, and_parts, cases_Bool, cases_lt, eqb-true, le-leb, not_from_false, not-true, or_cases, or_left, or_right}
use Rattle.std.proofs.lemmas.List.{append-nil, at_drop_more, drop_all, drop_more, get_or_append_left, get_or_push, length_push}
use Rattle.std.proofs.Math.Nat.{le_refl}
use Rattle.es_lowered.specs.DeadZones as spec
use Rattle.es_lowered.specs.DeadZones.{Touch, is_asked, is_touched, times}
use Rattle.es_touches.specs.Comparison as compared
use Rattle.es_touches.specs.Counts.{ArePlaces, IsBound, definitions, last_of}
use Rattle.es_touches.specs.Touches.{classes_of, touch_of, touches_of}
use Rattle.es_touches.specs.declared.source.Source.{Source}
use Rattle.es_touches.specs.declared.touch.Touch as code

-- a fact of each item and its place, one item more
pub each_more : {X : Type 0} (P : ℕ → X → Type 0) (xs : List X) (x : X) → ((k : ℕ) (d : X) → k < length xs → P k (get_or xs k d)) → P (length xs) x → (k : ℕ) (d : X) → k < length (xs ++ x ∷ []) → P k (get_or (xs ++ x ∷ []) k d)
each_more {X} P xs x each here k d below = elim (cases_lt k (length xs)) [
  | inl less ↦ subst (P k) (sym (get_or_append_left xs (x ∷ []) d k less)) (each k d less)
  | inr over ↦
      let is : length xs ≡ k = omega (arith, length_push xs x) in
      subst (P k) (sym (get_or_push xs x d k is)) (subst (λ n. P n x) is here)
]

-- a fact of each number of last touches
pub last_more : {X : Type 0} (P : X → List Touch → Type 0) (xs : List code.Touch) (i : ℕ) (vs ws : List X) (v : X) → length vs + i ≡ length xs → ws ≡ vs ++ v ∷ [] → P v (touches_of (drop i xs)) → ((k : ℕ) (d : X) → k < length vs → P (get_or vs k d) (last_of k xs)) → (k : ℕ) (d : X) → k < length ws → P (get_or ws k d) (last_of k xs)
last_more {X} P xs i vs ws v size is here each =
    let at : i ≡ length xs - length vs = omega arith in
    subst (λ (us : List X). (k : ℕ) (d : X) → k < length us → P (get_or us k d) (last_of k xs)) (sym is)
    (each_more (λ k w. P w (last_of k xs)) vs v each (subst (λ n. P v (touches_of (drop n xs))) at here))

-- ---- events of a node

abbrev is_event : ℕ → Touch → Bool
is_event m t = nat_eq m t.number && not (is_asked true t.form)

no_fewer : (b : Bool) (n : ℕ) → n ≤ cond b (suc n) n
no_fewer true n = omega arith
no_fewer false n = le_refl n

one_at_most : (b : Bool) (n : ℕ) → cond b (suc n) n ≤ n + 1
one_at_most true n = omega arith
one_at_most false n = omega arith

-- fewer further behind
pub times_fewer : (m : ℕ) (xs : List code.Touch) (i j : ℕ) → i ≤ j → times m (touches_of (drop j xs)) ≤ times m (touches_of (drop i xs))
times_fewer m xs zero zero less = le_refl (times m (touches_of xs))
times_fewer m [] zero (suc j) less = le_refl 0
times_fewer m (x ∷ xs) zero (suc j) less =
    let rest : times m (touches_of (drop j xs)) ≤ times m (touches_of xs) = times_fewer m xs zero j (omega arith) in
    let more : times m (touches_of xs) ≤ times m (touch_of x ∷ touches_of xs) = no_fewer (is_event m (touch_of x)) (times m (touches_of xs)) in
    omega arith
times_fewer m xs (suc i) zero less = absurd (omega arith)
times_fewer m [] (suc i) (suc j) less = le_refl 0
times_fewer m (x ∷ xs) (suc i) (suc j) less = times_fewer m xs i j (omega arith)

untouched : (m : ℕ) (ts : List Touch) → times m ts ≡ 0 → is_touched m ts ≡ false
untouched m [] none = refl
untouched m (t ∷ ts) none = here (is_event m t) none (untouched m ts)
  where
    here : (b : Bool) → cond b (suc (times m ts)) (times m ts) ≡ 0 → (times m ts ≡ 0 → is_touched m ts ≡ false) → (b || is_touched m ts) ≡ false
    here true none rest = absurd (omega arith)
    here false none rest = rest none

times_at : (m : ℕ) (xs : List code.Touch) (i : ℕ) (d : code.Touch) → i < length xs → times m (touches_of (drop i xs)) ≡ cond (is_event m (touch_of (get_or xs i d))) (suc (times m (touches_of (drop (i + 1) xs)))) (times m (touches_of (drop (i + 1) xs)))
times_at m xs i d below = at_drop_more (λ (ys : List code.Touch). times m (touches_of ys)) xs i d below

-- how many places there are of the events of a node, one touch more in front
pub more_places : (m : ℕ) (xs : List code.Touch) (i : ℕ) (d : code.Touch) (ps qs : List ℕ) → i < length xs → length ps ≡ times m (touches_of (drop (i + 1) xs)) → qs ≡ ps ++ cond (is_event m (touch_of (get_or xs i d))) (i ∷ []) [] → length qs ≡ times m (touches_of (drop i xs))
more_places m xs i d ps qs below are is = here (is_event m (touch_of (get_or xs i d))) is (times_at m xs i d below)
  where
    here : (b : Bool) → qs ≡ ps ++ cond b (i ∷ []) [] → times m (touches_of (drop i xs)) ≡ cond b (suc (times m (touches_of (drop (i + 1) xs)))) (times m (touches_of (drop (i + 1) xs))) → length qs ≡ times m (touches_of (drop i xs))
    here true e at = omega (arith, ap length e, length_push ps i)
    here false e at = ap length (e ∙ append-nil ps) ∙ are ∙ sym at

-- and where they are
pub next_places : (m : ℕ) (xs : List code.Touch) (i : ℕ) (d : code.Touch) (ps qs : List ℕ) → i < length xs → ArePlaces ps m xs (i + 1) → qs ≡ ps ++ cond (is_event m (touch_of (get_or xs i d))) (i ∷ []) [] → ArePlaces qs m xs i
next_places m xs i d ps qs below are is = (more_places m xs i d ps qs below are.0 is, here (is_event m (touch_of (get_or xs i d))) is (times_at m xs i d below))
  where
    here : (b : Bool) → qs ≡ ps ++ cond b (i ∷ []) [] → times m (touches_of (drop i xs)) ≡ cond b (suc (times m (touches_of (drop (i + 1) xs)))) (times m (touches_of (drop (i + 1) xs))) → (k e : ℕ) → k < length qs → k + 1 ≤ times m (touches_of (drop (get_or qs k e) xs))
    here true e at =
        let last : length ps + 1 ≤ times m (touches_of (drop i xs)) = omega (arith, are.0, at) in
        subst (λ (rs : List ℕ). (k d : ℕ) → k < length rs → k + 1 ≤ times m (touches_of (drop (get_or rs k d) xs))) (sym e) (each_more (λ k p. k + 1 ≤ times m (touches_of (drop p xs))) ps i are.1 last)
    here false e at = subst (λ (rs : List ℕ). (k d : ℕ) → k < length rs → k + 1 ≤ times m (touches_of (drop (get_or rs k d) xs))) (sym (e ∙ append-nil ps)) are.1

pub none_placed : (m : ℕ) (xs : List code.Touch) (ps : List ℕ) (i : ℕ) → ps ≡ [] → length xs ≤ i → ArePlaces ps m xs i
none_placed m xs ps i none over =
    subst (λ (rs : List ℕ). ArePlaces rs m xs i) (sym none) (sym (ap (λ (ys : List code.Touch). times m (touches_of ys)) (drop_all i xs over)), λ k d below. absurd (omega arith))

-- ---- events behind a touch

-- what e asks of those behind it there
abbrev asks : List Touch → List Touch → Touch → List Touch → Bool
asks there us e ts = (is_asked true e.form || not (is_touched e.number there)) || nat_le (times e.number (e ∷ ts)) (times e.number us)

module _ (s : Source) where
  one_behind : (there us : List Touch) (u e f : Touch) (ts : List Touch) → asks there us e ts ≡ true
      → ((is_asked true f.form || not (is_touched f.number there)) || (nat_le (times f.number ts) (times f.number us) || spec.is_excepted u.number f.number (classes_of s.classes.now))) ≡ true
      → ((is_asked true f.form || not (is_touched f.number there)) || (nat_le (times f.number (e ∷ ts)) (times f.number us) || spec.is_excepted u.number f.number (classes_of s.classes.now))) ≡ true
  one_behind there us u e f ts asked before = elim (cases_Bool (is_event f.number e)) [
    | inr other ↦ ap (λ b. (is_asked true f.form || not (is_touched f.number there)) || (nat_le (cond b (suc (times f.number ts)) (times f.number ts)) (times f.number us) || spec.is_excepted u.number f.number (classes_of s.classes.now))) other ∙ before
    | inl same ↦
        let parts = and_parts (nat_eq f.number e.number) (not (is_asked true e.form)) same in
        let is : e.number ≡ f.number = sym (eqb-true f.number e.number parts.0) in
        let off : is_asked true e.form ≡ false = not-true (is_asked true e.form) parts.1 in
        elim (or_cases (is_asked true e.form || not (is_touched e.number there)) (nat_le (times e.number (e ∷ ts)) (times e.number us)) asked) [
          | inl first ↦
              let away : not (is_touched f.number there) ≡ true = subst (λ n. not (is_touched n there) ≡ true) is (sym (ap (λ b. b || not (is_touched e.number there)) off) ∙ first) in
              or_left (is_asked true f.form || not (is_touched f.number there)) _ (or_right (is_asked true f.form) (not (is_touched f.number there)) away)
          | inr enough ↦
              or_right (is_asked true f.form || not (is_touched f.number there)) _
              (or_left (nat_le (times f.number (e ∷ ts)) (times f.number us)) (spec.is_excepted u.number f.number (classes_of s.classes.now))
              (subst (λ n. nat_le (times n (e ∷ ts)) (times n us) ≡ true) is enough))
        ]
  ]

  all_more : (there us : List Touch) (u e : Touch) (ts fs : List Touch) → asks there us e ts ≡ true → compared.all_behind s there u us ts fs ≡ true → compared.all_behind s there u us (e ∷ ts) fs ≡ true
  all_more there us u e ts [] asked before = refl
  all_more there us u e ts (f ∷ fs) asked before =
      let parts = and_parts ((is_asked true f.form || not (is_touched f.number there)) || (nat_le (times f.number ts) (times f.number us) || spec.is_excepted u.number f.number (classes_of s.classes.now))) (compared.all_behind s there u us ts fs) before in
      and_from ((is_asked true f.form || not (is_touched f.number there)) || (nat_le (times f.number (e ∷ ts)) (times f.number us) || spec.is_excepted u.number f.number (classes_of s.classes.now))) (compared.all_behind s there u us (e ∷ ts) fs)
      (one_behind there us u e f ts asked parts.0)
      (all_more there us u e ts fs asked parts.1)

  next_behind : (there us : List Touch) (u e : Touch) (ts : List Touch) → asks there us e ts ≡ true → compared.all_behind s there u us ts ts ≡ true → compared.all_behind s there u us (e ∷ ts) (e ∷ ts) ≡ true
  next_behind there us u e ts asked before =
      let count = nat_le (times e.number (e ∷ ts)) (times e.number us) in
      let off = is_asked true e.form || not (is_touched e.number there) in
      and_from (off || (count || spec.is_excepted u.number e.number (classes_of s.classes.now))) (compared.all_behind s there u us (e ∷ ts) ts)
      (elim (or_cases off count asked) [
        | inl first ↦ or_left off (count || spec.is_excepted u.number e.number (classes_of s.classes.now)) first
        | inr enough ↦ or_right off (count || spec.is_excepted u.number e.number (classes_of s.classes.now)) (or_left count (spec.is_excepted u.number e.number (classes_of s.classes.now)) enough)
      ])
      (all_more there us u e ts ts asked before)

-- what has no events there, or as many behind it as it has here
asks_at : (there : List code.Touch) (ps : List ℕ) (e : Touch) (ts : List Touch) (b j : ℕ) → ArePlaces ps e.number there 0 → j < b → (is_asked true e.form ≡ false → 0 < length ps → 0 < b → (times e.number ts < length ps) × (b ≤ get_or ps (times e.number ts) 0))
    → ((is_asked true e.form || not (is_touched e.number (touches_of there))) || nat_le (times e.number (e ∷ ts)) (times e.number (touches_of (drop (j + 1) there)))) ≡ true
asks_at there ps e ts b j are below bound = elim (cases_Bool (is_asked true e.form)) [
  | inl asked ↦ or_left (is_asked true e.form || not (is_touched e.number (touches_of there))) _ (or_left (is_asked true e.form) (not (is_touched e.number (touches_of there))) asked)
  | inr off ↦
      elim (cases_lt 0 (length ps)) [
        | inr none ↦
            let no_times : times e.number (touches_of there) ≡ 0 = sym are.0 ∙ zero_at_most none in
            or_left (is_asked true e.form || not (is_touched e.number (touches_of there))) _
            (or_right (is_asked true e.form) (not (is_touched e.number (touches_of there))) (not_from_false (is_touched e.number (touches_of there)) (untouched e.number (touches_of there) no_times)))
        | inl some ↦
            let facts = bound off some (omega arith) in
            let place : ℕ = get_or ps (times e.number ts) 0 in
            let at : times e.number ts + 1 ≤ times e.number (touches_of (drop place there)) = are.1 (times e.number ts) 0 facts.0 in
            let further : j + 1 ≤ place = omega (arith, facts.1) in
            let fewer : times e.number (touches_of (drop place there)) ≤ times e.number (touches_of (drop (j + 1) there)) = times_fewer e.number there (j + 1) place further in
            let most : times e.number (e ∷ ts) ≤ times e.number ts + 1 = one_at_most (is_event e.number e) (times e.number ts) in
            or_right (is_asked true e.form || not (is_touched e.number (touches_of there))) (nat_le (times e.number (e ∷ ts)) (times e.number (touches_of (drop (j + 1) there))))
            (le-leb (times e.number (e ∷ ts)) (times e.number (touches_of (drop (j + 1) there))) (omega arith))
      ]
]
  where
    zero_at_most : {n : ℕ} → n ≤ 0 → n ≡ 0
    zero_at_most {n} none = omega arith

pub next_bound : (there : List code.Touch) (ps : List ℕ) (e : Touch) (ts : List Touch) (b c : ℕ) → ArePlaces ps e.number there 0 → IsBound there b ts → c ≤ b → (is_asked true e.form ≡ false → 0 < length ps → 0 < c → (times e.number ts < length ps) × (c ≤ get_or ps (times e.number ts) 0)) → IsBound there c (e ∷ ts)
next_bound there ps e ts b c are before lower placed =
    λ s u j below. next_behind s (touches_of there) (touches_of (drop (j + 1) there)) u e ts (asks_at there ps e ts c j are below placed) (before s u j (omega arith))

pub begun_bound : (there xs : List code.Touch) (b i : ℕ) → length xs ≤ i → IsBound there b (touches_of (drop i xs))
begun_bound there xs b i over = subst (λ (ys : List code.Touch). IsBound there b (touches_of ys)) (sym (drop_all i xs over)) (λ s u j below. refl)

-- the places of events by their nodes, there and behind the i-th touch
pub bound_at : (there xs : List code.Touch) (i : ℕ) (d : code.Touch) (ps qs : ℕ → List ℕ) (b c : ℕ) → i < length xs → ((m : ℕ) → ArePlaces (ps m) m there 0) → ((m : ℕ) → length (qs m) ≡ times m (touches_of (drop (i + 1) xs))) → IsBound there b (touches_of (drop (i + 1) xs)) → c ≤ b
    → (is_asked true (touch_of (get_or xs i d)).form ≡ false → 0 < length (ps (touch_of (get_or xs i d)).number) → 0 < c → (length (qs (touch_of (get_or xs i d)).number) < length (ps (touch_of (get_or xs i d)).number)) × (c ≤ get_or (ps (touch_of (get_or xs i d)).number) (length (qs (touch_of (get_or xs i d)).number)) 0))
    → IsBound there c (touches_of (drop i xs))
bound_at there xs i d ps qs b c below are seen before lower placed =
    let e = touch_of (get_or xs i d) in
    subst (λ (ys : List code.Touch). IsBound there c (touches_of ys)) (sym (drop_more xs i d below))
    (next_bound there (ps e.number) e (touches_of (drop (i + 1) xs)) b c (are e.number) before lower
    (subst (λ n. is_asked true e.form ≡ false → 0 < length (ps e.number) → 0 < c → (n < length (ps e.number)) × (c ≤ get_or (ps e.number) n 0)) (seen e.number) placed))

-- ---- definitions

pub next_definitions : (xs : List code.Touch) (i : ℕ) (d : code.Touch) (n m : ℕ) → i < length xs → n ≡ definitions (touches_of (drop (i + 1) xs)) → m ≡ cond (spec.is_definition (touch_of (get_or xs i d)).form) (n + 1) n → m ≡ definitions (touches_of (drop i xs))
next_definitions xs i d n m below are is = here (spec.is_definition (touch_of (get_or xs i d)).form) is (at_drop_more (λ (ys : List code.Touch). definitions (touches_of ys)) xs i d below)
  where
    here : (b : Bool) → m ≡ cond b (n + 1) n → definitions (touches_of (drop i xs)) ≡ cond b (suc (definitions (touches_of (drop (i + 1) xs)))) (definitions (touches_of (drop (i + 1) xs))) → m ≡ definitions (touches_of (drop i xs))
    here true e at = omega arith
    here false e at = omega arith

pub one_more_at_most : (b : Bool) (n m : ℕ) → m ≡ cond b (n + 1) n → m ≤ n + 1
one_more_at_most true n m is = omega arith
one_more_at_most false n m is = omega arith

pub begun_definitions : (xs : List code.Touch) (i : ℕ) → length xs ≤ i → 0 ≡ definitions (touches_of (drop i xs))
begun_definitions xs i over = sym (ap (λ (ys : List code.Touch). definitions (touches_of ys)) (drop_all i xs over))
