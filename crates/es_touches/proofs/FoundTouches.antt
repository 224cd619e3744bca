-- Touches that are found to fit by what is counted.
use Rattle.std.proofs.Common.{◌≡◌, refl, sym, ap, ◌∙◌, inl, inr, ℕ, zero, suc, ◌+◌, ◌-◌, ◌<◌, ◌≤◌, List, [], ◌∷◌, ◌++◌, Bool, true, false, cond, not, ◌&&◌, ◌||◌, length, take, drop, get_or, subst, nat_lt, nat_le, arith}
use Rattle.std.proofs.lemmas.Bool.{and_from, and_parts, cond-true, le-leb, leb-true, ltb-true, not-true, or_cases, or_left, or_right}
use Rattle.std.proofs.lemmas.List.{get_or_default, length_push}
use Rattle.std.proofs.Math.Nat.{le_refl}
use Rattle.es_lowered.specs.DeadZones.{Body, Closures, Touch, definitions_touched, is_asked, is_definition, is_in_same, is_this, stands_in_closure}
use Rattle.es_steps.specs.KeptNodes.{all_pairs_stand}
use Rattle.es_touches.proofs.Counting.{each_more}
use Rattle.es_touches.proofs.OpenBodies.{in_all}
use Rattle.es_touches.specs.Comparison as compared
use Rattle.es_touches.specs.Comparison.{none_in_closure, stands_in, turned}
use Rattle.es_touches.specs.Counts.{AreBounds, AreFound, CountsDefinitions, FitsAt, FoundTo, IsBound, IsOfSource, Stands, definitions}
use Rattle.es_touches.specs.Touches.{bodies_of, body_of, closures_of, touch_of, touches_of}
use Rattle.es_touches.specs.declared.source.Body as coded
use Rattle.es_touches.specs.declared.source.Source.{Source}
use Rattle.es_touches.specs.declared.touch.Touch as code

-- ---- definitions

no_more : (b c : Bool) (n m : ℕ) → n ≤ m → cond (b && c) (suc n) n ≤ cond b (suc m) m
no_more true true n m less = omega arith
no_more true false n m less = omega arith
no_more false c n m less = less

-- at most all
touched_at_most : (called : Closures) (t : Touch) (es : List Touch) → definitions_touched called t es ≤ definitions es
touched_at_most called t [] = le_refl 0
touched_at_most called t (e ∷ es) = no_more (is_definition e.form) (is_in_same called e t) (definitions_touched called t es) (definitions es) (touched_at_most called t es)

-- all, where none is in a closure
touched_all : (called : Closures) (t : Touch) (es : List Touch) → none_in_closure called es ≡ true → definitions es ≤ definitions_touched called t es
touched_all called t [] out = le_refl 0
touched_all called t (e ∷ es) out =
    let parts = and_parts (not (stands_in_closure called e)) (none_in_closure called es) out in
    here (is_definition e.form) (is_in_same called e t) (in_all called e t (not-true (stands_in_closure called e) parts.0)) (touched_all called t es parts.1)
  where
    here : (b c : Bool) → c ≡ true → definitions es ≤ definitions_touched called t es → cond b (suc (definitions es)) (definitions es) ≤ cond (b && c) (suc (definitions_touched called t es)) (definitions_touched called t es)
    here true true is less = omega arith
    here true false is less = absurd (cc)
    here false c is less = less

none_further : (called : Closures) (xs : List code.Touch) (i : ℕ) → none_in_closure called (touches_of xs) ≡ true → none_in_closure called (touches_of (drop i xs)) ≡ true
none_further called xs zero out = out
none_further called [] (suc i) out = refl
none_further called (x ∷ xs) (suc i) out = none_further called xs i (and_parts (not (stands_in_closure called (touch_of x))) (none_in_closure called (touches_of xs)) out).1

-- ---- one touch as another

module _ (s : Source) where
  abbrev called : Closures
  called = closures_of s.called.now

  -- as u does, with these behind
  abbrev stands_as : Touch → List Touch → List Touch → Touch → List Touch → Bool
  stands_as t ts there u us = compared.is_like s t u && (compared.all_behind s there u us ts ts && (nat_le (definitions_touched called t ts) (definitions_touched called u us) && all_pairs_stand u.held t.held))

  as_one : (t : Touch) (ts there : List Touch) (xs : List code.Touch) (j : ℕ) (d : code.Touch) → j < length xs → stands_as t ts there (touch_of (get_or xs j d)) (touches_of (drop (j + 1) xs)) ≡ true → compared.stands_like s t ts there (touches_of xs) ≡ true
  as_one t ts there [] j d below stands = absurd (omega arith)
  as_one t ts there (x ∷ xs) zero d below stands = or_left (stands_as t ts there (touch_of x) (touches_of xs)) (compared.stands_like s t ts there (touches_of xs)) stands
  as_one t ts there (x ∷ xs) (suc j) d below stands =
      let next : suc j + 1 ≡ suc (j + 1) = omega arith in
      or_right (stands_as t ts there (touch_of x) (touches_of xs)) (compared.stands_like s t ts there (touches_of xs))
      (as_one t ts there xs j d (omega arith) (subst (λ k. stands_as t ts there (touch_of (get_or xs j d)) (touches_of (drop k (x ∷ xs))) ≡ true) next stands))

  pub stands_at : (xs there : List code.Touch) (i j k l : ℕ) (d e : code.Touch) (bs ns ms : List ℕ) (b n m : ℕ) (like r : Bool)
      → r ≡ (nat_lt j b && (nat_le n m && like))
      → b ≡ get_or bs k b → n ≡ get_or ns k n → m ≡ get_or ms l m
      → like ≡ (compared.is_like s (touch_of (get_or xs i d)) (touch_of (get_or there j e)) && all_pairs_stand (touch_of (get_or there j e)).held (touch_of (get_or xs i d)).held)
      → i < length xs → j < length there → k ≡ length xs - 1 - i → l ≡ length there - 1 - j → AreBounds there bs xs → CountsDefinitions ns xs → CountsDefinitions ms there → none_in_closure called (touches_of there) ≡ true → r ≡ true → Stands s xs there i
  stands_at xs there i j k l d e bs ns ms b n m like r is is-b is-n is-m likes below below_there is-k is-l bounds counts counts_there out holds f =
      let t = touch_of (get_or xs i d) in
      let u = touch_of (get_or there j e) in
      let ts = touches_of (drop (i + 1) xs) in
      let us = touches_of (drop (j + 1) there) in
      let outer = and_parts (nat_lt j b) (nat_le n m && like) (sym is ∙ holds) in
      let inner = and_parts (nat_le n m) like outer.1 in
      let alike = and_parts (compared.is_like s t u) (all_pairs_stand u.held t.held) (sym likes ∙ inner.1) in
      let k_below : k < length bs = omega (arith, bounds.0) in
      let n_below : k < length ns = omega (arith, counts.0) in
      let l_below : l < length ms = omega (arith, counts_there.0) in
      let at : length xs - k ≡ i + 1 = omega arith in
      let at_there : length there - l ≡ j + 1 = omega arith in
      let found : IsBound there (get_or bs k b) ts = subst (λ (x : ℕ). IsBound there (get_or bs k b) (touches_of (drop x xs))) at (bounds.1 k b k_below) in
      let bound : IsBound there b ts = subst (λ (x : ℕ). IsBound there x ts) (sym is-b) found in
      let all : compared.all_behind s (touches_of there) u us ts ts ≡ true = bound s u j (ltb-true j b outer.0) in
      let here : n ≡ definitions ts = is-n ∙ counts.1 k n n_below ∙ ap (λ (x : ℕ). definitions (touches_of (drop x xs))) at in
      let over_there : m ≡ definitions us = is-m ∙ counts_there.1 l m l_below ∙ ap (λ (x : ℕ). definitions (touches_of (drop x there))) at_there in
      let fewer : n ≤ m = leb-true n m inner.0 in
      let most : definitions_touched called t ts ≤ definitions ts = touched_at_most called t ts in
      let least : definitions us ≤ definitions_touched called u us = touched_all called u us (none_further called there (j + 1) out) in
      let defined : definitions_touched called t ts ≤ definitions_touched called u us = omega arith in
      subst (λ (x : code.Touch). compared.stands_like s (touch_of x) ts (touches_of there) (touches_of there) ≡ true) (get_or_default xs i d f below)
      (as_one t ts (touches_of there) there j e below_there
      (and_from (compared.is_like s t u) _ alike.0
      (and_from (compared.all_behind s (touches_of there) u us ts ts) _ all
      (and_from (nat_le (definitions_touched called t ts) (definitions_touched called u us)) (all_pairs_stand u.held t.held) (le-leb (definitions_touched called t ts) (definitions_touched called u us) defined) alike.1))))

  -- ---- one body of the source

  in_one : (ready : Bool) (b : Body) (t : Touch) (ts : List Touch) (cs : List coded.Body) (k : ℕ) (d : coded.Body) → k < length cs → stands_in s ready b t ts (body_of (get_or cs k d)) ≡ true → compared.stands_in_any s ready b t ts (bodies_of cs) ≡ true
  in_one ready b t ts [] k d below stands = absurd (omega arith)
  in_one ready b t ts (x ∷ cs) zero d below stands = or_left (stands_in s ready b t ts (body_of x)) (compared.stands_in_any s ready b t ts (bodies_of cs)) stands
  in_one ready b t ts (x ∷ cs) (suc k) d below stands = or_right (stands_in s ready b t ts (body_of x)) (compared.stands_in_any s ready b t ts (bodies_of cs)) (in_one ready b t ts cs k d (omega arith) stands)

  pub of_source : (k : ℕ) (d : coded.Body) → k < length s.bodies.now → IsOfSource s (body_of (get_or s.bodies.now k d))
  of_source k d below = λ ready b t ts stands. in_one ready b t ts s.bodies.now k d below stands

  -- ---- touches that fit

  pub anywhere : (b : Body) (xs : List code.Touch) (i : ℕ) (d : code.Touch) (r : Bool) → r ≡ (not (is_asked b.derives (touch_of (get_or xs i d)).form) || (is_this (touch_of (get_or xs i d)).form && compared.is_behind_super s (touch_of (get_or xs i d)) (turned (touches_of (take i xs)) []))) → i < length xs → r ≡ true → FitsAt s b xs i
  anywhere b xs i d r is below holds f =
      let front = turned (touches_of (take i xs)) [] in
      let t = touch_of (get_or xs i d) in
      let ts = touches_of (drop (i + 1) xs) in
      let behind = compared.is_behind_super s t front in
      subst (λ (x : code.Touch). compared.touch_fits s b front (touch_of x) ts ≡ true) (get_or_default xs i d f below)
      (elim (or_cases (not (is_asked b.derives t.form)) (is_this t.form && behind) (sym is ∙ holds)) [
        | inl off ↦ or_left (not (is_asked b.derives t.form)) _ off
        | inr this ↦
            let parts = and_parts (is_this t.form) behind this in
            or_right (not (is_asked b.derives t.form)) _ (or_left _ _ (cond-true (is_this t.form) behind _ parts.0 ∙ parts.1))
      ])

  pub in_body : (b : Body) (c : coded.Body) (xs there : List code.Touch) (i : ℕ) (d : code.Touch) (is_of may stands r : Bool)
      → r ≡ (is_of && (may && stands))
      → is_of ≡ compared.is_of_body s (not b.derives || compared.is_behind_super s (touch_of (get_or xs i d)) (turned (touches_of (take i xs)) [])) (stands_in_closure called (touch_of (get_or xs i d))) b (body_of c)
      → may ≡ ((body_of c).derives || not (is_this (touch_of (get_or xs i d)).form))
      → (stands ≡ true → Stands s xs there i) → IsOfSource s (body_of c) → there ≡ c.touches.items → i < length xs → r ≡ true → FitsAt s b xs i
  in_body b c xs there i d is_of may stands r is of_body may_be likes among own below holds f =
      let front = turned (touches_of (take i xs)) [] in
      let t = touch_of (get_or xs i d) in
      let ts = touches_of (drop (i + 1) xs) in
      let ready = not b.derives || compared.is_behind_super s t front in
      let outer = and_parts is_of (may && stands) (sym is ∙ holds) in
      let inner = and_parts may stands outer.1 in
      let like : compared.stands_like s t ts (touches_of c.touches.items) (touches_of c.touches.items) ≡ true = subst (λ (ys : List code.Touch). compared.stands_like s t ts (touches_of ys) (touches_of ys) ≡ true) own (likes inner.1 d) in
      let whole : stands_in s ready b t ts (body_of c) ≡ true = and_from _ _ (sym of_body ∙ outer.0) (and_from _ _ (sym may_be ∙ inner.0) like) in
      subst (λ (x : code.Touch). compared.touch_fits s b front (touch_of x) ts ≡ true) (get_or_default xs i d f below)
      (or_right (not (is_asked b.derives t.form)) _ (or_right _ (compared.stands_in_any s ready b t ts (bodies_of s.bodies.now)) (among ready b t ts whole)))

  -- ---- one by one

  pub found_more : (b : Body) (xs : List code.Touch) (i : ℕ) (vs ws : List Bool) (v : Bool) → ws ≡ vs ++ v ∷ [] → (v ≡ true → FitsAt s b xs i) → FoundTo s b xs i vs → FoundTo s b xs (i + 1) ws
  found_more b xs i vs ws v is fits found =
      let at : i ≡ length vs = sym found.0 in
      let each : (k : ℕ) (d : Bool) → k < length (vs ++ v ∷ []) → get_or (vs ++ v ∷ []) k d ≡ true → FitsAt s b xs k =
      each_more (λ k w. w ≡ true → FitsAt s b xs k) vs v found.1 (subst (λ (k : ℕ). v ≡ true → FitsAt s b xs k) at fits) in
      subst (λ (us : List Bool). FoundTo s b xs (i + 1) us) (sym is) (length_push vs v ∙ ap (λ (k : ℕ). k + 1) found.0, each)

  pub found_here : (b : Body) (xs : List code.Touch) (found : List Bool) (i : ℕ) (d : code.Touch) (f : Bool) (zs : List code.Touch) → AreFound s b xs found → i < length xs → zs ≡ drop (i + 1) xs → get_or found i f ≡ true → compared.touch_fits s b (turned (touches_of (take i xs)) []) (touch_of (get_or xs i d)) (touches_of zs) ≡ true
  found_here b xs found i d f zs are below is holds =
      subst (λ (ys : List code.Touch). compared.touch_fits s b (turned (touches_of (take i xs)) []) (touch_of (get_or xs i d)) (touches_of ys) ≡ true) (sym is) (are.1 i f (omega (arith, are.0)) holds d)
