-- A mark stands in time among all others as among those of its name that are no uses.
use Rattle.std.proofs.Common.{◌≡◌, refl, sym, ap, ◌∙◌, true≢false, ℕ, suc, ◌+◌, ◌-◌, List, [], ◌∷◌, ◌++◌, take, drop, Bool, true, false, cond, ◌&&◌, ◌||◌, nat_eq, bytes_eq, arith}
use Rattle.std.proofs.Math.Bool.{and-false}
use Rattle.std.proofs.Math.Seq.{take-nil, drop-nil}
use Rattle.std.proofs.lemmas.Bool.{ltb-true, ltb-false}
use Rattle.std.proofs.lemmas.List.{take-map, drop-map}
use Rattle.std.specs.List.{list_any}
use Rattle.std.specs.Prelude.{not, nat_lt}
use Rattle.es_base.specs.declared.ledger.LedgerEntry.{LedgerEntry}
use Rattle.es_binding_faults.specs.Leasts.{Numbers}
use Rattle.es_grouped.specs.Groups.{having}
use Rattle.es_lowered.specs.Timely as timely
use Rattle.es_lowered.specs.Timely.{Mark, MarkForm, any_gives, asks, gives_by, gives_in_time, is_called_past, is_dead, is_declaration, is_early, is_skipped, is_use}
use Rattle.es_generated.proofs.NumberedNames.{apart}
use Rattle.es_generated.specs.Spellings.{spelling_number}
use Rattle.es_steps.specs.KeptNodes.{all_pairs_stand}
use Rattle.es_steps.specs.Values.{String}
use Rattle.es_marks.proofs.InTime.{gives_front, skipped_front}
use Rattle.es_marks.specs.InTime.{stands_here, turned}
use Rattle.es_marks.specs.Located.{located}
use Rattle.es_marks.specs.Marks.{mark_of, marks_of}
use Rattle.es_marks.specs.declared.marks.Mark as code
use Rattle.es_marks.specs.Named.{any_behind, any_front, declares_name, skips_name, stands_among, with_numbers}

-- ---- tests that only pass what is no use and has a name

abbrev pub PassNoUse : (Mark → Bool) → Type 0
PassNoUse test = (d : Mark) → is_use d.form ≡ true → test d ≡ false

abbrev pub PassNamed : String → (Mark → Bool) → Type 0
PassNamed s test = (d : Mark) → bytes_eq s d.name ≡ false → test d ≡ false

gives_no_use : (f : MarkForm) (in_front later early : Bool) → is_use f ≡ true → gives_by f in_front later early ≡ false
gives_no_use timely.uses in_front later early is = refl
gives_no_use timely.needs in_front later early is = refl
gives_no_use timely.declares in_front later early is = refl
gives_no_use timely.leads in_front later early is = refl
gives_no_use timely.initializes in_front later early is = absurd (true≢false (sym is))
gives_no_use timely.hoists in_front later early is = absurd (true≢false (sym is))

declares_no_use : (f : MarkForm) → is_use f ≡ true → is_declaration f ≡ false
declares_no_use timely.uses is = refl
declares_no_use timely.needs is = refl
declares_no_use timely.declares is = absurd (true≢false (sym is))
declares_no_use timely.leads is = absurd (true≢false (sym is))
declares_no_use timely.initializes is = refl
declares_no_use timely.hoists is = refl

past_no_use : (f : MarkForm) → is_use f ≡ true → is_called_past f ≡ false
past_no_use timely.uses is = refl
past_no_use timely.needs is = refl
past_no_use timely.declares is = absurd (true≢false (sym is))
past_no_use timely.leads is = refl
past_no_use timely.initializes is = refl
past_no_use timely.hoists is = refl

module _ (m : Mark) where
  gives_passes_no_use : (in_front : Bool) → PassNoUse (gives_in_time in_front m)
  gives_passes_no_use in_front d is =
      let all = all_pairs_stand d.around.held m.around.held in
      let later = not (timely.is_needed m.form) && timely.is_later m.around.later d.around.later in
      let early = timely.is_called_early m.around.later d.around.later in
      ap (λ b. bytes_eq m.name d.name && (all && b)) (gives_no_use d.form in_front later early is)
      ∙ ap (λ b. bytes_eq m.name d.name && b) (and-false all)
      ∙ and-false (bytes_eq m.name d.name)

  gives_passes_named : (in_front : Bool) → PassNamed m.name (gives_in_time in_front m)
  gives_passes_named in_front d other =
      let later = not (timely.is_needed m.form) && timely.is_later m.around.later d.around.later in
      let early = timely.is_called_early m.around.later d.around.later in
      ap (λ b. b && (all_pairs_stand d.around.held m.around.held && gives_by d.form in_front later early)) other

  declares_passes_no_use : PassNoUse (declares_name m)
  declares_passes_no_use d is = ap (λ b. bytes_eq m.name d.name && b) (declares_no_use d.form is) ∙ and-false (bytes_eq m.name d.name)

  declares_passes_named : PassNamed m.name (declares_name m)
  declares_passes_named d other = ap (λ b. b && is_declaration d.form) other

  skips_passes_no_use : PassNoUse (skips_name m)
  skips_passes_no_use d is =
      let held = not (all_pairs_stand d.around.held m.around.held) in
      let early = timely.is_called_early m.around.called d.around.called in
      ap (λ b. bytes_eq m.name d.name && ((b && held) || (is_called_past d.form && early))) (declares_no_use d.form is)
      ∙ ap (λ b. bytes_eq m.name d.name && (b && early)) (past_no_use d.form is)
      ∙ and-false (bytes_eq m.name d.name)

  skips_passes_named : PassNamed m.name (skips_name m)
  skips_passes_named d other = ap (λ b. b && timely.is_skipped_by m d) other

  -- ---- tests of all marks

  gives_any : (in_front : Bool) (ms : List Mark) → any_gives in_front m ms ≡ list_any (gives_in_time in_front m) ms
  gives_any in_front [] = refl
  gives_any in_front (d ∷ ms) = ap (λ b. gives_in_time in_front m d || b) (gives_any in_front ms)

  dead_any : (ms : List Mark) → is_dead m ms ≡ list_any (declares_name m) ms
  dead_any [] = refl
  dead_any (d ∷ ms) = ap (λ b. declares_name m d || b) (dead_any ms)

  skipped_any : (ms : List Mark) → is_skipped m ms ≡ list_any (skips_name m) ms
  skipped_any [] = refl
  skipped_any (d ∷ ms) = ap (λ b. skips_name m d || b) (skipped_any ms)

-- ---- by places

module _ (test : Mark → Bool) where
  front_located : (c k : ℕ) (ms : List Mark) → any_front test c (located k ms) ≡ list_any test (take (c - k) ms)
  front_located c k [] = ap (list_any test) (sym (take-nil (c - k)))
  front_located c k (m ∷ ms) = here (nat_lt k c) refl (front_located c (k + 1) ms)
    where
      here : (b : Bool) → nat_lt k c ≡ b → any_front test c (located (k + 1) ms) ≡ list_any test (take (c - (k + 1)) ms) → ((b && test m) || any_front test c (located (k + 1) ms)) ≡ list_any test (take (c - k) (m ∷ ms))
      here true e h =
          let one_more : suc (c - (k + 1)) ≡ c - k = omega (arith, ltb-true k c e) in
          ap (λ b. test m || b) h ∙ ap (λ (j : ℕ). list_any test (take j (m ∷ ms))) one_more
      here false e h =
          let none : c - (k + 1) ≡ 0 = omega (arith, ltb-false k c e) in
          let none_here : 0 ≡ c - k = omega (arith, ltb-false k c e) in
          h ∙ ap (λ (j : ℕ). list_any test (take j ms)) none ∙ ap (λ (j : ℕ). list_any test (take j (m ∷ ms))) none_here

  behind_located : (c k : ℕ) (ms : List Mark) → any_behind test c (located k ms) ≡ list_any test (drop ((c + 1) - k) ms)
  behind_located c k [] = ap (list_any test) (sym (drop-nil ((c + 1) - k)))
  behind_located c k (m ∷ ms) = here (nat_lt c k) refl (behind_located c (k + 1) ms)
    where
      here : (b : Bool) → nat_lt c k ≡ b → any_behind test c (located (k + 1) ms) ≡ list_any test (drop ((c + 1) - (k + 1)) ms) → ((b && test m) || any_behind test c (located (k + 1) ms)) ≡ list_any test (drop ((c + 1) - k) (m ∷ ms))
      here true e h =
          let none : (c + 1) - (k + 1) ≡ 0 = omega (arith, ltb-true c k e) in
          let none_here : 0 ≡ (c + 1) - k = omega (arith, ltb-true c k e) in
          ap (λ b. test m || b) (h ∙ ap (λ (j : ℕ). list_any test (drop j ms)) none) ∙ ap (λ (j : ℕ). list_any test (drop j (m ∷ ms))) none_here
      here false e h =
          let one_more : suc ((c + 1) - (k + 1)) ≡ (c + 1) - k = omega (arith, ltb-false c k e) in
          h ∙ ap (λ (j : ℕ). list_any test (drop j (m ∷ ms))) one_more

from_first : (c : ℕ) → c - 0 ≡ c
from_first c = omega arith

-- ---- by the numbers of spellings

module _ (ns : Numbers) (s : String) (test : Mark → Bool) (no_use : PassNoUse test) (named : PassNamed s test) where
  abbrev pub alike : List (ℕ × Mark) → List (ℕ × Mark)
  alike xs = having (spelling_number ns s) (with_numbers ns xs)

  any_alike : (at : ℕ → Bool) (xs : List (ℕ × Mark)) → list_any (λ x. at x.0 && test x.1) (alike xs) ≡ list_any (λ x. at x.0 && test x.1) xs
  any_alike at [] = refl
  any_alike at (x ∷ xs) = here (is_use x.1.form) refl (any_alike at xs)
    where
      any : List (ℕ × Mark) → Bool
      any ys = list_any (λ y. at y.0 && test y.1) ys

      passed : test x.1 ≡ false → any (alike xs) ≡ any xs → any (alike xs) ≡ ((at x.0 && test x.1) || any xs)
      passed none h = h ∙ sym (ap (λ b. (at x.0 && b) || any xs) none ∙ ap (λ b. b || any xs) (and-false (at x.0)))

      spelled : (b : Bool) → nat_eq (spelling_number ns s) (spelling_number ns x.1.name) ≡ b → any (alike xs) ≡ any xs
          → any (cond b (x ∷ []) [] ++ alike xs) ≡ ((at x.0 && test x.1) || any xs)
      spelled true e h = ap (λ b. (at x.0 && test x.1) || b) h
      spelled false e h = passed (named x.1 (apart ns s x.1.name e)) h

      here : (b : Bool) → is_use x.1.form ≡ b → any (alike xs) ≡ any xs
          → any (having (spelling_number ns s) (cond b [] ((spelling_number ns x.1.name, x) ∷ []) ++ with_numbers ns xs)) ≡ ((at x.0 && test x.1) || any xs)
      here true e h = passed (no_use x.1 e) h
      here false e h = spelled (nat_eq (spelling_number ns s) (spelling_number ns x.1.name)) refl h

  front_alike : (c : ℕ) (ms : List Mark) → any_front test c (alike (located 0 ms)) ≡ list_any test (take c ms)
  front_alike c ms = any_alike (λ k. nat_lt k c) (located 0 ms) ∙ front_located test c 0 ms ∙ ap (λ (j : ℕ). list_any test (take j ms)) (from_first c)

  behind_alike : (c : ℕ) (ms : List Mark) → any_behind test c (alike (located 0 ms)) ≡ list_any test (drop (c + 1) ms)
  behind_alike c ms = any_alike (λ k. nat_lt c k) (located 0 ms) ∙ behind_located test c 0 ms ∙ ap (λ (j : ℕ). list_any test (drop j ms)) (from_first (c + 1))

-- ---- among all

pub stands_named : (ledger : List LedgerEntry) (ns : Numbers) (c : ℕ) (m : Mark) (ms : List Mark)
    → stands_among ledger c m (having (spelling_number ns m.name) (with_numbers ns (located 0 ms))) ≡ stands_here ledger (turned (take c ms) []) m (drop (c + 1) ms)
stands_named ledger ns c m ms =
    let dead = behind_alike ns m.name (declares_name m) (declares_passes_no_use m) (declares_passes_named m) c ms ∙ sym (dead_any m (drop (c + 1) ms)) in
    let skipped = front_alike ns m.name (skips_name m) (skips_passes_no_use m) (skips_passes_named m) c ms ∙ sym (skipped_front m (take c ms) ∙ skipped_any m (take c ms)) in
    let front = front_alike ns m.name (gives_in_time true m) (gives_passes_no_use m true) (gives_passes_named m true) c ms ∙ sym (gives_front true m (take c ms) ∙ gives_any m true (take c ms)) in
    let behind = behind_alike ns m.name (gives_in_time false m) (gives_passes_no_use m false) (gives_passes_named m false) c ms ∙ sym (gives_any m false (drop (c + 1) ms)) in
    together (is_early ledger m) (asks ledger m) dead skipped front behind
  where
    together : (early asked : Bool) {a b d e f g h i : Bool} → a ≡ b → d ≡ e → f ≡ g → h ≡ i → (not (early || (a || d)) && (not asked || (f || h))) ≡ (not (early || (b || e)) && (not asked || (g || i)))
    together early asked p q r s = rw (p, q, r, s) refl

-- the same of marks in code
pub stands_by_place : (ledger : List LedgerEntry) (ns : Numbers) (xs : List code.Mark) (i : ℕ) (m : Mark) (others : List (ℕ × Mark)) → others ≡ having (spelling_number ns m.name) (with_numbers ns (located 0 (marks_of xs)))
    → stands_among ledger i m others ≡ stands_here ledger (turned (marks_of (take i xs)) []) m (marks_of (drop (i + 1) xs))
stands_by_place ledger ns xs i m others alike =
    ap (stands_among ledger i m) alike
    ∙ stands_named ledger ns i m (marks_of xs)
    ∙ ap (λ (front : List Mark). stands_here ledger (turned front []) m (drop (i + 1) (marks_of xs))) (take-map mark_of i xs)
    ∙ ap (λ (behind : List Mark). stands_here ledger (turned (marks_of (take i xs)) []) m behind) (drop-map mark_of (i + 1) xs)
