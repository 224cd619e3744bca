-- Marks in time, one by one.
use Rattle.std.proofs.Common.{◌≡◌, refl, sym, ap, ◌∙◌, ℕ, ◌+◌, ◌-◌, ◌<◌, List, [], ◌∷◌, ◌++◌, length, take, take_all, drop, length-drop, get_or, arith, bytes_eq, Bool, true, false, cond, ◌&&◌, ◌||◌}
use Rattle.std.proofs.lemmas.List.{at_drop_more, take_more}
use Rattle.std.proofs.Math.Bool.{and_assoc, or-false}
use Rattle.std.specs.Prelude.{not, nat_eq, Option, Some}
use Rattle.es_base.specs.declared.ledger.GeneratedKind.{GeneratedKind}
use Rattle.es_base.specs.declared.ledger.LedgerEntry.{LedgerEntry}
use Rattle.es_lowered.specs.Timely as timely
use Rattle.es_lowered.specs.Timely.{Mark, any_gives, asks, gives_in_time, in_time, is_around, is_called_early, is_dead, is_early, is_later, is_skipped, is_skipped_by}
use Rattle.es_steps.specs.Values.{String}
use Rattle.es_marks.specs.Around.{later_functions}
use Rattle.es_marks.specs.InTime.{is_early_by, is_running, stands_here, turned}
use Rattle.es_marks.specs.Marks.{mark_of, marks_of}
use Rattle.es_marks.specs.declared.around.LaterFunction.{LaterFunction}
use Rattle.es_marks.specs.declared.marks.Mark as code

or_turned : (a b c : Bool) → (a || (b || c)) ≡ ((b || a) || c)
or_turned true true c = refl
or_turned true false c = refl
or_turned false true c = refl
or_turned false false c = refl

-- what is left of a list, as a slice of it
pub left_over : {X : Type 0} → (xs : List X) (i : ℕ) → take (length xs - i) (drop i xs) ≡ drop i xs
left_over xs i = take_all (length xs - i) (drop i xs) (omega (arith, length-drop i xs))

-- ---- in either order

gives_turned : (in_front : Bool) (m : Mark) (ms front : List Mark) → any_gives in_front m (turned ms front) ≡ (any_gives in_front m ms || any_gives in_front m front)
gives_turned in_front m [] front = refl
gives_turned in_front m (i ∷ ms) front = gives_turned in_front m ms (i ∷ front) ∙ or_turned (any_gives in_front m ms) (gives_in_time in_front m i) (any_gives in_front m front)

pub gives_front : (in_front : Bool) (m : Mark) (ms : List Mark) → any_gives in_front m (turned ms []) ≡ any_gives in_front m ms
gives_front in_front m ms = gives_turned in_front m ms [] ∙ or-false (any_gives in_front m ms)

skipped_turned : (m : Mark) (ms front : List Mark) → is_skipped m (turned ms front) ≡ (is_skipped m ms || is_skipped m front)
skipped_turned m [] front = refl
skipped_turned m (d ∷ ms) front = skipped_turned m ms (d ∷ front) ∙ or_turned (is_skipped m ms) (bytes_eq m.name d.name && is_skipped_by m d) (is_skipped m front)

pub skipped_front : (m : Mark) (ms : List Mark) → is_skipped m (turned ms []) ≡ is_skipped m ms
skipped_front m ms = skipped_turned m ms [] ∙ or-false (is_skipped m ms)

-- ---- all marks

last_first : (ms : List Mark) (m : Mark) (front : List Mark) → turned (ms ++ m ∷ []) front ≡ m ∷ turned ms front
last_first [] m front = refl
last_first (x ∷ ms) m front = last_first ms m (x ∷ front)

pub one_more : (ledger : List LedgerEntry) (front : List Mark) (m : Mark) (ms : List Mark) → in_time ledger front (m ∷ ms) ≡ (stands_here ledger front m ms && in_time ledger (m ∷ front) ms)
one_more ledger front m ms = sym (and_assoc (not (is_early ledger m || (is_dead m ms || is_skipped m front))) (not (asks ledger m) || (any_gives true m front || any_gives false m ms)) (in_time ledger (m ∷ front) ms))

marks_append : (xs : List code.Mark) (x : code.Mark) → marks_of (xs ++ x ∷ []) ≡ marks_of xs ++ mark_of x ∷ []
marks_append [] x = refl
marks_append (y ∷ xs) x = ap (λ (ms : List Mark). mark_of y ∷ ms) (marks_append xs x)

pub next_front : (xs : List code.Mark) (i : ℕ) (x : code.Mark) → i < length xs → turned (marks_of (take (i + 1) xs)) [] ≡ mark_of (get_or xs i x) ∷ turned (marks_of (take i xs)) []
next_front xs i x below =
    ap (λ (ys : List code.Mark). turned (marks_of ys) []) (take_more xs i x below)
    ∙ ap (λ (ms : List Mark). turned ms []) (marks_append (take i xs) (get_or xs i x))
    ∙ last_first (marks_of (take i xs)) (mark_of (get_or xs i x)) []

-- the marks from the i-th on, with those in front
abbrev pub rest_in_time : List LedgerEntry → List code.Mark → ℕ → Bool
rest_in_time ledger xs i = in_time ledger (turned (marks_of (take i xs)) []) (marks_of (drop i xs))

pub next_mark : (ledger : List LedgerEntry) (xs : List code.Mark) (i : ℕ) (x : code.Mark) → i < length xs
    → rest_in_time ledger xs i ≡ (stands_here ledger (turned (marks_of (take i xs)) []) (mark_of (get_or xs i x)) (marks_of (drop (i + 1) xs)) && rest_in_time ledger xs (i + 1))
next_mark ledger xs i x below =
    at_drop_more (λ (ys : List code.Mark). in_time ledger (turned (marks_of (take i xs)) []) (marks_of ys)) xs i x below
    ∙ one_more ledger (turned (marks_of (take i xs)) []) (mark_of (get_or xs i x)) (marks_of (drop (i + 1) xs))
    ∙ ap (λ (front : List Mark). stands_here ledger (turned (marks_of (take i xs)) []) (mark_of (get_or xs i x)) (marks_of (drop (i + 1) xs)) && in_time ledger front (marks_of (drop (i + 1) xs))) (sym (next_front xs i x below))

pub next_in_time : (ledger : List LedgerEntry) (xs : List code.Mark) (i : ℕ) (x : code.Mark) → i < length xs → x ≡ get_or xs i x
    → stands_here ledger (turned (marks_of (take i xs)) []) (mark_of x) (marks_of (drop (i + 1) xs)) ≡ true → rest_in_time ledger xs (i + 1) ≡ rest_in_time ledger xs i
next_in_time ledger xs i x below is stands =
    let front = turned (marks_of (take i xs)) [] in
    let behind = marks_of (drop (i + 1) xs) in
    sym (next_mark ledger xs i x below
    ∙ ap (λ (y : code.Mark). stands_here ledger front (mark_of y) behind && rest_in_time ledger xs (i + 1)) (sym is)
    ∙ ap (λ b. b && rest_in_time ledger xs (i + 1)) stands)

pub not_in_time : (ledger : List LedgerEntry) (xs : List code.Mark) (i : ℕ) (x : code.Mark) → i < length xs → x ≡ get_or xs i x
    → stands_here ledger (turned (marks_of (take i xs)) []) (mark_of x) (marks_of (drop (i + 1) xs)) ≡ false → rest_in_time ledger xs i ≡ false
not_in_time ledger xs i x below is fails =
    let front = turned (marks_of (take i xs)) [] in
    let behind = marks_of (drop (i + 1) xs) in
    next_mark ledger xs i x below
    ∙ ap (λ (y : code.Mark). stands_here ledger front (mark_of y) behind && rest_in_time ledger xs (i + 1)) (sym is)
    ∙ ap (λ b. b && rest_in_time ledger xs (i + 1)) fails

-- ---- functions around

early_at : (f : LaterFunction) (fs : List LaterFunction) (there : List (ℕ × Bool)) → is_later (later_functions fs) there ≡ true → is_called_early (later_functions (f ∷ fs)) there ≡ is_called_early (later_functions fs) there
early_at f fs there later = ap (λ b. cond b (is_called_early (later_functions fs) there) (not (is_around f.node there) && f.is_early)) later

pub early_behind : (xs : List LaterFunction) (i : ℕ) (there : List (ℕ × Bool)) → i < length xs → is_later (later_functions (drop (i + 1) xs)) there ≡ true → is_called_early (later_functions (drop (i + 1) xs)) there ≡ is_called_early (later_functions (drop i xs)) there
early_behind xs i there below later =
    let none : LaterFunction = record { node = 0; is_early = false } in
    sym (at_drop_more (λ (ys : List LaterFunction). is_called_early (later_functions ys) there) xs i none below ∙ early_at (get_or xs i none) (drop (i + 1) xs) there later)

pub early_more : (f : ℕ × Bool) (fs there : List (ℕ × Bool)) → is_called_early (f ∷ fs) there ≡ cond (is_later fs there) (is_called_early fs there) (not (is_around f.0 there) && f.1)
early_more f fs there = refl

-- ---- classes that run

running : (ledger : List LedgerEntry) (n : ℕ) (s : String) (ps : List (ℕ × String)) → is_running n s ps ≡ timely.is_running ledger n s ps
running ledger n s [] = refl
running ledger n s (p ∷ ps) = ap (λ b. (nat_eq n p.0 && not (bytes_eq s p.1)) || b) (running ledger n s ps)

pub early_by : (ledger : List LedgerEntry) (ps : List (ℕ × String)) (s : String) (g : Option GeneratedKind) → is_early_by ps s g ≡ timely.is_early_by ledger ps s g
early_by ledger ps s (Some (GeneratedKind.ClassTemp n)) = running ledger n.0 s ps
early_by ledger ps s g = refl
