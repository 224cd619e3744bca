-- A declaration repeats a name where the least number of that name is less than its own.
use Rattle.std.proofs.Common.{◌≡◌, refl, sym, ap, ◌∙◌, ℕ, ◌+◌, ◌<◌, List, [], ◌∷◌, ◌++◌, Bool, true, false, cond, ◌||◌, Option, Some, None, arith, ◌≤◌, length, drop, get_or}
use Rattle.std.specs.Prelude.{bytes_eq, ◌&&◌, nat_lt, filter}
use Rattle.std.specs.Str.{chars}
use Rattle.std.proofs.lemmas.Bool.Decides.{nat_tests}
use Rattle.std.proofs.lemmas.List.{at_drop_more, at_drop_all}
use Rattle.es_steps.specs.References.{has_number, numbers_of}
use Rattle.es_steps.specs.Scopes.{Declaration}
use Rattle.es_validity.specs.Facts.{not_among, is_repeated_by, is_repeat, repeats}
use Rattle.es_binding_faults.proofs.LeastNumbers.{flipped}
use Rattle.es_binding_faults.specs.Leasts.{lesser}
use Rattle.es_binding_faults.specs.Named.{named, plain, plain_one}
use Rattle.es_binding_faults.specs.Repeats.{least_from, is_below, is_lexical}
use Rattle.es_binding_faults.specs.declared.bound.Declared.{Declared}

-- ---- a declaration of a name with a lesser number

earlier : List ℕ → ℕ → List Declaration → Bool
earlier s n [] = false
earlier s n (e ∷ es) = (bytes_eq s e.spelling && nat_lt e.number n) || earlier s n es

or_false : (b : Bool) → b ≡ (b || false)
or_false true = refl
or_false false = refl

grouped : (a b c : Bool) → ((a || b) || c) ≡ (a || (b || c))
grouped true b c = refl
grouped false b c = refl

lesser_below : (o : Option ℕ) (m n : ℕ) → nat_lt (lesser o m) n ≡ (is_below o n || nat_lt m n)
lesser_below None m n = refl
lesser_below (Some k) m n = grind (arith, nat_tests)

met_below : (b : Bool) (o : Option ℕ) (m n : ℕ) → is_below (cond b (Some (lesser o m)) o) n ≡ (is_below o n || (b && nat_lt m n))
met_below true o m n = lesser_below o m n
met_below false o m n = or_false (is_below o n)

below_from : (s : List ℕ) (n : ℕ) (ds : List Declaration) (o : Option ℕ) → is_below (least_from s o ds) n ≡ (is_below o n || earlier s n ds)
unfolding earlier
below_from s n [] o = or_false (is_below o n)
below_from s n (d ∷ ds) o =
    below_from s n ds (cond (bytes_eq s d.spelling) (Some (lesser o d.number)) o)
    ∙ ap (λ b. b || earlier s n ds) (met_below (bytes_eq s d.spelling) o d.number n)
    ∙ grouped (is_below o n) (bytes_eq s d.spelling && nat_lt d.number n) (earlier s n ds)

-- ---- that it is lexical, or the one before is

both_lexical : (a b c : Bool) → (a && (b && (c || true))) ≡ (a && b)
both_lexical true true true = refl
both_lexical true true false = refl
both_lexical true false c = refl
both_lexical false b c = refl

repeats_any : (lexical : List ℕ) (d : Declaration) → has_number d.number lexical ≡ true → (ds : List Declaration) → is_repeat lexical ds d ≡ earlier d.spelling d.number ds
unfolding earlier
repeats_any lexical d is [] = refl
repeats_any lexical d is (e ∷ es) =
    ap (λ b. (bytes_eq e.spelling d.spelling && (nat_lt e.number d.number && (has_number e.number lexical || b))) || is_repeat lexical es d) is
    ∙ ap (λ b. b || is_repeat lexical es d) (both_lexical (bytes_eq e.spelling d.spelling) (nat_lt e.number d.number) (has_number e.number lexical))
    ∙ ap (λ b. (b && nat_lt e.number d.number) || is_repeat lexical es d) (flipped e.spelling d.spelling)
    ∙ ap (λ b. (bytes_eq d.spelling e.spelling && nat_lt e.number d.number) || b) (repeats_any lexical d is es)

one_lexical : (s : List ℕ) (n : ℕ) (e : Declaration) (es : List Declaration) (c : Bool) → ((bytes_eq s e.spelling && (nat_lt e.number n && (c || false))) || earlier s n es) ≡ earlier s n (cond c (e ∷ es) es)
unfolding earlier
one_lexical s n e es true = ap (λ b. b || earlier s n es) (both_lexical (bytes_eq s e.spelling) (nat_lt e.number n) true)
one_lexical s n e es false = ap (λ b. b || earlier s n es) (never (bytes_eq s e.spelling) (nat_lt e.number n))
  where
    never : (a b : Bool) → (a && (b && false)) ≡ false
    never true true = refl
    never true false = refl
    never false b = refl

repeats_lexical : (lexical : List ℕ) (d : Declaration) → has_number d.number lexical ≡ false → (ds : List Declaration) → is_repeat lexical ds d ≡ earlier d.spelling d.number (filter (is_lexical lexical) ds)
unfolding earlier
repeats_lexical lexical d is [] = refl
repeats_lexical lexical d is (e ∷ es) =
    ap (λ b. (bytes_eq e.spelling d.spelling && (nat_lt e.number d.number && (has_number e.number lexical || b))) || is_repeat lexical es d) is
    ∙ ap (λ b. (b && (nat_lt e.number d.number && (has_number e.number lexical || false))) || is_repeat lexical es d) (flipped e.spelling d.spelling)
    ∙ ap (λ b. (bytes_eq d.spelling e.spelling && (nat_lt e.number d.number && (has_number e.number lexical || false))) || b) (repeats_lexical lexical d is es)
    ∙ one_lexical d.spelling d.number e (filter (is_lexical lexical) es) (has_number e.number lexical)

-- ---- by the least numbers

pub repeat_of_all : (lexical : List ℕ) (ds : List Declaration) (d : Declaration) → has_number d.number lexical ≡ true → is_below (least_from d.spelling None ds) d.number ≡ is_repeat lexical ds d
repeat_of_all lexical ds d is = below_from d.spelling d.number ds None ∙ sym (repeats_any lexical d is ds)

pub repeat_of_lexical : (lexical : List ℕ) (ds : List Declaration) (d : Declaration) → has_number d.number lexical ≡ false → is_below (least_from d.spelling None (filter (is_lexical lexical) ds)) d.number ≡ is_repeat lexical ds d
repeat_of_lexical lexical ds d is = below_from d.spelling d.number (filter (is_lexical lexical) ds) None ∙ sym (repeats_lexical lexical d is ds)

-- ---- classes do not matter

filter-plain : (p : Declaration → Bool) → ((d : Declaration) → p (plain_one d) ≡ p d) → (ds : List Declaration) → filter p (plain ds) ≡ plain (filter p ds)
filter-plain p same [] = refl
filter-plain p same (d ∷ ds) =
    ap (λ b. cond b (plain_one d ∷ filter p (plain ds)) (filter p (plain ds))) (same d)
    ∙ ap (λ (es : List Declaration). cond (p d) (plain_one d ∷ es) es) (filter-plain p same ds)
    ∙ chosen (p d)
  where
    chosen : (b : Bool) → cond b (plain_one d ∷ plain (filter p ds)) (plain (filter p ds)) ≡ plain (cond b (d ∷ filter p ds) (filter p ds))
    chosen true = refl
    chosen false = refl

pub not_among-plain : (ns : List ℕ) (ds : List Declaration) → filter (not_among ns) (plain ds) ≡ plain (filter (not_among ns) ds)
not_among-plain ns ds = filter-plain (not_among ns) (λ d. refl) ds

is_repeat-plain : (lexical : List ℕ) (ds : List Declaration) (d : Declaration) → is_repeat lexical (plain ds) d ≡ is_repeat lexical ds d
is_repeat-plain lexical [] d = refl
is_repeat-plain lexical (e ∷ es) d = ap (λ b. is_repeated_by lexical e d || b) (is_repeat-plain lexical es d)

numbers-plain : (ds : List Declaration) → numbers_of (plain ds) ≡ numbers_of ds
numbers-plain [] = refl
numbers-plain (d ∷ ds) = ap (λ ns. d.number ∷ ns) (numbers-plain ds)

filter-same : (p q : Declaration → Bool) → ((d : Declaration) → p d ≡ q d) → (ds : List Declaration) → filter p ds ≡ filter q ds
filter-same p q same [] = refl
filter-same p q same (d ∷ ds) = ap (λ b. cond b (d ∷ filter p ds) (filter p ds)) (same d) ∙ ap (λ es. cond (q d) (d ∷ es) es) (filter-same p q same ds)

repeat_of_plain : (lexical : List ℕ) (ds : List Declaration) (d : Declaration) → is_repeat lexical ds (plain_one d) ≡ is_repeat lexical ds d
repeat_of_plain lexical [] d = refl
repeat_of_plain lexical (e ∷ es) d = ap (λ b. is_repeated_by lexical e d || b) (repeat_of_plain lexical es d)

pub repeats-plain : (lexical : List ℕ) (ds : List Declaration) → repeats lexical (plain ds) ≡ repeats lexical ds
repeats-plain lexical ds =
    ap numbers_of (filter-same (is_repeat lexical (plain ds)) (is_repeat lexical ds) (is_repeat-plain lexical ds) (plain ds) ∙ filter-plain (is_repeat lexical ds) (repeat_of_plain lexical ds) ds)
    ∙ numbers-plain (filter (is_repeat lexical ds) ds)

-- ---- one more of a filtered list

pub filter_one : {X : Type 0} (p : X → Bool) (x : X) (xs : List X) → filter p (x ∷ xs) ≡ cond (p x) (x ∷ []) [] ++ filter p xs
filter_one p x xs = elim (p x) as (λ b. cond b (x ∷ filter p xs) (filter p xs) ≡ cond b (x ∷ []) [] ++ filter p xs) [ true ↦ refl | false ↦ refl ]

-- what a list of declarations in code has past its end
abbrev pub any_declared : Declared
any_declared = record { name = record { ref_ptr = (0, 0); now = [] }; node = record { 0 = 0 } }

-- ---- the least numbers, one more

pub next_least : (s : List ℕ) (o next : Option ℕ) (all : Option ℕ) (ds : List Declared) (i : ℕ) (d : Declared) → i < length ds → next ≡ cond (bytes_eq s (chars (get_or ds i d).name.now)) (Some (lesser o (get_or ds i d).node.0)) o
    → least_from s o (named (drop i ds)) ≡ all → least_from s next (named (drop (i + 1) ds)) ≡ all
next_least s o next all ds i d below is before =
    ap (λ (m : Option ℕ). least_from s m (named (drop (i + 1) ds))) is
    ∙ sym (at_drop_more (λ (xs : List Declared). least_from s o (named xs)) ds i d below)
    ∙ before

pub all_leasts : (s : List ℕ) (o all : Option ℕ) (ds : List Declared) (i : ℕ) → length ds ≤ i → least_from s o (named (drop i ds)) ≡ all → o ≡ all
all_leasts s o all ds i over before = sym (at_drop_all (λ (xs : List Declared). least_from s o (named xs)) ds i over) ∙ before

-- ---- one more that repeats

pub repeat_one : (lexical : List ℕ) (all : List Declaration) (d : Declaration) (ds : List Declaration) → numbers_of (filter (is_repeat lexical all) (d ∷ ds)) ≡ cond (is_repeat lexical all d) (d.number ∷ []) [] ++ numbers_of (filter (is_repeat lexical all) ds)
repeat_one lexical all d ds = elim (is_repeat lexical all d) as (λ b. numbers_of (cond b (d ∷ filter (is_repeat lexical all) ds) (filter (is_repeat lexical all) ds)) ≡ cond b (d.number ∷ []) [] ++ numbers_of (filter (is_repeat lexical all) ds)) [ true ↦ refl | false ↦ refl ]

-- ---- where no declaration is lexical

never_earlier : (s : List ℕ) (n : ℕ) → earlier s n [] ≡ false
unfolding earlier
never_earlier s n = refl

is_one : {X : Type 0} (b : Bool) (x : X) (xs : List X) → cond b (x ∷ xs) xs ≡ [] → (b ≡ false) × (xs ≡ [])
is_one true x xs e = absurd (cc)
is_one false x xs e = (refl, e)

never_repeats : (lexical : List ℕ) (all : List Declaration) → filter (is_lexical lexical) all ≡ [] → (ds : List Declaration) → filter (is_lexical lexical) ds ≡ [] → filter (is_repeat lexical all) ds ≡ []
never_repeats lexical all none [] e = refl
never_repeats lexical all none (d ∷ ds) e =
    let apart = is_one (has_number d.number lexical) d (filter (is_lexical lexical) ds) e in
    let not_it : is_repeat lexical all d ≡ false = repeats_lexical lexical d apart.0 all ∙ ap (earlier d.spelling d.number) none ∙ never_earlier d.spelling d.number in
    ap (λ c. cond c (d ∷ filter (is_repeat lexical all) ds) (filter (is_repeat lexical all) ds)) not_it ∙ never_repeats lexical all none ds apart.1

pub no_repeats : (lexical : List ℕ) (ds : List Declaration) → filter (is_lexical lexical) ds ≡ [] → repeats lexical ds ≡ []
no_repeats lexical ds none = ap numbers_of (never_repeats lexical ds none ds none)
