-- Names are single where a look-up finds one of each.
use Rattle.std.proofs.Common.{◌≡◌, refl, sym, ap, ◌∙◌, true≢false, ℕ, List, [], ◌∷◌, ◌++◌, map, Bool, true, false, cond, ◌&&◌, ◌||◌, bytes_eq, nat_eq, arith, Option, Some, None}
use Rattle.std.proofs.Math.Bool.{and-false}
use Rattle.std.proofs.lemmas.Bool.Decides.{nat_tests}
use Rattle.std.proofs.lemmas.Slice.Eq.{bytes_eq-Decides}
use Rattle.std.specs.Prelude.{not}
use Rattle.es_base.specs.Tree.{Tree}
use Rattle.es_base.specs.declared.ledger.GeneratedKind.{GeneratedKind}
use Rattle.es_base.specs.declared.ledger.LedgerEntry.{LedgerEntry}
use Rattle.es_binding_faults.specs.Leasts.{Numbers}
use Rattle.es_binding_faults.proofs.LeastNumbers.{flipped}
use Rattle.es_grouped.specs.Groups.{having}
use Rattle.es_lowered.specs.Lowered.{declared_by_kind, has_another_name, is_named_again, names_declared, same_space, same_subject}
use Rattle.es_steps.specs.KeptNodes.{is_underscored}
use Rattle.es_steps.specs.Values.{String}
use Rattle.es_generated.proofs.NumberedNames.{apart}
use Rattle.es_generated.specs.Spellings.{class_or, name_number, numbered_names, spelling_number}
use Rattle.es_owed_names.specs.Single.{all_declared, another, are_single, same_name, stands_for, subject_number, subjects, with_number}

reflexive : (n : ℕ) → nat_eq n n ≡ true
reflexive n = grind (arith, nat_tests)

either_way : (m n : ℕ) → nat_eq m n ≡ nat_eq n m
either_way m n = grind (arith, nat_tests)

itself : (s : String) → bytes_eq s s ≡ true
itself s = (bytes_eq-Decides s s).1 refl

-- ---- a search by numbers finds the same

another-having : {A : Type 0} (test : A → Bool) (key : A → ℕ) (m : ℕ) → ((x : A) → nat_eq m (key x) ≡ false → test x ≡ false) → (found : Bool) (xs : List A) → another test found (having m (map (λ x. (key x, x)) xs)) ≡ another test found xs
another-having test key m others found [] = refl
another-having {A} test key m others found (x ∷ xs) = here (nat_eq m (key x)) refl (another-having test key m others found xs) (another-having test key m others true xs)
  where
    rest : List A
    rest = having m (map (λ x. (key x, x)) xs)

    here : (b : Bool) → nat_eq m (key x) ≡ b → another test found rest ≡ another test found xs → another test true rest ≡ another test true xs
        → another test found (cond b (x ∷ []) [] ++ rest) ≡ cond (test x) (found || another test true xs) (another test found xs)
    here true is h k = ap (λ c. cond (test x) (found || c) (another test found rest)) k ∙ ap (λ c. cond (test x) (found || another test true xs) c) h
    here false is h k = h ∙ ap (λ c. cond c (found || another test true xs) (another test found xs)) (sym (others x is))

differ : (ns : Numbers) (s t : String) (g h : GeneratedKind) → nat_eq (class_or (spelling_number ns s) g) (class_or (spelling_number ns t) h) ≡ false → (same_space g h && bytes_eq s t) ≡ false
differ ns s t (GeneratedKind.Private n) (GeneratedKind.Private k) other = ap (λ b. b && bytes_eq s t) other
differ ns s t (GeneratedKind.Private n) h other = refl
differ ns s t g (GeneratedKind.Private k) other = refl
differ ns s t g h other = apart ns s t other

pub named_by_number : (ns : Numbers) (e : LedgerEntry) (es : List LedgerEntry) → another (same_name e) false (having (name_number ns e) (numbered_names ns es)) ≡ another (same_name e) false es
named_by_number ns e es = another-having (same_name e) (name_number ns) (name_number ns e) (λ x other. differ ns e.name x.name e.kind x.kind other) false es

-- ---- what names stand for

abbrev is_number : ℕ → Option ℕ → Bool
is_number n None = false
is_number n (Some k) = nat_eq n k

abbrev numbers_differ : Option ℕ → Option ℕ → Bool
numbers_differ None k = false
numbers_differ (Some m) k = is_number m k

same_numbers : (n : ℕ) (g h : GeneratedKind) → subject_number g ≡ Some n → is_number n (subject_number h) ≡ false → same_subject g h ≡ false
same_numbers n g h is other = here g h (ap (λ (o : Option ℕ). numbers_differ o (subject_number h)) is ∙ other)
  where
    here : (g h : GeneratedKind) → numbers_differ (subject_number g) (subject_number h) ≡ false → same_subject g h ≡ false
    here (GeneratedKind.WeakMap d) (GeneratedKind.WeakMap k) e = e
    here (GeneratedKind.StaticField d) (GeneratedKind.StaticField k) e = e
    here (GeneratedKind.Brand d) (GeneratedKind.Brand k) e = e
    here (GeneratedKind.Method d) (GeneratedKind.Method k) e = e
    here (GeneratedKind.LooseKey d) (GeneratedKind.LooseKey k) e = e
    here g h e = refl

at_one : (n : ℕ) (g h : GeneratedKind) (o : Option ℕ) (found : Bool) (rest : List (ℕ × GeneratedKind)) → (is_number n o ≡ false → same_subject g h ≡ false)
    → another (same_subject g) found (having n (with_number o h ++ rest)) ≡ cond (same_subject g h) (found || another (same_subject g) true (having n rest)) (another (same_subject g) found (having n rest))
at_one n g h None found rest other = ap (λ b. cond b (found || another (same_subject g) true (having n rest)) (another (same_subject g) found (having n rest))) (sym (other refl))
at_one n g h (Some k) found rest other = here (nat_eq n k) refl
  where
    here : (b : Bool) → nat_eq n k ≡ b → another (same_subject g) found (cond b (h ∷ []) [] ++ having n rest) ≡ cond (same_subject g h) (found || another (same_subject g) true (having n rest)) (another (same_subject g) found (having n rest))
    here true is = refl
    here false is = ap (λ b. cond b (found || another (same_subject g) true (having n rest)) (another (same_subject g) found (having n rest))) (sym (other is))

subjects_from : (n : ℕ) (g : GeneratedKind) (found : Bool) (es : List LedgerEntry) → subject_number g ≡ Some n → another (same_subject g) found (having n (subjects es)) ≡ another (stands_for g) found es
subjects_from n g found [] is = refl
subjects_from n g found (e ∷ es) is =
    at_one n g e.kind (subject_number e.kind) found (subjects es) (same_numbers n g e.kind is)
    ∙ ap (λ b. cond (same_subject g e.kind) (found || b) (another (same_subject g) found (having n (subjects es)))) (subjects_from n g true es is)
    ∙ ap (λ b. cond (same_subject g e.kind) (found || another (stands_for g) true es) b) (subjects_from n g found es is)

pub subjects_at : (n : ℕ) (g : GeneratedKind) (es : List LedgerEntry) → subject_number g ≡ Some n → another (same_subject g) false (having n (subjects es)) ≡ another (stands_for g) false es
subjects_at n g es is = subjects_from n g false es is

abbrev has_none : Option ℕ → Bool
has_none None = true
has_none (Some n) = false

stands_for_none : (g h : GeneratedKind) → subject_number g ≡ None → same_subject g h ≡ false
stands_for_none g h is = here g h (ap has_none is)
  where
    here : (g h : GeneratedKind) → has_none (subject_number g) ≡ true → same_subject g h ≡ false
    here (GeneratedKind.WeakMap d) h e = absurd (true≢false (sym e))
    here (GeneratedKind.StaticField d) h e = absurd (true≢false (sym e))
    here (GeneratedKind.Brand d) h e = absurd (true≢false (sym e))
    here (GeneratedKind.Method d) h e = absurd (true≢false (sym e))
    here (GeneratedKind.LooseKey d) h e = absurd (true≢false (sym e))
    here g h e = refl

pub no_subject : (g : GeneratedKind) (es : List LedgerEntry) → subject_number g ≡ None → another (stands_for g) false es ≡ false
no_subject g [] is = refl
no_subject g (e ∷ es) is = ap (λ b. cond b (another (stands_for g) true es) (another (stands_for g) false es)) (stands_for_none g e.kind is) ∙ no_subject g es is

-- ---- no two are alike where of each there is no second one

abbrev again : {A : Type 0} → (A → A → Bool) → A → List A → Bool
again same x [] = false
again same x (y ∷ ys) = same x y || again same x ys

abbrev none_again : {A : Type 0} → (A → A → Bool) → List A → Bool
none_again same [] = true
none_again same (x ∷ xs) = not (again same x xs) && none_again same xs

abbrev none_twice : {A : Type 0} → (A → A → Bool) → List A → List A → Bool
none_twice same [] ys = true
none_twice same (x ∷ xs) ys = not (another (same x) false ys) && none_twice same xs ys

neither : (a b : Bool) → (a || b) ≡ false → (a ≡ false) × (b ≡ false)
neither true b e = absurd (true≢false e)
neither false b e = (refl, e)

module _ {A : Type 0} (same : A → A → Bool) (symmetric : (x y : A) → same x y ≡ same y x) (related : (x y : A) → same x y ≡ true → same x x ≡ true) where
  one_more : (x : A) (ys : List A) → another (same x) true ys ≡ again same x ys
  one_more x [] = refl
  one_more x (y ∷ ys) = here (same x y) (one_more x ys)
    where
      here : (b : Bool) → another (same x) true ys ≡ again same x ys → cond b true (another (same x) true ys) ≡ (b || again same x ys)
      here true h = refl
      here false h = h

  unrelated : (x y : A) → same x x ≡ false → same x y ≡ false
  unrelated x y other = here (same x y) refl
    where
      here : (b : Bool) → same x y ≡ b → b ≡ false
      here true is = absurd (true≢false (sym (related x y is) ∙ other))
      here false is = refl

  none_like : (x : A) (ys : List A) → same x x ≡ false → another (same x) false ys ≡ again same x ys
  none_like x [] other = refl
  none_like x (y ∷ ys) other =
      ap (λ b. cond b (another (same x) true ys) (another (same x) false ys)) (unrelated x y other)
      ∙ none_like x ys other
      ∙ ap (λ b. b || again same x ys) (sym (unrelated x y other))

  with_itself : (x : A) (ys : List A) → another (same x) false (x ∷ ys) ≡ again same x ys
  with_itself x ys = here (same x x) refl
    where
      here : (b : Bool) → same x x ≡ b → cond b (another (same x) true ys) (another (same x) false ys) ≡ again same x ys
      here true is = one_more x ys
      here false is = none_like x ys is

  besides : (x : A) (vs ys : List A) → again same x vs ≡ false → none_twice same vs (x ∷ ys) ≡ none_twice same vs ys
  besides x [] ys none = refl
  besides x (v ∷ vs) ys none =
      let both : (same x v ≡ false) × (again same x vs ≡ false) = neither (same x v) (again same x vs) none in
      ap (λ b. not (cond b (another (same v) true ys) (another (same v) false ys)) && none_twice same vs (x ∷ ys)) (symmetric v x ∙ both.0)
      ∙ ap (λ b. not (another (same v) false ys) && b) (besides x vs ys both.1)

  next : (x : A) (xs : List A) (b : Bool) → again same x xs ≡ b → none_twice same xs xs ≡ none_again same xs → (not b && none_twice same xs (x ∷ xs)) ≡ (not b && none_again same xs)
  next x xs true is h = refl
  next x xs false is h = besides x xs xs is ∙ h

  once : (xs : List A) → none_twice same xs xs ≡ none_again same xs
  once [] = refl
  once (x ∷ xs) =
      ap (λ b. not b && none_twice same xs (x ∷ xs)) (with_itself x xs)
      ∙ next x xs (again same x xs) refl (once xs)

-- ---- names and what they stand for are so

abbrev same_member : LedgerEntry → LedgerEntry → Bool
same_member e x = same_subject e.kind x.kind

space_either_way : (g h : GeneratedKind) → same_space g h ≡ same_space h g
space_either_way (GeneratedKind.Private n) (GeneratedKind.Private k) = either_way n.0 k.0
space_either_way (GeneratedKind.Private n) h = refl
space_either_way g (GeneratedKind.Private k) = refl
space_either_way g h = refl

space_itself : (g : GeneratedKind) → same_space g g ≡ true
space_itself (GeneratedKind.Private n) = reflexive n.0
space_itself g = refl

name_symmetric : (e x : LedgerEntry) → same_name e x ≡ same_name x e
name_symmetric e x = ap (λ b. b && bytes_eq e.name x.name) (space_either_way e.kind x.kind) ∙ ap (λ b. same_space x.kind e.kind && b) (flipped e.name x.name)

name_related : (e x : LedgerEntry) → same_name e x ≡ true → same_name e e ≡ true
name_related e x is = ap (λ b. b && bytes_eq e.name e.name) (space_itself e.kind) ∙ itself e.name

subject_either_way : (g h : GeneratedKind) → same_subject g h ≡ same_subject h g
subject_either_way (GeneratedKind.WeakMap d) (GeneratedKind.WeakMap k) = either_way d.0 k.0
subject_either_way (GeneratedKind.StaticField d) (GeneratedKind.StaticField k) = either_way d.0 k.0
subject_either_way (GeneratedKind.Brand d) (GeneratedKind.Brand k) = either_way d.0 k.0
subject_either_way (GeneratedKind.Method d) (GeneratedKind.Method k) = either_way d.0 k.0
subject_either_way (GeneratedKind.LooseKey d) (GeneratedKind.LooseKey k) = either_way d.0 k.0
subject_either_way g (GeneratedKind.WeakMap k) = refl
subject_either_way g (GeneratedKind.StaticField k) = refl
subject_either_way g (GeneratedKind.Brand k) = refl
subject_either_way g (GeneratedKind.Method k) = refl
subject_either_way g (GeneratedKind.LooseKey k) = refl
subject_either_way g h = refl

subject_related : (g h : GeneratedKind) → same_subject g h ≡ true → same_subject g g ≡ true
subject_related (GeneratedKind.WeakMap d) h is = reflexive d.0
subject_related (GeneratedKind.StaticField d) h is = reflexive d.0
subject_related (GeneratedKind.Brand d) h is = reflexive d.0
subject_related (GeneratedKind.Method d) h is = reflexive d.0
subject_related (GeneratedKind.LooseKey d) h is = reflexive d.0
subject_related g h is = absurd (true≢false (sym is))

named_again : (e : LedgerEntry) (es : List LedgerEntry) → is_named_again e es ≡ again same_name e es
named_again e [] = refl
named_again e (x ∷ xs) = ap (λ b. same_name e x || b) (named_again e xs)

stands_again : (e : LedgerEntry) (es : List LedgerEntry) → has_another_name e.kind es ≡ again same_member e es
stands_again e [] = refl
stands_again e (x ∷ xs) = ap (λ b. same_member e x || b) (stands_again e xs)

-- ---- all at once

abbrev are_underscored : List LedgerEntry → Bool
are_underscored [] = true
are_underscored (e ∷ es) = is_underscored e.name && are_underscored es

each : (u n m us ns ms : Bool) → ((u && not (n || m)) && (us && (ns && ms))) ≡ ((u && us) && ((not n && ns) && (not m && ms)))
each false n m us ns ms = refl
each true true m us ns ms = sym (and-false us)
each true false true us ns ms = sym (ap (λ b. us && b) (and-false ns) ∙ and-false us)
each true false false us ns ms = refl

all_three : (es names subjects : List LedgerEntry) → are_single es names subjects ≡ (are_underscored es && (none_twice same_name es names && none_twice same_member es subjects))
all_three [] names subjects = refl
all_three (e ∷ es) names subjects =
    let n : Bool = another (same_name e) false names in
    let m : Bool = another (stands_for e.kind) false subjects in
    ap (λ b. (is_underscored e.name && not (n || m)) && b) (all_three es names subjects)
    ∙ each (is_underscored e.name) n m (are_underscored es) (none_twice same_name es names) (none_twice same_member es subjects)

with_declared : (u n m d ds us ns ms : Bool) → ((u && not (n || m)) && (d && (ds && (us && (ns && ms))))) ≡ ((d && ds) && ((u && us) && ((not n && ns) && (not m && ms))))
with_declared u n m true true us ns ms = each u n m us ns ms
with_declared u n m true false us ns ms = and-false (u && not (n || m))
with_declared u n m false ds us ns ms = and-false (u && not (n || m))

all_four : (first : ℕ) (es : List LedgerEntry) (q : Tree) → names_declared first es q ≡ (all_declared first q es && (are_underscored es && (none_again same_name es && none_again same_member es)))
all_four first [] q = refl
all_four first (e ∷ es) q =
    let u : Bool = is_underscored e.name in
    let d : Bool = declared_by_kind first q e.name e.kind in
    let ns : Bool = none_again same_name es in
    let ms : Bool = none_again same_member es in
    ap (λ b. (u && not (b || has_another_name e.kind es)) && (d && names_declared first es q)) (named_again e es)
    ∙ ap (λ b. (u && not (again same_name e es || b)) && (d && names_declared first es q)) (stands_again e es)
    ∙ ap (λ b. (u && not (again same_name e es || again same_member e es)) && (d && b)) (all_four first es q)
    ∙ with_declared u (again same_name e es) (again same_member e es) d (all_declared first q es) (are_underscored es) ns ms

pub declared_once : (first : ℕ) (es : List LedgerEntry) (q : Tree) → (all_declared first q es && are_single es es es) ≡ names_declared first es q
declared_once first es q =
    ap (λ b. all_declared first q es && b) (all_three es es es)
    ∙ ap (λ b. all_declared first q es && (are_underscored es && (b && none_twice same_member es es))) (once same_name name_symmetric name_related es)
    ∙ ap (λ b. all_declared first q es && (are_underscored es && (none_again same_name es && b))) (once same_member (λ e x. subject_either_way e.kind x.kind) (λ e x. subject_related e.kind x.kind) es)
    ∙ sym (all_four first es q)
