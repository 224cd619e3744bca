-- Earlier names, by the numbers of those in front.
use Rattle.std.proofs.Common.{◌≡◌, refl, sym, ap, ◌∙◌, ℕ, ◌+◌, ◌<◌, ◌≤◌, List, [], ◌∷◌, ◌++◌, Bool, true, false, cond, length, drop, get_or, append_assoc, append-nil, Option, Some, None}
use Rattle.std.proofs.lemmas.List.{at_drop_more, at_drop_all}
use Rattle.std.proofs.lemmas.Slice.Eq.{bytes_eq-Decides}
use Rattle.std.specs.Prelude.{bytes_eq, option_map}
use Rattle.std.specs.Str.{chars}
use Rattle.es_binding_faults.specs.Leasts.{Numbers, number_of}
use Rattle.es_binding_faults.specs.Named.{declaration_of, named, plain, plain_one}
use Rattle.es_binding_faults.specs.declared.bound.Declared.{Declared}
use Rattle.es_steps.specs.References.{declared}
use Rattle.es_steps.specs.Scopes.{Declaration}
use Rattle.es_steps.specs.Shared.{shared_behind, shared_with, with_earlier}
use Rattle.es_steps.specs.Values.{String}
use Rattle.es_shared_names.specs.Earlier.{declared_number, or_number, shared_after, shared_among, with_number}

earlier_number : (n : ℕ) (o : Option Declaration) → with_number n (option_map (λ (d : Declaration). d.number) o) ≡ with_earlier n o
earlier_number n None = refl
earlier_number n (Some d) = refl

one_in_front : (s : String) (d : Declaration) (ds : List Declaration) → cond (bytes_eq s d.spelling) (Some d.number) (declared_number s ds) ≡ declared_number s (d ∷ ds)
one_in_front s d ds = here (bytes_eq s d.spelling)
  where
    here : (b : Bool) → cond b (Some d.number) (declared_number s ds) ≡ option_map (λ (x : Declaration). x.number) (cond b (Some d) (declared s ds))
    here true = refl
    here false = refl

-- ---- the nearest in front

after-same : (f g : String → Option ℕ) (ds : List Declaration) → ((s : String) → f s ≡ g s) → shared_after f ds ≡ shared_after g ds
after-same f g [] same = refl
after-same f g (d ∷ ds) same =
    ap (λ o. with_number d.number o ++ shared_after (λ s. cond (bytes_eq s d.spelling) (Some d.number) (f s)) ds) (same d.spelling)
    ∙ ap (λ xs. with_number d.number (g d.spelling) ++ xs) (after-same (λ s. cond (bytes_eq s d.spelling) (Some d.number) (f s)) (λ s. cond (bytes_eq s d.spelling) (Some d.number) (g s)) ds (λ s. ap (λ o. cond (bytes_eq s d.spelling) (Some d.number) o) (same s)))

after-behind : (front ds : List Declaration) → shared_after (λ s. declared_number s front) ds ≡ shared_behind front ds
after-behind front [] = refl
after-behind front (d ∷ ds) =
    ap (λ xs. xs ++ shared_after (λ s. cond (bytes_eq s d.spelling) (Some d.number) (declared_number s front)) ds) (earlier_number d.number (declared d.spelling front))
    ∙ ap (λ xs. with_earlier d.number (declared d.spelling front) ++ xs) (after-same (λ s. cond (bytes_eq s d.spelling) (Some d.number) (declared_number s front)) (λ s. declared_number s (d ∷ front)) ds (λ s. one_in_front s d front) ∙ after-behind (d ∷ front) ds)

pub behind_none : (ds : List Declaration) → shared_after (λ s. number_of s []) ds ≡ shared_behind [] ds
behind_none ds = after-behind [] ds

pub behind_step : (old new all : List (ℕ × ℕ)) (ns ms : Numbers) (xs : List Declared) (i : ℕ) (d : Declared) → i < length xs
    → ((s : List ℕ) → number_of s ms ≡ cond (bytes_eq s (chars (get_or xs i d).name.now)) (Some (get_or xs i d).node.0) (number_of s ns))
    → new ≡ old ++ with_number (get_or xs i d).node.0 (number_of (chars (get_or xs i d).name.now) ns)
    → old ++ shared_after (λ s. number_of s ns) (named (drop i xs)) ≡ all
    → new ++ shared_after (λ s. number_of s ms) (named (drop (i + 1) xs)) ≡ all
behind_step old new all ns ms xs i d below set added before =
    let x : Declared = get_or xs i d in
    let rest = named (drop (i + 1) xs) in
    ap (λ ys. ys ++ shared_after (λ s. number_of s ms) rest) added
    ∙ append_assoc old (with_number x.node.0 (number_of (chars x.name.now) ns)) (shared_after (λ s. number_of s ms) rest)
    ∙ ap (λ ys. old ++ (with_number x.node.0 (number_of (chars x.name.now) ns) ++ ys)) (after-same (λ s. number_of s ms) (λ s. cond (bytes_eq s (chars x.name.now)) (Some x.node.0) (number_of s ns)) rest set)
    ∙ ap (λ ys. old ++ ys) (sym (at_drop_more (λ (ys : List Declared). shared_after (λ s. number_of s ns) (named ys)) xs i d below))
    ∙ before

pub behind_end : (old all : List (ℕ × ℕ)) (ns : Numbers) (xs : List Declared) (i : ℕ) → length xs ≤ i → old ++ shared_after (λ s. number_of s ns) (named (drop i xs)) ≡ all → old ≡ all
behind_end old all ns xs i over before = sym (append-nil old) ∙ ap (λ ys. old ++ ys) (sym (at_drop_all (λ (ys : List Declared). shared_after (λ s. number_of s ns) (named ys)) xs i over)) ∙ before

-- ---- the first of those in front

pub among_firsts : (firsts : String → Option ℕ) (front ds : List Declaration) → ((s : String) → firsts s ≡ declared_number s front) → shared_among firsts ds ≡ shared_with front ds
among_firsts firsts front [] same = refl
among_firsts firsts front (d ∷ ds) same =
    ap (λ o. with_number d.number o ++ shared_among firsts ds) (same d.spelling)
    ∙ ap (λ xs. xs ++ shared_among firsts ds) (earlier_number d.number (declared d.spelling front))
    ∙ ap (λ xs. with_earlier d.number (declared d.spelling front) ++ xs) (among_firsts firsts front ds same)

or_none : (o : Option ℕ) → or_number o None ≡ o
or_none None = refl
or_none (Some n) = refl

pub set_first : (ns : Numbers) (name : List ℕ) (n : ℕ) (s : List ℕ) → None ≡ number_of name ns → cond (bytes_eq s name) (Some n) (number_of s ns) ≡ or_number (number_of s ns) (cond (bytes_eq s name) (Some n) None)
set_first ns name n s none = elim (bytes_eq s name) as (λ b. bytes_eq s name ≡ b → cond b (Some n) (number_of s ns) ≡ or_number (number_of s ns) (cond b (Some n) None)) [
  | true ↦ λ e. ap (λ o. or_number o (Some n)) (none ∙ ap (λ x. number_of x ns) (sym ((bytes_eq-Decides s name).0 e)))
  | false ↦ λ e. sym (or_none (number_of s ns))
] refl

pub kept_first : (ns : Numbers) (name : List ℕ) (n k : ℕ) (s : List ℕ) → Some k ≡ number_of name ns → number_of s ns ≡ or_number (number_of s ns) (cond (bytes_eq s name) (Some n) None)
kept_first ns name n k s there = elim (bytes_eq s name) as (λ b. bytes_eq s name ≡ b → number_of s ns ≡ or_number (number_of s ns) (cond b (Some n) None)) [
  | true ↦ λ e.
      let here : number_of s ns ≡ Some k = ap (λ x. number_of x ns) ((bytes_eq-Decides s name).0 e) ∙ sym there in
      here ∙ ap (λ o. or_number o (Some n)) (sym here)
  | false ↦ λ e. sym (or_none (number_of s ns))
] refl

abbrev pub AreFirsts : Numbers → List Declared → ℕ → Type 0
AreFirsts ns xs i = (s : List ℕ) → or_number (number_of s ns) (declared_number s (named (drop i xs))) ≡ declared_number s (named xs)

behind_one : (xs : List Declared) (i : ℕ) (d : Declared) (o : Option ℕ) (s : String) → i < length xs → or_number o (declared_number s (named (get_or xs i d ∷ drop (i + 1) xs))) ≡ or_number o (declared_number s (named (drop i xs)))
behind_one xs i d o s below = sym (at_drop_more (λ (ys : List Declared). or_number o (declared_number s (named ys))) xs i d below)

or_either : (o p : Option ℕ) (b : Bool) (n : ℕ) → or_number (or_number o (cond b (Some n) None)) p ≡ or_number o (cond b (Some n) p)
or_either (Some m) p b n = refl
or_either None p true n = refl
or_either None p false n = refl

pub firsts_step : (ns ms : Numbers) (xs : List Declared) (i : ℕ) (d : Declared) → i < length xs
    → ((s : List ℕ) → number_of s ms ≡ or_number (number_of s ns) (cond (bytes_eq s (chars (get_or xs i d).name.now)) (Some (get_or xs i d).node.0) None))
    → AreFirsts ns xs i → AreFirsts ms xs (i + 1)
firsts_step ns ms xs i d below added firsts = λ s.
    let x : Declared = get_or xs i d in
    let rest = declared_number s (named (drop (i + 1) xs)) in
    ap (λ o. or_number o rest) (added s)
    ∙ or_either (number_of s ns) rest (bytes_eq s (chars x.name.now)) x.node.0
    ∙ ap (λ o. or_number (number_of s ns) o) (one_in_front s (declaration_of x) (named (drop (i + 1) xs)))
    ∙ behind_one xs i d (number_of s ns) s below
    ∙ firsts s

pub firsts_end : (ns : Numbers) (xs : List Declared) (i : ℕ) → length xs ≤ i → AreFirsts ns xs i → (s : List ℕ) → number_of s ns ≡ declared_number s (named xs)
firsts_end ns xs i over firsts s = sym (or_none (number_of s ns)) ∙ sym (at_drop_all (λ (ys : List Declared). or_number (number_of s ns) (declared_number s (named ys))) xs i over) ∙ firsts s

-- ---- without the classes

plain-declared : (s : String) (ds : List Declaration) → option_map (λ (d : Declaration). d.number) (declared s (plain ds)) ≡ option_map (λ (d : Declaration). d.number) (declared s ds)
plain-declared s [] = refl
plain-declared s (d ∷ ds) = sym (one_in_front s (plain_one d) (plain ds)) ∙ ap (λ o. cond (bytes_eq s d.spelling) (Some d.number) o) (plain-declared s ds) ∙ one_in_front s d ds

plain-earlier : (n : ℕ) (s : String) (ds : List Declaration) → with_earlier n (declared s (plain ds)) ≡ with_earlier n (declared s ds)
plain-earlier n s ds = sym (earlier_number n (declared s (plain ds))) ∙ ap (with_number n) (plain-declared s ds) ∙ earlier_number n (declared s ds)

behind-plain : (front ds : List Declaration) → shared_behind (plain front) (plain ds) ≡ shared_behind front ds
behind-plain front [] = refl
behind-plain front (d ∷ ds) =
    ap (λ xs. xs ++ shared_behind (plain (d ∷ front)) (plain ds)) (plain-earlier d.number d.spelling front)
    ∙ ap (λ xs. with_earlier d.number (declared d.spelling front) ++ xs) (behind-plain (d ∷ front) ds)

pub behind_plain : (ds : List Declaration) → shared_behind [] (plain ds) ≡ shared_behind [] ds
behind_plain ds = behind-plain [] ds

pub with_plain : (front ds : List Declaration) → shared_with front (plain ds) ≡ shared_with front ds
with_plain front [] = refl
with_plain front (d ∷ ds) = ap (λ xs. with_earlier d.number (declared d.spelling front) ++ xs) (with_plain front ds)

pub with_plain_front : (front ds : List Declaration) → shared_with (plain front) ds ≡ shared_with front ds
with_plain_front front [] = refl
with_plain_front front (d ∷ ds) =
    ap (λ xs. xs ++ shared_with (plain front) ds) (plain-earlier d.number d.spelling front)
    ∙ ap (λ xs. with_earlier d.number (declared d.spelling front) ++ xs) (with_plain_front front ds)
