-- A map of names holds what was added, by characters.
use Rattle.std.proofs.Common.{◌≡◌, refl, sym, ap, ◌∙◌, ℕ, List, [], ◌∷◌, map, Bool, true, false, cond, Option, Some, Bor}
use Rattle.std.specs.Prelude.{bytes_eq}
use Rattle.std.specs.List.{All}
use Rattle.std.specs.Map as entries
use Rattle.std.specs.Str.{chars, IsUtf8}
use Rattle.std.proofs.lemmas.Bool.Decides.{same_from_decides}
use Rattle.std.proofs.lemmas.List.Elements.{All-nil, All-cons, All-head, All-tail}
use Rattle.std.proofs.lemmas.Slice.Eq.{bytes_eq-Decides}
use Rattle.indexmap.specs.IndexMap.{insert_entry}
use Rattle.es_base.proofs.Spelling.{bytes_eq_chars}
use Rattle.es_binding_faults.specs.Leasts.{Numbers, number_of, lesser}

abbrev Entries : Type 0
Entries = List (Bor (List ℕ) × ℕ)

abbrev pub numbers_in : Entries → Numbers
numbers_in es = map (λ (e : Bor (List ℕ) × ℕ). (chars e.0.now, e.1)) es

abbrev same : Bor (List ℕ) → Bor (List ℕ) → Bool
same x y = bytes_eq x.now y.now

abbrev AreStrings : Entries → Type 0
AreStrings es = All (λ (e : Bor (List ℕ) × ℕ). IsUtf8 e.0.now) es

pub looked_up : (q : List ℕ) (es : Entries) → IsUtf8 q → AreStrings es → entries.lookup (λ (k : Bor (List ℕ)). bytes_eq q k.now) es ≡ number_of (chars q) (numbers_in es)
looked_up q [] u us = refl
looked_up q (e ∷ es) u us =
    ap (λ b. cond b (Some e.1) (entries.lookup (λ (k : Bor (List ℕ)). bytes_eq q k.now) es)) (bytes_eq_chars q e.0.now u (All-head (λ (x : Bor (List ℕ) × ℕ). IsUtf8 x.0.now) e es us))
    ∙ ap (λ o. cond (bytes_eq (chars q) (chars e.0.now)) (Some e.1) o) (looked_up q es u (All-tail (λ (x : Bor (List ℕ) × ℕ). IsUtf8 x.0.now) e es us))

abbrev either : Bool → ℕ → Option ℕ → Option ℕ
either b n o = cond b (Some n) o

again : (b : Bool) (n m : ℕ) (o : Option ℕ) → either b n o ≡ either b n (either b m o)
again true n m o = refl
again false n m o = refl

pub flipped : (a b : List ℕ) → bytes_eq a b ≡ bytes_eq b a
flipped a b = same_from_decides {P = a ≡ b} _ _ (bytes_eq-Decides a b) (λ t. sym ((bytes_eq-Decides b a).0 t), λ e. (bytes_eq-Decides b a).1 (sym e))

pub inserted : (k : Bor (List ℕ)) (n : ℕ) (es : Entries) → IsUtf8 k.now → AreStrings es → (s : List ℕ) → number_of s (numbers_in (insert_entry same es k n)) ≡ either (bytes_eq s (chars k.now)) n (number_of s (numbers_in es))
inserted k n [] u us s = refl
inserted k n (e ∷ es) u us s = elim (bytes_eq k.now e.0.now) as (λ b. bytes_eq k.now e.0.now ≡ b → number_of s (numbers_in (cond b ((e.0, n) ∷ es) (e ∷ insert_entry same es k n))) ≡ either (bytes_eq s (chars k.now)) n (number_of s (numbers_in (e ∷ es)))) [
  | true ↦ λ t.
      let one : chars e.0.now ≡ chars k.now = ap chars (sym ((bytes_eq-Decides k.now e.0.now).0 t)) in
      rw one (again (bytes_eq s (chars k.now)) n e.1 (number_of s (numbers_in es)))
  | false ↦ λ f.
      let apart : bytes_eq (chars k.now) (chars e.0.now) ≡ false = sym (bytes_eq_chars k.now e.0.now u (All-head (λ (x : Bor (List ℕ) × ℕ). IsUtf8 x.0.now) e es us)) ∙ f in
      rw (inserted k n es u (All-tail (λ (x : Bor (List ℕ) × ℕ). IsUtf8 x.0.now) e es us) s) (swap (bytes_eq s (chars e.0.now)) refl apart)
] refl
  where
    swap : (b : Bool) → bytes_eq s (chars e.0.now) ≡ b → bytes_eq (chars k.now) (chars e.0.now) ≡ false
        → either b e.1 (either (bytes_eq s (chars k.now)) n (number_of s (numbers_in es))) ≡ either (bytes_eq s (chars k.now)) n (either b e.1 (number_of s (numbers_in es)))
    swap false t apart = refl
    swap true t apart =
        let not_it : bytes_eq s (chars k.now) ≡ false = ap (λ o. bytes_eq o (chars k.now)) ((bytes_eq-Decides s (chars e.0.now)).0 t) ∙ flipped (chars e.0.now) (chars k.now) ∙ apart in
        rw not_it refl

-- keys stay strings
abbrev IsText : Bor (List ℕ) × ℕ → Type 0
IsText e = IsUtf8 e.0.now

pub stay_strings : (k : Bor (List ℕ)) (n : ℕ) (es : Entries) → AreStrings es → IsUtf8 k.now → AreStrings (insert_entry same es k n)
stay_strings k n [] us u = All-cons IsText (k, n) [] u (All-nil IsText)
stay_strings k n (e ∷ es) us u =
    let here : IsUtf8 e.0.now = All-head IsText e es us in
    let rest : AreStrings es = All-tail IsText e es us in
    elim (bytes_eq k.now e.0.now) as (λ b. AreStrings (cond b ((e.0, n) ∷ es) (e ∷ insert_entry same es k n))) [
      | true ↦ All-cons IsText (e.0, n) es here rest
      | false ↦ All-cons IsText e (insert_entry same es k n) here (stay_strings k n es rest u)
    ]

-- a name that is added has the number that was looked up
pub at_name : (s k : List ℕ) (n : ℕ) (ns : Numbers) → cond (bytes_eq s k) (Some (lesser (number_of k ns) n)) (number_of s ns) ≡ cond (bytes_eq s k) (Some (lesser (number_of s ns) n)) (number_of s ns)
at_name s k n ns = elim (bytes_eq s k) as (λ b. bytes_eq s k ≡ b → cond b (Some (lesser (number_of k ns) n)) (number_of s ns) ≡ cond b (Some (lesser (number_of s ns) n)) (number_of s ns)) [
  | true ↦ λ t. ap (λ x. Some (lesser (number_of x ns) n)) (sym ((bytes_eq-Decides s k).0 t))
  | false ↦ λ f. refl
] refl
