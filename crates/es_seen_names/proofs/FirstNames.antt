-- A map of names holds the declarations that were added, by characters.
use Rattle.std.proofs.Common.{◌≡◌, refl, sym, ap, ◌∙◌, ℕ, List, [], ◌∷◌, map, Bool, true, false, cond, Option, Some, None, option_map, Bor}
use Rattle.std.specs.Prelude.{bytes_eq}
use Rattle.std.specs.List.{All}
use Rattle.std.specs.Map as entries
use Rattle.std.specs.Str.{chars, IsUtf8}
use Rattle.std.proofs.lemmas.List.Elements.{All-nil, All-cons, All-head, All-tail}
use Rattle.std.proofs.lemmas.Slice.Eq.{bytes_eq-Decides}
use Rattle.indexmap.specs.IndexMap.{insert_entry}
use Rattle.es_base.proofs.Spelling.{bytes_eq_chars}
use Rattle.es_binding_faults.proofs.LeastNumbers.{flipped}
use Rattle.es_steps.specs.References.{declared}
use Rattle.es_seen_names.specs.Declarations.{declaration_of, declarations}
use Rattle.es_seen_names.specs.Firsts.{Named, first_declaring, first_of, or_later}
use Rattle.es_seen_names.specs.declared.declaration.Declaration.{Declaration}

abbrev Entries : Type 0
Entries = List (Bor (List ℕ) × Declaration)

abbrev pub named_in : Entries → Named
named_in es = map (λ (e : Bor (List ℕ) × Declaration). (chars e.0.now, e.1)) es

abbrev same : Bor (List ℕ) → Bor (List ℕ) → Bool
same x y = bytes_eq x.now y.now

abbrev IsText : Bor (List ℕ) × Declaration → Type 0
IsText e = IsUtf8 e.0.now

abbrev AreStrings : Entries → Type 0
AreStrings es = All (λ (e : Bor (List ℕ) × Declaration). IsUtf8 e.0.now) es

pub looked_up : (q : List ℕ) (es : Entries) → IsUtf8 q → AreStrings es → entries.lookup (λ (k : Bor (List ℕ)). bytes_eq q k.now) es ≡ first_of (chars q) (named_in es)
looked_up q [] u us = refl
looked_up q (e ∷ es) u us =
    ap (λ b. cond b (Some e.1) (entries.lookup (λ (k : Bor (List ℕ)). bytes_eq q k.now) es)) (bytes_eq_chars q e.0.now u (All-head IsText e es us))
    ∙ ap (λ o. cond (bytes_eq (chars q) (chars e.0.now)) (Some e.1) o) (looked_up q es u (All-tail IsText e es us))

abbrev either : Bool → Declaration → Option Declaration → Option Declaration
either b d o = cond b (Some d) o

again : (b : Bool) (d e : Declaration) (o : Option Declaration) → either b d o ≡ either b d (either b e o)
again true d e o = refl
again false d e o = refl

pub inserted : (k : Bor (List ℕ)) (d : Declaration) (es : Entries) → IsUtf8 k.now → AreStrings es → (s : List ℕ) → first_of s (named_in (insert_entry same es k d)) ≡ either (bytes_eq s (chars k.now)) d (first_of s (named_in es))
inserted k d [] u us s = refl
inserted k d (e ∷ es) u us s = elim (bytes_eq k.now e.0.now) as (λ b. bytes_eq k.now e.0.now ≡ b → first_of s (named_in (cond b ((e.0, d) ∷ es) (e ∷ insert_entry same es k d))) ≡ either (bytes_eq s (chars k.now)) d (first_of s (named_in (e ∷ es)))) [
  | true ↦ λ t.
      let one : chars e.0.now ≡ chars k.now = ap chars (sym ((bytes_eq-Decides k.now e.0.now).0 t)) in
      rw one (again (bytes_eq s (chars k.now)) d e.1 (first_of s (named_in es)))
  | false ↦ λ f.
      let apart : bytes_eq (chars k.now) (chars e.0.now) ≡ false = sym (bytes_eq_chars k.now e.0.now u (All-head IsText e es us)) ∙ f in
      rw (inserted k d es u (All-tail IsText e es us) s) (swap (bytes_eq s (chars e.0.now)) refl apart)
] refl
  where
    swap : (b : Bool) → bytes_eq s (chars e.0.now) ≡ b → bytes_eq (chars k.now) (chars e.0.now) ≡ false
        → either b e.1 (either (bytes_eq s (chars k.now)) d (first_of s (named_in es))) ≡ either (bytes_eq s (chars k.now)) d (either b e.1 (first_of s (named_in es)))
    swap false t apart = refl
    swap true t apart =
        let not_it : bytes_eq s (chars k.now) ≡ false = ap (λ o. bytes_eq o (chars k.now)) ((bytes_eq-Decides s (chars e.0.now)).0 t) ∙ flipped (chars e.0.now) (chars k.now) ∙ apart in
        rw not_it refl

-- keys stay strings
pub stay_strings : (k : Bor (List ℕ)) (d : Declaration) (es : Entries) → AreStrings es → IsUtf8 k.now → AreStrings (insert_entry same es k d)
stay_strings k d [] us u = All-cons IsText (k, d) [] u (All-nil IsText)
stay_strings k d (e ∷ es) us u =
    let here : IsUtf8 e.0.now = All-head IsText e es us in
    let rest : AreStrings es = All-tail IsText e es us in
    elim (bytes_eq k.now e.0.now) as (λ b. AreStrings (cond b ((e.0, d) ∷ es) (e ∷ insert_entry same es k d))) [
      | true ↦ All-cons IsText (e.0, d) es here rest
      | false ↦ All-cons IsText e (insert_entry same es k d) here (stay_strings k d es rest u)
    ]

-- ---- one by one

or_none : (o : Option Declaration) → o ≡ or_later o None
or_none None = refl
or_none (Some d) = refl

-- a name that was not there means what is added
pub first_added : (s k : List ℕ) (d : Declaration) (ns : Named) → None ≡ first_of k ns → cond (bytes_eq s k) (Some d) (first_of s ns) ≡ or_later (first_of s ns) (cond (bytes_eq s k) (Some d) None)
first_added s k d ns none = elim (bytes_eq s k) as (λ b. bytes_eq s k ≡ b → cond b (Some d) (first_of s ns) ≡ or_later (first_of s ns) (cond b (Some d) None)) [
  | true ↦ λ t. ap (λ o. or_later o (Some d)) (none ∙ ap (λ x. first_of x ns) (sym ((bytes_eq-Decides s k).0 t)))
  | false ↦ λ f. or_none (first_of s ns)
] refl

-- one that was there means what it meant
pub first_stays : (s k : List ℕ) (d e : Declaration) (ns : Named) → Some e ≡ first_of k ns → first_of s ns ≡ or_later (first_of s ns) (cond (bytes_eq s k) (Some d) None)
first_stays s k d e ns some = elim (bytes_eq s k) as (λ b. bytes_eq s k ≡ b → first_of s ns ≡ or_later (first_of s ns) (cond b (Some d) None)) [
  | true ↦ λ t.
      let it : Some e ≡ first_of s ns = some ∙ ap (λ x. first_of x ns) (sym ((bytes_eq-Decides s k).0 t)) in
      sym it ∙ ap (λ o. or_later o (Some d)) it
  | false ↦ λ f. or_none (first_of s ns)
] refl

-- ---- as the definitions see it

pub declared_first : (s : List ℕ) (ds : List Declaration) → option_map declaration_of (first_declaring s ds) ≡ declared s (declarations ds)
declared_first s [] = refl
declared_first s (d ∷ ds) = here (bytes_eq s (chars d.name.now)) (declared_first s ds)
  where
    here : (b : Bool) → option_map declaration_of (first_declaring s ds) ≡ declared s (declarations ds)
        → option_map declaration_of (cond b (Some d) (first_declaring s ds)) ≡ cond b (Some (declaration_of d)) (declared s (declarations ds))
    here true h = refl
    here false h = h
