-- The set of a symbol's references, against the set of their numbers.
use Rattle.std.proofs.Common.{◌≡◌, refl, sym, ap, ◌∙◌, ℕ, ◌<◌, List, [], ◌∷◌, map, length, get_or, Bool, true, false, true≢false, cond, nat_eq}
use Rattle.std.specs.Prelude.{◌||◌, ◌&&◌, ◌==◌, not, slice_get}
use Rattle.std.specs.Int.RustNames.{bit_and}
use Rattle.std.proofs.lemmas.Bool.Decides.{Decides-eqb}
use Rattle.std.proofs.lemmas.Option.{slice_get-get_or}
use Rattle.std.specs.List.{list_any}
use Rattle.std.specs.Ordering.{nat_cmp, eq_by_cmp}
use Rattle.std.specs.Cmp.{unsigned_tied, nat_eq_equiv}
use Rattle.std.specs.FinSet as set
use Rattle.std.proofs.lemmas.Cmp.{nat_cmp_total}
use Rattle.std.specs.FinMap.{nat_cmp-IsAntisymmetric}
use Rattle.es_base.specs.declared.ids.ReferenceId.{ReferenceId}
use Rattle.es_scopes.specs.ReferenceNumbers.{ReferenceNumbers, numbers_of}
use Rattle.es_scopes.specs.References.{HoldsWrite, writes}
use Rattle.es_scopes.specs.Row.{reference_flags_of}
use Rattle.es_scopes.specs.declared.flags.ReferenceFlags.{ReferenceFlags}
use Rattle.es_scopes.specs.declared.table.Reference.{Reference}

or-true : (b : Bool) → (b || true) ≡ true
or-true true = refl
or-true false = refl

pub contains-numbers_of : (keys : List ReferenceId) (q : ReferenceId) → set.contains (numbers_of keys) q.0 ≡ list_any (λ k. nat_eq q.0 k.0) keys
contains-numbers_of keys q = set.contains-from_list nat_cmp_total (map (λ k. k.0) keys) q.0 ∙ by_number keys
  where
    by_number : (keys : List ReferenceId) → list_any (eq_by_cmp nat_cmp q.0) (map (λ k. k.0) keys) ≡ list_any (λ k. nat_eq q.0 k.0) keys
    by_number [] = refl
    by_number (k ∷ keys) = (λ i. unsigned_tied q.0 k.0 i || by_number keys i)

either : (b : Bool) (x : Bool) → cond b true x ≡ (b || x)
either true x = refl
either false x = refl

neither : (b : Bool) (x : Bool) → cond b false x ≡ (not b && x)
neither true x = refl
neither false x = refl

-- the references where one more is held, and where one is not
module _ (old new : List ReferenceId) (r : ReferenceId) where
  pub numbers_of-insert : ((q : ReferenceId) → list_any (λ k. nat_eq q.0 k.0) new ≡ cond (nat_eq r.0 q.0) true (list_any (λ k. nat_eq q.0 k.0) old)) → numbers_of new ≡ set.insert (numbers_of old) r.0
  numbers_of-insert is = set.same_set nat_cmp_total nat_cmp-IsAntisymmetric _ _ (λ n.
      let q : ReferenceId = record { 0 = n } in
      contains-numbers_of new q ∙ is q ∙ either (nat_eq r.0 n) (list_any (λ k. nat_eq n k.0) old)
      ∙ (λ i. (nat_eq_equiv.symm r.0 n ∙ sym (unsigned_tied n r.0)) i || sym (contains-numbers_of old q) i)
      ∙ sym (set.contains-insert nat_cmp_total (numbers_of old) r.0 n))

  pub numbers_of-remove : ((q : ReferenceId) → list_any (λ k. nat_eq q.0 k.0) new ≡ cond (nat_eq r.0 q.0) false (list_any (λ k. nat_eq q.0 k.0) old)) → numbers_of new ≡ set.remove (numbers_of old) r.0
  numbers_of-remove is = set.same_set nat_cmp_total nat_cmp-IsAntisymmetric _ _ (λ n.
      let q : ReferenceId = record { 0 = n } in
      contains-numbers_of new q ∙ is q ∙ neither (nat_eq r.0 n) (list_any (λ k. nat_eq n k.0) old)
      ∙ (λ i. not ((nat_eq_equiv.symm r.0 n ∙ sym (unsigned_tied n r.0)) i) && sym (contains-numbers_of old q) i)
      ∙ sym (set.contains-remove nat_cmp_total (numbers_of old) r.0 n))

-- the references that a search for a write has still to see: they are of the set, and each that writes is among them
pub record AreAhead (s : ReferenceNumbers) (references : List Reference) (ahead : List ReferenceId) : Type 0 where
  pub held : (r : ℕ) → list_any (λ k. nat_eq r k.0) ahead ≡ true → set.contains s r ≡ true
  pub write : (r : ℕ) → set.contains s r ≡ true → writes (slice_get references r) ≡ true → list_any (λ k. nat_eq r k.0) ahead ≡ true

module _ (s : ReferenceNumbers) (references : List Reference) where
  pub AreAhead-all : (keys ahead : List ReferenceId) → ahead ≡ keys → numbers_of keys ≡ s → AreAhead s references ahead
  AreAhead-all keys ahead is view =
      let same : (r : ℕ) → set.contains s r ≡ list_any (λ k. nat_eq r k.0) ahead =
      λ r. ap (λ t. set.contains t r) (sym view) ∙ contains-numbers_of keys (record { 0 = r }) ∙ ap (list_any (λ k. nat_eq r k.0)) (sym is) in
      record { held = λ r h. same r ∙ h; write = λ r h w. sym (same r) ∙ h }

  pub AreAhead-first : (x : ReferenceId) (rest : List ReferenceId) → AreAhead s references (x ∷ rest) → set.contains s x.0 ≡ true
  AreAhead-first x rest h = h.held x.0 (ap (λ b. b || list_any (λ k. nat_eq x.0 k.0) rest) ((Decides-eqb x.0 x.0).1 refl))

  pub AreAhead-rest : (x : ReferenceId) (rest : List ReferenceId) → AreAhead s references (x ∷ rest) → writes (slice_get references x.0) ≡ false → AreAhead s references rest
  AreAhead-rest x rest h reads = record {
    held = λ r in_rest. h.held r (ap (λ b. nat_eq r x.0 || b) in_rest ∙ or-true (nat_eq r x.0));
    write = λ r held w. elim (nat_eq r x.0) as (λ b. nat_eq r x.0 ≡ b → list_any (λ k. nat_eq r k.0) rest ≡ true) [
      | true ↦ λ same. absurd (true≢false (sym w ∙ ap (λ n. writes (slice_get references n)) ((Decides-eqb r x.0).0 same) ∙ reads))
      | false ↦ λ other. sym (ap (λ b. b || list_any (λ k. nat_eq r k.0) rest) other) ∙ h.write r held w
    ] refl;
  }

  pub AreAhead-none : AreAhead s references [] → HoldsWrite s references → ⊥
  AreAhead-none h w = true≢false (sym (h.write w.0 w.1 w.2))

-- what a reference does, by its flags
pub writes-flags : (references : List Reference) (r : ℕ) (d : Reference) (f : ReferenceFlags) (b : Bool) → r < length references → f ≡ reference_flags_of (get_or references r d) → b ≡ (bit_and f.0 2 == 2) → writes (slice_get references r) ≡ b
writes-flags references r d f b within is test = ap writes (slice_get-get_or references r d within) ∙ ap (λ (g : ReferenceFlags). bit_and g.0 2 == 2) (sym is) ∙ sym test
