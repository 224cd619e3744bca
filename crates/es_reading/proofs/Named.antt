-- A kind whose name has another length than a string has another name.
use Rattle.std.proofs.Common.{◌≡◌, refl, sym, ap, ◌∙◌, ℕ, List, [], ◌∷◌, length, Bool, true, false, nat_eq, ◌⊎◌, inl, inr, Ok, true≢false}
use Rattle.std.specs.Prelude.{bytes_eq, filter, if◌then◌else◌}
use Rattle.std.proofs.lemmas.Bool.Decides.{Decides-eqb}
use Rattle.std.proofs.lemmas.Slice.Eq.{bytes_eq-Decides}
use Rattle.serde_json.specs.Data.{Data}
use Rattle.es_base.specs.Table.{kinds, name_of}
use Rattle.es_base.specs.declared.kind.Kind.{Kind}
use Rattle.es_reading.specs.Kinds.{could_be, is_named, may_stand, kind_among, kind_in}
use Rattle.es_reading.specs.declared.spot.Spot.{Spot}

apart_by : (b : Bool) (xs ys : List ℕ) → bytes_eq xs ys ≡ b → nat_eq (length ys) (length xs) ≡ false → bytes_eq xs ys ≡ false
apart_by true xs ys e differ =
    let same : xs ≡ ys = (bytes_eq-Decides xs ys).0 e in
    absurd (true≢false (sym ((Decides-eqb (length ys) (length xs)).1 (ap length (sym same))) ∙ differ))
apart_by false xs ys e differ = e

apart : (xs ys : List ℕ) → nat_eq (length ys) (length xs) ≡ false → bytes_eq xs ys ≡ false
apart xs ys differ = apart_by (bytes_eq xs ys) xs ys refl differ

by_its_name : (name : List ℕ) (k : Kind) → ((is_named name k ≡ bytes_eq (name_of k) name) × (could_be (length name) k ≡ nat_eq (length name) (length (name_of k)))) ⊎ (could_be (length name) k ≡ true)
by_its_name name Kind.Foreign = inr refl
by_its_name name Kind.Program = inl (refl, refl)
by_its_name name _ = inl (refl, refl)

not_named_by : (name : List ℕ) (k : Kind) → ((is_named name k ≡ bytes_eq (name_of k) name) × (could_be (length name) k ≡ nat_eq (length name) (length (name_of k)))) ⊎ (could_be (length name) k ≡ true) → could_be (length name) k ≡ false → is_named name k ≡ false
not_named_by name k (inl e) h = e.0 ∙ apart (name_of k) name (sym e.1 ∙ h)
not_named_by name k (inr e) h = absurd (true≢false (sym e ∙ h))

not_named : (name : List ℕ) (k : Kind) → could_be (length name) k ≡ false → is_named name k ≡ false
not_named name k h = not_named_by name k (by_its_name name k) h

kept : (b : Bool) (name : List ℕ) (spot : Spot) (d : Data) (known : Bool) (k : Kind) (ks rest : List Kind) → could_be (length name) k ≡ b → ((still : Bool) → kind_among name spot d still rest ≡ kind_among name spot d still ks)
    → kind_among name spot d known (if b then k ∷ rest else rest) ≡ kind_among name spot d known (k ∷ ks)
kept true name spot d known k ks rest e same = on (is_named name k) (may_stand spot d k) where
  on : (n m : Bool) → (if n then (if m then Ok k else kind_among name spot d true rest) else kind_among name spot d known rest) ≡ (if n then (if m then Ok k else kind_among name spot d true ks) else kind_among name spot d known ks)
  on true true = refl
  on true false = same true
  on false m = same known
kept false name spot d known k ks rest e same = same known ∙ ap (λ n. if n then (if may_stand spot d k then Ok k else kind_among name spot d true ks) else kind_among name spot d known ks) (sym (not_named name k e))

filtered : (name : List ℕ) (spot : Spot) (d : Data) (ks : List Kind) (known : Bool) → kind_among name spot d known (filter (could_be (length name)) ks) ≡ kind_among name spot d known ks
filtered name spot d [] known = refl
filtered name spot d (k ∷ ks) known = kept (could_be (length name) k) name spot d known k ks (filter (could_be (length name)) ks) refl (λ still. filtered name spot d ks still)

-- the kinds of a name's length do for all
pub enough : (name : List ℕ) (spot : Spot) (d : Data) (ks : List Kind) → (ks ≡ filter (could_be (length name)) kinds) ⊎ (ks ≡ kinds) → kind_among name spot d false ks ≡ kind_in name spot d
enough name spot d ks (inl e) = ap (kind_among name spot d false) e ∙ filtered name spot d kinds false
enough name spot d ks (inr e) = ap (kind_among name spot d false) e
