-- A value that borrows its strings from a value of `serde_json`.
use Rattle.std.proofs.Common.{◌≡◌, refl, sym, ap, ◌∙◌, ℕ, List, [], ◌∷◌, ◌++◌, map, string_bytes, append-nil, append_assoc}
use Rattle.serde_json.specs.Data.{Data, Members, no_members, member}
use Rattle.serde_json.specs.View.{view as owned_view, members_view as owned_members}
use Rattle.serde_json.proofs.Views.{Entry}
use Rattle.borrowed_json.specs.View.{Keyed, members_view, view}
use Rattle.borrowed_json.specs.declared.value.Value.{Value}

abbrev pub pair : Keyed Value → List ℕ × Data
pair m = (m.0.now, view m.1)

abbrev pub owned_pair : Entry → List ℕ × Data
owned_pair e = (string_bytes e.0, owned_view e.1)

abbrev of_pairs : List (List ℕ × Data) → Members
of_pairs [] = no_members
of_pairs (p ∷ ps) = member p.0 p.1 (of_pairs ps)

of_pairs-pair : (ms : List (Keyed Value)) → of_pairs (map pair ms) ≡ members_view ms
of_pairs-pair [] = refl
of_pairs-pair (m ∷ ms) = ap (member m.0.now (view m.1)) (of_pairs-pair ms)

of_pairs-owned : (es : List Entry) → of_pairs (map owned_pair es) ≡ owned_members es
of_pairs-owned [] = refl
of_pairs-owned (e ∷ es) = ap (member (string_bytes e.0) (owned_view e.1)) (of_pairs-owned es)

pushed : (ms : List (Keyed Value)) (m : Keyed Value) → map pair (ms ++ m ∷ []) ≡ map pair ms ++ pair m ∷ []
pushed [] m = refl
pushed (k ∷ ms) m = ap (λ ps. pair k ∷ ps) (pushed ms m)

-- one more member
pub member_on : (ms ns : List (Keyed Value)) (m : Keyed Value) (es rest : List Entry) (e : Entry) (all : List (List ℕ × Data)) → ns ≡ ms ++ m ∷ [] → es ≡ e ∷ rest → pair m ≡ owned_pair e
    → map pair ms ++ map owned_pair es ≡ all → map pair ns ++ map owned_pair rest ≡ all
member_on ms ns m es rest e all put_in begins is so_far =
    ap (λ xs. map pair xs ++ map owned_pair rest) put_in
    ∙ ap (λ ps. ps ++ map owned_pair rest) (pushed ms m)
    ∙ append_assoc (map pair ms) (pair m ∷ []) (map owned_pair rest)
    ∙ ap (λ p. map pair ms ++ p ∷ map owned_pair rest) is
    ∙ ap (λ xs. map pair ms ++ map owned_pair xs) (sym begins)
    ∙ so_far

-- no member is left
pub members_done : (ms : List (Keyed Value)) (es all : List Entry) → es ≡ [] → map pair ms ++ map owned_pair es ≡ map owned_pair all → members_view ms ≡ owned_members all
members_done ms es all none is =
    sym (of_pairs-pair ms)
    ∙ ap of_pairs (sym (append-nil (map pair ms)) ∙ sym (ap (λ xs. map pair ms ++ map owned_pair xs) none) ∙ is)
    ∙ of_pairs-owned all
