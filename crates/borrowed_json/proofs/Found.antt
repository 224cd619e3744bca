-- The member of an object that has a key.
use Rattle.std.proofs.Common.{◌≡◌, refl, ◌∙◌, ℕ, List, ◌∷◌, Option, Some, true, false, true≢false, sym, Ordering, Less, Equal, Greater, bytes_eq, is_eq, nat_cmp}
use Rattle.std.proofs.lemmas.Map.Text.{is_eq-slice_cmp}
use Rattle.std.specs.Cmp.Lexicographic.{slice_cmp}
use Rattle.std.specs.Ordering.{match_ordering}
use Rattle.serde_json.specs.Data.{Data}
use Rattle.serde_json.specs.Find.{get_member}
use Rattle.borrowed_json.specs.View.{Keyed, members_view, view}
use Rattle.borrowed_json.specs.declared.value.Value.{Value}

taken : (o : Ordering) (rest : Option Data) (d : Data) → is_eq o ≡ true → match_ordering o rest (Some d) rest ≡ Some d
taken Less rest d e = absurd (true≢false (sym e))
taken Equal rest d e = refl
taken Greater rest d e = absurd (true≢false (sym e))

passed : (o : Ordering) (rest : Option Data) (d : Data) → is_eq o ≡ false → match_ordering o rest (Some d) rest ≡ rest
passed Less rest d e = refl
passed Equal rest d e = absurd (true≢false e)
passed Greater rest d e = refl

pub found_here : (name : List ℕ) (m : Keyed Value) (ms : List (Keyed Value)) → bytes_eq name m.0.now ≡ true → get_member name (members_view (m ∷ ms)) ≡ Some (view m.1)
found_here name m ms is = taken (slice_cmp nat_cmp name m.0.now) _ _ (is_eq-slice_cmp name m.0.now ∙ is)

pub found_later : (name : List ℕ) (m : Keyed Value) (ms : List (Keyed Value)) → bytes_eq name m.0.now ≡ false → get_member name (members_view (m ∷ ms)) ≡ get_member name (members_view ms)
found_later name m ms not = passed (slice_cmp nat_cmp name m.0.now) _ _ (is_eq-slice_cmp name m.0.now ∙ not)
