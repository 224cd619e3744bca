-- A value holds at least as many values as nodes are read of it.
use Rattle.std.proofs.Common.{◌≡◌, refl, sym, ap, ap₂, ◌∙◌, ℕ, ◌+◌, ◌<◌, ◌≤◌, List, [], ◌∷◌, Bool, true, false, not, ◌&&◌, Option, Some, None, option_and_then, Ordering, Less, Equal, Greater, arith}
use Rattle.std.specs.Prelude.{bytes_eq}
use Rattle.std.specs.Ordering.{nat_cmp, match_ordering, is_eq}
use Rattle.std.specs.Cmp.Lexicographic.{slice_cmp}
use Rattle.std.proofs.lemmas.Bool.{and_parts}
use Rattle.std.proofs.lemmas.Map.Text.{is_eq-slice_cmp}
use Rattle.std.proofs.lemmas.Slice.Eq.{bytes_eq-Decides}
use Rattle.serde_json.specs.Data.{Data, null, boolean as json_boolean, number, string as json_string, array, object, Items, Members, no_members, member}
use Rattle.serde_json.specs.Find.{get, get_member, as_array}
use Rattle.es_base.specs.Table.{Field, members_of}
use Rattle.es_base.specs.declared.kind.Kind.{Kind}
use Rattle.es_reading.specs.Look.{array_at}
use Rattle.es_reading.specs.Told.{values, values_of_items, values_of_members, values_there, values_at}

pub some_value : (d : Data) → 1 ≤ values d
some_value null = omega arith
some_value (json_boolean b) = omega arith
some_value (number n) = omega arith
some_value (json_string s) = omega arith
some_value (array ds) = omega arith
some_value (object ms) = omega arith

-- ---- no name of a row stands twice

abbrev is_other : List ℕ → List Field → Bool
is_other name [] = true
is_other name (f ∷ fs) = not (bytes_eq f.name name) && is_other name fs

abbrev pub are_distinct : List Field → Bool
are_distinct [] = true
are_distinct (f ∷ fs) = is_other f.name fs && are_distinct fs

row_distinct : (k : Kind) → are_distinct (members_of k) ≡ true
row_distinct Kind.Program = refl
row_distinct _ = refl

skipped : (o : Ordering) (a b : Option Data) → is_eq o ≡ false → match_ordering o a b a ≡ a
skipped Less a b e = refl
skipped Equal a b e = cc
skipped Greater a b e = refl

chosen : (o : Ordering) (a b : Option Data) → is_eq o ≡ true → match_ordering o a b a ≡ b
chosen Less a b e = cc
chosen Equal a b e = refl
chosen Greater a b e = cc

not_true : (b : Bool) → not b ≡ true → b ≡ false
not_true true e = cc
not_true false e = refl

past : (k l : List ℕ) (d : Data) (ms : Members) → bytes_eq k l ≡ false → get_member k (member l d ms) ≡ get_member k ms
past k l d ms apart = skipped (slice_cmp nat_cmp k l) (get_member k ms) (Some d) (is_eq-slice_cmp k l ∙ apart)

here : (k l : List ℕ) (d : Data) (ms : Members) → bytes_eq k l ≡ true → get_member k (member l d ms) ≡ Some d
here k l d ms same = chosen (slice_cmp nat_cmp k l) (get_member k ms) (Some d) (is_eq-slice_cmp k l ∙ same)

at_others : (fs : List Field) (l : List ℕ) (d : Data) (ms : Members) → is_other l fs ≡ true → values_at (object (member l d ms)) fs ≡ values_at (object ms) fs
at_others [] l d ms apart = refl
at_others (f ∷ fs) l d ms apart =
    let both = and_parts (not (bytes_eq f.name l)) (is_other l fs) apart in
    ap₂ (λ a b. a + b) (ap values_there (past f.name l d ms (not_true _ both.0))) (at_others fs l d ms both.1)

by_name : (b : Bool) (f : Field) (fs : List Field) (l : List ℕ) (d : Data) (ms : Members) → bytes_eq f.name l ≡ b → is_other f.name fs ≡ true → values_at (object (member l d ms)) fs ≤ values d + values_at (object ms) fs
    → values_at (object (member l d ms)) (f ∷ fs) ≤ values d + values_at (object ms) (f ∷ fs)
by_name true f fs l d ms same apart rest =
    let name : f.name ≡ l = (bytes_eq-Decides f.name l).0 same in
    let others = at_others fs l d ms (ap (λ n. is_other n fs) (sym name) ∙ apart) in
    omega (arith, ap values_there (here f.name l d ms same), others)
by_name false f fs l d ms other apart rest = omega (arith, ap values_there (past f.name l d ms other), rest)

with_member : (fs : List Field) (l : List ℕ) (d : Data) (ms : Members) → are_distinct fs ≡ true → values_at (object (member l d ms)) fs ≤ values d + values_at (object ms) fs
with_member [] l d ms apart = omega arith
with_member (f ∷ fs) l d ms apart =
    let both = and_parts (is_other f.name fs) (are_distinct fs) apart in
    by_name (bytes_eq f.name l) f fs l d ms refl both.0 (with_member fs l d ms both.1)

no_values : (fs : List Field) (d : Data) → ((key : List ℕ) → get key d ≡ None) → values_at d fs ≡ 0
no_values [] d none = refl
no_values (f ∷ fs) d none = let rest = no_values fs d none in let gone = ap values_there (none f.name) in omega (arith, gone, rest)

within_members : (fs : List Field) (ms : Members) → are_distinct fs ≡ true → values_at (object ms) fs ≤ values_of_members ms
within_members fs no_members apart = let none = no_values fs (object no_members) (λ key. refl) in omega (arith, none)
within_members fs (member l d ms) apart = omega (arith, with_member fs l d ms apart, within_members fs ms apart)

-- what stands at the members of a kind is less than the whole
pub fields_within : (k : Kind) (d : Data) → values_at d (members_of k) < values d
fields_within k null = let none = no_values (members_of k) null (λ key. refl) in omega (arith, none)
fields_within k (json_boolean b) = let none = no_values (members_of k) (json_boolean b) (λ key. refl) in omega (arith, none)
fields_within k (number n) = let none = no_values (members_of k) (number n) (λ key. refl) in omega (arith, none)
fields_within k (json_string s) = let none = no_values (members_of k) (json_string s) (λ key. refl) in omega (arith, none)
fields_within k (array ds) = let none = no_values (members_of k) (array ds) (λ key. refl) in omega (arith, none)
fields_within k (object ms) = omega (arith, within_members (members_of k) ms (row_distinct k))

pub items_within : (d : Data) (ds : Items) → Some ds ≡ as_array d → values_of_items ds < values d
items_within null ds e = cc
items_within (json_boolean b) ds e = cc
items_within (number n) ds e = cc
items_within (json_string s) ds e = cc
items_within (array es) ds e = let same : es ≡ ds = cc in omega (arith, ap values_of_items same)
items_within (object ms) ds e = cc

pub items_there : (d : Data) (key : List ℕ) (ds : Items) → array_at key d ≡ Some ds → values_of_items ds < values_there (get key d)
items_there d key ds is = by_found (get key d) is where
  by_found : (o : Option Data) → option_and_then as_array o ≡ Some ds → values_of_items ds < values_there o
  by_found None e = cc
  by_found (Some f) e = items_within f ds (sym e)
