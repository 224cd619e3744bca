-- What stands in a value is less deep than the value.
use Rattle.std.proofs.Common.{◌≡◌, refl, sym, ap, ℕ, zero, suc, ◌+◌, ◌*◌, ◌<◌, ◌≤◌, max, List, [], ◌∷◌, length, get_or, Option, Some, None, option_and_then, Ordering, Less, Equal, Greater, arith}
use Rattle.std.specs.Ordering.{nat_cmp, match_ordering}
use Rattle.std.specs.Cmp.Lexicographic.{slice_cmp}
use Rattle.serde_json.specs.Data.{Data, null, boolean as json_boolean, number, string as json_string, array, object, Items, Members, no_members, member, depth, items_depth, members_depth}
use Rattle.serde_json.specs.Find.{get, get_member, as_array}
use Rattle.es_reading.specs.Look.{array_at}
use Rattle.borrowed_json.specs.View.{Keyed, members_view, view}
use Rattle.borrowed_json.specs.declared.value.Value.{Value}
pub use Rattle.borrowed_json.proofs.Depths.{item_depth}

pub member_at_depth : (ms : List (Keyed Value)) (i : ℕ) (m : Keyed Value) → i < length ms → m ≡ get_or ms i m → depth (view m.1) ≤ members_depth (members_view ms)
member_at_depth [] i m l is = absurd (omega arith)
member_at_depth (w ∷ ms) zero m l is = omega (arith, ap (λ x. depth (view x.1)) is)
member_at_depth (w ∷ ms) (suc i) m l is = omega (arith, member_at_depth ms i m (omega arith) is)

deeper : (o : Ordering) (d e : Data) (r : Option Data) (m : ℕ) → ((f : Data) → r ≡ Some f → depth f ≤ m) → match_ordering o r (Some d) r ≡ Some e → depth e ≤ max (depth d) m
deeper Less d e r m h is = omega (arith, h e is)
deeper Equal d e r m h is = let s : d ≡ e = cc in omega (arith, ap depth s)
deeper Greater d e r m h is = omega (arith, h e is)

member_depth : (ms : Members) (k : List ℕ) (e : Data) → get_member k ms ≡ Some e → depth e ≤ members_depth ms
member_depth no_members k e is = cc
member_depth (member l d ms) k e is = deeper (slice_cmp nat_cmp k l) d e (get_member k ms) (members_depth ms) (λ f h. member_depth ms k f h) is

get_depth : (d : Data) (k : List ℕ) (e : Data) → get k d ≡ Some e → depth e < depth d
get_depth null k e is = cc
get_depth (json_boolean b) k e is = cc
get_depth (number b) k e is = cc
get_depth (json_string b) k e is = cc
get_depth (array b) k e is = cc
get_depth (object ms) k e is = omega (arith, member_depth ms k e is)

-- the measure of a call on what stands at a member, of this rank
abbrev pub falls_to : ℕ → Option Data → ℕ
falls_to rank None = 0
falls_to rank (Some d) = 8 * depth d + rank

falls_by : (rank : ℕ) (d : Data) (k : List ℕ) (o : Option Data) → rank ≤ 8 → get k d ≡ o → falls_to rank o < 8 * depth d + 1
falls_by rank d k None small is = omega arith
falls_by rank d k (Some e) small is = omega (arith, small, get_depth d k e is)

pub falls : (rank : ℕ) (d : Data) (k : List ℕ) (o : Option Data) → rank ≤ 8 → o ≡ get k d → falls_to rank o < 8 * depth d + 1
falls rank d k o small is = falls_by rank d k o small (sym is)

pub child_falls : (d e : Data) (k : List ℕ) → get k d ≡ Some e → depth e < depth d
child_falls d e k is = get_depth d k e is

pub array_depth : (d : Data) (ds : Items) → Some ds ≡ as_array d → items_depth ds < depth d
array_depth null ds e = cc
array_depth (json_boolean b) ds e = cc
array_depth (number b) ds e = cc
array_depth (json_string b) ds e = cc
array_depth (array es) ds e = let same : es ≡ ds = cc in omega (arith, ap items_depth same)
array_depth (object ms) ds e = cc

pub items_fall : (d : Data) (k : List ℕ) (ds : Items) → array_at k d ≡ Some ds → items_depth ds + 1 < depth d
items_fall d k ds is = by_found (get k d) refl is where
  by_found : (o : Option Data) → get k d ≡ o → option_and_then as_array o ≡ Some ds → items_depth ds + 1 < depth d
  by_found None here e = cc
  by_found (Some f) here e = omega (arith, get_depth d k f here, array_depth f ds (sym e))
