-- What stands in a list or an object is no deeper than all of it.
use Rattle.std.proofs.Common.{◌≡◌, ap, ℕ, zero, suc, ◌≤◌, ◌<◌, List, [], ◌∷◌, map, length, get_or, arith}
use Rattle.serde_json.specs.Data.{Data, depth, items_depth, members_depth}
use Rattle.serde_json.specs.View.{view as owned_view, members_view as owned_members, items_of}
use Rattle.serde_json.proofs.Views.{Entry}

-- an item of a list, of values of either type
pub item_depth : {X : Type 0} (see : X → Data) (vs : List X) (i : ℕ) (v : X) → i < length vs → v ≡ get_or vs i v → depth (see v) ≤ items_depth (items_of (map see vs))
item_depth see [] i v l is = absurd (omega arith)
item_depth see (w ∷ vs) zero v l is = omega (arith, ap (λ x. depth (see x)) is)
item_depth see (w ∷ vs) (suc i) v l is = omega (arith, item_depth see vs i v (omega arith) is)

-- an entry of a map, of values that own their strings
pub entry_depth : (es rest : List Entry) (e : Entry) → es ≡ e ∷ rest → depth (owned_view e.1) ≤ members_depth (owned_members es)
entry_depth es rest e is = omega (arith, ap (λ xs. members_depth (owned_members xs)) is)

pub rest_depth : (es rest : List Entry) (e : Entry) → es ≡ e ∷ rest → members_depth (owned_members rest) ≤ members_depth (owned_members es)
rest_depth es rest e is = omega (arith, ap (λ xs. members_depth (owned_members xs)) is)
