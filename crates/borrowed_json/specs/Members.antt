-- Members that are put into an object one after another.
use Rattle.std.specs.Borrow.{Bor}
use Rattle.std.specs.Prelude.{ℕ, List, [], ◌∷◌}
use Rattle.std.specs.Cmp.Lexicographic.{slice_cmp}
use Rattle.std.specs.Ordering.{nat_cmp}
use Rattle.std.specs.declared.cmp.Ordering.{Ordering}
use Rattle.serde_json.specs.Data.{Members, put}
use Rattle.borrowed_json.specs.View.{Keyed, view}
use Rattle.borrowed_json.specs.declared.value.Value.{Value}

-- keys by their bytes
abbrev pub key_cmp : Bor (List ℕ) → Bor (List ℕ) → Ordering
key_cmp x y = slice_cmp nat_cmp x.now y.now

-- an object that these members were put into, the first one first
abbrev pub put_all : List (Keyed Value) → Members → Members
put_all [] old = old
put_all (m ∷ ms) old = put_all ms (put m.0.now (view m.1) old)
