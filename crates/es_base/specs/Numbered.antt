-- What it is for a tree to be numbered (our own): the numbers of its nodes, and which of them are new.
use Rattle.std.specs.Prelude.{◌≡◌, ℕ, ◌+◌, nat_eq, nat_le, List, [], ◌∷◌, map, filter, Bool, not}
use Rattle.std.specs.List.{IsDistinct}
use Rattle.es_base.specs.Tree.{Tree}
use Rattle.es_base.specs.Preorder.{preorder, number_of}

-- the number of a node that has none
abbrev pub unnumbered : ℕ
unnumbered = 4294967295

-- the numbers of the nodes in preorder
abbrev pub numbers : Tree → List ℕ
numbers t = map number_of (preorder t)

-- a number is new if it is at least `first`
abbrev pub is_new : ℕ → ℕ → Bool
is_new first number = nat_le first number

abbrev pub is_old : ℕ → ℕ → Bool
is_old first number = not (is_new first number)

abbrev pub new_numbers : ℕ → Tree → List ℕ
new_numbers first t = filter (is_new first) (numbers t)

abbrev pub old_numbers : ℕ → Tree → List ℕ
old_numbers first t = filter (is_old first) (numbers t)

-- the list is n, n + 1, ..
abbrev pub AreConsecutive : ℕ → List ℕ → Type 0
AreConsecutive n [] = Unit
AreConsecutive n (k ∷ ks) = (k ≡ n) × AreConsecutive (n + 1) ks

-- no number stands twice
abbrev pub EachOnce : List ℕ → Type 0
EachOnce ks = IsDistinct nat_eq ks

-- no number stands twice, and the new ones are first, first + 1, .. in preorder
pub record IsNumbered (first : ℕ) (t : Tree) : Type 0 where
  pub once : EachOnce (numbers t)
  pub consecutive : AreConsecutive first (new_numbers first t)
