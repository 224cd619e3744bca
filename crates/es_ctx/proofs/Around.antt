-- The places that are left of those around a node.
use Rattle.std.proofs.Common.{◌≡◌, ap, ◌∙◌, ℕ, ◌+◌, ◌<◌, List, [], ◌∷◌, length, take, get_or}
use Rattle.std.specs.Prelude.{reverse}
use Rattle.std.proofs.Math.Seq.{take-length}
use Rattle.std.proofs.lemmas.List.{reverse-append, take_more}

pub all_left : {X : Type 0} (xs : List X) → reverse (take (length xs) xs) ≡ reverse xs
all_left xs = ap reverse (take-length xs)

pub innermost_left : {X : Type 0} (xs : List X) (n : ℕ) (d : X) → n < length xs → reverse (take (n + 1) xs) ≡ get_or xs n d ∷ reverse (take n xs)
innermost_left xs n d within = ap reverse (take_more xs n d within) ∙ reverse-append (take n xs) (get_or xs n d ∷ [])

pub none_left : {X : Type 0} (xs : List X) (n : ℕ) → n ≡ 0 → reverse (take n xs) ≡ []
none_left xs n is = ap (λ (k : ℕ). reverse (take k xs)) is
