-- The bytes of an ASCII string are its characters.
use Rattle.std.proofs.Common.{◌≡◌, List, [], ◌∷◌, ℕ, zero, suc, ◌<◌, true, arith, nat_lt}
use Rattle.std.specs.Prelude.{slice_index}
use Rattle.std.specs.Str.{chars}
use Rattle.std.proofs.lemmas.Bool.{and_parts}
use Rattle.std.proofs.lemmas.Str.{chars-IsAscii}
use Rattle.es_base.specs.Ascii.{is_ascii}

below : (bs : List ℕ) (i : ℕ) → is_ascii bs ≡ true → slice_index bs i < 128
below [] i h = search arith
below (b ∷ bs) zero h = let first : nat_lt b 128 ≡ true = (and_parts (nat_lt b 128) (is_ascii bs) h).0 in grind (arith, first)
below (b ∷ bs) (suc i) h = below bs i (and_parts (nat_lt b 128) (is_ascii bs) h).1

pub chars_ascii : (bs : List ℕ) → is_ascii bs ≡ true → chars bs ≡ bs
chars_ascii bs h = chars-IsAscii bs (λ i. below bs i h)
