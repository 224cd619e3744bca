-- What a call does to the bytes that a sink tells of. A sink may stop telling.
use Rattle.std.specs.Prelude.{◌≡◌, ◌<◌, ℕ, List, [], ◌++◌, length, take, ⊤, None, Some, Result, MatchResult}
use Rattle.std.specs.Io.{StartsWith}
use Rattle.std.specs.declared.option.Option.{Option}

-- where bytes are told of afterwards, bytes were told of before, and bs was appended to them
abbrev pub Extends : Option (List ℕ) → Option (List ℕ) → List ℕ → Type 0
Extends old None bs = ⊤
Extends None (Some ys) bs = ⊥
Extends (Some xs) (Some ys) bs = ys ≡ xs ++ bs

-- `put(piece)` appended the n bytes that it took at `Ok(n)`, and nothing at `Err`
abbrev pub PutExtends : {E : Type 0} → Option (List ℕ) → Option (List ℕ) → Result ℕ E → List ℕ → Type 0
PutExtends old new result piece = MatchResult result (λ n. Extends old new (take n piece)) (λ _. Extends old new [])

-- a part of bs was appended: its front, but not all of it
pub record ExtendsInPart (old new : Option (List ℕ)) (bs : List ℕ) : Type 0 where
  pub front : List ℕ
  pub is_front : StartsWith bs front
  pub is_short : length front < length bs
  pub appended : Extends old new front
