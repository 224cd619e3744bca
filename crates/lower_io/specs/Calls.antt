-- Which calls of a source or a sink in memory fail.
use Rattle.std.specs.Prelude.{◌≡◌, ◌↔◌, ℕ, ◌+◌, ◌-◌, ◌^◌, ◌<◌, min, Bool, if◌then◌else◌, IsTrue, List, Contains}
use Rattle.lower_io.specs.declared.calls.Calls.{Calls}

-- none was made, and those with these numbers will fail
pub record IsFresh (calls : Calls) (numbers : List ℕ) : Type 0 where
  pub listed : calls.listed.items ≡ numbers
  pub count : calls.count ≡ 0
  pub failed : calls.failed ≡ 0

-- the number of the next call is listed; a call behind number 2^64 - 1 has no number
abbrev pub NextFails : Calls → Type 0
NextFails calls = (calls.count < 2 ^ 64 - 1) × Contains calls.listed.items (calls.count + 1)

-- one call more was made, which failed or did not, and it failed where its number was listed
pub record CountsCall (old new : Calls) (has_failed : Bool) : Type 0 where
  pub fails : IsTrue has_failed ↔ NextFails old
  pub failed : new.failed ≡ (if has_failed then old.failed + 1 else old.failed)
  pub count : new.count ≡ min (old.count + 1) (2 ^ 64 - 1)
  pub listed : new.listed.items ≡ old.listed.items
