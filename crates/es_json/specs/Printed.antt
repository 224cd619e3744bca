-- Which values their text fixes (our own): no float, and integers that fit 64 bits.
use Rattle.std.specs.Prelude.{◌^◌, ◌<◌, pos, negsuc}
use Rattle.serde_json.specs.Data.{Num, unsigned, negative, float, Data, null, boolean as json_boolean, number, string as json_string, array, object, Items, no_items, item, Members, no_members, member}

-- A negative number is below zero: any other has the text of an unsigned one.
abbrev pub NumberIsWell : Num → Type 0
NumberIsWell (unsigned n) = n < 2 ^ 64
NumberIsWell (negative (pos n)) = ⊥
NumberIsWell (negative (negsuc n)) = n < 2 ^ 63
NumberIsWell (float x) = ⊥

abbrev mutual
  pub IsPrintedWell : Data → Type 0
  IsPrintedWell null = Unit
  IsPrintedWell (json_boolean b) = Unit
  IsPrintedWell (number n) = NumberIsWell n
  IsPrintedWell (json_string s) = Unit
  IsPrintedWell (array ds) = ItemsAreWell ds
  IsPrintedWell (object ms) = MembersAreWell ms

  pub ItemsAreWell : Items → Type 0
  ItemsAreWell no_items = Unit
  ItemsAreWell (item d ds) = IsPrintedWell d × ItemsAreWell ds

  pub MembersAreWell : Members → Type 0
  MembersAreWell no_members = Unit
  MembersAreWell (member k d ms) = IsPrintedWell d × MembersAreWell ms
