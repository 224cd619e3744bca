-- The laws of looking a private name up, as the contracts of src/law.rt name them.
use Rattle.std.specs.Prelude.{◌≡◌, ◌<◌, ℕ, List, Some, None, option_and_then, slice_get}
use Rattle.class_details.specs.Stack.{found, found_in}
use Rattle.class_details.specs.declared.class_details.ClassDetails.{ClassDetails}
use Rattle.class_details.specs.declared.found.Found.{Found}

-- the class at the place of what was found has the member, and none behind it has one of this name
pub record IsNearest (name : List ℕ) (cs : List ClassDetails) (f : Found) : Type 0 where
  pub here : option_and_then (found_in name f.class) (slice_get cs f.class) ≡ Some f
  pub none_behind : (j : ℕ) (c : ClassDetails) → f.class < j → slice_get cs j ≡ Some c → found_in name j c ≡ None

abbrev pub NearestLaw : Type 0
NearestLaw = (name : List ℕ) (cs : List ClassDetails) (f : Found) → found name cs ≡ Some f → IsNearest name cs f
