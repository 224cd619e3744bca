-- The helpers that a lowered program calls, members of `babelHelpers` (Babel's runtime helpers).
use Rattle.std.specs.Prelude.{List, [], ◌∷◌, cond, codes, bytes_eq, Option, Some, None}
use Rattle.es_steps.specs.Values.{String}

pub data Helper : Type 0 where
  DefineProperty : Helper
  ClassPrivateFieldInitSpec : Helper
  ClassPrivateMethodInitSpec : Helper
  ClassPrivateFieldGet2 : Helper
  ClassPrivateFieldSet2 : Helper
  AssertClassBrand : Helper
  ToSetter : Helper
  CheckInRHS : Helper
  ReadOnlyError : Helper
  WriteOnlyError : Helper
  SuperPropGet : Helper
  SuperPropSet : Helper
  ClassPrivateFieldLooseKey : Helper
  ClassPrivateFieldLooseBase : Helper
  SetFunctionName : Helper
  ToPropertyKey : Helper

abbrev pub helper_names : List (String × Helper)
helper_names =
    (codes "defineProperty", DefineProperty)
    ∷ (codes "classPrivateFieldInitSpec", ClassPrivateFieldInitSpec)
    ∷ (codes "classPrivateMethodInitSpec", ClassPrivateMethodInitSpec)
    ∷ (codes "classPrivateFieldGet2", ClassPrivateFieldGet2)
    ∷ (codes "classPrivateFieldSet2", ClassPrivateFieldSet2)
    ∷ (codes "assertClassBrand", AssertClassBrand)
    ∷ (codes "toSetter", ToSetter)
    ∷ (codes "checkInRHS", CheckInRHS)
    ∷ (codes "readOnlyError", ReadOnlyError)
    ∷ (codes "writeOnlyError", WriteOnlyError)
    ∷ (codes "superPropGet", SuperPropGet)
    ∷ (codes "superPropSet", SuperPropSet)
    ∷ (codes "classPrivateFieldLooseKey", ClassPrivateFieldLooseKey)
    ∷ (codes "classPrivateFieldLooseBase", ClassPrivateFieldLooseBase)
    ∷ (codes "setFunctionName", SetFunctionName)
    ∷ (codes "toPropertyKey", ToPropertyKey)
    ∷ []

abbrev pub helper_in : String → List (String × Helper) → Option Helper
helper_in s [] = None
helper_in s (p ∷ ps) = cond (bytes_eq s p.0) (Some p.1) (helper_in s ps)

abbrev pub helper_named : String → Option Helper
helper_named s = helper_in s helper_names
