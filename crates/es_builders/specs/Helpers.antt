-- The helpers of a lowered program, by their names (Babel's runtime helpers).
use Rattle.std.specs.Prelude.{List, ℕ, codes}
use Rattle.es_steps.specs.Helpers as meant
use Rattle.es_builders.specs.declared.helper.Helper.{Helper}

abbrev pub helper_name : Helper → List ℕ
helper_name Helper.DefineProperty = codes "defineProperty"
helper_name Helper.ClassPrivateFieldInitSpec = codes "classPrivateFieldInitSpec"
helper_name Helper.ClassPrivateMethodInitSpec = codes "classPrivateMethodInitSpec"
helper_name Helper.ClassPrivateFieldGet2 = codes "classPrivateFieldGet2"
helper_name Helper.ClassPrivateFieldSet2 = codes "classPrivateFieldSet2"
helper_name Helper.AssertClassBrand = codes "assertClassBrand"
helper_name Helper.ToSetter = codes "toSetter"
helper_name Helper.CheckInRHS = codes "checkInRHS"
helper_name Helper.ReadOnlyError = codes "readOnlyError"
helper_name Helper.WriteOnlyError = codes "writeOnlyError"
helper_name Helper.SuperPropGet = codes "superPropGet"
helper_name Helper.SuperPropSet = codes "superPropSet"
helper_name Helper.ClassPrivateFieldLooseKey = codes "classPrivateFieldLooseKey"
helper_name Helper.ClassPrivateFieldLooseBase = codes "classPrivateFieldLooseBase"
helper_name Helper.SetFunctionName = codes "setFunctionName"
helper_name Helper.ToPropertyKey = codes "toPropertyKey"

-- which helper of the meaning it is
abbrev pub meaning : Helper → meant.Helper
meaning Helper.DefineProperty = meant.DefineProperty
meaning Helper.ClassPrivateFieldInitSpec = meant.ClassPrivateFieldInitSpec
meaning Helper.ClassPrivateMethodInitSpec = meant.ClassPrivateMethodInitSpec
meaning Helper.ClassPrivateFieldGet2 = meant.ClassPrivateFieldGet2
meaning Helper.ClassPrivateFieldSet2 = meant.ClassPrivateFieldSet2
meaning Helper.AssertClassBrand = meant.AssertClassBrand
meaning Helper.ToSetter = meant.ToSetter
meaning Helper.CheckInRHS = meant.CheckInRHS
meaning Helper.ReadOnlyError = meant.ReadOnlyError
meaning Helper.WriteOnlyError = meant.WriteOnlyError
meaning Helper.SuperPropGet = meant.SuperPropGet
meaning Helper.SuperPropSet = meant.SuperPropSet
meaning Helper.ClassPrivateFieldLooseKey = meant.ClassPrivateFieldLooseKey
meaning Helper.ClassPrivateFieldLooseBase = meant.ClassPrivateFieldLooseBase
meaning Helper.SetFunctionName = meant.SetFunctionName
meaning Helper.ToPropertyKey = meant.ToPropertyKey
