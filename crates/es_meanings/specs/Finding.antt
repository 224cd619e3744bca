-- What a function gives that seeks what may not be there.
use Rattle.std.specs.Prelude.{◌≡◌, Option, Some, None}
use Rattle.std.specs.declared.result.Result.{Result}
use Rattle.std.specs.declared.result.Result.TheVariants.{Ok, Err}
use Rattle.es_evaluator.specs.declared.fault.Fault.{Fault}

-- what is there is, in code, this
pub record Found {A B : Type 0} (x : B) (o : Option A) (Is : B → A → Type 0) : Type 0 where
  pub value : A
  pub has : o ≡ Some value
  pub is : Is x value

-- none exactly where nothing is there; nothing is said where memory ran out or codes stood too deep
abbrev pub Finds : {A B : Type 0} → Result B Fault → Option A → (B → A → Type 0) → Type 0
Finds (Ok x) o Is = Found x o Is
Finds (Err Fault.NoMeaning) o Is = o ≡ None
Finds (Err Fault.TooDeep) o Is = Unit {0}
Finds (Err Fault.NoMemory) o Is = Unit {0}
