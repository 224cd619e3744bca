-- Results in which nothing is said where memory ran out or codes stand in codes too often.
use Rattle.std.specs.Prelude.{◌≡◌, Bool, true, false, Option, Some, None}
use Rattle.std.specs.declared.result.Result.{Result}
use Rattle.std.specs.declared.result.Result.TheVariants.{Ok, Err}
use Rattle.es_evaluator.specs.declared.fault.Fault.{Fault}

-- A value, seen by view; none where there is none; nothing is said where memory ran out or codes stand in codes too often.
abbrev pub Gives : {A B : Type 0} → (B → A) → Result B Fault → Option A → Type 0
Gives view (Ok x) o = o ≡ Some (view x)
Gives view (Err Fault.NoMeaning) o = o ≡ None
Gives view (Err Fault.TooDeep) o = Unit {0}
Gives view (Err Fault.NoMemory) o = Unit {0}

-- whether something holds: if it does not, there is no meaning
abbrev pub Holds : {B : Type 0} → Result B Fault → Bool → Type 0
Holds (Ok x) b = b ≡ true
Holds (Err Fault.NoMeaning) b = b ≡ false
Holds (Err Fault.TooDeep) b = Unit {0}
Holds (Err Fault.NoMemory) b = Unit {0}

-- what is refused by memory and by depth alone
abbrev pub Proceeds : {B : Type 0} → Result B Fault → Type 0
Proceeds (Ok x) = Unit {0}
Proceeds (Err Fault.NoMeaning) = ⊥
Proceeds (Err Fault.TooDeep) = Unit {0}
Proceeds (Err Fault.NoMemory) = Unit {0}
