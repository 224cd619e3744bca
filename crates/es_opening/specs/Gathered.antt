-- The codes in a code that assign or define, in order.
use Rattle.std.specs.Prelude.{List, [], ◌∷◌, ◌++◌, map}
use Rattle.std.proofs.Common.{Bor}
use Rattle.es_codes.specs.CodeView.{code_of}
use Rattle.es_codes.specs.declared.code.Code as declared
use Rattle.es_steps.specs.Code.{Code, Codes, Target, Callee}
use Rattle.es_steps.specs.Opening.{gather, gather_target, gather_callee, gather_all}

abbrev pub single : Code → List Code
single c = c ∷ []

abbrev pub gathered : Code → List Code
gathered c = gather single c

abbrev pub target_gathered : Target → List Code
target_gathered to = gather_target single to

abbrev pub callee_gathered : Callee → List Code
callee_gathered f = gather_callee single f

abbrev pub all_gathered : Codes → List Code
all_gathered cs = gather_all single cs

-- what these codes add
abbrev pub added_by : {A : Type 0} → (Code → List A) → List Code → List A
added_by own [] = []
added_by own (c ∷ cs) = own c ++ added_by own cs

-- what code refers to, as definitions see it
abbrev pub codes_seen : List (Bor declared.Code) → List Code
codes_seen cs = map (λ c. code_of c.now) cs
