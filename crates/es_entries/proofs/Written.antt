-- Constructors among elements, one by one.
use Rattle.std.proofs.Common.{◌≡◌, refl, Some, None}
use Rattle.std.specs.Prelude.{not, ◌||◌}
use Rattle.es_steps.specs.Code as of
use Rattle.es_steps.specs.Entries.{constructor_form, constructor_parameters, no_constructor, parameters_of}
use Rattle.es_entries.specs.Constructors.{constructor_at, is_constructor}

pub form_more : (c : of.Code) (cs : of.Codes) → None ≡ constructor_at c → constructor_form (of.and c cs) ≡ constructor_form cs
form_more (of.constructor (of.function f form own_name ps body)) cs none = absurd (cc)
form_more (of.constructor f) cs none = refl
form_more c cs none = refl

pub parameters_more : (c : of.Code) (cs : of.Codes) → None ≡ constructor_at c → constructor_parameters (of.and c cs) ≡ constructor_parameters cs
parameters_more (of.constructor (of.function f form own_name ps body)) cs none = absurd (cc)
parameters_more (of.constructor f) cs none = refl
parameters_more c cs none = refl

pub form_found : (c : of.Code) (cs : of.Codes) (x : of.FunctionForm × of.Codes) → Some x ≡ constructor_at c → constructor_form (of.and c cs) ≡ x.0
form_found (of.constructor (of.function f form own_name ps body)) cs x there = cc
form_found (of.constructor f) cs x there = absurd (cc)
form_found c cs x there = absurd (cc)

pub parameters_found : (c : of.Code) (cs : of.Codes) (x : of.FunctionForm × of.Codes) → Some x ≡ constructor_at c → constructor_parameters (of.and c cs) ≡ parameters_of x.1
parameters_found (of.constructor (of.function f form own_name ps body)) cs x there = cc
parameters_found (of.constructor f) cs x there = absurd (cc)
parameters_found c cs x there = absurd (cc)

pub constructor_more : (c : of.Code) (cs : of.Codes) → not (no_constructor (of.and c cs)) ≡ (is_constructor c || not (no_constructor cs))
constructor_more (of.constructor f) cs = refl
constructor_more c cs = refl
