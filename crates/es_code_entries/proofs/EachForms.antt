-- What codes in order have: what the first has, and what the others have behind it.
use Rattle.std.proofs.Common.{◌≡◌, refl, [], ◌++◌}
use Rattle.es_steps.specs.Code.{Code, Codes, pattern, rest, and, done}
use Rattle.es_steps.specs.Entries.{after_run}
use Rattle.es_steps.specs.Evaluation.{Environment}
use Rattle.es_code_entries.proofs.Reached.{Goes}
use Rattle.es_code_environments.specs.Parts.{code_run}
use Rattle.es_code_environments.specs.Standing.{opens_in}
use Rattle.es_code_entries.specs.Walked.{code_entries, each_entries, element_function, entries, function_entries, held_entries, parameter_entries, parameter_entry}
use Rattle.es_code_environments.specs.declared.part.CodeRole.{CodeRole}
use Rattle.es_code_environments.specs.declared.terms.Terms.{Terms}

pub each_goes : (t : Terms) (role : CodeRole) → Goes (λ (s : Environment) cs. each_entries t s role cs) (λ s c. code_entries t s role c) (λ s c. after_run s (code_run (opens_in t) role c s))
each_goes t CodeRole.Value = λ s c cs. refl
each_goes t CodeRole.Member = λ s c cs. refl
each_goes t CodeRole.Key = λ s c cs. refl
each_goes t (CodeRole.Static n) = λ s c cs. refl
each_goes t (CodeRole.Field n) = λ s c cs. refl

pub none_in_each : (t : Terms) (role : CodeRole) (s : Environment) → each_entries t s role done ≡ []
none_in_each t CodeRole.Value s = refl
none_in_each t CodeRole.Member s = refl
none_in_each t CodeRole.Key s = refl
none_in_each t (CodeRole.Static n) s = refl
none_in_each t (CodeRole.Field n) s = refl

pub held_go : (t : Terms) → Goes (λ (s : Environment) cs. held_entries t s cs) (λ s c. entries t s c) (λ s c. s)
held_go t = λ s c cs. refl

one_parameter : (t : Terms) (s : Environment) (c : Code) (cs : Codes) → parameter_entries t s (and c cs) ≡ parameter_entry t s c ++ parameter_entries t s cs
one_parameter t s (pattern m to) cs = refl
one_parameter t s (rest to) cs = refl
one_parameter t s c cs = refl

pub parameters_go : (t : Terms) → Goes (λ (s : Environment) cs. parameter_entries t s cs) (λ s c. parameter_entry t s c) (λ s c. s)
parameters_go t = λ s c cs. one_parameter t s c cs

-- in front of a class, and inside its construction
pub functions_go : (t : Terms) → Goes (λ (p : Environment × Environment) cs. function_entries t p.0 p.1 cs) (λ p c. element_function t p.0 p.1 c) (λ p c. p)
functions_go t = λ p c cs. refl
