-- A run of a part only adds names.
use Rattle.std.proofs.Common.{ℕ, List, map}
use Rattle.es_code_bodies.proofs.Follow as follow
use Rattle.es_code_environments.specs.Parts.{code_run, codes_run, run_of}
use Rattle.es_code_environments.specs.declared.part.CodeRole.{CodeRole}
use Rattle.es_code_environments.specs.declared.part.CodesRole.{CodesRole}
use Rattle.es_code_environments.specs.declared.part.Part.{Part}
use Rattle.es_code_rules.specs.Elsewhere.{definition_of}
use Rattle.es_code_rules.specs.declared.definition.Definition.{Definition}
use Rattle.es_codes.specs.CodeView.{callee_of, code_of, codes_of, target_of}
use Rattle.es_evaluation.proofs.Opened.{evaluated_follows}
use Rattle.es_evaluation.specs.Agreement.{Follows, IsFine}
use Rattle.es_evaluation.specs.Direct as direct
use Rattle.es_evaluation.specs.Direct.{form, settled}
use Rattle.es_steps.specs.Code.{Code, Codes, Opened}
use Rattle.es_steps.specs.Evaluation.{Environment, Evaluation, ev}
use Rattle.es_steps.specs.Opening.{opening}
use Rattle.es_steps.specs.Values.{Undefined, Value}

abbrev opened : List Definition → Opened → Evaluation
opened ds = opening (map definition_of ds)

abbrev steps : List Definition → Opened → direct.Step Value
steps ds = direct.opening (map definition_of ds)

known : (ds : List Definition) (c : Code) → Follows (ev (opened ds) c) (settled (form (steps ds) c))
known ds c = evaluated_follows (map definition_of ds) c

code_is_fine : (ds : List Definition) (role : CodeRole) (c : Code) (env : Environment) → IsFine env (code_run (opened ds) role c env)
code_is_fine ds CodeRole.Value c env = (known ds c).fine env
code_is_fine ds CodeRole.Member c env = (follow.taken_follows (opened ds) (steps ds) (known ds) Undefined c).fine env
code_is_fine ds CodeRole.Key c env = (follow.one_key_follows (opened ds) (steps ds) (known ds) c).fine env
code_is_fine ds (CodeRole.Static n) c env = (follow.static_element_follows (opened ds) (steps ds) (known ds) n Undefined c).fine env
code_is_fine ds (CodeRole.Field n) c env = (follow.field_element_follows (opened ds) (steps ds) (known ds) n c).fine env

codes_are_fine : (ds : List Definition) (late : List ℕ) (role : CodesRole) (cs : Codes) (env : Environment) → IsFine env (codes_run (opened ds) late role cs env)
codes_are_fine ds late CodesRole.All cs env = (follow.all_alone_follows (opened ds) (steps ds) (known ds) cs).fine env
codes_are_fine ds late CodesRole.Keys cs env = (follow.keys_alone_follows (opened ds) (steps ds) (known ds) cs).fine env
codes_are_fine ds late (CodesRole.Fields n) cs env = (follow.fields_follow (opened ds) (steps ds) (known ds) n cs).fine env
codes_are_fine ds late CodesRole.Parameters cs env = (follow.given_follows (opened ds) (steps ds) (known ds) 0 late cs).fine env

pub part_is_fine : (ds : List Definition) (late : List ℕ) (part : Part) (env : Environment) → IsFine env (run_of (opened ds) late part env)
part_is_fine ds late (Part.Code role c) env = code_is_fine ds role (code_of c.now) env
part_is_fine ds late (Part.Codes role cs) env = codes_are_fine ds late role (codes_of cs.now) env
part_is_fine ds late (Part.Target to) env = (follow.target_alone_follows (opened ds) (steps ds) (known ds) (target_of to.now)).fine env
part_is_fine ds late (Part.Callee f) env = (follow.callee_alone_follows (opened ds) (steps ds) (known ds) (callee_of f.now)).fine env
part_is_fine ds late (Part.Arguments ss cs) env = (follow.arguments_follow (opened ds) (steps ds) (known ds) ss.now (codes_of cs.now)).fine env
