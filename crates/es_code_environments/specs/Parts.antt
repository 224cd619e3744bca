-- The runs of parts of codes, from the environments in front of them.
use Rattle.std.specs.Prelude.{List, ℕ}
use Rattle.es_codes.specs.CodeView.{callee_of, code_of, codes_of, target_of}
use Rattle.es_steps.specs.Code.{Code, Codes, Opened}
use Rattle.es_steps.specs.Entries.{ev_given}
use Rattle.es_steps.specs.Evaluation.{Evaluation, bind_parameters, ev, ev_all, ev_callee, ev_field, ev_initializers, ev_key, ev_keys, ev_static, ev_take, ev_target, gives}
use Rattle.es_steps.specs.Values.{Undefined}
use Rattle.es_code_environments.specs.declared.part.CodeRole.{CodeRole}
use Rattle.es_code_environments.specs.declared.part.CodesRole.{CodesRole}
use Rattle.es_code_environments.specs.declared.part.Part.{Part}

abbrev pub code_run : (Opened → Evaluation) → CodeRole → Code → Evaluation
code_run opens CodeRole.Value c = ev opens c
code_run opens CodeRole.Member c = ev_take opens Undefined c
code_run opens CodeRole.Key c = ev_key opens c
code_run opens (CodeRole.Static n) c = ev_static opens n Undefined c
code_run opens (CodeRole.Field n) c = ev_field opens n c

abbrev pub codes_run : (Opened → Evaluation) → List ℕ → CodesRole → Codes → Evaluation
codes_run opens late CodesRole.All cs = ev_all opens cs (λ vs. gives Undefined)
codes_run opens late CodesRole.Keys cs = ev_keys opens cs (λ ks. gives Undefined)
codes_run opens late (CodesRole.Fields n) cs = ev_initializers opens n cs
codes_run opens late CodesRole.Parameters cs = ev_given opens 0 late cs

abbrev pub run_of : (Opened → Evaluation) → List ℕ → Part → Evaluation
run_of opens late (Part.Code role c) = code_run opens role (code_of c.now)
run_of opens late (Part.Codes role cs) = codes_run opens late role (codes_of cs.now)
run_of opens late (Part.Target to) = ev_target opens (target_of to.now) (λ t. gives Undefined)
run_of opens late (Part.Callee f) = ev_callee opens (callee_of f.now) (λ v receiver. gives v)
run_of opens late (Part.Arguments ss cs) = ev_all opens (codes_of cs.now) (λ vs. bind_parameters ss.now vs)
