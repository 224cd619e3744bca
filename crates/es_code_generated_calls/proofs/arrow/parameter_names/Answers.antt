use Rattle.std.proofs.Common.{◌≡◌, ℕ, ◌++◌, [], ◌∷◌, ◌≤◌, ◌<◌, length, get_or, arith}
use Rattle.es_code_generated_calls.proofs.ArrowForms.{names_end, names_step, names_stop}
use Rattle.es_code_generated_calls.proofs.arrow.parameter_names.Goals as goal

pub loop-parameter-preserved : goal.loop-parameter-preserved
loop-parameter-preserved c =
    let xs = c.args.parameters.now in
    let i : ℕ = c.loop-parameter.parameter-index in
    let here : i < length xs = omega arith in
    let this : c.parameter-item.result ≡ get_or xs i c.parameter-item.result = cc in
    let more : c.push.new.self ≡ c.loop-parameter.names ++ (c.in-Some.name.now ∷ []) = cc (c.in_ok-push-in-Some.ensures.ok, c.in_ok-try_clone-in-Some.ensures) in
    names_step xs i c.parameter-item.result c.loop-parameter.names c.push.new.self c.in-Some.name.now _ here this c.in-Some.ensures more c.loop-parameter.invariant

pub returns-in-None : goal.returns-in-None
returns-in-None c =
    let xs = c.args.parameters.now in
    let i : ℕ = c.loop-parameter.parameter-index in
    let here : i < length xs = omega arith in
    let this : c.parameter-item.result ≡ get_or xs i c.parameter-item.result = cc in
    names_stop xs i c.parameter-item.result c.loop-parameter.names _ here this c.in-None.ensures c.loop-parameter.invariant

pub returns : goal.returns
returns c =
    let past : length c.args.parameters.now ≤ c.loop-parameter.parameter-index = omega arith in
    names_end c.args.parameters.now c.loop-parameter.parameter-index c.loop-parameter.names _ past c.loop-parameter.invariant
