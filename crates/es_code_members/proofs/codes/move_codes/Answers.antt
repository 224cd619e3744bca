use Rattle.std.proofs.Common.{◌≡◌, refl, ◌≤◌, ◌<◌, length, get_or, arith}
use Rattle.es_codes.specs.CodeView.{code_of, codes_of}
use Rattle.es_steps.specs.Code.{and, done, joined}
use Rattle.es_code_members.proofs.Chaining.{joined_one}
use Rattle.es_code_members.proofs.Moved as moved
use Rattle.es_code_members.proofs.codes.move_codes.Goals as goal

pub loop-code-preserved : goal.loop-code-preserved
loop-code-preserved c =
    let here : c.loop-code.code-index < length c.loop-code.codes = omega arith in
    let this : c.code-item.result ≡ get_or c.loop-code.codes c.loop-code.code-index c.code-item.result = cc in
    moved.code c.loop-code.codes c.loop-code.code-index c.code-item.result c.replace.new.dest (codes_of c.loop-code.to) (codes_of c.push.new.self) _ here this (let added : codes_of c.push.new.self ≡ joined (codes_of c.loop-code.to) (and (code_of c.code-item.result) done) = cc (joined_one c.loop-code.to c.code-item.result, c.in_ok-push.ensures.ok) in added) c.loop-code.invariant

pub returns : goal.returns
returns c =
    let past : length c.loop-code.codes ≤ c.loop-code.code-index = omega arith in
    moved.ended codes_of refl c.loop-code.codes c.loop-code.code-index _ _ past c.loop-code.invariant
