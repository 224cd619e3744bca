use Rattle.std.proofs.Common.{◌≡◌, ◌+◌, ◌<◌, ◌≤◌, List, refl, sym, ap, ◌∙◌, arith, drop, get_or, length}
use Rattle.es_code_members.proofs.Chaining.{joined_one, joined_step}
use Rattle.es_code_members.proofs.Moved.{drop-here, ended}
use Rattle.es_codes.specs.CodeView.{code_of, codes_of}
use Rattle.es_codes.specs.declared.code.Code.{Code}
use Rattle.es_opening.proofs.Sizes.{item_below}
use Rattle.es_opening.specs.Size.{size}
use Rattle.es_steps.specs.Code as of
use Rattle.es_steps.specs.Code.{and, done, joined}
use Rattle.es_code_copies.proofs.copy.+copy.Goals as goal

pub copy_codes-copy_code-requires : goal.copy_codes-copy_code-requires
copy_codes-copy_code-requires t c =
    let code = c.code-item.result in
    let same : size (code_of code) ≡ size (code_of (get_or c.args.codes.now c.loop-code.code-index code)) = ap (λ x. size (code_of x)) c.code-item.is in
    let below = item_below c.args.codes.now c.loop-code.code-index code c.loop-code-test.true in
    (omega (arith, below, same, c.decreases), tt)

pub copy_codes-loop-code-preserved : goal.copy_codes-loop-code-preserved
copy_codes-loop-code-preserved t c =
    let codes = c.args.codes.now in
    let i = c.loop-code.code-index in
    let code = c.code-item.result in
    let here : i < length codes = omega arith in
    joined_step (codes_of c.loop-code.copies) (codes_of c.push.new.self) (and (code_of code) done) (codes_of (drop (i + 1) codes)) (codes_of codes)
    (ap codes_of c.in_ok-push.ensures.ok ∙ joined_one c.loop-code.copies c.in_ok-copy_code.field-0 ∙ ap (λ (x : of.Code). joined (codes_of c.loop-code.copies) (and x done)) c.in_ok-copy_code.ensures)
    (ap (λ (xs : List Code). joined (codes_of c.loop-code.copies) (codes_of xs)) (sym (drop-here codes i code here c.code-item.is)) ∙ c.loop-code.invariant)

pub copy_codes-returns : goal.copy_codes-returns
copy_codes-returns t c =
    let past : length c.args.codes.now ≤ c.loop-code.code-index = omega arith in
    ended codes_of refl c.args.codes.now c.loop-code.code-index (codes_of c.loop-code.copies) (codes_of c.args.codes.now) past c.loop-code.invariant
