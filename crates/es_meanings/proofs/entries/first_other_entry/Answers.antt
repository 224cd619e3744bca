use Rattle.std.proofs.Common.{◌≡◌, ◌<◌, ◌≤◌, refl, sym, ap, subst, ◌∙◌, ℕ, length, get_or, true, false, arith}
use Rattle.std.proofs.lemmas.Option.{slice_get_past, slice_get_read}
use Rattle.es_meanings.proofs.Reaching.{Reached, both_end, more, more_left, more_right, others}
use Rattle.es_meanings.specs.Differences.{DifferFirst}
use Rattle.es_meanings.proofs.entries.first_other_entry.Goals as goal

pub returns-then-right-i : goal.returns-then-right-i
returns-then-right-i c = λ es gs l r.
    let left = c.args.left.now in
    let right = c.args.right.now in
    let i = c.loop-i.i in
    let x = c.index-left-i.result in
    let at_left = slice_get_read left (length left) i x refl c.loop-i-test.true c.index-left-i.is in
    more_left i left right es gs x at_left (slice_get_past right i c.if-right-i.true) (c.loop-i.invariant es gs l r)

pub returns-then-not-is_same_entry : goal.returns-then-not-is_same_entry
returns-then-not-is_same_entry c = λ es gs l r.
    let left = c.args.left.now in
    let right = c.args.right.now in
    let i = c.loop-i.i in
    let x = c.index-left-i.result in
    let y = c.index-right-i.result in
    let within : i < length right = omega (arith, c.if-right-i.false) in
    let at_left = slice_get_read left (length left) i x refl c.loop-i-test.true c.index-left-i.is in
    let at_right = slice_get_read right (length right) i y refl within c.index-right-i.is in
    subst (λ (n : ℕ). DifferFirst n es gs) (sym c.least.ensures) (others i left right es gs x y false at_left at_right c.if-not-is_same_entry.ensures refl (c.loop-i.invariant es gs l r))

pub loop-i-preserved : goal.loop-i-preserved
loop-i-preserved c = λ es gs l r.
    let left = c.args.left.now in
    let right = c.args.right.now in
    let i = c.loop-i.i in
    let x = c.index-left-i.result in
    let y = c.index-right-i.result in
    let within : i < length right = omega (arith, c.if-right-i.false) in
    let at_left = slice_get_read left (length left) i x refl c.loop-i-test.true c.index-left-i.is in
    let at_right = slice_get_read right (length right) i y refl within c.index-right-i.is in
    let next = more i left right es gs x y true at_left at_right c.if-not-is_same_entry.ensures refl (c.loop-i.invariant es gs l r) in
    subst (λ (k : ℕ). Reached k left right es gs) (omega arith) next

pub returns-then-left-right : goal.returns-then-left-right
returns-then-left-right c = λ es gs l r.
    let left = c.args.left.now in
    let right = c.args.right.now in
    let i = c.loop-i.i in
    let y = c.index-right-left.result in
    let at : i ≡ length left = omega (arith, c.loop-i-test.false, c.loop-i.auto.i-end) in
    let within : i < length right = omega (arith, at, c.if-left-right.true) in
    let past : length left ≤ i = omega (arith, at) in
    let at_right = slice_get_read right (length right) i y refl within (c.index-right-left.is ∙ ap (λ k. get_or right k y) (sym at)) in
    subst (λ z. DifferFirst z.number es gs) c.index-right-left.is (more_right i left right es gs y (slice_get_past left i past) at_right (c.loop-i.invariant es gs l r))

pub returns-else-left-right : goal.returns-else-left-right
returns-else-left-right c = λ es gs l r.
    let left = c.args.left.now in
    let right = c.args.right.now in
    let i = c.loop-i.i in
    let past_left : length left ≤ i = omega (arith, c.loop-i-test.false) in
    let past_right : length right ≤ i = omega (arith, past_left, c.if-left-right.false) in
    both_end i left right es gs (slice_get_past left i past_left) (slice_get_past right i past_right) (c.loop-i.invariant es gs l r)
