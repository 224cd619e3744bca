use Rattle.std.proofs.Common.{◌≡◌, ◌∙◌, ◌+◌, ◌-◌, ◌<◌, ◌≤◌, ℕ, ap, drop, length, subst, arith}
use Rattle.std.proofs.lemmas.List.{length_push}
use Rattle.es_touches.proofs.Counting.{begun_definitions, last_more, next_definitions, one_more_at_most}
use Rattle.es_touches.specs.Counts.{definitions}
use Rattle.es_touches.specs.Touches.{touches_of}
use Rattle.es_touches.proofs.counts.definitions_behind.Goals as goal

pub loop-i-init : goal.loop-i-init
loop-i-init c =
    let none = ap length c.new-counts.ensures.items in
    (omega (arith, none), λ k d below. absurd (omega (arith, none)), begun_definitions c.args.touches.now _ (omega arith), omega arith)

pub count_with-count-requires : goal.count_with-count-requires
count_with-count-requires c = omega arith

pub loop-i-preserved : goal.loop-i-preserved
loop-i-preserved c =
    let xs = c.args.touches.now in
    let j : ℕ = c.loop-i.i - 1 in
    let next : c.loop-i.i ≡ j + 1 = omega arith in
    let below : j < length xs = omega arith in
    let longer : length c.push.new.self.items ≡ length c.loop-i.counts.items + 1 = ap length c.in_ok-push.ensures.items ∙ length_push c.loop-i.counts.items c.loop-i.count in
    let most : c.count_with-count.result ≤ c.loop-i.count + 1 = one_more_at_most _ c.loop-i.count c.count_with-count.result c.count_with-count.ensures in (
      omega arith,
      last_more (λ n ts. n ≡ definitions ts) xs c.loop-i.i c.loop-i.counts.items c.push.new.self.items c.loop-i.count c.loop-i.invariant.0 c.in_ok-push.ensures.items c.loop-i.invariant.2 c.loop-i.invariant.1,
      next_definitions xs j _ c.loop-i.count c.count_with-count.result below (subst (λ (k : ℕ). c.loop-i.count ≡ definitions (touches_of (drop k xs))) next c.loop-i.invariant.2) c.count_with-count.ensures,
      omega arith,
    )

pub returns : goal.returns
returns c = (omega arith, c.loop-i.invariant.1)
