use Rattle.std.proofs.Common.{◌≡◌, ◌∙◌, ◌+◌, ◌-◌, ◌<◌, ℕ, List, sym, length, arith}
use Rattle.class_details.proofs.Places.{found_first, found_next}
use Rattle.class_details.specs.declared.class_details.ClassDetails.{ClassDetails}
use Rattle.class_details.proofs.find.find_among.Goals as goal

pub returns-then-is_some : goal.returns-then-is_some
returns-then-is_some c =
    let cs : List ClassDetails = c.args.classes.now in
    let n : ℕ = c.loop-place.place in
    let next : n ≡ (n - 1) + 1 = omega (arith, c.loop-place-test.true) in
    let within : n - 1 < length cs = omega (arith, c.loop-place-test.true, c.loop-place.invariant.0) in
    found_first c.args.name.now (n - 1) cs c.find_in-member.result (sym c.is_some.ensures ∙ c.if-is_some.true)
    (found_next c.args.name.now (n - 1) n cs c.index-classes-place.result c.find_in-member.result next within c.index-classes-place.is c.find_in-member.ensures c.loop-place.invariant.1)
