use Rattle.std.proofs.Common.{◌≡◌, ◌+◌, ◌-◌, ◌<◌, ◌||◌, ℕ, List, length, drop, subst, arith}
use Rattle.es_base.specs.Conforms.{is_among}
use Rattle.es_binding_faults.specs.Named.{named}
use Rattle.es_steps.specs.References.{has_number, is_declared, repeated}
use Rattle.es_outside.proofs.DeclaredNames.{one_later, one_repeated}
use Rattle.es_references.specs.Frames.{ids}
use Rattle.es_outside.proofs.changing.add_repeated.Goals as goal

pub loop-i-preserved : goal.loop-i-preserved
loop-i-preserved c =
    let names = c.args.names.now in
    let j : ℕ = c.loop-i.i - 1 in
    let next : c.loop-i.i ≡ j + 1 = omega arith in
    let below : j < length names = omega arith in
    let later : (s : List ℕ) → is_among s c.loop-i.later ≡ is_declared s (named (drop (j + 1) names)) = λ s. subst (λ (k : ℕ). is_among s c.loop-i.later ≡ is_declared s (named (drop k names))) next (c.loop-i.invariant.0 s) in (
      λ s. one_later s c.loop-i.later c.add_if_later.new.later names j _ below c.in_ok-add_if_later.ensures.later (later s),
      λ n. one_repeated n (has_number n (ids c.args.bindings.now.items)) (ids c.loop-i.bindings.items) (ids c.add_if_later.new.bindings.items) c.loop-i.later names j _ below c.in_ok-add_if_later.ensures.bindings later
          (subst (λ (k : ℕ). has_number n (ids c.loop-i.bindings.items) ≡ (has_number n (ids c.args.bindings.now.items) || has_number n (repeated (named (drop k names))))) next (c.loop-i.invariant.1 n)),
    )
