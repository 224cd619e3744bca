-- What stands behind a call that is told by its form stands behind one of `super`.
use Rattle.std.proofs.Common.{◌≡◌, inl, inr, List, [], ◌∷◌, true, not, ◌&&◌, ◌||◌}
use Rattle.std.proofs.lemmas.Bool.{and_from, and_parts, or_cases, or_left, or_right}
use Rattle.es_lowered.specs.DeadZones.{Touch, is_between, is_call_of_super}
use Rattle.es_steps.specs.KeptNodes.{all_pairs_stand}
use Rattle.es_steps.specs.References.{has_number}
use Rattle.es_touches.specs.Comparison.{is_behind_super}
use Rattle.es_touches.specs.Supers.{any_super_call}
use Rattle.es_touches.specs.declared.source.Source.{Source}

pub called_behind : (s : Source) (t : Touch) (us : List Touch) → any_super_call t us ≡ true → is_behind_super s t us ≡ true
called_behind s t [] calls = absurd (cc)
called_behind s t (u ∷ us) calls =
    let call = is_call_of_super u.form in
    let other = has_number u.number s.supers.now && not (is_between u.form) in
    let held = all_pairs_stand u.held t.held in
    elim (or_cases (call && held) (any_super_call t us) calls) [
      | inl first ↦
          let parts = and_parts call held first in
          or_left ((call || other) && held) (is_behind_super s t us) (and_from (call || other) held (or_left call other parts.0) parts.1)
      | inr later ↦ or_right ((call || other) && held) (is_behind_super s t us) (called_behind s t us later)
    ]
