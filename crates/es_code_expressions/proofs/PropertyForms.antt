-- Properties of objects, by whether their keys are operands.
use Rattle.std.proofs.Common.{◌≡◌, refl, ap, List, ◌∷◌, ◌++◌, Bool, true, false, cond}
use Rattle.std.specs.Prelude.{not, ◌&&◌, ◌||◌, bytes_eq, codes}
use Rattle.es_steps.specs.Code.{Code, piece, key_of, done, and, joined}
use Rattle.es_steps.specs.Events.{Detail, Operand}
use Rattle.es_steps.specs.Expressions.{key_details}
use Rattle.es_steps.specs.Members.{Members, at, flag_of, word_of}
use Rattle.es_code_targets.proofs.KeyDetails.{object_key}
use Rattle.es_code_targets.specs.ConstantKeys.{said_by_key}
use Rattle.es_code_expressions.specs.Properties.{converted_operands}

pub of_property : (keyed : Bool) (k v : Code) (ps : Members) (form : List Detail) → piece (said_by_key keyed (bytes_eq (word_of (at 2 ps)) (codes "init") && not (flag_of (at 3 ps) || flag_of (at 4 ps))) k ++ form) (joined (converted_operands keyed k) (and v done)) ≡ cond keyed (piece (Operand ∷ form) (and (key_of k) (and v done))) (piece (key_details k ps ++ form) (and v done))
of_property true k v ps form = refl
of_property false k v ps form = ap (λ (ds : List Detail). piece (ds ++ form) (and v done)) (object_key k ps)
