-- Keys that need a temporary.
use Rattle.std.proofs.Common.{◌≡◌, refl, Bool, true, false, not}
use Rattle.es_base.specs.Tree.{Node}
use Rattle.es_base.specs.declared.kind.Kind.{Kind}
use Rattle.es_duplicates.specs.Law.{KeyLaw}
use Rattle.es_duplicates.specs.Repetition.{constant_repetition, is_held}
use Rattle.es_steps.specs.LoweredClasses.{has_no_items, is_regular_expression}
use Rattle.es_steps.specs.Parts.{at}

held : (b : Bool) → is_held (constant_repetition b) ≡ not b
held true = refl
held false = refl

held_not : (b : Bool) → is_held (constant_repetition (not b)) ≡ b
held_not true = refl
held_not false = refl

pub key_law : KeyLaw
key_law t written references (Node Kind.Literal m span id ps) h = held_not (is_regular_expression (at 0 ps))
key_law t written references (Node Kind.TemplateLiteral m span id ps) h = held (has_no_items (at 1 ps))
key_law t written references (Node Kind.IdentifierReference m span id ps) h = absurd (h refl)
key_law t written references (Node kind m span id ps) h = refl
