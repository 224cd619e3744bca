use Rattle.std.proofs.Common.{◌≡◌, drop, length}
use Rattle.es_codes.specs.CodeView.{codes_of}
use Rattle.es_evaluation.specs.Direct.{kept}
use Rattle.es_code_environments.proofs.class.keys_stay.Given as goal
use Rattle.es_code_environments.specs.Classes.{keys_stay}

abbrev pub invariant-loop-element : goal.invariant-loop-element
invariant-loop-element l =
    (keys_stay l.terms l.here l.start (codes_of (drop l.element-index l.elements)) ≡ keys_stay l.terms l.fn.here l.fn.start (codes_of l.elements))
    × ((kept (length l.fn.here) l.here ≡ l.fn.here) × (l.start ≡ l.fn.start))
