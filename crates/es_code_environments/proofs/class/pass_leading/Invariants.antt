use Rattle.std.proofs.Common.{◌≡◌, drop, length}
use Rattle.es_codes.specs.CodeView.{codes_of}
use Rattle.es_evaluation.specs.Direct.{kept}
use Rattle.es_code_environments.proofs.class.pass_leading.Given as goal
use Rattle.es_code_environments.specs.Classes.{behind_leading}

abbrev pub invariant-loop-element : goal.invariant-loop-element
invariant-loop-element l =
    (behind_leading l.terms l.class l.here (codes_of (drop l.element-index l.elements)) ≡ behind_leading l.terms l.class l.fn.here (codes_of l.elements))
    × (kept (length l.fn.here) l.here ≡ l.fn.here)
