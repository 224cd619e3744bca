use Rattle.std.proofs.Common.{◌≡◌, Some, drop, length}
use Rattle.es_codes.specs.CodeView.{codes_of}
use Rattle.es_entries.specs.Methods as entered
use Rattle.es_evaluation.specs.Direct.{kept}
use Rattle.es_code_environments.proofs.class.methods_of.Given as goal
use Rattle.es_code_environments.specs.Classes.{joined, methods_in}

abbrev pub invariant-loop-element : goal.invariant-loop-element
invariant-loop-element l =
    (joined (Some (entered.methods_in l.methods)) (methods_in l.terms l.here (codes_of (drop l.element-index l.elements))) ≡ methods_in l.terms l.fn.here (codes_of l.elements))
    × (kept (length l.fn.here) l.here ≡ l.fn.here)
