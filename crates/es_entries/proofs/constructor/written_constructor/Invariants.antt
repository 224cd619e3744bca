use Rattle.std.proofs.Common.{◌≡◌, drop}
use Rattle.es_codes.specs.CodeView.{codes_of}
use Rattle.es_steps.specs.Entries as spec
use Rattle.es_entries.proofs.constructor.written_constructor.Given as goal

abbrev pub invariant-loop-element : goal.invariant-loop-element
invariant-loop-element l =
    (spec.constructor_form (codes_of (drop l.element-index l.elements)) ≡ spec.constructor_form (codes_of l.elements))
    × (spec.constructor_parameters (codes_of (drop l.element-index l.elements)) ≡ spec.constructor_parameters (codes_of l.elements))
