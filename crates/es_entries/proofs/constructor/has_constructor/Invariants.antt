use Rattle.std.proofs.Common.{◌≡◌, drop}
use Rattle.es_codes.specs.CodeView.{codes_of}
use Rattle.es_steps.specs.Entries as spec
use Rattle.es_entries.proofs.constructor.has_constructor.Given as goal

abbrev pub invariant-loop-element : goal.invariant-loop-element
invariant-loop-element l = spec.no_constructor (codes_of (drop l.element-index l.elements)) ≡ spec.no_constructor (codes_of l.elements)
