use Rattle.std.proofs.Common.{◌≡◌, drop}
use Rattle.es_codes.specs.CodeView.{codes_of}
use Rattle.es_steps.specs.GeneratedForms.{no_spread}
use Rattle.es_code_reading.proofs.spread.no_spread.Given as goal

abbrev pub invariant-loop-code : goal.invariant-loop-code
invariant-loop-code l = no_spread (codes_of (drop l.code-index l.codes)) ≡ no_spread (codes_of l.codes)
