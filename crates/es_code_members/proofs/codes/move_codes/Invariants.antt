use Rattle.std.proofs.Common.{◌≡◌, drop}
use Rattle.es_codes.specs.CodeView.{codes_of}
use Rattle.es_steps.specs.Code.{joined}
use Rattle.es_code_members.proofs.codes.move_codes.Given as goal

abbrev pub invariant-loop-code : goal.invariant-loop-code
invariant-loop-code l = joined (codes_of l.to) (codes_of (drop l.code-index l.codes)) ≡ joined (codes_of l.fn.to) (codes_of l.fn.codes)
