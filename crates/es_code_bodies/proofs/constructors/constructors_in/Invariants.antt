use Rattle.std.proofs.Common.{◌≡◌, drop}
use Rattle.es_codes.specs.CodeView.{codes_of}
use Rattle.es_code_bodies.specs.Constructing.{constructors_in}
use Rattle.es_code_bodies.proofs.constructors.constructors_in.Given as goal

-- what is left to look through
abbrev pub invariant-loop-i : goal.invariant-loop-i
invariant-loop-i l = constructors_in (codes_of l.elements) ≡ constructors_in (codes_of (drop l.i l.elements))
