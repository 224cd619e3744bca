use Rattle.std.proofs.Common.{◌≡◌, drop}
use Rattle.es_steps.specs.ClassHeads.{named_as}
use Rattle.es_code_classes.proofs.class.named_as.Given as goal

abbrev pub invariant-loop-pair : goal.invariant-loop-pair
invariant-loop-pair l = named_as l.class (drop l.pair-index l.named) ≡ named_as l.class l.named
