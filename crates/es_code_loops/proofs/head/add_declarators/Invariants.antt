use Rattle.std.proofs.Common.{◌≡◌, drop}
use Rattle.es_codes.specs.CodeView.{codes_of}
use Rattle.es_steps.specs.Code.{joined}
use Rattle.es_steps.specs.Statements.{given_targets, initialized_first}
use Rattle.es_code_loops.proofs.head.add_declarators.Given as goal

abbrev pub invariant-loop-declarator : goal.invariant-loop-declarator
invariant-loop-declarator l = (joined (codes_of l.initializers) (initialized_first (codes_of (drop l.declarator-index l.declarators))) ≡ joined (codes_of l.fn.initializers) (initialized_first (codes_of l.fn.declarators))) × (joined (codes_of l.targets) (given_targets l.node (codes_of (drop l.declarator-index l.declarators))) ≡ joined (codes_of l.fn.targets) (given_targets l.node (codes_of l.fn.declarators)))
