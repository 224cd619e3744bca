use Rattle.std.proofs.Common.{◌≡◌, drop}
use Rattle.es_codes.specs.CodeView.{codes_of}
use Rattle.es_steps.specs.Code.{joined}
use Rattle.es_steps.specs.Statements.{undefined_lets}
use Rattle.es_code_declarations.proofs.declaration.undefined_lets.Given as goal

abbrev pub invariant-loop-declarator : goal.invariant-loop-declarator
invariant-loop-declarator l = joined (codes_of l.all) (undefined_lets (codes_of (drop l.declarator-index l.declarators))) ≡ undefined_lets (codes_of l.fn.declarators)
