use Rattle.std.proofs.Common.{◌≡◌, ◌++◌, drop}
use Rattle.es_codes.specs.CodeView.{codes_of}
use Rattle.es_steps.specs.Opening.{assigned_in_all}
use Rattle.es_code_environments.proofs.assigned.add_assigned_in_all.Given as goal

abbrev pub invariant-loop-code : goal.invariant-loop-code
invariant-loop-code l = l.names.items ++ assigned_in_all (codes_of (drop l.code-index l.codes)) ≡ l.fn.names.items ++ assigned_in_all (codes_of l.codes)
