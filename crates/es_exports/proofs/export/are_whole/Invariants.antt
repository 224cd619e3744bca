use Rattle.std.proofs.Common.{◌≡◌, drop}
use Rattle.std.specs.Prelude.{is_some}
use Rattle.es_steps.specs.Meaning.{all_exports}
use Rattle.es_exports.specs.Exports.{exports_of}
use Rattle.es_exports.proofs.export.are_whole.Given as goal

abbrev pub invariant-loop-export : goal.invariant-loop-export
invariant-loop-export l = is_some (all_exports (exports_of (drop l.export-index l.exports))) ≡ is_some (all_exports (exports_of l.exports))
