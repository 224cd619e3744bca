use Rattle.std.proofs.Common.{◌≡◌, ◌++◌, drop}
use Rattle.es_base.specs.Tree.{trees}
use Rattle.es_code_reading.specs.Contexts.{context_of}
use Rattle.es_steps.specs.Modules.{specifier_exports}
use Rattle.es_exports.specs.Exports.{exports_of}
use Rattle.es_exports.proofs.exports.add_specifiers.Given as goal

abbrev pub invariant-loop-specifier : goal.invariant-loop-specifier
invariant-loop-specifier l = exports_of l.exports.items ++ specifier_exports (context_of l.c) (trees (drop l.specifier-index l.specifiers)) ≡ exports_of l.fn.exports.items ++ specifier_exports (context_of l.c) (trees l.specifiers)
