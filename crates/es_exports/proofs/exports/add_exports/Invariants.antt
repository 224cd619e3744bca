use Rattle.std.proofs.Common.{◌≡◌, ◌++◌, drop}
use Rattle.std.specs.Prelude.{option_map}
use Rattle.es_base.specs.Tree.{trees}
use Rattle.es_code_reading.specs.Contexts.{context_of}
use Rattle.es_exports.specs.Exports.{exports_by, exports_of}
use Rattle.es_exports.proofs.exports.add_exports.Given as goal

abbrev pub invariant-loop-node : goal.invariant-loop-node
invariant-loop-node l =
    let given = option_map (λ v. v.now) l.default in
    exports_of l.exports.items ++ exports_by (context_of l.c) given (trees (drop l.node-index l.nodes)) ≡ exports_of l.fn.exports.items ++ exports_by (context_of l.c) given (trees l.nodes)
