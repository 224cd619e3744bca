use Rattle.std.proofs.Common.{◌∙◌}
use Rattle.es_by_number.proofs.Sameness.{same_viewed}
use Rattle.es_exports.proofs.Exporting.{exports_same}
use Rattle.es_exports.specs.Exports.{export_in, exports_of, same_meant}
use Rattle.es_exports.proofs.export.same_exports.Goals as goal

pub returns : goal.returns
returns c = λ xs ys e f. c.same_list.ensures ∙ same_viewed same_meant export_in c.args.left.now c.args.right.now ∙ exports_same (exports_of c.args.left.now) (exports_of c.args.right.now) xs ys e f
