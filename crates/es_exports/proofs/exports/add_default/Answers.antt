use Rattle.std.proofs.Common.{◌≡◌, ◌∙◌, [], ◌∷◌, ◌++◌, option_map}
use Rattle.std.specs.Prelude.{codes}
use Rattle.std.specs.Str.{chars}
use Rattle.es_base.specs.Tree.{child}
use Rattle.es_binding_faults.proofs.Appending.{OnOk-map}
use Rattle.es_code_reading.specs.Contexts.{context_of}
use Rattle.es_exports.proofs.Exporting.{export_means}
use Rattle.es_exports.specs.Exports.{default_by, default_means, exports_of, meaning_in}
use Rattle.es_exports.proofs.exports.add_default.Goals as goal

pub returns : goal.returns
unfolding chars
returns c =
    let x = context_of c.args.c.now in
    let value = option_map (λ v. v.now) c.args.default in
    let xs = exports_of c.args.exports.now.items in
    let found = meaning_in c.in_ok-means.means in
    let means = default_means x value c.args.declaration.now in
    OnOk-map c.push_export.result (exports_of c.push_export.new.exports.items ≡ xs ++ record { name = codes "default"; means = found } ∷ []) (exports_of c.push_export.new.exports.items ≡ xs ++ default_by x value (child c.args.declaration.now))
    (λ e. e ∙ export_means xs (codes "default") found means c.in_ok-means.ensures) c.push_export.ensures
