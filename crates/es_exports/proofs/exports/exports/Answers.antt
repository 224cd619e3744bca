use Rattle.std.proofs.Common.{◌≡◌, ◌∙◌, ap, option_map}
use Rattle.es_binding_faults.proofs.Appending.{IfOk-map}
use Rattle.es_code_reading.specs.Contexts.{context_of}
use Rattle.es_steps.specs.Meaning.{body_of}
use Rattle.es_steps.specs.Modules.{exports_in}
use Rattle.es_exports.proofs.Exporting.{exports_found}
use Rattle.es_exports.specs.Exports.{exports_by, exports_of}
use Rattle.es_exports.proofs.exports.exports.Goals as goal

pub returns : goal.returns
returns c = λ env given.
    let x = context_of c.args.c.now in
    let body = body_of c.args.program.now in
    IfOk-map c.own_exports.result (λ xs. exports_of xs.items ≡ exports_by x (option_map (λ v. v.now) c.args.default) body) (λ xs. exports_of xs.items ≡ exports_in x env body)
    (λ xs is. is ∙ ap (λ o. exports_by x o body) given ∙ exports_found x env body) c.own_exports.ensures
