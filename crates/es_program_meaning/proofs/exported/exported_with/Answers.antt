use Rattle.std.proofs.Common.{◌≡◌, ◌∙◌, sym, ap, subst, IfOk, cond}
use Rattle.es_code_contexts.specs.Terms.{program_of, terms_of}
use Rattle.es_code_reading.specs.Contexts.{context_of}
use Rattle.es_exports.specs.Exports.{exports_of}
use Rattle.es_node.specs.View.{kind_of, number_in, parts_in}
use Rattle.es_seen_names.specs.Frames.{names_in}
use Rattle.es_steps.specs.Context.{Context, inside}
use Rattle.es_steps.specs.Meaning.{body_of, in_body, start}
use Rattle.es_steps.specs.Modules.{exports_in}
use Rattle.es_steps.specs.References.{takes_vars}
use Rattle.es_program_meaning.proofs.Running.{in_body_is}
use Rattle.es_program_meaning.proofs.exported.exported_with.Goals as goal

pub returns : goal.returns
returns c = λ env given.
    let o = c.args.terms.now in
    let t = program_of o in
    let x = c.start-c.result in
    let uncaught = c.uncaught_around-uncaught.ensures ∙ ap (λ k. cond (takes_vars k) (names_in x.names) (names_in x.uncaught)) c.kind.ensures in
    let body = c.context-body.ensures 1 c.in_ok-inside.ensures uncaught ∙ ap (λ (y : Context). inside y (kind_of t) (number_in t) (parts_in t) 1) c.start-c.ensures ∙ sym (in_body_is (start (terms_of o) t) t) in
    subst (λ (y : Context). IfOk c.exports.result (λ xs. exports_of xs.items ≡ exports_in y env (body_of t))) body (c.exports.ensures env given)
