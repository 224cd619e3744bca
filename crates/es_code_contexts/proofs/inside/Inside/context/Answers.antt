use Rattle.std.proofs.Common.{refl, ap, ◌∙◌, ◌++◌}
use Rattle.es_code_reading.specs.Contexts.{context_of}
use Rattle.es_code_reading.specs.declared.context.Context.{Context}
use Rattle.es_seen_names.specs.Frames.{names_in, privates_in}
use Rattle.es_seen_names.specs.PrivateMembers.{private_members_of}
use Rattle.es_steps.specs.Context.{around_inside}
use Rattle.es_code_contexts.proofs.Inner.{context_inside}
use Rattle.es_code_contexts.proofs.inside.Inside.context.Goals as goal

pub returns : goal.returns
returns c = λ i h uncaught.
    let x = c.args.c.now in
    let s = c.args.self.now in
    let d : Context = record { terms = x.terms; names = c.names_within.result; privates = c.privates_within.result; uncaught = c.names_within-2.result; block = c.block_inside.result; around = s.around } in
    context_inside s x d c.args.node.now
    c.names_within.ensures
    (c.privates_within.ensures ∙ ap (λ ms. private_members_of ms ++ privates_in x.privates) c.as_slice.ensures.value)
    (names_in c.args.uncaught.now) c.names_within-2.ensures
    (c.block_inside.ensures ∙ ap (around_inside (context_of x)) c.kind.ensures)
    refl refl i h uncaught
