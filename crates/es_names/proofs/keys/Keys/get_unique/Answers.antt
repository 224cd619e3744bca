use Rattle.std.proofs.Common.{◌∙◌, [], sym, ap, subst}
use Rattle.std.specs.Str.{chars}
use Rattle.std.specs.String.{string_bytes}
use Rattle.std.proofs.lemmas.Str.{chars-nil}
use Rattle.es_names.specs.Candidates.{first_free}
use Rattle.es_names.specs.Taken.{AreTakenBefore}
use Rattle.es_names.proofs.Places.{before-with, given-first, given-free, given-added}
use Rattle.es_names.proofs.keys.Keys.get_unique.Goals as goal

pub first_free-requires-clause-positive : goal.first_free-requires-clause-positive
first_free-requires-clause-positive c = c.self.invariant.0

pub first_free-requires-clause-before : goal.first_free-requires-clause-before
first_free-requires-clause-before c = subst (λ b. AreTakenBefore c.self.inside.taken b c.self.inside.next) (sym chars-nil) c.self.invariant.1

pub invariant_of-self : goal.invariant_of-self
invariant_of-self c = (c.self.invariant.0, subst (λ s. AreTakenBefore s [] c.self.inside.next) (sym c.in_err-insert.ensures.err) c.self.invariant.1)

pub invariant_of-self-2 : goal.invariant_of-self-2
invariant_of-self-2 c =
    let first = c.in_ok-found.ensures.first in
    (first.positive, before-with c.self.inside.taken c.insert.new.self (chars (string_bytes c.in_ok-found.found.name)) [] c.in_ok-found.found.number c.in_ok-insert.ensures.ok (subst (λ b. AreTakenBefore c.self.inside.taken b c.in_ok-found.found.number) chars-nil first.before))

pub returns-clause-first : goal.returns-clause-first
returns-clause-first c =
    let told = c.in_ok-found.ensures in
    given-first c.self.inside.taken c.args.self.now c.self.view_is (chars []) c.in_ok-key.key (chars (string_bytes c.in_ok-found.found.name)) c.in_ok-found.found.number told.first told.number told.name (c.in_ok-key.ensures ∙ ap chars c.as_str.ensures.value)
    ∙ ap (first_free c.args.self.now) chars-nil

pub returns-clause-free : goal.returns-clause-free
returns-clause-free c =
    let told = c.in_ok-found.ensures in
    given-free c.self.inside.taken c.args.self.now c.self.view_is (chars []) c.in_ok-key.key (chars (string_bytes c.in_ok-found.found.name)) c.in_ok-found.found.number told.first told.number told.name (c.in_ok-key.ensures ∙ ap chars c.as_str.ensures.value)

pub returns-clause-ok : goal.returns-clause-ok
returns-clause-ok c =
    let told = c.in_ok-found.ensures in
    given-added c.self.inside.taken c.args.self.now c.self.view_is (chars []) c.in_ok-key.key (chars (string_bytes c.in_ok-found.found.name)) c.in_ok-found.found.number told.first told.number told.name (c.in_ok-key.ensures ∙ ap chars c.as_str.ensures.value) c.insert.new.self c.in_ok-insert.ensures.ok
