use Rattle.std.proofs.Common.{◌∙◌, sym, ap, subst}
use Rattle.std.specs.Str.{chars}
use Rattle.std.specs.String.{string_bytes}
use Rattle.es_names.specs.Candidates.{first_free}
use Rattle.es_names.specs.Taken.{AreNext}
use Rattle.es_names.proofs.Places.{from_number, next-set, next-with, given-first, given-free, given-added}
use Rattle.es_names.proofs.names.Names.generate.Goals as goal

pub first_free-requires-clause-positive : goal.first_free-requires-clause-positive
first_free-requires-clause-positive c = (from_number c.self.inside.taken c.self.inside.next (chars c.base_of-base.result.now) c.self.invariant c.get.result c.get.ensures c.unwrap_or-from.result c.unwrap_or-from.ensures).0

pub first_free-requires-clause-before : goal.first_free-requires-clause-before
first_free-requires-clause-before c = (from_number c.self.inside.taken c.self.inside.next (chars c.base_of-base.result.now) c.self.invariant c.get.result c.get.ensures c.unwrap_or-from.result c.unwrap_or-from.ensures).1

pub invariant_of-self : goal.invariant_of-self
invariant_of-self c = subst (AreNext c.self.inside.taken) (sym c.in_err-set.ensures.err) c.self.invariant

pub invariant_of-self-in_err-insert : goal.invariant_of-self-in_err-insert
invariant_of-self-in_err-insert c =
    let first = c.in_ok-found.ensures.first in
    subst (λ s. AreNext s c.set.new.self) (sym c.in_err-insert.ensures.err) (next-set c.self.inside.taken c.self.inside.next c.set.new.self (chars c.base_of-base.result.now) c.in_ok-found.found.number c.self.invariant (first.positive, first.before) c.in_ok-set.ensures.ok)

pub invariant_of-self-2 : goal.invariant_of-self-2
invariant_of-self-2 c =
    let first = c.in_ok-found.ensures.first in
    next-with c.self.inside.taken c.insert.new.self (chars (string_bytes c.in_ok-found.found.name)) c.set.new.self c.in_ok-insert.ensures.ok
    (next-set c.self.inside.taken c.self.inside.next c.set.new.self (chars c.base_of-base.result.now) c.in_ok-found.found.number c.self.invariant (first.positive, first.before) c.in_ok-set.ensures.ok)

pub returns-clause-first : goal.returns-clause-first
returns-clause-first c =
    let told = c.in_ok-found.ensures in
    given-first c.self.inside.taken c.args.self.now c.self.view_is (chars c.base_of-base.result.now) c.in_ok-name.name (chars (string_bytes c.in_ok-found.found.name)) c.in_ok-found.found.number told.first told.number told.name (c.in_ok-name.ensures ∙ ap chars c.as_str.ensures.value)
    ∙ ap (first_free c.args.self.now) c.base_of-base.ensures

pub returns-clause-free : goal.returns-clause-free
returns-clause-free c =
    let told = c.in_ok-found.ensures in
    given-free c.self.inside.taken c.args.self.now c.self.view_is (chars c.base_of-base.result.now) c.in_ok-name.name (chars (string_bytes c.in_ok-found.found.name)) c.in_ok-found.found.number told.first told.number told.name (c.in_ok-name.ensures ∙ ap chars c.as_str.ensures.value)

pub returns-clause-ok : goal.returns-clause-ok
returns-clause-ok c =
    let told = c.in_ok-found.ensures in
    given-added c.self.inside.taken c.args.self.now c.self.view_is (chars c.base_of-base.result.now) c.in_ok-name.name (chars (string_bytes c.in_ok-found.found.name)) c.in_ok-found.found.number told.first told.number told.name (c.in_ok-name.ensures ∙ ap chars c.as_str.ensures.value) c.insert.new.self c.in_ok-insert.ensures.ok
