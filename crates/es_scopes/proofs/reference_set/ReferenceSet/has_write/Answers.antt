use Rattle.std.proofs.Common.{◌∙◌, subst, true, false, rules}
use Rattle.es_scopes.proofs.ReferenceLemmas.{AreAhead, AreAhead-all, AreAhead-first, AreAhead-rest, writes-flags}
use Rattle.es_scopes.proofs.reference_set.ReferenceSet.has_write.Goals as goal

pub loop-id-init : goal.loop-id-init
loop-id-init c =
    (tt, tt, AreAhead-all c.args.self.now c.args.references.now c.self.inside.references.keys _ (c.into_iter-id-iterator.ensures.into_iter_gives ∙ c.iter-id-items.ensures.rest) c.self.view_is)

pub bounds-references-id : goal.bounds-references-id
bounds-references-id c =
    c.requires c.in-Some.id.now.0 (AreAhead-first c.args.self.now c.args.references.now c.in-Some.id.now c.next.new.self (subst (AreAhead c.args.self.now c.args.references.now) c.in-Some.ensures.steps c.loop-id.invariant.2))

pub returns-then-contains : goal.returns-then-contains
returns-then-contains c =
    let held = AreAhead-first c.args.self.now c.args.references.now c.in-Some.id.now c.next.new.self (subst (AreAhead c.args.self.now c.args.references.now) c.in-Some.ensures.steps c.loop-id.invariant.2) in
    (λ _. (c.in-Some.id.now.0, held, writes-flags c.args.references.now c.in-Some.id.now.0 _ c.flags.result true (c.requires c.in-Some.id.now.0 held) c.flags.ensures (c.if-contains.ensures tt)), λ _. search rules)

pub loop-id-preserved : goal.loop-id-preserved
loop-id-preserved c =
    let ahead = subst (AreAhead c.args.self.now c.args.references.now) c.in-Some.ensures.steps c.loop-id.invariant.2 in
    let held = AreAhead-first c.args.self.now c.args.references.now c.in-Some.id.now c.next.new.self ahead in
    (tt, tt, AreAhead-rest c.args.self.now c.args.references.now c.in-Some.id.now c.next.new.self ahead (writes-flags c.args.references.now c.in-Some.id.now.0 _ c.flags.result false (c.requires c.in-Some.id.now.0 held) c.flags.ensures (c.if-contains.ensures tt)))
