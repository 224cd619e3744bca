use Rattle.std.proofs.Common.{refl, ap, ◌∙◌, [], ◌∷◌}
use Rattle.es_steps.specs.References.{numbers_of}
use Rattle.es_binding_faults.proofs.Appending.{appended_or, appended_all, numbers-push}
use Rattle.es_binding_faults.proofs.RepeatNames.{any_declared}
use Rattle.es_binding_faults.specs.Named.{named}
use Rattle.es_binding_faults.specs.Repeats.{numbers}
use Rattle.es_binding_faults.proofs.facts.nodes_of.Goals as goal

pub loop-declared-preserved : goal.loop-declared-preserved
loop-declared-preserved c = appended_or (λ i xs. numbers_of (named xs)) (λ i d. d.node.0 ∷ []) (λ i d ds. refl) (numbers c.loop-declared.nodes.items) (numbers c.push.new.self.items) _ c.args.names.now c.loop-declared.declared-index any_declared c.loop-declared-test.true (ap numbers c.in_ok-push.ensures.items ∙ numbers-push c.loop-declared.nodes.items _) c.loop-declared.invariant

pub returns : goal.returns
returns c = appended_all (λ i xs. numbers_of (named xs)) (numbers c.loop-declared.nodes.items) _ c.args.names.now c.loop-declared.declared-index (λ k. refl) c.loop-declared-test.false c.loop-declared.invariant
