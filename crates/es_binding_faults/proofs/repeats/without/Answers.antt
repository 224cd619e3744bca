use Rattle.std.proofs.Common.{refl, ap, ◌∙◌, ◌++◌, [], ◌∷◌, cond, not, get_or}
use Rattle.std.specs.Prelude.{filter}
use Rattle.es_validity.specs.Facts.{not_among}
use Rattle.es_binding_faults.proofs.Appending.{appended_or, appended_all}
use Rattle.es_binding_faults.proofs.RepeatNames.{any_declared, filter_one}
use Rattle.es_binding_faults.specs.Named.{named, declaration_of}
use Rattle.es_binding_faults.proofs.repeats.without.Goals as goal

pub loop-declared-preserved : goal.loop-declared-preserved
loop-declared-preserved c = appended_or (λ i xs. filter (not_among c.args.branches.now) (named xs)) (λ i d. cond (not_among c.args.branches.now (declaration_of d)) (declaration_of d ∷ []) []) (λ i d ds. filter_one (not_among c.args.branches.now) (declaration_of d) (named ds)) (named c.loop-declared.kept.items) (named c.keep_if.new.names.items) _ c.args.names.now c.loop-declared.declared-index any_declared c.loop-declared-test.true (c.in_ok-keep_if.ensures ∙ ap (λ b. named c.loop-declared.kept.items ++ cond (not b) (declaration_of (get_or c.args.names.now c.loop-declared.declared-index any_declared) ∷ []) []) c.has.ensures) c.loop-declared.invariant

pub returns : goal.returns
returns c = appended_all (λ i xs. filter (not_among c.args.branches.now) (named xs)) (named c.loop-declared.kept.items) _ c.args.names.now c.loop-declared.declared-index (λ k. refl) c.loop-declared-test.false c.loop-declared.invariant
