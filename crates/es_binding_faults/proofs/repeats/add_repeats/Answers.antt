use Rattle.std.proofs.Common.{sym, ap, ◌≡◌, ◌∙◌, ◌++◌, [], ◌∷◌, ℕ, List, None, append-nil, length, cond, get_or}
use Rattle.std.proofs.lemmas.Bool.{eqb-true}
use Rattle.std.proofs.lemmas.List.{nil_from_length}
use Rattle.std.specs.Prelude.{filter}
use Rattle.es_steps.specs.References.{numbers_of}
use Rattle.es_validity.specs.Facts.{is_repeat}
use Rattle.es_binding_faults.proofs.Appending.{appended_or}
use Rattle.es_binding_faults.proofs.RepeatNames.{any_declared, no_repeats, repeat_one}
use Rattle.es_binding_faults.specs.Leasts.{number_of}
use Rattle.es_binding_faults.specs.Named.{named, declaration_of}
use Rattle.es_binding_faults.specs.Repeats.{numbers, least_from, is_lexical}
use Rattle.es_binding_faults.proofs.repeats.add_repeats.Goals as goal

pub loop-declared-preserved : goal.loop-declared-preserved
loop-declared-preserved c =
    let lexical = c.args.lexical.now in
    let all = named c.args.names.now in
    let d = get_or c.args.names.now c.loop-declared.declared-index any_declared in
    let lets : (s : List ℕ) → number_of s c.in_ok-lets-2.lets ≡ least_from s None (filter (is_lexical lexical) all) = λ s. c.in_ok-lets-2.ensures s ∙ ap (λ ds. least_from s None (named ds)) c.as_slice-2.ensures.value ∙ ap (least_from s None) c.in_ok-lets.ensures in
    appended_or (λ i ds. numbers_of (filter (is_repeat lexical all) (named ds))) (λ i x. cond (is_repeat lexical all (declaration_of x)) (x.node.0 ∷ []) []) (λ i x ds. repeat_one lexical all (declaration_of x) (named ds))
    (numbers c.loop-declared.found.items) (numbers c.push_if.new.nodes.items) _ c.args.names.now c.loop-declared.declared-index any_declared c.loop-declared-test.true
    (c.in_ok-push_if.ensures ∙ ap (λ b. numbers c.loop-declared.found.items ++ cond b (d.node.0 ∷ []) []) (c.is_repeat.ensures all c.in_ok-all.ensures lets))
    c.loop-declared.invariant

pub returns-then-is_empty : goal.returns-then-is_empty
returns-then-is_empty c =
    let before = numbers c.args.found.now.items in
    let none : c.in_ok-lets.lets.items ≡ [] = sym c.as_slice.ensures.value ∙ nil_from_length c.as_slice.result.now (eqb-true (length c.as_slice.result.now) 0 (sym c.if-is_empty.ensures)) in
    sym (append-nil before) ∙ ap (λ (ns : List ℕ). before ++ ns) (sym (no_repeats c.args.lexical.now (named c.args.names.now) (sym c.in_ok-lets.ensures ∙ ap named none)))
