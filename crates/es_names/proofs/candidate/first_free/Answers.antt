use Rattle.std.proofs.Common.{◌≡◌, ◌∙◌, ◌≤◌, ◌+◌, sym, ap, suc, true, false, length, arith}
use Rattle.std.specs.Str.{chars}
use Rattle.es_base.specs.Conforms.{is_among}
use Rattle.es_names.specs.Candidates.{candidate}
use Rattle.es_names.specs.Taken.{AreTakenBefore}
use Rattle.es_names.proofs.Places.{first_is, next_taken, within_places}
use Rattle.es_names.proofs.candidate.first_free.Goals as goal

pub overflow_add-number : goal.overflow_add-number
overflow_add-number c =
    let taken = c.args.taken.now in
    let base = chars c.args.base.now in
    let held : is_among (candidate base c.loop-name.number) taken ≡ true = sym (ap (λ s. is_among s taken) (ap chars c.as_str.ensures.value ∙ c.in_ok-name.ensures)) ∙ sym c.contains.ensures ∙ c.if-not-contains.false in
    let all : AreTakenBefore taken base (suc c.loop-name.number) = next_taken taken base c.loop-name.number c.loop-name.invariant.1 held in
    let within : suc c.loop-name.number ≤ length taken + 1 = within_places taken base (suc c.loop-name.number) (omega arith) (omega (arith, c.loop-name.auto.number-fits)) all in
    omega (arith, within, c.len-most.ensures.small)

pub loop-name-init : goal.loop-name-init
loop-name-init c = (c.requires.positive, c.requires.before)

pub loop-name-preserved : goal.loop-name-preserved
loop-name-preserved c =
    let taken = c.args.taken.now in
    let base = chars c.args.base.now in
    let held : is_among (candidate base c.loop-name.number) taken ≡ true = sym (ap (λ s. is_among s taken) (ap chars c.as_str.ensures.value ∙ c.in_ok-name.ensures)) ∙ sym c.contains.ensures ∙ c.if-not-contains.false in
    (omega arith, λ j low below. next_taken taken base c.loop-name.number c.loop-name.invariant.1 held j low (omega (arith, below)))

pub loop-name-smaller : goal.loop-name-smaller
loop-name-smaller c =
    let taken = c.args.taken.now in
    let base = chars c.args.base.now in
    let held : is_among (candidate base c.loop-name.number) taken ≡ true = sym (ap (λ s. is_among s taken) (ap chars c.as_str.ensures.value ∙ c.in_ok-name.ensures)) ∙ sym c.contains.ensures ∙ c.if-not-contains.false in
    let all : AreTakenBefore taken base (suc c.loop-name.number) = next_taken taken base c.loop-name.number c.loop-name.invariant.1 held in
    let within : suc c.loop-name.number ≤ length taken + 1 = within_places taken base (suc c.loop-name.number) (omega arith) (omega (arith, c.loop-name.auto.number-fits)) all in
    omega (arith, within)

pub returns-then-not-contains-clause-number : goal.returns-then-not-contains-clause-number
returns-then-not-contains-clause-number c =
    let taken = c.args.taken.now in
    let base = chars c.args.base.now in
    let free : is_among (candidate base c.loop-name.number) taken ≡ false = sym (ap (λ s. is_among s taken) (ap chars c.as_str.ensures.value ∙ c.in_ok-name.ensures)) ∙ sym c.contains.ensures ∙ c.if-not-contains.true in
    first_is taken base c.loop-name.number (omega (arith, c.loop-name.auto.number-fits)) (record { positive = c.loop-name.invariant.0; before = c.loop-name.invariant.1; free = free })
