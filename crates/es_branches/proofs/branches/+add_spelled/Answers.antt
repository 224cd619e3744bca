use Rattle.std.proofs.Common.{◌≡◌, ap, sym, ◌∙◌, ◌++◌}
use Rattle.std.specs.Str.{chars}
use Rattle.es_binding_faults.proofs.Appending.{OnOk-map, appended_twice}
use Rattle.es_binding_faults.specs.Named.{named}
use Rattle.es_by_number.specs.Numbered.{pairs}
use Rattle.es_references.specs.References.{names_in}
use Rattle.es_steps.specs.Branches.{spelled_as}
use Rattle.es_branches.proofs.Branching.{spelled_inside}
use Rattle.es_branches.proofs.branches.+add_spelled.Goals as goal
use Rattle.es_branches.specs.Branching.{spelled_among}

pub returns-in_ok-add_spelled_among-in-Inside : goal.returns-in_ok-add_spelled_among-in-Inside
returns-in_ok-add_spelled_among-in-Inside t c =
    let b = c.args.number in
    let s = chars c.args.name.now in
    let here = named c.as_slice.result.now in
    let outer = names_in c.in-Inside.outer.now in
    let old = pairs c.args.found.now.items in
    let mid = pairs c.add_spelled_among.new.found.items in
    let new = pairs c.add_spelled.new.found.items in
    OnOk-map c.add_spelled.result (new ≡ mid ++ spelled_as b s outer) (new ≡ old ++ spelled_as b s (names_in c.args.scope.now)) (λ e.
    appended_twice old mid new (spelled_among b s here) (spelled_as b s outer) c.in_ok-add_spelled_among-in-Inside.ensures e
    ∙ ap (λ xs. old ++ xs) (sym (spelled_inside b s here outer) ∙ ap (λ xs. spelled_as b s (named xs ++ outer)) c.as_slice.ensures.value ∙ ap (λ z. spelled_as b s (names_in z)) (sym c.in-Inside.is))) c.add_spelled.ensures
