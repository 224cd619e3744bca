use Rattle.std.proofs.Common.{◌≡◌, ◌∙◌, ℕ, List, subst, IfOk}
use Rattle.es_by_number.specs.Numbered.{pairs}
use Rattle.es_code_contexts.specs.Terms.{program_of}
use Rattle.es_steps.specs.Meaning.{by_number}
use Rattle.es_steps.specs.Repeated.{all_places}
use Rattle.es_program_meaning.proofs.tables.places.Goals as goal

pub returns : goal.returns
returns c =
    let t = c.args.terms.now in
    subst (λ (ns : List ℕ). IfOk c.places_by_number.result (λ r. pairs r.items ≡ by_number (all_places t.first_new t.ledger.now ns (program_of t)))) (c.as_slice.ensures.value ∙ c.in_ok-private_functions.ensures) c.places_by_number.ensures
