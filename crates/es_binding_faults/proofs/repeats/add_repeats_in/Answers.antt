use Rattle.std.proofs.Common.{◌≡◌, ◌∙◌, sym, ap, ◌++◌}
use Rattle.std.specs.Prelude.{filter}
use Rattle.es_node.specs.View.{parts_of, kind_of, parts_in}
use Rattle.es_steps.specs.Scopes.{scope_form}
use Rattle.es_validity.specs.Facts.{counted, not_among}
use Rattle.es_binding_faults.proofs.Appending.{OnOk-map}
use Rattle.es_binding_faults.proofs.Repeating.{repeats_counted}
use Rattle.es_binding_faults.specs.Named.{named, plain}
use Rattle.es_binding_faults.specs.Repeats.{numbers}
use Rattle.es_binding_faults.specs.ScopeForms.{scope_of}
use Rattle.es_binding_faults.proofs.repeats.add_repeats_in.Goals as goal

pub returns : goal.returns
returns c =
    let t = c.args.node.now in
    let counts : named c.add_counted.new.names.items ≡ plain (counted (scope_form (kind_of t)) 0 (parts_in t)) =
    c.in_ok-add_counted.ensures
    ∙ ap (λ ds. named ds ++ plain (counted (scope_of c.scope_form.result) 0 (parts_of c.parts.result.now))) c.new-names.ensures.items
    ∙ ap (λ f. plain (counted f 0 (parts_of c.parts.result.now))) (c.scope_form.ensures ∙ ap scope_form c.kind.ensures)
    ∙ ap (λ ps. plain (counted (scope_form (kind_of t)) 0 ps)) (sym c.parts.ensures.list) in
    let kept : named c.as_slice-2.result.now ≡ filter (not_among c.args.branches.now) (plain (counted (scope_form (kind_of t)) 0 (parts_in t))) =
    ap named c.as_slice-2.ensures.value ∙ c.in_ok-names.ensures ∙ ap (filter (not_among c.args.branches.now)) (ap named c.as_slice.ensures.value ∙ counts) in
    OnOk-map c.add_repeats.result _ _ (λ e. e ∙ ap (λ ns. numbers c.args.found.now.items ++ ns) (repeats_counted c.args.lexical.now c.args.branches.now t (named c.as_slice-2.result.now) kept)) c.add_repeats.ensures
