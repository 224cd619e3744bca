use Rattle.std.proofs.Common.{◌++◌, ◌∙◌, ap, sym, []}
use Rattle.es_binding_faults.proofs.Appending.{OnOk-map}
use Rattle.es_binding_faults.specs.Named.{plain}
use Rattle.es_by_number.specs.Numbered.{pairs}
use Rattle.es_node.specs.View.{kind_of, number_in, parts_in, parts_of}
use Rattle.es_steps.specs.Scopes.{scope_names, scope_of}
use Rattle.es_steps.specs.Shared.{caught_names, hoisted_past, shared_behind}
use Rattle.es_shared_names.proofs.SharedNodes.{here_added, scope_behind}
use Rattle.es_shared_names.proofs.shared.add_shared_here.Goals as goal

pub returns : goal.returns
returns c =
    let b = c.args.is_body in
    let n = c.args.node.now in
    let old = pairs c.args.found.now.items in
    let one = pairs c.add_in_scope.new.found.items in
    let two = pairs c.add_caught.new.found.items in
    OnOk-map c.add_hoisted_past.result _ _ (λ e.
    here_added old one two (pairs c.add_hoisted_past.new.found.items) (shared_behind [] (scope_names (scope_of (kind_of n) b) (number_in n) (parts_in n))) (shared_behind [] (caught_names (kind_of n) (parts_in n))) (hoisted_past b (kind_of n) (parts_in n))
    (c.in_ok-add_in_scope.ensures
    ∙ ap (λ form. old ++ shared_behind [] (plain (scope_names form 0 (parts_of c.parts.result.now)))) (c.scope_in-form.ensures ∙ ap (λ k. scope_of k b) c.kind.ensures)
    ∙ ap (λ ps. old ++ shared_behind [] (plain (scope_names (scope_of (kind_of n) b) 0 ps))) (sym c.parts.ensures.list)
    ∙ ap (λ xs. old ++ xs) (scope_behind (scope_of (kind_of n) b) (number_in n) (parts_in n)))
    (c.in_ok-add_caught.ensures
    ∙ ap (λ k. one ++ shared_behind [] (caught_names k (parts_of c.parts-2.result.now))) c.kind-2.ensures
    ∙ ap (λ ps. one ++ shared_behind [] (caught_names (kind_of n) ps)) (sym c.parts-2.ensures.list))
    (e
    ∙ ap (λ k. two ++ hoisted_past b k (parts_of c.parts-3.result.now)) c.kind-3.ensures
    ∙ ap (λ ps. two ++ hoisted_past b (kind_of n) ps) (sym c.parts-3.ensures.list))) c.add_hoisted_past.ensures
