use Rattle.std.proofs.Common.{◌≡◌, ◌∙◌, sym, ap, ◌++◌, Some, None}
use Rattle.es_node.specs.View.{parts_of, parts_in}
use Rattle.es_binding_faults.proofs.Appending.{OnOk-map}
use Rattle.es_binding_faults.proofs.Hoisting.{identifier_kind, declarator_is, declarator_binds}
use Rattle.es_binding_faults.specs.Hoisted.{first_of_two, identifier_in}
use Rattle.es_binding_faults.specs.Named.{named}
use Rattle.es_binding_faults.proofs.hoisted.add_declarator.Goals as goal

pub add_identifier-requires : goal.add_identifier-requires
add_identifier-requires c = identifier_kind (first_of_two (parts_of c.parts.result.now)) c.in-Some.id.now (sym c.in-Some.ensures)

pub returns-in-Some : goal.returns-in-Some
returns-in-Some c =
    let is : identifier_in (first_of_two (parts_in c.args.node.now)) ≡ Some c.in-Some.id.now = ap (λ ps. identifier_in (first_of_two ps)) c.parts.ensures.list ∙ sym c.in-Some.ensures in
    OnOk-map c.add_identifier.result _ _ (λ e. e ∙ ap (λ ds. named c.args.names.now.items ++ ds) (sym (declarator_is c.args.node.now c.in-Some.id.now is))) c.add_identifier.ensures

pub returns-in-None : goal.returns-in-None
returns-in-None c =
    let is : identifier_in (first_of_two (parts_in c.args.node.now)) ≡ None = ap (λ ps. identifier_in (first_of_two ps)) c.parts.ensures.list ∙ sym c.in-None.ensures in
    OnOk-map c.add_bound.result _ _ (λ e. e ∙ ap (λ ds. named c.args.names.now.items ++ ds) (sym (declarator_binds c.args.node.now is))) c.add_bound.ensures
