use Rattle.std.proofs.Common.{◌≡◌, ◌∙◌, sym, ap, ◌++◌, None}
use Rattle.es_node.specs.View.{parts_of, parts_in}
use Rattle.es_binding_faults.proofs.Appending.{OnOk-map}
use Rattle.es_binding_faults.proofs.Hoisting.{identifier_kind}
use Rattle.es_binding_faults.specs.Hoisted.{first_of_two, identifier_in}
use Rattle.es_seen_names.specs.Declarations.{declarations}
use Rattle.es_seen_names.proofs.Declarators.{declarator_binds}
use Rattle.es_seen_names.proofs.lexical.add_declarator.Goals as goal

pub add_identifier-requires : goal.add_identifier-requires
add_identifier-requires c = identifier_kind (first_of_two (parts_of c.parts.result.now)) c.in-Some.id.now (sym c.in-Some.ensures)

pub returns-in-None : goal.returns-in-None
returns-in-None c =
    let is : identifier_in (first_of_two (parts_in c.args.node.now)) ≡ None = ap (λ ps. identifier_in (first_of_two ps)) c.parts.ensures.list ∙ sym c.in-None.ensures in
    OnOk-map c.add_bound.result _ _ (λ e. e ∙ ap (λ ds. declarations c.args.names.now.items ++ ds) (sym (declarator_binds c.args.variables c.args.is_let c.args.node.now is))) c.add_bound.ensures
