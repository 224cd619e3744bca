use Rattle.std.proofs.Common.{◌∙◌, sym, ap, ◌++◌}
use Rattle.es_node.specs.View.{parts_of}
use Rattle.es_steps.specs.Parts.{at}
use Rattle.es_steps.specs.Scopes.{no_class, own_name, scope_names}
use Rattle.es_binding_faults.proofs.Appending.{OnOk-map}
use Rattle.es_binding_faults.proofs.Plain.{plain-bound_part}
use Rattle.es_binding_faults.proofs.ScopeNames.{plain-function}
use Rattle.es_binding_faults.specs.Named.{named, plain}
use Rattle.es_binding_faults.specs.ScopeForms.{scope_of}
use Rattle.es_binding_faults.proofs.scopes.add_scope_names.Goals as goal

pub returns-in-Function : goal.returns-in-Function
returns-in-Function c =
    let ps = parts_of c.args.parts.now in
    OnOk-map c.add_function.result _ _ (λ e. e ∙ ap (λ ds. named c.args.names.now.items ++ ds) (sym (plain-function (at 1 ps) (at 2 ps)) ∙ ap (λ f. plain (scope_names (scope_of f) 0 ps)) (sym c.in-Function.is))) c.add_function.ensures

pub returns-in-OwnFunction : goal.returns-in-OwnFunction
returns-in-OwnFunction c =
    let ps = parts_of c.args.parts.now in
    OnOk-map c.add_function-in-OwnFunction.result _ _ (λ e. e ∙ ap (λ ds. named c.args.names.now.items ++ ds) (sym (plain-function (at 1 ps) (at 2 ps)) ∙ ap (λ f. plain (scope_names (scope_of f) 0 ps)) (sym c.in-OwnFunction.is))) c.add_function-in-OwnFunction.ensures

pub returns-in-Arrow : goal.returns-in-Arrow
returns-in-Arrow c =
    let ps = parts_of c.args.parts.now in
    OnOk-map c.add_function-in-Arrow.result _ _ (λ e. e ∙ ap (λ ds. named c.args.names.now.items ++ ds) (sym (plain-function (at 0 ps) (at 1 ps)) ∙ ap (λ f. plain (scope_names (scope_of f) 0 ps)) (sym c.in-Arrow.is))) c.add_function-in-Arrow.ensures

pub returns-in-OwnClass : goal.returns-in-OwnClass
returns-in-OwnClass c =
    let ps = parts_of c.args.parts.now in
    OnOk-map c.add_bound_at.result _ _ (λ e. e ∙ ap (λ ds. named c.args.names.now.items ++ ds) (sym (plain-bound_part (own_name 0) (at 0 ps)) ∙ ap (λ f. plain (scope_names (scope_of f) 0 ps)) (sym c.in-OwnClass.is))) c.add_bound_at.ensures

pub returns-in-Catch : goal.returns-in-Catch
returns-in-Catch c =
    let ps = parts_of c.args.parts.now in
    OnOk-map c.add_bound_at-in-Catch.result _ _ (λ e. e ∙ ap (λ ds. named c.args.names.now.items ++ ds) (sym (plain-bound_part no_class (at 0 ps)) ∙ ap (λ f. plain (scope_names (scope_of f) 0 ps)) (sym c.in-Catch.is))) c.add_bound_at-in-Catch.ensures
