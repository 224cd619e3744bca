use Rattle.std.proofs.Common.{◌∙◌, sym, ap, ◌++◌}
use Rattle.es_node.specs.View.{parts_of}
use Rattle.es_binding_faults.proofs.Appending.{OnOk-map}
use Rattle.es_binding_faults.proofs.ScopeNames.{seen_parameters, seen_function}
use Rattle.es_binding_faults.specs.Named.{named}
use Rattle.es_binding_faults.proofs.scopes.add_function_seen.Goals as goal

pub returns-then-i-eq1 : goal.returns-then-i-eq1
returns-then-i-eq1 c = OnOk-map c.add_bound_at.result _ _ (λ e. e ∙ ap (λ ds. named c.args.names.now.items ++ ds) (sym (seen_parameters (parts_of c.args.parts.now) c.args.i c.if-i-eq1.true))) c.add_bound_at.ensures

pub returns-else-i-eq1 : goal.returns-else-i-eq1
returns-else-i-eq1 c = OnOk-map c.add_function.result _ _ (λ e. e ∙ ap (λ ds. named c.args.names.now.items ++ ds) (sym (seen_function (parts_of c.args.parts.now) c.args.i c.if-i-eq1.false))) c.add_function.ensures
