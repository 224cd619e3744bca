use Rattle.std.proofs.Common.{◌∙◌, sym, ap, ◌++◌}
use Rattle.es_node.specs.View.{parts_of}
use Rattle.es_steps.specs.Parts.{at}
use Rattle.es_steps.specs.Scopes.{no_class, bound_part}
use Rattle.es_binding_faults.proofs.Appending.{OnOk-map, appended_twice}
use Rattle.es_binding_faults.proofs.ScopeNames.{catch_counted}
use Rattle.es_binding_faults.specs.Hoisted.{hoisted_part}
use Rattle.es_binding_faults.specs.Named.{named}
use Rattle.es_binding_faults.specs.declared.hoisted.Hoist.{Hoist}
use Rattle.es_binding_faults.proofs.counted.add_catch.Goals as goal

pub returns : goal.returns
returns c =
    let ps = parts_of c.args.parts.now in
    OnOk-map c.add_hoisted_at.result _ _ (λ e. appended_twice (named c.args.names.now.items) (named c.add_bound_at.new.names.items) (named c.add_hoisted_at.new.names.items) (bound_part no_class (at 0 ps)) (hoisted_part Hoist.Var (at 1 ps)) c.in_ok-add_bound_at.ensures e ∙ ap (λ ds. named c.args.names.now.items ++ ds) (sym (catch_counted ps))) c.add_hoisted_at.ensures
