use Rattle.std.proofs.Common.{◌∙◌, sym, ap, ◌++◌}
use Rattle.es_node.specs.View.{parts_of}
use Rattle.es_steps.specs.Parts.{at}
use Rattle.es_steps.specs.Scopes.{no_class, bound_part, function_scope, seen}
use Rattle.es_binding_faults.proofs.Appending.{OnOk-map, appended_twice}
use Rattle.es_binding_faults.proofs.ScopeNames.{seen_own}
use Rattle.es_binding_faults.specs.Named.{named, plain}
use Rattle.es_binding_faults.proofs.scopes.add_own_function_seen.Goals as goal

pub returns : goal.returns
returns c =
    let ps = parts_of c.args.parts.now in
    OnOk-map c.add_bound_at.result _ _ (λ e. appended_twice (named c.args.names.now.items) (named c.add_function_seen.new.names.items) (named c.add_bound_at.new.names.items) (plain (seen function_scope 0 ps c.args.i)) (bound_part no_class (at 0 ps)) c.in_ok-add_function_seen.ensures e ∙ ap (λ ds. named c.args.names.now.items ++ ds) (sym (seen_own ps c.args.i))) c.add_bound_at.ensures
