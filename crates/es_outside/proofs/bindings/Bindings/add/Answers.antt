use Rattle.std.proofs.Common.{◌∙◌, ap, cond, nat_eq}
use Rattle.es_outside.specs.Bindings.{binding_in, number_of}
use Rattle.es_outside.proofs.BoundNames.{inserted}
use Rattle.es_outside.proofs.bindings.Bindings.add.Goals as goal

pub returns : goal.returns
returns c = λ m.
    let k = c.args.reference.now.node.0 in
    ap (binding_in m) c.in_ok-insert.ensures.entries
    ∙ inserted k c.number_of-binding.result c.self.inside.bindings.entries m
    ∙ ap (λ v. cond (nat_eq m k) v (binding_in m c.self.inside.bindings.entries)) c.number_of-binding.ensures
    ∙ ap (λ es. cond (nat_eq m k) (number_of c.args.reference.now.binding) (binding_in m es)) c.self.view_is
