use Rattle.std.proofs.Common.{◌∙◌, ap}
use Rattle.es_scopes.specs.Table.{with_binding}
use Rattle.es_uids.proofs.Binding.{bound_in, taken_still}
use Rattle.es_uids.proofs.traverse_scoping.TraverseScoping.generate_uid.Goals as goal

pub returns-clause-taken : goal.returns-clause-taken
returns-clause-taken c =
    taken_still c.args.self.now c.note.new.self c.args.scope c.in_ok-name.name c.args.flags (c.in_ok-note.ensures.names ∙ c.in_ok-name.ensures.ok)
    (c.in_ok-note.ensures.scoping ∙ c.in_ok-symbol_id.ensures.ok ∙ ap (λ n. with_binding c.args.self.now.scoping c.args.scope n c.args.flags) c.as_str.ensures)

pub returns-clause-bound : goal.returns-clause-bound
returns-clause-bound c =
    bound_in c.args.self.now.scoping c.note.new.self.scoping c.args.scope c.in_ok-name.name c.args.flags c.new.result.symbol_id (ap (λ y. y.0) c.new.ensures.symbol ∙ c.in_ok-symbol_id.ensures.number)
    (c.in_ok-note.ensures.scoping ∙ c.in_ok-symbol_id.ensures.ok ∙ ap (λ n. with_binding c.args.self.now.scoping c.args.scope n c.args.flags) c.as_str.ensures)
