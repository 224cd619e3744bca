use Rattle.std.specs.Str.{chars}
use Rattle.es_scopes.proofs.NameLemmas.{binding-named}
use Rattle.es_scopes.proofs.scoping.Scoping.get_binding.Goals as goal

pub returns-clause-named : goal.returns-clause-named
returns-clause-named c =
    binding-named c.args.self.now c.scope.ensures.table c.args.scope_id c.scope.result.now c.scope.ensures.row (chars c.args.name.now) c.get.result c.get.ensures
