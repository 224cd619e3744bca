use Rattle.std.proofs.Common.{ap, arith, length}
use Rattle.es_base.specs.Preorder.{nodes}
use Rattle.es_scopes.specs.Table.{Table}
use Rattle.es_walk.specs.Given.{of_references}
use Rattle.walk_tests.proofs.Weights.{references_weigh}
use Rattle.walk_tests.proofs.references.refer_to_this.Goals as goal

pub returns-clause-references : goal.returns-clause-references
returns-clause-references c = omega (arith, c.in_ok-walk_program.ensures.budget of_references, references_weigh c.args.program.now, ap nodes c.in_ok-walk_program.ensures.kept, ap (λ (t : Table). length t.references) c.finish-scoping.ensures.scoping, ap (λ (t : Table). length t.references) c.in_ok-ctx.ensures.table)
