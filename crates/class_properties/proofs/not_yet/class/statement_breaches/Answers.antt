use Rattle.std.proofs.Common.{sym, ◌∙◌}
use Rattle.class_properties.proofs.OfKinds.{class_parts}
use Rattle.class_properties.proofs.not_yet.class.statement_breaches.Goals as goal

pub class_breaches-requires-clause-parts : goal.class_breaches-requires-clause-parts
class_breaches-requires-clause-parts c = class_parts c.args.statement.now c.requires (sym c.kind.ensures ∙ c.in-ClassDeclaration.is)
