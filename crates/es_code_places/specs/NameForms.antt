-- What a generated name is where it is evaluated.
use Rattle.es_base.specs.declared.ledger.GeneratedKind.{GeneratedKind}
use Rattle.es_steps.specs.Context.{Context, NameKind, Generated}
use Rattle.es_steps.specs.Expressions.{static_method}
use Rattle.es_steps.specs.PrivateNames.{member_at}

abbrev pub generated_kind : Context → GeneratedKind → NameKind
generated_kind c (GeneratedKind.Method d) = static_method (member_at d.0 c.members) (Generated (GeneratedKind.Method d))
generated_kind c g = Generated g
