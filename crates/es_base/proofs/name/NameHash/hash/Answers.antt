use Rattle.std.proofs.Common.{rules}
use Rattle.es_base.proofs.Spelled.{encode_utf8_all-chars}
use Rattle.es_base.proofs.name.NameHash.hash.Goals as goal

pub returns : goal.returns
returns g c = rw (encode_utf8_all-chars c.self.inside.string c.args.self.now c.self.view_is) (search rules)
