use Rattle.std.proofs.Common.{rules}
use Rattle.es_base.proofs.Spelled.{encode_utf8_all-chars}
use Rattle.es_base.proofs.name.NameOrd.cmp.Goals as goal

pub returns : goal.returns
returns c = rw (encode_utf8_all-chars c.self.inside.string c.args.self.now c.self.view_is, encode_utf8_all-chars c.other.inside.string c.args.other.now c.other.view_is) (search rules)
