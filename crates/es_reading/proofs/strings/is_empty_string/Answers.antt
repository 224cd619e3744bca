use Rattle.std.proofs.Common.{refl}
use Rattle.es_base.proofs.Spelling.{empty_name}
use Rattle.es_reading.proofs.strings.is_empty_string.Goals as goal

pub returns : goal.returns
returns c = empty_name c.args.string.now _ c.is_empty.result c.utf8.string refl c.is_empty.ensures
