use Rattle.std.proofs.Common.{arith}
use Rattle.std.proofs.lemmas.Str.Pattern.{strip_prefix_char}
use Rattle.es_ledger.proofs.Signs.{sign_found}
use Rattle.es_ledger.proofs.entry.behind_sign.Goals as goal

pub returns : goal.returns
returns c = sign_found c.strip_prefix.result c.args.written.now (strip_prefix_char 35 c.args.written.now c.strip_prefix.result c.strip_prefix.ensures.cases (omega arith))
