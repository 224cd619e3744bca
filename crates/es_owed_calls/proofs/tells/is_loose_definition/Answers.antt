use Rattle.std.proofs.Common.{◌<◌, length, sym, arith}
use Rattle.es_owed_calls.proofs.TellingNodes.{no_definition}
use Rattle.es_owed_calls.proofs.tells.is_loose_definition.Goals as goal

pub returns-in_default : goal.returns-in_default
returns-in_default c =
    let below : length c.args.arguments.now < 2 = omega (arith, c.in_default.len_below) in
    sym (no_definition c.args.terms.now.first c.args.terms.now.ledger.now c.args.arguments.now below)
