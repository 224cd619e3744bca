use Rattle.std.proofs.lemmas.Result.{on_ok_weaker}
use Rattle.es_writing.proofs.Tokens.{two_written}
use Rattle.es_writing.proofs.literal_text.write_regex.Goals as goal

pub returns-clause-ok : goal.returns-clause-ok
returns-clause-ok c =
    on_ok_weaker c.end_object.result (two_written _ _ _ _ _ _ _ c.in_ok-begin_object.ensures.ok c.in_ok-write_string.ensures.ok c.in_ok-write_string-2.ensures.ok) c.end_object.ensures.ok
