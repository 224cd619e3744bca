use Rattle.std.proofs.Common.{ap, ◌∙◌, ◌++◌}
use Rattle.std.proofs.lemmas.Result.{on_ok_weaker}
use Rattle.es_writing.proofs.Tokens.{four_written, warning_tokens}
use Rattle.es_writing.proofs.program.write_warning.Goals as goal

pub returns-clause-ok : goal.returns-clause-ok
returns-clause-ok c =
    on_ok_weaker c.end_object.result
    (λ e. four_written _ _ _ _ _ _ _ _ _ _ _ c.in_ok-begin_object.ensures.ok c.in_ok-write_end.ensures.ok c.in_ok-write_str.ensures.ok c.in_ok-write_number.ensures.ok c.in_ok-write_start.ensures.ok e
    ∙ ap (λ ts. c.args.out.now.tokens ++ ts) (warning_tokens c.args.warning.node c.args.warning.span)) c.end_object.ensures.ok
