use Rattle.std.proofs.Common.{◌∙◌, ap, length, None}
use Rattle.std.proofs.lemmas.Result.{IfOk-weaker}
use Rattle.es_duplicates.proofs.Reading.{names_count}
use Rattle.es_duplicates.proofs.Tables.{reads_scopes, taken_kept}
use Rattle.es_duplicates.proofs.duplicate.duplicate_expression_multiple.Goals as goal

pub returns-in_ok-again-in-Name-clause-count : goal.returns-in_ok-again-in-Name-clause-count
returns-in_ok-again-in-Name-clause-count c = ap length c.in_ok-again-in-Name.ensures.names ∙ names_count _ _ _ c.args.count

pub returns-in_ok-again-in-Name-clause-taken : goal.returns-in_ok-again-in-Name-clause-taken
returns-in_ok-again-in-Name-clause-taken c =
    let same = c.in_ok-again-in-Name.ensures.scoping in
    taken_kept c.args.ctx.now.scoping c.read_again.new.scoping (ap (λ s. s.names) same) (ap (λ s. s.scoping.scopes) same ∙ reads_scopes c.in-Name.symbol c.args.count c.args.ctx.now.scoping.scoping)

pub returns-in-Held-clause-count : goal.returns-in-Held-clause-count
returns-in-Held-clause-count c = IfOk-weaker c.hold.result _ _ (λ d held. ap length held.repeated ∙ names_count None held.temporary.name _ c.args.count) c.hold.ensures.form
