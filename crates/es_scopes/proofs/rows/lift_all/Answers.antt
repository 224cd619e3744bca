use Rattle.std.proofs.Common.{◌∙◌, ◌++◌, ap, sym, add-one, map, take, drop, set, get_or}
use Rattle.std.specs.Prelude.{option_map}
use Rattle.es_scopes.specs.Table.{lifted}
use Rattle.es_scopes.proofs.RowLemmas.{mapped-step}
use Rattle.es_scopes.proofs.rows.lift_all.Goals as goal

pub loop-row-preserved : goal.loop-row-preserved
loop-row-preserved c =
    let f = option_map (lifted c.args.scope_id c.args.parent) in
    let rows = c.args.scopes.now in
    let i = c.loop-row.row-index in
    ap (λ l. set l i c.lift.new.row) c.loop-row.invariant
    ∙ mapped-step f rows i c.row-item.result c.lift.new.row c.loop-row-test.true (c.row-item.is ∙ ap (λ l. get_or l i c.row-item.result) c.loop-row.invariant) (c.lift.ensures ∙ ap f (sym c.row-item.is))
    ∙ ap (λ n. map f (take n rows) ++ drop n rows) (sym (add-one i))
