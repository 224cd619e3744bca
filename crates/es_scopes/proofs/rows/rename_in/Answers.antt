use Rattle.std.proofs.Common.{◌∙◌, ap, sym, Some}
use Rattle.std.specs.Prelude.{option_map}
use Rattle.std.specs.Str.{chars}
use Rattle.es_scopes.specs.Table.{renaming}
use Rattle.es_scopes.proofs.Outcomes.{OnOk-map}
use Rattle.es_scopes.proofs.RowLemmas.{set-changed_at, within_from_row}
use Rattle.es_scopes.proofs.rows.rename_in.Goals as goal

pub returns-clause-ok : goal.returns-clause-ok
returns-clause-ok c =
    let f = renaming (chars c.args.old_name.now) (chars c.args.name.now) in
    let scopes = c.args.scopes.now in
    let row = c.index-scopes-scope_id.is ∙ c.in-Some.is in
    OnOk-map c.rename.result _ _
    (λ e. set-changed_at (option_map f) c.args.scope_id.0 scopes c.index-scopes-scope_id.result _ (within_from_row scopes c.args.scope_id.0 c.requires.there) c.index-scopes-scope_id.is
    (ap (λ names. Some (record c.in-Some.scope { names = names })) e ∙ sym (ap (option_map f) row)))
    c.rename.ensures.ok
