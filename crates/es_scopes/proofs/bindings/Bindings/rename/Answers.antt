use Rattle.std.proofs.Common.{◌≡◌, ◌∙◌, None, Some, ap, subst, String, Global}
use Rattle.std.specs.Prelude.{bytes_eq}
use Rattle.std.specs.List.{IsDistinct}
use Rattle.std.specs.Map as entries
use Rattle.std.specs.Str.{chars}
use Rattle.std.specs.String.{string_bytes, string_eq}
use Rattle.indexmap.specs.IndexMap.{get, swap_remove_entry}
use Rattle.indexmap.proofs.CallerLemmas.{insert_entry-new}
use Rattle.es_scopes.specs.Bindings.{lookup, names_of, renamed}
use Rattle.es_scopes.proofs.BindingLemmas.{get-names_of, lookup-names_of, names_of-replaced, swap_remove_entry-push}
use Rattle.es_scopes.proofs.bindings.Bindings.rename.Goals as goal

pub returns-clause-ok : goal.returns-clause-ok
returns-clause-ok c =
    let map = c.self.inside.symbols in
    let key = c.in_ok-key.key in
    let old_name = c.args.old_name.now in
    let is_old = λ (k : String Global). bytes_eq old_name (string_bytes k) in
    let is : string_bytes key ≡ c.args.name.now = c.in_ok-key.ensures.ok in
    let absent : get string_eq map key ≡ None = get-names_of c.args.name.now c.utf8.name map key c.args.self.now is c.self.view_is None c.requires.free in
    let added = c.in_ok-insert.ensures.entries ∙ insert_entry-new string_eq map key c.args.symbol absent in
    let held : lookup (chars old_name) (names_of map.entries) ≡ Some c.args.symbol = ap (lookup (chars old_name)) c.self.view_is ∙ c.requires.held in
    let found : entries.lookup is_old map.entries ≡ Some c.args.symbol = lookup-names_of old_name c.utf8.old_name map.entries ∙ held in
    ap names_of (c.swap_remove.ensures.entries ∙ ap (swap_remove_entry is_old) added ∙ swap_remove_entry-push is_old (key, c.args.symbol) map.entries c.args.symbol found)
    ∙ names_of-replaced old_name c.utf8.old_name (key, c.args.symbol) map.entries (subst (λ l. IsDistinct string_eq (entries.keys_of l)) added c.in_ok-insert.ensures.unique) held
    ∙ (λ i. renamed (chars old_name) (chars (is i)) (c.self.view_is i))
