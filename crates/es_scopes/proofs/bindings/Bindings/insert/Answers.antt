use Rattle.std.proofs.Common.{◌≡◌, ◌∙◌, ◌++◌, ◌∷◌, [], None, ap}
use Rattle.std.specs.Str.{chars}
use Rattle.std.specs.String.{string_bytes, string_eq}
use Rattle.indexmap.specs.IndexMap.{get}
use Rattle.indexmap.proofs.CallerLemmas.{insert_entry-new}
use Rattle.es_scopes.specs.Bindings.{names_of}
use Rattle.es_scopes.proofs.BindingLemmas.{get-names_of, names_of-append}
use Rattle.es_scopes.proofs.bindings.Bindings.insert.Goals as goal

pub returns-clause-ok : goal.returns-clause-ok
returns-clause-ok c =
    let map = c.self.inside.symbols in
    let key = c.in_ok-key.key in
    let is : string_bytes key ≡ c.args.name.now = c.in_ok-key.ensures.ok in
    let absent : get string_eq map key ≡ None = get-names_of c.args.name.now c.utf8.name map key c.args.self.now is c.self.view_is None c.requires in
    ap names_of (c.in_ok-insert.ensures.entries ∙ insert_entry-new string_eq map key c.args.symbol absent)
    ∙ names_of-append map.entries ((key, c.args.symbol) ∷ [])
    ∙ (λ i. c.self.view_is i ++ (chars (is i), c.args.symbol) ∷ [])
