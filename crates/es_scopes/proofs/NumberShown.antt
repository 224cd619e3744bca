-- The numbers of entries, and what references mean.
use Rattle.std.proofs.Common.{◌≡◌, refl, sym, ap, ◌∙◌, ℕ, ◌+◌, List, [], ◌∷◌, ◌++◌, append_assoc, map, length, Bool, Option, Some, None, arith}
use Rattle.std.proofs.lemmas.List.{map-append, append-nil}
use Rattle.es_base.specs.Carried.{symbol_number}
use Rattle.es_base.specs.Tree.{Tree}
use Rattle.es_base.specs.declared.ids.ScopeId.{ScopeId}
use Rattle.es_base.specs.declared.ids.SymbolId.{SymbolId}
use Rattle.es_scopes.specs.Bindings.{lookup}
use Rattle.es_scopes.specs.Built.{built_table}
use Rattle.es_scopes.specs.Entries.{entries_of}
use Rattle.es_scopes.specs.Shown.{ids_from, targets_from}
use Rattle.es_scopes.specs.Table.{Table, row_at, names_of_row, or_else, scope_ancestors, chain, parents, with_created_reference}
use Rattle.es_scopes.specs.Tables.{declared, none_declared, visible, is_in_parameters, first_seen, meant, held_symbol, referred, number, numbered, numbering_of}
use Rattle.es_scopes.specs.declared.declare.Declarations.{Declarations}
use Rattle.es_scopes.specs.declared.entry.Entry.{Entry}
use Rattle.es_scopes.specs.declared.entry.Entry.TheVariants as entry
use Rattle.es_scopes.specs.declared.flags.ReferenceFlags.{ReferenceFlags}
use Rattle.es_scopes.specs.declared.refer.Numbering.{Numbering}
use Rattle.es_scopes.specs.declared.table.Reference.{Reference}
use Rattle.es_scopes.specs.declared.table.Scope.{Scope}
use Rattle.es_scopes.proofs.TableShown.{numbered-rows, declared-references}
use Rattle.es_scopes.proofs.TableSteps.{scopes-referred, created-references}

held-same : (t u : Table) (holder : Option ScopeId) (name : List ℕ) → t.scopes ≡ u.scopes → held_symbol t holder name ≡ held_symbol u holder name
held-same t u None name same = refl
held-same t u (Some s) name same = ap (λ (rows : List (Option Scope)). symbol_number (lookup name (names_of_row (row_at rows s.0)))) same

-- the ids of entries, by the table that they lead to
numbered-ids : (n : Numbering) (es : List Entry) → (numbered n es).ids ≡ n.ids ++ ids_from (numbered n es).declarations.scoping n.next_scope (length n.declarations.scoping.references) es
numbered-ids n [] = sym (append-nil n.ids)
numbered-ids n (entry.Scope node parent in_parameters flags ∷ es) = numbered-ids (number n (entry.Scope node parent in_parameters flags)) es ∙ append_assoc n.ids (Some n.next_scope ∷ []) (ids_from (numbered n (entry.Scope node parent in_parameters flags ∷ es)).declarations.scoping (n.next_scope + 1) (length n.declarations.scoping.references) es)
numbered-ids n (entry.Body node ∷ es) =
    numbered-ids (number n (entry.Body node)) es ∙ append_assoc n.ids (None ∷ []) (ids_from (numbered n (entry.Body node ∷ es)).declarations.scoping (n.next_scope + 0) (length n.declarations.scoping.references) es)
    ∙ (let same : n.next_scope + 0 ≡ n.next_scope = omega arith in ap (λ (k : ℕ). n.ids ++ None ∷ ids_from (numbered n (entry.Body node ∷ es)).declarations.scoping k (length n.declarations.scoping.references) es) same)
numbered-ids n (entry.Binding node holder who name flags head ∷ es) =
    let e : Entry = entry.Binding node holder who name flags head in
    numbered-ids (number n e) es ∙ append_assoc n.ids (held_symbol n.declarations.scoping holder name ∷ []) (ids_from (numbered n (e ∷ es)).declarations.scoping (n.next_scope + 0) (length n.declarations.scoping.references) es)
    ∙ (let same : n.next_scope + 0 ≡ n.next_scope = omega arith in ap (λ (k : ℕ). n.ids ++ held_symbol n.declarations.scoping holder name ∷ ids_from (numbered n (e ∷ es)).declarations.scoping k (length n.declarations.scoping.references) es) same)
    ∙ ap (λ id. n.ids ++ id ∷ ids_from (numbered n (e ∷ es)).declarations.scoping n.next_scope (length n.declarations.scoping.references) es) (held-same n.declarations.scoping (numbered n (e ∷ es)).declarations.scoping holder name (sym (numbered-rows n (e ∷ es))))
numbered-ids n (entry.Reference node scope in_parameters name flags ∷ es) =
    let e : Entry = entry.Reference node scope in_parameters name flags in
    let more = created-references n.declarations.scoping (meant n.declarations scope in_parameters name) flags in
    numbered-ids (number n e) es ∙ append_assoc n.ids (Some (length n.declarations.scoping.references) ∷ []) (ids_from (numbered n (e ∷ es)).declarations.scoping (n.next_scope + 0) (length (referred n.declarations e).scoping.references) es)
    ∙ (let same : n.next_scope + 0 ≡ n.next_scope = omega arith in λ i. n.ids ++ Some (length n.declarations.scoping.references) ∷ ids_from (numbered n (e ∷ es)).declarations.scoping (same i) (more i) es)

pub ids-built : (t : Tree) → (numbering_of (entries_of t)).ids ≡ ids_from (built_table t) 0 0 (entries_of t)
ids-built t =
    numbered-ids (record { declarations = declared none_declared (entries_of t); ids = []; next_scope = 0 }) (entries_of t)
    ∙ ap (λ (rs : List Reference). ids_from (built_table t) 0 (length rs) (entries_of t)) (declared-references none_declared (entries_of t))

-- ---- what references mean

seen-same : (d : Declarations) (t : Table) (x : List ℕ) (b : Bool) (ss : List ScopeId) → t.scopes ≡ d.scoping.scopes → first_seen (record d { scoping = t }) x b ss ≡ first_seen d x b ss
seen-same d t x b [] same = refl
seen-same d t x b (s ∷ ss) same = λ i. or_else (visible d b (lookup x (names_of_row (row_at (same i) s.0)))) (seen-same d t x (is_in_parameters d s) ss same i)

meant-same : (d : Declarations) (t : Table) (scope : Option ScopeId) (b : Bool) (x : List ℕ) → t.scopes ≡ d.scoping.scopes → meant (record d { scoping = t }) scope b x ≡ meant d scope b x
meant-same d t None b x same = refl
meant-same d t (Some s) b x same = ap (λ (rows : List (Option Scope)). first_seen (record d { scoping = t }) x b (chain (parents rows) (length rows) s)) same ∙ seen-same d t x b (scope_ancestors d.scoping s) same

targets-same : (d : Declarations) (t : Table) (es : List Entry) → t.scopes ≡ d.scoping.scopes → targets_from (record d { scoping = t }) es ≡ targets_from d es
targets-same d t [] same = refl
targets-same d t (entry.Scope node parent in_parameters flags ∷ es) same = targets-same d t es same
targets-same d t (entry.Body node ∷ es) same = targets-same d t es same
targets-same d t (entry.Binding node holder who name flags head ∷ es) same = targets-same d t es same
targets-same d t (entry.Reference node scope in_parameters name flags ∷ es) same = λ i. meant-same d t scope in_parameters name same i ∷ targets-same d t es same i

created-targets : (t : Table) (y : Option SymbolId) (f : ReferenceFlags) → map (λ r. r.symbol_id) (with_created_reference t y f).references ≡ map (λ r. r.symbol_id) t.references ++ y ∷ []
created-targets t None f = map-append (λ (r : Reference). r.symbol_id) t.references (record { symbol_id = None; flags = f } ∷ [])
created-targets t (Some y) f = map-append (λ (r : Reference). r.symbol_id) t.references (record { symbol_id = Some y; flags = f } ∷ [])

numbered-targets : (n : Numbering) (es : List Entry) → map (λ r. r.symbol_id) (numbered n es).declarations.scoping.references ≡ map (λ r. r.symbol_id) n.declarations.scoping.references ++ targets_from n.declarations es
numbered-targets n [] = sym (append-nil _)
numbered-targets n (entry.Scope node parent in_parameters flags ∷ es) = numbered-targets (number n (entry.Scope node parent in_parameters flags)) es
numbered-targets n (entry.Body node ∷ es) = numbered-targets (number n (entry.Body node)) es
numbered-targets n (entry.Binding node holder who name flags head ∷ es) = numbered-targets (number n (entry.Binding node holder who name flags head)) es
numbered-targets n (entry.Reference node scope in_parameters name flags ∷ es) =
    let e : Entry = entry.Reference node scope in_parameters name flags in
    let y = meant n.declarations scope in_parameters name in
    numbered-targets (number n e) es
    ∙ (λ i. created-targets n.declarations.scoping y flags i ++ targets-same n.declarations (with_created_reference n.declarations.scoping y flags) es (scopes-referred n.declarations e) i)
    ∙ append_assoc (map (λ r. r.symbol_id) n.declarations.scoping.references) (y ∷ []) (targets_from n.declarations es)

pub targets-built : (t : Tree) → map (λ r. r.symbol_id) (built_table t).references ≡ targets_from (declared none_declared (entries_of t)) (entries_of t)
targets-built t =
    numbered-targets (record { declarations = declared none_declared (entries_of t); ids = []; next_scope = 0 }) (entries_of t)
    ∙ ap (λ (rs : List Reference). map (λ r. r.symbol_id) rs ++ targets_from (declared none_declared (entries_of t)) (entries_of t)) (declared-references none_declared (entries_of t))
