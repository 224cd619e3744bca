-- What a table shows of the entries that it is made of.
use Rattle.std.proofs.Common.{◌≡◌, refl, sym, ap, ◌∙◌, ℕ, zero, suc, List, [], ◌∷◌, ◌++◌, append_assoc, map, length, Bool, true, false, ◌||◌, Option, Some, None}
use Rattle.std.specs.Prelude.{option_map}
use Rattle.std.proofs.lemmas.List.{map-append, append-nil}
use Rattle.es_base.specs.Tree.{Tree}
use Rattle.es_base.specs.declared.ids.ScopeId.{ScopeId}
use Rattle.es_base.specs.declared.ids.SymbolId.{SymbolId}
use Rattle.es_scopes.specs.NodeReferences.{NodeReference, references_of}
use Rattle.es_scopes.specs.Table.{Table, changed_at, get_binding, holding, new_scope, with_created_reference}
use Rattle.es_scopes.specs.declared.flags.ReferenceFlags.{ReferenceFlags}
use Rattle.es_scopes.specs.declared.flags.ScopeFlags.{ScopeFlags}
use Rattle.es_scopes.specs.declared.flags.SymbolFlags.{SymbolFlags}
use Rattle.es_scopes.specs.declared.table.Reference.{Reference}
use Rattle.es_scopes.specs.declared.table.Scope.{Scope}
use Rattle.es_scopes.specs.Built.{built_table}
use Rattle.es_scopes.specs.Entries.{entries_of}
use Rattle.es_scopes.specs.Shown.{references_in, scope_flags_in}
use Rattle.es_scopes.specs.Tables.{marked_if, bound_again, bound_where, declare, declared, none_declared, meant, number, numbered, repeats, declarer_at}
use Rattle.es_scopes.specs.declared.declare.Declarations.{Declarations}
use Rattle.es_scopes.specs.declared.entry.Entry.{Entry}
use Rattle.es_scopes.specs.declared.entry.Entry.TheVariants as entry
use Rattle.es_scopes.specs.declared.refer.Numbering.{Numbering}
use Rattle.es_scopes.specs.declared.surroundings.Declarer.{Declarer}
use Rattle.es_scopes.specs.NodeScopes.{NodeScope, scopes_of}
use Rattle.es_scopes.proofs.ReferenceOrder.{references-entries}
use Rattle.es_scopes.proofs.ScopeOrder.{scopes-entries}

-- ---- references

marked-references : (b : Bool) (y : SymbolId) (t : Table) → (marked_if b y t).references ≡ t.references
marked-references true y t = refl
marked-references false y t = refl

where-references : (o : Option SymbolId) (d : Declarations) (s : ScopeId) (who : Declarer) (name : List ℕ) (flags : SymbolFlags) (head : Bool) → (bound_where o d s who name flags head).scoping.references ≡ d.scoping.references
where-references None d s who name flags head = marked-references head _ _
where-references (Some y) d s who name flags head = marked-references (head || repeats (declarer_at d.declarers y) who) y _

declare-references : (d : Declarations) (e : Entry) → (declare d e).scoping.references ≡ d.scoping.references
declare-references d (entry.Scope node parent in_parameters flags) = refl
declare-references d (entry.Body node) = refl
declare-references d (entry.Binding node None who name flags head) = refl
declare-references d (entry.Binding node (Some s) who name flags head) = where-references (get_binding d.scoping s name) d s who name flags head
declare-references d (entry.Reference node scope in_parameters name flags) = refl

pub declared-references : (d : Declarations) (es : List Entry) → (declared d es).scoping.references ≡ d.scoping.references
declared-references d [] = refl
declared-references d (e ∷ es) = declared-references (declare d e) es ∙ declare-references d e

created-flags : (t : Table) (y : Option SymbolId) (f : ReferenceFlags) → map (λ r. r.flags) (with_created_reference t y f).references ≡ map (λ r. r.flags) t.references ++ f ∷ []
created-flags t None f = map-append (λ (r : Reference). r.flags) t.references _
created-flags t (Some y) f = map-append (λ (r : Reference). r.flags) t.references _

-- the flags of the references of a table are those of its entries
numbered-flags : (n : Numbering) (es : List Entry) → map (λ r. r.flags) (numbered n es).declarations.scoping.references ≡ map (λ r. r.flags) n.declarations.scoping.references ++ map (λ r. r.flags) (references_in es)
numbered-flags n [] = sym (append-nil _)
numbered-flags n (entry.Scope node parent in_parameters flags ∷ es) = numbered-flags (number n (entry.Scope node parent in_parameters flags)) es
numbered-flags n (entry.Body node ∷ es) = numbered-flags (number n (entry.Body node)) es
numbered-flags n (entry.Binding node holder who name flags head ∷ es) = numbered-flags (number n (entry.Binding node holder who name flags head)) es
numbered-flags n (entry.Reference node scope in_parameters name flags ∷ es) =
    numbered-flags (number n (entry.Reference node scope in_parameters name flags)) es
    ∙ ap (λ l. l ++ map (λ r. r.flags) (references_in es)) (created-flags n.declarations.scoping (meant n.declarations scope in_parameters name) flags)
    ∙ append_assoc (map (λ r. r.flags) n.declarations.scoping.references) (flags ∷ []) (map (λ r. r.flags) (references_in es))

pub references-built : (t : Tree) → map (λ r. r.flags) (built_table t).references ≡ map (λ r. r.flags) (references_of t)
references-built t =
    numbered-flags (record { declarations = declared none_declared (entries_of t); ids = []; next_scope = 0 }) (entries_of t)
    ∙ ap (λ (l : List Reference). map (λ r. r.flags) l ++ map (λ r. r.flags) (references_in (entries_of t))) (declared-references none_declared (entries_of t))
    ∙ ap (λ (l : List NodeReference). map (λ r. r.flags) l) (references-entries t)

-- ---- scopes

-- the flags of rows of scopes
abbrev row_flags : List (Option Scope) → List (Option ScopeFlags)
row_flags rows = map (option_map (λ x. x.flags)) rows

flags-changed : (name : List ℕ) (y : SymbolId) (i : ℕ) (rows : List (Option Scope)) → row_flags (changed_at (option_map (holding name y)) i rows) ≡ row_flags rows
flags-changed name y i [] = refl
flags-changed name y zero (None ∷ rows) = refl
flags-changed name y zero (Some x ∷ rows) = refl
flags-changed name y (suc i) (row ∷ rows) = ap (λ l. option_map (λ x. x.flags) row ∷ l) (flags-changed name y i rows)

pub marked-rows : (b : Bool) (y : SymbolId) (t : Table) → (marked_if b y t).scopes ≡ t.scopes
marked-rows true y t = refl
marked-rows false y t = refl

pub again-rows : (d : Declarations) (y : SymbolId) (who : Declarer) (flags : SymbolFlags) (head : Bool) → (bound_again d y who flags head).scoping.scopes ≡ d.scoping.scopes
again-rows d y who flags head = marked-rows (head || repeats (declarer_at d.declarers y) who) y _

where-rows : (o : Option SymbolId) (d : Declarations) (s : ScopeId) (who : Declarer) (name : List ℕ) (flags : SymbolFlags) (head : Bool) → row_flags (bound_where o d s who name flags head).scoping.scopes ≡ row_flags d.scoping.scopes
where-rows None d s who name flags head = ap row_flags (marked-rows head _ _) ∙ flags-changed name (record { 0 = length d.scoping.symbols }) s.0 d.scoping.scopes
where-rows (Some y) d s who name flags head = ap row_flags (again-rows d y who flags head)

declared-rows : (d : Declarations) (es : List Entry) → row_flags (declared d es).scoping.scopes ≡ row_flags d.scoping.scopes ++ map (λ f. Some f) (scope_flags_in es)
declared-rows d [] = sym (append-nil _)
declared-rows d (entry.Scope node parent in_parameters flags ∷ es) =
    declared-rows (declare d (entry.Scope node parent in_parameters flags)) es
    ∙ ap (λ l. l ++ map (λ f. Some f) (scope_flags_in es)) (map-append (option_map (λ (x : Scope). x.flags)) d.scoping.scopes (Some (new_scope parent flags) ∷ []))
    ∙ append_assoc (row_flags d.scoping.scopes) (Some flags ∷ []) (map (λ f. Some f) (scope_flags_in es))
declared-rows d (entry.Body node ∷ es) = declared-rows d es
declared-rows d (entry.Binding node None who name flags head ∷ es) = declared-rows d es
declared-rows d (entry.Binding node (Some s) who name flags head ∷ es) =
    declared-rows (declare d (entry.Binding node (Some s) who name flags head)) es
    ∙ ap (λ l. l ++ map (λ f. Some f) (scope_flags_in es)) (where-rows (get_binding d.scoping s name) d s who name flags head)
declared-rows d (entry.Reference node scope in_parameters name flags ∷ es) = declared-rows d es

created-rows : (t : Table) (y : Option SymbolId) (f : ReferenceFlags) → (with_created_reference t y f).scopes ≡ t.scopes
created-rows t None f = refl
created-rows t (Some y) f = refl

pub numbered-rows : (n : Numbering) (es : List Entry) → (numbered n es).declarations.scoping.scopes ≡ n.declarations.scoping.scopes
numbered-rows n [] = refl
numbered-rows n (entry.Scope node parent in_parameters flags ∷ es) = numbered-rows (number n (entry.Scope node parent in_parameters flags)) es
numbered-rows n (entry.Body node ∷ es) = numbered-rows (number n (entry.Body node)) es
numbered-rows n (entry.Binding node holder who name flags head ∷ es) = numbered-rows (number n (entry.Binding node holder who name flags head)) es
numbered-rows n (entry.Reference node scope in_parameters name flags ∷ es) =
    numbered-rows (number n (entry.Reference node scope in_parameters name flags)) es
    ∙ created-rows n.declarations.scoping (meant n.declarations scope in_parameters name) flags

map-twice : (xs : List NodeScope) → map (λ (f : ScopeFlags). Some f) (map (λ x. x.flags) xs) ≡ map (λ x. Some x.flags) xs
map-twice [] = refl
map-twice (x ∷ xs) = ap (λ l. Some x.flags ∷ l) (map-twice xs)

pub scopes-built : (t : Tree) → map (option_map (λ x. x.flags)) (built_table t).scopes ≡ map (λ x. Some x.flags) (scopes_of t)
scopes-built t =
    ap row_flags (numbered-rows (record { declarations = declared none_declared (entries_of t); ids = []; next_scope = 0 }) (entries_of t))
    ∙ declared-rows none_declared (entries_of t)
    ∙ ap (λ (l : List ScopeFlags). map (λ f. Some f) l) (scopes-entries t)
    ∙ map-twice (scopes_of t)
