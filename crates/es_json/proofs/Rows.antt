-- Facts of the table, kind by kind.
use Rattle.std.proofs.Common.{◌≡◌, refl, ℕ, List, [], ◌∷◌, ◌++◌, Bool, true, false, not, Option, Some, None}
use Rattle.std.specs.Prelude.{◌&&◌, codes}
use Rattle.es_base.specs.Tree.{Parts}
use Rattle.es_base.specs.Conforms.{is_among}
use Rattle.es_base.specs.Table.{Field, members_of}
use Rattle.es_base.specs.declared.kind.Kind.{Kind}
use Rattle.es_base.specs.declared.table.Sort.{Sort}
use Rattle.es_reading.specs.Unlisted.{is_listed, is_field}
use Rattle.es_writing.specs.Writing.{Entry, kind_entries, more_entries, span_entries}
use Rattle.es_json.proofs.Found.{keys}

-- the members of a node of such a kind are written one for one
abbrev pub is_row : Kind → Bool
is_row Kind.Literal = false
is_row Kind.TemplateElement = false
is_row Kind.Foreign = false
is_row kind = true

abbrev pub is_simple : Sort → Bool
is_simple Sort.Literal = false
is_simple Sort.Raw = false
is_simple Sort.Cooked = false
is_simple Sort.Type = false
is_simple sort = true

abbrev pub names : List Field → List (List ℕ)
names [] = []
names (f ∷ fs) = f.name ∷ names fs

-- no name stands twice, nor among these
abbrev pub is_apart : List (List ℕ) → List Field → Bool
is_apart ws [] = true
is_apart ws (f ∷ fs) = is_simple f.sort && (not (is_among f.name ws) && (not (is_among f.name (names fs)) && is_apart ws fs))

pub row_apart : (k : Kind) (ps : Parts) (span : Option (ℕ × ℕ)) → is_row k ≡ true → is_apart (keys (more_entries k ps ++ span_entries span)) (members_of k) ≡ true
row_apart Kind.Literal ps span r = cc
row_apart Kind.TemplateElement ps span r = cc
row_apart Kind.Foreign ps span r = cc
row_apart _ ps None r = refl
row_apart _ ps (Some s) r = refl

pub row_own : (k : Kind) → is_row k ≡ true → is_apart (codes "type" ∷ codes "node" ∷ []) (members_of k) ≡ true
row_own Kind.Literal r = cc
row_own Kind.TemplateElement r = cc
row_own Kind.Foreign r = cc
row_own _ r = refl

pub row_entries : (k : Kind) (ps : Parts) (es : List Entry) → is_row k ≡ true → kind_entries k ps es ≡ es
row_entries Kind.Literal ps es r = cc
row_entries Kind.TemplateElement ps es r = cc
row_entries Kind.Foreign ps es r = cc
row_entries _ ps es r = refl

pub row_listed : (k : Kind) (key : List ℕ) → is_row k ≡ true → is_listed k key ≡ is_field (members_of k) key
row_listed Kind.Literal key r = cc
row_listed Kind.TemplateElement key r = cc
row_listed Kind.Foreign key r = cc
row_listed _ key r = refl
