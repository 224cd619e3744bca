-- What each written node holds beside the members of its row.
use Rattle.std.proofs.Common.{◌≡◌, refl, sym, ap, ap₂, ◌∙◌, subst, ℕ, ◌^◌, ◌<◌, List, [], ◌∷◌, ◌++◌, Bool, true, false, not, Option, Some, None, if◌then◌else◌}
use Rattle.std.specs.Prelude.{◌&&◌, ◌||◌, bytes_eq, codes, option_and_then}
use Rattle.std.proofs.lemmas.Bool.{and_parts, and_left, and_right, or_left, or_right, or_from, lt-ltb}
use Rattle.std.proofs.lemmas.Slice.Eq.{bytes_eq-Decides}
use Rattle.serde_json.specs.Data.{Data, Members, no_members, member}
use Rattle.serde_json.specs.Find.{get, as_number, as_u64}
use Rattle.es_base.specs.Tree.{Part, Parts, end, more, child, absent, list, string, no_string, boolean, literal}
use Rattle.es_base.specs.Conforms.{is_among, parts_conform, part_conforms}
use Rattle.es_base.specs.Table.{Field, members_of}
use Rattle.es_base.specs.declared.kind.Kind.{Kind}
use Rattle.es_base.specs.declared.literal.LiteralValue.{LiteralValue}
use Rattle.es_base.specs.declared.literal.LiteralValue.TheVariants as value
use Rattle.es_base.specs.declared.table.Sort.{Sort}
use Rattle.es_reading.specs.Look.{u32_at, below_2_32, span_at, pair, is_there}
use Rattle.es_reading.specs.Unlisted.{is_listed, is_field, is_foreign_value, foreign_among, foreign_of, has_options, is_foreign_node}
use Rattle.es_writing.specs.Writing.{Entry, entry, put_all, type_of, number_of, literal_entries, kind_entries, more_entries, span_entries, node_of, write_fields, write_part}
use Rattle.es_writing.specs.Kept.{SpanFits}
use Rattle.es_json.proofs.Found.{found, keys, get_all, found_append, found_past, node_entries, bytes_same}
use Rattle.es_json.proofs.Members.{any_member, NoEntry, no_entry_append, none_put_all}
use Rattle.es_json.proofs.Rows.{is_row, is_simple, is_apart, row_own, row_listed, row_entries}
use Rattle.es_json.proofs.Stands.{apart_parts, no_literal}
use Rattle.es_json.proofs.Strings.{is_foreign}
use Rattle.es_json.proofs.Tests.{not_true}

-- ---- each member of a row is listed

abbrev AllListed : Kind → List Entry → Type 0
AllListed kind [] = Unit
AllListed kind (e ∷ es) = (is_listed kind e.0 ≡ true) × AllListed kind es

all_listed_append : (kind : Kind) (xs ys : List Entry) → AllListed kind xs → AllListed kind ys → AllListed kind (xs ++ ys)
all_listed_append kind [] ys a b = b
all_listed_append kind (e ∷ xs) ys a b = (a.0, all_listed_append kind xs ys a.1 b)

part_listed : (kind : Kind) (name : List ℕ) (computed : Bool) (sort : Sort) (p : Part) → is_simple sort ≡ true → part_conforms computed sort p ≡ true → is_listed kind name ≡ true → AllListed kind (write_part name p)
part_listed kind name computed sort (child t) s c l = (l, tt)
part_listed kind name computed sort absent s c l = (l, tt)
part_listed kind name computed sort (list ps) s c l = (l, tt)
part_listed kind name computed sort (string t) s c l = (l, tt)
part_listed kind name computed sort no_string s c l = tt
part_listed kind name computed sort (boolean b) s c l = (l, tt)
part_listed kind name computed sort (literal v) s c l = absurd (no_literal computed sort v s c)

abbrev AreFields : List Field → List Field → Type 0
AreFields whole [] = Unit
AreFields whole (f ∷ fs) = (is_field whole f.name ≡ true) × AreFields whole fs

fields_listed : (kind : Kind) (ws : List (List ℕ)) (fs : List Field) (ps : Parts) (computed : Bool) → is_row kind ≡ true → AreFields (members_of kind) fs → is_apart ws fs ≡ true → parts_conform computed fs ps ≡ true → AllListed kind (write_fields fs ps)
fields_listed kind ws fs end computed row are a c = tt
fields_listed kind ws [] (more p ps) computed row are a c = tt
fields_listed kind ws (f ∷ fs) (more p ps) computed row are a c =
    let apart = apart_parts ws f fs a in
    let conform = and_parts (part_conforms computed f.sort p) (parts_conform computed fs ps) c in
    all_listed_append kind (write_part f.name p) (write_fields fs ps) (part_listed kind f.name computed f.sort p apart.0 conform.0 (row_listed kind f.name row ∙ are.0)) (fields_listed kind ws fs ps computed row are.1 apart.1.1.1 conform.1)

are_fields_more : (g : Field) (whole fs : List Field) → AreFields whole fs → AreFields (g ∷ whole) fs
are_fields_more g whole [] are = tt
are_fields_more g whole (f ∷ fs) are = (or_right (bytes_eq g.name f.name) (is_field whole f.name) are.0, are_fields_more g whole fs are.1)

are_fields : (fs : List Field) → AreFields fs fs
are_fields [] = tt
are_fields (f ∷ fs) = (or_left (bytes_eq f.name f.name) (is_field fs f.name) (bytes_same f.name), are_fields_more f fs fs (are_fields fs))

literal_listed : (v : LiteralValue) → AllListed Kind.Literal (literal_entries v)
literal_listed (value.String s None) = (refl, tt)
literal_listed (value.String s (Some raw)) = (refl, (refl, tt))
literal_listed (value.Number raw) = (refl, (refl, tt))
literal_listed (value.BigInt s) = (refl, (refl, tt))
literal_listed (value.RegExp pattern flags) = (refl, (refl, tt))
literal_listed (value.Boolean b) = (refl, (refl, tt))
literal_listed value.Null = (refl, (refl, tt))

abbrev body : Kind → Parts → List Entry
body kind ps = kind_entries kind ps (write_fields (members_of kind) ps)

other_listed : (kind : Kind) (ps : Parts) (computed : Bool) → is_row kind ≡ false → parts_conform computed (members_of kind) ps ≡ true → AllListed kind (body kind ps)
other_listed Kind.Literal end computed row c = tt
other_listed Kind.Literal (more (literal v) end) computed row c = all_listed_append Kind.Literal (literal_entries v) [] (literal_listed v) tt
other_listed Kind.Literal (more (literal v) (more q qs)) computed row c = all_listed_append Kind.Literal (literal_entries v) [] (literal_listed v) tt
other_listed Kind.Literal (more _ ps) computed row c = cc
other_listed Kind.TemplateElement end computed row c = tt
other_listed Kind.TemplateElement (more (string raw) end) computed row c = cc
other_listed Kind.TemplateElement (more (string raw) (more cooked end)) computed row c = (refl, tt)
other_listed Kind.TemplateElement (more (string raw) (more cooked (more (boolean tail) ps))) computed row c = (refl, (refl, tt))
other_listed Kind.TemplateElement (more (string raw) (more cooked (more _ ps))) computed row c = (refl, tt)
other_listed Kind.TemplateElement (more _ ps) computed row c = cc
other_listed Kind.Foreign ps computed row c = tt
other_listed _ ps computed row c = cc

body_listed : (kind : Kind) (ps : Parts) (computed : Bool) → parts_conform computed (members_of kind) ps ≡ true → AllListed kind (body kind ps)
body_listed kind ps computed c = by_row (is_row kind) refl where
  by_row : (row : Bool) → is_row kind ≡ row → AllListed kind (body kind ps)
  by_row true row = subst (λ (es : List Entry). AllListed kind es) (sym (row_entries kind ps (write_fields (members_of kind) ps) row)) (fields_listed kind (codes "type" ∷ codes "node" ∷ []) (members_of kind) ps computed row (are_fields (members_of kind)) (row_own kind row) c)
  by_row false row = other_listed kind ps computed row c

-- ---- no node is foreign

abbrev pub is_strange : Kind → List ℕ → Data → Bool
is_strange kind key d = not (is_listed kind key) && is_foreign_value d

pub strange_are : (kind : Kind) (ms : Members) → foreign_among kind ms ≡ any_member (is_strange kind) ms
strange_are kind no_members = refl
strange_are kind (member key d ms) = ap (λ b. is_strange kind key d || b) (strange_are kind ms)

listed_none : (kind : Kind) (es : List Entry) → AllListed kind es → NoEntry (is_strange kind) es
listed_none kind [] l = tt
listed_none kind (e ∷ es) l = (and_left (not (is_listed kind e.0)) (is_foreign_value e.1) (ap not l.0), listed_none kind es l.1)

type_plain : (kind : Kind) (ps : Parts) → is_foreign_value (type_of kind ps) ≡ false
type_plain Kind.Foreign end = refl
type_plain Kind.Foreign (more (string s) ps) = refl
type_plain Kind.Foreign (more _ ps) = refl
type_plain _ ps = refl

span_none : (kind : Kind) (span : Option (ℕ × ℕ)) → NoEntry (is_strange kind) (span_entries span)
span_none kind None = tt
span_none kind (Some s) = (and_right (not (is_listed kind (codes "start"))) false refl, (and_right (not (is_listed kind (codes "end"))) false refl, tt))

more_none : (kind : Kind) (ps : Parts) → NoEntry (is_strange kind) (more_entries kind ps)
more_none Kind.UnaryExpression ps = (refl, tt)
more_none Kind.ArrowFunctionExpression ps = (refl, tt)
more_none _ ps = tt

foreign_none : (kind : Kind) (id : ℕ) (span : Option (ℕ × ℕ)) (ps : Parts) (computed : Bool) → parts_conform computed (members_of kind) ps ≡ true → foreign_of kind (node_of kind id span ps (write_fields (members_of kind) ps)) ≡ false
foreign_none kind id span ps computed c =
    let tail = no_entry_append (is_strange kind) (more_entries kind ps) (span_entries span) (more_none kind ps) (span_none kind span) in
    let all = no_entry_append (is_strange kind) (body kind ps) (more_entries kind ps ++ span_entries span) (listed_none kind (body kind ps) (body_listed kind ps computed c)) tail in
    let es = node_entries kind id span ps (write_fields (members_of kind) ps) in
    strange_are kind (put_all no_members es)
    ∙ none_put_all (is_strange kind) es no_members (and_right (not (is_listed kind (codes "type"))) (is_foreign_value (type_of kind ps)) (type_plain kind ps), (and_right (not (is_listed kind (codes "node"))) false refl, all)) refl

-- ---- what else a node has

-- a name that is not listed is not found among the members of the row
found_listed : (kind : Kind) (q : List ℕ) (es : List Entry) (o : Option Data) → is_listed kind q ≡ false → AllListed kind es → found q es o ≡ o
found_listed kind q [] o other l = refl
found_listed kind q (e ∷ es) o other l = ap (λ b. found q es (if b then Some e.1 else o)) (apart (bytes_eq e.0 q) refl) ∙ found_listed kind q es o other l.1 where
  apart : (b : Bool) → bytes_eq e.0 q ≡ b → bytes_eq e.0 q ≡ false
  apart true same = let is : e.0 ≡ q = (bytes_eq-Decides e.0 q).0 same in let no : is_listed kind q ≡ true = sym (ap (is_listed kind) is) ∙ l.0 in cc
  apart false same = same

below : (n : ℕ) → n < 2 ^ 32 → below_2_32 n ≡ Some n
below n small = ap (λ b. if b then Some n else None) (lt-ltb n (2 ^ 32) small)

abbrev u32_of : Option Data → Option ℕ
u32_of o = option_and_then below_2_32 (option_and_then as_u64 (option_and_then as_number o))

-- such a name; a foreign node has no members of a row
abbrev is_beside : List ℕ → Kind → Bool
is_beside q kind = is_foreign kind || (not (is_listed kind q) && not (is_among q (keys (more_entries kind end))))

more_keys : (kind : Kind) (ps : Parts) → keys (more_entries kind ps) ≡ keys (more_entries kind end)
more_keys Kind.UnaryExpression ps = refl
more_keys Kind.ArrowFunctionExpression ps = refl
more_keys _ ps = refl

foreign_bare : (kind : Kind) (q : List ℕ) (ps : Parts) (o : Option Data) → is_foreign kind ≡ true → found q (more_entries kind ps) (found q (body kind ps) o) ≡ o
foreign_bare Kind.Foreign q ps o f = refl
foreign_bare _ q ps o f = cc

past_body : (kind : Kind) (ps : Parts) (computed : Bool) (q : List ℕ) (o : Option Data) → parts_conform computed (members_of kind) ps ≡ true → is_beside q kind ≡ true → found q (more_entries kind ps) (found q (body kind ps) o) ≡ o
past_body kind ps computed q o c beside = by_kind (is_foreign kind) refl where
  by_kind : (foreign : Bool) → is_foreign kind ≡ foreign → found q (more_entries kind ps) (found q (body kind ps) o) ≡ o
  by_kind true f = foreign_bare kind q ps o f
  by_kind false f =
      let rest : (not (is_listed kind q) && not (is_among q (keys (more_entries kind end)))) ≡ true = sym (ap (λ b. b || (not (is_listed kind q) && not (is_among q (keys (more_entries kind end))))) f) ∙ beside in
      let both = and_parts (not (is_listed kind q)) (not (is_among q (keys (more_entries kind end)))) rest in
      found_past q (more_entries kind ps) (found q (body kind ps) o) (ap (is_among q) (more_keys kind ps) ∙ not_true _ both.1)
      ∙ found_listed kind q (body kind ps) o (not_true _ both.0) (body_listed kind ps computed c)

look_beside : (kind : Kind) (id : ℕ) (span : Option (ℕ × ℕ)) (ps : Parts) (computed : Bool) (q : List ℕ) → parts_conform computed (members_of kind) ps ≡ true → is_beside q kind ≡ true
    → get q (node_of kind id span ps (write_fields (members_of kind) ps)) ≡ found q (span_entries span) (found q (entry (codes "type") (type_of kind ps) (entry (codes "node") (number_of id) [])) None)
look_beside kind id span ps computed q c beside =
    let first = found q (entry (codes "type") (type_of kind ps) (entry (codes "node") (number_of id) [])) None in
    get_all q (node_entries kind id span ps (write_fields (members_of kind) ps)) no_members
    ∙ found_append q (body kind ps) (more_entries kind ps ++ span_entries span) first
    ∙ found_append q (more_entries kind ps) (span_entries span) (found q (body kind ps) first)
    ∙ ap (found q (span_entries span)) (past_body kind ps computed q first c beside)

type_beside : (kind : Kind) → is_beside (codes "type") kind ≡ true
type_beside Kind.Program = refl
type_beside _ = refl

node_beside : (kind : Kind) → is_beside (codes "node") kind ≡ true
node_beside Kind.Program = refl
node_beside _ = refl

start_beside : (kind : Kind) → is_beside (codes "start") kind ≡ true
start_beside Kind.Program = refl
start_beside _ = refl

end_beside : (kind : Kind) → is_beside (codes "end") kind ≡ true
end_beside Kind.Program = refl
end_beside _ = refl

module _ (kind : Kind) (id : ℕ) (span : Option (ℕ × ℕ)) (ps : Parts) (computed : Bool) (c : parts_conform computed (members_of kind) ps ≡ true) where
  pub type_found : get (codes "type") (node_of kind id span ps (write_fields (members_of kind) ps)) ≡ Some (type_of kind ps)
  type_found = look_beside kind id span ps computed (codes "type") c (type_beside kind) ∙ past span where
    past : (span : Option (ℕ × ℕ)) → found (codes "type") (span_entries span) (Some (type_of kind ps)) ≡ Some (type_of kind ps)
    past None = refl
    past (Some s) = refl

  pub number_found : id < 2 ^ 32 → u32_at (codes "node") (node_of kind id span ps (write_fields (members_of kind) ps)) ≡ Some id
  number_found small = ap (λ o. option_and_then below_2_32 (option_and_then as_u64 (option_and_then as_number o))) (look_beside kind id span ps computed (codes "node") c (node_beside kind) ∙ past span) ∙ below id small where
    past : (span : Option (ℕ × ℕ)) → found (codes "node") (span_entries span) (Some (number_of id)) ≡ Some (number_of id)
    past None = refl
    past (Some s) = refl

  pub span_found : SpanFits span → span_at (node_of kind id span ps (write_fields (members_of kind) ps)) ≡ span
  span_found fits =
      ap₂ (λ a b. pair (u32_of a) (u32_of b)) (look_beside kind id span ps computed (codes "start") c (start_beside kind)) (look_beside kind id span ps computed (codes "end") c (end_beside kind)) ∙ back span fits where
        back : (span : Option (ℕ × ℕ)) → SpanFits span → pair (u32_of (found (codes "start") (span_entries span) None)) (u32_of (found (codes "end") (span_entries span) None)) ≡ span
        back None fits = refl
        back (Some s) fits = ap₂ pair (below s.0 fits.0) (below s.1 fits.1)

options_none : (kind : Kind) (id : ℕ) (span : Option (ℕ × ℕ)) (ps : Parts) (computed : Bool) → parts_conform computed (members_of kind) ps ≡ true → has_options kind (node_of kind id span ps (write_fields (members_of kind) ps)) ≡ false
options_none Kind.ImportExpression id span ps computed c = ap is_there (look_beside Kind.ImportExpression id span ps computed (codes "options") c refl ∙ past span) where
  past : (span : Option (ℕ × ℕ)) → found (codes "options") (span_entries span) None ≡ None
  past None = refl
  past (Some s) = refl
options_none _ id span ps computed c = refl

pub no_foreign : (kind : Kind) (id : ℕ) (span : Option (ℕ × ℕ)) (ps : Parts) (computed : Bool) → parts_conform computed (members_of kind) ps ≡ true → is_foreign_node kind (node_of kind id span ps (write_fields (members_of kind) ps)) ≡ false
no_foreign kind id span ps computed c = joined kind (node_of kind id span ps (write_fields (members_of kind) ps)) (foreign_none kind id span ps computed c) (options_none kind id span ps computed c) where
  joined : (kind : Kind) (d : Data) → foreign_of kind d ≡ false → has_options kind d ≡ false → is_foreign_node kind d ≡ false
  joined Kind.Foreign d a b = refl
  joined _ d a b = or_from _ _ a b
