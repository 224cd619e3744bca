-- Each member of a written node stands where reading looks for it.
use Rattle.std.proofs.Common.{◌≡◌, refl, sym, ap, ap₂, ◌∙◌, ℕ, List, [], ◌∷◌, ◌++◌, append_assoc, Bool, true, false, not, Option, Some, None, option_map, if◌then◌else◌}
use Rattle.std.specs.Prelude.{◌&&◌, ◌||◌, bytes_eq, codes, is_some}
use Rattle.std.specs.Str.{chars, encode_utf8_all}
use Rattle.std.proofs.lemmas.Bool.{and_parts, or_parts, or_left, or_right}
use Rattle.std.proofs.lemmas.Slice.Eq.{bytes_eq-Decides}
use Rattle.serde_json.specs.Data.{Data, null, boolean as json_boolean, array, no_members}
use Rattle.serde_json.specs.Find.{get}
use Rattle.es_base.specs.Tree.{Part, Parts, end, more, child, absent, list, string, no_string, boolean, literal}
use Rattle.es_base.specs.Conforms.{is_among, is_number_string, is_key_literal, is_foreign_name, literal_conforms, parts_conform, part_conforms}
use Rattle.es_base.specs.Table.{Field, members_of}
use Rattle.es_base.specs.declared.kind.Kind.{Kind}
use Rattle.es_base.specs.declared.literal.LiteralValue.{LiteralValue}
use Rattle.es_base.specs.declared.literal.LiteralValue.TheVariants as value
use Rattle.es_base.specs.declared.table.Sort.{Sort}
use Rattle.es_reading.specs.Literals.{Form, regexp, bigint, string as string_form, boolean as boolean_form, null_form, numeral, whole, by_raw, form_in, value_of, may_be_key}
use Rattle.es_reading.specs.Members.{is_of_sort}
use Rattle.es_reading.specs.Reading.{leaf_of, literal_part}
use Rattle.es_writing.specs.Writing.{Entry, entry, string_of, type_of, number_of, more_entries, span_entries, node_of, write, write_fields, write_part, write_items}
use Rattle.es_writing.specs.Kept.{IsString, AreStrings, PartIsKept, AreKept}
use Rattle.es_json.proofs.Found.{bytes_same, bytes_apart, found, keys, get_all, found_append, found_past, entry_of, found_here, found_other, node_entries}
use Rattle.es_json.proofs.Rows.{is_row, is_simple, names, is_apart, row_apart, row_own, row_entries}
use Rattle.es_json.proofs.Tests.{not_true, nothing_more}

-- what is written for a part, if anything
abbrev pub there : Part → Option Data
there (child t) = Some (write t)
there absent = Some null
there (list ps) = Some (array (write_items ps))
there (string s) = Some (string_of s)
there no_string = None
there (boolean b) = Some (json_boolean b)
there (literal v) = None

-- what reading finds at a member is this part
abbrev pub Stands : Data → List ℕ → Sort → Part → Type 0
Stands d name Sort.Literal p = (is_of_sort d name Sort.Literal ≡ true) × (leaf_of d name Sort.Literal ≡ p)
Stands d name Sort.Raw p = (is_of_sort d name Sort.Raw ≡ true) × (leaf_of d name Sort.Raw ≡ p)
Stands d name Sort.Cooked p = (is_of_sort d name Sort.Cooked ≡ true) × (leaf_of d name Sort.Cooked ≡ p)
Stands d name Sort.Type p = (is_of_sort d name Sort.Type ≡ true) × (leaf_of d name Sort.Type ≡ p)
Stands d name sort p = get name d ≡ there p

abbrev pub AllStand : Data → List Field → Parts → Type 0
AllStand d fs end = Unit
AllStand d [] (more p ps) = Unit
AllStand d (f ∷ fs) (more p ps) = Stands d f.name f.sort p × AllStand d fs ps

stands_simple : (d : Data) (name : List ℕ) (sort : Sort) (p : Part) → is_simple sort ≡ true → get name d ≡ there p → Stands d name sort p
stands_simple d name Sort.Literal p s e = cc
stands_simple d name Sort.Raw p s e = cc
stands_simple d name Sort.Cooked p s e = cc
stands_simple d name Sort.Type p s e = cc
stands_simple d name _ p s e = e

pub no_literal : (computed : Bool) (sort : Sort) (v : LiteralValue) → is_simple sort ≡ true → part_conforms computed sort (literal v) ≡ true → ⊥
no_literal computed Sort.Literal v s c = cc
no_literal computed _ v s c = cc

pub part_entry : (name : List ℕ) (computed : Bool) (sort : Sort) (p : Part) → is_simple sort ≡ true → part_conforms computed sort p ≡ true → write_part name p ≡ entry_of name (there p)
part_entry name computed sort (child t) s c = refl
part_entry name computed sort absent s c = refl
part_entry name computed sort (list ps) s c = refl
part_entry name computed sort (string t) s c = refl
part_entry name computed sort no_string s c = refl
part_entry name computed sort (boolean b) s c = refl
part_entry name computed sort (literal v) s c = absurd (no_literal computed sort v s c)

-- ---- the members of a row

-- of a field that is apart: it is simple, its name is none of these, nor one of the later names, and those are apart
pub apart_parts : (ws : List (List ℕ)) (f : Field) (fs : List Field) → is_apart ws (f ∷ fs) ≡ true
    → (is_simple f.sort ≡ true) × ((is_among f.name ws ≡ false) × ((is_among f.name (names fs) ≡ false) × (is_apart ws fs ≡ true)))
apart_parts ws f fs a =
    let one = and_parts (is_simple f.sort) (not (is_among f.name ws) && (not (is_among f.name (names fs)) && is_apart ws fs)) a in
    let two = and_parts (not (is_among f.name ws)) (not (is_among f.name (names fs)) && is_apart ws fs) one.1 in
    let three = and_parts (not (is_among f.name (names fs))) (is_apart ws fs) two.1 in
    (one.0, (not_true _ two.0, (not_true _ three.0, three.1)))

-- another name is not found among the members of a row
pub past_row : (q : List ℕ) (ws : List (List ℕ)) (fs : List Field) (ps : Parts) (computed : Bool) (o : Option Data) → is_among q (names fs) ≡ false → is_apart ws fs ≡ true → parts_conform computed fs ps ≡ true
    → found q (write_fields fs ps) o ≡ o
past_row q ws fs end computed o other a c = refl
past_row q ws [] (more p ps) computed o other a c = refl
past_row q ws (f ∷ fs) (more p ps) computed o other a c =
    let apart = apart_parts ws f fs a in
    let both = or_parts (bytes_eq f.name q) (is_among q (names fs)) other in
    let conform = and_parts (part_conforms computed f.sort p) (parts_conform computed fs ps) c in
    found_append q (write_part f.name p) (write_fields fs ps) o
    ∙ past_row q ws fs ps computed _ both.1 apart.1.1.1 conform.1
    ∙ ap (λ es. found q es o) (part_entry f.name computed f.sort p apart.0 conform.0)
    ∙ found_other q f.name (there p) o both.0

-- no member of these names is found yet
Fresh : (List ℕ → Option Data) → List Field → Type 0
Fresh g fs = (q : List ℕ) → is_among q (names fs) ≡ true → g q ≡ None

distinct : (b : Bool) (name q : List ℕ) (ws : List (List ℕ)) → bytes_eq name q ≡ b → is_among name ws ≡ false → is_among q ws ≡ true → bytes_eq name q ≡ false
distinct true name q ws same other among = let is : name ≡ q = (bytes_eq-Decides name q).0 same in let no : is_among q ws ≡ false = sym (ap (λ z. is_among z ws) is) ∙ other in cc
distinct false name q ws same other among = same

fresh_on : (g : List ℕ → Option Data) (computed : Bool) (f : Field) (p : Part) (fs : List Field) → is_simple f.sort ≡ true → part_conforms computed f.sort p ≡ true → is_among f.name (names fs) ≡ false → Fresh g (f ∷ fs)
    → Fresh (λ q. found q (write_part f.name p) (g q)) fs
unfolding Fresh
fresh_on g computed f p fs simple c other fresh q among =
    ap (λ es. found q es (g q)) (part_entry f.name computed f.sort p simple c)
    ∙ found_other q f.name (there p) (g q) (distinct (bytes_eq f.name q) f.name q (names fs) refl other among)
    ∙ fresh q (or_right (bytes_eq f.name q) (is_among q (names fs)) among)

fields_stand : (fs : List Field) (ps : Parts) (computed : Bool) (d : Data) (g : List ℕ → Option Data) (after : List Entry) → ((q : List ℕ) → get q d ≡ found q (write_fields fs ps ++ after) (g q)) → is_apart (keys after) fs ≡ true → Fresh g fs
    → parts_conform computed fs ps ≡ true → AllStand d fs ps
unfolding Fresh
fields_stand fs end computed d g after look a fresh c = tt
fields_stand [] (more p ps) computed d g after look a fresh c = tt
fields_stand (f ∷ fs) (more p ps) computed d g after look a fresh c =
    let apart = apart_parts (keys after) f fs a in
    let conform = and_parts (part_conforms computed f.sort p) (parts_conform computed fs ps) c in
    let here =
    look f.name
    ∙ found_append f.name (write_part f.name p ++ write_fields fs ps) after (g f.name)
    ∙ found_past f.name after _ apart.1.0
    ∙ found_append f.name (write_part f.name p) (write_fields fs ps) (g f.name)
    ∙ past_row f.name (keys after) fs ps computed _ apart.1.1.0 apart.1.1.1 conform.1
    ∙ ap (λ es. found f.name es (g f.name)) (part_entry f.name computed f.sort p apart.0 conform.0)
    ∙ found_here f.name (there p) (g f.name) (fresh f.name (or_left (bytes_eq f.name f.name) (is_among f.name (names fs)) (bytes_same f.name))) in (
      stands_simple d f.name f.sort p apart.0 here,
      fields_stand fs ps computed d (λ q. found q (write_part f.name p) (g q)) after (λ q. look q ∙ ap (λ es. found q es (g q)) (append_assoc (write_part f.name p) (write_fields fs ps) after) ∙ found_append q (write_part f.name p) (write_fields fs ps ++ after) (g q)) apart.1.1.1
          (fresh_on g computed f p fs apart.0 conform.0 apart.1.1.0 fresh) conform.1,
    )

not_among_by : (b : Bool) (ws : List (List ℕ)) (f : Field) (fs : List Field) (q : List ℕ) → bytes_eq f.name q ≡ b → is_apart ws (f ∷ fs) ≡ true → (b || is_among q (names fs)) ≡ true → (is_among q (names fs) ≡ true → is_among q ws ≡ false) → is_among q ws ≡ false
not_among_by true ws f fs q same a among rest = sym (ap (λ z. is_among z ws) ((bytes_eq-Decides f.name q).0 same)) ∙ (apart_parts ws f fs a).1.0
not_among_by false ws f fs q same a among rest = rest among

not_among : (ws : List (List ℕ)) (fs : List Field) (q : List ℕ) → is_apart ws fs ≡ true → is_among q (names fs) ≡ true → is_among q ws ≡ false
not_among ws [] q a among = cc
not_among ws (f ∷ fs) q a among = not_among_by (bytes_eq f.name q) ws f fs q refl a among (not_among ws fs q (apart_parts ws f fs a).1.1.1)

abbrev own : Kind → ℕ → Parts → List Entry
own kind id ps = entry (codes "type") (type_of kind ps) (entry (codes "node") (number_of id) [])

pub look_row : (kind : Kind) (id : ℕ) (span : Option (ℕ × ℕ)) (ps : Parts) (q : List ℕ) → is_row kind ≡ true
    → get q (node_of kind id span ps (write_fields (members_of kind) ps)) ≡ found q (write_fields (members_of kind) ps ++ (more_entries kind ps ++ span_entries span)) (found q (own kind id ps) None)
look_row kind id span ps q row =
    get_all q (node_entries kind id span ps (write_fields (members_of kind) ps)) no_members
    ∙ ap (λ es. found q (es ++ (more_entries kind ps ++ span_entries span)) (found q (own kind id ps) None)) (row_entries kind ps (write_fields (members_of kind) ps) row)

row_stands : (kind : Kind) (id : ℕ) (span : Option (ℕ × ℕ)) (ps : Parts) (computed : Bool) → is_row kind ≡ true → parts_conform computed (members_of kind) ps ≡ true → AllStand (node_of kind id span ps (write_fields (members_of kind) ps)) (members_of kind) ps
unfolding Fresh
row_stands kind id span ps computed row c =
    fields_stand (members_of kind) ps computed (node_of kind id span ps (write_fields (members_of kind) ps)) (λ q. found q (own kind id ps) None) (more_entries kind ps ++ span_entries span) (λ q. look_row kind id span ps q row) (row_apart kind ps span row)
    (λ q among. found_past q (own kind id ps) None (not_among (keys (own kind id ps)) (members_of kind) q (row_own kind row) among)) c

-- ---- literals

form_of : LiteralValue → Form
form_of (value.String s raw) = string_form (encode_utf8_all s) (option_map encode_utf8_all raw)
form_of (value.Number raw) = numeral (encode_utf8_all raw)
form_of (value.BigInt s) = bigint (encode_utf8_all s)
form_of (value.RegExp pattern flags) = regexp (encode_utf8_all pattern) (encode_utf8_all flags)
form_of (value.Boolean b) = boolean_form b
form_of value.Null = null_form

not_null : (raw : List ℕ) → IsString raw → is_number_string raw ≡ true → bytes_eq (codes "null") (encode_utf8_all raw) ≡ false
unfolding chars
not_null raw kept number = bytes_apart (codes "null") (encode_utf8_all raw) (λ is. let same : codes "null" ≡ raw = ap chars is ∙ kept in let no : is_number_string raw ≡ false = sym (ap is_number_string same) in cc)

numeral_form : (raw : List ℕ) → IsString raw → is_number_string raw ≡ true → by_raw (Some (encode_utf8_all raw)) (Some null) ≡ Some (numeral (encode_utf8_all raw))
numeral_form raw kept number =
    ap (λ b. if b then Some null_form else (if is_number_string (chars (encode_utf8_all raw)) && true then Some (numeral (encode_utf8_all raw)) else None)) (not_null raw kept number)
    ∙ ap (λ b. if b && true then Some (numeral (encode_utf8_all raw)) else None) (ap is_number_string kept ∙ number)

abbrev literal_parts : LiteralValue → Parts
literal_parts v = more (literal v) end

abbrev literal_data : ℕ → Option (ℕ × ℕ) → LiteralValue → Data
literal_data id span v = node_of Kind.Literal id span (literal_parts v) (write_fields (members_of Kind.Literal) (literal_parts v))

form_is : (id : ℕ) (span : Option (ℕ × ℕ)) (v : LiteralValue) → literal_conforms v ≡ true → AreStrings v → form_in (literal_data id span v) ≡ Some (form_of v)
unfolding form_of
form_is id None (value.String s None) c kept = refl
form_is id (Some p) (value.String s None) c kept = refl
form_is id None (value.String s (Some raw)) c kept = refl
form_is id (Some p) (value.String s (Some raw)) c kept = refl
form_is id None (value.Number raw) c kept = numeral_form raw kept c
form_is id (Some p) (value.Number raw) c kept = numeral_form raw kept c
form_is id None (value.BigInt s) c kept = refl
form_is id (Some p) (value.BigInt s) c kept = refl
form_is id None (value.RegExp pattern flags) c kept = refl
form_is id (Some p) (value.RegExp pattern flags) c kept = refl
form_is id None (value.Boolean b) c kept = refl
form_is id (Some p) (value.Boolean b) c kept = refl
form_is id None value.Null c kept = refl
form_is id (Some p) value.Null c kept = refl

value_back : (v : LiteralValue) → AreStrings v → value_of (form_of v) ≡ v
unfolding form_of
value_back (value.String s None) kept = ap (λ z. value.String z None) kept.0
value_back (value.String s (Some raw)) kept = ap₂ (λ y z. value.String y (Some z)) kept.0 kept.1
value_back (value.Number raw) kept = ap value.Number kept
value_back (value.BigInt s) kept = ap value.BigInt kept
value_back (value.RegExp pattern flags) kept = ap₂ value.RegExp kept.0 kept.1
value_back (value.Boolean b) kept = refl
value_back value.Null kept = refl

literal_stands : (id : ℕ) (span : Option (ℕ × ℕ)) (v : LiteralValue) → literal_conforms v ≡ true → AreStrings v → Stands (literal_data id span v) (codes "value") Sort.Literal (literal v)
literal_stands id span v c kept = (
  ap is_some (form_is id span v c kept),
  ap (λ f. literal_part (option_map value_of f)) (form_is id span v c kept) ∙ ap literal (value_back v kept),
)

-- a literal that may be a key is read as one
pub key_form : (d : Data) (name : List ℕ) (v : LiteralValue) (rest : Parts) → Stands d name Sort.Literal (literal v) → is_key_literal (more (literal v) rest) ≡ true → may_be_key (form_in d) ≡ true
key_form d name v rest stands key = key_form_by (form_in d) v rest stands.1 key where
  key_form_by : (f : Option Form) (v : LiteralValue) (rest : Parts) → literal_part (option_map value_of f) ≡ literal v → is_key_literal (more (literal v) rest) ≡ true → may_be_key f ≡ true
  key_form_by None v rest is key = refl
  key_form_by (Some (string_form s raw)) v rest is key = refl
  key_form_by (Some (numeral raw)) v rest is key = refl
  key_form_by (Some (whole n)) v rest is key = refl
  key_form_by (Some (bigint digits)) v rest is key = refl
  key_form_by (Some (regexp pattern flags)) v rest is key = let same : value.RegExp (chars pattern) (chars flags) ≡ v = cc in let no : false ≡ true = ap (λ z. is_key_literal (more (literal z) rest)) same ∙ key in cc
  key_form_by (Some (boolean_form b)) v rest is key = let same : value.Boolean b ≡ v = cc in let no : false ≡ true = ap (λ z. is_key_literal (more (literal z) rest)) same ∙ key in cc
  key_form_by (Some null_form) v rest is key = let same : value.Null ≡ v = cc in let no : false ≡ true = ap (λ z. is_key_literal (more (literal z) rest)) same ∙ key in cc

-- ---- strings of templates, and leaves of nodes outside the table

template_stands : (computed : Bool) (id : ℕ) (span : Option (ℕ × ℕ)) (raw : List ℕ) (cooked : Part) (tail : Bool) (ps : Parts) → IsString raw → part_conforms computed Sort.Cooked cooked ≡ true → PartIsKept cooked → ps ≡ end
    → AllStand (node_of Kind.TemplateElement id span (more (string raw) (more cooked (more (boolean tail) ps))) (write_fields (members_of Kind.TemplateElement) (more (string raw) (more cooked (more (boolean tail) ps))))) (members_of Kind.TemplateElement) (more (string raw) (more cooked (more (boolean tail) end)))
template_stands computed id None raw (string s) tail ps kept c also none = ((refl, ap string kept), ((refl, ap string also), (refl, tt)))
template_stands computed id (Some p) raw (string s) tail ps kept c also none = ((refl, ap string kept), ((refl, ap string also), (refl, tt)))
template_stands computed id None raw no_string tail ps kept c also none = ((refl, ap string kept), ((refl, refl), (refl, tt)))
template_stands computed id (Some p) raw no_string tail ps kept c also none = ((refl, ap string kept), ((refl, refl), (refl, tt)))
template_stands computed id span raw _ tail ps kept c also none = cc

foreign_stands : (id : ℕ) (span : Option (ℕ × ℕ)) (s : List ℕ) → IsString s → AllStand (node_of Kind.Foreign id span (more (string s) end) (write_fields (members_of Kind.Foreign) (more (string s) end))) (members_of Kind.Foreign) (more (string s) end)
foreign_stands id None s kept = ((refl, ap string kept), tt)
foreign_stands id (Some p) s kept = ((refl, ap string kept), tt)

other_stands : (kind : Kind) (id : ℕ) (span : Option (ℕ × ℕ)) (ps : Parts) (computed : Bool) → is_row kind ≡ false → parts_conform computed (members_of kind) ps ≡ true → AreKept ps
    → AllStand (node_of kind id span ps (write_fields (members_of kind) ps)) (members_of kind) ps
other_stands Kind.Literal id span end computed row c kept = tt
other_stands Kind.Literal id span (more (literal v) end) computed row c kept = (literal_stands id span v (and_parts (literal_conforms v) true c).0 kept.0, tt)
other_stands Kind.Literal id span (more (literal v) (more q qs)) computed row c kept = absurd (nothing_more (literal_conforms v) false refl c)
other_stands Kind.Literal id span (more _ ps) computed row c kept = cc
other_stands Kind.TemplateElement id span end computed row c kept = tt
other_stands Kind.TemplateElement id span (more (string raw) end) computed row c kept = cc
other_stands Kind.TemplateElement id span (more (string raw) (more cooked end)) computed row c kept = absurd (nothing_more (part_conforms computed Sort.Cooked cooked) false refl c)
other_stands Kind.TemplateElement id span (more (string raw) (more cooked (more (boolean tail) end))) computed row c kept = template_stands computed id span raw cooked tail end kept.0 (and_parts (part_conforms computed Sort.Cooked cooked) true c).0 kept.1.0 refl
other_stands Kind.TemplateElement id span (more (string raw) (more cooked (more (boolean tail) (more q qs)))) computed row c kept = absurd (nothing_more (part_conforms computed Sort.Cooked cooked) false refl c)
other_stands Kind.TemplateElement id span (more (string raw) (more cooked (more _ qs))) computed row c kept = absurd (nothing_more (part_conforms computed Sort.Cooked cooked) false refl c)
other_stands Kind.TemplateElement id span (more _ ps) computed row c kept = cc
other_stands Kind.Foreign id span end computed row c kept = tt
other_stands Kind.Foreign id span (more (string s) end) computed row c kept = foreign_stands id span s kept.0
other_stands Kind.Foreign id span (more (string s) (more q qs)) computed row c kept = absurd (nothing_more (is_foreign_name s) false refl c)
other_stands Kind.Foreign id span (more _ ps) computed row c kept = cc
other_stands _ id span ps computed row c kept = cc

pub all_stand : (kind : Kind) (id : ℕ) (span : Option (ℕ × ℕ)) (ps : Parts) (computed : Bool) → parts_conform computed (members_of kind) ps ≡ true → AreKept ps → AllStand (node_of kind id span ps (write_fields (members_of kind) ps)) (members_of kind) ps
all_stand kind id span ps computed c kept = by_row (is_row kind) refl where
  by_row : (row : Bool) → is_row kind ≡ row → AllStand (node_of kind id span ps (write_fields (members_of kind) ps)) (members_of kind) ps
  by_row true row = row_stands kind id span ps computed row c
  by_row false row = other_stands kind id span ps computed row c kept
