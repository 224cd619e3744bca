-- What is written holds no float.
use Rattle.std.proofs.Common.{◌≡◌, refl, ap, ◌∙◌, ℕ, List, [], ◌∷◌, Bool, false, not, Option, Some, None}
use Rattle.std.specs.Prelude.{◌||◌}
use Rattle.std.proofs.lemmas.Bool.{or_parts, or_from, and_right}
use Rattle.serde_json.specs.Data.{Data, null, object, Members, no_members, member}
use Rattle.serde_json.specs.Written.{has_float, items_have_float, members_have_float}
use Rattle.es_base.specs.Tree.{Tree, Part, Parts, Node, end, more, child, absent, list, string, no_string, boolean, literal}
use Rattle.es_base.specs.Table.{Field, members_of}
use Rattle.es_base.specs.declared.kind.Kind.{Kind}
use Rattle.es_base.specs.declared.literal.LiteralValue.{LiteralValue}
use Rattle.es_base.specs.declared.literal.LiteralValue.TheVariants as value
use Rattle.es_reading.specs.Unlisted.{floats_in, floats_of, is_node_member}
use Rattle.es_writing.specs.Writing.{Entry, put_all, type_of, raw_entry, literal_entries, span_entries, more_entries, raw_of, cooked_of, strings_of, tail_entries, kind_entries, node_of, write, write_fields, write_part, write_items, write_item}
use Rattle.es_json.proofs.Found.{node_entries}
use Rattle.es_json.proofs.Members.{any_member, NoEntry, no_entry_append, none_put_all}

abbrev pub is_float_member : List ℕ → Data → Bool
is_float_member key d = has_float d

pub floats_are : (ms : Members) → members_have_float ms ≡ any_member is_float_member ms
floats_are no_members = refl
floats_are (member key d ms) = ap (λ b. has_float d || b) (floats_are ms)

abbrev NoFloats : List Entry → Type 0
NoFloats es = NoEntry is_float_member es

raw_floats : (raw : Option (List ℕ)) → NoFloats (raw_entry raw)
raw_floats None = tt
raw_floats (Some raw) = (refl, tt)

literal_floats : (v : LiteralValue) → NoFloats (literal_entries v)
literal_floats (value.String s raw) = (refl, raw_floats raw)
literal_floats (value.Number raw) = (refl, (refl, tt))
literal_floats (value.BigInt s) = (refl, (refl, tt))
literal_floats (value.RegExp pattern flags) = (refl, (refl, tt))
literal_floats (value.Boolean b) = (refl, (refl, tt))
literal_floats value.Null = (refl, (refl, tt))

type_floats : (kind : Kind) (ps : Parts) → has_float (type_of kind ps) ≡ false
type_floats Kind.Foreign end = refl
type_floats Kind.Foreign (more (string s) ps) = refl
type_floats Kind.Foreign (more _ ps) = refl
type_floats _ ps = refl

span_floats : (span : Option (ℕ × ℕ)) → NoFloats (span_entries span)
span_floats None = tt
span_floats (Some s) = (refl, (refl, tt))

more_floats : (kind : Kind) (ps : Parts) → NoFloats (more_entries kind ps)
more_floats Kind.UnaryExpression ps = (refl, tt)
more_floats Kind.ArrowFunctionExpression ps = (refl, tt)
more_floats _ ps = tt

raw_string_floats : (p : Part) → has_float (raw_of p) ≡ false
raw_string_floats (string s) = refl
raw_string_floats _ = refl

cooked_floats : (p : Part) → has_float (cooked_of p) ≡ false
cooked_floats (string s) = refl
cooked_floats _ = refl

strings_floats : (raw cooked : Part) → has_float (strings_of raw cooked) ≡ false
strings_floats raw cooked = or_from (has_float (cooked_of cooked)) (has_float (raw_of raw) || false) (cooked_floats cooked) (or_from (has_float (raw_of raw)) false (raw_string_floats raw) refl)

tail_floats : (ps : Parts) → NoFloats (tail_entries ps)
tail_floats end = tt
tail_floats (more (boolean b) ps) = (refl, tt)
tail_floats (more _ ps) = tt

kind_floats : (kind : Kind) (ps : Parts) (es : List Entry) → NoFloats es → NoFloats (kind_entries kind ps es)
kind_floats Kind.TemplateElement end es f = f
kind_floats Kind.TemplateElement (more raw end) es f = f
kind_floats Kind.TemplateElement (more raw (more cooked ps)) es f = (strings_floats raw cooked, tail_floats ps)
kind_floats Kind.Foreign ps es f = tt
kind_floats _ ps es f = f

node_floats : (kind : Kind) (id : ℕ) (span : Option (ℕ × ℕ)) (ps : Parts) (es : List Entry) → NoFloats es → has_float (node_of kind id span ps es) ≡ false
node_floats kind id span ps es f =
    let tail = no_entry_append is_float_member (more_entries kind ps) (span_entries span) (more_floats kind ps) (span_floats span) in
    let all = no_entry_append is_float_member (kind_entries kind ps es) _ (kind_floats kind ps es f) tail in
    floats_are (put_all no_members (node_entries kind id span ps es)) ∙ none_put_all is_float_member (node_entries kind id span ps es) no_members (type_floats kind ps, (refl, all)) refl

mutual
  -- no tree is written with a float
  pub no_floats : (t : Tree) → has_float (write t) ≡ false
  no_floats (Node kind id span semantic_id ps) = node_floats kind id span ps (write_fields (members_of kind) ps) (no_floats_in_fields (members_of kind) ps)

  no_floats_in_fields : (fs : List Field) (ps : Parts) → NoFloats (write_fields fs ps)
  no_floats_in_fields fs end = tt
  no_floats_in_fields [] (more p ps) = tt
  no_floats_in_fields (f ∷ fs) (more p ps) = no_entry_append is_float_member (write_part f.name p) (write_fields fs ps) (no_floats_in_part f.name p) (no_floats_in_fields fs ps)

  no_floats_in_part : (name : List ℕ) (p : Part) → NoFloats (write_part name p)
  no_floats_in_part name (child t) = (no_floats t, tt)
  no_floats_in_part name absent = (refl, tt)
  no_floats_in_part name (list ps) = (no_floats_in_items ps, tt)
  no_floats_in_part name (string s) = (refl, tt)
  no_floats_in_part name no_string = tt
  no_floats_in_part name (boolean b) = (refl, tt)
  no_floats_in_part name (literal v) = literal_floats v

  no_floats_in_items : (ps : Parts) → items_have_float (write_items ps) ≡ false
  no_floats_in_items end = refl
  no_floats_in_items (more p ps) = or_from (has_float (write_item p)) (items_have_float (write_items ps)) (no_floats_in_item p) (no_floats_in_items ps)

  no_floats_in_item : (p : Part) → has_float (write_item p) ≡ false
  no_floats_in_item (child t) = no_floats t
  no_floats_in_item absent = refl
  no_floats_in_item (list ps) = refl
  no_floats_in_item (string s) = refl
  no_floats_in_item no_string = refl
  no_floats_in_item (boolean b) = refl
  no_floats_in_item (literal v) = refl

floats_in_none : (fs : List Field) (ms : Members) → members_have_float ms ≡ false → floats_in fs ms ≡ false
floats_in_none fs no_members none = refl
floats_in_none fs (member key d ms) none =
    let both = or_parts (has_float d) (members_have_float ms) none in
    or_from _ _ (and_right (not (is_node_member fs key)) (has_float d) both.0) (floats_in_none fs ms both.1)

pub floats_of_none : (fs : List Field) (d : Data) → has_float d ≡ false → floats_of fs d ≡ false
floats_of_none fs (object ms) none = floats_in_none fs ms none
floats_of_none fs null none = refl
floats_of_none fs _ none = refl
