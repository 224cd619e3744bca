-- What is written holds no float, and integers that fit 64 bits.
use Rattle.std.proofs.Common.{ℕ, ◌<◌, ◌^◌, List, [], ◌∷◌, ◌++◌, Option, Some, None, Ordering, Less, Equal, Greater, arith}
use Rattle.std.specs.Ordering.{nat_cmp, match_ordering}
use Rattle.std.specs.Cmp.Lexicographic.{slice_cmp}
use Rattle.serde_json.specs.Data.{Data, Members, no_members, member, put}
use Rattle.es_base.specs.Tree.{Tree, Part, Parts, Node, end, more, child, absent, list, string, no_string, boolean, literal}
use Rattle.es_base.specs.Table.{Field, members_of}
use Rattle.es_base.specs.declared.kind.Kind.{Kind}
use Rattle.es_base.specs.declared.literal.LiteralValue.{LiteralValue}
use Rattle.es_base.specs.declared.literal.LiteralValue.TheVariants as value
use Rattle.es_writing.specs.Writing.{Entry, put_all, type_of, raw_entry, literal_entries, span_entries, more_entries, raw_of, cooked_of, strings_of, tail_entries, kind_entries, node_of, write, write_fields, write_part, write_items, write_item}
use Rattle.es_writing.specs.Kept.{IsKept, PartIsKept, AreKept, SpanFits}
use Rattle.es_json.specs.Printed.{IsPrintedWell, ItemsAreWell, MembersAreWell}
use Rattle.es_json.proofs.Found.{node_entries}

-- ---- what is put in

abbrev pub EntriesAreWell : List Entry → Type 0
EntriesAreWell [] = Unit
EntriesAreWell (e ∷ es) = IsPrintedWell e.1 × EntriesAreWell es

well_append : (xs ys : List Entry) → EntriesAreWell xs → EntriesAreWell ys → EntriesAreWell (xs ++ ys)
well_append [] ys a b = b
well_append (e ∷ xs) ys a b = (a.0, well_append xs ys a.1 b)

well_put_at : (o : Ordering) (k l : List ℕ) (d e : Data) (ms : Members) → IsPrintedWell d → IsPrintedWell e → MembersAreWell ms → MembersAreWell (put k d ms)
    → MembersAreWell (match_ordering o (member k d (member l e ms)) (member l d ms) (member l e (put k d ms)))
well_put_at Less k l d e ms here there rest later = (here, (there, rest))
well_put_at Equal k l d e ms here there rest later = (here, rest)
well_put_at Greater k l d e ms here there rest later = (there, later)

pub well_put : (k : List ℕ) (d : Data) (ms : Members) → IsPrintedWell d → MembersAreWell ms → MembersAreWell (put k d ms)
well_put k d no_members here well = (here, tt)
well_put k d (member l e ms) here well = well_put_at (slice_cmp nat_cmp k l) k l d e ms here well.0 well.1 (well_put k d ms here well.1)

pub well_put_all : (ms : Members) (es : List Entry) → MembersAreWell ms → EntriesAreWell es → MembersAreWell (put_all ms es)
well_put_all ms [] well entries = well
well_put_all ms (e ∷ es) well entries = well_put_all (put e.0 e.1 ms) es (well_put e.0 e.1 ms entries.0 well) entries.1

-- ---- the entries of a node

pub short_fits : (n : ℕ) → n < 2 ^ 32 → n < 2 ^ 64
short_fits n small = omega arith

raw_well : (raw : Option (List ℕ)) → EntriesAreWell (raw_entry raw)
raw_well None = tt
raw_well (Some raw) = (tt, tt)

literal_well : (v : LiteralValue) → EntriesAreWell (literal_entries v)
literal_well (value.String s raw) = (tt, raw_well raw)
literal_well (value.Number raw) = (tt, (tt, tt))
literal_well (value.BigInt s) = (tt, (tt, tt))
literal_well (value.RegExp pattern flags) = (tt, ((tt, (tt, tt)), tt))
literal_well (value.Boolean b) = (tt, (tt, tt))
literal_well value.Null = (tt, (tt, tt))

type_well : (kind : Kind) (ps : Parts) → IsPrintedWell (type_of kind ps)
type_well Kind.Foreign end = tt
type_well Kind.Foreign (more (string s) ps) = tt
type_well Kind.Foreign (more _ ps) = tt
type_well _ ps = tt

pub span_well : (span : Option (ℕ × ℕ)) → SpanFits span → EntriesAreWell (span_entries span)
span_well None fits = tt
span_well (Some s) fits = (short_fits s.0 fits.0, (short_fits s.1 fits.1, tt))

more_well : (kind : Kind) (ps : Parts) → EntriesAreWell (more_entries kind ps)
more_well Kind.UnaryExpression ps = (tt, tt)
more_well Kind.ArrowFunctionExpression ps = (tt, tt)
more_well _ ps = tt

raw_string_well : (p : Part) → IsPrintedWell (raw_of p)
raw_string_well (string s) = tt
raw_string_well _ = tt

cooked_well : (p : Part) → IsPrintedWell (cooked_of p)
cooked_well (string s) = tt
cooked_well _ = tt

strings_well : (raw cooked : Part) → IsPrintedWell (strings_of raw cooked)
strings_well raw cooked = (cooked_well cooked, (raw_string_well raw, tt))

tail_well : (ps : Parts) → EntriesAreWell (tail_entries ps)
tail_well end = tt
tail_well (more (boolean b) ps) = (tt, tt)
tail_well (more _ ps) = tt

kind_well : (kind : Kind) (ps : Parts) (es : List Entry) → EntriesAreWell es → EntriesAreWell (kind_entries kind ps es)
kind_well Kind.TemplateElement end es well = well
kind_well Kind.TemplateElement (more raw end) es well = well
kind_well Kind.TemplateElement (more raw (more cooked ps)) es well = (strings_well raw cooked, tail_well ps)
kind_well Kind.Foreign ps es well = tt
kind_well _ ps es well = well

node_well : (kind : Kind) (id : ℕ) (span : Option (ℕ × ℕ)) (ps : Parts) (es : List Entry) → id < 2 ^ 32 → SpanFits span → EntriesAreWell es → IsPrintedWell (node_of kind id span ps es)
node_well kind id span ps es small fits well =
    let tail = well_append (more_entries kind ps) (span_entries span) (more_well kind ps) (span_well span fits) in
    let all = well_append (kind_entries kind ps es) _ (kind_well kind ps es well) tail in
    well_put_all no_members (node_entries kind id span ps es) tt (type_well kind ps, (short_fits id small, all))

-- ---- trees

mutual
  -- a tree that JSON keeps is written as a value that its text fixes
  pub written_well : (t : Tree) → IsKept t → IsPrintedWell (write t)
  written_well (Node kind id span semantic_id ps) kept = node_well kind id span ps (write_fields (members_of kind) ps) kept.0 kept.1 (fields_well (members_of kind) ps kept.2)

  fields_well : (fs : List Field) (ps : Parts) → AreKept ps → EntriesAreWell (write_fields fs ps)
  fields_well fs end kept = tt
  fields_well [] (more p ps) kept = tt
  fields_well (f ∷ fs) (more p ps) kept = well_append (write_part f.name p) (write_fields fs ps) (part_well f.name p kept.0) (fields_well fs ps kept.1)

  part_well : (name : List ℕ) (p : Part) → PartIsKept p → EntriesAreWell (write_part name p)
  part_well name (child t) kept = (written_well t kept, tt)
  part_well name absent kept = (tt, tt)
  part_well name (list ps) kept = (items_well ps kept, tt)
  part_well name (string s) kept = (tt, tt)
  part_well name no_string kept = tt
  part_well name (boolean b) kept = (tt, tt)
  part_well name (literal v) kept = literal_well v

  items_well : (ps : Parts) → AreKept ps → ItemsAreWell (write_items ps)
  items_well end kept = tt
  items_well (more p ps) kept = (item_well p kept.0, items_well ps kept.1)

  item_well : (p : Part) → PartIsKept p → IsPrintedWell (write_item p)
  item_well (child t) kept = written_well t kept
  item_well absent kept = tt
  item_well (list ps) kept = tt
  item_well (string s) kept = tt
  item_well no_string kept = tt
  item_well (boolean b) kept = tt
  item_well (literal v) kept = tt
