-- A program that is lowered and written is read again.
use Rattle.std.proofs.Common.{◌≡◌, refl, sym, ap, ap₂, ◌∙◌, ℕ, List, [], ◌∷◌, map, Bool, true, false, Option, Some, None, Ok}
use Rattle.std.specs.Prelude.{codes, option_and_then}
use Rattle.std.proofs.lemmas.Bool.{or_parts, or_from}
use Rattle.serde_json.specs.Data.{Data, Members, no_members, array, object}
use Rattle.serde_json.specs.Find.{get, as_number, as_u64}
use Rattle.serde_json.specs.View.{items_of}
use Rattle.serde_json.specs.Written.{has_float, items_have_float}
use Rattle.es_base.specs.Tree.{Tree, Parts, Node, end, more}
use Rattle.es_base.specs.Conforms.{conforms, parts_conform, is_among, boolean_at}
use Rattle.es_base.specs.Shape.{shape_number}
use Rattle.es_base.specs.Table.{members_of}
use Rattle.es_base.specs.declared.diagnostic.Diagnostic.{Diagnostic}
use Rattle.es_base.specs.declared.ids.NodeId.{NodeId}
use Rattle.es_base.specs.declared.ids.Span.{Span}
use Rattle.es_base.specs.declared.kind.Kind.{Kind}
use Rattle.es_base.specs.declared.ledger.GeneratedKind.{GeneratedKind}
use Rattle.es_base.specs.declared.ledger.LedgerEntry.{LedgerEntry}
use Rattle.es_base.specs.declared.shape.Shape.{Shape}
use Rattle.es_base.specs.declared.table.Place.{Place}
use Rattle.es_writing.specs.Lowered.{entry_value, warning_value, write_lowered}
use Rattle.es_reading.specs.Look.{below_2_32, span_at, pair}
use Rattle.es_reading.specs.Reading.{read, root, parent_of}
use Rattle.es_reading.specs.Unlisted.{is_foreign_object, is_foreign_node, any_foreign}
use Rattle.es_reading.specs.declared.numbers.Numbers.{Numbers}
use Rattle.es_writing.specs.Writing.{Entry, entry, put_all, number_of, write, write_fields}
use Rattle.es_base.specs.Carried.{stripped, stripped_parts}
use Rattle.es_writing.specs.Kept.{IsKept}
use Rattle.es_json.proofs.Choice.{kind_chosen}
use Rattle.es_json.proofs.Fits.{all_fit}
use Rattle.es_json.proofs.Floats.{is_float_member, floats_are, no_floats}
use Rattle.es_json.proofs.Found.{keys, get_all, found_past, node_entries}
use Rattle.es_json.proofs.Good.{number_is}
use Rattle.es_json.proofs.RoundTrip.{node_back, law_fields}
use Rattle.es_json.proofs.Looks.{type_found, number_found, span_found, no_foreign, is_strange, strange_are}
use Rattle.es_json.proofs.Members.{NoEntry, none_put_all}
use Rattle.es_json.proofs.Parts.{parts_of}
use Rattle.es_json.proofs.Stands.{AllStand, all_stand}

-- ---- the members that are put in more

abbrev pub more_members : List LedgerEntry → List Diagnostic → List Shape → List Entry
more_members names warnings shapes =
    entry (codes "generated") (array (items_of (map entry_value names)))
    (entry (codes "warnings") (array (items_of (map warning_value warnings)))
    (entry (codes "outside") (array (items_of (map (λ s. number_of (shape_number s)) shapes))) []))

-- ---- they hold no float

entry_floats : (name : List ℕ) (kind : GeneratedKind) → has_float (entry_value (record { name = name; kind = kind })) ≡ false
entry_floats name GeneratedKind.Temp = refl
entry_floats name _ = refl

names_floats : (names : List LedgerEntry) → items_have_float (items_of (map entry_value names)) ≡ false
names_floats [] = refl
names_floats (e ∷ es) = or_from _ _ (entry_floats e.name e.kind) (names_floats es)

warning_floats : (node : NodeId) (span : Option Span) → has_float (warning_value (record { node = node; span = span })) ≡ false
warning_floats node None = refl
warning_floats node (Some s) = refl

warnings_floats : (warnings : List Diagnostic) → items_have_float (items_of (map warning_value warnings)) ≡ false
warnings_floats [] = refl
warnings_floats (d ∷ ds) = or_from _ _ (warning_floats d.node d.span) (warnings_floats ds)

shapes_floats : (shapes : List Shape) → items_have_float (items_of (map (λ s. number_of (shape_number s)) shapes)) ≡ false
shapes_floats [] = refl
shapes_floats (s ∷ ss) = shapes_floats ss

more_floats : (names : List LedgerEntry) (warnings : List Diagnostic) (shapes : List Shape) → NoEntry is_float_member (more_members names warnings shapes)
more_floats names warnings shapes = (names_floats names, (warnings_floats warnings, (shapes_floats shapes, tt)))

-- no float is written
pub lowered_no_float : (t : Tree) (names : List LedgerEntry) (warnings : List Diagnostic) (shapes : List Shape) → has_float (write_lowered t names warnings shapes) ≡ false
lowered_no_float (Node kind id span semantic_id ps) names warnings shapes =
    let base = put_all no_members (node_entries kind id span ps (write_fields (members_of kind) ps)) in
    floats_are (put_all base (more_members names warnings shapes))
    ∙ none_put_all is_float_member (more_members names warnings shapes) base (more_floats names warnings shapes) (sym (floats_are base) ∙ no_floats (Node kind id span semantic_id ps))

-- ---- they are not foreign

entry_plain : (name : List ℕ) (kind : GeneratedKind) → is_foreign_object (entry_value (record { name = name; kind = kind })) ≡ false
entry_plain name GeneratedKind.Temp = refl
entry_plain name _ = refl

names_plain : (names : List LedgerEntry) → any_foreign (items_of (map entry_value names)) ≡ false
names_plain [] = refl
names_plain (e ∷ es) = or_from _ _ (entry_plain e.name e.kind) (names_plain es)

warning_plain : (node : NodeId) (span : Option Span) → is_foreign_object (warning_value (record { node = node; span = span })) ≡ false
warning_plain node None = refl
warning_plain node (Some s) = refl

warnings_plain : (warnings : List Diagnostic) → any_foreign (items_of (map warning_value warnings)) ≡ false
warnings_plain [] = refl
warnings_plain (d ∷ ds) = or_from _ _ (warning_plain d.node d.span) (warnings_plain ds)

shapes_plain : (shapes : List Shape) → any_foreign (items_of (map (λ s. number_of (shape_number s)) shapes)) ≡ false
shapes_plain [] = refl
shapes_plain (s ∷ ss) = shapes_plain ss

more_plain : (names : List LedgerEntry) (warnings : List Diagnostic) (shapes : List Shape) → NoEntry (is_strange Kind.Program) (more_members names warnings shapes)
more_plain names warnings shapes = (names_plain names, (warnings_plain warnings, (shapes_plain shapes, tt)))

-- ---- a program

abbrev u32_of : Option Data → Option ℕ
u32_of o = option_and_then below_2_32 (option_and_then as_u64 (option_and_then as_number o))

program_stands : (d e : Data) (ps : Parts) → get (codes "sourceType") e ≡ get (codes "sourceType") d → get (codes "body") e ≡ get (codes "body") d → AllStand d (members_of Kind.Program) ps → AllStand e (members_of Kind.Program) ps
program_stands d e end a b stands = tt
program_stands d e (more p end) a b stands = (a ∙ stands.0, tt)
program_stands d e (more p (more q end)) a b stands = (a ∙ stands.0, (b ∙ stands.1.0, tt))
program_stands d e (more p (more q (more r rs))) a b stands = (a ∙ stands.0, (b ∙ stands.1.0, tt))

module _ (id : ℕ) (span : Option (ℕ × ℕ)) (semantic_id : Option ℕ) (ps : Parts) (names : List LedgerEntry) (warnings : List Diagnostic) (shapes : List Shape) where
  abbrev base : Members
  base = put_all no_members (node_entries Kind.Program id span ps (write_fields (members_of Kind.Program) ps))

  abbrev program : Tree
  program = Node Kind.Program id span semantic_id ps

  abbrev with_more : Data
  with_more = object (put_all base (more_members names warnings shapes))

  -- what has another name is found as before
  same_at : (q : List ℕ) → is_among q (keys (more_members names warnings shapes)) ≡ false → get q with_more ≡ get q (write program)
  same_at q other = get_all q (more_members names warnings shapes) base ∙ found_past q (more_members names warnings shapes) (get q (write program)) other

  whole : has_float with_more ≡ false
  whole = lowered_no_float program names warnings shapes

  plain : (computed : Bool) → parts_conform computed (members_of Kind.Program) ps ≡ true → is_foreign_node Kind.Program with_more ≡ false
  plain computed c =
      let before = sym (strange_are Kind.Program base) ∙ (or_parts _ false (no_foreign Kind.Program id span ps computed c)).0 in
      or_from _ _ (strange_are Kind.Program (put_all base (more_members names warnings shapes)) ∙ none_put_all (is_strange Kind.Program) (more_members names warnings shapes) base (more_plain names warnings shapes) before) refl

  spans : span_at with_more ≡ span_at (write program)
  spans = ap₂ (λ a b. pair (u32_of a) (u32_of b)) (same_at (codes "start") refl) (same_at (codes "end") refl)

  program_back : conforms Place.Program program ≡ true → IsKept program → read Numbers.Given with_more root 0 ≡ Ok (record { value = stripped program; foreign = [] })
  program_back c kept =
      let computed = boolean_at (codes "computed") (members_of Kind.Program) ps in
      let parts = parts_of Place.Program Kind.Program id span semantic_id ps c in
      let conform = parts.1.1.1 in
      let stands = program_stands (write program) with_more ps (same_at (codes "sourceType") refl) (same_at (codes "body") refl) (all_stand Kind.Program id span ps computed conform kept.2) in
      let fits = all_fit Kind.Program root with_more ps parts.1.1.0 refl conform stands in
      node_back with_more Kind.Program root 0 id span (stripped_parts ps)
      (kind_chosen Kind.Program root with_more ps 0 (same_at (codes "type") refl ∙ type_found Kind.Program id span ps computed conform) parts.0 parts.1.0 conform kept.2 stands refl)
      (number_is computed Kind.Program with_more ps id 0 whole parts.1.1.0 conform kept.2 stands (ap u32_of (same_at (codes "node") refl) ∙ number_found Kind.Program id span ps computed conform kept.0))
      (law_fields ps (members_of Kind.Program) (parent_of Kind.Program root with_more) with_more computed 1 conform kept.2 stands fits)
      (plain computed conform)
      (spans ∙ span_found Kind.Program id span ps computed conform kept.1)

-- the members that are put in more are passed by
pub lowered_law : (t : Tree) (names : List LedgerEntry) (warnings : List Diagnostic) (shapes : List Shape) → conforms Place.Program t ≡ true → IsKept t
    → read Numbers.Given (write_lowered t names warnings shapes) root 0 ≡ Ok (record { value = stripped t; foreign = [] })
lowered_law (Node Kind.Program id span semantic_id ps) names warnings shapes c kept = program_back id span semantic_id ps names warnings shapes c kept
lowered_law (Node _ id span semantic_id ps) names warnings shapes c kept = cc
