-- What stands below a node that conforms suits its spot.
use Rattle.std.proofs.Common.{◌≡◌, refl, sym, ap, ◌∙◌, subst, ℕ, List, [], ◌∷◌, Bool, true, false, not, Option, if◌then◌else◌}
use Rattle.std.specs.Prelude.{◌&&◌, ◌||◌, bytes_eq, codes, option_and_then}
use Rattle.std.specs.Char.{encode_utf8}
use Rattle.std.specs.Str.{encode_utf8_all}
use Rattle.std.proofs.lemmas.Bool.{and_parts, and_from, and_right, or_left, or_right, true≢false}
use Rattle.serde_json.specs.Data.{Data}
use Rattle.serde_json.specs.Find.{get, as_str}
use Rattle.es_base.specs.Tree.{Tree, Part, Parts, Node, end, more, child, absent, list, string}
use Rattle.es_base.specs.Conforms.{conforms, parts_conform, part_conforms, items_conform, item_conforms, kind_rule, place_rule, is_rest, is_end, key_place, boolean_at, local_rule, local_rules, is_pattern_child}
use Rattle.es_base.specs.Table.{Field, members_of, stands_in}
use Rattle.es_base.specs.declared.kind.Kind.{Kind}
use Rattle.es_base.specs.declared.table.Place.{Place}
use Rattle.es_base.specs.declared.table.Sort.{Sort}
use Rattle.es_base.specs.declared.table.Words.{Words}
use Rattle.es_reading.specs.Kinds.{may_be_reference, may_be_name}
use Rattle.es_reading.specs.Look.{is_true_at, is_string_at, is_this, is_there}
use Rattle.es_reading.specs.Reading.{place_below, parent_of, below, slots_below, slot}
use Rattle.es_reading.specs.declared.spot.Parent.{Parent}
use Rattle.es_reading.specs.declared.spot.Slots.{Slots}
use Rattle.es_reading.specs.declared.spot.Spot.{Spot}
use Rattle.es_json.specs.Suits.{kind_suits, local_suits, tree_suits, Suits}
use Rattle.es_json.proofs.Found.{bytes_false, bytes_apart}
use Rattle.es_json.proofs.Parts.{parts_of, boolean_found, has_boolean}
use Rattle.es_json.proofs.Stands.{there, AllStand}
use Rattle.es_json.proofs.Rows.{is_apart}
use Rattle.es_json.proofs.Tests.{not_true, not_both, nothing_more, and_none}

-- a tree that is read back at this spot
abbrev pub Well : Spot → Tree → Type 0
Well spot t = (conforms spot.place t ≡ true) × Suits spot t

abbrev pub ItemFits : Slots → Bool → Part → Type 0
ItemFits slots last (child t) = Well (slot slots last) t
ItemFits slots last absent = slots.holes ≡ true
ItemFits slots last p = ⊥

abbrev pub ItemsFit : Slots → Parts → Type 0
ItemsFit slots end = Unit
ItemsFit slots (more p ps) = ItemFits slots (is_end ps) p × ItemsFit slots ps

abbrev pub Fits : Parent → Data → Sort → Part → Type 0
Fits parent d (Sort.Child p) (child t) = Well (below parent (place_below parent.kind d p)) t
Fits parent d (Sort.Nullable p) (child t) = Well (below parent p) t
Fits parent d (Sort.Key p) (child t) = Well (below parent (key_place (is_true_at (codes "computed") d) p)) t
Fits parent d (Sort.List p) (list ps) = ItemsFit (slots_below parent false p) ps
Fits parent d (Sort.NonEmptyList p) (list ps) = ItemsFit (slots_below parent false p) ps
Fits parent d (Sort.ListWithHoles p) (list ps) = ItemsFit (slots_below parent true p) ps
Fits parent d sort p = Unit

abbrev pub AllFit : Parent → Data → List Field → Parts → Type 0
AllFit parent d fs end = Unit
AllFit parent d [] (more p ps) = Unit
AllFit parent d (f ∷ fs) (more p ps) = Fits parent d f.sort p × AllFit parent d fs ps

-- ---- places that ask nothing more

abbrev is_calm : Place → Bool
is_calm Place.ExportLocal = false
is_calm Place.ExportSpecifier = false
is_calm place = true

calm_reference : (place : Place) (sourced : Bool) → is_calm place ≡ true → may_be_reference place sourced ≡ true
calm_reference Place.ExportLocal sourced calm = cc
calm_reference _ sourced calm = refl

calm_name : (place : Place) (sourced : Bool) → is_calm place ≡ true → may_be_name place sourced ≡ true
calm_name Place.ExportLocal sourced calm = cc
calm_name _ sourced calm = refl

calm_specifier : (place : Place) → is_calm place ≡ true → stands_in place Kind.ExportSpecifier ≡ true → ⊥
calm_specifier Place.ExportSpecifier calm stands = cc
calm_specifier _ calm stands = cc

abbrev is_rest_kind : Kind → Bool
is_rest_kind Kind.RestElement = true
is_rest_kind Kind.AssignmentTargetRest = true
is_rest_kind kind = false

calm_kind : (kind : Kind) (place : Place) (last sourced : Bool) (ps : Parts) → is_calm place ≡ true → stands_in place kind ≡ true → (is_rest_kind kind ≡ true → last ≡ true)
    → (kind_suits (record { place = place; last = last; sourced = sourced }) kind && local_suits sourced kind ps) ≡ true
calm_kind Kind.RestElement place last sourced ps calm stands rest = and_from last true (rest refl) refl
calm_kind Kind.AssignmentTargetRest place last sourced ps calm stands rest = and_from last true (rest refl) refl
calm_kind Kind.IdentifierReference place last sourced ps calm stands rest = and_from (may_be_reference place sourced) true (calm_reference place sourced calm) refl
calm_kind Kind.IdentifierName place last sourced ps calm stands rest = and_from (may_be_name place sourced) true (calm_name place sourced calm) refl
calm_kind Kind.ExportSpecifier place last sourced ps calm stands rest = absurd (calm_specifier place calm stands)
calm_kind _ place last sourced ps calm stands rest = refl

rest_child : (kind : Kind) (id : ℕ) (span : Option (ℕ × ℕ)) (semantic_id : Option ℕ) (ps : Parts) → is_rest (child (Node kind id span semantic_id ps)) ≡ is_rest_kind kind
rest_child Kind.RestElement id span semantic_id ps = refl
rest_child Kind.AssignmentTargetRest id span semantic_id ps = refl
rest_child _ id span semantic_id ps = refl

calm_tree : (t : Tree) (place : Place) (last sourced : Bool) → is_calm place ≡ true → conforms place t ≡ true → (is_rest (child t) ≡ true → last ≡ true) → tree_suits (record { place = place; last = last; sourced = sourced }) t ≡ true
calm_tree (Node kind id span semantic_id ps) place last sourced calm c rest = calm_kind kind place last sourced ps calm (parts_of place kind id span semantic_id ps c).0 (λ is. rest (rest_child kind id span semantic_id ps ∙ is))

-- ---- lists

last_item : (rest last : Bool) → (not rest || last) ≡ true → rest ≡ true → last ≡ true
last_item true last e is = e
last_item false last e is = cc

item_fits : (place : Place) (holes sourced last : Bool) (p : Part) → is_calm place ≡ true → item_conforms holes place p ≡ true → (not (is_rest p) || last) ≡ true → ItemFits (record { place = place; holes = holes; sourced = sourced }) last p
item_fits place holes sourced last (child t) calm c rest = (c, calm_tree t place last sourced calm c (last_item (is_rest (child t)) last rest))
item_fits place holes sourced last absent calm c rest = c
item_fits place holes sourced last _ calm c rest = cc

items_fit : (place : Place) (holes sourced : Bool) (ps : Parts) → is_calm place ≡ true → items_conform holes place ps ≡ true → ItemsFit (record { place = place; holes = holes; sourced = sourced }) ps
items_fit place holes sourced end calm c = tt
items_fit place holes sourced (more p ps) calm c =
    let one = and_parts (item_conforms holes place p) ((not (is_rest p) || is_end ps) && items_conform holes place ps) c in
    let two = and_parts (not (is_rest p) || is_end ps) (items_conform holes place ps) one.1 in
    (item_fits place holes sourced (is_end ps) p calm one.0 two.0, items_fit place holes sourced ps calm two.1)

-- ---- the fields of a row

abbrev is_calm_sort : Sort → Bool
is_calm_sort (Sort.Child p) = is_calm p
is_calm_sort (Sort.Nullable p) = is_calm p
is_calm_sort (Sort.Key p) = is_calm p
is_calm_sort (Sort.List p) = is_calm p
is_calm_sort (Sort.NonEmptyList p) = is_calm p
is_calm_sort (Sort.ListWithHoles p) = is_calm p
is_calm_sort sort = true

abbrev are_calm : List Field → Bool
are_calm [] = true
are_calm (f ∷ fs) = is_calm_sort f.sort && are_calm fs

abbrev is_key : Sort → Bool
is_key (Sort.Key p) = true
is_key sort = false

abbrev has_key : List Field → Bool
has_key [] = false
has_key (f ∷ fs) = is_key f.sort || has_key fs

abbrev SameBelow : Parent → Data → Sort → Type 0
SameBelow parent d (Sort.Child p) = place_below parent.kind d p ≡ p
SameBelow parent d sort = Unit

same_below : (parent : Parent) (d : Data) (sort : Sort) → ((p : Place) → place_below parent.kind d p ≡ p) → SameBelow parent d sort
same_below parent d (Sort.Child p) same = same p
same_below parent d _ same = tt

calm_child : (t : Tree) (place : Place) (sourced : Bool) → is_calm place ≡ true → conforms place t ≡ true → Well (record { place = place; last = true; sourced = sourced }) t
calm_child t place sourced calm c = (c, calm_tree t place true sourced calm c (λ is. refl))

calm_key : (computed : Bool) (place : Place) → is_calm place ≡ true → is_calm (key_place computed place) ≡ true
calm_key true place calm = refl
calm_key false place calm = calm

part_fits : (parent : Parent) (d : Data) (computed : Bool) (sort : Sort) (p : Part) → SameBelow parent d sort → is_calm_sort sort ≡ true → (is_key sort ≡ true → is_true_at (codes "computed") d ≡ computed) → part_conforms computed sort p ≡ true → Fits parent d sort p
part_fits parent d computed (Sort.Child place) (child t) same calm key c = subst (λ (q : Place). Well (below parent q) t) (sym same) (calm_child t place parent.sourced calm c)
part_fits parent d computed (Sort.Nullable place) (child t) same calm key c = calm_child t place parent.sourced calm c
part_fits parent d computed (Sort.Key place) (child t) same calm key c =
    subst (λ (b : Bool). Well (below parent (key_place b place)) t) (sym (key refl)) (calm_child t (key_place computed place) parent.sourced (calm_key computed place calm) c)
part_fits parent d computed (Sort.List place) (list ps) same calm key c = items_fit place false parent.sourced ps calm c
part_fits parent d computed (Sort.NonEmptyList place) (list ps) same calm key c = items_fit place false parent.sourced ps calm (and_parts (not (is_end ps)) (items_conform false place ps) c).1
part_fits parent d computed (Sort.ListWithHoles place) (list ps) same calm key c = items_fit place true parent.sourced ps calm c
part_fits parent d computed _ _ same calm key c = tt

fields_fit : (parent : Parent) (d : Data) (computed : Bool) (fs : List Field) (ps : Parts) → ((p : Place) → place_below parent.kind d p ≡ p) → are_calm fs ≡ true → (has_key fs ≡ true → is_true_at (codes "computed") d ≡ computed) → parts_conform computed fs ps ≡ true → AllFit parent d fs ps
fields_fit parent d computed fs end same calm key c = tt
fields_fit parent d computed [] (more p ps) same calm key c = tt
fields_fit parent d computed (f ∷ fs) (more p ps) same calm key c =
    let conform = and_parts (part_conforms computed f.sort p) (parts_conform computed fs ps) c in
    let calms = and_parts (is_calm_sort f.sort) (are_calm fs) calm in (
      part_fits parent d computed f.sort p (same_below parent d f.sort same) calms.0 (λ has. key (or_left (is_key f.sort) (has_key fs) has)) conform.0,
      fields_fit parent d computed fs ps same calms.1 (λ has. key (or_right (is_key f.sort) (has_key fs) has)) conform.1,
    )

-- ---- the kinds of which a place says all

abbrev is_plain : Kind → Bool
is_plain Kind.AssignmentExpression = false
is_plain Kind.ExportNamedDeclaration = false
is_plain Kind.ExportSpecifier = false
is_plain kind = true

plain_below : (kind : Kind) (d : Data) (p : Place) → is_plain kind ≡ true → place_below kind d p ≡ p
plain_below Kind.AssignmentExpression d p plain = cc
plain_below _ d p plain = refl

plain_calm : (kind : Kind) → is_plain kind ≡ true → are_calm (members_of kind) ≡ true
plain_calm Kind.AssignmentExpression plain = cc
plain_calm Kind.ExportNamedDeclaration plain = cc
plain_calm Kind.ExportSpecifier plain = cc
plain_calm _ plain = refl

-- a row with a key has the boolean `computed`
keyed : (kind : Kind) → (not (has_key (members_of kind)) || (has_boolean (codes "computed") (members_of kind) && is_apart [] (members_of kind))) ≡ true
keyed Kind.Program = refl
keyed _ = refl

key_computed : (kind : Kind) (d : Data) (ps : Parts) → has_key (members_of kind) ≡ true → parts_conform (boolean_at (codes "computed") (members_of kind) ps) (members_of kind) ps ≡ true → AllStand d (members_of kind) ps
    → is_true_at (codes "computed") d ≡ boolean_at (codes "computed") (members_of kind) ps
key_computed kind d ps has c stands =
    let row = and_parts (has_boolean (codes "computed") (members_of kind)) (is_apart [] (members_of kind)) (sym (ap (λ b. not b || (has_boolean (codes "computed") (members_of kind) && is_apart [] (members_of kind))) has) ∙ keyed kind) in
    boolean_found (codes "computed") [] (members_of kind) ps (boolean_at (codes "computed") (members_of kind) ps) d row.0 row.1 c stands

plain_fit : (kind : Kind) (spot : Spot) (d : Data) (ps : Parts) → is_plain kind ≡ true → parts_conform (boolean_at (codes "computed") (members_of kind) ps) (members_of kind) ps ≡ true → AllStand d (members_of kind) ps → AllFit (parent_of kind spot d) d (members_of kind) ps
plain_fit kind spot d ps plain c stands =
    fields_fit (parent_of kind spot d) d (boolean_at (codes "computed") (members_of kind) ps) (members_of kind) ps (λ p. plain_below kind d p plain) (plain_calm kind plain) (λ has. key_computed kind d ps has c stands) c

-- ---- an assignment

equals_spelled : encode_utf8_all (codes "=") ≡ codes "="
unfolding encode_utf8
equals_spelled = refl

no_equals : (s : List ℕ) → bytes_eq (codes "=") (encode_utf8_all s) ≡ false → bytes_eq s (codes "=") ≡ false
no_equals s other = bytes_apart s (codes "=") (λ is. bytes_false (codes "=") (encode_utf8_all s) other (sym equals_spelled ∙ ap encode_utf8_all (sym is)))

abbrev is_pattern_kind : Kind → Bool
is_pattern_kind Kind.ObjectAssignmentTarget = true
is_pattern_kind Kind.ArrayAssignmentTarget = true
is_pattern_kind kind = false

pattern_child : (kind : Kind) (id : ℕ) (span : Option (ℕ × ℕ)) (semantic_id : Option ℕ) (ps : Parts) → is_pattern_child (child (Node kind id span semantic_id ps)) ≡ is_pattern_kind kind
pattern_child Kind.ObjectAssignmentTarget id span semantic_id ps = refl
pattern_child Kind.ArrayAssignmentTarget id span semantic_id ps = refl
pattern_child _ id span semantic_id ps = refl

simple_stands : (kind : Kind) → stands_in Place.AssignmentTarget kind ≡ true → is_pattern_kind kind ≡ false → stands_in Place.SimpleAssignmentTarget kind ≡ true
simple_stands Kind.IdentifierReference stands simple = refl
simple_stands Kind.MemberExpression stands simple = refl
simple_stands Kind.PrivateField stands simple = refl
simple_stands _ stands simple = cc

simple_target : (t : Tree) → conforms Place.AssignmentTarget t ≡ true → is_pattern_child (child t) ≡ false → conforms Place.SimpleAssignmentTarget t ≡ true
simple_target (Node kind id span semantic_id ps) c simple =
    let parts = and_parts (stands_in Place.AssignmentTarget kind) (place_rule Place.AssignmentTarget kind ps && (kind_rule kind ps && parts_conform (boolean_at (codes "computed") (members_of kind) ps) (members_of kind) ps)) c in
    and_from _ _ (simple_stands kind parts.0 (sym (pattern_child kind id span semantic_id ps) ∙ simple)) parts.1

abbrev target_place : Bool → Place
target_place b = if b then Place.AssignmentTarget else Place.SimpleAssignmentTarget

target_well : (b sourced : Bool) (s : List ℕ) (t : Tree) → bytes_eq (codes "=") (encode_utf8_all s) ≡ b → (bytes_eq s (codes "=") || not (is_pattern_child (child t))) ≡ true → conforms Place.AssignmentTarget t ≡ true
    → Well (record { place = target_place b; last = true; sourced = sourced }) t
target_well true sourced s t is rule c = calm_child t Place.AssignmentTarget sourced refl c
target_well false sourced s t is rule c =
    let simple : is_pattern_child (child t) ≡ false = not_true (is_pattern_child (child t)) (sym (ap (λ b. b || not (is_pattern_child (child t))) (no_equals s is)) ∙ rule) in
    calm_child t Place.SimpleAssignmentTarget sourced refl (simple_target t c simple)

assigned : (parent : Parent) (d : Data) (computed : Bool) (s : List ℕ) (left : Part) → parent.kind ≡ Kind.AssignmentExpression → get (codes "operator") d ≡ there (string s) → (bytes_eq s (codes "=") || not (is_pattern_child left)) ≡ true
    → part_conforms computed (Sort.Child Place.AssignmentTarget) left ≡ true → Fits parent d (Sort.Child Place.AssignmentTarget) left
assigned parent d computed s (child t) kind at rule c =
    let word : is_string_at (codes "operator") (codes "=") d ≡ bytes_eq (codes "=") (encode_utf8_all s) = ap (λ o. is_this (codes "=") (option_and_then as_str o)) at in
    subst (λ (k : Kind). Well (below parent (place_below k d Place.AssignmentTarget)) t) (sym kind)
    (subst (λ (b : Bool). Well (below parent (target_place b)) t) (sym word) (target_well (bytes_eq (codes "=") (encode_utf8_all s)) parent.sourced s t refl rule c))
assigned parent d computed s _ kind at rule c = cc

none_left : (parent : Parent) (d : Data) (ps : Parts) → AllFit parent d [] ps
none_left parent d end = tt
none_left parent d (more p ps) = tt

last_fit : (parent : Parent) (d : Data) (computed : Bool) (f : Field) (ps : Parts) → SameBelow parent d f.sort → is_calm_sort f.sort ≡ true → is_key f.sort ≡ false → parts_conform computed (f ∷ []) ps ≡ true → AllFit parent d (f ∷ []) ps
last_fit parent d computed f end same calm key c = tt
last_fit parent d computed f (more p ps) same calm key c = (part_fits parent d computed f.sort p same calm (λ has. absurd (not_both key has)) (and_parts (part_conforms computed f.sort p) (parts_conform computed [] ps) c).0, none_left parent d ps)

assignment_fit : (spot : Spot) (d : Data) (computed : Bool) (ps : Parts) → kind_rule Kind.AssignmentExpression ps ≡ true → parts_conform computed (members_of Kind.AssignmentExpression) ps ≡ true → AllStand d (members_of Kind.AssignmentExpression) ps
    → AllFit (parent_of Kind.AssignmentExpression spot d) d (members_of Kind.AssignmentExpression) ps
assignment_fit spot d computed end rule c stands = tt
assignment_fit spot d computed (more (string s) end) rule c stands = (tt, tt)
assignment_fit spot d computed (more (string s) (more left rest)) rule c stands =
    let one = and_parts (part_conforms computed (Sort.Word Words.AssignmentOperator) (string s)) (part_conforms computed (Sort.Child Place.AssignmentTarget) left && parts_conform computed (record { name = codes "right"; sort = Sort.Child Place.Expression } ∷ []) rest) c in
    let two = and_parts (part_conforms computed (Sort.Child Place.AssignmentTarget) left) (parts_conform computed (record { name = codes "right"; sort = Sort.Child Place.Expression } ∷ []) rest) one.1 in
    (tt, (assigned (parent_of Kind.AssignmentExpression spot d) d computed s left refl stands.0 rule two.0, last_fit (parent_of Kind.AssignmentExpression spot d) d computed (record { name = codes "right"; sort = Sort.Child Place.Expression }) rest refl refl refl two.1))
assignment_fit spot d computed (more _ rest) rule c stands = cc

-- ---- a specifier of an export

not_specifier : (sourced : Bool) (kind : Kind) (ps : Parts) → stands_in Place.ExportLocal kind ≡ true → local_suits sourced kind ps ≡ true
not_specifier sourced Kind.ExportSpecifier ps stands = cc
not_specifier sourced _ ps stands = refl

specifier_fit : (spot : Spot) (d : Data) (computed : Bool) (ps : Parts) → local_suits spot.sourced Kind.ExportSpecifier ps ≡ true → parts_conform computed (members_of Kind.ExportSpecifier) ps ≡ true → AllFit (parent_of Kind.ExportSpecifier spot d) d (members_of Kind.ExportSpecifier) ps
specifier_fit spot d computed end suits c = tt
specifier_fit spot d computed (more (child (Node kind id span semantic_id qs)) rest) suits c =
    let one = and_parts (conforms Place.ExportLocal (Node kind id span semantic_id qs)) (parts_conform computed (record { name = codes "exported"; sort = Sort.Child Place.ModuleName } ∷ []) rest) c in (
      (one.0, and_from _ _ suits (not_specifier spot.sourced kind qs (parts_of Place.ExportLocal kind id span semantic_id qs one.0).0)),
      last_fit (parent_of Kind.ExportSpecifier spot d) d computed (record { name = codes "exported"; sort = Sort.Child Place.ModuleName }) rest refl refl refl one.1,
    )
specifier_fit spot d computed (more _ rest) suits c = cc

-- ---- an export

named_alone : (id : ℕ) (span : Option (ℕ × ℕ)) (semantic_id : Option ℕ) (qs : Parts) → local_rule (child (Node Kind.ExportSpecifier id span semantic_id qs)) absent ≡ true → local_suits false Kind.ExportSpecifier qs ≡ true
named_alone id span semantic_id end rule = refl
named_alone id span semantic_id (more (child (Node Kind.IdentifierReference i s m ps)) rest) rule = refl
named_alone id span semantic_id (more (child (Node Kind.IdentifierName i s m ps)) rest) rule = cc
named_alone id span semantic_id (more (child (Node _ i s m ps)) rest) rule = refl
named_alone id span semantic_id (more _ rest) rule = refl

named_from : (id : ℕ) (span : Option (ℕ × ℕ)) (semantic_id : Option ℕ) (qs : Parts) (source : Tree) → local_rule (child (Node Kind.ExportSpecifier id span semantic_id qs)) (child source) ≡ true → local_suits true Kind.ExportSpecifier qs ≡ true
named_from id span semantic_id end source rule = refl
named_from id span semantic_id (more (child (Node Kind.IdentifierReference i s m ps)) rest) source rule = cc
named_from id span semantic_id (more (child (Node Kind.IdentifierName i s m ps)) rest) source rule = refl
named_from id span semantic_id (more (child (Node _ i s m ps)) rest) source rule = refl
named_from id span semantic_id (more _ rest) source rule = refl

-- whether an export has a source
abbrev is_source : Part → Bool
is_source (child t) = true
is_source p = false

specifier_suits : (id : ℕ) (span : Option (ℕ × ℕ)) (semantic_id : Option ℕ) (qs : Parts) (computed : Bool) (source : Part) → part_conforms computed (Sort.Nullable Place.Literal) source ≡ true → local_rule (child (Node Kind.ExportSpecifier id span semantic_id qs)) source ≡ true
    → local_suits (is_source source) Kind.ExportSpecifier qs ≡ true
specifier_suits id span semantic_id qs computed absent c rule = named_alone id span semantic_id qs rule
specifier_suits id span semantic_id qs computed (child t) c rule = named_from id span semantic_id qs t rule
specifier_suits id span semantic_id qs computed _ c rule = cc

specifier_well : (kind : Kind) (id : ℕ) (span : Option (ℕ × ℕ)) (semantic_id : Option ℕ) (qs : Parts) (computed last : Bool) (source : Part) → part_conforms computed (Sort.Nullable Place.Literal) source ≡ true → conforms Place.ExportSpecifier (Node kind id span semantic_id qs) ≡ true
    → local_rule (child (Node kind id span semantic_id qs)) source ≡ true → Well (record { place = Place.ExportSpecifier; last = last; sourced = is_source source }) (Node kind id span semantic_id qs)
specifier_well Kind.ExportSpecifier id span semantic_id qs computed last source there c rule = (c, specifier_suits id span semantic_id qs computed source there rule)
specifier_well _ id span semantic_id qs computed last source there c rule = cc

specifiers_fit : (computed : Bool) (source : Part) (ps : Parts) → part_conforms computed (Sort.Nullable Place.Literal) source ≡ true → items_conform false Place.ExportSpecifier ps ≡ true → local_rules ps source ≡ true
    → ItemsFit (record { place = Place.ExportSpecifier; holes = false; sourced = is_source source }) ps
specifiers_fit computed source end there c rules = tt
specifiers_fit computed source (more (child (Node kind id span semantic_id qs)) ps) there c rules =
    let p = child (Node kind id span semantic_id qs) in
    let one = and_parts (conforms Place.ExportSpecifier (Node kind id span semantic_id qs)) ((not (is_rest p) || is_end ps) && items_conform false Place.ExportSpecifier ps) c in
    let two = and_parts (not (is_rest p) || is_end ps) (items_conform false Place.ExportSpecifier ps) one.1 in
    let rule = and_parts (local_rule p source) (local_rules ps source) rules in
    (specifier_well kind id span semantic_id qs computed (is_end ps) source there one.0 rule.0, specifiers_fit computed source ps there two.1 rule.1)
specifiers_fit computed source (more _ ps) there c rules = cc

source_there : (computed : Bool) (d : Data) (source : Part) → part_conforms computed (Sort.Nullable Place.Literal) source ≡ true → get (codes "source") d ≡ there source → is_there (get (codes "source") d) ≡ is_source source
source_there computed d (child (Node kind id span semantic_id ps)) c at = ap is_there at
source_there computed d absent c at = ap is_there at
source_there computed d _ c at = cc

export_fit : (spot : Spot) (d : Data) (computed : Bool) (ps : Parts) → kind_rule Kind.ExportNamedDeclaration ps ≡ true → parts_conform computed (members_of Kind.ExportNamedDeclaration) ps ≡ true → AllStand d (members_of Kind.ExportNamedDeclaration) ps
    → AllFit (parent_of Kind.ExportNamedDeclaration spot d) d (members_of Kind.ExportNamedDeclaration) ps
export_fit spot d computed end rule c stands = tt
export_fit spot d computed (more declaration end) rule c stands = absurd (nothing_more (part_conforms computed (Sort.Nullable Place.Statement) declaration) false refl c)
export_fit spot d computed (more declaration (more (list specifiers) (more source end))) rule c stands =
    let last = part_conforms computed (Sort.Nullable Place.Literal) source && true in
    let one = and_parts (part_conforms computed (Sort.Nullable Place.Statement) declaration) (items_conform false Place.ExportSpecifier specifiers && last) c in
    let two = and_parts (items_conform false Place.ExportSpecifier specifiers) last one.1 in
    let three = and_parts (part_conforms computed (Sort.Nullable Place.Literal) source) true two.1 in
    let parent = parent_of Kind.ExportNamedDeclaration spot d in (
      part_fits parent d computed (Sort.Nullable Place.Statement) declaration tt refl (λ key. absurd (true≢false (sym key))) one.0,
      (
        subst (λ (b : Bool). ItemsFit (record { place = Place.ExportSpecifier; holes = false; sourced = b }) specifiers) (sym (source_there computed d source three.0 stands.1.1.0)) (specifiers_fit computed source specifiers three.0 two.0 rule),
        (part_fits parent d computed (Sort.Nullable Place.Literal) source tt refl (λ key. absurd (true≢false (sym key))) three.0, tt),
      ),
    )
export_fit spot d computed (more declaration (more (list specifiers) end)) rule c stands =
    absurd (nothing_more (part_conforms computed (Sort.Nullable Place.Statement) declaration) (items_conform false Place.ExportSpecifier specifiers && false) (and_none (items_conform false Place.ExportSpecifier specifiers)) c)
export_fit spot d computed (more declaration (more (list specifiers) (more source (more q qs)))) rule c stands =
    let last = part_conforms computed (Sort.Nullable Place.Literal) source in
    absurd (nothing_more (part_conforms computed (Sort.Nullable Place.Statement) declaration) (items_conform false Place.ExportSpecifier specifiers && (last && false)) (and_right (items_conform false Place.ExportSpecifier specifiers) (last && false) (and_none last)) c)
export_fit spot d computed (more declaration (more _ rest)) rule c stands = absurd (nothing_more (part_conforms computed (Sort.Nullable Place.Statement) declaration) false refl c)

-- ---- all kinds

special_fit : (kind : Kind) (spot : Spot) (d : Data) (computed : Bool) (ps : Parts) → is_plain kind ≡ false → kind_rule kind ps ≡ true → local_suits spot.sourced kind ps ≡ true → parts_conform computed (members_of kind) ps ≡ true → AllStand d (members_of kind) ps
    → AllFit (parent_of kind spot d) d (members_of kind) ps
special_fit Kind.AssignmentExpression spot d computed ps plain rule suits c stands = assignment_fit spot d computed ps rule c stands
special_fit Kind.ExportNamedDeclaration spot d computed ps plain rule suits c stands = export_fit spot d computed ps rule c stands
special_fit Kind.ExportSpecifier spot d computed ps plain rule suits c stands = specifier_fit spot d computed ps suits c
special_fit _ spot d computed ps plain rule suits c stands = cc

pub all_fit : (kind : Kind) (spot : Spot) (d : Data) (ps : Parts) → kind_rule kind ps ≡ true → local_suits spot.sourced kind ps ≡ true → parts_conform (boolean_at (codes "computed") (members_of kind) ps) (members_of kind) ps ≡ true → AllStand d (members_of kind) ps
    → AllFit (parent_of kind spot d) d (members_of kind) ps
all_fit kind spot d ps rule suits c stands = by_plain (is_plain kind) refl where
  by_plain : (plain : Bool) → is_plain kind ≡ plain → AllFit (parent_of kind spot d) d (members_of kind) ps
  by_plain true plain = plain_fit kind spot d ps plain c stands
  by_plain false plain = special_fit kind spot d (boolean_at (codes "computed") (members_of kind) ps) ps plain rule suits c stands
