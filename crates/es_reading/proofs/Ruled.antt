-- The rules of places and kinds hold of a node that is read.
use Rattle.std.proofs.Common.{◌≡◌, refl, sym, ap, ap₂, ◌∙◌, subst, ℕ, ◌+◌, nat_eq, List, Bool, true, false, not, ◌&&◌, ◌||◌, Option, Some, None, option_map, option_and_then}
use Rattle.std.specs.Prelude.{codes, bytes_eq, is_some}
use Rattle.std.specs.Str.{chars}
use Rattle.std.proofs.lemmas.Bool.{or_left, or_right}
use Rattle.serde_json.specs.Data.{Data, Items}
use Rattle.serde_json.specs.Find.{get}
use Rattle.es_base.specs.Tree.{Tree, Part, Parts, Node, end, more, child, absent, list, string, nullable_string}
use Rattle.es_base.specs.Table.{members_of, stands_in}
use Rattle.es_base.specs.Conforms.{conforms, place_rule, kind_rule, local_rule, local_rules, is_key_literal, is_target_place, is_pattern_child, is_rest, boolean_at, item_count}
use Rattle.es_base.specs.declared.kind.Kind.{Kind}
use Rattle.es_base.specs.declared.table.Place.{Place}
use Rattle.es_base.specs.declared.table.Sort.{Sort}
use Rattle.es_reading.proofs.And.{left_of, right_of, both, wrong}
use Rattle.es_reading.specs.Kinds.{is_named, may_stand, may_be_literal, has_private_property}
use Rattle.es_reading.specs.Literals.{Form, form_in, value_of, may_be_key}
use Rattle.es_reading.specs.Look.{string_at, is_true_at, is_this, is_string_at, is_there}
use Rattle.es_reading.specs.Members.{are_good, are_of_sorts, counts_agree, is_one_more, item_count as data_count}
use Rattle.es_reading.specs.Reading.{parent_of, literal_part}
use Rattle.es_reading.specs.declared.spot.Parent.{Parent}
use Rattle.es_reading.specs.declared.spot.Spot.{Spot}
use Rattle.es_reading.proofs.Chosen.{IsChosen}
use Rattle.es_reading.proofs.Parted.{PartRead, PartsRead, ListRead, reads_true, boolean_read, has_key, types_good, good_parts, target_place, by_target, is_foreign_string}
use Rattle.es_reading.proofs.Standing.{NodeStands, local_fits, kind_in_tree, specifier_fits, specifier_in, specifiers_fit}
use Rattle.es_reading.proofs.Wording.{assigned, key_good}

or_false : (b : Bool) → (b || false) ≡ b
or_false true = refl
or_false false = refl

-- ---- places

not_both : (b : Bool) → not (b && false) ≡ true
not_both true = refl
not_both false = refl

call_place : (p : Place) → stands_in p Kind.CallExpression ≡ true → is_target_place p ≡ false
call_place Place.SimpleAssignmentTarget h = wrong h
call_place Place.AssignmentTarget h = wrong h
call_place Place.AssignmentTargetMaybeDefault h = wrong h
call_place Place.TargetOrRest h = wrong h
call_place Place.ForLeft h = wrong h
call_place _ h = refl

no_target : (b c : Bool) → b ≡ false → not (b && c) ≡ true
no_target true c h = wrong (sym h)
no_target false c h = refl

-- what is assigned to is no optional member
not_target : (spot : Spot) (d : Data) (k : Kind) → may_stand spot d k ≡ true → not (is_target_place spot.place && reads_true (codes "optional") (members_of k) d) ≡ true
not_target spot d Kind.MemberExpression h =
    ap (λ b. not (is_target_place spot.place && b)) (or_false (is_true_at (codes "optional") d))
    ∙ right_of (not (has_private_property d)) _ (right_of (stands_in spot.place Kind.MemberExpression) _ h)
not_target spot d Kind.PrivateField h =
    ap (λ b. not (is_target_place spot.place && b)) (or_false (is_true_at (codes "optional") d))
    ∙ right_of (has_private_property d) _ (right_of (stands_in spot.place Kind.PrivateField) _ h)
not_target spot d Kind.CallExpression h = no_target _ _ (call_place spot.place (left_of _ _ h))
not_target spot d _ h = not_both (is_target_place spot.place)

abbrev key_rule : Kind → Place → Parts → Bool
key_rule Kind.Literal Place.PropertyKey ps = is_key_literal ps
key_rule Kind.Literal Place.ClassKey ps = is_key_literal ps
key_rule kind place ps = true

place_by : (k : Kind) (p : Place) (ps : Parts) → not (is_target_place p && boolean_at (codes "optional") (members_of k) ps) ≡ true → key_rule k p ps ≡ true → place_rule p k ps ≡ true
place_by Kind.Literal Place.PropertyKey ps t h = h
place_by Kind.Literal Place.ClassKey ps t h = h
place_by Kind.Literal _ ps t h = t
place_by _ Place.PropertyKey ps t h = t
place_by _ Place.ClassKey ps t h = t
place_by _ _ ps t h = t

key_of : (o : Option Form) (p : Part) (rest : Parts) → is_some o ≡ true → may_be_key o ≡ true → literal_part (option_map value_of o) ≡ p → is_key_literal (more p rest) ≡ true
key_of None p rest there h is = wrong there
key_of (Some f) p rest there h is = subst (λ (z : Part). is_key_literal (more z rest) ≡ true) is (key_good f rest h)

literal_key : (d : Data) (parent : Parent) (ps : Parts) → may_be_key (form_in d) ≡ true → PartsRead d parent (members_of Kind.Literal) ps → is_key_literal ps ≡ true
literal_key d parent end h read = absurd read
literal_key d parent (more p rest) h read = key_of (form_in d) p rest read.0.good h read.0.is

keyed : (spot : Spot) (d : Data) (parent : Parent) (k : Kind) (ps : Parts) → may_stand spot d k ≡ true → PartsRead d parent (members_of k) ps → key_rule k spot.place ps ≡ true
keyed spot d parent Kind.Literal ps h read = by_place spot.place (right_of (stands_in spot.place Kind.Literal) _ h) where
  by_place : (p : Place) → may_be_literal p d ≡ true → key_rule Kind.Literal p ps ≡ true
  by_place Place.PropertyKey g = literal_key d parent ps g read
  by_place Place.ClassKey g = literal_key d parent ps g read
  by_place _ g = refl
keyed spot d parent _ ps h read = refl

place_ruled : (spot : Spot) (d : Data) (parent : Parent) (k : Kind) (ps : Parts) → may_stand spot d k ≡ true → PartsRead d parent (members_of k) ps → place_rule spot.place k ps ≡ true
place_ruled spot d parent k ps h read =
    place_by k spot.place ps
    (ap (λ b. not (is_target_place spot.place && b)) (boolean_read (codes "optional") d parent (members_of k) ps read) ∙ not_target spot d k h)
    (keyed spot d parent k ps h read)

-- ---- kinds

some_same : (o : Option Items) (a b : Items) → o ≡ Some a → o ≡ Some b → a ≡ b
some_same o a b e f = cc

counted : (d : Data) (quasis expressions : Parts) → ListRead d (codes "quasis") quasis → ListRead d (codes "expressions") expressions → counts_agree Kind.TemplateLiteral d ≡ true → nat_eq (item_count quasis) (item_count expressions + 1) ≡ true
counted d quasis expressions q e h =
    sym (ap₂ (λ m n. nat_eq m (n + 1)) q.count e.count)
    ∙ sym (ap₂ (λ a b. is_one_more (option_and_then (λ ds. Some (data_count ds)) a) (option_and_then (λ ds. Some (data_count ds)) b)) q.there e.there)
    ∙ h

simple_node : (t : Tree) → conforms Place.SimpleAssignmentTarget t ≡ true → stands_in Place.SimpleAssignmentTarget (kind_in_tree t) ≡ true
simple_node (Node k id span semantic_id ps) h = left_of _ _ h

simple_child : (left : Part) → ((t : Tree) → left ≡ child t → conforms Place.SimpleAssignmentTarget t ≡ true) → not (is_pattern_child left) ≡ true
simple_child (child (Node Kind.ObjectAssignmentTarget id span semantic_id ps)) h = let t : Tree = Node Kind.ObjectAssignmentTarget id span semantic_id ps in wrong (simple_node t (h t refl))
simple_child (child (Node Kind.ArrayAssignmentTarget id span semantic_id ps)) h = let t : Tree = Node Kind.ArrayAssignmentTarget id span semantic_id ps in wrong (simple_node t (h t refl))
simple_child _ h = refl

assign_by : (b : Bool) (o : Option (List ℕ)) (op : List ℕ) (left : Part) → is_this (codes "=") o ≡ b → nullable_string (option_map chars o) ≡ string op → ((t : Tree) → left ≡ child t → conforms (target_place b) t ≡ true)
    → (bytes_eq op (codes "=") || not (is_pattern_child left)) ≡ true
assign_by true None op left is e h = wrong is
assign_by true (Some s) op left is e h =
    let same : chars s ≡ op = cc in
    or_left _ _ (subst (λ (z : List ℕ). bytes_eq z (codes "=") ≡ true) same (assigned s is))
assign_by false o op left is e h = or_right _ _ (simple_child left h)

left_child : (spot : Spot) (d : Data) (left : Part) → PartRead d (parent_of Kind.AssignmentExpression spot d) (codes "left") (Sort.Child Place.AssignmentTarget) left
    → (t : Tree) → left ≡ child t → conforms (target_place (is_string_at (codes "operator") (codes "=") d)) t ≡ true
left_child spot d (child u) h t e =
    let same : u ≡ t = cc in
    subst (λ (z : Tree). conforms (target_place (is_string_at (codes "operator") (codes "=") d)) z ≡ true) same (ap (λ p. conforms p u) (by_target (is_string_at (codes "operator") (codes "=") d)) ∙ h.conforming)
left_child spot d _ h t e = absurd h

-- whether a node stands at the part
abbrev there : Part → Bool
there absent = false
there p = true

source_there : (d : Data) (parent : Parent) (p : Part) → PartRead d parent (codes "source") (Sort.Nullable Place.Literal) p → there p ≡ is_there (get (codes "source") d)
source_there d parent (child t) h = sym h.1
source_there d parent absent h = sym h
source_there d parent _ h = absurd h

specifier_ruled : (t : Tree) (source : Part) (sourced : Bool) → specifier_fits sourced t ≡ true → there source ≡ sourced → local_rule (child t) source ≡ true
specifier_ruled (Node Kind.ExportSpecifier id span semantic_id (more (child (Node Kind.IdentifierReference i s m ps)) rest)) absent sourced h e = refl
specifier_ruled (Node Kind.ExportSpecifier id span semantic_id (more (child (Node Kind.IdentifierReference i s m ps)) rest)) _ sourced h e = wrong (ap not e ∙ h)
specifier_ruled (Node Kind.ExportSpecifier id span semantic_id (more (child (Node Kind.IdentifierName i s m ps)) rest)) absent sourced h e = e ∙ h
specifier_ruled _ _ sourced h e = refl

part_ruled : (p source : Part) (sourced : Bool) → specifier_in sourced p ≡ true → there source ≡ sourced → local_rule p source ≡ true
part_ruled (child t) source sourced h e = specifier_ruled t source sourced h e
part_ruled _ source sourced h e = refl

locals_ruled : (ps : Parts) (source : Part) (sourced : Bool) → specifiers_fit sourced ps ≡ true → there source ≡ sourced → local_rules ps source ≡ true
locals_ruled end source sourced h e = refl
locals_ruled (more p ps) source sourced h e = both _ _ (part_ruled p source sourced (left_of _ _ h) e) (locals_ruled ps source sourced (right_of (specifier_in sourced p) _ h) e)

kind_ruled : (spot : Spot) (d : Data) (k : Kind) (ps : Parts) → PartsRead d (parent_of k spot d) (members_of k) ps → counts_agree k d ≡ true → kind_rule k ps ≡ true
kind_ruled spot d Kind.TemplateLiteral (more (list quasis) (more (list expressions) end)) h c = counted d quasis expressions h.0.1 h.1.0.1 c
kind_ruled spot d Kind.AssignmentExpression (more (string operator) (more left rest)) h c =
    assign_by (is_string_at (codes "operator") (codes "=") d) (string_at (codes "operator") d) operator left refl h.0.is (left_child spot d left h.1.0)
kind_ruled spot d Kind.ExportNamedDeclaration (more declaration (more (list specifiers) (more source end))) h c =
    locals_ruled specifiers source (is_there (get (codes "source") d)) h.1.0.0.specifiers (source_there d (parent_of Kind.ExportNamedDeclaration spot d) source h.1.1.0)
kind_ruled spot d _ _ h c = refl

-- ---- a node

computed_key : (d : Data) (k : Kind) → has_key (members_of k) ≡ true → reads_true (codes "computed") (members_of k) d ≡ is_true_at (codes "computed") d
computed_key d Kind.MethodDefinition h = or_false _
computed_key d Kind.PropertyDefinition h = or_false _
computed_key d Kind.Property h = or_false _
computed_key d Kind.MemberExpression h = or_false _
computed_key d Kind.BindingProperty h = or_false _
computed_key d Kind.AssignmentTargetProperty h = or_false _
computed_key d _ h = wrong h

types_named : (d : Data) (name : List ℕ) (k : Kind) → string_at (codes "type") d ≡ Some name → is_named name k ≡ true → types_good d (members_of k) ≡ true
types_named d name Kind.Foreign is h = both _ true (ap (λ o. is_foreign_string (option_map chars o)) is ∙ h) refl
types_named d name _ is h = refl

rest_asks : (spot : Spot) (d : Data) (k : Kind) (id : ℕ) (span : Option (ℕ × ℕ)) (ps : Parts) → may_stand spot d k ≡ true → is_rest (child (Node k id span None ps)) ≡ true → spot.last ≡ true
rest_asks spot d Kind.RestElement id span ps h r = right_of (stands_in spot.place Kind.RestElement) _ h
rest_asks spot d Kind.AssignmentTargetRest id span ps h r = right_of (stands_in spot.place Kind.AssignmentTargetRest) _ h
rest_asks spot d _ id span ps h r = wrong r

local_asks : (spot : Spot) (d : Data) (k : Kind) → may_stand spot d k ≡ true → local_fits k spot.place spot.sourced ≡ true
local_asks spot d Kind.IdentifierReference h = right_of (stands_in spot.place Kind.IdentifierReference) _ h
local_asks spot d Kind.IdentifierName h = right_of (stands_in spot.place Kind.IdentifierName) _ h
local_asks spot d _ h = refl

specifier_asks : (spot : Spot) (d : Data) (k : Kind) (id : ℕ) (span : Option (ℕ × ℕ)) (ps : Parts) → PartsRead d (parent_of k spot d) (members_of k) ps → specifier_fits spot.sourced (Node k id span None ps) ≡ true
specifier_asks spot d Kind.ExportSpecifier id span (more (child t) rest) h = h.0.local_name
specifier_asks spot d _ id span _ h = refl

pub node_stands : (spot : Spot) (d : Data) (k : Kind) (id : ℕ) (span : Option (ℕ × ℕ)) (ps : Parts) → IsChosen spot d k → are_good k d ≡ true → PartsRead d (parent_of k spot d) (members_of k) ps → NodeStands spot (Node k id span None ps)
node_stands spot d k id span ps is good read =
    let computed : has_key (members_of k) ≡ true → boolean_at (codes "computed") (members_of k) ps ≡ is_true_at (codes "computed") d
    = λ h. boolean_read (codes "computed") d (parent_of k spot d) (members_of k) ps read ∙ computed_key d k h in
    record {
      conforming = both _ _ (left_of _ _ is.stands)
          (both _ _ (place_ruled spot d (parent_of k spot d) k ps is.stands read)
          (both _ _ (kind_ruled spot d k ps read (right_of (are_of_sorts d (members_of k)) _ good))
          (good_parts (boolean_at (codes "computed") (members_of k) ps) d (parent_of k spot d) (members_of k) ps read computed (types_named d is.name k is.typed is.named))));
      rest_last = rest_asks spot d k id span ps is.stands;
      local_name = local_asks spot d k is.stands;
      specifier = specifier_asks spot d k id span ps read;
    }
