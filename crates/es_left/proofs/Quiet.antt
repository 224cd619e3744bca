-- Where fields and private members are lowered and none are left, a program of the grammar has no private member at all.
use Rattle.std.proofs.Common.{◌≡◌, refl, sym, ◌∙◌, List, [], ◌∷◌, ◌++◌, Bool, true, false}
use Rattle.std.specs.Prelude.{not, ◌&&◌, ◌||◌}
use Rattle.std.proofs.lemmas.Bool.{and_parts, true≢false}
use Rattle.es_base.specs.Conforms.{conforms, parts_conform, part_conforms, items_conform, item_conforms, place_rule, kind_rule, key_place, is_rest, is_end}
use Rattle.es_base.specs.Preorder.{preorder, preorder_of, preorder_of_part}
use Rattle.es_base.specs.Table.{Field, members_of, stands_in}
use Rattle.es_base.specs.Tree.{Tree, Part, Parts, Node, end, more, child, absent, list, string, no_string, boolean, literal}
use Rattle.es_base.specs.declared.kind.Kind.{Kind}
use Rattle.es_base.specs.declared.table.Place.{Place}
use Rattle.es_base.specs.declared.table.Sort.{Sort}
use Rattle.es_left.proofs.Booleans.{both}
use Rattle.es_steps.specs.LoweredClasses.{is_lowered_kind, kind_of, none_lowered}
use Rattle.es_steps.specs.Options.{lowers_fields}
use Rattle.es_steps.specs.Shapes.{is_private_field}
use Rattle.es_steps.specs.declared.options.Options.{Options}
use Rattle.es_left.proofs.Unlowered.{none-first, none-second, none-kind, none-below}

abbrev pub no_privates : List Tree → Bool
no_privates [] = true
no_privates (t ∷ ts) = not (is_private_field (kind_of t)) && no_privates ts

no_false : {A : Type 0} → false ≡ true → A
no_false e = absurd (true≢false (sym e))

pub quiet-append : (ts us : List Tree) → no_privates ts ≡ true → no_privates us ≡ true → no_privates (ts ++ us) ≡ true
quiet-append [] us h i = i
quiet-append (t ∷ ts) us h i =
    let parts = and_parts (not (is_private_field (kind_of t))) (no_privates ts) h in
    both parts.0 (quiet-append ts us parts.1 i)

pub quiet-first : (ts us : List Tree) → no_privates (ts ++ us) ≡ true → no_privates ts ≡ true
quiet-first [] us h = refl
quiet-first (t ∷ ts) us h =
    let parts = and_parts (not (is_private_field (kind_of t))) (no_privates (ts ++ us)) h in
    both parts.0 (quiet-first ts us parts.1)

pub quiet-second : (ts us : List Tree) → no_privates (ts ++ us) ≡ true → no_privates us ≡ true
quiet-second [] us h = h
quiet-second (t ∷ ts) us h = quiet-second ts us (and_parts (not (is_private_field (kind_of t))) (no_privates (ts ++ us)) h).1

-- a node that may stand where a part of this sort does
record Fits (t : Tree) : Type 0 where
  place : Place
  fits : conforms place t ≡ true

child-fits : (computed : Bool) (sort : Sort) (t : Tree) → part_conforms computed sort (child t) ≡ true → Fits t
child-fits computed (Sort.Child place) t h = record { place = place; fits = h }
child-fits computed (Sort.Nullable place) t h = record { place = place; fits = h }
child-fits computed (Sort.Key place) t h = record { place = key_place computed place; fits = h }
child-fits computed sort t h = no_false h

record ListFits (ps : Parts) : Type 0 where
  holes : Bool
  place : Place
  fits : items_conform holes place ps ≡ true

list-fits : (computed : Bool) (sort : Sort) (ps : Parts) → part_conforms computed sort (list ps) ≡ true → ListFits ps
list-fits computed (Sort.List place) ps h = record { holes = false; place = place; fits = h }
list-fits computed (Sort.NonEmptyList place) ps h = record { holes = false; place = place; fits = (and_parts (not (is_end ps)) (items_conform false place ps) h).1 }
list-fits computed (Sort.ListWithHoles place) ps h = record { holes = true; place = place; fits = h }
list-fits computed sort ps h = no_false h

-- what stands as a private identifier is one
private-kind : (o : Options) (kind : Kind) → lowers_fields o ≡ true → stands_in Place.PrivateIdentifier kind ≡ true → is_lowered_kind o kind ≡ true
private-kind o Kind.PrivateIdentifier f h = f
private-kind o kind f h = no_false h

module _ (o : Options) (fields : lowers_fields o ≡ true) where
  name-stands : (computed : Bool) (p : Part) (ts : List Tree) → part_conforms computed (Sort.Child Place.PrivateIdentifier) p ≡ true → none_lowered o (preorder_of_part p ++ ts) ≡ true → false ≡ true
  name-stands computed (child (Node kind m span semantic_id ps)) ts h none =
      let lowered : is_lowered_kind o kind ≡ true = private-kind o kind fields (and_parts (stands_in Place.PrivateIdentifier kind) _ h).0 in
      sym (none-kind o (Node kind m span semantic_id ps) (preorder_of ps ++ ts) none) ∙ lowered
  name-stands computed absent ts h none = h
  name-stands computed (list ps) ts h none = h
  name-stands computed (string s) ts h none = h
  name-stands computed no_string ts h none = h
  name-stands computed (boolean b) ts h none = h
  name-stands computed (literal v) ts h none = h

  -- so a private member has a private name, which would be left
  member-stands : (computed : Bool) (ps : Parts) → parts_conform computed (members_of Kind.PrivateField) ps ≡ true → none_lowered o (preorder_of ps) ≡ true → false ≡ true
  member-stands computed end h none = h
  member-stands computed (more p end) h none = (and_parts (part_conforms computed (Sort.Child Place.ExpressionOrSuper) p) false h).1
  member-stands computed (more p (more r ps)) h none =
      let rest = (and_parts (part_conforms computed (Sort.Child Place.ExpressionOrSuper) p) _ h).1 in
      name-stands computed r (preorder_of ps) (and_parts (part_conforms computed (Sort.Child Place.PrivateIdentifier) r) _ rest).0 (none-second o (preorder_of_part p) (preorder_of_part r ++ preorder_of ps) none)

  kind-quiet : (kind : Kind) (computed : Bool) (ps : Parts) → parts_conform computed (members_of kind) ps ≡ true → none_lowered o (preorder_of ps) ≡ true → is_private_field kind ≡ false
  kind-quiet Kind.PrivateField computed ps h none = no_false (member-stands computed ps h none)
  kind-quiet kind computed ps h none = refl

  mutual
    tree-quiet : (place : Place) (t : Tree) → conforms place t ≡ true → none_lowered o (preorder t) ≡ true → no_privates (preorder t) ≡ true
    tree-quiet place (Node kind m span semantic_id ps) h none =
        let below : none_lowered o (preorder_of ps) ≡ true = none-below o (Node kind m span semantic_id ps) (preorder_of ps) none in
        let of_kind = (and_parts (place_rule place kind ps) _ (and_parts (stands_in place kind) _ h).1).1 in
        let parts = (and_parts (kind_rule kind ps) _ of_kind).1 in
        rw (kind-quiet kind _ ps parts below) (parts-quiet _ (members_of kind) ps parts below)

    parts-quiet : (computed : Bool) (fs : List Field) (ps : Parts) → parts_conform computed fs ps ≡ true → none_lowered o (preorder_of ps) ≡ true → no_privates (preorder_of ps) ≡ true
    parts-quiet computed fs end h none = refl
    parts-quiet computed [] (more p ps) h none = no_false h
    parts-quiet computed (f ∷ fs) (more p ps) h none =
        let parts = and_parts (part_conforms computed f.sort p) (parts_conform computed fs ps) h in
        quiet-append (preorder_of_part p) (preorder_of ps) (part-quiet computed f.sort p parts.0 (none-first o (preorder_of_part p) (preorder_of ps) none)) (parts-quiet computed fs ps parts.1 (none-second o (preorder_of_part p) (preorder_of ps) none))

    part-quiet : (computed : Bool) (sort : Sort) (p : Part) → part_conforms computed sort p ≡ true → none_lowered o (preorder_of_part p) ≡ true → no_privates (preorder_of_part p) ≡ true
    part-quiet computed sort (child t) h none = tree-quiet (child-fits computed sort t h).place t (child-fits computed sort t h).fits none
    part-quiet computed sort absent h none = refl
    part-quiet computed sort (list ps) h none = items-quiet (list-fits computed sort ps h).holes (list-fits computed sort ps h).place ps (list-fits computed sort ps h).fits none
    part-quiet computed sort (string s) h none = refl
    part-quiet computed sort no_string h none = refl
    part-quiet computed sort (boolean b) h none = refl
    part-quiet computed sort (literal v) h none = refl

    items-quiet : (holes : Bool) (place : Place) (ps : Parts) → items_conform holes place ps ≡ true → none_lowered o (preorder_of ps) ≡ true → no_privates (preorder_of ps) ≡ true
    items-quiet holes place end h none = refl
    items-quiet holes place (more p ps) h none =
        let first = and_parts (item_conforms holes place p) _ h in
        let rest = (and_parts (not (is_rest p) || is_end ps) (items_conform holes place ps) first.1).1 in
        quiet-append (preorder_of_part p) (preorder_of ps) (item-quiet holes place p first.0 (none-first o (preorder_of_part p) (preorder_of ps) none)) (items-quiet holes place ps rest (none-second o (preorder_of_part p) (preorder_of ps) none))

    item-quiet : (holes : Bool) (place : Place) (p : Part) → item_conforms holes place p ≡ true → none_lowered o (preorder_of_part p) ≡ true → no_privates (preorder_of_part p) ≡ true
    item-quiet holes place (child t) h none = tree-quiet place t h none
    item-quiet holes place absent h none = refl
    item-quiet holes place (list ps) h none = no_false h
    item-quiet holes place (string s) h none = refl
    item-quiet holes place no_string h none = refl
    item-quiet holes place (boolean b) h none = refl
    item-quiet holes place (literal v) h none = refl

pub program-quiet : (o : Options) (t : Tree) → lowers_fields o ≡ true → conforms Place.Program t ≡ true → none_lowered o (preorder t) ≡ true → no_privates (preorder t) ≡ true
program-quiet o t fields h none = tree-quiet o fields Place.Program t h none
