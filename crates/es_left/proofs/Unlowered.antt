-- In a program that holds nothing that the options lower no class is lowered.
use Rattle.std.proofs.Common.{◌≡◌, refl, ℕ, zero, suc, List, [], ◌∷◌, ◌++◌, Bool, true, false}
use Rattle.std.specs.Prelude.{not, ◌||◌, ◌&&◌}
use Rattle.std.proofs.lemmas.Bool.{and_parts, not-true}
use Rattle.std.proofs.Math.Bool.{and-false}
use Rattle.es_base.specs.Preorder.{preorder, preorder_of, preorder_of_part}
use Rattle.es_base.specs.Tree.{Tree, Part, Parts, Node, end, more, child, absent, list, string, no_string, boolean, literal}
use Rattle.es_base.specs.declared.kind.Kind.{Kind}
use Rattle.es_left.proofs.Booleans.{both}
use Rattle.es_steps.specs.LoweredClasses.{Element, element_of, elements_in, body_elements, is_private_key, is_lowered_element, any_element, is_lowered_class, holds_lowered, has_lowered_class, is_lowered_kind, kind_of, none_lowered, nothing_left}
use Rattle.es_steps.specs.Options.{lowers_fields, lowers_blocks, no_options}
use Rattle.es_steps.specs.Parts.{at, items}
use Rattle.es_steps.specs.PrivateNames.{is_class}
use Rattle.es_steps.specs.declared.options.Options.{Options}

neither : (a : Bool) {b c : Bool} → (a || b) ≡ false → (b ≡ false → c ≡ false) → (a || c) ≡ false
neither true h f = h
neither false h f = f h

module _ (o : Options) where
  -- ---- nothing that is lowered stands in what stands in a tree

  pub none-first : (ts us : List Tree) → none_lowered o (ts ++ us) ≡ true → none_lowered o ts ≡ true
  none-first [] us h = refl
  none-first (t ∷ ts) us h =
      let parts = and_parts (not (is_lowered_kind o (kind_of t))) (none_lowered o (ts ++ us)) h in
      both parts.0 (none-first ts us parts.1)

  pub none-second : (ts us : List Tree) → none_lowered o (ts ++ us) ≡ true → none_lowered o us ≡ true
  none-second [] us h = h
  none-second (t ∷ ts) us h = none-second ts us (and_parts (not (is_lowered_kind o (kind_of t))) (none_lowered o (ts ++ us)) h).1

  pub none-at : (i : ℕ) (ps : Parts) → none_lowered o (preorder_of ps) ≡ true → none_lowered o (preorder_of_part (at i ps)) ≡ true
  none-at i end h = refl
  none-at zero (more p ps) h = none-first (preorder_of_part p) (preorder_of ps) h
  none-at (suc i) (more p ps) h = none-at i ps (none-second (preorder_of_part p) (preorder_of ps) h)

  pub none-items : (p : Part) → none_lowered o (preorder_of_part p) ≡ true → none_lowered o (preorder_of (items p)) ≡ true
  none-items (list ps) h = h
  none-items p h = refl

  -- the kind of a node that stands
  pub none-kind : (t : Tree) (ts : List Tree) → none_lowered o (t ∷ ts) ≡ true → is_lowered_kind o (kind_of t) ≡ false
  none-kind t ts h = not-true (is_lowered_kind o (kind_of t)) (and_parts (not (is_lowered_kind o (kind_of t))) (none_lowered o ts) h).0

  pub none-below : (t : Tree) (ts : List Tree) → none_lowered o (t ∷ ts) ≡ true → none_lowered o ts ≡ true
  none-below t ts h = (and_parts (not (is_lowered_kind o (kind_of t))) (none_lowered o ts) h).1

  -- ---- so no element is lowered

  private_key-unlowered : (p : Part) → none_lowered o (preorder_of_part p) ≡ true → (lowers_fields o && is_private_key p) ≡ false
  private_key-unlowered (child (Node Kind.PrivateIdentifier m span semantic_id ps)) h = rw (none-kind (Node Kind.PrivateIdentifier m span semantic_id ps) (preorder_of ps) h) refl
  private_key-unlowered p h = and-false (lowers_fields o)

  element-unlowered : (p : Part) → none_lowered o (preorder_of_part p) ≡ true → any_element (is_lowered_element o) (element_of p) ≡ false
  element-unlowered (child (Node Kind.PropertyDefinition m span semantic_id ps)) h =
      rw (none-kind (Node Kind.PropertyDefinition m span semantic_id ps) (preorder_of ps) h, and-false (lowers_blocks o)) refl
  element-unlowered (child (Node Kind.MethodDefinition m span semantic_id ps)) h =
      rw (private_key-unlowered (at 0 ps) (none-at 0 ps (none-below (Node Kind.MethodDefinition m span semantic_id ps) (preorder_of ps) h)), and-false (lowers_blocks o)) refl
  element-unlowered (child (Node Kind.StaticBlock m span semantic_id ps)) h =
      rw (none-kind (Node Kind.StaticBlock m span semantic_id ps) (preorder_of ps) h, and-false (lowers_fields o)) refl
  element-unlowered p h = refl

  any-append : (es fs : List Element) → any_element (is_lowered_element o) es ≡ false → any_element (is_lowered_element o) fs ≡ false → any_element (is_lowered_element o) (es ++ fs) ≡ false
  any-append [] fs h i = i
  any-append (e ∷ es) fs h i = neither (is_lowered_element o e) h (λ k. any-append es fs k i)

  elements_in-unlowered : (ps : Parts) → none_lowered o (preorder_of ps) ≡ true → any_element (is_lowered_element o) (elements_in ps) ≡ false
  elements_in-unlowered end h = refl
  elements_in-unlowered (more p ps) h =
      any-append (element_of p) (elements_in ps) (element-unlowered p (none-first (preorder_of_part p) (preorder_of ps) h)) (elements_in-unlowered ps (none-second (preorder_of_part p) (preorder_of ps) h))

  body-unlowered : (p : Part) → none_lowered o (preorder_of_part p) ≡ true → any_element (is_lowered_element o) (body_elements p) ≡ false
  body-unlowered (child (Node Kind.ClassBody m span semantic_id ps)) h =
      elements_in-unlowered (items (at 0 ps)) (none-items (at 0 ps) (none-at 0 ps (none-below (Node Kind.ClassBody m span semantic_id ps) (preorder_of ps) h)))
  body-unlowered p h = refl

  -- ---- and no class

  holds-append : (ts us : List Tree) → holds_lowered o ts ≡ false → holds_lowered o us ≡ false → holds_lowered o (ts ++ us) ≡ false
  holds-append [] us h i = i
  holds-append (Node kind m span semantic_id ps ∷ ts) us h i = neither (is_lowered_class o kind ps) h (λ k. holds-append ts us k i)

  mutual
    tree-unlowered : (t : Tree) → none_lowered o (preorder t) ≡ true → holds_lowered o (preorder t) ≡ false
    tree-unlowered (Node kind m span semantic_id ps) h =
        let below : none_lowered o (preorder_of ps) ≡ true = none-below (Node kind m span semantic_id ps) (preorder_of ps) h in
        rw (body-unlowered (at 2 ps) (none-at 2 ps below), and-false (is_class kind)) (parts-unlowered ps below)

    part-unlowered : (p : Part) → none_lowered o (preorder_of_part p) ≡ true → holds_lowered o (preorder_of_part p) ≡ false
    part-unlowered (child t) h = tree-unlowered t h
    part-unlowered absent h = refl
    part-unlowered (list ps) h = parts-unlowered ps h
    part-unlowered (string s) h = refl
    part-unlowered no_string h = refl
    part-unlowered (boolean b) h = refl
    part-unlowered (literal v) h = refl

    parts-unlowered : (ps : Parts) → none_lowered o (preorder_of ps) ≡ true → holds_lowered o (preorder_of ps) ≡ false
    parts-unlowered end h = refl
    parts-unlowered (more p ps) h =
        holds-append (preorder_of_part p) (preorder_of ps) (part-unlowered p (none-first (preorder_of_part p) (preorder_of ps) h)) (parts-unlowered ps (none-second (preorder_of_part p) (preorder_of ps) h))

pub no_lowered_class : (o : Options) (t : Tree) → nothing_left o t ≡ true → has_lowered_class o t ≡ false
no_lowered_class o t h = tree-unlowered o t h

-- where nothing is asked, nothing is to be lowered
not_asked : (kind : Kind) → is_lowered_kind no_options kind ≡ false
not_asked Kind.PropertyDefinition = refl
not_asked Kind.PrivateIdentifier = refl
not_asked Kind.PrivateIn = refl
not_asked Kind.StaticBlock = refl
not_asked kind = refl

none_asked : (ts : List Tree) → none_lowered no_options ts ≡ true
none_asked [] = refl
none_asked (t ∷ ts) = rw (not_asked (kind_of t)) (none_asked ts)

pub nothing_asked : (t : Tree) → nothing_left no_options t ≡ true
nothing_asked t = none_asked (preorder t)
