-- A program of the grammar that has nothing to lower has no shape, where static blocks are not lowered.
use Rattle.std.proofs.Common.{◌≡◌, refl, sym, ◌∙◌, Option, ℕ, zero, suc, List, [], ◌∷◌, ◌++◌, Bool, true, false, cond}
use Rattle.std.specs.Prelude.{not, ◌&&◌, ◌||◌, nat_eq, codes, bytes_eq}
use Rattle.std.proofs.lemmas.Bool.{and_parts, not-true, true≢false}
use Rattle.std.proofs.Math.Bool.{and-false}
use Rattle.es_base.specs.Conforms.{conforms}
use Rattle.es_base.specs.Preorder.{preorder, preorder_of, preorder_of_part}
use Rattle.es_base.specs.Tree.{Tree, Part, Parts, Node, end, more, child, absent, list, string, no_string, boolean, literal}
use Rattle.es_base.specs.declared.kind.Kind.{Kind}
use Rattle.es_base.specs.declared.shape.Shape.{Shape}
use Rattle.es_base.specs.declared.table.Place.{Place}
use Rattle.es_left.proofs.Booleans.{none_of}
use Rattle.es_steps.specs.Expressions.{is_logical}
use Rattle.es_steps.specs.LoweredClasses.{is_private_key, is_lowered_class, holds_lowered, is_lowered_kind, kind_of, none_lowered, nothing_left}
use Rattle.es_steps.specs.Options.{lowers_fields, lowers_blocks, keeps_privates_as_properties}
use Rattle.es_steps.specs.Parts.{at, items, string_of}
use Rattle.es_steps.specs.PrivateNames.{PrivateMember, seen_members}
use Rattle.es_steps.specs.References.{Reference, resolve, varying}
use Rattle.es_steps.specs.Quiet.{Around, nothing_around, inside}
use Rattle.es_steps.specs.Shapes.{lowered_classes, shapes, moves_heritage, moves_heritage_in, moves_heritage_at, moves_heritage_of, has_shape_1, private_object, part_if, read_twice, any_written, moved_in, is_private_function, reads_twice, reads_twice_in, reads_twice_at, reads_twice_of, is_unwritable_target, any_unwritable, holds_unwritable, has_unwritable, unwritable_in, unwritable_part, unwritable_items, refers_to, writes_any, suspended_names, is_private_field, is_optional, is_spine, private_behind, private_behind_first, private_behind_part, private_chains, has_shape_4, has_shape_5, has_shape_6, has_shape_8, if_has}
use Rattle.es_steps.specs.Values.{Referent, Bound, Free}
use Rattle.es_steps.specs.declared.options.Options.{Options}
use Rattle.es_left.proofs.Quiet.{no_privates, quiet-first, quiet-second, program-quiet}
use Rattle.es_left.proofs.Unlowered.{none-first, none-second, none-kind, none-below, none-at, no_lowered_class}

-- ---- no class is lowered, and none becomes a `let`

classes-none : (o : Options) (ts : List Tree) → holds_lowered o ts ≡ false → lowered_classes o ts ≡ []
classes-none o [] h = refl
classes-none o (Node kind n span semantic_id ps ∷ ts) h =
    let parts = none_of (is_lowered_class o kind ps) (holds_lowered o ts) h in
    rw parts.0 (classes-none o ts parts.1)

suspended-none : (o : Options) (ts : List Tree) → lowers_blocks o ≡ false → suspended_names o ts ≡ []
suspended-none o [] b = refl
suspended-none o (Node kind m span semantic_id ps ∷ ts) b = rw (b, and-false (not (lowers_fields o))) (suspended-none o ts b)

writes-none : (rs : List Reference) → writes_any [] rs ≡ false
writes-none [] = refl
writes-none (r ∷ rs) = rw (refers-none r.to, and-false r.writes) (writes-none rs)
  where
    refers-none : (r : Referent) → refers_to [] r ≡ false
    refers-none (Bound b) = refl
    refers-none (Free s) = refl

-- ---- where no private member stands

quiet-at : (i : ℕ) (ps : Parts) → no_privates (preorder_of ps) ≡ true → no_privates (preorder_of_part (at i ps)) ≡ true
quiet-at i end h = refl
quiet-at zero (more p ps) h = quiet-first (preorder_of_part p) (preorder_of ps) h
quiet-at (suc i) (more p ps) h = quiet-at i ps (quiet-second (preorder_of_part p) (preorder_of ps) h)

quiet-items : (p : Part) → no_privates (preorder_of_part p) ≡ true → no_privates (preorder_of (items p)) ≡ true
quiet-items (list ps) h = h
quiet-items p h = refl

quiet-below : (t : Tree) (ts : List Tree) → no_privates (t ∷ ts) ≡ true → no_privates ts ≡ true
quiet-below t ts h = (and_parts (not (is_private_field (kind_of t))) (no_privates ts) h).1

quiet-kind : (t : Tree) (ts : List Tree) → no_privates (t ∷ ts) ≡ true → is_private_field (kind_of t) ≡ false
quiet-kind t ts h = not-true (is_private_field (kind_of t)) (and_parts (not (is_private_field (kind_of t))) (no_privates ts) h).0

no_true : {A : Type 0} → true ≡ false → A
no_true e = absurd (true≢false e)

object-none : (p : Part) → no_privates (preorder_of_part p) ≡ true → private_object p ≡ absent
object-none (child (Node Kind.PrivateField m span semantic_id ps)) h = no_true (quiet-kind (Node Kind.PrivateField m span semantic_id ps) (preorder_of ps) h)
object-none p h = refl

target-none : (seen : List PrivateMember) (p : Part) → no_privates (preorder_of_part p) ≡ true → is_unwritable_target seen p ≡ false
target-none seen (child (Node Kind.PrivateField m span semantic_id ps)) h = no_true (quiet-kind (Node Kind.PrivateField m span semantic_id ps) (preorder_of ps) h)
target-none seen p h = refl

targets-none : (seen : List PrivateMember) (ps : Parts) → no_privates (preorder_of ps) ≡ true → any_unwritable seen ps ≡ false
targets-none seen end h = refl
targets-none seen (more p ps) h =
    rw (target-none seen p (quiet-first (preorder_of_part p) (preorder_of ps) h)) (targets-none seen ps (quiet-second (preorder_of_part p) (preorder_of ps) h))

-- no target of a pattern cannot be written
holds-none : (seen : List PrivateMember) (kind : Kind) (ps : Parts) → no_privates (preorder_of ps) ≡ true → holds_unwritable seen kind ps ≡ false
holds-none seen Kind.ArrayAssignmentTarget ps h = targets-none seen (items (at 0 ps)) (quiet-items (at 0 ps) (quiet-at 0 ps h))
holds-none seen Kind.AssignmentTargetProperty ps h = target-none seen (at 1 ps) (quiet-at 1 ps h)
holds-none seen Kind.AssignmentTargetWithDefault ps h = target-none seen (at 0 ps) (quiet-at 0 ps h)
holds-none seen Kind.AssignmentTargetRest ps h = target-none seen (at 0 ps) (quiet-at 0 ps h)
holds-none seen Kind.ForInStatement ps h = target-none seen (at 0 ps) (quiet-at 0 ps h)
holds-none seen Kind.ForOfStatement ps h = target-none seen (at 0 ps) (quiet-at 0 ps h)
holds-none seen kind ps h = refl

mutual
  unwritable-none : (seen : List PrivateMember) (t : Tree) → no_privates (preorder t) ≡ true → has_unwritable seen t ≡ false
  unwritable-none seen (Node kind m span semantic_id ps) h =
      let below : no_privates (preorder_of ps) ≡ true = quiet-below (Node kind m span semantic_id ps) (preorder_of ps) h in
      rw (holds-none seen kind ps below) (unwritable_in-none (λ i. seen_members kind m ps i ++ seen) ps below)

  unwritable_in-none : (seen : ℕ → List PrivateMember) (ps : Parts) → no_privates (preorder_of ps) ≡ true → unwritable_in seen ps ≡ false
  unwritable_in-none seen end h = refl
  unwritable_in-none seen (more p ps) h =
      rw (unwritable_part-none (seen 0) p (quiet-first (preorder_of_part p) (preorder_of ps) h)) (unwritable_in-none (λ i. seen (suc i)) ps (quiet-second (preorder_of_part p) (preorder_of ps) h))

  unwritable_part-none : (seen : List PrivateMember) (p : Part) → no_privates (preorder_of_part p) ≡ true → unwritable_part seen p ≡ false
  unwritable_part-none seen (child t) h = unwritable-none seen t h
  unwritable_part-none seen absent h = refl
  unwritable_part-none seen (list ps) h = unwritable_items-none seen ps h
  unwritable_part-none seen (string s) h = refl
  unwritable_part-none seen no_string h = refl
  unwritable_part-none seen (boolean b) h = refl
  unwritable_part-none seen (literal v) h = refl

  unwritable_items-none : (seen : List PrivateMember) (ps : Parts) → no_privates (preorder_of ps) ≡ true → unwritable_items seen ps ≡ false
  unwritable_items-none seen end h = refl
  unwritable_items-none seen (more p ps) h =
      rw (unwritable_part-none seen p (quiet-first (preorder_of_part p) (preorder_of ps) h)) (unwritable_items-none seen ps (quiet-second (preorder_of_part p) (preorder_of ps) h))

-- no chain has a private name
optional-none : (kind : Kind) (ps : Parts) → is_private_field kind ≡ false → (is_optional kind ps && (false || is_private_field kind)) ≡ false
optional-none kind ps h = rw h (and-false (is_optional kind ps))

mutual
  behind-none : (t : Tree) → no_privates (preorder t) ≡ true → private_behind false t ≡ false
  behind-none (Node kind m span semantic_id ps) h =
      let field : is_private_field kind ≡ false = quiet-kind (Node kind m span semantic_id ps) (preorder_of ps) h in
      rw (field, behind_first-none ps (quiet-below (Node kind m span semantic_id ps) (preorder_of ps) h), and-false (is_optional kind ps)) (and-false (is_spine kind))

  behind_first-none : (ps : Parts) → no_privates (preorder_of ps) ≡ true → private_behind_first false ps ≡ false
  behind_first-none end h = refl
  behind_first-none (more p ps) h = behind_part-none p (quiet-first (preorder_of_part p) (preorder_of ps) h)

  behind_part-none : (p : Part) → no_privates (preorder_of_part p) ≡ true → private_behind_part false p ≡ false
  behind_part-none (child t) h = behind-none t h
  behind_part-none absent h = refl
  behind_part-none (list ps) h = refl
  behind_part-none (string s) h = refl
  behind_part-none no_string h = refl
  behind_part-none (boolean b) h = refl
  behind_part-none (literal v) h = refl

chains-append : (ts us : List Tree) → private_chains ts ≡ false → private_chains us ≡ false → private_chains (ts ++ us) ≡ false
chains-append [] us h i = i
chains-append (Node Kind.ChainExpression m span semantic_id ps ∷ ts) us h i =
    let parts = none_of (private_behind_part false (at 0 ps)) (private_chains ts) h in
    rw parts.0 (chains-append ts us parts.1 i)
chains-append (t ∷ ts) us h i = chains-append ts us h i

chain-none : (kind : Kind) (m : ℕ) (span : Option (ℕ × ℕ)) (semantic_id : Option ℕ) (ps : Parts) → no_privates (preorder_of ps) ≡ true → private_chains (preorder_of ps) ≡ false → private_chains (Node kind m span semantic_id ps ∷ preorder_of ps) ≡ false
chain-none Kind.ChainExpression m span semantic_id ps h i = rw (behind_part-none (at 0 ps) (quiet-at 0 ps h)) i
chain-none kind m span semantic_id ps h i = i

mutual
  chains-none : (t : Tree) → no_privates (preorder t) ≡ true → private_chains (preorder t) ≡ false
  chains-none (Node kind m span semantic_id ps) h =
      let below : no_privates (preorder_of ps) ≡ true = quiet-below (Node kind m span semantic_id ps) (preorder_of ps) h in
      chain-none kind m span semantic_id ps below (chains_in-none ps below)

  chains_at-none : (p : Part) → no_privates (preorder_of_part p) ≡ true → private_chains (preorder_of_part p) ≡ false
  chains_at-none (child t) h = chains-none t h
  chains_at-none absent h = refl
  chains_at-none (list ps) h = chains_in-none ps h
  chains_at-none (string s) h = refl
  chains_at-none no_string h = refl
  chains_at-none (boolean b) h = refl
  chains_at-none (literal v) h = refl

  chains_in-none : (ps : Parts) → no_privates (preorder_of ps) ≡ true → private_chains (preorder_of ps) ≡ false
  chains_in-none end h = refl
  chains_in-none (more p ps) h =
      chains-append (preorder_of_part p) (preorder_of ps) (chains_at-none p (quiet-first (preorder_of_part p) (preorder_of ps) h)) (chains_in-none ps (quiet-second (preorder_of_part p) (preorder_of ps) h))

-- ---- nothing is read twice, since no code is moved either

written-none : (ws : List ℕ) (rs : List Reference) (b c : Bool) → any_written ws rs (cond b [] (part_if c absent ∷ absent ∷ [])) ≡ false
written-none ws rs true c = refl
written-none ws rs false true = refl
written-none ws rs false false = refl

one-none : (ws : List ℕ) (rs : List Reference) (c : Bool) → any_written ws rs (part_if c absent ∷ []) ≡ false
one-none ws rs true = refl
one-none ws rs false = refl

twice-none : (ws : List ℕ) (rs : List Reference) (loose : Bool) (kind : Kind) (ps : Parts) → is_private_field kind ≡ false → no_privates (preorder_of ps) ≡ true → any_written ws rs (read_twice loose false kind ps) ≡ false
twice-none ws rs loose Kind.AssignmentExpression ps k h = rw (object-none (at 1 ps) (quiet-at 1 ps h)) (written-none ws rs (bytes_eq (string_of (at 0 ps)) (codes "=")) (not loose || is_logical (string_of (at 0 ps))))
twice-none ws rs loose Kind.UpdateExpression ps k h = rw (object-none (at 1 ps) (quiet-at 1 ps h)) (written-none ws rs false (not loose))
twice-none ws rs loose Kind.CallExpression ps k h = rw (object-none (at 0 ps) (quiet-at 0 ps h)) (one-none ws rs (not loose))
twice-none ws rs loose Kind.TaggedTemplateExpression ps k h = rw (object-none (at 0 ps) (quiet-at 0 ps h)) (one-none ws rs (not loose))
twice-none ws rs loose Kind.PrivateField ps k h = no_true k
twice-none ws rs loose kind ps k h = refl

module _ (o : Options) (ws : List ℕ) (rs : List Reference) (fields : lowers_fields o ≡ true) (blocks : lowers_blocks o ≡ false) where
  key-none : (p : Part) → none_lowered o (preorder_of_part p) ≡ true → is_private_key p ≡ false
  key-none (child (Node Kind.PrivateIdentifier m span semantic_id ps)) h = no_true (sym fields ∙ none-kind o (Node Kind.PrivateIdentifier m span semantic_id ps) (preorder_of ps) h)
  key-none p h = refl

  moved-none : (kind : Kind) (ps : Parts) (i : ℕ) → is_lowered_kind o kind ≡ false → moved_in o false false kind ps i ≡ false
  moved-none Kind.FunctionDeclaration ps i h = refl
  moved-none Kind.FunctionExpression ps i h = refl
  moved-none Kind.PropertyDefinition ps i h = no_true (sym fields ∙ h)
  moved-none Kind.StaticBlock ps i h = blocks
  moved-none kind ps i h = refl

  method-none : (kind : Kind) (ps : Parts) (i : ℕ) → none_lowered o (preorder_of ps) ≡ true → is_private_function kind ps i ≡ false
  method-none Kind.MethodDefinition ps i h = rw (key-none (at 0 ps) (none-at o 0 ps h)) (and-false (nat_eq i 1))
  method-none kind ps i h = refl

  mutual
    reads-none : (t : Tree) → none_lowered o (preorder t) ≡ true → no_privates (preorder t) ≡ true → reads_twice o ws rs false false t ≡ false
    reads-none (Node kind m span semantic_id ps) none quiet =
        let below : no_privates (preorder_of ps) ≡ true = quiet-below (Node kind m span semantic_id ps) (preorder_of ps) quiet in
        let left : none_lowered o (preorder_of ps) ≡ true = none-below o (Node kind m span semantic_id ps) (preorder_of ps) none in
        let stays : is_lowered_kind o kind ≡ false = none-kind o (Node kind m span semantic_id ps) (preorder_of ps) none in
        rw (twice-none ws rs (keeps_privates_as_properties o) kind ps (quiet-kind (Node kind m span semantic_id ps) (preorder_of ps) quiet) below)
        (reads_in-none (moved_in o false false kind ps) (is_private_function kind ps) ps (λ i. moved-none kind ps i stays) (λ i. method-none kind ps i left) left below)

    reads_in-none : (moved method : ℕ → Bool) (ps : Parts) → ((i : ℕ) → moved i ≡ false) → ((i : ℕ) → method i ≡ false) → none_lowered o (preorder_of ps) ≡ true → no_privates (preorder_of ps) ≡ true → reads_twice_in o ws rs moved method ps ≡ false
    reads_in-none moved method end a b none quiet = refl
    reads_in-none moved method (more p ps) a b none quiet =
        rw (a 0, b 0, reads_at-none p (none-first o (preorder_of_part p) (preorder_of ps) none) (quiet-first (preorder_of_part p) (preorder_of ps) quiet))
        (reads_in-none (λ i. moved (suc i)) (λ i. method (suc i)) ps (λ i. a (suc i)) (λ i. b (suc i)) (none-second o (preorder_of_part p) (preorder_of ps) none) (quiet-second (preorder_of_part p) (preorder_of ps) quiet))

    reads_at-none : (p : Part) → none_lowered o (preorder_of_part p) ≡ true → no_privates (preorder_of_part p) ≡ true → reads_twice_at o ws rs false false p ≡ false
    reads_at-none (child t) none quiet = reads-none t none quiet
    reads_at-none absent none quiet = refl
    reads_at-none (list ps) none quiet = reads_of-none ps none quiet
    reads_at-none (string s) none quiet = refl
    reads_at-none no_string none quiet = refl
    reads_at-none (boolean b) none quiet = refl
    reads_at-none (literal v) none quiet = refl

    reads_of-none : (ps : Parts) → none_lowered o (preorder_of ps) ≡ true → no_privates (preorder_of ps) ≡ true → reads_twice_of o ws rs false ps ≡ false
    reads_of-none end none quiet = refl
    reads_of-none (more p ps) none quiet =
        rw (reads_at-none p (none-first o (preorder_of_part p) (preorder_of ps) none) (quiet-first (preorder_of_part p) (preorder_of ps) quiet))
        (reads_of-none ps (none-second o (preorder_of_part p) (preorder_of ps) none) (quiet-second (preorder_of_part p) (preorder_of ps) quiet))

-- ---- nothing moves before a heritage, where no class is lowered

holds-both : (o : Options) (ts us : List Tree) → holds_lowered o (ts ++ us) ≡ false → (holds_lowered o ts ≡ false) × (holds_lowered o us ≡ false)
holds-both o [] us h = (refl, h)
holds-both o (Node kind n span semantic_id ps ∷ ts) us h =
    let parts = none_of (is_lowered_class o kind ps) (holds_lowered o (ts ++ us)) h in
    let rest = holds-both o ts us parts.1 in
    (rw parts.0 rest.0, rest.1)

module _ (o : Options) (program : Tree) where
  mutual
    moves-none : (a : Around) (t : Tree) → holds_lowered o (preorder t) ≡ false → moves_heritage o program a t ≡ false
    moves-none a (Node kind m span semantic_id ps) h =
        let parts = none_of (is_lowered_class o kind ps) (holds_lowered o (preorder_of ps)) h in
        rw parts.0 (moves_in-none (inside a kind ps) ps parts.1)

    moves_in-none : (a : ℕ → Around) (ps : Parts) → holds_lowered o (preorder_of ps) ≡ false → moves_heritage_in o program a ps ≡ false
    moves_in-none a end h = refl
    moves_in-none a (more p ps) h =
        let parts = holds-both o (preorder_of_part p) (preorder_of ps) h in
        rw (moves_at-none (a 0) p parts.0) (moves_in-none (λ i. a (suc i)) ps parts.1)

    moves_at-none : (a : Around) (p : Part) → holds_lowered o (preorder_of_part p) ≡ false → moves_heritage_at o program a p ≡ false
    moves_at-none a (child t) h = moves-none a t h
    moves_at-none a absent h = refl
    moves_at-none a (list ps) h = moves_of-none a ps h
    moves_at-none a (string s) h = refl
    moves_at-none a no_string h = refl
    moves_at-none a (boolean b) h = refl
    moves_at-none a (literal v) h = refl

    moves_of-none : (a : Around) (ps : Parts) → holds_lowered o (preorder_of ps) ≡ false → moves_heritage_of o program a ps ≡ false
    moves_of-none a end h = refl
    moves_of-none a (more p ps) h =
        let parts = holds-both o (preorder_of_part p) (preorder_of ps) h in
        rw (moves_at-none a p parts.0) (moves_of-none a ps parts.1)

-- ---- all shapes

or-none : (a b : Bool) → a ≡ false → b ≡ false → (a || b) ≡ false
or-none a b h i = rw (h, i) refl

asked-none : (a b : Bool) → (a ≡ true → b ≡ false) → (a && b) ≡ false
asked-none true b h = h refl
asked-none false b h = refl

none-if : (a b c d e : Bool) (s t u v w : Shape) → a ≡ false → b ≡ false → c ≡ false → d ≡ false → e ≡ false → if_has a s (if_has b t (if_has c u (if_has d v (if_has e w [])))) ≡ []
none-if a b c d e s t u v w h i j k l = rw (h, i, j, k, l) refl

pub no_shapes : (o : Options) (t : Tree) → conforms Place.Program t ≡ true → lowers_blocks o ≡ false → nothing_left o t ≡ true → shapes o t ≡ []
no_shapes o t h b left =
    rw (classes-none o (preorder t) (no_lowered_class o t left), and-false (lowers_fields o), and-false (not (lowers_blocks o)), and-false (lowers_fields o))
    (none-if (has_shape_1 o t) (has_shape_4 o t []) (has_shape_5 o t) (has_shape_6 o t []) (has_shape_8 o t) Shape.S1 Shape.S4 Shape.S5 Shape.S6 Shape.S8
    (asked-none (lowers_fields o) _ (λ f. moves-none o t nothing_around t (no_lowered_class o t left)))
    (asked-none (lowers_fields o) _ (λ f. or-none _ _ (reads-none o (varying t) (resolve t) f b t left (program-quiet o t f h left)) refl))
    (asked-none (lowers_fields o) _ (λ f. unwritable-none [] t (program-quiet o t f h left)))
    (rw (suspended-none o (preorder t) b) (writes-none (resolve t)))
    (asked-none (lowers_fields o) _ (λ f. chains-none t (program-quiet o t f h left))))
