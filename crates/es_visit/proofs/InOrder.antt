-- A walk that goes into every node meets each once, in preorder.
use Rattle.std.specs.Prelude.{◌≡◌, ℕ, ◌+◌, List, [], ◌∷◌, ◌++◌, Bool, map, refl}
use Rattle.std.proofs.Common.{ap, ◌∙◌, sym}
use Rattle.std.proofs.lemmas.List.{map-append}
use Rattle.es_base.specs.Preorder.{preorder, preorder_of, preorder_of_part}
use Rattle.es_base.specs.Table.{members_of}
use Rattle.es_base.specs.Tree.{Tree, Part, Parts, Node, end, more, child, absent, list, string, no_string, boolean, literal}
use Rattle.es_base.specs.declared.kind.Kind.{Kind}
use Rattle.es_node.specs.View.{kind_of}
use Rattle.es_visit.specs.Law.{standing, standing_below, standing_part, standing_items, met, met_in_turn}
use Rattle.es_visit.specs.Reading.{Hook, Entry, entry, hooks_of, entered, reading, reading_below, reading_part, reading_items, everywhere}
use Rattle.es_visit.specs.Roles.{role_at, is_computed}
use Rattle.es_visit.specs.declared.roles.Role.{Role}

entered-everywhere : (hs : List Hook) (t : Tree) (below rest : List Entry) → entered everywhere hs t below rest ≡ met hs t below
entered-everywhere [] t below rest = refl
entered-everywhere (h ∷ hs) t below rest = ap (λ es. entry h t ∷ es) (entered-everywhere hs t below rest)

in_turn-append : (xs ys : List (Role × Tree)) (es : List Entry) → met_in_turn (xs ++ ys) es ≡ met_in_turn xs (met_in_turn ys es)
in_turn-append [] ys es = refl
in_turn-append (x ∷ xs) ys es = ap (met (hooks_of x.0 (kind_of x.1)) x.1) (in_turn-append xs ys es)

mutual
  pub reading-in_order : (role : Role) (t : Tree) (rest : List Entry) → reading everywhere role t rest ≡ met_in_turn (standing role t) rest
  reading-in_order role (Node k i sp si ps) rest = entered-everywhere (hooks_of role k) (Node k i sp si ps) (reading_below everywhere k (is_computed k ps) 0 ps rest) rest ∙ ap (met (hooks_of role k) (Node k i sp si ps)) (below-in_order k (is_computed k ps) 0 ps rest)

  below-in_order : (k : Kind) (computed : Bool) (at : ℕ) (ps : Parts) (rest : List Entry) → reading_below everywhere k computed at ps rest ≡ met_in_turn (standing_below k computed at ps) rest
  below-in_order k computed at end rest = refl
  below-in_order k computed at (more p ps) rest =
      let role = role_at computed (members_of k) at in
      part-in_order role p (reading_below everywhere k computed (at + 1) ps rest) ∙ ap (met_in_turn (standing_part role p)) (below-in_order k computed (at + 1) ps rest) ∙ sym (in_turn-append (standing_part role p) (standing_below k computed (at + 1) ps) rest)

  part-in_order : (role : Role) (p : Part) (rest : List Entry) → reading_part everywhere role p rest ≡ met_in_turn (standing_part role p) rest
  part-in_order role (child t) rest = reading-in_order role t rest
  part-in_order role absent rest = refl
  part-in_order role (list all) rest = items-in_order role all rest
  part-in_order role (string s) rest = refl
  part-in_order role no_string rest = refl
  part-in_order role (boolean b) rest = refl
  part-in_order role (literal v) rest = refl

  items-in_order : (role : Role) (ps : Parts) (rest : List Entry) → reading_items everywhere role ps rest ≡ met_in_turn (standing_items role ps) rest
  items-in_order role end rest = refl
  items-in_order role (more p ps) rest = part-in_order role p (reading_items everywhere role ps rest) ∙ ap (met_in_turn (standing_part role p)) (items-in_order role ps rest) ∙ sym (in_turn-append (standing_part role p) (standing_items role ps) rest)

mutual
  pub standing-preorder : (role : Role) (t : Tree) → map (λ (x : Role × Tree). x.1) (standing role t) ≡ preorder t
  standing-preorder role (Node k i sp si ps) = ap (λ ts. Node k i sp si ps ∷ ts) (below-preorder k (is_computed k ps) 0 ps)

  below-preorder : (k : Kind) (computed : Bool) (at : ℕ) (ps : Parts) → map (λ (x : Role × Tree). x.1) (standing_below k computed at ps) ≡ preorder_of ps
  below-preorder k computed at end = refl
  below-preorder k computed at (more p ps) =
      let role = role_at computed (members_of k) at in
      map-append (λ (x : Role × Tree). x.1) (standing_part role p) (standing_below k computed (at + 1) ps)
      ∙ ap (λ ts. ts ++ map (λ (x : Role × Tree). x.1) (standing_below k computed (at + 1) ps)) (part-preorder role p)
      ∙ ap (λ ts. preorder_of_part p ++ ts) (below-preorder k computed (at + 1) ps)

  part-preorder : (role : Role) (p : Part) → map (λ (x : Role × Tree). x.1) (standing_part role p) ≡ preorder_of_part p
  part-preorder role (child t) = standing-preorder role t
  part-preorder role absent = refl
  part-preorder role (list all) = items-preorder role all
  part-preorder role (string s) = refl
  part-preorder role no_string = refl
  part-preorder role (boolean b) = refl
  part-preorder role (literal v) = refl

  items-preorder : (role : Role) (ps : Parts) → map (λ (x : Role × Tree). x.1) (standing_items role ps) ≡ preorder_of ps
  items-preorder role end = refl
  items-preorder role (more p ps) =
      map-append (λ (x : Role × Tree). x.1) (standing_part role p) (standing_items role ps)
      ∙ ap (λ ts. ts ++ map (λ (x : Role × Tree). x.1) (standing_items role ps)) (part-preorder role p)
      ∙ ap (λ ts. preorder_of_part p ++ ts) (items-preorder role ps)
