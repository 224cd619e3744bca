-- A node of a kind that has scopes has one, or is the block of a function that has one.
use Rattle.std.proofs.Common.{◌≡◌, refl, sym, ap, subst, ◌∙◌, ℕ, zero, suc, ◌⊎◌, inl, inr, List, [], ◌∷◌, ◌++◌, Bool, true, false, true≢false, cond, ◌&&◌, not, Option}
use Rattle.std.specs.Prelude.{codes}
use Rattle.std.proofs.lemmas.Bool.{and_parts}
use Rattle.es_base.specs.Conforms.{conforms, parts_conform, part_conforms, items_conform, item_conforms, place_rule, kind_rule, boolean_at, key_place}
use Rattle.es_base.specs.Preorder.{preorder, preorder_of, preorder_of_part}
use Rattle.es_base.specs.Table.{Field, members_of, stands_in}
use Rattle.es_base.specs.Tree.{Tree, Part, Parts, Node, end, more, child, absent, list, string, no_string, boolean, literal}
use Rattle.es_base.specs.declared.kind.Kind.{Kind}
use Rattle.es_base.specs.declared.table.Place.{Place}
use Rattle.es_base.specs.declared.table.Sort.{Sort}
use Rattle.es_scopes.specs.NodeScopes.{has_scope, is_body_place}
use Rattle.es_scopes.specs.Opened.{opens_at, opened, opened_parts, opened_part, opened_items}
use Rattle.es_scopes_law.proofs.Lists.{In, in-left, in-right, in-cases}
use Rattle.es_scopes_law.proofs.Uses.{is_list, no_list_bodies, bodies-fit}
use Rattle.es_steps.specs.Parts.{at}

abbrev pub kind_in : Tree → Kind
kind_in (Node kind m span id ps) = kind

-- among nodes with a scope, a node is one, or the body of one
pub data Standing (xs : List Tree) (n : Tree) : Type 0 where
  has_one : In n xs → Standing xs n
  body_of : (kind : Kind) (m : ℕ) (span : Option (ℕ × ℕ)) (id : Option ℕ) (ps : Parts) (i : ℕ) → In (Node kind m span id ps) xs → is_body_place kind i ≡ true → at i ps ≡ child n → kind_in n ≡ Kind.BlockStatement → Standing xs n

standing-left : (xs ys : List Tree) (n : Tree) → Standing xs n → Standing (xs ++ ys) n
standing-left xs ys n (has_one h) = has_one (in-left n xs ys h)
standing-left xs ys n (body_of kind m span id ps i h b e is) = body_of kind m span id ps i (in-left (Node kind m span id ps) xs ys h) b e is

standing-right : (xs ys : List Tree) (n : Tree) → Standing ys n → Standing (xs ++ ys) n
standing-right xs ys n (has_one h) = has_one (in-right n xs ys h)
standing-right xs ys n (body_of kind m span id ps i h b e is) = body_of kind m span id ps i (in-right (Node kind m span id ps) xs ys h) b e is

-- what has a body has a scope
body-opens : (kind : Kind) (i : ℕ) (b : Bool) → is_body_place kind i ≡ true → opens_at kind b ≡ true
body-opens Kind.FunctionDeclaration i b h = refl
body-opens Kind.FunctionExpression i b h = refl
body-opens Kind.ArrowFunctionExpression i b h = refl
body-opens kind i b h = absurd (true≢false (sym h))

-- what has no scope where it stands is a body there
closed-body : (kind : Kind) (b : Bool) → has_scope kind ≡ true → opens_at kind b ≡ false → b ≡ true
closed-body Kind.BlockStatement true h c = refl
closed-body Kind.BlockStatement false h c = sym c
closed-body kind b h c = absurd (true≢false (sym h ∙ c))

closed-kind : (kind : Kind) (b : Bool) → has_scope kind ≡ true → opens_at kind b ≡ false → kind ≡ Kind.BlockStatement
closed-kind Kind.BlockStatement b h c = refl
closed-kind kind b h c = absurd (true≢false (sym h ∙ c))

own-opened : (kind : Kind) (m : ℕ) (span : Option (ℕ × ℕ)) (id : Option ℕ) (ps : Parts) (b : Bool) (rest : List Tree) → opens_at kind b ≡ true → In (Node kind m span id ps) (cond (opens_at kind b) (Node kind m span id ps ∷ []) [] ++ rest)
own-opened kind m span id ps b rest h = subst (λ (c : Bool). In (Node kind m span id ps) (cond c (Node kind m span id ps ∷ []) [] ++ rest)) (sym h) (inl refl)

module _ (n : Tree) (has : has_scope (kind_in n) ≡ true) where
  own-standing : (kind : Kind) (m : ℕ) (span : Option (ℕ × ℕ)) (id : Option ℕ) (ps : Parts) (b c : Bool) → opens_at kind b ≡ c → Node kind m span id ps ≡ n → ((Node kind m span id ps ≡ n) × (b ≡ true) × (kind_in n ≡ Kind.BlockStatement)) ⊎ Standing (opened b (Node kind m span id ps)) n
  own-standing kind m span id ps b true is e = inr (has_one (subst (λ (x : Tree). In x (opened b (Node kind m span id ps))) e (own-opened kind m span id ps b (opened_parts (is_body_place kind) ps) is)))
  own-standing kind m span id ps b false is e = let scoped = ap (λ (x : Tree). has_scope (kind_in x)) e ∙ has in inl (e, closed-body kind b scoped is, ap kind_in (sym e) ∙ closed-kind kind b scoped is)

  of_child : (t : Tree) (b : Bool) → ((t ≡ n) × (b ≡ true) × (kind_in n ≡ Kind.BlockStatement)) ⊎ Standing (opened b t) n → ((child t ≡ child n) × (b ≡ true) × (kind_in n ≡ Kind.BlockStatement)) ⊎ Standing (opened b t) n
  of_child t b (inl k) = inl (ap child k.0, k.1, k.2)
  of_child t b (inr s) = inr s

  mutual
    standing-tree : (place : Place) (t : Tree) (b : Bool) → conforms place t ≡ true → In n (preorder t) → ((t ≡ n) × (b ≡ true) × (kind_in n ≡ Kind.BlockStatement)) ⊎ Standing (opened b t) n
    standing-tree place (Node kind m span id ps) b h (inl e) = own-standing kind m span id ps b (opens_at kind b) refl e
    standing-tree place (Node kind m span id ps) b h (inr among) =
        let rules = and_parts (stands_in place kind) _ h in
        let parts = (and_parts (kind_rule kind ps) _ (and_parts (place_rule place kind ps) _ rules.1).1).1 in
        elim (standing-parts (boolean_at (codes "computed") (members_of kind) ps) (members_of kind) ps (is_body_place kind) parts (bodies-fit kind) among) [
          | inl k ↦ inr (body_of kind m span id ps k.0 (own-opened kind m span id ps b (opened_parts (is_body_place kind) ps) (body-opens kind k.0 b k.1.1)) k.1.1 k.1.0 k.1.2)
          | inr k ↦ inr (standing-right (cond (opens_at kind b) (Node kind m span id ps ∷ []) []) (opened_parts (is_body_place kind) ps) n k)
        ]

    standing-parts : (computed : Bool) (fs : List Field) (ps : Parts) (bs : ℕ → Bool) → parts_conform computed fs ps ≡ true → no_list_bodies bs fs ≡ true → In n (preorder_of ps) → ((i : ℕ) × ((at i ps ≡ child n) × (bs i ≡ true) × (kind_in n ≡ Kind.BlockStatement))) ⊎ Standing (opened_parts bs ps) n
    standing-parts computed fs end bs h lists among = absurd among
    standing-parts computed [] (more p ps) bs h lists among = absurd (true≢false (sym h))
    standing-parts computed (f ∷ fs) (more p ps) bs h lists among =
        let both = and_parts (part_conforms computed f.sort p) (parts_conform computed fs ps) h in
        let no_lists = and_parts (not (is_list f.sort && bs 0)) (no_list_bodies (λ j. bs (suc j)) fs) lists in
        elim (in-cases n (preorder_of_part p) (preorder_of ps) among) [
          | inl k ↦ elim (standing-part computed f.sort p (bs 0) both.0 no_lists.0 k) [
            | inl own ↦ inl (zero, own)
            | inr s ↦ inr (standing-left (opened_part (bs 0) p) (opened_parts (λ j. bs (suc j)) ps) n s)
          ]
          | inr k ↦ elim (standing-parts computed fs ps (λ j. bs (suc j)) both.1 no_lists.1 k) [
            | inl own ↦ inl (suc own.0, own.1)
            | inr s ↦ inr (standing-right (opened_part (bs 0) p) (opened_parts (λ j. bs (suc j)) ps) n s)
          ]
        ]

    standing-part : (computed : Bool) (sort : Sort) (p : Part) (b : Bool) → part_conforms computed sort p ≡ true → not (is_list sort && b) ≡ true → In n (preorder_of_part p) → ((p ≡ child n) × (b ≡ true) × (kind_in n ≡ Kind.BlockStatement)) ⊎ Standing (opened_part b p) n
    standing-part computed (Sort.Child place) (child t) b h lists among = of_child t b (standing-tree place t b h among)
    standing-part computed (Sort.Nullable place) (child t) b h lists among = of_child t b (standing-tree place t b h among)
    standing-part computed (Sort.Key place) (child t) b h lists among = of_child t b (standing-tree (key_place computed place) t b h among)
    standing-part computed sort (child t) b h lists among = absurd (true≢false (sym h))
    standing-part computed (Sort.List place) (list ps) true h lists among = absurd (true≢false (sym lists))
    standing-part computed (Sort.List place) (list ps) false h lists among = inr (standing-items false place ps h among)
    standing-part computed (Sort.NonEmptyList place) (list ps) true h lists among = absurd (true≢false (sym lists))
    standing-part computed (Sort.NonEmptyList place) (list ps) false h lists among = inr (standing-items false place ps (and_parts _ _ h).1 among)
    standing-part computed (Sort.ListWithHoles place) (list ps) true h lists among = absurd (true≢false (sym lists))
    standing-part computed (Sort.ListWithHoles place) (list ps) false h lists among = inr (standing-items true place ps h among)
    standing-part computed sort (list ps) b h lists among = absurd (true≢false (sym h))
    standing-part computed sort absent b h lists among = absurd among
    standing-part computed sort (string s) b h lists among = absurd among
    standing-part computed sort no_string b h lists among = absurd among
    standing-part computed sort (boolean v) b h lists among = absurd among
    standing-part computed sort (literal v) b h lists among = absurd among

    standing-items : (holes : Bool) (place : Place) (ps : Parts) → items_conform holes place ps ≡ true → In n (preorder_of ps) → Standing (opened_items false ps) n
    standing-items holes place end h among = absurd among
    standing-items holes place (more p ps) h among =
        let both = and_parts (item_conforms holes place p) _ h in
        elim (in-cases n (preorder_of_part p) (preorder_of ps) among) [
          | inl k ↦ standing-left (opened_part false p) (opened_items false ps) n (standing-item holes place p both.0 k)
          | inr k ↦ standing-right (opened_part false p) (opened_items false ps) n (standing-items holes place ps (and_parts _ _ both.1).1 k)
        ]

    standing-item : (holes : Bool) (place : Place) (p : Part) → item_conforms holes place p ≡ true → In n (preorder_of_part p) → Standing (opened_part false p) n
    standing-item holes place (child t) h among = elim (standing-tree place t false h among) [
      | inl k ↦ absurd (true≢false (sym k.1))
      | inr s ↦ s
    ]
    standing-item holes place absent h among = absurd among
    standing-item holes place (list ps) h among = absurd (true≢false (sym h))
    standing-item holes place (string s) h among = absurd among
    standing-item holes place no_string h among = absurd among
    standing-item holes place (boolean v) h among = absurd among
    standing-item holes place (literal v) h among = absurd among

  pub standing : (t : Tree) → conforms Place.Program t ≡ true → In n (preorder t) → Standing (opened false t) n
  standing t h among = elim (standing-tree Place.Program t false h among) [
    | inl k ↦ absurd (true≢false (sym k.1))
    | inr s ↦ s
  ]
