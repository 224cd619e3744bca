-- Old numbers, and what the open lists keep that has none: the numbers of a source stay, in their order, as
-- nodes of it are replaced and declarations without old numbers are kept.
use Rattle.std.specs.Prelude.{◌≡◌, ℕ, zero, suc, List, [], ◌∷◌, ◌++◌, map, filter, Bool, true, false, refl, Option}
use Rattle.std.proofs.Common.{ap, sym, ◌∙◌, append-nil, append_assoc}
use Rattle.std.proofs.lemmas.List.{map-append}
use Rattle.std.proofs.lemmas.List.Elements.{filter-append}
use Rattle.es_base.specs.Numbered.{is_old, old_numbers}
use Rattle.es_base.specs.Preorder.{preorder_of, preorder_of_part, number_of}
use Rattle.es_base.specs.Tree.{Tree, Part, Parts, Node, end, more, child, absent, list, string, no_string, boolean, literal, trees}
use Rattle.es_base.specs.declared.kind.Kind.{Kind}
use Rattle.es_base.specs.declared.operator.VariableDeclarationKind.{VariableDeclarationKind}
use Rattle.es_ctx.specs.Ancestors.{has_statements}
use Rattle.es_ctx.specs.Stores.{pick, open_list, front, changed, with_var, trees_then, declared, is_directive, behind_directives, spread, placed, opened, closed, filled}
use Rattle.es_ctx.specs.declared.stores.OpenList.{OpenList}
use Rattle.es_walk.specs.Holes.{joined, count, Hole, PartHole, top, of_child, of_item, at_part}
use Rattle.es_walk.specs.Placing.{spread-none}
use Rattle.es_walk.specs.Whole.{whole, whole_part}

-- the parts of a list that is empty
front-none : {X : Type 0} (xs ys : List X) → xs ++ ys ≡ [] → xs ≡ []
front-none [] ys e = refl
front-none (x ∷ xs) ys e = absurd (cc e)

back-none : {X : Type 0} (xs ys : List X) → xs ++ ys ≡ [] → ys ≡ []
back-none [] ys e = e
back-none (x ∷ xs) ys e = absurd (cc e)

module _ (first : ℕ) where
  abbrev pub old_of_part : Part → List ℕ
  old_of_part p = filter (is_old first) (map number_of (preorder_of_part p))

  abbrev pub old_of : Parts → List ℕ
  old_of ps = filter (is_old first) (map number_of (preorder_of ps))

  pub old-more : (p : Part) (rest : Parts) → old_of (more p rest) ≡ old_of_part p ++ old_of rest
  old-more p rest = ap (filter (is_old first)) (map-append number_of (preorder_of_part p) (preorder_of rest)) ∙ filter-append (is_old first) (map number_of (preorder_of_part p)) (map number_of (preorder_of rest))

  old-cons : (i : ℕ) (b : Bool) (ks ls : List ℕ) → is_old first i ≡ b → filter (is_old first) ks ≡ filter (is_old first) ls → filter (is_old first) (i ∷ ks) ≡ filter (is_old first) (i ∷ ls)
  old-cons i true ks ls is e = rw is (ap (λ zs. i ∷ zs) e)
  old-cons i false ks ls is e = rw is e

  pub old-node : (k k' : Kind) (i : ℕ) (sp : Option (ℕ × ℕ)) (si si' : Option ℕ) (ps qs : Parts) → old_of ps ≡ old_of qs → old_numbers first (Node k i sp si ps) ≡ old_numbers first (Node k' i sp si' qs)
  old-node k k' i sp si si' ps qs e = old-cons i (is_old first i) (map number_of (preorder_of ps)) (map number_of (preorder_of qs)) refl e

  old-joined : (before after : Parts) (p q : Part) → old_of_part p ≡ old_of_part q → old_of (joined before (more p after)) ≡ old_of (joined before (more q after))
  old-joined end after p q e = old-more p after ∙ ap (λ ks. ks ++ old_of after) e ∙ sym (old-more q after)
  old-joined (more b bs) after p q e = old-more b (joined bs (more p after)) ∙ ap (λ ks. old_of_part b ++ ks) (old-joined bs after p q e) ∙ sym (old-more b (joined bs (more q after)))

  pub old-push : (ts : List Tree) (t : Tree) → old_of (trees (ts ++ t ∷ [])) ≡ old_of (trees ts) ++ old_of_part (child t)
  old-push [] t = old-more (child t) end ∙ append-nil (old_of_part (child t))
  old-push (u ∷ ts) t =
      old-more (child u) (trees (ts ++ t ∷ []))
      ∙ ap (λ ks. old_of_part (child u) ++ ks) (old-push ts t)
      ∙ sym (append_assoc (old_of_part (child u)) (old_of (trees ts)) (old_of_part (child t)))
      ∙ ap (λ ks. ks ++ old_of_part (child t)) (sym (old-more (child u) (trees ts)))

  -- ---- lists for which declarations alone are kept, none of whose nodes has an old number

  pub record IsQuiet (l : OpenList) : Type 0 where
    pub slots : l.slots ≡ []
    pub vars : old_of (trees (declared VariableDeclarationKind.Var l.vars)) ≡ []
    pub lets : l.lets ≡ []

  abbrev pub Quiet : List OpenList → Type 0
  Quiet [] = Unit {0}
  Quiet (l ∷ ls) = IsQuiet l × Quiet ls

  push-quiet : (ls : List OpenList) (l : OpenList) → IsQuiet l → Quiet ls → Quiet (ls ++ l ∷ [])
  push-quiet [] l h k = (h, tt {0})
  push-quiet (m ∷ ls) l h k = (k.0, push-quiet ls l h k.1)

  pub opened-quiet : (b : Bool) (p : Part) (ls : List OpenList) → Quiet ls → Quiet (opened b p ls)
  opened-quiet true p ls h = push-quiet ls (open_list p) (record { slots = refl; vars = refl; lets = refl }) h
  opened-quiet false p ls h = h

  front-quiet : (ls : List OpenList) → Quiet ls → Quiet (front ls)
  front-quiet [] h = h
  front-quiet (l ∷ []) h = tt {0}
  front-quiet (l ∷ m ∷ ls) h = (h.0, front-quiet (m ∷ ls) h.1)

  pub closed-quiet : (b : Bool) (ls : List OpenList) → Quiet ls → Quiet (closed b ls)
  closed-quiet true ls h = front-quiet ls h
  closed-quiet false ls h = h

  -- one more declarator
  pub changed-quiet : (at : ℕ) (d : Tree) (ls : List OpenList) → ((l : OpenList) → IsQuiet l → IsQuiet (with_var d l)) → Quiet ls → Quiet (changed at (with_var d) ls)
  changed-quiet at d [] law h = h
  changed-quiet zero d (l ∷ ls) law h = (law l h.0, h.1)
  changed-quiet (suc at) d (l ∷ ls) law h = (h.0, changed-quiet at d ls law h.1)

  -- what is put in front of a list
  then-old : (ts : List Tree) (ps : Parts) → old_of (trees ts) ≡ [] → old_of (trees_then ts ps) ≡ old_of ps
  then-old [] ps none = refl
  then-old (t ∷ ts) ps none =
      let all = sym (old-more (child t) (trees ts)) ∙ none in
      old-more (child t) (trees_then ts ps)
      ∙ ap (λ ks. ks ++ old_of (trees_then ts ps)) (front-none (old_of_part (child t)) (old_of (trees ts)) all)
      ∙ then-old ts ps (back-none (old_of_part (child t)) (old_of (trees ts)) all)

  behind-at : (b : Bool) (ts : List Tree) (p : Part) (ps : Parts) → old_of (trees ts) ≡ [] → old_of (behind_directives ts ps) ≡ old_of ps → old_of (pick b (more p (behind_directives ts ps)) (trees_then ts (more p ps))) ≡ old_of (more p ps)
  behind-at true ts p ps none below = old-more p (behind_directives ts ps) ∙ ap (λ ks. old_of_part p ++ ks) below ∙ sym (old-more p ps)
  behind-at false ts p ps none below = then-old ts (more p ps) none

  behind-old : (ts : List Tree) (ps : Parts) → old_of (trees ts) ≡ [] → old_of (behind_directives ts ps) ≡ old_of ps
  behind-old ts end none = then-old ts end none
  behind-old ts (more p ps) none = behind-at (is_directive p) ts p ps none (behind-old ts ps none)

  placed-quiet : (l : OpenList) (p : Part) → IsQuiet l → old_of_part (placed l p) ≡ old_of_part p
  placed-quiet l (child t) h = refl
  placed-quiet l absent h = refl
  placed-quiet l (list all) h =
      let vars = declared VariableDeclarationKind.Var l.vars in
      ap (λ ls. old_of (behind_directives (vars ++ declared VariableDeclarationKind.Let ls) (spread l.slots all))) h.lets
      ∙ ap (λ ss. old_of (behind_directives (vars ++ []) (spread ss all))) h.slots
      ∙ ap (λ ts. old_of (behind_directives ts (spread [] all))) (append-nil vars)
      ∙ behind-old vars (spread [] all) h.vars
      ∙ ap old_of (spread-none all)
  placed-quiet l (string s) h = refl
  placed-quiet l no_string h = refl
  placed-quiet l (boolean b) h = refl
  placed-quiet l (literal v) h = refl

  filled-quiet : (b : Bool) (ls : List OpenList) (p : Part) → Quiet ls → old_of_part (filled b ls p) ≡ old_of_part p
  filled-quiet true [] p h = refl
  filled-quiet true (l ∷ []) p h = placed-quiet l p h.0
  filled-quiet true (l ∷ m ∷ ls) p h = filled-quiet true (m ∷ ls) p h.1
  filled-quiet false ls p h = refl

  -- ---- the whole, in which a node is replaced, and what such lists keep

  mutual
    pub old-whole : (ls ms : List OpenList) → Quiet ls → Quiet ms → (hole : Hole) (t u : Tree) → old_numbers first t ≡ old_numbers first u → old_numbers first (whole ls hole t) ≡ old_numbers first (whole ms hole u)
    old-whole ls ms h k top t u e = e
    old-whole ls ms h k (of_child place) t u e = old-whole_part ls ms h k place (child t) (child u) e
    old-whole ls ms h k (of_item before after place) t u e = old-whole_part ls ms h k place (list (joined before (more (child t) after))) (list (joined before (more (child u) after))) (old-joined before after (child t) (child u) e)

    old-whole_part : (ls ms : List OpenList) → Quiet ls → Quiet ms → (place : PartHole) (p q : Part) → old_of_part p ≡ old_of_part q → old_numbers first (whole_part ls place p) ≡ old_numbers first (whole_part ms place q)
    old-whole_part ls ms h l (at_part parent k i sp si before after outer) p q e =
        let b = has_statements parent.kind (count before) in
        let same : old_of_part (filled b ls p) ≡ old_of_part (filled b ms q) = filled-quiet b ls p h ∙ e ∙ sym (filled-quiet b ms q l) in
        old-whole (closed b ls) (closed b ms) (closed-quiet b ls h) (closed-quiet b ms l) outer _ _ (old-node k k i sp si si (joined before (more (filled b ls p) after)) (joined before (more (filled b ms q) after)) (old-joined before after (filled b ls p) (filled b ms q) same))
