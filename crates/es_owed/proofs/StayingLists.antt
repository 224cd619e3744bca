-- Lists of statements, node by node.
use Rattle.std.proofs.Common.{◌≡◌, refl, sym, ap, ◌∙◌, ℕ, List, [], ◌∷◌, ◌++◌, Bool, true, false, cond, ◌&&◌, Option, None}
use Rattle.std.proofs.Math.Bool.{and_assoc, and-true}
use Rattle.std.specs.Prelude.{nat_eq}
use Rattle.es_base.specs.Preorder.{preorder, preorder_of, preorder_of_part}
use Rattle.es_base.specs.Tree.{Tree, Part, Parts, Node, end, more, child, absent, list, string, no_string, boolean, literal}
use Rattle.es_base.specs.declared.kind.Kind.{Kind}
use Rattle.es_node.specs.View.{kind_of, number_in, parts_in}
use Rattle.es_steps.specs.KeptNodes.{all_within, carried_classes, class_or_none, declared_classes, free_lists, free_lists_at, free_lists_in, free_numbers, given_classes, is_static_block, is_within, item_numbers, list_of, lists_kept, statement_list, stays_in_list}
use Rattle.es_steps.specs.Parts.{at}
use Rattle.es_steps.specs.Scopes.{class_in}
use Rattle.es_steps.specs.declared.options.Options.{Options}
use Rattle.es_owed.specs.Lists.{exported_classes, given_class, list_stays, lists_stay, own_class}

-- ---- all lists

pub list_stays_node : (o : Options) (qs : List Tree) (t : Tree) → list_stays o qs t ≡ cond (is_static_block (kind_of t)) true (is_within (free_numbers o (statement_list (kind_of t) (parts_in t))) (list_of (number_in t) qs))
list_stays_node o qs (Node kind m span semantic_id ps) = refl

within-append : (ls ks : List (ℕ × List ℕ)) (qs : List Tree) → all_within (ls ++ ks) qs ≡ (all_within ls qs && all_within ks qs)
within-append [] ks qs = refl
within-append (l ∷ ls) ks qs = ap (λ b. is_within l.1 (list_of l.0 qs) && b) (within-append ls ks qs) ∙ sym (and_assoc (is_within l.1 (list_of l.0 qs)) (all_within ls qs) (all_within ks qs))

stay-append : (o : Options) (qs ts us : List Tree) → lists_stay o qs (ts ++ us) ≡ (lists_stay o qs ts && lists_stay o qs us)
stay-append o qs [] us = refl
stay-append o qs (t ∷ ts) us = ap (λ b. list_stays o qs t && b) (stay-append o qs ts us) ∙ sym (and_assoc (list_stays o qs t) (lists_stay o qs ts) (lists_stay o qs us))

one : (b : Bool) (m : ℕ) (ns : List ℕ) (qs : List Tree) → all_within (cond b [] ((m, ns) ∷ [])) qs ≡ cond b true (is_within ns (list_of m qs))
one true m ns qs = refl
one false m ns qs = and-true (is_within ns (list_of m qs))

mutual
  tree-stays : (o : Options) (qs : List Tree) (t : Tree) → all_within (free_lists o t) qs ≡ lists_stay o qs (preorder t)
  tree-stays o qs (Node kind m span semantic_id ps) =
      within-append (cond (is_static_block kind) [] ((m, free_numbers o (statement_list kind ps)) ∷ [])) (free_lists_in o ps) qs
      ∙ ap (λ b. b && all_within (free_lists_in o ps) qs) (one (is_static_block kind) m (free_numbers o (statement_list kind ps)) qs)
      ∙ ap (λ b. list_stays o qs (Node kind m span semantic_id ps) && b) (parts-stay o qs ps)

  part-stays : (o : Options) (qs : List Tree) (p : Part) → all_within (free_lists_at o p) qs ≡ lists_stay o qs (preorder_of_part p)
  part-stays o qs (child t) = tree-stays o qs t
  part-stays o qs absent = refl
  part-stays o qs (list ps) = parts-stay o qs ps
  part-stays o qs (string s) = refl
  part-stays o qs no_string = refl
  part-stays o qs (boolean b) = refl
  part-stays o qs (literal v) = refl

  parts-stay : (o : Options) (qs : List Tree) (ps : Parts) → all_within (free_lists_in o ps) qs ≡ lists_stay o qs (preorder_of ps)
  parts-stay o qs end = refl
  parts-stay o qs (more p ps) = within-append (free_lists_at o p) (free_lists_in o ps) qs ∙ rw (part-stays o qs p, parts-stay o qs ps) (sym (stay-append o qs (preorder_of_part p) (preorder_of ps)))

pub lists_by_node : (o : Options) (p q : Tree) → lists_stay o (preorder q) (preorder p) ≡ lists_kept o p q
lists_by_node o p q = sym (tree-stays o (preorder q) p)

-- ---- what is to stay

pub stays_by_kind : (t : Tree) → stays_in_list t ≡ stays_in_list (Node (kind_of t) 0 None None end)
stays_by_kind (Node kind m span semantic_id ps) = here kind
  where
    here : (kind : Kind) → stays_in_list (Node kind m span semantic_id ps) ≡ stays_in_list (Node kind 0 None None end)
    here Kind.VariableDeclaration = refl
    here Kind.FunctionDeclaration = refl
    here kind = refl

pub declared_named : (d : Tree) (m : ℕ) (span : Option (ℕ × ℕ)) (semantic_id : Option ℕ) (rest : Parts) → declared_classes (child (Node Kind.ExportNamedDeclaration m span semantic_id (more (child d) rest))) ≡ own_class d
declared_named (Node Kind.ClassDeclaration n nspan n_semantic_id ps) m span semantic_id rest = refl
declared_named (Node kind n nspan n_semantic_id ps) m span semantic_id rest = refl

pub declared_default : (d : Tree) (m : ℕ) (span : Option (ℕ × ℕ)) (semantic_id : Option ℕ) (rest : Parts) → declared_classes (child (Node Kind.ExportDefaultDeclaration m span semantic_id (more (child d) rest))) ≡ own_class d
declared_default (Node Kind.ClassDeclaration n nspan n_semantic_id ps) m span semantic_id rest = refl
declared_default (Node kind n nspan n_semantic_id ps) m span semantic_id rest = refl

pub declared_own : (t : Tree) → (kind_of t ≡ Kind.ExportNamedDeclaration → ⊥) → (kind_of t ≡ Kind.ExportDefaultDeclaration → ⊥) → declared_classes (child t) ≡ own_class t
declared_own (Node Kind.ExportNamedDeclaration m span semantic_id ps) a b = absurd (a refl)
declared_own (Node Kind.ExportDefaultDeclaration m span semantic_id ps) a b = absurd (b refl)
declared_own (Node Kind.ClassDeclaration m span semantic_id ps) a b = refl
declared_own (Node kind m span semantic_id ps) a b = refl

pub own_other : (t : Tree) → (kind_of t ≡ Kind.ClassDeclaration → ⊥) → own_class t ≡ []
own_other (Node Kind.ClassDeclaration m span semantic_id ps) other = absurd (other refl)
own_other (Node kind m span semantic_id ps) other = refl

-- ---- what stands

pub list_of_more : (n : ℕ) (t : Tree) (ts : List Tree) → list_of n (t ∷ ts) ≡ cond (nat_eq n (number_in t)) (item_numbers (statement_list (kind_of t) (parts_in t))) (list_of n ts)
list_of_more n (Node kind m span semantic_id ps) ts = refl

pub carried_named : (d : Tree) (m : ℕ) (span : Option (ℕ × ℕ)) (semantic_id : Option ℕ) (rest : Parts) → carried_classes (child (Node Kind.ExportNamedDeclaration m span semantic_id (more (child d) rest))) ≡ exported_classes d
carried_named (Node Kind.VariableDeclaration n nspan n_semantic_id ps) m span semantic_id rest = refl
carried_named (Node Kind.ClassDeclaration n nspan n_semantic_id ps) m span semantic_id rest = refl
carried_named (Node kind n nspan n_semantic_id ps) m span semantic_id rest = refl

pub carried_default : (d : Tree) (m : ℕ) (span : Option (ℕ × ℕ)) (semantic_id : Option ℕ) (rest : Parts) → (kind_of d ≡ Kind.ClassDeclaration → ⊥) → carried_classes (child (Node Kind.ExportDefaultDeclaration m span semantic_id (more (child d) rest))) ≡ class_or_none (class_in (child d))
carried_default (Node Kind.ClassDeclaration n nspan n_semantic_id ps) m span semantic_id rest other = absurd (other refl)
carried_default (Node kind n nspan n_semantic_id ps) m span semantic_id rest other = refl

pub carried_own : (t : Tree) → (kind_of t ≡ Kind.ExportNamedDeclaration → ⊥) → (kind_of t ≡ Kind.ExportDefaultDeclaration → ⊥) → carried_classes (child t) ≡ exported_classes t
carried_own (Node Kind.ExportNamedDeclaration m span semantic_id ps) a b = absurd (a refl)
carried_own (Node Kind.ExportDefaultDeclaration m span semantic_id ps) a b = absurd (b refl)
carried_own (Node Kind.VariableDeclaration m span semantic_id ps) a b = refl
carried_own (Node Kind.ClassDeclaration m span semantic_id ps) a b = refl
carried_own (Node kind m span semantic_id ps) a b = refl

pub exported_other : (t : Tree) → (kind_of t ≡ Kind.VariableDeclaration → ⊥) → (kind_of t ≡ Kind.ClassDeclaration → ⊥) → exported_classes t ≡ []
exported_other (Node Kind.VariableDeclaration m span semantic_id ps) a b = absurd (a refl)
exported_other (Node Kind.ClassDeclaration m span semantic_id ps) a b = absurd (b refl)
exported_other (Node kind m span semantic_id ps) a b = refl

pub given_more : (t : Tree) (rest : Parts) → given_classes (more (child t) rest) ≡ given_class t ++ given_classes rest
given_more (Node Kind.VariableDeclarator m span semantic_id ps) rest = refl
given_more (Node kind m span semantic_id ps) rest = refl

pub given_one : (t : Tree) → kind_of t ≡ Kind.VariableDeclarator → given_class t ≡ class_or_none (class_in (at 1 (parts_in t)))
given_one (Node kind m span semantic_id ps) is = ap (λ k. given_class (Node k m span semantic_id ps)) is

pub given_other : (t : Tree) → (kind_of t ≡ Kind.VariableDeclarator → ⊥) → given_class t ≡ []
given_other (Node Kind.VariableDeclarator m span semantic_id ps) other = absurd (other refl)
given_other (Node kind m span semantic_id ps) other = refl
