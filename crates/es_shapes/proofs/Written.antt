-- Writes of the names of classes.
use Rattle.std.proofs.Common.{◌≡◌, refl, ap, sym, ◌∙◌, ℕ, List, [], ◌∷◌, ◌++◌, Bool, true, false, cond, not, nat_eq, ◌&&◌, ◌||◌, Option}
use Rattle.std.specs.List.{list_any}
use Rattle.std.proofs.lemmas.Bool.Decides.{Decides-eqb, same_from_decides}
use Rattle.es_base.specs.Preorder.{preorder}
use Rattle.es_base.specs.Tree.{Tree, Parts, Node, child}
use Rattle.es_base.specs.declared.kind.Kind.{Kind}
use Rattle.es_node.specs.View.{kind_of, number_in, parts_in}
use Rattle.es_steps.specs.NameScopes.{is_suspended_scope}
use Rattle.es_steps.specs.Options.{lowers_fields, lowers_blocks}
use Rattle.es_steps.specs.Parts.{at}
use Rattle.es_steps.specs.References.{Reference, resolve, has_number, assigned, if_bound}
use Rattle.es_steps.specs.Quiet.{id_number}
use Rattle.es_steps.specs.Shapes.{ClassAt, any_class, class_names, refers_to, writes_any, suspended_names, lowered_classes, has_shape_6}
use Rattle.es_steps.specs.Values.{Referent, Bound, Free}
use Rattle.es_steps.specs.declared.options.Options.{Options}
use Rattle.es_shapes.specs.Classes.{is_lowered_with}
use Rattle.es_shapes.specs.Names.{is_written_class, is_written_at, is_written_let}
use Rattle.es_shapes.proofs.Lowered.{any_lowered}

pub number_of_id : (t : Tree) → id_number (child t) ≡ number_in t ∷ []
number_of_id (Node kind m span semantic_id ps) = refl

-- ---- no name, one name, more names

no_name : (r : Referent) → refers_to [] r ≡ false
no_name (Bound b) = refl
no_name (Free s) = refl

and_false : (a : Bool) → (a && false) ≡ false
and_false true = refl
and_false false = refl

pub writes_none : (references : List Reference) → writes_any [] references ≡ false
writes_none [] = refl
writes_none (r ∷ rs) = ap (λ b. (r.writes && b) || writes_any [] rs) (no_name r.to) ∙ ap (λ b. b || writes_any [] rs) (and_false r.writes) ∙ writes_none rs

same-number : (a b : ℕ) → nat_eq a b ≡ nat_eq b a
same-number a b = same_from_decides _ _ (Decides-eqb a b) (λ t. sym ((Decides-eqb b a).0 t), λ e. (Decides-eqb b a).1 (sym e))

or_none : (b : Bool) → (b || false) ≡ b
or_none true = refl
or_none false = refl

one : (n : ℕ) (writes : Bool) (r : Referent) (rest : List ℕ) (b : Bool) → b ≡ has_number n rest → ((writes && refers_to (n ∷ []) r) || b) ≡ has_number n (if_bound writes r ++ rest)
one n true (Bound b) rest c e = ap (λ d. d || c) (or_none (nat_eq b n) ∙ same-number b n) ∙ ap (λ d. nat_eq n b || d) e
one n true (Free s) rest c e = e
one n false r rest c e = e

pub writes_one : (n : ℕ) (references : List Reference) → writes_any (n ∷ []) references ≡ has_number n (assigned references)
writes_one n [] = refl
writes_one n (r ∷ rs) = one n r.writes r.to (assigned rs) (writes_any (n ∷ []) rs) (writes_one n rs)

has-append : (n : ℕ) (xs ys : List ℕ) → has_number n (xs ++ ys) ≡ (has_number n xs || has_number n ys)
has-append n [] ys = refl
has-append n (x ∷ xs) ys = ap (λ b. nat_eq n x || b) (has-append n xs ys) ∙ or_or (nat_eq n x)
  where
    or_or : (a : Bool) → (a || (has_number n xs || has_number n ys)) ≡ ((a || has_number n xs) || has_number n ys)
    or_or true = refl
    or_or false = refl

refers-append : (xs ys : List ℕ) (r : Referent) → refers_to (xs ++ ys) r ≡ (refers_to xs r || refers_to ys r)
refers-append xs ys (Bound b) = has-append b xs ys
refers-append xs ys (Free s) = refl

mixed : (w x y a b : Bool) → ((w && (x || y)) || (a || b)) ≡ (((w && x) || a) || ((w && y) || b))
mixed true true y a b = refl
mixed true false true true b = refl
mixed true false true false b = refl
mixed true false false a b = refl
mixed false x y a b = refl

writes-append : (xs ys : List ℕ) (references : List Reference) → writes_any (xs ++ ys) references ≡ (writes_any xs references || writes_any ys references)
writes-append xs ys [] = refl
writes-append xs ys (r ∷ rs) =
    ap (λ b. (r.writes && b) || writes_any (xs ++ ys) rs) (refers-append xs ys r.to)
    ∙ ap (λ b. (r.writes && (refers_to xs r.to || refers_to ys r.to)) || b) (writes-append xs ys rs)
    ∙ mixed r.writes (refers_to xs r.to) (refers_to ys r.to) (writes_any xs rs) (writes_any ys rs)

-- ---- the names of lowered classes

class_by_class : (references : List Reference) (ks : List ClassAt) → writes_any (class_names ks) references ≡ any_class (is_written_class references) ks
class_by_class references [] = writes_none references
class_by_class references (k ∷ ks) = writes-append (id_number k.id) (class_names ks) references ∙ ap (λ b. writes_any (id_number k.id) references || b) (class_by_class references ks)

-- ---- those of class declarations that become a `let`

-- what is asked of a node is asked of a class declaration alone
suspended : (kind : Kind) (ps : Parts) → (kind ≡ Kind.ClassDeclaration → ⊥) → is_suspended_scope kind ps ≡ false
suspended Kind.ClassDeclaration ps other = absurd (other refl)
suspended kind ps other = refl

one_let : (o : Options) (references : List Reference) (kind : Kind) (m : ℕ) (span : Option (ℕ × ℕ)) (semantic_id : Option ℕ) (ps : Parts)
    → writes_any (cond (not (lowers_fields o) && (lowers_blocks o && is_suspended_scope kind ps)) (id_number (at 0 ps)) []) references ≡ is_written_let o references (Node kind m span semantic_id ps)
one_let o references Kind.ClassDeclaration m span semantic_id ps = by (not (lowers_fields o)) (lowers_blocks o) (is_suspended_scope Kind.ClassDeclaration ps)
  where
    by : (a b c : Bool) → writes_any (cond (a && (b && c)) (id_number (at 0 ps)) []) references ≡ (a && (b && (c && writes_any (id_number (at 0 ps)) references)))
    by true true true = refl
    by true true false = writes_none references
    by true false c = writes_none references
    by false b c = writes_none references
one_let o references kind m span semantic_id ps = by (not (lowers_fields o)) (lowers_blocks o) (is_written_at references (Node kind m span semantic_id ps))
  where
    by : (a b c : Bool) → writes_any (cond (a && (b && false)) (id_number (at 0 ps)) []) references ≡ (a && (b && (false && c)))
    by true true c = writes_none references
    by true false c = writes_none references
    by false b c = writes_none references

pub let_node : (o : Options) (references : List Reference) (t : Tree) → is_written_let o references t ≡ (not (lowers_fields o) && (lowers_blocks o && (is_suspended_scope (kind_of t) (parts_in t) && is_written_at references t)))
let_node o references (Node kind m span semantic_id ps) = refl

let_by_let : (o : Options) (references : List Reference) (ts : List Tree) → writes_any (suspended_names o ts) references ≡ list_any (is_written_let o references) ts
let_by_let o references [] = writes_none references
let_by_let o references (Node kind m span semantic_id ps ∷ ts) =
    writes-append (cond (not (lowers_fields o) && (lowers_blocks o && is_suspended_scope kind ps)) (id_number (at 0 ps)) []) (suspended_names o ts) references
    ∙ ap (λ b. b || writes_any (suspended_names o ts) references) (one_let o references kind m span semantic_id ps)
    ∙ ap (λ b. is_written_let o references (Node kind m span semantic_id ps) || b) (let_by_let o references ts)

pub shape_6 : (o : Options) (t : Tree) → has_shape_6 o t (lowered_classes o (preorder t)) ≡ (list_any (is_lowered_with o (is_written_class (resolve t))) (preorder t) || list_any (is_written_let o (resolve t)) (preorder t))
shape_6 o t =
    writes-append (class_names (lowered_classes o (preorder t))) (suspended_names o (preorder t)) (resolve t)
    ∙ ap (λ b. b || writes_any (suspended_names o (preorder t)) (resolve t)) (class_by_class (resolve t) (lowered_classes o (preorder t)) ∙ any_lowered o (is_written_class (resolve t)) (preorder t))
    ∙ ap (λ b. list_any (is_lowered_with o (is_written_class (resolve t))) (preorder t) || b) (let_by_let o (resolve t) (preorder t))
