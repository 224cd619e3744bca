-- What class declarations become, by the kind of a node.
use Rattle.std.proofs.Common.{◌≡◌, refl, sym, ap, ◌∙◌, ℕ, List, [], ◌∷◌, ◌++◌, Bool, true, false, cond, ◌&&◌, ◌||◌, Option, Some, None}
use Rattle.std.proofs.Math.Bool.{and_assoc}
use Rattle.std.proofs.lemmas.Bool.{eqb-true}
use Rattle.std.specs.Prelude.{nat_eq, not}
use Rattle.es_base.specs.Preorder.{number_of, preorder, preorder_of, preorder_of_part}
use Rattle.es_base.specs.Tree.{Tree, Part, Parts, Node, end, more, child, absent, list, string, no_string, boolean, literal}
use Rattle.es_base.specs.declared.kind.Kind.{Kind}
use Rattle.es_binding_faults.proofs.HasNumbers.{has_number-append}
use Rattle.es_lowered.specs.ClassLets.{class_lets_fit, class_lets_fit_at, class_lets_fit_in, initializer_fits, is_class_of, is_identifier, let_fits, names_expression, nodes_of_declared}
use Rattle.es_lowered.specs.ClassNames.{numbers_of}
use Rattle.es_node.specs.View.{kind_of}
use Rattle.es_owed_lets.specs.Lets.{all_fit, declaration_at, declarations, declared_at, fits, has_key, identifier_in, is_class_among, is_declared, key_of, keys, own_name, own_names}
use Rattle.es_steps.specs.Parts.{at, is_present}
use Rattle.es_steps.specs.References.{has_number}
use Rattle.es_steps.specs.Scopes.{class_in}

-- ---- all nodes

fit-append : (first : ℕ) (ps ts us : List Tree) → all_fit first ps (ts ++ us) ≡ (all_fit first ps ts && all_fit first ps us)
fit-append first ps [] us = refl
fit-append first ps (t ∷ ts) us = ap (λ b. fits first ps t && b) (fit-append first ps ts us) ∙ sym (and_assoc (fits first ps t) (all_fit first ps ts) (all_fit first ps us))

mutual
  pub fit_by_node : (first : ℕ) (ps : List Tree) (t : Tree) → all_fit first ps (preorder t) ≡ class_lets_fit first ps t
  fit_by_node first ps (Node kind m span semantic_id qs) = ap (λ b. fits first ps (Node kind m span semantic_id qs) && b) (parts_by_node first ps qs)

  part_by_node : (first : ℕ) (ps : List Tree) (p : Part) → all_fit first ps (preorder_of_part p) ≡ class_lets_fit_at first ps p
  part_by_node first ps (child t) = fit_by_node first ps t
  part_by_node first ps absent = refl
  part_by_node first ps (list qs) = parts_by_node first ps qs
  part_by_node first ps (string s) = refl
  part_by_node first ps no_string = refl
  part_by_node first ps (boolean b) = refl
  part_by_node first ps (literal v) = refl

  parts_by_node : (first : ℕ) (ps : List Tree) (qs : Parts) → all_fit first ps (preorder_of qs) ≡ class_lets_fit_in first ps qs
  parts_by_node first ps end = refl
  parts_by_node first ps (more p qs) = fit-append first ps (preorder_of_part p) (preorder_of qs) ∙ ap (λ b. b && all_fit first ps (preorder_of qs)) (part_by_node first ps p) ∙ ap (λ b. class_lets_fit_at first ps p && b) (parts_by_node first ps qs)

-- ---- declarators

pub no_declarator : (first : ℕ) (ps : List Tree) (t : Tree) → (kind_of t ≡ Kind.VariableDeclarator → ⊥) → fits first ps t ≡ true
no_declarator first ps (Node Kind.VariableDeclarator m span semantic_id qs) other = absurd (other refl)
no_declarator first ps (Node kind m span semantic_id qs) other = refl

pub declarator_node : (first : ℕ) (ps : List Tree) (m : ℕ) (span : Option (ℕ × ℕ)) (semantic_id : Option ℕ) (t : Tree) (e : Part) → fits first ps (Node Kind.VariableDeclarator m span semantic_id (more (child t) (more e end))) ≡ let_fits first ps m (number_of t) e
declarator_node first ps m span semantic_id t e = refl

pub kept_fits : (first : ℕ) (ps : List Tree) (m b : ℕ) (e : Part) → has_number m (numbers_of ps) ≡ true → let_fits first ps m b e ≡ true
kept_fits first ps m b e kept = ap (λ x. x || (not (names_expression b ps) && initializer_fits first ps (nodes_of_declared b (class_in e) ps) (numbers_of (preorder_of_part e)))) kept

pub named_fits_not : (first : ℕ) (ps : List Tree) (m b : ℕ) (e : Part) → has_number m (numbers_of ps) ≡ false → names_expression b ps ≡ true → let_fits first ps m b e ≡ false
named_fits_not first ps m b e new names =
    ap (λ x. x || (not (names_expression b ps) && initializer_fits first ps (nodes_of_declared b (class_in e) ps) (numbers_of (preorder_of_part e)))) new
    ∙ ap (λ x. not x && initializer_fits first ps (nodes_of_declared b (class_in e) ps) (numbers_of (preorder_of_part e))) names

pub new_fits : (first : ℕ) (ps : List Tree) (m b : ℕ) (e : Part) → has_number m (numbers_of ps) ≡ false → names_expression b ps ≡ false → let_fits first ps m b e ≡ initializer_fits first ps (nodes_of_declared b (class_in e) ps) (numbers_of (preorder_of_part e))
new_fits first ps m b e new names =
    ap (λ x. x || (not (names_expression b ps) && initializer_fits first ps (nodes_of_declared b (class_in e) ps) (numbers_of (preorder_of_part e)))) new
    ∙ ap (λ x. not x && initializer_fits first ps (nodes_of_declared b (class_in e) ps) (numbers_of (preorder_of_part e))) names

-- ---- the own names of class expressions

pub no_own_name : (t : Tree) → (kind_of t ≡ Kind.ClassExpression → ⊥) → own_name t ≡ []
no_own_name (Node Kind.ClassExpression m span semantic_id ps) other = absurd (other refl)
no_own_name (Node kind m span semantic_id ps) other = refl

pub own_name_node : (m : ℕ) (span : Option (ℕ × ℕ)) (semantic_id : Option ℕ) (p : Part) (ps : Parts) → own_name (Node Kind.ClassExpression m span semantic_id (more p ps)) ≡ identifier_in p
own_name_node m span semantic_id p ps = refl

or_false : (b : Bool) → (b || false) ≡ b
or_false true = refl
or_false false = refl

name_among : (b : ℕ) (p : Part) → has_number b (identifier_in p) ≡ is_identifier b p
name_among b (child t) = or_false (nat_eq b (number_of t))
name_among b absent = refl
name_among b (list qs) = refl
name_among b (string s) = refl
name_among b no_string = refl
name_among b (boolean v) = refl
name_among b (literal v) = refl

pub names_among : (b : ℕ) (ts : List Tree) → has_number b (own_names ts) ≡ names_expression b ts
names_among b [] = refl
names_among b (Node Kind.ClassExpression m span semantic_id ps ∷ ts) =
    has_number-append b (identifier_in (at 0 ps)) (own_names ts)
    ∙ ap (λ x. x || has_number b (own_names ts)) (name_among b (at 0 ps))
    ∙ ap (λ x. is_identifier b (at 0 ps) || x) (names_among b ts)
names_among b (Node kind m span semantic_id ps ∷ ts) = names_among b ts

-- ---- class declarations

pub no_declaration : (t : Tree) → (kind_of t ≡ Kind.ClassDeclaration → ⊥) → declaration_at t ≡ []
no_declaration (Node Kind.ClassDeclaration n span semantic_id ps) other = absurd (other refl)
no_declaration (Node kind n span semantic_id ps) other = refl

pub declaration_node : (t : Tree) → kind_of t ≡ Kind.ClassDeclaration → declaration_at t ≡ t ∷ []
declaration_node (Node Kind.ClassDeclaration n span semantic_id ps) is = refl
declaration_node (Node kind n span semantic_id ps) is = absurd (cc)

pub no_key : (t : Tree) → (kind_of t ≡ Kind.ClassDeclaration → ⊥) → key_of t ≡ []
no_key (Node Kind.ClassDeclaration n span semantic_id ps) other = absurd (other refl)
no_key (Node kind n span semantic_id ps) other = refl

pub named_key : (n : ℕ) (span : Option (ℕ × ℕ)) (semantic_id : Option ℕ) (t : Tree) (ps : Parts) → key_of (Node Kind.ClassDeclaration n span semantic_id (more (child t) ps)) ≡ number_of t ∷ []
named_key n span semantic_id t ps = refl

pub unnamed_key : (n : ℕ) (span : Option (ℕ × ℕ)) (semantic_id : Option ℕ) (ps : Parts) → key_of (Node Kind.ClassDeclaration n span semantic_id (more absent ps)) ≡ n ∷ []
unnamed_key n span semantic_id ps = refl

pub not_declared : (b : ℕ) (given : Option ℕ) (t : Tree) → (kind_of t ≡ Kind.ClassDeclaration → ⊥) → is_declared b given t ≡ false
not_declared b given (Node Kind.ClassDeclaration n span semantic_id ps) other = absurd (other refl)
not_declared b given (Node kind n span semantic_id ps) other = refl

pub named_declared : (b : ℕ) (given : Option ℕ) (n : ℕ) (span : Option (ℕ × ℕ)) (semantic_id : Option ℕ) (t : Tree) (ps : Parts) → is_declared b given (Node Kind.ClassDeclaration n span semantic_id (more (child t) ps)) ≡ nat_eq b (number_of t)
named_declared b given n span semantic_id t ps = or_false (nat_eq b (number_of t))

pub unnamed_declared : (b : ℕ) (given : Option ℕ) (n : ℕ) (span : Option (ℕ × ℕ)) (semantic_id : Option ℕ) (ps : Parts) → is_declared b given (Node Kind.ClassDeclaration n span semantic_id (more absent ps)) ≡ is_class_of n given
unnamed_declared b given n span semantic_id ps = refl

pub declared_more : (b : ℕ) (given : Option ℕ) (t : Tree) (ts : List Tree) → nodes_of_declared b given (t ∷ ts) ≡ declared_at b given t ++ nodes_of_declared b given ts
declared_more b given (Node Kind.ClassDeclaration n span semantic_id ps) ts = refl
declared_more b given (Node kind n span semantic_id ps) ts = refl

-- they are found among the class declarations alone
pub declared_alone : (b : ℕ) (given : Option ℕ) (ts : List Tree) → nodes_of_declared b given (declarations ts) ≡ nodes_of_declared b given ts
declared_alone b given [] = refl
declared_alone b given (Node Kind.ClassDeclaration n span semantic_id ps ∷ ts) = ap (λ ns. declared_at b given (Node Kind.ClassDeclaration n span semantic_id ps) ++ ns) (declared_alone b given ts)
declared_alone b given (Node kind n span semantic_id ps ∷ ts) = declared_alone b given ts

-- ---- where no key is, none is found

flipped : (n k : ℕ) → nat_eq k n ≡ false → nat_eq n k ≡ false
flipped n k apart = elim (nat_eq n k) as (λ b. nat_eq n k ≡ b → nat_eq n k ≡ false) [
  | true ↦ λ t. ap (λ x. nat_eq n x) (sym (eqb-true n k t)) ∙ ap (λ x. nat_eq x n) (eqb-true n k t) ∙ apart
  | false ↦ λ f. f
] refl

left_false : (a b : Bool) → (a || b) ≡ false → a ≡ false
left_false true b e = absurd (cc)
left_false false b e = refl

right_false : (a b : Bool) → (a || b) ≡ false → b ≡ false
right_false true b e = absurd (cc)
right_false false b e = e

no_class : (n : ℕ) (given : Option ℕ) → is_class_among given (n ∷ []) ≡ false → is_class_of n given ≡ false
no_class n None e = refl
no_class n (Some k) e = flipped n k (left_false (nat_eq k n) false e)

class-append : (given : Option ℕ) (ns ks : List ℕ) → is_class_among given (ns ++ ks) ≡ (is_class_among given ns || is_class_among given ks)
class-append None ns ks = refl
class-append (Some n) ns ks = has_number-append n ns ks

no_key_named : (b : ℕ) (given : Option ℕ) (n : ℕ) (p : Part) → has_number b (cond (is_present p) (identifier_in p) (n ∷ [])) ≡ false → is_class_among given (cond (is_present p) (identifier_in p) (n ∷ [])) ≡ false → (is_identifier b p || (not (is_present p) && is_class_of n given)) ≡ false
no_key_named b given n (child t) no_name no_one = or_false (nat_eq b (number_of t)) ∙ left_false (nat_eq b (number_of t)) false no_name
no_key_named b given n absent no_name no_one = no_class n given no_one
no_key_named b given n (list qs) no_name no_one = refl
no_key_named b given n (string s) no_name no_one = refl
no_key_named b given n no_string no_name no_one = refl
no_key_named b given n (boolean v) no_name no_one = refl
no_key_named b given n (literal v) no_name no_one = refl

not_keyed : (b : ℕ) (given : Option ℕ) (t : Tree) → has_number b (key_of t) ≡ false → is_class_among given (key_of t) ≡ false → is_declared b given t ≡ false
not_keyed b given (Node Kind.ClassDeclaration n span semantic_id ps) no_name no_one = no_key_named b given n (at 0 ps) no_name no_one
not_keyed b given (Node kind n span semantic_id ps) no_name no_one = refl

keyed_nowhere : (b : ℕ) (given : Option ℕ) (ts : List Tree) → has_number b (keys ts) ≡ false → is_class_among given (keys ts) ≡ false → nodes_of_declared b given ts ≡ []
keyed_nowhere b given [] no_name no_one = refl
keyed_nowhere b given (t ∷ ts) no_name no_one =
    let names = sym (has_number-append b (key_of t) (keys ts)) ∙ no_name in
    let ones = sym (class-append given (key_of t) (keys ts)) ∙ no_one in
    declared_more b given t ts
    ∙ ap (λ x. cond x (numbers_of (preorder t)) [] ++ nodes_of_declared b given ts) (not_keyed b given t (left_false (has_number b (key_of t)) (has_number b (keys ts)) names) (left_false (is_class_among given (key_of t)) (is_class_among given (keys ts)) ones))
    ∙ keyed_nowhere b given ts (right_false (has_number b (key_of t)) (has_number b (keys ts)) names) (right_false (is_class_among given (key_of t)) (is_class_among given (keys ts)) ones)

pub declared_nowhere : (b : ℕ) (given : Option ℕ) (ts : List Tree) → has_key b given (keys (declarations ts)) ≡ false → nodes_of_declared b given ts ≡ []
declared_nowhere b given ts none =
    let ks = keys (declarations ts) in
    sym (declared_alone b given ts) ∙ keyed_nowhere b given (declarations ts) (left_false (has_number b ks) (is_class_among given ks) none) (right_false (has_number b ks) (is_class_among given ks) none)
