-- The marks of a program, node by node.
use Rattle.std.proofs.Common.{◌≡◌, refl, sym, ap, ◌∙◌, ℕ, zero, suc, ◌+◌, List, [], ◌∷◌, ◌++◌, append-nil, drop, nat_eq, bytes_eq, codes, Bool, true, false, cond, ◌&&◌, Option, Some, None, arith}
use Rattle.std.proofs.Math.Bool.{and-false}
use Rattle.std.specs.Prelude.{not}
use Rattle.es_base.specs.Tree.{Tree, Part, Parts, Node, end, more, child, list}
use Rattle.es_base.specs.declared.kind.Kind.{Kind}
use Rattle.es_node.specs.View.{kind_of, number_in, part_of, parts_in, parts_of}
use Rattle.es_node.specs.declared.node.Part as code
use Rattle.es_lowered.specs.Definitions.{spelling}
use Rattle.es_lowered.specs.HelperCalls.{runs_with_class}
use Rattle.es_lowered.specs.Timely.{Around, Mark, MarkForm, declares, is_same, is_spelled, leads}
use Rattle.es_steps.specs.Parts.{at, string_of}
use Rattle.es_steps.specs.PrivateNames.{is_element}
use Rattle.es_steps.specs.References.{has_number}
use Rattle.es_steps.specs.Repeated.{is_arrow}
use Rattle.es_steps.specs.Scopes.{is_let}
use Rattle.es_owed_timely.specs.Search.{key_marks, let_form, marks, marks_at, marks_before, marks_behind, marks_in, value_marks}
use Rattle.es_owed_timely.specs.Walk.{around_at, body_marks, gives_name, key_mark, marks_from, marks_inside, parts_from, value_mark}
use Rattle.es_owed_timely.specs.declared.terms.Search.{Search}

at_once : (i : ℕ) → i + 0 ≡ i
at_once i = omega arith

one_on : (i k : ℕ) → i + suc k ≡ (i + 1) + k
one_on i k = omega arith

from_zero : (k : ℕ) → k ≡ 0 + k
from_zero k = omega arith

from_one : (k : ℕ) → suc k ≡ 1 + k
from_one k = omega arith

-- ---- parts from one on

pub dropped : (xs : List code.Part) (i : ℕ) → parts_of (drop i xs) ≡ parts_from i (parts_of xs)
dropped xs zero = refl
dropped [] (suc i) = refl
dropped (x ∷ xs) (suc i) = dropped xs i

module _ (s : Search) where
  pub marks_node : (x : Around) (in_let : Option MarkForm) (t : Tree) → marks s x in_let t ≡ (marks_before s x (kind_of t) (number_in t) (parts_in t) ++ marks_inside s x t) ++ marks_behind s x in_let (kind_of t) (number_in t) (parts_in t)
  marks_node x in_let (Node kind m span semantic_id ps) = refl

  place : (y x : ℕ → Around) (given : ℕ → Bool) (gives : Bool) (in_let : Option MarkForm) (i : ℕ) (ps : Parts) → ((k : ℕ) → y k ≡ x (i + k)) → ((k : ℕ) → given k ≡ (nat_eq (i + k) 1 && gives)) → marks_in s false false y given in_let ps ≡ marks_from s x gives in_let i ps
  place y x given gives in_let i end same names = refl
  place y x given gives in_let i (more p ps) same names =
      let rest = marks_in s false false (λ k. y (suc k)) (λ k. given (suc k)) in_let ps in
      ap (λ (z : Around). cond (given 0) [] (marks_at s z in_let p) ++ rest) (same 0 ∙ ap x (at_once i))
      ∙ ap (λ (b : Bool). cond b [] (marks_at s (x i) in_let p) ++ rest) (names 0 ∙ ap (λ (k : ℕ). nat_eq k 1 && gives) (at_once i))
      ∙ ap (λ (ms : List Mark). cond (nat_eq i 1 && gives) [] (marks_at s (x i) in_let p) ++ ms) (place (λ k. y (suc k)) x (λ k. given (suc k)) gives in_let (i + 1) ps (λ k. same (suc k) ∙ ap x (one_on i k)) (λ k. names (suc k) ∙ ap (λ (n : ℕ). nat_eq n 1 && gives) (one_on i k)))

  whole : (x : ℕ → Around) (given : ℕ → Bool) (gives : Bool) (in_let : Option MarkForm) (ps : Parts) → ((k : ℕ) → given k ≡ (nat_eq k 1 && gives)) → marks_in s false false x given in_let ps ≡ marks_from s x gives in_let 0 ps
  whole x given gives in_let ps names = place x x given gives in_let 0 ps (λ k. ap x (from_zero k)) (λ k. names k ∙ ap (λ (n : ℕ). nat_eq n 1 && gives) (from_zero k))

  -- those behind the first, none of which is given a value
  behind_first : (x : ℕ → Around) (in_let : Option MarkForm) (ps : Parts) → marks_in s false false (λ k. x (suc k)) (λ k. false) in_let ps ≡ marks_from s x false in_let 1 ps
  behind_first x in_let ps = place (λ k. x (suc k)) x (λ k. false) false in_let 1 ps (λ k. ap x (from_one k)) (λ k. sym (and-false (nat_eq (1 + k) 1)))

  pub inside_body : (x : Around) (t : Tree) (m : ℕ) (span : Option (ℕ × ℕ)) (semantic_id : Option ℕ) (es : Parts) → t ≡ Node Kind.ClassBody m span semantic_id (more (list es) end) → marks_inside s x t ≡ body_marks s (around_at s x t 0) es
  inside_body x t m span semantic_id es is =
      ap (λ (u : Tree). marks_inside s x u) is
      ∙ append-nil (body_marks s (around_at s x (Node Kind.ClassBody m span semantic_id (more (list es) end)) 0) es)
      ∙ ap (λ (u : Tree). body_marks s (around_at s x u 0) es) (sym is)

  pub inside_other : (x : Around) (t : Tree) → (kind_of t ≡ Kind.ClassBody → ⊥) → (kind_of t ≡ Kind.CallExpression → ⊥) → marks_inside s x t ≡ marks_from s (around_at s x t) (gives_name (kind_of t) (parts_in t)) (let_form s (kind_of t) (number_in t) (parts_in t)) 0 (parts_in t)
  inside_other x (Node Kind.ClassBody m span semantic_id ps) a b = absurd (a refl)
  inside_other x (Node Kind.CallExpression m span semantic_id ps) a b = absurd (b refl)
  inside_other x (Node Kind.AssignmentExpression m span semantic_id ps) a b =
      whole (around_at s x (Node Kind.AssignmentExpression m span semantic_id ps)) (λ i. nat_eq i 1 && gives_name Kind.AssignmentExpression ps) (gives_name Kind.AssignmentExpression ps) None ps (λ k. refl)
  inside_other x (Node kind m span semantic_id ps) a b =
      whole (around_at s x (Node kind m span semantic_id ps)) (λ i. false) false (let_form s kind m ps) ps (λ k. sym (and-false (nat_eq k 1)))

  -- ---- calls

  arrow_behind : (x : Around) (m : ℕ) (span : Option (ℕ × ℕ)) (semantic_id : Option ℕ) (t : Tree) (ps : Parts) → is_arrow (kind_of t) ≡ true → marks_inside s x (Node Kind.CallExpression m span semantic_id (more (child t) ps)) ≡ marks_from s (around_at s x (Node Kind.CallExpression m span semantic_id (more (child t) ps))) false None 1 ps ++ marks s (around_at s x (Node Kind.CallExpression m span semantic_id (more (child t) ps)) 0) None t
  arrow_behind x m span semantic_id (Node Kind.ArrowFunctionExpression k kspan k_semantic_id ks) ps is =
      let call = Node Kind.CallExpression m span semantic_id (more (child (Node Kind.ArrowFunctionExpression k kspan k_semantic_id ks)) ps) in
      ap (λ (ms : List Mark). ms ++ marks s (around_at s x call 0) None (Node Kind.ArrowFunctionExpression k kspan k_semantic_id ks)) (behind_first (around_at s x call) None ps)
  arrow_behind x m span semantic_id (Node kind k kspan k_semantic_id ks) ps is = absurd (cc)

  other_in_front : (x : Around) (m : ℕ) (span : Option (ℕ × ℕ)) (semantic_id : Option ℕ) (t : Tree) (ps : Parts) → is_arrow (kind_of t) ≡ false → marks_inside s x (Node Kind.CallExpression m span semantic_id (more (child t) ps)) ≡ marks_from s (around_at s x (Node Kind.CallExpression m span semantic_id (more (child t) ps))) false None 0 (more (child t) ps)
  other_in_front x m span semantic_id (Node Kind.ArrowFunctionExpression k kspan k_semantic_id ks) ps is = absurd (cc)
  other_in_front x m span semantic_id (Node kind k kspan k_semantic_id ks) ps is =
      whole (around_at s x (Node Kind.CallExpression m span semantic_id (more (child (Node kind k kspan k_semantic_id ks)) ps))) (λ i. false) false None (more (child (Node kind k kspan k_semantic_id ks)) ps) (λ k. sym (and-false (nat_eq k 1)))

  pub called_arrow : (x : Around) (call : Tree) (m : ℕ) (span : Option (ℕ × ℕ)) (semantic_id : Option ℕ) (t : Tree) (ps : Parts) → call ≡ Node Kind.CallExpression m span semantic_id (more (child t) ps) → is_arrow (kind_of t) ≡ true → marks_inside s x call ≡ marks_from s (around_at s x call) false None 1 (parts_from 1 (parts_in call)) ++ marks s (around_at s x call 0) None t
  called_arrow x call m span semantic_id t ps is arrow =
      ap (λ (u : Tree). marks_inside s x u) is
      ∙ arrow_behind x m span semantic_id t ps arrow
      ∙ ap (λ (u : Tree). marks_from s (around_at s x u) false None 1 (parts_from 1 (parts_in u)) ++ marks s (around_at s x u 0) None t) (sym is)

  pub called_other : (x : Around) (call : Tree) (m : ℕ) (span : Option (ℕ × ℕ)) (semantic_id : Option ℕ) (t : Tree) (ps : Parts) → call ≡ Node Kind.CallExpression m span semantic_id (more (child t) ps) → is_arrow (kind_of t) ≡ false → marks_inside s x call ≡ marks_from s (around_at s x call) false None 0 (parts_in call)
  called_other x call m span semantic_id t ps is other =
      ap (λ (u : Tree). marks_inside s x u) is
      ∙ other_in_front x m span semantic_id t ps other
      ∙ ap (λ (u : Tree). marks_from s (around_at s x u) false None 0 (parts_in u)) (sym is)

  -- ---- elements

  pub keys_more : (x : Around) (t : Tree) (es : Parts) → key_marks s x (more (child t) es) ≡ key_mark s x t ++ key_marks s x es
  keys_more x (Node kind m span semantic_id end) es = refl
  keys_more x (Node kind m span semantic_id (more k ps)) es = refl

  flipped : (b : Bool) (ms : List Mark) → cond b ms [] ≡ cond (not b) [] ms
  flipped true ms = refl
  flipped false ms = refl

  pub key_first : (x : Around) (t : Tree) (k : Part) (ps : Parts) → parts_in t ≡ more k ps → key_mark s x t ≡ cond (not (is_element (kind_of t))) [] (marks_at s (around_at s x t 0) None k)
  key_first x (Node kind m span semantic_id qs) k ps is =
      ap (λ (rs : Parts). key_mark s x (Node kind m span semantic_id rs)) is
      ∙ flipped (is_element kind) (marks_at s (around_at s x (Node kind m span semantic_id (more k ps)) 0) None k)
      ∙ ap (λ (rs : Parts). cond (not (is_element kind)) [] (marks_at s (around_at s x (Node kind m span semantic_id rs) 0) None k)) (sym is)

  pub key_none : (x : Around) (t : Tree) → parts_in t ≡ end → key_mark s x t ≡ []
  key_none x (Node kind m span semantic_id qs) is = ap (λ (rs : Parts). key_mark s x (Node kind m span semantic_id rs)) is

  pub value_node : (runs : Bool) (x : Around) (t : Tree) → value_mark s runs x t ≡ cond (is_same runs (runs_with_class (child t))) (cond (is_element (kind_of t)) (marks_from s (around_at s x t) false None 1 (parts_from 1 (parts_in t))) (marks_from s (around_at s x t) false None 0 (parts_in t))) []
  value_node runs x (Node kind m span semantic_id ps) = refl

  nothing : (a b : Bool) (ms : List Mark) → cond a (cond b [] []) [] ++ ms ≡ ms
  nothing true true ms = refl
  nothing true false ms = refl
  nothing false true ms = refl
  nothing false false ms = refl

  chosen : (is_element : Bool) (first rest : List Mark) → cond is_element [] first ++ rest ≡ cond is_element rest (first ++ rest)
  chosen true first rest = refl
  chosen false first rest = refl

  pub values_more : (runs : Bool) (x : Around) (t : Tree) (es : Parts) → value_marks s runs x (more (child t) es) ≡ value_mark s runs x t ++ value_marks s runs x es
  values_more runs x (Node kind m span semantic_id end) es = sym (nothing (is_same runs (runs_with_class (child (Node kind m span semantic_id end)))) (is_element kind) (value_marks s runs x es))
  values_more runs x (Node kind m span semantic_id (more k ps)) es =
      let t = Node kind m span semantic_id (more k ps) in
      ap (λ (ms : List Mark). cond (is_same runs (runs_with_class (child t))) ms [] ++ value_marks s runs x es)
      (ap (λ (ms : List Mark). cond (is_element kind) [] (marks_at s (around_at s x t 0) None k) ++ ms) (behind_first (around_at s x t) None ps)
      ∙ chosen (is_element kind) (marks_at s (around_at s x t 0) None k) (marks_from s (around_at s x t) false None 1 ps))

  -- ---- at a node

  pub let_of : (kind : Kind) (m : ℕ) (ps : Parts) → kind ≡ Kind.VariableDeclaration → let_form s kind m ps ≡ cond (is_let ps) (Some (cond (has_number m s.leading.now) leads declares)) None
  let_of kind m ps is = ap (λ k. let_form s k m ps) is

  pub no_let : (kind : Kind) (m : ℕ) (ps : Parts) → (kind ≡ Kind.VariableDeclaration → ⊥) → let_form s kind m ps ≡ None
  no_let Kind.VariableDeclaration m ps other = absurd (other refl)
  no_let kind m ps other = refl

  -- ---- the next part

  pub next_part : (within : ℕ → Around) (gives : Bool) (in_let : Option MarkForm) (i : ℕ) (x : code.Part) (xs : List code.Part) → marks_from s within gives in_let i (parts_of (x ∷ xs)) ≡ cond (nat_eq i 1 && gives) [] (marks_at s (within i) in_let (part_of x)) ++ marks_from s within gives in_let (i + 1) (parts_of xs)
  next_part within gives in_let i x xs = refl

pub gives_by_kind : (kind : Kind) (ps : Parts) → kind ≡ Kind.AssignmentExpression → gives_name kind ps ≡ (bytes_eq (string_of (at 0 ps)) (codes "=") && is_spelled (spelling (at 1 ps)))
gives_by_kind kind ps is = ap (λ k. gives_name k ps) is

pub gives_none : (kind : Kind) (ps : Parts) → (kind ≡ Kind.AssignmentExpression → ⊥) → gives_name kind ps ≡ false
gives_none Kind.AssignmentExpression ps other = absurd (other refl)
gives_none kind ps other = refl
