-- Tests that generated names are not `name`, node by node.
use Rattle.std.proofs.Common.{◌≡◌, refl, sym, ap, ◌∙◌, ℕ, List, [], ◌∷◌, ◌++◌, Bool, true, false, cond, ◌&&◌, bytes_eq, codes, Option, Some, None}
use Rattle.std.specs.Prelude.{is_some}
use Rattle.es_base.specs.Tree.{Tree, Part, Node, end, more, child, literal, string}
use Rattle.es_base.specs.declared.kind.Kind.{Kind}
use Rattle.es_base.specs.declared.ledger.LedgerEntry.{LedgerEntry}
use Rattle.es_base.specs.declared.literal.LiteralValue.{LiteralValue}
use Rattle.es_base.specs.declared.literal.LiteralValue.TheVariants as literal_value
use Rattle.es_lowered.specs.Definitions.{spelling}
use Rattle.es_lowered.specs.HelperCalls.{StaticKey, behind_tests, both_tests, is_name, is_name_literal, not_among, tests_at, tests_of}
use Rattle.es_node.specs.View.{kind_of}
use Rattle.es_owed_calls.specs.Tests.{behind, is_name_test, tested_at, tested_in}
use Rattle.es_steps.specs.Values.{String}

-- ---- literals

pub name_literal : (m : ℕ) (span : Option (ℕ × ℕ)) (semantic_id : Option ℕ) (v : LiteralValue) → is_name_literal (child (Node Kind.Literal m span semantic_id (more (literal v) end))) ≡ is_name_literal (child (Node Kind.Literal 0 None None (more (literal v) end)))
name_literal m span semantic_id (literal_value.String s raw) = refl
name_literal m span semantic_id v = refl

pub no_name_literal : (t : Tree) → (kind_of t ≡ Kind.Literal → ⊥) → is_name_literal (child t) ≡ false
no_name_literal (Node Kind.Literal m span semantic_id ps) other = absurd (other refl)
no_name_literal (Node kind m span semantic_id ps) other = refl

-- ---- tests

both_some : (ss ts : Option (List String)) → is_some (both_tests ss ts) ≡ (is_some ss && is_some ts)
both_some (Some ss) (Some ts) = refl
both_some (Some ss) None = refl
both_some None ts = refl

some_if : (b : Bool) (ss : Option (List String)) → is_some (cond b ss None) ≡ (b && is_some ss)
some_if true ss = refl
some_if false ss = refl

and_true : (b : Bool) → (b && true) ≡ b
and_true true = refl
and_true false = refl

module _ (first : ℕ) (ledger : List LedgerEntry) where
  pub logical_test : (m : ℕ) (span : Option (ℕ × ℕ)) (semantic_id : Option ℕ) (s : String) (l r : Tree) → is_some (tests_of first ledger (Node Kind.LogicalExpression m span semantic_id (more (string s) (more (child l) (more (child r) end))))) ≡ (bytes_eq s (codes "&&") && (is_some (tests_of first ledger l) && is_some (tests_of first ledger r)))
  logical_test m span semantic_id s l r = some_if (bytes_eq s (codes "&&")) (both_tests (tests_of first ledger l) (tests_of first ledger r)) ∙ ap (λ b. bytes_eq s (codes "&&") && b) (both_some (tests_of first ledger l) (tests_of first ledger r))

  pub name_test : (m : ℕ) (span : Option (ℕ × ℕ)) (semantic_id : Option ℕ) (s : String) (l r : Tree) → is_some (tests_of first ledger (Node Kind.BinaryExpression m span semantic_id (more (string s) (more (child l) (more (child r) end))))) ≡ is_name_test ledger s (child l) (child r)
  name_test m span semantic_id s l r = some_if (is_name_test ledger s (child l) (child r)) (Some (spelling (child l) ∷ [])) ∙ and_true (is_name_test ledger s (child l) (child r))

  pub no_test : (t : Tree) → (kind_of t ≡ Kind.LogicalExpression → ⊥) → (kind_of t ≡ Kind.BinaryExpression → ⊥) → tests_of first ledger t ≡ None
  no_test (Node Kind.LogicalExpression m span semantic_id ps) a b = absurd (a refl)
  no_test (Node Kind.BinaryExpression m span semantic_id ps) a b = absurd (b refl)
  no_test (Node kind m span semantic_id ps) a b = refl

  pub both_tested : (t : Tree) (m : ℕ) (span : Option (ℕ × ℕ)) (s : String) (l r : Tree) (b : Bool) → t ≡ Node Kind.LogicalExpression m span None (more (string s) (more (child l) (more (child r) end))) → b ≡ (bytes_eq s (codes "&&") && (is_some (tests_of first ledger l) && is_some (tests_of first ledger r))) → b ≡ is_some (tests_of first ledger t)
  both_tested t m span s l r b is both = both ∙ sym (ap (λ u. is_some (tests_of first ledger u)) is ∙ logical_test m span None s l r)

  -- ---- the names that are tested

  if_test : (b : Bool) (s : String) → is_some (cond b (Some (s ∷ [])) None) ≡ true → cond b (Some (s ∷ [])) None ≡ Some (cond b (s ∷ []) [])
  if_test true s is = refl
  if_test false s is = absurd (cc)

  both_if : (b : Bool) (ss ts : Option (List String)) (us vs : List String) → (is_some ss ≡ true → ss ≡ Some us) → (is_some ts ≡ true → ts ≡ Some vs) → is_some (cond b (both_tests ss ts) None) ≡ true → cond b (both_tests ss ts) None ≡ Some (cond b (us ++ vs) [])
  both_if false ss ts us vs left right is = absurd (cc)
  both_if true None ts us vs left right is = absurd (cc)
  both_if true (Some ss) None us vs left right is = absurd (cc)
  both_if true (Some ss) (Some ts) us vs left right is = ap (λ x. both_tests x (Some ts)) (left refl) ∙ ap (λ x. both_tests (Some us) x) (right refl)

  mutual
    tested : (t : Tree) → is_some (tests_of first ledger t) ≡ true → tests_of first ledger t ≡ Some (tested_in ledger t)
    tested (Node Kind.LogicalExpression m span semantic_id (more (string s) (more l (more r end)))) is = both_if (bytes_eq s (codes "&&")) (tests_at first ledger l) (tests_at first ledger r) (tested_at ledger l) (tested_at ledger r) (tested_part l) (tested_part r) is
    tested (Node Kind.BinaryExpression m span semantic_id (more (string s) (more l (more r end)))) is = if_test (is_name_test ledger s l r) (spelling l) is
    tested t is = absurd (cc)

    tested_part : (p : Part) → is_some (tests_at first ledger p) ≡ true → tests_at first ledger p ≡ Some (tested_at ledger p)
    tested_part (child t) is = tested t is
    tested_part p is = absurd (cc)

  -- ---- keys behind tests

  behind_some : (ss : List String) (ks : List StaticKey) → behind_tests (Some ss) ks ≡ behind ss ks
  behind_some ss [] = refl
  behind_some ss (k ∷ ks) = ap (λ r. not_among ss k ++ r) (behind_some ss ks)

  behind_none : (ss : Option (List String)) (ks : List StaticKey) → is_some ss ≡ false → behind_tests ss ks ≡ is_name ∷ []
  behind_none None ks none = refl
  behind_none (Some ss) ks none = absurd (cc)

  pub behind_no_test : (t : Tree) (ks : List StaticKey) → is_some (tests_of first ledger t) ≡ false → behind_tests (tests_of first ledger t) ks ≡ is_name ∷ []
  behind_no_test t ks none = behind_none (tests_of first ledger t) ks none

  pub behind_test : (t : Tree) (ks : List StaticKey) → is_some (tests_of first ledger t) ≡ true → behind_tests (tests_of first ledger t) ks ≡ behind (tested_in ledger t) ks
  behind_test t ks is = ap (λ ss. behind_tests ss ks) (tested t is) ∙ behind_some (tested_in ledger t) ks

pub tests_nothing : (ledger : List LedgerEntry) (t : Tree) → (kind_of t ≡ Kind.LogicalExpression → ⊥) → (kind_of t ≡ Kind.BinaryExpression → ⊥) → tested_in ledger t ≡ []
tests_nothing ledger (Node Kind.LogicalExpression m span semantic_id ps) a b = absurd (a refl)
tests_nothing ledger (Node Kind.BinaryExpression m span semantic_id ps) a b = absurd (b refl)
tests_nothing ledger (Node kind m span semantic_id ps) a b = refl
