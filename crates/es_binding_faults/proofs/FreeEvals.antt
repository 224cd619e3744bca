-- The free references to `eval` are those of the resolution.
use Rattle.std.proofs.Common.{◌≡◌, refl, sym, ap, ◌∙◌, ℕ, suc, ◌+◌, List, [], ◌∷◌, ◌++◌, append_assoc, Bool, true, false, cond, not, ◌||◌, Option, Some, None, arith}
use Rattle.std.specs.Prelude.{bytes_eq, codes, ◌&&◌}
use Rattle.std.proofs.lemmas.Slice.Eq.{bytes_eq-Decides}
use Rattle.es_base.specs.Table.{Field, members_of}
use Rattle.es_base.specs.Tree.{Tree, Part, Parts, Node, end, more, child, absent, list, string, no_string, boolean, literal}
use Rattle.es_steps.specs.Parts.{at, string_of}
use Rattle.es_steps.specs.References.{Reference, declared, referent, is_declared, is_free, is_reference, is_target, reference, references, references_in, part_references, item_references, resolve}
use Rattle.es_steps.specs.Scopes.{Declaration, names_at, is_body_part}
use Rattle.es_validity.specs.Facts.{free_evals}
use Rattle.es_binding_faults.specs.Evals.{declares_eval, declared_in, free_eval, free_evals_in, free_evals_from, free_evals_at, free_evals_of}

-- ---- what a name refers to

grouped : (a b c : Bool) → (a || (b || c)) ≡ ((a || b) || c)
grouped true b c = refl
grouped false b c = refl

pub is_declared-append : (s : List ℕ) (ds es : List Declaration) → is_declared s (ds ++ es) ≡ (is_declared s ds || is_declared s es)
is_declared-append s [] es = refl
is_declared-append s (d ∷ ds) es = ap (λ b. bytes_eq s d.spelling || b) (is_declared-append s ds es) ∙ grouped (bytes_eq s d.spelling) (is_declared s ds) (is_declared s es)

refers : (s : List ℕ) (ds : List Declaration) → is_free s (referent s (declared s ds)) ≡ not (is_declared s ds)
refers s [] = (bytes_eq-Decides s s).1 refl
refers s (d ∷ ds) = elim (bytes_eq s d.spelling) as (λ b. is_free s (referent s (cond b (Some d) (declared s ds))) ≡ not (b || is_declared s ds)) [ true ↦ refl | false ↦ refers s ds ]

not_free : (e s : List ℕ) (o : Option Declaration) → bytes_eq e s ≡ false → is_free e (referent s o) ≡ false
not_free e s None apart = apart
not_free e s (Some d) apart = refl

and_true : (b : Bool) → b ≡ (b && true)
and_true true = refl
and_true false = refl

and_false : (b : Bool) → false ≡ (b && false)
and_false true = refl
and_false false = refl

free_reference : (e s : List ℕ) (ds : List Declaration) → is_free e (referent s (declared s ds)) ≡ (not (is_declared e ds) && bytes_eq e s)
free_reference e s ds = by (bytes_eq e s) refl
  where
    by : (b : Bool) → bytes_eq e s ≡ b → is_free e (referent s (declared s ds)) ≡ (not (is_declared e ds) && bytes_eq e s)
    by true same = ap (λ x. is_free e (referent x (declared x ds))) (sym ((bytes_eq-Decides e s).0 same)) ∙ refers e ds ∙ and_true (not (is_declared e ds)) ∙ ap (λ b. not (is_declared e ds) && b) (sym same)
    by false apart = not_free e s (declared s ds) apart ∙ and_false (not (is_declared e ds)) ∙ ap (λ b. not (is_declared e ds) && b) (sym apart)

-- ---- of a tree

free_evals-append : (xs ys : List Reference) → free_evals (xs ++ ys) ≡ free_evals xs ++ free_evals ys
free_evals-append [] ys = refl
free_evals-append (r ∷ xs) ys = ap (λ ns. cond (is_free (codes "eval") r.to) (r.number ∷ []) [] ++ ns) (free_evals-append xs ys) ∙ sym (append_assoc (cond (is_free (codes "eval") r.to) (r.number ∷ []) []) (free_evals xs) (free_evals ys))

one_free : (names : List Declaration) (target : Bool) (m : ℕ) (ps : Parts) → free_evals (reference names target m (string_of (at 0 ps))) ≡ free_eval (declares_eval names) m ps
one_free names target m ps = ap (λ b. cond b (m ∷ []) [] ++ []) (free_reference (codes "eval") (string_of (at 0 ps)) names) ∙ nothing_more (not (declares_eval names) && bytes_eq (codes "eval") (string_of (at 0 ps)))
  where
    nothing_more : (b : Bool) → cond b (m ∷ []) [] ++ [] ≡ cond b (m ∷ []) []
    nothing_more true = refl
    nothing_more false = refl

either : (b : Bool) (xs ys : List Reference) (ns ms : List ℕ) → free_evals xs ≡ ns → free_evals ys ≡ ms → free_evals (cond b xs ys) ≡ cond b ns ms
either true xs ys ns ms e f = e
either false xs ys ns ms e f = f

mutual
  pub free_evals-references : (names : List Declaration) (target is_body : Bool) (t : Tree) → free_evals (references names target is_body t) ≡ free_evals_in (declares_eval names) is_body t
  free_evals-references names target is_body (Node kind m span semantic_id ps) =
      either (is_reference kind) (reference names target m (string_of (at 0 ps))) (references_in (λ i. names_at is_body kind m ps i ++ names) (is_body_part kind) (members_of kind) ps) (free_eval (declares_eval names) m ps) (free_evals_from (declared_in (declares_eval names) is_body kind m ps) (is_body_part kind) 0 (members_of kind) ps)
      (one_free names target m ps)
      (free_evals-references_in (λ i. names_at is_body kind m ps i ++ names) (is_body_part kind) (declared_in (declares_eval names) is_body kind m ps) (is_body_part kind) 0 (members_of kind) ps
      (λ k. is_declared-append (codes "eval") (names_at is_body kind m ps k) names ∙ ap (declared_in (declares_eval names) is_body kind m ps) (from_zero k)) (λ k. ap (is_body_part kind) (from_zero k)))
    where
      from_zero : (k : ℕ) → k ≡ 0 + k
      from_zero k = omega arith

  free_evals-references_in : (names : ℕ → List Declaration) (parts : ℕ → Bool) (seen bodies : ℕ → Bool) (i : ℕ) (fs : List Field) (ps : Parts) → ((k : ℕ) → declares_eval (names k) ≡ seen (i + k)) → ((k : ℕ) → parts k ≡ bodies (i + k))
      → free_evals (references_in names parts fs ps) ≡ free_evals_from seen bodies i fs ps
  free_evals-references_in names parts seen bodies i fs end same are = refl
  free_evals-references_in names parts seen bodies i [] (more p ps) same are = refl
  free_evals-references_in names parts seen bodies i (f ∷ fs) (more p ps) same are =
      free_evals-append (part_references (names 0) (is_target f.sort) (parts 0) p) (references_in (λ k. names (suc k)) (λ k. parts (suc k)) fs ps)
      ∙ ap (λ (ns : List ℕ). ns ++ free_evals (references_in (λ k. names (suc k)) (λ k. parts (suc k)) fs ps))
      (free_evals-part (names 0) (is_target f.sort) (parts 0) p ∙ ap (λ b. free_evals_at b (parts 0) p) (same 0 ∙ ap seen (at_once i)) ∙ ap (λ b. free_evals_at (seen i) b p) (are 0 ∙ ap bodies (at_once i)))
      ∙ ap (λ (ns : List ℕ). free_evals_at (seen i) (bodies i) p ++ ns) (free_evals-references_in (λ k. names (suc k)) (λ k. parts (suc k)) seen bodies (i + 1) fs ps (λ k. same (suc k) ∙ ap seen (one_on i k)) (λ k. are (suc k) ∙ ap bodies (one_on i k)))
    where
      at_once : (i : ℕ) → i + 0 ≡ i
      at_once i = omega arith

      one_on : (i k : ℕ) → i + suc k ≡ (i + 1) + k
      one_on i k = omega arith

  free_evals-part : (names : List Declaration) (target is_body : Bool) (p : Part) → free_evals (part_references names target is_body p) ≡ free_evals_at (declares_eval names) is_body p
  free_evals-part names target is_body (child t) = free_evals-references names target is_body t
  free_evals-part names target is_body absent = refl
  free_evals-part names target is_body (list ps) = free_evals-items names target ps
  free_evals-part names target is_body (string s) = refl
  free_evals-part names target is_body no_string = refl
  free_evals-part names target is_body (boolean b) = refl
  free_evals-part names target is_body (literal v) = refl

  free_evals-items : (names : List Declaration) (target : Bool) (ps : Parts) → free_evals (item_references names target ps) ≡ free_evals_of (declares_eval names) ps
  free_evals-items names target end = refl
  free_evals-items names target (more p ps) =
      free_evals-append (part_references names target false p) (item_references names target ps)
      ∙ ap (λ (ns : List ℕ). ns ++ free_evals (item_references names target ps)) (free_evals-part names target false p)
      ∙ ap (λ (ns : List ℕ). free_evals_at (declares_eval names) false p ++ ns) (free_evals-items names target ps)

pub free_evals-resolve : (t : Tree) → free_evals (resolve t) ≡ free_evals_in false false t
free_evals-resolve t = free_evals-references [] false false t
