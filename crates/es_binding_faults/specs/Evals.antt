-- References to the free name `eval`, where it is known whether that name is declared around.
use Rattle.std.specs.Prelude.{ℕ, ◌+◌, List, [], ◌∷◌, ◌++◌, Bool, false, cond, not, ◌&&◌, ◌||◌, bytes_eq, codes}
use Rattle.es_base.specs.Table.{Field, members_of}
use Rattle.es_base.specs.Tree.{Tree, Part, Parts, Node, end, more, child, list}
use Rattle.es_base.specs.declared.kind.Kind.{Kind}
use Rattle.es_steps.specs.Parts.{at, string_of}
use Rattle.es_steps.specs.References.{is_reference, is_declared}
use Rattle.es_steps.specs.Scopes.{Declaration, names_at, is_body_part}
use Rattle.es_validity.specs.Facts.{is_eval}

abbrev pub declares_eval : List Declaration → Bool
declares_eval ds = is_declared (codes "eval") ds

-- whether `eval` is declared in what the i-th part of a node sees
abbrev pub declared_in : Bool → Bool → Kind → ℕ → Parts → ℕ → Bool
declared_in declared is_body kind m ps i = declares_eval (names_at is_body kind m ps i) || declared

abbrev pub free_eval : Bool → ℕ → Parts → List ℕ
free_eval declared m ps = cond (not declared && bytes_eq (codes "eval") (string_of (at 0 ps))) (m ∷ []) []

abbrev mutual
  pub free_evals_in : Bool → Bool → Tree → List ℕ
  free_evals_in declared is_body (Node kind m span semantic_id ps) = cond (is_reference kind) (free_eval declared m ps) (free_evals_from (declared_in declared is_body kind m ps) (is_body_part kind) 0 (members_of kind) ps)

  -- of the parts from the i-th on, which have these members
  pub free_evals_from : (ℕ → Bool) → (ℕ → Bool) → ℕ → List Field → Parts → List ℕ
  free_evals_from declared bodies i fs end = []
  free_evals_from declared bodies i [] (more p ps) = []
  free_evals_from declared bodies i (f ∷ fs) (more p ps) = free_evals_at (declared i) (bodies i) p ++ free_evals_from declared bodies (i + 1) fs ps

  pub free_evals_at : Bool → Bool → Part → List ℕ
  free_evals_at declared is_body (child t) = free_evals_in declared is_body t
  free_evals_at declared is_body (list ps) = free_evals_of declared ps
  free_evals_at declared is_body p = []

  pub free_evals_of : Bool → Parts → List ℕ
  free_evals_of declared end = []
  free_evals_of declared (more p ps) = free_evals_at declared false p ++ free_evals_of declared ps

-- ---- calls

abbrev pub is_eval_call : List ℕ → Tree → Bool
is_eval_call evals (Node Kind.CallExpression m span semantic_id ps) = is_eval evals (at 0 ps)
is_eval_call evals t = false

-- ---- whether there is any

abbrev pub is_eval_reference : Tree → Bool
is_eval_reference (Node kind m span semantic_id ps) = is_reference kind && bytes_eq (codes "eval") (string_of (at 0 ps))

abbrev pub spells_eval : List Tree → Bool
spells_eval [] = false
spells_eval (t ∷ ts) = is_eval_reference t || spells_eval ts
