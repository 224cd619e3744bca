-- What references refer to, and which bindings are written, follow a change of numbers.
use Rattle.std.specs.Prelude.{◌≡◌, ℕ, suc, List, [], ◌∷◌, ◌++◌, ◌||◌, map, Bool, cond, true, false, bytes_eq, codes, Option, Some, None}
use Rattle.std.proofs.Common.{refl, ap, ap₂, ◌∙◌}
use Rattle.es_base.specs.Conforms.{is_among}
use Rattle.es_base.specs.Preorder.{preorder}
use Rattle.es_base.specs.Table.{Field, members_of}
use Rattle.es_base.specs.Tree.{Tree, Part, Parts, Node, end, more, child, list}
use Rattle.es_base.specs.declared.kind.Kind.{Kind}
use Rattle.es_steps.specs.Parts.{at, items, string_of}
use Rattle.es_steps.specs.References.{declared, referent, Reference, is_target, is_reference, reference, references, references_in, part_references, item_references, resolve, has_number, numbers_of, if_bound, assigned, is_declared, repeated, is_for_each, written_by, written_by_all, written, named_arguments, changing_by, changing_in, caught_again, caught_again_in, bound_spelling, function_name, function_names, case_functions, inner_functions, meant, catches_a_name, names_around, takes_vars, uncaught_at, given_around, given_in, given_at, given_of, changed_otherwise, gives_inside, changes_free, varying, is_free, writes_free}
use Rattle.es_steps.specs.Scopes.{Declaration, no_class, bound_part, names_at, is_body_part, scope_form, scope_names, var_part}
use Rattle.es_steps.specs.Values.{String, Referent, Bound, Free}
use Rattle.es_steps.proofs.Mapped.{mapped, mapped_part, mapped_parts, mapped_declaration, mapped_declarations, mapped_option, mapped_reference, mapped_referent, Renames}
use Rattle.es_steps.proofs.PartsMapped.{cond-mapped, append-mapped, at-mapped, items_at-mapped, string_at-mapped, preorder-mapped}
use Rattle.es_steps.proofs.ScopesMapped.{bound_part-mapped, bound_at-mapped, is_declaring_at-mapped, names_at-mapped, scope_names-mapped, var_part-mapped}

module _ (f : ℕ → ℕ) where
  -- ---- resolution

  pub declared-mapped : (s : String) (ds : List Declaration) → declared s (mapped_declarations f ds) ≡ mapped_option (mapped_declaration f) (declared s ds)
  declared-mapped s [] = refl
  declared-mapped s (d ∷ ds) = cond-mapped (mapped_option (mapped_declaration f)) (bytes_eq s d.spelling) _ _ refl (declared-mapped s ds)

  pub referent-mapped : (s : String) (d : Option Declaration) → referent s (mapped_option (mapped_declaration f) d) ≡ mapped_referent f (referent s d)
  referent-mapped s None = refl
  referent-mapped s (Some d) = refl

  reference-mapped : (names : List Declaration) (target : Bool) (m : ℕ) (s : String) → reference (mapped_declarations f names) target (f m) s ≡ map (mapped_reference f) (reference names target m s)
  reference-mapped names target m s = rw (declared-mapped s names, referent-mapped s (declared s names)) refl

  mutual
    pub references-mapped : (names : List Declaration) (target is_body : Bool) (t : Tree) → references (mapped_declarations f names) target is_body (mapped f t) ≡ map (mapped_reference f) (references names target is_body t)
    references-mapped names target is_body (Node kind m span semantic_id ps) =
        cond-mapped (map (mapped_reference f)) (is_reference kind) _ _
        (rw (string_at-mapped f 0 ps) (reference-mapped names target m (string_of (at 0 ps))))
        (references_in-mapped _ (λ i. names_at is_body kind m ps i ++ names) (is_body_part kind) (λ i. append-mapped (mapped_declaration f) _ names (names_at-mapped f is_body kind m ps i) refl) (members_of kind) ps)

    -- names that are seen part by part
    references_in-mapped : (seen names : ℕ → List Declaration) (bodies : ℕ → Bool) → ((i : ℕ) → seen i ≡ mapped_declarations f (names i)) → (fs : List Field) (ps : Parts) → references_in seen bodies fs (mapped_parts f ps) ≡ map (mapped_reference f) (references_in names bodies fs ps)
    references_in-mapped seen names bodies same fs end = refl
    references_in-mapped seen names bodies same [] (more p ps) = refl
    references_in-mapped seen names bodies same (field ∷ fs) (more p ps) =
        append-mapped (mapped_reference f) _ _
        (rw (same 0) (part_references-mapped (names 0) (is_target field.sort) (bodies 0) p))
        (references_in-mapped (λ i. seen (suc i)) (λ i. names (suc i)) (λ i. bodies (suc i)) (λ i. same (suc i)) fs ps)

    part_references-mapped : (names : List Declaration) (target is_body : Bool) (p : Part) → part_references (mapped_declarations f names) target is_body (mapped_part f p) ≡ map (mapped_reference f) (part_references names target is_body p)
    part_references-mapped names target is_body (child t) = references-mapped names target is_body t
    part_references-mapped names target is_body (list ps) = item_references-mapped names target ps
    part_references-mapped names target is_body p = refl

    item_references-mapped : (names : List Declaration) (target : Bool) (ps : Parts) → item_references (mapped_declarations f names) target (mapped_parts f ps) ≡ map (mapped_reference f) (item_references names target ps)
    item_references-mapped names target end = refl
    item_references-mapped names target (more p ps) = append-mapped (mapped_reference f) _ _ (part_references-mapped names target false p) (item_references-mapped names target ps)

  pub resolve-mapped : (t : Tree) → resolve (mapped f t) ≡ map (mapped_reference f) (resolve t)
  resolve-mapped t = references-mapped [] false false t

  -- ---- written names

  numbers_of-mapped : (ds : List Declaration) → numbers_of (mapped_declarations f ds) ≡ map f (numbers_of ds)
  numbers_of-mapped [] = refl
  numbers_of-mapped (d ∷ ds) = ap (λ ns. f d.number ∷ ns) (numbers_of-mapped ds)

  if_bound-mapped : (writes : Bool) (r : Referent) → if_bound writes (mapped_referent f r) ≡ map f (if_bound writes r)
  if_bound-mapped true (Bound b) = refl
  if_bound-mapped true (Free s) = refl
  if_bound-mapped false r = refl

  assigned-mapped : (rs : List Reference) → assigned (map (mapped_reference f) rs) ≡ map f (assigned rs)
  assigned-mapped [] = refl
  assigned-mapped (r ∷ rs) = append-mapped f _ _ (if_bound-mapped r.writes r.to) (assigned-mapped rs)

  is_declared-mapped : (s : String) (ds : List Declaration) → is_declared s (mapped_declarations f ds) ≡ is_declared s ds
  is_declared-mapped s [] = refl
  is_declared-mapped s (d ∷ ds) = ap (λ b. bytes_eq s d.spelling || b) (is_declared-mapped s ds)

  repeated-mapped : (ds : List Declaration) → repeated (mapped_declarations f ds) ≡ map f (repeated ds)
  repeated-mapped [] = refl
  repeated-mapped (d ∷ ds) = append-mapped f _ _ (rw (is_declared-mapped d.spelling ds) (cond-mapped (map f) (is_declared d.spelling ds) (d.number ∷ []) [] refl refl)) (repeated-mapped ds)

  head_numbers-mapped : (ps : Parts) → numbers_of (var_part (at 0 (mapped_parts f ps))) ≡ map f (numbers_of (var_part (at 0 ps)))
  head_numbers-mapped ps = rw (at-mapped f 0 ps, var_part-mapped f (at 0 ps)) (numbers_of-mapped (var_part (at 0 ps)))

  written_by-mapped : (t : Tree) → written_by (mapped f t) ≡ map f (written_by t)
  written_by-mapped (Node kind m span semantic_id ps) =
      append-mapped f _ _
      (rw (scope_names-mapped f (scope_form kind) m ps) (repeated-mapped (scope_names (scope_form kind) m ps)))
      (cond-mapped (map f) (is_for_each kind) _ [] (head_numbers-mapped ps) refl)

  written_by_all-mapped : (ts : List Tree) → written_by_all (map (mapped f) ts) ≡ map f (written_by_all ts)
  written_by_all-mapped [] = refl
  written_by_all-mapped (t ∷ ts) = append-mapped f _ _ (written_by-mapped t) (written_by_all-mapped ts)

  pub written-mapped : (t : Tree) → written (mapped f t) ≡ map f (written t)
  written-mapped t =
      append-mapped f (assigned (resolve t)) (written_by_all (preorder t))
      (ap assigned (resolve-mapped t) ∙ assigned-mapped (resolve t))
      (ap written_by_all (preorder-mapped f t) ∙ written_by_all-mapped (preorder t))

  named_arguments-mapped : (ds : List Declaration) → named_arguments (mapped_declarations f ds) ≡ map f (named_arguments ds)
  named_arguments-mapped [] = refl
  named_arguments-mapped (d ∷ ds) = append-mapped f _ _ (cond-mapped (map f) (bytes_eq (codes "arguments") d.spelling) (d.number ∷ []) [] refl refl) (named_arguments-mapped ds)

  arguments_at-mapped : (i : ℕ) (ps : Parts) → named_arguments (bound_part no_class (at i (mapped_parts f ps))) ≡ map f (named_arguments (bound_part no_class (at i ps)))
  arguments_at-mapped i ps = ap named_arguments (bound_at-mapped f no_class i ps) ∙ named_arguments-mapped (bound_part no_class (at i ps))

  function_arguments-mapped : (ps : Parts) → named_arguments (bound_part no_class (at 0 (mapped_parts f ps)) ++ bound_part no_class (at 1 (mapped_parts f ps))) ≡ map f (named_arguments (bound_part no_class (at 0 ps) ++ bound_part no_class (at 1 ps)))
  function_arguments-mapped ps =
      ap named_arguments (append-mapped (mapped_declaration f) _ _ (bound_at-mapped f no_class 0 ps) (bound_at-mapped f no_class 1 ps))
      ∙ named_arguments-mapped (bound_part no_class (at 0 ps) ++ bound_part no_class (at 1 ps))

  changing_by-mapped : (t : Tree) → changing_by (mapped f t) ≡ map f (changing_by t)
  changing_by-mapped (Node Kind.ImportDeclaration m span semantic_id ps) = rw (at-mapped f 0 ps, bound_part-mapped f no_class (at 0 ps)) (numbers_of-mapped (bound_part no_class (at 0 ps)))
  changing_by-mapped (Node Kind.VariableDeclarator m span semantic_id ps) = arguments_at-mapped 0 ps
  changing_by-mapped (Node Kind.FunctionDeclaration m span semantic_id ps) = function_arguments-mapped ps
  changing_by-mapped (Node Kind.FunctionExpression m span semantic_id ps) = function_arguments-mapped ps
  changing_by-mapped (Node Kind.ArrowFunctionExpression m span semantic_id ps) = arguments_at-mapped 0 ps
  changing_by-mapped (Node Kind.CatchClause m span semantic_id ps) = arguments_at-mapped 0 ps
  changing_by-mapped t = refl

  changing_in-mapped : (ts : List Tree) → changing_in (map (mapped f) ts) ≡ map f (changing_in ts)
  changing_in-mapped [] = refl
  changing_in-mapped (t ∷ ts) = append-mapped f _ _ (changing_by-mapped t) (changing_in-mapped ts)

  caught_again-mapped : (t : Tree) → caught_again (mapped f t) ≡ map f (caught_again t)
  caught_again-mapped (Node Kind.CatchClause m span semantic_id ps) =
      rw (at-mapped f 0 ps, at-mapped f 1 ps, append-mapped (mapped_declaration f) (bound_part no_class (at 0 ps)) (var_part (at 1 ps)) (bound_part-mapped f no_class (at 0 ps)) (var_part-mapped f (at 1 ps)))
      (repeated-mapped (bound_part no_class (at 0 ps) ++ var_part (at 1 ps)))
  caught_again-mapped t = refl

  caught_again_in-mapped : (ts : List Tree) → caught_again_in (map (mapped f) ts) ≡ map f (caught_again_in ts)
  caught_again_in-mapped [] = refl
  caught_again_in-mapped (t ∷ ts) = append-mapped f _ _ (caught_again-mapped t) (caught_again_in-mapped ts)

  bound_spelling-mapped : (p : Part) → bound_spelling (mapped_part f p) ≡ bound_spelling p
  bound_spelling-mapped (child (Node Kind.BindingIdentifier b span semantic_id ps)) = ap (λ s. s ∷ []) (string_at-mapped f 0 ps)
  bound_spelling-mapped p = refl

  function_name-mapped : (p : Part) → function_name (mapped_part f p) ≡ function_name p
  function_name-mapped (child (Node Kind.FunctionDeclaration m span semantic_id ps)) = rw (at-mapped f 0 ps, bound_spelling-mapped (at 0 ps)) refl
  function_name-mapped (child (Node Kind.LabeledStatement m span semantic_id (more label (more s end)))) = function_name-mapped s
  function_name-mapped (child (Node Kind.IfStatement m span semantic_id (more test (more s (more other end))))) = ap₂ (λ a b. a ++ b) (function_name-mapped s) (function_name-mapped other)
  function_name-mapped p = refl

  function_names-mapped : (ps : Parts) → function_names (mapped_parts f ps) ≡ function_names ps
  function_names-mapped end = refl
  function_names-mapped (more p ps) = ap₂ (λ a b. a ++ b) (function_name-mapped p) (function_names-mapped ps)

  items_functions-mapped : (i : ℕ) (ps : Parts) → function_names (items (at i (mapped_parts f ps))) ≡ function_names (items (at i ps))
  items_functions-mapped i ps = ap function_names (items_at-mapped f i ps) ∙ function_names-mapped (items (at i ps))

  case_functions-mapped : (ps : Parts) → case_functions (mapped_parts f ps) ≡ case_functions ps
  case_functions-mapped end = refl
  case_functions-mapped (more (child (Node kind m span semantic_id ps)) rest) = ap₂ (λ a b. a ++ b) (items_functions-mapped 1 ps) (case_functions-mapped rest)
  case_functions-mapped (more p rest) = case_functions-mapped rest

  inner_functions-mapped : (is_body : Bool) (kind : Kind) (ps : Parts) → inner_functions is_body kind (mapped_parts f ps) ≡ inner_functions is_body kind ps
  inner_functions-mapped false Kind.BlockStatement ps = items_functions-mapped 0 ps
  inner_functions-mapped true Kind.BlockStatement ps = refl
  inner_functions-mapped is_body Kind.SwitchStatement ps = ap case_functions (items_at-mapped f 1 ps) ∙ case_functions-mapped (items (at 1 ps))
  inner_functions-mapped is_body Kind.IfStatement ps = rw (at-mapped f 1 ps, at-mapped f 2 ps, function_name-mapped (at 1 ps), function_name-mapped (at 2 ps)) refl
  inner_functions-mapped is_body kind ps = refl

  meant-mapped : (names : List Declaration) (ss : List String) → meant (mapped_declarations f names) ss ≡ map f (meant names ss)
  meant-mapped names [] = refl
  meant-mapped names (s ∷ ss) =
      append-mapped f _ _
      (rw (declared-mapped s names, referent-mapped s (declared s names)) (if_bound-mapped true (referent s (declared s names))))
      (meant-mapped names ss)

  catches_a_name-mapped : (kind : Kind) (ps : Parts) → catches_a_name kind (mapped_parts f ps) ≡ catches_a_name kind ps
  catches_a_name-mapped Kind.CatchClause ps = is_declaring_at-mapped f 0 ps
  catches_a_name-mapped kind ps = refl

  names_around-mapped : (is_body : Bool) (kind : Kind) (m : ℕ) (ps : Parts) (i : ℕ) → names_around is_body kind (f m) (mapped_parts f ps) i ≡ mapped_declarations f (names_around is_body kind m ps i)
  names_around-mapped is_body kind m ps i = rw (catches_a_name-mapped kind ps) (cond-mapped (mapped_declarations f) (catches_a_name kind ps) [] (names_at is_body kind m ps i) refl (names_at-mapped f is_body kind m ps i))

  pub uncaught_at-mapped : (names uncaught : List Declaration) (is_body : Bool) (kind : Kind) (m : ℕ) (ps : Parts) (i : ℕ) → uncaught_at (mapped_declarations f names) (mapped_declarations f uncaught) is_body kind (f m) (mapped_parts f ps) i ≡ mapped_declarations f (uncaught_at names uncaught is_body kind m ps i)
  uncaught_at-mapped names uncaught is_body kind m ps i =
      append-mapped (mapped_declaration f) (names_around is_body kind m ps i) (cond (takes_vars kind) names uncaught) (names_around-mapped is_body kind m ps i) (cond-mapped (mapped_declarations f) (takes_vars kind) names uncaught refl refl)

  mutual
    given_around-mapped : (names uncaught : List Declaration) (is_body : Bool) (t : Tree) → given_around (mapped_declarations f names) (mapped_declarations f uncaught) is_body (mapped f t) ≡ map f (given_around names uncaught is_body t)
    given_around-mapped names uncaught is_body (Node kind m span semantic_id ps) =
        append-mapped f _ _
        (rw (inner_functions-mapped is_body kind ps) (meant-mapped uncaught (inner_functions is_body kind ps)))
        (given_in-mapped _ (λ i. names_at is_body kind m ps i ++ names) _ (uncaught_at names uncaught is_body kind m ps) (is_body_part kind) (λ i. append-mapped (mapped_declaration f) _ names (names_at-mapped f is_body kind m ps i) refl) (uncaught_at-mapped names uncaught is_body kind m ps) ps)

    given_in-mapped : (seen names passed uncaught : ℕ → List Declaration) (bodies : ℕ → Bool) → ((i : ℕ) → seen i ≡ mapped_declarations f (names i)) → ((i : ℕ) → passed i ≡ mapped_declarations f (uncaught i)) → (ps : Parts) → given_in seen passed bodies (mapped_parts f ps) ≡ map f (given_in names uncaught bodies ps)
    given_in-mapped seen names passed uncaught bodies same same_uncaught end = refl
    given_in-mapped seen names passed uncaught bodies same same_uncaught (more p ps) =
        append-mapped f _ _
        (rw (same 0, same_uncaught 0) (given_at-mapped (names 0) (uncaught 0) (bodies 0) p))
        (given_in-mapped (λ i. seen (suc i)) (λ i. names (suc i)) (λ i. passed (suc i)) (λ i. uncaught (suc i)) (λ i. bodies (suc i)) (λ i. same (suc i)) (λ i. same_uncaught (suc i)) ps)

    given_at-mapped : (names uncaught : List Declaration) (is_body : Bool) (p : Part) → given_at (mapped_declarations f names) (mapped_declarations f uncaught) is_body (mapped_part f p) ≡ map f (given_at names uncaught is_body p)
    given_at-mapped names uncaught is_body (child t) = given_around-mapped names uncaught is_body t
    given_at-mapped names uncaught is_body (list ps) = given_of-mapped names uncaught ps
    given_at-mapped names uncaught is_body p = refl

    given_of-mapped : (names uncaught : List Declaration) (ps : Parts) → given_of (mapped_declarations f names) (mapped_declarations f uncaught) (mapped_parts f ps) ≡ map f (given_of names uncaught ps)
    given_of-mapped names uncaught end = refl
    given_of-mapped names uncaught (more p ps) = append-mapped f _ _ (given_at-mapped names uncaught false p) (given_of-mapped names uncaught ps)

  changed_otherwise-mapped : (t : Tree) → changed_otherwise (mapped f t) ≡ map f (changed_otherwise t)
  changed_otherwise-mapped t =
      append-mapped f (changing_in (preorder t)) (caught_again_in (preorder t) ++ given_around [] [] false t)
      (ap changing_in (preorder-mapped f t) ∙ changing_in-mapped (preorder t))
      (append-mapped f (caught_again_in (preorder t)) (given_around [] [] false t) (ap caught_again_in (preorder-mapped f t) ∙ caught_again_in-mapped (preorder t)) (given_around-mapped [] [] false t))

  pub varying-mapped : (t : Tree) → varying (mapped f t) ≡ map f (varying t)
  varying-mapped t = append-mapped f (written t) (changed_otherwise t) (written-mapped t) (changed_otherwise-mapped t)

  is_free-mapped : (s : String) (to : Referent) → is_free s (mapped_referent f to) ≡ is_free s to
  is_free-mapped s (Bound b) = refl
  is_free-mapped s (Free t) = refl

  pub writes_free-mapped : (s : String) (rs : List Reference) → writes_free s (map (mapped_reference f) rs) ≡ writes_free s rs
  writes_free-mapped s [] = refl
  writes_free-mapped s (r ∷ rs) = rw (is_free-mapped s r.to, writes_free-mapped s rs) refl

module _ (f : ℕ → ℕ) where
  pub gives_inside-mapped : (s : String) (ts : List Tree) → gives_inside s (map (mapped f) ts) ≡ gives_inside s ts
  gives_inside-mapped s [] = refl
  gives_inside-mapped s (Node kind m span semantic_id ps ∷ ts) = ap₂ (λ a b. is_among s a || b) (inner_functions-mapped f false kind ps) (gives_inside-mapped s ts)

  pub changes_free-mapped : (s : String) (t : Tree) → changes_free s (mapped f t) ≡ changes_free s t
  changes_free-mapped s t =
      ap₂ (λ a b. a || b) (ap (writes_free s) (resolve-mapped f t) ∙ writes_free-mapped f s (resolve t)) (ap (gives_inside s) (preorder-mapped f t) ∙ gives_inside-mapped s (preorder t))

pub has_number-mapped : {first : ℕ} {f : ℕ → ℕ} → Renames first f → (n : ℕ) (ks : List ℕ) → has_number (f n) (map f ks) ≡ has_number n ks
has_number-mapped r n [] = refl
has_number-mapped r n (k ∷ ks) = rw (r.apart n k, has_number-mapped r n ks) refl
