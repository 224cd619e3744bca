-- The names that a node declares, and those that its parts see, follow a change of numbers.
use Rattle.std.specs.Prelude.{◌≡◌, ℕ, List, [], ◌∷◌, ◌++◌, map, Bool, cond, bytes_eq, codes, nat_eq, Option, Some, None}
use Rattle.std.proofs.Common.{refl, ap, ◌∙◌}
use Rattle.es_base.specs.Preorder.{preorder}
use Rattle.es_base.specs.Table.{Field, members_of}
use Rattle.es_base.specs.Tree.{Tree, Part, Parts, Node, end, more, child, list}
use Rattle.es_base.specs.declared.kind.Kind.{Kind}
use Rattle.es_steps.specs.Parts.{at, items, block_items}
use Rattle.es_steps.specs.Scopes.{ClassName, no_class, declares, own_name, is_class_expression, first_class, class_in, let_name, declarator_names, declarators_names, is_let, scope_of, Declaration, binds, is_binding_identifier, is_declaring, declaration, bound_names, bound_members, bound_part, bound_items, StatementForm, variables, function_declaration, class_declaration, imports, passes_on, nests, statement_form, is_var, lexical_by, lexical_names, lexical_part, lexical_items, var_by, var_names, var_part, var_items, body_names, ScopeForm, program_scope, function_scope, own_function_scope, arrow_scope, own_class_scope, block_scope, static_block_scope, loop_scope, switch_scope, catch_scope, no_scope, scope_names, seen, names_at}
use Rattle.es_steps.proofs.Mapped.{mapped, mapped_part, mapped_parts, mapped_option, mapped_class_name, mapped_declaration, mapped_declarations}
use Rattle.es_steps.proofs.PartsMapped.{cond-mapped, append-mapped, at-mapped, preorder-mapped, items_at-mapped, block_items_at-mapped, string_at-mapped}

module _ (f : ℕ → ℕ) where
  -- ---- the names that a pattern or a declaration binds

  declaration-mapped : (name : ClassName) (b : ℕ) (ps : Parts) → declaration (mapped_class_name f name) (f b) (mapped_parts f ps) ≡ mapped_declarations f (declaration name b ps)
  declaration-mapped name b ps = rw (string_at-mapped f 0 ps) refl

  mutual
    pub bound_names-mapped : (name : ClassName) (t : Tree) → bound_names (mapped_class_name f name) (mapped f t) ≡ mapped_declarations f (bound_names name t)
    bound_names-mapped name (Node kind b span semantic_id ps) = cond-mapped (mapped_declarations f) (is_binding_identifier kind) _ _ (declaration-mapped name b ps) (bound_members-mapped name (members_of kind) ps)

    pub bound_members-mapped : (name : ClassName) (fs : List Field) (ps : Parts) → bound_members (mapped_class_name f name) fs (mapped_parts f ps) ≡ mapped_declarations f (bound_members name fs ps)
    bound_members-mapped name fs end = refl
    bound_members-mapped name [] (more p ps) = refl
    bound_members-mapped name (field ∷ fs) (more p ps) = append-mapped (mapped_declaration f) _ _ (cond-mapped (mapped_declarations f) (binds field.sort) _ _ (bound_part-mapped name p) refl) (bound_members-mapped name fs ps)

    pub bound_part-mapped : (name : ClassName) (p : Part) → bound_part (mapped_class_name f name) (mapped_part f p) ≡ mapped_declarations f (bound_part name p)
    bound_part-mapped name (child t) = bound_names-mapped name t
    bound_part-mapped name (list ps) = bound_items-mapped name ps
    bound_part-mapped name p = refl

    pub bound_items-mapped : (name : ClassName) (ps : Parts) → bound_items (mapped_class_name f name) (mapped_parts f ps) ≡ mapped_declarations f (bound_items name ps)
    bound_items-mapped name end = refl
    bound_items-mapped name (more p ps) = append-mapped (mapped_declaration f) _ _ (bound_part-mapped name p) (bound_items-mapped name ps)

  pub bound_at-mapped : (name : ClassName) (i : ℕ) (ps : Parts) → bound_part (mapped_class_name f name) (at i (mapped_parts f ps)) ≡ mapped_declarations f (bound_part name (at i ps))
  bound_at-mapped name i ps = ap (bound_part (mapped_class_name f name)) (at-mapped f i ps) ∙ bound_part-mapped name (at i ps)

  pub is_declaring-mapped : (p : Part) → is_declaring (mapped_part f p) ≡ is_declaring p
  is_declaring-mapped (child (Node kind b span semantic_id ps)) = refl
  is_declaring-mapped p = refl

  pub is_declaring_at-mapped : (i : ℕ) (ps : Parts) → is_declaring (at i (mapped_parts f ps)) ≡ is_declaring (at i ps)
  is_declaring_at-mapped i ps = ap is_declaring (at-mapped f i ps) ∙ is_declaring-mapped (at i ps)

  -- ---- the names that a statement declares

  is_var-mapped : (ps : Parts) → is_var (mapped_parts f ps) ≡ is_var ps
  is_var-mapped ps = ap (λ s. bytes_eq s (codes "var")) (string_at-mapped f 0 ps)

  is_let-mapped : (ps : Parts) → is_let (mapped_parts f ps) ≡ is_let ps
  is_let-mapped ps = ap (λ s. bytes_eq s (codes "let")) (string_at-mapped f 0 ps)

  first_class-mapped : (ts : List Tree) → first_class (map (mapped f) ts) ≡ mapped_option f (first_class ts)
  first_class-mapped [] = refl
  first_class-mapped (Node kind n span semantic_id ps ∷ ts) = cond-mapped (mapped_option f) (is_class_expression kind) (Some n) _ refl (first_class-mapped ts)

  pub class_in-mapped : (p : Part) → class_in (mapped_part f p) ≡ mapped_option f (class_in p)
  class_in-mapped (child t) = ap first_class (preorder-mapped f t) ∙ first_class-mapped (preorder t)
  class_in-mapped p = refl

  let_name-mapped : (m : ℕ) (n : Option ℕ) → let_name (f m) (mapped_option f n) ≡ mapped_class_name f (let_name m n)
  let_name-mapped m None = refl
  let_name-mapped m (Some n) = refl

  declarator_name-mapped : (m : ℕ) (is_let : Bool) (init : Part) → cond is_let (let_name (f m) (class_in (mapped_part f init))) no_class ≡ mapped_class_name f (cond is_let (let_name m (class_in init)) no_class)
  declarator_name-mapped m is_let init = cond-mapped (mapped_class_name f) is_let _ no_class (ap (let_name (f m)) (class_in-mapped init) ∙ let_name-mapped m (class_in init)) refl

  declarator_names-mapped : (m : ℕ) (is_let : Bool) (p : Part) → declarator_names (f m) is_let (mapped_part f p) ≡ mapped_declarations f (declarator_names m is_let p)
  declarator_names-mapped m is_let (child (Node kind k span semantic_id (more (child (Node Kind.BindingIdentifier b bspan b_semantic_id bs)) (more init end)))) =
      ap (λ x. declaration x (f b) (mapped_parts f bs)) (declarator_name-mapped m is_let init) ∙ declaration-mapped _ b bs
  declarator_names-mapped m is_let p = bound_part-mapped no_class p

  declarators_names-mapped : (m : ℕ) (is_let : Bool) (ps : Parts) → declarators_names (f m) is_let (mapped_parts f ps) ≡ mapped_declarations f (declarators_names m is_let ps)
  declarators_names-mapped m is_let end = refl
  declarators_names-mapped m is_let (more p ps) = append-mapped (mapped_declaration f) _ _ (declarator_names-mapped m is_let p) (declarators_names-mapped m is_let ps)

  declarators_at-mapped : (m : ℕ) (ps : Parts) → declarators_names (f m) (is_let (mapped_parts f ps)) (items (at 1 (mapped_parts f ps))) ≡ mapped_declarations f (declarators_names m (is_let ps) (items (at 1 ps)))
  declarators_at-mapped m ps = rw (is_let-mapped ps, items_at-mapped f 1 ps) (declarators_names-mapped m (is_let ps) (items (at 1 ps)))

  lexical_by-mapped : (form : StatementForm) (m : ℕ) (ps : Parts) (inner : List Declaration) → lexical_by form (f m) (mapped_parts f ps) (mapped_declarations f inner) ≡ mapped_declarations f (lexical_by form m ps inner)
  lexical_by-mapped variables m ps inner = rw (is_var-mapped ps) (cond-mapped (mapped_declarations f) (is_var ps) _ _ refl (declarators_at-mapped m ps))
  lexical_by-mapped function_declaration m ps inner = bound_at-mapped no_class 0 ps
  lexical_by-mapped class_declaration m ps inner = bound_at-mapped (declares m) 0 ps
  lexical_by-mapped imports m ps inner = bound_at-mapped no_class 0 ps
  lexical_by-mapped passes_on m ps inner = refl
  lexical_by-mapped form m ps inner = refl

  mutual
    pub lexical_names-mapped : (t : Tree) → lexical_names (mapped f t) ≡ mapped_declarations f (lexical_names t)
    lexical_names-mapped (Node kind m span semantic_id ps) = rw (lexical_items-mapped ps) (lexical_by-mapped (statement_form kind) m ps (lexical_items ps))

    pub lexical_part-mapped : (p : Part) → lexical_part (mapped_part f p) ≡ mapped_declarations f (lexical_part p)
    lexical_part-mapped (child t) = lexical_names-mapped t
    lexical_part-mapped (list ps) = lexical_items-mapped ps
    lexical_part-mapped p = refl

    pub lexical_items-mapped : (ps : Parts) → lexical_items (mapped_parts f ps) ≡ mapped_declarations f (lexical_items ps)
    lexical_items-mapped end = refl
    lexical_items-mapped (more p ps) = append-mapped (mapped_declaration f) _ _ (lexical_part-mapped p) (lexical_items-mapped ps)

  pub lexical_at-mapped : (i : ℕ) (ps : Parts) → lexical_part (at i (mapped_parts f ps)) ≡ mapped_declarations f (lexical_part (at i ps))
  lexical_at-mapped i ps = ap lexical_part (at-mapped f i ps) ∙ lexical_part-mapped (at i ps)

  -- ---- the names of `var`

  var_by-mapped : (form : StatementForm) (ps : Parts) (inner : List Declaration) → var_by form (mapped_parts f ps) (mapped_declarations f inner) ≡ mapped_declarations f (var_by form ps inner)
  var_by-mapped variables ps inner = rw (is_var-mapped ps) (cond-mapped (mapped_declarations f) (is_var ps) _ _ (bound_at-mapped no_class 1 ps) refl)
  var_by-mapped passes_on ps inner = refl
  var_by-mapped nests ps inner = refl
  var_by-mapped form ps inner = refl

  mutual
    pub var_names-mapped : (t : Tree) → var_names (mapped f t) ≡ mapped_declarations f (var_names t)
    var_names-mapped (Node kind m span semantic_id ps) = rw (var_items-mapped ps) (var_by-mapped (statement_form kind) ps (var_items ps))

    pub var_part-mapped : (p : Part) → var_part (mapped_part f p) ≡ mapped_declarations f (var_part p)
    var_part-mapped (child t) = var_names-mapped t
    var_part-mapped (list ps) = var_items-mapped ps
    var_part-mapped p = refl

    pub var_items-mapped : (ps : Parts) → var_items (mapped_parts f ps) ≡ mapped_declarations f (var_items ps)
    var_items-mapped end = refl
    var_items-mapped (more p ps) = append-mapped (mapped_declaration f) _ _ (var_part-mapped p) (var_items-mapped ps)

  -- ---- all names of a body

  pub body_names-mapped : (ps : Parts) → body_names (mapped_parts f ps) ≡ mapped_declarations f (body_names ps)
  body_names-mapped end = refl
  body_names-mapped (more p ps) = append-mapped (mapped_declaration f) _ _ (append-mapped (mapped_declaration f) _ _ (lexical_part-mapped p) (var_part-mapped p)) (body_names-mapped ps)

  items_names-mapped : (i : ℕ) (ps : Parts) → body_names (items (at i (mapped_parts f ps))) ≡ mapped_declarations f (body_names (items (at i ps)))
  items_names-mapped i ps = ap body_names (items_at-mapped f i ps) ∙ body_names-mapped (items (at i ps))

  block_names-mapped : (i : ℕ) (ps : Parts) → body_names (block_items (at i (mapped_parts f ps))) ≡ mapped_declarations f (body_names (block_items (at i ps)))
  block_names-mapped i ps = ap body_names (block_items_at-mapped f i ps) ∙ body_names-mapped (block_items (at i ps))

  -- ---- the scope of a node

  -- parameters and body of a function
  function_names-mapped : (i j : ℕ) (ps : Parts) → bound_part no_class (at i (mapped_parts f ps)) ++ body_names (block_items (at j (mapped_parts f ps))) ≡ mapped_declarations f (bound_part no_class (at i ps) ++ body_names (block_items (at j ps)))
  function_names-mapped i j ps = append-mapped (mapped_declaration f) _ _ (bound_at-mapped no_class i ps) (block_names-mapped j ps)

  pub scope_names-mapped : (form : ScopeForm) (m : ℕ) (ps : Parts) → scope_names form (f m) (mapped_parts f ps) ≡ mapped_declarations f (scope_names form m ps)
  scope_names-mapped program_scope m ps = items_names-mapped 1 ps
  scope_names-mapped function_scope m ps = function_names-mapped 1 2 ps
  scope_names-mapped own_function_scope m ps = function_names-mapped 1 2 ps
  scope_names-mapped arrow_scope m ps = function_names-mapped 0 1 ps
  scope_names-mapped own_class_scope m ps = bound_at-mapped (own_name m) 0 ps
  scope_names-mapped block_scope m ps = ap lexical_items (items_at-mapped f 0 ps) ∙ lexical_items-mapped (items (at 0 ps))
  scope_names-mapped static_block_scope m ps = items_names-mapped 0 ps
  scope_names-mapped loop_scope m ps = lexical_at-mapped 0 ps
  scope_names-mapped switch_scope m ps = lexical_at-mapped 1 ps
  scope_names-mapped catch_scope m ps = bound_at-mapped no_class 0 ps
  scope_names-mapped no_scope m ps = refl

  -- parameters alone, or all names of the scope
  parameters_or-mapped : (b : Bool) (i : ℕ) (form : ScopeForm) (m : ℕ) (ps : Parts) → cond b (bound_part no_class (at i (mapped_parts f ps))) (scope_names form (f m) (mapped_parts f ps)) ≡ mapped_declarations f (cond b (bound_part no_class (at i ps)) (scope_names form m ps))
  parameters_or-mapped b i form m ps = cond-mapped (mapped_declarations f) b _ _ (bound_at-mapped no_class i ps) (scope_names-mapped form m ps)

  seen-mapped : (form : ScopeForm) (m : ℕ) (ps : Parts) (i : ℕ) → seen form (f m) (mapped_parts f ps) i ≡ mapped_declarations f (seen form m ps i)
  seen-mapped function_scope m ps i = parameters_or-mapped (nat_eq i 1) 1 function_scope m ps
  seen-mapped own_function_scope m ps i = append-mapped (mapped_declaration f) _ _ (parameters_or-mapped (nat_eq i 1) 1 own_function_scope m ps) (bound_at-mapped no_class 0 ps)
  seen-mapped arrow_scope m ps i = parameters_or-mapped (nat_eq i 0) 0 arrow_scope m ps
  seen-mapped switch_scope m ps i = cond-mapped (mapped_declarations f) (nat_eq i 0) _ _ refl (scope_names-mapped switch_scope m ps)
  seen-mapped form m ps i = scope_names-mapped form m ps

  pub names_at-mapped : (is_body : Bool) (kind : Kind) (m : ℕ) (ps : Parts) (i : ℕ) → names_at is_body kind (f m) (mapped_parts f ps) i ≡ mapped_declarations f (names_at is_body kind m ps i)
  names_at-mapped is_body kind m ps i = seen-mapped (scope_of kind is_body) m ps i
