-- What a lowered program owes, under a change of numbers of both programs.
use Rattle.std.specs.Prelude.{false, ◌≡◌, ℕ, List, [], ◌∷◌, map, Bool, not, ◌&&◌, ◌||◌, bytes_eq, nat_eq, codes, is_some}
use Rattle.std.proofs.Common.{refl, ap, ap₂, ◌∙◌}
use Rattle.es_base.specs.Preorder.{preorder, number_of, preorder_of_part}
use Rattle.es_base.specs.Tree.{Tree, Part, Parts, Node, end, more, child, list, string}
use Rattle.es_base.specs.declared.kind.Kind.{Kind}
use Rattle.es_base.specs.declared.ledger.GeneratedKind.{GeneratedKind}
use Rattle.es_base.specs.declared.ledger.LedgerEntry.{LedgerEntry}
use Rattle.es_lowered.specs.Definitions.{spelling, field_part, class_identifiers, all_different, is_among_first}
use Rattle.es_steps.specs.KeptNodes.{statement_list, is_underscored}
use Rattle.es_lowered.specs.Lowered.{declaring_number, declaring_numbers, is_bound_to, all_mean, is_one_new, private_key, private_keys, keys_of_body, keys_of_class, keys_in, is_one, declared_by_kind, same_space, is_named_again, same_subject, has_another_name, is_temp, is_at_most_one, names_declared, has_new_declarator, is_new_const, has_branded, belongs, is_accounted, all_accounted, declarations_accounted, spelled_as, is_new_of, is_key_call, is_function_part, class_number_in, assignment_number, paired, pairs_behind, all_behind, has_pair, is_class_itself, is_class_value, is_initial, is_class_kind, is_method_kind, initialization_at, initializations, comes_before, is_declared_function, all_before, needs_none, with_inner, is_one_initialization, initialization_stands, initializations_stand, any_before, keys_before, keys_stand, private_numbers}
use Rattle.es_steps.specs.LoweredClasses.{none_lowered, nothing_left, is_private_key}
use Rattle.es_steps.specs.Options.{lowers_fields}
use Rattle.es_lowered.specs.OwnNames.{own_name_numbers}
use Rattle.es_steps.specs.Parts.{at, items, string_of, is_present}
use Rattle.es_steps.specs.GeneratedForms.{if_member, is_instance_field, is_static_field, is_function_member}
use Rattle.es_steps.specs.PrivateNames.{PrivateMember, private_members, members_of_all, member_at, is_a_field}
use Rattle.es_steps.specs.References.{Reference, resolve}
use Rattle.es_steps.specs.Scopes.{is_binding_identifier}
use Rattle.es_lowered.specs.ClassNames.{class_numbers, numbers_of, without}
use Rattle.es_lowered.specs.Temporaries.{class_before, nodes_of_class}
use Rattle.es_lowered.proofs.ClassNamesMapped.{class_numbers-mapped, numbers_of_part-mapped, without-mapped}
use Rattle.es_lowered.proofs.TemporariesMapped.{class_before-mapped, nodes_of_class-mapped}
use Rattle.es_steps.specs.Values.{String, Referent, Bound, Free}
use Rattle.es_steps.specs.declared.options.Options.{Options}
use Rattle.es_steps.proofs.ContextMapped.{is_generated-mapped}
use Rattle.es_lowered.proofs.DefinitionsMapped.{mapped_temporary, spelling-mapped, field_part-mapped, class_identifiers-mapped, names_class-mapped}
use Rattle.es_steps.proofs.FormsMapped.{if_member-mapped}
use Rattle.es_lowered.proofs.HelperCallsMapped.{is_helper_callee-mapped}
use Rattle.es_steps.proofs.KeptNodesMapped.{statement_list-mapped, is_function_declaration-mapped, is_private_key-mapped}
use Rattle.es_steps.proofs.Mapped.{Renames, mapped, mapped_part, mapped_parts, mapped_generated, mapped_ledger, mapped_ledger_entry, mapped_privates, mapped_private, mapped_pair, mapped_referent, mapped_reference}
use Rattle.es_lowered.proofs.OwnNamesMapped.{own_name_numbers-mapped}
use Rattle.es_steps.proofs.PartsMapped.{cond-mapped, append-mapped, is_some-mapped, at-mapped, items_at-mapped, string_at-mapped, is_present-mapped, is_present_at-mapped, number_of-mapped, preorder-mapped}
use Rattle.es_steps.proofs.PrivatesMapped.{member_at-mapped}
use Rattle.es_steps.proofs.Renumbering.{members_of_all-mapped}
use Rattle.es_steps.proofs.ReferencesMapped.{resolve-mapped, has_number-mapped}

pub private_members-mapped : (f : ℕ → ℕ) (t : Tree) → private_members (mapped f t) ≡ mapped_privates f (private_members t)
private_members-mapped f t = ap members_of_all (preorder-mapped f t) ∙ members_of_all-mapped f (preorder t)

module _ (f : ℕ → ℕ) where
  -- ---- nothing is left

  none_lowered-mapped : (o : Options) (ts : List Tree) → none_lowered o (map (mapped f) ts) ≡ none_lowered o ts
  none_lowered-mapped o [] = refl
  none_lowered-mapped o (Node kind m span semantic_id ps ∷ ts) = rw (none_lowered-mapped o ts) refl

  pub nothing_left-mapped : (o : Options) (q : Tree) → nothing_left o (mapped f q) ≡ nothing_left o q
  nothing_left-mapped o q = ap (none_lowered o) (preorder-mapped f q) ∙ none_lowered-mapped o (preorder q)

  -- ---- declarations

  declaring_number-mapped : (s : String) (t : Tree) → declaring_number s (mapped f t) ≡ map f (declaring_number s t)
  declaring_number-mapped s (Node kind b span semantic_id ps) = rw (string_at-mapped f 0 ps) (cond-mapped (map f) (is_binding_identifier kind && bytes_eq s (string_of (at 0 ps))) (b ∷ []) [] refl refl)

  declaring_numbers-mapped : (s : String) (ts : List Tree) → declaring_numbers s (map (mapped f) ts) ≡ map f (declaring_numbers s ts)
  declaring_numbers-mapped s [] = refl
  declaring_numbers-mapped s (t ∷ ts) = append-mapped f _ _ (declaring_number-mapped s t) (declaring_numbers-mapped s ts)

  -- ---- forms of initializations

  spelled_at-mapped : (s : String) (i : ℕ) (ps : Parts) → spelled_as s (at i (mapped_parts f ps)) ≡ spelled_as s (at i ps)
  spelled_at-mapped s i ps = ap (bytes_eq s) (ap spelling (at-mapped f i ps) ∙ spelling-mapped f (at i ps))

  is_new_of-mapped : (s : String) (p : Part) → is_new_of s (mapped_part f p) ≡ is_new_of s p
  is_new_of-mapped s (child (Node Kind.NewExpression m span semantic_id (more (child (Node Kind.IdentifierReference b bspan b_semantic_id (more (string t) end))) (more (list end) end)))) = refl
  is_new_of-mapped s p = refl

  is_function_part-mapped : (p : Part) → is_function_part (mapped_part f p) ≡ is_function_part p
  is_function_part-mapped (child (Node Kind.FunctionExpression m span semantic_id ps)) = refl
  is_function_part-mapped (child (Node Kind.ArrowFunctionExpression m span semantic_id ps)) = refl
  is_function_part-mapped p = refl

  class_number_in-mapped : (p : Part) → class_number_in (mapped_part f p) ≡ map f (class_number_in p)
  class_number_in-mapped (child (Node Kind.ClassDeclaration n span semantic_id ps)) = refl
  class_number_in-mapped (child (Node Kind.ExportNamedDeclaration m span semantic_id (more (child (Node Kind.ClassDeclaration n nspan n_semantic_id ps)) rest))) = refl
  class_number_in-mapped (child (Node Kind.ExportDefaultDeclaration m span semantic_id (more (child (Node Kind.ClassDeclaration n nspan n_semantic_id ps)) rest))) = refl
  class_number_in-mapped p = refl

  assignment_number-mapped : (p : Part) → assignment_number (mapped_part f p) ≡ map f (assignment_number p)
  assignment_number-mapped (child (Node Kind.ExpressionStatement m span semantic_id (more (child (Node Kind.AssignmentExpression k kspan k_semantic_id ps)) directive))) = refl
  assignment_number-mapped p = refl

  paired-mapped : (ks ns : List ℕ) → paired (map f ks) (map f ns) ≡ map (mapped_pair f) (paired ks ns)
  paired-mapped [] ns = refl
  paired-mapped (k ∷ ks) [] = refl
  paired-mapped (k ∷ ks) (n ∷ ns) = refl

  pairs_behind-mapped : (ps : Parts) → pairs_behind (mapped_parts f ps) ≡ map (mapped_pair f) (pairs_behind ps)
  pairs_behind-mapped end = refl
  pairs_behind-mapped (more p end) = refl
  pairs_behind-mapped (more p (more q rest)) = append-mapped (mapped_pair f) _ _ (ap₂ paired (assignment_number-mapped q) (class_number_in-mapped p) ∙ paired-mapped (assignment_number q) (class_number_in p)) (pairs_behind-mapped (more q rest))

  all_behind-mapped : (ts : List Tree) → all_behind (map (mapped f) ts) ≡ map (mapped_pair f) (all_behind ts)
  all_behind-mapped [] = refl
  all_behind-mapped (Node kind m span semantic_id ps ∷ ts) = append-mapped (mapped_pair f) _ _ (ap pairs_behind (statement_list-mapped f kind ps) ∙ pairs_behind-mapped (statement_list kind ps)) (all_behind-mapped ts)

  is_method_kind-mapped : (g : GeneratedKind) → is_method_kind (mapped_generated f g) ≡ is_method_kind g
  is_method_kind-mapped (GeneratedKind.Method d) = refl
  is_method_kind-mapped g = refl

  needs_none-mapped : (g : GeneratedKind) → needs_none (mapped_generated f g) ≡ needs_none g
  needs_none-mapped GeneratedKind.Temp = refl
  needs_none-mapped GeneratedKind.Param = refl
  needs_none-mapped GeneratedKind.Args = refl
  needs_none-mapped (GeneratedKind.Private n) = refl
  needs_none-mapped g = refl

  abbrev mapped_initialization : ℕ × Bool → ℕ × Bool
  mapped_initialization i = (f i.0, i.1)

  is_among_first-mapped : (s : String) (ps : List (String × ℕ)) → is_among_first s (map (mapped_temporary f) ps) ≡ is_among_first s ps
  is_among_first-mapped s [] = refl
  is_among_first-mapped s (p ∷ ps) = ap (λ b. bytes_eq s p.0 || b) (is_among_first-mapped s ps)

  all_different-mapped : (ps : List (String × ℕ)) → all_different (map (mapped_temporary f) ps) ≡ all_different ps
  all_different-mapped [] = refl
  all_different-mapped (p ∷ ps) = ap₂ (λ a b. not a && b) (is_among_first-mapped p.0 ps) (all_different-mapped ps)

module _ {first : ℕ} {f : ℕ → ℕ} (r : Renames first f) where
  -- ---- a name that is declared in a scope

  is_bound_to-mapped : (b : ℕ) (to : Referent) → is_bound_to (f b) (mapped_referent f to) ≡ is_bound_to b to
  is_bound_to-mapped b (Bound k) = r.apart b k
  is_bound_to-mapped b (Free s) = refl

  all_mean-mapped : (s : String) (b : ℕ) (rs : List Reference) → all_mean s (f b) (map (mapped_reference f) rs) ≡ all_mean s b rs
  all_mean-mapped s b [] = refl
  all_mean-mapped s b (x ∷ xs) = rw (is_bound_to-mapped b x.to, all_mean-mapped s b xs) refl

  is_one_new-mapped : (s : String) (q : Tree) (bs : List ℕ) → is_one_new first s (mapped f q) (map f bs) ≡ is_one_new first s q bs
  is_one_new-mapped s q [] = refl
  is_one_new-mapped s q (b ∷ []) = rw (r.new b, resolve-mapped f q, all_mean-mapped s b (resolve q)) refl
  is_one_new-mapped s q (b ∷ c ∷ bs) = refl

  declared_in_scope-mapped : (s : String) (q : Tree) → is_one_new first s (mapped f q) (declaring_numbers s (preorder (mapped f q))) ≡ is_one_new first s q (declaring_numbers s (preorder q))
  declared_in_scope-mapped s q = ap (is_one_new first s (mapped f q)) (ap (declaring_numbers s) (preorder-mapped f q) ∙ declaring_numbers-mapped f s (preorder q)) ∙ is_one_new-mapped s q (declaring_numbers s (preorder q))

  -- ---- a private name

  private_key-mapped : (s : String) (p : Part) → private_key first s (mapped_part f p) ≡ map f (private_key first s p)
  private_key-mapped s (child (Node kind m span semantic_id (more (child (Node Kind.PrivateIdentifier d dspan d_semantic_id ds)) ps))) = rw (string_at-mapped f 0 ds) (cond-mapped (map f) (bytes_eq s (string_of (at 0 ds))) (d ∷ []) [] refl refl)
  private_key-mapped s p = refl

  private_keys-mapped : (s : String) (ps : Parts) → private_keys first s (mapped_parts f ps) ≡ map f (private_keys first s ps)
  private_keys-mapped s end = refl
  private_keys-mapped s (more p ps) = append-mapped f _ _ (private_key-mapped s p) (private_keys-mapped s ps)

  keys_of_body-mapped : (s : String) (p : Part) → keys_of_body first s (mapped_part f p) ≡ map f (keys_of_body first s p)
  keys_of_body-mapped s (child (Node Kind.ClassBody m span semantic_id ps)) = rw (items_at-mapped f 0 ps) (private_keys-mapped s (items (at 0 ps)))
  keys_of_body-mapped s p = refl

  keys_of_class-mapped : (n : ℕ) (s : String) (t : Tree) → keys_of_class first (f n) s (mapped f t) ≡ map f (keys_of_class first n s t)
  keys_of_class-mapped n s (Node kind m span semantic_id ps) = rw (r.apart n m, at-mapped f 2 ps) (cond-mapped (map f) (nat_eq n m) (keys_of_body first s (at 2 ps)) [] (keys_of_body-mapped s (at 2 ps)) refl)

  keys_in-mapped : (n : ℕ) (s : String) (ts : List Tree) → keys_in first (f n) s (map (mapped f) ts) ≡ map f (keys_in first n s ts)
  keys_in-mapped n s [] = refl
  keys_in-mapped n s (t ∷ ts) = append-mapped f _ _ (keys_of_class-mapped n s t) (keys_in-mapped n s ts)

  is_one-mapped : (ks : List ℕ) → is_one first (map f ks) ≡ is_one first ks
  is_one-mapped [] = refl
  is_one-mapped (k ∷ []) = r.new k
  is_one-mapped (k ∷ l ∷ ks) = refl

  declared_in_class-mapped : (n : ℕ) (s : String) (q : Tree) → is_one first (keys_in first (f n) s (preorder (mapped f q))) ≡ is_one first (keys_in first n s (preorder q))
  declared_in_class-mapped n s q = ap (is_one first) (ap (keys_in first (f n) s) (preorder-mapped f q) ∙ keys_in-mapped n s (preorder q)) ∙ is_one-mapped (keys_in first n s (preorder q))

  declared_by_kind-mapped : (q : Tree) (s : String) (g : GeneratedKind) → declared_by_kind first (mapped f q) s (mapped_generated f g) ≡ declared_by_kind first q s g
  declared_by_kind-mapped q s (GeneratedKind.Private n) = declared_in_class-mapped n.0 s q
  declared_by_kind-mapped q s g = declared_in_scope-mapped s q

  same_space-mapped : (g h : GeneratedKind) → same_space (mapped_generated f g) (mapped_generated f h) ≡ same_space g h
  same_space-mapped (GeneratedKind.Private n) h = of_private h
    where
      of_private : (h : GeneratedKind) → same_space (mapped_generated f (GeneratedKind.Private n)) (mapped_generated f h) ≡ same_space (GeneratedKind.Private n) h
      of_private (GeneratedKind.Private k) = r.apart n.0 k.0
      of_private h = refl
  same_space-mapped g h = of_other g h
    where
      of_other : (g h : GeneratedKind) → same_space (mapped_generated f g) (mapped_generated f h) ≡ same_space g h
      of_other (GeneratedKind.Private n) (GeneratedKind.Private k) = r.apart n.0 k.0
      of_other (GeneratedKind.Private n) h = refl
      of_other g (GeneratedKind.Private k) = refl
      of_other g h = refl

  is_named_again-mapped : (e : LedgerEntry) (es : List LedgerEntry) → is_named_again (mapped_ledger_entry f e) (mapped_ledger f es) ≡ is_named_again e es
  is_named_again-mapped e [] = refl
  is_named_again-mapped e (x ∷ xs) = ap₂ (λ a b. (a && bytes_eq e.name x.name) || b) (same_space-mapped e.kind x.kind) (is_named_again-mapped e xs)

  same_subject-mapped : (g h : GeneratedKind) → same_subject (mapped_generated f g) (mapped_generated f h) ≡ same_subject g h
  same_subject-mapped (GeneratedKind.WeakMap d) (GeneratedKind.WeakMap k) = r.apart d.0 k.0
  same_subject-mapped (GeneratedKind.StaticField d) (GeneratedKind.StaticField k) = r.apart d.0 k.0
  same_subject-mapped (GeneratedKind.Brand n) (GeneratedKind.Brand k) = r.apart n.0 k.0
  same_subject-mapped (GeneratedKind.Method d) (GeneratedKind.Method k) = r.apart d.0 k.0
  same_subject-mapped (GeneratedKind.LooseKey d) (GeneratedKind.LooseKey k) = r.apart d.0 k.0
  same_subject-mapped g h = refl

  has_another_name-mapped : (g : GeneratedKind) (es : List LedgerEntry) → has_another_name (mapped_generated f g) (mapped_ledger f es) ≡ has_another_name g es
  has_another_name-mapped g [] = refl
  has_another_name-mapped g (x ∷ xs) = ap₂ (λ a b. a || b) (same_subject-mapped g x.kind) (has_another_name-mapped g xs)

  pub names_declared-mapped : (ledger : List LedgerEntry) (q : Tree) → names_declared first (mapped_ledger f ledger) (mapped f q) ≡ names_declared first ledger q
  names_declared-mapped [] q = refl
  names_declared-mapped (e ∷ es) q = ap₂ (λ a b. (is_underscored e.name && not a) && b) (ap₂ (λ a b. a || b) (is_named_again-mapped e es) (has_another_name-mapped e.kind es)) (ap₂ (λ a b. a && b) (declared_by_kind-mapped q e.name e.kind) (names_declared-mapped es q))

  -- ---- new declarations

  is_accounted-mapped : (ledger : List LedgerEntry) (own : List ℕ) (t : Tree) → is_accounted first (mapped_ledger f ledger) (map f own) (mapped f t) ≡ is_accounted first ledger own t
  is_accounted-mapped ledger own (Node kind b span semantic_id ps) = rw (r.new b, string_at-mapped f 0 ps, is_generated-mapped f (string_of (at 0 ps)) ledger, has_number-mapped r b own) refl

  has_new_declarator-mapped : (ps : Parts) → has_new_declarator first (mapped_parts f ps) ≡ has_new_declarator first ps
  has_new_declarator-mapped end = refl
  has_new_declarator-mapped (more (child t) ps) = rw (number_of-mapped f t, r.new (number_of t), has_new_declarator-mapped ps) refl
  has_new_declarator-mapped (more p ps) = has_new_declarator-mapped ps

  is_new_const-mapped : (t : Tree) → is_new_const first (mapped f t) ≡ is_new_const first t
  is_new_const-mapped (Node Kind.VariableDeclaration m span semantic_id ps) = rw (r.new m, string_at-mapped f 0 ps, items_at-mapped f 1 ps, has_new_declarator-mapped (items (at 1 ps))) refl
  is_new_const-mapped t = refl

  all_accounted-mapped : (ledger : List LedgerEntry) (own : List ℕ) (ts : List Tree) → all_accounted first (mapped_ledger f ledger) (map f own) (map (mapped f) ts) ≡ all_accounted first ledger own ts
  all_accounted-mapped ledger own [] = refl
  all_accounted-mapped ledger own (t ∷ ts) = ap₂ (λ a b. not a && b) (is_new_const-mapped t) (ap₂ (λ a b. a && b) (is_accounted-mapped ledger own t) (all_accounted-mapped ledger own ts))

  pub declarations_accounted-mapped : (ledger : List LedgerEntry) (p q : Tree) → declarations_accounted first (mapped_ledger f ledger) (mapped f p) (mapped f q) ≡ declarations_accounted first ledger p q
  declarations_accounted-mapped ledger p q = rw (preorder-mapped f q, resolve-mapped f q, own_name_numbers-mapped r p (resolve q) (preorder q)) (all_accounted-mapped ledger (own_name_numbers p (resolve q) (preorder q)) (preorder q))

  -- ---- initializations

  is_key_call-mapped : (p : Part) → is_key_call first (mapped_part f p) ≡ is_key_call first p
  is_key_call-mapped (child (Node Kind.CallExpression m span semantic_id (more g (more (list (more s end)) rest)))) = is_helper_callee-mapped r (codes "classPrivateFieldLooseKey") g
  is_key_call-mapped p = refl

  has_pair-mapped : (m n : ℕ) (ps : List (ℕ × ℕ)) → has_pair (f m) (f n) (map (mapped_pair f) ps) ≡ has_pair m n ps
  has_pair-mapped m n [] = refl
  has_pair-mapped m n (p ∷ ps) = rw (r.apart m p.0, r.apart n p.1, has_pair-mapped m n ps) refl

  is_class_itself-mapped : (n : ℕ) (p : Part) → is_class_itself (f n) (mapped_part f p) ≡ is_class_itself n p
  is_class_itself-mapped n (child (Node Kind.ClassExpression m span semantic_id ps)) = r.apart n m
  is_class_itself-mapped n p = refl

  module _ (ledger : List LedgerEntry) (q : Tree) where
    is_class_value-mapped : (m n : ℕ) (p : Part) → is_class_value first (mapped_ledger f ledger) (mapped f q) (f m) (f n) (mapped_part f p) ≡ is_class_value first ledger q m n p
    is_class_value-mapped m n p =
        rw (is_class_itself-mapped n p, preorder-mapped f q, resolve-mapped f q, class_identifiers-mapped r n (preorder q), names_class-mapped r n ledger (resolve q) (class_identifiers first n (preorder q)) p, all_behind-mapped f (preorder q), has_pair-mapped m n (all_behind (preorder q)))
        refl

    is_initial-mapped : (m : ℕ) (g : GeneratedKind) (p : Part) → is_initial first (mapped_ledger f ledger) (mapped f q) (f m) (mapped_generated f g) (mapped_part f p) ≡ is_initial first ledger q m g p
    is_initial-mapped m (GeneratedKind.WeakMap d) p = is_new_of-mapped f (codes "WeakMap") p
    is_initial-mapped m (GeneratedKind.StaticField d) p = ap is_present (field_part-mapped f p) ∙ is_present-mapped f (field_part p)
    is_initial-mapped m (GeneratedKind.Brand n) p = is_new_of-mapped f (codes "WeakSet") p
    is_initial-mapped m (GeneratedKind.Method d) p = is_function_part-mapped f p
    is_initial-mapped m (GeneratedKind.LooseKey d) p = is_key_call-mapped p
    is_initial-mapped m (GeneratedKind.SuperFn n) p = is_function_part-mapped f p
    is_initial-mapped m (GeneratedKind.ClassTemp n) p = is_class_value-mapped m n.0 p
    is_initial-mapped m GeneratedKind.Closure p = is_function_part-mapped f p
    is_initial-mapped m g p = refl

    is_class_kind-mapped : (n : ℕ) (g : GeneratedKind) → is_class_kind (f n) (mapped_generated f g) ≡ is_class_kind n g
    is_class_kind-mapped n (GeneratedKind.ClassTemp k) = r.apart n k.0
    is_class_kind-mapped n g = refl

    initialization_at-mapped : (s : String) (g : GeneratedKind) (kind : Kind) (m : ℕ) (ps : Parts) → initialization_at first (mapped_ledger f ledger) (mapped f q) s (mapped_generated f g) kind (f m) (mapped_parts f ps) ≡ map (mapped_initialization f) (initialization_at first ledger q s g kind m ps)
    initialization_at-mapped s g Kind.AssignmentExpression m ps =
        rw (spelled_at-mapped f s 1 ps, at-mapped f 2 ps, is_initial-mapped m g (at 2 ps)) (cond-mapped (map (mapped_initialization f)) (spelled_as s (at 1 ps)) ((m, is_initial first ledger q m g (at 2 ps)) ∷ []) [] refl refl)
    initialization_at-mapped s g Kind.VariableDeclarator m ps =
        rw (spelled_at-mapped f s 0 ps, is_present_at-mapped f 1 ps, at-mapped f 1 ps, is_initial-mapped m g (at 1 ps)) (cond-mapped (map (mapped_initialization f)) (spelled_as s (at 0 ps) && is_present (at 1 ps)) ((m, is_initial first ledger q m g (at 1 ps)) ∷ []) [] refl refl)
    initialization_at-mapped s g Kind.FunctionDeclaration m ps =
        rw (spelled_at-mapped f s 0 ps, is_method_kind-mapped f g) (cond-mapped (map (mapped_initialization f)) (spelled_as s (at 0 ps)) ((m, is_method_kind g) ∷ []) [] refl refl)
    initialization_at-mapped s g Kind.ClassDeclaration m ps =
        rw (spelled_at-mapped f s 0 ps, is_class_kind-mapped m g) (cond-mapped (map (mapped_initialization f)) (spelled_as s (at 0 ps)) ((m, is_class_kind m g) ∷ []) [] refl refl)
    initialization_at-mapped s g Kind.ClassExpression m ps =
        rw (spelled_at-mapped f s 0 ps, is_class_kind-mapped m g) (cond-mapped (map (mapped_initialization f)) (spelled_as s (at 0 ps)) ((m, is_class_kind m g) ∷ []) [] refl refl)
    initialization_at-mapped s g Kind.FunctionExpression m ps =
        rw (spelled_at-mapped f s 0 ps) (cond-mapped (map (mapped_initialization f)) (spelled_as s (at 0 ps)) ((m, false) ∷ []) [] refl refl)
    initialization_at-mapped s g kind m ps = refl

    initializations-mapped : (s : String) (g : GeneratedKind) (ts : List Tree) → initializations first (mapped_ledger f ledger) (mapped f q) s (mapped_generated f g) (map (mapped f) ts) ≡ map (mapped_initialization f) (initializations first ledger q s g ts)
    initializations-mapped s g [] = refl
    initializations-mapped s g (Node kind m span semantic_id ps ∷ ts) = append-mapped (mapped_initialization f) _ _ (initialization_at-mapped s g kind m ps) (initializations-mapped s g ts)

    initializations_in-mapped : (s : String) (g : GeneratedKind) → initializations first (mapped_ledger f ledger) (mapped f q) s (mapped_generated f g) (preorder (mapped f q)) ≡ map (mapped_initialization f) (initializations first ledger q s g (preorder q))
    initializations_in-mapped s g = ap (initializations first (mapped_ledger f ledger) (mapped f q) s (mapped_generated f g)) (preorder-mapped f q) ∙ initializations-mapped s g (preorder q)

  -- ---- their places

  comes_before-mapped : (m n : ℕ) (ts : List Tree) → comes_before (f m) (f n) (map (mapped f) ts) ≡ comes_before m n ts
  comes_before-mapped m n [] = refl
  comes_before-mapped m n (t ∷ ts) = rw (number_of-mapped f t, r.apart m (number_of t), r.apart n (number_of t), comes_before-mapped m n ts) refl

  all_before-mapped : (m : ℕ) (ns : List ℕ) (ts : List Tree) → all_before (f m) (map f ns) (map (mapped f) ts) ≡ all_before m ns ts
  all_before-mapped m [] ts = refl
  all_before-mapped m (n ∷ ns) ts = ap₂ (λ a b. a && b) (comes_before-mapped m n ts) (all_before-mapped m ns ts)

  is_declared_function-mapped : (m : ℕ) (ts : List Tree) → is_declared_function (f m) (map (mapped f) ts) ≡ is_declared_function m ts
  is_declared_function-mapped m [] = refl
  is_declared_function-mapped m (t ∷ ts) = rw (number_of-mapped f t, r.apart m (number_of t), is_function_declaration-mapped f t, is_declared_function-mapped m ts) refl

  member_there-mapped : (test : PrivateMember → Bool) (d : ℕ) (members : List PrivateMember) → ((x : PrivateMember) → test (mapped_private f x) ≡ test x) → is_some (if_member test (member_at (f d) (mapped_privates f members))) ≡ is_some (if_member test (member_at d members))
  member_there-mapped test d members same =
      ap (λ x. is_some (if_member test x)) (member_at-mapped r d members)
      ∙ ap is_some (if_member-mapped f test same (member_at d members)) ∙ is_some-mapped (mapped_private f) (if_member test (member_at d members))

  has_branded-mapped : (n : ℕ) (members : List PrivateMember) → has_branded (f n) (mapped_privates f members) ≡ has_branded n members
  has_branded-mapped n [] = refl
  has_branded-mapped n (x ∷ xs) = ap₂ (λ a b. (a && (is_function_member x && not x.is_static)) || b) (r.apart n x.class) (has_branded-mapped n xs)

  belongs-mapped : (members : List PrivateMember) (g : GeneratedKind) → belongs (mapped_privates f members) (mapped_generated f g) ≡ belongs members g
  belongs-mapped members (GeneratedKind.WeakMap d) = member_there-mapped is_instance_field d.0 members (λ x. refl)
  belongs-mapped members (GeneratedKind.StaticField d) = member_there-mapped is_static_field d.0 members (λ x. refl)
  belongs-mapped members (GeneratedKind.Brand n) = has_branded-mapped n.0 members
  belongs-mapped members (GeneratedKind.Method d) = member_there-mapped is_function_member d.0 members (λ x. refl)
  belongs-mapped members (GeneratedKind.LooseKey d) = member_there-mapped (λ x. is_a_field x.kind) d.0 members (λ x. refl)
  belongs-mapped members g = refl

  private_numbers-mapped : (ts : List Tree) → private_numbers (map (mapped f) ts) ≡ map f (private_numbers ts)
  private_numbers-mapped [] = refl
  private_numbers-mapped (Node Kind.MethodDefinition m span semantic_id ps ∷ ts) =
      append-mapped f _ _
      (rw (at-mapped f 0 ps, is_private_key-mapped f (at 0 ps)) (cond-mapped (map f) (is_private_key (at 0 ps)) (numbers_of (preorder_of_part (at 1 ps))) [] (ap (λ p. numbers_of (preorder_of_part p)) (at-mapped f 1 ps) ∙ numbers_of_part-mapped f (at 1 ps)) refl))
      (private_numbers-mapped ts)
  private_numbers-mapped (t ∷ ts) = private_numbers-mapped ts

  with_inner-mapped : (ps : List Tree) (ns : List ℕ) → with_inner (map (mapped f) ps) (map f ns) ≡ map f (with_inner ps ns)
  with_inner-mapped ps [] = refl
  with_inner-mapped ps (n ∷ ns) =
      ap (λ ks. f n ∷ ks) (append-mapped f _ _ (ap₂ without (ap private_numbers (nodes_of_class-mapped r n ps) ∙ private_numbers-mapped (nodes_of_class n ps)) (ap class_numbers (nodes_of_class-mapped r n ps) ∙ class_numbers-mapped f (nodes_of_class n ps)) ∙ without-mapped r (private_numbers (nodes_of_class n ps)) (class_numbers (nodes_of_class n ps))) (with_inner-mapped ps ns))

  is_one_initialization-mapped : (g : GeneratedKind) (p q : Tree) (is : List (ℕ × Bool)) → is_one_initialization (mapped_generated f g) (mapped f p) (mapped f q) (map (mapped_initialization f) is) ≡ is_one_initialization g p q is
  is_one_initialization-mapped g p q [] = refl
  is_one_initialization-mapped g p q (i ∷ []) =
      let ns : List ℕ = class_before g (private_members p) in
      ap₂ (λ a b. i.1 && (a || b)) (ap (is_declared_function (f i.0)) (preorder-mapped f q) ∙ is_declared_function-mapped i.0 (preorder q))
      (ap₂ (all_before (f i.0)) (ap₂ with_inner (preorder-mapped f p) (ap (class_before (mapped_generated f g)) (private_members-mapped f p) ∙ class_before-mapped r g (private_members p)) ∙ with_inner-mapped (preorder p) ns) (preorder-mapped f q) ∙ all_before-mapped i.0 (with_inner (preorder p) ns) (preorder q))
  is_one_initialization-mapped g p q (i ∷ j ∷ is) = refl

  is_temp-mapped : (g : GeneratedKind) → is_temp (mapped_generated f g) ≡ is_temp g
  is_temp-mapped GeneratedKind.Temp = refl
  is_temp-mapped g = refl

  is_at_most_one-mapped : (is : List (ℕ × Bool)) → is_at_most_one (map (mapped_initialization f) is) ≡ is_at_most_one is
  is_at_most_one-mapped [] = refl
  is_at_most_one-mapped (i ∷ []) = refl
  is_at_most_one-mapped (i ∷ j ∷ is) = refl

  initialization_stands-mapped : (g : GeneratedKind) (p q : Tree) (is : List (ℕ × Bool)) → initialization_stands (mapped_generated f g) (mapped f p) (mapped f q) (map (mapped_initialization f) is) ≡ initialization_stands g p q is
  initialization_stands-mapped g p q is =
      ap₂ (λ a b. a || b)
      (ap₂ (λ a b. a && b) (needs_none-mapped f g) (ap₂ (λ a b. not a || b) (is_temp-mapped g) (is_at_most_one-mapped is)))
      (ap₂ (λ a b. a && b) (ap (λ ms. belongs ms (mapped_generated f g)) (private_members-mapped f p) ∙ belongs-mapped (private_members p) g) (is_one_initialization-mapped g p q is))

  pub initializations_stand-mapped : (ledger : List LedgerEntry) (p q : Tree) (es : List LedgerEntry) → initializations_stand first (mapped_ledger f ledger) (mapped f p) (mapped f q) (mapped_ledger f es) ≡ initializations_stand first ledger p q es
  initializations_stand-mapped ledger p q [] = refl
  initializations_stand-mapped ledger p q (e ∷ es) =
      let own : List (ℕ × Bool) = initializations first ledger q e.name e.kind (preorder q) in
      ap₂ (λ a b. a && b)
      (ap (initialization_stands (mapped_generated f e.kind) (mapped f p) (mapped f q)) (initializations_in-mapped ledger q e.name e.kind) ∙ initialization_stands-mapped e.kind p q own)
      (initializations_stand-mapped ledger p q es)

  any_before-mapped : (is : List (ℕ × Bool)) (n : ℕ) (ts : List Tree) → any_before (map (mapped_initialization f) is) (f n) (map (mapped f) ts) ≡ any_before is n ts
  any_before-mapped [] n ts = refl
  any_before-mapped (i ∷ is) n ts = ap₂ (λ a b. a || b) (comes_before-mapped i.0 n ts) (any_before-mapped is n ts)

  keys_before-mapped : (ledger : List LedgerEntry) (q : Tree) (ps : List (String × ℕ)) → keys_before first (mapped_ledger f ledger) (mapped f q) (map (mapped_temporary f) ps) ≡ keys_before first ledger q ps
  keys_before-mapped ledger q [] = refl
  keys_before-mapped ledger q (p ∷ ps) =
      let own : List (ℕ × Bool) = initializations first ledger q p.0 GeneratedKind.Temp (preorder q) in
      ap₂ (λ a b. a && b)
      (ap₂ (λ is ts. any_before is (f p.1) ts) (initializations_in-mapped ledger q p.0 GeneratedKind.Temp) (preorder-mapped f q) ∙ any_before-mapped own p.1 (preorder q))
      (keys_before-mapped ledger q ps)

  pub keys_stand-mapped : (o : Options) (ledger : List LedgerEntry) (members : List PrivateMember) (q : Tree) (ks : List (String × ℕ)) → keys_stand first o (mapped_ledger f ledger) (mapped_privates f members) (mapped f q) (map (mapped_temporary f) ks) ≡ keys_stand first o ledger members q ks
  keys_stand-mapped o ledger members q ks = ap₂ (λ a b. not (lowers_fields o) || (a && b)) (all_different-mapped f ks) (keys_before-mapped ledger q ks)
