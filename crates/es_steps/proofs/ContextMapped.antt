-- Contexts follow a change of numbers: what a name is, what is known inside a node, and at the start.
use Rattle.std.specs.Prelude.{◌≡◌, ℕ, List, [], ◌∷◌, ◌++◌, ◌||◌, map, Bool, true, false, cond, bytes_eq, codes, nat_eq, Option, Some, None}
use Rattle.std.proofs.Common.{refl, ap, ◌∙◌}
use Rattle.es_base.specs.Numbered.{is_new}
use Rattle.es_base.specs.Tree.{Tree, Part, Parts, Node, end, more, child, list}
use Rattle.es_base.specs.declared.kind.Kind.{Kind}
use Rattle.es_base.specs.declared.ledger.GeneratedKind.{GeneratedKind}
use Rattle.es_base.specs.declared.ledger.LedgerEntry.{LedgerEntry}
use Rattle.es_steps.specs.Context.{NameKind, Fixed, Changing, MeansClass, FunctionRole, a_function, constructor_of, method_on, super_function_of, Context, is_private_entry, generated_as, is_generated, is_private_for, is_generated_private, if_around, around_inside, unless_varying, declared_kind, found_kind, generated_or, name_kind, is_super_call, holds_super, part_holds_super, parts_hold_super, rest_among, super_statement, first_super, initializing_call, Frame, function_frame, arrow_frame, class_frame, field_frame, method_frame, static_block_frame, object_frame, property_frame, assignment_frame, declarator_frame, same_frame, frame_of, in_function, in_element, is_constructor, method_role, property_role, role_of_generated, name_in, let_class_of, framed, role_in, inner_name, inside}
use Rattle.es_steps.specs.Meaning.{Terms, start}
use Rattle.es_steps.specs.Parts.{at, items, block_items, string_of, is_true, is_present}
use Rattle.es_steps.specs.PrivateNames.{seen_members}
use Rattle.es_steps.specs.References.{declared, has_number}
use Rattle.es_steps.specs.Scopes.{ClassName, no_class, declares, own_name, let_names, Declaration, bound_part, names_at, class_in}
use Rattle.es_steps.specs.Values.{String, Bound, Home, OfClass, OfPrototype}
use Rattle.es_steps.proofs.Mapped.{mapped, mapped_part, mapped_parts, mapped_class_name, mapped_declaration, mapped_declarations, mapped_option, mapped_generated, mapped_ledger, mapped_name_kind, mapped_private, mapped_home, mapped_role, mapped_pair, mapped_context, mapped_terms, Renames}
use Rattle.es_steps.proofs.PartsMapped.{cond-mapped, append-mapped, is_some-mapped, at-mapped, items_at-mapped, block_items_at-mapped, string_at-mapped, is_true_at-mapped, is_present_at-mapped, number_of-mapped}
use Rattle.es_steps.proofs.PrivatesMapped.{seen_members-mapped}
use Rattle.es_steps.proofs.ReferencesMapped.{declared-mapped, has_number-mapped, changes_free-mapped, varying-mapped, uncaught_at-mapped}
use Rattle.es_steps.proofs.ScopesMapped.{bound_at-mapped, names_at-mapped, class_in-mapped}

-- ---- the ledger

module _ (f : ℕ → ℕ) where
  is_private_entry-mapped : (g : GeneratedKind) → is_private_entry (mapped_generated f g) ≡ is_private_entry g
  is_private_entry-mapped (GeneratedKind.Private n) = refl
  is_private_entry-mapped g = refl

  pub generated_as-mapped : (s : String) (es : List LedgerEntry) → generated_as s (mapped_ledger f es) ≡ mapped_option (mapped_generated f) (generated_as s es)
  generated_as-mapped s [] = refl
  generated_as-mapped s (e ∷ es) =
      rw (is_private_entry-mapped e.kind)
      (cond-mapped (mapped_option (mapped_generated f)) (is_private_entry e.kind) (generated_as s es) _ (generated_as-mapped s es) (cond-mapped (mapped_option (mapped_generated f)) (bytes_eq s e.name) (Some e.kind) _ refl (generated_as-mapped s es)))

  pub is_generated-mapped : (s : String) (es : List LedgerEntry) → is_generated s (mapped_ledger f es) ≡ is_generated s es
  is_generated-mapped s es = rw (generated_as-mapped s es) (is_some-mapped (mapped_generated f) (generated_as s es))

  -- ---- which `super(..)` runs the initializers

  pub is_super_call-mapped : (kind : Kind) (ps : Parts) → is_super_call kind (mapped_parts f ps) ≡ is_super_call kind ps
  is_super_call-mapped Kind.CallExpression (more (child (Node Kind.Super m span semantic_id ps)) rest) = refl
  is_super_call-mapped kind ps = refl

  mutual
    holds_super-mapped : (t : Tree) → holds_super (mapped f t) ≡ holds_super t
    holds_super-mapped (Node kind m span semantic_id ps) = rw (is_super_call-mapped kind ps, parts_hold_super-mapped ps) refl

    part_holds_super-mapped : (p : Part) → part_holds_super (mapped_part f p) ≡ part_holds_super p
    part_holds_super-mapped (child t) = holds_super-mapped t
    part_holds_super-mapped (list ps) = parts_hold_super-mapped ps
    part_holds_super-mapped p = refl

    parts_hold_super-mapped : (ps : Parts) → parts_hold_super (mapped_parts f ps) ≡ parts_hold_super ps
    parts_hold_super-mapped end = refl
    parts_hold_super-mapped (more p ps) = rw (part_holds_super-mapped p, parts_hold_super-mapped ps) refl

  super_statement-mapped : (p : Part) → super_statement (mapped_part f p) ≡ mapped_option f (super_statement p)
  super_statement-mapped (child (Node Kind.ExpressionStatement m span semantic_id (more (child (Node Kind.CallExpression k kspan k_semantic_id (more (child (Node Kind.Super s sspan s_semantic_id ss)) (more arguments rest)))) directive))) = rw (part_holds_super-mapped arguments) (cond-mapped (mapped_option f) (part_holds_super arguments) None (Some k) refl refl)
  super_statement-mapped p = refl

  first_super-mapped : (ps : Parts) → first_super (mapped_parts f ps) ≡ mapped_option f (first_super ps)
  first_super-mapped end = refl
  first_super-mapped (more p ps) = rw (part_holds_super-mapped p) (cond-mapped (mapped_option f) (part_holds_super p) _ _ (super_statement-mapped p) (first_super-mapped ps))

  initializing_call-mapped : (ps : Parts) → initializing_call (mapped_parts f ps) ≡ mapped_option f (initializing_call ps)
  initializing_call-mapped ps = rw (at-mapped f 1 ps, part_holds_super-mapped (at 1 ps), block_items_at-mapped f 2 ps) (cond-mapped (mapped_option f) (part_holds_super (at 1 ps)) None _ refl (first_super-mapped (block_items (at 2 ps))))

  -- ---- roles

  home-mapped : (is_static : Bool) (n : ℕ) → cond is_static (OfClass (f n)) (OfPrototype (f n)) ≡ mapped_home f (cond is_static (OfClass n) (OfPrototype n))
  home-mapped true n = refl
  home-mapped false n = refl

  method_role-mapped : (kind : String) (is_static : Bool) (n : ℕ) → method_role kind is_static (f n) ≡ mapped_role f (method_role kind is_static n)
  method_role-mapped kind is_static n = cond-mapped (mapped_role f) (is_constructor kind) (constructor_of n) _ refl (ap method_on (home-mapped is_static n))

  property_role-mapped : (kind : String) (is_method : Bool) (m : ℕ) → property_role kind is_method (f m) ≡ mapped_role f (property_role kind is_method m)
  property_role-mapped kind is_method m = cond-mapped (mapped_role f) (is_method || (bytes_eq kind (codes "get") || bytes_eq kind (codes "set"))) (method_on (Home.OfObject m)) a_function refl refl

  role_of_generated-mapped : (g : Option GeneratedKind) → role_of_generated (mapped_option (mapped_generated f) g) ≡ mapped_role f (role_of_generated g)
  role_of_generated-mapped (Some (GeneratedKind.SuperFn n)) = refl
  role_of_generated-mapped g = refl

  pub name_in-mapped : (p : Part) → name_in (mapped_part f p) ≡ name_in p
  name_in-mapped (child (Node kind m span semantic_id ps)) = string_at-mapped f 0 ps
  name_in-mapped p = refl

  name_at-mapped : (i : ℕ) (ps : Parts) → name_in (at i (mapped_parts f ps)) ≡ name_in (at i ps)
  name_at-mapped i ps = ap name_in (at-mapped f i ps) ∙ name_in-mapped (at i ps)

  role_at-mapped : (i : ℕ) (ps : Parts) (c : Context) → role_of_generated (generated_as (name_in (at i (mapped_parts f ps))) (mapped_ledger f c.ledger)) ≡ mapped_role f (role_of_generated (generated_as (name_in (at i ps)) c.ledger))
  role_at-mapped i ps c = rw (name_at-mapped i ps, generated_as-mapped (name_in (at i ps)) c.ledger) (role_of_generated-mapped (generated_as (name_in (at i ps)) c.ledger))

  role_in-mapped : (frame : Frame) (ps : Parts) (i : ℕ) (c : Context) → role_in frame (mapped_parts f ps) i (mapped_context f c) ≡ mapped_role f (role_in frame ps i c)
  role_in-mapped method_frame ps i c = rw (string_at-mapped f 2 ps, is_true_at-mapped f 4 ps) (cond-mapped (mapped_role f) (nat_eq i 1) _ a_function (method_role-mapped (string_of (at 2 ps)) (is_true (at 4 ps)) c.class) refl)
  role_in-mapped property_frame ps i c = rw (string_at-mapped f 2 ps, is_true_at-mapped f 3 ps) (cond-mapped (mapped_role f) (nat_eq i 1) _ a_function (property_role-mapped (string_of (at 2 ps)) (is_true (at 3 ps)) c.object) refl)
  role_in-mapped assignment_frame ps i c = cond-mapped (mapped_role f) (nat_eq i 2) _ a_function (role_at-mapped 1 ps c) refl
  role_in-mapped declarator_frame ps i c = cond-mapped (mapped_role f) (nat_eq i 1) _ a_function (role_at-mapped 0 ps c) refl
  role_in-mapped frame ps i c = refl

  rest_among-mapped : (ps : Parts) → rest_among (mapped_parts f ps) ≡ rest_among ps
  rest_among-mapped end = refl
  rest_among-mapped (more (child (Node Kind.RestElement m span semantic_id ps)) rest) = ap name_in (at-mapped f 0 ps) ∙ name_in-mapped (at 0 ps)
  rest_among-mapped (more p rest) = rest_among-mapped rest

  rest_at-mapped : (i : ℕ) (ps : Parts) → rest_among (items (at i (mapped_parts f ps))) ≡ rest_among (items (at i ps))
  rest_at-mapped i ps = ap rest_among (items_at-mapped f i ps) ∙ rest_among-mapped (items (at i ps))

  let_class_of-mapped : (g : Option GeneratedKind) (n : Option ℕ) (p : Part) → let_class_of (mapped_option (mapped_generated f) g) (mapped_option f n) (mapped_part f p) ≡ mapped_option (mapped_pair f) (let_class_of g n p)
  let_class_of-mapped None (Some n) (child (Node Kind.BindingIdentifier b span semantic_id ps)) = refl
  let_class_of-mapped g n p = refl

  let_class_at-mapped : (ps : Parts) (c : Context) → let_class_of (generated_as (name_in (at 0 (mapped_parts f ps))) (mapped_ledger f c.ledger)) (class_in (at 1 (mapped_parts f ps))) (at 0 (mapped_parts f ps)) ≡ mapped_option (mapped_pair f) (let_class_of (generated_as (name_in (at 0 ps)) c.ledger) (class_in (at 1 ps)) (at 0 ps))
  let_class_at-mapped ps c =
      rw (name_at-mapped 0 ps, generated_as-mapped (name_in (at 0 ps)) c.ledger, at-mapped f 1 ps, class_in-mapped f (at 1 ps), at-mapped f 0 ps)
      (let_class_of-mapped (generated_as (name_in (at 0 ps)) c.ledger) (class_in (at 1 ps)) (at 0 ps))

  in_element-mapped : (is_static : Bool) (c : Context) → in_element is_static (mapped_context f c) ≡ mapped_context f (in_element is_static c)
  in_element-mapped true c = refl
  in_element-mapped false c = refl

-- ---- what a name is, and what is known inside a node

module _ {first : ℕ} {f : ℕ → ℕ} (r : Renames first f) where
  is_private_for-mapped : (n : ℕ) (g : GeneratedKind) → is_private_for (f n) (mapped_generated f g) ≡ is_private_for n g
  is_private_for-mapped n (GeneratedKind.Private k) = r.apart n k.0
  is_private_for-mapped n g = refl

  pub is_generated_private-mapped : (s : String) (n : ℕ) (es : List LedgerEntry) → is_generated_private s (f n) (mapped_ledger f es) ≡ is_generated_private s n es
  is_generated_private-mapped s n [] = refl
  is_generated_private-mapped s n (e ∷ es) = rw (is_private_for-mapped n e.kind, is_generated_private-mapped s n es) refl

  unless_varying-mapped : (varying : List ℕ) (b : ℕ) (kind : NameKind) → unless_varying (map f varying) (f b) (mapped_name_kind f kind) ≡ mapped_name_kind f (unless_varying varying b kind)
  unless_varying-mapped varying b kind = rw (has_number-mapped r b varying) (cond-mapped (mapped_name_kind f) (has_number b varying) (Changing (Bound b)) kind refl refl)

  let_kind-mapped : (m n b : ℕ) → cond (is_new first (f m)) (MeansClass (f n) (f b)) (Fixed (f b)) ≡ mapped_name_kind f (cond (is_new first m) (MeansClass n b) (Fixed b))
  let_kind-mapped m n b = rw (r.new m) (cond-mapped (mapped_name_kind f) (is_new first m) (MeansClass n b) (Fixed b) refl refl)

  declared_kind-mapped : (varying : List ℕ) (b : ℕ) (name : ClassName) → declared_kind first (map f varying) (f b) (mapped_class_name f name) ≡ mapped_name_kind f (declared_kind first varying b name)
  declared_kind-mapped varying b no_class = unless_varying-mapped varying b (Fixed b)
  declared_kind-mapped varying b (declares n) = unless_varying-mapped varying b (MeansClass n b)
  declared_kind-mapped varying b (own_name n) = refl
  declared_kind-mapped varying b (let_names m n) = ap (unless_varying (map f varying) (f b)) (let_kind-mapped m n b) ∙ unless_varying-mapped varying b (cond (is_new first m) (MeansClass n b) (Fixed b))

  found_kind-mapped : (varying : List ℕ) (s : String) (d : Option Declaration) → found_kind first (map f varying) s (mapped_option (mapped_declaration f) d) ≡ mapped_name_kind f (found_kind first varying s d)
  found_kind-mapped varying s None = refl
  found_kind-mapped varying s (Some d) = declared_kind-mapped varying d.number d.class_name

  generated_or-mapped : (g : Option GeneratedKind) (kind : NameKind) → generated_or (mapped_option (mapped_generated f) g) (mapped_name_kind f kind) ≡ mapped_name_kind f (generated_or g kind)
  generated_or-mapped (Some g) kind = refl
  generated_or-mapped None kind = refl

  pub name_kind-mapped : (c : Context) → c.first_new ≡ first → (s : String) → name_kind (mapped_context f c) s ≡ mapped_name_kind f (name_kind c s)
  name_kind-mapped c e s =
      rw (generated_as-mapped f s c.ledger, declared-mapped f s c.names, e, found_kind-mapped c.varying s (declared s c.names))
      (generated_or-mapped (generated_as s c.ledger) (found_kind first c.varying s (declared s c.names)))

  pub new_here-mapped : (c : Context) → c.first_new ≡ first → (m : ℕ) → is_new c.first_new (f m) ≡ is_new c.first_new m
  new_here-mapped c e m = rw e (r.new m)

  in_function-mapped : (role : FunctionRole) (g : ℕ) (ps : Parts) (c : Context) → c.first_new ≡ first → in_function (mapped_role f role) (f g) (mapped_parts f ps) (mapped_context f c) ≡ mapped_context f (in_function role g ps c)
  in_function-mapped a_function g ps c e = rw (new_here-mapped c e g, rest_at-mapped f 1 ps) refl
  in_function-mapped (constructor_of n) g ps c e = rw (new_here-mapped c e g, rest_at-mapped f 1 ps, initializing_call-mapped f ps, cond-mapped (mapped_option f) c.has_heritage (Some n) None refl refl) refl
  in_function-mapped (method_on home) g ps c e = rw (new_here-mapped c e g, rest_at-mapped f 1 ps) refl
  in_function-mapped (super_function_of n) g ps c e = rw (new_here-mapped c e g, rest_at-mapped f 1 ps) refl

  framed-mapped : (frame : Frame) (m : ℕ) (ps : Parts) (i : ℕ) (c : Context) → c.first_new ≡ first → framed frame (f m) (mapped_parts f ps) i (mapped_context f c) ≡ mapped_context f (framed frame m ps i c)
  framed-mapped function_frame m ps i c e = in_function-mapped c.role m ps c e
  framed-mapped arrow_frame m ps i c e = rw (new_here-mapped c e m, rest_at-mapped f 0 ps) refl
  framed-mapped class_frame m ps i c e = rw (is_present_at-mapped f 1 ps) (cond-mapped (mapped_context f) (nat_eq i 2) (record c { class = m; has_heritage = is_present (at 1 ps) }) c refl refl)
  framed-mapped field_frame m ps i c e = rw (is_true_at-mapped f 3 ps) (cond-mapped (mapped_context f) (nat_eq i 1) _ c (in_element-mapped f (is_true (at 3 ps)) c) refl)
  framed-mapped method_frame m ps i c e = refl
  framed-mapped static_block_frame m ps i c e = refl
  framed-mapped object_frame m ps i c e = refl
  framed-mapped property_frame m ps i c e = refl
  framed-mapped assignment_frame m ps i c e = refl
  framed-mapped declarator_frame m ps i c e = rw (new_here-mapped c e m) (cond-mapped (mapped_context f) (is_new c.first_new m) (record c { let_class = let_class_of (generated_as (name_in (at 0 ps)) c.ledger) (class_in (at 1 ps)) (at 0 ps) }) c (ap (λ k. record (mapped_context f c) { let_class = k }) (let_class_at-mapped f ps c)) refl)
  framed-mapped same_frame m ps i c e = refl

  inner_name-mapped : (kind : Kind) (m : ℕ) (ps : Parts) (i : ℕ) → inner_name kind (f m) (mapped_parts f ps) i ≡ mapped_declarations f (inner_name kind m ps i)
  inner_name-mapped Kind.ClassDeclaration m ps i = cond-mapped (mapped_declarations f) (nat_eq i 0) [] (bound_part (own_name m) (at 0 ps)) refl (bound_at-mapped f (own_name m) 0 ps)
  inner_name-mapped kind m ps i = refl

  seen_names-mapped : (c : Context) (kind : Kind) (m : ℕ) (ps : Parts) (i : ℕ) → inner_name kind (f m) (mapped_parts f ps) i ++ names_at c.is_body kind (f m) (mapped_parts f ps) i ++ mapped_declarations f c.names ≡ mapped_declarations f (inner_name kind m ps i ++ names_at c.is_body kind m ps i ++ c.names)
  seen_names-mapped c kind m ps i =
      append-mapped (mapped_declaration f) (inner_name kind m ps i ++ names_at c.is_body kind m ps i) c.names
      (append-mapped (mapped_declaration f) (inner_name kind m ps i) (names_at c.is_body kind m ps i) (inner_name-mapped kind m ps i) (names_at-mapped f c.is_body kind m ps i))
      refl

  if_around-mapped : (around : Option (List Declaration)) (names : List Declaration) → if_around (mapped_option (mapped_declarations f) around) (mapped_declarations f names) ≡ mapped_declarations f (if_around around names)
  if_around-mapped (Some around) names = refl
  if_around-mapped None names = refl

  around_inside-mapped : (c : Context) (kind : Kind) → around_inside (mapped_context f c) kind ≡ mapped_option (mapped_declarations f) (around_inside c kind)
  around_inside-mapped c Kind.BlockStatement = cond-mapped (mapped_option (mapped_declarations f)) c.is_body None (Some c.uncaught) refl refl
  around_inside-mapped c Kind.SwitchStatement = refl
  around_inside-mapped c Kind.SwitchCase = refl
  around_inside-mapped c Kind.LabeledStatement = refl
  around_inside-mapped c Kind.IfStatement = ap Some (if_around-mapped c.around c.uncaught)
  around_inside-mapped c kind = refl

  pub inside-mapped : (c : Context) → c.first_new ≡ first → (kind : Kind) (m : ℕ) (ps : Parts) (i : ℕ) → inside (mapped_context f c) kind (f m) (mapped_parts f ps) i ≡ mapped_context f (inside c kind m ps i)
  inside-mapped c e kind m ps i =
      rw (framed-mapped (frame_of kind) m ps i c e, seen_names-mapped c kind m ps i, append-mapped (mapped_private f) (seen_members kind m ps i) c.privates (seen_members-mapped f kind m ps i) refl, role_in-mapped f (frame_of kind) ps i c, around_inside-mapped c kind, uncaught_at-mapped f c.names c.uncaught c.is_body kind m ps i)
      refl

  -- ---- the start

  pub start-mapped : (o : Terms) (t : Tree) → start (mapped_terms f o) (mapped f t) ≡ mapped_context f (start o t)
  start-mapped o t = rw (number_of-mapped f t, varying-mapped f t, changes_free-mapped f (codes "arguments") t) refl

-- where new numbers begin stays
either-first : (b : Bool) (c d : Context) → d.first_new ≡ c.first_new → (cond b d c).first_new ≡ c.first_new
either-first true c d same = same
either-first false c d same = refl

in_function-first : (role : FunctionRole) (g : ℕ) (ps : Parts) (c : Context) → (in_function role g ps c).first_new ≡ c.first_new
in_function-first a_function g ps c = refl
in_function-first (constructor_of n) g ps c = refl
in_function-first (method_on home) g ps c = refl
in_function-first (super_function_of n) g ps c = refl

framed-first : (frame : Frame) (m : ℕ) (ps : Parts) (i : ℕ) (c : Context) → (framed frame m ps i c).first_new ≡ c.first_new
framed-first function_frame m ps i c = in_function-first c.role m ps c
framed-first class_frame m ps i c = either-first (nat_eq i 2) c _ refl
framed-first field_frame m ps i c = either-first (nat_eq i 1) c (in_element (is_true (at 3 ps)) c) refl
framed-first declarator_frame m ps i c = either-first (is_new c.first_new m) c _ refl
framed-first frame m ps i c = refl

pub inside-first : (c : Context) (kind : Kind) (m : ℕ) (ps : Parts) (i : ℕ) → (inside c kind m ps i).first_new ≡ c.first_new
inside-first c kind m ps i = framed-first (frame_of kind) m ps i c
