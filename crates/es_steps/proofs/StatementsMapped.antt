-- The codes of statements, patterns, functions and classes follow a change of numbers.
use Rattle.std.specs.Prelude.{◌≡◌, ℕ, suc, List, [], ◌∷◌, map, Bool, true, false, cond, not, ◌&&◌, ◌||◌, nat_eq, Option, Some, None}
use Rattle.std.proofs.Common.{refl, ap, ap₂, ◌∙◌}
use Rattle.es_base.specs.Numbered.{is_new}
use Rattle.es_base.specs.declared.kind.Kind.{Kind}
use Rattle.es_base.specs.declared.ledger.GeneratedKind.{GeneratedKind}
use Rattle.es_steps.specs.ClassHeads.{named_as}
use Rattle.es_steps.specs.Code.{Code, Codes, Target, FunctionForm, no_rule, value, spelled, private_name, binding, rest, assign, operation, pattern, takes, steps, gives_to, new_return, field, private_field, method, private_method, generated_element, no_target, done, and, one, joined}
use Rattle.es_steps.specs.Context.{Context, Fixed, Changing, Generated, StaticMethod, MeansClass, is_constructor, is_generated_private}
use Rattle.es_steps.specs.Events.{Detail, Operand, Empty, Index, Rest, OfKind, Take}
use Rattle.es_steps.specs.Expressions.{the_code, key_code, key_details, target_of}
use Rattle.es_steps.specs.Members.{Member, Members, code, absent, list, string, more, end, at, from, before, operands, details, codes_in, codes_of, word_of, flag_of}
use Rattle.es_steps.specs.PrivateNames.{PrivateMember, member_at}
use Rattle.es_steps.specs.Statements.{held_from, case_code, given_codes, catch_code, is_initialized, initialized_first, head_initializers, declared_target, given_targets, head_targets, undefined_let, undefined_lets, is_let_word, declaration_code, for_each_code, is_other_directive, expression_code, declarator_of, declarator_code, return_code, suspension_code, default_export_code, default_code, rest_code, pattern_property_code, target_number, taken, taken_element, elements_from, members_of_list, array_pattern_code, taken_properties, object_pattern_code, form_of, function_or_new, own_name_of, function_code, function_expression_code, hoisted_function, declared_function, is_new_return, ends_with_return, arrow_body, function_declaration_code, arrow_code, declared_by, declared_by_let, elements_of, class_of, value_or_undefined, is_name_or_length, is_absent, field_form, private_element, field_of, field_code, is_constructor_key, method_or_constructor, is_declared_as, method_of, method_code}
use Rattle.es_steps.specs.GeneratedForms.{opened_body}
use Rattle.es_steps.specs.References.{declared}
use Rattle.es_steps.specs.Scopes.{Declaration}
use Rattle.es_steps.specs.Values.{String, StringOf, ConstantOf}
use Rattle.es_steps.proofs.ClassHeadsMapped.{named_as-mapped}
use Rattle.es_steps.proofs.ContextMapped.{is_generated_private-mapped}
use Rattle.es_steps.proofs.ExpressionsMapped.{the_code_at-mapped, key_code-mapped, key_details-mapped, target_of-mapped, target_at-mapped}
use Rattle.es_steps.proofs.FormsMapped.{code-cond, cond-code, here, given-mapped, opened_body-mapped}
use Rattle.es_steps.proofs.Mapped.{Renames, mapped_option, mapped_declarations, mapped_generated, mapped_private, mapped_pair, mapped_context, mapped_code, mapped_codes, mapped_target, mapped_member, mapped_members}
use Rattle.es_steps.proofs.PrivatesMapped.{member_at-mapped}
use Rattle.es_steps.proofs.MembersMapped.{at-mapped, from-mapped, before-mapped, joined-mapped, operands-mapped, details-mapped, codes_in-mapped, word_at-mapped, flag_at-mapped, codes_at-mapped}
use Rattle.es_steps.proofs.PartsMapped.{cond-mapped}
use Rattle.es_steps.proofs.ReferencesMapped.{declared-mapped, referent-mapped}

module _ (f : ℕ → ℕ) where
  -- ---- statements

  pub held_from-mapped : (i : ℕ) (kind : Kind) (m : ℕ) (ps : Members) → held_from i kind (f m) (mapped_members f ps) ≡ mapped_code f (held_from i kind m ps)
  held_from-mapped i kind m ps = rw (details-mapped f ps, before-mapped f i ps, operands-mapped f (before i ps), from-mapped f i ps, codes_in-mapped f (from i ps)) refl

  pub case_code-mapped : (m : ℕ) (ps : Members) → case_code (f m) (mapped_members f ps) ≡ mapped_code f (case_code m ps)
  case_code-mapped m ps = rw (before-mapped f 1 ps, details-mapped f (before 1 ps), codes_at-mapped f 0 ps, codes_at-mapped f 1 ps, joined-mapped f (codes_of (at 0 ps)) (one (steps (codes_of (at 1 ps))))) refl

  given_codes-mapped : (m : ℕ) (cs : Codes) → given_codes (f m) (mapped_codes f cs) ≡ mapped_codes f (given_codes m cs)
  given_codes-mapped m done = refl
  given_codes-mapped m (and c cs) = ap₂ (λ to rest. and (gives_to (f m) to) rest) (target_of-mapped f c) (given_codes-mapped m cs)

  pub catch_code-mapped : (m : ℕ) (ps : Members) → catch_code (f m) (mapped_members f ps) ≡ mapped_code f (catch_code m ps)
  catch_code-mapped m ps = rw (codes_at-mapped f 0 ps, given_codes-mapped m (codes_of (at 0 ps)), codes_at-mapped f 1 ps, joined-mapped f (given_codes m (codes_of (at 0 ps))) (codes_of (at 1 ps))) refl

  is_initialized-mapped : (c : Code) → is_initialized (mapped_code f c) ≡ mapped_codes f (is_initialized c)
  is_initialized-mapped (assign to e) = refl
  is_initialized-mapped c = refl

  initialized_first-mapped : (cs : Codes) → initialized_first (mapped_codes f cs) ≡ mapped_codes f (initialized_first cs)
  initialized_first-mapped done = refl
  initialized_first-mapped (and c cs) = ap₂ joined (is_initialized-mapped c) (initialized_first-mapped cs) ∙ joined-mapped f (is_initialized c) (initialized_first cs)

  head_initializers-mapped : (c : Code) → head_initializers (mapped_code f c) ≡ mapped_codes f (head_initializers c)
  head_initializers-mapped (steps cs) = initialized_first-mapped cs
  head_initializers-mapped c = refl

  declared_target-mapped : (c : Code) → declared_target (mapped_code f c) ≡ mapped_target f (declared_target c)
  declared_target-mapped (assign to e) = refl
  declared_target-mapped (steps (and (binding b s kind) cs)) = target_of-mapped f (binding b s kind)
  declared_target-mapped c = target_of-mapped f c

  given_targets-mapped : (m : ℕ) (cs : Codes) → given_targets (f m) (mapped_codes f cs) ≡ mapped_codes f (given_targets m cs)
  given_targets-mapped m done = refl
  given_targets-mapped m (and c cs) = ap₂ (λ to rest. and (gives_to (f m) to) rest) (declared_target-mapped c) (given_targets-mapped m cs)

  head_targets-mapped : (m : ℕ) (c : Code) → head_targets (f m) (mapped_code f c) ≡ mapped_codes f (head_targets m c)
  head_targets-mapped m (steps cs) = given_targets-mapped m cs
  head_targets-mapped m c = ap (λ to. one (gives_to (f m) to)) (target_of-mapped f c)

  undefined_let-mapped : (c : Code) → undefined_let (mapped_code f c) ≡ mapped_code f (undefined_let c)
  undefined_let-mapped (binding b s kind) = refl
  undefined_let-mapped c = refl

  undefined_lets-mapped : (cs : Codes) → undefined_lets (mapped_codes f cs) ≡ mapped_codes f (undefined_lets cs)
  undefined_lets-mapped done = refl
  undefined_lets-mapped (and c cs) = ap₂ and (undefined_let-mapped c) (undefined_lets-mapped cs)

  is_let_word-mapped : (p : Member) → is_let_word (mapped_member f p) ≡ is_let_word p
  is_let_word-mapped (string s) = refl
  is_let_word-mapped p = refl

  pub declaration_code-mapped : (ps : Members) → declaration_code (mapped_members f ps) ≡ mapped_code f (declaration_code ps)
  declaration_code-mapped ps =
      rw (at-mapped f 0 ps, is_let_word-mapped (at 0 ps), codes_in-mapped f ps, undefined_lets-mapped (codes_in ps))
      (ap steps (cond-mapped (mapped_codes f) (is_let_word (at 0 ps)) (undefined_lets (codes_in ps)) (codes_in ps) refl refl))

  is_other_directive-mapped : (p : Member) → is_other_directive (mapped_member f p) ≡ is_other_directive p
  is_other_directive-mapped (string s) = refl
  is_other_directive-mapped p = refl

  pub default_export_code-mapped : (ps : Members) → default_export_code (mapped_members f ps) ≡ mapped_code f (default_export_code ps)
  default_export_code-mapped ps = rw (the_code_at-mapped f 0 ps) refl

  -- ---- patterns

  pub default_code-mapped : (m : ℕ) (ps : Members) → default_code (f m) (mapped_members f ps) ≡ mapped_code f (default_code m ps)
  default_code-mapped m ps = rw (target_at-mapped f 0 ps, the_code_at-mapped f 1 ps) refl

  pub rest_code-mapped : (ps : Members) → rest_code (mapped_members f ps) ≡ mapped_code f (rest_code ps)
  rest_code-mapped ps = rw (target_at-mapped f 0 ps) refl

  key_alone-mapped : (k : Code) → key_details (mapped_code f k) end ≡ key_details k end
  key_alone-mapped k = key_details-mapped f k end

  pub pattern_property_code-mapped : (m : ℕ) (ps : Members) → pattern_property_code (f m) (mapped_members f ps) ≡ mapped_code f (pattern_property_code m ps)
  pattern_property_code-mapped m ps =
      rw (flag_at-mapped f 5 ps, the_code_at-mapped f 0 ps, target_at-mapped f 1 ps, key_alone-mapped (the_code (at 0 ps)))
      (cond-code f (flag_of (at 5 ps)) (takes m (Operand ∷ []) (one (the_code (at 0 ps))) (target_of (the_code (at 1 ps)))) (takes m (key_details (the_code (at 0 ps)) end) done (target_of (the_code (at 1 ps)))))

  target_number-mapped : (to : Target) (k : ℕ) → target_number (mapped_target f to) (f k) ≡ f (target_number to k)
  target_number-mapped no_target k = refl
  target_number-mapped to k = refl

  taken-mapped : (m : ℕ) (ds : List Detail) (to : Target) → taken (f m) ds (mapped_target f to) ≡ mapped_code f (taken m ds to)
  taken-mapped m ds to = ap (λ n. takes n ds done (mapped_target f to)) (target_number-mapped to m)

  taken_element-mapped : (m i : ℕ) (c : Code) → taken_element (f m) i (mapped_code f c) ≡ mapped_code f (taken_element m i c)
  taken_element-mapped m i (rest to) = taken-mapped m (Index i ∷ Rest ∷ []) to
  taken_element-mapped m i c = ap (taken (f m) (Index i ∷ [])) (target_of-mapped f c) ∙ taken-mapped m (Index i ∷ []) (target_of c)

  elements_from-mapped : (m i : ℕ) (ps : Members) → elements_from (f m) i (mapped_members f ps) ≡ mapped_codes f (elements_from m i ps)
  elements_from-mapped m i end = refl
  elements_from-mapped m i (more (code c) ps) = ap₂ and (taken_element-mapped m i c) (elements_from-mapped m (suc i) ps)
  elements_from-mapped m i (more p ps) = ap (and (operation (f m) (Take (Index i ∷ Empty ∷ [])) done done)) (elements_from-mapped m (suc i) ps)

  members_of_list-mapped : (p : Member) → members_of_list (mapped_member f p) ≡ mapped_members f (members_of_list p)
  members_of_list-mapped (list ps) = refl
  members_of_list-mapped p = refl

  pub array_pattern_code-mapped : (m : ℕ) (ps : Members) → array_pattern_code (f m) (mapped_members f ps) ≡ mapped_code f (array_pattern_code m ps)
  array_pattern_code-mapped m ps = rw (at-mapped f 0 ps, members_of_list-mapped (at 0 ps), elements_from-mapped m 0 (members_of_list (at 0 ps))) refl

  taken_properties-mapped : (m : ℕ) (cs : Codes) → taken_properties (f m) (mapped_codes f cs) ≡ mapped_codes f (taken_properties m cs)
  taken_properties-mapped m done = refl
  taken_properties-mapped m (and (rest to) cs) = ap₂ and (taken-mapped m (Rest ∷ []) to) (taken_properties-mapped m cs)
  taken_properties-mapped m (and c cs) = ap (and (mapped_code f c)) (taken_properties-mapped m cs)

  pub object_pattern_code-mapped : (m : ℕ) (ps : Members) → object_pattern_code (f m) (mapped_members f ps) ≡ mapped_code f (object_pattern_code m ps)
  object_pattern_code-mapped m ps = rw (codes_at-mapped f 0 ps, taken_properties-mapped m (codes_of (at 0 ps))) refl

  -- ---- functions

  function_or_new-mapped : (b : Bool) (g : ℕ) (form : FunctionForm) (own : Option ℕ) (ps : Codes) (body : Code) → function_or_new b (f g) form (mapped_option f own) (mapped_codes f ps) (mapped_code f body) ≡ mapped_code f (function_or_new b g form own ps body)
  function_or_new-mapped true g form own ps body = refl
  function_or_new-mapped false g form own ps body = refl

  is_new_return-mapped : (c : Code) → is_new_return (mapped_code f c) ≡ is_new_return c
  is_new_return-mapped (new_return es) = refl
  is_new_return-mapped c = refl

  ends_with_return-mapped : (cs : Codes) → ends_with_return (mapped_codes f cs) ≡ ends_with_return cs
  ends_with_return-mapped done = refl
  ends_with_return-mapped (and c done) = is_new_return-mapped c
  ends_with_return-mapped (and c (and d cs)) = ends_with_return-mapped (and d cs)

  hoisted_function-mapped : (around : Option (List Declaration)) (g : ℕ) (s : String) (e : Code) → hoisted_function (mapped_option (mapped_declarations f) around) (f g) s (mapped_code f e) ≡ mapped_code f (hoisted_function around g s e)
  hoisted_function-mapped None g s e = refl
  hoisted_function-mapped (Some names) g s e = rw (declared-mapped f s names, referent-mapped f s (declared s names)) refl

  declared_function-mapped : (around : Option (List Declaration)) (g : ℕ) (p : Member) (e : Code) → declared_function (mapped_option (mapped_declarations f) around) (f g) (mapped_member f p) (mapped_code f e) ≡ mapped_code f (declared_function around g p e)
  declared_function-mapped here g (code (binding b s (Generated (GeneratedKind.Method d)))) e = refl
  declared_function-mapped here g (code (binding b s (Generated k))) e = of_kind k
    where
      of_kind : (k : GeneratedKind) → declared_function (mapped_option (mapped_declarations f) here) (f g) (code (binding (f b) s (Generated (mapped_generated f k)))) (mapped_code f e) ≡ mapped_code f (declared_function here g (code (binding b s (Generated k))) e)
      of_kind (GeneratedKind.Method d) = refl
      of_kind k = refl
  declared_function-mapped here g (code (binding b s (Fixed n))) e = hoisted_function-mapped here g s e
  declared_function-mapped here g (code (binding b s (Changing to))) e = hoisted_function-mapped here g s e
  declared_function-mapped here g (code (binding b s (MeansClass n k))) e = hoisted_function-mapped here g s e
  declared_function-mapped here g (code (binding b s (StaticMethod d n))) e = hoisted_function-mapped here g s e
  declared_function-mapped here g p e = refl

  -- ---- classes

  declared_by-mapped : (p : Member) → declared_by (mapped_member f p) ≡ mapped_option f (declared_by p)
  declared_by-mapped (code (binding b s (Generated g))) = refl
  declared_by-mapped (code (binding b s kind)) = refl
  declared_by-mapped p = refl

  pub declared_at-mapped : (i : ℕ) (ps : Members) → declared_by (at i (mapped_members f ps)) ≡ mapped_option f (declared_by (at i ps))
  declared_at-mapped i ps = ap declared_by (at-mapped f i ps) ∙ declared_by-mapped (at i ps)

  elements_of-mapped : (p : Member) → elements_of (mapped_member f p) ≡ mapped_codes f (elements_of p)
  elements_of-mapped (code (steps cs)) = refl
  elements_of-mapped p = refl

  pub class_of-mapped : (declared : Option ℕ) (n : ℕ) (ps : Members) → class_of (mapped_option f declared) (f n) (mapped_members f ps) ≡ mapped_code f (class_of declared n ps)
  class_of-mapped declared n ps = rw (codes_at-mapped f 1 ps, at-mapped f 2 ps, elements_of-mapped (at 2 ps)) refl

  value_or_undefined-mapped : (p : Member) → value_or_undefined (mapped_member f p) ≡ mapped_code f (value_or_undefined p)
  value_or_undefined-mapped (code c) = refl
  value_or_undefined-mapped p = refl

  value_at-mapped : (i : ℕ) (ps : Members) → value_or_undefined (at i (mapped_members f ps)) ≡ mapped_code f (value_or_undefined (at i ps))
  value_at-mapped i ps = ap value_or_undefined (at-mapped f i ps) ∙ value_or_undefined-mapped (at i ps)

  is_name_or_length-mapped : (k : Code) → is_name_or_length (mapped_code f k) ≡ is_name_or_length k
  is_name_or_length-mapped (spelled s) = refl
  is_name_or_length-mapped (value (ConstantOf (StringOf s))) = refl
  is_name_or_length-mapped k = refl

  is_absent-mapped : (p : Member) → is_absent (mapped_member f p) ≡ is_absent p
  is_absent-mapped absent = refl
  is_absent-mapped p = refl

  is_constructor_key-mapped : (k : Code) → is_constructor_key (mapped_code f k) ≡ is_constructor_key k
  is_constructor_key-mapped (spelled s) = refl
  is_constructor_key-mapped (value (ConstantOf (StringOf s))) = refl
  is_constructor_key-mapped k = refl

  method_or_constructor-mapped : (b d : Bool) (whole g : Code) → method_or_constructor b d (mapped_code f whole) (mapped_code f g) ≡ mapped_code f (method_or_constructor b d whole g)
  method_or_constructor-mapped true true whole g = refl
  method_or_constructor-mapped false false whole g = refl
  method_or_constructor-mapped b d whole g = refl

  abbrev ordinary : Members → Code → Code
  ordinary ps k = method_or_constructor (is_constructor (word_of (at 2 ps))) (is_constructor_key k && not (flag_of (at 4 ps) || flag_of (at 3 ps))) (method (flag_of (at 4 ps)) (word_of (at 2 ps)) (key_code (flag_of (at 3 ps)) k) (the_code (at 1 ps))) (the_code (at 1 ps))

  ordinary-mapped : (ps : Members) (k : Code) → ordinary (mapped_members f ps) (mapped_code f k) ≡ mapped_code f (ordinary ps k)
  ordinary-mapped ps k =
      rw (flag_at-mapped f 4 ps, flag_at-mapped f 3 ps, word_at-mapped f 2 ps, the_code_at-mapped f 1 ps, is_constructor_key-mapped k, key_code-mapped f (flag_of (at 3 ps)) k)
      (method_or_constructor-mapped (is_constructor (word_of (at 2 ps))) (is_constructor_key k && not (flag_of (at 4 ps) || flag_of (at 3 ps))) (method (flag_of (at 4 ps)) (word_of (at 2 ps)) (key_code (flag_of (at 3 ps)) k) (the_code (at 1 ps))) (the_code (at 1 ps)))

  is_declared_as-mapped : (x : Option PrivateMember) (is_static : Bool) (kind : String) → is_declared_as (mapped_option (mapped_private f) x) is_static kind ≡ is_declared_as x is_static kind
  is_declared_as-mapped None is_static kind = refl
  is_declared_as-mapped (Some x) is_static kind = refl

module _ {first : ℕ} {f : ℕ → ℕ} (r : Renames first f) (c : Context) (e : c.first_new ≡ first) where
  abbrev there : Context
  there = mapped_context f c

  pub expression_code-mapped : (m : ℕ) (ps : Members) → expression_code there (f m) (mapped_members f ps) ≡ mapped_code f (expression_code c m ps)
  expression_code-mapped m ps =
      rw (at-mapped f 1 ps, is_other_directive-mapped f (at 1 ps), here r c e m, codes_in-mapped f ps)
      (cond-code f (is_other_directive (at 1 ps) && is_new c.first_new m) no_rule (steps (codes_in ps)))

  -- a declarator: its binding or pattern, and its initializer
  declarator_of-mapped : (m : ℕ) (new : Bool) (d : Code) (p : Member) → declarator_of there (f m) new (mapped_code f d) (mapped_member f p) ≡ mapped_code f (declarator_of c m new d p)
  declarator_of-mapped m new (binding b s (Generated g)) (code q) = given-mapped r c e m b s g q
  declarator_of-mapped m new (binding b s (Generated g)) p = refl
  declarator_of-mapped m true (binding b s (MeansClass n k)) (code q) = refl
  declarator_of-mapped m true d p = refl
  declarator_of-mapped m false d (code q) = ap (λ to. assign to (mapped_code f q)) (target_of-mapped f d)
  declarator_of-mapped m false (binding b s kind) p = refl
  declarator_of-mapped m false (pattern k to) p = refl
  declarator_of-mapped m false d p = refl

  pub declarator_code-mapped : (m : ℕ) (ps : Members) → declarator_code there (f m) (mapped_members f ps) ≡ mapped_code f (declarator_code c m ps)
  declarator_code-mapped m ps = rw (here r c e m, the_code_at-mapped f 0 ps, at-mapped f 1 ps) (declarator_of-mapped m (is_new c.first_new m) (the_code (at 0 ps)) (at 1 ps))

  pub return_code-mapped : (m : ℕ) (ps : Members) → return_code there (f m) (mapped_members f ps) ≡ mapped_code f (return_code c m ps)
  return_code-mapped m ps =
      let whole : Code = operation m (OfKind Kind.ReturnStatement (details ps)) (operands ps) done in
      rw (here r c e m, details-mapped f ps, operands-mapped f ps, codes_at-mapped f 0 ps)
      (code-cond f (is_new c.first_new m) (new_return (codes_of (at 0 ps))) (cond c.in_new_function no_rule whole) refl (cond-code f c.in_new_function no_rule whole))

  pub for_each_code-mapped : (kind : Kind) (m : ℕ) (ps : Members) → for_each_code there kind (f m) (mapped_members f ps) ≡ mapped_code f (for_each_code c kind m ps)
  for_each_code-mapped kind m ps =
      let head : Code = the_code (at 0 ps) in
      rw (from-mapped f 1 ps, details-mapped f (from 1 ps), flag_at-mapped f 3 ps, the_code_at-mapped f 0 ps, head_initializers-mapped f head, head_targets-mapped f m head, codes_at-mapped f 1 ps, codes_at-mapped f 2 ps, joined-mapped f (head_initializers head) (codes_of (at 1 ps)), joined-mapped f (head_targets m head) (codes_of (at 2 ps)))
      (cond-code f (c.in_new_function && flag_of (at 3 ps)) no_rule (operation m (OfKind kind (details (from 1 ps))) (joined (head_initializers head) (codes_of (at 1 ps))) (one (steps (joined (head_targets m head) (codes_of (at 2 ps)))))))

  pub suspension_code-mapped : (kind : Kind) (m : ℕ) (ps : Members) → suspension_code there kind (f m) (mapped_members f ps) ≡ mapped_code f (suspension_code c kind m ps)
  suspension_code-mapped kind m ps = rw (details-mapped f ps, operands-mapped f ps) (cond-code f c.in_new_function no_rule (operation m (OfKind kind (details ps)) (operands ps) done))

  -- ---- functions

  own_name_of-mapped : (p : Member) → own_name_of there (mapped_member f p) ≡ mapped_option f (own_name_of c p)
  own_name_of-mapped (code (binding b s kind)) = rw (here r c e b) (cond-mapped (mapped_option f) (is_new c.first_new b) None (Some b) refl refl)
  own_name_of-mapped p = refl

  function_code-mapped : (g : ℕ) (own : Option ℕ) (ps : Members) → function_code there (f g) (mapped_option f own) (mapped_members f ps) ≡ mapped_code f (function_code c g own ps)
  function_code-mapped g own ps =
      rw (here r c e g, flag_at-mapped f 3 ps, flag_at-mapped f 4 ps, codes_at-mapped f 1 ps, the_code_at-mapped f 2 ps)
      (function_or_new-mapped f (is_new c.first_new g) g (form_of false (flag_of (at 3 ps)) (flag_of (at 4 ps))) own (codes_of (at 1 ps)) (the_code (at 2 ps)))

  pub function_expression_code-mapped : (g : ℕ) (ps : Members) → function_expression_code there (f g) (mapped_members f ps) ≡ mapped_code f (function_expression_code c g ps)
  function_expression_code-mapped g ps = rw (at-mapped f 0 ps, own_name_of-mapped (at 0 ps)) (function_code-mapped g (own_name_of c (at 0 ps)) ps)

  pub function_declaration_code-mapped : (g : ℕ) (ps : Members) → function_declaration_code there (f g) (mapped_members f ps) ≡ mapped_code f (function_declaration_code c g ps)
  function_declaration_code-mapped g ps =
      ap₂ (declared_function there.around (f g)) (at-mapped f 0 ps) (function_code-mapped g None ps)
      ∙ declared_function-mapped f c.around g (at 0 ps) (function_code c g None ps)

  arrow_body-mapped : (new : Bool) (q : Code) → arrow_body new (mapped_code f q) ≡ mapped_code f (arrow_body new q)
  arrow_body-mapped false (steps cs) = rw (ends_with_return-mapped f cs, opened_body-mapped f (steps cs)) (cond-code f (ends_with_return cs) (opened_body (steps cs)) (steps cs))
  arrow_body-mapped new q = refl

  pub arrow_code-mapped : (g : ℕ) (ps : Members) → arrow_code there (f g) (mapped_members f ps) ≡ mapped_code f (arrow_code c g ps)
  arrow_code-mapped g ps =
      let body : Code = the_code (at 1 ps) in
      rw (here r c e g, flag_at-mapped f 2 ps, codes_at-mapped f 0 ps, the_code_at-mapped f 1 ps, arrow_body-mapped (is_new c.first_new g) body)
      (function_or_new-mapped f (is_new c.first_new g) g (form_of true (flag_of (at 2 ps)) false) None (codes_of (at 0 ps)) (arrow_body (is_new c.first_new g) body))

  -- ---- classes

  method_of-mapped : (ps : Members) (k : Code) → method_of there (mapped_members f ps) (mapped_code f k) ≡ mapped_code f (method_of c ps k)
  method_of-mapped ps (private_name d s x) =
      rw (member_at-mapped r d c.members, flag_at-mapped f 4 ps, word_at-mapped f 2 ps, is_declared_as-mapped f (member_at d c.members) (flag_of (at 4 ps)) (word_of (at 2 ps)), the_code_at-mapped f 1 ps)
      (cond-code f (is_declared_as (member_at d c.members) (flag_of (at 4 ps)) (word_of (at 2 ps))) (private_method (flag_of (at 4 ps)) d (the_code (at 1 ps))) no_rule)
  method_of-mapped ps k = ordinary-mapped f ps k

  pub method_code-mapped : (ps : Members) → method_code there (mapped_members f ps) ≡ mapped_code f (method_code c ps)
  method_code-mapped ps = ap (method_of there (mapped_members f ps)) (the_code_at-mapped f 0 ps) ∙ method_of-mapped ps (the_code (at 0 ps))

  pub declared_by_let-mapped : (n : ℕ) (named : List (ℕ × ℕ)) (p : Option (ℕ × ℕ)) → declared_by_let (f n) (map (mapped_pair f) named) (mapped_option (mapped_pair f) p) ≡ mapped_option f (declared_by_let n named p)
  declared_by_let-mapped n named None = named_as-mapped r n named
  declared_by_let-mapped n named (Some p) = rw (r.apart n p.0) (cond-mapped (mapped_option f) (nat_eq n p.0) (Some p.1) (named_as n named) refl (named_as-mapped r n named))

  private_element-mapped : (is_static : Bool) (d : ℕ) (s : String) (q : Code) → private_element there is_static (f d) s (mapped_code f q) ≡ mapped_code f (private_element c is_static d s q)
  private_element-mapped is_static d s q =
      rw (here r c e d, is_generated_private-mapped r s c.class c.ledger)
      (code-cond f (is_new c.first_new d) (cond (is_static && is_generated_private s c.class c.ledger) (generated_element s q) no_rule) (private_field is_static d q) (cond-code f (is_static && is_generated_private s c.class c.ledger) (generated_element s q) no_rule) refl)

  abbrev public_field : Context → Members → Code → Code
  public_field x ps k = field (flag_of (at 3 ps)) (field_form x.options (flag_of (at 3 ps)) k (at 1 ps)) (key_code (flag_of (at 2 ps)) k) (value_or_undefined (at 1 ps))

  field_form-mapped : (is_static : Bool) (k : Code) (p : Member) → field_form c.options is_static (mapped_code f k) (mapped_member f p) ≡ field_form c.options is_static k p
  field_form-mapped is_static k p = rw (is_absent-mapped f p, is_name_or_length-mapped f k) refl

  public_field-mapped : (ps : Members) (k : Code) → public_field there (mapped_members f ps) (mapped_code f k) ≡ mapped_code f (public_field c ps k)
  public_field-mapped ps k = rw (flag_at-mapped f 3 ps, flag_at-mapped f 2 ps, value_at-mapped f 1 ps, at-mapped f 1 ps, field_form-mapped (flag_of (at 3 ps)) k (at 1 ps), key_code-mapped f (flag_of (at 2 ps)) k) refl

  field_of-mapped : (ps : Members) (k : Code) → field_of there (mapped_members f ps) (mapped_code f k) ≡ mapped_code f (field_of c ps k)
  field_of-mapped ps (private_name d s x) = rw (flag_at-mapped f 3 ps, value_at-mapped f 1 ps) (private_element-mapped (flag_of (at 3 ps)) d s (value_or_undefined (at 1 ps)))
  field_of-mapped ps k = public_field-mapped ps k

  pub field_code-mapped : (ps : Members) → field_code there (mapped_members f ps) ≡ mapped_code f (field_code c ps)
  field_code-mapped ps = ap (field_of there (mapped_members f ps)) (the_code_at-mapped f 0 ps) ∙ field_of-mapped ps (the_code (at 0 ps))
