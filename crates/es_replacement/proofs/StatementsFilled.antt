-- Statements, patterns, functions and classes whose parts have holes are read as with what stands in them.
use Rattle.std.specs.Prelude.{◌≡◌, ℕ, suc, List, [], ◌∷◌, Bool, true, false, cond, not, ◌&&◌, ◌||◌, Option, Some, None, refl}
use Rattle.es_base.specs.Numbered.{is_new}
use Rattle.es_base.specs.declared.kind.Kind.{Kind}
use Rattle.es_base.specs.declared.ledger.GeneratedKind.{GeneratedKind}
use Rattle.es_steps.specs.Code.{initializers, Code, Codes, Target, FunctionForm, no_rule, value, spelled, private_name, binding, rest, assign, operation, pattern, takes, steps, gives_to, new_return, field, private_field, method, private_method, generated_element, no_target, done, and, one, joined}
use Rattle.es_steps.specs.Context.{Context, Fixed, Changing, Generated, StaticMethod, MeansClass, is_constructor, is_generated_private}
use Rattle.es_steps.specs.Events.{Detail, Operand, Empty, Index, Rest, OfKind, Take}
use Rattle.es_steps.specs.Expressions.{the_code, key_code, key_details, target_of}
use Rattle.es_steps.specs.Members.{Member, Members, code, absent, list, string, more, end, at, from, before, operands, details, codes_in, codes_of, word_of, flag_of}
use Rattle.es_steps.specs.PrivateNames.{member_at}
use Rattle.es_steps.specs.Statements.{held_from, case_code, given_codes, catch_code, is_initialized, initialized_first, head_initializers, declared_target, given_targets, head_targets, undefined_let, undefined_lets, is_let_word, declaration_code, for_each_code, is_other_directive, expression_code, declarator_of, declarator_code, return_code, suspension_code, default_export_code, default_code, rest_code, pattern_property_code, target_number, taken, taken_element, elements_from, members_of_list, array_pattern_code, taken_properties, object_pattern_code, form_of, function_or_new, own_name_of, function_code, function_expression_code, hoisted_function, declared_function, is_new_return, ends_with_return, arrow_body, function_declaration_code, arrow_code, declared_by, elements_of, class_of, value_or_undefined, is_name_or_length, is_absent, field_form, private_element, field_of, field_code, is_constructor_key, method_or_constructor, is_declared_as, method_of, method_code}
use Rattle.es_steps.specs.GeneratedForms.{opened_body}
use Rattle.es_steps.specs.References.{declared}
use Rattle.es_steps.specs.Scopes.{Declaration}
use Rattle.es_steps.specs.Values.{String}
use Rattle.std.proofs.Common.{◌∙◌, ap, ap₂, sym}
use Rattle.es_replacement.proofs.Environments.{left, right, untrue}
use Rattle.es_replacement.proofs.ExpressionsFilled.{key_code-filled, key_details-filled, target_of-filled, target_at-filled}
use Rattle.es_replacement.proofs.FormsFilled.{code-cond, cond-code, given-filled, opened_body-filled}
use Rattle.es_replacement.proofs.MembersFilled.{filled_member, filled_members, at-filled, from-filled, before-filled, joined-filled, codes_in-filled, operands-filled, details-filled, word_at-filled, flag_at-filled, codes_at-filled, the_code_at-filled, closed_code, none_open-of}
use Rattle.es_replacement.specs.Holes.{filled, filled_all, filled_target}
use Rattle.es_replacement.specs.Unasked.{is_unasked, ends_open, none_open, head_open, are_closed, is_closed}

module _ (first : ℕ) (fill : ℕ → Code) (unasked : (n : ℕ) → is_unasked first (fill n) ≡ true) where
  -- ---- statements

  pub held_from-filled : (i : ℕ) (kind : Kind) (m : ℕ) (ps : Members) → held_from i kind m (filled_members fill ps) ≡ filled fill (held_from i kind m ps)
  held_from-filled i kind m ps = rw (details-filled first fill unasked ps, before-filled fill i ps, operands-filled first fill unasked (before i ps), from-filled fill i ps, codes_in-filled fill (from i ps)) refl

  pub case_code-filled : (m : ℕ) (ps : Members) → case_code m (filled_members fill ps) ≡ filled fill (case_code m ps)
  case_code-filled m ps = rw (before-filled fill 1 ps, details-filled first fill unasked (before 1 ps), codes_at-filled fill 0 ps, codes_at-filled fill 1 ps, joined-filled fill (codes_of (at 0 ps)) (one (steps (codes_of (at 1 ps))))) refl

  given_codes-filled : (m : ℕ) (cs : Codes) → none_open cs ≡ true → given_codes m (filled_all fill cs) ≡ filled_all fill (given_codes m cs)
  given_codes-filled m done closed = refl
  given_codes-filled m (and c cs) closed = ap₂ (λ to others. and (gives_to m to) others) (target_of-filled first fill unasked c (untrue _ (left _ _ closed))) (given_codes-filled m cs (right (not (ends_open c)) _ closed))

  pub catch_code-filled : (m : ℕ) (ps : Members) → is_closed (at 0 ps) ≡ true → catch_code m (filled_members fill ps) ≡ filled fill (catch_code m ps)
  catch_code-filled m ps closed = rw (codes_at-filled fill 0 ps, given_codes-filled m (codes_of (at 0 ps)) (none_open-of (at 0 ps) closed), codes_at-filled fill 1 ps, joined-filled fill (given_codes m (codes_of (at 0 ps))) (codes_of (at 1 ps))) refl

  is_initialized-filled : (q : Code) → ends_open q ≡ false → is_initialized (filled fill q) ≡ filled_all fill (is_initialized q)
  is_initialized-filled (assign to e) closed = refl
  is_initialized-filled (initializers n) closed = absurd (cc)
  is_initialized-filled q closed = refl

  initialized_first-filled : (cs : Codes) → none_open cs ≡ true → initialized_first (filled_all fill cs) ≡ filled_all fill (initialized_first cs)
  initialized_first-filled done closed = refl
  initialized_first-filled (and c cs) closed = ap₂ joined (is_initialized-filled c (untrue _ (left _ _ closed))) (initialized_first-filled cs (right (not (ends_open c)) _ closed)) ∙ joined-filled fill (is_initialized c) (initialized_first cs)

  head_initializers-filled : (q : Code) → ends_open q ≡ false → head_open q ≡ false → head_initializers (filled fill q) ≡ filled_all fill (head_initializers q)
  head_initializers-filled (steps cs) closed heads = initialized_first-filled cs (twice (none_open cs) heads)
    where
      twice : (b : Bool) → not b ≡ false → b ≡ true
      twice true h = refl
      twice false h = sym h
  head_initializers-filled (initializers n) closed heads = absurd (cc)
  head_initializers-filled q closed heads = refl

  -- what holds no declaration at its head
  head-unasked : (q : Code) (cs : Codes) → is_unasked first q ≡ true → declared_target (steps (and q cs)) ≡ target_of (steps (and q cs))
  head-unasked (binding b s kind) cs h = absurd (cc)
  head-unasked q cs h = refl

  declared_target-filled : (q : Code) → ends_open q ≡ false → declared_target (filled fill q) ≡ filled_target fill (declared_target q)
  declared_target-filled (assign to e) closed = refl
  declared_target-filled (steps (and (binding b s kind) cs)) closed = refl
  declared_target-filled (steps (and (initializers n) cs)) closed = head-unasked (fill n) (filled_all fill cs) (unasked n)
  declared_target-filled (initializers n) closed = absurd (cc)
  declared_target-filled q closed = target_of-filled first fill unasked q closed

  given_targets-filled : (m : ℕ) (cs : Codes) → none_open cs ≡ true → given_targets m (filled_all fill cs) ≡ filled_all fill (given_targets m cs)
  given_targets-filled m done closed = refl
  given_targets-filled m (and c cs) closed = ap₂ (λ to others. and (gives_to m to) others) (declared_target-filled c (untrue _ (left _ _ closed))) (given_targets-filled m cs (right (not (ends_open c)) _ closed))

  head_targets-filled : (m : ℕ) (q : Code) → ends_open q ≡ false → head_open q ≡ false → head_targets m (filled fill q) ≡ filled_all fill (head_targets m q)
  head_targets-filled m (steps cs) closed heads = given_targets-filled m cs (twice (none_open cs) heads)
    where
      twice : (b : Bool) → not b ≡ false → b ≡ true
      twice true h = refl
      twice false h = sym h
  head_targets-filled m (initializers n) closed heads = absurd (cc)
  head_targets-filled m q closed heads = ap (λ to. one (gives_to m to)) (target_of-filled first fill unasked q closed)

  undefined-unasked : (q : Code) → is_unasked first q ≡ true → undefined_let q ≡ q
  undefined-unasked (binding b s kind) h = absurd (cc)
  undefined-unasked q h = refl

  undefined_let-filled : (q : Code) → undefined_let (filled fill q) ≡ filled fill (undefined_let q)
  undefined_let-filled (binding b s kind) = refl
  undefined_let-filled (initializers n) = undefined-unasked (fill n) (unasked n)
  undefined_let-filled q = refl

  undefined_lets-filled : (cs : Codes) → undefined_lets (filled_all fill cs) ≡ filled_all fill (undefined_lets cs)
  undefined_lets-filled done = refl
  undefined_lets-filled (and q cs) = ap₂ and (undefined_let-filled q) (undefined_lets-filled cs)

  is_let_word-filled : (p : Member) → is_let_word (filled_member fill p) ≡ is_let_word p
  is_let_word-filled (string s) = refl
  is_let_word-filled p = refl

  pub declaration_code-filled : (ps : Members) → declaration_code (filled_members fill ps) ≡ filled fill (declaration_code ps)
  declaration_code-filled ps =
      rw (at-filled fill 0 ps, is_let_word-filled (at 0 ps), codes_in-filled fill ps, undefined_lets-filled (codes_in ps)) (ap steps (by_word (is_let_word (at 0 ps))))
    where
      by_word : (b : Bool) → cond b (filled_all fill (undefined_lets (codes_in ps))) (filled_all fill (codes_in ps)) ≡ filled_all fill (cond b (undefined_lets (codes_in ps)) (codes_in ps))
      by_word true = refl
      by_word false = refl

  is_other_directive-filled : (p : Member) → is_other_directive (filled_member fill p) ≡ is_other_directive p
  is_other_directive-filled (string s) = refl
  is_other_directive-filled p = refl

  pub default_export_code-filled : (ps : Members) → default_export_code (filled_members fill ps) ≡ filled fill (default_export_code ps)
  default_export_code-filled ps = rw (the_code_at-filled fill 0 ps) refl

  -- ---- patterns

  pub default_code-filled : (m : ℕ) (ps : Members) → is_closed (at 0 ps) ≡ true → default_code m (filled_members fill ps) ≡ filled fill (default_code m ps)
  default_code-filled m ps closed = rw (target_at-filled first fill unasked 0 ps closed, the_code_at-filled fill 1 ps) refl

  pub rest_code-filled : (ps : Members) → is_closed (at 0 ps) ≡ true → rest_code (filled_members fill ps) ≡ filled fill (rest_code ps)
  rest_code-filled ps closed = rw (target_at-filled first fill unasked 0 ps closed) refl

  key_alone-filled : (k : Code) → key_details (filled fill k) end ≡ key_details k end
  key_alone-filled k = key_details-filled first fill unasked k end

  pub pattern_property_code-filled : (m : ℕ) (ps : Members) → is_closed (at 1 ps) ≡ true → pattern_property_code m (filled_members fill ps) ≡ filled fill (pattern_property_code m ps)
  pattern_property_code-filled m ps closed =
      rw (flag_at-filled fill 5 ps, the_code_at-filled fill 0 ps, target_at-filled first fill unasked 1 ps closed, key_alone-filled (the_code (at 0 ps)))
      (cond-code first fill unasked (flag_of (at 5 ps)) (takes m (Operand ∷ []) (one (the_code (at 0 ps))) (target_of (the_code (at 1 ps)))) (takes m (key_details (the_code (at 0 ps)) end) done (target_of (the_code (at 1 ps)))))

  target_number-filled : (to : Target) (k : ℕ) → target_number (filled_target fill to) k ≡ target_number to k
  target_number-filled no_target k = refl
  target_number-filled to k = refl

  taken-filled : (m : ℕ) (ds : List Detail) (to : Target) → taken m ds (filled_target fill to) ≡ filled fill (taken m ds to)
  taken-filled m ds to = ap (λ n. takes n ds done (filled_target fill to)) (target_number-filled to m)

  taken_element-filled : (m i : ℕ) (q : Code) → ends_open q ≡ false → taken_element m i (filled fill q) ≡ filled fill (taken_element m i q)
  taken_element-filled m i (rest to) closed = taken-filled m (Index i ∷ Rest ∷ []) to
  taken_element-filled m i (initializers n) closed = absurd (cc)
  taken_element-filled m i q closed = ap (taken m (Index i ∷ [])) (target_of-filled first fill unasked q closed) ∙ taken-filled m (Index i ∷ []) (target_of q)

  elements_from-filled : (m i : ℕ) (ps : Members) → are_closed ps ≡ true → elements_from m i (filled_members fill ps) ≡ filled_all fill (elements_from m i ps)
  elements_from-filled m i end closed = refl
  elements_from-filled m i (more (code c) ps) closed = ap₂ and (taken_element-filled m i c (untrue _ (left _ _ closed))) (elements_from-filled m (suc i) ps (right (not (ends_open c)) _ closed))
  elements_from-filled m i (more p ps) closed = ap (and (operation m (Take (Index i ∷ Empty ∷ [])) done done)) (elements_from-filled m (suc i) ps (right (is_closed p) (are_closed ps) closed))

  members_of_list-filled : (p : Member) → members_of_list (filled_member fill p) ≡ filled_members fill (members_of_list p)
  members_of_list-filled (list ps) = refl
  members_of_list-filled p = refl

  list-closed : (p : Member) → is_closed p ≡ true → are_closed (members_of_list p) ≡ true
  list-closed (list ps) closed = closed
  list-closed p closed = refl

  pub array_pattern_code-filled : (m : ℕ) (ps : Members) → is_closed (at 0 ps) ≡ true → array_pattern_code m (filled_members fill ps) ≡ filled fill (array_pattern_code m ps)
  array_pattern_code-filled m ps closed = rw (at-filled fill 0 ps, members_of_list-filled (at 0 ps), elements_from-filled m 0 (members_of_list (at 0 ps)) (list-closed (at 0 ps) closed)) refl

  taken_properties-filled : (m : ℕ) (cs : Codes) → none_open cs ≡ true → taken_properties m (filled_all fill cs) ≡ filled_all fill (taken_properties m cs)
  taken_properties-filled m done closed = refl
  taken_properties-filled m (and (rest to) cs) closed = ap₂ and (taken-filled m (Rest ∷ []) to) (taken_properties-filled m cs closed)
  taken_properties-filled m (and (initializers n) cs) closed = absurd (cc)
  taken_properties-filled m (and c cs) closed = ap (and (filled fill c)) (taken_properties-filled m cs (right (not (ends_open c)) (none_open cs) closed))

  pub object_pattern_code-filled : (m : ℕ) (ps : Members) → is_closed (at 0 ps) ≡ true → object_pattern_code m (filled_members fill ps) ≡ filled fill (object_pattern_code m ps)
  object_pattern_code-filled m ps closed = rw (codes_at-filled fill 0 ps, taken_properties-filled m (codes_of (at 0 ps)) (none_open-of (at 0 ps) closed)) refl

  -- ---- functions

  function_or_new-filled : (b : Bool) (g : ℕ) (form : FunctionForm) (own : Option ℕ) (ps : Codes) (body : Code) → function_or_new b g form own (filled_all fill ps) (filled fill body) ≡ filled fill (function_or_new b g form own ps body)
  function_or_new-filled true g form own ps body = refl
  function_or_new-filled false g form own ps body = refl

  new_return-unasked : (q : Code) → is_unasked first q ≡ true → is_new_return q ≡ false
  new_return-unasked (new_return es) h = absurd (cc)
  new_return-unasked q h = refl

  is_new_return-filled : (q : Code) → is_new_return (filled fill q) ≡ is_new_return q
  is_new_return-filled (initializers n) = new_return-unasked (fill n) (unasked n)
  is_new_return-filled q = refl

  ends_with_return-filled : (cs : Codes) → ends_with_return (filled_all fill cs) ≡ ends_with_return cs
  ends_with_return-filled done = refl
  ends_with_return-filled (and c done) = is_new_return-filled c
  ends_with_return-filled (and c (and d cs)) = ends_with_return-filled (and d cs)

  hoisted_function-filled : (around : Option (List Declaration)) (g : ℕ) (s : String) (e : Code) → hoisted_function around g s (filled fill e) ≡ filled fill (hoisted_function around g s e)
  hoisted_function-filled None g s e = refl
  hoisted_function-filled (Some names) g s e = refl

  declared-unasked : (around : Option (List Declaration)) (g : ℕ) (q e : Code) → is_unasked first q ≡ true → declared_function around g (code q) e ≡ e
  declared-unasked around g (binding b s kind) e h = absurd (cc)
  declared-unasked around g q e h = refl

  declared_function-filled : (around : Option (List Declaration)) (g : ℕ) (p : Member) (e : Code) → declared_function around g (filled_member fill p) (filled fill e) ≡ filled fill (declared_function around g p e)
  declared_function-filled here g (code (binding b s (Generated (GeneratedKind.Method d)))) e = refl
  declared_function-filled here g (code (binding b s (Generated k))) e = refl
  declared_function-filled here g (code (binding b s (Fixed n))) e = hoisted_function-filled here g s e
  declared_function-filled here g (code (binding b s (Changing to))) e = hoisted_function-filled here g s e
  declared_function-filled here g (code (binding b s (MeansClass n k))) e = hoisted_function-filled here g s e
  declared_function-filled here g (code (binding b s (StaticMethod d n))) e = hoisted_function-filled here g s e
  declared_function-filled here g (code (initializers n)) e = declared-unasked here g (fill n) (filled fill e) (unasked n)
  declared_function-filled here g p e = refl

  -- ---- classes

  declared_by-unasked : (q : Code) → is_unasked first q ≡ true → declared_by (code q) ≡ None
  declared_by-unasked (binding b s kind) h = absurd (cc)
  declared_by-unasked q h = refl

  declared_by-filled : (p : Member) → declared_by (filled_member fill p) ≡ declared_by p
  declared_by-filled (code (initializers n)) = declared_by-unasked (fill n) (unasked n)
  declared_by-filled p = refl

  pub declared_at-filled : (i : ℕ) (ps : Members) → declared_by (at i (filled_members fill ps)) ≡ declared_by (at i ps)
  declared_at-filled i ps = ap declared_by (at-filled fill i ps) ∙ declared_by-filled (at i ps)

  elements-unasked : (q : Code) → is_unasked first q ≡ true → elements_of (code q) ≡ done
  elements-unasked (steps cs) h = absurd (cc)
  elements-unasked q h = refl

  elements_of-filled : (p : Member) → elements_of (filled_member fill p) ≡ filled_all fill (elements_of p)
  elements_of-filled (code (steps cs)) = refl
  elements_of-filled (code (initializers n)) = elements-unasked (fill n) (unasked n)
  elements_of-filled p = refl

  pub class_of-filled : (declared : Option ℕ) (n : ℕ) (ps : Members) → class_of declared n (filled_members fill ps) ≡ filled fill (class_of declared n ps)
  class_of-filled declared n ps = rw (codes_at-filled fill 1 ps, at-filled fill 2 ps, elements_of-filled (at 2 ps)) refl

  value_or_undefined-filled : (p : Member) → value_or_undefined (filled_member fill p) ≡ filled fill (value_or_undefined p)
  value_or_undefined-filled (code c) = refl
  value_or_undefined-filled p = refl

  pub value_at-filled : (i : ℕ) (ps : Members) → value_or_undefined (at i (filled_members fill ps)) ≡ filled fill (value_or_undefined (at i ps))
  value_at-filled i ps = ap value_or_undefined (at-filled fill i ps) ∙ value_or_undefined-filled (at i ps)

  name_or_length-unasked : (q : Code) → is_unasked first q ≡ true → is_name_or_length q ≡ false
  name_or_length-unasked (spelled s) h = absurd (cc)
  name_or_length-unasked (value v) h = absurd (cc)
  name_or_length-unasked q h = refl

  pub is_name_or_length-filled : (k : Code) → is_name_or_length (filled fill k) ≡ is_name_or_length k
  is_name_or_length-filled (initializers n) = name_or_length-unasked (fill n) (unasked n)
  is_name_or_length-filled k = refl

  pub is_absent-filled : (p : Member) → is_absent (filled_member fill p) ≡ is_absent p
  is_absent-filled absent = refl
  is_absent-filled p = refl

  constructor_key-unasked : (q : Code) → is_unasked first q ≡ true → is_constructor_key q ≡ false
  constructor_key-unasked (spelled s) h = absurd (cc)
  constructor_key-unasked (value v) h = absurd (cc)
  constructor_key-unasked q h = refl

  is_constructor_key-filled : (k : Code) → is_constructor_key (filled fill k) ≡ is_constructor_key k
  is_constructor_key-filled (initializers n) = constructor_key-unasked (fill n) (unasked n)
  is_constructor_key-filled k = refl

  method_or_constructor-filled : (b d : Bool) (whole g : Code) → method_or_constructor b d (filled fill whole) (filled fill g) ≡ filled fill (method_or_constructor b d whole g)
  method_or_constructor-filled true true whole g = refl
  method_or_constructor-filled false false whole g = refl
  method_or_constructor-filled true false whole g = refl
  method_or_constructor-filled false true whole g = refl

  abbrev pub ordinary : Members → Code → Code
  ordinary ps k = method_or_constructor (is_constructor (word_of (at 2 ps))) (is_constructor_key k && not (flag_of (at 4 ps) || flag_of (at 3 ps))) (method (flag_of (at 4 ps)) (word_of (at 2 ps)) (key_code (flag_of (at 3 ps)) k) (the_code (at 1 ps))) (the_code (at 1 ps))

  pub ordinary-filled : (ps : Members) (k : Code) → ordinary (filled_members fill ps) (filled fill k) ≡ filled fill (ordinary ps k)
  ordinary-filled ps k =
      rw (flag_at-filled fill 4 ps, flag_at-filled fill 3 ps, word_at-filled fill 2 ps, the_code_at-filled fill 1 ps, is_constructor_key-filled k, key_code-filled first fill unasked (flag_of (at 3 ps)) k)
      (method_or_constructor-filled (is_constructor (word_of (at 2 ps))) (is_constructor_key k && not (flag_of (at 4 ps) || flag_of (at 3 ps))) (method (flag_of (at 4 ps)) (word_of (at 2 ps)) (key_code (flag_of (at 3 ps)) k) (the_code (at 1 ps))) (the_code (at 1 ps)))

module _ (c : Context) (fill : ℕ → Code) (unasked : (n : ℕ) → is_unasked c.first_new (fill n) ≡ true) where
  pub expression_code-filled : (m : ℕ) (ps : Members) → expression_code c m (filled_members fill ps) ≡ filled fill (expression_code c m ps)
  expression_code-filled m ps =
      rw (at-filled fill 1 ps, is_other_directive-filled c.first_new fill unasked (at 1 ps), codes_in-filled fill ps)
      (cond-code c.first_new fill unasked (is_other_directive (at 1 ps) && is_new c.first_new m) no_rule (steps (codes_in ps)))

  declarator_of-filled : (m : ℕ) (new : Bool) (d : Code) (p : Member) → ends_open d ≡ false → declarator_of c m new (filled fill d) (filled_member fill p) ≡ filled fill (declarator_of c m new d p)
  declarator_of-filled m new (initializers n) p closed = absurd (cc)
  declarator_of-filled m new (binding b s (Generated g)) (code q) closed = given-filled c fill unasked m b s g q
  declarator_of-filled m new (binding b s (Generated g)) p closed = refl
  declarator_of-filled m true (binding b s (MeansClass n k)) (code q) closed = refl
  declarator_of-filled m true d p closed = refl
  declarator_of-filled m false d (code q) closed = ap (λ to. assign to (filled fill q)) (target_of-filled c.first_new fill unasked d closed)
  declarator_of-filled m false (binding b s kind) p closed = refl
  declarator_of-filled m false (pattern k to) p closed = refl
  declarator_of-filled m false d p closed = refl

  pub declarator_code-filled : (m : ℕ) (ps : Members) → is_closed (at 0 ps) ≡ true → declarator_code c m (filled_members fill ps) ≡ filled fill (declarator_code c m ps)
  declarator_code-filled m ps closed = rw (the_code_at-filled fill 0 ps, at-filled fill 1 ps) (declarator_of-filled m (is_new c.first_new m) (the_code (at 0 ps)) (at 1 ps) (closed_code (at 0 ps) closed))

  pub return_code-filled : (m : ℕ) (ps : Members) → return_code c m (filled_members fill ps) ≡ filled fill (return_code c m ps)
  return_code-filled m ps =
      let whole : Code = operation m (OfKind Kind.ReturnStatement (details ps)) (operands ps) done in
      rw (details-filled c.first_new fill unasked ps, operands-filled c.first_new fill unasked ps, codes_at-filled fill 0 ps)
      (code-cond c.first_new fill unasked (is_new c.first_new m) (new_return (codes_of (at 0 ps))) (cond c.in_new_function no_rule whole) refl (cond-code c.first_new fill unasked c.in_new_function no_rule whole))

  pub for_each_code-filled : (kind : Kind) (m : ℕ) (ps : Members) → is_closed (at 0 ps) ≡ true → head_open (the_code (at 0 ps)) ≡ false → for_each_code c kind m (filled_members fill ps) ≡ filled fill (for_each_code c kind m ps)
  for_each_code-filled kind m ps closed heads =
      let head : Code = the_code (at 0 ps) in
      rw (from-filled fill 1 ps, details-filled c.first_new fill unasked (from 1 ps), flag_at-filled fill 3 ps, the_code_at-filled fill 0 ps, head_initializers-filled c.first_new fill unasked head (closed_code (at 0 ps) closed) heads, head_targets-filled c.first_new fill unasked m head (closed_code (at 0 ps) closed) heads, codes_at-filled fill 1 ps, codes_at-filled fill 2 ps, joined-filled fill (head_initializers head) (codes_of (at 1 ps)), joined-filled fill (head_targets m head) (codes_of (at 2 ps)))
      (cond-code c.first_new fill unasked (c.in_new_function && flag_of (at 3 ps)) no_rule (operation m (OfKind kind (details (from 1 ps))) (joined (head_initializers head) (codes_of (at 1 ps))) (one (steps (joined (head_targets m head) (codes_of (at 2 ps)))))))

  pub suspension_code-filled : (kind : Kind) (m : ℕ) (ps : Members) → suspension_code c kind m (filled_members fill ps) ≡ filled fill (suspension_code c kind m ps)
  suspension_code-filled kind m ps = rw (details-filled c.first_new fill unasked ps, operands-filled c.first_new fill unasked ps) (cond-code c.first_new fill unasked c.in_new_function no_rule (operation m (OfKind kind (details ps)) (operands ps) done))

  -- ---- functions

  own_name-unasked : (q : Code) → is_unasked c.first_new q ≡ true → own_name_of c (code q) ≡ None
  own_name-unasked (binding b s kind) h = absurd (cc)
  own_name-unasked q h = refl

  own_name_of-filled : (p : Member) → own_name_of c (filled_member fill p) ≡ own_name_of c p
  own_name_of-filled (code (initializers n)) = own_name-unasked (fill n) (unasked n)
  own_name_of-filled p = refl

  function_code-filled : (g : ℕ) (own : Option ℕ) (ps : Members) → function_code c g own (filled_members fill ps) ≡ filled fill (function_code c g own ps)
  function_code-filled g own ps =
      rw (flag_at-filled fill 3 ps, flag_at-filled fill 4 ps, codes_at-filled fill 1 ps, the_code_at-filled fill 2 ps)
      (function_or_new-filled c.first_new fill unasked (is_new c.first_new g) g (form_of false (flag_of (at 3 ps)) (flag_of (at 4 ps))) own (codes_of (at 1 ps)) (the_code (at 2 ps)))

  pub function_expression_code-filled : (g : ℕ) (ps : Members) → function_expression_code c g (filled_members fill ps) ≡ filled fill (function_expression_code c g ps)
  function_expression_code-filled g ps = rw (at-filled fill 0 ps, own_name_of-filled (at 0 ps)) (function_code-filled g (own_name_of c (at 0 ps)) ps)

  pub function_declaration_code-filled : (g : ℕ) (ps : Members) → function_declaration_code c g (filled_members fill ps) ≡ filled fill (function_declaration_code c g ps)
  function_declaration_code-filled g ps =
      ap₂ (declared_function c.around g) (at-filled fill 0 ps) (function_code-filled g None ps)
      ∙ declared_function-filled c.first_new fill unasked c.around g (at 0 ps) (function_code c g None ps)

  arrow_body-unasked : (q : Code) → is_unasked c.first_new q ≡ true → arrow_body false q ≡ q
  arrow_body-unasked (steps cs) h = absurd (cc)
  arrow_body-unasked q h = refl

  arrow_body-filled : (new : Bool) (q : Code) → arrow_body new (filled fill q) ≡ filled fill (arrow_body new q)
  arrow_body-filled true q = refl
  arrow_body-filled false (steps cs) = rw (ends_with_return-filled c.first_new fill unasked cs, opened_body-filled c.first_new fill unasked (steps cs)) (cond-code c.first_new fill unasked (ends_with_return cs) (opened_body (steps cs)) (steps cs))
  arrow_body-filled false (initializers n) = arrow_body-unasked (fill n) (unasked n)
  arrow_body-filled false q = refl

  pub arrow_code-filled : (g : ℕ) (ps : Members) → arrow_code c g (filled_members fill ps) ≡ filled fill (arrow_code c g ps)
  arrow_code-filled g ps =
      let body : Code = the_code (at 1 ps) in
      rw (flag_at-filled fill 2 ps, codes_at-filled fill 0 ps, the_code_at-filled fill 1 ps, arrow_body-filled (is_new c.first_new g) body)
      (function_or_new-filled c.first_new fill unasked (is_new c.first_new g) g (form_of true (flag_of (at 2 ps)) false) None (codes_of (at 0 ps)) (arrow_body (is_new c.first_new g) body))

  -- ---- classes

  method-unasked : (ps : Members) (q : Code) → is_unasked c.first_new q ≡ true → method_of c ps q ≡ ordinary c.first_new fill unasked ps q
  method-unasked ps (private_name d s x) h = absurd (cc)
  method-unasked ps q h = refl

  method_of-filled : (ps : Members) (k : Code) → method_of c (filled_members fill ps) (filled fill k) ≡ filled fill (method_of c ps k)
  method_of-filled ps (private_name d s x) =
      rw (flag_at-filled fill 4 ps, word_at-filled fill 2 ps, the_code_at-filled fill 1 ps)
      (cond-code c.first_new fill unasked (is_declared_as (member_at d c.members) (flag_of (at 4 ps)) (word_of (at 2 ps))) (private_method (flag_of (at 4 ps)) d (the_code (at 1 ps))) no_rule)
  method_of-filled ps (initializers n) = method-unasked (filled_members fill ps) (fill n) (unasked n) ∙ ordinary-filled c.first_new fill unasked ps (initializers n)
  method_of-filled ps k = ordinary-filled c.first_new fill unasked ps k

  pub method_code-filled : (ps : Members) → method_code c (filled_members fill ps) ≡ filled fill (method_code c ps)
  method_code-filled ps = ap (method_of c (filled_members fill ps)) (the_code_at-filled fill 0 ps) ∙ method_of-filled ps (the_code (at 0 ps))

  private_element-filled : (is_static : Bool) (d : ℕ) (s : String) (q : Code) → private_element c is_static d s (filled fill q) ≡ filled fill (private_element c is_static d s q)
  private_element-filled is_static d s q = code-cond c.first_new fill unasked (is_new c.first_new d) (cond (is_static && is_generated_private s c.class c.ledger) (generated_element s q) no_rule) (private_field is_static d q) (cond-code c.first_new fill unasked (is_static && is_generated_private s c.class c.ledger) (generated_element s q) no_rule) refl

  abbrev public_field : Members → Code → Code
  public_field ps k = field (flag_of (at 3 ps)) (field_form c.options (flag_of (at 3 ps)) k (at 1 ps)) (key_code (flag_of (at 2 ps)) k) (value_or_undefined (at 1 ps))

  field_form-filled : (is_static : Bool) (k : Code) (p : Member) → field_form c.options is_static (filled fill k) (filled_member fill p) ≡ field_form c.options is_static k p
  field_form-filled is_static k p = rw (is_absent-filled c.first_new fill unasked p, is_name_or_length-filled c.first_new fill unasked k) refl

  public_field-filled : (ps : Members) (k : Code) → public_field (filled_members fill ps) (filled fill k) ≡ filled fill (public_field ps k)
  public_field-filled ps k = rw (flag_at-filled fill 3 ps, flag_at-filled fill 2 ps, value_at-filled c.first_new fill unasked 1 ps, at-filled fill 1 ps, field_form-filled (flag_of (at 3 ps)) k (at 1 ps), key_code-filled c.first_new fill unasked (flag_of (at 2 ps)) k) refl

  field-unasked : (ps : Members) (q : Code) → is_unasked c.first_new q ≡ true → field_of c ps q ≡ public_field ps q
  field-unasked ps (private_name d s x) h = absurd (cc)
  field-unasked ps q h = refl

  field_of-filled : (ps : Members) (k : Code) → field_of c (filled_members fill ps) (filled fill k) ≡ filled fill (field_of c ps k)
  field_of-filled ps (private_name d s x) = rw (flag_at-filled fill 3 ps, value_at-filled c.first_new fill unasked 1 ps) (private_element-filled (flag_of (at 3 ps)) d s (value_or_undefined (at 1 ps)))
  field_of-filled ps (initializers n) = field-unasked (filled_members fill ps) (fill n) (unasked n) ∙ public_field-filled ps (initializers n)
  field_of-filled ps k = public_field-filled ps k

  pub field_code-filled : (ps : Members) → field_code c (filled_members fill ps) ≡ filled fill (field_code c ps)
  field_code-filled ps = ap (field_of c (filled_members fill ps)) (the_code_at-filled fill 0 ps) ∙ field_of-filled ps (the_code (at 0 ps))
