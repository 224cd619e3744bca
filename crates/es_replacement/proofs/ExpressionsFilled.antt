-- Expressions whose parts have holes are read as with what stands in them.
use Rattle.std.specs.Prelude.{◌≡◌, ℕ, [], ◌∷◌, ◌++◌, Bool, true, false, cond, ◌&&◌, codes, bytes_eq, Option, Some, None, refl, ◌||◌}
use Rattle.es_base.specs.declared.kind.Kind.{Kind}
use Rattle.es_base.specs.declared.ledger.GeneratedKind.{GeneratedKind}
use Rattle.es_base.specs.declared.literal.LiteralValue.{LiteralValue}
use Rattle.es_base.specs.declared.literal.LiteralValue.TheVariants as literal_value
use Rattle.es_steps.specs.Code.{initializers, super_member, member, Code, Codes, Target, Callee, no_rule, value, spelled, private_name, name, super, private_member, private_in, compound, logical, logical_assign, call, tag, template_string, template, operation, piece, chain, tested, private_value, on_chain, behind_test, done, and, from_call, from_member, bound, with_receiver, key_of}
use Rattle.es_steps.specs.Context.{Context, NameKind, Changing, Generated, name_kind, new_here}
use Rattle.es_steps.specs.Events.{Operand, Spelled, Flag, OfKind}
use Rattle.es_steps.specs.Expressions.{operation_of, the_code, value_code, literal_code, is_arguments, arguments_of, name_or_arguments, name_code, cooked_of, template_string_code, template_strings, template_code, spelling_of, meta_code, key_code, super_member_at, checked_object, member_on, member_code, is_made_private, names_class, private_on, private_field_of, private_field_code, test_in, private_in_of, private_in_code, target_of, is_logical, without_sign, assignment_code, update_code, void_code, deleted, delete_code, is_free_name, is_any_name, unary_operation, unary_code, binary_code, quiet_logical, logical_code, chain_code, ended_alone, callee_of, checked_callee, call_code, new_code, tag_of, tag_code, is_prototype, key_details, property_code, is_numeric}
use Rattle.es_steps.specs.GeneratedForms.{generated_member, generated_call, generated_assignment, class_named}
use Rattle.es_steps.specs.Members.{Member, Members, code, string, literal, at, codes_of, word_of, flag_of}
use Rattle.es_steps.specs.PrivateNames.{PrivateReference}
use Rattle.es_steps.specs.Values.{String, StringOf, Value, ConstantOf, ResultOf, ThisOf, ClassOf, ArgumentsOf, Free, Home, NumberOf, BigIntOf}
use Rattle.std.proofs.Common.{◌∙◌, ap, ap₂, sym}
use Rattle.es_replacement.proofs.Environments.{right}
use Rattle.es_replacement.proofs.FormsFilled.{code-cond, cond-code, class_named-filled, helper_member-filled, generated_member-filled, generated_call-filled, generated_binary-filled, generated_assignment-filled}
use Rattle.es_replacement.proofs.MembersFilled.{filled_member, filled_members, at-filled, operands-filled, details-filled, word_at-filled, flag_at-filled, codes_at-filled, the_code_at-filled, closed_code}
use Rattle.es_replacement.specs.Holes.{filled, filled_all, filled_target, filled_callee}
use Rattle.es_replacement.specs.Unasked.{is_unasked, ends_open, is_closed, is_closed_at}

abbrev pub is_super : Code → Bool
is_super super = true
is_super e = false

module _ (first : ℕ) (fill : ℕ → Code) (unasked : (n : ℕ) → is_unasked first (fill n) ≡ true) where
  pub operation_of-filled : (kind : Kind) (m : ℕ) (ps : Members) → operation_of kind m (filled_members fill ps) ≡ filled fill (operation_of kind m ps)
  operation_of-filled kind m ps = ap₂ (λ ms cs. operation m (OfKind kind ms) cs done) (details-filled first fill unasked ps) (operands-filled first fill unasked ps)

  -- ---- constants

  value_code-filled : (m : ℕ) (v : LiteralValue) → value_code m v ≡ filled fill (value_code m v)
  value_code-filled m (literal_value.RegExp source flags) = refl
  value_code-filled m (literal_value.String s raw) = refl
  value_code-filled m (literal_value.Number raw) = refl
  value_code-filled m (literal_value.BigInt s) = refl
  value_code-filled m (literal_value.Boolean b) = refl
  value_code-filled m literal_value.Null = refl

  literal_code-filled : (m : ℕ) (p : Member) → literal_code m (filled_member fill p) ≡ filled fill (literal_code m p)
  literal_code-filled m (literal v) = value_code-filled m v
  literal_code-filled m p = refl

  pub literal_at-filled : (m i : ℕ) (ps : Members) → literal_code m (at i (filled_members fill ps)) ≡ filled fill (literal_code m (at i ps))
  literal_at-filled m i ps = ap (literal_code m) (at-filled fill i ps) ∙ literal_code-filled m (at i ps)

  cooked_of-filled : (p : Member) → cooked_of (filled_member fill p) ≡ cooked_of p
  cooked_of-filled (string s) = refl
  cooked_of-filled p = refl

  pub template_string_code-filled : (ps : Members) → template_string_code (filled_members fill ps) ≡ filled fill (template_string_code ps)
  template_string_code-filled ps = rw (word_at-filled fill 0 ps, at-filled fill 1 ps, cooked_of-filled (at 1 ps), flag_at-filled fill 2 ps) refl

  strings-unasked : (q : Code) (cs : Codes) → is_unasked first q ≡ true → template_strings (and q cs) ≡ template_strings cs
  strings-unasked (template_string s) cs h = absurd (cc)
  strings-unasked q cs h = refl

  template_strings-filled : (cs : Codes) → template_strings (filled_all fill cs) ≡ template_strings cs
  template_strings-filled done = refl
  template_strings-filled (and (template_string s) cs) = ap (λ ss. s ∷ ss) (template_strings-filled cs)
  template_strings-filled (and (initializers n) cs) = strings-unasked (fill n) (filled_all fill cs) (unasked n) ∙ template_strings-filled cs
  template_strings-filled (and c cs) = template_strings-filled cs

  pub template_code-filled : (m : ℕ) (ps : Members) → template_code m (filled_members fill ps) ≡ filled fill (template_code m ps)
  template_code-filled m ps = rw (codes_at-filled fill 0 ps, template_strings-filled (codes_of (at 0 ps)), codes_at-filled fill 1 ps) refl

  spelling-unasked : (q : Code) → is_unasked first q ≡ true → spelling_of (code q) ≡ []
  spelling-unasked (spelled s) h = absurd (cc)
  spelling-unasked q h = refl

  spelling_of-filled : (p : Member) → spelling_of (filled_member fill p) ≡ spelling_of p
  spelling_of-filled (code (spelled s)) = refl
  spelling_of-filled (code (initializers n)) = spelling-unasked (fill n) (unasked n)
  spelling_of-filled p = refl

  pub spelling_at-filled : (i : ℕ) (ps : Members) → spelling_of (at i (filled_members fill ps)) ≡ spelling_of (at i ps)
  spelling_at-filled i ps = ap spelling_of (at-filled fill i ps) ∙ spelling_of-filled (at i ps)

  -- ---- members

  key_code-unasked : (q : Code) → is_unasked first q ≡ true → key_code false q ≡ q
  key_code-unasked (spelled s) h = absurd (cc)
  key_code-unasked q h = refl

  pub key_code-filled : (computed : Bool) (k : Code) → key_code computed (filled fill k) ≡ filled fill (key_code computed k)
  key_code-filled true k = refl
  key_code-filled false (spelled s) = refl
  key_code-filled false (initializers n) = key_code-unasked (fill n) (unasked n)
  key_code-filled false k = refl

  super_member_at-filled : (m : ℕ) (home : Option Home) (k : Code) (this : Value) → super_member_at m home (filled fill k) this ≡ filled fill (super_member_at m home k this)
  super_member_at-filled m None k this = refl
  super_member_at-filled m (Some home) k this = refl

  checked_object-filled : (b : Bool) (o : Code) → checked_object b (filled fill o) ≡ filled fill (checked_object b o)
  checked_object-filled true o = refl
  checked_object-filled false o = refl

  private_in-unasked : (c : Context) (m : ℕ) (q o : Code) → is_unasked first q ≡ true → private_in_of c m q o ≡ no_rule
  private_in-unasked c m (private_name d s x) o h = absurd (cc)
  private_in-unasked c m q o h = refl

  private_in_of-filled : (c : Context) (m : ℕ) (k o : Code) → private_in_of c m (filled fill k) (filled fill o) ≡ filled fill (private_in_of c m k o)
  private_in_of-filled c m (private_name d s (Some x)) o = cond-code first fill unasked (is_made_private c s x) no_rule (private_in m (test_in c x) o)
  private_in_of-filled c m (initializers n) o = private_in-unasked c m (fill n) (filled fill o) (unasked n)
  private_in_of-filled c m k o = refl

  pub private_in_code-filled : (c : Context) (m : ℕ) (ps : Members) → private_in_code c m (filled_members fill ps) ≡ filled fill (private_in_code c m ps)
  private_in_code-filled c m ps = rw (the_code_at-filled fill 1 ps, the_code_at-filled fill 2 ps) (private_in_of-filled c m (the_code (at 1 ps)) (the_code (at 2 ps)))

  -- ---- what is written

  pub target_of-filled : (q : Code) → ends_open q ≡ false → target_of (filled fill q) ≡ filled_target fill (target_of q)
  target_of-filled (name m s kind) closed = refl
  target_of-filled (from_member e) closed = target_of-filled e closed
  target_of-filled (initializers n) closed = absurd (cc)
  target_of-filled q closed = refl

  pub target_at-filled : (i : ℕ) (ps : Members) → is_closed (at i ps) ≡ true → target_of (the_code (at i (filled_members fill ps))) ≡ filled_target fill (target_of (the_code (at i ps)))
  target_at-filled i ps closed = ap target_of (the_code_at-filled fill i ps) ∙ target_of-filled (the_code (at i ps)) (closed_code (at i ps) closed)

  pub update_code-filled : (m : ℕ) (ps : Members) → is_closed (at 1 ps) ≡ true → update_code m (filled_members fill ps) ≡ filled fill (update_code m ps)
  update_code-filled m ps closed = rw (word_at-filled fill 0 ps, flag_at-filled fill 2 ps, target_at-filled 1 ps closed) refl

  -- ---- operators

  void_code-unasked : (q whole : Code) → is_unasked first q ≡ true → void_code q whole ≡ whole
  void_code-unasked (value v) whole h = absurd (cc)
  void_code-unasked q whole h = refl

  void_code-filled : (e whole : Code) → void_code (filled fill e) (filled fill whole) ≡ filled fill (void_code e whole)
  void_code-filled (value (ConstantOf c)) whole = refl
  void_code-filled (initializers n) whole = void_code-unasked (fill n) (filled fill whole) (unasked n)
  void_code-filled e whole = refl

  deleted-filled : (m : ℕ) (e : Code) → ends_open e ≡ false → deleted m (filled fill e) ≡ filled fill (deleted m e)
  deleted-filled m (member k o key) closed = refl
  deleted-filled m (super_member k home key this) closed = refl
  deleted-filled m (tested o again e) closed = ap (tested (filled fill o) (filled_all fill again)) (deleted-filled m e closed)
  deleted-filled m (from_member e) closed = refl
  deleted-filled m (initializers n) closed = absurd (cc)
  deleted-filled m e closed = refl

  ended_alone-unasked : (q : Code) → is_unasked first q ≡ true → ended_alone q ≡ from_call q
  ended_alone-unasked (bound g o) h = absurd (cc)
  ended_alone-unasked (tested o again e) h = absurd (cc)
  ended_alone-unasked q h = refl

  pub ended_alone-filled : (e : Code) → ended_alone (filled fill e) ≡ filled fill (ended_alone e)
  ended_alone-filled (bound g o) = refl
  ended_alone-filled (tested o again e) = refl
  ended_alone-filled (initializers n) = ended_alone-unasked (fill n) (unasked n)
  ended_alone-filled e = refl

  delete_code-filled : (m : ℕ) (e whole : Code) → ends_open e ≡ false → delete_code m (filled fill e) (filled fill whole) ≡ filled fill (delete_code m e whole)
  delete_code-filled m (member k o key) whole closed = refl
  delete_code-filled m (super_member k home key this) whole closed = refl
  delete_code-filled m (chain k e) whole closed = ap (chain m) (deleted-filled m e closed)
  delete_code-filled m (from_member e) whole closed = refl
  delete_code-filled m (value (ThisOf k)) whole closed = refl
  delete_code-filled m (value (ClassOf n)) whole closed = refl
  delete_code-filled m (initializers n) whole closed = absurd (cc)
  delete_code-filled m e whole closed = refl

  abbrev unary_of : ℕ → String → Code → Code → Code
  unary_of m operator e whole = cond (bytes_eq operator (codes "void")) (void_code e whole) (cond (bytes_eq operator (codes "delete")) (delete_code m e whole) whole)

  unary_of-filled : (m : ℕ) (operator : String) (e whole : Code) → (bytes_eq operator (codes "delete") ≡ true → ends_open e ≡ false) → unary_of m operator (filled fill e) (filled fill whole) ≡ filled fill (unary_of m operator e whole)
  unary_of-filled m operator e whole closed =
      code-cond first fill unasked (bytes_eq operator (codes "void")) (void_code e whole) (cond (bytes_eq operator (codes "delete")) (delete_code m e whole) whole) (void_code-filled e whole)
      (by (bytes_eq operator (codes "delete")) refl)
    where
      by : (b : Bool) → bytes_eq operator (codes "delete") ≡ b → cond b (delete_code m (filled fill e) (filled fill whole)) (filled fill whole) ≡ filled fill (cond b (delete_code m e whole) whole)
      by true h = delete_code-filled m e whole (closed h)
      by false h = refl

  is_free_name-unasked : (q : Code) → is_unasked first q ≡ true → is_free_name q ≡ false
  is_free_name-unasked (name m s kind) h = absurd (cc)
  is_free_name-unasked q h = refl

  is_free_name-filled : (e : Code) → is_free_name (filled fill e) ≡ is_free_name e
  is_free_name-filled (initializers n) = is_free_name-unasked (fill n) (unasked n)
  is_free_name-filled e = refl

  is_any_name-unasked : (q : Code) → is_unasked first q ≡ true → is_any_name q ≡ false
  is_any_name-unasked (name m s kind) h = absurd (cc)
  is_any_name-unasked (value v) h = absurd (cc)
  is_any_name-unasked q h = refl

  is_any_name-filled : (e : Code) → is_any_name (filled fill e) ≡ is_any_name e
  is_any_name-filled (initializers n) = is_any_name-unasked (fill n) (unasked n)
  is_any_name-filled e = refl

  unary_operation-filled : (m : ℕ) (ps : Members) (e : Code) → unary_operation m (filled_members fill ps) (filled fill e) ≡ filled fill (unary_operation m ps e)
  unary_operation-filled m ps e = rw (word_at-filled fill 0 ps, is_free_name-filled e, is_any_name-filled e, details-filled first fill unasked ps, operands-filled first fill unasked ps) refl

  pub unary_code-filled : (m : ℕ) (ps : Members) → is_closed_at (cond (bytes_eq (word_of (at 0 ps)) (codes "delete")) (Some 1) None) ps ≡ true → unary_code m (filled_members fill ps) ≡ filled fill (unary_code m ps)
  unary_code-filled m ps closed =
      rw (the_code_at-filled fill 1 ps, unary_operation-filled m ps (the_code (at 1 ps)), word_at-filled fill 0 ps)
      (unary_of-filled m (word_of (at 0 ps)) (the_code (at 1 ps)) (unary_operation m ps (the_code (at 1 ps))) (λ h. closed_code (at 1 ps) (sym (ap (λ b. is_closed_at (cond b (Some 1) None) ps) h) ∙ closed)))

  arguments_of-filled : (writes : Bool) (m : ℕ) (s : String) (v : Value) → arguments_of writes m s v ≡ filled fill (arguments_of writes m s v)
  arguments_of-filled true m s (ArgumentsOf k) = refl
  arguments_of-filled false m s (ArgumentsOf k) = refl
  arguments_of-filled true m s v = refl
  arguments_of-filled false m s v = refl

  pub chain_code-filled : (m : ℕ) (ps : Members) → chain_code m (filled_members fill ps) ≡ filled fill (chain_code m ps)
  chain_code-filled m ps = rw (the_code_at-filled fill 0 ps) refl

  -- ---- calls

  pub callee_of-filled : (q : Code) → ends_open q ≡ false → callee_of (filled fill q) ≡ filled_callee fill (callee_of q)
  callee_of-filled (chain m e) closed = ap (on_chain m) (callee_of-filled e closed)
  callee_of-filled (tested o again e) closed = ap (behind_test (filled fill o) (filled_all fill again)) (callee_of-filled e closed)
  callee_of-filled (member m o k) closed = refl
  callee_of-filled (from_member e) closed = refl
  callee_of-filled (initializers n) closed = absurd (cc)
  callee_of-filled q closed = refl

  checked_callee-filled : (b : Bool) (g : Callee) → checked_callee b (filled_callee fill g) ≡ filled_callee fill (checked_callee b g)
  checked_callee-filled true (with_receiver g o) = refl
  checked_callee-filled true g = refl
  checked_callee-filled false g = refl

  pub new_code-filled : (m : ℕ) (ps : Members) → new_code m (filled_members fill ps) ≡ filled fill (new_code m ps)
  new_code-filled m ps = rw (the_code_at-filled fill 0 ps, codes_at-filled fill 1 ps) refl

  tag-unasked : (m : ℕ) (g q : Code) → is_unasked first q ≡ true → tag_of m g q ≡ no_rule
  tag-unasked m g (template k strings es) h = absurd (cc)
  tag-unasked m g q h = refl

  tag_of-filled : (m : ℕ) (g e : Code) → ends_open g ≡ false → tag_of m (filled fill g) (filled fill e) ≡ filled fill (tag_of m g e)
  tag_of-filled m g (template k strings es) closed = ap (λ x. tag m x strings (filled_all fill es)) (callee_of-filled g closed)
  tag_of-filled m g (initializers n) closed = tag-unasked m (filled fill g) (fill n) (unasked n)
  tag_of-filled m g e closed = refl

  pub tag_code-filled : (m : ℕ) (ps : Members) → is_closed (at 0 ps) ≡ true → tag_code m (filled_members fill ps) ≡ filled fill (tag_code m ps)
  tag_code-filled m ps closed = rw (the_code_at-filled fill 0 ps, the_code_at-filled fill 1 ps) (tag_of-filled m (the_code (at 0 ps)) (the_code (at 1 ps)) (closed_code (at 0 ps) closed))

  -- ---- objects

  is_prototype-filled : (s : String) (ps : Members) → is_prototype s (filled_members fill ps) ≡ is_prototype s ps
  is_prototype-filled s ps = rw (word_at-filled fill 2 ps, flag_at-filled fill 3 ps, flag_at-filled fill 4 ps) refl

  key_details-unasked : (q : Code) (ps : Members) → is_unasked first q ≡ true → key_details q ps ≡ []
  key_details-unasked (spelled s) ps h = absurd (cc)
  key_details-unasked (value v) ps h = absurd (cc)
  key_details-unasked q ps h = refl

  pub key_details-filled : (k : Code) (ps : Members) → key_details (filled fill k) (filled_members fill ps) ≡ key_details k ps
  key_details-filled (spelled s) ps = rw (is_prototype-filled s ps) refl
  key_details-filled (value (ConstantOf (StringOf s))) ps = rw (is_prototype-filled s ps) refl
  key_details-filled (value (ConstantOf k)) ps = refl
  key_details-filled (initializers n) ps = key_details-unasked (fill n) (filled_members fill ps) (unasked n)
  key_details-filled k ps = refl

  is_numeric-unasked : (k : Code) → is_unasked first k ≡ true → is_numeric k ≡ false
  is_numeric-unasked (value v) h = absurd (cc)
  is_numeric-unasked k h = refl

  is_numeric-filled : (k : Code) → is_numeric (filled fill k) ≡ is_numeric k
  is_numeric-filled (value (ConstantOf (NumberOf raw))) = refl
  is_numeric-filled (value (ConstantOf (BigIntOf s))) = refl
  is_numeric-filled (initializers n) = is_numeric-unasked (fill n) (unasked n)
  is_numeric-filled k = refl

  pub property_code-filled : (ps : Members) → property_code (filled_members fill ps) ≡ filled fill (property_code ps)
  property_code-filled ps =
      rw (the_code_at-filled fill 0 ps, the_code_at-filled fill 1 ps, word_at-filled fill 2 ps, flag_at-filled fill 3 ps, flag_at-filled fill 5 ps, key_details-filled (the_code (at 0 ps)) ps, is_numeric-filled (the_code (at 0 ps)))
      (cond-code first fill unasked (flag_of (at 5 ps) || is_numeric (the_code (at 0 ps))) (piece (Operand ∷ Operand ∷ Spelled (word_of (at 2 ps)) ∷ Flag (flag_of (at 3 ps)) ∷ []) (and (key_of (the_code (at 0 ps))) (and (the_code (at 1 ps)) done))) (piece (key_details (the_code (at 0 ps)) ps ++ Operand ∷ Spelled (word_of (at 2 ps)) ∷ Flag (flag_of (at 3 ps)) ∷ []) (and (the_code (at 1 ps)) done)))

module _ (c : Context) (fill : ℕ → Code) (unasked : (n : ℕ) → is_unasked c.first_new (fill n) ≡ true) where
  -- ---- names

  name_or_arguments-filled : (m : ℕ) (s : String) (kind : NameKind) → name_or_arguments c m s kind ≡ filled fill (name_or_arguments c m s kind)
  name_or_arguments-filled m s (Changing (Free spelling)) = code-cond c.first_new fill unasked (is_arguments s) (arguments_of c.writes_arguments m s c.arguments) (name m s (Changing (Free spelling))) (arguments_of-filled c.first_new fill unasked c.writes_arguments m s c.arguments) refl
  name_or_arguments-filled m s (Generated (GeneratedKind.Method d)) = refl
  name_or_arguments-filled m s kind = refl

  pub name_code-filled : (m : ℕ) (s : String) → name_code c m s ≡ filled fill (name_code c m s)
  name_code-filled m s = name_or_arguments-filled m s (name_kind c s)

  pub meta_code-filled : (m : ℕ) (ps : Members) → meta_code c m (filled_members fill ps) ≡ filled fill (meta_code c m ps)
  meta_code-filled m ps =
      let target : Code = cond (new_here c m) no_rule (value c.new_target) in
      rw (spelling_at-filled c.first_new fill unasked 0 ps, operation_of-filled c.first_new fill unasked Kind.MetaProperty m ps)
      (code-cond c.first_new fill unasked (bytes_eq (spelling_of (at 0 ps)) (codes "new")) target (operation_of Kind.MetaProperty m ps) (cond-code c.first_new fill unasked (new_here c m) no_rule (value c.new_target)) refl)

  -- ---- members

  member_on-unasked : (m : ℕ) (optional : Bool) (q k : Code) → is_unasked c.first_new q ≡ true → member_on c m optional q k ≡ generated_member c m q k (member m (checked_object optional q) k)
  member_on-unasked m optional super k h = absurd (cc)
  member_on-unasked m optional q k h = refl

  object-filled : (m : ℕ) (optional : Bool) (o k : Code) → generated_member c m (filled fill o) (filled fill k) (member m (checked_object optional (filled fill o)) (filled fill k)) ≡ filled fill (generated_member c m o k (member m (checked_object optional o) k))
  object-filled m optional o k = ap (λ x. generated_member c m (filled fill o) (filled fill k) (member m x (filled fill k))) (checked_object-filled c.first_new fill unasked optional o) ∙ generated_member-filled c fill unasked m o k (member m (checked_object optional o) k)

  member_on-filled : (m : ℕ) (optional : Bool) (o k : Code) → member_on c m optional (filled fill o) (filled fill k) ≡ filled fill (member_on c m optional o k)
  member_on-filled m optional super k = super_member_at-filled c.first_new fill unasked m c.home k c.this
  member_on-filled m optional (initializers n) k = member_on-unasked m optional (fill n) (filled fill k) (unasked n) ∙ object-filled m optional (initializers n) k
  member_on-filled m optional o k = object-filled m optional o k

  pub member_code-filled : (m : ℕ) (ps : Members) → member_code c m (filled_members fill ps) ≡ filled fill (member_code c m ps)
  member_code-filled m ps =
      rw (flag_at-filled fill 2 ps, flag_at-filled fill 3 ps, the_code_at-filled fill 0 ps, the_code_at-filled fill 1 ps, key_code-filled c.first_new fill unasked (flag_of (at 2 ps)) (the_code (at 1 ps)), member_on-filled m (flag_of (at 3 ps)) (the_code (at 0 ps)) (key_code (flag_of (at 2 ps)) (the_code (at 1 ps))))
      (helper_member-filled c fill unasked (flag_of (at 2 ps)) (the_code (at 0 ps)) (the_code (at 1 ps)) (member_on c m (flag_of (at 3 ps)) (the_code (at 0 ps)) (key_code (flag_of (at 2 ps)) (the_code (at 1 ps)))))

  private_on-filled : (m : ℕ) (s : String) (x : Option PrivateReference) (o checked_o : Code) → private_on c m s x (filled fill o) (filled fill checked_o) ≡ filled fill (private_on c m s x o checked_o)
  private_on-filled m s None o checked_o = refl
  private_on-filled m s (Some x) o checked_o =
      let is_meant : Bool = names_class x (class_named o) in
      rw (class_named-filled c.first_new fill unasked o)
      (code-cond c.first_new fill unasked (is_made_private c s x) (cond is_meant (private_value s) no_rule) (private_member m x checked_o) (cond-code c.first_new fill unasked is_meant (private_value s) no_rule) refl)

  -- the private name of a member, whose object is no `super`
  abbrev named_on : ℕ → Bool → Code → Code → Code
  named_on m optional o (private_name d s x) = private_on c m s x o (checked_object optional o)
  named_on m optional o k = no_rule

  named_on-unasked : (m : ℕ) (optional : Bool) (o q : Code) → is_unasked c.first_new q ≡ true → named_on m optional o q ≡ no_rule
  named_on-unasked m optional o (private_name d s x) h = absurd (cc)
  named_on-unasked m optional o q h = refl

  named_on-filled : (m : ℕ) (optional : Bool) (o k : Code) → named_on m optional (filled fill o) (filled fill k) ≡ filled fill (named_on m optional o k)
  named_on-filled m optional o (private_name d s x) = ap (private_on c m s x (filled fill o)) (checked_object-filled c.first_new fill unasked optional o) ∙ private_on-filled m s x o (checked_object optional o)
  named_on-filled m optional o (initializers n) = named_on-unasked m optional (filled fill o) (fill n) (unasked n)
  named_on-filled m optional o k = refl

  field_of-named : (m : ℕ) (optional : Bool) (o k : Code) → is_super o ≡ false → private_field_of c m optional o k ≡ named_on m optional o k
  field_of-named m optional super k h = absurd (cc)
  field_of-named m optional o (private_name d s x) h = refl
  field_of-named m optional o k h = refl

  is_super-unasked : (q : Code) → is_unasked c.first_new q ≡ true → is_super q ≡ false
  is_super-unasked super h = absurd (cc)
  is_super-unasked q h = refl

  is_super-filled : (o : Code) → is_super (filled fill o) ≡ is_super o
  is_super-filled (initializers n) = is_super-unasked (fill n) (unasked n)
  is_super-filled o = refl

  no_super : (o : Code) → is_super o ≡ true → o ≡ super
  no_super super h = refl
  no_super o h = absurd (cc)

  private_field_of-filled : (m : ℕ) (optional : Bool) (o k : Code) → private_field_of c m optional (filled fill o) (filled fill k) ≡ filled fill (private_field_of c m optional o k)
  private_field_of-filled m optional o k = by (is_super o) refl
    where
      by : (b : Bool) → is_super o ≡ b → private_field_of c m optional (filled fill o) (filled fill k) ≡ filled fill (private_field_of c m optional o k)
      by true h = rw (no_super o h) refl
      by false h = field_of-named m optional (filled fill o) (filled fill k) (is_super-filled o ∙ h) ∙ named_on-filled m optional o k ∙ ap (filled fill) (sym (field_of-named m optional o k h))

  pub private_field_code-filled : (m : ℕ) (ps : Members) → private_field_code c m (filled_members fill ps) ≡ filled fill (private_field_code c m ps)
  private_field_code-filled m ps = rw (flag_at-filled fill 3 ps, the_code_at-filled fill 0 ps, the_code_at-filled fill 1 ps) (private_field_of-filled m (flag_of (at 3 ps)) (the_code (at 0 ps)) (the_code (at 1 ps)))

  -- ---- assignments and operators

  abbrev assignment_of : ℕ → String → Target → Code → Code
  assignment_of m operator to right = cond (bytes_eq operator (codes "=")) (generated_assignment c m to right) (cond (is_logical operator) (logical_assign m (without_sign operator) to right) (compound m (without_sign operator) to right))

  assignment_of-filled : (m : ℕ) (operator : String) (to : Target) (right : Code) → assignment_of m operator (filled_target fill to) (filled fill right) ≡ filled fill (assignment_of m operator to right)
  assignment_of-filled m operator to right =
      code-cond c.first_new fill unasked (bytes_eq operator (codes "=")) (generated_assignment c m to right) (cond (is_logical operator) (logical_assign m (without_sign operator) to right) (compound m (without_sign operator) to right)) (generated_assignment-filled c fill unasked m to right)
      (cond-code c.first_new fill unasked (is_logical operator) (logical_assign m (without_sign operator) to right) (compound m (without_sign operator) to right))

  pub assignment_code-filled : (m : ℕ) (ps : Members) → is_closed (at 1 ps) ≡ true → assignment_code c m (filled_members fill ps) ≡ filled fill (assignment_code c m ps)
  assignment_code-filled m ps closed =
      rw (word_at-filled fill 0 ps, target_at-filled c.first_new fill unasked 1 ps closed, the_code_at-filled fill 2 ps)
      (assignment_of-filled m (word_of (at 0 ps)) (target_of (the_code (at 1 ps))) (the_code (at 2 ps)))

  pub binary_code-filled : (m : ℕ) (ps : Members) → binary_code c m (filled_members fill ps) ≡ filled fill (binary_code c m ps)
  binary_code-filled m ps =
      rw (word_at-filled fill 0 ps, the_code_at-filled fill 1 ps, the_code_at-filled fill 2 ps, operation_of-filled c.first_new fill unasked Kind.BinaryExpression m ps)
      (generated_binary-filled c fill unasked m (word_of (at 0 ps)) (the_code (at 1 ps)) (the_code (at 2 ps)) (operation_of Kind.BinaryExpression m ps))

  -- what stands on the right of a quiet `&&`
  abbrev quiet_right : ℕ → ℕ → String → Code → Code → Code
  quiet_right m k operator (from_call (value v)) whole = cond (new_here c m && (new_here c k && bytes_eq operator (codes "&&"))) (value (ResultOf m)) whole
  quiet_right m k operator (value (ResultOf j)) whole = cond (new_here c j && (new_here c m && (new_here c k && bytes_eq operator (codes "&&")))) (value (ResultOf m)) whole
  quiet_right m k operator r whole = whole

  quiet_right-unasked : (m k : ℕ) (operator : String) (q whole : Code) → is_unasked c.first_new q ≡ true → quiet_right m k operator q whole ≡ whole
  quiet_right-unasked m k operator (from_call (value v)) whole h = absurd (cc)
  quiet_right-unasked m k operator (value v) whole h = absurd (cc)
  quiet_right-unasked m k operator q whole h = refl

  quiet_given-unasked : (m k : ℕ) (operator : String) (q whole : Code) → is_unasked c.first_new q ≡ true → quiet_right m k operator (from_call q) whole ≡ whole
  quiet_given-unasked m k operator (value v) whole h = absurd (cc)
  quiet_given-unasked m k operator q whole h = refl

  quiet_right-filled : (m k : ℕ) (operator : String) (r whole : Code) → quiet_right m k operator (filled fill r) (filled fill whole) ≡ filled fill (quiet_right m k operator r whole)
  quiet_right-filled m k operator (from_call (value v)) whole = cond-code c.first_new fill unasked (new_here c m && (new_here c k && bytes_eq operator (codes "&&"))) (value (ResultOf m)) whole
  quiet_right-filled m k operator (value (ResultOf j)) whole = cond-code c.first_new fill unasked (new_here c j && (new_here c m && (new_here c k && bytes_eq operator (codes "&&")))) (value (ResultOf m)) whole
  quiet_right-filled m k operator (from_call (initializers n)) whole = quiet_given-unasked m k operator (fill n) (filled fill whole) (unasked n)
  quiet_right-filled m k operator (initializers n) whole = quiet_right-unasked m k operator (fill n) (filled fill whole) (unasked n)
  quiet_right-filled m k operator r whole = refl

  quiet_of : (m k : ℕ) (operator : String) (r whole : Code) → quiet_logical c m operator (value (ResultOf k)) r whole ≡ quiet_right m k operator r whole
  quiet_of m k operator (from_call (value v)) whole = refl
  quiet_of m k operator (value (ResultOf j)) whole = refl
  quiet_of m k operator r whole = refl

  quiet_left-unasked : (m : ℕ) (operator : String) (q r whole : Code) → is_unasked c.first_new q ≡ true → quiet_logical c m operator q r whole ≡ whole
  quiet_left-unasked m operator (value v) r whole h = absurd (cc)
  quiet_left-unasked m operator q r whole h = refl

  quiet_logical-filled : (m : ℕ) (operator : String) (l x whole : Code) → quiet_logical c m operator (filled fill l) (filled fill x) (filled fill whole) ≡ filled fill (quiet_logical c m operator l x whole)
  quiet_logical-filled m operator (value (ResultOf k)) x whole = quiet_of m k operator (filled fill x) (filled fill whole) ∙ quiet_right-filled m k operator x whole ∙ ap (filled fill) (sym (quiet_of m k operator x whole))
  quiet_logical-filled m operator (initializers n) x whole = quiet_left-unasked m operator (fill n) (filled fill x) (filled fill whole) (unasked n)
  quiet_logical-filled m operator l x whole = refl

  pub logical_code-filled : (m : ℕ) (ps : Members) → logical_code c m (filled_members fill ps) ≡ filled fill (logical_code c m ps)
  logical_code-filled m ps =
      rw (word_at-filled fill 0 ps, the_code_at-filled fill 1 ps, the_code_at-filled fill 2 ps)
      (quiet_logical-filled m (word_of (at 0 ps)) (the_code (at 1 ps)) (the_code (at 2 ps)) (logical m (word_of (at 0 ps)) (the_code (at 1 ps)) (the_code (at 2 ps))))

  -- ---- calls

  pub call_code-filled : (m : ℕ) (ps : Members) → is_closed (at 0 ps) ≡ true → call_code c m (filled_members fill ps) ≡ filled fill (call_code c m ps)
  call_code-filled m ps closed =
      rw (the_code_at-filled fill 0 ps, codes_at-filled fill 1 ps, flag_at-filled fill 2 ps, callee_of-filled c.first_new fill unasked (the_code (at 0 ps)) (closed_code (at 0 ps) closed), checked_callee-filled c.first_new fill unasked (flag_of (at 2 ps)) (callee_of (the_code (at 0 ps))))
      (code-cond c.first_new fill unasked (flag_of (at 2 ps)) (call m (checked_callee (flag_of (at 2 ps)) (callee_of (the_code (at 0 ps)))) (codes_of (at 1 ps))) (generated_call c m (the_code (at 0 ps)) (codes_of (at 1 ps)) (call m (checked_callee (flag_of (at 2 ps)) (callee_of (the_code (at 0 ps)))) (codes_of (at 1 ps)))) refl
      (generated_call-filled c fill unasked m (the_code (at 0 ps)) (codes_of (at 1 ps)) (call m (checked_callee (flag_of (at 2 ps)) (callee_of (the_code (at 0 ps)))) (codes_of (at 1 ps))) (closed_code (at 0 ps) closed)))
