-- The codes of expressions follow a change of numbers.
use Rattle.std.specs.Prelude.{not, ◌≡◌, ℕ, [], ◌∷◌, ◌++◌, Bool, true, false, cond, ◌&&◌, codes, bytes_eq, Option, Some, None, ◌||◌}
use Rattle.std.proofs.Common.{refl, ap, ap₂, ◌∙◌}
use Rattle.es_base.specs.Numbered.{is_new}
use Rattle.es_base.specs.declared.kind.Kind.{Kind}
use Rattle.es_base.specs.declared.literal.LiteralValue.{LiteralValue}
use Rattle.es_base.specs.declared.literal.LiteralValue.TheVariants as literal_value
use Rattle.es_base.specs.declared.ledger.GeneratedKind.{GeneratedKind}
use Rattle.es_steps.specs.Code.{Code, Codes, Target, Callee, no_rule, value, spelled, private_name, name, super, member, private_member, super_member, private_in, compound, logical, logical_assign, call, tag, template_string, template, operation, piece, chain, tested, private_value, on_chain, behind_test, done, and, from_call, from_member, bound, with_receiver, key_of}
use Rattle.es_steps.specs.Context.{Context, NameKind, Changing, Generated, StaticMethod, name_kind, new_here}
use Rattle.es_steps.specs.Events.{Operand, Spelled, Flag, OfKind, Delete}
use Rattle.es_steps.specs.Expressions.{operation_of, the_code, value_code, literal_code, is_arguments, static_method, arguments_of, name_or_arguments, name_code, private_name_code, cooked_of, template_string_code, template_strings, template_code, spelling_of, meta_code, key_code, super_member_at, checked_object, member_on, member_code, is_made_private, names_class, private_on, private_field_of, private_field_code, static_test, test_in, private_in_of, private_in_code, target_of, is_logical, without_sign, assignment_code, update_code, void_code, deleted, delete_code, is_free_name, is_any_name, unary_operation, unary_code, binary_code, quiet_logical, logical_code, chain_code, spliced, deleted_as, ended_alone, chain_or, conditional_code, callee_of, checked_callee, call_code, new_code, tag_of, tag_code, is_prototype, key_details, property_code, is_numeric}
use Rattle.es_steps.specs.GeneratedForms.{generated_member, generated_call, generated_assignment, is_undefined_test, class_named, is_method_kind}
use Rattle.es_steps.specs.Members.{Member, Members, code, string, literal, at, codes_of, word_of, flag_of, details}
use Rattle.es_steps.specs.Options.{lowers_fields}
use Rattle.es_steps.specs.PrivateNames.{PrivateMember, PrivateReference, test_of, member_at}
use Rattle.es_steps.specs.Values.{String, StringOf, BooleanOf, Value, ConstantOf, Undefined, ResultOf, ThisOf, ClassOf, ArgumentsOf, Free, Home, NumberOf, BigIntOf}
use Rattle.es_steps.proofs.ContextMapped.{name_kind-mapped, new_here-mapped, is_generated_private-mapped}
use Rattle.es_steps.proofs.FormsMapped.{code-cond, cond-code, here, class_named-mapped, tested_object-mapped, again_of-mapped, helper_member-mapped, generated_member-mapped, generated_call-mapped, generated_binary-mapped, is_undefined_test-mapped, generated_assignment-mapped}
use Rattle.es_steps.proofs.Mapped.{Renames, mapped_option, mapped_name_kind, mapped_private, mapped_private_reference, mapped_test, mapped_value, mapped_home, mapped_context, mapped_code, mapped_codes, mapped_callee, mapped_target, mapped_member, mapped_members}
use Rattle.es_steps.proofs.MembersMapped.{at-mapped, operands-mapped, details-mapped, word_at-mapped, flag_at-mapped, codes_at-mapped}
use Rattle.es_steps.proofs.PartsMapped.{cond-mapped}
use Rattle.es_steps.proofs.PrivatesMapped.{member_at-mapped, private_reference-mapped, field_test-mapped, test_of-mapped}

module _ (f : ℕ → ℕ) where
  pub operation_of-mapped : (kind : Kind) (m : ℕ) (ps : Members) → operation_of kind (f m) (mapped_members f ps) ≡ mapped_code f (operation_of kind m ps)
  operation_of-mapped kind m ps = ap₂ (λ ms cs. operation (f m) (OfKind kind ms) cs done) (details-mapped f ps) (operands-mapped f ps)

  the_code-mapped : (p : Member) → the_code (mapped_member f p) ≡ mapped_code f (the_code p)
  the_code-mapped (code c) = refl
  the_code-mapped p = refl

  pub the_code_at-mapped : (i : ℕ) (ps : Members) → the_code (at i (mapped_members f ps)) ≡ mapped_code f (the_code (at i ps))
  the_code_at-mapped i ps = ap the_code (at-mapped f i ps) ∙ the_code-mapped (at i ps)

  -- ---- constants

  value_code-mapped : (m : ℕ) (v : LiteralValue) → value_code (f m) v ≡ mapped_code f (value_code m v)
  value_code-mapped m (literal_value.RegExp source flags) = refl
  value_code-mapped m (literal_value.String s raw) = refl
  value_code-mapped m (literal_value.Number raw) = refl
  value_code-mapped m (literal_value.BigInt s) = refl
  value_code-mapped m (literal_value.Boolean b) = refl
  value_code-mapped m literal_value.Null = refl

  literal_code-mapped : (m : ℕ) (p : Member) → literal_code (f m) (mapped_member f p) ≡ mapped_code f (literal_code m p)
  literal_code-mapped m (literal v) = value_code-mapped m v
  literal_code-mapped m p = refl

  pub literal_at-mapped : (m i : ℕ) (ps : Members) → literal_code (f m) (at i (mapped_members f ps)) ≡ mapped_code f (literal_code m (at i ps))
  literal_at-mapped m i ps = ap (literal_code (f m)) (at-mapped f i ps) ∙ literal_code-mapped m (at i ps)

  cooked_of-mapped : (p : Member) → cooked_of (mapped_member f p) ≡ cooked_of p
  cooked_of-mapped (string s) = refl
  cooked_of-mapped p = refl

  pub template_string_code-mapped : (ps : Members) → template_string_code (mapped_members f ps) ≡ mapped_code f (template_string_code ps)
  template_string_code-mapped ps = rw (word_at-mapped f 0 ps, at-mapped f 1 ps, cooked_of-mapped (at 1 ps), flag_at-mapped f 2 ps) refl

  template_strings-mapped : (cs : Codes) → template_strings (mapped_codes f cs) ≡ template_strings cs
  template_strings-mapped done = refl
  template_strings-mapped (and (template_string s) cs) = ap (λ ss. s ∷ ss) (template_strings-mapped cs)
  template_strings-mapped (and c cs) = template_strings-mapped cs

  pub template_code-mapped : (m : ℕ) (ps : Members) → template_code (f m) (mapped_members f ps) ≡ mapped_code f (template_code m ps)
  template_code-mapped m ps = rw (codes_at-mapped f 0 ps, template_strings-mapped (codes_of (at 0 ps)), codes_at-mapped f 1 ps) refl

  spelling_of-mapped : (p : Member) → spelling_of (mapped_member f p) ≡ spelling_of p
  spelling_of-mapped (code (spelled s)) = refl
  spelling_of-mapped p = refl

  pub spelling_at-mapped : (i : ℕ) (ps : Members) → spelling_of (at i (mapped_members f ps)) ≡ spelling_of (at i ps)
  spelling_at-mapped i ps = ap spelling_of (at-mapped f i ps) ∙ spelling_of-mapped (at i ps)

  -- ---- members

  pub key_code-mapped : (computed : Bool) (k : Code) → key_code computed (mapped_code f k) ≡ mapped_code f (key_code computed k)
  key_code-mapped false (spelled s) = refl
  key_code-mapped computed k = refl

  super_member_at-mapped : (m : ℕ) (home : Option Home) (k : Code) (this : Value) → super_member_at (f m) (mapped_option (mapped_home f) home) (mapped_code f k) (mapped_value f this) ≡ mapped_code f (super_member_at m home k this)
  super_member_at-mapped m None k this = refl
  super_member_at-mapped m (Some home) k this = refl

  checked_object-mapped : (b : Bool) (o : Code) → checked_object b (mapped_code f o) ≡ mapped_code f (checked_object b o)
  checked_object-mapped true o = refl
  checked_object-mapped false o = refl

  static_test-mapped : (x : PrivateReference) (d : Option ℕ) → static_test (mapped_private_reference f x) (mapped_option f d) ≡ mapped_test f (static_test x d)
  static_test-mapped x (Some d) = refl
  static_test-mapped x None = field_test-mapped f x x.writes

  -- ---- what is written

  pub target_of-mapped : (c : Code) → target_of (mapped_code f c) ≡ mapped_target f (target_of c)
  target_of-mapped (name m s kind) = refl
  target_of-mapped (from_member e) = target_of-mapped e
  target_of-mapped c = refl

  pub target_at-mapped : (i : ℕ) (ps : Members) → target_of (the_code (at i (mapped_members f ps))) ≡ mapped_target f (target_of (the_code (at i ps)))
  target_at-mapped i ps = ap target_of (the_code_at-mapped i ps) ∙ target_of-mapped (the_code (at i ps))

  pub update_code-mapped : (m : ℕ) (ps : Members) → update_code (f m) (mapped_members f ps) ≡ mapped_code f (update_code m ps)
  update_code-mapped m ps = rw (word_at-mapped f 0 ps, flag_at-mapped f 2 ps, target_at-mapped 1 ps) refl

  -- ---- operators

  void_code-mapped : (e whole : Code) → void_code (mapped_code f e) (mapped_code f whole) ≡ mapped_code f (void_code e whole)
  void_code-mapped (value (ConstantOf c)) whole = refl
  void_code-mapped e whole = refl

  deleted-mapped : (m : ℕ) (e : Code) → deleted (f m) (mapped_code f e) ≡ mapped_code f (deleted m e)
  deleted-mapped m (member k o key) = refl
  deleted-mapped m (super_member k home key this) = refl
  deleted-mapped m (tested o again e) = ap (tested (mapped_code f o) (mapped_codes f again)) (deleted-mapped m e)
  deleted-mapped m (from_member e) = refl
  deleted-mapped m e = refl

  pub ended_alone-mapped : (e : Code) → ended_alone (mapped_code f e) ≡ mapped_code f (ended_alone e)
  ended_alone-mapped (bound g o) = refl
  ended_alone-mapped (tested o again e) = refl
  ended_alone-mapped e = refl

  delete_code-mapped : (m : ℕ) (e whole : Code) → delete_code (f m) (mapped_code f e) (mapped_code f whole) ≡ mapped_code f (delete_code m e whole)
  delete_code-mapped m (member k o key) whole = refl
  delete_code-mapped m (super_member k home key this) whole = refl
  delete_code-mapped m (chain k e) whole = ap (chain (f m)) (deleted-mapped m e)
  delete_code-mapped m (from_member e) whole = refl
  delete_code-mapped m (value (ThisOf k)) whole = refl
  delete_code-mapped m (value (ClassOf n)) whole = refl
  delete_code-mapped m e whole = refl

  abbrev unary_of : ℕ → String → Code → Code → Code
  unary_of m operator e whole = cond (bytes_eq operator (codes "void")) (void_code e whole) (cond (bytes_eq operator (codes "delete")) (delete_code m e whole) whole)

  unary_of-mapped : (m : ℕ) (operator : String) (e whole : Code) → unary_of (f m) operator (mapped_code f e) (mapped_code f whole) ≡ mapped_code f (unary_of m operator e whole)
  unary_of-mapped m operator e whole =
      code-cond f (bytes_eq operator (codes "void")) (void_code e whole) (cond (bytes_eq operator (codes "delete")) (delete_code m e whole) whole) (void_code-mapped e whole)
      (code-cond f (bytes_eq operator (codes "delete")) (delete_code m e whole) whole (delete_code-mapped m e whole) refl)

  is_free_name-mapped : (e : Code) → is_free_name (mapped_code f e) ≡ is_free_name e
  is_free_name-mapped (name m s (Changing (Free spelling))) = refl
  is_free_name-mapped e = refl

  is_any_name-mapped : (e : Code) → is_any_name (mapped_code f e) ≡ is_any_name e
  is_any_name-mapped (name m s kind) = refl
  is_any_name-mapped (value (ArgumentsOf k)) = refl
  is_any_name-mapped e = refl

  unary_operation-mapped : (m : ℕ) (ps : Members) (e : Code) → unary_operation (f m) (mapped_members f ps) (mapped_code f e) ≡ mapped_code f (unary_operation m ps e)
  unary_operation-mapped m ps e = rw (word_at-mapped f 0 ps, is_free_name-mapped e, is_any_name-mapped e, details-mapped f ps, operands-mapped f ps) refl

  pub unary_code-mapped : (m : ℕ) (ps : Members) → unary_code (f m) (mapped_members f ps) ≡ mapped_code f (unary_code m ps)
  unary_code-mapped m ps =
      rw (the_code_at-mapped 1 ps, unary_operation-mapped m ps (the_code (at 1 ps)), word_at-mapped f 0 ps)
      (unary_of-mapped m (word_of (at 0 ps)) (the_code (at 1 ps)) (unary_operation m ps (the_code (at 1 ps))))

  arguments_of-mapped : (writes : Bool) (m : ℕ) (s : String) (v : Value) → arguments_of writes (f m) s (mapped_value f v) ≡ mapped_code f (arguments_of writes m s v)
  arguments_of-mapped true m s (ArgumentsOf k) = refl
  arguments_of-mapped false m s (ArgumentsOf k) = refl
  arguments_of-mapped true m s v = refl
  arguments_of-mapped false m s v = refl

  pub chain_code-mapped : (m : ℕ) (ps : Members) → chain_code (f m) (mapped_members f ps) ≡ mapped_code f (chain_code m ps)
  chain_code-mapped m ps = rw (the_code_at-mapped 0 ps) refl

  -- ---- calls

  pub callee_of-mapped : (c : Code) → callee_of (mapped_code f c) ≡ mapped_callee f (callee_of c)
  callee_of-mapped (chain m e) = ap (on_chain (f m)) (callee_of-mapped e)
  callee_of-mapped (tested o again e) = ap (behind_test (mapped_code f o) (mapped_codes f again)) (callee_of-mapped e)
  callee_of-mapped (member m o k) = refl
  callee_of-mapped (from_member e) = refl
  callee_of-mapped c = refl

  checked_callee-mapped : (b : Bool) (g : Callee) → checked_callee b (mapped_callee f g) ≡ mapped_callee f (checked_callee b g)
  checked_callee-mapped true (with_receiver g o) = refl
  checked_callee-mapped true g = refl
  checked_callee-mapped false g = refl

  pub new_code-mapped : (m : ℕ) (ps : Members) → new_code (f m) (mapped_members f ps) ≡ mapped_code f (new_code m ps)
  new_code-mapped m ps = rw (the_code_at-mapped 0 ps, codes_at-mapped f 1 ps) refl

  tag_of-mapped : (m : ℕ) (g e : Code) → tag_of (f m) (mapped_code f g) (mapped_code f e) ≡ mapped_code f (tag_of m g e)
  tag_of-mapped m g (template k strings es) = ap (λ x. tag (f m) x strings (mapped_codes f es)) (callee_of-mapped g)
  tag_of-mapped m g e = refl

  pub tag_code-mapped : (m : ℕ) (ps : Members) → tag_code (f m) (mapped_members f ps) ≡ mapped_code f (tag_code m ps)
  tag_code-mapped m ps = rw (the_code_at-mapped 0 ps, the_code_at-mapped 1 ps) (tag_of-mapped m (the_code (at 0 ps)) (the_code (at 1 ps)))

  -- ---- objects

  is_prototype-mapped : (s : String) (ps : Members) → is_prototype s (mapped_members f ps) ≡ is_prototype s ps
  is_prototype-mapped s ps = rw (word_at-mapped f 2 ps, flag_at-mapped f 3 ps, flag_at-mapped f 4 ps) refl

  pub key_details-mapped : (k : Code) (ps : Members) → key_details (mapped_code f k) (mapped_members f ps) ≡ key_details k ps
  key_details-mapped (spelled s) ps = rw (is_prototype-mapped s ps) refl
  key_details-mapped (value (ConstantOf (StringOf s))) ps = rw (is_prototype-mapped s ps) refl
  key_details-mapped (value (ConstantOf k)) ps = refl
  key_details-mapped k ps = refl

  is_numeric-mapped : (k : Code) → is_numeric (mapped_code f k) ≡ is_numeric k
  is_numeric-mapped (value (ConstantOf (NumberOf raw))) = refl
  is_numeric-mapped (value (ConstantOf (BigIntOf s))) = refl
  is_numeric-mapped k = refl

  pub property_code-mapped : (ps : Members) → property_code (mapped_members f ps) ≡ mapped_code f (property_code ps)
  property_code-mapped ps =
      rw (the_code_at-mapped 0 ps, the_code_at-mapped 1 ps, word_at-mapped f 2 ps, flag_at-mapped f 3 ps, flag_at-mapped f 5 ps, key_details-mapped (the_code (at 0 ps)) ps, is_numeric-mapped (the_code (at 0 ps)))
      (cond-code f (flag_of (at 5 ps) || is_numeric (the_code (at 0 ps))) (piece (Operand ∷ Operand ∷ Spelled (word_of (at 2 ps)) ∷ Flag (flag_of (at 3 ps)) ∷ []) (and (key_of (the_code (at 0 ps))) (and (the_code (at 1 ps)) done))) (piece (key_details (the_code (at 0 ps)) ps ++ Operand ∷ Spelled (word_of (at 2 ps)) ∷ Flag (flag_of (at 3 ps)) ∷ []) (and (the_code (at 1 ps)) done)))

module _ {first : ℕ} {f : ℕ → ℕ} (r : Renames first f) (c : Context) (e : c.first_new ≡ first) where
  abbrev there : Context
  there = mapped_context f c

  -- ---- names

  static_method-mapped : (x : Option PrivateMember) (kind : NameKind) → static_method (mapped_option (mapped_private f) x) (mapped_name_kind f kind) ≡ mapped_name_kind f (static_method x kind)
  static_method-mapped None kind = refl
  static_method-mapped (Some x) kind = cond-mapped (mapped_name_kind f) (x.is_static && is_method_kind x.kind) (StaticMethod x.number x.class) kind refl refl

  name_or_arguments-mapped : (m : ℕ) (s : String) (kind : NameKind) → name_or_arguments there (f m) s (mapped_name_kind f kind) ≡ mapped_code f (name_or_arguments c m s kind)
  name_or_arguments-mapped m s (Changing (Free spelling)) = code-cond f (is_arguments s) (arguments_of c.writes_arguments m s c.arguments) (name m s (Changing (Free spelling))) (arguments_of-mapped f c.writes_arguments m s c.arguments) refl
  name_or_arguments-mapped m s (Generated (GeneratedKind.Method d)) = ap (λ x. name (f m) s x) (ap (λ x. static_method x (mapped_name_kind f (Generated (GeneratedKind.Method d)))) (member_at-mapped r d.0 c.members) ∙ static_method-mapped (member_at d.0 c.members) (Generated (GeneratedKind.Method d)))
  name_or_arguments-mapped m s kind = refl

  pub name_code-mapped : (m : ℕ) (s : String) → name_code there (f m) s ≡ mapped_code f (name_code c m s)
  name_code-mapped m s = ap (name_or_arguments there (f m) s) (name_kind-mapped r c e s) ∙ name_or_arguments-mapped m s (name_kind c s)

  pub meta_code-mapped : (m : ℕ) (ps : Members) → meta_code there (f m) (mapped_members f ps) ≡ mapped_code f (meta_code c m ps)
  meta_code-mapped m ps =
      let target : Code = cond (new_here c m) no_rule (value c.new_target) in
      rw (spelling_at-mapped f 0 ps, operation_of-mapped f Kind.MetaProperty m ps, new_here-mapped r c e m)
      (code-cond f (bytes_eq (spelling_of (at 0 ps)) (codes "new")) target (operation_of Kind.MetaProperty m ps) (cond-code f (new_here c m) no_rule (value c.new_target)) refl)

  pub private_name_code-mapped : (d : ℕ) (s : String) → private_name_code there (f d) s ≡ mapped_code f (private_name_code c d s)
  private_name_code-mapped d s = ap (private_name (f d) s) (private_reference-mapped r s c.privates)

  -- ---- members

  member_on-mapped : (m : ℕ) (optional : Bool) (o k : Code) → member_on there (f m) optional (mapped_code f o) (mapped_code f k) ≡ mapped_code f (member_on c m optional o k)
  member_on-mapped m optional super k = super_member_at-mapped f m c.home k c.this
  member_on-mapped m optional o k = ap (λ x. generated_member there (f m) (mapped_code f o) (mapped_code f k) (member (f m) x (mapped_code f k))) (checked_object-mapped f optional o) ∙ generated_member-mapped r c e m o k (member m (checked_object optional o) k)

  pub member_code-mapped : (m : ℕ) (ps : Members) → member_code there (f m) (mapped_members f ps) ≡ mapped_code f (member_code c m ps)
  member_code-mapped m ps =
      rw (flag_at-mapped f 2 ps, flag_at-mapped f 3 ps, the_code_at-mapped f 0 ps, the_code_at-mapped f 1 ps, key_code-mapped f (flag_of (at 2 ps)) (the_code (at 1 ps)), member_on-mapped m (flag_of (at 3 ps)) (the_code (at 0 ps)) (key_code (flag_of (at 2 ps)) (the_code (at 1 ps))))
      (helper_member-mapped r c e (flag_of (at 2 ps)) (the_code (at 0 ps)) (the_code (at 1 ps)) (member_on c m (flag_of (at 3 ps)) (the_code (at 0 ps)) (key_code (flag_of (at 2 ps)) (the_code (at 1 ps)))))

  names_class-mapped : (x : PrivateReference) (n : Option ℕ) → names_class (mapped_private_reference f x) (mapped_option f n) ≡ names_class x n
  names_class-mapped x None = refl
  names_class-mapped x (Some n) = r.apart x.class n

  private_on-mapped : (m : ℕ) (s : String) (x : Option PrivateReference) (o checked_o : Code) → private_on there (f m) s (mapped_option (mapped_private_reference f) x) (mapped_code f o) (mapped_code f checked_o) ≡ mapped_code f (private_on c m s x o checked_o)
  private_on-mapped m s None o checked_o = refl
  private_on-mapped m s (Some x) o checked_o =
      let is_meant : Bool = names_class x (class_named o) in
      rw (is_generated_private-mapped r s x.class c.ledger, class_named-mapped f o, names_class-mapped x (class_named o))
      (code-cond f (is_made_private c s x) (cond is_meant (private_value s) no_rule) (private_member m x checked_o) (cond-code f is_meant (private_value s) no_rule) refl)

  private_field_of-mapped : (m : ℕ) (optional : Bool) (o k : Code) → private_field_of there (f m) optional (mapped_code f o) (mapped_code f k) ≡ mapped_code f (private_field_of c m optional o k)
  private_field_of-mapped m optional super k = refl
  private_field_of-mapped m optional o (private_name d s x) = ap (private_on there (f m) s (mapped_option (mapped_private_reference f) x) (mapped_code f o)) (checked_object-mapped f optional o) ∙ private_on-mapped m s x o (checked_object optional o)
  private_field_of-mapped m optional o k = refl

  pub private_field_code-mapped : (m : ℕ) (ps : Members) → private_field_code there (f m) (mapped_members f ps) ≡ mapped_code f (private_field_code c m ps)
  private_field_code-mapped m ps = rw (flag_at-mapped f 3 ps, the_code_at-mapped f 0 ps, the_code_at-mapped f 1 ps) (private_field_of-mapped m (flag_of (at 3 ps)) (the_code (at 0 ps)) (the_code (at 1 ps)))

  test_in-mapped : (x : PrivateReference) → test_in there (mapped_private_reference f x) ≡ mapped_test f (test_in c x)
  test_in-mapped x = cond-mapped (mapped_test f) (x.is_static && not (lowers_fields c.options)) (static_test x x.reads) (test_of x) (static_test-mapped f x x.reads) (test_of-mapped f x)

  private_in_of-mapped : (m : ℕ) (k o : Code) → private_in_of there (f m) (mapped_code f k) (mapped_code f o) ≡ mapped_code f (private_in_of c m k o)
  private_in_of-mapped m (private_name d s (Some x)) o =
      rw (is_generated_private-mapped r s x.class c.ledger, test_in-mapped x)
      (cond-code f (is_made_private c s x) no_rule (private_in m (test_in c x) o))
  private_in_of-mapped m k o = refl

  pub private_in_code-mapped : (m : ℕ) (ps : Members) → private_in_code there (f m) (mapped_members f ps) ≡ mapped_code f (private_in_code c m ps)
  private_in_code-mapped m ps = rw (the_code_at-mapped f 1 ps, the_code_at-mapped f 2 ps) (private_in_of-mapped m (the_code (at 1 ps)) (the_code (at 2 ps)))

  -- ---- assignments and operators

  abbrev assignment_of : Context → ℕ → String → Target → Code → Code
  assignment_of x m operator to right = cond (bytes_eq operator (codes "=")) (generated_assignment x m to right) (cond (is_logical operator) (logical_assign m (without_sign operator) to right) (compound m (without_sign operator) to right))

  assignment_of-mapped : (m : ℕ) (operator : String) (to : Target) (right : Code) → assignment_of there (f m) operator (mapped_target f to) (mapped_code f right) ≡ mapped_code f (assignment_of c m operator to right)
  assignment_of-mapped m operator to right =
      code-cond f (bytes_eq operator (codes "=")) (generated_assignment c m to right) (cond (is_logical operator) (logical_assign m (without_sign operator) to right) (compound m (without_sign operator) to right)) (generated_assignment-mapped r c e m to right)
      (cond-code f (is_logical operator) (logical_assign m (without_sign operator) to right) (compound m (without_sign operator) to right))

  pub assignment_code-mapped : (m : ℕ) (ps : Members) → assignment_code there (f m) (mapped_members f ps) ≡ mapped_code f (assignment_code c m ps)
  assignment_code-mapped m ps =
      rw (word_at-mapped f 0 ps, target_at-mapped f 1 ps, the_code_at-mapped f 2 ps)
      (assignment_of-mapped m (word_of (at 0 ps)) (target_of (the_code (at 1 ps))) (the_code (at 2 ps)))

  pub binary_code-mapped : (m : ℕ) (ps : Members) → binary_code there (f m) (mapped_members f ps) ≡ mapped_code f (binary_code c m ps)
  binary_code-mapped m ps =
      rw (word_at-mapped f 0 ps, the_code_at-mapped f 1 ps, the_code_at-mapped f 2 ps, operation_of-mapped f Kind.BinaryExpression m ps)
      (generated_binary-mapped r c e m (word_of (at 0 ps)) (the_code (at 1 ps)) (the_code (at 2 ps)) (operation_of Kind.BinaryExpression m ps))

  quiet_logical-mapped : (m : ℕ) (operator : String) (l x whole : Code) → quiet_logical there (f m) operator (mapped_code f l) (mapped_code f x) (mapped_code f whole) ≡ mapped_code f (quiet_logical c m operator l x whole)
  quiet_logical-mapped m operator (value (ResultOf k)) (from_call (value v)) whole = rw (here r c e m, here r c e k) (cond-code f (is_new c.first_new m && (is_new c.first_new k && bytes_eq operator (codes "&&"))) (value (ResultOf m)) whole)
  quiet_logical-mapped m operator (value (ResultOf k)) (value (ResultOf j)) whole = rw (here r c e m, here r c e k, here r c e j) (cond-code f (is_new c.first_new j && (is_new c.first_new m && (is_new c.first_new k && bytes_eq operator (codes "&&")))) (value (ResultOf m)) whole)
  quiet_logical-mapped m operator l x whole = refl

  pub logical_code-mapped : (m : ℕ) (ps : Members) → logical_code there (f m) (mapped_members f ps) ≡ mapped_code f (logical_code c m ps)
  logical_code-mapped m ps =
      rw (word_at-mapped f 0 ps, the_code_at-mapped f 1 ps, the_code_at-mapped f 2 ps)
      (quiet_logical-mapped m (word_of (at 0 ps)) (the_code (at 1 ps)) (the_code (at 2 ps)) (logical m (word_of (at 0 ps)) (the_code (at 1 ps)) (the_code (at 2 ps))))

  -- ---- chains

  spliced-mapped : (q : Code) → spliced there (mapped_code f q) ≡ mapped_code f (spliced c q)
  spliced-mapped (chain m q) = rw (here r c e m) (cond-code f (is_new c.first_new m) q (chain m q))
  spliced-mapped q = refl

  deleted_as-mapped : (m : ℕ) (q : Code) → deleted_as there (f m) (mapped_code f q) ≡ mapped_code f (deleted_as c m q)
  deleted_as-mapped m (operation k Delete es held) = rw (here r c e k) (cond-code f (is_new c.first_new k) (operation m Delete es held) no_rule)
  deleted_as-mapped m (tested o again q) = ap (tested (mapped_code f o) (mapped_codes f again)) (deleted_as-mapped m q)
  deleted_as-mapped m q = refl

  chain_or-mapped : (m : ℕ) (test middle q whole : Code) → chain_or there (f m) (mapped_code f test) (mapped_code f middle) (mapped_code f q) (mapped_code f whole) ≡ mapped_code f (chain_or c m test middle q whole)
  chain_or-mapped m test (value Undefined) q whole = rw (tested_object-mapped f test, again_of-mapped f test, spliced-mapped q, ended_alone-mapped f (spliced c q)) refl
  chain_or-mapped m test (value (ConstantOf (BooleanOf true))) q whole = rw (tested_object-mapped f test, again_of-mapped f test, spliced-mapped q, deleted_as-mapped m (spliced c q)) refl
  chain_or-mapped m test middle q whole = refl

  abbrev conditional_of : Context → ℕ → Code → Code → Code → Code → Code
  conditional_of x m test middle q whole = cond (is_undefined_test x test) (chain_or x m test middle q whole) whole

  conditional_of-mapped : (m : ℕ) (test middle q whole : Code) → conditional_of there (f m) (mapped_code f test) (mapped_code f middle) (mapped_code f q) (mapped_code f whole) ≡ mapped_code f (conditional_of c m test middle q whole)
  conditional_of-mapped m test middle q whole = rw (is_undefined_test-mapped r c e test) (code-cond f (is_undefined_test c test) (chain_or c m test middle q whole) whole (chain_or-mapped m test middle q whole) refl)

  pub conditional_code-mapped : (m : ℕ) (ps : Members) → conditional_code there (f m) (mapped_members f ps) ≡ mapped_code f (conditional_code c m ps)
  conditional_code-mapped m ps =
      rw (details-mapped f ps, codes_at-mapped f 0 ps, the_code_at-mapped f 0 ps, the_code_at-mapped f 1 ps, the_code_at-mapped f 2 ps)
      (conditional_of-mapped m (the_code (at 0 ps)) (the_code (at 1 ps)) (the_code (at 2 ps)) (operation m (OfKind Kind.ConditionalExpression (details ps)) (codes_of (at 0 ps)) (and (the_code (at 1 ps)) (and (the_code (at 2 ps)) done))))

  -- ---- calls

  pub call_code-mapped : (m : ℕ) (ps : Members) → call_code there (f m) (mapped_members f ps) ≡ mapped_code f (call_code c m ps)
  call_code-mapped m ps =
      rw (the_code_at-mapped f 0 ps, codes_at-mapped f 1 ps, flag_at-mapped f 2 ps, callee_of-mapped f (the_code (at 0 ps)), checked_callee-mapped f (flag_of (at 2 ps)) (callee_of (the_code (at 0 ps))))
      (code-cond f (flag_of (at 2 ps)) (call m (checked_callee (flag_of (at 2 ps)) (callee_of (the_code (at 0 ps)))) (codes_of (at 1 ps))) (generated_call c m (the_code (at 0 ps)) (codes_of (at 1 ps)) (call m (checked_callee (flag_of (at 2 ps)) (callee_of (the_code (at 0 ps)))) (codes_of (at 1 ps)))) refl
      (generated_call-mapped r c e m (the_code (at 0 ps)) (codes_of (at 1 ps)) (call m (checked_callee (flag_of (at 2 ps)) (callee_of (the_code (at 0 ps)))) (codes_of (at 1 ps)))))
