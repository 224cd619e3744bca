-- Chains that became conditionals, whose parts have holes.
use Rattle.std.specs.Prelude.{◌≡◌, refl, ℕ, Bool, true, false, cond, ◌&&◌, codes, bytes_eq}
use Rattle.std.proofs.Common.{◌∙◌, ap, ap₂}
use Rattle.es_base.specs.Numbered.{is_new}
use Rattle.es_base.specs.declared.kind.Kind.{Kind}
use Rattle.es_steps.specs.Code.{Code, no_rule, value, operation, logical, chain, tested, initializers, done, and}
use Rattle.es_steps.specs.Context.{Context, new_here}
use Rattle.es_steps.specs.Events.{OfKind, Delete}
use Rattle.es_steps.specs.Expressions.{the_code, spliced, deleted_as, chain_or, conditional_code}
use Rattle.es_steps.specs.GeneratedForms.{is_null, is_undefined, is_comparison, is_null_test, is_void_test, is_undefined_test, left_of, tested_object, again_of}
use Rattle.es_steps.specs.Members.{Members, at, codes_of, details}
use Rattle.es_steps.specs.Values.{String, BooleanOf, ConstantOf, Undefined}
use Rattle.es_replacement.proofs.Environments.{left, right, untrue, neither}
use Rattle.es_replacement.proofs.ExpressionsFilled.{ended_alone-filled}
use Rattle.es_replacement.proofs.FormsFilled.{cond-code, is_null-filled, is_undefined-filled}
use Rattle.es_replacement.proofs.MembersFilled.{filled_members, details-filled, codes_at-filled, the_code_at-filled}
use Rattle.es_replacement.specs.Holes.{filled, filled_all, is_hole}
use Rattle.es_replacement.specs.Unasked.{is_unasked}

and_false : (b : Bool) → (b && false) ≡ false
and_false true = refl
and_false false = refl

module _ (first : ℕ) where
  null_test-unasked : (s : String) (q : Code) → is_unasked first q ≡ true → is_null_test s q ≡ false
  null_test-unasked s (operation m (OfKind Kind.BinaryExpression ds) (and a (and n done)) done) h = ap (λ b. is_comparison s ds && b) (neither (is_null n) (is_undefined n) h).0 ∙ and_false (is_comparison s ds)
  null_test-unasked s q h = refl

  void_test-unasked : (q : Code) → is_unasked first q ≡ true → is_void_test q ≡ false
  void_test-unasked (operation m (OfKind Kind.BinaryExpression ds) (and a (and n done)) done) h = ap (λ b. is_comparison (codes "===") ds && b) (neither (is_null n) (is_undefined n) h).1 ∙ and_false (is_comparison (codes "===") ds)
  void_test-unasked q h = refl

module _ (c : Context) (fill : ℕ → Code) (unasked : (n : ℕ) → is_unasked c.first_new (fill n) ≡ true) where
  is_null_test-filled : (s : String) (q : Code) → is_null_test s (filled fill q) ≡ is_null_test s q
  is_null_test-filled s (operation m (OfKind Kind.BinaryExpression ds) (and a (and n done)) done) = ap (λ b. is_comparison s ds && b) (is_null-filled c.first_new fill unasked n)
  is_null_test-filled s (initializers n) = null_test-unasked c.first_new s (fill n) (unasked n)
  is_null_test-filled s q = refl

  is_void_test-filled : (q : Code) → is_void_test (filled fill q) ≡ is_void_test q
  is_void_test-filled (operation m (OfKind Kind.BinaryExpression ds) (and a (and n done)) done) = ap (λ b. is_comparison (codes "===") ds && b) (is_undefined-filled c.first_new fill unasked n)
  is_void_test-filled (initializers n) = void_test-unasked c.first_new (fill n) (unasked n)
  is_void_test-filled q = refl

  test-unasked : (q : Code) → is_unasked c.first_new q ≡ true → is_undefined_test c q ≡ false
  test-unasked (logical m operator l r) h = ap (λ b. new_here c m && (bytes_eq operator (codes "||") && (b && is_void_test r))) (untrue (is_null_test (codes "===") l) h) ∙ ap (λ b. new_here c m && b) (and_false (bytes_eq operator (codes "||"))) ∙ and_false (new_here c m)
  test-unasked (operation m op es held) h = ap (λ b. (new_here c m && c.options.assumptions.no_document_all) && b) (null_test-unasked c.first_new (codes "==") (operation m op es held) h) ∙ and_false (new_here c m && c.options.assumptions.no_document_all)
  test-unasked q h = refl

  is_undefined_test-filled : (q : Code) → is_undefined_test c (filled fill q) ≡ is_undefined_test c q
  is_undefined_test-filled (logical m operator l r) = ap₂ (λ a b. new_here c m && (bytes_eq operator (codes "||") && (a && b))) (is_null_test-filled (codes "===") l) (is_void_test-filled r)
  is_undefined_test-filled (operation m op es held) = ap (λ b. (new_here c m && c.options.assumptions.no_document_all) && b) (is_null_test-filled (codes "==") (operation m op es held))
  is_undefined_test-filled (initializers n) = test-unasked (fill n) (unasked n)
  is_undefined_test-filled q = refl

  -- ---- what is tested

  left_of-filled : (q : Code) → is_hole q ≡ false → left_of (filled fill q) ≡ filled fill (left_of q)
  left_of-filled (operation m op (and a es) held) h = refl
  left_of-filled (operation m op done held) h = refl
  left_of-filled (initializers n) h = absurd (cc)
  left_of-filled q h = refl

  null_test-stands : (s : String) (q : Code) → is_null_test s q ≡ true → is_hole q ≡ false
  null_test-stands s (initializers n) h = absurd (cc)
  null_test-stands s q h = refl

  void_test-stands : (q : Code) → is_void_test q ≡ true → is_hole q ≡ false
  void_test-stands (initializers n) h = absurd (cc)
  void_test-stands q h = refl

  tested_object-filled : (q : Code) → is_undefined_test c q ≡ true → tested_object (filled fill q) ≡ filled fill (tested_object q)
  tested_object-filled (logical m operator l r) h =
      let tests : Bool = is_null_test (codes "===") l && is_void_test r in
      left_of-filled l (null_test-stands (codes "===") l (left (is_null_test (codes "===") l) (is_void_test r) (right (bytes_eq operator (codes "||")) tests (right (new_here c m) (bytes_eq operator (codes "||") && tests) h))))
  tested_object-filled (operation m op es held) h = left_of-filled (operation m op es held) refl
  tested_object-filled q h = absurd (cc)

  again_of-filled : (q : Code) → is_undefined_test c q ≡ true → again_of (filled fill q) ≡ filled_all fill (again_of q)
  again_of-filled (logical m operator l r) h =
      let tests : Bool = is_null_test (codes "===") l && is_void_test r in
      ap (λ x. and x done) (left_of-filled r (void_test-stands r (right (is_null_test (codes "===") l) (is_void_test r) (right (bytes_eq operator (codes "||")) tests (right (new_here c m) (bytes_eq operator (codes "||") && tests) h)))))
  again_of-filled (operation m op es held) h = refl
  again_of-filled q h = absurd (cc)

  -- ---- chains

  spliced-unasked : (q : Code) → is_unasked c.first_new q ≡ true → spliced c q ≡ q
  spliced-unasked (chain m e) h = ap (λ b. cond b e (chain m e)) (untrue (is_new c.first_new m) h)
  spliced-unasked q h = refl

  spliced-filled : (q : Code) → spliced c (filled fill q) ≡ filled fill (spliced c q)
  spliced-filled (chain m q) = cond-code c.first_new fill unasked (new_here c m) q (chain m q)
  spliced-filled (initializers n) = spliced-unasked (fill n) (unasked n)
  spliced-filled q = refl

  deleted_as-unasked : (m : ℕ) (q : Code) → is_unasked c.first_new q ≡ true → deleted_as c m q ≡ no_rule
  deleted_as-unasked m (operation k Delete es held) h = absurd (cc)
  deleted_as-unasked m (tested o again q) h = absurd (cc)
  deleted_as-unasked m q h = refl

  deleted_as-filled : (m : ℕ) (q : Code) → deleted_as c m (filled fill q) ≡ filled fill (deleted_as c m q)
  deleted_as-filled m (operation k Delete es held) = cond-code c.first_new fill unasked (new_here c k) (operation m Delete es held) no_rule
  deleted_as-filled m (tested o again q) = ap (tested (filled fill o) (filled_all fill again)) (deleted_as-filled m q)
  deleted_as-filled m (initializers n) = deleted_as-unasked m (fill n) (unasked n)
  deleted_as-filled m q = refl

  middle-unasked : (m : ℕ) (test q e whole : Code) → is_unasked c.first_new q ≡ true → chain_or c m test q e whole ≡ whole
  middle-unasked m test (value v) e whole h = absurd (cc)
  middle-unasked m test q e whole h = refl

  chain_or-filled : (m : ℕ) (test middle q whole : Code) → is_undefined_test c test ≡ true → chain_or c m (filled fill test) (filled fill middle) (filled fill q) (filled fill whole) ≡ filled fill (chain_or c m test middle q whole)
  chain_or-filled m test (value Undefined) q whole h = rw (tested_object-filled test h, again_of-filled test h, spliced-filled q, ended_alone-filled c.first_new fill unasked (spliced c q)) refl
  chain_or-filled m test (value (ConstantOf (BooleanOf true))) q whole h = rw (tested_object-filled test h, again_of-filled test h, spliced-filled q, deleted_as-filled m (spliced c q)) refl
  chain_or-filled m test (initializers n) q whole h = middle-unasked m (filled fill test) (fill n) (filled fill q) (filled fill whole) (unasked n)
  chain_or-filled m test middle q whole h = refl

  abbrev conditional_of : ℕ → Code → Code → Code → Code → Code
  conditional_of m test middle q whole = cond (is_undefined_test c test) (chain_or c m test middle q whole) whole

  conditional_of-filled : (m : ℕ) (test middle q whole : Code) → conditional_of m (filled fill test) (filled fill middle) (filled fill q) (filled fill whole) ≡ filled fill (conditional_of m test middle q whole)
  conditional_of-filled m test middle q whole = ap (λ b. cond b (chain_or c m (filled fill test) (filled fill middle) (filled fill q) (filled fill whole)) (filled fill whole)) (is_undefined_test-filled test) ∙ by (is_undefined_test c test) refl
    where
      by : (b : Bool) → is_undefined_test c test ≡ b → cond b (chain_or c m (filled fill test) (filled fill middle) (filled fill q) (filled fill whole)) (filled fill whole) ≡ filled fill (cond b (chain_or c m test middle q whole) whole)
      by true h = chain_or-filled m test middle q whole h
      by false h = refl

  pub conditional_code-filled : (m : ℕ) (ps : Members) → conditional_code c m (filled_members fill ps) ≡ filled fill (conditional_code c m ps)
  conditional_code-filled m ps =
      rw (details-filled c.first_new fill unasked ps, codes_at-filled fill 0 ps, the_code_at-filled fill 0 ps, the_code_at-filled fill 1 ps, the_code_at-filled fill 2 ps)
      (conditional_of-filled m (the_code (at 0 ps)) (the_code (at 1 ps)) (the_code (at 2 ps)) (operation m (OfKind Kind.ConditionalExpression (details ps)) (codes_of (at 0 ps)) (and (the_code (at 1 ps)) (and (the_code (at 2 ps)) done))))
