-- What is gathered from a code with one expression in its holes, and from the same with another.
use Rattle.std.specs.Prelude.{◌≡◌, refl, ℕ, List, [], ◌∷◌, ◌++◌, Bool, true, false, ◌||◌, not, bytes_eq}
use Rattle.std.proofs.Common.{◌∙◌, ap, ap₂, sym}
use Rattle.es_base.specs.declared.ledger.GeneratedKind.{GeneratedKind}
use Rattle.es_steps.specs.Code.{Code, Codes, Target, Callee, nothing, rest, member, private_member, super_member, private_in, assign, compound, logical, logical_assign, update, call, tag, construct, super_call, sequence, template, operation, piece, chain, short, tested, pattern, takes, steps, gives_to, export_default, function, new_function, new_return, class_code, field, private_field, method, private_method, constructor, static_block, generated_element, from_call, from_member, key_of, define, private_initialize, bound, setter, call_arrow, call_closure, initializers, give_function, give_class, to_name, to_member, to_private, to_super, to_setter, to_pattern, to_default, no_target, plain, on_member, on_private, on_super, with_receiver, checked, on_chain, behind_test, done, and}
use Rattle.es_steps.specs.Context.{Generated}
use Rattle.es_steps.specs.Entries.{is_string_among}
use Rattle.es_steps.specs.Meaning.{function_of, private_function_by, private_functions}
use Rattle.es_steps.specs.Opening.{gather, gather_target, gather_callee, gather_all, target_name, assigned_by, assigned_in, assigned_in_all}
use Rattle.es_steps.specs.Values.{String}
use Rattle.es_replacement.proofs.Admitted.{of_function}
use Rattle.es_replacement.proofs.Environments.{left, right}
use Rattle.es_replacement.specs.Holes.{filled, filled_target, filled_callee, filled_all, is_hole, admits, admits_target, admits_callee, admits_all}
use Rattle.es_replacement.specs.Replacing.{AssignsAlike}

-- a relation of lists that holds of two, one behind the other, where it holds of each
module _ {A : Type 0} (alike : List A → List A → Type 0) (no_item : alike [] []) (joins : (xs ys us vs : List A) → alike xs ys → alike us vs → alike (xs ++ us) (ys ++ vs))
    (names : List String) (plain_ones : Bool) (a b : ℕ → Code) (own : Code → List A) (at_hole : (n : ℕ) → alike (gather own (a n)) (gather own (b n))) (at_form : (c : Code) → is_hole c ≡ false → admits names plain_ones c ≡ true → alike (own (filled a c)) (own (filled b c))) where
  mutual
    pub gather-alike : (c : Code) → admits names plain_ones c ≡ true → alike (gather own (filled a c)) (gather own (filled b c))
    gather-alike (rest to) p = gather_target-alike to p
    gather-alike (member m o k) p = joins _ _ _ _ (gather-alike o (left _ _ p)) (gather-alike k (right _ _ p))
    gather-alike (private_member m x o) p = gather-alike o p
    gather-alike (super_member m home k this) p = gather-alike k p
    gather-alike (private_in m test o) p = gather-alike o p
    gather-alike (assign to e) p = joins _ _ _ _ (joins _ _ _ _ (at_form (assign to e) refl p) (gather_target-alike to (left _ _ p))) (gather-alike e (right _ _ p))
    gather-alike (compound m op to e) p = joins _ _ _ _ (joins _ _ _ _ (at_form (compound m op to e) refl p) (gather_target-alike to (left _ _ p))) (gather-alike e (right _ _ p))
    gather-alike (logical m op l q) p = joins _ _ _ _ (gather-alike l (left _ _ p)) (gather-alike q (right _ _ p))
    gather-alike (logical_assign m op to e) p = joins _ _ _ _ (joins _ _ _ _ (at_form (logical_assign m op to e) refl p) (gather_target-alike to (left _ _ p))) (gather-alike e (right _ _ p))
    gather-alike (update m op prefix to) p = joins _ _ _ _ (at_form (update m op prefix to) refl p) (gather_target-alike to p)
    gather-alike (call m f es) p = joins _ _ _ _ (gather_callee-alike f (left _ _ p)) (gather_all-alike es (right _ _ p))
    gather-alike (tag m f ts es) p = joins _ _ _ _ (gather_callee-alike f (left _ _ p)) (gather_all-alike es (right _ _ p))
    gather-alike (construct m f es) p = joins _ _ _ _ (gather-alike f (left _ _ p)) (gather_all-alike es (right _ _ p))
    gather-alike (super_call m n o es) p = gather_all-alike es p
    gather-alike (sequence es) p = gather_all-alike es p
    gather-alike (template m ts es) p = gather_all-alike es p
    gather-alike (operation m op es parts) p = joins _ _ _ _ (gather_all-alike es (left _ _ p)) (gather_all-alike parts (right _ _ p))
    gather-alike (piece ds es) p = gather_all-alike es p
    gather-alike (chain m e) p = gather-alike e p
    gather-alike (short e) p = gather-alike e p
    gather-alike (tested o again e) p = joins _ _ _ _ (joins _ _ _ _ (gather-alike o (left _ _ p)) (gather_all-alike again (left _ _ (right _ _ p)))) (gather-alike e (right _ _ (right _ _ p)))
    gather-alike (pattern m to) p = gather_target-alike to p
    gather-alike (takes m ds k to) p = joins _ _ _ _ (gather_all-alike k (left _ _ p)) (gather_target-alike to (right _ _ p))
    gather-alike (steps es) p = gather_all-alike es p
    gather-alike (gives_to m to) p = gather_target-alike to p
    gather-alike (export_default e) p = gather-alike e (right _ _ p)
    gather-alike (function f form own_name ps body) p = joins _ _ _ _ (gather_all-alike ps (left _ _ (right _ _ p))) (gather-alike body (right _ _ (right _ _ p)))
    gather-alike (new_function f form ps body) p = let q = of_function names plain_ones f form ps body p in joins _ _ _ _ (gather_all-alike ps q.parameters) (gather-alike body q.body)
    gather-alike (new_return es) p = gather_all-alike es p
    gather-alike (class_code n declared h es) p = joins _ _ _ _ (joins _ _ _ _ (at_form (class_code n declared h es) refl p) (gather_all-alike h (left _ _ (right _ _ p)))) (gather_all-alike es (right _ _ (right _ _ p)))
    gather-alike (field is_static form k e) p = joins _ _ _ _ (gather-alike k (left _ _ p)) (gather-alike e (right _ _ p))
    gather-alike (private_field is_static d e) p = gather-alike e p
    gather-alike (method is_static kind k f) p = joins _ _ _ _ (gather-alike k (left _ _ (right _ _ p))) (gather-alike f (right _ _ (right _ _ p)))
    gather-alike (private_method is_static d f) p = joins _ _ _ _ (at_form (private_method is_static d f) refl p) (gather-alike f (right _ _ p))
    gather-alike (constructor f) p = gather-alike f (right _ _ p)
    gather-alike (static_block es) p = gather_all-alike es p
    gather-alike (generated_element s e) p = joins _ _ _ _ (at_form (generated_element s e) refl p) (gather-alike e (right _ _ p))
    gather-alike (from_call e) p = gather-alike e p
    gather-alike (from_member e) p = gather-alike e p
    gather-alike (key_of e) p = gather-alike e p
    gather-alike (define m o k e) p = joins _ _ _ _ (gather-alike k (left _ _ p)) (gather-alike e (right _ _ p))
    gather-alike (private_initialize m d o e) p = gather-alike e p
    gather-alike (bound f o) p = joins _ _ _ _ (gather-alike f (left _ _ p)) (gather-alike o (right _ _ p))
    gather-alike (setter m d o) p = gather-alike o p
    gather-alike (call_arrow ss body es) p = joins _ _ _ _ (joins _ _ _ _ (at_form (call_arrow ss body es) refl p) (gather-alike body (left _ _ (right _ _ p)))) (gather_all-alike es (right _ _ (right _ _ p)))
    gather-alike (call_closure s es) p = gather_all-alike es p
    gather-alike (initializers n) p = at_hole n
    gather-alike (give_function m s g f) p = joins _ _ _ _ (at_form (give_function m s g f) refl p) (gather-alike f (right _ _ p))
    gather-alike (give_class n e) p = gather-alike e p
    gather-alike nothing p = no_item
    gather-alike c p = no_item

    pub gather_target-alike : (to : Target) → admits_target names plain_ones to ≡ true → alike (gather_target own (filled_target a to)) (gather_target own (filled_target b to))
    gather_target-alike (to_member m o k) p = joins _ _ _ _ (gather-alike o (left _ _ p)) (gather-alike k (right _ _ p))
    gather_target-alike (to_private m x o) p = gather-alike o p
    gather_target-alike (to_super m home k this) p = gather-alike k p
    gather_target-alike (to_setter m d o) p = gather-alike o p
    gather_target-alike (to_pattern m kind cs) p = gather_all-alike cs (right _ _ p)
    gather_target-alike (to_default m to e) p = joins _ _ _ _ (gather_target-alike to (left _ _ p)) (gather-alike e (right _ _ p))
    gather_target-alike no_target p = no_item
    gather_target-alike (to_name m s kind) p = no_item

    pub gather_callee-alike : (f : Callee) → admits_callee names plain_ones f ≡ true → alike (gather_callee own (filled_callee a f)) (gather_callee own (filled_callee b f))
    gather_callee-alike (plain e) p = gather-alike e p
    gather_callee-alike (on_member m o k) p = joins _ _ _ _ (gather-alike o (left _ _ p)) (gather-alike k (right _ _ p))
    gather_callee-alike (on_private m x o) p = gather-alike o p
    gather_callee-alike (on_super m home k this) p = gather-alike k p
    gather_callee-alike (with_receiver f o) p = joins _ _ _ _ (gather-alike f (left _ _ p)) (gather-alike o (right _ _ p))
    gather_callee-alike (checked f) p = gather_callee-alike f p
    gather_callee-alike (on_chain m f) p = gather_callee-alike f p
    gather_callee-alike (behind_test o again f) p = joins _ _ _ _ (joins _ _ _ _ (gather-alike o (left _ _ p)) (gather_all-alike again (left _ _ (right _ _ p)))) (gather_callee-alike f (right _ _ (right _ _ p)))

    pub gather_all-alike : (cs : Codes) → admits_all names plain_ones cs ≡ true → alike (gather_all own (filled_all a cs)) (gather_all own (filled_all b cs))
    gather_all-alike done p = no_item
    gather_all-alike (and c cs) p = joins _ _ _ _ (gather-alike c (left _ _ p)) (gather_all-alike cs (right _ _ p))

-- ---- names that are assigned

module _ (names : List String) (plain_ones : Bool) where
  among-append : (s : String) (ss ts : List String) → is_string_among s (ss ++ ts) ≡ (is_string_among s ss || is_string_among s ts)
  among-append s [] ts = refl
  among-append s (x ∷ ss) ts = rw (among-append s ss ts) (by (bytes_eq s x) (is_string_among s ss) (is_string_among s ts))
    where
      by : (b d e : Bool) → (b || (d || e)) ≡ ((b || d) || e)
      by true d e = refl
      by false d e = refl

  pub assigns-itself : (ss : List String) → AssignsAlike names ss ss
  assigns-itself ss s = refl

  pub assigns-joins : (xs ys us vs : List String) → AssignsAlike names xs ys → AssignsAlike names us vs → AssignsAlike names (xs ++ us) (ys ++ vs)
  assigns-joins xs ys us vs first last s = ap (λ b. is_string_among s names || b) (among-append s xs us) ∙ by (is_string_among s names) (is_string_among s xs) (is_string_among s ys) (is_string_among s us) (is_string_among s vs) (first s) (last s) ∙ ap (λ b. is_string_among s names || b) (sym (among-append s ys vs))
    where
      by : (n x y u v : Bool) → (n || x) ≡ (n || y) → (n || u) ≡ (n || v) → (n || (x || u)) ≡ (n || (y || v))
      by true x y u v f l = refl
      by false x y u v f l = ap₂ (λ c d. c || d) f l

  target_name-filled : (e : ℕ → Code) (to : Target) → target_name (filled_target e to) ≡ target_name to
  target_name-filled e (to_name m s (Generated g)) = refl
  target_name-filled e to = refl

  assigned_by-filled : (e : ℕ → Code) (c : Code) → is_hole c ≡ false → assigned_by (filled e c) ≡ assigned_by c
  assigned_by-filled e (assign to r) h = target_name-filled e to
  assigned_by-filled e (compound m op to r) h = target_name-filled e to
  assigned_by-filled e (logical_assign m op to r) h = target_name-filled e to
  assigned_by-filled e (update m op prefix to) h = target_name-filled e to
  assigned_by-filled e (initializers n) h = absurd (cc)
  assigned_by-filled e c h = refl

  by-alike : (a b : ℕ → Code) (c : Code) → is_hole c ≡ false → admits names plain_ones c ≡ true → AssignsAlike names (assigned_by (filled a c)) (assigned_by (filled b c))
  by-alike a b c h p s = ap (λ ss. is_string_among s names || is_string_among s ss) (assigned_by-filled a c h ∙ sym (assigned_by-filled b c h))

  pub assigned-alike : (a b : ℕ → Code) → ((n : ℕ) → AssignsAlike names (assigned_in (a n)) (assigned_in (b n))) → (c : Code) → admits names plain_ones c ≡ true → AssignsAlike names (assigned_in (filled a c)) (assigned_in (filled b c))
  assigned-alike a b at_hole c p = gather-alike (AssignsAlike names) (assigns-itself []) assigns-joins names plain_ones a b assigned_by at_hole (by-alike a b) c p

  pub all_assigned-alike : (a b : ℕ → Code) → ((n : ℕ) → AssignsAlike names (assigned_in (a n)) (assigned_in (b n))) → (cs : Codes) → admits_all names plain_ones cs ≡ true → AssignsAlike names (assigned_in_all (filled_all a cs)) (assigned_in_all (filled_all b cs))
  all_assigned-alike a b at_hole cs p = gather_all-alike (AssignsAlike names) (assigns-itself []) assigns-joins names plain_ones a b assigned_by at_hole (by-alike a b) cs p

  -- ---- functions of private members

  functions-filled : (e : ℕ → Code) (d : ℕ) (f : Code) → not (is_hole f) ≡ true → function_of d (filled e f) ≡ function_of d f
  functions-filled e d (function f form own_name ps body) h = refl
  functions-filled e d (initializers n) h = absurd (cc)
  functions-filled e d f h = refl

  function_by-filled : (e : ℕ → Code) (c : Code) → is_hole c ≡ false → admits names plain_ones c ≡ true → private_function_by (filled e c) ≡ private_function_by c
  function_by-filled e (private_method is_static d f) h p = functions-filled e d f (left _ _ p)
  function_by-filled e (give_function m s (GeneratedKind.Method d) f) h p = functions-filled e d.0 f (left _ _ p)
  function_by-filled e (initializers n) h p = absurd (cc)
  function_by-filled e c h p = refl

  pub functions-alike : (a b : ℕ → Code) → ((n : ℕ) → private_functions (a n) ≡ private_functions (b n)) → (c : Code) → admits names plain_ones c ≡ true → private_functions (filled a c) ≡ private_functions (filled b c)
  functions-alike a b at_hole c p = gather-alike (λ xs ys. xs ≡ ys) refl (λ xs ys us vs first last. ap₂ (λ x u. x ++ u) first last) names plain_ones a b private_function_by at_hole (λ d h q. function_by-filled a d h q ∙ sym (function_by-filled b d h q)) c p
