-- New arrows that are called where they stand, by the forms of codes.
use Rattle.std.proofs.Common.{◌≡◌, refl, sym, ap, ◌∙◌, ℕ, List, [], ◌∷◌, ◌++◌, ◌+◌, ◌<◌, ◌≤◌, length, get_or, drop, append_assoc, append-nil, Bool, true, false, cond, Option, Some, None, arith}
use Rattle.std.proofs.lemmas.List.{drop_all}
use Rattle.std.specs.Prelude.{◌&&◌, bytes_eq}
use Rattle.es_base.specs.declared.ledger.GeneratedKind.{GeneratedKind}
use Rattle.es_steps.specs.Context as names
use Rattle.es_steps.specs.Context.{Context}
use Rattle.es_steps.specs.GeneratedForms as spec
use Rattle.es_code_members.proofs.Moved.{drop-here}
use Rattle.es_code_generated_calls.specs.Arrows.{has_two, is_generated_kind, is_generated_named, is_parameter, names_behind, parameter_name, pick_in, pick_of, picked_from, picks}
use Rattle.es_steps.specs.Code as of
use Rattle.es_codes.proofs.Forms.{binding_is, code_out, member_is, name_is, steps_is}
use Rattle.es_codes.specs.CodeView.{code_of, target_of, callee_of, codes_of, code_step}
use Rattle.es_codes.specs.declared.code.Code.{Code}
use Rattle.es_codes.specs.declared.code.Target.{Target}
use Rattle.es_codes.specs.declared.code.Callee.{Callee}
use Rattle.es_codes.specs.declared.code.Code.TheVariants as variants
use Rattle.es_codes.specs.declared.code.Callee.TheOpen.{Code-F}
use Rattle.es_codes.specs.declared.code.Callee.TheViews.{roll-Code, out-Code, roll-out-Code}
use Rattle.es_codes.specs.declared.code.Callee.TheFolds.{map-Code}
use Rattle.es_codes.specs.View.{kind_of}
use Rattle.es_codes.specs.declared.name.NameKind.{NameKind}

-- ---- parameters

parameter-by : (b : ℕ) (s : List ℕ) (kind : names.NameKind) → parameter_name (of.binding b s kind) ≡ cond (is_parameter kind) (Some s) None
parameter-by b s (names.Generated GeneratedKind.Param) = refl
parameter-by b s (names.Generated g) = refl
parameter-by b s kind = refl

binding-is : (e : Code) (node : ℕ) (spelling : List ℕ) (kind : NameKind) → e ≡ variants.Binding node spelling kind → parameter_name (code_of e) ≡ cond (is_parameter (kind_of kind)) (Some spelling) None
binding-is e node spelling kind is = ap (λ x. parameter_name (code_of x)) is ∙ ap parameter_name (binding_is node spelling kind) ∙ parameter-by node spelling (kind_of kind)

pub a_parameter : (e : Code) (node : ℕ) (spelling : List ℕ) (kind : NameKind) → e ≡ variants.Binding node spelling kind → is_parameter (kind_of kind) ≡ true → parameter_name (code_of e) ≡ Some spelling
a_parameter e node spelling kind is given = binding-is e node spelling kind is ∙ ap (λ (b : Bool). cond b (Some spelling) None) given

pub another_binding : (e : Code) (node : ℕ) (spelling : List ℕ) (kind : NameKind) → e ≡ variants.Binding node spelling kind → is_parameter (kind_of kind) ≡ false → parameter_name (code_of e) ≡ None
another_binding e node spelling kind is given = binding-is e node spelling kind is ∙ ap (λ (b : Bool). cond b (Some spelling) None) given

pub no_parameter : (e : Code) → ((node : ℕ) (spelling : List ℕ) (kind : NameKind) → e ≡ variants.Binding node spelling kind → ⊥) → parameter_name (code_of e) ≡ None
no_parameter e not_binding = ap (λ z. parameter_name z) (code_out e) ∙ by (out-Code e) (roll-out-Code e)
  where
    by : (y : Code-F Callee Code Target) → roll-Code y ≡ e → parameter_name (code_step (map-Code Callee Code Target of.Callee of.Code of.Target callee_of code_of target_of y)) ≡ None
    by (Code-F.Binding node spelling kind) is = absurd (not_binding node spelling kind (sym is ∙ variants.rolls-Binding node spelling kind))
    by y is = refl

abbrev name-then : Option (List ℕ) → Option (List (List ℕ)) → Option (List (List ℕ))
name-then None names = None
name-then (Some s) names = spec.with_name s names

names-more : (c : of.Code) (cs : of.Codes) → spec.parameter_names (of.and c cs) ≡ name-then (parameter_name c) (spec.parameter_names cs)
names-more (of.binding b s (names.Generated GeneratedKind.Param)) cs = refl
names-more (of.binding b s (names.Generated g)) cs = refl
names-more (of.binding b s kind) cs = refl
names-more c cs = refl

more-of : (old new : List (List ℕ)) (s : List ℕ) (o : Option (List (List ℕ))) → new ≡ old ++ (s ∷ []) → names_behind new o ≡ names_behind old (spec.with_name s o)
more-of old new s None is = refl
more-of old new s (Some ts) is = ap (λ (ss : List (List ℕ)). Some (ss ++ ts)) is ∙ ap Some (append_assoc old (s ∷ []) ts)

pub names_first : (o : Option (List (List ℕ))) → names_behind [] o ≡ o
names_first None = refl
names_first (Some ts) = refl

pub names_step : (xs : List Code) (i : ℕ) (x : Code) (old new : List (List ℕ)) (s : List ℕ) (all : Option (List (List ℕ))) → i < length xs → x ≡ get_or xs i x → Some s ≡ parameter_name (code_of x) → new ≡ old ++ (s ∷ []) → names_behind old (spec.parameter_names (codes_of (drop i xs))) ≡ all → names_behind new (spec.parameter_names (codes_of (drop (i + 1) xs))) ≡ all
names_step xs i x old new s all h is named more before =
    more-of old new s (spec.parameter_names (codes_of (drop (i + 1) xs))) more
    ∙ ap (λ o. names_behind old (name-then o (spec.parameter_names (codes_of (drop (i + 1) xs))))) named
    ∙ ap (names_behind old) (sym (names-more (code_of x) (codes_of (drop (i + 1) xs))))
    ∙ ap (λ zs. names_behind old (spec.parameter_names (codes_of zs))) (sym (drop-here xs i x h is))
    ∙ before

pub names_stop : (xs : List Code) (i : ℕ) (x : Code) (old : List (List ℕ)) (all : Option (List (List ℕ))) → i < length xs → x ≡ get_or xs i x → None ≡ parameter_name (code_of x) → names_behind old (spec.parameter_names (codes_of (drop i xs))) ≡ all → None ≡ all
names_stop xs i x old all h is unnamed before =
    ap (λ o. names_behind old (name-then o (spec.parameter_names (codes_of (drop (i + 1) xs))))) unnamed
    ∙ ap (names_behind old) (sym (names-more (code_of x) (codes_of (drop (i + 1) xs))))
    ∙ ap (λ zs. names_behind old (spec.parameter_names (codes_of zs))) (sym (drop-here xs i x h is))
    ∙ before

pub names_end : (xs : List Code) (i : ℕ) (now : List (List ℕ)) (all : Option (List (List ℕ))) → length xs ≤ i → names_behind now (spec.parameter_names (codes_of (drop i xs))) ≡ all → Some now ≡ all
names_end xs i now all h before =
    ap Some (sym (append-nil now))
    ∙ ap (λ zs. names_behind now (spec.parameter_names (codes_of zs))) (sym (drop_all i xs h))
    ∙ before

-- ---- bodies

pub steps_opened : (e : Code) (all : List Code) → e ≡ variants.Steps all → spec.opened_body (code_of e) ≡ spec.opened_body (of.steps (codes_of all))
steps_opened e all is = ap (λ z. spec.opened_body (code_of z)) is ∙ ap (λ z. spec.opened_body z) (steps_is all)

pub other_opened : (e : Code) → ((all : List Code) → e ≡ variants.Steps all → ⊥) → spec.opened_body (code_of e) ≡ (code_of e)
other_opened e not_steps = ap (λ z. spec.opened_body z) (code_out e) ∙ by (out-Code e) (roll-out-Code e) ∙ ap (λ z. z) (sym (code_out e))
  where
    by : (y : Code-F Callee Code Target) → roll-Code y ≡ e → spec.opened_body (code_step (map-Code Callee Code Target of.Callee of.Code of.Target callee_of code_of target_of y)) ≡ (code_step (map-Code Callee Code Target of.Callee of.Code of.Target callee_of code_of target_of y))
    by (Code-F.Steps all) is = absurd (not_steps all (sym is ∙ variants.rolls-Steps all))
    by y is = refl

-- ---- picking a property

named-by : (t : List ℕ) (m : ℕ) (s : List ℕ) (kind : names.NameKind) → is_generated_named t (of.name m s kind) ≡ (is_generated_kind kind && bytes_eq s t)
named-by t m s (names.Generated g) = refl
named-by t m s kind = refl

pub a_name : (t : List ℕ) (e : Code) (node : ℕ) (spelling : List ℕ) (kind : NameKind) → e ≡ variants.Name node spelling kind → is_generated_named t (code_of e) ≡ (is_generated_kind (kind_of kind) && bytes_eq spelling t)
a_name t e node spelling kind is = ap (λ z. is_generated_named t (code_of z)) is ∙ ap (λ z. is_generated_named t z) (name_is node spelling kind) ∙ named-by t node spelling (kind_of kind)

pub no_name : (t : List ℕ) (e : Code) → ((node : ℕ) (spelling : List ℕ) (kind : NameKind) → e ≡ variants.Name node spelling kind → ⊥) → is_generated_named t (code_of e) ≡ false
no_name t e not_name = ap (λ z. is_generated_named t z) (code_out e) ∙ by (out-Code e) (roll-out-Code e)
  where
    by : (y : Code-F Callee Code Target) → roll-Code y ≡ e → is_generated_named t (code_step (map-Code Callee Code Target of.Callee of.Code of.Target callee_of code_of target_of y)) ≡ false
    by (Code-F.Name node spelling kind) is = absurd (not_name node spelling kind (sym is ∙ variants.rolls-Name node spelling kind))
    by y is = refl

pub a_member : (p : List ℕ) (q : List ℕ) (e : Code) (node : ℕ) (object : Code) (key : Code) → e ≡ variants.Member node object key → picks p q (code_of e) ≡ (is_generated_named q (code_of object) && is_generated_named p (code_of key))
a_member p q e node object key is = ap (λ z. picks p q (code_of z)) is ∙ ap (λ z. picks p q z) (member_is node object key)

pub no_member : (p : List ℕ) (q : List ℕ) (e : Code) → ((node : ℕ) (object : Code) (key : Code) → e ≡ variants.Member node object key → ⊥) → picks p q (code_of e) ≡ false
no_member p q e not_member = ap (λ z. picks p q z) (code_out e) ∙ by (out-Code e) (roll-out-Code e)
  where
    by : (y : Code-F Callee Code Target) → roll-Code y ≡ e → picks p q (code_step (map-Code Callee Code Target of.Callee of.Code of.Target callee_of code_of target_of y)) ≡ false
    by (Code-F.Member node object key) is = absurd (not_member node object key (sym is ∙ variants.rolls-Member node object key))
    by y is = refl

and-false : (b : Bool) → false ≡ (b && false)
and-false true = refl
and-false false = refl

pick-by : (b b2 : ℕ) (p q : List ℕ) (body : of.Code) → spec.is_pick (of.and (of.binding b p (names.Generated GeneratedKind.Param)) (of.and (of.binding b2 q (names.Generated GeneratedKind.Param)) of.done)) body ≡ picks p q body
pick-by b b2 p q (of.member m (of.name k s (names.Generated g)) (of.name k2 t (names.Generated g2))) = refl
pick-by b b2 p q (of.member m (of.name k s (names.Generated g)) (of.name k2 t kind)) = and-false (bytes_eq s q)
pick-by b b2 p q (of.member m (of.name k s (names.Generated g)) key) = and-false (bytes_eq s q)
pick-by b b2 p q (of.member m (of.name k s kind) key) = refl
pick-by b b2 p q (of.member m o key) = refl
pick-by b b2 p q body = refl

pick-two : (c d body : of.Code) → pick_of (parameter_name c) (parameter_name d) body ≡ spec.is_pick (of.and c (of.and d of.done)) body
pick-two (of.binding b p (names.Generated GeneratedKind.Param)) (of.binding b2 q (names.Generated GeneratedKind.Param)) body = sym (pick-by b b2 p q body)
pick-two (of.binding b p (names.Generated GeneratedKind.Param)) (of.binding b2 q (names.Generated g)) body = refl
pick-two (of.binding b p (names.Generated GeneratedKind.Param)) (of.binding b2 q kind) body = refl
pick-two (of.binding b p (names.Generated GeneratedKind.Param)) d body = refl
pick-two (of.binding b p (names.Generated g)) d body = refl
pick-two (of.binding b p kind) d body = refl
pick-two c d body = refl

one-parameter : (c body : of.Code) → spec.is_pick (of.and c of.done) body ≡ false
one-parameter (of.binding b p (names.Generated GeneratedKind.Param)) body = refl
one-parameter (of.binding b p (names.Generated g)) body = refl
one-parameter (of.binding b p kind) body = refl
one-parameter c body = refl

many-parameters : (c d e : of.Code) (cs : of.Codes) (body : of.Code) → spec.is_pick (of.and c (of.and d (of.and e cs))) body ≡ false
many-parameters (of.binding b p (names.Generated GeneratedKind.Param)) (of.binding b2 q (names.Generated GeneratedKind.Param)) e cs body = refl
many-parameters (of.binding b p (names.Generated GeneratedKind.Param)) (of.binding b2 q (names.Generated g)) e cs body = refl
many-parameters (of.binding b p (names.Generated GeneratedKind.Param)) (of.binding b2 q kind) e cs body = refl
many-parameters (of.binding b p (names.Generated GeneratedKind.Param)) d e cs body = refl
many-parameters (of.binding b p (names.Generated g)) d e cs body = refl
many-parameters (of.binding b p kind) d e cs body = refl
many-parameters c d e cs body = refl

pick-in : (ps : of.Codes) (body : of.Code) → pick_in ps body ≡ spec.is_pick ps body
pick-in of.done body = refl
pick-in (of.and c of.done) body = sym (one-parameter c body)
pick-in (of.and c (of.and d of.done)) body = pick-two c d body
pick-in (of.and c (of.and d (of.and e cs))) body = sym (many-parameters c d e cs body)

pub not_two_parameters : (ps : List Code) (body : of.Code) → (length ps ≡ 2 → ⊥) → pick_in (codes_of ps) body ≡ false
not_two_parameters [] body other = refl
not_two_parameters (a ∷ []) body other = refl
not_two_parameters (a ∷ b ∷ []) body other = absurd (other refl)
not_two_parameters (a ∷ b ∷ d ∷ ps) body other = refl

pub not_two : (es : List Code) → (length es ≡ 2 → ⊥) → has_two (codes_of es) ≡ false
not_two [] other = refl
not_two (a ∷ []) other = refl
not_two (a ∷ b ∷ []) other = absurd (other refl)
not_two (a ∷ b ∷ d ∷ es) other = refl

pub two : (es : List Code) → 2 ≤ length es → length es < 3 → true ≡ has_two (codes_of es)
two [] least most = absurd (omega (arith, least))
two (a ∷ []) least most = absurd (omega (arith, least))
two (a ∷ b ∷ []) least most = refl
two (a ∷ b ∷ d ∷ es) least most = absurd (omega (arith, most))

pub not_two_picked : (c : Context) (es : List Code) → (length es ≡ 2 → ⊥) → picked_from c (codes_of es) ≡ of.no_rule
not_two_picked c [] other = refl
not_two_picked c (a ∷ []) other = refl
not_two_picked c (a ∷ b ∷ []) other = absurd (other refl)
not_two_picked c (a ∷ b ∷ d ∷ es) other = refl

-- ---- all calls of new functions

abbrev by-pick : Bool → Context → of.FunctionForm → of.Codes → of.Code → of.Codes → of.Code
by-pick true c form ps body es = picked_from c es
by-pick false c form ps body es = spec.arrow_call form (spec.parameter_names ps) body es

two-by : (b : Bool) (c : Context) (form : of.FunctionForm) (ps : of.Codes) (body k o : of.Code) → by-pick b c form ps body (of.and k (of.and o of.done)) ≡ cond b (spec.picked k (spec.single_property c o)) (spec.arrow_call form (spec.parameter_names ps) body (of.and k (of.and o of.done)))
two-by true c form ps body k o = refl
two-by false c form ps body k o = refl

call-by : (c : Context) (form : of.FunctionForm) (ps : of.Codes) (body : of.Code) (es : of.Codes) → by-pick (has_two es && (spec.is_plain_arrow form && spec.is_pick ps body)) c form ps body es ≡ spec.new_function_call c form ps body es
call-by c form ps body of.done = refl
call-by c form ps body (of.and k of.done) = refl
call-by c form ps body (of.and k (of.and o of.done)) = two-by (spec.is_plain_arrow form && spec.is_pick ps body) c form ps body k o
call-by c form ps body (of.and k (of.and o (of.and e es))) = refl

call-in : (c : Context) (form : of.FunctionForm) (ps : of.Codes) (body : of.Code) (es : of.Codes) → by-pick (has_two es && (spec.is_plain_arrow form && pick_in ps body)) c form ps body es ≡ spec.new_function_call c form ps body es
call-in c form ps body es = ap (λ b. by-pick (has_two es && (spec.is_plain_arrow form && b)) c form ps body es) (pick-in ps body) ∙ call-by c form ps body es

pub by_pick : (c : Context) (form : of.FunctionForm) (ps : of.Codes) (body : of.Code) (es : of.Codes) → (has_two es && (spec.is_plain_arrow form && pick_in ps body)) ≡ true → picked_from c es ≡ spec.new_function_call c form ps body es
by_pick c form ps body es is = sym (ap (λ b. by-pick b c form ps body es) is) ∙ call-in c form ps body es

pub by_names : (c : Context) (form : of.FunctionForm) (ps : of.Codes) (body : of.Code) (es : of.Codes) → (has_two es && (spec.is_plain_arrow form && pick_in ps body)) ≡ false → spec.arrow_call form (spec.parameter_names ps) body es ≡ spec.new_function_call c form ps body es
by_names c form ps body es is = sym (ap (λ b. by-pick b c form ps body es) is) ∙ call-in c form ps body es

-- ---- what is picked

pub of_property : (k : of.Code) (p : of.Code × of.Code) (o : Option (of.Code × of.Code)) → Some p ≡ o → spec.picked k (Some p) ≡ spec.picked k o
of_property k p o is = ap (λ q. spec.picked k q) is

pub of_no_property : (k : of.Code) (o : Option (of.Code × of.Code)) → None ≡ o → of.no_rule ≡ spec.picked k o
of_no_property k o is = ap (λ q. spec.picked k q) is

pub picked_property : (k a v : of.Code) → spec.is_same_key k a ≡ true → spec.with_key k v ≡ spec.picked k (Some (a, v))
picked_property k a v same = sym (ap (λ b. cond b (spec.with_key k v) of.no_rule) same)

pub unpicked_property : (k a v : of.Code) → spec.is_same_key k a ≡ false → of.no_rule ≡ spec.picked k (Some (a, v))
unpicked_property k a v other = sym (ap (λ b. cond b (spec.with_key k v) of.no_rule) other)
