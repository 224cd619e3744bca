-- The entries of a code with one expression in its holes, and of the same with another.
use Rattle.std.specs.Prelude.{◌≡◌, refl, ℕ, suc, List, [], ◌∷◌, ◌++◌, Bool, true, false, cond, ◌&&◌, ◌||◌, not, Option, Some, None}
use Rattle.std.proofs.Common.{◌∙◌, ap, ap₂, sym}
use Rattle.es_steps.specs.Code.{Code, Codes, Target, Callee, FunctionForm, Opened, binding, rest, member, private_member, super_member, private_in, assign, compound, logical, logical_assign, update, call, tag, construct, super_call, sequence, template, operation, chain, short, tested, pattern, takes, steps, gives_to, export_default, function, new_function, class_code, field, private_field, method, private_method, constructor, static_block, generated_element, from_call, from_member, key_of, define, private_initialize, call_arrow, call_closure, initializers, give_function, give_class, to_name, to_member, to_private, to_super, to_setter, to_pattern, to_default, plain, on_member, on_private, on_super, with_receiver, checked, on_chain, behind_test, done, and}
use Rattle.es_steps.specs.Entries.{Entry, Method, is_string_among, without, parameter_of, parameters_of, constructor_form, constructor_parameters, no_constructor, if_one, in_order, all_identifiers, entered, ev_parameter, ev_parameters, ev_given, ev_body, ev_construction, listed, value_in, after_run, is_quiet_run, function_entry, class_entry, some_value, method_with, Entries, heritage_in, behind_key, methods_in, keys_stay, behind_code, behind_all, behind_target, behind_callee, behind_arguments, behind_parameters, behind_fields, behind_leading, leading, elements_start, entries, target_entries, pattern_entries, taken_entries, take_entries, callee_entries, all_entries, held_entries, parameter_entries, key_entries, key_entry, static_entries, static_entry, field_entries, field_entry, function_entries, element_function}
use Rattle.es_steps.specs.Evaluation.{added, only_private, Environment, Run, Evaluation, gives, event, bind, bind_parameters, write_ready, ev, ev_target, ev_take, ev_keys, ev_static, ev_field, ev_initializers}
use Rattle.es_steps.specs.Events.{Take, Index, Rest, Operate, SuperCallWithAll, EnterBody}
use Rattle.es_steps.specs.GeneratedForms as forms
use Rattle.es_steps.specs.Opening.{all_arguments, assigned_in, assigned_in_all}
use Rattle.es_steps.specs.References.{has_number}
use Rattle.es_steps.specs.Values.{String, Value, Undefined, ThisOf, ResultOf}
use Rattle.es_steps.proofs.PartsMapped.{cond-mapped}
use Rattle.es_replacement.proofs.Admitted.{of_function}
use Rattle.es_replacement.proofs.Environments.{left, right, nothing_added, added_behind, without-append, within_commutes}
use Rattle.es_replacement.proofs.Evaluations.{ev-replaced, ev_target-replaced, ev_take-replaced, ev_callee-replaced, ev_all-replaced, ev_keys-replaced, ev_key-replaced, ev_static-replaced, ev_field-replaced, ev_initializers-replaced}
use Rattle.es_replacement.proofs.Gathered.{assigns-joins, assigned-alike, all_assigned-alike}
use Rattle.es_replacement.proofs.Openings.{all_arguments-filled}
use Rattle.es_replacement.proofs.Steps.{no_meaning-replaced, gives-replaced, event-replaced, bind-replaced, bind_parameters-replaced}
use Rattle.es_replacement.specs.Holes.{filled, filled_target, filled_callee, filled_all, is_hole, none_is_hole, share, admits, admits_target, admits_callee, admits_all}
use Rattle.es_replacement.specs.Replacing.{run_without, Extends, OnlyAdds, Replaces, AllReplaced, AssignsAlike, MayReplace}

-- ---- what is asked of parameters and elements

module _ (e : ℕ → Code) where
  parameter_of-filled : (c : Code) → not (is_hole c) ≡ true → parameter_of (filled e c) ≡ parameter_of c
  parameter_of-filled (binding b s kind) h = refl
  parameter_of-filled (rest (to_name b s kind)) h = refl
  parameter_of-filled (rest to) h = refl
  parameter_of-filled (initializers n) h = absurd (cc)
  parameter_of-filled c h = refl

  parameters_of-filled : (cs : Codes) → none_is_hole cs ≡ true → parameters_of (filled_all e cs) ≡ parameters_of cs
  parameters_of-filled done h = refl
  parameters_of-filled (and c cs) h = ap₂ (λ x y. x ++ y) (parameter_of-filled c (left _ _ h)) (parameters_of-filled cs (right (not (is_hole c)) _ h))

  module _ (names : List String) (plain_ones : Bool) where
    constructor_form-filled : (cs : Codes) → none_is_hole cs ≡ true → admits_all names plain_ones cs ≡ true → constructor_form (filled_all e cs) ≡ constructor_form cs
    constructor_form-filled done h p = refl
    constructor_form-filled (and (constructor (function f form own_name ps body)) cs) h p = refl
    constructor_form-filled (and (constructor (initializers n)) cs) h p = absurd (cc)
    constructor_form-filled (and (initializers n) cs) h p = absurd (cc)
    constructor_form-filled (and c cs) h p = constructor_form-filled cs (right (not (is_hole c)) (none_is_hole cs) h) (right (admits names plain_ones c) (admits_all names plain_ones cs) p)

    constructor_parameters-filled : (cs : Codes) → none_is_hole cs ≡ true → admits_all names plain_ones cs ≡ true → constructor_parameters (filled_all e cs) ≡ constructor_parameters cs
    constructor_parameters-filled done h p = refl
    constructor_parameters-filled (and (constructor (function f form own_name ps body)) cs) h p = parameters_of-filled ps (left (none_is_hole ps) (admits_all names plain_ones ps && admits names plain_ones body) (left (none_is_hole ps && (admits_all names plain_ones ps && admits names plain_ones body)) (admits_all names plain_ones cs) p))
    constructor_parameters-filled (and (constructor (initializers n)) cs) h p = absurd (cc)
    constructor_parameters-filled (and (initializers n) cs) h p = absurd (cc)
    constructor_parameters-filled (and c cs) h p = constructor_parameters-filled cs (right (not (is_hole c)) (none_is_hole cs) h) (right (admits names plain_ones c) (admits_all names plain_ones cs) p)

  no_constructor-filled : (cs : Codes) → none_is_hole cs ≡ true → no_constructor (filled_all e cs) ≡ no_constructor cs
  no_constructor-filled done h = refl
  no_constructor-filled (and (constructor f) cs) h = refl
  no_constructor-filled (and (initializers n) cs) h = absurd (cc)
  no_constructor-filled (and c cs) h = no_constructor-filled cs (right (not (is_hole c)) (none_is_hole cs) h)

  method_with-filled : (is_static : Bool) (kind : String) (k : Option Value) (f : Code) (ms : Option (List Method)) → not (is_hole f) ≡ true → method_with is_static kind k (filled e f) ms ≡ method_with is_static kind k f ms
  method_with-filled is_static kind (Some k) (function f form own_name ps body) (Some ms) h = refl
  method_with-filled is_static kind k (initializers n) ms h = absurd (cc)
  method_with-filled is_static kind (Some k) f (Some ms) h = refl
  method_with-filled is_static kind None f ms h = refl
  method_with-filled is_static kind (Some k) f None h = refl

-- ---- what is read of a run

module _ (names : List String) where
  listed-without : (r : Option Run) → listed (run_without names r) ≡ listed r
  listed-without None = refl
  listed-without (Some r) = refl

  value_in-without : (r : Option Run) → value_in (run_without names r) ≡ value_in r
  value_in-without None = refl
  value_in-without (Some r) = refl

  after_run-without : (s : Environment) (r : Option Run) → after_run (without names s) (run_without names r) ≡ without names (after_run s r)
  after_run-without s None = refl
  after_run-without s (Some r) = refl

  is_quiet_run-without : (r : Option Run) → is_quiet_run (run_without names r) ≡ is_quiet_run r
  is_quiet_run-without None = refl
  is_quiet_run-without (Some r) = refl

  pub listed-same : {x y : Evaluation} → Replaces names x y → (s : Environment) → listed (x (without names s)) ≡ listed (y s)
  listed-same {y = y} all s = ap listed (all.same s) ∙ listed-without (y s)

  value-same : {x y : Evaluation} → Replaces names x y → (s : Environment) → value_in (x (without names s)) ≡ value_in (y s)
  value-same {y = y} all s = ap value_in (all.same s) ∙ value_in-without (y s)

  quiet-same : {x y : Evaluation} → Replaces names x y → (s : Environment) → is_quiet_run (x (without names s)) ≡ is_quiet_run (y s)
  quiet-same {y = y} all s = ap is_quiet_run (all.same s) ∙ is_quiet_run-without (y s)

  pub after-same : {x y : Evaluation} → Replaces names x y → (s : Environment) → after_run (without names s) (x (without names s)) ≡ without names (after_run s (y s))
  after-same {y = y} all s = ap (after_run (without names s)) (all.same s) ∙ after_run-without s (y s)

  extends_if : (s t : Environment) (b : Bool) → Extends s t → Extends s (cond b t s)
  extends_if s t true all = all
  extends_if s t false all = nothing_added s

  after_adds : (s : Environment) (r : Option Run) → OnlyAdds s r → Extends s (after_run s r)
  after_adds s None all = nothing_added s
  after_adds s (Some r) all = all

  without-alike : (xs ys : List String) → AssignsAlike names xs ys → (s : Environment) → without xs (without names s) ≡ without names (without ys s)
  without-alike xs ys same [] = refl
  without-alike xs ys same (p ∷ s) = by (is_string_among p.0 names) (is_string_among p.0 xs) (is_string_among p.0 ys) refl refl (same p.0) (without-alike xs ys same s)
    where
      by : (n x y : Bool) → is_string_among p.0 names ≡ n → is_string_among p.0 xs ≡ x → (n || x) ≡ (n || y) → without xs (without names s) ≡ without names (without ys s) → without xs (cond n (without names s) (p ∷ without names s)) ≡ without names (cond y (without ys s) (p ∷ without ys s))
      by true x true is was e all = all
      by true x false is was e all = all ∙ ap (λ b. cond b (without names (without ys s)) (p ∷ without names (without ys s))) (sym is)
      by false true true is was e all = ap (λ b. cond b (without xs (without names s)) (p ∷ without xs (without names s))) was ∙ all
      by false false false is was e all = ap (λ b. cond b (without xs (without names s)) (p ∷ without xs (without names s))) was ∙ ap (λ (r : Environment). p ∷ r) all ∙ ap (λ b. cond b (without names (without ys s)) (p ∷ without names (without ys s))) (sym is)
      by false true false is was e all = absurd (cc)
      by false false true is was e all = absurd (cc)

  if_one-replaced : {x y : Evaluation} (one : Bool) → Replaces names x y → Replaces names (if_one one x) (if_one one y)
  if_one-replaced true all = all
  if_one-replaced false all = no_meaning-replaced names

  in_order-replaced : {x y z u v w : Evaluation} (late : Bool) → Replaces names x u → Replaces names y v → Replaces names z w → Replaces names (in_order late x y z) (in_order late u v w)
  in_order-replaced {x = x} {y = y} {z = z} {u = u} {v = v} {w = w} true fields parameters body = bind-replaced names (λ k. bind x (λ j. z)) (λ k. bind u (λ j. w)) parameters (λ k. bind-replaced names (λ j. z) (λ j. w) fields (λ j. body))
  in_order-replaced {x = x} {y = y} {z = z} {u = u} {v = v} {w = w} false fields parameters body = bind-replaced names (λ k. bind y (λ j. z)) (λ k. bind v (λ j. w)) fields (λ k. bind-replaced names (λ j. z) (λ j. w) parameters (λ j. body))

  entered-replaced : (simple : Bool) → Replaces names (entered simple) (entered simple)
  entered-replaced true = gives-replaced names Undefined
  entered-replaced false = event-replaced names EnterBody Undefined

joined : {xs ys us vs : Entries} → xs ≡ ys → us ≡ vs → xs ++ us ≡ ys ++ vs
joined first last = ap₂ (λ x y. x ++ y) first last

module _ (names : List String) (opens there : Opened → Evaluation) (follow : AllReplaced names opens there) (plain_ones : Bool) (a b : ℕ → Code) (may : (n : ℕ) → MayReplace names (a n) (b n)) (first : ℕ) (late : List ℕ) where
  at_hole : (n : ℕ) → Replaces names (ev opens (a n)) (ev there (b n))
  at_hole n = (may n).evaluates opens there follow

  at_hole-assigns : (n : ℕ) → AssignsAlike names (assigned_in (a n)) (assigned_in (b n))
  at_hole-assigns n = (may n).assigns

  ev-alike : (c : Code) → admits names plain_ones c ≡ true → Replaces names (ev opens (filled a c)) (ev there (filled b c))
  ev-alike c p = ev-replaced names opens there follow plain_ones a b at_hole c p

  initializers-alike : (n : ℕ) (es : Codes) → none_is_hole es ≡ true → admits_all names plain_ones es ≡ true → Replaces names (ev_initializers opens n (filled_all a es)) (ev_initializers there n (filled_all b es))
  initializers-alike n es q p = ev_initializers-replaced names opens there follow plain_ones a b at_hole n es q p

  -- ---- parameters and constructions

  ready_parameter-alike : (m i : ℕ) (is_rest : Bool) (to : Target) → admits_target names plain_ones to ≡ true → Replaces names (ev_target opens (filled_target a to) (λ t. bind (event (Operate m (Take (cond is_rest (Index i ∷ Rest ∷ []) (Index i ∷ []))) []) (ResultOf m)) (λ v. write_ready t v))) (ev_target there (filled_target b to) (λ t. bind (event (Operate m (Take (cond is_rest (Index i ∷ Rest ∷ []) (Index i ∷ []))) []) (ResultOf m)) (λ v. write_ready t v)))
  ready_parameter-alike m i is_rest to p = ev_target-replaced names opens there follow plain_ones a b at_hole to p _ _ (λ t u x. bind-replaced names (λ v. write_ready t v) (λ v. write_ready u v) (event-replaced names (Operate m (Take (cond is_rest (Index i ∷ Rest ∷ []) (Index i ∷ []))) []) (ResultOf m)) (λ v. x.writes v))

  ev_parameter-alike : (i : ℕ) (c : Code) → not (is_hole c) ≡ true → admits names plain_ones c ≡ true → Replaces names (ev_parameter opens first late i (filled a c)) (ev_parameter there first late i (filled b c))
  ev_parameter-alike i (binding k s kind) h p = gives-replaced names _
  ev_parameter-alike i (rest (to_name k s kind)) h p = gives-replaced names _
  ev_parameter-alike i (pattern m to) h p = ready_parameter-alike m i false to p
  ev_parameter-alike i (rest (to_pattern m kind cs)) h p = ready_parameter-alike m i true (to_pattern m kind cs) p
  ev_parameter-alike i (rest to) h p = no_meaning-replaced names
  ev_parameter-alike i (initializers n) h p = absurd (cc)
  ev_parameter-alike i c h p = no_meaning-replaced names

  ev_parameters-alike : (i : ℕ) (cs : Codes) → none_is_hole cs ≡ true → admits_all names plain_ones cs ≡ true → Replaces names (ev_parameters opens first late i (filled_all a cs)) (ev_parameters there first late i (filled_all b cs))
  ev_parameters-alike i done h p = gives-replaced names _
  ev_parameters-alike i (and c cs) h p = bind-replaced names _ _ (ev_parameter-alike i c (left _ _ h) (left _ _ p)) (λ v. ev_parameters-alike (suc i) cs (right _ _ h) (right _ _ p))

  ev_given-alike : (cs : Codes) → none_is_hole cs ≡ true → admits_all names plain_ones cs ≡ true → Replaces names (ev_given opens first late (filled_all a cs)) (ev_given there first late (filled_all b cs))
  ev_given-alike cs h p = bind-replaced names _ _ (ev_parameters-alike 0 cs h p) (λ v. rw (parameters_of-filled a cs h, parameters_of-filled b cs h) (entered-replaced names (all_identifiers (parameters_of cs))))

  ev_body-alike : (ps : Codes) (body : Code) → none_is_hole ps ≡ true → admits_all names plain_ones ps ≡ true → admits names plain_ones body ≡ true → Replaces names (ev_body opens first late (filled_all a ps) (filled a body)) (ev_body there first late (filled_all b ps) (filled b body))
  ev_body-alike ps body h p q = bind-replaced names _ _ (ev_given-alike ps h p) (λ v. ev-alike body q)

  base-alike : (n : ℕ) (all ps es : Codes) (body : Code) → none_is_hole all ≡ true → admits_all names plain_ones all ≡ true → none_is_hole ps ≡ true → admits_all names plain_ones ps ≡ true → none_is_hole es ≡ true → admits names plain_ones body ≡ true → Replaces names (if_one (no_constructor (filled_all a es)) (in_order (has_number n late) (ev_initializers opens n (filled_all a all)) (ev_given opens first late (filled_all a ps)) (ev opens (filled a body)))) (if_one (no_constructor (filled_all b es)) (in_order (has_number n late) (ev_initializers there n (filled_all b all)) (ev_given there first late (filled_all b ps)) (ev there (filled b body))))
  base-alike n all ps es body ha pa hp pp he pb = rw (no_constructor-filled a es he, no_constructor-filled b es he) (if_one-replaced names (no_constructor es) (in_order-replaced names (has_number n late) (initializers-alike n all ha pa) (ev_given-alike ps hp pp) (ev-alike body pb)))

  derived-alike : (ps es : Codes) (body : Code) → none_is_hole ps ≡ true → admits_all names plain_ones ps ≡ true → none_is_hole es ≡ true → admits names plain_ones body ≡ true → Replaces names (if_one (no_constructor (filled_all a es)) (ev_body opens first late (filled_all a ps) (filled a body))) (if_one (no_constructor (filled_all b es)) (ev_body there first late (filled_all b ps) (filled b body)))
  derived-alike ps es body hp pp he pb = rw (no_constructor-filled a es he, no_constructor-filled b es he) (if_one-replaced names (no_constructor es) (ev_body-alike ps body hp pp pb))

  new_base-alike : (n : ℕ) (all es : Codes) (form : FunctionForm) (body : Code) → none_is_hole all ≡ true → admits_all names plain_ones all ≡ true → none_is_hole es ≡ true → admits names plain_ones body ≡ true → Replaces names (if_one (no_constructor (filled_all a es) && forms.is_plain form) (bind (ev_initializers opens n (filled_all a all)) (λ v. ev opens (filled a body)))) (if_one (no_constructor (filled_all b es) && forms.is_plain form) (bind (ev_initializers there n (filled_all b all)) (λ v. ev there (filled b body))))
  new_base-alike n all es form body ha pa he pb = rw (no_constructor-filled a es he, no_constructor-filled b es he) (if_one-replaced names (no_constructor es && forms.is_plain form) (bind-replaced names (λ v. ev opens (filled a body)) (λ v. ev there (filled b body)) (initializers-alike n all ha pa) (λ v. ev-alike body pb)))

  new_derived-alike : (ps es : Codes) (form : FunctionForm) (body : Code) → none_is_hole ps ≡ true → none_is_hole es ≡ true → admits names plain_ones body ≡ true → Replaces names (if_one (no_constructor (filled_all a es) && (forms.is_plain form && all_arguments (filled_all a ps))) (ev opens (filled a body))) (if_one (no_constructor (filled_all b es) && (forms.is_plain form && all_arguments (filled_all b ps))) (ev there (filled b body)))
  new_derived-alike ps es form body hp he pb = rw (no_constructor-filled a es he, no_constructor-filled b es he, all_arguments-filled a ps hp, all_arguments-filled b ps hp) (if_one-replaced names (no_constructor es && (forms.is_plain form && all_arguments ps)) (ev-alike body pb))

  ev_construction-alike : (n : ℕ) (h all es : Codes) → none_is_hole all ≡ true → admits_all names plain_ones all ≡ true → none_is_hole es ≡ true → admits_all names plain_ones es ≡ true → Replaces names (ev_construction opens first late n (filled_all a h) (filled_all a all) (filled_all a es)) (ev_construction there first late n (filled_all b h) (filled_all b all) (filled_all b es))
  ev_construction-alike n done all (and (constructor (function f form own_name ps body)) es) ha pa he pe = base-alike n all ps es body ha pa (left _ _ (left _ _ pe)) (left _ _ (right _ _ (left _ _ pe))) he (right _ _ (right _ _ (left _ _ pe)))
  ev_construction-alike n done all (and (constructor (new_function f form done body)) es) ha pa he pe = new_base-alike n all es form body ha pa he (of_function names plain_ones f form done body (left (admits names plain_ones (new_function f form done body)) (admits_all names plain_ones es) pe)).body
  ev_construction-alike n done all (and (constructor (new_function f form (and c cs) body)) es) ha pa he pe = no_meaning-replaced names
  ev_construction-alike n (and h hs) all (and (constructor (function f form own_name ps body)) es) ha pa he pe = derived-alike ps es body (left _ _ (left _ _ pe)) (left _ _ (right _ _ (left _ _ pe))) he (right _ _ (right _ _ (left _ _ pe)))
  ev_construction-alike n (and h hs) all (and (constructor (new_function f form ps body)) es) ha pa he pe = let x = of_function names plain_ones f form ps body (left (admits names plain_ones (new_function f form ps body)) (admits_all names plain_ones es) pe) in new_derived-alike ps es form body x.none he x.body
  ev_construction-alike n h all (and (constructor (initializers k)) es) ha pa he pe = absurd (cc)
  ev_construction-alike n done all (and (constructor e) es) ha pa he pe = no_meaning-replaced names
  ev_construction-alike n (and h hs) all (and (constructor e) es) ha pa he pe = no_meaning-replaced names
  ev_construction-alike n h all (and (initializers k) es) ha pa he pe = absurd (cc)
  ev_construction-alike n h all (and e es) ha pa he pe = ev_construction-alike n h all es ha pa (right (not (is_hole e)) (none_is_hole es) he) (right (admits names plain_ones e) (admits_all names plain_ones es) pe)
  ev_construction-alike n done all done ha pa he pe = initializers-alike n all ha pa
  ev_construction-alike n (and h hs) all done ha pa he pe = bind-replaced names (λ v. ev_initializers opens n (filled_all a all)) (λ v. ev_initializers there n (filled_all b all)) (event-replaced names (SuperCallWithAll n) (ThisOf n)) (λ v. initializers-alike n all ha pa)

  -- ---- where evaluations lead

  value_of-alike : (s : Environment) (c : Code) → admits names plain_ones c ≡ true → value_in (ev opens (filled a c) (without names s)) ≡ value_in (ev there (filled b c) s)
  value_of-alike s c p = value-same names (ev-alike c p) s

  behind_value-alike : (s : Environment) (c : Code) → admits names plain_ones c ≡ true → after_run (without names s) (ev opens (filled a c) (without names s)) ≡ without names (after_run s (ev there (filled b c) s))
  behind_value-alike s c p = after-same names (ev-alike c p) s

  behind_code-alike : (s : Environment) (c : Code) → admits names plain_ones c ≡ true → behind_code opens first late (without names s) (filled a c) ≡ without names (behind_code there first late s (filled b c))
  behind_code-alike s c p = after-same names (ev-alike c p) s

  behind_key-alike : (s : Environment) (c : Code) → not (is_hole c) ≡ true → admits names plain_ones c ≡ true → behind_key opens first late (without names s) (filled a c) ≡ without names (behind_key there first late s (filled b c))
  behind_key-alike s c h p = after-same names (ev_key-replaced names opens there follow plain_ones a b at_hole c h p) s

  behind_all-alike : (s : Environment) (cs : Codes) → admits_all names plain_ones cs ≡ true → behind_all opens first late (without names s) (filled_all a cs) ≡ without names (behind_all there first late s (filled_all b cs))
  behind_all-alike s cs p = after-same names (ev_all-replaced names opens there follow plain_ones a b at_hole cs p (λ vs. gives Undefined) (λ vs. gives Undefined) (λ vs. gives-replaced names Undefined)) s

  behind_target-alike : (s : Environment) (to : Target) → admits_target names plain_ones to ≡ true → behind_target opens first late (without names s) (filled_target a to) ≡ without names (behind_target there first late s (filled_target b to))
  behind_target-alike s to p = after-same names (ev_target-replaced names opens there follow plain_ones a b at_hole to p (λ t. gives Undefined) (λ t. gives Undefined) (λ t u x. gives-replaced names Undefined)) s

  behind_callee-alike : (s : Environment) (f : Callee) → admits_callee names plain_ones f ≡ true → behind_callee opens first late (without names s) (filled_callee a f) ≡ without names (behind_callee there first late s (filled_callee b f))
  behind_callee-alike s f p = after-same names (ev_callee-replaced names opens there follow plain_ones a b at_hole f p (λ v receiver. gives v) (λ v receiver. gives v) (λ v receiver. gives-replaced names v)) s

  behind_arguments-alike : (s : Environment) (ss : List String) (es : Codes) → not (share ss names) ≡ true → admits_all names plain_ones es ≡ true → behind_arguments opens first late (without names s) ss (filled_all a es) ≡ without names (behind_arguments there first late s ss (filled_all b es))
  behind_arguments-alike s ss es out p = after-same names (ev_all-replaced names opens there follow plain_ones a b at_hole es p (λ vs. bind_parameters ss vs) (λ vs. bind_parameters ss vs) (λ vs. bind_parameters-replaced names ss vs out)) s

  behind_parameters-alike : (s : Environment) (ps : Codes) → none_is_hole ps ≡ true → admits_all names plain_ones ps ≡ true → behind_parameters opens first late (without names s) (filled_all a ps) ≡ without names (behind_parameters there first late s (filled_all b ps))
  behind_parameters-alike s ps h p = after-same names (ev_given-alike ps h p) s

  behind_fields-alike : (s : Environment) (n : ℕ) (h es : Codes) → none_is_hole es ≡ true → admits_all names plain_ones es ≡ true → behind_fields opens first late (without names s) n (filled_all a h) (filled_all a es) ≡ without names (behind_fields there first late s n (filled_all b h) (filled_all b es))
  behind_fields-alike s n done es q p = after-same names (initializers-alike n es q p) s
  behind_fields-alike s n (and h hs) es q p = refl

  behind_static-alike : (n : ℕ) (s : Environment) (c : Code) → not (is_hole c) ≡ true → admits names plain_ones c ≡ true → after_run (without names s) (ev_static opens n Undefined (filled a c) (without names s)) ≡ without names (after_run s (ev_static there n Undefined (filled b c) s))
  behind_static-alike n s c h p = after-same names (ev_static-replaced names opens there follow plain_ones a b at_hole n Undefined c h p) s

  quiet_static-alike : (n : ℕ) (s : Environment) (c : Code) → not (is_hole c) ≡ true → admits names plain_ones c ≡ true → is_quiet_run (ev_static opens n Undefined (filled a c) (without names s)) ≡ is_quiet_run (ev_static there n Undefined (filled b c) s)
  quiet_static-alike n s c h p = quiet-same names (ev_static-replaced names opens there follow plain_ones a b at_hole n Undefined c h p) s

  behind_leading-alike : (n : ℕ) (s : Environment) (cs : Codes) → none_is_hole cs ≡ true → admits_all names plain_ones cs ≡ true → behind_leading opens first late n (without names s) (filled_all a cs) ≡ without names (behind_leading there first late n s (filled_all b cs))
  behind_leading-alike n s (and (generated_element x c) cs) h p = let q1 : admits names plain_ones (generated_element x c) ≡ true = left _ _ p in
      rw (quiet_static-alike n s (generated_element x c) refl q1, behind_static-alike n s (generated_element x c) refl q1)
      (cond-mapped (without names) (is_quiet_run (ev_static there n Undefined (filled b (generated_element x c)) s)) _ s (behind_leading-alike n (after_run s (ev_static there n Undefined (filled b (generated_element x c)) s)) cs h (right _ _ p)) refl)
  behind_leading-alike n s (and (field false form k c) cs) h p = behind_leading-alike n s cs h (right _ _ p)
  behind_leading-alike n s (and (private_field false d c) cs) h p = behind_leading-alike n s cs h (right _ _ p)
  behind_leading-alike n s (and (method is_static kind k f) cs) h p = behind_leading-alike n s cs h (right _ _ p)
  behind_leading-alike n s (and (private_method is_static d f) cs) h p = behind_leading-alike n s cs h (right _ _ p)
  behind_leading-alike n s (and (constructor f) cs) h p = behind_leading-alike n s cs h (right _ _ p)
  behind_leading-alike n s (and (initializers k) cs) h p = absurd (cc)
  behind_leading-alike n s cs h p = refl

  leading-adds : (n : ℕ) (s : Environment) (cs : Codes) → none_is_hole cs ≡ true → admits_all names plain_ones cs ≡ true → Extends s (behind_leading there first late n s (filled_all b cs))
  leading-adds n s (and (generated_element x c) cs) h p =
      let t : Environment = after_run s (ev_static there n Undefined (filled b (generated_element x c)) s) in
      extends_if names s (behind_leading there first late n t (filled_all b cs)) (is_quiet_run (ev_static there n Undefined (filled b (generated_element x c)) s)) (added_behind s t (behind_leading there first late n t (filled_all b cs)) (after_adds names s (ev_static there n Undefined (filled b (generated_element x c)) s) ((ev_static-replaced names opens there follow plain_ones a b at_hole n Undefined (generated_element x c) refl (left _ _ p)).adds s)) (leading-adds n t cs h (right _ _ p)))
  leading-adds n s (and (field false form k c) cs) h p = leading-adds n s cs h (right _ _ p)
  leading-adds n s (and (private_field false d c) cs) h p = leading-adds n s cs h (right _ _ p)
  leading-adds n s (and (method is_static kind k f) cs) h p = leading-adds n s cs h (right _ _ p)
  leading-adds n s (and (private_method is_static d f) cs) h p = leading-adds n s cs h (right _ _ p)
  leading-adds n s (and (constructor f) cs) h p = leading-adds n s cs h (right _ _ p)
  leading-adds n s (and (initializers k) cs) h p = absurd (cc)
  leading-adds n s cs h p = nothing_added s

  leading-alike : (n : ℕ) (s : Environment) (cs : Codes) → none_is_hole cs ≡ true → admits_all names plain_ones cs ≡ true → leading opens first late n (without names s) (filled_all a cs) ≡ without names (leading there first late n s (filled_all b cs))
  leading-alike n s cs h p =
      ap (λ (r : Environment). only_private (added r (without names s)) r) (behind_leading-alike n s cs h p)
      ∙ within_commutes names s (behind_leading there first late n s (filled_all b cs)) (leading-adds n s cs h p)

  elements_start-alike : (n : ℕ) (s t : Environment) (es : Codes) → none_is_hole es ≡ true → admits_all names plain_ones es ≡ true → elements_start opens first late n (without names s) (without names t) (filled_all a es) ≡ without names (elements_start there first late n s t (filled_all b es))
  elements_start-alike n s t es h p =
      ap₂ (λ (x y : Environment). x ++ y) (leading-alike n t es h p) (without-alike names (assigned_in_all (filled_all a es)) (assigned_in_all (filled_all b es)) (all_assigned-alike names plain_ones a b at_hole-assigns es p) s)
      ∙ sym (without-append names (leading there first late n t (filled_all b es)) (without (assigned_in_all (filled_all b es)) s))

  -- ---- the entry of a class

  heritage-alike : (s : Environment) (h : Codes) → admits_all names plain_ones h ≡ true → heritage_in opens first late (without names s) (filled_all a h) ≡ heritage_in there first late s (filled_all b h)
  heritage-alike s done p = refl
  heritage-alike s (and h hs) p = ap some_value (value_of-alike s h (left _ _ p))

  keys_stay-alike : (s i : Environment) (es : Codes) → none_is_hole es ≡ true → admits_all names plain_ones es ≡ true → keys_stay opens first late (without names s) (without names i) (filled_all a es) ≡ keys_stay there first late s i (filled_all b es)
  keys_stay-alike s i done h p = refl
  keys_stay-alike s i (and (field false form k e) es) h p = let pk : admits names plain_ones k ≡ true = left _ _ (left _ _ p) in let pe : admits_all names plain_ones es ≡ true = right _ _ p in rw (value_of-alike s k pk, value_of-alike i k pk, behind_value-alike s k pk, keys_stay-alike (after_run s (ev there (filled b k) s)) i es h pe) refl
  keys_stay-alike s i (and (initializers n) es) h p = absurd (cc)
  keys_stay-alike s i (and e es) h p = rw (behind_key-alike s e (left (not (is_hole e)) (none_is_hole es) h) (left (admits names plain_ones e) (admits_all names plain_ones es) p)) (keys_stay-alike (behind_key there first late s (filled b e)) i es (right (not (is_hole e)) (none_is_hole es) h) (right (admits names plain_ones e) (admits_all names plain_ones es) p))

  methods-alike : (s : Environment) (es : Codes) → none_is_hole es ≡ true → admits_all names plain_ones es ≡ true → methods_in opens first late (without names s) (filled_all a es) ≡ methods_in there first late s (filled_all b es)
  methods-alike s done h p = refl
  methods-alike s (and (method is_static kind k f) es) h p =
      let pk : admits names plain_ones k ≡ true = left _ _ (right _ _ (left _ _ p)) in
      let hf : not (is_hole f) ≡ true = left _ _ (left _ _ p) in
      let pe : admits_all names plain_ones es ≡ true = right _ _ p in
      rw (value_of-alike s k pk, behind_value-alike s k pk, methods-alike (after_run s (ev there (filled b k) s)) es h pe, method_with-filled a is_static kind (value_in (ev there (filled b k) s)) f (methods_in there first late (after_run s (ev there (filled b k) s)) (filled_all b es)) hf, method_with-filled b is_static kind (value_in (ev there (filled b k) s)) f (methods_in there first late (after_run s (ev there (filled b k) s)) (filled_all b es)) hf) refl
  methods-alike s (and (initializers n) es) h p = absurd (cc)
  methods-alike s (and e es) h p = rw (behind_key-alike s e (left (not (is_hole e)) (none_is_hole es) h) (left (admits names plain_ones e) (admits_all names plain_ones es) p)) (methods-alike (behind_key there first late s (filled b e)) es (right (not (is_hole e)) (none_is_hole es) h) (right (admits names plain_ones e) (admits_all names plain_ones es) p))

  -- s is the environment in front of the class, t that behind its heritage, i that of its construction
  class_entry-alike : (n : ℕ) (declared : Option ℕ) (h es : Codes) (s t i : Environment) → none_is_hole es ≡ true → admits_all names plain_ones h ≡ true → admits_all names plain_ones es ≡ true → class_entry (keys_stay opens first late (without names t) (without names i) (filled_all a es)) declared (constructor_form (filled_all a es)) (constructor_parameters (filled_all a es)) (heritage_in opens first late (without names s) (filled_all a h)) (methods_in opens first late (without names t) (filled_all a es)) (listed (ev_construction opens first late n (filled_all a h) (filled_all a es) (filled_all a es) (without names i))) ≡ class_entry (keys_stay there first late t i (filled_all b es)) declared (constructor_form (filled_all b es)) (constructor_parameters (filled_all b es)) (heritage_in there first late s (filled_all b h)) (methods_in there first late t (filled_all b es)) (listed (ev_construction there first late n (filled_all b h) (filled_all b es) (filled_all b es) i))
  class_entry-alike n declared h es s t i q ph p = rw (keys_stay-alike t i es q p, constructor_form-filled a names plain_ones es q p, constructor_form-filled b names plain_ones es q p, constructor_parameters-filled a names plain_ones es q p, constructor_parameters-filled b names plain_ones es q p, heritage-alike s h ph, methods-alike t es q p, listed-same names (ev_construction-alike n h es es q p q p) i) refl

  -- ---- in front of bodies

  body_start-alike : (s : Environment) (ps : Codes) (body : Code) → admits_all names plain_ones ps ≡ true → admits names plain_ones body ≡ true → without (assigned_in_all (filled_all a ps) ++ assigned_in (filled a body)) (without names s) ≡ without names (without (assigned_in_all (filled_all b ps) ++ assigned_in (filled b body)) s)
  body_start-alike s ps body p q = without-alike names _ _ (assigns-joins names plain_ones (assigned_in_all (filled_all a ps)) (assigned_in_all (filled_all b ps)) (assigned_in (filled a body)) (assigned_in (filled b body)) (all_assigned-alike names plain_ones a b at_hole-assigns ps p) (assigned-alike names plain_ones a b at_hole-assigns body q)) s

  given_start-alike : (s : Environment) (body : Code) → admits names plain_ones body ≡ true → without (assigned_in (filled a body)) (without names s) ≡ without names (without (assigned_in (filled b body)) s)
  given_start-alike s body q = without-alike names _ _ (assigned-alike names plain_ones a b at_hole-assigns body q) s

  -- ---- entries

  mutual
    pub entries-alike : (s : Environment) (c : Code) → admits names plain_ones c ≡ true → entries opens first late (without names s) (filled a c) ≡ entries there first late s (filled b c)
    entries-alike s (member m o k) p = let q1 : admits names plain_ones o ≡ true = left _ _ p in rw (behind_code-alike s o q1) (joined (entries-alike s o (left _ _ p)) (entries-alike (behind_code there first late s (filled b o)) k (right _ _ p)))
    entries-alike s (private_member m x o) p = entries-alike s o p
    entries-alike s (super_member m home k this) p = entries-alike s k p
    entries-alike s (private_in m test o) p = entries-alike s o p
    entries-alike s (assign to r) p =
        let t : Environment = behind_target there first late s (filled_target b to) in
        let q1 : admits_target names plain_ones to ≡ true = left _ _ p in let q2 : admits names plain_ones r ≡ true = right _ _ p in rw (behind_target-alike s to q1, behind_code-alike t r q2) (joined (joined (target_entries-alike s to (left _ _ p)) (entries-alike t r (right _ _ p))) (pattern_entries-alike (behind_code there first late t (filled b r)) to (left _ _ p)))
    entries-alike s (compound m op to r) p = let q1 : admits_target names plain_ones to ≡ true = left _ _ p in rw (behind_target-alike s to q1) (joined (target_entries-alike s to (left _ _ p)) (entries-alike (behind_target there first late s (filled_target b to)) r (right _ _ p)))
    entries-alike s (logical m op l r) p = let q1 : admits names plain_ones l ≡ true = left _ _ p in rw (behind_code-alike s l q1) (joined (entries-alike s l (left _ _ p)) (entries-alike (behind_code there first late s (filled b l)) r (right _ _ p)))
    entries-alike s (logical_assign m op to r) p = let q1 : admits_target names plain_ones to ≡ true = left _ _ p in rw (behind_target-alike s to q1) (joined (target_entries-alike s to (left _ _ p)) (entries-alike (behind_target there first late s (filled_target b to)) r (right _ _ p)))
    entries-alike s (update m op prefix to) p = target_entries-alike s to p
    entries-alike s (call m f es) p = let q1 : admits_callee names plain_ones f ≡ true = left _ _ p in rw (behind_callee-alike s f q1) (joined (callee_entries-alike s f (left _ _ p)) (all_entries-alike (behind_callee there first late s (filled_callee b f)) es (right _ _ p)))
    entries-alike s (tag m f ts es) p = let q1 : admits_callee names plain_ones f ≡ true = left _ _ p in rw (behind_callee-alike s f q1) (joined (callee_entries-alike s f (left _ _ p)) (all_entries-alike (behind_callee there first late s (filled_callee b f)) es (right _ _ p)))
    entries-alike s (construct m f es) p = let q1 : admits names plain_ones f ≡ true = left _ _ p in rw (behind_code-alike s f q1) (joined (entries-alike s f (left _ _ p)) (all_entries-alike (behind_code there first late s (filled b f)) es (right _ _ p)))
    entries-alike s (super_call m n o es) p = all_entries-alike s es p
    entries-alike s (sequence es) p = all_entries-alike s es p
    entries-alike s (template m ts es) p = all_entries-alike s es p
    entries-alike s (operation m op es parts) p = let q1 : admits_all names plain_ones es ≡ true = left _ _ p in rw (behind_all-alike s es q1) (joined (all_entries-alike s es (left _ _ p)) (held_entries-alike (behind_all there first late s (filled_all b es)) parts (right _ _ p)))
    entries-alike s (chain m c) p = entries-alike s c p
    entries-alike s (short c) p = entries-alike s c p
    entries-alike s (tested o again c) p =
        let t : Environment = behind_code there first late s (filled b o) in
        let q1 : admits names plain_ones o ≡ true = left _ _ p in rw (behind_code-alike s o q1) (joined (joined (entries-alike s o (left _ _ p)) (all_entries-alike t again (left _ _ (right _ _ p)))) (entries-alike t c (right _ _ (right _ _ p))))
    entries-alike s (steps es) p = all_entries-alike s es p
    entries-alike s (gives_to m to) p = joined (target_entries-alike s to p) (pattern_entries-alike s to p)
    entries-alike s (export_default c) p = entries-alike s c (right _ _ p)
    entries-alike s (function f form own_name ps body) p =
        let q : none_is_hole ps ≡ true = left _ _ p in
        let pp : admits_all names plain_ones ps ≡ true = left _ _ (right _ _ p) in
        let pb : admits names plain_ones body ≡ true = right _ _ (right _ _ p) in
        let start : Environment = without (assigned_in_all (filled_all b ps) ++ assigned_in (filled b body)) s in
        rw (body_start-alike s ps body pp pb, behind_parameters-alike start ps q pp)
        (ap₂ (λ (e : Option Entry) (rest : Entries). (f, e) ∷ rest) (ap₂ (λ x l. function_entry form own_name x l) (parameters_of-filled a ps q ∙ sym (parameters_of-filled b ps q)) (listed-same names (ev_body-alike ps body q pp pb) start)) (joined (parameter_entries-alike start ps q pp) (entries-alike (behind_parameters there first late start (filled_all b ps)) body pb)))
    entries-alike s (class_code n declared h es) p =
        let q : none_is_hole es ≡ true = left _ _ p in
        let ph : admits_all names plain_ones h ≡ true = left _ _ (right _ _ p) in
        let pe : admits_all names plain_ones es ≡ true = right _ _ (right _ _ p) in
        let t : Environment = behind_all there first late s (filled_all b h) in
        let u : Environment = after_run t (ev_keys there (filled_all b es) (λ ks. gives Undefined) t) in
        let start : Environment = elements_start there first late n s u (filled_all b es) in
        rw (behind_all-alike s h ph, after-same names (ev_keys-replaced names opens there follow plain_ones a b at_hole es q pe (λ ks. gives Undefined) (λ ks. gives Undefined) (λ ks. gives-replaced names Undefined)) t, elements_start-alike n s u es q pe, class_entry-alike n declared h es s t start q ph pe, behind_fields-alike start n h es q pe)
        (ap (λ rest. (n, class_entry (keys_stay there first late t start (filled_all b es)) declared (constructor_form (filled_all b es)) (constructor_parameters (filled_all b es)) (heritage_in there first late s (filled_all b h)) (methods_in there first late t (filled_all b es)) (listed (ev_construction there first late n (filled_all b h) (filled_all b es) (filled_all b es) start))) ∷ rest) (joined (joined (joined (joined (all_entries-alike s h ph) (key_entries-alike t es q pe)) (static_entries-alike n u es q pe)) (field_entries-alike n start es q pe)) (function_entries-alike s (behind_fields there first late start n (filled_all b h) (filled_all b es)) es q pe)))
    entries-alike s (from_call c) p = entries-alike s c p
    entries-alike s (from_member c) p = entries-alike s c p
    entries-alike s (key_of c) p = entries-alike s c p
    entries-alike s (define m o k r) p = let q1 : admits names plain_ones k ≡ true = left _ _ p in rw (behind_code-alike s k q1) (joined (entries-alike s k (left _ _ p)) (entries-alike (behind_code there first late s (filled b k)) r (right _ _ p)))
    entries-alike s (private_initialize m d o r) p = entries-alike s r p
    entries-alike s (call_arrow ss body es) p = let q1 : not (share ss names) ≡ true = left _ _ p in let q2 : admits_all names plain_ones es ≡ true = right _ _ (right _ _ p) in rw (behind_arguments-alike s ss es q1 q2) (joined (all_entries-alike s es (right _ _ (right _ _ p))) (entries-alike (behind_arguments there first late s ss (filled_all b es)) body (left _ _ (right _ _ p))))
    entries-alike s (call_closure x es) p = all_entries-alike s es p
    entries-alike s (initializers n) p = (may n).enters opens there first late s follow
    entries-alike s (give_function m x g (new_function k form ps body)) p = let q = of_function names plain_ones k form ps body p in rw (given_start-alike s body q.body) (entries-alike (without (assigned_in (filled b body)) s) body q.body)
    entries-alike s (give_function m x g (function k form own_name ps body)) p = entries-alike s (function k form own_name ps body) p
    entries-alike s (give_function m x g (initializers k)) p = absurd (cc)
    entries-alike s (give_function m x g c) p = entries-alike s c (right (not (is_hole c)) (admits names plain_ones c) p)
    entries-alike s (give_class n c) p = entries-alike s c p
    entries-alike s c p = refl

    target_entries-alike : (s : Environment) (to : Target) → admits_target names plain_ones to ≡ true → target_entries opens first late (without names s) (filled_target a to) ≡ target_entries there first late s (filled_target b to)
    target_entries-alike s (to_member m o k) p = let q1 : admits names plain_ones o ≡ true = left _ _ p in rw (behind_code-alike s o q1) (joined (entries-alike s o (left _ _ p)) (entries-alike (behind_code there first late s (filled b o)) k (right _ _ p)))
    target_entries-alike s (to_private m x o) p = entries-alike s o p
    target_entries-alike s (to_super m home k this) p = entries-alike s k p
    target_entries-alike s (to_setter m d o) p = entries-alike s o p
    target_entries-alike s (to_default m to d) p = target_entries-alike s to (left _ _ p)
    target_entries-alike s to p = refl

    pattern_entries-alike : (s : Environment) (to : Target) → admits_target names plain_ones to ≡ true → pattern_entries opens first late (without names s) (filled_target a to) ≡ pattern_entries there first late s (filled_target b to)
    pattern_entries-alike s (to_pattern m kind cs) p = taken_entries-alike s cs (left _ _ p) (right _ _ p)
    pattern_entries-alike s (to_default m to d) p = joined (entries-alike s d (right _ _ p)) (pattern_entries-alike s to (left _ _ p))
    pattern_entries-alike s to p = refl

    taken_entries-alike : (s : Environment) (cs : Codes) → none_is_hole cs ≡ true → admits_all names plain_ones cs ≡ true → taken_entries opens first late (without names s) (filled_all a cs) ≡ taken_entries there first late s (filled_all b cs)
    taken_entries-alike s done q p = refl
    taken_entries-alike s (and c cs) q p = let q1 : not (is_hole c) ≡ true = left _ _ q in let q2 : admits names plain_ones c ≡ true = left _ _ p in rw (after-same names (ev_take-replaced names opens there follow plain_ones a b at_hole Undefined c q1 q2) s) (joined (take_entries-alike s c (left _ _ q) (left _ _ p)) (taken_entries-alike (after_run s (ev_take there Undefined (filled b c) s)) cs (right _ _ q) (right _ _ p)))

    take_entries-alike : (s : Environment) (c : Code) → not (is_hole c) ≡ true → admits names plain_ones c ≡ true → take_entries opens first late (without names s) (filled a c) ≡ take_entries there first late s (filled b c)
    take_entries-alike s (takes m ds k to) q p =
        let t : Environment = behind_all there first late s (filled_all b k) in
        let q1 : admits_all names plain_ones k ≡ true = left _ _ p in let q2 : admits_target names plain_ones to ≡ true = right _ _ p in rw (behind_all-alike s k q1, behind_target-alike t to q2) (joined (joined (all_entries-alike s k (left _ _ p)) (target_entries-alike t to (right _ _ p))) (pattern_entries-alike (behind_target there first late t (filled_target b to)) to (right _ _ p)))
    take_entries-alike s (initializers n) q p = absurd (cc)
    take_entries-alike s c q p = refl

    callee_entries-alike : (s : Environment) (f : Callee) → admits_callee names plain_ones f ≡ true → callee_entries opens first late (without names s) (filled_callee a f) ≡ callee_entries there first late s (filled_callee b f)
    callee_entries-alike s (plain c) p = entries-alike s c p
    callee_entries-alike s (on_member m o k) p = let q1 : admits names plain_ones o ≡ true = left _ _ p in rw (behind_code-alike s o q1) (joined (entries-alike s o (left _ _ p)) (entries-alike (behind_code there first late s (filled b o)) k (right _ _ p)))
    callee_entries-alike s (on_private m x o) p = entries-alike s o p
    callee_entries-alike s (on_super m home k this) p = entries-alike s k p
    callee_entries-alike s (with_receiver f o) p = let q1 : admits names plain_ones f ≡ true = left _ _ p in rw (behind_code-alike s f q1) (joined (entries-alike s f (left _ _ p)) (entries-alike (behind_code there first late s (filled b f)) o (right _ _ p)))
    callee_entries-alike s (checked f) p = callee_entries-alike s f p
    callee_entries-alike s (on_chain m f) p = callee_entries-alike s f p
    callee_entries-alike s (behind_test o again f) p =
        let t : Environment = behind_code there first late s (filled b o) in
        let q1 : admits names plain_ones o ≡ true = left _ _ p in rw (behind_code-alike s o q1) (joined (joined (entries-alike s o (left _ _ p)) (all_entries-alike t again (left _ _ (right _ _ p)))) (callee_entries-alike t f (right _ _ (right _ _ p))))

    all_entries-alike : (s : Environment) (cs : Codes) → admits_all names plain_ones cs ≡ true → all_entries opens first late (without names s) (filled_all a cs) ≡ all_entries there first late s (filled_all b cs)
    all_entries-alike s done p = refl
    all_entries-alike s (and c cs) p = let q1 : admits names plain_ones c ≡ true = left _ _ p in rw (behind_code-alike s c q1) (joined (entries-alike s c (left _ _ p)) (all_entries-alike (behind_code there first late s (filled b c)) cs (right _ _ p)))

    held_entries-alike : (s : Environment) (cs : Codes) → admits_all names plain_ones cs ≡ true → held_entries opens first late (without names s) (filled_all a cs) ≡ held_entries there first late s (filled_all b cs)
    held_entries-alike s done p = refl
    held_entries-alike s (and c cs) p = joined (entries-alike s c (left _ _ p)) (held_entries-alike s cs (right _ _ p))

    parameter_entries-alike : (s : Environment) (cs : Codes) → none_is_hole cs ≡ true → admits_all names plain_ones cs ≡ true → parameter_entries opens first late (without names s) (filled_all a cs) ≡ parameter_entries there first late s (filled_all b cs)
    parameter_entries-alike s done q p = refl
    parameter_entries-alike s (and (pattern m to) cs) q p = joined (joined (target_entries-alike s to (left _ _ p)) (pattern_entries-alike s to (left _ _ p))) (parameter_entries-alike s cs q (right _ _ p))
    parameter_entries-alike s (and (rest to) cs) q p = joined (joined (target_entries-alike s to (left _ _ p)) (pattern_entries-alike s to (left _ _ p))) (parameter_entries-alike s cs q (right _ _ p))
    parameter_entries-alike s (and (initializers n) cs) q p = absurd (cc)
    parameter_entries-alike s (and c cs) q p = parameter_entries-alike s cs (right (not (is_hole c)) (none_is_hole cs) q) (right (admits names plain_ones c) (admits_all names plain_ones cs) p)

    key_entries-alike : (s : Environment) (cs : Codes) → none_is_hole cs ≡ true → admits_all names plain_ones cs ≡ true → key_entries opens first late (without names s) (filled_all a cs) ≡ key_entries there first late s (filled_all b cs)
    key_entries-alike s done q p = refl
    key_entries-alike s (and c cs) q p = let q1 : not (is_hole c) ≡ true = left _ _ q in let q2 : admits names plain_ones c ≡ true = left _ _ p in rw (behind_key-alike s c q1 q2) (joined (key_entry-alike s c (left _ _ q) (left _ _ p)) (key_entries-alike (behind_key there first late s (filled b c)) cs (right _ _ q) (right _ _ p)))

    key_entry-alike : (s : Environment) (c : Code) → not (is_hole c) ≡ true → admits names plain_ones c ≡ true → key_entry opens first late (without names s) (filled a c) ≡ key_entry there first late s (filled b c)
    key_entry-alike s (field is_static form k r) q p = entries-alike s k (left _ _ p)
    key_entry-alike s (method is_static kind k f) q p = entries-alike s k (left _ _ (right _ _ p))
    key_entry-alike s (initializers n) q p = absurd (cc)
    key_entry-alike s c q p = refl

    static_entries-alike : (n : ℕ) (s : Environment) (cs : Codes) → none_is_hole cs ≡ true → admits_all names plain_ones cs ≡ true → static_entries opens first late n (without names s) (filled_all a cs) ≡ static_entries there first late n s (filled_all b cs)
    static_entries-alike n s done q p = refl
    static_entries-alike n s (and c cs) q p = let q1 : not (is_hole c) ≡ true = left _ _ q in let q2 : admits names plain_ones c ≡ true = left _ _ p in rw (behind_static-alike n s c q1 q2) (joined (static_entry-alike s c (left _ _ q) (left _ _ p)) (static_entries-alike n (after_run s (ev_static there n Undefined (filled b c) s)) cs (right _ _ q) (right _ _ p)))

    static_entry-alike : (s : Environment) (c : Code) → not (is_hole c) ≡ true → admits names plain_ones c ≡ true → static_entry opens first late (without names s) (filled a c) ≡ static_entry there first late s (filled b c)
    static_entry-alike s (field true form k r) q p = entries-alike s r (right _ _ p)
    static_entry-alike s (private_field true d r) q p = entries-alike s r p
    static_entry-alike s (static_block cs) q p = all_entries-alike s cs p
    static_entry-alike s (generated_element x r) q p = entries-alike s r (right _ _ p)
    static_entry-alike s (initializers n) q p = absurd (cc)
    static_entry-alike s c q p = refl

    field_entries-alike : (n : ℕ) (s : Environment) (cs : Codes) → none_is_hole cs ≡ true → admits_all names plain_ones cs ≡ true → field_entries opens first late n (without names s) (filled_all a cs) ≡ field_entries there first late n s (filled_all b cs)
    field_entries-alike n s done q p = refl
    field_entries-alike n s (and c cs) q p = let q1 : not (is_hole c) ≡ true = left _ _ q in let q2 : admits names plain_ones c ≡ true = left _ _ p in rw (after-same names (ev_field-replaced names opens there follow plain_ones a b at_hole n c q1 q2) s) (joined (field_entry-alike s c (left _ _ q) (left _ _ p)) (field_entries-alike n (after_run s (ev_field there n (filled b c) s)) cs (right _ _ q) (right _ _ p)))

    field_entry-alike : (s : Environment) (c : Code) → not (is_hole c) ≡ true → admits names plain_ones c ≡ true → field_entry opens first late (without names s) (filled a c) ≡ field_entry there first late s (filled b c)
    field_entry-alike s (field false form k r) q p = entries-alike s r (right _ _ p)
    field_entry-alike s (private_field false d r) q p = entries-alike s r p
    field_entry-alike s (initializers n) q p = absurd (cc)
    field_entry-alike s c q p = refl

    function_entries-alike : (s i : Environment) (cs : Codes) → none_is_hole cs ≡ true → admits_all names plain_ones cs ≡ true → function_entries opens first late (without names s) (without names i) (filled_all a cs) ≡ function_entries there first late s i (filled_all b cs)
    function_entries-alike s i done q p = refl
    function_entries-alike s i (and c cs) q p = joined (element_function-alike s i c (left _ _ q) (left _ _ p)) (function_entries-alike s i cs (right _ _ q) (right _ _ p))

    element_function-alike : (s i : Environment) (c : Code) → not (is_hole c) ≡ true → admits names plain_ones c ≡ true → element_function opens first late (without names s) (without names i) (filled a c) ≡ element_function there first late s i (filled b c)
    element_function-alike s i (method is_static kind k f) q p = entries-alike s f (right _ _ (right _ _ p))
    element_function-alike s i (private_method is_static d f) q p = entries-alike s f (right _ _ p)
    element_function-alike s i (constructor (function f form own_name ps body)) q p = let q1 : none_is_hole ps ≡ true = left _ _ p in let q2 : admits_all names plain_ones ps ≡ true = left _ _ (right _ _ p) in rw (behind_parameters-alike i ps q1 q2) (joined (parameter_entries-alike i ps (left _ _ p) (left _ _ (right _ _ p))) (entries-alike (behind_parameters there first late i (filled_all b ps)) body (right _ _ (right _ _ p))))
    element_function-alike s i (constructor (new_function f form ps body)) q p = let x = of_function names plain_ones f form ps body p in rw (behind_parameters-alike i ps x.none x.parameters) (joined (parameter_entries-alike i ps x.none x.parameters) (entries-alike (behind_parameters there first late i (filled_all b ps)) body x.body))
    element_function-alike s i (constructor (initializers n)) q p = absurd (cc)
    element_function-alike s i (initializers n) q p = absurd (cc)
    element_function-alike s i c q p = refl
