-- The entries of functions and classes follow a change of numbers.
use Rattle.std.specs.Prelude.{◌≡◌, ℕ, suc, List, [], ◌∷◌, ◌++◌, map, Bool, true, false, cond, ◌&&◌, Option, Some, None}
use Rattle.std.proofs.Common.{refl, ap, ap₂, ◌∙◌}
use Rattle.es_steps.specs.Code.{Code, Codes, Target, Callee, FunctionForm, Opened, binding, rest, member, private_member, super_member, private_in, assign, compound, logical, logical_assign, update, call, tag, construct, super_call, sequence, template, operation, chain, short, tested, pattern, takes, steps, gives_to, export_default, function, new_function, class_code, field, private_field, method, private_method, constructor, static_block, generated_element, from_call, from_member, key_of, define, private_initialize, call_arrow, call_closure, give_function, give_class, to_name, to_member, to_private, to_super, to_setter, to_pattern, to_default, plain, on_member, on_private, on_super, with_receiver, checked, on_chain, behind_test, done, and}
use Rattle.es_steps.specs.Entries.{Parameter, Identifier, RestIdentifier, Pattern, Method, Listed, is_string_among, without, parameter_of, parameters_of, constructor_form, constructor_parameters, no_constructor, if_one, in_order, is_identifier, all_identifiers, entered, ev_parameter, ev_parameters, ev_given, ev_body, ev_construction, listed, value_in, after_run, is_quiet_run, function_entry, class_entry, some_value, method_with, Entries, heritage_in, same_nullable, behind_key, methods_in, keys_stay, behind_code, behind_all, behind_target, behind_callee, behind_arguments, behind_parameters, behind_fields, behind_leading, leading, elements_start, entries, target_entries, pattern_entries, taken_entries, take_entries, callee_entries, all_entries, held_entries, parameter_entries, key_entries, key_entry, static_entries, static_entry, field_entries, field_entry, function_entries, element_function}
use Rattle.es_steps.specs.Evaluation.{Environment, Run, Evaluation, gives, event, bind, write_ready, ev, ev_target, ev_take, ev_keys, ev_static, ev_field, ev_initializers}
use Rattle.es_steps.specs.Events.{Take, Index, Rest, Operate, SuperCallWithAll, EnterBody}
use Rattle.es_steps.specs.GeneratedForms.{is_plain}
use Rattle.es_steps.specs.Opening.{all_arguments, assigned_in, assigned_in_all}
use Rattle.es_steps.specs.References.{has_number}
use Rattle.es_steps.specs.Values.{String, Value, Undefined, ThisOf, ResultOf}
use Rattle.es_steps.proofs.EvaluationMapped.{is_none-mapped, added_private-mapped, as_key-mapped, same_value-mapped, Follows, no_meaning-follows, gives-follows, event-follows, bind-follows, value_behind-mapped, bind_parameters-follows, ev-follows, ev_target-follows, ev_take-follows, ev_callee-follows, ev_all-follows, ev_keys-follows, ev_key-follows, ev_static-follows, ev_field-follows, ev_initializers-follows}
use Rattle.es_steps.proofs.Mapped.{Renames, mapped_option, mapped_value, mapped_nullable, mapped_given, mapped_environment, mapped_runs, mapped_opened, mapped_code, mapped_target, mapped_callee, mapped_codes, mapped_listed, mapped_parameter, mapped_parameters, mapped_methods, mapped_entry, mapped_nullable_entry, mapped_entries}
use Rattle.es_steps.proofs.OpeningMapped.{all_arguments-mapped, assigned_in-mapped, assigned_in_all-mapped}
use Rattle.es_steps.proofs.PartsMapped.{cond-mapped, append-mapped}
use Rattle.es_steps.proofs.ReferencesMapped.{has_number-mapped}

module _ (f : ℕ → ℕ) where
  -- ---- environments and parameters

  pub without-mapped : (names : List String) (s : Environment) → without names (mapped_environment f s) ≡ mapped_environment f (without names s)
  without-mapped names [] = refl
  without-mapped names (p ∷ ps) = cond-mapped (mapped_environment f) (is_string_among p.0 names) (without names ps) (p ∷ without names ps) (without-mapped names ps) (ap (λ rest. (p.0, mapped_value f p.1) ∷ rest) (without-mapped names ps))

  parameter_of-mapped : (c : Code) → parameter_of (mapped_code f c) ≡ mapped_parameters f (parameter_of c)
  parameter_of-mapped (binding b s kind) = refl
  parameter_of-mapped (rest (to_name b s kind)) = refl
  parameter_of-mapped (rest to) = refl
  parameter_of-mapped c = refl

  pub parameters_of-mapped : (cs : Codes) → parameters_of (mapped_codes f cs) ≡ mapped_parameters f (parameters_of cs)
  parameters_of-mapped done = refl
  parameters_of-mapped (and c cs) = append-mapped (mapped_parameter f) _ _ (parameter_of-mapped c) (parameters_of-mapped cs)

  is_identifier-mapped : (p : Parameter) → is_identifier (mapped_parameter f p) ≡ is_identifier p
  is_identifier-mapped Pattern = refl
  is_identifier-mapped (Identifier b) = refl
  is_identifier-mapped (RestIdentifier b) = refl

  all_identifiers-mapped : (ps : List Parameter) → all_identifiers (mapped_parameters f ps) ≡ all_identifiers ps
  all_identifiers-mapped [] = refl
  all_identifiers-mapped (p ∷ ps) = ap₂ (λ a b. a && b) (is_identifier-mapped p) (all_identifiers-mapped ps)

  entered-follows : (plain : Bool) → Follows f (entered plain) (entered plain)
  entered-follows true = gives-follows f Undefined
  entered-follows false = event-follows f EnterBody Undefined

  constructor_form-mapped : (cs : Codes) → constructor_form (mapped_codes f cs) ≡ constructor_form cs
  constructor_form-mapped done = refl
  constructor_form-mapped (and (constructor (function g form own ps body)) cs) = refl
  constructor_form-mapped (and c cs) = constructor_form-mapped cs

  constructor_parameters-mapped : (cs : Codes) → constructor_parameters (mapped_codes f cs) ≡ mapped_parameters f (constructor_parameters cs)
  constructor_parameters-mapped done = refl
  constructor_parameters-mapped (and (constructor (function g form own ps body)) cs) = parameters_of-mapped ps
  constructor_parameters-mapped (and c cs) = constructor_parameters-mapped cs

  no_constructor-mapped : (cs : Codes) → no_constructor (mapped_codes f cs) ≡ no_constructor cs
  no_constructor-mapped done = refl
  no_constructor-mapped (and (constructor g) cs) = refl
  no_constructor-mapped (and c cs) = no_constructor-mapped cs

  if_one-follows : {a b : Evaluation} (one : Bool) → Follows f a b → Follows f (if_one one a) (if_one one b)
  if_one-follows true all = all
  if_one-follows false all = no_meaning-follows f

  in_order-follows : {a b c d x y : Evaluation} (late : Bool) → Follows f a b → Follows f c d → Follows f x y → Follows f (in_order late a c x) (in_order late b d y)
  in_order-follows {a = a} {b = b} {c = c} {d = d} {x = x} {y = y} true fields parameters body = bind-follows f (λ v. bind a (λ w. x)) (λ v. bind b (λ w. y)) parameters (λ v. bind-follows f (λ w. x) (λ w. y) fields (λ w. body))
  in_order-follows {a = a} {b = b} {c = c} {d = d} {x = x} {y = y} false fields parameters body = bind-follows f (λ v. bind c (λ w. x)) (λ v. bind d (λ w. y)) fields (λ v. bind-follows f (λ w. x) (λ w. y) parameters (λ w. body))

  -- ---- what is read of a run

  pub listed-mapped : (x : Option Run) → listed (mapped_runs f x) ≡ mapped_option (mapped_listed f) (listed x)
  listed-mapped None = refl
  listed-mapped (Some x) = rw (value_behind-mapped f x.events x.value) refl

  pub value_in-mapped : (x : Option Run) → value_in (mapped_runs f x) ≡ mapped_nullable f (value_in x)
  value_in-mapped None = refl
  value_in-mapped (Some x) = rw (value_behind-mapped f x.events x.value) refl

  pub after_run-mapped : (s : Environment) (x : Option Run) → after_run (mapped_environment f s) (mapped_runs f x) ≡ mapped_environment f (after_run s x)
  after_run-mapped s None = refl
  after_run-mapped s (Some x) = refl

  pub after-follows : {a b : Evaluation} → Follows f a b → (s : Environment) → after_run (mapped_environment f s) (b (mapped_environment f s)) ≡ mapped_environment f (after_run s (a s))
  after-follows {a = a} all s = ap (after_run (mapped_environment f s)) (all.on s) ∙ after_run-mapped s (a s)

  is_quiet_run-mapped : (x : Option Run) → is_quiet_run (mapped_runs f x) ≡ is_quiet_run x
  is_quiet_run-mapped None = refl
  is_quiet_run-mapped (Some x) = is_none-mapped f x.events

  pub quiet-run-follows : {a b : Evaluation} → Follows f a b → (s : Environment) → is_quiet_run (b (mapped_environment f s)) ≡ is_quiet_run (a s)
  quiet-run-follows {a = a} all s = ap is_quiet_run (all.on s) ∙ is_quiet_run-mapped (a s)

  pub listed-follows : {a b : Evaluation} → Follows f a b → (s : Environment) → listed (b (mapped_environment f s)) ≡ mapped_option (mapped_listed f) (listed (a s))
  listed-follows {a = a} all s = ap listed (all.on s) ∙ listed-mapped (a s)

  function_entry-mapped : (form : FunctionForm) (own : Option ℕ) (ps : List Parameter) (l : Option Listed) → function_entry form (mapped_option f own) (mapped_parameters f ps) (mapped_option (mapped_listed f) l) ≡ mapped_option (mapped_entry f) (function_entry form own ps l)
  function_entry-mapped form own ps None = refl
  function_entry-mapped form own ps (Some l) = refl

  class_entry-mapped : (stay : Bool) (declared : Option ℕ) (form : FunctionForm) (ps : List Parameter) (h : Option (Option Value)) (ms : Option (List Method)) (l : Option Listed) → class_entry stay (mapped_option f declared) form (mapped_parameters f ps) (mapped_option (mapped_nullable f) h) (mapped_option (mapped_methods f) ms) (mapped_option (mapped_listed f) l) ≡ mapped_option (mapped_entry f) (class_entry stay declared form ps h ms l)
  class_entry-mapped true declared form ps (Some h) (Some ms) (Some l) = refl
  class_entry-mapped stay declared form ps h ms l = refl

  some_value-mapped : (v : Option Value) → some_value (mapped_nullable f v) ≡ mapped_option (mapped_nullable f) (some_value v)
  some_value-mapped None = refl
  some_value-mapped (Some v) = refl

  method_with-mapped : (is_static : Bool) (kind : String) (k : Option Value) (g : Code) (ms : Option (List Method)) → method_with is_static kind (mapped_nullable f k) (mapped_code f g) (mapped_option (mapped_methods f) ms) ≡ mapped_option (mapped_methods f) (method_with is_static kind k g ms)
  method_with-mapped is_static kind (Some k) (function g form own ps body) (Some ms) = rw (as_key-mapped f k) refl
  method_with-mapped is_static kind k g ms = refl

  joined-entries : (xs ys : Entries) {zs ws : Entries} → zs ≡ mapped_entries f xs → ws ≡ mapped_entries f ys → zs ++ ws ≡ mapped_entries f (xs ++ ys)
  joined-entries xs ys p q = append-mapped (mapped_nullable_entry f) xs ys p q

module _ {first : ℕ} {f : ℕ → ℕ} (r : Renames first f) (opens there : Opened → Evaluation) (follow : (o : Opened) → Follows f (opens o) (there (mapped_opened f o))) (late : List ℕ) where
  abbrev later : List ℕ
  later = map f late

  ready_parameter-follows : (m i : ℕ) (is_rest : Bool) (to : Target) → Follows f (ev_target opens to (λ t. bind (event (Operate m (Take (cond is_rest (Index i ∷ Rest ∷ []) (Index i ∷ []))) []) (ResultOf m)) (λ v. write_ready t v))) (ev_target there (mapped_target f to) (λ t. bind (event (Operate (f m) (Take (cond is_rest (Index i ∷ Rest ∷ []) (Index i ∷ []))) []) (ResultOf (f m))) (λ v. write_ready t v)))
  ready_parameter-follows m i is_rest to = ev_target-follows r opens there follow to _ _ (λ t u x. bind-follows f (λ v. write_ready t v) (λ v. write_ready u v) (event-follows f (Operate m (Take (cond is_rest (Index i ∷ Rest ∷ []) (Index i ∷ []))) []) (ResultOf m)) (λ v. x.writes v))

  ev_parameter-follows : (i : ℕ) (c : Code) → Follows f (ev_parameter opens first late i c) (ev_parameter there first later i (mapped_code f c))
  ev_parameter-follows i (binding b s kind) = gives-follows f _
  ev_parameter-follows i (rest (to_name b s kind)) = gives-follows f _
  ev_parameter-follows i (pattern m to) = ready_parameter-follows m i false to
  ev_parameter-follows i (rest (to_pattern m kind cs)) = ready_parameter-follows m i true (to_pattern m kind cs)
  ev_parameter-follows i (rest to) = no_meaning-follows f
  ev_parameter-follows i c = no_meaning-follows f

  ev_parameters-follows : (i : ℕ) (cs : Codes) → Follows f (ev_parameters opens first late i cs) (ev_parameters there first later i (mapped_codes f cs))
  ev_parameters-follows i done = gives-follows f _
  ev_parameters-follows i (and c cs) = bind-follows f _ _ (ev_parameter-follows i c) (λ v. ev_parameters-follows (suc i) cs)

  ev_given-follows : (cs : Codes) → Follows f (ev_given opens first late cs) (ev_given there first later (mapped_codes f cs))
  ev_given-follows cs = bind-follows f _ _ (ev_parameters-follows 0 cs) (λ v. rw (parameters_of-mapped f cs, all_identifiers-mapped f (parameters_of cs)) (entered-follows f (all_identifiers (parameters_of cs))))

  ev_body-follows : (ps : Codes) (body : Code) → Follows f (ev_body opens first late ps body) (ev_body there first later (mapped_codes f ps) (mapped_code f body))
  ev_body-follows ps body = bind-follows f _ _ (ev_given-follows ps) (λ v. ev-follows r opens there follow body)

  initializers-follow : (n : ℕ) (es : Codes) → Follows f (ev_initializers opens n es) (ev_initializers there (f n) (mapped_codes f es))
  initializers-follow n es = ev_initializers-follows r opens there follow n es

  base-follows : (n : ℕ) (all ps es : Codes) (body : Code) → Follows f (if_one (no_constructor es) (in_order (has_number n late) (ev_initializers opens n all) (ev_given opens first late ps) (ev opens body))) (if_one (no_constructor (mapped_codes f es)) (in_order (has_number (f n) later) (ev_initializers there (f n) (mapped_codes f all)) (ev_given there first later (mapped_codes f ps)) (ev there (mapped_code f body))))
  base-follows n all ps es body = rw (no_constructor-mapped f es, has_number-mapped r n late) (if_one-follows f (no_constructor es) (in_order-follows f (has_number n late) (initializers-follow n all) (ev_given-follows ps) (ev-follows r opens there follow body)))

  derived-follows : (ps es : Codes) (body : Code) → Follows f (if_one (no_constructor es) (ev_body opens first late ps body)) (if_one (no_constructor (mapped_codes f es)) (ev_body there first later (mapped_codes f ps) (mapped_code f body)))
  derived-follows ps es body = rw (no_constructor-mapped f es) (if_one-follows f (no_constructor es) (ev_body-follows ps body))

  new_base-follows : (n : ℕ) (all es : Codes) (form : FunctionForm) (body : Code) → Follows f (if_one (no_constructor es && is_plain form) (bind (ev_initializers opens n all) (λ v. ev opens body))) (if_one (no_constructor (mapped_codes f es) && is_plain form) (bind (ev_initializers there (f n) (mapped_codes f all)) (λ v. ev there (mapped_code f body))))
  new_base-follows n all es form body = rw (no_constructor-mapped f es) (if_one-follows f (no_constructor es && is_plain form) (bind-follows f (λ v. ev opens body) (λ v. ev there (mapped_code f body)) (initializers-follow n all) (λ v. ev-follows r opens there follow body)))

  new_derived-follows : (ps es : Codes) (form : FunctionForm) (body : Code) → Follows f (if_one (no_constructor es && (is_plain form && all_arguments ps)) (ev opens body)) (if_one (no_constructor (mapped_codes f es) && (is_plain form && all_arguments (mapped_codes f ps))) (ev there (mapped_code f body)))
  new_derived-follows ps es form body = rw (no_constructor-mapped f es, all_arguments-mapped r ps) (if_one-follows f (no_constructor es && (is_plain form && all_arguments ps)) (ev-follows r opens there follow body))

  ev_construction-follows : (n : ℕ) (h all es : Codes) → Follows f (ev_construction opens first late n h all es) (ev_construction there first later (f n) (mapped_codes f h) (mapped_codes f all) (mapped_codes f es))
  ev_construction-follows n done all (and (constructor (function g form own ps body)) es) = base-follows n all ps es body
  ev_construction-follows n done all (and (constructor (new_function g form done body)) es) = new_base-follows n all es form body
  ev_construction-follows n (and h hs) all (and (constructor (function g form own ps body)) es) = derived-follows ps es body
  ev_construction-follows n (and h hs) all (and (constructor (new_function g form ps body)) es) = new_derived-follows ps es form body
  ev_construction-follows n h all (and (constructor e) es) = no_meaning-follows f
  ev_construction-follows n h all (and e es) = ev_construction-follows n h all es
  ev_construction-follows n done all done = initializers-follow n all
  ev_construction-follows n (and h hs) all done = bind-follows f (λ v. ev_initializers opens n all) (λ v. ev_initializers there (f n) (mapped_codes f all)) (event-follows f (SuperCallWithAll n) (ThisOf n)) (λ v. initializers-follow n all)

  value_of-mapped : (s : Environment) (c : Code) → value_in (ev there (mapped_code f c) (mapped_environment f s)) ≡ mapped_nullable f (value_in (ev opens c s))
  value_of-mapped s c = ap value_in ((ev-follows r opens there follow c).on s) ∙ value_in-mapped f (ev opens c s)

  heritage_in-mapped : (s : Environment) (h : Codes) → heritage_in there first later (mapped_environment f s) (mapped_codes f h) ≡ mapped_option (mapped_nullable f) (heritage_in opens first late s h)
  heritage_in-mapped s done = refl
  heritage_in-mapped s (and h hs) = ap some_value (value_of-mapped s h) ∙ some_value-mapped f (value_in (ev opens h s))

  behind_key-mapped : (s : Environment) (c : Code) → behind_key there first later (mapped_environment f s) (mapped_code f c) ≡ mapped_environment f (behind_key opens first late s c)
  behind_key-mapped s c = after-follows f (ev_key-follows r opens there follow c) s

  behind_value-mapped : (s : Environment) (c : Code) → after_run (mapped_environment f s) (ev there (mapped_code f c) (mapped_environment f s)) ≡ mapped_environment f (after_run s (ev opens c s))
  behind_value-mapped s c = after-follows f (ev-follows r opens there follow c) s

  same_nullable-mapped : (v w : Option Value) → same_nullable (mapped_nullable f v) (mapped_nullable f w) ≡ same_nullable v w
  same_nullable-mapped None w = refl
  same_nullable-mapped (Some v) None = refl
  same_nullable-mapped (Some v) (Some w) = same_value-mapped r v w

  keys_stay-mapped : (s i : Environment) (es : Codes) → keys_stay there first later (mapped_environment f s) (mapped_environment f i) (mapped_codes f es) ≡ keys_stay opens first late s i es
  keys_stay-mapped s i done = refl
  keys_stay-mapped s i (and (field false form k e) es) = rw (value_of-mapped s k, value_of-mapped i k, same_nullable-mapped (value_in (ev opens k s)) (value_in (ev opens k i)), behind_value-mapped s k, keys_stay-mapped (after_run s (ev opens k s)) i es) refl
  keys_stay-mapped s i (and e es) = rw (behind_key-mapped s e) (keys_stay-mapped (behind_key opens first late s e) i es)

  methods_in-mapped : (s : Environment) (es : Codes) → methods_in there first later (mapped_environment f s) (mapped_codes f es) ≡ mapped_option (mapped_methods f) (methods_in opens first late s es)
  methods_in-mapped s done = refl
  methods_in-mapped s (and (method is_static kind k g) es) = rw (value_of-mapped s k, behind_value-mapped s k, methods_in-mapped (after_run s (ev opens k s)) es) (method_with-mapped f is_static kind (value_in (ev opens k s)) g (methods_in opens first late (after_run s (ev opens k s)) es))
  methods_in-mapped s (and e es) = rw (behind_key-mapped s e) (methods_in-mapped (behind_key opens first late s e) es)

  -- ---- where evaluations lead

  behind_code-mapped : (s : Environment) (c : Code) → behind_code there first later (mapped_environment f s) (mapped_code f c) ≡ mapped_environment f (behind_code opens first late s c)
  behind_code-mapped s c = after-follows f (ev-follows r opens there follow c) s

  behind_all-mapped : (s : Environment) (cs : Codes) → behind_all there first later (mapped_environment f s) (mapped_codes f cs) ≡ mapped_environment f (behind_all opens first late s cs)
  behind_all-mapped s cs = after-follows f (ev_all-follows r opens there follow cs _ _ (λ vs. gives-follows f Undefined)) s

  behind_target-mapped : (s : Environment) (to : Target) → behind_target there first later (mapped_environment f s) (mapped_target f to) ≡ mapped_environment f (behind_target opens first late s to)
  behind_target-mapped s to = after-follows f (ev_target-follows r opens there follow to _ _ (λ t u x. gives-follows f Undefined)) s

  behind_callee-mapped : (s : Environment) (callee : Callee) → behind_callee there first later (mapped_environment f s) (mapped_callee f callee) ≡ mapped_environment f (behind_callee opens first late s callee)
  behind_callee-mapped s callee = after-follows f (ev_callee-follows r opens there follow callee (λ v receiver. gives v) (λ v receiver. gives v) (λ v receiver. gives-follows f v)) s

  behind_arguments-mapped : (s : Environment) (ss : List String) (es : Codes) → behind_arguments there first later (mapped_environment f s) ss (mapped_codes f es) ≡ mapped_environment f (behind_arguments opens first late s ss es)
  behind_arguments-mapped s ss es = after-follows f (ev_all-follows r opens there follow es _ _ (λ vs. bind_parameters-follows f ss vs)) s

  behind_parameters-mapped : (s : Environment) (ps : Codes) → behind_parameters there first later (mapped_environment f s) (mapped_codes f ps) ≡ mapped_environment f (behind_parameters opens first late s ps)
  behind_parameters-mapped s ps = after-follows f (ev_given-follows ps) s

  behind_fields-mapped : (s : Environment) (n : ℕ) (h es : Codes) → behind_fields there first later (mapped_environment f s) (f n) (mapped_codes f h) (mapped_codes f es) ≡ mapped_environment f (behind_fields opens first late s n h es)
  behind_fields-mapped s n done es = after-follows f (initializers-follow n es) s
  behind_fields-mapped s n (and h hs) es = refl

  behind_leading-mapped : (n : ℕ) (s : Environment) (cs : Codes) → behind_leading there first later (f n) (mapped_environment f s) (mapped_codes f cs) ≡ mapped_environment f (behind_leading opens first late n s cs)
  behind_leading-mapped n s (and (generated_element x c) cs) =
      let element : Follows f (ev_static opens n Undefined (generated_element x c)) (ev_static there (f n) Undefined (generated_element x (mapped_code f c))) = ev_static-follows r opens there follow n Undefined (generated_element x c) in
      rw (quiet-run-follows f element s, after-follows f element s)
      (cond-mapped (mapped_environment f) (is_quiet_run (ev_static opens n Undefined (generated_element x c) s)) _ s (behind_leading-mapped n (after_run s (ev_static opens n Undefined (generated_element x c) s)) cs) refl)
  behind_leading-mapped n s (and (field false form k c) cs) = behind_leading-mapped n s cs
  behind_leading-mapped n s (and (private_field false d c) cs) = behind_leading-mapped n s cs
  behind_leading-mapped n s (and (method is_static kind k g) cs) = behind_leading-mapped n s cs
  behind_leading-mapped n s (and (private_method is_static d g) cs) = behind_leading-mapped n s cs
  behind_leading-mapped n s (and (constructor g) cs) = behind_leading-mapped n s cs
  behind_leading-mapped n s cs = refl

  leading-mapped : (n : ℕ) (s : Environment) (cs : Codes) → leading there first later (f n) (mapped_environment f s) (mapped_codes f cs) ≡ mapped_environment f (leading opens first late n s cs)
  leading-mapped n s cs = rw (behind_leading-mapped n s cs) (added_private-mapped f (behind_leading opens first late n s cs) s)

  elements_start-mapped : (n : ℕ) (s b : Environment) (es : Codes) → elements_start there first later (f n) (mapped_environment f s) (mapped_environment f b) (mapped_codes f es) ≡ mapped_environment f (elements_start opens first late n s b es)
  elements_start-mapped n s b es = append-mapped (mapped_given f) _ _ (leading-mapped n b es) (rw (assigned_in_all-mapped f es) (without-mapped f (assigned_in_all es) s))

  -- ---- entries

  body_start-mapped : (e : Environment) (ps : Codes) (body : Code) → without (assigned_in_all (mapped_codes f ps) ++ assigned_in (mapped_code f body)) (mapped_environment f e) ≡ mapped_environment f (without (assigned_in_all ps ++ assigned_in body) e)
  body_start-mapped e ps body = rw (assigned_in_all-mapped f ps, assigned_in-mapped f body) (without-mapped f (assigned_in_all ps ++ assigned_in body) e)

  given_start-mapped : (e : Environment) (body : Code) → without (assigned_in (mapped_code f body)) (mapped_environment f e) ≡ mapped_environment f (without (assigned_in body) e)
  given_start-mapped e body = rw (assigned_in-mapped f body) (without-mapped f (assigned_in body) e)

  -- s is the environment in front of the class, a that behind its heritage, i that of its construction
  entry_of_class-mapped : (n : ℕ) (declared : Option ℕ) (h es : Codes) (s a i : Environment) → class_entry (keys_stay there first later (mapped_environment f a) (mapped_environment f i) (mapped_codes f es)) (mapped_option f declared) (constructor_form (mapped_codes f es)) (constructor_parameters (mapped_codes f es)) (heritage_in there first later (mapped_environment f s) (mapped_codes f h)) (methods_in there first later (mapped_environment f a) (mapped_codes f es)) (listed (ev_construction there first later (f n) (mapped_codes f h) (mapped_codes f es) (mapped_codes f es) (mapped_environment f i))) ≡ mapped_option (mapped_entry f) (class_entry (keys_stay opens first late a i es) declared (constructor_form es) (constructor_parameters es) (heritage_in opens first late s h) (methods_in opens first late a es) (listed (ev_construction opens first late n h es es i)))
  entry_of_class-mapped n declared h es s a i = rw (keys_stay-mapped a i es, constructor_form-mapped f es, constructor_parameters-mapped f es, heritage_in-mapped s h, methods_in-mapped a es, listed-follows f (ev_construction-follows n h es es) i) (class_entry-mapped f (keys_stay opens first late a i es) declared (constructor_form es) (constructor_parameters es) (heritage_in opens first late s h) (methods_in opens first late a es) (listed (ev_construction opens first late n h es es i)))

  mutual
    pub entries-mapped : (s : Environment) (c : Code) → entries there first later (mapped_environment f s) (mapped_code f c) ≡ mapped_entries f (entries opens first late s c)
    entries-mapped s (member m o k) = rw (behind_code-mapped s o) (joined-entries f _ _ (entries-mapped s o) (entries-mapped (behind_code opens first late s o) k))
    entries-mapped s (private_member m x o) = entries-mapped s o
    entries-mapped s (super_member m home k this) = entries-mapped s k
    entries-mapped s (private_in m test o) = entries-mapped s o
    entries-mapped s (assign to q) =
        let a : Environment = behind_target opens first late s to in
        rw (behind_target-mapped s to, behind_code-mapped a q) (joined-entries f _ _ (joined-entries f _ _ (target_entries-mapped s to) (entries-mapped a q)) (pattern_entries-mapped (behind_code opens first late a q) to))
    entries-mapped s (compound m op to q) = rw (behind_target-mapped s to) (joined-entries f _ _ (target_entries-mapped s to) (entries-mapped (behind_target opens first late s to) q))
    entries-mapped s (logical m op l q) =
        let a : Environment = behind_code opens first late s l in
        rw (behind_code-mapped s l) (joined-entries f _ _ (entries-mapped s l) (entries-mapped a q))
    entries-mapped s (logical_assign m op to q) =
        let a : Environment = behind_target opens first late s to in
        rw (behind_target-mapped s to) (joined-entries f _ _ (target_entries-mapped s to) (entries-mapped a q))
    entries-mapped s (update m op prefix to) = target_entries-mapped s to
    entries-mapped s (call m g es) = rw (behind_callee-mapped s g) (joined-entries f _ _ (callee_entries-mapped s g) (all_entries-mapped (behind_callee opens first late s g) es))
    entries-mapped s (tag m g ts es) = rw (behind_callee-mapped s g) (joined-entries f _ _ (callee_entries-mapped s g) (all_entries-mapped (behind_callee opens first late s g) es))
    entries-mapped s (construct m g es) = rw (behind_code-mapped s g) (joined-entries f _ _ (entries-mapped s g) (all_entries-mapped (behind_code opens first late s g) es))
    entries-mapped s (super_call m n o es) = all_entries-mapped s es
    entries-mapped s (sequence es) = all_entries-mapped s es
    entries-mapped s (template m ts es) = all_entries-mapped s es
    entries-mapped s (operation m op es parts) = rw (behind_all-mapped s es) (joined-entries f _ _ (all_entries-mapped s es) (held_entries-mapped (behind_all opens first late s es) parts))
    entries-mapped s (chain m c) = entries-mapped s c
    entries-mapped s (short c) = entries-mapped s c
    entries-mapped s (tested o again c) =
        let a : Environment = behind_code opens first late s o in
        rw (behind_code-mapped s o) (joined-entries f _ _ (joined-entries f _ _ (entries-mapped s o) (all_entries-mapped a again)) (entries-mapped a c))
    entries-mapped s (steps es) = all_entries-mapped s es
    entries-mapped s (gives_to m to) = joined-entries f _ _ (target_entries-mapped s to) (pattern_entries-mapped s to)
    entries-mapped s (export_default c) = entries-mapped s c
    entries-mapped s (function g form own ps body) =
        let start : Environment = without (assigned_in_all ps ++ assigned_in body) s in
        rw (body_start-mapped s ps body, listed-follows f (ev_body-follows ps body) start, behind_parameters-mapped start ps, parameters_of-mapped f ps, function_entry-mapped f form own (parameters_of ps) (listed (ev_body opens first late ps body start)))
        (ap (λ rest. mapped_nullable_entry f (g, function_entry form own (parameters_of ps) (listed (ev_body opens first late ps body start))) ∷ rest) (joined-entries f _ _ (parameter_entries-mapped start ps) (entries-mapped (behind_parameters opens first late start ps) body)))
    entries-mapped s (class_code n declared h es) =
        let a : Environment = behind_all opens first late s h in
        let b : Environment = after_run a (ev_keys opens es (λ ks. gives Undefined) a) in
        let start : Environment = elements_start opens first late n s b es in
        rw (behind_all-mapped s h, after-follows f (ev_keys-follows r opens there follow es (λ ks. gives Undefined) (λ ks. gives Undefined) (λ ks. gives-follows f Undefined)) a, elements_start-mapped n s b es, entry_of_class-mapped n declared h es s a start, behind_fields-mapped start n h es)
        (ap (λ rest. mapped_nullable_entry f (n, class_entry (keys_stay opens first late a start es) declared (constructor_form es) (constructor_parameters es) (heritage_in opens first late s h) (methods_in opens first late a es) (listed (ev_construction opens first late n h es es start))) ∷ rest) (joined-entries f _ _ (joined-entries f _ _ (joined-entries f _ _ (joined-entries f _ _ (all_entries-mapped s h) (key_entries-mapped a es)) (static_entries-mapped n b es)) (field_entries-mapped n start es)) (function_entries-mapped s (behind_fields opens first late start n h es) es)))
    entries-mapped s (from_call c) = entries-mapped s c
    entries-mapped s (from_member c) = entries-mapped s c
    entries-mapped s (key_of c) = entries-mapped s c
    entries-mapped s (define m o k q) = rw (behind_code-mapped s k) (joined-entries f _ _ (entries-mapped s k) (entries-mapped (behind_code opens first late s k) q))
    entries-mapped s (private_initialize m d o q) = entries-mapped s q
    entries-mapped s (call_arrow ss body es) = rw (behind_arguments-mapped s ss es) (joined-entries f _ _ (all_entries-mapped s es) (entries-mapped (behind_arguments opens first late s ss es) body))
    entries-mapped s (call_closure x es) = all_entries-mapped s es
    entries-mapped s (give_function m x g (new_function k form ps body)) = rw (given_start-mapped s body) (entries-mapped (without (assigned_in body) s) body)
    entries-mapped s (give_function m x g (function k form own ps body)) = entries-mapped s (function k form own ps body)
    entries-mapped s (give_function m x g c) = entries-mapped s c
    entries-mapped s (give_class n c) = entries-mapped s c
    entries-mapped s c = refl

    target_entries-mapped : (s : Environment) (to : Target) → target_entries there first later (mapped_environment f s) (mapped_target f to) ≡ mapped_entries f (target_entries opens first late s to)
    target_entries-mapped s (to_member m o k) = rw (behind_code-mapped s o) (joined-entries f _ _ (entries-mapped s o) (entries-mapped (behind_code opens first late s o) k))
    target_entries-mapped s (to_private m x o) = entries-mapped s o
    target_entries-mapped s (to_super m home k this) = entries-mapped s k
    target_entries-mapped s (to_setter m d o) = entries-mapped s o
    target_entries-mapped s (to_default m to d) = target_entries-mapped s to
    target_entries-mapped s to = refl

    pattern_entries-mapped : (s : Environment) (to : Target) → pattern_entries there first later (mapped_environment f s) (mapped_target f to) ≡ mapped_entries f (pattern_entries opens first late s to)
    pattern_entries-mapped s (to_pattern m kind cs) = taken_entries-mapped s cs
    pattern_entries-mapped s (to_default m to d) = joined-entries f _ _ (entries-mapped s d) (pattern_entries-mapped s to)
    pattern_entries-mapped s to = refl

    taken_entries-mapped : (s : Environment) (cs : Codes) → taken_entries there first later (mapped_environment f s) (mapped_codes f cs) ≡ mapped_entries f (taken_entries opens first late s cs)
    taken_entries-mapped s done = refl
    taken_entries-mapped s (and c cs) = rw (after-follows f (ev_take-follows r opens there follow Undefined c) s) (joined-entries f _ _ (take_entries-mapped s c) (taken_entries-mapped (after_run s (ev_take opens Undefined c s)) cs))

    take_entries-mapped : (s : Environment) (c : Code) → take_entries there first later (mapped_environment f s) (mapped_code f c) ≡ mapped_entries f (take_entries opens first late s c)
    take_entries-mapped s (takes m ds k to) =
        let a : Environment = behind_all opens first late s k in
        rw (behind_all-mapped s k, behind_target-mapped a to) (joined-entries f _ _ (joined-entries f _ _ (all_entries-mapped s k) (target_entries-mapped a to)) (pattern_entries-mapped (behind_target opens first late a to) to))
    take_entries-mapped s c = refl

    callee_entries-mapped : (s : Environment) (callee : Callee) → callee_entries there first later (mapped_environment f s) (mapped_callee f callee) ≡ mapped_entries f (callee_entries opens first late s callee)
    callee_entries-mapped s (plain c) = entries-mapped s c
    callee_entries-mapped s (on_member m o k) = rw (behind_code-mapped s o) (joined-entries f _ _ (entries-mapped s o) (entries-mapped (behind_code opens first late s o) k))
    callee_entries-mapped s (on_private m x o) = entries-mapped s o
    callee_entries-mapped s (on_super m home k this) = entries-mapped s k
    callee_entries-mapped s (with_receiver g o) = rw (behind_code-mapped s g) (joined-entries f _ _ (entries-mapped s g) (entries-mapped (behind_code opens first late s g) o))
    callee_entries-mapped s (checked g) = callee_entries-mapped s g
    callee_entries-mapped s (on_chain m g) = callee_entries-mapped s g
    callee_entries-mapped s (behind_test o again g) =
        let a : Environment = behind_code opens first late s o in
        rw (behind_code-mapped s o) (joined-entries f _ _ (joined-entries f _ _ (entries-mapped s o) (all_entries-mapped a again)) (callee_entries-mapped a g))

    all_entries-mapped : (s : Environment) (cs : Codes) → all_entries there first later (mapped_environment f s) (mapped_codes f cs) ≡ mapped_entries f (all_entries opens first late s cs)
    all_entries-mapped s done = refl
    all_entries-mapped s (and c cs) = rw (behind_code-mapped s c) (joined-entries f _ _ (entries-mapped s c) (all_entries-mapped (behind_code opens first late s c) cs))

    held_entries-mapped : (s : Environment) (cs : Codes) → held_entries there first later (mapped_environment f s) (mapped_codes f cs) ≡ mapped_entries f (held_entries opens first late s cs)
    held_entries-mapped s done = refl
    held_entries-mapped s (and c cs) = joined-entries f _ _ (entries-mapped s c) (held_entries-mapped s cs)

    parameter_entries-mapped : (s : Environment) (cs : Codes) → parameter_entries there first later (mapped_environment f s) (mapped_codes f cs) ≡ mapped_entries f (parameter_entries opens first late s cs)
    parameter_entries-mapped s done = refl
    parameter_entries-mapped s (and (pattern m to) cs) = joined-entries f _ _ (joined-entries f _ _ (target_entries-mapped s to) (pattern_entries-mapped s to)) (parameter_entries-mapped s cs)
    parameter_entries-mapped s (and (rest to) cs) = joined-entries f _ _ (joined-entries f _ _ (target_entries-mapped s to) (pattern_entries-mapped s to)) (parameter_entries-mapped s cs)
    parameter_entries-mapped s (and c cs) = parameter_entries-mapped s cs

    key_entries-mapped : (s : Environment) (cs : Codes) → key_entries there first later (mapped_environment f s) (mapped_codes f cs) ≡ mapped_entries f (key_entries opens first late s cs)
    key_entries-mapped s done = refl
    key_entries-mapped s (and c cs) = rw (behind_key-mapped s c) (joined-entries f _ _ (key_entry-mapped s c) (key_entries-mapped (behind_key opens first late s c) cs))

    key_entry-mapped : (s : Environment) (c : Code) → key_entry there first later (mapped_environment f s) (mapped_code f c) ≡ mapped_entries f (key_entry opens first late s c)
    key_entry-mapped s (field is_static form k q) = entries-mapped s k
    key_entry-mapped s (method is_static kind k g) = entries-mapped s k
    key_entry-mapped s c = refl

    static_entries-mapped : (n : ℕ) (s : Environment) (cs : Codes) → static_entries there first later (f n) (mapped_environment f s) (mapped_codes f cs) ≡ mapped_entries f (static_entries opens first late n s cs)
    static_entries-mapped n s done = refl
    static_entries-mapped n s (and c cs) = rw (after-follows f (ev_static-follows r opens there follow n Undefined c) s) (joined-entries f _ _ (static_entry-mapped s c) (static_entries-mapped n (after_run s (ev_static opens n Undefined c s)) cs))

    static_entry-mapped : (s : Environment) (c : Code) → static_entry there first later (mapped_environment f s) (mapped_code f c) ≡ mapped_entries f (static_entry opens first late s c)
    static_entry-mapped s (field true form k q) = entries-mapped s q
    static_entry-mapped s (private_field true d q) = entries-mapped s q
    static_entry-mapped s (static_block cs) = all_entries-mapped s cs
    static_entry-mapped s (generated_element x q) = entries-mapped s q
    static_entry-mapped s c = refl

    field_entries-mapped : (n : ℕ) (s : Environment) (cs : Codes) → field_entries there first later (f n) (mapped_environment f s) (mapped_codes f cs) ≡ mapped_entries f (field_entries opens first late n s cs)
    field_entries-mapped n s done = refl
    field_entries-mapped n s (and c cs) = rw (after-follows f (ev_field-follows r opens there follow n c) s) (joined-entries f _ _ (field_entry-mapped s c) (field_entries-mapped n (after_run s (ev_field opens n c s)) cs))

    field_entry-mapped : (s : Environment) (c : Code) → field_entry there first later (mapped_environment f s) (mapped_code f c) ≡ mapped_entries f (field_entry opens first late s c)
    field_entry-mapped s (field false form k q) = entries-mapped s q
    field_entry-mapped s (private_field false d q) = entries-mapped s q
    field_entry-mapped s c = refl

    function_entries-mapped : (s i : Environment) (cs : Codes) → function_entries there first later (mapped_environment f s) (mapped_environment f i) (mapped_codes f cs) ≡ mapped_entries f (function_entries opens first late s i cs)
    function_entries-mapped s i done = refl
    function_entries-mapped s i (and c cs) = joined-entries f _ _ (element_function-mapped s i c) (function_entries-mapped s i cs)

    element_function-mapped : (s i : Environment) (c : Code) → element_function there first later (mapped_environment f s) (mapped_environment f i) (mapped_code f c) ≡ mapped_entries f (element_function opens first late s i c)
    element_function-mapped s i (method is_static kind k g) = entries-mapped s g
    element_function-mapped s i (private_method is_static d g) = entries-mapped s g
    element_function-mapped s i (constructor (function g form own ps body)) = rw (behind_parameters-mapped i ps) (joined-entries f _ _ (parameter_entries-mapped i ps) (entries-mapped (behind_parameters opens first late i ps) body))
    element_function-mapped s i (constructor (new_function g form ps body)) = rw (behind_parameters-mapped i ps) (joined-entries f _ _ (parameter_entries-mapped i ps) (entries-mapped (behind_parameters opens first late i ps) body))
    element_function-mapped s i c = refl
