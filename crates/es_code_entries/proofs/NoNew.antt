-- Entries do not depend on which nodes are new: the codes tell it.
use Rattle.std.proofs.Common.{◌≡◌, refl, ap, ap₂, ◌∙◌, ℕ, suc, List, [], ◌∷◌, ◌++◌, Bool, true, false, ◌&&◌, cond, Option, Some, None}
use Rattle.es_steps.specs.Code.{Code, Codes, Target, Callee, FunctionForm, Opened, binding, rest, member, private_member, super_member, private_in, assign, compound, logical, logical_assign, update, call, tag, construct, super_call, sequence, template, operation, chain, short, tested, pattern, takes, steps, gives_to, export_default, function, new_function, class_code, field, private_field, method, private_method, constructor, static_block, generated_element, from_call, from_member, key_of, define, private_initialize, call_arrow, call_closure, give_function, give_class, to_name, to_member, to_private, to_super, to_setter, to_pattern, to_default, plain, on_member, on_private, on_super, with_receiver, checked, on_chain, behind_test, done, and}
use Rattle.es_steps.specs.Entries as spec
use Rattle.es_steps.specs.Entries.{Entries, Entry, Listed, Method, after_run, all_identifiers, class_entry, constructor_form, constructor_parameters, elements_start, entered, function_entry, heritage_in, if_one, in_order, keys_stay, listed, methods_in, no_constructor, parameters_of, without}
use Rattle.es_steps.specs.Evaluation.{Environment, Evaluation, Run, added, bind, ev, ev_all, ev_callee, ev_field, ev_initializers, ev_key, ev_keys, ev_static, ev_take, ev_target, event, gives, go_on, only_private, run_behind}
use Rattle.es_steps.specs.Events.{SuperCallWithAll}
use Rattle.es_steps.specs.GeneratedForms.{is_plain}
use Rattle.es_steps.specs.Opening.{all_arguments, assigned_in, assigned_in_all}
use Rattle.es_steps.specs.References.{has_number}
use Rattle.es_steps.specs.Values.{ThisOf, Undefined, Value}

both : {a b c d : Entries} → a ≡ b → c ≡ d → a ++ c ≡ b ++ d
both h k = ap₂ (λ (x y : Entries). x ++ y) h k

on_same : (o : Option Run) (f g : Value → Evaluation) → ((v : Value) (env : Environment) → f v env ≡ g v env) → go_on o f ≡ go_on o g
on_same None f g h = refl
on_same (Some r) f g h = ap (run_behind r.events) (h r.value r.after)

bound : (a b : Evaluation) (f g : Value → Evaluation) (env : Environment) → a env ≡ b env → ((v : Value) (e : Environment) → f v e ≡ g v e) → bind a f env ≡ bind b g env
bound a b f g env h k = ap (λ o. go_on o f) h ∙ on_same (b env) f g k

ordered : (late : Bool) (a b c d e : Evaluation) (env : Environment) → ((s : Environment) → c s ≡ d s) → in_order late a c e env ≡ in_order late a d e env
ordered true a b c d e env h = bound c d (λ v. bind a (λ w. e)) (λ v. bind a (λ w. e)) env (h env) (λ v s. refl)
ordered false a b c d e env h = bound a a (λ v. bind c (λ w. e)) (λ v. bind d (λ w. e)) env refl (λ v s. bound c d (λ w. e) (λ w. e) s (h s) (λ w u. refl))

if_same : (b : Bool) (a c : Evaluation) (env : Environment) → a env ≡ c env → if_one b a env ≡ if_one b c env
if_same true a c env h = h
if_same false a c env h = refl

module _ (opens : Opened → Evaluation) (f : ℕ) (late : List ℕ) where
  parameter_same : (i : ℕ) (c : Code) (env : Environment) → spec.ev_parameter opens f late i c env ≡ spec.ev_parameter opens 0 late i c env
  parameter_same i (binding b s kind) env = refl
  parameter_same i (rest (to_name b s kind)) env = refl
  parameter_same i (pattern m to) env = refl
  parameter_same i (rest (to_pattern m kind cs)) env = refl
  parameter_same i c env = refl

  parameters_same : (i : ℕ) (cs : Codes) (env : Environment) → spec.ev_parameters opens f late i cs env ≡ spec.ev_parameters opens 0 late i cs env
  parameters_same i done env = refl
  parameters_same i (and c cs) env = bound (spec.ev_parameter opens f late i c) (spec.ev_parameter opens 0 late i c) (λ v. spec.ev_parameters opens f late (suc i) cs) (λ v. spec.ev_parameters opens 0 late (suc i) cs) env (parameter_same i c env) (λ v s. parameters_same (suc i) cs s)

  given_same : (cs : Codes) (env : Environment) → spec.ev_given opens f late cs env ≡ spec.ev_given opens 0 late cs env
  given_same cs env = bound (spec.ev_parameters opens f late 0 cs) (spec.ev_parameters opens 0 late 0 cs) (λ v. entered (all_identifiers (parameters_of cs))) (λ v. entered (all_identifiers (parameters_of cs))) env (parameters_same 0 cs env) (λ v s. refl)

  body_same : (ps : Codes) (body : Code) (env : Environment) → spec.ev_body opens f late ps body env ≡ spec.ev_body opens 0 late ps body env
  body_same ps body env = bound (spec.ev_given opens f late ps) (spec.ev_given opens 0 late ps) (λ v. ev opens body) (λ v. ev opens body) env (given_same ps env) (λ v s. refl)

  construction_same : (n : ℕ) (h all es : Codes) (env : Environment) → spec.ev_construction opens f late n h all es env ≡ spec.ev_construction opens 0 late n h all es env
  construction_same n done all (and (constructor (function k form own_name ps body)) es) env =
      if_same (no_constructor es) (in_order (has_number n late) (ev_initializers opens n all) (spec.ev_given opens f late ps) (ev opens body)) (in_order (has_number n late) (ev_initializers opens n all) (spec.ev_given opens 0 late ps) (ev opens body)) env
      (ordered (has_number n late) (ev_initializers opens n all) (ev_initializers opens n all) (spec.ev_given opens f late ps) (spec.ev_given opens 0 late ps) (ev opens body) env (λ s. given_same ps s))
  construction_same n done all (and (constructor (new_function k form done body)) es) env = refl
  construction_same n (and h hs) all (and (constructor (function k form own_name ps body)) es) env = if_same (no_constructor es) (spec.ev_body opens f late ps body) (spec.ev_body opens 0 late ps body) env (body_same ps body env)
  construction_same n (and h hs) all (and (constructor (new_function k form ps body)) es) env = refl
  construction_same n done all (and (constructor e) es) env = refl
  construction_same n (and h hs) all (and (constructor e) es) env = refl
  construction_same n done all (and e es) env = construction_same n done all es env
  construction_same n (and h hs) all (and e es) env = construction_same n (and h hs) all es env
  construction_same n done all done env = refl
  construction_same n (and h hs) all done env = refl

  behind_parameters_same : (s : Environment) (ps : Codes) → spec.behind_parameters opens f late s ps ≡ spec.behind_parameters opens 0 late s ps
  behind_parameters_same s ps = ap (after_run s) (given_same ps s)

  heritage_same : (s : Environment) (h : Codes) → heritage_in opens f late s h ≡ heritage_in opens 0 late s h
  heritage_same s done = refl
  heritage_same s (and h hs) = refl

  methods_same : (s : Environment) (es : Codes) → methods_in opens f late s es ≡ methods_in opens 0 late s es
  methods_same s done = refl
  methods_same s (and (method is_static kind k g) es) = ap (λ (ms : Option (List Method)). spec.method_with is_static kind (spec.value_in (ev opens k s)) g ms) (methods_same (after_run s (ev opens k s)) es)
  methods_same s (and e es) = methods_same (after_run s (ev_key opens e s)) es

  keys_same : (s i : Environment) (es : Codes) → keys_stay opens f late s i es ≡ keys_stay opens 0 late s i es
  keys_same s i done = refl
  keys_same s i (and (field false form k e) es) = ap (λ (b : Bool). spec.same_nullable (spec.value_in (ev opens k s)) (spec.value_in (ev opens k i)) && b) (keys_same (after_run s (ev opens k s)) i es)
  keys_same s i (and e es) = keys_same (after_run s (ev_key opens e s)) i es

  leading_same : (n : ℕ) (s : Environment) (es : Codes) → spec.behind_leading opens f late n s es ≡ spec.behind_leading opens 0 late n s es
  leading_same n s (and (generated_element x r) cs) =
      ap (λ (a : Environment). cond (spec.is_quiet_run (ev_static opens n Undefined (generated_element x r) s)) a s) (leading_same n (after_run s (ev_static opens n Undefined (generated_element x r) s)) cs)
  leading_same n s (and (field false form k r) cs) = leading_same n s cs
  leading_same n s (and (private_field false d r) cs) = leading_same n s cs
  leading_same n s (and (method is_static kind k g) cs) = leading_same n s cs
  leading_same n s (and (private_method is_static d g) cs) = leading_same n s cs
  leading_same n s (and (constructor g) cs) = leading_same n s cs
  leading_same n s cs = refl

  start_same : (n : ℕ) (s b : Environment) (es : Codes) → elements_start opens f late n s b es ≡ elements_start opens 0 late n s b es
  start_same n s b es = ap (λ (a : Environment). only_private (added a b) a ++ without (assigned_in_all es) s) (leading_same n b es)

  behind_fields_same : (s : Environment) (n : ℕ) (h es : Codes) → spec.behind_fields opens f late s n h es ≡ spec.behind_fields opens 0 late s n h es
  behind_fields_same s n done es = refl
  behind_fields_same s n (and h hs) es = refl

  class_same : (s a start : Environment) (n : ℕ) (declared : Option ℕ) (h es : Codes)
      → class_entry (keys_stay opens f late a start es) declared (constructor_form es) (constructor_parameters es) (heritage_in opens f late s h) (methods_in opens f late a es) (listed (spec.ev_construction opens f late n h es es start))
      ≡ class_entry (keys_stay opens 0 late a start es) declared (constructor_form es) (constructor_parameters es) (heritage_in opens 0 late s h) (methods_in opens 0 late a es) (listed (spec.ev_construction opens 0 late n h es es start))
  class_same s a start n declared h es =
      ap (λ (b : Bool). class_entry b declared (constructor_form es) (constructor_parameters es) (heritage_in opens f late s h) (methods_in opens f late a es) (listed (spec.ev_construction opens f late n h es es start))) (keys_same a start es)
      ∙ ap₂ (λ (p : Option (Option Value)) (ms : Option (List Method)). class_entry (keys_stay opens 0 late a start es) declared (constructor_form es) (constructor_parameters es) p ms (listed (spec.ev_construction opens f late n h es es start))) (heritage_same s h) (methods_same a es)
      ∙ ap (λ (r : Option Run). class_entry (keys_stay opens 0 late a start es) declared (constructor_form es) (constructor_parameters es) (heritage_in opens 0 late s h) (methods_in opens 0 late a es) (listed r)) (construction_same n h es es start)

  mutual
    pub entries_same : (s : Environment) (c : Code) → spec.entries opens f late s c ≡ spec.entries opens 0 late s c
    entries_same s (member m o k) = both (entries_same s o) (entries_same (after_run s (ev opens o s)) k)
    entries_same s (private_member m r o) = entries_same s o
    entries_same s (super_member m home k this) = entries_same s k
    entries_same s (private_in m test o) = entries_same s o
    entries_same s (assign to r) =
        let a : Environment = spec.behind_target opens f late s to in
        both (both (target_same s to) (entries_same a r)) (pattern_same (after_run a (ev opens r a)) to)
    entries_same s (compound m op to r) = both (target_same s to) (entries_same (spec.behind_target opens f late s to) r)
    entries_same s (logical m op l r) = both (entries_same s l) (entries_same (after_run s (ev opens l s)) r)
    entries_same s (logical_assign m op to r) = both (target_same s to) (entries_same (spec.behind_target opens f late s to) r)
    entries_same s (update m op prefix to) = target_same s to
    entries_same s (call m g es) = both (callee_same s g) (all_same (spec.behind_callee opens f late s g) es)
    entries_same s (tag m g ts es) = both (callee_same s g) (all_same (spec.behind_callee opens f late s g) es)
    entries_same s (construct m g es) = both (entries_same s g) (all_same (after_run s (ev opens g s)) es)
    entries_same s (super_call m n o es) = all_same s es
    entries_same s (sequence es) = all_same s es
    entries_same s (template m ts es) = all_same s es
    entries_same s (operation m op es parts) = both (all_same s es) (held_same (spec.behind_all opens f late s es) parts)
    entries_same s (chain m c) = entries_same s c
    entries_same s (short c) = entries_same s c
    entries_same s (tested o again c) =
        let a : Environment = after_run s (ev opens o s) in
        both (both (entries_same s o) (all_same a again)) (entries_same a c)
    entries_same s (steps es) = all_same s es
    entries_same s (gives_to m to) = both (target_same s to) (pattern_same s to)
    entries_same s (export_default c) = entries_same s c
    entries_same s (function k form own_name ps body) =
        let start : Environment = without (assigned_in_all ps ++ assigned_in body) s in
        both (both (ap (λ (r : Option Run). spec.own_function opens f late k form own_name ps (listed r)) (body_same ps body start)) (parameter_entries_same start ps))
        (ap (λ (a : Environment). spec.entries opens f late a body) (behind_parameters_same start ps) ∙ entries_same (spec.behind_parameters opens 0 late start ps) body)
    entries_same s (class_code n declared h es) =
        let a : Environment = spec.behind_all opens f late s h in
        let b : Environment = after_run a (ev_keys opens es (λ ks. gives Undefined) a) in
        let start : Environment = elements_start opens f late n s b es in
        let begin : Environment = elements_start opens 0 late n s b es in
        both (both (both (both
        (ap₂ (λ (e : Option Entry) (rest : Entries). (n, e) ∷ rest) (ap (λ (i : Environment). class_entry (keys_stay opens f late a i es) declared (constructor_form es) (constructor_parameters es) (heritage_in opens f late s h) (methods_in opens f late a es) (listed (spec.ev_construction opens f late n h es es i))) (start_same n s b es) ∙ class_same s a begin n declared h es) (all_same s h))
        (key_entries_same a es))
        (static_entries_same n b es))
        (ap (λ (i : Environment). spec.field_entries opens f late n i es) (start_same n s b es) ∙ field_entries_same n begin es))
        (ap (λ (i : Environment). spec.function_entries opens f late s (spec.behind_fields opens f late i n h es) es) (start_same n s b es)
        ∙ ap (λ (i : Environment). spec.function_entries opens f late s i es) (behind_fields_same begin n h es)
        ∙ function_entries_same s (spec.behind_fields opens 0 late begin n h es) es)
    entries_same s (from_call c) = entries_same s c
    entries_same s (from_member c) = entries_same s c
    entries_same s (key_of c) = entries_same s c
    entries_same s (define m o k r) = both (entries_same s k) (entries_same (after_run s (ev opens k s)) r)
    entries_same s (private_initialize m d o r) = entries_same s r
    entries_same s (call_arrow ss body es) = both (all_same s es) (entries_same (spec.behind_arguments opens f late s ss es) body)
    entries_same s (call_closure x es) = all_same s es
    entries_same s (give_function m x g (new_function k form ps body)) = entries_same (without (assigned_in body) s) body
    entries_same s (give_function m x g c) = entries_same s c
    entries_same s (give_class n c) = entries_same s c
    entries_same s c = refl

    target_same : (s : Environment) (to : Target) → spec.target_entries opens f late s to ≡ spec.target_entries opens 0 late s to
    target_same s (to_member m o k) = both (entries_same s o) (entries_same (after_run s (ev opens o s)) k)
    target_same s (to_private m r o) = entries_same s o
    target_same s (to_super m home k this) = entries_same s k
    target_same s (to_setter m d o) = entries_same s o
    target_same s (to_default m to d) = target_same s to
    target_same s to = refl

    pattern_same : (s : Environment) (to : Target) → spec.pattern_entries opens f late s to ≡ spec.pattern_entries opens 0 late s to
    pattern_same s (to_pattern m kind cs) = taken_same s cs
    pattern_same s (to_default m to d) = both (entries_same s d) (pattern_same s to)
    pattern_same s to = refl

    taken_same : (s : Environment) (cs : Codes) → spec.taken_entries opens f late s cs ≡ spec.taken_entries opens 0 late s cs
    taken_same s done = refl
    taken_same s (and c cs) = both (take_same s c) (taken_same (after_run s (ev_take opens Undefined c s)) cs)

    take_same : (s : Environment) (c : Code) → spec.take_entries opens f late s c ≡ spec.take_entries opens 0 late s c
    take_same s (takes m ds k to) =
        let a : Environment = spec.behind_all opens f late s k in
        both (both (all_same s k) (target_same a to)) (pattern_same (spec.behind_target opens f late a to) to)
    take_same s c = refl

    callee_same : (s : Environment) (g : Callee) → spec.callee_entries opens f late s g ≡ spec.callee_entries opens 0 late s g
    callee_same s (plain c) = entries_same s c
    callee_same s (on_member m o k) = both (entries_same s o) (entries_same (after_run s (ev opens o s)) k)
    callee_same s (on_private m r o) = entries_same s o
    callee_same s (on_super m home k this) = entries_same s k
    callee_same s (with_receiver g o) = both (entries_same s g) (entries_same (after_run s (ev opens g s)) o)
    callee_same s (checked g) = callee_same s g
    callee_same s (on_chain m g) = callee_same s g
    callee_same s (behind_test o again g) =
        let a : Environment = after_run s (ev opens o s) in
        both (both (entries_same s o) (all_same a again)) (callee_same a g)

    all_same : (s : Environment) (cs : Codes) → spec.all_entries opens f late s cs ≡ spec.all_entries opens 0 late s cs
    all_same s done = refl
    all_same s (and c cs) = both (entries_same s c) (all_same (after_run s (ev opens c s)) cs)

    held_same : (s : Environment) (cs : Codes) → spec.held_entries opens f late s cs ≡ spec.held_entries opens 0 late s cs
    held_same s done = refl
    held_same s (and c cs) = both (entries_same s c) (held_same s cs)

    parameter_entries_same : (s : Environment) (cs : Codes) → spec.parameter_entries opens f late s cs ≡ spec.parameter_entries opens 0 late s cs
    parameter_entries_same s done = refl
    parameter_entries_same s (and (pattern m to) cs) = both (both (target_same s to) (pattern_same s to)) (parameter_entries_same s cs)
    parameter_entries_same s (and (rest to) cs) = both (both (target_same s to) (pattern_same s to)) (parameter_entries_same s cs)
    parameter_entries_same s (and c cs) = parameter_entries_same s cs

    key_entries_same : (s : Environment) (cs : Codes) → spec.key_entries opens f late s cs ≡ spec.key_entries opens 0 late s cs
    key_entries_same s done = refl
    key_entries_same s (and c cs) = both (key_entry_same s c) (key_entries_same (after_run s (ev_key opens c s)) cs)

    key_entry_same : (s : Environment) (c : Code) → spec.key_entry opens f late s c ≡ spec.key_entry opens 0 late s c
    key_entry_same s (field is_static form k r) = entries_same s k
    key_entry_same s (method is_static kind k g) = entries_same s k
    key_entry_same s c = refl

    static_entries_same : (n : ℕ) (s : Environment) (cs : Codes) → spec.static_entries opens f late n s cs ≡ spec.static_entries opens 0 late n s cs
    static_entries_same n s done = refl
    static_entries_same n s (and c cs) = both (static_entry_same s c) (static_entries_same n (after_run s (ev_static opens n Undefined c s)) cs)

    static_entry_same : (s : Environment) (c : Code) → spec.static_entry opens f late s c ≡ spec.static_entry opens 0 late s c
    static_entry_same s (field true form k r) = entries_same s r
    static_entry_same s (private_field true d r) = entries_same s r
    static_entry_same s (static_block cs) = all_same s cs
    static_entry_same s (generated_element x r) = entries_same s r
    static_entry_same s c = refl

    field_entries_same : (n : ℕ) (s : Environment) (cs : Codes) → spec.field_entries opens f late n s cs ≡ spec.field_entries opens 0 late n s cs
    field_entries_same n s done = refl
    field_entries_same n s (and c cs) = both (field_entry_same s c) (field_entries_same n (after_run s (ev_field opens n c s)) cs)

    field_entry_same : (s : Environment) (c : Code) → spec.field_entry opens f late s c ≡ spec.field_entry opens 0 late s c
    field_entry_same s (field false form k r) = entries_same s r
    field_entry_same s (private_field false d r) = entries_same s r
    field_entry_same s c = refl

    function_entries_same : (s i : Environment) (cs : Codes) → spec.function_entries opens f late s i cs ≡ spec.function_entries opens 0 late s i cs
    function_entries_same s i done = refl
    function_entries_same s i (and c cs) = both (element_function_same s i c) (function_entries_same s i cs)

    element_function_same : (s i : Environment) (c : Code) → spec.element_function opens f late s i c ≡ spec.element_function opens 0 late s i c
    element_function_same s i (method is_static kind k g) = entries_same s g
    element_function_same s i (private_method is_static d g) = entries_same s g
    element_function_same s i (constructor (function k form own_name ps body)) =
        both (parameter_entries_same i ps) (ap (λ (a : Environment). spec.entries opens f late a body) (behind_parameters_same i ps) ∙ entries_same (spec.behind_parameters opens 0 late i ps) body)
    element_function_same s i (constructor (new_function k form ps body)) =
        both (parameter_entries_same i ps) (ap (λ (a : Environment). spec.entries opens f late a body) (behind_parameters_same i ps) ∙ entries_same (spec.behind_parameters opens 0 late i ps) body)
    element_function_same s i c = refl
