-- Steps of evaluation, and one behind another: where each part may stand in the place of another, the whole may.
use Rattle.std.specs.Prelude.{◌≡◌, refl, ℕ, List, [], ◌∷◌, Bool, true, false, cond, ◌&&◌, not, Option, Some, None}
use Rattle.std.proofs.Common.{◌∙◌, ap, sym}
use Rattle.es_base.specs.declared.ledger.GeneratedKind.{GeneratedKind}
use Rattle.es_steps.specs.Code.{FieldForm, defines, sets, leaves_out, TemplateString}
use Rattle.es_steps.specs.Context.{NameKind, Fixed, Changing, MeansClass, Generated, StaticMethod}
use Rattle.es_steps.specs.Entries.{is_string_among, without}
use Rattle.es_steps.specs.Evaluation.{Environment, Run, Evaluation, no_meaning, gives, event, run_behind, go_on, bind, settle_run, settle, held_run, held, quiet_run, quiet, is_none, same_run, stays, class_run, gives_class, this_run, gives_this, found, give_found, read_given, read_generated, read_name, stands_for, is_binding_value, kept_as, element_holds, given_as, write_generated, write_name, outside_run, outside, read_private, write_private, initialized, nullable_gives, ev_template, bind_parameters, tested_then, brand_first, declared_first}
use Rattle.es_steps.specs.Events.{Place, Event, Events, throws, Short}
use Rattle.es_steps.specs.SameValues.{same_value}
use Rattle.es_steps.specs.Values.{String, Value, ThisOf, ResultOf, KeyOf, is_class_value}
use Rattle.es_replacement.proofs.Environments.{neither, nothing_added, added_behind, found-without, outside_commutes, outside_adds}
use Rattle.es_replacement.specs.Holes.{share}
use Rattle.es_replacement.specs.Replacing.{run_without, Extends, OnlyAdds, Replaces}

module _ (names : List String) where
  pub no_meaning-replaced : Replaces names no_meaning no_meaning
  no_meaning-replaced = record { same = λ s. refl; adds = λ s. tt }

  pub gives-replaced : (v : Value) → Replaces names (gives v) (gives v)
  gives-replaced v = record { same = λ s. refl; adds = λ s. nothing_added s }

  pub event-replaced : (e : Event) (v : Value) → Replaces names (event e v) (event e v)
  event-replaced e v = record { same = λ s. refl; adds = λ s. nothing_added s }

  -- ---- one behind another

  behind-same : (l : Events) (r : Option Run) → run_behind l (run_without names r) ≡ run_without names (run_behind l r)
  behind-same l None = refl
  behind-same l (Some r) = refl

  behind-adds : (s t : Environment) (l : Events) (r : Option Run) → Extends s t → OnlyAdds t r → OnlyAdds s (run_behind l r)
  behind-adds s t l None first last = tt
  behind-adds s t l (Some r) first last = added_behind s t r.after first last

  go_on-same : (r : Option Run) (g h : Value → Evaluation) → ((v : Value) → Replaces names (g v) (h v)) → go_on (run_without names r) g ≡ run_without names (go_on r h)
  go_on-same None g h next = refl
  go_on-same (Some r) g h next = ap (run_behind r.events) ((next r.value).same r.after) ∙ behind-same r.events (h r.value r.after)

  go_on-adds : (s : Environment) (r : Option Run) (g h : Value → Evaluation) → OnlyAdds s r → ((v : Value) → Replaces names (g v) (h v)) → OnlyAdds s (go_on r h)
  go_on-adds s None g h first next = tt
  go_on-adds s (Some r) g h first next = behind-adds s r.after r.events (h r.value r.after) first ((next r.value).adds r.after)

  pub bind-replaced : {a b : Evaluation} (g h : Value → Evaluation) → Replaces names a b → ((v : Value) → Replaces names (g v) (h v)) → Replaces names (bind a g) (bind b h)
  bind-replaced {b = b} g h first next = record { same = λ s. ap (λ r. go_on r g) (first.same s) ∙ go_on-same (b s) g h next; adds = λ s. go_on-adds s (b s) g h (first.adds s) next }

  -- ---- what is made of a run

  settle-same : (r : Option Run) → settle_run (run_without names r) ≡ run_without names (settle_run r)
  settle-same None = refl
  settle-same (Some r) = refl

  settle-adds : (s : Environment) (r : Option Run) → OnlyAdds s r → OnlyAdds s (settle_run r)
  settle-adds s None all = tt
  settle-adds s (Some r) all = all

  pub settle-replaced : {a b : Evaluation} → Replaces names a b → Replaces names (settle a) (settle b)
  settle-replaced {b = b} all = record { same = λ s. ap settle_run (all.same s) ∙ settle-same (b s); adds = λ s. settle-adds s (b s) (all.adds s) }

  held-same : (m : ℕ) (place : Place) (test : Option Value) (s : Environment) (r : Option Run) → held_run m place test (without names s) (run_without names r) ≡ run_without names (held_run m place test s r)
  held-same m place test s None = refl
  held-same m place test s (Some r) = refl

  held-adds : (m : ℕ) (place : Place) (test : Option Value) (s : Environment) (r : Option Run) → OnlyAdds s (held_run m place test s r)
  held-adds m place test s None = tt
  held-adds m place test s (Some r) = nothing_added s

  pub held-replaced : {a b : Evaluation} (m : ℕ) (place : Place) (test : Option Value) → Replaces names a b → Replaces names (held m place test a) (held m place test b)
  held-replaced {b = b} m place test all = record { same = λ s. ap (held_run m place test (without names s)) (all.same s) ∙ held-same m place test s (b s); adds = λ s. held-adds m place test s (b s) }

  quiet-same : (s : Environment) (r : Option Run) → quiet_run (without names s) (run_without names r) ≡ run_without names (quiet_run s r)
  quiet-same s None = refl
  quiet-same s (Some r) = refl

  quiet-adds : (s : Environment) (r : Option Run) → OnlyAdds s (quiet_run s r)
  quiet-adds s None = tt
  quiet-adds s (Some r) = nothing_added s

  pub quiet-replaced : {a b : Evaluation} → Replaces names a b → Replaces names (quiet a) (quiet b)
  quiet-replaced {b = b} all = record { same = λ s. ap (quiet_run (without names s)) (all.same s) ∙ quiet-same s (b s); adds = λ s. quiet-adds s (b s) }

  kept_if : (b : Bool) (v : Value) (s : Environment) → cond b (Some (record { events = Events.none; value = v; after = without names s })) None ≡ run_without names (cond b (Some (record { events = Events.none; value = v; after = s })) None)
  kept_if true v s = refl
  kept_if false v s = refl

  kept-adds : (b : Bool) (v : Value) (s : Environment) → OnlyAdds s (cond b (Some (record { events = Events.none; value = v; after = s })) None)
  kept-adds true v s = nothing_added s
  kept-adds false v s = tt

  stays-same : (v : Value) (s : Environment) (r : Option Run) → same_run v (without names s) (run_without names r) ≡ run_without names (same_run v s r)
  stays-same v s None = refl
  stays-same v s (Some r) = kept_if (is_none r.events && same_value v r.value) v s

  stays-adds : (v : Value) (s : Environment) (r : Option Run) → OnlyAdds s (same_run v s r)
  stays-adds v s None = tt
  stays-adds v s (Some r) = kept-adds (is_none r.events && same_value v r.value) v s

  pub stays-replaced : {a b : Evaluation} (v : Value) → Replaces names a b → Replaces names (stays v a) (stays v b)
  stays-replaced {b = b} v all = record { same = λ s. ap (same_run v (without names s)) (all.same s) ∙ stays-same v s (b s); adds = λ s. stays-adds v s (b s) }

  run_if : (b d : Bool) (r : Run) → cond b (run_without names (Some r)) (cond d (run_without names (Some r)) None) ≡ run_without names (cond b (Some r) (cond d (Some r) None))
  run_if true d r = refl
  run_if false true r = refl
  run_if false false r = refl

  run-adds : (b d : Bool) (s : Environment) (r : Run) → Extends s r.after → OnlyAdds s (cond b (Some r) (cond d (Some r) None))
  run-adds true d s r all = all
  run-adds false true s r all = all
  run-adds false false s r all = tt

  class-same : (n : ℕ) (r : Option Run) → class_run n (run_without names r) ≡ run_without names (class_run n r)
  class-same n None = refl
  class-same n (Some r) = run_if (throws r.events) (is_class_value n r.value) r

  class-adds : (n : ℕ) (s : Environment) (r : Option Run) → OnlyAdds s r → OnlyAdds s (class_run n r)
  class-adds n s None all = tt
  class-adds n s (Some r) all = run-adds (throws r.events) (is_class_value n r.value) s r all

  pub gives_class-replaced : {a b : Evaluation} (n : ℕ) → Replaces names a b → Replaces names (gives_class n a) (gives_class n b)
  gives_class-replaced {b = b} n all = record { same = λ s. ap (class_run n) (all.same s) ∙ class-same n (b s); adds = λ s. class-adds n s (b s) (all.adds s) }

  this-same : (n : ℕ) (r : Option Run) → this_run n (run_without names r) ≡ run_without names (this_run n r)
  this-same n None = refl
  this-same n (Some r) = run_if (throws r.events) (same_value (ThisOf n) r.value) r

  this-adds : (n : ℕ) (s : Environment) (r : Option Run) → OnlyAdds s r → OnlyAdds s (this_run n r)
  this-adds n s None all = tt
  this-adds n s (Some r) all = run-adds (throws r.events) (same_value (ThisOf n) r.value) s r all

  pub gives_this-replaced : {a b : Evaluation} (n : ℕ) → Replaces names a b → Replaces names (gives_this n a) (gives_this n b)
  gives_this-replaced {b = b} n all = record { same = λ s. ap (this_run n) (all.same s) ∙ this-same n (b s); adds = λ s. this-adds n s (b s) (all.adds s) }

  outside-same : (s : Environment) (r : Option Run) → OnlyAdds s r → outside_run (without names s) (run_without names r) ≡ run_without names (outside_run s r)
  outside-same s None all = refl
  outside-same s (Some r) all = ap (λ (after : Environment). Some (record { events = r.events; value = r.value; after = after })) (outside_commutes names s r.after all)

  outside-adds : (s : Environment) (r : Option Run) → OnlyAdds s r → OnlyAdds s (outside_run s r)
  outside-adds s None all = tt
  outside-adds s (Some r) all = outside_adds s r.after all

  pub outside-replaced : {a b : Evaluation} → Replaces names a b → Replaces names (outside a) (outside b)
  outside-replaced {b = b} all = record { same = λ s. ap (outside_run (without names s)) (all.same s) ∙ outside-same s (b s) (all.adds s); adds = λ s. outside-adds s (b s) (all.adds s) }

  -- ---- names

  given-same : (v : Option Value) (s : Environment) → give_found v (without names s) ≡ run_without names (give_found v s)
  given-same None s = refl
  given-same (Some v) s = refl

  given-adds : (v : Option Value) (s : Environment) → OnlyAdds s (give_found v s)
  given-adds None s = tt
  given-adds (Some v) s = nothing_added s

  pub read_given-replaced : (t : String) → is_string_among t names ≡ false → Replaces names (read_given t) (read_given t)
  read_given-replaced t out = record { same = λ s. ap (λ v. give_found v (without names s)) (found-without names t s out) ∙ given-same (found t s) s; adds = λ s. given-adds (found t s) s }

  read_generated-replaced : (g : GeneratedKind) (t : String) → is_string_among t names ≡ false → Replaces names (read_generated g t) (read_generated g t)
  read_generated-replaced GeneratedKind.Temp t out = read_given-replaced t out
  read_generated-replaced GeneratedKind.Param t out = read_given-replaced t out
  read_generated-replaced (GeneratedKind.ClassTemp n) t out = gives-replaced _
  read_generated-replaced g t out = no_meaning-replaced

  pub read_name-replaced : (m : ℕ) (t : String) (kind : NameKind) → is_string_among t names ≡ false → Replaces names (read_name m t kind) (read_name m t kind)
  read_name-replaced m t (Fixed b) out = gives-replaced _
  read_name-replaced m t (Changing x) out = event-replaced _ _
  read_name-replaced m t (MeansClass n b) out = gives-replaced _
  read_name-replaced m t (Generated g) out = read_generated-replaced g t out
  read_name-replaced m t (StaticMethod d n) out = event-replaced _ _

  pub stands_for-replaced : (t : String) (v : Value) → is_string_among t names ≡ false → Replaces names (stands_for t v) (stands_for t v)
  stands_for-replaced t v out = record {
    same = λ s. ap (λ b. Some (record { events = Events.none; value = v; after = cond b (without names s) ((t, v) ∷ without names s) })) (sym out);
    adds = λ s. record { more = (t, v) ∷ []; whole = refl };
  }

  pub kept_as-replaced : (t : String) (v : Value) → is_string_among t names ≡ false → Replaces names (kept_as t v) (kept_as t v)
  kept_as-replaced t v out = kept (is_binding_value v)
    where
      kept : (holds : Bool) → Replaces names (cond holds no_meaning (stands_for t v)) (cond holds no_meaning (stands_for t v))
      kept true = no_meaning-replaced
      kept false = stands_for-replaced t v out

  pub element_holds-replaced : (t : String) (v : Value) → is_string_among t names ≡ false → Replaces names (element_holds t v) (element_holds t v)
  element_holds-replaced t v out = either (is_binding_value v)
    where
      either : (holds : Bool) → Replaces names (cond holds (gives v) (stands_for t v)) (cond holds (gives v) (stands_for t v))
      either true = gives-replaced v
      either false = stands_for-replaced t v out

  given_as-replaced : (m : ℕ) (t : String) (v : Value) → is_string_among t names ≡ false → Replaces names (given_as m t v) (given_as m t v)
  given_as-replaced m t (KeyOf v) out = stands_for-replaced t (cond (is_binding_value v) (ResultOf m) (KeyOf v)) out
  given_as-replaced m t v out = kept_as-replaced t v out

  write_generated-replaced : (m : ℕ) (g : GeneratedKind) (t : String) (v : Value) → is_string_among t names ≡ false → Replaces names (write_generated m g t v) (write_generated m g t v)
  write_generated-replaced m GeneratedKind.Temp t v out = given_as-replaced m t v out
  write_generated-replaced m g t v out = no_meaning-replaced

  pub write_name-replaced : (m : ℕ) (t : String) (kind : NameKind) (v : Value) → is_string_among t names ≡ false → Replaces names (write_name m t kind v) (write_name m t kind v)
  write_name-replaced m t (Fixed b) v out = event-replaced _ _
  write_name-replaced m t (Changing x) v out = event-replaced _ _
  write_name-replaced m t (MeansClass n b) v out = event-replaced _ _
  write_name-replaced m t (Generated g) v out = write_generated-replaced m g t v out
  write_name-replaced m t (StaticMethod d n) v out = no_meaning-replaced

  -- ---- what stands between

  pub read_private-replaced : (m : ℕ) (d : Option ℕ) (o : Value) → Replaces names (read_private m d o) (read_private m d o)
  read_private-replaced m None o = event-replaced _ _
  read_private-replaced m (Some d) o = event-replaced _ _

  pub write_private-replaced : (d : Option ℕ) (o v : Value) → Replaces names (write_private d o v) (write_private d o v)
  write_private-replaced None o v = event-replaced _ _
  write_private-replaced (Some d) o v = event-replaced _ _

  pub initialized-replaced : (form : FieldForm) (o k v : Value) → Replaces names (initialized form o k v) (initialized form o k v)
  initialized-replaced defines o k v = event-replaced _ _
  initialized-replaced sets o k v = event-replaced _ _
  initialized-replaced leaves_out o k v = gives-replaced _

  pub nullable_gives-replaced : (v : Option Value) → Replaces names (nullable_gives v) (nullable_gives v)
  nullable_gives-replaced None = gives-replaced _
  nullable_gives-replaced (Some v) = gives-replaced _

  pub template-replaced : (m : ℕ) (ts : List TemplateString) (vs : List Value) → Replaces names (ev_template m ts vs) (ev_template m ts vs)
  template-replaced m [] vs = event-replaced _ _
  template-replaced m (t ∷ []) [] = gives-replaced _
  template-replaced m (t ∷ []) (v ∷ vs) = event-replaced _ _
  template-replaced m (t ∷ u ∷ ts) vs = event-replaced _ _

  pub bind_parameters-replaced : (ss : List String) (vs : List Value) → not (share ss names) ≡ true → Replaces names (bind_parameters ss vs) (bind_parameters ss vs)
  bind_parameters-replaced [] [] out = gives-replaced _
  bind_parameters-replaced [] (v ∷ vs) out = no_meaning-replaced
  bind_parameters-replaced (s ∷ ss) [] out = no_meaning-replaced
  bind_parameters-replaced (s ∷ ss) (v ∷ vs) out =
      let both = neither (is_string_among s names) (share ss names) out in
      bind-replaced (λ w. bind_parameters ss vs) (λ w. bind_parameters ss vs) (stands_for-replaced s v both.0) (λ w. bind_parameters-replaced ss vs (ap not both.1))

  pub tested-replaced : {a b c d : Evaluation} (g h : Value → Evaluation) → Replaces names a b → ((v : Value) → Replaces names (g v) (h v)) → Replaces names c d → Replaces names (tested_then a g c) (tested_then b h d)
  tested-replaced {c = c} {d = d} g h first again last = bind-replaced (λ v. bind (g v) (λ u. bind (event (Short v) v) (λ w. c))) (λ v. bind (h v) (λ u. bind (event (Short v) v) (λ w. d))) first (λ v. bind-replaced (λ u. bind (event (Short v) v) (λ w. c)) (λ u. bind (event (Short v) v) (λ w. d)) (again v) (λ u. bind-replaced (λ w. c) (λ w. d) (event-replaced (Short v) v) (λ w. last)))

  pub brand_first-replaced : (b : Bool) (n : ℕ) → Replaces names (brand_first b n) (brand_first b n)
  brand_first-replaced true n = event-replaced _ _
  brand_first-replaced false n = gives-replaced _

  pub declared_first-replaced : (d : Option ℕ) (n : ℕ) → Replaces names (declared_first d n) (declared_first d n)
  declared_first-replaced None n = gives-replaced _
  declared_first-replaced (Some b) n = event-replaced _ _
