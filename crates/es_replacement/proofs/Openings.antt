-- What is opened of a code with one expression in its holes, and of the same with another.
use Rattle.std.specs.Prelude.{◌≡◌, refl, ℕ, zero, suc, List, [], ◌∷◌, ◌++◌, length, Bool, true, false, cond, ◌&&◌, ◌||◌, not, nat_eq, Some}
use Rattle.std.proofs.Common.{◌∙◌, ap, sym}
use Rattle.es_base.specs.declared.ledger.GeneratedKind.{GeneratedKind}
use Rattle.es_steps.specs.Code.{Code, Codes, Opened, InitializersOf, BodyOf, CalledBodyOf, FunctionForm, no_rule, value, rest, sequence, super_call_with_all, steps, new_function, new_return, class_code, initializers, give_function, to_name, done, and}
use Rattle.es_steps.specs.Context.{Generated}
use Rattle.es_steps.specs.Evaluation.{Evaluation, ev}
use Rattle.es_steps.specs.GeneratedForms.{value_or_undefined, ended, opened_body, is_plain_arrow}
use Rattle.es_steps.specs.GeneratedForms as forms
use Rattle.es_steps.specs.Opening.{Definition, behind_super, all_arguments, super_definition, closure_body, function_definition, defined_by, definitions, defines, definition_of, without_definition, ev_definition, opening_in, opening}
use Rattle.es_steps.specs.Values.{String, Undefined}
use Rattle.es_replacement.proofs.Admitted.{of_function}
use Rattle.es_replacement.proofs.Environments.{left, right}
use Rattle.es_replacement.proofs.Evaluations.{ev-replaced, ev_all-replaced, ev_initializers-replaced}
use Rattle.es_replacement.proofs.Gathered.{gather-alike}
use Rattle.es_replacement.proofs.Steps.{no_meaning-replaced, gives-replaced, bind-replaced, settle-replaced}
use Rattle.es_replacement.specs.Holes.{filled, filled_all, is_hole, none_is_hole, holds_hole, admits, admits_all, is_plain}
use Rattle.es_replacement.specs.Law.{AllMayReplace}
use Rattle.es_replacement.specs.Replacing.{Replaces, AllReplaced, DefinesAlike, class, name, called, AllDefineAlike, none, next}

-- ---- an expression is its own body, and none that is asked for

plain_body : (e : Code) → is_plain e ≡ true → opened_body e ≡ e
plain_body (steps cs) h = absurd (cc)
plain_body e h = refl

plain_end : (e : Code) → is_plain e ≡ true → ended (and e done) ≡ and e (and (value Undefined) done)
plain_end (new_return es) h = absurd (cc)
plain_end e h = refl

plain_ahead : (e c : Code) (cs : Codes) → ended (and e (and c cs)) ≡ and e (ended (and c cs))
plain_ahead (new_return es) c cs = refl
plain_ahead e c cs = refl

plain_super : (n : ℕ) (e : Code) → is_plain e ≡ true → behind_super n e ≡ no_rule
plain_super n (sequence (and (super_call_with_all k) cs)) h = absurd (cc)
plain_super n e h = refl

plain_first : (n : ℕ) (e : Code) (cs : Codes) → is_plain e ≡ true → behind_super n (sequence (and e cs)) ≡ no_rule
plain_first n (super_call_with_all k) cs h = absurd (cc)
plain_first n e cs h = refl

-- ---- bodies

-- either what stands in the holes is plain, or none of them stands where the form of a body is asked for
abbrev pub IsOpened : Bool → Bool → Type 0
IsOpened plain_ones apart = (plain_ones || apart) ≡ true

module _ (plain_ones : Bool) (e : ℕ → Code) (h : plain_ones ≡ true → (n : ℕ) → is_plain (e n) ≡ true) where
  -- the form of what stands in a hole is one that is not asked for
  ones : (apart : Bool) → IsOpened plain_ones apart → apart ≡ false → (n : ℕ) → is_plain (e n) ≡ true
  ones apart o none_apart = h (by plain_ones apart o none_apart)
    where
      by : (b d : Bool) → (b || d) ≡ true → d ≡ false → b ≡ true
      by true d o none_apart = refl
      by false d o none_apart = sym none_apart ∙ o

  or_undefined-filled : (cs : Codes) → value_or_undefined (filled_all e cs) ≡ filled_all e (value_or_undefined cs)
  or_undefined-filled done = refl
  or_undefined-filled (and c cs) = refl

  ended-filled : (cs : Codes) → IsOpened plain_ones (none_is_hole (ended cs)) → ended (filled_all e cs) ≡ filled_all e (ended cs)
  ended-filled done o = refl
  ended-filled (and (new_return es) done) o = or_undefined-filled es
  ended-filled (and (new_return es) (and c cs)) o = ap (and (new_return (filled_all e es))) (ended-filled (and c cs) o)
  ended-filled (and (initializers n) done) o = plain_end (e n) (ones false o refl n)
  ended-filled (and (initializers n) (and c cs)) o = plain_ahead (e n) (filled e c) (filled_all e cs) ∙ ap (and (e n)) (ended-filled (and c cs) (by plain_ones (none_is_hole (ended (and c cs))) o))
    where
      by : (b d : Bool) → (b || false) ≡ true → (b || d) ≡ true
      by true d o = refl
      by false d o = absurd (cc)
  ended-filled (and c cs) o = ap (and (filled e c)) (ended-filled cs (by plain_ones (not (is_hole c)) (none_is_hole (ended cs)) o))
    where
      by : (b x y : Bool) → (b || (x && y)) ≡ true → (b || y) ≡ true
      by true x y o = refl
      by false true y o = o
      by false false y o = absurd (cc)

  pub opened-filled : (c : Code) → IsOpened plain_ones (not (holds_hole (opened_body c))) → opened_body (filled e c) ≡ filled e (opened_body c)
  opened-filled (steps cs) o = ap sequence (ended-filled cs (by plain_ones (none_is_hole (ended cs)) o))
    where
      by : (b d : Bool) → (b || not (not d)) ≡ true → (b || d) ≡ true
      by true d o = refl
      by false true o = refl
      by false false o = o
  opened-filled (initializers n) o = plain_body (e n) (ones false o refl n)
  opened-filled c o = refl

pub all_arguments-filled : (e : ℕ → Code) (ps : Codes) → none_is_hole ps ≡ true → all_arguments (filled_all e ps) ≡ all_arguments ps
all_arguments-filled e (and (rest (to_name m s (Generated GeneratedKind.Args))) done) h = refl
all_arguments-filled e (and (initializers n) cs) h = absurd (cc)
all_arguments-filled e ps h = refl

module _ (names : List String) (plain_ones : Bool) where
  admits-or_undefined : (cs : Codes) → admits_all names plain_ones cs ≡ true → admits_all names plain_ones (value_or_undefined cs) ≡ true
  admits-or_undefined done p = refl
  admits-or_undefined (and c cs) p = p

  admits-both : (b d : Bool) → b ≡ true → d ≡ true → (b && d) ≡ true
  admits-both true d p q = q
  admits-both false d p q = p

  admits-ended : (cs : Codes) → admits_all names plain_ones cs ≡ true → admits_all names plain_ones (ended cs) ≡ true
  admits-ended done p = refl
  admits-ended (and (new_return es) done) p = admits-or_undefined es (left _ _ p)
  admits-ended (and (new_return es) (and c cs)) p = admits-both (admits_all names plain_ones es) (admits_all names plain_ones (ended (and c cs))) (left _ _ p) (admits-ended (and c cs) (right (admits_all names plain_ones es) _ p))
  admits-ended (and c cs) p = admits-both (admits names plain_ones c) (admits_all names plain_ones (ended cs)) (left (admits names plain_ones c) (admits_all names plain_ones cs) p) (admits-ended cs (right (admits names plain_ones c) (admits_all names plain_ones cs) p))

  admits-opened : (c : Code) → admits names plain_ones c ≡ true → admits names plain_ones (opened_body c) ≡ true
  admits-opened (steps cs) p = admits-ended cs p
  admits-opened c p = p

  -- ---- definitions

  pub defines-joins : (xs ys us vs : List Definition) → AllDefineAlike names xs ys → AllDefineAlike names us vs → AllDefineAlike names (xs ++ us) (ys ++ vs)
  defines-joins xs ys us vs none last = last
  defines-joins xs ys us vs (next d first) last = next d (defines-joins _ _ us vs first last)

  if_defined : (b : Bool) (ds es : List Definition) → AllDefineAlike names ds es → AllDefineAlike names (cond b ds []) (cond b es [])
  if_defined true ds es all = all
  if_defined false ds es all = none

  module _ (a b : ℕ → Code) (all : AllMayReplace names plain_ones a b) where
    at_hole : (opens there : Opened → Evaluation) → AllReplaced names opens there → (n : ℕ) → Replaces names (ev opens (a n)) (ev there (b n))
    at_hole opens there follow n = (all.may n).evaluates opens there follow

    -- that a body is opened
    abbrev CanOpen : Code → Type 0
    CanOpen c = IsOpened plain_ones (not (holds_hole c))

    ev-alike : (c : Code) → admits names plain_ones c ≡ true → (opens there : Opened → Evaluation) → AllReplaced names opens there → Replaces names (ev opens (filled a c)) (ev there (filled b c))
    ev-alike c p opens there follow = ev-replaced names opens there follow plain_ones a b (at_hole opens there follow) c p

    opened-alike : (c : Code) → CanOpen (opened_body c) → admits names plain_ones c ≡ true → (opens there : Opened → Evaluation) → AllReplaced names opens there → Replaces names (ev opens (opened_body (filled a c))) (ev there (opened_body (filled b c)))
    opened-alike c o p opens there follow = rw (opened-filled plain_ones a all.plain_before c o, opened-filled plain_ones b all.plain_after c o) (ev-alike (opened_body c) (admits-opened c p) opens there follow)

    -- behind `super(..._args)`
    behind-alike : (n : ℕ) (c : Code) → CanOpen c → admits names plain_ones c ≡ true → (opens there : Opened → Evaluation) → AllReplaced names opens there → Replaces names (ev opens (behind_super n (filled a c))) (ev there (behind_super n (filled b c)))
    behind-alike n (sequence (and (super_call_with_all k) cs)) o p opens there follow = by (nat_eq n k)
      where
        by : (same : Bool) → Replaces names (ev opens (cond same (sequence (and (initializers n) (filled_all a cs))) no_rule)) (ev there (cond same (sequence (and (initializers n) (filled_all b cs))) no_rule))
        by true = settle-replaced names (bind-replaced names _ _ (follow (InitializersOf n)) (λ v. ev_all-replaced names opens there follow plain_ones a b (at_hole opens there follow) cs p _ _ (λ vs. gives-replaced names _)))
        by false = no_meaning-replaced names
    behind-alike n (sequence (and (initializers k) cs)) o p opens there follow = rw (plain_first n (a k) (filled_all a cs) (ones plain_ones a all.plain_before false o refl k), plain_first n (b k) (filled_all b cs) (ones plain_ones b all.plain_after false o refl k)) (no_meaning-replaced names)
    behind-alike n (initializers k) o p opens there follow = rw (plain_super n (a k) (ones plain_ones a all.plain_before false o refl k), plain_super n (b k) (ones plain_ones b all.plain_after false o refl k)) (no_meaning-replaced names)
    behind-alike n c o p opens there follow = no_meaning-replaced names

    super_definition-alike : (s : String) (n : ℕ) (is_arrow : Bool) (ps : Codes) (body : Code) → CanOpen (opened_body body) → none_is_hole ps ≡ true → admits names plain_ones body ≡ true → AllDefineAlike names (super_definition s n is_arrow (filled_all a ps) (filled a body)) (super_definition s n is_arrow (filled_all b ps) (filled b body))
    super_definition-alike s n true ps body o q p =
        rw (all_arguments-filled a ps q, all_arguments-filled b ps q, opened-filled plain_ones a all.plain_before body o, opened-filled plain_ones b all.plain_after body o)
        (if_defined (all_arguments ps) _ _ (next (name s _ _ (behind-alike n (opened_body body) o (admits-opened body p))) none))
    super_definition-alike s n false done body o q p = next (called s _ _ (λ opens there follow. settle-replaced names (bind-replaced names _ _ (follow (InitializersOf n)) (λ v. bind-replaced names _ _ (opened-alike body o p opens there follow) (λ w. gives-replaced names _))))) none
    super_definition-alike s n false (and c cs) body o q p = none

    closure-alike : (form : FunctionForm) (ps : Codes) (body : Code) → CanOpen (opened_body body) → admits names plain_ones body ≡ true → (opens there : Opened → Evaluation) → AllReplaced names opens there → Replaces names (ev opens (closure_body form (filled_all a ps) (filled a body))) (ev there (closure_body form (filled_all b ps) (filled b body)))
    closure-alike form done body o p opens there follow = by (is_plain_arrow form)
      where
        by : (same : Bool) → Replaces names (ev opens (cond same (opened_body (filled a body)) no_rule)) (ev there (cond same (opened_body (filled b body)) no_rule))
        by true = opened-alike body o p opens there follow
        by false = no_meaning-replaced names
    closure-alike form (and c cs) body o p opens there follow = no_meaning-replaced names

    function_definition-alike : (s : String) (g : GeneratedKind) (form : FunctionForm) (ps : Codes) (body : Code) → CanOpen (opened_body body) → none_is_hole ps ≡ true → admits names plain_ones body ≡ true → AllDefineAlike names (function_definition s g form (filled_all a ps) (filled a body)) (function_definition s g form (filled_all b ps) (filled b body))
    function_definition-alike s (GeneratedKind.SuperFn n) form ps body o q p = if_defined (forms.is_plain form) _ _ (super_definition-alike s n.0 form.is_arrow ps body o q p)
    function_definition-alike s GeneratedKind.Closure form ps body o q p = next (name s _ _ (closure-alike form ps body o p)) none
    function_definition-alike s g form ps body o q p = none

    defined_by-alike : (c : Code) → is_hole c ≡ false → admits names plain_ones c ≡ true → AllDefineAlike names (defined_by (filled a c)) (defined_by (filled b c))
    defined_by-alike (class_code n declared h es) q p = next (class n _ _ (λ opens there follow. ev_initializers-replaced names opens there follow plain_ones a b (at_hole opens there follow) n es (left _ _ p) (right _ _ (right _ _ p)))) none
    defined_by-alike (give_function m s g (new_function f form ps body)) q p = let x = of_function names plain_ones f form ps body p in function_definition-alike s g form ps body x.opened x.none x.body
    defined_by-alike (give_function m s g (initializers n)) q p = absurd (cc)
    defined_by-alike (initializers n) q p = absurd (cc)
    defined_by-alike c q p = none

    pub definitions-alike : (c : Code) → admits names plain_ones c ≡ true → AllDefineAlike names (definitions (filled a c)) (definitions (filled b c))
    definitions-alike c p = gather-alike (AllDefineAlike names) none defines-joins names plain_ones a b defined_by (λ n. (all.may n).defines) defined_by-alike c p

  -- ---- opening

  defines-same : {d e : Definition} (o : Opened) → DefinesAlike names d e → defines o d ≡ defines o e
  defines-same (InitializersOf k) (class n es fs all) = refl
  defines-same (BodyOf t) (class n es fs all) = refl
  defines-same (CalledBodyOf t) (class n es fs all) = refl
  defines-same (InitializersOf k) (name s c d all) = refl
  defines-same (BodyOf t) (name s c d all) = refl
  defines-same (CalledBodyOf t) (name s c d all) = refl
  defines-same (InitializersOf k) (called s c d all) = refl
  defines-same (BodyOf t) (called s c d all) = refl
  defines-same (CalledBodyOf t) (called s c d all) = refl

  one-opened : {d e : Definition} (opens there : Opened → Evaluation) → AllReplaced names opens there → DefinesAlike names d e → Replaces names (ev_definition opens (Some d)) (ev_definition there (Some e))
  one-opened opens there follow (class n es fs all) = all opens there follow
  one-opened opens there follow (name s c d all) = all opens there follow
  one-opened opens there follow (called s c d all) = all opens there follow

  found-opened : {ds es : List Definition} (opens there : Opened → Evaluation) → AllReplaced names opens there → (o : Opened) → AllDefineAlike names ds es → Replaces names (ev_definition opens (definition_of o ds)) (ev_definition there (definition_of o es))
  found-opened opens there follow o none = no_meaning-replaced names
  found-opened opens there follow o (next {d = d} {e = e} {ds = ds} {es = es} first all) = rw (defines-same o first) (by (defines o e) (found-opened opens there follow o all))
    where
      by : (same : Bool) → Replaces names (ev_definition opens (definition_of o ds)) (ev_definition there (definition_of o es)) → Replaces names (ev_definition opens (cond same (Some d) (definition_of o ds))) (ev_definition there (cond same (Some e) (definition_of o es)))
      by true all = one-opened opens there follow first
      by false all = all

  without-alike : {ds es : List Definition} (o : Opened) → AllDefineAlike names ds es → AllDefineAlike names (without_definition o ds) (without_definition o es)
  without-alike o none = none
  without-alike o (next {d = d} {e = e} {ds = ds} {es = es} first all) = rw (defines-same o first) (by (defines o e) (without-alike o all))
    where
      by : (same : Bool) → AllDefineAlike names (without_definition o ds) (without_definition o es) → AllDefineAlike names (cond same (without_definition o ds) (d ∷ without_definition o ds)) (cond same (without_definition o es) (e ∷ without_definition o es))
      by true all = all
      by false all = next first all

  length-alike : {ds es : List Definition} → AllDefineAlike names ds es → length ds ≡ length es
  length-alike none = refl
  length-alike (next first all) = ap suc (length-alike all)

  opening_in-replaced : (k : ℕ) (ds es : List Definition) → AllDefineAlike names ds es → AllReplaced names (opening_in k ds) (opening_in k es)
  opening_in-replaced zero ds es all o = no_meaning-replaced names
  opening_in-replaced (suc k) ds es all o = found-opened (opening_in k (without_definition o ds)) (opening_in k (without_definition o es)) (opening_in-replaced k (without_definition o ds) (without_definition o es) (without-alike o all)) o all

  pub opening-replaced : (ds es : List Definition) → AllDefineAlike names ds es → AllReplaced names (opening ds) (opening es)
  opening-replaced ds es all o = rw (length-alike all) (opening_in-replaced (length es) ds es all o)
