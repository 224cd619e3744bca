-- An evaluation of the definitions, and the same over a state: what the second adds to the state is what the first gives.
use Rattle.std.proofs.Common.{◌≡◌, refl, sym, ap, ◌∙◌, subst, ℕ, ◌-◌, ◌+◌, List, [], ◌∷◌, ◌++◌, append_assoc, length, drop, Bool, true, false, ◌||◌, ◌&&◌, cond, Option, Some, None, arith}
use Rattle.std.proofs.lemmas.List.{append-nil}
use Rattle.std.proofs.Common.{length-append}
use Rattle.es_steps.specs.Events.{Event, Events, none, then, behind, is_throw, value_behind, Held, Place, ReadName, SetName, Get, Set, Define, Call, Construct, Operate, Update, PrivateGet, PrivateSet, PrivateInitialize, PrivateIn, AddBrand, SuperGet, SuperSet, SuperCall, SuperCallWithAll, EnterBody, InitializeClass, Throw, Short}
use Rattle.es_steps.specs.Events as of_events
use Rattle.es_steps.specs.Evaluation.{Environment, Run, Evaluation, run_behind, go_on, bind, settle, settle_run}
use Rattle.es_steps.specs.Evaluation as of
use Rattle.es_steps.specs.SameValues.{same_value}
use Rattle.es_steps.specs.Values.{String, Value, Undefined, ThisOf, ResultOf, is_class_value}
use Rattle.es_evaluation.specs.Flat.{Token, begin, ends, flat, flat_event, tokens}
use Rattle.es_evaluation.specs.Direct.{State, Step, next, and_then, pushed, with_token, emit, unless_thrown, entered, left, settle_with, settled, kept, opened, closed, close, apart, quiet_with, is_none, stays_with, class_with, this_with, with_name}
use Rattle.es_evaluation.specs.Direct as direct
use Rattle.es_evaluation.specs.Agreement.{behind_state, onto, Fine, IsFine, Follows}

-- ---- lists

mutual
  pub flat_event-append : (e : Event) (ts : List Token) → flat_event e ts ≡ flat_event e [] ++ ts
  flat_event-append (ReadName m r) ts = refl
  flat_event-append (SetName r v) ts = refl
  flat_event-append (Get m o k) ts = refl
  flat_event-append (Set o k v) ts = refl
  flat_event-append (Define o k v) ts = refl
  flat_event-append (Call m f r vs) ts = refl
  flat_event-append (Construct m f vs) ts = refl
  flat_event-append (Operate m op vs) ts = refl
  flat_event-append (Update m s v) ts = refl
  flat_event-append (PrivateGet m d o) ts = refl
  flat_event-append (PrivateSet d o v) ts = refl
  flat_event-append (PrivateInitialize d o v) ts = refl
  flat_event-append (PrivateIn m t o) ts = refl
  flat_event-append (AddBrand n o) ts = refl
  flat_event-append (SuperGet m h k t) ts = refl
  flat_event-append (SuperSet h k v t) ts = refl
  flat_event-append (SuperCall m n vs) ts = refl
  flat_event-append (SuperCallWithAll n) ts = refl
  flat_event-append EnterBody ts = refl
  flat_event-append (InitializeClass n) ts = refl
  flat_event-append Throw ts = refl
  flat_event-append (Short v) ts = refl
  flat_event-append (Held m p t l v) ts = ap (λ (us : List Token). begin ∷ us) (flat-append l (ends m p t v ∷ ts) ∙ sym (ap (λ (us : List Token). us ++ ts) (flat-append l (ends m p t v ∷ [])) ∙ append_assoc (flat l []) (ends m p t v ∷ []) ts))

  pub flat-append : (l : Events) (ts : List Token) → flat l ts ≡ flat l [] ++ ts
  flat-append none ts = refl
  flat-append (then e es) ts = flat_event-append e (flat es ts) ∙ ap (λ (us : List Token). flat_event e [] ++ us) (flat-append es ts) ∙ sym (append_assoc (flat_event e []) (flat es []) ts) ∙ ap (λ (us : List Token). us ++ ts) (sym (flat_event-append e (flat es [])))

-- one list behind another
pub flat-behind : (l m : Events) (ts : List Token) → flat (behind l m) ts ≡ flat l (flat m ts)
flat-behind none m ts = refl
flat-behind (then e es) m ts = ap (flat_event e) (flat-behind es m ts)

tokens-behind : (l m : Events) → tokens (behind l m) ≡ tokens l ++ tokens m
tokens-behind l m = flat-behind l m [] ∙ flat-append l (tokens m)

or_assoc : (a b c : Bool) → ((a || b) || c) ≡ (a || (b || c))
or_assoc true b c = refl
or_assoc false b c = refl

throws-behind : (l m : Events) → of_events.throws (behind l m) ≡ (of_events.throws l || of_events.throws m)
throws-behind none m = refl
throws-behind (then e es) m = ap (λ (x : Bool). is_throw e || x) (throws-behind es m) ∙ sym (or_assoc (is_throw e) (of_events.throws es) (of_events.throws m))

-- ---- equal evaluations

pub follows_as : (a b : Evaluation) (d : Step Value) → ((env : Environment) → b env ≡ a env) → Follows a d → Follows b d
follows_as a b d e f = record { same = λ s. f.same s ∙ ap (onto s) (sym (e s.names)); fine = λ env. subst (IsFine env) (sym (e env)) (f.fine env) }

pub follows_by : (a : Evaluation) (d c : Step Value) → ((s : State) → c s ≡ d s) → Follows a d → Follows a c
follows_by a d c e f = record { same = λ s. e s ∙ f.same s; fine = f.fine }

-- ---- one behind another

abbrev made : Environment → List Token → Bool → State
made n ts c = record { names = n; tokens = ts; has_thrown = c }

-- states are the same where their parts are
states : {n m : Environment} {ts us : List Token} {c d : Bool} → n ≡ m → ts ≡ us → c ≡ d → made n ts c ≡ made m us d
states p q r = rw (p, q, r) refl

both_throw : (b : Bool) (l m : Events) → ((b || of_events.throws l) || of_events.throws m) ≡ (b || of_events.throws (behind l m))
both_throw b l m = or_assoc b (of_events.throws l) (of_events.throws m) ∙ ap (λ (x : Bool). b || x) (sym (throws-behind l m))

both_add : (ts : List Token) (l m : Events) → (ts ++ tokens l) ++ tokens m ≡ ts ++ tokens (behind l m)
both_add ts l m = append_assoc ts (tokens l) (tokens m) ∙ ap (λ (us : List Token). ts ++ us) (sym (tokens-behind l m))

onto_twice : (s : State) (r : Run) (o : Option Run) → onto (behind_state s r) o ≡ onto s (run_behind r.events o)
onto_twice s r None = refl
onto_twice s r (Some q) = ap (λ (t : State). Some (q.value, t)) (states refl (both_add s.tokens r.events q.events) (both_throw s.has_thrown r.events q.events))

pub bind_at : (s : State) (o : Option Run) (f : Value → Evaluation) (g : Value → Step Value) → ((v : Value) → Follows (f v) (g v)) → next (onto s o) g ≡ onto s (go_on o f)
bind_at s None f g h = refl
bind_at s (Some r) f g h = (h r.value).same (behind_state s r) ∙ onto_twice s r (f r.value r.after)

fine_run : (env : Environment) (r : Run) (o : Option Run) → Fine env r → IsFine r.after o → IsFine env (run_behind r.events o)
fine_run env r None f g = tt
fine_run env r (Some q) f g = record { more = g.more ++ f.more; grows = g.grows ∙ ap (λ (x : Environment). g.more ++ x) f.grows ∙ sym (append_assoc g.more f.more env) }

pub fine_on : (env : Environment) (o : Option Run) (f : Value → Evaluation) → IsFine env o → ((v : Value) (e : Environment) → IsFine e (f v e)) → IsFine env (go_on o f)
fine_on env None f h k = tt
fine_on env (Some r) f h k = fine_run env r (f r.value r.after) h (k r.value r.after)

pub follows_bind : (a : Evaluation) (d : Step Value) (f : Value → Evaluation) (g : Value → Step Value) → Follows a d → ((v : Value) → Follows (f v) (g v)) → Follows (bind a f) (and_then d g)
follows_bind a d f g h k = record {
  same = λ s. ap (λ (o : Option (Value × State)). next o g) (h.same s) ∙ bind_at s (a s.names) f g k;
  fine = λ env. fine_on env (a env) f (h.fine env) (λ v e. (k v).fine e);
}

-- ---- steps

or_false : (b : Bool) → (b || false) ≡ b
or_false true = refl
or_false false = refl

nothing_added : (s : State) (v : Value) → behind_state s (record { events = none; value = v; after = s.names }) ≡ s
nothing_added s v = states refl (append-nil s.tokens) (or_false s.has_thrown)

here : (env : Environment) (v : Value) → Fine env (record { events = none; value = v; after = env })
here env v = record { more = []; grows = refl }

pub follows_none : Follows of.no_meaning direct.no_meaning
follows_none = record { same = λ s. refl; fine = λ env. tt }

pub follows_gives : (v : Value) → Follows (of.gives v) (direct.gives v)
follows_gives v = record { same = λ s. ap (λ (t : State). Some (v, t)) (sym (nothing_added s v)); fine = λ env. here env v }

one_added : (s : State) (e : Event) (v : Value) (t : Token) → is_throw e ≡ false → flat_event e [] ≡ t ∷ [] → behind_state s (record { events = then e none; value = v; after = s.names }) ≡ with_token t s
one_added s e v t quiet is = rw (quiet, is, or_false s.has_thrown) refl

pub follows_event : (e : Event) (v : Value) (t : Token) → is_throw e ≡ false → flat_event e [] ≡ t ∷ [] → Follows (of.event e v) (emit t v)
follows_event e v t quiet is = record {
  same = λ s. ap (λ (x : State). Some (v, x)) (sym (one_added s e v t quiet is));
  fine = λ env. record { more = []; grows = refl };
}

or_true : (b : Bool) → (b || true) ≡ true
or_true true = refl
or_true false = refl

pub follows_throw : Follows (of.event Throw Undefined) direct.throws
follows_throw = record {
  same = λ s. rw (or_true s.has_thrown) refl;
  fine = λ env. record { more = []; grows = refl };
}

-- ---- a list that throws has no value

settle_at : (s : State) (o : Option Run) → settle_with s.has_thrown (onto (entered s) o) ≡ onto s (settle_run o)
settle_at s None = refl
settle_at s (Some r) = refl

fine_settle : (env : Environment) (o : Option Run) → IsFine env o → IsFine env (settle_run o)
fine_settle env None h = tt
fine_settle env (Some r) h = record { more = h.more; grows = h.grows }

pub follows_settle : (a : Evaluation) (d : Step Value) → Follows a d → Follows (settle a) (settled d)
follows_settle a d h = record {
  same = λ s. ap (settle_with s.has_thrown) (h.same (entered s)) ∙ settle_at s (a s.names);
  fine = λ env. fine_settle env (a env) (h.fine env);
}

-- ---- behind a class

added_length : (xs ys : Environment) → of.added xs ys ≡ length xs - length ys
added_length [] ys = omega arith
added_length (x ∷ xs) [] = omega arith
added_length (x ∷ xs) (y ∷ ys) = let e : of.added xs ys ≡ length xs - length ys = added_length xs ys in omega (arith, e)

added_front : (more env : Environment) → of.added (more ++ env) env ≡ length more
added_front more env =
    let e : length (more ++ env) ≡ length more + length env = length-append more env in
    let a : of.added (more ++ env) env ≡ length (more ++ env) - length env = added_length (more ++ env) env in
    omega (arith, e, a)

front_or : (b : Bool) (p : String × Value) (all rest env : Environment) → all ≡ rest ++ env → cond b all (p ∷ all) ≡ cond b rest (p ∷ rest) ++ env
front_or true p all rest env e = e
front_or false p all rest env e = ap (λ (us : Environment). p ∷ us) e

without_front : (more env : Environment) → of.without_private (length more) (more ++ env) ≡ of.without_private (length more) more ++ env
without_front [] env = refl
without_front (p ∷ more) env = front_or (of.is_private_key p.0) p (of.without_private (length more) (more ++ env)) (of.without_private (length more) more) env (without_front more env)

outside_at : (s : State) (o : Option Run) → direct.outside_with s.names (onto s o) ≡ onto s (of.outside_run s.names o)
outside_at s None = refl
outside_at s (Some r) = refl

fine_outside : (env : Environment) (o : Option Run) → IsFine env o → IsFine env (of.outside_run env o)
fine_outside env None h = tt
fine_outside env (Some r) h = record {
  more = of.without_private (length h.more) h.more;
  grows = ap (λ (after : Environment). of.without_private (of.added after env) after) h.grows ∙ ap (λ n. of.without_private n (h.more ++ env)) (added_front h.more env) ∙ without_front h.more env;
}

pub follows_outside : (a : Evaluation) (d : Step Value) → Follows a d → Follows (of.outside a) (direct.outside d)
follows_outside a d h = record {
  same = λ s. ap (direct.outside_with s.names) (h.same s) ∙ outside_at s (a s.names);
  fine = λ env. fine_outside env (a env) (h.fine env);
}

pub outside_settled : (s : State) (o : Option (Value × State)) → settle_with s.has_thrown (direct.outside_with s.names o) ≡ direct.outside_with s.names (settle_with s.has_thrown o)
outside_settled s None = refl
outside_settled s (Some p) = refl

-- ---- parts

drop_front : (more env : Environment) → drop (length more) (more ++ env) ≡ env
drop_front [] env = refl
drop_front (x ∷ more) env = drop_front more env

length_front : (more env : Environment) → length (more ++ env) - length env ≡ length more
length_front more env = let e : length (more ++ env) ≡ length more + length env = length-append more env in omega arith

pub kept_all : (more env : Environment) → kept (length env) (more ++ env) ≡ env
kept_all more env =
    let n : length (more ++ env) - length env ≡ length more = length_front more env in
    rw n (drop_front more env)

held_tokens : (ts : List Token) (l : Events) (end : Token) → pushed (pushed ts begin ++ tokens l) end ≡ ts ++ begin ∷ flat l (end ∷ [])
held_tokens ts l end =
    append_assoc (ts ++ begin ∷ []) (tokens l) (end ∷ []) ∙ append_assoc ts (begin ∷ []) (tokens l ++ end ∷ []) ∙ ap (λ (us : List Token). ts ++ begin ∷ us) (sym (flat-append l (end ∷ [])))

pub held_state : (m : ℕ) (p : Place) (test : Option Value) (s : State) (r : Run) → Fine s.names r →
    closed s (behind_state (opened s) r) (ends m p test (value_behind r.events r.value)) ≡ behind_state s (record { events = then (Held m p test r.events (value_behind r.events r.value)) none; value = ResultOf m; after = s.names })
held_state m p test s r f = states (ap (kept (length s.names)) f.grows ∙ kept_all f.more s.names) (held_tokens s.tokens r.events (ends m p test (value_behind r.events r.value))) (sym (or_false s.has_thrown))

held_at : (m : ℕ) (p : Place) (test : Option Value) (s : State) (o : Option Run) → IsFine s.names o → close m p test s (onto (opened s) o) ≡ onto s (of.held_run m p test s.names o)
held_at m p test s None f = refl
held_at m p test s (Some r) f = ap (λ (t : State). Some (ResultOf m, t)) (held_state m p test s r f)

pub fine_held : (m : ℕ) (p : Place) (test : Option Value) (env : Environment) (o : Option Run) → IsFine env o → IsFine env (of.held_run m p test env o)
fine_held m p test env None h = tt
fine_held m p test env (Some r) h = record { more = []; grows = refl }

pub follows_held : (m : ℕ) (p : Place) (test : Option Value) (a : Evaluation) (d : Step Value) → Follows a d → Follows (of.held m p test a) (direct.held m p test d)
follows_held m p test a d h = record {
  same = λ s. ap (close m p test s) (h.same (opened s)) ∙ held_at m p test s (a s.names) (h.fine s.names);
  fine = λ env. fine_held m p test env (a env) (h.fine env);
}

quiet_at : (s : State) (o : Option Run) → quiet_with s (onto (apart s) o) ≡ onto s (of.quiet_run s.names o)
quiet_at s None = refl
quiet_at s (Some r) = ap (λ (t : State). Some (value_behind r.events r.value, t)) (sym (nothing_added s (value_behind r.events r.value)))

fine_quiet : (env : Environment) (o : Option Run) → IsFine env o → IsFine env (of.quiet_run env o)
fine_quiet env None h = tt
fine_quiet env (Some r) h = record { more = []; grows = refl }

pub follows_quiet : (a : Evaluation) (d : Step Value) → Follows a d → Follows (of.quiet a) (direct.quiet d)
follows_quiet a d h = record {
  same = λ s. ap (quiet_with s) (h.same (apart s)) ∙ quiet_at s (a s.names);
  fine = λ env. fine_quiet env (a env) (h.fine env);
}

some_event : (e : Event) (ts : List Token) → is_none (flat_event e ts) ≡ false
some_event (ReadName m r) ts = refl
some_event (SetName r v) ts = refl
some_event (Get m o k) ts = refl
some_event (Set o k v) ts = refl
some_event (Define o k v) ts = refl
some_event (Call m f r vs) ts = refl
some_event (Construct m f vs) ts = refl
some_event (Operate m op vs) ts = refl
some_event (Update m s v) ts = refl
some_event (PrivateGet m d o) ts = refl
some_event (PrivateSet d o v) ts = refl
some_event (PrivateInitialize d o v) ts = refl
some_event (PrivateIn m t o) ts = refl
some_event (AddBrand n o) ts = refl
some_event (SuperGet m h k t) ts = refl
some_event (SuperSet h k v t) ts = refl
some_event (SuperCall m n vs) ts = refl
some_event (SuperCallWithAll n) ts = refl
some_event EnterBody ts = refl
some_event (InitializeClass n) ts = refl
some_event Throw ts = refl
some_event (Short v) ts = refl
some_event (Held m p t l v) ts = refl

none_of : (l : Events) → is_none (tokens l) ≡ of.is_none l
none_of none = refl
none_of (then e es) = some_event e (flat es [])

stays_by : (b : Bool) (s : State) (v : Value) → cond b (Some (v, s)) None ≡ onto s (cond b (Some (record { events = none; value = v; after = s.names })) None)
stays_by true s v = ap (λ (t : State). Some (v, t)) (sym (nothing_added s v))
stays_by false s v = refl

stays_at : (v : Value) (s : State) (o : Option Run) → stays_with v s (onto (apart s) o) ≡ onto s (of.same_run v s.names o)
stays_at v s None = refl
stays_at v s (Some r) = ap (λ (b : Bool). cond (b && same_value v r.value) (Some (v, s)) None) (none_of r.events) ∙ stays_by (of.is_none r.events && same_value v r.value) s v

fine_cond : (b : Bool) (env : Environment) (r : Run) → Fine env r → IsFine env (cond b (Some r) None)
fine_cond true env r h = h
fine_cond false env r h = tt

fine_stays : (v : Value) (env : Environment) (o : Option Run) → IsFine env o → IsFine env (of.same_run v env o)
fine_stays v env None h = tt
fine_stays v env (Some r) h = fine_cond (of.is_none r.events && same_value v r.value) env _ (here env v)

pub follows_stays : (v : Value) (a : Evaluation) (d : Step Value) → Follows a d → Follows (of.stays v a) (direct.stays v d)
follows_stays v a d h = record {
  same = λ s. ap (stays_with v s) (h.same (apart s)) ∙ stays_at v s (a s.names);
  fine = λ env. fine_stays v env (a env) (h.fine env);
}

class_by : (thrown is : Bool) (s : State) (r : Run) → cond (thrown || is) (Some (r.value, behind_state s r)) None ≡ onto s (cond thrown (Some r) (cond is (Some r) None))
class_by true is s r = refl
class_by false true s r = refl
class_by false false s r = refl

fine_class : (thrown is : Bool) (env : Environment) (r : Run) → Fine env r → IsFine env (cond thrown (Some r) (cond is (Some r) None))
fine_class true is env r h = h
fine_class false true env r h = h
fine_class false false env r h = tt

class_at : (n : ℕ) (s : State) (o : Option Run) → class_with n s.has_thrown (onto (entered s) o) ≡ onto s (of.class_run n o)
class_at n s None = refl
class_at n s (Some r) = class_by (of_events.throws r.events) (is_class_value n r.value) s r

fine_class_run : (n : ℕ) (env : Environment) (o : Option Run) → IsFine env o → IsFine env (of.class_run n o)
fine_class_run n env None h = tt
fine_class_run n env (Some r) h = fine_class (of_events.throws r.events) (is_class_value n r.value) env r h

pub follows_class : (n : ℕ) (a : Evaluation) (d : Step Value) → Follows a d → Follows (of.gives_class n a) (direct.gives_class n d)
follows_class n a d h = record {
  same = λ s. ap (class_with n s.has_thrown) (h.same (entered s)) ∙ class_at n s (a s.names);
  fine = λ env. fine_class_run n env (a env) (h.fine env);
}

this_at : (n : ℕ) (s : State) (o : Option Run) → this_with n s.has_thrown (onto (entered s) o) ≡ onto s (of.this_run n o)
this_at n s None = refl
this_at n s (Some r) = class_by (of_events.throws r.events) (same_value (ThisOf n) r.value) s r

fine_this_run : (n : ℕ) (env : Environment) (o : Option Run) → IsFine env o → IsFine env (of.this_run n o)
fine_this_run n env None h = tt
fine_this_run n env (Some r) h = fine_class (of_events.throws r.events) (same_value (ThisOf n) r.value) env r h

pub follows_this : (n : ℕ) (a : Evaluation) (d : Step Value) → Follows a d → Follows (of.gives_this n a) (direct.gives_this n d)
follows_this n a d h = record {
  same = λ s. ap (this_with n s.has_thrown) (h.same (entered s)) ∙ this_at n s (a s.names);
  fine = λ env. fine_this_run n env (a env) (h.fine env);
}

-- ---- names

found_at : (o : Option Value) (s : State) → direct.give_found o s ≡ onto s (of.give_found o s.names)
found_at None s = refl
found_at (Some v) s = (follows_gives v).same s

fine_found : (o : Option Value) (env : Environment) → IsFine env (of.give_found o env)
fine_found None env = tt
fine_found (Some v) env = here env v

pub follows_given : (x : String) → Follows (of.read_given x) (direct.read_given x)
follows_given x = record { same = λ s. found_at (of.found x s.names) s; fine = λ env. fine_found (of.found x env) env }

name_added : (x : String) (v : Value) (s : State) → behind_state s (record { events = none; value = v; after = (x, v) ∷ s.names }) ≡ with_name x v s
name_added x v s = states refl (append-nil s.tokens) (or_false s.has_thrown)

pub follows_stands : (x : String) (v : Value) → Follows (of.stands_for x v) (direct.stands_for x v)
follows_stands x v = record { same = λ s. ap (λ (t : State). Some (v, t)) (sym (name_added x v s)); fine = λ env. record { more = (x, v) ∷ []; grows = refl } }
