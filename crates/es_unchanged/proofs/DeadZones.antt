-- In a program that is left as it is what reads without an event stands where it stands.
use Rattle.std.specs.Prelude.{◌≡◌, ℕ, List, [], ◌∷◌, ◌++◌, Bool, true, false, cond, not, ◌&&◌, ◌||◌, nat_eq, nat_le}
use Rattle.std.proofs.Common.{refl, ap, sym, ◌∙◌, le-leb, le_refl}
use Rattle.std.proofs.lemmas.List.{append_assoc}
use Rattle.es_base.specs.Numbered.{is_new}
use Rattle.es_base.specs.Preorder.{preorder}
use Rattle.es_base.specs.Tree.{Tree, Part, Parts, Node, child}
use Rattle.es_base.specs.declared.kind.Kind.{Kind}
use Rattle.es_left.proofs.Booleans.{both}
use Rattle.es_lowered.specs.Definitions.{spelling}
use Rattle.es_lowered.specs.DeadZones.{closure, closures_by, closures, super_calls, class_parts, is_touched, times, definitions_touched, is_this, is_same_form, is_asked, is_excepted, is_run_by, were_run, put_off, all_behind, stands_like, stands_in_any, reads_key, is_behind_super, touch_fits, in_same, runs_fit, touches_fit, bodies_fit, bodies_of, private_updates, all_throws, dead_zones_stay, TouchForm, Touch, Body, ClassParts, reads, names_class, reads_this, makes_class, runs_closure}
use Rattle.es_steps.proofs.Reflexive.{number-same}
use Rattle.es_steps.specs.KeptNodes.{pair_stands, all_pairs_stand, is_within}
use Rattle.es_steps.specs.Parts.{at}
use Rattle.es_steps.specs.References.{resolve, written}
use Rattle.es_steps.specs.Values.{String}
use Rattle.es_steps.specs.declared.options.Options.{Options}
use Rattle.es_unchanged.proofs.Standing.{or_right, within-both}

pub or-first : {a : Bool} → a ≡ true → (b : Bool) → (a || b) ≡ true
or-first e b = rw e refl

-- ---- the parts around

held-stand : (ps qs : List (ℕ × ℕ)) → ((p : ℕ × ℕ) → pair_stands p ps ≡ true → pair_stands p qs ≡ true) → all_pairs_stand ps qs ≡ true
held-stand [] qs h = refl
held-stand (p ∷ ps) qs h =
    both (h p (rw (number-same p.0, number-same p.1) refl)) (held-stand ps qs (λ q i. h q (or_right (nat_eq q.0 p.0 && nat_eq q.1 p.1) (pair_stands q ps) i)))

-- ---- what is asked is like itself, and stands where it stands

form-same : (derives : Bool) (form : TouchForm) → is_asked derives form ≡ true → is_same_form form form ≡ true
form-same derives (reads b) a = number-same b
form-same derives names_class a = refl
form-same derives reads_this a = refl
form-same derives makes_class a = refl
form-same derives form a = absurd (cc)

this-derives : (derives : Bool) (form : TouchForm) → is_asked derives form ≡ true → (derives || not (is_this form)) ≡ true
this-derives true form a = refl
this-derives false reads_this a = absurd (cc)
this-derives false form a = refl

at-most-itself : (n : ℕ) → nat_le n n ≡ true
at-most-itself n = le-leb n n (le_refl n)

-- ---- there are no closures

closure-none : (s : String) (p : Part) → closure [] s p ≡ []
closure-none s (child (Node Kind.ArrowFunctionExpression k span semantic_id ps)) = refl
closure-none s p = refl

by-none : (kind : Kind) (ps : Parts) → closures_by [] kind ps ≡ []
by-none Kind.AssignmentExpression ps = closure-none (spelling (at 1 ps)) (at 2 ps)
by-none Kind.VariableDeclarator ps = closure-none (spelling (at 0 ps)) (at 1 ps)
by-none kind ps = refl

pub closures-none : (ts : List Tree) → closures [] ts ≡ []
closures-none [] = refl
closures-none (Node kind m span semantic_id ps ∷ ts) = rw (by-none kind ps, closures-none ts) refl

put-off-none : (ran : List ℕ) (t : Touch) (us : List Touch) → put_off [] ran t us ≡ []
put-off-none ran t [] = refl
put-off-none ran t (u ∷ us) = put-off-none ran t us

runs-none : (u : Touch) (form : TouchForm) → is_run_by [] u form ≡ false
runs-none u (runs_closure k) = refl
runs-none u form = refl

-- ---- what always throws did

within-same : (ns : List ℕ) → is_within ns ns ≡ true
within-same [] = refl
within-same (n ∷ ns) = within-both n ns ns (within-same ns)

-- ---- each body

module _ (first : ℕ) (supers : List ℕ) (classes : List ClassParts) (sources : List Body) where
  behind-stay : (there : List Touch) (u : Touch) (ts es : List Touch) → all_behind first supers classes [] sources there u ts ts es ≡ true
  behind-stay there u ts [] = refl
  behind-stay there u ts (e ∷ es) =
      both
      (or_right (is_asked true e.form || not (is_touched e.number there)) (nat_le (times e.number ts) (times e.number ts) || is_excepted u.number e.number classes) (or-first (at-most-itself (times e.number ts)) (is_excepted u.number e.number classes)))
      (behind-stay there u ts es)

  like-itself : (derives : Bool) (t : Touch) (ts before : List Touch) → is_asked derives t.form ≡ true → stands_like first supers classes [] sources t ts (before ++ (t ∷ ts)) (t ∷ ts) ≡ true
  like-itself derives t ts before a =
      let all : List Touch = before ++ (t ∷ ts) in
      or-first
      (both (both (or_right (is_new first t.number) (nat_eq t.number t.number) (number-same t.number)) (form-same derives t.form a))
      (both (behind-stay all t ts ts) (both (at-most-itself (definitions_touched [] t ts)) (held-stand t.held t.held (λ p i. i)))))
      (stands_like first supers classes [] sources t ts all ts)

  like-further : (all : List Touch) (t : Touch) (ts us before : List Touch) → stands_like first supers classes [] sources t ts all us ≡ true → stands_like first supers classes [] sources t ts all (before ++ us) ≡ true
  like-further all t ts us [] e = e
  like-further all t ts us (u ∷ before) e = or_right _ (stands_like first supers classes [] sources t ts all (before ++ us)) (like-further all t ts us before e)

  in-any : (ready : Bool) (b : Body) (t : Touch) (ts : List Touch) (before after : List Body) → (b.derives || not (is_this t.form)) ≡ true → stands_like first supers classes [] sources t ts b.touches b.touches ≡ true → stands_in_any first supers classes [] sources ready b t ts (before ++ (b ∷ after)) ≡ true
  in-any ready b t ts [] after d e = or-first (both (or-first (number-same b.number) _) (both d e)) (stands_in_any first supers classes [] sources ready b t ts after)
  in-any ready b t ts (c ∷ before) after d e = or_right _ (stands_in_any first supers classes [] sources ready b t ts (before ++ (b ∷ after))) (in-any ready b t ts before after d e)

  touch-fits : (b : Body) (front before : List Touch) (t : Touch) (ts : List Touch) → b.touches ≡ before ++ (t ∷ ts) → (earlier later : List Body) → sources ≡ earlier ++ (b ∷ later) → touch_fits first supers classes [] sources b front t ts ≡ true
  touch-fits b front before t ts e earlier later s = asked (is_asked b.derives t.form) refl
    where
      like : is_asked b.derives t.form ≡ true → stands_like first supers classes [] sources t ts b.touches b.touches ≡ true
      like a = rw e (like-further (before ++ (t ∷ ts)) t ts (t ∷ ts) before (like-itself b.derives t ts before a))

      standing : is_asked b.derives t.form ≡ true → stands_in_any first supers classes [] sources (not b.derives || is_behind_super first supers classes [] sources t front) b t ts sources ≡ true
      standing a = ap (stands_in_any first supers classes [] sources (not b.derives || is_behind_super first supers classes [] sources t front) b t ts) s ∙ in-any _ b t ts earlier later (this-derives b.derives t.form a) (like a)

      asked : (x : Bool) → is_asked b.derives t.form ≡ x → (not x || (cond (is_this t.form) (is_behind_super first supers classes [] sources t front) (reads_key first supers classes [] sources b.of_class t.form classes) || stands_in_any first supers classes [] sources (not b.derives || is_behind_super first supers classes [] sources t front) b t ts sources)) ≡ true
      asked true a = or_right (cond (is_this t.form) (is_behind_super first supers classes [] sources t front) (reads_key first supers classes [] sources b.of_class t.form classes)) (stands_in_any first supers classes [] sources (not b.derives || is_behind_super first supers classes [] sources t front) b t ts sources) (standing a)
      asked false a = refl

  in-same : (t : Touch) (us : List Touch) → in_same first supers classes [] sources t us ≡ us
  in-same t [] = refl
  in-same t (u ∷ us) = ap (λ vs. u ∷ vs) (in-same t us)

  runs-fit : (b : Body) (front : List Touch) (t : Touch) (ts before us : List Touch) → runs_fit first supers classes [] sources b front t ts before us ≡ true
  runs-fit b front t ts before [] = refl
  runs-fit b front t ts before (u ∷ us) = rw (runs-none u t.form) (runs-fit b front t ts (u ∷ before) us)

  pub touches-fit : (b : Body) (front before ts : List Touch) → b.touches ≡ before ++ ts → (earlier later : List Body) → sources ≡ earlier ++ (b ∷ later) → touches_fit first supers classes [] sources b front ts ≡ true
  touches-fit b front before [] e earlier later s = refl
  touches-fit b front before (t ∷ ts) e earlier later s =
      both (both (rw (put-off-none (were_run [] t [] front) t front, in-same t ts) (touch-fits b front before t ts e earlier later s)) (runs-fit b (t ∷ front) t ts [] b.touches))
      (touches-fit b (t ∷ front) (before ++ (t ∷ [])) ts (e ∙ sym (append_assoc before (t ∷ []) ts)) earlier later s)

  bodies-fit : (earlier bs : List Body) → sources ≡ earlier ++ bs → bodies_fit first supers classes [] sources bs ≡ true
  bodies-fit earlier [] s = refl
  bodies-fit earlier (b ∷ bs) s =
      both (touches-fit b [] [] b.touches refl earlier bs s) (bodies-fit (earlier ++ (b ∷ [])) bs (s ∙ sym (append_assoc earlier (b ∷ []) bs)))

pub dead_zones-stay : (first : ℕ) (o : Options) (t : Tree) → dead_zones_stay first o [] t t ≡ true
dead_zones-stay first o t =
    both (within-same (all_throws first (private_updates (preorder t)) (preorder t)))
    (rw (closures-none (preorder t)) (bodies-fit first (super_calls (preorder t)) (class_parts o (written t) (resolve t) (preorder t)) (bodies_of first [] [] (preorder t) t) [] (bodies_of first [] [] (preorder t) t) refl))
