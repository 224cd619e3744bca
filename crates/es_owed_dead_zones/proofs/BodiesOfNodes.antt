-- The bodies of a program, node by node.
use Rattle.std.proofs.Common.{◌≡◌, refl, ap, ◌∙◌, sym, arith, append-nil, ℕ, suc, ◌+◌, List, [], ◌∷◌, ◌++◌, Bool, true, false, cond, ◌&&◌, Result, Ok, Err}
use Rattle.std.specs.Prelude.{IfOk}
use Rattle.es_base.specs.Preorder.{preorder}
use Rattle.es_base.specs.Tree.{Tree, Parts, Node}
use Rattle.es_base.specs.declared.kind.Kind.{Kind}
use Rattle.es_base.specs.declared.ledger.LedgerEntry.{LedgerEntry}
use Rattle.es_lowered.specs.DeadZones as spec
use Rattle.es_lowered.specs.DeadZones.{Touch, nothing_around, parameters_at, touch}
use Rattle.es_node.specs.View.{kind_of, number_in, parts_in}
use Rattle.es_steps.specs.NameScopes.{is_any_function}
use Rattle.es_steps.specs.Parts.{at}
use Rattle.es_steps.specs.PrivateNames.{is_class}
use Rattle.es_steps.specs.References.{Reference, has_number, resolve, written}
use Rattle.es_steps.specs.declared.options.Options.{Options}
use Rattle.es_touches.proofs.Comparing.{fit_alike}
use Rattle.es_owed_dead_zones.specs.Bodies.{bodies, bodies_by, body, field_touches, function_body, function_touches, with_held}
use Rattle.es_owed_dead_zones.specs.Walk.{is_apart, touches_at, value_touches}
use Rattle.es_owed_dead_zones.specs.declared.bodies.Program.{Program}

module _ (x : Program) where
  pub bodies_more : (t : Tree) (ts : List Tree) → bodies x (t ∷ ts) ≡ bodies_by x (kind_of t) (number_in t) (parts_in t) ++ bodies x ts
  bodies_more (Node kind m span semantic_id ps) ts = refl

  pub fields_more : (ns : List ℕ) (t : Tree) (ts : List Tree) → field_touches x ns (t ∷ ts) ≡ cond (is_class (kind_of t) && has_number (number_in t) ns) (value_touches x.terms false nothing_around (at 2 (parts_in t))) (field_touches x ns ts)
  fields_more ns (Node kind n span semantic_id ps) ts = refl

  pub body_of_program : (kind : Kind) (m : ℕ) (ps : Parts) → kind ≡ Kind.Program → bodies_by x kind m ps ≡ body m false [] false (touches_at x.terms nothing_around (at 1 ps)) ∷ []
  body_of_program kind m ps is = ap (λ k. bodies_by x k m ps) is

  by_kind : (kind : Kind) (m : ℕ) (ps : Parts) → (kind ≡ Kind.Program → ⊥) → bodies_by x kind m ps ≡ cond (is_any_function kind && is_apart x.terms kind m) (function_body x kind m ps ∷ []) (cond (is_class kind) (body m true [] false (value_touches x.terms false nothing_around (at 2 ps)) ∷ []) [])
  by_kind Kind.Program m ps other = absurd (other refl)
  by_kind kind m ps other = refl

  pub body_of_function : (kind : Kind) (m : ℕ) (ps : Parts) → (kind ≡ Kind.Program → ⊥) → (is_any_function kind && is_apart x.terms kind m) ≡ true → bodies_by x kind m ps ≡ function_body x kind m ps ∷ []
  body_of_function kind m ps other function = by_kind kind m ps other ∙ ap (λ b. cond b (function_body x kind m ps ∷ []) (cond (is_class kind) (body m true [] false (value_touches x.terms false nothing_around (at 2 ps)) ∷ []) [])) function

  pub body_of_class : (kind : Kind) (m : ℕ) (ps : Parts) → (kind ≡ Kind.Program → ⊥) → (is_any_function kind && is_apart x.terms kind m) ≡ false → is_class kind ≡ true → bodies_by x kind m ps ≡ body m true [] false (value_touches x.terms false nothing_around (at 2 ps)) ∷ []
  body_of_class kind m ps other function class =
      by_kind kind m ps other
      ∙ ap (λ b. cond b (function_body x kind m ps ∷ []) (cond (is_class kind) (body m true [] false (value_touches x.terms false nothing_around (at 2 ps)) ∷ []) [])) function
      ∙ ap (λ b. cond b (body m true [] false (value_touches x.terms false nothing_around (at 2 ps)) ∷ []) []) class

  pub body_of_none : (kind : Kind) (m : ℕ) (ps : Parts) → (kind ≡ Kind.Program → ⊥) → (is_any_function kind && is_apart x.terms kind m) ≡ false → is_class kind ≡ false → bodies_by x kind m ps ≡ []
  body_of_none kind m ps other function class =
      by_kind kind m ps other
      ∙ ap (λ b. cond b (function_body x kind m ps ∷ []) (cond (is_class kind) (body m true [] false (value_touches x.terms false nothing_around (at 2 ps)) ∷ []) [])) function
      ∙ ap (λ b. cond b (body m true [] false (value_touches x.terms false nothing_around (at 2 ps)) ∷ []) []) class

pub parameters_of_arrow : (kind : Kind) → kind ≡ Kind.ArrowFunctionExpression → parameters_at kind ≡ 0
parameters_of_arrow kind is = ap parameters_at is

pub parameters_of_other : (kind : Kind) → (kind ≡ Kind.ArrowFunctionExpression → ⊥) → parameters_at kind ≡ 1
parameters_of_other Kind.ArrowFunctionExpression other = absurd (other refl)
parameters_of_other kind other = refl

pub with_none : (ts : List Touch) → with_held [] ts ≡ ts
with_none [] = refl
with_none (t ∷ ts) =
    ap (λ (held : List (ℕ × ℕ)). record { number = t.number; form = t.form; held = held } ∷ with_held [] ts) (append-nil t.held)
    ∙ ap (λ (us : List Touch). t ∷ us) (with_none ts)

pub function_node : (x : Program) (derives : Bool) (fields : List Touch) (kind : Kind) (m : ℕ) (ps : Parts) (p : ℕ) → p ≡ parameters_at kind → function_touches x derives fields kind m ps ≡ touches_at x.terms nothing_around (at p ps) ++ (touch [] m spec.another ++ (cond derives [] fields ++ touches_at x.terms nothing_around (at (p + 1) ps)))
function_node x derives fields kind m ps p is =
    let next : suc (parameters_at kind) ≡ p + 1 = omega (arith, is) in
    ap (λ k. touches_at x.terms nothing_around (at (parameters_at kind) ps) ++ (touch [] m spec.another ++ (cond derives [] fields ++ touches_at x.terms nothing_around (at k ps)))) next
    ∙ ap (λ k. touches_at x.terms nothing_around (at k ps) ++ (touch [] m spec.another ++ (cond derives [] fields ++ touches_at x.terms nothing_around (at (p + 1) ps)))) (sym is)

pub bodies_alike : (first : ℕ) (called : spec.Closures) (xs ys ns ms : List ℕ) (rs qs : List Reference) (ds es : List ℕ) (gs hs : List (ℕ × ℕ)) (ts us : List Tree) → xs ≡ ys → ns ≡ ms → rs ≡ qs → ds ≡ es → gs ≡ hs → ts ≡ us → spec.bodies first called xs ns rs ds gs ts ts ≡ spec.bodies first called ys ms qs es hs us us
bodies_alike first called xs ys ns ms rs qs ds es gs hs ts us a b c d e f = rw (a, b, c, d, e, f) refl

pub fitted : {E : Type 0} (r : Result Bool E) (first : ℕ) (ns ms : List ℕ) (ks ls : List spec.ClassParts) (cs ds : spec.Closures) (xs ys us vs : List spec.Body) → ns ≡ ms → ks ≡ ls → cs ≡ ds → xs ≡ ys → us ≡ vs → IfOk r (λ holds. holds ≡ spec.bodies_fit first ns ks cs xs us) → IfOk r (λ holds. holds ≡ spec.bodies_fit first ms ls ds ys vs)
fitted (Ok holds) first ns ms ks ls cs ds xs ys us vs a b c d e fits = fits ∙ fit_alike first ns ms ks ls cs ds xs ys us vs a b c d e
fitted (Err e) first ns ms ks ls cs ds xs ys us vs a b c d f fits = tt

pub bodies_of_alike : (first : ℕ) (es fs : List LedgerEntry) (called calls : spec.Closures) (asked facts : Tree) (program : Tree) → es ≡ fs → called ≡ calls → asked ≡ facts → spec.bodies_of first es called (preorder asked) program ≡ spec.bodies_of first fs calls (preorder facts) program
bodies_of_alike first es fs called calls asked facts program a b c = rw (a, b, c) refl

pub parts_alike : (options : Options) (p q : Tree) (ts us : List Tree) → p ≡ q → ts ≡ us → spec.class_parts options (written p) (resolve p) ts ≡ spec.class_parts options (written q) (resolve q) us
parts_alike options p q ts us a b = rw (a, b) refl
