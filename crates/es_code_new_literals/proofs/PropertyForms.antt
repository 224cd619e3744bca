-- Properties of object literals, by the forms of codes.
use Rattle.std.proofs.Common.{◌≡◌, refl, sym, ap, ◌∙◌, List, [], ◌∷◌, true, false, cond, Option, Some, None, length}
use Rattle.std.specs.Prelude.{◌&&◌}
use Rattle.std.proofs.Common.{◌<◌, arith}
use Rattle.es_base.specs.declared.kind.Kind.{Kind}
use Rattle.es_steps.specs.Events as events
use Rattle.es_steps.specs.Values as values
use Rattle.es_code_new_literals.specs.Details.{is_opening, is_plain_end}
use Rattle.es_code_new_literals.specs.Literals.{constant_property, inner_key, computed_property, keyed_property, property_among, property_in, is_object, is_keyed_by, is_inner_key}
use Rattle.es_steps.specs.Code as of
use Rattle.es_codes.proofs.Forms.{code_out, key_of_is}
use Rattle.es_codes.specs.CodeView.{code_of, target_of, callee_of, codes_of, code_step}
use Rattle.es_codes.specs.declared.code.Code.{Code}
use Rattle.es_codes.specs.declared.code.Target.{Target}
use Rattle.es_codes.specs.declared.code.Callee.{Callee}
use Rattle.es_codes.specs.declared.code.Code.TheVariants as variants
use Rattle.es_codes.specs.declared.code.Callee.TheOpen.{Code-F}
use Rattle.es_codes.specs.declared.code.Callee.TheViews.{roll-Code, out-Code, roll-out-Code}
use Rattle.es_codes.specs.declared.code.Callee.TheFolds.{map-Code}

pub no_constant_property : (k : values.Constant) (es : List Code) → (length es ≡ 1 → ⊥) → None ≡ constant_property k (codes_of es)
no_constant_property k [] h = refl
no_constant_property k (e ∷ []) h = absurd (h refl)
no_constant_property k (e ∷ d ∷ es) h = refl

pub an_inner_key : (e : Code) (expression : Code) → e ≡ variants.KeyOf expression → inner_key (code_of e) ≡ Some (code_of expression)
an_inner_key e expression is = ap (λ x. inner_key (code_of x)) is ∙ ap (λ x. inner_key x) (key_of_is expression)

pub no_inner_key : (e : Code) → ((expression : Code) → e ≡ variants.KeyOf expression → ⊥) → inner_key (code_of e) ≡ None
no_inner_key e not_key_of = ap (λ x. inner_key x) (code_out e) ∙ by (out-Code e) (roll-out-Code e)
  where
    by : (y : Code-F Callee Code Target) → roll-Code y ≡ e → inner_key (code_step (map-Code Callee Code Target of.Callee of.Code of.Target callee_of code_of target_of y)) ≡ None
    by (Code-F.KeyOf expression) is = absurd (not_key_of expression (sym is ∙ variants.rolls-KeyOf expression))
    by y is = refl

-- a computed key and a value
abbrev with_value : of.Code → Option of.Code → Option (of.Code × of.Code)
with_value v (Some k) = Some (k, v)
with_value v None = None

computed-by : (a v : of.Code) → computed_property (of.and a (of.and v of.done)) ≡ with_value v (inner_key a)
computed-by (of.key_of k) v = refl
computed-by a v = refl

pub two_computed : (a v k : of.Code) → Some k ≡ inner_key a → Some (k, v) ≡ computed_property (of.and a (of.and v of.done))
two_computed a v k is = ap (with_value v) is ∙ sym (computed-by a v)

pub not_computed : (a v : of.Code) → None ≡ inner_key a → None ≡ computed_property (of.and a (of.and v of.done))
not_computed a v is = ap (with_value v) is ∙ sym (computed-by a v)

one : (x : of.Code) → None ≡ computed_property (of.and x of.done)
one (of.key_of k) = refl
one x = refl

more : (x y z : of.Code) (xs : of.Codes) → None ≡ computed_property (of.and x (of.and y (of.and z xs)))
more (of.key_of k) y z xs = refl
more x y z xs = refl

pub no_computed_property : (es : List Code) → (length es ≡ 2 → ⊥) → None ≡ computed_property (codes_of es)
no_computed_property [] h = refl
no_computed_property (e ∷ []) h = one (code_of e)
no_computed_property (e ∷ d ∷ []) h = absurd (h refl)
no_computed_property (e ∷ d ∷ c ∷ es) h = more (code_of e) (code_of d) (code_of c) (codes_of es)

pub computed_key : (key a v : of.Code) → is_inner_key key (inner_key a) ≡ is_keyed_by key (computed_property (of.and a (of.and v of.done)))
computed_key key (of.key_of k) v = refl
computed_key key a v = refl

pub no_property : (ds : List events.Detail) (es : of.Codes) → length ds < 2 → None ≡ property_among ds es
no_property [] es h = refl
no_property (d ∷ []) es h = refl
no_property (d ∷ c ∷ ds) es h = absurd (omega (arith, h))

-- ---- keys that are not there

pub no_constant_key : (key : of.Code) (k : values.Constant) (es : List Code) → (length es ≡ 1 → ⊥) → false ≡ is_keyed_by key (constant_property k (codes_of es))
no_constant_key key k es h = ap (is_keyed_by key) (no_constant_property k es h)

pub no_computed_key : (key : of.Code) (es : List Code) → (length es ≡ 2 → ⊥) → false ≡ is_keyed_by key (computed_property (codes_of es))
no_computed_key key es h = ap (is_keyed_by key) (no_computed_property es h)

pub no_key : (key : of.Code) (ds : List events.Detail) (es : of.Codes) → length ds < 2 → false ≡ is_keyed_by key (property_among ds es)
no_key key ds es h = ap (is_keyed_by key) (no_property ds es h)

pub key_among : (key : of.Code) (begin d : events.Detail) (ds : List events.Detail) (es : of.Codes) → (is_opening begin && is_plain_end ds) ≡ true → is_keyed_by key (keyed_property d es) ≡ is_keyed_by key (property_among (begin ∷ d ∷ ds) es)
key_among key begin d ds es h = ap (λ b. is_keyed_by key (cond b (keyed_property d es) None)) (sym h)

pub no_key_among : (key : of.Code) (begin d : events.Detail) (ds : List events.Detail) (es : of.Codes) → (is_opening begin && is_plain_end ds) ≡ false → false ≡ is_keyed_by key (property_among (begin ∷ d ∷ ds) es)
no_key_among key begin d ds es h = ap (λ b. is_keyed_by key (cond b (keyed_property d es) None)) (sym h)

pub key_of_object : (key : of.Code) (kind : Kind) (ds : List events.Detail) (es : of.Codes) → is_object kind ≡ true → is_keyed_by key (property_among ds es) ≡ is_keyed_by key (property_in (events.OfKind kind ds, es))
key_of_object key kind ds es h = ap (λ b. is_keyed_by key (cond b (property_among ds es) None)) (sym h)

pub key_of_no_object : (key : of.Code) (kind : Kind) (ds : List events.Detail) (es : of.Codes) → is_object kind ≡ false → false ≡ is_keyed_by key (property_in (events.OfKind kind ds, es))
key_of_no_object key kind ds es h = ap (λ b. is_keyed_by key (cond b (property_among ds es) None)) (sym h)
