-- Calls of `super`, and of members of it, by the forms of codes.
use Rattle.std.proofs.Common.{◌≡◌, refl, sym, ap, ◌∙◌, ℕ, List, [], ◌∷◌, ◌<◌, ◌≤◌, length, Bool, true, false, cond, Some, arith}
use Rattle.std.specs.Prelude.{◌&&◌, bytes_eq}
use Rattle.es_base.specs.declared.kind.Kind.{Kind}
use Rattle.es_base.specs.declared.ledger.GeneratedKind.{GeneratedKind}
use Rattle.es_steps.specs.Context as names
use Rattle.es_steps.specs.Context.{Context}
use Rattle.es_steps.specs.Events as events
use Rattle.es_steps.specs.GeneratedForms as spec
use Rattle.es_steps.specs.Helpers as helpers
use Rattle.es_code_generated_calls.specs.SuperCalls.{has_none, is_args, is_args_named, is_one_named, is_spread_of, passes_in, super_call_of, super_called}
use Rattle.es_steps.specs.Code as of
use Rattle.es_codes.proofs.Forms.{code_out, name_is, operation_is}
use Rattle.es_codes.specs.CodeView.{code_of, target_of, callee_of, codes_of, code_step}
use Rattle.es_codes.specs.declared.code.Code.{Code}
use Rattle.es_codes.specs.declared.code.Target.{Target}
use Rattle.es_codes.specs.declared.code.Callee.{Callee}
use Rattle.es_codes.specs.declared.code.Code.TheVariants as variants
use Rattle.es_codes.specs.declared.code.Callee.TheOpen.{Code-F}
use Rattle.es_codes.specs.declared.code.Callee.TheViews.{roll-Code, out-Code, roll-out-Code}
use Rattle.es_codes.specs.declared.code.Callee.TheFolds.{map-Code}
use Rattle.es_codes.specs.View.{kind_of}
use Rattle.es_codes.specs.declared.event.Operation.{Operation}
use Rattle.es_codes.specs.declared.name.NameKind.{NameKind}

-- ---- `super(..)`

named-by : (t : List ℕ) (m : ℕ) (s : List ℕ) (kind : names.NameKind) → is_args_named t (of.name m s kind) ≡ (is_args kind && bytes_eq t s)
named-by t m s (names.Generated GeneratedKind.Args) = refl
named-by t m s (names.Generated g) = refl
named-by t m s kind = refl

pub a_name : (t : List ℕ) (e : Code) (node : ℕ) (spelling : List ℕ) (kind : NameKind) → e ≡ variants.Name node spelling kind → is_args_named t (code_of e) ≡ (is_args (kind_of kind) && bytes_eq t spelling)
a_name t e node spelling kind is = ap (λ z. is_args_named t (code_of z)) is ∙ ap (λ z. is_args_named t z) (name_is node spelling kind) ∙ named-by t node spelling (kind_of kind)

pub no_name : (t : List ℕ) (e : Code) → ((node : ℕ) (spelling : List ℕ) (kind : NameKind) → e ≡ variants.Name node spelling kind → ⊥) → is_args_named t (code_of e) ≡ false
no_name t e not_name = ap (λ z. is_args_named t z) (code_out e) ∙ by (out-Code e) (roll-out-Code e)
  where
    by : (y : Code-F Callee Code Target) → roll-Code y ≡ e → is_args_named t (code_step (map-Code Callee Code Target of.Callee of.Code of.Target callee_of code_of target_of y)) ≡ false
    by (Code-F.Name node spelling kind) is = absurd (not_name node spelling kind (sym is ∙ variants.rolls-Name node spelling kind))
    by y is = refl

pub some_held : (es : List Code) → 1 ≤ length es → has_none (codes_of es) ≡ false
some_held [] h = absurd (omega (arith, h))
some_held (a ∷ es) h = refl

pub none_held : (es : List Code) → length es < 1 → has_none (codes_of es) ≡ true
none_held [] h = refl
none_held (a ∷ es) h = absurd (omega (arith, h))

pub not_one_named : (t : List ℕ) (es : List Code) → (length es ≡ 1 → ⊥) → is_one_named t (codes_of es) ≡ false
not_one_named t [] other = refl
not_one_named t (a ∷ []) other = absurd (other refl)
not_one_named t (a ∷ b ∷ es) other = refl

pub an_operation : (t : List ℕ) (e : Code) (node : ℕ) (operation : Operation) (operands : List Code) (held : List Code) → e ≡ variants.Operation node operation operands held → is_spread_of t (code_of e) ≡ (has_none (codes_of held) && is_one_named t (codes_of operands))
an_operation t e node operation operands held is = ap (λ z. is_spread_of t (code_of z)) is ∙ ap (λ z. is_spread_of t z) (operation_is node operation operands held)

pub no_operation : (t : List ℕ) (e : Code) → ((node : ℕ) (operation : Operation) (operands : List Code) (held : List Code) → e ≡ variants.Operation node operation operands held → ⊥) → is_spread_of t (code_of e) ≡ false
no_operation t e not_operation = ap (λ z. is_spread_of t z) (code_out e) ∙ by (out-Code e) (roll-out-Code e)
  where
    by : (y : Code-F Callee Code Target) → roll-Code y ≡ e → is_spread_of t (code_step (map-Code Callee Code Target of.Callee of.Code of.Target callee_of code_of target_of y)) ≡ false
    by (Code-F.Operation node operation operands held) is = absurd (not_operation node operation operands held (sym is ∙ variants.rolls-Operation node operation operands held))
    by y is = refl

named-passed : (t : List ℕ) (m : ℕ) (ds : List events.Detail) (e : of.Code) → spec.passes_all t (of.and (of.operation m (events.OfKind Kind.SpreadElement ds) (of.and e of.done) of.done) of.done) ≡ is_args_named t e
named-passed t m ds (of.name k s (names.Generated GeneratedKind.Args)) = refl
named-passed t m ds (of.name k s (names.Generated g)) = refl
named-passed t m ds (of.name k s kind) = refl
named-passed t m ds e = refl

named-held : (t : List ℕ) (m : ℕ) (ds : List events.Detail) (e d : of.Code) (held : of.Codes) → spec.passes_all t (of.and (of.operation m (events.OfKind Kind.SpreadElement ds) (of.and e of.done) (of.and d held)) of.done) ≡ false
named-held t m ds (of.name k s (names.Generated GeneratedKind.Args)) d held = refl
named-held t m ds (of.name k s (names.Generated g)) d held = refl
named-held t m ds (of.name k s kind) d held = refl
named-held t m ds e d held = refl

named-many : (t : List ℕ) (m : ℕ) (ds : List events.Detail) (e d : of.Code) (es held : of.Codes) → spec.passes_all t (of.and (of.operation m (events.OfKind Kind.SpreadElement ds) (of.and e (of.and d es)) held) of.done) ≡ false
named-many t m ds (of.name k s (names.Generated GeneratedKind.Args)) d es held = refl
named-many t m ds (of.name k s (names.Generated g)) d es held = refl
named-many t m ds (of.name k s kind) d es held = refl
named-many t m ds e d es held = refl

and-false : (b : Bool) → (b && false) ≡ false
and-false true = refl
and-false false = refl

spread-passed : (t : List ℕ) (m : ℕ) (ds : List events.Detail) (es held : of.Codes) → spec.passes_all t (of.and (of.operation m (events.OfKind Kind.SpreadElement ds) es held) of.done) ≡ (has_none held && is_one_named t es)
spread-passed t m ds of.done held = sym (and-false (has_none held))
spread-passed t m ds (of.and e of.done) of.done = named-passed t m ds e
spread-passed t m ds (of.and e of.done) (of.and d held) = named-held t m ds e d held
spread-passed t m ds (of.and e (of.and d es)) held = named-many t m ds e d es held ∙ sym (and-false (has_none held))

passes-one : (t : List ℕ) (e : of.Code) → spec.passes_all t (of.and e of.done) ≡ (spec.is_spread e && is_spread_of t e)
passes-one t (of.operation m (events.OfKind Kind.SpreadElement ds) es held) = spread-passed t m ds es held
passes-one t (of.operation m (events.OfKind kind ds) es held) = refl
passes-one t (of.operation m op es held) = refl
passes-one t e = refl

passes-named : (t : List ℕ) (m : ℕ) (ds : List events.Detail) (e d : of.Code) (es held rest : of.Codes) → spec.passes_all t (of.and (of.operation m (events.OfKind Kind.SpreadElement ds) (of.and e es) held) (of.and d rest)) ≡ false
passes-named t m ds (of.name k s (names.Generated GeneratedKind.Args)) d of.done of.done rest = refl
passes-named t m ds (of.name k s (names.Generated GeneratedKind.Args)) d of.done (of.and h hs) rest = refl
passes-named t m ds (of.name k s (names.Generated GeneratedKind.Args)) d (of.and f fs) held rest = refl
passes-named t m ds (of.name k s (names.Generated g)) d es held rest = refl
passes-named t m ds (of.name k s kind) d es held rest = refl
passes-named t m ds e d es held rest = refl

passes-many : (t : List ℕ) (e d : of.Code) (rest : of.Codes) → spec.passes_all t (of.and e (of.and d rest)) ≡ false
passes-many t (of.operation m (events.OfKind Kind.SpreadElement ds) of.done held) d rest = refl
passes-many t (of.operation m (events.OfKind Kind.SpreadElement ds) (of.and e es) held) d rest = passes-named t m ds e d es held rest
passes-many t (of.operation m (events.OfKind kind ds) es held) d rest = refl
passes-many t (of.operation m op es held) d rest = refl
passes-many t e d rest = refl

passes-by : (t : List ℕ) (es : of.Codes) → passes_in t es ≡ spec.passes_all t es
passes-by t of.done = refl
passes-by t (of.and e of.done) = sym (passes-one t e)
passes-by t (of.and e (of.and d rest)) = sym (passes-many t e d rest)

pub not_one_passed : (t : List ℕ) (es : List Code) → (length es ≡ 1 → ⊥) → passes_in t (codes_of es) ≡ false
not_one_passed t [] other = refl
not_one_passed t (a ∷ []) other = absurd (other refl)
not_one_passed t (a ∷ b ∷ es) other = refl

passed-by : (c : Context) (m n : ℕ) (es : of.Codes) → cond (passes_in c.rest_name es) (of.super_call_with_all n) (of.super_call m n (spec.initializers_behind c m n) es) ≡ spec.super_call_in c m (Some n) es
passed-by c m n es = ap (λ b. cond b (of.super_call_with_all n) (of.super_call m n (spec.initializers_behind c m n) es)) (passes-by c.rest_name es)

pub with_all : (c : Context) (m n : ℕ) (es : of.Codes) → passes_in c.rest_name es ≡ true → of.super_call_with_all n ≡ spec.super_call_in c m (Some n) es
with_all c m n es is = sym (ap (λ b. cond b (of.super_call_with_all n) (of.super_call m n (spec.initializers_behind c m n) es)) is) ∙ passed-by c m n es

pub with_some : (c : Context) (m n : ℕ) (es : of.Codes) → passes_in c.rest_name es ≡ false → of.super_call m n (spec.initializers_behind c m n) es ≡ spec.super_call_in c m (Some n) es
with_some c m n es is = sym (ap (λ b. cond b (of.super_call_with_all n) (of.super_call m n (spec.initializers_behind c m n) es)) is) ∙ passed-by c m n es

-- ---- `babelHelpers.superPropGet(h, k, r, 2)([a])`

pub not_four_of_super : (c : Context) (m k : ℕ) (es : List Code) (form : of.Code) → (length es ≡ 4 → ⊥) → super_call_of c m k (codes_of es) form ≡ of.no_rule
not_four_of_super c m k [] form other = refl
not_four_of_super c m k (a ∷ []) form other = refl
not_four_of_super c m k (a ∷ b ∷ []) form other = refl
not_four_of_super c m k (a ∷ b ∷ d ∷ []) form other = refl
not_four_of_super c m k (a ∷ b ∷ d ∷ e ∷ []) form other = absurd (other refl)
not_four_of_super c m k (a ∷ b ∷ d ∷ e ∷ f ∷ es) form other = refl

one-list : (c : Context) (m k : ℕ) (of_member : of.Codes) (form : of.Code) → spec.helper_call_call c m k helpers.SuperPropGet of_member (of.and form of.done) ≡ super_call_of c m k of_member form
one-list c m k of.done form = refl
one-list c m k (of.and a of.done) form = refl
one-list c m k (of.and a (of.and b of.done)) form = refl
one-list c m k (of.and a (of.and b (of.and d of.done))) form = refl
one-list c m k (of.and a (of.and b (of.and d (of.and e of.done)))) form = refl
one-list c m k (of.and a (of.and b (of.and d (of.and e (of.and f es))))) form = refl

no-list : (c : Context) (m k : ℕ) (of_member : of.Codes) → spec.helper_call_call c m k helpers.SuperPropGet of_member of.done ≡ of.no_rule
no-list c m k of.done = refl
no-list c m k (of.and a of.done) = refl
no-list c m k (of.and a (of.and b of.done)) = refl
no-list c m k (of.and a (of.and b (of.and d of.done))) = refl
no-list c m k (of.and a (of.and b (of.and d (of.and e of.done)))) = refl
no-list c m k (of.and a (of.and b (of.and d (of.and e (of.and f es))))) = refl

many-lists : (c : Context) (m k : ℕ) (of_member : of.Codes) (g h : of.Code) (rest : of.Codes) → spec.helper_call_call c m k helpers.SuperPropGet of_member (of.and g (of.and h rest)) ≡ of.no_rule
many-lists c m k of.done g h rest = refl
many-lists c m k (of.and a of.done) g h rest = refl
many-lists c m k (of.and a (of.and b of.done)) g h rest = refl
many-lists c m k (of.and a (of.and b (of.and d of.done))) g h rest = refl
many-lists c m k (of.and a (of.and b (of.and d (of.and e of.done)))) g h rest = refl
many-lists c m k (of.and a (of.and b (of.and d (of.and e (of.and f es))))) g h rest = refl

pub super_called_is : (c : Context) (m k : ℕ) (of_member es : of.Codes) → super_called c m k of_member es ≡ spec.helper_call_call c m k helpers.SuperPropGet of_member es
super_called_is c m k of_member of.done = sym (no-list c m k of_member)
super_called_is c m k of_member (of.and form of.done) = sym (one-list c m k of_member form)
super_called_is c m k of_member (of.and g (of.and h rest)) = sym (many-lists c m k of_member g h rest)

pub not_one_list : (c : Context) (m k : ℕ) (of_member : of.Codes) (es : List Code) → (length es ≡ 1 → ⊥) → super_called c m k of_member (codes_of es) ≡ of.no_rule
not_one_list c m k of_member [] other = refl
not_one_list c m k of_member (a ∷ []) other = absurd (other refl)
not_one_list c m k of_member (a ∷ b ∷ es) other = refl
