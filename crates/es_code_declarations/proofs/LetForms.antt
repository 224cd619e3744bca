-- Declarators of a `let`, by the forms of codes.
use Rattle.std.proofs.Common.{◌≡◌, refl, sym, ap, ◌∙◌, ℕ, ◌+◌, ◌<◌, List, [], ◌∷◌, length, get_or, set, drop, false, arith}
use Rattle.es_codes.specs.CodeView.{codes_of}
use Rattle.es_codes.specs.View.{kind_of}
use Rattle.es_codes.specs.declared.name.NameKind.{NameKind}
use Rattle.es_code_members.proofs.Moved.{moved}
use Rattle.es_code_members.specs.MembersView.{members_of}
use Rattle.es_code_members.specs.declared.member.Member.{Member}
use Rattle.es_steps.specs.Members.{at}
use Rattle.es_steps.specs.Statements as spec
use Rattle.es_steps.specs.Code as of
use Rattle.es_codes.proofs.Forms.{code_out, binding_is}
use Rattle.es_codes.specs.CodeView.{code_of, target_of, callee_of, code_step}
use Rattle.es_codes.specs.declared.code.Code.{Code}
use Rattle.es_codes.specs.declared.code.Target.{Target}
use Rattle.es_codes.specs.declared.code.Callee.{Callee}
use Rattle.es_codes.specs.declared.code.Code.TheVariants as variants
use Rattle.es_codes.specs.declared.code.Callee.TheOpen.{Code-F}
use Rattle.es_codes.specs.declared.code.Callee.TheViews.{roll-Code, out-Code, roll-out-Code}
use Rattle.es_codes.specs.declared.code.Callee.TheFolds.{map-Code}

pub a_binding : (e : Code) (node : ℕ) (spelling : List ℕ) (kind : NameKind) → e ≡ variants.Binding node spelling kind → spec.undefined_let (code_of e) ≡ spec.undefined_let (of.binding node spelling (kind_of kind))
a_binding e node spelling kind is = ap (λ x. spec.undefined_let (code_of x)) is ∙ ap (λ x. spec.undefined_let x) (binding_is node spelling kind)

pub no_binding : (e : Code) → ((node : ℕ) (spelling : List ℕ) (kind : NameKind) → e ≡ variants.Binding node spelling kind → ⊥) → spec.undefined_let (code_of e) ≡ code_of e
no_binding e not_binding = ap (λ x. spec.undefined_let x) (code_out e) ∙ by (out-Code e) (roll-out-Code e) ∙ ap (λ x. x) (sym (code_out e))
  where
    by : (y : Code-F Callee Code Target) → roll-Code y ≡ e → spec.undefined_let (code_step (map-Code Callee Code Target of.Callee of.Code of.Target callee_of code_of target_of y)) ≡ (code_step (map-Code Callee Code Target of.Callee of.Code of.Target callee_of code_of target_of y))
    by (Code-F.Binding node spelling kind) is = absurd (not_binding node spelling kind (sym is ∙ variants.rolls-Binding node spelling kind))
    by y is = refl

pub none_first : (members : List Member) → length members < 1 → false ≡ spec.is_let_word (at 0 (members_of members))
none_first [] h = refl
none_first (m ∷ ms) h = absurd (omega (arith, h))

pub let_step : (xs : List Code) (i : ℕ) (x y : Code) (old new all : of.Codes) → i < length xs → x ≡ get_or xs i x → new ≡ of.joined old (spec.undefined_lets (of.and (code_of x) of.done)) → of.joined old (spec.undefined_lets (codes_of (drop i xs))) ≡ all → of.joined new (spec.undefined_lets (codes_of (drop (i + 1) (set xs i y)))) ≡ all
let_step = moved (λ xs. spec.undefined_lets (codes_of xs)) (λ x. spec.undefined_lets (of.and (code_of x) of.done)) (λ x xs. refl)
