-- Declarators, by the forms of codes.
use Rattle.std.proofs.Common.{◌≡◌, refl, sym, ap, ◌∙◌, ℕ, List, Bool, true, false, cond, Option, Some, None}
use Rattle.es_base.specs.declared.ledger.GeneratedKind.{GeneratedKind}
use Rattle.es_steps.specs.Context as contexts
use Rattle.es_steps.specs.Context.{Context}
use Rattle.es_steps.specs.Expressions as expressions
use Rattle.es_steps.specs.GeneratedForms.{given}
use Rattle.es_steps.specs.Members as of_node
use Rattle.es_steps.specs.Statements as spec
use Rattle.es_code_members.specs.MembersView.{member_of}
use Rattle.es_code_members.specs.declared.member.Member.{Member}
use Rattle.es_code_declarations.specs.Declarators.{class_in, class_of_kind, generated_as, generated_in, if_generated, new_let, uninitialized, unless_generated}
use Rattle.es_steps.specs.Code as of
use Rattle.es_codes.proofs.Forms.{code_out, binding_is, pattern_is}
use Rattle.es_codes.specs.CodeView.{code_of, target_of, callee_of, code_step}
use Rattle.es_codes.specs.View.{kind_of}
use Rattle.es_codes.specs.declared.code.Code.{Code}
use Rattle.es_codes.specs.declared.code.Target.{Target}
use Rattle.es_codes.specs.declared.code.Callee.{Callee}
use Rattle.es_codes.specs.declared.name.NameKind.{NameKind}
use Rattle.es_codes.specs.declared.code.Code.TheVariants as variants
use Rattle.es_codes.specs.declared.code.Callee.TheOpen.{Code-F}
use Rattle.es_codes.specs.declared.code.Callee.TheViews.{roll-Code, out-Code, roll-out-Code}
use Rattle.es_codes.specs.declared.code.Callee.TheFolds.{map-Code}

-- ---- what is declared

pub a_generated_name : (e : Code) (node : ℕ) (spelling : List ℕ) (kind : NameKind) → e ≡ variants.Binding node spelling kind → generated_in (code_of e) ≡ generated_as node spelling (kind_of kind)
a_generated_name e node spelling kind is = ap (λ x. generated_in (code_of x)) is ∙ ap (λ x. generated_in x) (binding_is node spelling kind)

pub no_generated_name : (e : Code) → ((node : ℕ) (spelling : List ℕ) (kind : NameKind) → e ≡ variants.Binding node spelling kind → ⊥) → generated_in (code_of e) ≡ None
no_generated_name e not_binding = ap (λ x. generated_in x) (code_out e) ∙ by (out-Code e) (roll-out-Code e)
  where
    by : (y : Code-F Callee Code Target) → roll-Code y ≡ e → generated_in (code_step (map-Code Callee Code Target of.Callee of.Code of.Target callee_of code_of target_of y)) ≡ None
    by (Code-F.Binding node spelling kind) is = absurd (not_binding node spelling kind (sym is ∙ variants.rolls-Binding node spelling kind))
    by y is = refl

pub a_class_name : (e : Code) (node : ℕ) (spelling : List ℕ) (kind : NameKind) → e ≡ variants.Binding node spelling kind → class_in (code_of e) ≡ class_of_kind (kind_of kind)
a_class_name e node spelling kind is = ap (λ x. class_in (code_of x)) is ∙ ap (λ x. class_in x) (binding_is node spelling kind)

pub no_class_name : (e : Code) → ((node : ℕ) (spelling : List ℕ) (kind : NameKind) → e ≡ variants.Binding node spelling kind → ⊥) → class_in (code_of e) ≡ None
no_class_name e not_binding = ap (λ x. class_in x) (code_out e) ∙ by (out-Code e) (roll-out-Code e)
  where
    by : (y : Code-F Callee Code Target) → roll-Code y ≡ e → class_in (code_step (map-Code Callee Code Target of.Callee of.Code of.Target callee_of code_of target_of y)) ≡ None
    by (Code-F.Binding node spelling kind) is = absurd (not_binding node spelling kind (sym is ∙ variants.rolls-Binding node spelling kind))
    by y is = refl

-- ---- with an initializer

pub class_given : (new : Bool) (d e : of.Code) → new ≡ true → new_let (class_in d) e ≡ unless_generated new d e
class_given true d e h = refl
class_given false d e h = cc

pub value_given : (new : Bool) (d e : of.Code) → new ≡ false → of.assign (expressions.target_of d) e ≡ unless_generated new d e
value_given false d e h = refl
value_given true d e h = cc

by-name : (c : Context) (m : ℕ) (new : Bool) (d e : of.Code) → spec.declarator_of c m new d (of_node.code e) ≡ if_generated c m e (unless_generated new d e) (generated_in d)
by-name c m new (of.binding b s (contexts.Generated g)) e = refl
by-name c m true (of.binding b s (contexts.MeansClass n k)) e = refl
by-name c m true (of.binding b s kind) e = refl
by-name c m true d e = refl
by-name c m false (of.binding b s kind) e = refl
by-name c m false d e = refl

pub generated_given : (c : Context) (m : ℕ) (new : Bool) (d e : of.Code) (x : ℕ × (List ℕ × GeneratedKind)) → Some x ≡ generated_in d → given c m x.0 x.1.0 x.1.1 e ≡ spec.declarator_of c m new d (of_node.code e)
generated_given c m new d e x is = ap (if_generated c m e (unless_generated new d e)) is ∙ sym (by-name c m new d e)

pub other_given : (c : Context) (m : ℕ) (new : Bool) (d e : of.Code) → None ≡ generated_in d → unless_generated new d e ≡ spec.declarator_of c m new d (of_node.code e)
other_given c m new d e is = ap (if_generated c m e (unless_generated new d e)) is ∙ sym (by-name c m new d e)

-- ---- without one

pub name_alone : (new : Bool) (b : ℕ) (s : List ℕ) (kind : NameKind) → ((g : GeneratedKind) → kind ≡ NameKind.Generated g → ⊥) → cond new of.no_rule (of.binding b s (kind_of kind)) ≡ uninitialized new (of.binding b s (kind_of kind))
name_alone new b s (NameKind.Generated g) made = absurd (made g refl)
name_alone true b s kind made = refl
name_alone false b s kind made = refl

pattern-alone : (new : Bool) (k : ℕ) (to : of.Target) → uninitialized new (of.pattern k to) ≡ cond new of.no_rule (of.pattern k to)
pattern-alone true k to = refl
pattern-alone false k to = refl

pub binding_alone : (new : Bool) (e : Code) (node : ℕ) (spelling : List ℕ) (kind : NameKind) → e ≡ variants.Binding node spelling kind → uninitialized new (code_of e) ≡ uninitialized new (of.binding node spelling (kind_of kind))
binding_alone new e node spelling kind is = ap (λ x. uninitialized new (code_of x)) is ∙ ap (λ x. uninitialized new x) (binding_is node spelling kind)

pub pattern_alone : (new : Bool) (e : Code) (node : ℕ) (to : Target) → e ≡ variants.Pattern node to → uninitialized new (code_of e) ≡ cond new of.no_rule (of.pattern node (target_of to))
pattern_alone new e node to is = ap (λ x. uninitialized new (code_of x)) is ∙ ap (λ x. uninitialized new x) (pattern_is node to) ∙ pattern-alone new node (target_of to)

pub none_alone : (new : Bool) (e : Code) → ((node : ℕ) (spelling : List ℕ) (kind : NameKind) → e ≡ variants.Binding node spelling kind → ⊥) → ((node : ℕ) (to : Target) → e ≡ variants.Pattern node to → ⊥) → uninitialized new (code_of e) ≡ of.no_rule
none_alone new e not_binding not_pattern = ap (λ x. uninitialized new x) (code_out e) ∙ by new (out-Code e) (roll-out-Code e)
  where
    by : (b : Bool) (y : Code-F Callee Code Target) → roll-Code y ≡ e → uninitialized b (code_step (map-Code Callee Code Target of.Callee of.Code of.Target callee_of code_of target_of y)) ≡ of.no_rule
    by b (Code-F.Binding node spelling kind) is = absurd (not_binding node spelling kind (sym is ∙ variants.rolls-Binding node spelling kind))
    by b (Code-F.Pattern node to) is = absurd (not_pattern node to (sym is ∙ variants.rolls-Pattern node to))
    by true y is = refl
    by false y is = refl

pub without_value : (c : Context) (m : ℕ) (new : Bool) (d : of.Code) (p : Member) → ((e : Code) → p ≡ Member.Code e → ⊥) → uninitialized new d ≡ spec.declarator_of c m new d (member_of p)
without_value c m new d (Member.Code e) h = absurd (h e refl)
without_value c m new (of.binding b s (contexts.Generated g)) p h = refl
without_value c m true (of.binding b s kind) p h = refl
without_value c m true d p h = refl
without_value c m false (of.binding b s kind) p h = refl
without_value c m false (of.pattern k to) p h = refl
without_value c m false d p h = refl
