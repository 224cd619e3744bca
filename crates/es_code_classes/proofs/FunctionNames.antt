-- Names of functions, by the forms of their codes.
use Rattle.std.proofs.Common.{◌≡◌, refl, sym, ap, ◌∙◌, ℕ, List, cond, Option, Some, None}
use Rattle.es_base.specs.declared.ids.NodeId.{NodeId}
use Rattle.es_base.specs.declared.ledger.GeneratedKind.{GeneratedKind}
use Rattle.es_steps.specs.Context as names
use Rattle.es_steps.specs.Context.{Context, new_here}
use Rattle.es_steps.specs.Members.{code}
use Rattle.es_steps.specs.References.{referent}
use Rattle.es_steps.specs.Scopes.{Declaration}
use Rattle.es_steps.specs.Statements as spec
use Rattle.es_steps.specs.Values.{Bound, Free}
use Rattle.es_code_members.specs.MembersView.{member_of}
use Rattle.es_code_members.specs.declared.member.Member.{Member}
use Rattle.es_code_members.specs.declared.member.Member.TheVariants as member
use Rattle.es_code_classes.specs.Functions.{generated_function, named_function}
use Rattle.es_steps.specs.Code as of
use Rattle.es_codes.proofs.Forms.{code_out, binding_is}
use Rattle.es_codes.specs.CodeView.{code_of, target_of, callee_of, code_step}
use Rattle.es_codes.specs.View.{kind_of}
use Rattle.es_codes.specs.declared.code.Code.{Code}
use Rattle.es_codes.specs.declared.code.Target.{Target}
use Rattle.es_codes.specs.declared.code.Callee.{Callee}
use Rattle.es_codes.specs.declared.name.NameKind.{NameKind}
use Rattle.es_codes.specs.declared.code.Code.TheVariants as variants
use Rattle.es_codes.specs.declared.code.Callee.TheOpen.{Code-F}
use Rattle.es_codes.specs.declared.code.Callee.TheViews.{roll-Code, out-Code, roll-out-Code}
use Rattle.es_codes.specs.declared.code.Callee.TheFolds.{map-Code}

-- ---- expressions

pub own_binding : (c : Context) (e : Code) (node : ℕ) (spelling : List ℕ) (kind : NameKind) → e ≡ variants.Binding node spelling kind → spec.own_name_of c (code (code_of e)) ≡ cond (new_here c node) None (Some node)
own_binding c e node spelling kind is = ap (λ x. spec.own_name_of c (code (code_of x))) is ∙ ap (λ x. spec.own_name_of c (code x)) (binding_is node spelling kind)

pub no_own_binding : (c : Context) (e : Code) → ((node : ℕ) (spelling : List ℕ) (kind : NameKind) → e ≡ variants.Binding node spelling kind → ⊥) → spec.own_name_of c (code (code_of e)) ≡ None
no_own_binding c e not_binding = ap (λ x. spec.own_name_of c (code x)) (code_out e) ∙ by (out-Code e) (roll-out-Code e)
  where
    by : (y : Code-F Callee Code Target) → roll-Code y ≡ e → spec.own_name_of c (code (code_step (map-Code Callee Code Target of.Callee of.Code of.Target callee_of code_of target_of y))) ≡ None
    by (Code-F.Binding node spelling kind) is = absurd (not_binding node spelling kind (sym is ∙ variants.rolls-Binding node spelling kind))
    by y is = refl

-- ---- declarations

pub bound : (s : List ℕ) (o : Option Declaration) (d : Declaration) → Some d ≡ o → Bound d.number ≡ referent s o
bound s o d is = ap (referent s) is

pub free : (s : List ℕ) (o : Option Declaration) → None ≡ o → Free s ≡ referent s o
free s o is = ap (referent s) is

pub no_method : (f : ℕ) (s : List ℕ) (e : of.Code) (g : GeneratedKind) → ((d : NodeId) → g ≡ GeneratedKind.Method d → ⊥) → of.no_rule ≡ generated_function f s g e
no_method f s e (GeneratedKind.Method d) not_method = absurd (not_method d refl)
no_method f s e g not_method = refl

pub source_name : (around : Option (List Declaration)) (f : ℕ) (s : List ℕ) (e : of.Code) (kind : NameKind) → ((g : GeneratedKind) → kind ≡ NameKind.Generated g → ⊥) → named_function around f s (kind_of kind) e ≡ spec.hoisted_function around f s e
source_name around f s e (NameKind.Generated g) not_generated = absurd (not_generated g refl)
source_name around f s e kind not_generated = refl

declared-by : (around : Option (List Declaration)) (f b : ℕ) (s : List ℕ) (kind : names.NameKind) (e : of.Code) → spec.declared_function around f (code (of.binding b s kind)) e ≡ named_function around f s kind e
declared-by around f b s (names.Generated (GeneratedKind.Method d)) e = refl
declared-by around f b s (names.Generated g) e = refl
declared-by around f b s kind e = refl

pub declared_name : (around : Option (List Declaration)) (f : ℕ) (declaration : of.Code) (e : Code) (node : ℕ) (spelling : List ℕ) (kind : NameKind) → e ≡ variants.Binding node spelling kind → spec.declared_function around f (code (code_of e)) declaration ≡ named_function around f spelling (kind_of kind) declaration
declared_name around f declaration e node spelling kind is = ap (λ x. spec.declared_function around f (code (code_of x)) declaration) is ∙ ap (λ x. spec.declared_function around f (code x) declaration) (binding_is node spelling kind) ∙ declared-by around f node spelling (kind_of kind) declaration

pub no_declared_name : (around : Option (List Declaration)) (f : ℕ) (declaration : of.Code) (e : Code) → ((node : ℕ) (spelling : List ℕ) (kind : NameKind) → e ≡ variants.Binding node spelling kind → ⊥) → spec.declared_function around f (code (code_of e)) declaration ≡ declaration
no_declared_name around f declaration e not_binding = ap (λ x. spec.declared_function around f (code x) declaration) (code_out e) ∙ by (out-Code e) (roll-out-Code e)
  where
    by : (y : Code-F Callee Code Target) → roll-Code y ≡ e → spec.declared_function around f (code (code_step (map-Code Callee Code Target of.Callee of.Code of.Target callee_of code_of target_of y))) declaration ≡ declaration
    by (Code-F.Binding node spelling kind) is = absurd (not_binding node spelling kind (sym is ∙ variants.rolls-Binding node spelling kind))
    by y is = refl

pub no_name : (around : Option (List Declaration)) (f : ℕ) (declaration : of.Code) (m : Member) → ((e : Code) → m ≡ member.Code e → ⊥) → spec.declared_function around f (member_of m) declaration ≡ declaration
no_name around f declaration (member.Code e) not_code = absurd (not_code e refl)
no_name around f declaration m not_code = refl
