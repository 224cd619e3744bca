-- What private names and generated names of methods mean.
use Rattle.std.proofs.Common.{◌≡◌, sym, ap, ◌∙◌, List, true, false, cond, Option, Some, None}
use Rattle.std.specs.Prelude.{◌&&◌}
use Rattle.es_steps.specs.Context.{NameKind, StaticMethod}
use Rattle.es_steps.specs.Expressions.{static_method}
use Rattle.es_steps.specs.GeneratedForms.{is_method_kind}
use Rattle.es_steps.specs.PrivateNames.{PrivateMember, declared_member, private_reference, reference_to}
use Rattle.es_steps.specs.Values.{String}

pub meant : (s : String) (seen : List PrivateMember) (x : PrivateMember) → Some x ≡ declared_member s seen → reference_to s seen (Some x) ≡ private_reference s seen
meant s seen x is = ap (reference_to s seen) is

pub unmeant : (s : String) (seen : List PrivateMember) → None ≡ declared_member s seen → None ≡ private_reference s seen
unmeant s seen is = ap (reference_to s seen) is

pub static_one : (o : Option PrivateMember) (x : PrivateMember) (kind : NameKind) → Some x ≡ o → (x.is_static && is_method_kind x.kind) ≡ true → StaticMethod x.number x.class ≡ static_method o kind
static_one o x kind is e = sym (ap (λ b. cond b (StaticMethod x.number x.class) kind) e) ∙ ap (λ y. static_method y kind) is

pub other_one : (o : Option PrivateMember) (x : PrivateMember) (kind : NameKind) → Some x ≡ o → (x.is_static && is_method_kind x.kind) ≡ false → kind ≡ static_method o kind
other_one o x kind is e = sym (ap (λ b. cond b (StaticMethod x.number x.class) kind) e) ∙ ap (λ y. static_method y kind) is

pub no_one : (o : Option PrivateMember) (kind : NameKind) → None ≡ o → kind ≡ static_method o kind
no_one o kind is = ap (λ y. static_method y kind) is
