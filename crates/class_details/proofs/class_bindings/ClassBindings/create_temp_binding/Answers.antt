use Rattle.std.proofs.Common.{◌≡◌, ◌∙◌, refl, sym, ap, subst, option_map, Option, Bor}
use Rattle.std.specs.Prelude.{codes}
use Rattle.std.specs.Str.{chars}
use Rattle.std.proofs.lemmas.Result.{IfOk-weaker}
use Rattle.es_base.proofs.Ascii.{chars_ascii}
use Rattle.es_base.specs.declared.ledger.GeneratedKind.TheVariants as kinds
use Rattle.es_builders.specs.declared.bound_identifier.BoundIdentifier.{BoundIdentifier}
use Rattle.es_scopes.specs.declared.flags.TheConstants.SymbolFlags as flag
use Rattle.es_uids.specs.Uids.{IsGenerated}
use Rattle.class_details.specs.Created.{class_base}
use Rattle.class_details.proofs.class_bindings.ClassBindings.create_temp_binding.Goals as goal

pub returns-in-None-clause-generated : goal.returns-in-None-clause-generated
returns-in-None-clause-generated c =
    let base : chars (codes "Class") ≡ class_base (option_map (λ (b : Bor BoundIdentifier). b.now.name) c.args.name) =
    chars_ascii (codes "Class") refl ∙ ap (λ (o : Option (Bor BoundIdentifier)). class_base (option_map (λ (b : Bor BoundIdentifier). b.now.name) o)) (sym c.in-None.is) in
    IfOk-weaker c.generate_uid-in-None.result _ _
    (λ b given. subst (λ s. IsGenerated c.args.scoping.now c.generate_uid-in-None.new.self s c.args.scope flag.VAR (kinds.ClassTemp c.args.class) b) base given)
    c.generate_uid-in-None.ensures.generated
