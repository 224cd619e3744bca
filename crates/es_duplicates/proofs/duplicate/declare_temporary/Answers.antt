use Rattle.std.proofs.Common.{◌≡◌, ◌∙◌, sym, subst, List, ℕ}
use Rattle.std.specs.Prelude.{IfOk}
use Rattle.es_base.specs.declared.kind.Kind.{Kind}
use Rattle.es_base.specs.declared.ledger.GeneratedKind.TheVariants as kinds
use Rattle.es_duplicates.specs.Duplicated.{temporary_base}
use Rattle.es_ctx.specs.ScopesAround.{current_var_scope_id}
use Rattle.es_duplicates.proofs.Tables.{other_base, other_read}
use Rattle.es_node.specs.View.{kind_of}
use Rattle.es_scopes.specs.Table.{Table}
use Rattle.es_scopes.specs.declared.flags.TheConstants.SymbolFlags as flag
use Rattle.es_uids.specs.Uids.{IsGenerated}
use Rattle.es_duplicates.proofs.duplicate.declare_temporary.Goals as goal

pub returns-in_default-clause-generated : goal.returns-in_default-clause-generated
returns-in_default-clause-generated c =
    let call = c.create_uid_var_based_on_node in
    let other : kind_of c.args.expr.now ≡ Kind.IdentifierReference → ⊥ = λ e. c.in_default.not-IdentifierReference (c.kind.ensures ∙ e) in
    subst (λ (t : Table). IfOk call.result (IsGenerated (record c.args.ctx.now.scoping { scoping = t }) call.new.ctx.scoping (temporary_base c.args.expr.now) (current_var_scope_id c.args.ctx.now.path) flag.VAR kinds.Temp)) (sym (other_read c.args.expr.now c.args.ctx.now.scoping.scoping other))
    (subst (λ (base : List ℕ). IfOk call.result (IsGenerated c.args.ctx.now.scoping call.new.ctx.scoping base (current_var_scope_id c.args.ctx.now.path) flag.VAR kinds.Temp)) (sym (other_base c.args.expr.now other)) call.ensures.generated)
