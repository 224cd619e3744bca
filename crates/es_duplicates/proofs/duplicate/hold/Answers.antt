use Rattle.std.proofs.Common.{◌∙◌, ◌+◌, refl, ap, ℕ, None, Some, arith}
use Rattle.es_builders.specs.Builders as builder
use Rattle.es_duplicates.specs.Reads.{names_read}
use Rattle.es_ctx.specs.ScopesAround.{current_var_scope_id}
use Rattle.es_duplicates.proofs.Outcomes.{of_one, of_three}
use Rattle.es_duplicates.proofs.Tables.{generated_references, name_references, reads_scopes, taken_kept}
use Rattle.es_scopes.specs.Table.{with_created_reference}
use Rattle.es_scopes.specs.declared.flags.TheConstants.ReferenceFlags as flag
use Rattle.es_duplicates.proofs.duplicate.hold.Goals as goal

pub assign_and_read-requires-clause-room : goal.assign_and_read-requires-clause-room
assign_and_read-requires-clause-room c =
    let same = generated_references _ c.declare_temporary.new.ctx.scoping _ (current_var_scope_id c.args.ctx.now.path) _ _ c.in_ok-temporary.temporary c.in_ok-temporary.ensures.generated in
    let before = name_references c.args.expr c.args.ctx.now.scoping.scoping in
    omega (arith, same, before, c.requires.references)

pub returns-clause-form : goal.returns-clause-form
returns-clause-form c =
    let temporary = c.in_ok-temporary.temporary in
    let middle = c.declare_temporary.new.ctx.scoping in
    let same = generated_references _ middle _ (current_var_scope_id c.args.ctx.now.path) _ _ temporary c.in_ok-temporary.ensures.generated in
    of_three c.assign_and_read.result _ _ _ _
    (λ d first again table. record {
      temporary = temporary;
      middle = middle;
      generated = c.in_ok-temporary.ensures.generated;
      lists = c.in_ok-temporary.ensures.lists;
      evaluated = first ∙ ap (λ (k : ℕ). builder.assignment k temporary.name c.args.expr) same;
      repeated = again ∙ ap (λ (k : ℕ). names_read None temporary.name (k + 1) c.args.count) same;
      table = table;
      names = refl;
      ledger = refl;
    })
    c.assign_and_read.ensures.first c.assign_and_read.ensures.again c.assign_and_read.ensures.table

pub returns-clause-taken : goal.returns-clause-taken
returns-clause-taken c =
    let y = c.in_ok-temporary.temporary.symbol_id in
    let middle = c.declare_temporary.new.ctx.scoping in
    of_one c.assign_and_read.result _ _
    (λ table other before. taken_kept middle (record middle { scoping = c.assign_and_read.new.scoping }) refl (ap (λ t. t.scopes) table ∙ reads_scopes y c.args.count (with_created_reference middle.scoping (Some y) flag.WRITE)) other (c.in_ok-temporary.ensures.taken other before))
    c.assign_and_read.ensures.table
