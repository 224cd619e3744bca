use Rattle.std.proofs.Common.{sym, ap, ◌∙◌, ◌+◌, ◌∷◌, drop}
use Rattle.std.proofs.lemmas.List.{drop_more}
use Rattle.serde_json.specs.Find.{get_member}
use Rattle.borrowed_json.specs.View.{Keyed, members_view}
use Rattle.borrowed_json.specs.declared.value.Value.{Value}
use Rattle.borrowed_json.proofs.Found.{found_here, found_later}
use Rattle.borrowed_json.proofs.value.find.Goals as goal

pub returns-then-eq : goal.returns-then-eq
returns-then-eq c =
    let ms = c.args.members.now in
    let i = c.loop-member.member-index in
    let m = c.member-item.result in
    let here = drop_more ms i m c.loop-member-test.true ∙ ap (λ (x : Keyed Value). x ∷ drop (i + 1) ms) (sym c.member-item.is) in
    sym (found_here c.args.name.now m (drop (i + 1) ms) (sym c.eq.ensures ∙ c.if-eq.true)) ∙ ap (λ rest. get_member c.args.name.now (members_view rest)) (sym here) ∙ c.loop-member.invariant

pub loop-member-preserved : goal.loop-member-preserved
loop-member-preserved c =
    let ms = c.args.members.now in
    let i = c.loop-member.member-index in
    let m = c.member-item.result in
    let here = drop_more ms i m c.loop-member-test.true ∙ ap (λ (x : Keyed Value). x ∷ drop (i + 1) ms) (sym c.member-item.is) in
    sym (found_later c.args.name.now m (drop (i + 1) ms) (sym c.eq.ensures ∙ c.if-eq.false)) ∙ ap (λ rest. get_member c.args.name.now (members_view rest)) (sym here) ∙ c.loop-member.invariant
