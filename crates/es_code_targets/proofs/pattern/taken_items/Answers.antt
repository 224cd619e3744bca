use Rattle.std.proofs.Common.{◌≡◌, refl, sym, ap, ◌∙◌, ◌≤◌, ◌<◌, length, get_or, Option, arith}
use Rattle.es_codes.specs.CodeView.{codes_of}
use Rattle.es_codes.specs.declared.code.Code.{Code}
use Rattle.es_steps.specs.Code.{and, done, joined}
use Rattle.es_steps.specs.Statements.{elements_from}
use Rattle.es_code_members.proofs.Moved.{ended}
use Rattle.es_code_members.specs.MembersView.{item_of, items_in}
use Rattle.es_code_targets.specs.Patterns.{taken_item}
use Rattle.es_code_targets.proofs.Taking.{element_step}
use Rattle.es_code_targets.proofs.pattern.taken_items.Goals as goal

pub loop-item-preserved : goal.loop-item-preserved
loop-item-preserved c =
    let here : c.loop-item.item-index < length c.loop-item.items = omega arith in
    let this : c.item-item.result ≡ get_or c.loop-item.items c.loop-item.item-index c.item-item.result = cc in
    element_step c.args.node (length c.loop-item.taken) (length c.add_taken_item.new.taken) c.loop-item.items c.loop-item.item-index c.item-item.result c.add_taken_item.new.item (codes_of c.loop-item.taken) (codes_of c.add_taken_item.new.taken) _ here this (c.in_ok-add_taken_item.ensures.added ∙ ap (λ (z : Option Code). joined (codes_of c.loop-item.taken) (and (taken_item c.args.node (length c.loop-item.taken) (item_of z)) done)) (sym this)) c.in_ok-add_taken_item.ensures.one_more c.loop-item.invariant

pub returns : goal.returns
returns c =
    let past : length c.loop-item.items ≤ c.loop-item.item-index = omega arith in
    ended (λ xs. elements_from c.args.node (length c.loop-item.taken) (items_in xs)) refl c.loop-item.items c.loop-item.item-index _ _ past c.loop-item.invariant
