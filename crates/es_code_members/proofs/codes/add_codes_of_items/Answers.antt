use Rattle.std.proofs.Common.{◌≡◌, refl, sym, ap, ◌∙◌, ◌≤◌, ◌<◌, length, get_or, Option, arith}
use Rattle.es_codes.specs.CodeView.{codes_of}
use Rattle.es_codes.specs.declared.code.Code.{Code}
use Rattle.es_steps.specs.Code.{joined}
use Rattle.es_steps.specs.Members as spec
use Rattle.es_code_members.specs.MembersView.{item_of, items_in}
use Rattle.es_code_members.proofs.Moved as moved
use Rattle.es_code_members.proofs.codes.add_codes_of_items.Goals as goal

pub loop-item-preserved : goal.loop-item-preserved
loop-item-preserved c =
    let here : c.loop-item.item-index < length c.loop-item.items = omega arith in
    let this : c.item-item.result ≡ get_or c.loop-item.items c.loop-item.item-index c.item-item.result = cc in
    moved.item c.loop-item.items c.loop-item.item-index c.item-item.result c.add_item.new.item (codes_of c.loop-item.codes) (codes_of c.add_item.new.codes) _ here this (c.in_ok-add_item.ensures ∙ ap (λ (z : Option Code). joined (codes_of c.loop-item.codes) (spec.codes_of (item_of z))) (sym this)) c.loop-item.invariant

pub returns : goal.returns
returns c =
    let past : length c.loop-item.items ≤ c.loop-item.item-index = omega arith in
    moved.ended (λ xs. spec.codes_in (items_in xs)) refl c.loop-item.items c.loop-item.item-index _ _ past c.loop-item.invariant
