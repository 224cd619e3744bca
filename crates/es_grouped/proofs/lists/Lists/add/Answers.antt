use Rattle.std.proofs.Common.{◌++◌, ◌∷◌, [], ◌∙◌, ap, sym, List, nat_eq}
use Rattle.std.proofs.lemmas.Bool.{eqb-true}
use Rattle.std.proofs.lemmas.Result.{on_ok_weaker}
use Rattle.std.specs.Global.{Vec}
use Rattle.number_map.specs.Entries.{value_at}
use Rattle.es_grouped.specs.Groups.{if_any, list_at}
use Rattle.es_grouped.proofs.Adding.{added, listed}
use Rattle.es_grouped.proofs.lists.Lists.add.Goals as goal

pub returns : goal.returns
returns g c = on_ok_weaker c.insert.result
    (λ put m. added (nat_eq m c.args.number) c.push.new.self c.args.value (value_at m c.args.self.now.lists) (value_at m c.take.new.self) (value_at m c.insert.new.self)
    (c.take.ensures.others m)
    (put m)
    (λ same.
    c.in_ok-push.ensures.items
    ∙ ap (λ (xs : List g.row.T.Denot). xs ++ c.args.value ∷ [])
    (ap (λ (v : Vec g.row.T.Denot). v.items) c.unwrap_or-values.ensures ∙ listed c.take.result c.new.result c.new.ensures.items ∙ ap if_any c.take.ensures.value ∙ ap (λ n. list_at n c.args.self.now) (sym (eqb-true m c.args.number same)))))
    c.insert.ensures
