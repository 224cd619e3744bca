use Rattle.std.proofs.Common.{rules}
use Rattle.es_reading.proofs.members.is_of_sort.Goals as goal

pub returns-in-NonEmptyList : goal.returns-in-NonEmptyList
returns-in-NonEmptyList c = search (rules, c.is_list_of_some.ensures c.in-NonEmptyList.field-0)

pub returns-in-Raw : goal.returns-in-Raw
returns-in-Raw c = search (rules, c.is_raw.ensures c.args.name.now)

pub returns-in-Cooked : goal.returns-in-Cooked
returns-in-Cooked c = search (rules, c.is_cooked.ensures c.args.name.now)
