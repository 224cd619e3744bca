use Rattle.std.proofs.Common.{refl}
use Rattle.es_meanings.proofs.Sorted.{sorted_entries}
use Rattle.step_check.proofs.parts.sorted.Goals as goal

pub returns-in-Ok : goal.returns-in-Ok
returns-in-Ok c = λ es are. record { value = es; has = refl; is = sorted_entries c.args.entries.items c.sort_by_number.new.list.items es are c.in-Ok.ensures }
