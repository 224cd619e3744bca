use Rattle.std.proofs.Common.{◌∙◌, ap, cond, Some}
use Rattle.std.specs.Prelude.{bytes_eq}
use Rattle.std.specs.Str.{chars}
use Rattle.es_binding_faults.specs.Leasts.{number_of}
use Rattle.es_binding_faults.proofs.LeastNumbers.{inserted, stay_strings, numbers_in}
use Rattle.es_shared_names.proofs.numbers.Numbers.set.Goals as goal

pub invariant_of-self : goal.invariant_of-self
invariant_of-self c = rw c.in_err-insert.ensures.err c.self.invariant

pub invariant_of-self-2 : goal.invariant_of-self-2
invariant_of-self-2 c = rw c.in_ok-insert.ensures.entries (stay_strings c.args.name c.args.number c.self.inside.numbers.entries c.self.invariant c.utf8.name)

pub returns : goal.returns
returns c = λ s.
    ap (λ es. number_of s (numbers_in es)) c.in_ok-insert.ensures.entries
    ∙ inserted c.args.name c.args.number c.self.inside.numbers.entries c.utf8.name c.self.invariant s
    ∙ ap (λ es. cond (bytes_eq s (chars c.args.name.now)) (Some c.args.number) (number_of s es)) c.self.view_is
