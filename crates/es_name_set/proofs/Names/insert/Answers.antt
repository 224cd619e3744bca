use Rattle.std.proofs.Common.{◌∙◌, ap}
use Rattle.std.specs.Prelude.{bytes_eq, ◌||◌}
use Rattle.std.specs.Str.{chars}
use Rattle.es_base.specs.Conforms.{is_among}
use Rattle.es_name_set.proofs.NameSets.{all_strings, inserted, names_of}
use Rattle.es_name_set.proofs.Names.insert.Goals as goal

pub invariant_of-self : goal.invariant_of-self
invariant_of-self c = rw c.in_err-insert.ensures.err c.self.invariant

pub invariant_of-self-2 : goal.invariant_of-self-2
invariant_of-self-2 c = rw c.in_ok-insert.ensures.keys (all_strings c.args.string c.self.inside.strings.keys c.self.invariant c.utf8.string)

pub returns-clause-ok : goal.returns-clause-ok
returns-clause-ok c = λ s. ap (λ ks. is_among s (names_of ks)) c.in_ok-insert.ensures.keys ∙ inserted c.args.string c.self.inside.strings.keys s ∙ ap (λ xs. bytes_eq (chars c.args.string.now) s || is_among s xs) c.self.view_is
