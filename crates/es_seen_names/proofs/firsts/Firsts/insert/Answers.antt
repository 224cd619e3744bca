use Rattle.std.proofs.Common.{◌∙◌, ap, cond, Some}
use Rattle.std.specs.Prelude.{bytes_eq}
use Rattle.std.specs.Str.{chars}
use Rattle.es_seen_names.specs.Firsts.{first_of}
use Rattle.es_seen_names.proofs.FirstNames.{inserted, named_in, stay_strings}
use Rattle.es_seen_names.proofs.firsts.Firsts.insert.Goals as goal

pub invariant_of-self : goal.invariant_of-self
invariant_of-self c = rw c.in_err-insert.ensures.err c.self.invariant

pub invariant_of-self-2 : goal.invariant_of-self-2
invariant_of-self-2 c = rw c.in_ok-insert.ensures.entries (stay_strings c.args.name c.args.declaration c.self.inside.declarations.entries c.self.invariant c.utf8.name)

pub returns : goal.returns
returns c = λ s.
    ap (λ es. first_of s (named_in es)) c.in_ok-insert.ensures.entries
    ∙ inserted c.args.name c.args.declaration c.self.inside.declarations.entries c.utf8.name c.self.invariant s
    ∙ ap (λ es. cond (bytes_eq s (chars c.args.name.now)) (Some c.args.declaration) (first_of s es)) c.self.view_is
