use Rattle.std.proofs.Common.{◌∙◌, List, ℕ, Bor}
use Rattle.std.specs.Prelude.{bytes_eq}
use Rattle.std.specs.Str.{chars}
use Rattle.es_by_number.proofs.Sameness.{same_numbered_viewed}
use Rattle.es_declarations.proofs.globals.same_names.Goals as goal

pub returns : goal.returns
returns c = c.same_numbered.ensures ∙ same_numbered_viewed bytes_eq (λ (name : Bor (List ℕ)). chars name.now) c.args.left.now c.args.right.now
