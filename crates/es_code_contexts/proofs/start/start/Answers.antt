use Rattle.std.proofs.Common.{◌≡◌, ◌∙◌}
use Rattle.std.specs.Str.{chars}
use Rattle.es_base.specs.Preorder.{number_of}
use Rattle.es_code_contexts.specs.Terms.{program_of}
use Rattle.es_code_contexts.proofs.Inner.{number_there}
use Rattle.es_code_contexts.proofs.start.start.Goals as goal

pub returns : goal.returns
unfolding chars
returns c =
    let number : c.node_id-program.result.0 ≡ number_of (program_of c.args.terms.now) = c.node_id-program.ensures ∙ number_there (program_of c.args.terms.now) in
    cc
