use Rattle.std.proofs.Common.{sym, ap, ◌∙◌, ◌++◌, map}
use Rattle.es_codes.specs.CodeView.{code_of}
use Rattle.es_code_rules.specs.Elsewhere.{definition_of}
use Rattle.es_definitions.proofs.Defining.{no_super, nothing_defined}
use Rattle.es_definitions.proofs.function.add_called.Goals as goal

pub returns-in-len1-up : goal.returns-in-len1-up
returns-in-len1-up c =
    nothing_defined c.args.definitions.now
    ∙ ap (λ ds. map definition_of c.args.definitions.now ++ ds) (sym (no_super c.args.name.now c.args.class c.args.function.parameters.now (code_of c.args.function.body.now) c.in-len1-up.len_at_least))
