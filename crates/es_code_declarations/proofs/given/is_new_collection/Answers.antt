use Rattle.std.proofs.Common.{sym, ap, ◌∙◌}
use Rattle.es_codes.specs.CodeView.{code_of, codes_of}
use Rattle.es_codes.specs.declared.code.Code.{Code}
use Rattle.es_code_reading.specs.Contexts.{context_of}
use Rattle.es_code_declarations.proofs.GivenForms.{a_construction}
use Rattle.es_code_declarations.specs.Given.{makes_collection}
use Rattle.es_code_declarations.proofs.given.is_new_collection.Goals as goal

pub returns-in-Construct : goal.returns-in-Construct
returns-in-Construct c =
    c.makes_collection.ensures
    ∙ ap (λ (f : Code). makes_collection (context_of c.args.c.now) c.args.word.now c.in-Construct.node (code_of f) (codes_of c.in-Construct.arguments)) c.get.ensures
    ∙ sym (a_construction (context_of c.args.c.now) c.args.word.now c.args.code.now c.in-Construct.node c.in-Construct.callee c.in-Construct.arguments c.in-Construct.is)
