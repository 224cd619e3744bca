use Rattle.std.proofs.Common.{◌≡◌, sym, ap, ◌∙◌, true, false, cond}
use Rattle.es_codes.specs.CodeView.{code_of}
use Rattle.es_steps.specs.Code as of
use Rattle.es_steps.specs.Context.{new_here}
use Rattle.es_code_reading.specs.Contexts.{context_of}
use Rattle.es_code_operators.proofs.ChainForms.{chain_spliced}
use Rattle.es_code_operators.proofs.chain.spliced.Goals as goal

pub returns-then-is_new : goal.returns-then-is_new
returns-then-is_new c =
    let expression = code_of c.in-Chain.expression in
    let new : new_here (context_of c.args.c.now) c.in-Chain.node ≡ true = cc (c.is_new.ensures, c.if-is_new.true) in
    ap code_of c.into_inner.ensures ∙ sym (chain_spliced (context_of c.args.c.now) c.args.code c.in-Chain.node c.in-Chain.expression c.in-Chain.is ∙ ap (λ b. cond b expression (of.chain c.in-Chain.node expression)) new)

pub returns-else-is_new : goal.returns-else-is_new
returns-else-is_new c =
    let expression = code_of c.in-Chain.expression in
    let old : new_here (context_of c.args.c.now) c.in-Chain.node ≡ false = cc (c.is_new.ensures, c.if-is_new.false) in
    c.chain.ensures ∙ sym (chain_spliced (context_of c.args.c.now) c.args.code c.in-Chain.node c.in-Chain.expression c.in-Chain.is ∙ ap (λ b. cond b expression (of.chain c.in-Chain.node expression)) old)
