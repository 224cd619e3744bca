use Rattle.es_code_calls.proofs.Called.{of_chain}
use Rattle.es_code_calls.proofs.callee.+called.Goals as goal

pub returns-in_ok-new-in-Chain : goal.returns-in_ok-new-in-Chain
returns-in_ok-new-in-Chain t c = cc (of_chain c.args.code c.in-Chain.node c.in-Chain.expression c.in-Chain.is, c.on_chain.ensures, c.in_ok-new-in-Chain.ensures, c.in_ok-inner-in-Chain.ensures, c.into_inner.ensures)
