use Rattle.std.proofs.Common.{◌≡◌}
use Rattle.std.proofs.lemmas.Result.{on_ok_weaker}
use Rattle.es_codes.specs.CodeView.{code_of, codes_of}
use Rattle.es_steps.specs.Code as of
use Rattle.es_steps.specs.Code.{and, done, joined}
use Rattle.es_steps.specs.Values.{Undefined}
use Rattle.es_code_members.proofs.Chaining.{joined_one}
use Rattle.es_code_classes.proofs.Returns.{one_then}
use Rattle.es_code_classes.proofs.arrow.add_statement.Goals as goal

pub returns : goal.returns
returns c =
    let added : codes_of c.push.new.self ≡ joined (codes_of c.args.to.now) (and (code_of c.args.statement) done) = cc (joined_one c.args.to.now c.args.statement, c.in_ok-push.ensures.ok) in
    on_ok_weaker c.add_undefined.result (λ e. one_then (codes_of c.args.to.now) (code_of c.args.statement) (codes_of c.push.new.self) (and (of.value Undefined) done) _ added e) c.add_undefined.ensures
