-- What a conditional expression behind a new test is.
use Rattle.std.specs.Prelude.{ℕ, Bool, true, cond}
use Rattle.es_base.specs.declared.kind.Kind.{Kind}
use Rattle.es_steps.specs.Code.{Code, Codes, value, chain, tested, operation, no_rule, done, and}
use Rattle.es_steps.specs.Events.{OfKind}
use Rattle.es_steps.specs.Expressions.{the_code}
use Rattle.es_steps.specs.GeneratedForms.{tested_object, again_of}
use Rattle.es_steps.specs.Members.{Member, more, end, details, codes_of}
use Rattle.es_steps.specs.Values.{ConstantOf, BooleanOf, Undefined}
use Rattle.es_code_conditionals.specs.declared.conditional.ChainEnd.{ChainEnd}

-- by what stands before `:`
abbrev pub end_by : Code → ChainEnd
end_by (value Undefined) = ChainEnd.Member
end_by (value (ConstantOf (BooleanOf true))) = ChainEnd.Delete
end_by e = ChainEnd.NoChain

abbrev pub chain_end : Bool → Code → ChainEnd
chain_end is_test middle = cond is_test (end_by middle) ChainEnd.NoChain

abbrev pub first_of : Codes → Code
first_of (and a es) = a
first_of done = no_rule

-- the chain m that goes on behind a test
abbrev pub chain_behind : ℕ → Code → Code → Code
chain_behind m test rest_code = chain m (tested (tested_object test) (again_of test) rest_code)

abbrev pub plain_conditional : ℕ → Member → Member → Member → Code
plain_conditional m test middle last = operation m (OfKind Kind.ConditionalExpression (details (more test (more middle (more last end))))) (codes_of test) (and (the_code middle) (and (the_code last) done))
