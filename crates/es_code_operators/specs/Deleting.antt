-- What `delete` does, part by part.
use Rattle.std.specs.Prelude.{ℕ}
use Rattle.es_steps.specs.Code.{Code, value, member, super_member, from_member, chain, no_rule, operation, done, and}
use Rattle.es_steps.specs.Events.{Delete}
use Rattle.es_steps.specs.Expressions.{deleted}
use Rattle.es_steps.specs.Values.{Value, ThisOf, ClassOf}
use Rattle.es_code_operators.specs.declared.deleted.Deletion.{Deletion}

abbrev pub deletion_of : Value → Deletion
deletion_of (ThisOf k) = Deletion.Known
deletion_of (ClassOf n) = Deletion.Known
deletion_of v = Deletion.Whole

-- what is done with an operand
abbrev pub deletion : Code → Deletion
deletion (member m o k) = Deletion.InPlace
deletion (super_member m home k this) = Deletion.InPlace
deletion (chain m e) = Deletion.InChain
deletion (from_member e) = Deletion.NoRule
deletion (value v) = deletion_of v
deletion e = Deletion.Whole

-- what neither a member is nor a test
abbrev pub deleted_whole : ℕ → Code → Code
deleted_whole m (from_member e) = no_rule
deleted_whole m e = operation m Delete (and e done) done

abbrev pub deleted_chain : ℕ → Code → Code
deleted_chain m (chain k e) = chain m (deleted m e)
deleted_chain m e = e
