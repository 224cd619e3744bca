use Rattle.std.proofs.Common.{◌≡◌, ◌++◌, drop, map}
use Rattle.es_base.specs.Shape.{shape_number}
use Rattle.es_writing.specs.Writing.{number_of}
use Rattle.es_writing.proofs.Tokens.{values_tokens}
use Rattle.es_writing.proofs.program.write_shapes.Given as goal

abbrev pub invariant-loop-shape : goal.invariant-loop-shape
invariant-loop-shape l = record {
  tokens : l.out.tokens ++ values_tokens (map (λ s. number_of (shape_number s)) (drop l.shape-index l.shapes)) ≡ l.initial.out.tokens ++ values_tokens (map (λ s. number_of (shape_number s)) l.shapes);
  before : l.out.before ≡ l.initial.out.before;
}
