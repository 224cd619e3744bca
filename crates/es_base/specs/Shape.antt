-- The numbers of shapes (our own).
use Rattle.std.specs.Prelude.{ℕ}
use Rattle.es_base.specs.declared.shape.Shape.{Shape}

abbrev pub shape_number : Shape → ℕ
shape_number Shape.S1 = 1
shape_number Shape.S2 = 2
shape_number Shape.S3 = 3
shape_number Shape.S4 = 4
shape_number Shape.S5 = 5
shape_number Shape.S6 = 6
shape_number Shape.S7 = 7
shape_number Shape.S8 = 8
