-- The shapes of a program behind S1.
use Rattle.std.specs.Prelude.{List, []}
use Rattle.es_base.specs.Preorder.{preorder}
use Rattle.es_base.specs.Tree.{Tree}
use Rattle.es_base.specs.declared.shape.Shape.{Shape}
use Rattle.es_steps.specs.Shapes.{if_has, lowered_classes, has_shape_2, has_shape_3, has_shape_4, has_shape_5, has_shape_6, has_shape_7, has_shape_8}
use Rattle.es_steps.specs.declared.options.Options.{Options}

abbrev pub other_shapes : Options → Tree → List Shape
other_shapes o t =
    if_has (has_shape_2 o (lowered_classes o (preorder t))) Shape.S2 (if_has (has_shape_3 o (lowered_classes o (preorder t))) Shape.S3 (if_has (has_shape_4 o t (lowered_classes o (preorder t))) Shape.S4
    (if_has (has_shape_5 o t) Shape.S5 (if_has (has_shape_6 o t (lowered_classes o (preorder t))) Shape.S6 (if_has (has_shape_7 t (lowered_classes o (preorder t))) Shape.S7 (if_has (has_shape_8 o t) Shape.S8 []))))))
