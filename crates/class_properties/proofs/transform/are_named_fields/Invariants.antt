use Rattle.std.proofs.Common.{◌≡◌, drop}
use Rattle.std.specs.List.{list_all}
use Rattle.class_properties.specs.Form.{is_named_field}
use Rattle.class_properties.proofs.transform.are_named_fields.Given as goal

abbrev pub invariant-loop-element : goal.invariant-loop-element
invariant-loop-element l = list_all is_named_field (drop l.element-index l.elements) ≡ list_all is_named_field l.elements
