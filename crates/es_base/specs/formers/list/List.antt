-- How a `List` holds its items, so that a type may hold itself through one.
use mathlib.Core.Path.{◌≡◌, refl, sym}
use mathlib.Core.List.{List, []}
use mathlib.Core.Former.{Former, this, list, via, children}
use base.Stored.{code_map}
use denote.RattleType.{RattleType}
use denote.HoleLaws.{Alike}
use denote.HolePlaces.{Recodes, struct_places, laid}
use denote.Hole.Carrier.{listed, list-listed}
use denote.Hole.Fix.{over}
use denote.Param.Weighed.{Weighed, w_list}
use denote.Model.Placed.{view_places}
use Rattle.std.specs.formers.vec.Vec as vec
use Rattle.std.specs.declared.alloc.Global.{Global}
use Rattle.std.specs.contracts.alloc.Global as global
use Rattle.std.specs.contracts.impls.GlobalAllocator.TheImpl.{ghosts}
use Rattle.es_base.specs.declared.list.List.TheInside.{Inside}
use Rattle.es_base.specs.declared.list.List.TheView.{view, invariant}
use Rattle.es_base.specs.contracts.list.List as of_list
use Rattle.es_base.specs.contracts.list.List.TheInside as of_fields

abbrev pub the_former : Former {0} → Former {0}
the_former item = list item

abbrev pub the_weighed : {item : Former {0}} → Weighed item → Weighed (the_former item)
the_weighed weight = w_list weight

pub the_empty : List ⊥
the_empty = []

abbrev pub the_items : (X : Type 0) → List X → List X
the_items X items = items

pub the_items_listed : (X : Type 0) (items : List X) → listed _ (children (the_former this) X items) ≡ the_items X items
the_items_listed X items = list-listed X items

-- the fields, as what they hold of the items: the one `Vec`
abbrev fields : Former {0}
fields = via (vec.the_former this Global) Inside (λ X inside. inside.items) (λ X items. record { items = items }) (λ X inside. refl) (λ X items. refl)

module _ (From To : RattleType) (f : From.Denot → To.Denot) where
  pub the_places : Alike From To f → Alike (of_list.the_row From) (of_list.the_row To) ((the_former this).map From.Denot To.Denot f)
  the_places alike = view_places fields (list this) view (λ X Y k u. refl) (λ X u. refl) From.Denot To.Denot f (of_list.the_row From).coded (of_list.the_row To).coded
      (invariant From.Denot) (invariant To.Denot) (λ u p q. refl) (λ u p q. refl) (λ u e. tt) (λ u e. tt)
      (over (of_fields.the_row From)) (over (of_fields.the_row To))
      (struct_places (of_fields.the_type From) (of_fields.the_type To) (vec.mapped f, tt) _ (λ d. refl) refl (laid _ _ _ (vec.the_places global.the_row ghosts From To f alike), tt))

  pub the_codes_placed : Recodes From To f → Recodes (of_list.the_row From) (of_list.the_row To) ((the_former this).map From.Denot To.Denot f)
  the_codes_placed recodes items = sym (code_map From.coded.code To.coded.code f (λ x. sym (recodes x)) items)
