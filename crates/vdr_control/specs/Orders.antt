-- An order as contracts see it: with the bytes that it borrows.
use Rattle.std.specs.Prelude.{ℕ, ℤ, List}
use Rattle.vdr_entry.specs.declared.query.Medium.{Medium}
use Rattle.vdr_control.specs.declared.export.Exporting.{Exporting}
use Rattle.vdr_control.specs.declared.order.Order.{Order}
use Rattle.vdr_control.specs.declared.order.Order.TheVariants as orders
use Rattle.vdr_control.specs.declared.order.Telling.{Telling}

pub data PlainOrder : Type 0 where
  Status : PlainOrder
  Save : (label : List ℕ) → PlainOrder
  Release : (id : ℕ) → PlainOrder
  Incidents : PlainOrder
  Health : PlainOrder
  Play : (medium : Medium) (channel : List ℕ) (from to : ℤ) → PlainOrder
  Evidence : (id : ℕ) → PlainOrder
  Tell : (medium : Medium) (telling : Telling) → PlainOrder
  Export : (medium : Medium) (channel : List ℕ) (from to : ℤ) (exporting : Exporting) → PlainOrder

abbrev pub plain : Order → PlainOrder
plain orders.Status = Status
plain (orders.Save label) = Save label.now
plain (orders.Release id) = Release id
plain orders.Incidents = Incidents
plain orders.Health = Health
plain (orders.Play medium channel from to) = Play medium channel.now from to
plain (orders.Evidence id) = Evidence id
plain (orders.Tell medium telling) = Tell medium telling
plain (orders.Export medium channel from to exporting) = Export medium channel.now from to exporting
