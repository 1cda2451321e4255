-- The types of this crate under one module.
pub use Rattle.kin_ids.specs.declared.ids.IngestId.{IngestId}
pub use Rattle.kin_ids.specs.declared.ids.PartId.{PartId}
pub use Rattle.kin_ids.specs.declared.ids.User.{User}
pub use Rattle.kin_ids.specs.declared.ids.Epoch.{Epoch}
pub use Rattle.kin_ids.specs.declared.ids.Inc.{Inc}
pub use Rattle.kin_ids.specs.declared.stamps.Stamp.{Stamp}
pub use Rattle.kin_ids.specs.declared.stamps.Place.{Place}
pub use Rattle.kin_ids.specs.declared.stamps.End.{End}
pub use Rattle.kin_ids.specs.declared.ops.Item.{Item}
pub use Rattle.kin_ids.specs.declared.ops.Record.{Record}
pub use Rattle.kin_ids.specs.declared.ops.Op.{Op}
pub use Rattle.kin_ids.specs.declared.ops.Subject.{Subject}
pub use Rattle.kin_ids.specs.declared.ops.Numbered.{Numbered}
pub use Rattle.kin_ids.specs.declared.ops.Piece.{Piece}
pub use Rattle.kin_ids.specs.declared.ops.Half.{Half}
pub use Rattle.kin_ids.specs.declared.ops.Use.{Use}
