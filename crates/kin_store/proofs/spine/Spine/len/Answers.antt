use Rattle.std.proofs.Common.{length, ap, ◌∙◌}
use Rattle.kin_store.proofs.Paging.{paged-length}
use Rattle.kin_store.proofs.spine.Spine.len.Goals as goal

pub returns : goal.returns
returns c = paged-length c.self.inside.pages.items c.self.inside.count c.self.invariant ∙ ap length c.self.view_is
