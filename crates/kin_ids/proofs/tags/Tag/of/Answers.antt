use Rattle.kin_ids.proofs.TagFields.{holds-tag}
use Rattle.kin_ids.proofs.tags.Tag.of.Goals as goal

pub invariant_of-result : goal.invariant_of-result
invariant_of-result c = holds-tag c.args.text.now c.copy_from_slice.new.self c.copy_from_slice.ensures.after c.requires
