use Rattle.kin_ids.proofs.Vertices.{vertex-law, tag-law, few-vertices-law}
use Rattle.kin_ids.proofs.laws.vertex_laws.Goals as goal

pub returns : goal.returns
returns c = record { vertices = vertex-law; tags = tag-law; few = few-vertices-law }
