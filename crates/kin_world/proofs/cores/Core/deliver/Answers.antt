use Rattle.std.proofs.Common.{◌≡◌, ◌∙◌, Some, sym, ap, subst}
use Rattle.kin_hub.specs.Cores.{CoreTakes}
use Rattle.kin_hub.specs.Goes.{Knows, HubPlaces}
use Rattle.kin_world.specs.SentStamps.{find_sent}
use Rattle.kin_world.specs.Worlds.{WorldView}
use Rattle.kin_world.proofs.Made.{stamped-of}
use Rattle.kin_world.proofs.Delivering.{knows-piece, never-adrift}
use Rattle.kin_world.proofs.cores.Core.deliver.Goals as goal

pub piece_for-requires-clause-stamped : goal.piece_for-requires-clause-stamped
piece_for-requires-clause-stamped c =
    let a = c.args in
    let found = subst (λ (w : WorldView). find_sent w.sent a.ingest.0 a.inc.0 a.to ≡ Some c.in-Some.sent) c.self.view_is (sym c.find.ensures ∙ c.in-Some.is) in
    stamped-of a.self.now c.requires.history a.ingest.0 a.inc.0 a.to c.in-Some.sent c.requires.node found

pub take-requires-clause-known : goal.take-requires-clause-known
take-requires-clause-known c =
    let a = c.args in
    let found = subst (λ (w : WorldView). find_sent w.sent a.ingest.0 a.inc.0 a.to ≡ Some c.in-Some.sent) c.self.view_is (sym c.find.ensures ∙ c.in-Some.is) in
    let knows = knows-piece a.self.now c.requires.history a.part.0 a.ingest.0 a.inc.0 a.to c.in-Some.sent c.in_ok-piece.piece c.requires.part c.requires.node found c.in_ok-piece.ensures in
    subst (λ (w : WorldView). Knows w.hub c.in_ok-piece.piece) (sym c.self.view_is) knows

pub told-requires : goal.told-requires
told-requires c =
    let a = c.args in
    let found = subst (λ (w : WorldView). find_sent w.sent a.ingest.0 a.inc.0 a.to ≡ Some c.in-Some.sent) c.self.view_is (sym c.find.ensures ∙ c.in-Some.is) in
    let takes = subst (λ (w : WorldView). CoreTakes w.hub.core c.in_ok-piece.piece c.in_ok-taken.taken c.take.new.self.core) c.self.view_is c.in_ok-taken.ensures.taken in
    never-adrift a.self.now c.requires.history a.part.0 a.ingest.0 a.inc.0 a.to c.in-Some.sent c.in_ok-piece.piece c.in_ok-taken.taken c.take.new.self.core c.requires.part c.requires.node found c.in_ok-piece.ensures takes

pub returns-clause-delivers : goal.returns-clause-delivers
returns-clause-delivers c =
    let a = c.args in
    let found = subst (λ (w : WorldView). find_sent w.sent a.ingest.0 a.inc.0 a.to ≡ Some c.in-Some.sent) c.self.view_is (sym c.find.ensures ∙ c.in-Some.is) in
    rw found (record {
      piece = c.in_ok-piece.piece;
      of = c.in_ok-piece.ensures;
      taken = c.in_ok-taken.taken;
      answer = c.told.ensures;
      takes = subst (λ (w : WorldView). CoreTakes w.hub.core c.in_ok-piece.piece c.in_ok-taken.taken c.take.new.self.core) c.self.view_is c.in_ok-taken.ensures.taken;
      versions = subst (λ (w : WorldView). c.take.new.self.versions ≡ w.hub.versions) c.self.view_is c.in_ok-taken.ensures.versions;
      places = subst (λ (w : WorldView). HubPlaces w.hub c.in_ok-piece.piece c.take.new.self) c.self.view_is c.in_ok-taken.ensures.stands;
      world = ap (λ (w : WorldView). record w { hub = c.take.new.self }) c.self.view_is;
    })
