-- A hub that stands for something over small feeds goes on to.
use Rattle.std.proofs.Common.{ℕ, ◌+◌, Option}
use Rattle.kin_hub.specs.Cores.{ready_run}
use Rattle.kin_hub.specs.Hubs.{HubView, agreed_in, cuts_in}
use Rattle.kin_hub.specs.Goes.{HubKeeps, HubRaises, HubCuts, raised_story, cut_story, next_of}
use Rattle.kin_hub.specs.Commits.{HasSmallFeeds}

pub small-keeps : (old new : HubView) → HubKeeps old new → HasSmallFeeds old → HasSmallFeeds new
small-keeps old new keeps (story, s, small) = (story, keeps story s, small)

pub small-raises : (old new : HubView) (j : ℕ) → HubRaises old j new → HasSmallFeeds old → HasSmallFeeds new
small-raises old new j raises (story, s, small) = (raised_story story j (ready_run old.core j), raises story s, small)

pub small-cuts : (old new : HubView) (n : Option ℕ) → HubCuts old n new → HasSmallFeeds old → HasSmallFeeds new
small-cuts old new n cuts (story, s, small) =
    (cut_story story (cuts_in old + 1) (next_of story old n), cuts story s, small)
