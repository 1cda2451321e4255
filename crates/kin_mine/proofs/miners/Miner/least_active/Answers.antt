use Rattle.std.proofs.Common.{◌≡◌, ◌≤◌, ◌∙◌, true, List, [], Option, Some, IfSome, refl, sym, subst}
use Rattle.kin_ids.specs.declared.ids.User.{User}
use Rattle.kin_scores.specs.Scores.{AreKept, AreQuiet}
use Rattle.kin_scores.specs.Scores as scores
use Rattle.kin_mine.specs.Miners.{IsLeastUser, MinerView, active_in, seen}
use Rattle.kin_mine.specs.Walkers.{AreLong, is_walking}
use Rattle.kin_mine.proofs.Mining.{least-is, none-least, walks-long}
use Rattle.kin_mine.proofs.Turning.{miner_of}
use Rattle.kin_mine.proofs.miners.Miner.least_active.Goals as goal

pub least_active-requires-clause-long : goal.least_active-requires-clause-long
least_active-requires-clause-long c = subst (λ (us : List User). AreLong us c.self.inside.walkers) (sym c.users-users.ensures.users) (walks-long (seen (miner_of c.self.inside.landmarks.items c.self.inside.result c.self.inside.snap c.self.inside.walkers c.self.inside.scores)) c.self.inside.landmarks.items c.self.inside.result c.self.inside.walkers c.self.invariant.walks)

pub least_active-requires-2 : goal.least_active-requires-2
least_active-requires-2 c = subst (λ (us : List User). AreKept us c.self.inside.scores) (sym c.users-users.ensures.users) c.self.invariant.kept

pub returns-clause-none : goal.returns-clause-none
returns-clause-none c = λ e. subst (λ (m : MinerView). active_in m ≡ []) c.self.view_is (none-least (miner_of c.self.inside.landmarks.items c.self.inside.result c.self.inside.snap c.self.inside.walkers c.self.inside.scores) c.self.invariant c.least_active.result c.least_active-2.result c.lesser.result (subst (λ (us : List User). IfSome c.least_active.result (λ u. (is_walking us c.self.inside.walkers u ≡ true) × ((x : User) → is_walking us c.self.inside.walkers x ≡ true → u.0 ≤ x.0))) c.users-users.ensures.users c.least_active.ensures.some) c.least_active.ensures.none (subst (λ (us : List User). IfSome c.least_active-2.result (λ u. (scores.is_active us c.self.inside.scores u ≡ true) × ((x : User) → scores.is_active us c.self.inside.scores x ≡ true → u.0 ≤ x.0))) c.users-users.ensures.users c.least_active-2.ensures.some) (λ e. subst (λ (us : List User). AreQuiet us c.self.inside.scores) c.users-users.ensures.users (c.least_active-2.ensures.none e)) c.lesser.ensures.none e)

pub returns-clause-some : goal.returns-clause-some
returns-clause-some c = subst (λ (m : MinerView). IfSome c.lesser.result (IsLeastUser (active_in m))) c.self.view_is (least-is (miner_of c.self.inside.landmarks.items c.self.inside.result c.self.inside.snap c.self.inside.walkers c.self.inside.scores) c.self.invariant c.least_active.result c.least_active-2.result c.lesser.result (subst (λ (us : List User). IfSome c.least_active.result (λ u. (is_walking us c.self.inside.walkers u ≡ true) × ((x : User) → is_walking us c.self.inside.walkers x ≡ true → u.0 ≤ x.0))) c.users-users.ensures.users c.least_active.ensures.some) c.least_active.ensures.none (subst (λ (us : List User). IfSome c.least_active-2.result (λ u. (scores.is_active us c.self.inside.scores u ≡ true) × ((x : User) → scores.is_active us c.self.inside.scores x ≡ true → u.0 ≤ x.0))) c.users-users.ensures.users c.least_active-2.ensures.some) (λ e. subst (λ (us : List User). AreQuiet us c.self.inside.scores) c.users-users.ensures.users (c.least_active-2.ensures.none e)) c.lesser.ensures.one c.lesser.ensures.least)
