use Rattle.std.proofs.Common.{◌≡◌, ◌≤◌, ◌<◌, true, get_or, length, arith, sym, subst}
use Rattle.kin_ids.specs.declared.ids.User.{User}
use Rattle.kin_mine.specs.Walkers.{AreLong, WalkersView, is_walking, walkers_by}
use Rattle.kin_mine.proofs.Actives.{least-walker, place-below}
use Rattle.kin_mine.proofs.walkers.Walkers.least_active.Goals as goal

pub offset_bounds-users-place : goal.offset_bounds-users-place
offset_bounds-users-place c = let lt : c.in-Some.place < length c.args.users.now = place-below c.args.users.now (walkers_by c.self.inside.hop_marks.items c.self.inside.close_marks.items) (subst (AreLong c.args.users.now) (sym c.self.view_is) c.requires.long) c.as_slice.result.now c.as_slice-2.result.now c.as_slice.ensures.value c.as_slice-2.ensures.value c.first_of-hops.result c.first_of-close.result c.lesser.result c.first_of-hops.ensures.none c.first_of-hops.ensures.some c.first_of-close.ensures.none c.first_of-close.ensures.some c.lesser.ensures c.in-Some.place c.in-Some.is in omega (arith, lt)

pub bounds-users-place : goal.bounds-users-place
bounds-users-place c = place-below c.args.users.now (walkers_by c.self.inside.hop_marks.items c.self.inside.close_marks.items) (subst (AreLong c.args.users.now) (sym c.self.view_is) c.requires.long) c.as_slice.result.now c.as_slice-2.result.now c.as_slice.ensures.value c.as_slice-2.ensures.value c.first_of-hops.result c.first_of-close.result c.lesser.result c.first_of-hops.ensures.none c.first_of-hops.ensures.some c.first_of-close.ensures.none c.first_of-close.ensures.some c.lesser.ensures c.in-Some.place c.in-Some.is

pub returns-in-Some-clause-some : goal.returns-in-Some-clause-some
returns-in-Some-clause-some c =
    let least = least-walker c.args.users.now (walkers_by c.self.inside.hop_marks.items c.self.inside.close_marks.items) (subst (AreLong c.args.users.now) (sym c.self.view_is) c.requires.long) c.as_slice.result.now c.as_slice-2.result.now c.as_slice.ensures.value c.as_slice-2.ensures.value c.first_of-hops.result c.first_of-close.result c.lesser.result c.first_of-hops.ensures.none c.first_of-hops.ensures.some c.first_of-close.ensures.none c.first_of-close.ensures.some c.lesser.ensures c.requires.ascend c.in-Some.place (record { 0 = 0 }) c.in-Some.is in
    subst (λ (w : WalkersView). (is_walking c.args.users.now w (get_or c.args.users.now c.in-Some.place (record { 0 = 0 })) ≡ true) × ((x : User) → is_walking c.args.users.now w x ≡ true → (get_or c.args.users.now c.in-Some.place (record { 0 = 0 })).0 ≤ x.0)) c.self.view_is least
