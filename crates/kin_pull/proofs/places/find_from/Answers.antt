use Rattle.std.proofs.Common.{◌≡◌, ◌∙◌, ◌<◌, ℕ, Bool, Some, None, cond, length, get_or, sym, ap, ap₂, arith, subst}
use Rattle.kin_ids.specs.declared.ids.User.{User}
use Rattle.kin_rules.specs.Places.{place}
use Rattle.kin_rules.proofs.PlacedValues.{place-at}
use Rattle.kin_pull.proofs.Marks.{there-at}
use Rattle.kin_pull.proofs.places.find_from.Goals as goal

pub returns-in-Some-clause-found : goal.returns-in-Some-clause-found
returns-in-Some-clause-found c =
    let us = c.args.users.now in
    let u = c.args.u in
    let there = c.in-Some.ensures.lookup.3 in
    let same : c.in-Some.user.now ≡ u = ap (λ (n : ℕ). record { 0 = n }) c.if-user-u.true in
    let is : get_or us c.args.first u ≡ u = sym (there.1 u) ∙ same in
    let at : place us u ≡ c.args.first = ap (place us) (sym is) ∙ place-at us c.args.first u c.requires there.0 in
    let has = there-at us u (subst (λ (n : ℕ). n < length us) (sym at) there.0) in
    ap Some (sym at) ∙ ap (λ (b : Bool). cond b (Some (place us u)) None) (sym has)
