use Rattle.std.proofs.Common.{◌≡◌, ◌||◌, ◌∙◌, true, List, ap, sym, subst}
use Rattle.std.proofs.lemmas.Bool.{or_left}
use Rattle.kin_ids.specs.declared.ids.User.{User}
use Rattle.kin_ids.specs.Users.{has_user}
use Rattle.kin_changes.specs.Told.{are_told}
use Rattle.kin_push.specs.Engines.{columns_of}
use Rattle.kin_push.proofs.EngineParts.{wide-same}
use Rattle.kin_push.proofs.engines.wide_of.Goals as goal

pub wider-requires-clause-all : goal.wider-requires-clause-all
wider-requires-clause-all c u h =
    (rw c.in-Some.is at c.in_ok-users.ensures.all) u ∙ or_left (has_user c.as_slice.result.now u) (are_told c.args.deltas.now u)
    (subst (λ (us : List User). has_user us u ≡ true) (sym c.as_slice.ensures.value) h)

pub returns-in_ok-wider-in-Some : goal.returns-in_ok-wider-in-Some
returns-in_ok-wider-in-Some c = record {
  is_state = c.in_ok-wider-in-Some.ensures.is_state;
  quiet = λ _. c.in_ok-wider-in-Some.ensures.quiet;
  values = c.in_ok-wider-in-Some.ensures.values;
  users = λ u. ap (λ (us : List User). has_user us u) c.in_ok-wider-in-Some.ensures.users ∙ (rw c.in-Some.is at c.in_ok-users.ensures.all) u
      ∙ ap (λ (us : List User). has_user us u || are_told c.args.deltas.now u) c.as_slice.ensures.value;
}

pub returns-in-None : goal.returns-in-None
returns-in-None c =
    wide-same c.args.deltas.now (columns_of c.args.columns.now) c.requires
    (λ u h. subst (λ (us : List User). has_user us u ≡ true) c.as_slice.ensures.value (c.in_ok-users.ensures.none c.in-None.is u h))
