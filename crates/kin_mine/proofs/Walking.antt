-- Walks over the columns of a result, which are handed out and put back.
use Rattle.std.proofs.Common.{◌≡◌, ◌≤◌, ◌+◌, ◌∙◌, ◌||◌, ℕ, Bool, true, false, List, [], length, arith, refl, sym, ap, subst}
use Rattle.std.proofs.lemmas.Bool.{or_parts}
use Rattle.kin_ids.specs.declared.ids.User.{User}
use Rattle.kin_ids.specs.Parts.{PartView}
use Rattle.kin_push.specs.States.{PushState}
use Rattle.kin_rules.specs.Results.{ColumnView, ResultView}
use Rattle.kin_mine.specs.declared.walk_rules.Distance.{Distance}
use Rattle.kin_mine.specs.declared.walk_rules.Distance.TheVariants as distance
use Rattle.kin_mine.specs.Lanes.{AreAllDone, lanes, owed_in}
use Rattle.kin_mine.specs.Marks.{AreOn, AreStates, is_marked}
use Rattle.kin_mine.specs.Walkers.{AllLanes, HaveStates, KeepsRest, WalkOn, WalkersView, is_walking, walkers_by, walks_owed}

-- how a column of a landmark changed under a rule
abbrev pub LaneOf : Type 1
LaneOf = Distance → User → PushState → PushState → Type 0

module _ (r r1 r2 : ResultView) (hc cc : List ColumnView) (out : r1 ≡ record r { hops = []; close = [] }) (back : r2 ≡ record r1 { hops = hc; close = cc }) where
  put : r2 ≡ record r { hops = hc; close = cc }
  put = back ∙ ap (λ (x : ResultView). record x { hops = hc; close = cc }) out

  users-of : (us : List User) → us ≡ r1.users → us ≡ r.users
  users-of us e = e ∙ ap (λ (x : ResultView). x.users) out

  pub rest : KeepsRest r r2
  rest = subst (KeepsRest r) (sym put) refl

  module _ (us us2 : List User) (a : us ≡ r1.users) (b : us2 ≡ r1.users) where
    pub on-is : (v : PartView) (ls : List User) (hm cm : List (List Bool)) → AreOn distance.Hops v ls us hc hm → AreOn distance.Close v ls us2 cc cm → WalkOn v ls r2 (walkers_by hm cm)
    on-is v ls hm cm h k = subst (λ (x : ResultView). WalkOn v ls x (walkers_by hm cm)) (sym put) (record {
      hops = subst (λ (y : List User). AreOn distance.Hops v ls y hc hm) (users-of us a) h;
      close = subst (λ (y : List User). AreOn distance.Close v ls y cc cm) (users-of us2 b) k;
    })

    pub states-are : (ls : List User) (hm cm : List (List Bool)) → AreStates ls us hc hm → AreStates ls us2 cc cm → HaveStates ls r2 (walkers_by hm cm)
    states-are ls hm cm h k = subst (λ (x : ResultView). HaveStates ls x (walkers_by hm cm)) (sym put) (record {
      hops = subst (λ (y : List User). AreStates ls y hc hm) (users-of us a) h;
      close = subst (λ (y : List User). AreStates ls y cc cm) (users-of us2 b) k;
    })

    module _ (ls : List User) (oh oc : List ColumnView) (oh_is : oh ≡ r.hops) (oc_is : oc ≡ r.close) (w : WalkersView) (hm cm : List (List Bool)) where
      pub lanes-are : (P : LaneOf) → AreAllDone (P distance.Hops) ls us (lanes oh w.hop_marks) (lanes hc hm) → AreAllDone (P distance.Close) ls us2 (lanes oc w.close_marks) (lanes cc cm) → AllLanes P ls r w r2 (walkers_by hm cm)
      lanes-are P h k = subst (λ (x : ResultView). AllLanes P ls r w x (walkers_by hm cm)) (sym put) each
        where
          each : AllLanes P ls r w (record r { hops = hc; close = cc }) (walkers_by hm cm)
          each distance.Hops =
              subst (λ (y : List User). AreAllDone (P distance.Hops) ls y (lanes r.hops w.hop_marks) (lanes hc hm)) (users-of us a)
              (subst (λ (o : List ColumnView). AreAllDone (P distance.Hops) ls us (lanes o w.hop_marks) (lanes hc hm)) oh_is h)
          each distance.Close =
              subst (λ (y : List User). AreAllDone (P distance.Close) ls y (lanes r.close w.close_marks) (lanes cc cm)) (users-of us2 b)
              (subst (λ (o : List ColumnView). AreAllDone (P distance.Close) ls us2 (lanes o w.close_marks) (lanes cc cm)) oc_is k)

      pub owed-is : (v : PartView) (s0 s1 s2 : ℕ)
          → s1 + owed_in distance.Hops v ls us (lanes hc hm) (length ls) ≤ s0 + owed_in distance.Hops v ls us (lanes oh w.hop_marks) (length ls)
          → s2 + owed_in distance.Close v ls us2 (lanes cc cm) (length ls) ≤ s1 + owed_in distance.Close v ls us2 (lanes oc w.close_marks) (length ls)
          → s2 + walks_owed v ls r2 (walkers_by hm cm) ≤ s0 + walks_owed v ls r w
      owed-is v s0 s1 s2 h k = subst (λ (x : ResultView). s2 + walks_owed v ls x (walkers_by hm cm) ≤ s0 + walks_owed v ls r w) (sym put) (omega (arith, hops, close))
        where
          hops : s1 + owed_in distance.Hops v ls r.users (lanes hc hm) (length ls) ≤ s0 + owed_in distance.Hops v ls r.users (lanes r.hops w.hop_marks) (length ls)
          hops =
              subst (λ (y : List User). s1 + owed_in distance.Hops v ls y (lanes hc hm) (length ls) ≤ s0 + owed_in distance.Hops v ls y (lanes r.hops w.hop_marks) (length ls)) (users-of us a)
              (subst (λ (o : List ColumnView). s1 + owed_in distance.Hops v ls us (lanes hc hm) (length ls) ≤ s0 + owed_in distance.Hops v ls us (lanes o w.hop_marks) (length ls)) oh_is h)

          close : s2 + owed_in distance.Close v ls r.users (lanes cc cm) (length ls) ≤ s1 + owed_in distance.Close v ls r.users (lanes r.close w.close_marks) (length ls)
          close =
              subst (λ (y : List User). s2 + owed_in distance.Close v ls y (lanes cc cm) (length ls) ≤ s1 + owed_in distance.Close v ls y (lanes r.close w.close_marks) (length ls)) (users-of us2 b)
              (subst (λ (o : List ColumnView). s2 + owed_in distance.Close v ls us2 (lanes cc cm) (length ls) ≤ s1 + owed_in distance.Close v ls us2 (lanes o w.close_marks) (length ls)) oc_is k)

      -- where no column changes the result is as it was
      pub same : hc ≡ oh → cc ≡ oc → r2 ≡ r
      same h k = put ∙ (ap (λ (x : List ColumnView). record r { hops = x; close = cc }) (h ∙ oh_is) ∙ ap (λ (x : List ColumnView). record r { close = x }) (k ∙ oc_is))

    -- whether a user is active, by both rules
    pub walking-is : (w : WalkersView) (u : User) (t h c : Bool) → t ≡ (h || c) → h ≡ is_marked us w.hop_marks u → c ≡ is_marked us2 w.close_marks u → t ≡ is_walking r.users w u
    walking-is w u t h c t_is h_is c_is =
        t_is ∙ (ap (λ (x : Bool). x || c) (h_is ∙ ap (λ (y : List User). is_marked y w.hop_marks u) (users-of us a))
        ∙ ap (λ (x : Bool). is_marked r.users w.hop_marks u || x) (c_is ∙ ap (λ (y : List User). is_marked y w.close_marks u) (users-of us2 b)))

    pub unmarked : (w : WalkersView) (u : User) → is_walking r.users w u ≡ false → (is_marked us w.hop_marks u ≡ false) × (is_marked us2 w.close_marks u ≡ false)
    unmarked w u off =
        let both = or_parts (is_marked r.users w.hop_marks u) (is_marked r.users w.close_marks u) off in (
          ap (λ (y : List User). is_marked y w.hop_marks u) (users-of us a) ∙ both.0,
          ap (λ (y : List User). is_marked y w.close_marks u) (users-of us2 b) ∙ both.1,
        )

    -- what holds of walks on a result holds of what is handed out
    pub lent-on : (v : PartView) (ls : List User) (oh oc : List ColumnView) (w : WalkersView) → oh ≡ r.hops → oc ≡ r.close → WalkOn v ls r w → AreOn distance.Hops v ls us oh w.hop_marks × AreOn distance.Close v ls us2 oc w.close_marks
    lent-on v ls oh oc w oh_is oc_is on = (
      subst (λ (y : List User). AreOn distance.Hops v ls y oh w.hop_marks) (sym (users-of us a)) (subst (λ (o : List ColumnView). AreOn distance.Hops v ls r.users o w.hop_marks) (sym oh_is) on.hops),
      subst (λ (y : List User). AreOn distance.Close v ls y oc w.close_marks) (sym (users-of us2 b)) (subst (λ (o : List ColumnView). AreOn distance.Close v ls r.users o w.close_marks) (sym oc_is) on.close),
    )
