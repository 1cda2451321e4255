-- What a miner stands for once an epoch is begun.
use Rattle.std.proofs.Common.{◌≡◌, ◌<◌, ◌≤◌, ◌^◌, ◌∙◌, ◌||◌, ℕ, Bool, true, false, cond, List, [], Option, Some, None, length, get_or, arith, refl, sym, ap, subst}
use Rattle.std.specs.Prelude.{slice_get}
use Rattle.std.proofs.lemmas.Option.{slice_get_within}
use Rattle.kin_ids.specs.declared.ids.User.{User}
use Rattle.kin_ids.specs.Parts.{PartView}
use Rattle.kin_ids.specs.Users.{has_user}
use Rattle.kin_graph.specs.Deltas.{DeltaLists}
use Rattle.kin_graph.specs.Views.{AreVertices}
use Rattle.kin_changes.specs.Views.{AreLed}
use Rattle.kin_push.specs.Begins.{Begins, IsEntered, is_started}
use Rattle.kin_push.specs.States.{IsQuiet, value_in}
use Rattle.kin_changes.proofs.Edges.{edges-law}
use Rattle.kin_push.proofs.Begun.{begin-law}
use Rattle.kin_rules.specs.Results.{ColumnView, no_column, value_in as column_value}
use Rattle.kin_mine.specs.declared.walk_rules.Distance.{Distance}
use Rattle.kin_mine.specs.declared.walk_rules.Distance.TheVariants as distance
use Rattle.kin_mine.specs.Lanes.{AreAllDone, Lanes, lanes, no_user}
use Rattle.kin_mine.specs.Marks.{AreOn, AreStates, rule_of, state_at}
use Rattle.kin_mine.proofs.Columns.{column-value}
use Rattle.kin_mine.specs.WalkRules.{rule-laws}

-- from whichever landmark the same edges are used
pub same-starts : (d : Distance) (l k : User) (ds : List DeltaLists) (u : User) → is_started (rule_of d l) ds u ≡ is_started (rule_of d k) ds u
same-starts distance.Hops l k ds u = refl
same-starts distance.Close l k ds u = refl

module _ (d : Distance) (was is : PartView) (ds : List DeltaLists) (led : AreLed was is ds) (landmarks olds news : List User) (oc wc nc : List ColumnView) (om wm nm : List (List Bool)) (starts : List User)
    (on : AreOn d was landmarks olds oc om) (off : (i : ℕ) → i < length landmarks → IsQuiet (state_at olds oc om i))
    (vertices : AreVertices is news) (small : length news ≤ 2 ^ 27) (wide : AreStates landmarks news wc wm)
    (same : (i : ℕ) (u : User) → column_value news wc i u ≡ column_value olds oc i u)
    (started : (u : User) → has_user starts u ≡ is_started (rule_of d no_user) ds u)
    (entered : AreAllDone (λ l. IsEntered (rule_of d l) starts) landmarks news (lanes wc wm) (lanes nc nm)) (after : AreStates landmarks news nc nm) where
  pub lane-begins : (i : ℕ) (l : User) → slice_get landmarks i ≡ Some l → Begins (rule_of d l) is ds (state_at olds oc om i) (state_at news nc nm i)
  lane-begins i l e =
      let lt = slice_get_within landmarks i l e in
      let old = on.are.states i lt in
      let new = wide.states i lt in
      begin-law edges-law (rule_of d l) was is ds starts (state_at olds oc om i) (state_at news wc wm i) (state_at news nc nm i) (record {
        rule = rule-laws d l;
        led = led;
        vertices = vertices;
        small = small;
        on = on.on i l e;
        quiet = off i lt;
        values = λ u. sym (column-value news (get_or wc i no_column) (get_or wm i []) u new.valued (wide.alone i)) ∙ (same i u
            ∙ column-value olds (get_or oc i no_column) (get_or om i []) u old.valued (on.are.alone i));
        starts = λ u. started u ∙ same-starts d no_user l ds u;
        entered = entered.done i l lt e;
      })

  pub begun-on : AreOn d is landmarks news nc nm
  begun-on = record { are = after; on = λ i l e. (lane-begins i l e).on }
