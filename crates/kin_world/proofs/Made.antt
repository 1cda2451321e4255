-- A stamp that is found was made.
use Rattle.std.proofs.Common.{◌≡◌, ℕ, ◌+◌, ◌<◌, ◌≤◌, min, true, List, [], ◌∷◌, Option, Some, None, refl, sym, ◌∙◌, ap, subst, arith, get_or, length}
use Rattle.std.specs.Option.{option_map}
use Rattle.std.proofs.lemmas.Bool.{and_from, eq-eqb}
use Rattle.kin_ids.specs.declared.ops.Record.{Record}
use Rattle.kin_ids.specs.declared.stamps.Stamp.{Stamp}
use Rattle.kin_ids.specs.Lines.{has, find_stamp, made_by, next_stamp, end_of}
use Rattle.kin_ids.specs.Order.{feed_at}
use Rattle.kin_ids.proofs.Lines.{has-made, lies}
use Rattle.kin_script.specs.declared.events.Event.{Event}
use Rattle.kin_history.specs.Setting.{Setting, nodes, feed_len}
use Rattle.kin_history.specs.Lines.{inc, next, sent, bases, base}
use Rattle.kin_history.proofs.Made.{found, new_stamp}
use Rattle.kin_history.proofs.Sound.{IsSound, line-ends}
use Rattle.kin_ingest.specs.declared.ingests.Ingest.{Ingest}
use Rattle.kin_world.specs.declared.sent_logs.Sent.{Sent}
use Rattle.kin_world.specs.SentStamps.{find_sent}
use Rattle.kin_world.specs.Worlds.{WorldView, node_at}
use Rattle.kin_world.specs.Steps.{IsStamped, stamped}
use Rattle.kin_world.specs.Stands.{Stands, HasHistory}
use Rattle.kin_world.proofs.Facts.{good, node_in}
use Rattle.kin_world.proofs.Sents.{find_sent-is, found_stamp, no_stamp, with_base}

-- a stamp of node i and incarnation c that was made and ends at a position, with its base
pub record IsMade (set : Setting) (h : List Event) (i c to : ℕ) (x : Sent) : Type 0 where
  pub made : has (sent set h) x.stamp ≡ true
  pub node : x.stamp.ingest.0 ≡ i
  pub inc_is : x.stamp.inc.0 ≡ c
  pub ends : x.stamp.to ≡ to
  pub exists : c ≤ inc set h i
  pub base_is : x.base ≡ base set h i c
  pub after_base : x.base ≤ x.stamp.from
  pub some : x.stamp.from < x.stamp.to
  pub few : x.stamp.to ≤ x.stamp.from + 16
  pub inside : x.stamp.to ≤ feed_len set i

module _ (set : Setting) (w : WorldView) (h : List Event) (s : Stands set w h) where
  -- a stamp of an incarnation among those made, by its place there
  lies_made : (i c : ℕ) (x : Stamp) → c ≤ inc set h i → has (sent set h) x ≡ true → x.ingest.0 ≡ i → x.inc.0 ≡ c → has (made_by i c (sent set h)) x ≡ true
  lies_made i c x le made node of = has-made i c (sent set h) x ∙ and_from _ _ made (and_from _ _ (eq-eqb _ _ node) (eq-eqb _ _ of))

  pub found_is : (i c to : ℕ) → find_sent w.sent i c to ≡ option_map (with_base (bases set h)) (find_stamp (sent set h) i c to)
  found_is i c to = ap (λ (ss : List Sent). find_sent ss i c to) s.nodes.stamps ∙ find_sent-is (bases set h) (sent set h) i c to

  pub stamp_of : (i c to : ℕ) (x : Sent) → find_sent w.sent i c to ≡ Some x → find_stamp (sent set h) i c to ≡ Some x.stamp
  stamp_of i c to x e = (found_stamp (bases set h) (find_stamp (sent set h) i c to) x (sym (found_is i c to) ∙ e)).stamp

  pub none_of : (i c to : ℕ) → find_sent w.sent i c to ≡ None → find_stamp (sent set h) i c to ≡ None
  none_of i c to e = no_stamp (bases set h) (find_stamp (sent set h) i c to) (sym (found_is i c to) ∙ e)

  pub made-of : (i c to : ℕ) (x : Sent) → find_sent w.sent i c to ≡ Some x → IsMade set h i c to x
  made-of i c to x e =
      let base_of = (found_stamp (bases set h) (find_stamp (sent set h) i c to) x (sym (found_is i c to) ∙ e)).base in
      let of = found (sent set h) i c to x.stamp (stamp_of i c to x e) in
      let g = good set w h s i in
      let exists : c ≤ inc set h i = subst (λ (k : ℕ). k ≤ inc set h i) of.inc (g.later x.stamp of.made of.ingest) in
      let base_is : x.base ≡ base set h i c = base_of ∙ (ap (λ (k : ℕ). get_or (bases set h k) x.stamp.inc.0 0) of.ingest ∙ ap (base set h i) of.inc) in
      let place = lies (base set h i c) (made_by i c (sent set h)) x.stamp (g.made c exists) (lies_made i c x.stamp exists of.made of.ingest of.inc) in
      let from = place.from in
      let size = g.sizes x.stamp of.made of.ingest in
      record {
        made = of.made;
        node = of.ingest;
        inc_is = of.inc;
        ends = of.to;
        exists = exists;
        base_is = base_is;
        after_base = omega arith;
        some = size.0.some;
        few = size.0.few;
        inside = size.1;
      }

-- what is found may be split into pieces
pub stamped-of : (w : WorldView) → HasHistory w → (i c to : ℕ) (x : Sent) → i < length w.feeds → find_sent w.sent i c to ≡ Some x → IsStamped w x
stamped-of w story i c to x lt e =
    let s = story.2 in
    let of = made-of story.0 w story.1 s i c to x e in
    record {
      node = subst (λ (k : ℕ). k < length w.feeds) (sym of.node) lt;
      after_base = of.after_base;
      some = of.some;
      few = of.few;
      inside = subst (λ (k : ℕ). x.stamp.to ≤ length (feed_at w.feeds k)) (sym of.node) (subst (λ (feeds : List (List Record)). x.stamp.to ≤ length (feed_at feeds i)) (sym s.over.feeds) of.inside);
    }

-- a node's next position lies in its feed
pub next-within : (w : WorldView) → HasHistory w → (j : ℕ) → j < length w.feeds → (node_at w j).next ≤ (node_at w j).len
next-within w story j lt =
    let node = story.2.nodes.ingests j (node_in story.0 w story.1 story.2 j lt) in
    subst (λ (k : Ingest). k.next ≤ k.len) (sym node) (good story.0 w story.1 story.2 j).within

-- a node's next stamp wasn't made yet
pub unsent : (w : WorldView) → HasHistory w → (j n : ℕ) (x : Stamp) → j < length w.feeds → x ≡ stamped w j n → x.from < x.to → find_sent w.sent x.ingest.0 x.inc.0 x.to ≡ None
unsent w story j n x lt is some = go (find_sent w.sent x.ingest.0 x.inc.0 x.to) refl
  where
    go : (o : Option Sent) → find_sent w.sent x.ingest.0 x.inc.0 x.to ≡ o → o ≡ None
    go None e = refl
    go (Some y) e =
        let set = story.0 in
        let h = story.1 in
        let s = story.2 in
        let node = s.nodes.ingests j (node_in set w h s j lt) in
        let new : x ≡ new_stamp set h j n = is ∙ ap (λ (k : Ingest). next_stamp k.len k.id.0 k.inc.0 k.next n) node in
        let of = made-of set w h s x.ingest.0 x.inc.0 x.to y e in
        let g = good set w h s j in
        let mine : y.stamp.ingest.0 ≡ j = of.node ∙ ap (λ (k : Stamp). k.ingest.0) new in
        let last : y.stamp.inc.0 ≡ inc set h j = of.inc_is ∙ ap (λ (k : Stamp). k.inc.0) new in
        let from : x.from ≡ next set h j = ap (λ (k : Stamp). k.from) new in
        let place = lies (base set h j (inc set h j)) (made_by j (inc set h j) (sent set h)) y.stamp (g.made (inc set h j) (omega arith)) (lies_made set w h s j (inc set h j) y.stamp (omega arith) of.made mine last) in
        let to = place.to in
        let end = line-ends set h j g in
        let same = of.ends in
        absurd (omega arith)
