-- A block that is printed when its epoch is mined is the one that the whole history gives.
use Rattle.std.proofs.Common.{◌≡◌, ℕ, zero, suc, ◌+◌, ◌-◌, ◌<◌, ◌≤◌, leb, eqb, cond, Bool, true, false, List, [], ◌∷◌, length, map, refl, sym, ap, ◌∙◌, arith}
use Rattle.std.specs.List.{range_with_len}
use Rattle.std.proofs.lemmas.Bool.Decides.{nat_tests}
use Rattle.kin_ids.specs.declared.stamps.Stamp.{Stamp}
use Rattle.kin_ids.specs.declared.stamps.End.{End}
use Rattle.kin_ids.specs.declared.ops.Record.{Record}
use Rattle.kin_ids.specs.declared.options.OptionWords.{OptionWords}
use Rattle.kin_ids.specs.Lines.{IsLine, inc_at, upto}
use Rattle.kin_ids.specs.Order.{Entry, of_epoch, snapshot}
use Rattle.kin_ids.proofs.Alike.{of_epoch-alike}
use Rattle.kin_script.specs.declared.events.Event.{Event}
use Rattle.kin_history.specs.Setting.{Setting, IsHistory, after, nodes}
use Rattle.kin_history.specs.Lines.{line}
use Rattle.kin_history.specs.Vectors.{cuts, vector}
use Rattle.kin_history.specs.CutLaws.{KeepsCuts}
use Rattle.kin_history.proofs.Cuts.{keeps-later}
use Rattle.kin_history.proofs.Lasts.{history-front}
use Rattle.kin_history.proofs.Ordered.{settled}
use Rattle.kin_history.proofs.Sound.{sound}
use Rattle.kin_report.specs.Epochs.{ends_of, new_records}
use Rattle.kin_report.specs.Report.{block_after}

-- no stamp past a position ends there
inc-past : (b m : ℕ) (ss : List Stamp) → IsLine b ss → m < b → inc_at ss m ≡ 0
inc-past b m [] l lt = refl
inc-past b m (s ∷ ss) l lt =
    let above : b < s.to = l.1 in
    let differs : eqb s.to m ≡ false = grind (arith, nat_tests, above, lt) in
    rw differs (inc-past s.to m ss l.2 (omega (arith, above, lt)))

-- a stamp that ends at a position stands in every front that goes so far
pub inc-upto : (at m v : ℕ) (ss : List Stamp) → IsLine at ss → v ≤ m → inc_at (upto m ss) v ≡ inc_at ss v
inc-upto at m v [] l le = refl
inc-upto at m v (s ∷ ss) l le = by-test (leb s.to m) refl (inc-upto s.to m v ss l.2 le)
  where
    by-test : (t : Bool) → leb s.to m ≡ t → inc_at (upto m ss) v ≡ inc_at ss v → inc_at (upto m (s ∷ ss)) v ≡ inc_at (s ∷ ss) v
    by-test true e same = rw e (ap (λ (n : ℕ). cond (eqb s.to v) s.inc.0 n) same)
    by-test false e same =
        let lt : m < s.to = grind (arith, nat_tests, e) in
        let past : v < s.to = omega (arith, lt, le) in
        let differs : eqb s.to v ≡ false = grind (arith, nat_tests, past) in
        rw (e, differs) (sym (inc-past s.to v ss l.2 past))

-- the same for each of these numbers
map-same : {A : Type 0} (f g : ℕ → A) (from n : ℕ) → ((i : ℕ) → from ≤ i → i < from + n → f i ≡ g i) → map f (range_with_len from n) ≡ map g (range_with_len from n)
map-same f g from zero same = refl
map-same f g from (suc n) same = λ j. same from (omega arith) (omega arith) j ∷ map-same f g (from + 1) n (λ i lo hi. same i (omega arith) (omega arith)) j

module _ (set : Setting) (h es : List Event) (some : 0 < set.parts) (legal : IsHistory set (after h es)) (k : ℕ) (le : k ≤ cuts set h) where
  kept : (i : ℕ) → i < nodes set → KeepsCuts set h (after h es) i
  kept i lt = keeps-later set h es i some legal lt

  end-same : (i : ℕ) → i < nodes set → inc_at (line set (after h es) i) (vector set (after h es) k i) ≡ inc_at (line set h i) (vector set h k i)
  end-same i lt =
      let now = sound set (after h es) i some legal in
      let was = sound set h i some (history-front set h es legal) in
      let m = vector set h k i in
      ap (inc_at (line set (after h es) i)) ((kept i lt).kept k le)
      ∙ (sym (inc-upto 0 m m (line set (after h es) i) now.run (omega arith)) ∙ (ap (λ (ss : List Stamp). inc_at ss m) ((kept i lt).inside k le) ∙ inc-upto 0 m m (line set h i) was.run (omega arith)))

  ends-same : ends_of (line set (after h es)) (vector set (after h es) k) (nodes set) ≡ ends_of (line set h) (vector set h k) (nodes set)
  ends-same =
      map-same (λ i. record { inc = record { 0 = inc_at (line set (after h es) i) (vector set (after h es) k i) }; to = vector set (after h es) k i })
      (λ i. record { inc = record { 0 = inc_at (line set h i) (vector set h k i) }; to = vector set h k i }) 0 (nodes set)
      (λ i lo hi j. record { inc = record { 0 = end-same i (omega (arith, hi)) j }; to = (kept i (omega (arith, hi))).kept k le j })

  new-same : new_records set.feeds (vector set (after h es)) k ≡ new_records set.feeds (vector set h) k
  new-same =
      of_epoch-alike set.feeds k (vector set (after h es) (k - 1)) (vector set (after h es) k) (vector set h (k - 1)) (vector set h k) (length set.feeds)
      (λ i lt. (kept i lt).kept (k - 1) (omega arith)) (λ i lt. (kept i lt).kept k le)

  -- the block of an epoch that was cut stays as it is, whatever comes later
  pub block-stays : (options : OptionWords) → block_after set options (after h es) k ≡ block_after set options h k
  block-stays options = rw (ends-same, new-same, (settled set h es k some legal le).graph) refl
