-- Versions in which a partition has one more epoch.
use Rattle.std.proofs.Common.{◌≡◌, ℕ, ◌+◌, ◌-◌, ◌<◌, ◌≤◌, Bool, true, false, eqb, List, [], ◌∷◌, ◌++◌, length, get_or, set, refl, sym}
use Rattle.std.proofs.Common.{◌∙◌, ap, subst, ⊎_elim, inl, inr, ◌⊎◌, arith}
use Rattle.std.specs.Prelude.{Some, None, if◌then◌else◌, slice_set}
use Rattle.std.proofs.lemmas.Bool.{cases_lt, cases_eq, eqb-true, eq-eqb, true≢false}
use Rattle.std.proofs.lemmas.List.{length-append, length-replicate, length-set, get_or_append_left, get_or_at, get_or-set_same}
use Rattle.std.proofs.lemmas.List.{get_or-set_other, get_or_default}
use Rattle.kin_ids.specs.declared.ops.Piece.{Piece}
use Rattle.kin_graph.specs.State.{PartState, empty_part, view_of}
use Rattle.kin_graph.specs.Deltas.{DeltaLists, no_change, IsDelta}
use Rattle.kin_blocks.specs.Blocks.{BlocksView, fresh, pieces_applied}
use Rattle.kin_blocks.specs.Snaps.{IsSnap, state_at}
use Rattle.kin_blocks.specs.Versions.{VersionsView, VersionState, IsVersion, IsVersions, AreWritten, PutsNext, CommitsNext, IsKept}
use Rattle.kin_blocks.specs.Versions.{no_version, unchanged, spare_for, reached, placed, version_put, committed_at, version_at}
use Rattle.kin_blocks.specs.Versions.{store_at, delta_at}

-- what holds of each version and of one more holds of each then
each_pushed : (P : VersionState → Type 0) (vs : List VersionState) (w : VersionState) →
    ((j : ℕ) → j < length vs → P (get_or vs j no_version)) → P w → (j : ℕ) → j < length (vs ++ w ∷ [])
    → P (get_or (vs ++ w ∷ []) j no_version)
each_pushed P vs w each last j lt = go (cases_lt j (length vs))
  where
    go : (j < length vs) ⊎ (length vs ≤ j) → P (get_or (vs ++ w ∷ []) j no_version)
    go (inl below) = subst P (sym (get_or_append_left vs (w ∷ []) no_version j below)) (each j below)
    go (inr past) = let here : length vs ≡ j = omega (arith, length-append vs (w ∷ [])) in
        subst P (sym (get_or_at vs w [] no_version j here)) last

-- versions with one more where there is none
module _ (vs : List VersionState) (w : VersionState) where
  reached-each : (P : VersionState → Type 0) (b : Bool) → ((j : ℕ) → j < length vs → P (get_or vs j no_version)) → P w →
      (j : ℕ) → j < length (reached vs (if b then Some w else None)) → P (get_or (reached vs (if b then Some w else None)) j no_version)
  reached-each P true each last j lt = each_pushed P vs w each last j lt
  reached-each P false each last j lt = each j lt

  reached-stays : (b : Bool) (j : ℕ) → j < length vs → get_or (reached vs (if b then Some w else None)) j no_version
      ≡ get_or vs j no_version
  reached-stays true j lt = get_or_append_left vs (w ∷ []) no_version j lt
  reached-stays false j lt = refl

  reached-more : (b : Bool) → length vs ≤ length (reached vs (if b then Some w else None))
  reached-more true = omega (arith, length-append vs (w ∷ []))
  reached-more false = omega arith

  reached-there : (at : ℕ) (b : Bool) → eqb at (length vs) ≡ b → at ≤ length vs → at < length (reached vs (if b then Some w else None))
  reached-there at true e le = omega (arith, length-append vs (w ∷ []), eqb-true at (length vs) e)
  reached-there at false e le = go (cases_lt at (length vs))
    where
      go : (at < length vs) ⊎ (length vs ≤ at) → at < length vs
      go (inl below) = below
      go (inr past) = let here : at ≡ length vs = omega arith in absurd (true≢false (sym (eq-eqb at (length vs) here) ∙ e))

-- stores with another one in the place of a partition's
snap-set : (stores : List PartState) (p : ℕ) (s : PartState) → IsSnap stores → p < length stores → s.part ≡ p → s.parts ≡ length stores
    → IsSnap (set stores p s)
snap-set stores p s snap lt part parts = record {
  some = omega (arith, snap.some, length-set stores p s);
  few = omega (arith, snap.few, length-set stores p s);
  part = λ q q_lt. (own q (omega (arith, length-set stores p s)) (cases_eq q p)).0;
  parts = λ q q_lt. (own q (omega (arith, length-set stores p s)) (cases_eq q p)).1 ∙ sym (length-set stores p s);
} where
  own : (q : ℕ) → q < length stores → (q ≡ p) ⊎ (q ≡ p → ⊥) → ((state_at (set stores p s) q).part ≡ q)
      × ((state_at (set stores p s) q).parts ≡ length stores)
  own q q_lt (inl is) =
      let here = ap (λ (n : ℕ). state_at (set stores p s) n) is ∙ get_or-set_same stores p s (empty_part 0 0) lt in
      (ap (λ (t : PartState). t.part) here ∙ (part ∙ sym is), ap (λ (t : PartState). t.parts) here ∙ parts)
  own q q_lt (inr ne) =
      let here = get_or-set_other stores p q s (empty_part 0 0) ne in
      (ap (λ (t : PartState). t.part) here ∙ snap.part q q_lt, ap (λ (t : PartState). t.parts) here ∙ snap.parts q q_lt)

unchanged-is : (n : ℕ) (w : VersionState) → IsVersion n w → IsVersion n (unchanged w.stores)
unchanged-is n w is = record { snap = is.snap; stores = is.stores; deltas = length-replicate (length w.stores) no_change ∙ is.stores }

module _ (v : VersionsView) (ok : IsVersions v) (p : ℕ) (lt : p < length v.committed) where
  abbrev pub place : ℕ
  place = committed_at v p + 1 - v.first

  abbrev pub all : List VersionState
  all = reached v.epochs (spare_for v.epochs place)

  abbrev last : VersionState
  last = get_or v.epochs (place - 1) no_version

  within : place ≤ length v.epochs
  within = omega (arith, ok.there p lt, ok.since p lt)

  pub place-there : place < length all
  place-there = reached-there v.epochs (unchanged last.stores) place (eqb place (length v.epochs)) refl within

  all-is : (j : ℕ) → j < length all → IsVersion (length v.committed) (get_or all j no_version)
  all-is = reached-each v.epochs (unchanged last.stores) (IsVersion (length v.committed)) (eqb place (length v.epochs)) ok.each
      (unchanged-is (length v.committed) last (ok.each (place - 1) (omega (arith, ok.there p lt, ok.since p lt))))

  pub place-is : IsVersion (length v.committed) (get_or all place no_version)
  place-is = all-is place place-there

  -- the store that a partition has committed last is its own
  pub own-store : (store_at v p (committed_at v p)).part ≡ p
  own-store = let is = ok.each (committed_at v p - v.first) (omega (arith, ok.there p lt, ok.since p lt)) in
      is.snap.part p (omega (arith, is.stores))

  pub own-parts : (store_at v p (committed_at v p)).parts ≡ length v.committed
  own-parts = let is = ok.each (committed_at v p - v.first) (omega (arith, ok.there p lt, ok.since p lt)) in
      is.snap.parts p (omega (arith, is.stores)) ∙ is.stores

  module _ (s : PartState) (d : DeltaLists) (part : s.part ≡ p) (parts : s.parts ≡ length v.committed) where
    abbrev pub stepped : VersionsView
    stepped = record { first = v.first; committed = slice_set v.committed p (committed_at v p + 1); epochs = placed all place p s d }

    put-is : IsVersion (length v.committed) (version_put (get_or all place no_version) p s d)
    put-is = record {
      snap = snap-set (get_or all place no_version).stores p s place-is.snap (omega (arith, place-is.stores)) part
          (parts ∙ sym place-is.stores);
      stores = length-set (get_or all place no_version).stores p s ∙ place-is.stores;
      deltas = length-set (get_or all place no_version).deltas p d ∙ place-is.deltas;
    }

    here : get_or (placed all place p s d) place no_version ≡ version_put (get_or all place no_version) p s d
    here = get_or-set_same all place (version_put (get_or all place no_version) p s d) no_version place-there

    elsewhere : (j : ℕ) → (j ≡ place → ⊥) → get_or (placed all place p s d) j no_version ≡ get_or all j no_version
    elsewhere j ne = get_or-set_other all place j (version_put (get_or all place no_version) p s d) no_version ne

    stays-at : (j : ℕ) → j < length v.epochs → get_or all j no_version ≡ get_or v.epochs j no_version
    stays-at j below = reached-stays v.epochs (unchanged last.stores) (eqb place (length v.epochs)) j below

    -- a partition's store and delta of an epoch that it has committed
    stays : (q k : ℕ) → q < length v.committed → v.first ≤ k → k ≤ committed_at v q →
        (store_at stepped q k ≡ store_at v q k) × (delta_at stepped q k ≡ delta_at v q k)
    stays q k q_lt from to = go (cases_eq (k - v.first) place)
      where
        below : k - v.first < length v.epochs
        below = omega (arith, ok.there q q_lt)

        other : (k - v.first ≡ place) → q ≡ p → ⊥
        other at is = let same : committed_at v q ≡ committed_at v p = ap (λ (n : ℕ). committed_at v n) is in omega (arith, ok.since p lt)

        go : (k - v.first ≡ place) ⊎ (k - v.first ≡ place → ⊥) → (store_at stepped q k ≡ store_at v q k)
            × (delta_at stepped q k ≡ delta_at v q k)
        go (inr ne) = let same = elsewhere (k - v.first) ne ∙ stays-at (k - v.first) below in
            (ap (λ (w : VersionState). state_at w.stores q) same, ap (λ (w : VersionState). get_or w.deltas q no_change) same)
        go (inl at) =
            let there = ap (λ (j : ℕ). get_or (placed all place p s d) j no_version) at ∙ here in
            let was = sym (ap (λ (j : ℕ). get_or all j no_version) at) ∙ stays-at (k - v.first) below in (
              ap (λ (w : VersionState). state_at w.stores q) there
                  ∙ (get_or-set_other (get_or all place no_version).stores p q s (empty_part 0 0) (other at)
                  ∙ ap (λ (w : VersionState). state_at w.stores q) was),
              ap (λ (w : VersionState). get_or w.deltas q no_change) there
                  ∙ (get_or-set_other (get_or all place no_version).deltas p q d no_change (other at)
                  ∙ ap (λ (w : VersionState). get_or w.deltas q no_change) was),
            )

    kept : (k : ℕ) → IsKept v k → version_at stepped k ≡ version_at v k
    kept k is =
        let to = is.whole p lt in
        elsewhere (k - v.first) (λ e. omega (arith, is.since, ok.since p lt))
        ∙ stays-at (k - v.first) (omega (arith, is.since, ok.there p lt))

    pub puts-next : PutsNext v p s d stepped
    puts-next = record {
      first = refl;
      committed = refl;
      put = ap (λ (w : VersionState). state_at w.stores p) here ∙ get_or-set_same (get_or all place no_version).stores p s (empty_part 0 0)
          (omega (arith, place-is.stores));
      told = ap (λ (w : VersionState). get_or w.deltas p no_change) here
          ∙ get_or-set_same (get_or all place no_version).deltas p d no_change (omega (arith, place-is.deltas));
      stays = λ q k q_lt from to. (stays q k q_lt from to).0;
      told_stays = λ q k q_lt from to. (stays q k q_lt from to).1;
      kept = kept;
    }

    count : length (slice_set v.committed p (committed_at v p + 1)) ≡ length v.committed
    count = length-set v.committed p (committed_at v p + 1)

    longer : length v.epochs ≤ length (placed all place p s d)
    longer = omega (
      arith,
      length-set all place (version_put (get_or all place no_version) p s d),
      reached-more v.epochs
          (unchanged last.stores) (eqb place (length v.epochs)),
    )

    next-each : (j : ℕ) → j < length (placed all place p s d)
        → IsVersion (length v.committed) (get_or (placed all place p s d) j no_version)
    next-each j below = go (cases_eq j place)
      where
        go : (j ≡ place) ⊎ (j ≡ place → ⊥) → IsVersion (length v.committed) (get_or (placed all place p s d) j no_version)
        go (inl at) = subst (IsVersion (length v.committed)) (sym (ap (λ (i : ℕ). get_or (placed all place p s d) i no_version) at ∙ here))
            put-is
        go (inr ne) = subst (IsVersion (length v.committed)) (sym (elsewhere j ne))
            (all-is j (omega (arith, length-set all place (version_put (get_or all place no_version) p s d))))

    committed-own : committed_at stepped p ≡ committed_at v p + 1
    committed-own = get_or-set_same v.committed p (committed_at v p + 1) 0 lt

    committed-other : (q : ℕ) → (q ≡ p → ⊥) → committed_at stepped q ≡ committed_at v q
    committed-other q ne = get_or-set_other v.committed p q (committed_at v p + 1) 0 ne

    next-bounds : (q : ℕ) → q < length v.committed → (v.first ≤ committed_at stepped q)
        × (committed_at stepped q < v.first + length (placed all place p s d))
    next-bounds q q_lt = go (cases_eq q p)
      where
        go : (q ≡ p) ⊎ (q ≡ p → ⊥) → (v.first ≤ committed_at stepped q)
            × (committed_at stepped q < v.first + length (placed all place p s d))
        go (inl is) =
            let own : committed_at stepped q ≡ committed_at v p + 1 = ap (λ (n : ℕ). committed_at stepped n) is ∙ committed-own in
            let long = length-set all place (version_put (get_or all place no_version) p s d) in
            let there = place-there in
            let since = ok.since p lt in (omega arith, omega arith)
        go (inr ne) =
            let own = committed-other q ne in
            let since = ok.since q q_lt in
            let there = ok.there q q_lt in
            let long = longer in (omega arith, omega arith)

    pub next-versions : IsVersions stepped
    next-versions = record {
      some = omega (arith, count, ok.some);
      few = omega (arith, count, ok.few);
      each = λ j below. subst (λ (n : ℕ). IsVersion n (get_or (placed all place p s d) j no_version)) (sym count) (next-each j below);
      since = λ q q_lt. (next-bounds q (omega (arith, count))).0;
      there = λ q q_lt. (next-bounds q (omega (arith, count))).1;
    }

    pub next-written : (writers : List BlocksView) → AreWritten v writers → AreWritten stepped (set writers p (fresh s))
    next-written writers written = record {
      count = length-set writers p (fresh s) ∙ (written.count ∙ sym count);
      each = λ q b q_lt. go q b (omega (arith, count)) (cases_eq q p);
    } where
      go : (q : ℕ) (b : BlocksView) → q < length v.committed → (q ≡ p) ⊎ (q ≡ p → ⊥) → get_or (set writers p (fresh s)) q b
          ≡ fresh (store_at stepped q (committed_at stepped q))
      go q b q_lt (inl is) =
          subst (λ (n : ℕ). get_or (set writers p (fresh s)) n b ≡ fresh (store_at stepped n (committed_at stepped n))) (sym is)
          (get_or-set_same writers p (fresh s) b (omega (arith, written.count))
          ∙ ap fresh (sym (ap (λ (k : ℕ). store_at stepped p k) committed-own ∙ puts-next.put)))
      go q b q_lt (inr ne) =
          get_or-set_other writers p q (fresh s) b ne ∙ (written.each q b q_lt
          ∙ ap fresh (sym (ap (λ (k : ℕ). store_at stepped q k) (committed-other q ne)
          ∙ (stays q (committed_at v q) q_lt (ok.since q q_lt) (omega arith)).0)))

-- What a commit makes of versions, from what its steps make: the place of the next epoch, one more version where there is none, and
-- the partition's store and delta there.
module _ (v : VersionsView) (ok : IsVersions v) (p : ℕ) (lt : p < length v.committed) (pieces : List Piece) (s : PartState)
    (d : DeltaLists) where
  abbrev was : PartState
  was = store_at v p (committed_at v p)

  abbrev after : ℕ → List VersionState → VersionsView
  after n epochs = record { first = v.first; committed = set v.committed p (n + 1); epochs = epochs }

  pub commits-next : (n : ℕ) (epochs : List VersionState) → n ≡ committed_at v p → epochs ≡ placed (all v ok p lt) (place v ok p lt) p s d →
      s.part ≡ was.part → s.parts ≡ was.parts → view_of s ≡ pieces_applied (n + 1) (view_of was) pieces
      → IsDelta (view_of was) (view_of s) d →
      (IsVersions (after n epochs) × ((writers : List BlocksView) → AreWritten v writers
      → AreWritten (after n epochs) (set writers p (fresh s)))) × CommitsNext v p pieces (after n epochs)
  commits-next n epochs next put part parts applied exact =
      rw (next, put) (
        (next-versions v ok p lt s d own count, next-written v ok p lt s d own count),
        record {
          store = s;
          delta = d;
          puts = puts-next v ok p lt s d own count;
          applied = applied ∙ ap (λ (k : ℕ). pieces_applied (k + 1) (view_of was) pieces) next;
          exact = exact;
        },
      )
    where
      own : s.part ≡ p
      own = part ∙ own-store v ok p lt

      count : s.parts ≡ length v.committed
      count = parts ∙ own-parts v ok p lt
