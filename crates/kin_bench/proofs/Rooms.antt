-- Follows change no count of mentions, so where there is room for them there is room after them.
use Rattle.std.proofs.Common.{◌≡◌, ℕ, ◌+◌, ◌<◌, ◌^◌, ◌⊎◌, inl, inr, true, List, [], ◌∷◌, ◌++◌, length, get_or, refl, sym, ◌∙◌, ap, subst, arith}
use Rattle.std.specs.List.{All}
use Rattle.std.proofs.lemmas.Bool.{cases_eq, true≢false}
use Rattle.std.proofs.lemmas.List.{append-nil, get_or-replicate, get_or-set_same, get_or-set_other, length-set, length-replicate}
use Rattle.std.proofs.lemmas.List.Elements.{All-head, All-tail}
use Rattle.kin_ids.specs.declared.ids.User.{User}
use Rattle.kin_ids.specs.declared.stamps.Place.{Place}
use Rattle.kin_ids.specs.declared.ops.Numbered.{Numbered}
use Rattle.kin_ids.specs.declared.ops.Op.{Op}
use Rattle.kin_ids.specs.declared.ops.Op.TheVariants as op
use Rattle.kin_ids.specs.declared.ops.Piece.{Piece}
use Rattle.kin_ids.specs.Operations.{op_part}
use Rattle.kin_ids.specs.Parts.{PartView, op_applied, ops_applied}
use Rattle.kin_graph.specs.State.{PartState, after, empty_part, view_of}
use Rattle.kin_store.proofs.Empties.{empty-row}
use Rattle.kin_blocks.specs.Blocks.{IsOfStore, MayTake, pieces_applied}
use Rattle.kin_blocks.specs.Versions.{VersionsView, IsVersions, CommitsNext, committed_at, first_versions, store_at}
use Rattle.kin_blocks.proofs.Empties.{state_at-empty}
use Rattle.kin_blocks.proofs.Steps.{own-store, own-parts}
use Rattle.kin_bench.specs.Follows.{HasRooms, IsFollows, IsHalf, is_half}
use Rattle.kin_bench.specs.Room.{HasRoom}

half-said : (at : Place) (v : PartView) (o : Op) → is_half o ≡ true → (op_applied at v o).said ≡ v.said
half-said at v (op.AddOut u w) e = refl
half-said at v (op.AddIn w u) e = refl
half-said at v (op.DropOut u w) e = refl
half-said at v (op.DropIn w u) e = refl
half-said at v (op.MentionOut u w) e = refl
half-said at v (op.MentionIn w u) e = refl
half-said at v (op.Said w) e = absurd (true≢false (sym e))
half-said at v (op.Use u t) e = refl
half-said at v (op.TagUse t u) e = refl

module _ (parts p : ℕ) where
  ops-said : (e i : ℕ) (v : PartView) (xs : List Numbered) → All (IsHalf parts p) xs → (ops_applied e i v xs).said ≡ v.said
  ops-said e i v [] all = refl
  ops-said e i v (x ∷ xs) all =
      let at : Place = record { epoch = record { 0 = e }; ingest = record { 0 = i }; number = x.number } in
      ops-said e i (op_applied at v x.op) xs (All-tail (IsHalf parts p) x xs all) ∙ half-said at v x.op (All-head (IsHalf parts p) x xs all).half

  pieces-said : (e : ℕ) (v : PartView) (xs : List Piece) → All (IsFollows parts p) xs → (pieces_applied e v xs).said ≡ v.said
  pieces-said e v [] all = refl
  pieces-said e v (x ∷ xs) all =
      pieces-said e (after e x v) xs (All-tail (IsFollows parts p) x xs all)
      ∙ ops-said e x.stamp.ingest.0 v x.ops (All-head (IsFollows parts p) x xs all).halves

  module _ (v : VersionsView) (rooms : HasRooms parts v) (lt : p < parts) where
    abbrev last : PartState
    last = store_at v p (committed_at v p)

    within : p < length v.committed
    within = subst (λ (n : ℕ). p < n) (sym rooms.count) lt

    part : last.part ≡ p
    part = own-store v rooms.is p within

    count : last.parts ≡ parts
    count = own-parts v rooms.is p within ∙ rooms.count

    of-store : (x : Piece) → IsFollows parts p x → IsOfStore last x
    of-store x is = record {
      part = is.part ∙ sym part;
      home = λ k o below. ap (λ (n : ℕ). op_part n (get_or x.ops k o).op) count ∙ ((is.halves k o below).home ∙ sym part);
    }

    -- pieces of follows may be committed
    pub may-take : (e : ℕ) (xs : List Piece) → All (IsFollows parts p) xs → MayTake e last (xs ++ [])
    may-take e xs all = rw (append-nil xs) record {
      of_store = λ k x below. of-store (get_or xs k x) (all k x below);
      said = λ u. subst (λ (f : User → ℕ). f u < 2 ^ 64) (sym (pieces-said e (view_of last) xs all)) (rooms.said p lt u);
    }

    -- and then there is room again
    pub rooms-then : (xs : List Piece) (new : VersionsView) → All (IsFollows parts p) xs → CommitsNext v p (xs ++ []) new → IsVersions new → HasRooms parts new
    rooms-then xs new all commits is = record {
      is = is;
      count = ap (λ (ks : List ℕ). length ks) commits.puts.committed ∙ (length-set v.committed p (committed_at v p + 1) ∙ rooms.count);
      said = λ q q_lt. said q q_lt (cases_eq q p);
    } where
      own : committed_at new p ≡ committed_at v p + 1
      own = ap (λ (ks : List ℕ). get_or ks p 0) commits.puts.committed ∙ get_or-set_same v.committed p (committed_at v p + 1) 0 within

      other : (q : ℕ) → (q ≡ p → ⊥) → committed_at new q ≡ committed_at v q
      other q ne = ap (λ (ks : List ℕ). get_or ks q 0) commits.puts.committed ∙ get_or-set_other v.committed p q (committed_at v p + 1) 0 ne

      here : (view_of (store_at new p (committed_at new p))).said ≡ (view_of last).said
      here =
          ap (λ (k : ℕ). (view_of (store_at new p k)).said) own ∙ (ap (λ (s : PartState). (view_of s).said) commits.puts.put
          ∙ (ap (λ (w : PartView). w.said) commits.applied ∙ (ap (λ (ys : List Piece). (pieces_applied (committed_at v p + 1) (view_of last) ys).said) (append-nil xs)
          ∙ pieces-said (committed_at v p + 1) (view_of last) xs all)))

      there : (q : ℕ) → q < parts → (q ≡ p → ⊥) → store_at new q (committed_at new q) ≡ store_at v q (committed_at v q)
      there q q_lt ne =
          let q_within : q < length v.committed = subst (λ (n : ℕ). q < n) (sym rooms.count) q_lt in
          ap (λ (k : ℕ). store_at new q k) (other q ne) ∙ commits.puts.stays q (committed_at v q) q_within (rooms.is.since q q_within) (omega arith)

      said : (q : ℕ) → q < parts → (q ≡ p) ⊎ (q ≡ p → ⊥) → (u : User) → (view_of (store_at new q (committed_at new q))).said u < 2 ^ 64
      said q q_lt (inl same) u = subst (λ (n : ℕ). (view_of (store_at new n (committed_at new n))).said u < 2 ^ 64) (sym same)
          (subst (λ (f : User → ℕ). f u < 2 ^ 64) (sym here) (rooms.said p lt u))
      said q q_lt (inr ne) u = subst (λ (s : PartState). (view_of s).said u < 2 ^ 64) (sym (there q q_lt ne)) (rooms.said q q_lt u)

-- nothing is mentioned at first
pub rooms-first : (parts : ℕ) → IsVersions (first_versions parts) → HasRooms parts (first_versions parts)
rooms-first parts is = record {
  is = is;
  count = length-replicate parts 0;
  said = λ p lt u. subst (λ (s : PartState). (view_of s).said u < 2 ^ 64) (sym (store p lt)) (omega (arith, none p u));
} where
  store : (p : ℕ) → p < parts → store_at (first_versions parts) p (committed_at (first_versions parts) p) ≡ empty_part p parts
  store p lt = ap (λ (k : ℕ). store_at (first_versions parts) p k) (get_or-replicate {A = ℕ} parts p 0 0 lt) ∙ state_at-empty parts p lt

  none : (p : ℕ) (u : User) → (view_of (empty_part p parts)).said u ≡ 0
  none p u = ap (λ row. row.said) (empty-row p parts u)

-- nothing is mentioned in an empty store
pub room-first : HasRoom (empty_part 0 1)
room-first = record {
  part = refl;
  parts = refl;
  said = λ u. omega (arith, ap (λ row. row.said) (empty-row 0 1 u));
}
