-- A store that is written on.
use Rattle.std.proofs.Common.{◌≡◌, ℕ, ◌+◌, ◌<◌, ◌^◌, List, [], ◌∷◌, ◌++◌, refl, sym, ◌∙◌, ap, subst, arith, length, get_or, take, drop}
use Rattle.std.proofs.Common.{Result, Ok, Err}
use Rattle.std.specs.List.{All}
use Rattle.std.specs.Result.{OnOk, OnErr}
use Rattle.std.proofs.lemmas.List.{take_more, take-append-drop, append_assoc, append-nil, get_or_append_left, length-append}
use Rattle.std.proofs.lemmas.List.Elements.{All-tail}
use Rattle.kin_ids.specs.declared.ids.User.{User}
use Rattle.kin_ids.specs.declared.ops.Numbered.{Numbered}
use Rattle.kin_ids.specs.declared.ops.Piece.{Piece}
use Rattle.kin_ids.specs.Operations.{op_part}
use Rattle.kin_ids.specs.Parts.{PartView}
use Rattle.kin_graph.specs.Changes.{kept, Precedes}
use Rattle.kin_graph.specs.State.{PartState, after, view_of}
use Rattle.kin_graph.specs.Touches.{TouchedLists, KeepsNotes, HasNoted, LeavesOthers}
use Rattle.kin_graph.proofs.Touching.{touched-kept, touched-more}
use Rattle.kin_store.proofs.Preceding.{precedes-refl, precedes-trans}
use Rattle.kin_blocks.specs.Blocks.{BlocksView, fresh, GoesOn, IsWriter, IsOfStore, MayTake, pieces_applied, pieces_of}
use Rattle.kin_blocks.proofs.Applying.{said-pieces, said-front, pieces-append, pieces-step}

pub goes-none : (s : PartState) → GoesOn s s
goes-none s = record { part = refl; parts = refl; stays = precedes-refl (kept s) }

pub goes-more : (a b c : PartState) → GoesOn a b → GoesOn b c → GoesOn a c
goes-more a b c x y = record {
  part = y.part ∙ x.part;
  parts = y.parts ∙ x.parts;
  stays = precedes-trans (kept a) (kept b) (kept c) x.stays y.stays;
}

-- a store that was frozen just now, whatever is noted
pub writer-fresh : (s : PartState) (x : TouchedLists) → IsWriter (fresh s) x
writer-fresh s x = record {
  goes = goes-none s;
  only = record {
    out = λ p e. refl;
    inn = λ p e. refl;
    mentions = λ p e. refl;
    mentioners = λ p e. refl;
    said = λ u e. refl;
    uses = λ p e. refl;
    tag_users = λ p e. refl;
  };
}

-- more may be noted than was touched
pub writer-noted : (v : BlocksView) (old new : TouchedLists) → IsWriter v old → KeepsNotes old new → IsWriter v new
writer-noted v old new w keeps = record { goes = w.goes; only = touched-kept old new (view_of v.frozen) (view_of v.latest) w.only keeps }

-- operations that are noted are done, or some of them
pub writer-on : (v : BlocksView) (s : PartState) (old new : TouchedLists) (ops : List Numbered) → IsWriter v old → KeepsNotes old new
    → HasNoted ops new →
    (s.part ≡ v.latest.part) × (s.parts ≡ v.latest.parts) → Precedes (kept v.latest) (kept s)
    → LeavesOthers ops (view_of v.latest) (view_of s) → IsWriter (record { latest = s; frozen = v.frozen }) new
writer-on v s old new ops w keeps noted same stays others = record {
  goes = goes-more v.frozen v.latest s w.goes (record { part = same.0; parts = same.1; stays = stays });
  only = touched-more old new ops (view_of v.frozen) (view_of v.latest) (view_of s) w.only others keeps noted;
}

-- operations that are noted are done, or none of them
pub writer-tried : {A E : Type 0} (r : Result A E) (v : BlocksView) (s : PartState) (old new : TouchedLists) (ops : List Numbered)
    → IsWriter v old → KeepsNotes old new → HasNoted ops new →
    (s.part ≡ v.latest.part) × (s.parts ≡ v.latest.parts) → OnOk r (Precedes (kept v.latest) (kept s))
    → OnOk r (LeavesOthers ops (view_of v.latest) (view_of s)) → OnErr r (s ≡ v.latest)
    → IsWriter (record { latest = s; frozen = v.frozen }) new
writer-tried (Ok x) v s old new ops w keeps noted same stays others err = writer-on v s old new ops w keeps noted same stays others
writer-tried (Err x) v s old new ops w keeps noted same stays others err =
    subst (λ (t : PartState). IsWriter (record { latest = t; frozen = v.frozen }) new) (sym err) (writer-noted v old new w keeps)

-- a piece of a store is one of the same store later on
pub of-later : (s t : PartState) (x : Piece) → GoesOn s t → IsOfStore s x → IsOfStore t x
of-later s t x goes of = record {
  part = of.part ∙ sym goes.part;
  home = subst (λ (n : ℕ). All (λ (o : Numbered). op_part n o.op ≡ t.part) x.ops) (sym goes.parts)
      (subst (λ (p : ℕ). All (λ (o : Numbered). op_part s.parts o.op ≡ p) x.ops) (sym goes.part) of.home);
}

-- after the first pieces the store may take the next one
module _ (e : ℕ) (s t : PartState) (xs : List Piece) (k : ℕ) (x : Piece) where
  pub next-of : k < length xs → x ≡ get_or xs k x → MayTake e s xs → GoesOn s t → IsOfStore t x
  next-of lt is may goes = of-later s t x goes (subst (IsOfStore s) (sym is) (may.of_store k x lt))

  pub next-said : k < length xs → x ≡ get_or xs k x → MayTake e s xs → view_of t ≡ pieces_applied e (view_of s) (take k xs) → (u : User)
      → (after e x (view_of t)).said u < 2 ^ 64
  next-said lt is may applied u =
      let less = said-front e (view_of s) xs (k + 1) u in
      let few = may.said u in
      let same = ap (λ (v : PartView). v.said u) (ap (after e x) applied ∙ sym (pieces-step e (view_of s) xs k x lt is)) in
      omega arith

  pub next-step : k < length xs → x ≡ get_or xs k x → view_of t ≡ pieces_applied e (view_of s) (take k xs)
      → after e x (view_of t) ≡ pieces_applied e (view_of s) (take (k + 1) xs)
  next-step lt is applied = ap (after e x) applied ∙ sym (pieces-step e (view_of s) xs k x lt is)

-- the pieces of runs, of which some come first
pub pieces_of-append : (rs bs : List (List Piece)) → pieces_of (rs ++ bs) ≡ pieces_of rs ++ pieces_of bs
pieces_of-append [] bs = refl
pieces_of-append (xs ∷ rs) bs = ap (λ (ys : List Piece). xs ++ ys) (pieces_of-append rs bs)
    ∙ sym (append_assoc xs (pieces_of rs) (pieces_of bs))

pub pieces_of-push : (rs : List (List Piece)) (xs : List Piece) → pieces_of (rs ++ xs ∷ []) ≡ pieces_of rs ++ xs
pieces_of-push rs xs = pieces_of-append rs (xs ∷ []) ∙ ap (λ (ys : List Piece). pieces_of rs ++ ys) (append-nil xs)

-- what holds of all of three lists holds of the middle one
All-middle : (P : Piece → Type 0) (ws xs ys : List Piece) → All P ((ws ++ xs) ++ ys) → All P xs
All-middle P [] xs ys all = λ j d lt. subst P (get_or_append_left xs ys d j lt) (all j d (omega (arith, length-append xs ys)))
All-middle P (w ∷ ws) xs ys all = All-middle P ws xs ys (All-tail P w ((ws ++ xs) ++ ys) all)

module _ (e : ℕ) (s t : PartState) (runs : List (List Piece)) (k : ℕ) (xs : List Piece) (lt : k < length runs)
    (is : xs ≡ get_or runs k xs) where
  -- the runs are the first ones, this one, and the rest
  parted : pieces_of runs ≡ (pieces_of (take k runs) ++ xs) ++ pieces_of (drop (k + 1) runs)
  parted =
      ap pieces_of (sym (take-append-drop (k + 1) runs)) ∙ (pieces_of-append (take (k + 1) runs) (drop (k + 1) runs)
      ∙ ap (λ (ys : List Piece). ys ++ pieces_of (drop (k + 1) runs)) front) where
        front : pieces_of (take (k + 1) runs) ≡ pieces_of (take k runs) ++ xs
        front = ap pieces_of (take_more runs k xs lt) ∙ (pieces_of-push (take k runs) (get_or runs k xs)
            ∙ ap (λ (ys : List Piece). pieces_of (take k runs) ++ ys) (sym is))

  -- after the first runs the store may take the next one
  pub next-run : MayTake e s (pieces_of runs) → GoesOn s t → view_of t ≡ pieces_applied e (view_of s) (pieces_of (take k runs))
      → MayTake e t xs
  next-run may goes applied = record {
    of_store = λ j x below. of-later s t (get_or xs j x) goes (each j x below);
    said = λ u. omega (arith, said-pieces e (pieces_applied e (view_of t) xs) (pieces_of (drop (k + 1) runs)) u, may.said u, whole u);
  } where
    each : (j : ℕ) (x : Piece) → j < length xs → IsOfStore s (get_or xs j x)
    each j x below = All-middle (IsOfStore s) (pieces_of (take k runs)) xs (pieces_of (drop (k + 1) runs))
        (subst (All (IsOfStore s)) parted may.of_store) j x below

    whole : (u : User) → (pieces_applied e (pieces_applied e (view_of t) xs) (pieces_of (drop (k + 1) runs))).said u
        ≡ (pieces_applied e (view_of s) (pieces_of runs)).said u
    whole u = ap (λ (v : PartView). v.said u)
        (ap (λ (v : PartView). pieces_applied e (pieces_applied e v xs) (pieces_of (drop (k + 1) runs))) applied
        ∙ (ap (λ (v : PartView). pieces_applied e v (pieces_of (drop (k + 1) runs)))
        (sym (pieces-append e (view_of s) (pieces_of (take k runs)) xs))
        ∙ (sym (pieces-append e (view_of s) (pieces_of (take k runs) ++ xs) (pieces_of (drop (k + 1) runs)))
        ∙ ap (pieces_applied e (view_of s)) (sym parted))))

  pub run-step : view_of t ≡ pieces_applied e (view_of s) (pieces_of (take k runs)) → pieces_applied e (view_of t) xs ≡ pieces_applied e
      (view_of s) (pieces_of (take (k + 1) runs))
  run-step applied = ap (λ (v : PartView). pieces_applied e v xs) applied ∙ (sym (pieces-append e (view_of s) (pieces_of (take k runs)) xs)
      ∙ ap (pieces_applied e (view_of s)) (sym (pieces_of-push (take k runs) xs)
      ∙ ap pieces_of (ap (λ (ys : List Piece). take k runs ++ ys ∷ []) is ∙ sym (take_more runs k xs lt))))
