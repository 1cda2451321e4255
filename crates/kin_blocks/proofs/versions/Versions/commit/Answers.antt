use Rattle.std.proofs.Common.{rules, ◌≡◌, ℕ, Option, List, ◌+◌, ◌-◌, ◌<◌, ◌∙◌, length, get_or, set, subst, sym, ap, ap₂, arith}
use Rattle.kin_ids.specs.declared.ops.Piece.{Piece}
use Rattle.kin_graph.specs.State.{PartState, view_of}
use Rattle.kin_graph.specs.Deltas.{IsDelta}
use Rattle.kin_blocks.specs.Blocks.{BlocksView, fresh, pieces_applied, pieces_of}
use Rattle.kin_blocks.specs.Versions.{VersionsView, VersionState, IsVersions, AreWritten, CommitsNext, reached, spare_for, placed}
use Rattle.kin_blocks.specs.Versions.{committed_at, store_at, no_version}
use Rattle.kin_blocks.proofs.Steps.{place-there, place-is, own-store, own-parts, commits-next, place, all}
use Rattle.kin_blocks.proofs.versions.Versions.commit.Goals as goal

abbrev was : goal.After-place-arg-1 → VersionsView
was c = record { first = c.self.inside.first; committed = c.self.inside.committed.items; epochs = c.self.inside.epochs.items }

known : (c : goal.After-place-arg-1) → IsVersions (was c)
known c = c.self.invariant.0

inside : (c : goal.After-place-arg-1) → c.args.p.0 < length (was c).committed
inside c = subst (λ (w : VersionsView). c.args.p.0 < length w.committed) (sym c.self.view_is) c.requires.part

next : (c : goal.After-place-arg-1) → c.committed-next.result ≡ committed_at (was c) c.args.p.0
next c = c.committed-next.ensures ∙ ap (λ (w : VersionsView). committed_at w c.args.p.0) (sym c.self.view_is)

-- the versions with one more where there was none
reaches : (c : goal.After-place-arg-1) → reached c.spare_for.new.epochs.items c.in_ok-spare.spare ≡ reached (was c).epochs
    (spare_for (was c).epochs (committed_at (was c) c.args.p.0 + 1 - (was c).first))
reaches c = ap₂ (λ (vs : List VersionState) s. reached vs s) c.spare_for.ensures.items (c.in_ok-spare.ensures.spare
    ∙ ap (λ (k : ℕ). spare_for (was c).epochs (k + 1 - (was c).first)) (next c))

-- where a partition's next version goes
placing : (c : goal.After-place-arg-1) → c.committed-next.result + 1 - c.self.inside.first ≡ committed_at (was c) c.args.p.0 + 1 -
    (was c).first
placing c = ap (λ (k : ℕ). k + 1 - (was c).first) (next c)

version : (c : goal.After-place-arg-1) → get_or (reached c.spare_for.new.epochs.items c.in_ok-spare.spare)
    (c.committed-next.result + 1 - c.self.inside.first) no_version
    ≡ get_or (reached (was c).epochs (spare_for (was c).epochs (committed_at (was c) c.args.p.0 + 1 - (was c).first)))
    (committed_at (was c) c.args.p.0 + 1 - (was c).first) no_version
version c = ap₂ (λ (vs : List VersionState) (k : ℕ). get_or vs k no_version) (reaches c) (placing c)

-- the writer had what was committed last
writer : (c : goal.After-place-arg-1) → c.index_mut.result.now ≡ fresh (store_at (was c) c.args.p.0 (committed_at (was c) c.args.p.0))
writer c = c.index_mut.ensures.value ∙ (ap (λ (k : ℕ). get_or c.self.inside.writers.items k c.index_mut.result.now) c.from.ensures
    ∙ c.self.invariant.1.each c.args.p.0 c.index_mut.result.now (inside c))

latest : (c : goal.After-place-arg-1) → c.index_mut.result.now.latest ≡ store_at (was c) c.args.p.0 (committed_at (was c) c.args.p.0)
latest c = ap (λ (b : BlocksView). b.latest) (writer c)

home : (c : goal.After-place-arg-1) → c.in_ok-frozen.frozen.snap.part ≡ c.args.p.0
home c = c.in_ok-frozen.ensures.same.0 ∙ (ap (λ (s : PartState). s.part) (latest c) ∙ own-store (was c) (known c) c.args.p.0 (inside c))

parts : (c : goal.After-place-arg-1) → c.in_ok-frozen.frozen.snap.parts ≡ length (was c).committed
parts c = c.in_ok-frozen.ensures.same.1 ∙ (ap (λ (s : PartState). s.parts) (latest c) ∙ own-parts (was c) (known c) c.args.p.0 (inside c))

pub place-requires-clause-there : goal.place-requires-clause-there
place-requires-clause-there c = rw (reaches c, placing c) (place-there (was c) (known c) c.args.p.0 (inside c))

pub place-requires-clause-part : goal.place-requires-clause-part
place-requires-clause-part c =
    let is = place-is (was c) (known c) c.args.p.0 (inside c) in
    rw (version c) (subst (λ (n : ℕ). c.args.p.0 < n) (sym is.stores) (inside c))

pub place-requires-clause-home : goal.place-requires-clause-home
place-requires-clause-home c =
    let is = place-is (was c) (known c) c.args.p.0 (inside c) in
    (home c, parts c ∙ sym (ap (λ (w : VersionState). length w.stores) (version c) ∙ is.stores))

-- what stands after the commit
done : (c : goal.After-self-2-1) → let v : VersionsView = record {
  first = c.self.inside.first;
  committed = c.self.inside.committed.items;
  epochs = c.self.inside.epochs.items;
} in
    let after : VersionsView = record {
      first = v.first;
      committed = set v.committed c.args.p.0 (c.committed-next.result + 1);
      epochs = c.place.new.epochs.items;
    } in
    (IsVersions after × ((writers : List BlocksView) → AreWritten v writers
    → AreWritten after (set writers c.args.p.0 (fresh c.in_ok-frozen.frozen.snap))))
    × CommitsNext v c.args.p.0 (pieces_of c.args.runs.now) after
done c =
    let v : VersionsView = record {
      first = c.self.inside.first;
      committed = c.self.inside.committed.items;
      epochs = c.self.inside.epochs.items;
    } in
    let p : ℕ = c.args.p.0 in
    let lt : p < length v.committed = subst (λ (w : VersionsView). p < length w.committed) (sym c.self.view_is) c.requires.part in
    let next : c.committed-next.result ≡ committed_at v p = c.committed-next.ensures ∙ ap (λ (w : VersionsView). committed_at w p)
    (sym c.self.view_is) in
    let writer : c.index_mut.result.now ≡ fresh (store_at v p (committed_at v p)) =
    c.index_mut.ensures.value ∙ (ap (λ (k : ℕ). get_or c.self.inside.writers.items k c.index_mut.result.now) c.from.ensures
    ∙ c.self.invariant.1.each p c.index_mut.result.now lt) in
    let frozen = c.in_ok-frozen.ensures in
    let epochs : c.place.new.epochs.items ≡ placed (all v c.self.invariant.0 p lt)
    (place v c.self.invariant.0 p lt) p c.in_ok-frozen.frozen.snap c.in_ok-frozen.frozen.delta =
    c.place.ensures ∙ (ap₂ (λ (vs : List VersionState) (s : Option VersionState). placed (reached vs s)
    (c.committed-next.result + 1 - v.first) p c.in_ok-frozen.frozen.snap c.in_ok-frozen.frozen.delta) c.spare_for.ensures.items
    c.in_ok-spare.ensures.spare
    ∙ ap (λ (k : ℕ). placed (reached v.epochs (spare_for v.epochs (k + 1 - v.first))) (k + 1 - v.first) p c.in_ok-frozen.frozen.snap
    c.in_ok-frozen.frozen.delta) next) in
    commits-next v c.self.invariant.0 p lt (pieces_of c.args.runs.now) c.in_ok-frozen.frozen.snap c.in_ok-frozen.frozen.delta
    c.committed-next.result c.place.new.epochs.items next epochs
    (frozen.same.0 ∙ ap (λ (b : BlocksView). b.latest.part) writer) (frozen.same.1 ∙ ap (λ (b : BlocksView). b.latest.parts) writer)
    (frozen.applied ∙ ap (λ (b : BlocksView). pieces_applied (c.committed-next.result + 1) (view_of b.latest) (pieces_of c.args.runs.now))
    writer)
    (subst (λ (b : BlocksView). IsDelta (view_of b.frozen) (view_of c.in_ok-frozen.frozen.snap) c.in_ok-frozen.frozen.delta) writer
    frozen.exact)

pub invariant_of-self-2 : goal.invariant_of-self-2
invariant_of-self-2 c = rw (c.from-2.ensures, c.from.ensures, c.in_ok-frozen.ensures.ok)
    ((done c).0.0, (done c).0.1 c.self.inside.writers.items c.self.invariant.1)

pub returns-clause-ok : goal.returns-clause-ok
returns-clause-ok c =
    let v : VersionsView = record {
      first = c.self.inside.first;
      committed = c.self.inside.committed.items;
      epochs = c.self.inside.epochs.items;
    } in
    let after : ℕ → VersionsView = λ n. record {
      first = v.first;
      committed = set v.committed n (c.committed-next.result + 1);
      epochs = c.place.new.epochs.items;
    } in
    subst (λ (n : ℕ). CommitsNext c.args.self.now c.args.p.0 (pieces_of c.args.runs.now) (after n)) (sym c.from-2.ensures)
    (subst (λ (w : VersionsView). CommitsNext w c.args.p.0 (pieces_of c.args.runs.now) (after c.args.p.0)) c.self.view_is (done c).1)

pub returns-clause-versions : goal.returns-clause-versions
returns-clause-versions c = (invariant_of-self-2 c).0
