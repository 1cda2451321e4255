use Rattle.std.proofs.Common.{◌≡◌, ℕ, ◌<◌, ◌≤◌, Bool, ◌||◌, List, length, get_or, below_more, subst, sym, ◌∙◌, ap, ap₂, arith, rules}
use Rattle.std.specs.Prelude.{OnOk}
use Rattle.std.specs.List.{list_any}
use Rattle.std.proofs.lemmas.List.{get_or_default, map-id, take_all}
use Rattle.std.proofs.lemmas.List.Folds.{list_any_more}
use Rattle.std.proofs.lemmas.Iterator.Adapters.{YieldsList-from_vec, fact_from_extend}
use Rattle.kin_ids.specs.declared.ids.User.{User}
use Rattle.kin_ids.specs.Users.{has_user}
use Rattle.kin_graph.specs.State.{PartState, LivesHere, view_of, empty_part}
use Rattle.kin_graph.specs.Views.{is_vertex}
use Rattle.kin_blocks.specs.Snaps.{state_at, joined}
use Rattle.kin_blocks.proofs.Joined.{any-vertex}
use Rattle.kin_blocks.proofs.snap_views.SnapView.users.Goals as goal

pub loop-store-preserved : goal.loop-store-preserved
loop-store-preserved c =
    let stores : List PartState = c.self.inside.stores.items in
    let i : ℕ = c.loop-store.store-index in
    let below : i < length stores = omega arith in
    let item : c.store-item.result ≡ get_or stores i c.store-item.result = cc in
    let Q : Type 0 = (u : User) → has_user c.extend.new.self.keys u
    ≡ (has_user c.loop-store.users.keys u || has_user c.in_ok-users.field-0.items u) in
    let put : OnOk c.extend.result Q =
    fact_from_extend (λ x. x) c.extend.result c.extend.ensures.ran
    (λ it b. YieldsList-from_vec {s = it} _ b.0 (b.1 ∙ c.in_ok-users.field-0.ok.0))
    (λ xs e h u. h.0 u ∙ ap (λ (ys : List User). (has_user c.loop-store.users.keys u || has_user ys u)) (sym (map-id xs) ∙ e)) in
    let all : Q = subst (λ r. OnOk r Q) c.in_ok-extend.was put in
    record {
      has = λ u.
          all u ∙ (ap₂ (λ (a b : Bool). a || b) (c.loop-store.invariant.has u) (c.in_ok-users.ensures.vertices u
          ∙ ap (λ (s : PartState). is_vertex (view_of s) u) item)
          ∙ sym (list_any_more (λ s. is_vertex (view_of s) u) stores i c.store-item.result below));
      home = below_more (λ (k : ℕ). LivesHere (state_at stores k)) i c.loop-store.invariant.home
          (subst LivesHere (item ∙ get_or_default stores i c.store-item.result (empty_part 0 0) below) c.part.ensures.home);
    }

pub returns-clause-vertices : goal.returns-clause-vertices
returns-clause-vertices c =
    let stores : List PartState = c.self.inside.stores.items in
    let end : length stores ≤ c.loop-store.store-index = omega arith in
    let items : c.in_ok-users-2.users.items ≡ c.loop-store.users.keys = search rules in
    let home : (k : ℕ) → k < length stores → LivesHere (state_at stores k) = λ k h. c.loop-store.invariant.home k (omega arith) in
    let P : List PartState → Type 0 = λ ss. (u : User) → has_user c.in_ok-users-2.users.items u ≡ is_vertex (joined ss) u in
    subst P c.self.view_is
    (λ u. rw items (c.loop-store.invariant.has u
    ∙ (ap (λ (ss : List PartState). list_any (λ s. is_vertex (view_of s) u) ss) (take_all c.loop-store.store-index stores end)
    ∙ any-vertex stores c.self.invariant home u)))
