use Rattle.std.proofs.Common.{◌≡◌, ℕ, ◌<◌, ◌≤◌, Bool, ◌||◌, List, length, get_or, below_more, subst, sym, ◌∙◌, ap, ap₂, arith, rules}
use Rattle.std.specs.Prelude.{OnOk}
use Rattle.std.specs.List.{list_any}
use Rattle.std.proofs.lemmas.List.{get_or_default, map-id, take_all}
use Rattle.std.proofs.lemmas.List.Folds.{list_any_more}
use Rattle.std.proofs.lemmas.Iterator.Adapters.{YieldsList-from_vec, fact_from_extend}
use Rattle.kin_ids.specs.Users.{same_tag}
use Rattle.kin_graph.specs.State.{PartState, LivesHere, view_of, empty_part}
use Rattle.kin_graph.specs.Views.{is_in_use}
use Rattle.kin_blocks.specs.Snaps.{state_at, joined}
use Rattle.kin_blocks.proofs.Joined.{any-use}
use Rattle.kin_blocks.proofs.snap_views.SnapView.tags.Goals as goal

pub loop-store-preserved : goal.loop-store-preserved
loop-store-preserved c =
    let stores : List PartState = c.self.inside.stores.items in
    let i : ℕ = c.loop-store.store-index in
    let below : i < length stores = omega arith in
    let item : c.store-item.result ≡ get_or stores i c.store-item.result = cc in
    let Q : Type 0 = (t : List ℕ) → list_any (same_tag t) c.extend.new.self.keys
    ≡ (list_any (same_tag t) c.loop-store.tags.keys || list_any (same_tag t) c.in_ok-tags.field-0.items) in
    let put : OnOk c.extend.result Q =
    fact_from_extend (λ x. x) c.extend.result c.extend.ensures.ran
    (λ it b. YieldsList-from_vec {s = it} _ b.0 (b.1 ∙ c.in_ok-tags.field-0.ok.0))
    (λ xs e h t. h.0 t ∙ ap (λ (ys : List (List ℕ)). (list_any (same_tag t) c.loop-store.tags.keys || list_any (same_tag t) ys))
    (sym (map-id xs) ∙ e)) in
    let all : Q = subst (λ r. OnOk r Q) c.in_ok-extend.was put in
    record {
      has = λ t.
          all t ∙ (ap₂ (λ (a b : Bool). a || b) (c.loop-store.invariant.has t) (c.in_ok-tags.ensures.in_use t
          ∙ ap (λ (s : PartState). is_in_use (view_of s) t) item)
          ∙ sym (list_any_more (λ s. is_in_use (view_of s) t) stores i c.store-item.result below));
      home = below_more (λ (k : ℕ). LivesHere (state_at stores k)) i c.loop-store.invariant.home
          (subst LivesHere (item ∙ get_or_default stores i c.store-item.result (empty_part 0 0) below) c.part.ensures.home);
    }

pub returns-clause-in_use : goal.returns-clause-in_use
returns-clause-in_use c =
    let stores : List PartState = c.self.inside.stores.items in
    let end : length stores ≤ c.loop-store.store-index = omega arith in
    let items : c.in_ok-tags-2.tags.items ≡ c.loop-store.tags.keys = search rules in
    let home : (k : ℕ) → k < length stores → LivesHere (state_at stores k) = λ k h. c.loop-store.invariant.home k (omega arith) in
    let P : List PartState → Type 0 = λ ss. (t : List ℕ) → list_any (same_tag t) c.in_ok-tags-2.tags.items ≡ is_in_use (joined ss) t in
    subst P c.self.view_is
    (λ t. rw items (c.loop-store.invariant.has t
    ∙ (ap (λ (ss : List PartState). list_any (λ s. is_in_use (view_of s) t) ss) (take_all c.loop-store.store-index stores end)
    ∙ any-use stores c.self.invariant home t)))
