use Rattle.std.proofs.Common.{◌≡◌, ℕ, ◌<◌, ◌≤◌, ◌||◌, Bool, true, not, List, [], length, subst, refl, sym, ◌∙◌, ap, arith, rules}
use Rattle.std.specs.Prelude.{OnOk}
use Rattle.std.specs.Map.{keys_of}
use Rattle.std.proofs.lemmas.List.{map-id}
use Rattle.std.proofs.lemmas.Iterator.Adapters.{YieldsList-from_vec, fact_from_extend}
use Rattle.kin_ids.specs.declared.ids.User.{User}
use Rattle.kin_ids.specs.Users.{same_tag, tag_cmp}
use Rattle.kin_ids.specs.Parting.{tag_part}
use Rattle.std.specs.List.{list_any}
use Rattle.kin_store.specs.Rows.{is_none}
use Rattle.kin_store.specs.Blocks.{users_in}
use Rattle.kin_store.specs.State.{PartState, block_at, users_of, tag_slot}
use Rattle.kin_store.proofs.Orders.{tag_exact}
use Rattle.kin_store.proofs.Empties.{mod_less}
use Rattle.kin_store.proofs.Gathering.{Gathers, gathers-none, gathers-more, gathers-all, kept_there}
use Rattle.kin_store.proofs.stores.Store.tags.Goals as goal

pub loop-slot-init : goal.loop-slot-init
loop-slot-init c =
    let s : PartState = c.args.self.now in
    let p : List ℕ → Bool = λ u. not (is_none (users_of s u)) in
    let none : c.new-tags.result.keys ≡ [] = search rules in
    subst (λ (ks : List (List ℕ)). Gathers tag_cmp (tag_slot s) p 0 ks) (sym none) (gathers-none tag_exact (tag_slot s) p)

pub loop-slot-preserved : goal.loop-slot-preserved
loop-slot-preserved c =
    let s : PartState = c.args.self.now in
    let p : List ℕ → Bool = λ u. not (is_none (users_of s u)) in
    let n : ℕ = c.loop-slot.slot in
    let block : List (List ℕ) = keys_of (block_at s n).tags in
    let Q : Type 0 = (u : List ℕ) → list_any (same_tag u) c.extend.new.self.keys
    ≡ (list_any (same_tag u) c.loop-slot.tags.keys || list_any (same_tag u) c.in_ok-tags_in.field-0.items) in
    let put : OnOk c.extend.result Q =
    fact_from_extend (λ x. x) c.extend.result c.extend.ensures.ran
    (λ it b. YieldsList-from_vec {s = it} _ b.0 (b.1 ∙ c.in_ok-tags_in.field-0.ok.0))
    (λ xs e h u. h.0 u ∙ ap (λ (ks : List (List ℕ)). (list_any (same_tag u) c.loop-slot.tags.keys || list_any (same_tag u) ks))
    (sym (map-id xs) ∙ e)) in
    let all : Q = subst (λ r. OnOk r Q) c.in_ok-extend.was put in
    gathers-more tag_exact (tag_slot s) p n c.loop-slot.tags.keys block c.extend.new.self.keys c.loop-slot.invariant
    (λ u at q. kept_there tag_cmp u (block_at s n).tags [] (λ (x : List User). not (is_none x)) refl
    (subst (λ (k : ℕ). not (is_none (users_in (block_at s k) u)) ≡ true) at q))
    (λ u. all u ∙ ap (λ (ks : List (List ℕ)). (list_any (same_tag u) c.loop-slot.tags.keys || list_any (same_tag u) ks))
    c.in_ok-tags_in.ensures)

pub returns-clause-in_use : goal.returns-clause-in_use
returns-clause-in_use c = λ u.
    let s : PartState = c.args.self.now in
    let p : List ℕ → Bool = λ x. not (is_none (users_of s x)) in
    let items : c.in_ok-tags.tags.items ≡ c.loop-slot.tags.keys = search rules in
    let some : 0 < length s.blocks = subst (λ (t : PartState). 0 < length t.blocks) c.self.view_is c.self.invariant.some in
    let end : length s.blocks ≤ c.loop-slot.slot = search rules in
    let within : (x : List ℕ) → tag_slot s x < c.loop-slot.slot =
    λ x. omega (arith, mod_less (tag_part 65521 x) (length s.blocks) some, end) in
    ap (λ (ks : List (List ℕ)). list_any (same_tag u) ks) items
    ∙ gathers-all tag_exact (tag_slot s) p c.loop-slot.slot c.loop-slot.tags.keys c.loop-slot.invariant within u
