use Rattle.std.proofs.Common.{◌≡◌, ℕ, ◌<◌, ◌≤◌, ◌/◌, ◌||◌, Bool, true, not, List, [], length, subst, refl, sym, ◌∙◌, ap, arith, rules}
use Rattle.std.specs.Prelude.{OnOk}
use Rattle.std.specs.Map.{keys_of}
use Rattle.std.proofs.lemmas.List.{map-id}
use Rattle.std.proofs.lemmas.Iterator.Adapters.{YieldsList-from_vec, fact_from_extend}
use Rattle.kin_ids.specs.declared.ids.User.{User}
use Rattle.kin_ids.specs.Users.{has_user, user_cmp}
use Rattle.kin_store.specs.Rows.{UserRow, no_row, is_apart}
use Rattle.kin_store.specs.Blocks.{row_in}
use Rattle.kin_store.specs.State.{PartState, block_at, row_of, user_slot}
use Rattle.kin_store.proofs.Orders.{user_exact}
use Rattle.kin_store.proofs.Empties.{mod_less}
use Rattle.kin_store.proofs.Gathering.{Gathers, gathers-none, gathers-more, gathers-all, kept_there}
use Rattle.kin_store.proofs.stores.Store.vertices.Goals as goal

pub loop-slot-init : goal.loop-slot-init
loop-slot-init c =
    let s : PartState = c.args.self.now in
    let p : User → Bool = λ u. not (is_apart (row_of s u)) in
    let none : c.new-users.result.keys ≡ [] = search rules in
    subst (λ (ks : List (User)). Gathers user_cmp (user_slot s) p 0 ks) (sym none) (gathers-none user_exact (user_slot s) p)

pub loop-slot-preserved : goal.loop-slot-preserved
loop-slot-preserved c =
    let s : PartState = c.args.self.now in
    let p : User → Bool = λ u. not (is_apart (row_of s u)) in
    let n : ℕ = c.loop-slot.slot in
    let block : List (User) = keys_of (block_at s n).rows in
    let Q : Type 0 = (u : User) → has_user c.extend.new.self.keys u
    ≡ (has_user c.loop-slot.users.keys u || has_user c.in_ok-vertices_in.field-0.items u) in
    let put : OnOk c.extend.result Q =
    fact_from_extend (λ x. x) c.extend.result c.extend.ensures.ran
    (λ it b. YieldsList-from_vec {s = it} _ b.0 (b.1 ∙ c.in_ok-vertices_in.field-0.ok.0))
    (λ xs e h u. h.0 u ∙ ap (λ (ks : List (User)). (has_user c.loop-slot.users.keys u || has_user ks u)) (sym (map-id xs) ∙ e)) in
    let all : Q = subst (λ r. OnOk r Q) c.in_ok-extend.was put in
    gathers-more user_exact (user_slot s) p n c.loop-slot.users.keys block c.extend.new.self.keys c.loop-slot.invariant
    (λ u at q. kept_there user_cmp u (block_at s n).rows no_row (λ (x : UserRow). not (is_apart x)) refl
    (subst (λ (k : ℕ). not (is_apart (row_in (block_at s k) u)) ≡ true) at q))
    (λ u. all u ∙ ap (λ (ks : List (User)). (has_user c.loop-slot.users.keys u || has_user ks u)) c.in_ok-vertices_in.ensures)

pub returns-clause-all : goal.returns-clause-all
returns-clause-all c = λ u.
    let s : PartState = c.args.self.now in
    let p : User → Bool = λ x. not (is_apart (row_of s x)) in
    let items : c.in_ok-users.users.items ≡ c.loop-slot.users.keys = search rules in
    let some : 0 < length s.blocks = subst (λ (t : PartState). 0 < length t.blocks) c.self.view_is c.self.invariant.some in
    let end : length s.blocks ≤ c.loop-slot.slot = search rules in
    let within : (x : User) → user_slot s x < c.loop-slot.slot = λ x. omega (arith, mod_less (x.0 / s.parts) (length s.blocks) some, end) in
    ap (λ (ks : List (User)). has_user ks u) items
    ∙ gathers-all user_exact (user_slot s) p c.loop-slot.slot c.loop-slot.users.keys c.loop-slot.invariant within u
