use Rattle.std.proofs.Common.{ℕ, suc, ◌≡◌, ◌∙◌, ◌++◌, ◌+◌, ◌-◌, ◌<◌, ◌≤◌, refl, sym, ap, arith, append_assoc}
use Rattle.std.proofs.lemmas.List.{append-nil}
use Rattle.std.specs.Prelude.{codes}
use Rattle.kin_gen.specs.Draws.{State, draw, after, past}
use Rattle.kin_gen.specs.Feeds.{Text, item, items}
use Rattle.kin_gen.proofs.records.push_items.Goals as goal

items-next : (users n i : ℕ) (s : State) → i < n → items users (n - i) s ≡ codes "," ++ item users (draw s) ++ items users (n - (i + 1)) (after s)
unfolding items
items-next users n i s h = let e : n - i ≡ suc (n - (i + 1)) = omega arith in rw e refl

past-next : (n i : ℕ) (s : State) → i < n → past (n - i) s ≡ past (n - (i + 1)) (after s)
unfolding past
past-next n i s h = let e : n - i ≡ suc (n - (i + 1)) = omega arith in rw e refl

items-none : (users n i : ℕ) (s : State) → n ≤ i → (t : Text) → t ++ items users (n - i) s ≡ t
unfolding items
items-none users n i s h t = let e : n - i ≡ 0 = omega arith in rw e (append-nil t)

past-none : (n i : ℕ) (s : State) → n ≤ i → past (n - i) s ≡ s
unfolding past
past-none n i s h = let e : n - i ≡ 0 = omega arith in rw e refl

regroup : (a b c d : Text) → ((a ++ b) ++ c) ++ d ≡ a ++ (b ++ c ++ d)
regroup a b c d = simp append_assoc

pub loop-i-preserved : goal.loop-i-preserved
loop-i-preserved c =
    let text = c.loop-i.text.items in
    let rest = items c.args.users (c.args.count - (c.loop-i._i + 1)) (after c.loop-i.draws) in
    let step = items-next c.args.users c.args.count c.loop-i._i c.loop-i.draws c.loop-i-test.true in
    record {
      text = rw (c.in_ok-push_item.ensures, c.in_ok-extend_from_slice.ensures.items, c.next-word.ensures.word, c.next-word.ensures.state) (
          regroup text (codes ",") (item c.args.users (draw c.loop-i.draws)) rest ∙ ap (λ (t : Text). text ++ t) (sym step) ∙ c.loop-i.invariant.text
          );
      draws = rw c.next-word.ensures.state (sym (past-next c.args.count c.loop-i._i c.loop-i.draws c.loop-i-test.true) ∙ c.loop-i.invariant.draws);
    }

pub returns-clause-text : goal.returns-clause-text
returns-clause-text c = sym (items-none c.args.users c.args.count c.loop-i._i c.loop-i.draws c.loop-i-test.false c.loop-i.text.items) ∙ c.loop-i.invariant.text

pub returns-clause-draws : goal.returns-clause-draws
returns-clause-draws c = sym (past-none c.args.count c.loop-i._i c.loop-i.draws c.loop-i-test.false) ∙ c.loop-i.invariant.draws
