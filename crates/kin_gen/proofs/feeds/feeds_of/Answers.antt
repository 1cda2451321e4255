use Rattle.std.proofs.Common.{ℕ, ◌≡◌, ◌∙◌, ◌+◌, ◌-◌, ◌%◌, ◌<◌, List, [], ◌∷◌, ◌++◌, map, length, get_or, Vec, Global, refl, sym, ap, arith, lit<}
use Rattle.std.proofs.lemmas.List.{map-set, length-set, length-map, get_or-map}
use Rattle.kin_gen.specs.Draws.{State, seeded}
use Rattle.kin_gen.specs.Feeds.{Text, line, after_line, lines_from, dealt, gen_feed, user_count}
use Rattle.kin_gen.proofs.Dealing.{lines-next, lines-over, dealt-over, deals, blank, three}
use Rattle.kin_gen.proofs.feeds.feeds_of.Goals as goal

blank-texts : (x y z : Vec ℕ Global) → x.items ≡ [] → y.items ≡ [] → z.items ≡ [] → x.items ∷ y.items ∷ z.items ∷ [] ≡ [] ∷ [] ∷ [] ∷ []
blank-texts x y z p q r = cc

-- with nothing dealt yet, everything is still to be dealt
starts : (seed n feed m : ℕ) (all : List Text) (s : State) → all ≡ [] ∷ [] ∷ [] ∷ [] → m ≡ n → s ≡ seeded seed → get_or all feed [] ++ dealt feed 0 (lines_from (user_count n) m s) ≡ gen_feed seed n feed
unfolding gen_feed
starts seed n feed m all s p q r = rw (p, q, r, blank feed) refl

pub loop-r-init : goal.loop-r-init
loop-r-init c =
    let empty = blank-texts c.new.result c.new-2.result c.new-3.result c.new.ensures.items c.new-2.ensures.items c.new-3.ensures.items in
    record {
      count = rw c.in_ok-texts.ensures.items refl;
      texts = λ feed _.
          starts c.args.seed c.args.n feed _ _ _ (ap (map (λ (t : Vec ℕ Global). t.items)) c.in_ok-texts.ensures.items ∙ empty) (omega arith) c.generator-draws.ensures;
    }

pub loop-r-preserved : goal.loop-r-preserved
loop-r-preserved c =
    let vectors = c.loop-r.texts.items in
    let all : List Text = map (λ (t : Vec ℕ Global). t.items) vectors in
    let r = c.loop-r.r in
    let n = c.args.n in
    let users = user_count n in
    let s = c.loop-r.draws in
    let count : length vectors ≡ 3 = c.loop-r.invariant.count in
    let place : r % 3 < length vectors = omega arith in
    let placed : r % 3 < length all = omega (arith, length-map vectors (λ (t : Vec ℕ Global). t.items)) in
    let was : c.index_mut.result.now.items ≡ get_or all (r % 3) [] = ap (λ (t : Vec ℕ Global). t.items) c.index_mut.ensures.value ∙ sym (get_or-map (λ (t : Vec ℕ Global). t.items) vectors (r % 3) c.index_mut.result.now [] place) in
    let is : c.push_line.new.text.items ≡ get_or all (r % 3) [] ++ line users s = c.in_ok-push_line.ensures.text ∙ ap (λ (t : Text). t ++ line users s) was in
    let rest = lines_from users (n - (r + 1)) (after_line s) in
    record {
      count = length-set vectors (r % 3) c.push_line.new.text ∙ count;
      texts = λ feed within.
          rw (map-set (λ (t : Vec ℕ Global). t.items) vectors (r % 3) c.push_line.new.text, is, c.in_ok-push_line.ensures.draws) (
          deals feed r all (line users s) rest placed
          ∙ ap (λ (lines : List Text). get_or all feed [] ++ dealt feed r lines) (sym (lines-next users n r s c.loop-r-test.true))
          ∙ c.loop-r.invariant.texts feed within
          );
    }

pub returns : goal.returns
returns c =
    let vectors = c.loop-r.texts.items in
    let all : List Text = map (λ (t : Vec ℕ Global). t.items) vectors in
    let count : length all ≡ 3 = length-map vectors (λ (t : Vec ℕ Global). t.items) ∙ c.loop-r.invariant.count in
    let whole = λ (feed : ℕ) (within : feed < 3).
    sym (dealt-over feed c.loop-r.r (get_or all feed []))
    ∙ ap (λ (lines : List Text). get_or all feed [] ++ dealt feed c.loop-r.r lines) (sym (lines-over (user_count c.args.n) c.args.n c.loop-r.r c.loop-r.draws c.loop-r-test.false))
    ∙ c.loop-r.invariant.texts feed within in
    three all _ _ _ count (whole 0 (lit< tt)) (whole 1 (lit< tt)) (whole 2 (lit< tt))
