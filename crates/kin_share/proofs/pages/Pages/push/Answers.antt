use Rattle.std.proofs.Common.{◌≡◌, ℕ, ◌+◌, ◌<◌, List, [], ◌∷◌, ◌++◌, length, sym, ap, ◌∙◌, subst, arith, rules}
use Rattle.kin_share.specs.Chunks.{joined, IsChunked}
use Rattle.kin_share.proofs.Joined.{joined-push, joined-turned, chunked-push, chunked-turn}
use Rattle.kin_share.proofs.pages.Pages.push.Goals as goal

pub invariant_of-self-then-len-eq-PAGE : goal.invariant_of-self-then-len-eq-PAGE
invariant_of-self-then-len-eq-PAGE g c =
    let T = g.row.T.Denot in
    let cs : List (List (List T)) = c.self.inside.pages.items in
    let rest : List (List T) = c.self.inside.last.items in
    let n = c.self.inside.count in
    let x = c.args.chunk in
    let more : c.in-Some.more ≡ n + 1 = search rules in
    let long : length rest ≡ 64 = omega (arith, c.if-len-eq-PAGE.true, c.len.ensures) in
    let chunk : c.in_ok-page.page ≡ rest = search rules in
    let full : c.push-then-len-eq-PAGE.new.self.items ≡ cs ++ rest ∷ [] = c.in_ok-push-2.ensures.items ∙ ap (λ (l : List (List T)). cs ++ l ∷ []) chunk in
    let one : c.push.new.self.items ≡ x ∷ [] = c.in_ok-push.ensures.items ∙ ap (λ (l : List (List T)). l ++ x ∷ []) c.in_ok-last.ensures.items in
    subst (λ (m : ℕ). IsChunked c.push-then-len-eq-PAGE.new.self.items c.push.new.self.items m) (sym more)
    (subst (λ (l : List (List (List T))). IsChunked l c.push.new.self.items (n + 1)) (sym full) (subst (λ (l : List (List T)). IsChunked (cs ++ rest ∷ []) l (n + 1)) (sym one) (chunked-turn cs rest n x c.self.invariant long)))

pub returns-then-len-eq-PAGE-clause-ok : goal.returns-then-len-eq-PAGE-clause-ok
returns-then-len-eq-PAGE-clause-ok g c =
    let T = g.row.T.Denot in
    let cs : List (List (List T)) = c.self.inside.pages.items in
    let rest : List (List T) = c.self.inside.last.items in
    let n = c.self.inside.count in
    let x = c.args.chunk in
    let more : c.in-Some.more ≡ n + 1 = search rules in
    let long : length rest ≡ 64 = omega (arith, c.if-len-eq-PAGE.true, c.len.ensures) in
    let chunk : c.in_ok-page.page ≡ rest = search rules in
    let full : c.push-then-len-eq-PAGE.new.self.items ≡ cs ++ rest ∷ [] = c.in_ok-push-2.ensures.items ∙ ap (λ (l : List (List T)). cs ++ l ∷ []) chunk in
    let one : c.push.new.self.items ≡ x ∷ [] = c.in_ok-push.ensures.items ∙ ap (λ (l : List (List T)). l ++ x ∷ []) c.in_ok-last.ensures.items in
    ap (λ (l : List (List (List T))). joined l c.push.new.self.items) full ∙ (ap (λ (l : List (List T)). joined (cs ++ rest ∷ []) l) one ∙ (joined-turned cs rest x ∙ ap (λ (l : List (List T)). l ++ x ∷ []) c.self.view_is))

pub invariant_of-self-2 : goal.invariant_of-self-2
invariant_of-self-2 g c =
    let T = g.row.T.Denot in
    let cs : List (List (List T)) = c.self.inside.pages.items in
    let rest : List (List T) = c.self.inside.last.items in
    let n = c.self.inside.count in
    let x = c.args.chunk in
    let more : c.in-Some.more ≡ n + 1 = search rules in
    let short : length rest < 64 = omega (arith, c.if-len-eq-PAGE.false, c.len.ensures, c.self.invariant.short) in
    let all : c.push-2.new.self.items ≡ rest ++ x ∷ [] = c.in_ok-push-3.ensures.items in
    subst (λ (m : ℕ). IsChunked cs c.push-2.new.self.items m) (sym more) (subst (λ (l : List (List T)). IsChunked cs l (n + 1)) (sym all) (chunked-push cs rest n x c.self.invariant short))

pub returns-clause-ok : goal.returns-clause-ok
returns-clause-ok g c =
    let T = g.row.T.Denot in
    let cs : List (List (List T)) = c.self.inside.pages.items in
    let rest : List (List T) = c.self.inside.last.items in
    let n = c.self.inside.count in
    let x = c.args.chunk in
    let more : c.in-Some.more ≡ n + 1 = search rules in
    ap (λ (l : List (List T)). joined cs l) c.in_ok-push-3.ensures.items ∙ (joined-push cs rest x ∙ ap (λ (l : List (List T)). l ++ x ∷ []) c.self.view_is)
