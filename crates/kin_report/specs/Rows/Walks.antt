-- Worked rows: hops and closeness.
use Rattle.std.specs.Prelude.{◌≡◌, [], ◌∷◌, codes, true, false}
use Rattle.kin_report.specs.RowWords.{user, follow, tweet, at, stamp, deliver, report, raise, cut, commit, begin, mine, turn, no_rules, setting, prints, text}

-- an edge that makes walks shorter
abbrev pub IsShorterWalks : Type 0
IsShorterWalks =
    prints (setting ((follow 1 2 ∷ follow 2 3 ∷ follow 3 4 ∷ follow 4 5 ∷ follow 1 4 ∷ []) ∷ []) 1 (user 1 ∷ []))
    (record no_rules { hops = true }) false
    (stamp 0 4 ∷ stamp 0 1 ∷ deliver 0 0 0 4 ∷ report 0 ∷ raise 0 ∷ cut ∷ commit 0 ∷ mine ∷ deliver 0 0 0 5 ∷ report 0 ∷ raise 0 ∷
    cut ∷ commit 0 ∷ begin ∷ turn 4 ∷ turn 1 ∷ mine ∷ cut ∷ [])
    ≡ text (codes "epoch 1 0@4 records 4 bad 0" ∷ codes "hops 1 5" ∷ codes "hop 1 5 4" ∷ codes "hop 1 4 3" ∷ codes "hop 1 3 2" ∷
    codes "hop 1 2 1" ∷ codes "epoch 2 0@5 records 1 bad 0" ∷ codes "hops 1 5" ∷ codes "hop 1 3 2" ∷ codes "hop 1 5 2" ∷
    codes "hop 1 2 1" ∷ codes "hop 1 4 1" ∷ codes "epoch 3 0@5 records 0 bad 0" ∷ codes "hops 1 5" ∷ codes "hop 1 3 2" ∷
    codes "hop 1 5 2" ∷ codes "hop 1 2 1" ∷ codes "hop 1 4 1" ∷ [])

-- walks over mentions, and a landmark that is no vertex
abbrev pub IsMentioned : Type 0
IsMentioned =
    prints (setting ((follow 1 2 ∷ tweet 1 (at 3 ∷ []) ∷ tweet 3 (at 2 ∷ []) ∷ []) ∷ []) 1 (user 1 ∷ user 9 ∷ []))
    (record no_rules { hops = true; close = true }) false
    (stamp 0 3 ∷ deliver 0 0 0 3 ∷ report 0 ∷ raise 0 ∷ cut ∷ [])
    ≡ text (codes "epoch 1 0@3 records 3 bad 0" ∷ codes "hops 1 2" ∷ codes "hop 1 2 1" ∷ codes "hops 9 0" ∷ codes "close 1 3" ∷
    codes "cost 1 2 2" ∷ codes "cost 1 3 1" ∷ codes "close 9 0" ∷ [])
