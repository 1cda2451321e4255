-- Worked rows: values at their limits.
use Rattle.std.specs.Prelude.{◌≡◌, [], ◌∷◌, codes, true, false}
use Rattle.kin_report.specs.RowWords.{user, at, follow, tweet, tagged, bad, stamp, deliver, report, raise, cut, all_rules, no_rules, setting, prints, text}

-- the greatest user, the least one, and a tag of 24 characters; one of 25 is bad
abbrev pub IsAtTheLimits : Type 0
IsAtTheLimits =
    prints (setting ((follow 4294967295 0 ∷ tweet 0 (tagged (codes "abcdefghijklmnopqrstuvwx") ∷ []) ∷ bad ∷ [])
    ∷ []) 1 [])
    all_rules false
    (stamp 0 3 ∷ deliver 0 0 0 3 ∷ report 0 ∷ raise 0 ∷ cut ∷ [])
    ≡ text (codes "epoch 1 0@3 records 3 bad 1" ∷ codes "in 0 1" ∷ codes "out 4294967295 1" ∷ codes "tag abcdefghijklmnopqrstuvwx 1" ∷
    codes "rank 0 1000000" ∷ codes "expo abcdefghijklmnopqrstuvwx 0:1" ∷ [])

-- who used a tag after those whom it follows
abbrev pub IsExposed : Type 0
IsExposed =
    prints (setting ((follow 1 2 ∷ follow 1 3 ∷ tweet 2 (tagged (codes "go") ∷ [])
    ∷ tweet 1 (tagged (codes "go") ∷ []) ∷ tweet 3 (tagged (codes "go") ∷ []) ∷ []) ∷ []) 1 [])
    (record no_rules { tags = true; expo = true }) false
    (stamp 0 5 ∷ deliver 0 0 0 5 ∷ report 0 ∷ raise 0 ∷ cut ∷ [])
    ≡ text (codes "epoch 1 0@5 records 5 bad 0" ∷ codes "tag go 3" ∷ codes "expo go 0:2 1:1" ∷ [])

-- two users who follow each other
abbrev pub IsRanked : Type 0
IsRanked =
    prints (setting ((follow 1 2 ∷ follow 2 1 ∷ []) ∷ []) 1 [])
    all_rules false
    (stamp 0 2 ∷ deliver 0 0 0 2 ∷ report 0 ∷ raise 0 ∷ cut ∷ [])
    ≡ text (codes "epoch 1 0@2 records 2 bad 0" ∷ codes "in 1 1" ∷ codes "in 2 1" ∷ codes "out 1 1" ∷ codes "out 2 1" ∷
    codes "rank 1 1992187" ∷ codes "rank 2 1992187" ∷ [])

-- bad records among others, with all eight rules
abbrev pub IsBadAmong : Type 0
IsBadAmong =
    prints (setting ((follow 1 2 ∷ bad ∷ tweet 1 (tagged (codes "go") ∷ at 2 ∷ []) ∷ bad ∷ bad ∷ bad
    ∷ tweet 2 (tagged (codes "go") ∷ []) ∷ []) ∷ []) 1 (user 1 ∷ []))
    all_rules false
    (stamp 0 7 ∷ deliver 0 0 0 7 ∷ report 0 ∷ raise 0 ∷ cut ∷ [])
    ≡ text (codes "epoch 1 0@7 records 7 bad 4" ∷ codes "in 2 1" ∷ codes "out 1 1" ∷ codes "said 2 1" ∷
    codes "tag go 2" ∷ codes "rank 2 1000000" ∷ codes "expo go 0:2" ∷ codes "hops 1 2" ∷ codes "hop 1 2 1" ∷
    codes "close 1 2" ∷ codes "cost 1 2 1" ∷ [])

-- bad records alone, with all eight rules
abbrev pub IsBadAlone : Type 0
IsBadAlone =
    prints (setting ((bad ∷ bad ∷ bad ∷ bad ∷ bad ∷ []) ∷ []) 1 (user 1 ∷ []))
    all_rules false
    (stamp 0 5 ∷ deliver 0 0 0 5 ∷ report 0 ∷ raise 0 ∷ cut ∷ [])
    ≡ text (codes "epoch 1 0@5 records 5 bad 5" ∷ codes "hops 1 0" ∷ codes "close 1 0" ∷ [])
