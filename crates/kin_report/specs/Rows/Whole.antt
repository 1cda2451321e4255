-- Worked rows: a whole small network.
use Rattle.std.specs.Prelude.{◌≡◌, [], ◌∷◌, codes, false}
use Rattle.kin_report.specs.RowWords.{user, follow, unfollow, tweet, at, tagged, stamp, deliver, report, raise, cut, all_rules, setting, prints, text}

-- a small network over three partitions, with every rule
abbrev pub IsRealistic : Type 0
IsRealistic =
    prints (setting ((follow 101 7 ∷ follow 102 7 ∷ tweet 7 (tagged (codes "launch") ∷ []) ∷ tweet 101 (tagged (codes "launch") ∷ at 7 ∷ []) ∷ []) ∷ (follow 103 101 ∷ tweet 102 (at 7 ∷ tagged (codes "launch") ∷ []) ∷ unfollow 102 7 ∷ follow 7 103 ∷ []) ∷ []) 3 (user 7 ∷ []))
    all_rules false
    (stamp 0 4 ∷ stamp 1 4 ∷ deliver 0 0 0 4 ∷ deliver 1 0 0 4 ∷ deliver 2 0 0 4 ∷ deliver 2 1 0 4 ∷ deliver 1 1 0 4 ∷
    deliver 0 1 0 4 ∷ report 0 ∷ report 1 ∷ report 2 ∷ raise 0 ∷ raise 1 ∷ cut ∷ [])
    ≡ text (codes "epoch 1 0@4 0@4 records 8 bad 0" ∷ codes "in 7 1" ∷ codes "in 101 1" ∷ codes "in 103 1" ∷ codes "out 7 1" ∷
    codes "out 101 1" ∷ codes "out 103 1" ∷ codes "said 7 2" ∷ codes "tag launch 3" ∷ codes "rank 7 1992187" ∷
    codes "rank 101 1992187" ∷ codes "rank 103 1992187" ∷ codes "expo launch 0:2 1:1" ∷ codes "hops 7 3" ∷ codes "hop 7 101 2" ∷
    codes "hop 7 103 1" ∷ codes "close 7 3" ∷ codes "cost 7 101 6" ∷ codes "cost 7 103 3" ∷ [])
