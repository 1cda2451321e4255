-- Worked rows: the agreed order and cuts with a number.
use Rattle.std.specs.Prelude.{◌≡◌, [], ◌∷◌, codes, true, false}
use Rattle.kin_report.specs.RowWords.{follow, unfollow, stamp, deliver, report, raise, cut, cut_after, all_rules, no_rules, setting, prints, text}

-- in an epoch the lesser node comes first, whatever came first
abbrev pub IsNodeOrder : Type 0
IsNodeOrder =
    prints (setting ((follow 1 2 ∷ []) ∷ (unfollow 1 2 ∷ []) ∷ []) 1 [])
    all_rules false
    (stamp 0 1 ∷ stamp 1 1 ∷ deliver 0 1 0 1 ∷ deliver 0 0 0 1 ∷ report 0 ∷ raise 0 ∷ raise 1 ∷ cut ∷ [])
    ≡ text (codes "epoch 1 0@1 0@1 records 2 bad 0" ∷ [])

-- with the feeds exchanged the follow stands
abbrev pub IsNodeOrderSwapped : Type 0
IsNodeOrderSwapped =
    prints (setting ((unfollow 1 2 ∷ []) ∷ (follow 1 2 ∷ []) ∷ []) 1 [])
    all_rules false
    (stamp 0 1 ∷ stamp 1 1 ∷ deliver 0 1 0 1 ∷ deliver 0 0 0 1 ∷ report 0 ∷ raise 0 ∷ raise 1 ∷ cut ∷ [])
    ≡ text (codes "epoch 1 0@1 0@1 records 2 bad 0" ∷ codes "in 2 1" ∷ codes "out 1 1" ∷ codes "rank 2 1000000" ∷ [])

-- cuts with a number go round the nodes
abbrev pub IsCutFairly : Type 0
IsCutFairly =
    prints (setting ((follow 1 9 ∷ follow 2 9 ∷ follow 3 9 ∷ follow 4 9 ∷ []) ∷ (follow 5 8 ∷ follow 6 8 ∷ follow 7 8 ∷ follow 10 8 ∷ []) ∷ []) 1 [])
    (record no_rules { ins = true }) false
    (stamp 0 2 ∷ stamp 0 2 ∷ stamp 1 2 ∷ stamp 1 2 ∷ deliver 0 0 0 2 ∷ deliver 0 0 0 4 ∷ deliver 0 1 0 2 ∷ deliver 0 1 0 4 ∷
    report 0 ∷ raise 0 ∷ raise 1 ∷ cut_after 3 ∷ cut_after 3 ∷ cut_after 3 ∷ [])
    ≡ text (codes "epoch 1 0@2 0@2 records 4 bad 0" ∷ codes "in 8 2" ∷ codes "in 9 2" ∷ codes "epoch 2 0@4 0@4 records 4 bad 0" ∷
    codes "in 8 4" ∷ codes "in 9 4" ∷ codes "epoch 3 0@4 0@4 records 0 bad 0" ∷ codes "in 8 4" ∷ codes "in 9 4" ∷ [])
