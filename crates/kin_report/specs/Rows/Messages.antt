-- Worked rows: pieces that come often or in the wrong order.
use Rattle.std.specs.Prelude.{◌≡◌, [], ◌∷◌, codes, true}
use Rattle.kin_report.specs.RowWords.{follow, tweet, at, stamp, deliver, report, raise, cut, all_rules, setting, prints, text}

-- a piece that comes three times counts once
abbrev pub IsRepeated : Type 0
IsRepeated =
    prints (setting ((tweet 5 (at 7 ∷ []) ∷ []) ∷ []) 1 [])
    all_rules true
    (stamp 0 1 ∷ deliver 0 0 0 1 ∷ deliver 0 0 0 1 ∷ deliver 0 0 0 1 ∷ report 0 ∷ raise 0 ∷ cut ∷ [])
    ≡ text (codes "# 1 stamped 0 0 1" ∷ codes "# 2 held 1" ∷ codes "# 3 repeat" ∷ codes "# 4 repeat" ∷ codes "# 5 reported" ∷
    codes "# 6 raised 1" ∷ codes "# 7 epoch 1" ∷ codes "epoch 1 0@1 records 1 bad 0" ∷ codes "said 7 1" ∷ [])

-- two pieces in the wrong order
abbrev pub IsReordered : Type 0
IsReordered =
    prints (setting ((follow 1 2 ∷ follow 2 3 ∷ []) ∷ []) 1 [])
    all_rules true
    (stamp 0 1 ∷ stamp 0 1 ∷ deliver 0 0 0 2 ∷ deliver 0 0 0 1 ∷ report 0 ∷ raise 0 ∷ cut ∷ [])
    ≡ text (codes "# 1 stamped 0 0 1" ∷ codes "# 2 stamped 0 1 2" ∷ codes "# 3 early 0" ∷ codes "# 4 held 2" ∷ codes "# 5 reported" ∷
    codes "# 6 raised 2" ∷ codes "# 7 epoch 1" ∷ codes "epoch 1 0@2 records 2 bad 0" ∷ codes "in 2 1" ∷ codes "in 3 1" ∷
    codes "out 1 1" ∷ codes "out 2 1" ∷ codes "rank 3 1500000" ∷ codes "rank 2 1000000" ∷ [])
