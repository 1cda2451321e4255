-- Worked rows: nodes that crash and come back.
use Rattle.std.specs.Prelude.{◌≡◌, [], ◌∷◌, codes, true}
use Rattle.kin_report.specs.RowWords.{follow, stamp, deliver, report, raise, cut, cut_after, crash, restart, all_rules, no_rules, setting, prints, text}

-- a restart inside the chain of held pieces
abbrev pub IsRestartedInside : Type 0
IsRestartedInside =
    prints (setting ((follow 1 2 ∷ follow 3 2 ∷ follow 4 2 ∷ []) ∷ []) 1 [])
    (record no_rules { ins = true }) true
    (stamp 0 1 ∷ stamp 0 1 ∷ stamp 0 1 ∷ deliver 0 0 0 1 ∷ deliver 0 0 0 3 ∷ report 0 ∷ raise 0 ∷ crash 0 ∷ restart 0 ∷
    deliver 0 0 0 2 ∷ report 0 ∷ raise 0 ∷ stamp 0 4 ∷ deliver 0 0 1 3 ∷ deliver 0 0 0 2 ∷ report 0 ∷ raise 0 ∷ cut_after 1 ∷ cut ∷ [])
    ≡ text (codes "# 1 stamped 0 0 1" ∷ codes "# 2 stamped 0 1 2" ∷ codes "# 3 stamped 0 2 3" ∷ codes "# 4 held 1" ∷ codes "# 5 early 1" ∷
    codes "# 6 reported" ∷ codes "# 7 raised 1" ∷ codes "# 8 crashed" ∷ codes "# 9 restarted 1 1" ∷ codes "# 10 held 3" ∷
    codes "# 11 reported" ∷ codes "# 12 level 1" ∷ codes "# 13 stamped 1 1 3" ∷ codes "# 14 held 3" ∷ codes "# 15 stale 1" ∷
    codes "# 16 reported" ∷ codes "# 17 raised 3" ∷ codes "# 18 epoch 1" ∷ codes "# 19 epoch 2" ∷
    codes "epoch 1 0@1 records 1 bad 0" ∷ codes "in 2 1" ∷ codes "epoch 2 1@3 records 2 bad 0" ∷ codes "in 2 3" ∷ [])

-- one partition holds what was sealed, the other sees the new incarnation alone
abbrev pub IsSealed : Type 0
IsSealed =
    prints (setting ((follow 1 2 ∷ follow 3 4 ∷ []) ∷ []) 2 [])
    all_rules true
    (stamp 0 2 ∷ deliver 0 0 0 2 ∷ report 0 ∷ crash 0 ∷ restart 0 ∷ stamp 0 1 ∷ deliver 1 0 1 1 ∷ deliver 1 0 0 2 ∷ report 1 ∷
    raise 0 ∷ deliver 0 0 1 1 ∷ report 0 ∷ raise 0 ∷ cut ∷ [])
    ≡ text (codes "# 1 stamped 0 0 2" ∷ codes "# 2 held 2" ∷ codes "# 3 reported" ∷ codes "# 4 crashed" ∷ codes "# 5 restarted 1 0" ∷
    codes "# 6 stamped 1 0 1" ∷ codes "# 7 held 1" ∷ codes "# 8 stale 1" ∷ codes "# 9 reported" ∷ codes "# 10 level 0" ∷
    codes "# 11 held 1" ∷ codes "# 12 reported" ∷ codes "# 13 raised 1" ∷ codes "# 14 epoch 1" ∷
    codes "epoch 1 1@1 records 1 bad 0" ∷ codes "in 2 1" ∷ codes "out 1 1" ∷ codes "rank 2 1000000" ∷ [])

-- the same, where the new piece comes before the raise
abbrev pub IsSealedSwapped : Type 0
IsSealedSwapped =
    prints (setting ((follow 1 2 ∷ follow 3 4 ∷ []) ∷ []) 2 [])
    all_rules true
    (stamp 0 2 ∷ deliver 0 0 0 2 ∷ report 0 ∷ crash 0 ∷ restart 0 ∷ stamp 0 1 ∷ deliver 1 0 1 1 ∷ deliver 1 0 0 2 ∷ report 1 ∷
    deliver 0 0 1 1 ∷ raise 0 ∷ report 0 ∷ raise 0 ∷ cut ∷ [])
    ≡ text (codes "# 1 stamped 0 0 2" ∷ codes "# 2 held 2" ∷ codes "# 3 reported" ∷ codes "# 4 crashed" ∷ codes "# 5 restarted 1 0" ∷
    codes "# 6 stamped 1 0 1" ∷ codes "# 7 held 1" ∷ codes "# 8 stale 1" ∷ codes "# 9 reported" ∷ codes "# 10 held 1" ∷
    codes "# 11 level 0" ∷ codes "# 12 reported" ∷ codes "# 13 raised 1" ∷ codes "# 14 epoch 1" ∷
    codes "epoch 1 1@1 records 1 bad 0" ∷ codes "in 2 1" ∷ codes "out 1 1" ∷ codes "rank 2 1000000" ∷ [])

-- a node that comes back at the end of its feed has nothing to stamp
abbrev pub IsNothingLeft : Type 0
IsNothingLeft =
    prints (setting ((follow 1 2 ∷ []) ∷ []) 1 [])
    (record no_rules { ins = true }) true
    (stamp 0 1 ∷ deliver 0 0 0 1 ∷ report 0 ∷ raise 0 ∷ crash 0 ∷ restart 0 ∷ stamp 0 4 ∷ cut ∷ [])
    ≡ text (codes "# 1 stamped 0 0 1" ∷ codes "# 2 held 1" ∷ codes "# 3 reported" ∷ codes "# 4 raised 1" ∷ codes "# 5 crashed" ∷
    codes "# 6 restarted 1 1" ∷ codes "# 7 exhausted" ∷ codes "# 8 epoch 1" ∷ codes "epoch 1 0@1 records 1 bad 0" ∷ codes "in 2 1" ∷ [])
