-- Worked rows: cuts, commits and mines that wait.
use Rattle.std.specs.Prelude.{◌≡◌, [], ◌∷◌, codes, true}
use Rattle.kin_report.specs.RowWords.{follow, stamp, deliver, report, raise, cut, commit, begin, mine, no_rules, setting, prints, text}

-- a cut waits for partition 1, and so does mining
abbrev pub IsNotReportedByOne : Type 0
IsNotReportedByOne =
    prints (setting ((follow 1 2 ∷ []) ∷ []) 2 [])
    (record no_rules { ins = true }) true
    (stamp 0 1 ∷ deliver 0 0 0 1 ∷ deliver 1 0 0 1 ∷ report 0 ∷ cut ∷ report 1 ∷ raise 0 ∷ cut ∷ commit 0 ∷ begin ∷
    mine ∷ commit 1 ∷ mine ∷ [])
    ≡ text (codes "# 1 stamped 0 0 1" ∷ codes "# 2 held 1" ∷ codes "# 3 held 1" ∷ codes "# 4 reported" ∷
    codes "# 5 not-reported 1" ∷ codes "# 6 reported" ∷ codes "# 7 raised 1" ∷ codes "# 8 epoch 1" ∷
    codes "# 9 committed 1" ∷ codes "# 10 not-committed 1" ∷ codes "# 11 not-committed 1" ∷
    codes "# 12 committed 1" ∷ codes "# 13 mined 1" ∷ codes "epoch 1 0@1 records 1 bad 0" ∷ codes "in 2 1" ∷ [])

-- two cuts, and then commits and mines one by one
abbrev pub IsOneByOne : Type 0
IsOneByOne =
    prints (setting ((follow 1 2 ∷ follow 3 2 ∷ []) ∷ []) 1 [])
    (record no_rules { ins = true }) true
    (stamp 0 1 ∷ stamp 0 1 ∷ deliver 0 0 0 1 ∷ report 0 ∷ raise 0 ∷ cut ∷ deliver 0 0 0 2 ∷ report 0 ∷ raise 0 ∷
    cut ∷ commit 0 ∷ mine ∷ mine ∷ commit 0 ∷ commit 0 ∷ mine ∷ mine ∷ [])
    ≡ text (codes "# 1 stamped 0 0 1" ∷ codes "# 2 stamped 0 1 2" ∷ codes "# 3 held 1" ∷ codes "# 4 reported" ∷
    codes "# 5 raised 1" ∷ codes "# 6 epoch 1" ∷ codes "# 7 held 2" ∷ codes "# 8 reported" ∷ codes "# 9 raised 2" ∷
    codes "# 10 epoch 2" ∷ codes "# 11 committed 1" ∷ codes "# 12 mined 1" ∷ codes "epoch 1 0@1 records 1 bad 0" ∷
    codes "in 2 1" ∷ codes "# 13 not-committed 0" ∷ codes "# 14 committed 2" ∷ codes "# 15 nothing-cut" ∷
    codes "# 16 mined 2" ∷ codes "epoch 2 0@2 records 1 bad 0" ∷ codes "in 2 2" ∷ codes "# 17 nothing-cut" ∷ [])
