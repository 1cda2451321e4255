-- Worked rows: events that do not apply.
use Rattle.std.specs.Prelude.{◌≡◌, [], ◌∷◌, codes, true}
use Rattle.kin_report.specs.RowWords.{follow, stamp, deliver, report, raise, cut, commit, crash, restart, begin, mine, turn, no_rules, setting, prints, text}

-- every kind of refusal but three
abbrev pub IsRefused : Type 0
IsRefused =
    prints (setting ((follow 1 2 ∷ []) ∷ []) 1 [])
    (record no_rules { ins = true }) true
    (restart 0 ∷ crash 0 ∷ crash 0 ∷ stamp 0 1 ∷ restart 0 ∷ stamp 0 1 ∷ deliver 0 0 0 1 ∷ deliver 0 0 1 1 ∷ commit 0 ∷ begin ∷
    turn 1 ∷ report 0 ∷ raise 0 ∷ raise 0 ∷ cut ∷ begin ∷ commit 0 ∷ begin ∷ begin ∷ turn 1 ∷ mine ∷ mine ∷ [])
    ≡ text (codes "# 1 up" ∷ codes "# 2 crashed" ∷ codes "# 3 down" ∷ codes "# 4 down" ∷ codes "# 5 restarted 1 0" ∷
    codes "# 6 stamped 1 0 1" ∷ codes "# 7 not-sent" ∷ codes "# 8 held 1" ∷ codes "# 9 nothing-cut" ∷ codes "# 10 nothing-cut" ∷
    codes "# 11 not-begun" ∷ codes "# 12 reported" ∷ codes "# 13 raised 1" ∷ codes "# 14 level 1" ∷ codes "# 15 epoch 1" ∷
    codes "# 16 not-committed 0" ∷ codes "# 17 committed 1" ∷ codes "# 18 begun 1" ∷ codes "# 19 busy 1" ∷ codes "# 20 turned" ∷
    codes "# 21 mined 1" ∷ codes "epoch 1 1@1 records 1 bad 0" ∷ codes "in 2 1" ∷ codes "# 22 nothing-cut" ∷ [])
