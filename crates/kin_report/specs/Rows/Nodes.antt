-- Worked rows: nodes that stand at different places.
use Rattle.std.specs.Prelude.{◌≡◌, [], ◌∷◌, codes, true}
use Rattle.kin_report.specs.RowWords.{follow, stamp, deliver, report, raise, cut, crash, restart, no_rules, setting, prints, text}

-- two nodes at different positions and under different incarnations in one vector
abbrev pub IsUnlikeNodes : Type 0
IsUnlikeNodes =
    prints (setting ((follow 1 2 ∷ follow 1 3 ∷ follow 1 4 ∷ []) ∷ (follow 5 6 ∷ follow 5 7 ∷ []) ∷ []) 1 [])
    (record no_rules { ins = true; outs = true }) true
    (stamp 0 2 ∷ deliver 0 0 0 2 ∷ crash 1 ∷ restart 1 ∷ stamp 1 1 ∷ deliver 0 1 1 1 ∷ report 0 ∷ raise 0 ∷
    raise 1 ∷ cut ∷ [])
    ≡ text (codes "# 1 stamped 0 0 2" ∷ codes "# 2 held 2" ∷ codes "# 3 crashed" ∷ codes "# 4 restarted 1 0" ∷
    codes "# 5 stamped 1 0 1" ∷ codes "# 6 held 1" ∷ codes "# 7 reported" ∷ codes "# 8 raised 2" ∷
    codes "# 9 raised 1" ∷ codes "# 10 epoch 1" ∷ codes "epoch 1 0@2 1@1 records 3 bad 0" ∷ codes "in 2 1" ∷
    codes "in 3 1" ∷ codes "in 6 1" ∷ codes "out 1 2" ∷ codes "out 5 1" ∷ [])

-- only one of two nodes is raised
abbrev pub IsOneRaised : Type 0
IsOneRaised =
    prints (setting ((follow 1 2 ∷ []) ∷ (follow 3 4 ∷ []) ∷ []) 1 [])
    (record no_rules { ins = true }) true
    (stamp 0 1 ∷ stamp 1 1 ∷ deliver 0 0 0 1 ∷ deliver 0 1 0 1 ∷ report 0 ∷ raise 1 ∷ cut ∷ [])
    ≡ text (codes "# 1 stamped 0 0 1" ∷ codes "# 2 stamped 0 0 1" ∷ codes "# 3 held 1" ∷ codes "# 4 held 1" ∷
    codes "# 5 reported" ∷ codes "# 6 raised 1" ∷ codes "# 7 epoch 1" ∷ codes "epoch 1 - 0@1 records 1 bad 0" ∷
    codes "in 4 1" ∷ [])

-- an early piece of incarnation 1, which began past position 0
abbrev pub IsEarlyInLater : Type 0
IsEarlyInLater =
    prints (setting ((follow 1 2 ∷ follow 3 2 ∷ follow 4 2 ∷ []) ∷ []) 1 [])
    (record no_rules { ins = true }) true
    (stamp 0 1 ∷ deliver 0 0 0 1 ∷ report 0 ∷ raise 0 ∷ crash 0 ∷ restart 0 ∷ stamp 0 1 ∷ stamp 0 1 ∷
    deliver 0 0 1 3 ∷ deliver 0 0 1 2 ∷ report 0 ∷ raise 0 ∷ cut ∷ [])
    ≡ text (codes "# 1 stamped 0 0 1" ∷ codes "# 2 held 1" ∷ codes "# 3 reported" ∷ codes "# 4 raised 1" ∷
    codes "# 5 crashed" ∷ codes "# 6 restarted 1 1" ∷ codes "# 7 stamped 1 1 2" ∷ codes "# 8 stamped 1 2 3" ∷
    codes "# 9 early 1" ∷ codes "# 10 held 3" ∷ codes "# 11 reported" ∷ codes "# 12 raised 3" ∷
    codes "# 13 epoch 1" ∷ codes "epoch 1 1@3 records 3 bad 0" ∷ codes "in 2 3" ∷ [])

-- a piece of incarnation 0 after one of incarnation 2
abbrev pub IsStaleLater : Type 0
IsStaleLater =
    prints (setting ((follow 1 2 ∷ []) ∷ []) 1 [])
    (record no_rules { ins = true }) true
    (stamp 0 1 ∷ crash 0 ∷ restart 0 ∷ crash 0 ∷ restart 0 ∷ stamp 0 1 ∷ deliver 0 0 2 1 ∷ deliver 0 0 0 1 ∷
    report 0 ∷ raise 0 ∷ cut ∷ [])
    ≡ text (codes "# 1 stamped 0 0 1" ∷ codes "# 2 crashed" ∷ codes "# 3 restarted 1 0" ∷ codes "# 4 crashed" ∷
    codes "# 5 restarted 2 0" ∷ codes "# 6 stamped 2 0 1" ∷ codes "# 7 held 1" ∷ codes "# 8 stale 2" ∷
    codes "# 9 reported" ∷ codes "# 10 raised 1" ∷ codes "# 11 epoch 1" ∷ codes "epoch 1 2@1 records 1 bad 0" ∷
    codes "in 2 1" ∷ [])

-- a node that has stamped its whole feed and is down
abbrev pub IsDownAtTheEnd : Type 0
IsDownAtTheEnd =
    prints (setting ((follow 1 2 ∷ []) ∷ []) 1 [])
    (record no_rules { ins = true }) true
    (stamp 0 1 ∷ crash 0 ∷ stamp 0 1 ∷ restart 0 ∷ stamp 0 1 ∷ [])
    ≡ text (codes "# 1 stamped 0 0 1" ∷ codes "# 2 crashed" ∷ codes "# 3 down" ∷ codes "# 4 restarted 1 0" ∷
    codes "# 5 stamped 1 0 1" ∷ [])
