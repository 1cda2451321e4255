-- Worked rows: what stands in an epoch.
use Rattle.std.specs.Prelude.{◌≡◌, [], ◌∷◌, codes, true, false}
use Rattle.kin_report.specs.RowWords.{follow, unfollow, stamp, deliver, report, raise, cut, commit, mine, all_rules, no_rules, setting, prints, text}

-- two follows of one user, stamped as one transaction
abbrev pub IsFirstRun : Type 0
IsFirstRun =
    prints (setting ((follow 1 2 ∷ follow 3 2 ∷ []) ∷ []) 1 [])
    all_rules false
    (stamp 0 2 ∷ deliver 0 0 0 2 ∷ report 0 ∷ raise 0 ∷ cut ∷ [])
    ≡ text (codes "epoch 1 0@2 records 2 bad 0" ∷ codes "in 2 2" ∷ codes "out 1 1" ∷ codes "out 3 1" ∷ codes "rank 2 2000000" ∷ [])

-- the same with one rule
abbrev pub IsFirstIns : Type 0
IsFirstIns =
    prints (setting ((follow 1 2 ∷ follow 3 2 ∷ []) ∷ []) 1 [])
    (record no_rules { ins = true }) false
    (stamp 0 2 ∷ deliver 0 0 0 2 ∷ report 0 ∷ raise 0 ∷ cut ∷ [])
    ≡ text (codes "epoch 1 0@2 records 2 bad 0" ∷ codes "in 2 2" ∷ [])

-- a cut waits for every partition to report once
abbrev pub IsNeverReported : Type 0
IsNeverReported =
    prints (setting (([]) ∷ []) 1 [])
    all_rules true
    (cut ∷ report 0 ∷ cut ∷ [])
    ≡ text (codes "# 1 not-reported 0" ∷ codes "# 2 reported" ∷ codes "# 3 epoch 1" ∷ codes "epoch 1 - records 0 bad 0" ∷ [])

-- a transaction that one of two partitions got is not in
abbrev pub IsHalfDelivered : Type 0
IsHalfDelivered =
    prints (setting ((follow 1 2 ∷ []) ∷ []) 2 [])
    all_rules false
    (stamp 0 1 ∷ deliver 0 0 0 1 ∷ report 0 ∷ report 1 ∷ raise 0 ∷ cut ∷ [])
    ≡ text (codes "epoch 1 - records 0 bad 0" ∷ [])

-- nor where the other has it and has not reported it
abbrev pub IsHalfReported : Type 0
IsHalfReported =
    prints (setting ((follow 1 2 ∷ []) ∷ []) 2 [])
    all_rules false
    (stamp 0 1 ∷ deliver 0 0 0 1 ∷ report 0 ∷ report 1 ∷ deliver 1 0 0 1 ∷ raise 0 ∷ cut ∷ [])
    ≡ text (codes "epoch 1 - records 0 bad 0" ∷ [])

-- it is in once both have reported it
abbrev pub IsAgreedLater : Type 0
IsAgreedLater =
    prints (setting ((follow 1 2 ∷ []) ∷ []) 2 [])
    all_rules false
    (stamp 0 1 ∷ deliver 0 0 0 1 ∷ report 0 ∷ report 1 ∷ raise 0 ∷ cut ∷ deliver 1 0 0 1 ∷ report 1 ∷ raise 0 ∷ cut ∷ [])
    ≡ text (codes "epoch 1 - records 0 bad 0" ∷ codes "epoch 2 0@1 records 1 bad 0" ∷ codes "in 2 1" ∷ codes "out 1 1" ∷
    codes "rank 2 1000000" ∷ [])

-- an edge of one epoch is gone in the next
abbrev pub IsRemovedLater : Type 0
IsRemovedLater =
    prints (setting ((follow 1 2 ∷ unfollow 1 2 ∷ []) ∷ []) 1 [])
    all_rules false
    (stamp 0 1 ∷ stamp 0 1 ∷ deliver 0 0 0 1 ∷ report 0 ∷ raise 0 ∷ cut ∷ deliver 0 0 0 2 ∷ report 0 ∷ raise 0 ∷ cut ∷ commit 0 ∷
    commit 0 ∷ mine ∷ mine ∷ [])
    ≡ text (codes "epoch 1 0@1 records 1 bad 0" ∷ codes "in 2 1" ∷ codes "out 1 1" ∷ codes "rank 2 1000000" ∷
    codes "epoch 2 0@2 records 1 bad 0" ∷ [])
