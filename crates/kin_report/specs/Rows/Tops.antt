-- Worked rows: top lists shorter than what there is.
use Rattle.std.specs.Prelude.{◌≡◌, [], ◌∷◌, codes, true, false}
use Rattle.kin_history.specs.Setting.{Setting}
use Rattle.kin_report.specs.RowWords.{user, follow, tweet, at, tagged, stamp, deliver, report, raise, cut, all_rules, no_rules, setting, prints, prints_top, text}

-- a small network with more users, tags and walks than the top lists show
abbrev pub busy : Setting
busy = setting
    ((follow 1 2 ∷ follow 3 2 ∷ follow 1 4 ∷ tweet 1 (tagged (codes "b") ∷ tagged (codes "a") ∷ []) ∷ tweet 3 (tagged (codes "a") ∷ [])
    ∷ tweet 2 (tagged (codes "c") ∷ at 4 ∷ []) ∷ tweet 1 (at 4 ∷ at 2 ∷ []) ∷ []) ∷ [])
    1 (user 1 ∷ [])

-- a top list of 0: the lines of the landmark are left
abbrev pub IsTopOfNone : Type 0
IsTopOfNone =
    prints_top 0 busy
    all_rules false
    (stamp 0 7 ∷ deliver 0 0 0 7 ∷ report 0 ∷ raise 0 ∷ cut ∷ [])
    ≡ text (codes "epoch 1 0@7 records 7 bad 0" ∷ codes "hops 1 3" ∷ codes "close 1 3" ∷ [])

-- a top list of 1, of users, of tags and of walks
abbrev pub IsTopOfOne : Type 0
IsTopOfOne =
    prints_top 1 busy
    all_rules false
    (stamp 0 7 ∷ deliver 0 0 0 7 ∷ report 0 ∷ raise 0 ∷ cut ∷ [])
    ≡ text (codes "epoch 1 0@7 records 7 bad 0" ∷ codes "in 2 2" ∷ codes "out 1 2" ∷ codes "said 4 2" ∷
    codes "tag a 2" ∷ codes "rank 2 1500000" ∷ codes "expo a 0:2" ∷ codes "hops 1 3" ∷ codes "hop 1 2 1" ∷
    codes "close 1 3" ∷ codes "cost 1 2 1" ∷ [])

-- a top list of 2
abbrev pub IsTopOfTwo : Type 0
IsTopOfTwo =
    prints_top 2 busy
    all_rules false
    (stamp 0 7 ∷ deliver 0 0 0 7 ∷ report 0 ∷ raise 0 ∷ cut ∷ [])
    ≡ text (codes "epoch 1 0@7 records 7 bad 0" ∷ codes "in 2 2" ∷ codes "in 4 1" ∷ codes "out 1 2" ∷
    codes "out 3 1" ∷ codes "said 4 2" ∷ codes "said 2 1" ∷ codes "tag a 2" ∷ codes "tag b 1" ∷
    codes "rank 2 1500000" ∷ codes "rank 4 500000" ∷ codes "expo a 0:2" ∷ codes "expo b 0:1" ∷ codes "hops 1 3" ∷
    codes "hop 1 2 1" ∷ codes "hop 1 4 1" ∷ codes "close 1 3" ∷ codes "cost 1 2 1" ∷ codes "cost 1 4 1" ∷ [])

-- two tags of different numbers, a tie of tags, and a tag that comes twice in a tweet
abbrev pub IsTopTagTwice : Type 0
IsTopTagTwice =
    prints (setting ((tweet 1 (tagged (codes "b") ∷ tagged (codes "b") ∷ []) ∷ tweet 2 (tagged (codes "a") ∷ [])
    ∷ tweet 3 (tagged (codes "a") ∷ []) ∷ tweet 1 (tagged (codes "c") ∷ []) ∷ []) ∷ []) 1 [])
    (record no_rules { tags = true; expo = true }) false
    (stamp 0 4 ∷ deliver 0 0 0 4 ∷ report 0 ∷ raise 0 ∷ cut ∷ [])
    ≡ text (codes "epoch 1 0@4 records 4 bad 0" ∷ codes "tag a 2" ∷ codes "tag b 1" ∷ codes "tag c 1" ∷
    codes "expo a 0:2" ∷ codes "expo b 0:1" ∷ codes "expo c 0:1" ∷ [])
