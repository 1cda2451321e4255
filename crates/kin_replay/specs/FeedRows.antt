-- Worked rows: what is printed over a feed of these bytes, as computed from the definitions alone.
use Rattle.std.specs.Prelude.{◌≡◌, ℕ, List, [], ◌∷◌, codes, true, false}
use Rattle.kin_ids.specs.declared.options.RuleSet.{RuleSet}
use Rattle.kin_feed.specs.Records.{records_of}
use Rattle.kin_report.specs.RowWords.{stamp, deliver, report, raise, cut, all_rules, no_rules, setting, prints, text}

-- n records of the feed, delivered to the one partition and cut
abbrev pub printed_of : List ℕ → RuleSet → ℕ → List ℕ
printed_of bytes rules n =
    prints (setting (records_of bytes ∷ []) 1 []) rules false (stamp 0 n ∷ deliver 0 0 0 n ∷ report 0 ∷ raise 0 ∷ cut ∷ [])

-- a user who follows itself, a leading zero, a tweet without items, a user past the last one, a tag of 25 characters
abbrev pub IsAllBad : Type 0
IsAllBad =
    printed_of (codes "f,3,3\nf,01,2\nt,5\nf,4294967296,1\nt,5,#aaaaaaaaaaaaaaaaaaaaaaaaa\n") all_rules 5
    ≡ text (codes "epoch 1 0@5 records 5 bad 5" ∷ [])

-- CRLF, an empty line and quotes
abbrev pub IsQuoted : Type 0
IsQuoted =
    printed_of (codes "f,1,2\r\n\r\n\"t\",\"5\",\"#a\"\r\n") (record no_rules { ins = true; tags = true }) 2
    ≡ text (codes "epoch 1 0@2 records 2 bad 0" ∷ codes "in 2 1" ∷ codes "tag a 1" ∷ [])
