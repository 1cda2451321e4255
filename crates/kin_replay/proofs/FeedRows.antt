-- What the bytes of the worked rows are as records, and what is printed over these.
use Rattle.std.proofs.Common.{◌≡◌, ℕ, List, [], ◌∷◌, map, refl, ap, ◌∙◌, codes, true, false}
use Rattle.std.specs.Fmt.{digits}
use Rattle.csv.specs.Machine.{next_record}
use Rattle.csv.specs.Reading.{strip_bom, records_from}
use Rattle.kin_ids.specs.declared.ops.Record.{Record}
use Rattle.kin_feed.specs.Records.{rows_of, record_of, records_of}
use Rattle.kin_rules.specs.Costs.{least_cost}
use Rattle.kin_report.specs.RowWords.{follow, tweet, tagged, bad, stamp, deliver, report, raise, cut, all_rules, no_rules, setting, prints, text}
use Rattle.kin_replay.specs.FeedRows.{IsAllBad, IsQuoted}

abbrev bad_feed : List ℕ
bad_feed = codes "f,3,3\nf,01,2\nt,5\nf,4294967296,1\nt,5,#aaaaaaaaaaaaaaaaaaaaaaaaa\n"

bad-rows : rows_of bad_feed
    ≡ (codes "f" ∷ codes "3" ∷ codes "3" ∷ []) ∷ (codes "f" ∷ codes "01" ∷ codes "2" ∷ []) ∷ (codes "t" ∷ codes "5" ∷ []) ∷ (codes "f" ∷ codes "4294967296" ∷ codes "1" ∷ []) ∷ (codes "t" ∷ codes "5" ∷ codes "#aaaaaaaaaaaaaaaaaaaaaaaaa" ∷ []) ∷ []
unfolding strip_bom records_from next_record
bad-rows = refl

bad-records : records_of bad_feed ≡ bad ∷ bad ∷ bad ∷ bad ∷ bad ∷ []
unfolding digits
bad-records = ap (map record_of) bad-rows ∙ refl

bad-printed : prints (setting ((bad ∷ bad ∷ bad ∷ bad ∷ bad ∷ []) ∷ []) 1 []) all_rules false (stamp 0 5 ∷ deliver 0 0 0 5 ∷ report 0 ∷ raise 0 ∷ cut ∷ [])
    ≡ text (codes "epoch 1 0@5 records 5 bad 5" ∷ [])
unfolding digits least_cost
bad-printed = refl

pub all-bad : IsAllBad
all-bad = ap (λ (feed : List Record). prints (setting (feed ∷ []) 1 []) all_rules false (stamp 0 5 ∷ deliver 0 0 0 5 ∷ report 0 ∷ raise 0 ∷ cut ∷ [])) bad-records ∙ bad-printed

abbrev quoted_feed : List ℕ
quoted_feed = codes "f,1,2\r\n\r\n\"t\",\"5\",\"#a\"\r\n"

quoted-rows : rows_of quoted_feed ≡ (codes "f" ∷ codes "1" ∷ codes "2" ∷ []) ∷ (codes "t" ∷ codes "5" ∷ codes "#a" ∷ []) ∷ []
unfolding strip_bom records_from next_record
quoted-rows = refl

quoted-records : records_of quoted_feed ≡ follow 1 2 ∷ tweet 5 (tagged (codes "a") ∷ []) ∷ []
unfolding digits
quoted-records = ap (map record_of) quoted-rows ∙ refl

quoted-printed : prints (setting ((follow 1 2 ∷ tweet 5 (tagged (codes "a") ∷ []) ∷ []) ∷ []) 1 []) (record no_rules { ins = true; tags = true }) false (stamp 0 2 ∷ deliver 0 0 0 2 ∷ report 0 ∷ raise 0 ∷ cut ∷ [])
    ≡ text (codes "epoch 1 0@2 records 2 bad 0" ∷ codes "in 2 1" ∷ codes "tag a 1" ∷ [])
unfolding digits least_cost
quoted-printed = refl

pub quoted : IsQuoted
quoted = ap (λ (feed : List Record). prints (setting (feed ∷ []) 1 []) (record no_rules { ins = true; tags = true }) false (stamp 0 2 ∷ deliver 0 0 0 2 ∷ report 0 ∷ raise 0 ∷ cut ∷ [])) quoted-records ∙ quoted-printed
