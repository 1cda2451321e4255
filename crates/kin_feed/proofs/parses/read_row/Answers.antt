use Rattle.std.proofs.Common.{sym, ap, ◌∙◌, ◌≡◌, refl, codes, true, false, drop, subst, IfOk}
use Rattle.std.specs.Str.{bytes_eq}
use Rattle.csv.specs.Records.{fields_of}
use Rattle.kin_ids.specs.declared.ops.Record.{Record}
use Rattle.kin_ids.specs.declared.ops.Record.TheVariants as record_kind
use Rattle.kin_feed.specs.Records.{edge_of, tweet_of, record_of}
use Rattle.kin_feed.proofs.Fields.{no_kind, kind_at}
use Rattle.kin_feed.proofs.parses.read_row.Goals as goal

pub returns-in_default : goal.returns-in_default
returns-in_default c = no_kind (fields_of c.args.row.now) c.in_default.ensures.value

pub returns-then-eq : goal.returns-then-eq
returns-then-eq c =
    let fields = fields_of c.args.row.now in
    let f : bytes_eq c.in-Some.kind.now (codes "f") ≡ true = sym (rw c.as_slice.ensures at c.if-eq.ensures) in
    c.follow.ensures ∙ ap (edge_of record_kind.Follow) c.read_pair.ensures ∙ sym (kind_at fields c.in-Some.kind.now c.in-Some.ensures.value ∙ rw f refl)

pub returns-then-eq-2 : goal.returns-then-eq-2
returns-then-eq-2 c =
    let fields = fields_of c.args.row.now in
    let f : bytes_eq c.in-Some.kind.now (codes "f") ≡ false = sym (rw c.as_slice.ensures at c.if-eq.ensures) in
    let x : bytes_eq c.in-Some.kind.now (codes "x") ≡ true = sym (rw c.as_slice-2.ensures at c.if-eq-2.ensures) in
    c.unfollow.ensures ∙ ap (edge_of record_kind.Unfollow) c.read_pair-then-eq-2.ensures ∙ sym (kind_at fields c.in-Some.kind.now c.in-Some.ensures.value ∙ rw (f, x) refl)

pub returns-then-eq-3 : goal.returns-then-eq-3
returns-then-eq-3 c =
    let fields = fields_of c.args.row.now in
    let f : bytes_eq c.in-Some.kind.now (codes "f") ≡ false = sym (rw c.as_slice.ensures at c.if-eq.ensures) in
    let x : bytes_eq c.in-Some.kind.now (codes "x") ≡ false = sym (rw c.as_slice-2.ensures at c.if-eq-2.ensures) in
    let t : bytes_eq c.in-Some.kind.now (codes "t") ≡ true = sym (rw c.as_slice-3.ensures at c.if-eq-3.ensures) in
    let tweet : tweet_of (drop 1 fields) ≡ record_of fields = sym (kind_at fields c.in-Some.kind.now c.in-Some.ensures.value ∙ rw (f, x, t) refl) in
    subst (λ (r : Record). IfOk c.read_tweet.result (λ s. s ≡ r)) tweet c.read_tweet.ensures

pub returns : goal.returns
returns c =
    let fields = fields_of c.args.row.now in
    let f : bytes_eq c.in-Some.kind.now (codes "f") ≡ false = sym (rw c.as_slice.ensures at c.if-eq.ensures) in
    let x : bytes_eq c.in-Some.kind.now (codes "x") ≡ false = sym (rw c.as_slice-2.ensures at c.if-eq-2.ensures) in
    let t : bytes_eq c.in-Some.kind.now (codes "t") ≡ false = sym (rw c.as_slice-3.ensures at c.if-eq-3.ensures) in
    sym (kind_at fields c.in-Some.kind.now c.in-Some.ensures.value ∙ rw (f, x, t) refl)
