use Rattle.std.proofs.Common.{◌≡◌, ◌<◌, Bool, true, false, Some, None, take, length, sym, ap, ◌∙◌, rules, arith}
use Rattle.std.specs.BTreeMap.{is_at}
use Rattle.kin_store.specs.Lists.{place_of}
use Rattle.kin_store.proofs.Hinting.{head-found, hint-yes, hint-none, hint-other, hint-beyond}
use Rattle.kin_store.proofs.lists.place_in.Goals as goal

pub returns-in-Some : goal.returns-in-Some
returns-in-Some g c =
    let p : g.row.T.Denot → Bool = λ x. is_at (g.K.Ord.cmp c.args.key) (g.T.Keyed.key x) in
    let found : Some c.in-Some.at ≡ place_of g.K.Ord.cmp g.T.Keyed.key c.args.key (take 16 c.args.items.now) = search rules in
    head-found p c.args.items.now 16 c.in-Some.at found

pub returns-in_default-hint : goal.returns-in_default-hint
returns-in_default-hint g c =
    let p : g.row.T.Denot → Bool = λ x. is_at (g.K.Ord.cmp c.args.key) (g.T.Keyed.key x) in
    let none : place_of g.K.Ord.cmp g.T.Keyed.key c.args.key (take 16 c.args.items.now) ≡ None = search rules in
    hint-none p c.args.items.now 16 c.args.hint c.requires none c.in_default-hint.is

pub returns-then-at-len : goal.returns-then-at-len
returns-then-at-len g c =
    let p : g.row.T.Denot → Bool = λ x. is_at (g.K.Ord.cmp c.args.key) (g.T.Keyed.key x) in
    let none : place_of g.K.Ord.cmp g.T.Keyed.key c.args.key (take 16 c.args.items.now) ≡ None = search rules in
    hint-beyond p c.args.items.now 16 c.args.hint c.requires none c.in-Some-hint.at c.in-Some-hint.is
    (omega (arith, c.if-at-len.true, c.len.ensures))

pub returns-then-is_eq : goal.returns-then-is_eq
returns-then-is_eq g c =
    let p : g.row.T.Denot → Bool = λ x. is_at (g.K.Ord.cmp c.args.key) (g.T.Keyed.key x) in
    let none : place_of g.K.Ord.cmp g.T.Keyed.key c.args.key (take 16 c.args.items.now) ≡ None = search rules in
    let within : c.in-Some-hint.at < length c.args.items.now = omega (arith, c.if-at-len.false, c.len.ensures) in
    let like : p c.at.result ≡ true = search rules in
    hint-yes p c.args.items.now 16 c.args.hint c.requires none c.in-Some-hint.at c.at.result c.in-Some-hint.is within
    (ap p (sym (c.at.ensures c.at.result)) ∙ like)

pub returns : goal.returns
returns g c =
    let p : g.row.T.Denot → Bool = λ x. is_at (g.K.Ord.cmp c.args.key) (g.T.Keyed.key x) in
    let none : place_of g.K.Ord.cmp g.T.Keyed.key c.args.key (take 16 c.args.items.now) ≡ None = search rules in
    let unlike : p c.at.result ≡ false = search rules in
    hint-other p c.args.items.now 16 c.args.hint c.requires none c.in-Some-hint.at c.at.result c.in-Some-hint.is
    (ap p (sym (c.at.ensures c.at.result)) ∙ unlike)
