use Rattle.std.proofs.Common.{rules, ◌≡◌, ◌∙◌, ◌<◌, ◌≤◌, ◌++◌, ◌∷◌, ℕ, List, [], length, map, refl, sym, subst, IfSome, Option, Some, Ok, Err, arith}
use Rattle.std.proofs.lemmas.List.{length-append}
use Rattle.std.proofs.lemmas.List.Sums.{sum_by-append, sum_by-cons}
use Rattle.std.specs.Result.{IsErrOf}
use Rattle.kin_io.specs.Outside.{Rose}
use Rattle.kin_ids.specs.declared.statuses.Which.TheVariants as which
use Rattle.kin_replay.specs.declared.refusals.Refusal.TheVariants as refusal
use Rattle.kin_replay.proofs.Loads.{map-last, map-next, rose-at, feeds-past}
use Rattle.kin_replay.proofs.files.load_feeds.Goals as goal

pub loop-name-preserved : goal.loop-name-preserved
loop-name-preserved g c =
    let inv = c.loop-name.invariant in
    let items : c.push.new.self.items ≡ c.loop-name.all.items ++ c.in_ok-bytes.bytes ∷ [] = c.in-Ok-push.ensures.items in
    let within : length c.in_ok-bytes.bytes.items ≤ c.loop-name.left = c.in_ok-bytes.ensures.within in
    let n : c.len.result ≡ length c.in_ok-bytes.bytes.items = search rules in
    let sum = sum_by-append (λ (f : List ℕ). length f) (map (λ f. f.items) c.loop-name.all.items) (c.in_ok-bytes.bytes.items ∷ []) in
    let one = sum_by-cons (λ (f : List ℕ). length f) c.in_ok-bytes.bytes.items [] in
    let last = map-last (λ f. f.items) c.loop-name.all.items c.in_ok-bytes.bytes in
    record {
      left = rw (items, last) (let was = inv.left in omega (arith, was, sum, one, within, n));
      count = rw items (let was = inv.count in omega (arith, was, length-append c.loop-name.all.items (c.in_ok-bytes.bytes ∷ [])));
      whole = λ files told.
          let i = c.loop-name.name-index in
          let name = c.name-item.result in
          let there : g.F.Shelf.content c.args.shelf.now name ≡ Some (files name) = rw c.name-item.is (told i name c.loop-name-test.true) in
          let bytes : c.in_ok-bytes.bytes.items ≡ files name = subst (λ (o : Option (List ℕ)). IfSome o (λ file. c.in_ok-bytes.bytes.items ≡ file)) (inv.content name ∙ there) c.in_ok-bytes.ensures.whole in
          rw (items, last, bytes, inv.whole files told, map-next files c.args.names.now i name c.loop-name-test.true, ← c.name-item.is) refl;
      content = λ n. c.load_file.ensures.content n ∙ inv.content n;
      calm = λ n. c.load_file.ensures.calm (λ (e : c.load_file.result ≡ Err refusal.Read). let bad : Ok c.in_ok-bytes.bytes ≡ Err refusal.Read = sym c.in_ok-bytes.was ∙ e in absurd cc) n ∙ inv.calm n;
    }

pub returns-in_err-bytes-clause-read : goal.returns-in_err-bytes-clause-read
returns-in_err-bytes-clause-read g c = λ e.
    let hit : IsErrOf c.load_file.result refusal.Read = search rules in
    let name = c.name-item.result in
    let rose : Rose (g.F.Shelf.faults c.args.shelf.now name) (g.F.Shelf.faults c.load_file.new.shelf name) = rw (← c.loop-name.invariant.calm name) (c.load_file.ensures.read hit) in
    rose-at (g.F.Shelf.faults c.args.shelf.now) (g.F.Shelf.faults c.load_file.new.shelf) c.args.names.now c.loop-name.name-index name c.loop-name-test.true (rw (← c.name-item.is) rose)

pub returns-in_err-bytes-clause-limit : goal.returns-in_err-bytes-clause-limit
returns-in_err-bytes-clause-limit g c = λ e files told.
    let inv = c.loop-name.invariant in
    let hit : IsErrOf c.load_file.result (refusal.Limit which.FeedBytes) = search rules in
    let i = c.loop-name.name-index in
    let name = c.name-item.result in
    let here : g.F.Shelf.content c.args.shelf.now name ≡ Some (files name) = rw c.name-item.is (told i name c.loop-name-test.true) in
    let past : IfSome (g.F.Shelf.content c.loop-name.shelf name) (λ file. c.loop-name.left < length file) = c.load_file.ensures.limit hit in
    let long : c.loop-name.left < length (files name) = subst (λ (o : Option (List ℕ)). IfSome o (λ file. c.loop-name.left < length file)) (inv.content name ∙ here) past in
    feeds-past files c.args.names.now (map (λ f. f.items) c.loop-name.all.items) i c.loop-name.left name c.loop-name-test.true (inv.whole files told) inv.left (rw (← c.name-item.is) long)
