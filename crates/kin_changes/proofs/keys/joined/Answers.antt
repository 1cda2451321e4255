use Rattle.std.proofs.Common.{◌≡◌, ◌++◌, List, sym, subst}
use Rattle.std.specs.List.Sorted.{IsPermutation, IsStrictlySortedBy}
use Rattle.std.specs.BTreeMap.{is_at}
use Rattle.std.proofs.lemmas.List.Filters.{dedup_is}
use Rattle.std.proofs.lemmas.List.Kept.{IsStrictlySortedBy-dedup}
use Rattle.kin_changes.proofs.Searched.{any-joined}
use Rattle.kin_changes.proofs.keys.joined.Goals as goal

pub returns-clause-ascend : goal.returns-clause-ascend
returns-clause-ascend g c =
    let together = c.sort.new.self.items in
    subst (IsStrictlySortedBy g.K.Ord.cmp) (sym (dedup_is g.K.PartialEq.eq together c.dedup.new.self.items c.dedup.ensures.filtered))
    (IsStrictlySortedBy-dedup g.met.K.Ord.total g.met.K.Ord.matches_eq together c.in_ok-sort.ensures.sorted)

pub returns-clause-all : goal.returns-clause-all
returns-clause-all g c =
    λ k.
    let together = c.sort.new.self.items in
    let appended : c.extend_from_slice.new.self.items ≡ c.sort_unstable.new.self.items ++ c.args.known.now =
    c.in_ok-extend_from_slice.ensures.items in
    any-joined g.K.Ord.cmp g.met.K.Ord.total c.requires g.K.PartialEq.eq g.met.K.Ord.matches_eq
    (is_at (g.K.Ord.cmp k)) c.args.known.now c.args.fresh.items c.sort_unstable.new.self.items together c.dedup.new.self.items
    c.sort_unstable.ensures.permutation
    (subst (λ (xs : List g.row.K.Denot). IsPermutation xs together) appended c.in_ok-sort.ensures.permutation)
    (dedup_is g.K.PartialEq.eq together c.dedup.new.self.items c.dedup.ensures.filtered)
