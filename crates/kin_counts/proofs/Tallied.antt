-- What is counted in tables after deltas.
use Rattle.std.proofs.Common.{◌≡◌, ◌<◌, ◌≤◌, ◌+◌, ◌^◌, ◌∙◌, ℕ, List, [], ◌∷◌, length, count_by, sym, ap, arith}
use Rattle.std.proofs.lemmas.List.Sums.{count_by-le-length, sum_by-cons, sum_by-le-sum_by}
use Rattle.kin_ids.specs.declared.ids.User.{User}
use Rattle.kin_ids.specs.declared.ops.Half.{Half}
use Rattle.kin_graph.specs.Deltas.{DeltaLists}
use Rattle.kin_changes.specs.Told.{pairs_of, said_more, tag_more}
use Rattle.kin_changes.proofs.Counts.{counts-law, gone-in, gone-out}
use Rattle.kin_counts.specs.Changes.{raised, lowered}
use Rattle.kin_counts.specs.Tallies.{TallyView, TalliesOn, kept, kept_tag, delta_items, items_in, listed}
use Rattle.kin_counts.proofs.Moving.{raised-fits}

-- no list has more items than all
pub few-listed : {X : Type 0} (lists : DeltaLists → List X) → ((d : DeltaLists) → length (lists d) ≤ delta_items d)
    → (ds : List DeltaLists) → listed lists ds ≤ items_in ds
few-listed lists few ds = sum_by-le-sum_by (λ d. length (lists d)) delta_items ds few

-- nor have two lists
pub few-both : {X Y : Type 0} (first : DeltaLists → List X) (second : DeltaLists → List Y)
    → ((d : DeltaLists) → length (first d) + length (second d) ≤ delta_items d) → (ds : List DeltaLists)
    → listed first ds + listed second ds ≤ items_in ds
few-both first second few [] = omega arith
few-both first second few (d ∷ ds) =
    omega (
      arith,
      sum_by-cons (λ d. length (first d)) d ds,
      sum_by-cons
          (λ d. length (second d)) d ds,
      sum_by-cons delta_items d ds,
      few d,
      few-both first second few ds,
    )

-- a number that went and came
moved : (n gone now m : ℕ) → m + gone ≡ n + now → gone ≤ n → m < 2 ^ 64 → raised now (lowered gone n) ≡ m
moved n gone now m same less small = raised-fits now (lowered gone n) (omega (arith, same, less, small)) ∙ omega (arith, same, less)

grown : (n more m : ℕ) → m ≡ n + more → m < 2 ^ 64 → raised more n ≡ m
grown n more m same small = raised-fits more n (omega (arith, same, small)) ∙ sym same

pub tallied : (ds : List DeltaLists) (old new : TallyView) → ((u : User) → kept new.ins u
    ≡ raised (pairs_of (λ d. d.now_in) ds u) (lowered (pairs_of (λ d. d.gone_in) ds u) (kept old.ins u)))
    → ((u : User) → kept new.outs u ≡ raised (pairs_of (λ d. d.now_out) ds u) (lowered (pairs_of (λ d. d.gone_out) ds u) (kept old.outs u)))
    → ((u : User) → kept new.said u ≡ raised (said_more ds u) (kept old.said u))
    → ((t : List ℕ) → kept_tag new.tag_users t ≡ raised (tag_more ds t) (kept_tag old.tag_users t)) → TalliesOn ds old new
tallied ds old new ins outs said tags was is led fits counts = record {
  ins = λ u. ins u ∙ (ap (λ (n : ℕ). raised (pairs_of (λ d. d.now_in) ds u) (lowered (pairs_of (λ d. d.gone_in) ds u) n)) (counts.ins u)
      ∙ moved (count_by (λ (h : Half). h.present) (was.inn u)) (pairs_of (λ d. d.gone_in) ds u) (pairs_of (λ d. d.now_in) ds u)
      (count_by (λ (h : Half). h.present) (is.inn u))
      ((counts-law was is ds led).ins u) (gone-in was is ds led u)
      (omega (arith, count_by-le-length (λ (h : Half). h.present) (is.inn u), fits.ins u)));
  outs = λ u. outs u ∙ (ap (λ (n : ℕ). raised (pairs_of (λ d. d.now_out) ds u) (lowered (pairs_of (λ d. d.gone_out) ds u) n))
      (counts.outs u)
      ∙ moved (count_by (λ (h : Half). h.present) (was.out u)) (pairs_of (λ d. d.gone_out) ds u) (pairs_of (λ d. d.now_out) ds u)
      (count_by (λ (h : Half). h.present) (is.out u))
      ((counts-law was is ds led).outs u) (gone-out was is ds led u)
      (omega (arith, count_by-le-length (λ (h : Half). h.present) (is.out u), fits.outs u)));
  said = λ u. said u ∙ (ap (raised (said_more ds u)) (counts.said u)
      ∙ grown (was.said u) (said_more ds u) (is.said u) ((counts-law was is ds led).said u) (fits.said u));
  tag_users = λ t. tags t ∙ (ap (raised (tag_more ds t)) (counts.tag_users t)
      ∙ grown (length (was.tag_users t)) (tag_more ds t) (length (is.tag_users t)) ((counts-law was is ds led).tags t)
      (fits.tag_users t));
}
