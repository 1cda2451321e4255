-- What a result shows of ranks and exposures is the graph's, where nobody is active.
use Rattle.std.proofs.Common.{◌≡◌, ◌<◌, ◌≤◌, ◌+◌, ◌∙◌, ◌==◌, ℕ, zero, suc, Bool, true, false, cond, nat_lt, List, [], ◌∷◌, length, get_or, map, filter, count_by, All, arith, refl, sym, ap, subst}
use Rattle.std.specs.List.{flat_map}
use Rattle.std.proofs.lemmas.Bool.{or_parts}
use Rattle.std.proofs.lemmas.Bool.Decides.{nat_tests}
use Rattle.std.proofs.lemmas.List.{append-nil, ext_get_or, get_or-map, length-map}
use Rattle.std.proofs.lemmas.List.FromFn.{filter_of_map_range_with_len_more}
use Rattle.std.proofs.lemmas.List.Sorted.{sum_by-IsPermutation}
use Rattle.kin_ids.specs.declared.ids.User.{User}
use Rattle.kin_ids.specs.Follows.{IsSound}
use Rattle.kin_ids.specs.Graph.{Graph, vertices}
use Rattle.kin_ids.specs.Parts.{PartView}
use Rattle.kin_ids.specs.Users.{same_tag}
use Rattle.kin_ids.specs.Wholes.{IsViewOf}
use Rattle.kin_ids.proofs.Vertices as graph
use Rattle.kin_graph.specs.Views.{AreVertices}
use Rattle.kin_graph.proofs.Wholes.{whole-vertices}
use Rattle.kin_changes.specs.Views.{IsWholeView}
use Rattle.kin_changes.proofs.Spreads.{sums-alike}
use Rattle.kin_rules.specs.declared.exposure_rules.UseK.{UseK}
use Rattle.kin_rules.specs.declared.numbers.KCount.{KCount}
use Rattle.kin_rules.specs.Counts.{tag_count}
use Rattle.kin_rules.specs.Exposure.{exposure, exposures}
use Rattle.kin_rules.specs.ExposureLists.{IsTally, counted, ks_of}
use Rattle.kin_rules.specs.ExposureRule.{exposure_rule, is_entry}
use Rattle.kin_rules.specs.ExposureRuleLaws.{exposure-laws}
use Rattle.kin_rules.specs.Layers.{layer_of}
use Rattle.kin_rules.specs.Orderings.{count-cons}
use Rattle.kin_rules.specs.RankRule.{rank_rule}
use Rattle.kin_rules.specs.RankRuleLaws.{rank-laws}
use Rattle.kin_rules.specs.Ranks.{rank}
use Rattle.kin_rules.specs.Results.{ResultView}
use Rattle.kin_rules.proofs.Exposure.{exposures-few}
use Rattle.kin_rules.proofs.ExposureEntries.{exposures-are-layers}
use Rattle.kin_rules.proofs.LayerViews.{map-same}
use Rattle.kin_rules.proofs.RankRule.{ranks-are-layers}
use Rattle.kin_rules.proofs.ScratchReads.{counted-is}
use Rattle.kin_rules.proofs.SmallViews.{sorted-once}
use Rattle.kin_pull.specs.States.{IsQuiet, row_in, value_in}
use Rattle.kin_pull.specs.States as kept
use Rattle.kin_pull.proofs.Epochs.{quiet-law, view-law}
use Rattle.kin_scores.specs.Scores.{ScoresView, AreKept, StandOn, AreQuiet, AreShown, ShownLaw, entries_in}
use Rattle.kin_scores.proofs.Rows.{count-rows, row-is, same-members}
use Rattle.kin_scores.proofs.Sound.{sound-of}

-- ---- counted up to one number or another

none-from : (ks : List ℕ) (n : ℕ) → All (λ k. k < n) ks → (k : ℕ) → n ≤ k → count_by (λ x. x == k) ks ≡ 0
none-from [] n all k le = refl
none-from (x ∷ ks) n all k le =
    let below : x < n = all 0 0 (omega arith) in
    let apart : (x == k) ≡ false = grind (arith, nat_tests, below, le) in
    let rest = none-from ks n (λ i d lt. all (suc i) d (omega (arith, lt))) k le in
    count-cons (λ y. y == k) x ks ∙ rw apart (omega (arith, rest))

counted-more : (ks : List ℕ) (n d : ℕ) → ((k : ℕ) → n ≤ k → count_by (λ x. x == k) ks ≡ 0) → counted ks (n + d) ≡ counted ks n
counted-more ks n zero none = ap (counted ks) (omega arith)
counted-more ks n (suc d) none =
    let last : nat_lt 0 (count_by (λ x. x == (n + d)) ks) ≡ false = (let off = none (n + d) (omega arith) in grind (arith, nat_tests, off)) in
    ap (counted ks) (let e : n + suc d ≡ (n + d) + 1 = omega arith in e)
    ∙ filter_of_map_range_with_len_more (λ (c : KCount). nat_lt 0 c.users) (λ (k : ℕ). let c : KCount = record { k = k; users = count_by (λ x. x == k) ks } in c) 0 (n + d) (n + d) (omega arith)
    ∙ rw last (append-nil (counted ks (n + d))) ∙ counted-more ks n d none

counted-same : (ks : List ℕ) (n m : ℕ) → ((k : ℕ) → n ≤ k → count_by (λ x. x == k) ks ≡ 0) → ((k : ℕ) → m ≤ k → count_by (λ x. x == k) ks ≡ 0)
    → counted ks n ≡ counted ks m
counted-same ks n m none past = sym (counted-more ks n m none) ∙ ap (counted ks) (let e : n + m ≡ m + n = omega arith in e) ∙ counted-more ks m n past

-- the entries of a tag with a number, by their numbers
numbers-of : (t : List ℕ) (k : ℕ) (es : List UseK) → count_by (λ x. x == k) (ks_of es t) ≡ count_by (is_entry t k) es
numbers-of t k [] = refl
numbers-of t k (e ∷ es) = here (same_tag t e.tag) refl (numbers-of t k es) ∙ sym (count-cons (is_entry t k) e es)
  where
    here : (b : Bool) → same_tag t e.tag ≡ b → count_by (λ x. x == k) (ks_of es t) ≡ count_by (is_entry t k) es
        → count_by (λ x. x == k) (map (λ (y : UseK). y.k) (cond b (e ∷ filter (λ y. same_tag t y.tag) es) (filter (λ y. same_tag t y.tag) es)))
        ≡ cond (is_entry t k e) 1 0 + count_by (is_entry t k) es
    here true is rest = count-cons (λ x. x == k) e.k (ks_of es t) ∙ rw is (ap (λ (n : ℕ). cond (e.k == k) 1 0 + n) rest)
    here false is rest = rw is (omega (arith, rest))

-- a tally of a tag's entries is its exposures
tally-is : (g : Graph) (t : List ℕ) (es : List UseK) (list : List KCount) → IsSound g → ((k : ℕ) → count_by (is_entry t k) es ≡ exposure g t k)
    → IsTally (ks_of es t) list → list ≡ exposures g t
tally-is g t es list sound each is =
    is.2
    ∙ counted-same (ks_of es t) is.0 (tag_count g t) (none-from (ks_of es t) is.0 is.1)
    (λ k le. numbers-of t k es ∙ each k ∙ exposures-few g sound t k le)
    ∙ counted-is g t es each (tag_count g t) refl

pub ranks-quiet : (us : List User) (s : ScoresView) → AreQuiet us s → IsQuiet us s.ranks
ranks-quiet us s quiet x = (or_parts (kept.is_active us s.ranks x) (kept.is_active us s.expos x) (quiet x)).0

pub expos-quiet : (us : List User) (s : ScoresView) → AreQuiet us s → IsQuiet us s.expos
expos-quiet us s quiet x = (or_parts (kept.is_active us s.ranks x) (kept.is_active us s.expos x) (quiet x)).1

module _ (g : Graph) (v : PartView) (s : ScoresView) (r : ResultView) (seen : IsViewOf g v) (whole : IsWholeView v) (are : AreVertices v r.users)
    (known : AreKept r.users s) (on : StandOn v r.users s) (quiet : AreQuiet r.users s) (shown : AreShown s r) where
  ranks-shown : r.ranks ≡ map (rank g) r.users
  ranks-shown = shown.ranks ∙ row-is 8 0 r.users s.ranks 7 known.ranks (omega arith)
      ∙ map-same (value_in 0 r.users s.ranks 8) (rank g) r.users each
    where
      each : (u : User) → value_in 0 r.users s.ranks 8 u ≡ rank g u
      each u = quiet-law ℕ rank_rule 8 v r.users s.ranks rank-laws on.ranks (ranks-quiet r.users s quiet) 8 u (omega arith)
          ∙ view-law ℕ rank_rule 8 g v r.users s.ranks rank-laws seen on.ranks 8 u ∙ ranks-are-layers g 8 u

  entries-shown : (t : List ℕ) (k : ℕ) → count_by (is_entry t k) (entries_in s) ≡ exposure g t k
  entries-shown t k =
      ap (λ (rows : List (List UseK)). count_by (is_entry t k) (flat_map (λ (es : List UseK). es) rows)) (row-is 1 [] r.users s.expos 0 known.expos (omega arith))
      ∙ count-rows (is_entry t k) (value_in [] r.users s.expos 1) r.users
      ∙ sums-alike (λ u. count_by (is_entry t k) (value_in [] r.users s.expos 1 u)) (λ u. count_by (is_entry t k) (layer_of exposure_rule g 1 u)) r.users
      (λ u. ap (λ (es : List UseK). count_by (is_entry t k) es) (each u))
      ∙ sum_by-IsPermutation (λ u. count_by (is_entry t k) (layer_of exposure_rule g 1 u)) (vertices g) r.users
      (same-members (vertices g) r.users (graph.vertices-once g) (sorted-once r.users are.ascend) (λ w. sym (whole-vertices g v seen r.users are w)))
      ∙ exposures-are-layers g t k
    where
      each : (u : User) → value_in [] r.users s.expos 1 u ≡ layer_of exposure_rule g 1 u
      each u = quiet-law (List UseK) exposure_rule 1 v r.users s.expos exposure-laws on.expos (expos-quiet r.users s quiet) 1 u (omega arith)
          ∙ view-law (List UseK) exposure_rule 1 g v r.users s.expos exposure-laws seen on.expos 1 u

  expos-shown : r.expos ≡ map (exposures g) r.tags
  expos-shown = ext_get_or [] r.expos (map (exposures g) r.tags) (shown.expos.long ∙ sym (length-map r.tags (exposures g))) each
    where
      each : (i : ℕ) → i < length r.expos → get_or r.expos i [] ≡ get_or (map (exposures g) r.tags) i []
      each i lt =
          let within : i < length r.tags = subst (λ (n : ℕ). i < n) shown.expos.long lt in
          tally-is g (get_or r.tags i []) (entries_in s) (get_or r.expos i []) (sound-of g v seen whole) (entries-shown (get_or r.tags i [])) (shown.expos.each i within)
          ∙ sym (get_or-map (exposures g) r.tags i [] [] within)

pub shown-law : ShownLaw
shown-law g v s r seen whole are kept on quiet shown = (ranks-shown g v s r seen whole are kept on quiet shown, expos-shown g v s r seen whole are kept on quiet shown)
