-- Exposure as a rule of layers.
use Rattle.std.specs.Prelude.{◌≡◌, ◌==◌, ◌&&◌, ℕ, Bool, List, [], map, nat_eq}
use Rattle.std.specs.Ordering.{nat_cmp, ordering_then}
use Rattle.std.specs.declared.cmp.Ordering.{Ordering}
use Rattle.std.specs.Cmp.Lexicographic.{pointwise}
use Rattle.std.specs.List.{list_any, count_by, sum_by}
use Rattle.kin_ids.specs.declared.stamps.Place.{Place}
use Rattle.kin_ids.specs.declared.ops.Use.{Use}
use Rattle.kin_ids.specs.Users.{is_before, same_tag, tag_cmp}
use Rattle.kin_ids.specs.Graph.{Graph, vertices}
use Rattle.kin_rules.specs.declared.exposure_rules.UseK.{UseK}
use Rattle.kin_rules.specs.declared.pull_rules.Input.{Input}
use Rattle.kin_rules.specs.declared.pull_rules.Side.TheVariants as side
use Rattle.kin_rules.specs.Exposure.{exposure}
use Rattle.kin_rules.specs.Layers.{LayerRule, layer_of}
use Rattle.kin_rules.specs.Top.{in_order}

-- whether one of these uses is of the same tag and before this one
abbrev pub is_earlier : Use → List Use → Bool
is_earlier x uses = list_any (λ w. same_tag x.tag w.tag && is_before w.first x.first) uses

-- how many inputs used the tag before this use
abbrev pub earlier : {V : Type 0} → List (Input V) → Use → ℕ
earlier inputs x = count_by (λ i. is_earlier x i.facts.uses) inputs

abbrev pub use_k : {V : Type 0} → List (Input V) → Use → UseK
use_k inputs x = record { tag = x.tag; k = earlier inputs x }

-- by tag, then by number
abbrev pub use_k_order : UseK → UseK → Ordering
use_k_order a b = ordering_then (tag_cmp a.tag b.tag) (nat_cmp a.k b.k)

abbrev pub same_place : Place → Place → Bool
same_place a b = (a.epoch.0 == b.epoch.0 && a.ingest.0 == b.ingest.0) && a.number == b.number

-- the same tags first used at the same places, in turn
abbrev pub same_uses : List Use → List Use → Bool
same_uses was now = pointwise (λ a b. pointwise nat_eq a.tag b.tag && same_place a.first b.first) was now

-- For each tag that the user has used, in the order of tags, how many of those whom it follows used it before. Own facts and inputs
-- count as the same where their uses are.
abbrev pub exposure_rule : LayerRule (List UseK)
exposure_rule = record {
  side = side.Out;
  first = [];
  next = λ own inputs. in_order use_k_order (map (use_k inputs) own.uses);
  own_alike = λ a b. same_uses a.uses b.uses;
  alike = λ a v b w. same_uses a.uses b.uses;
}

-- whether an entry is of a tag and has the number k
abbrev pub is_entry : List ℕ → ℕ → UseK → Bool
is_entry t k e = same_tag t e.tag && e.k == k

-- the vertices' entries of a tag with the number k are the users of the tag with the exposure k
abbrev pub ExposuresAreLayers : Type 0
ExposuresAreLayers = (g : Graph) (t : List ℕ) (k : ℕ) → sum_by (λ u. count_by (is_entry t k) (layer_of exposure_rule g 1 u)) (vertices g) ≡ exposure g t k
