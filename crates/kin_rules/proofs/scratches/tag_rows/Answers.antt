use Rattle.std.proofs.Common.{◌∙◌, ap, sym, map, List, ℕ}
use Rattle.std.specs.Prelude.{count_by}
use Rattle.kin_rules.specs.declared.exposure_rules.UseK.{UseK}
use Rattle.kin_rules.specs.Exposure.{exposures}
use Rattle.kin_rules.specs.ExposureLists.{counted, ks_of}
use Rattle.kin_rules.specs.ExposureRule.{is_entry}
use Rattle.kin_rules.specs.Scratches.{users_seen}
use Rattle.kin_rules.proofs.LayerViews.{map-same}
use Rattle.kin_rules.proofs.ScratchReads.{count-is, counted-is, lists-are}
use Rattle.kin_rules.proofs.scratches.tag_rows.Goals as goal

pub returns-clause-lists : goal.returns-clause-lists
returns-clause-lists g c =
    let f : List ℕ → ℕ = users_seen (g.V.View.seen c.args.view.now) in
    let counts = c.as_slice-3.ensures.value ∙ c.in_ok-tag_users.ensures ∙ ap (map f) (c.as_slice.ensures.value ∙ sym c.as_slice-2.ensures.value) in
    lists-are c.as_slice-4.result.now f c.in_ok-tags.tags.items c.in_ok-expos.expos.items
    (c.in_ok-expos.ensures f counts ∙ ap (map (λ t. counted (ks_of c.as_slice-4.result.now t) (f t))) c.as_slice-2.ensures.value)

pub returns-clause-expos : goal.returns-clause-expos
returns-clause-expos g c = λ h whole.
    let f : List ℕ → ℕ = users_seen (g.V.View.seen c.args.view.now) in
    let counts = c.as_slice-3.ensures.value ∙ c.in_ok-tag_users.ensures ∙ ap (map f) (c.as_slice.ensures.value ∙ sym c.as_slice-2.ensures.value) in
    c.in_ok-expos.ensures f counts ∙ ap (map (λ t. counted (ks_of c.as_slice-4.result.now t) (f t))) c.as_slice-2.ensures.value
    ∙ map-same (λ t. counted (ks_of c.as_slice-4.result.now t) (f t)) (exposures h) c.in_ok-tags.tags.items
    (λ t. counted-is h t c.as_slice-4.result.now (λ k. ap (λ (es : List UseK). count_by (is_entry t k) es) c.as_slice-4.ensures.value ∙ c.in_ok-entries.ensures h whole t k) (f t)
    (count-is h (g.V.View.seen c.args.view.now) whole t))
