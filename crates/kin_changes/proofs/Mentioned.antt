-- Whom an item mentions is the end of a mention edge, in the graph of any records.
use Rattle.std.proofs.Common.{◌≡◌, ◌∙◌, ◌++◌, ◌||◌, ⊎_elim, Bool, true, false, List, [], ◌∷◌, refl, sym, subst}
use Rattle.std.specs.List.{list_any}
use Rattle.std.proofs.lemmas.Bool.{cond_both, and_parts, or_cases, or_left, or_right, both_ways, true_from_ne_false}
use Rattle.std.proofs.lemmas.List.Folds.{list_any-append}
use Rattle.kin_ids.specs.declared.ids.User.{User}
use Rattle.kin_ids.specs.declared.stamps.Place.{Place}
use Rattle.kin_ids.specs.declared.ops.Item.{Item}
use Rattle.kin_ids.specs.declared.ops.Record.{Record}
use Rattle.kin_ids.specs.declared.ops.Item.TheVariants as item
use Rattle.kin_ids.specs.declared.ops.Record.TheVariants as record_kind
use Rattle.kin_ids.specs.Users.{same_user, has_user}
use Rattle.kin_ids.specs.Graph.{Graph, Mention, empty_graph, applied, item_applied, items_applied, is_mention, with_mention}
use Rattle.kin_ids.specs.Order.{Entry, folded}
use Rattle.kin_ids.proofs.Same.{same_user-true, list_any-weaker}
use Rattle.kin_changes.specs.Views.{HasMentioners, MentionersLaw}

abbrev is-end : User → Mention → Bool
is-end x m = same_user x m.end

or-none : (b : Bool) → b ≡ true → (b || false) ≡ true
or-none true e = refl
or-none false e = e

-- who was the end of a mention edge still is, and so is who is mentioned now
end-kept : (u w x : User) (ms : List Mention) → list_any (is-end x) ms ≡ true → list_any (is-end x) (with_mention u w ms) ≡ true
end-kept u w x ms e = cond_both (list_any (is_mention u w) ms) ms (ms ++ record { start = u; end = w } ∷ [])
    (λ ys. list_any (is-end x) ys ≡ true) (λ _. e)
    (λ _. list_any-append (is-end x) ms (record { start = u; end = w } ∷ []) ∙ or_left _ _ e)

end-new : (u w x : User) (ms : List Mention) → same_user x w ≡ true → list_any (is-end x) (with_mention u w ms) ≡ true
end-new u w x ms e = cond_both (list_any (is_mention u w) ms) ms (ms ++ record { start = u; end = w } ∷ [])
    (λ ys. list_any (is-end x) ys ≡ true)
    (λ t. true_from_ne_false (list_any (is-end x) ms) (λ none. both_ways _ (list_any-weaker (is_mention u w) (is-end x) ms
    (λ m s. subst (λ (v : User). same_user x v ≡ true) (same_user-true w m.end
    (and_parts (same_user u m.start) (same_user w m.end) s).1) e) none) t))
    (λ _. list_any-append (is-end x) ms (record { start = u; end = w } ∷ [])
    ∙ or_right (list_any (is-end x) ms) _ (or-none (same_user x w) e))

mentioned-item : (u : User) (at : Place) (g : Graph) (x : Item) → HasMentioners g → HasMentioners (item_applied u at g x)
mentioned-item u at g (item.At w) has = λ x there.
    ⊎_elim (λ (before : has_user g.mentioned x ≡ true). end-kept u w x g.mentions (has x before))
    (λ (now : has_user (w ∷ []) x ≡ true). ⊎_elim (λ (same : same_user x w ≡ true). end-new u w x g.mentions same)
    (λ (none : false ≡ true). absurd (both_ways false refl none)) (or_cases (same_user x w) false now))
    (or_cases (has_user g.mentioned x) (has_user (w ∷ []) x) (sym (list_any-append (same_user x) g.mentioned (w ∷ [])) ∙ there))
mentioned-item u at g (item.Hash t) has = has

mentioned-items : (u : User) (at : Place) (g : Graph) (xs : List Item) → HasMentioners g → HasMentioners (items_applied u at g xs)
mentioned-items u at g [] has = has
mentioned-items u at g (x ∷ xs) has = mentioned-items u at (item_applied u at g x) xs (mentioned-item u at g x has)

mentioned-applied : (at : Place) (g : Graph) (r : Record) → HasMentioners g → HasMentioners (applied at g r)
mentioned-applied at g (record_kind.Follow a b) has = has
mentioned-applied at g (record_kind.Unfollow a b) has = has
mentioned-applied at g (record_kind.Tweet u xs) has = mentioned-items u at g xs has
mentioned-applied at g record_kind.Bad has = has

pub mentioners-law : MentionersLaw
mentioners-law g [] has = has
mentioners-law g (x ∷ xs) has = mentioners-law (applied x.place g x.content) xs (mentioned-applied x.place g x.content has)

-- so it is in the graph of all records
pub all-mentioned : (entries : List Entry) → HasMentioners (folded empty_graph entries)
all-mentioned entries = mentioners-law empty_graph entries (λ u e. absurd (both_ways false refl e))
