-- The numbers of a whole view with few vertices have 64 bits.
use Rattle.std.proofs.Common.{◌≡◌, ◌<◌, ◌≤◌, ◌^◌, ◌∙◌, ◌||◌, ◌&&◌, ℕ, Bool, true, false, not, List, [], ◌∷◌, Option, Some, None, is_some, length, map, arith, refl, sym, ap, subst}
use Rattle.std.proofs.lemmas.Bool.{or_left, or_right}
use Rattle.std.proofs.lemmas.List.{length-map}
use Rattle.kin_ids.specs.declared.ids.User.{User}
use Rattle.kin_ids.specs.declared.ops.Use.{Use}
use Rattle.kin_ids.specs.Follows.{IsOnce}
use Rattle.kin_ids.specs.Parts.{PartView}
use Rattle.kin_ids.specs.Users.{same_tag, same_user, has_user}
use Rattle.kin_ids.proofs.Same.{same_user-refl}
use Rattle.kin_store.specs.Lists.{half_key, use_of}
use Rattle.kin_store.specs.Rows.{is_none}
use Rattle.kin_graph.proofs.Picking.{any-find}
use Rattle.kin_graph.specs.Views.{AreVertices, is_vertex}
use Rattle.kin_changes.specs.Views.{IsWholeView}
use Rattle.kin_counts.specs.Counts.{FitsNumbers}
use Rattle.kin_push.proofs.Edges.{any-some, half-member, view-whole}
use Rattle.kin_rules.specs.declared.kinds.EdgeKind.TheVariants as kind
use Rattle.kin_rules.specs.Instances.{hops_rule}
use Rattle.kin_rules.specs.Kept.{Within}
use Rattle.kin_rules.proofs.Simple.{pigeons}
use Rattle.kin_mine.specs.Lanes.{no_user}

within : (xs us : List User) → ((w : User) → has_user xs w ≡ true → has_user us w ≡ true) → Within xs us
within [] us all = tt
within (x ∷ xs) us all = (all x (or_left (same_user x x) (has_user xs x) (same_user-refl x)), within xs us (λ w there. all w (or_right (same_user w x) (has_user xs w) there)))

-- distinct users among few are few
few : (xs us : List User) → IsOnce same_user xs → ((w : User) → has_user xs w ≡ true → has_user us w ≡ true) → length xs ≤ length us
few xs us once all = pigeons xs us once (within xs us all)

some-use : (xs : List Use) (t : List ℕ) → is_some (use_of xs t) ≡ true → is_none xs ≡ false
some-use xs t h = any-some (λ (x : Use). same_tag t x.tag) xs (any-find (λ (x : Use). same_tag t x.tag) xs ∙ h)

off : (b c : Bool) → c ≡ false → not (b && c) ≡ true
off true c e = rw e refl
off false c e = refl

uses-vertex : (v : PartView) (u : User) → is_none (v.uses u) ≡ false → is_vertex v u ≡ true
uses-vertex v u h = off ((is_none (v.out u) && is_none (v.inn u)) && (is_none (v.mentions u) && is_none (v.mentioners u))) (is_none (v.uses u)) h

module _ (v : PartView) (us : List User) (whole : IsWholeView v) (are : AreVertices v us) (small : length us ≤ 2 ^ 27) where
  outs : (u : User) → length (v.out u) ≤ length us
  outs u = subst (λ (n : ℕ). n ≤ length us) (length-map (v.out u) half_key)
      (few (map half_key (v.out u)) us (whole.out_once u) (λ w there. (view-whole (hops_rule no_user) v us whole are kind.Follow u w there).1))

  ins : (u : User) → length (v.inn u) ≤ length us
  ins u = subst (λ (n : ℕ). n ≤ length us) (length-map (v.inn u) half_key)
      (few (map half_key (v.inn u)) us (whole.in_once u)
      (λ w there. (view-whole (hops_rule no_user) v us whole are kind.Follow w u (half-member (v.out w) u ∙ (whole.follows w u ∙ (sym (half-member (v.inn u) w) ∙ there)))).0))

  tag_users : (t : List ℕ) → length (v.tag_users t) ≤ length us
  tag_users t = few (v.tag_users t) us (whole.tag_users_once t) (λ w there. are.all w ∙ uses-vertex v w (some-use (v.uses w) t (whole.tagged w t ∙ there)))

  pub fits : ((u : User) → v.said u < 2 ^ 64) → FitsNumbers v
  fits said = record {
    ins = λ u. omega (arith, ins u, small);
    outs = λ u. omega (arith, outs u, small);
    said = said;
    tag_users = λ t. omega (arith, tag_users t, small);
  }
