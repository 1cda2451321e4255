-- A graph is sound where what is handed out of it is whole.
use Rattle.std.proofs.Common.{◌≡◌, ◌&&◌, ◌∙◌, Bool, true, false, cond, List, [], ◌∷◌, map, filter, refl, sym, ap, subst}
use Rattle.std.specs.List.{list_any}
use Rattle.std.proofs.lemmas.List.Sorted.{IsPermutation-map}
use Rattle.kin_ids.specs.declared.ids.User.{User}
use Rattle.kin_ids.specs.Users.{same_user, same_tag}
use Rattle.kin_ids.specs.Graph.{Graph, Edge, Mention, TagUse, half_out, use_at, mentions_of, uses_of}
use Rattle.kin_ids.specs.Follows.{IsOnce, IsSound}
use Rattle.kin_ids.specs.Parts.{PartView}
use Rattle.kin_ids.specs.Wholes.{IsViewOf}
use Rattle.kin_ids.proofs.Same.{same_user-refl, same_user-sym, same_tag-sym}
use Rattle.kin_ids.proofs.Whole.{any-map-filter}
use Rattle.kin_store.specs.Lists.{half_key, use_key}
use Rattle.kin_changes.specs.Views.{IsWholeView}
use Rattle.kin_changes.proofs.Wholes.{once-moved}
use Rattle.kin_pull.proofs.Rows.{map-after}

-- what stands once among those of each user stands once among all
once-by-user : {A K : Type 0} (user : A → User) (same : K → K → Bool) (key : A → K) (xs : List A)
    → ((u : User) → IsOnce same (map key (filter (λ x. same_user u (user x)) xs)))
    → IsOnce (λ x y. same_user (user x) (user y) && same (key x) (key y)) xs
once-by-user user same key [] once = tt
once-by-user {A = A} {K = K} user same key (x ∷ xs) once = (alone, once-by-user user same key xs (λ u. tail u (same_user u (user x)) (once u)))
  where
    mine : User → List A
    mine u = filter (λ y. same_user u (user y)) xs

    first : IsOnce same (key x ∷ map key (mine (user x)))
    first = subst (λ (b : Bool). IsOnce same (map key (cond b (x ∷ mine (user x)) (mine (user x))))) (same_user-refl (user x)) (once (user x))

    alone : list_any (λ y. same_user (user x) (user y) && same (key x) (key y)) xs ≡ false
    alone = sym (any-map-filter (same (key x)) key (λ y. same_user (user x) (user y)) xs) ∙ first.0

    tail : (u : User) (b : Bool) → IsOnce same (map key (cond b (x ∷ mine u) (mine u))) → IsOnce same (map key (mine u))
    tail u true h = h.1
    tail u false h = h

pub sound-of : (g : Graph) (v : PartView) → IsViewOf g v → IsWholeView v → IsSound g
sound-of g v seen whole = record {
  edges = once-by-user (λ (e : Edge). e.start) same_user (λ (e : Edge). e.end) g.edges
      (λ u. subst (IsOnce same_user) (ap (map half_key) (seen.out u) ∙ map-after half_key half_out (filter (λ e. same_user u e.start) g.edges)) (whole.out_once u));
  mentions = once-by-user (λ (m : Mention). m.start) same_user (λ (m : Mention). m.end) g.mentions
      (λ u. once-moved same_user same_user-sym (v.mentions u) (mentions_of g u) (seen.mentions u) (whole.mentions_once u));
  uses = once-by-user (λ (x : TagUse). x.user) same_tag (λ (x : TagUse). x.tag) g.uses
      (λ u. subst (IsOnce same_tag) (map-after use_key use_at (filter (λ x. same_user u x.user) g.uses))
      (once-moved same_tag same_tag-sym (map use_key (v.uses u)) (map use_key (uses_of g u)) (IsPermutation-map use_key (v.uses u) (uses_of g u) (seen.uses u)) (whole.uses_once u)));
}
