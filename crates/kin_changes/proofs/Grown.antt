-- What was ever added to a graph is there after any more records.
use Rattle.std.proofs.Common.{◌≡◌, ◌≤◌, ◌∙◌, ◌++◌, ℕ, true, cond, List, [], ◌∷◌, Option, Some, ap, arith}
use Rattle.std.specs.List.{list_any, find}
use Rattle.std.specs.Option.{option_or}
use Rattle.std.proofs.lemmas.Bool.{cond_both, or_left}
use Rattle.std.proofs.lemmas.List.Folds.{list_any-append, find-append}
use Rattle.std.proofs.lemmas.List.Sums.{sum_by_push}
use Rattle.kin_ids.specs.declared.ids.User.{User}
use Rattle.kin_ids.specs.declared.stamps.Place.{Place}
use Rattle.kin_ids.specs.declared.ops.Item.{Item}
use Rattle.kin_ids.specs.declared.ops.Record.{Record}
use Rattle.kin_ids.specs.declared.ops.Item.TheVariants as item
use Rattle.kin_ids.specs.declared.ops.Record.TheVariants as record_kind
use Rattle.kin_ids.specs.Users.{same_user}
use Rattle.kin_ids.specs.Graph.{Graph, Mention, TagUse, applied, item_applied, items_applied, is_edge, is_mention, is_use, with_mention, with_use, said}
use Rattle.kin_ids.specs.Order.{Entry, folded}
use Rattle.kin_ids.proofs.Edges.{any-with_follow, any-without_follow}

-- all that is in one graph is in another
pub record IsIn (g h : Graph) : Type 0 where
  pub edges : (u v : User) → list_any (is_edge u v) g.edges ≡ true → list_any (is_edge u v) h.edges ≡ true
  pub mentions : (u w : User) → list_any (is_mention u w) g.mentions ≡ true → list_any (is_mention u w) h.mentions ≡ true
  pub said : (u : User) → said g u ≤ said h u
  pub uses : (u : User) (t : List ℕ) (x : TagUse) → find (is_use u t) g.uses ≡ Some x → find (is_use u t) h.uses ≡ Some x

in-itself : (g : Graph) → IsIn g g
in-itself g = record { edges = λ u v e. e; mentions = λ u w e. e; said = λ u. omega arith; uses = λ u t x e. e }

in-between : (f g h : Graph) → IsIn f g → IsIn g h → IsIn f h
in-between f g h a b = record {
  edges = λ u v e. b.edges u v (a.edges u v e);
  mentions = λ u w e. b.mentions u w (a.mentions u w e);
  said = λ u. omega (arith, a.said u, b.said u);
  uses = λ u t x e. b.uses u t x (a.uses u t x e);
}

mention-kept : (a b u w : User) (ms : List Mention) → list_any (is_mention u w) ms ≡ true
    → list_any (is_mention u w) (with_mention a b ms) ≡ true
mention-kept a b u w ms e = cond_both (list_any (is_mention a b) ms) ms (ms ++ record { start = a; end = b } ∷ [])
    (λ xs. list_any (is_mention u w) xs ≡ true) (λ _. e)
    (λ _. list_any-append (is_mention u w) ms (record { start = a; end = b } ∷ []) ∙ or_left _ _ e)

use-kept : (a : User) (s : List ℕ) (at : Place) (u : User) (t : List ℕ) (xs : List TagUse) (x : TagUse) → find (is_use u t) xs ≡ Some x
    → find (is_use u t) (with_use a s at xs) ≡ Some x
use-kept a s at u t xs x e = cond_both (list_any (is_use a s) xs) xs (xs ++ record { user = a; tag = s; first = at } ∷ [])
    (λ ys. find (is_use u t) ys ≡ Some x) (λ _. e)
    (λ _. find-append (is_use u t) xs (record { user = a; tag = s; first = at } ∷ [])
    ∙ ap (λ (o : Option TagUse). option_or o (find (is_use u t) (record { user = a; tag = s; first = at } ∷ []))) e)

in-item : (u : User) (at : Place) (g : Graph) (x : Item) → IsIn g (item_applied u at g x)
in-item u at g (item.At w) = record {
  edges = λ a b e. e;
  mentions = λ a b e. mention-kept u w a b g.mentions e;
  said = λ a. omega (arith, sum_by_push (λ v. cond (same_user a v) 1 0) g.mentioned w);
  uses = λ a t x e. e;
}
in-item u at g (item.Hash t) = record {
  edges = λ a b e. e;
  mentions = λ a b e. e;
  said = λ a. omega arith;
  uses = λ a s x e. use-kept u t at a s g.uses x e;
}

in-items : (u : User) (at : Place) (g : Graph) (xs : List Item) → IsIn g (items_applied u at g xs)
in-items u at g [] = in-itself g
in-items u at g (x ∷ xs) = in-between g (item_applied u at g x) (items_applied u at g (x ∷ xs)) (in-item u at g x)
    (in-items u at (item_applied u at g x) xs)

in-applied : (at : Place) (g : Graph) (r : Record) → IsIn g (applied at g r)
in-applied at g (record_kind.Follow a b) = record {
  edges = λ u v e. any-with_follow u v a b at g.edges ∙ or_left _ _ e;
  mentions = λ u w e. e;
  said = λ u. omega arith;
  uses = λ u t x e. e;
}
in-applied at g (record_kind.Unfollow a b) = record {
  edges = λ u v e. any-without_follow u v a b g.edges ∙ e;
  mentions = λ u w e. e;
  said = λ u. omega arith;
  uses = λ u t x e. e;
}
in-applied at g (record_kind.Tweet u xs) = in-items u at g xs
in-applied at g record_kind.Bad = in-itself g

pub in-folded : (g : Graph) (xs : List Entry) → IsIn g (folded g xs)
in-folded g [] = in-itself g
in-folded g (x ∷ xs) = in-between g (applied x.place g x.content) (folded g (x ∷ xs)) (in-applied x.place g x.content)
    (in-folded (applied x.place g x.content) xs)
