-- Every record of a feed is small.
use Rattle.std.proofs.Common.{ℕ, ◌&&◌, leb, List, [], ◌∷◌, Option, Some, None, length, get_or}
use Rattle.std.specs.Prelude.{map, codes, All}
use Rattle.std.specs.Str.{bytes_eq}
use Rattle.std.proofs.lemmas.Bool.{cond_both, and_parts, leb-true}
use Rattle.std.proofs.lemmas.List.Elements.{All-map}
use Rattle.kin_ids.specs.declared.ids.User.{User}
use Rattle.kin_ids.specs.declared.ops.Item.{Item}
use Rattle.kin_ids.specs.declared.ops.Record.TheVariants as record_kind
use Rattle.kin_ids.specs.Texts.{user_of}
use Rattle.kin_ids.specs.Sizes.{IsSmall}
use Rattle.kin_feed.specs.Records.{edge_of, pair_of, tweet_by, tweet_of, items_of, record_by, record_of}

follow_small : (p : Option (User × User)) → IsSmall (edge_of record_kind.Follow p)
follow_small (Some p) = tt
follow_small None = tt

unfollow_small : (p : Option (User × User)) → IsSmall (edge_of record_kind.Unfollow p)
unfollow_small (Some p) = tt
unfollow_small None = tt

tweet_small : (u : Option User) (items : Option (List Item)) → IsSmall (tweet_by u items)
tweet_small (Some u) (Some items) = cond_both (leb 1 (length items) && leb (length items) 16) (record_kind.Tweet u items) record_kind.Bad IsSmall
    (λ e. leb-true _ _ (and_parts _ _ e).1) (λ _. tt)
tweet_small (Some u) None = tt
tweet_small None items = tt

tweet_of_small : (fields : List (List ℕ)) → IsSmall (tweet_of fields)
tweet_of_small [] = tt
tweet_of_small (u ∷ items) = tweet_small (user_of u) (items_of items)

small_by : (kind : List ℕ) (fields : List (List ℕ)) → IsSmall (record_by kind fields)
small_by kind fields =
    cond_both (bytes_eq kind (codes "f")) _ _ IsSmall (λ _. follow_small (pair_of fields))
    (λ _. cond_both (bytes_eq kind (codes "x")) _ _ IsSmall (λ _. unfollow_small (pair_of fields))
    (λ _. cond_both (bytes_eq kind (codes "t")) _ _ IsSmall (λ _. tweet_of_small fields) (λ _. tt)))

small : (row : List (List ℕ)) → IsSmall (record_of row)
small [] = tt
small (kind ∷ fields) = small_by kind fields

pub small_rows : (rows : List (List (List ℕ))) → All IsSmall (map record_of rows)
small_rows rows = All-map IsSmall record_of rows (λ k d _. small (get_or rows k d))
