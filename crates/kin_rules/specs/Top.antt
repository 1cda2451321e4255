-- The entries with the greatest numbers.
use Rattle.std.specs.Prelude.{◌≡◌, ◌⊎◌, ℕ, nat_lt, List, [], ◌∷◌, filter, take, map, if◌then◌else◌}
use Rattle.std.specs.Ordering.{nat_cmp, ordering_then, is_lt}
use Rattle.std.specs.declared.cmp.Ordering.{Ordering}
use Rattle.std.specs.declared.cmp.Ordering.TheVariants.{Less}
use Rattle.std.specs.List.{IsDistinct, list_any}
use Rattle.std.specs.List.Sorted.{IsPermutation}
use Rattle.kin_ids.specs.declared.ids.User.{User}
use Rattle.kin_ids.specs.Users.{user_cmp, tag_cmp, same_user, same_tag, has_user}
use Rattle.kin_rules.specs.declared.numbers.UserNumber.{UserNumber}
use Rattle.kin_rules.specs.declared.numbers.TagNumber.{TagNumber}

-- greater numbers first, ties by the lesser user
abbrev pub user_order : UserNumber → UserNumber → Ordering
user_order a b = ordering_then (nat_cmp b.number a.number) (user_cmp a.user b.user)

-- greater numbers first, ties by the lesser tag
abbrev pub tag_order : TagNumber → TagNumber → Ordering
tag_order a b = ordering_then (nat_cmp b.number a.number) (tag_cmp a.tag b.tag)

-- x in a list in order, behind the entries before it
abbrev pub placed : {A : Type 0} → (A → A → Ordering) → A → List A → List A
placed order x [] = x ∷ []
placed order x (y ∷ ys) = if is_lt (order y x) then y ∷ placed order x ys else x ∷ y ∷ ys

-- the entries in order
abbrev pub in_order : {A : Type 0} → (A → A → Ordering) → List A → List A
in_order order [] = []
in_order order (x ∷ xs) = placed order x (in_order order xs)

-- the entries with a number above 0
abbrev pub positive_users : List UserNumber → List UserNumber
positive_users entries = filter (λ e. nat_lt 0 e.number) entries

abbrev pub positive_tags : List TagNumber → List TagNumber
positive_tags entries = filter (λ e. nat_lt 0 e.number) entries

-- the first t of them
abbrev pub top_users : List UserNumber → ℕ → List UserNumber
top_users entries t = take t (in_order user_order (positive_users entries))

abbrev pub top_tags : List TagNumber → ℕ → List TagNumber
top_tags entries t = take t (in_order tag_order (positive_tags entries))

-- x is before the first of these, or the same
abbrev pub Leads : {A : Type 0} → (A → A → Ordering) → A → List A → Type 0
Leads order x [] = Unit {0}
Leads order x (y ∷ ys) = (order x y ≡ Less) ⊎ (x ≡ y)

-- each entry is before the next, or the same
abbrev pub IsInOrder : {A : Type 0} → (A → A → Ordering) → List A → Type 0
IsInOrder order [] = Unit {0}
IsInOrder order (x ∷ xs) = Leads order x xs × IsInOrder order xs

-- the list has these entries, in order, and no other list has them in order
pub record IsOrdering {A : Type 0} (order : A → A → Ordering) (entries ordered : List A) : Type 0 where
  pub same : IsPermutation entries ordered
  pub ascends : IsInOrder order ordered
  pub only : (other : List A) → IsPermutation entries other → IsInOrder order other → other ≡ ordered

abbrev pub UsersAreOrdered : Type 0
UsersAreOrdered = (entries : List UserNumber) → IsOrdering user_order entries (in_order user_order entries)

abbrev pub TagsAreOrdered : Type 0
TagsAreOrdered = (entries : List TagNumber) → IsOrdering tag_order entries (in_order tag_order entries)

-- a list of users, each with its number
abbrev pub numbered_users : (User → ℕ) → List User → List UserNumber
numbered_users f us = map (λ u. record { user = u; number = f u }) us

-- the top list is the same in whatever order users come, each once
abbrev pub UsersInAnyOrder : Type 0
UsersInAnyOrder =
    (f : User → ℕ) (us vs : List User) (t : ℕ) → IsDistinct same_user us → IsDistinct same_user vs → ((u : User) → has_user us u ≡ has_user vs u)
    → top_users (numbered_users f us) t ≡ top_users (numbered_users f vs) t

-- a list of tags, each with its number
abbrev pub numbered_tags : (List ℕ → ℕ) → List (List ℕ) → List TagNumber
numbered_tags f ts = map (λ t. record { tag = t; number = f t }) ts

-- the top list is the same in whatever order tags come, each once
abbrev pub TagsInAnyOrder : Type 0
TagsInAnyOrder =
    (f : List ℕ → ℕ) (ss ts : List (List ℕ)) (t : ℕ) → IsDistinct same_tag ss → IsDistinct same_tag ts → ((x : List ℕ) → list_any (same_tag x) ss ≡ list_any (same_tag x) ts)
    → top_tags (numbered_tags f ss) t ≡ top_tags (numbered_tags f ts) t
