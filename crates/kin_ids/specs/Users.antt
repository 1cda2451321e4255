-- Users, tags and places, compared.
use Rattle.std.specs.Prelude.{ℕ, ◌≡◌, ◌==◌, ◌&&◌, ◌||◌, nat_lt, Bool, true, List, [], ◌∷◌}
use Rattle.std.specs.Ordering.{nat_cmp}
use Rattle.std.specs.declared.cmp.Ordering.{Ordering}
use Rattle.std.specs.Cmp.Lexicographic.{slice_cmp}
use Rattle.std.specs.BTreeMap.{is_at}
use Rattle.std.specs.List.{list_any, list_all}
use Rattle.kin_ids.specs.Types.{User, Place}

-- users in the order of their numbers
abbrev pub user_cmp : User → User → Ordering
user_cmp a b = nat_cmp a.0 b.0

abbrev pub same_user : User → User → Bool
same_user a b = is_at (user_cmp a) b

-- tags in the order of their texts
abbrev pub tag_cmp : List ℕ → List ℕ → Ordering
tag_cmp s t = slice_cmp nat_cmp s t

abbrev pub same_tag : List ℕ → List ℕ → Bool
same_tag s t = is_at (tag_cmp s) t

-- whether a user is among these
abbrev pub has_user : List User → User → Bool
has_user us u = list_any (same_user u) us

-- a place before another: by epoch, then by node, then by record
abbrev pub is_before : Place → Place → Bool
is_before a b = nat_lt a.epoch.0 b.epoch.0
    || (a.epoch.0 == b.epoch.0 && (nat_lt a.ingest.0 b.ingest.0 || (a.ingest.0 == b.ingest.0 && nat_lt a.number b.number)))

-- each place is before all later ones
abbrev pub IsAscending : List Place → Type 0
IsAscending [] = Unit {0}
IsAscending (a ∷ later) = (list_all (is_before a) later ≡ true) × IsAscending later
