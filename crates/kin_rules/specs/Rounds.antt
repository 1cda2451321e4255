-- Values of users by place, and rounds of offers between them, cost by cost.
use Rattle.std.specs.Prelude.{◌==◌, ◌&&◌, ◌+◌, ◌-◌, ◌<◌, ℕ, IfSome, nat_lt, Bool, true, false, List, [], ◌∷◌, ◌++◌, Option, Some, None, get_or, set, length, replicate, if◌then◌else◌}
use Rattle.kin_graph.specs.Rows.{is_none}
use Rattle.kin_rules.specs.declared.rounds.Offers.{Offers}

-- The values by place, and the places of those who have yet to offer theirs: those of the next cost, of one more, and of
-- two more.
pub record Tally : Type 0 where
  pub values : List (Option ℕ)
  pub one : List ℕ
  pub two : List ℕ
  pub three : List ℕ

-- each offer of a round is above its cost
abbrev pub AreAbove : Offers → Type 0
AreAbove o = IfSome o.follow (λ m. o.cost < m) × IfSome o.mention (λ m. o.cost < m)

-- nobody has a value
abbrev pub blank_tally : ℕ → Tally
blank_tally n = record { values = replicate n None; one = []; two = []; three = [] }

-- the value at a place
abbrev pub value_at : Tally → ℕ → Option ℕ
value_at t p = get_or t.values p None

-- whether an offer is below a value; a first value counts as a fall
abbrev pub exceeds : Option ℕ → ℕ → Bool
exceeds None m = true
exceeds (Some n) m = nat_lt m n

-- whether the user at a place would take an offer
abbrev pub falls : Tally → ℕ → ℕ → Bool
falls t m p = nat_lt p (length t.values) && exceeds (value_at t p) m

-- the place last, where it is to be put
abbrev pub put : Bool → ℕ → List ℕ → List ℕ
put true p ps = ps ++ p ∷ []
put false p ps = ps

-- the place is listed among those whose cost lies so far ahead
abbrev pub listed : ℕ → ℕ → Tally → Tally
listed d p t = record t { one = put (d == 0) p t.one; two = put (d == 1) p t.two; three = put (nat_lt 1 d) p t.three }

-- the user at a place takes an offer where its value falls by it, and is listed
abbrev pub offered : ℕ → ℕ → ℕ → Tally → Tally
offered d m p t = if falls t m p then listed d p (record t { values = set t.values p (Some m) }) else t

-- an offer to each of these in turn
abbrev pub offered_all : ℕ → ℕ → List ℕ → Tally → Tally
offered_all d m [] t = t
offered_all d m (p ∷ ps) t = offered_all d m ps (offered d m p t)

-- an offer in the round of the cost c to all of these
abbrev pub pushed : ℕ → Option ℕ → List ℕ → Tally → Tally
pushed c None ps t = t
pushed c (Some m) ps t = offered_all (m - (c + 1)) m ps t

-- whether a value is c
abbrev pub has_cost : Option ℕ → ℕ → Bool
has_cost None c = false
has_cost (Some n) c = n == c

-- the user at a place offers along its edges, where its value is still the round's cost
abbrev pub turned : List (List ℕ) → List (List ℕ) → Offers → ℕ → Tally → Tally
turned follows mentions o p t =
    if has_cost (value_at t p) o.cost then pushed o.cost o.mention (get_or mentions p []) (pushed o.cost o.follow (get_or follows p []) t)
    else t

-- a turn of each of these
abbrev pub turned_all : List (List ℕ) → List (List ℕ) → Offers → List ℕ → Tally → Tally
turned_all follows mentions o [] t = t
turned_all follows mentions o (p ∷ ps) t = turned_all follows mentions o ps (turned follows mentions o p t)

-- the lists move up by one
abbrev pub shifted : Tally → Tally
shifted t = record t { one = t.two; two = t.three; three = [] }

-- all who have the round's cost offer it
abbrev pub round : List (List ℕ) → List (List ℕ) → Offers → Tally → Tally
round follows mentions o t = turned_all follows mentions o t.one (shifted t)

-- nobody has yet to offer
abbrev pub is_quiet : Tally → Bool
is_quiet t = is_none t.one && (is_none t.two && is_none t.three)
