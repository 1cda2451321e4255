-- The cut with a number: the pending transactions of all nodes in turn, and the shortest front of them with enough records.
use Rattle.std.specs.Prelude.{ℕ, zero, suc, ◌≡◌, ◌<◌, ◌≤◌, ◌⊎◌, ◌+◌, ◌-◌, ◌==◌, ◌&&◌, ◌||◌, nat_lt, nat_le, Bool, true, if◌then◌else◌, List, [], ◌∷◌, ◌++◌, All, filter, length}
use Rattle.std.specs.List.{list_all}
use Rattle.kin_ids.specs.Types.{Stamp}
use Rattle.kin_ids.specs.Sizes.{most_batch}

-- a pending transaction: its node, its number within the node's pending list, and its stamp
pub record Waiting : Type 0 where
  pub node : ℕ
  pub number : ℕ
  pub stamp : Stamp

-- a node's transactions, numbered from n on
abbrev pub waiting_from : ℕ → ℕ → List Stamp → List Waiting
waiting_from i n [] = []
waiting_from i n (s ∷ ss) = record { node = i; number = n; stamp = s } ∷ waiting_from i (n + 1) ss

-- the pending transactions of the first nodes, each with its number within its node's list
abbrev pub all_waiting : (ℕ → List Stamp) → ℕ → List Waiting
all_waiting pending zero = []
all_waiting pending (suc i) = all_waiting pending i ++ waiting_from i 0 (pending i)

-- the lesser number goes first, and at equal numbers the lesser node
abbrev pub goes_first : Waiting → Waiting → Bool
goes_first a b = nat_lt a.number b.number || (a.number == b.number && nat_le a.node b.node)

-- a transaction among others in order, before the first that it goes before
abbrev pub put_in : Waiting → List Waiting → List Waiting
put_in x [] = x ∷ []
put_in x (y ∷ ys) = if goes_first x y then x ∷ y ∷ ys else y ∷ put_in x ys

-- these in order
abbrev pub ordered : List Waiting → List Waiting
ordered [] = []
ordered (x ∷ xs) = put_in x (ordered xs)

-- the pending transactions of all nodes, by number and then by node
abbrev pub in_turn : (ℕ → List Stamp) → ℕ → List Waiting
in_turn pending nodes = ordered (all_waiting pending nodes)

-- how many records a transaction has
abbrev pub size : Stamp → ℕ
size s = s.to - s.from

-- how many records these have together
abbrev pub records : List Waiting → ℕ
records [] = 0
records (t ∷ ts) = size t.stamp + records ts

-- the shortest front with at least n records, and all where none has
abbrev pub enough : ℕ → List Waiting → List Waiting
enough n [] = []
enough n (t ∷ ts) = if n == 0 then [] else t ∷ enough (n - size t.stamp) ts

-- the end of a node's last transaction among these, and a position where there is none
abbrev pub last_end : ℕ → ℕ → List Waiting → ℕ
last_end at i [] = at
last_end at i (t ∷ ts) = last_end (if t.node == i then t.stamp.to else at) i ts

-- where a cut with the number n ends node i, from its position in the last vector and each node's pending transactions
abbrev pub fair : (ℕ → ℕ) → (ℕ → List Stamp) → ℕ → ℕ → ℕ → ℕ
fair prev pending nodes n i = last_end (prev i) i (enough n (in_turn pending nodes))

-- a node's transactions among these
abbrev pub of_node : ℕ → List Waiting → List Waiting
of_node i ts = filter (λ t. t.node == i) ts

-- each goes before all later ones
abbrev pub IsByNumber : List Waiting → Type 0
IsByNumber [] = Unit {0}
IsByNumber (t ∷ later) = (list_all (goes_first t) later ≡ true) × IsByNumber later

-- the list has exactly the pending transactions of the nodes, by number and then by node
pub record IsInTurn (pending : ℕ → List Stamp) (nodes : ℕ) (ts : List Waiting) : Type 0 where
  pub by_number : IsByNumber ts
  pub each : (i : ℕ) → i < nodes → of_node i ts ≡ waiting_from i 0 (pending i)
  pub none : (i : ℕ) → nodes ≤ i → of_node i ts ≡ []

abbrev pub InTurnLaw : Type 0
InTurnLaw = (pending : ℕ → List Stamp) (nodes : ℕ) → IsInTurn pending nodes (in_turn pending nodes)

-- and it is the only such list
abbrev pub OnlyInTurnLaw : Type 0
OnlyInTurnLaw = (pending : ℕ → List Stamp) (nodes : ℕ) (ts : List Waiting) → IsInTurn pending nodes ts → ts ≡ in_turn pending nodes

-- these are the shortest front of the list with at least n records, or the whole list where none has
pub record IsShortest (n : ℕ) (all taken : List Waiting) : Type 0 where
  pub rest : List Waiting
  pub front : all ≡ taken ++ rest
  pub least : (n ≤ records taken) ⊎ (rest ≡ [])
  pub shortest : (shorter last : List Waiting) → taken ≡ shorter ++ last → 0 < length last → records shorter < n

abbrev pub ShortestLaw : Type 0
ShortestLaw = (n : ℕ) (all : List Waiting) → IsShortest n all (enough n all)

-- a transaction has 1 to 16 records
pub record IsSized (s : Stamp) : Type 0 where
  pub some : s.from < s.to
  pub few : s.to ≤ s.from + most_batch

-- a cut with the number n has at most n + 15 records, where each transaction has at most 16
abbrev pub FewLaw : Type 0
FewLaw = (pending : ℕ → List Stamp) (nodes n : ℕ) → ((i : ℕ) → i < nodes → All IsSized (pending i)) →
    records (enough n (in_turn pending nodes)) ≤ n + 15

-- how many transactions of a node are among these
abbrev pub count_of : ℕ → List Waiting → ℕ
count_of i ts = length (of_node i ts)

-- of two nodes a cut takes as many, but for one more of the other, or it takes all of the one
abbrev pub EvenLaw : Type 0
EvenLaw = (pending : ℕ → List Stamp) (nodes n i j : ℕ) → i < nodes → j < nodes →
    (count_of j (enough n (in_turn pending nodes)) ≤ count_of i (enough n (in_turn pending nodes)) + 1)
    ⊎ (count_of i (enough n (in_turn pending nodes)) ≡ length (pending i))
