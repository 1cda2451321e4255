-- The words that a seed gives: those of the generator xoshiro256++, from the state that SplitMix64 makes of the seed.
use Rattle.std.specs.Prelude.{ℕ, zero, suc, List}
use Rattle.rand_xoshiro.specs.Xoshiro256.{plus_plus, of_seed}
use Rattle.rand_xoshiro.specs.SplitMix64.{splitmix_seed}

-- the state of a generator: four words
abbrev pub State : Type 0
State = List ℕ

-- the state that a seed gives
unfoldable pub seeded : ℕ → State
seeded seed = of_seed (splitmix_seed 32 seed)

-- the draw at a state: a word of 64 bits
unfoldable pub draw : State → ℕ
draw state = (plus_plus state).0

-- the state after a draw
unfoldable pub after : State → State
after state = (plus_plus state).1

-- the state after so many draws
unfoldable pub past : ℕ → State → State
past zero state = state
past (suc count) state = past count (after state)
