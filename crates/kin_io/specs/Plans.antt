-- Which calls of an object in memory are to fail, and how many were made.
use Rattle.std.specs.Prelude.{◌≡◌, ◌+◌, ◌-◌, ◌^◌, ◌==◌, ◌||◌, ℕ, Bool, min}
use Rattle.std.specs.BTreeSet.{contains_by}
use Rattle.std.specs.Ordering.{nat_cmp}
use Rattle.kin_io.specs.declared.plans.CallPlan.{CallPlan}

-- one more, where a number at 2^64 - 1 stands still
abbrev pub one_more : ℕ → ℕ
one_more n = min (n + 1) (2 ^ 64 - 1)

-- how many calls were made
abbrev pub made : CallPlan → ℕ
made p = p.made

-- whether the call of this number is to fail
abbrev pub is_failing : CallPlan → ℕ → Bool
is_failing p call = contains_by (nat_cmp call) p.failing

-- whether the next call is to fail
abbrev pub fails_next : CallPlan → Bool
fails_next p = is_failing p (one_more (made p))

-- the same calls are to fail
abbrev pub SameFailing : CallPlan → CallPlan → Type 0
SameFailing old new = (call : ℕ) → is_failing new call ≡ is_failing old call

-- one more call is to fail
abbrev pub FailsAlso : CallPlan → CallPlan → ℕ → Type 0
FailsAlso old new n = (call : ℕ) → is_failing new call ≡ (call == n || is_failing old call)
