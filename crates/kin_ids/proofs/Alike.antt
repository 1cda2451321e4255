-- The agreed order has to do with the positions of the nodes alone.
use Rattle.std.proofs.Common.{◌≡◌, ℕ, zero, suc, ◌<◌, ◌≤◌, List, refl, ap, arith, length}
use Rattle.kin_ids.specs.Types.{Record}
use Rattle.kin_ids.specs.Graph.{empty_graph}
use Rattle.kin_ids.specs.Order.{of_epoch, order, folded, snapshot}

pub of_epoch-alike : (feeds : List (List Record)) (e : ℕ) (a b c d : ℕ → ℕ) (n : ℕ) → ((i : ℕ) → i < n → a i ≡ c i) → ((i : ℕ) → i < n → b i ≡ d i) → of_epoch feeds e a b n ≡ of_epoch feeds e c d n
of_epoch-alike feeds e a b c d zero was now = refl
of_epoch-alike feeds e a b c d (suc n) was now = rw (of_epoch-alike feeds e a b c d n (λ i lt. was i (omega arith)) (λ i lt. now i (omega arith)), was n (omega arith), now n (omega arith)) refl

-- vectors that agree on the nodes up to an epoch give one order up to it
pub order-alike : (feeds : List (List Record)) (U V : ℕ → ℕ → ℕ) (k : ℕ) → ((j i : ℕ) → j ≤ k → i < length feeds → U j i ≡ V j i) → order feeds U k ≡ order feeds V k
order-alike feeds U V zero same = refl
order-alike feeds U V (suc k) same = rw (order-alike feeds U V k (λ j i le lt. same j i (omega arith) lt), of_epoch-alike feeds (suc k) (U k) (U (suc k)) (V k) (V (suc k)) (length feeds) (λ i lt. same k i (omega arith) lt) (λ i lt. same (suc k) i (omega arith) lt)) refl

-- and one graph
pub snapshot-alike : (feeds : List (List Record)) (U V : ℕ → ℕ → ℕ) (k : ℕ) → ((j i : ℕ) → j ≤ k → i < length feeds → U j i ≡ V j i) → snapshot feeds U k ≡ snapshot feeds V k
snapshot-alike feeds U V k same = ap (folded empty_graph) (order-alike feeds U V k same)
