-- The fields of a row by their places.
use Rattle.std.proofs.Common.{◌≡◌, ◌≢◌, ◌<◌, ℕ, zero, suc, List, [], ◌∷◌, length, drop, Some, None, ap, refl, arith}
use Rattle.csv.specs.Records.{field_at}
use Rattle.kin_ids.specs.declared.ops.Record.TheVariants as record_kind
use Rattle.kin_ids.specs.Texts.{user_of}
use Rattle.kin_feed.specs.Records.{pair_of, unlike, record_of, record_by}

-- a row of three fields
pub pair_at : (fs : List (List ℕ)) (u v : List ℕ) → length fs ≡ 3 → Some u ≡ field_at fs 1 → Some v ≡ field_at fs 2 → pair_of (drop 1 fs) ≡ unlike (user_of u) (user_of v)
unfolding field_at
pair_at [] u v n f g = absurd (omega (arith, n))
pair_at (x ∷ []) u v n f g = absurd (omega (arith, n))
pair_at (x ∷ y ∷ []) u v n f g = absurd (omega (arith, n))
pair_at (x ∷ y ∷ z ∷ []) u v n f g =
    let a : y ≡ u = cc in
    let b : z ≡ v = cc in
    rw (a, b) refl
pair_at (x ∷ y ∷ z ∷ w ∷ r) u v n f g = absurd (omega (arith, n))

-- a row of another length
pub no_pair : (fs : List (List ℕ)) → length fs ≢ 3 → pair_of (drop 1 fs) ≡ None
no_pair [] n = refl
no_pair (x ∷ []) n = refl
no_pair (x ∷ y ∷ []) n = refl
no_pair (x ∷ y ∷ z ∷ []) n = absurd (n refl)
no_pair (x ∷ y ∷ z ∷ w ∷ r) n = refl

pub no_second : (fs : List (List ℕ)) → None ≡ field_at fs 1 → pair_of (drop 1 fs) ≡ None
unfolding field_at
no_second [] e = refl
no_second (x ∷ []) e = refl
no_second (x ∷ y ∷ r) e = cc

pub no_third : (fs : List (List ℕ)) → None ≡ field_at fs 2 → pair_of (drop 1 fs) ≡ None
unfolding field_at
no_third [] e = refl
no_third (x ∷ []) e = refl
no_third (x ∷ y ∷ []) e = refl
no_third (x ∷ y ∷ z ∷ r) e = cc

-- what the fields at their places say of the pair
pub ruleset pair_lemmas = (pair_at, no_pair, no_second, no_third)

-- a field below the row's length is there
pub no_field : (fs : List (List ℕ)) (i : ℕ) → None ≡ field_at fs i → i < length fs → ⊥
unfolding field_at
no_field [] i e short = omega (arith, short)
no_field (x ∷ fs) zero e short = cc
no_field (x ∷ fs) (suc i) e short = no_field fs i e (omega (arith, short))

-- the record of a row by its first field
pub kind_at : (fs : List (List ℕ)) (kind : List ℕ) → Some kind ≡ field_at fs 0 → record_of fs ≡ record_by kind (drop 1 fs)
unfolding field_at
kind_at [] kind e = cc
kind_at (x ∷ fs) kind e = let same : x ≡ kind = cc in ap (λ (t : List ℕ). record_by t fs) same

pub no_kind : (fs : List (List ℕ)) → None ≡ field_at fs 0 → record_kind.Bad ≡ record_of fs
unfolding field_at
no_kind [] e = refl
no_kind (x ∷ fs) e = cc
