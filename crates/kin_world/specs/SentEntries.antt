-- The entries of a log of stamps.
use Rattle.std.specs.Prelude.{ℕ, ◌≡◌, ◌==◌, ◌&&◌, Bool, List, [], ◌∷◌, map}
use Rattle.kin_world.specs.declared.sent_logs.Sent.{Sent}
use Rattle.kin_world.specs.declared.sent_logs.SentKey.{SentKey}

abbrev pub values_of : List (SentKey × Sent) → List Sent
values_of entries = map (λ (e : SentKey × Sent). e.1) entries

-- what names a stamp
abbrev pub key_of : Sent → SentKey
key_of s = record { ingest = s.stamp.ingest; inc = s.stamp.inc; to = s.stamp.to }

-- each stamp stands under its own key
abbrev pub IsKeyed : List (SentKey × Sent) → Type 0
IsKeyed [] = Unit {0}
IsKeyed (e ∷ es) = (e.0 ≡ key_of e.1) × IsKeyed es
