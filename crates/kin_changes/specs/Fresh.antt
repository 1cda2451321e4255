-- Lists that gain what is told and wasn't known.
use Rattle.std.specs.Prelude.{◌≡◌, ◌&&◌, ◌||◌, not, Bool, List}
use Rattle.std.specs.List.{list_any}

-- the list has besides what it had the keys of which something is told and that aren't known
abbrev pub Gains : {K : Type 0} → (K → K → Bool) → List K → (K → Bool) → List K → List K → Type 0
Gains {K} same known told old new = (k : K) → list_any (same k) new ≡ (list_any (same k) old || (told k && not (list_any (same k) known)))
