-- All operations are wanted.
use Rattle.std.proofs.Common.{◌≡◌, List, [], ◌∷◌, refl, ap}
use Rattle.kin_ids.specs.declared.ops.Numbered.{Numbered}
use Rattle.kin_ops.specs.declared.wanted.Wanted.TheVariants as wanted
use Rattle.kin_ops.specs.Wanted.{wanted_of}

pub wanted-all : (xs : List Numbered) → wanted_of wanted.All xs ≡ xs
wanted-all [] = refl
wanted-all (x ∷ xs) = ap (λ ys. x ∷ ys) (wanted-all xs)
