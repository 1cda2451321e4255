-- Lines by words behind spaces, and texts of lines.
use Rattle.std.proofs.Common.{◌≡◌, ℕ, List, [], ◌∷◌, ◌++◌, map, sym, ◌∙◌, ap, append_assoc, codes}
use Rattle.std.proofs.lemmas.List.{append-nil}
use Rattle.std.proofs.lemmas.Grind.{flat_map-append}
use Rattle.std.specs.Fmt.{decimal}
use Rattle.kin_ids.specs.declared.stamps.End.{End}
use Rattle.kin_rules.specs.declared.numbers.KCount.{KCount}
use Rattle.kin_report.specs.Block.{end_word, epoch_line, pair_word}
use Rattle.kin_report.specs.Text.{Words, spaced, line_of, text_of}
use Rattle.kin_report.specs.Written.{spaced_on}

-- the first word, and the others each behind a space
pub spaced-on : (w : List ℕ) (ws : Words) → spaced (w ∷ ws) ≡ w ++ spaced_on ws
spaced-on w [] = sym (append-nil w)
spaced-on w (v ∷ vs) = ap (λ (t : List ℕ). (w ++ 32 ∷ []) ++ t) (spaced-on v vs) ∙ append_assoc w (32 ∷ []) (v ++ spaced_on vs)

pub spaced_on-append : (us vs : Words) → spaced_on (us ++ vs) ≡ spaced_on us ++ spaced_on vs
spaced_on-append us vs = flat_map-append (λ (w : List ℕ). codes " " ++ w) us vs

pub text_of-append : (us vs : List Words) → text_of (us ++ vs) ≡ text_of us ++ text_of vs
text_of-append us vs = flat_map-append line_of us vs

-- a line after a text: its name, its words and LF, one after another
pub written : (t w : List ℕ) (ws : Words) → ((t ++ w) ++ spaced_on ws) ++ 10 ∷ [] ≡ t ++ line_of (w ∷ ws)
written t w ws =
    ap (λ (x : List ℕ). x ++ 10 ∷ []) (append_assoc t w (spaced_on ws))
    ∙ (append_assoc t (w ++ spaced_on ws) (10 ∷ []) ∙ ap (λ (x : List ℕ). t ++ (x ++ 10 ∷ [])) (sym (spaced-on w ws)))

-- words behind others
spaced-twice : (t : List ℕ) (us vs : Words) → (t ++ spaced_on us) ++ spaced_on vs ≡ t ++ spaced_on (us ++ vs)
spaced-twice t us vs = append_assoc t (spaced_on us) (spaced_on vs) ∙ ap (λ (x : List ℕ). t ++ x) (sym (spaced_on-append us vs))

-- a line whose words come in three parts
pub written-thrice : (t w : List ℕ) (us vs ws : Words) → ((((t ++ w) ++ spaced_on us) ++ spaced_on vs) ++ spaced_on ws) ++ 10 ∷ [] ≡ t ++ line_of (w ∷ ((us ++ vs) ++ ws))
written-thrice t w us vs ws =
    ap (λ (x : List ℕ). (x ++ spaced_on ws) ++ 10 ∷ []) (spaced-twice (t ++ w) us vs)
    ∙ (ap (λ (x : List ℕ). x ++ 10 ∷ []) (spaced-twice (t ++ w) (us ++ vs) ws) ∙ written t w ((us ++ vs) ++ ws))

-- the line of a tag with its exposures
pub expo_written : (t tag : List ℕ) (pairs : List KCount) →
    (((t ++ codes "expo") ++ spaced_on (tag ∷ [])) ++ spaced_on (map pair_word pairs)) ++ 10 ∷ [] ≡ t ++ line_of (codes "expo" ∷ tag ∷ map pair_word pairs)
expo_written t tag pairs =
    ap (λ (x : List ℕ). x ++ 10 ∷ []) (spaced-twice (t ++ codes "expo") (tag ∷ []) (map pair_word pairs)) ∙ written t (codes "expo") (tag ∷ map pair_word pairs)

-- the epoch's line
pub epoch_written : (t : List ℕ) (k : ℕ) (ends : List End) (records bad : ℕ) →
    ((((t ++ codes "epoch") ++ spaced_on (decimal k ∷ [])) ++ spaced_on (map end_word ends)) ++ spaced_on (codes "records" ∷ decimal records ∷ codes "bad" ∷ decimal bad ∷ [])) ++ 10 ∷ []
    ≡ t ++ line_of (epoch_line k ends records bad)
epoch_written t k ends records bad = written-thrice t (codes "epoch") (decimal k ∷ []) (map end_word ends) (codes "records" ∷ decimal records ∷ codes "bad" ∷ decimal bad ∷ [])

-- lines behind others
pub lines-twice : (t : List ℕ) (a b : List Words) → (t ++ text_of a) ++ text_of b ≡ t ++ text_of (a ++ b)
lines-twice t a b = append_assoc t (text_of a) (text_of b) ∙ ap (λ (x : List ℕ). t ++ x) (sym (text_of-append a b))

-- the lines of eight rules
pub rules_written : (t : List ℕ) (a b c d e f g h : List Words) →
    (((((((t ++ text_of a) ++ text_of b) ++ text_of c) ++ text_of d) ++ text_of e) ++ text_of f) ++ text_of g) ++ text_of h ≡ t ++ text_of (((((((a ++ b) ++ c) ++ d) ++ e) ++ f) ++ g) ++ h)
rules_written t a b c d e f g h =
    ap (λ (x : List ℕ). ((((((x ++ text_of c) ++ text_of d) ++ text_of e) ++ text_of f) ++ text_of g) ++ text_of h)) (lines-twice t a b)
    ∙ (ap (λ (x : List ℕ). (((((x ++ text_of d) ++ text_of e) ++ text_of f) ++ text_of g) ++ text_of h)) (lines-twice t (a ++ b) c)
    ∙ (ap (λ (x : List ℕ). ((((x ++ text_of e) ++ text_of f) ++ text_of g) ++ text_of h)) (lines-twice t ((a ++ b) ++ c) d)
    ∙ (ap (λ (x : List ℕ). (((x ++ text_of f) ++ text_of g) ++ text_of h)) (lines-twice t (((a ++ b) ++ c) ++ d) e)
    ∙ (ap (λ (x : List ℕ). ((x ++ text_of g) ++ text_of h)) (lines-twice t ((((a ++ b) ++ c) ++ d) ++ e) f)
    ∙ (ap (λ (x : List ℕ). (x ++ text_of h)) (lines-twice t (((((a ++ b) ++ c) ++ d) ++ e) ++ f) g)
    ∙ (lines-twice t ((((((a ++ b) ++ c) ++ d) ++ e) ++ f) ++ g) h))))))
