-- Blocks in pages: reading and writing one of them.
use Rattle.std.proofs.Common.{◌≡◌, ℕ, zero, suc, ◌+◌, ◌*◌, ◌/◌, ◌%◌, ◌<◌, List, [], ◌∷◌, ◌++◌, length, get_or, set, sym, ap, ◌∙◌, arith}
use Rattle.std.specs.Prelude.{replicate}
use Rattle.std.proofs.lemmas.List.{length-set, length-replicate, get_or-set_same}
use Rattle.kin_share.specs.Chunks.{joined, AreFull}
use Rattle.kin_share.proofs.Joined.{joined-length, get-chunk, set-chunk, full-at, full-set}
use Rattle.kin_store.specs.Blocks.{BlockState, empty_block, slot_of, IsPaged}

module _ (ps : List (List BlockState)) (n k : ℕ) (paged : IsPaged ps n) (within : k < length (joined ps [])) where
  long : length (joined ps []) ≡ 64 * length ps
  long = omega (arith, joined-length ps [] paged.full)

  pub page-there : k / 64 < length ps
  page-there = omega (arith, long, within)

  whole : length (get_or ps (k / 64) []) ≡ 64
  whole = full-at ps (k / 64) paged.full page-there

  pub slot-there : k % 64 < length (get_or ps (k / 64) [])
  slot-there = omega (arith, whole)

  split : k ≡ 64 * (k / 64) + k % 64
  split = omega arith

  small : k % 64 < 64
  small = omega arith

  pub slot-read : slot_of (get_or ps (k / 64) []) (k % 64) ≡ slot_of (joined ps []) k
  slot-read = sym (get-chunk ps [] k (k / 64) (k % 64) empty_block paged.full page-there small split)

  module _ (new : List BlockState) (others : new ≡ set (get_or ps (k / 64) []) (k % 64) (slot_of new (k % 64))) where
    pub page-set : joined (set ps (k / 64) new) [] ≡ set (joined ps []) k (slot_of new (k % 64))
    page-set = ap (λ (l : List BlockState). joined (set ps (k / 64) l) []) others
        ∙ sym (set-chunk ps [] k (k / 64) (k % 64) (slot_of new (k % 64)) paged.full page-there small split)

    pub slot-new : slot_of (joined (set ps (k / 64) new) []) k ≡ slot_of new (k % 64)
    slot-new = ap (λ (l : List BlockState). slot_of l k) page-set
        ∙ get_or-set_same (joined ps []) k (slot_of new (k % 64)) empty_block within

    pub page-others : joined (set ps (k / 64) new) [] ≡ set (joined ps []) k (slot_of (joined (set ps (k / 64) new) []) k)
    page-others = page-set ∙ ap (λ (b : BlockState). set (joined ps []) k b) (sym slot-new)

    pub paged-set : IsPaged (set ps (k / 64) new) n
    paged-set = record {
      full = full-set ps (k / 64) new paged.full (ap length others ∙ (length-set (get_or ps (k / 64) []) (k % 64) (slot_of new (k % 64))
          ∙ whole));
      count = omega (arith, paged.count, length-set ps (k / 64) new);
    }

pub paged-length : (ps : List (List BlockState)) (n : ℕ) → IsPaged ps n → n ≡ length (joined ps [])
paged-length ps n paged = omega (arith, joined-length ps [] paged.full, paged.count)

-- pages of empty blocks
replicate-more : {X : Type 0} (m n : ℕ) (x : X) → replicate m x ++ replicate n x ≡ replicate (m + n) x
replicate-more zero n x = let e : n ≡ zero + n = omega arith in ap (λ (l : ℕ). replicate l x) e
replicate-more (suc m) n x = let e : suc (m + n) ≡ suc m + n = omega arith in
    ap (λ (l : List _). x ∷ l) (replicate-more m n x) ∙ ap (λ (l : ℕ). replicate l x) e

pub empty-pages : {X : Type 0} (n : ℕ) (x : X) → joined (replicate n (replicate 64 x)) [] ≡ replicate (64 * n) x
empty-pages zero x = let e : 0 ≡ 64 * zero = omega arith in ap (λ (l : ℕ). replicate l x) e
empty-pages (suc n) x =
    let e : 64 + 64 * n ≡ 64 * suc n = omega arith in
    ap (λ (l : List _). replicate 64 x ++ l) (empty-pages n x) ∙ (replicate-more 64 (64 * n) x ∙ ap (λ (l : ℕ). replicate l x) e)

pub empty-full : {X : Type 0} (n : ℕ) (x : X) → AreFull (replicate n (replicate 64 x))
empty-full zero x = tt
empty-full (suc n) x = (length-replicate 64 x, empty-full n x)
