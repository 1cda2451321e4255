-- Stores in which nothing is.
use Rattle.std.proofs.Common.{◌≡◌, ℕ, ◌*◌, ◌<◌, ◌/◌, ◌%◌, List, [], length, refl, ap, ◌∙◌, arith}
use Rattle.std.specs.Prelude.{replicate}
use Rattle.std.proofs.lemmas.List.{get_or-replicate, length-replicate}
use Rattle.kin_ids.specs.declared.ids.User.{User}
use Rattle.kin_ids.specs.Parting.{tag_part}
use Rattle.kin_store.specs.Rows.{no_row}
use Rattle.kin_store.specs.Blocks.{BlockState, empty_block, empty_blocks, page, pages, row_in, users_in}
use Rattle.kin_store.specs.State.{IsPartStore, block_at, empty_part, row_of, users_of}

pub blocks-are : empty_blocks ≡ replicate (page * pages) empty_block
unfolding empty_blocks
blocks-are = refl

pub mod_less : (m n : ℕ) → 0 < n → m % n < n
mod_less m n h = omega arith

module _ (part parts n : ℕ) (bs : List BlockState) (e : bs ≡ replicate n empty_block) (some : 0 < n) where
  long : length bs ≡ n
  long = ap length e ∙ length-replicate n empty_block

  at : (m : ℕ) → m % length bs < n
  at m = omega (arith, long, mod_less m (length bs) (omega (arith, long, some)))

  each : (m : ℕ) → block_at (record { part = part; parts = parts; blocks = bs }) (m % length bs) ≡ empty_block
  each m = ap (λ (l : List BlockState). block_at (record { part = part; parts = parts; blocks = l }) (m % length bs)) e
      ∙ get_or-replicate n (m % length bs) empty_block empty_block (at m)

  pub no-row : (u : User) → row_of (record { part = part; parts = parts; blocks = bs }) u ≡ no_row
  no-row u = ap (λ (x : BlockState). row_in x u) (each (u.0 / parts))

  pub no-users : (t : List ℕ) → users_of (record { part = part; parts = parts; blocks = bs }) t ≡ []
  no-users t = ap (λ (x : BlockState). users_in x t) (each (tag_part 65521 t))

  pub new-blocks : part < parts → IsPartStore (record { part = part; parts = parts; blocks = bs })
  new-blocks within = record {
    some = omega (arith, long, some);
    within = within;
    home = record { users = λ q far. no-row q; tags = λ q far. no-users q };
  }

some_pages : 0 < page * pages
some_pages = omega arith

pub empty-row : (p n : ℕ) (u : User) → row_of (empty_part p n) u ≡ no_row
empty-row p n = no-row p n (page * pages) empty_blocks blocks-are some_pages

pub empty-users : (p n : ℕ) (t : List ℕ) → users_of (empty_part p n) t ≡ []
empty-users p n = no-users p n (page * pages) empty_blocks blocks-are some_pages

pub empty-store : (p n : ℕ) (bs : List BlockState) → bs ≡ empty_blocks → p < n → IsPartStore (record { part = p; parts = n; blocks = bs })
empty-store p n bs e = new-blocks p n (page * pages) bs (e ∙ blocks-are) some_pages
